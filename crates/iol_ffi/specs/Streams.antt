-- Connections that C serves by descriptors.
use Rattle.std.specs.Prelude.{◌≡◌, ℕ, ℤ, Bool, true, false, Option, None, Some, Result, Ok, Err}
use Rattle.iol_core.specs.declared.refusals.Refusal.{Refusal}
use Rattle.iol_pipe.specs.declared.arrive.Arrived.{Arrived}
use Rattle.iol_sock.specs.declared.drain_to.Drained.{Drained}
use Rattle.iol_system.specs.Machine.{SystemState}
use Rattle.iol_system.specs.Streams.{ServesReader, ServesWriter}
use Rattle.iol_ffi.specs.Replies.{IsDone, IsRefusal}
use Rattle.iol_ffi.specs.declared.Machine.{Machine}
use Rattle.iol_ffi.specs.declared.replies.IolReply.{IolReply}
use Rattle.iol_ffi.specs.declared.streams.Descriptor.{Descriptor}

-- the number for the end of a read: 2 if it failed, 1 at the reader's end, else 0
abbrev pub ending_number : (end failed : Bool) → ℕ
ending_number end true = 2
ending_number true false = 1
ending_number false false = 0

-- 1 if a writer failed, else 0
abbrev pub failed_number : Bool → ℕ
failed_number true = 1
failed_number false = 0

-- C gets the number of bytes that arrived, and how the read ended
abbrev pub SaysArrived : Result Arrived Refusal → IolReply → Type 0
SaysArrived (Ok a) r = IsDone r a.taken (ending_number a.end a.failed)
SaysArrived (Err why) r = IsRefusal why r

-- C gets the number of bytes taken, and whether the writer failed
abbrev pub SaysDrained : Result Drained Refusal → IolReply → Type 0
SaysDrained (Ok d) r = IsDone r d.taken (failed_number d.failed)
SaysDrained (Err why) r = IsRefusal why r

-- a connection is served by descriptor `fd`, whose bytes are unknown, and C gets the outcome
pub record Arrives (conn : ℕ) (fd : ℤ) (max : ℕ) (r : IolReply) (old new : SystemState) : Type 0 where
  pub reader : Descriptor
  pub is : reader.fd ≡ fd
  pub after : Descriptor
  pub outcome : Result Arrived Refusal
  pub serves : ServesReader conn max old new reader after None None outcome
  pub says : SaysArrived outcome r

-- the same record, not unfolded by the prover, so that it is passed on whole
unfoldable pub ArrivesBetween : (conn : ℕ) → (fd : ℤ) → (max : ℕ) → IolReply → (old new : SystemState) → Type 0
ArrivesBetween conn fd max r old new = Arrives conn fd max r old new

-- the output of a connection is written to descriptor `fd`, whose bytes are unknown, and C gets the outcome
pub record Drains (conn : ℕ) (fd : ℤ) (max : ℕ) (r : IolReply) (old new : SystemState) : Type 0 where
  pub writer : Descriptor
  pub is : writer.fd ≡ fd
  pub after : Descriptor
  pub outcome : Result Drained Refusal
  pub serves : ServesWriter conn max old new writer after None None outcome
  pub says : SaysDrained outcome r

-- likewise for the machine in a handle
abbrev pub ArrivesFrom : (conn : ℕ) → (fd : ℤ) → (max : ℕ) → IolReply → (old new : Option Machine) → Type 0
ArrivesFrom c fd max r (Some old) (Some new) = ArrivesBetween c fd max r old.system new.system
ArrivesFrom c fd max r o n = ⊥

abbrev pub DrainsTo : (conn : ℕ) → (fd : ℤ) → (max : ℕ) → IolReply → (old new : Option Machine) → Type 0
DrainsTo c fd max r (Some old) (Some new) = Drains c fd max r old.system new.system
DrainsTo c fd max r o n = ⊥
