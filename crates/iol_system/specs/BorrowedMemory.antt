-- Reads into borrowed memory, and aggregates that are shown in it.
use Rattle.std.specs.Prelude.{◌≡◌, ◌≤◌, ◌-◌, ◌^◌, ℕ, min, List, length, drop, Result, Ok, Err, IfOk, OnErr}
use Rattle.std.specs.Prelude.{IsFalse, ◌≢◌}
use Rattle.iol_core.specs.declared.events.Call.TheVariants as call
use Rattle.iol_core.specs.declared.events.Event.{Event}
use Rattle.iol_core.specs.declared.events.Event.TheVariants as event
use Rattle.iol_core.specs.declared.events.Reply.TheVariants as reply
use Rattle.iol_core.specs.declared.refusals.Refusal.{Refusal}
use Rattle.iol_core.specs.declared.refusals.Refusal.TheVariants.{Memory}
use Rattle.iol_kernel.specs.FileReads.{first_of}
use Rattle.iol_kernel.specs.ReadsByCopy.{ShowsInto}
use Rattle.iol_system.specs.Machine.{SystemState, tables_of}
use Rattle.iol_system.specs.Promises.{Promises}
use Rattle.iol_system.specs.Replies.{reported}
use Rattle.iol_system.specs.StoreCalls.{asks_store}

-- the event of a read into a memory of this length: at most this many bytes, and fewer than 2^32
abbrev pub read_of_most : (by fd len : ℕ) → Event
read_of_most by fd len = event.Call by (call.Read fd (min len (2 ^ 32 - 1)))

-- A read into memory: the step of `Read`, whose reply has the bytes at the front of the memory, as many as are
-- returned. The rest of the memory is unchanged, and after a refusal all of it is. A read that is not of a file is
-- never refused for lack of memory.
pub record ReadsTo (by fd : ℕ) (memory filled : List ℕ) (old : SystemState) (r : Result ℕ Refusal) (new : SystemState) :
    Type 0 where
  pub step : Promises old (read_of_most by fd (length memory)) (reported reply.Bytes (first_of filled r)) new
  pub count : IfOk r (λ n. n ≤ min (length memory) (2 ^ 32 - 1))
  pub len : length filled ≡ length memory
  pub rest : IfOk r (λ n. drop n filled ≡ drop n memory)
  pub err : OnErr r (filled ≡ memory)
  pub not_memory : IsFalse (asks_store (tables_of old.kernel) (read_of_most by fd (length memory))) → r ≢ Err Memory

-- the bytes shown, or the refusal of a call that returns their number
abbrev pub shown : List ℕ → Result ℕ Refusal → Result (List ℕ) Refusal
shown bytes (Ok n) = Ok bytes
shown bytes (Err x) = Err x

-- An aggregate that is shown in memory: the step of `Show`. Its bytes are at the front of the memory if it has room for
-- all of them (`ShowsInto`). It is never refused for lack of memory.
pub record ShowsTo (by agg : ℕ) (memory filled : List ℕ) (s : SystemState) (r : Result ℕ Refusal) : Type 0 where
  pub shows : ShowsInto by agg memory filled s.kernel r
  pub step : Promises s (event.Call by (call.Show agg)) (reported reply.Bytes (shown shows.bytes r)) s
  pub not_memory : r ≢ Err Memory
