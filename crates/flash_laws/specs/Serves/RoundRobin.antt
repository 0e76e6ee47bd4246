-- Turns in rounds: the next client, by index.
use Rattle.std.specs.Prelude.{◌≡◌, ◌≤◌, ◌<◌, ◌⊎◌, ℕ, nat_lt, List, Option, Some, IsFalse, ◌≢◌, ⊤}
use Rattle.iol_core.specs.NumberedLists.{in_place, taken}
use Rattle.iol_core.specs.declared.events.Reply.{Reply}
use Rattle.iol_core.specs.declared.events.Reply.TheVariants as reply
use Rattle.flash_laws.specs.Client.{Client, is_bare, awaits, has_answered}
use Rattle.flash_laws.specs.Site.Places.{has_free, may_go}
use Rattle.flash_laws.specs.Conn.Policy.{is_later, most_conns}
use Rattle.flash_laws.specs.Serves.Rounds.{in_rounds}
use Rattle.flash_laws.specs.declared.phase.PendingCall.{PendingCall}
use Rattle.flash_laws.specs.declared.phase.PendingCall.TheVariants.{Nothing, Accepting, At}

-- an index after that of the last turn: after a yield, every index
abbrev pub IsAfter : (was : PendingCall) → (fd : ℕ) → Type 0
IsAfter Nothing fd = ⊤
IsAfter Accepting fd = ⊥
IsAfter (At gd) fd = gd < fd

-- an index before that of the next turn: if a connection is accepted, or the server yields, every index
abbrev pub IsBefore : (next : PendingCall) → (fd : ℕ) → Type 0
IsBefore (At gd) fd = fd < gd
IsBefore w fd = ⊤

pub record TurnsAreRoundRobin : Type 0 where
  -- a client takes the next turn, too, only if its call succeeded, it does not wait for a worker, it does more than
  -- read, and it has no response that is taken whole while more input is buffered
  pub passes : (workers : ℕ) (clients : List (Option Client)) (fd : ℕ) (last : Reply)
      → in_rounds workers clients (At fd) last (At fd)
      → (x : Client) × (in_place clients fd ≡ Some x) × IsFalse (is_later last) × IsFalse (awaits x)
      × IsFalse (is_bare x) × IsFalse (has_answered x)
  -- otherwise the next one has a higher index
  pub rises : (workers : ℕ) (clients : List (Option Client)) (fd gd : ℕ) (last : Reply)
      → in_rounds workers clients (At fd) last (At gd) → fd ≤ gd
  -- and no client between them that may take a turn is skipped
  pub skips_no_client : (workers : ℕ) (clients : List (Option Client)) (was next : PendingCall) (last : Reply) (fd : ℕ)
      (x : Client)
      → in_rounds workers clients was last next → IsAfter was fd → IsBefore next fd → in_place clients fd ≡ Some x
      → IsFalse (may_go (has_free workers clients) x)
  -- after an accept the server yields, or accepts again if this one returned a connection
  pub ends : (workers : ℕ) (clients : List (Option Client)) (last : Reply) (next : PendingCall)
      → in_rounds workers clients Accepting last next
      → (next ≡ Nothing) ⊎ ((next ≡ Accepting) × ((fd : ℕ) × (last ≡ reply.Fd fd)))
  -- it yields, and so ends the round, only if it has the maximum number of connections, or after an accept that
  -- returned none
  pub yields : (workers : ℕ) (clients : List (Option Client)) (was : PendingCall) (last : Reply)
      → in_rounds workers clients was last Nothing
      → IsFalse (nat_lt (taken clients) most_conns) ⊎ ((was ≡ Accepting) × ((fd : ℕ) → last ≢ reply.Fd fd))
