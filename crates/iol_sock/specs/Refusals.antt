-- The refusals of calls on a connection, in terms of the copying machine.
use Rattle.std.specs.Prelude.{◌≡◌, ℕ, ◌==◌, ◌&&◌, ◌||◌, nat_lt, List, [], ◌∷◌, Option, None, is_some, MatchOption}
use Rattle.iol_core.specs.Meaning.{◌when◌, first, WantOfRoom}
use Rattle.iol_core.specs.Prelude.{Never}
use Rattle.iol_core.specs.State.{is_gone}
use Rattle.iol_core.specs.declared.refusals.Refusal.{Refusal}
use Rattle.iol_core.specs.declared.refusals.Refusal.TheVariants.{BadRange, BrokenPipe, WouldBlock}
use Rattle.iol_hold.specs.Places.{byte_len}
use Rattle.iol_hold.specs.declared.slices.Slice.{Slice}
use Rattle.iol_pipe.specs.Queue.{fitting}
use Rattle.iol_sock.specs.Connections.{Conn}

-- no refusal of the list holds
abbrev pub IsPassed : List (Option Refusal) → Type 0
IsPassed refusals = first refusals ≡ None

-- x is the first refusal of the list that holds; if none holds, it is a late one
abbrev pub IsRefused : List (Option Refusal) → (Late : Refusal → Type 0) → Refusal → Type 0
IsRefused refusals Late x = MatchOption (first refusals) (Late x) (λ y. x ≡ y)

-- n bytes arrive
abbrev pub arrive_refusals : Conn (List Slice) → (n : ℕ) → List (Option Refusal)
arrive_refusals c n =
    (BrokenPipe when (is_some c.peer || c.closed)) ∷
    (WouldBlock when (nat_lt 0 n && (fitting c.incoming n == 0))) ∷ []

-- bytes need room in the connection's pool; an empty list needs none
abbrev pub arrive_late : Conn (List Slice) → (bytes : List ℕ) → Refusal → Type 0
arrive_late c [] = Never
arrive_late c (b ∷ bytes) = WantOfRoom c.pool

-- n bytes are to be sent
abbrev pub queue_refusals : Conn (List Slice) → (n : ℕ) → List (Option Refusal)
queue_refusals c n =
    (BrokenPipe when is_gone c.peer) ∷
    (WouldBlock when (nat_lt 0 n && (fitting c.outgoing n == 0))) ∷ []

-- at most max bytes are sent
abbrev pub segment_refusals : Conn (List Slice) → (max : ℕ) → List (Option Refusal)
segment_refusals c max =
    (BadRange when (max == 0)) ∷
    (WouldBlock when (byte_len c.outgoing == 0)) ∷ []

-- at most max bytes of one read arrive: the refusals of one byte that arrives
abbrev pub read_refusals : Conn (List Slice) → (max : ℕ) → List (Option Refusal)
read_refusals c max = (BadRange when (max == 0)) ∷ arrive_refusals c 1
