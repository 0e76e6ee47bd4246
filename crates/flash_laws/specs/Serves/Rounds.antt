-- The policy: the order of turns of clients, and the time at which the server yields.
--
-- A round goes over the clients by index, then accepts waiting connections, and ends with a yield. A client continues
-- until its call is to be retried later, its response is taken whole and more input is buffered, it only reads more
-- input, or it has to wait for a worker. A client that waits for a worker is passed over while no worker is free; a
-- worker that becomes free is assigned to the next waiting client by index.
use Rattle.std.specs.Prelude.{◌≡◌, ℕ, ◌+◌, ◌||◌, Bool, true, false, if◌then◌else◌, List, drop, position, Option, Some}
use Rattle.std.specs.Prelude.{None, option_map}
use Rattle.iol_core.specs.NumberedLists.{in_place}
use Rattle.iol_core.specs.declared.events.Reply.{Reply}
use Rattle.flash_laws.specs.Client.{Client, is_bare, awaits, has_answered}
use Rattle.flash_laws.specs.Site.Places.{has_free, may_go}
use Rattle.flash_laws.specs.Conn.Policy.{is_later, pending_call_to, pending_call_past}
use Rattle.flash_laws.specs.Serves.{Policy}
use Rattle.flash_laws.specs.declared.phase.PendingCall.{PendingCall}
use Rattle.flash_laws.specs.declared.phase.PendingCall.TheVariants.{Nothing, Accepting, At}

-- whether its turn passes to the next: its call is to be retried later, it waits for a worker, its response is taken
-- whole and more input is buffered, or it only reads more input
abbrev pub leaves_off : Option Client → Reply → Bool
leaves_off None r = true
leaves_off (Some x) r = is_later r || (awaits x || (has_answered x || is_bare x))

-- the index from which the next client is searched
abbrev pub place_after : (fd : ℕ) → Option Client → Reply → ℕ
place_after fd x r = if leaves_off x r then fd + 1 else fd

-- whether there is a client that may take a turn
abbrev pub goes_in : (free : Bool) → Option Client → Bool
goes_in free None = false
goes_in free (Some x) = may_go free x

-- the first index from here on with such a client; free is whether a worker is free
abbrev pub next_in : (free : Bool) → List (Option Client) → (from : ℕ) → Option ℕ
next_in free clients from = option_map (λ k. from + k) (position (λ o. goes_in free o) (drop from clients))

abbrev pub next_place : (workers : ℕ) → List (Option Client) → (from : ℕ) → Option ℕ
next_place workers clients from = next_in (has_free workers clients) clients from

abbrev pub pending_call_from : (workers : ℕ) → List (Option Client) → (from : ℕ) → PendingCall
pending_call_from workers clients from = pending_call_to clients (next_place workers clients from)

-- the choice after a reply, once it is processed
abbrev pub next_pending_call : (workers : ℕ) → List (Option Client) → (was : PendingCall) → (last : Reply) → PendingCall
next_pending_call workers clients Nothing r = pending_call_from workers clients 0
next_pending_call workers clients Accepting r = pending_call_past clients r
next_pending_call workers clients (At fd) r = pending_call_from workers clients (place_after fd (in_place clients fd) r)

-- in rounds
abbrev pub in_rounds : Policy
in_rounds workers clients was last next = next ≡ next_pending_call workers clients was last
