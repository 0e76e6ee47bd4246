-- The order of turns of connections, and the time at which the server yields, if no script runs.
--
-- A round goes over the connections by index, then accepts waiting ones, and ends with a yield. A connection continues
-- until its call is to be retried later, its response is taken whole and more input is buffered, or it only reads more
-- input.
use Rattle.std.specs.Prelude.{ℕ, ◌==◌, ◌||◌, Bool, true, false, not, if◌then◌else◌, nat_lt, List, length, Option, Some}
use Rattle.std.specs.Prelude.{None}
use Rattle.iol_core.specs.NumberedLists.{taken}
use Rattle.iol_core.specs.declared.refusals.Refusal.TheVariants.{WouldBlock, TooMany, PoolClosed, NoRoom, Memory}
use Rattle.iol_core.specs.declared.events.Reply.{Reply}
use Rattle.iol_core.specs.declared.events.Reply.TheVariants as reply
use Rattle.flash_laws.specs.Conn.{Conn}
use Rattle.flash_laws.specs.declared.phase.Phase.{Phase}
use Rattle.flash_laws.specs.declared.phase.Phase.TheVariants.{Receiving, DroppingSent}
use Rattle.flash_laws.specs.declared.phase.PendingCall.{PendingCall}
use Rattle.flash_laws.specs.declared.phase.PendingCall.TheVariants.{Nothing, Accepting, At}

-- the maximum number of connections of the server
abbrev pub most_conns : ℕ
most_conns = 256

-- whether the call is to be retried later: it would block, there are no more table entries, pages or memory, or its
-- pool is closed, so that a closed pool does not keep the server at one client
abbrev pub is_later : Reply → Bool
is_later (reply.Refused WouldBlock) = true
is_later (reply.Refused TooMany) = true
is_later (reply.Refused (PoolClosed p)) = true
is_later (reply.Refused (NoRoom p)) = true
is_later (reply.Refused Memory) = true
is_later r = false

-- whether it is idle and has no buffered input
abbrev pub is_bare : Conn → Bool
is_bare x = by x.phase
  where
    by : Phase → Bool
    by Receiving = length x.buffered == 0
    by d = false

-- whether its response is taken whole, and more input is buffered, in which the next request may begin
abbrev pub has_answered : Conn → Bool
has_answered x = by x.phase
  where
    by : Phase → Bool
    by (DroppingSent a taken None) = not (length x.buffered == 0)
    by d = false

-- whether its turn passes to the next: its call is to be retried later, its response is taken whole and more input is
-- buffered, or it only reads more input
abbrev pub leaves_off : Option Conn → Reply → Bool
leaves_off None r = true
leaves_off (Some x) r = is_later r || (has_answered x || is_bare x)

-- after the last index a connection is accepted, unless the server has the maximum number
abbrev pub accept_step : {A : Type 0} → List (Option A) → PendingCall
accept_step conns = if nat_lt (taken conns) most_conns then Accepting else Nothing

abbrev pub pending_call_to : {A : Type 0} → List (Option A) → Option ℕ → PendingCall
pending_call_to conns (Some fd) = At fd
pending_call_to conns None = accept_step conns

-- more are accepted while any are waiting
abbrev pub pending_call_past : {A : Type 0} → List (Option A) → Reply → PendingCall
pending_call_past conns (reply.Fd fd) = accept_step conns
pending_call_past conns r = Nothing
