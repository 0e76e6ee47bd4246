-- Turns in rounds over the indices of the clients.
use Rattle.std.proofs.Common.{inl, inr, ◌≡◌, ℕ, ◌+◌, ◌<◌, ◌≤◌, ◌⊎◌, List, drop, ap, ◌∙◌, refl, sym, subst, arith}
use Rattle.std.proofs.Common.{Option, Some, None, true, false, Bool, if◌then◌else◌}
use Rattle.std.specs.Prelude.{nat_lt, position, option_map, ◌||◌}
use Rattle.iol_core.specs.NumberedLists.{in_place, taken}
use Rattle.iol_core.specs.declared.events.Reply.{Reply}
use Rattle.iol_core.specs.declared.events.Reply.TheVariants as reply
use Rattle.flash_laws.specs.Client.{Client, is_bare, awaits, has_answered}
use Rattle.flash_laws.specs.Serves.RoundRobin.{IsAfter, IsBefore, TurnsAreRoundRobin}
use Rattle.flash_laws.specs.Site.Places.{has_free, may_go}
use Rattle.flash_laws.specs.Conn.Policy.{most_conns, is_later, accept_step, pending_call_to}
use Rattle.flash_laws.specs.Serves.Rounds.{leaves_off, place_after, goes_in, next_place, pending_call_from, in_rounds}
use Rattle.flash_laws.specs.declared.phase.PendingCall.{PendingCall}
use Rattle.flash_laws.specs.declared.phase.PendingCall.TheVariants.{Nothing, Accepting, At}
use Rattle.flash_laws.proofs.Conn.Responses.{some-inj}
use Rattle.flash_laws.proofs.Site.IdleMoments.{found}
use Rattle.flash_laws.proofs.Lists.{neither}

abbrev place_of : PendingCall → ℕ
place_of (At fd) = fd
place_of w = 0

-- the server picks no client at its accept step
not-at-accept_step : {A : Type 0} (clients : List (Option A)) (fd : ℕ) → At fd ≡ accept_step clients → ⊥
not-at-accept_step clients fd is = by (nat_lt (taken clients) most_conns) is
  where
    by : (b : Bool) → At fd ≡ (if b then Accepting else Nothing) → ⊥
    by true is = cc (is)
    by false is = cc (is)

-- the client that is picked is the next one found
pub picked-is : (clients : List (Option Client)) (o : Option ℕ) (fd : ℕ) → At fd ≡ pending_call_to clients o
    → o ≡ Some fd
picked-is clients (Some gd) fd is = ap (λ (w : PendingCall). Some (place_of w)) (sym is)
picked-is clients None fd is = absurd (not-at-accept_step clients fd is)

-- its place is not before the one where the search began
pub from-there : (free : Bool) (clients : List (Option Client)) (from fd : ℕ)
    → option_map (λ k. from + k) (position (λ o. goes_in free o) (drop from clients)) ≡ Some fd → from ≤ fd
from-there free clients from fd is = by (position (λ o. goes_in free o) (drop from clients)) is
  where
    by : (o : Option ℕ) → option_map (λ k. from + k) o ≡ Some fd → from ≤ fd
    by None is = absurd (cc (is))
    by (Some k) is = let e = some-inj (from + k) fd is in omega (arith, e)

looked-from : (workers : ℕ) (clients : List (Option Client)) (from fd : ℕ)
    → At fd ≡ pending_call_from workers clients from → from ≤ fd
looked-from workers clients from fd is =
    from-there (has_free workers clients) clients from fd (picked-is clients (next_place workers clients from) fd is)

pub no-earlier : (fd : ℕ) (x : Option Client) (last : Reply) → fd ≤ place_after fd x last
no-earlier fd x last = by (leaves_off x last)
  where
    by : (b : Bool) → fd ≤ (if b then fd + 1 else fd)
    by true = omega arith
    by false = omega arith

pub no-later : (fd gd : ℕ) (x : Option Client) (last : Reply) → gd < fd → place_after gd x last ≤ fd
no-later fd gd x last lt = by (leaves_off x last)
  where
    by : (b : Bool) → (if b then gd + 1 else gd) ≤ fd
    by true = omega (arith, lt)
    by false = omega (arith, lt)

-- if the search begins at its own place, its turn did not end
stays-on : (fd : ℕ) (b : Bool) → (if b then fd + 1 else fd) ≤ fd → b ≡ false
stays-on fd true le = absurd (omega (arith, le))
stays-on fd false le = refl

passes : (workers : ℕ) (clients : List (Option Client)) (fd : ℕ) (last : Reply)
    → in_rounds workers clients (At fd) last (At fd)
    → (x : Client) × (in_place clients fd ≡ Some x) × (is_later last ≡ false) × (awaits x ≡ false) × (is_bare x ≡ false)
    × (has_answered x ≡ false)
passes workers clients fd last is =
    by (in_place clients fd) refl
    (stays-on fd (leaves_off (in_place clients fd) last)
    (looked-from workers clients (place_after fd (in_place clients fd) last) fd is))
  where
    by : (o : Option Client) → in_place clients fd ≡ o → leaves_off o last ≡ false
        → (x : Client) × (in_place clients fd ≡ Some x) × (is_later last ≡ false) × (awaits x ≡ false)
        × (is_bare x ≡ false) × (has_answered x ≡ false)
    by None at on = absurd (cc (on))
    by (Some x) at on =
        let both = neither (is_later last) (awaits x || (has_answered x || is_bare x)) on in
        let rest = neither (awaits x) (has_answered x || is_bare x) both.1 in
        let ends = neither (has_answered x) (is_bare x) rest.1 in
        (x, at, both.0, rest.0, ends.1, ends.0)

rises : (workers : ℕ) (clients : List (Option Client)) (fd gd : ℕ) (last : Reply)
    → in_rounds workers clients (At fd) last (At gd) → fd ≤ gd
rises workers clients fd gd last is =
    let from = looked-from workers clients (place_after fd (in_place clients fd) last) gd is in
    let here = no-earlier fd (in_place clients fd) last in
    omega (arith, from, here)

-- no client that may take a turn is skipped between `from` and the place that is found
none-passed : (workers : ℕ) (clients : List (Option Client)) (from : ℕ) (next : PendingCall) (fd : ℕ) (x : Client)
    → next ≡ pending_call_from workers clients from
    → from ≤ fd → IsBefore next fd → in_place clients fd ≡ Some x → may_go (has_free workers clients) x ≡ false
none-passed workers clients from next fd x is le before there =
    ap (λ (o : Option Client). goes_in (has_free workers clients) o) (sym there)
    ∙ by (next_place workers clients from) refl (subst (λ (w : PendingCall). IsBefore w fd) is before)
  where
    by : (o : Option ℕ) → next_place workers clients from ≡ o → IsBefore (pending_call_to clients o) fd
        → goes_in (has_free workers clients) (in_place clients fd) ≡ false
    by (Some gd) at before = (found workers clients from).before gd at fd le before
    by None at before = (found workers clients from).none at fd le

skips_no_client : (workers : ℕ) (clients : List (Option Client)) (was next : PendingCall) (last : Reply) (fd : ℕ)
    (x : Client) → in_rounds workers clients was last next
    → IsAfter was fd → IsBefore next fd → in_place clients fd ≡ Some x → may_go (has_free workers clients) x ≡ false
skips_no_client workers clients Nothing next last fd x is after before there =
    none-passed workers clients 0 next fd x is (omega arith) before there
skips_no_client workers clients Accepting next last fd x is after before there = absurd after
skips_no_client workers clients (At gd) next last fd x is after before there =
    none-passed workers clients (place_after gd (in_place clients gd) last) next fd x is
    (no-later fd gd (in_place clients gd) last after) before there

ends : (workers : ℕ) (clients : List (Option Client)) (last : Reply) (next : PendingCall)
    → in_rounds workers clients Accepting last next
    → (next ≡ Nothing) ⊎ ((next ≡ Accepting) × ((fd : ℕ) × (last ≡ reply.Fd fd)))
ends workers clients (reply.Fd fd) next is = by (nat_lt (taken clients) most_conns) is
  where
    by : (b : Bool) → next ≡ (if b then Accepting else Nothing)
        → (next ≡ Nothing) ⊎ ((next ≡ Accepting) × ((gd : ℕ) × (reply.Fd fd ≡ reply.Fd gd)))
    by true is = inr (is, (fd, refl))
    by false is = inl is
ends workers clients r next is = inl is

-- the server makes no call at its accept step only if it has the maximum number of connections
accept_step-full : {A : Type 0} (clients : List (Option A)) → Nothing ≡ accept_step clients
    → nat_lt (taken clients) most_conns ≡ false
accept_step-full clients is = by (nat_lt (taken clients) most_conns) is
  where
    by : (b : Bool) → Nothing ≡ (if b then Accepting else Nothing) → b ≡ false
    by true is = absurd (cc (is))
    by false is = refl

none-picked : (clients : List (Option Client)) (o : Option ℕ) → Nothing ≡ pending_call_to clients o
    → nat_lt (taken clients) most_conns ≡ false
none-picked clients (Some fd) is = absurd (cc (is))
none-picked clients None is = accept_step-full clients is

yields : (workers : ℕ) (clients : List (Option Client)) (was : PendingCall) (last : Reply)
    → in_rounds workers clients was last Nothing
    → (nat_lt (taken clients) most_conns ≡ false) ⊎ ((was ≡ Accepting) × ((fd : ℕ) → last ≡ reply.Fd fd → ⊥))
yields workers clients Nothing last is = inl (none-picked clients (next_place workers clients 0) is)
yields workers clients Accepting (reply.Fd fd) is = inl (accept_step-full clients is)
yields workers clients Accepting r is = inr (refl, λ gd e. cc (e))
yields workers clients (At fd) last is =
    inl (none-picked clients (next_place workers clients (place_after fd (in_place clients fd) last)) is)

pub turns_are_round_robin : TurnsAreRoundRobin
turns_are_round_robin = record {
  passes = passes;
  rises = rises;
  skips_no_client = skips_no_client;
  ends = ends;
  yields = yields;
}
