-- The number of connections of the server is bounded.
use Rattle.std.proofs.Common.{◌≡◌, ℕ, zero, suc, ◌+◌, ◌-◌, ◌≤◌, List, [], ◌∷◌, ◌++◌, length, replicate, refl, sym}
use Rattle.std.proofs.Common.{subst, ap, arith, Option, Some, None, Bool, true, false, if◌then◌else◌}
use Rattle.std.specs.Prelude.{slice_set, nat_lt}
use Rattle.std.proofs.lemmas.Bool.Decides.{nat_tests}
use Rattle.iol_core.specs.NumberedLists.{in_place, taken}
use Rattle.iol_core.specs.declared.events.Reply.{Reply}
use Rattle.iol_core.specs.declared.events.Reply.TheVariants as reply
use Rattle.iol_proc.specs.declared.process.Turn.{Turn}
use Rattle.flash_laws.specs.Client.{Client, new_client, after_reply, left_over}
use Rattle.flash_laws.specs.Site.Places.{first_free, runs_scripts, after_reply_at, filed}
use Rattle.flash_laws.specs.Conn.Policy.{accept_step, pending_call_to, most_conns}
use Rattle.flash_laws.specs.Serves.Rounds.{next_pending_call, next_place, place_after}
use Rattle.flash_laws.specs.Serves.{Picks}
use Rattle.flash_laws.specs.Site.OtherConns.{with_at}
use Rattle.flash_laws.specs.declared.phase.PendingCall.{PendingCall}
use Rattle.flash_laws.specs.declared.phase.PendingCall.TheVariants.{Nothing, Accepting, At}
use Rattle.flash_lite.specs.Few.{most_in, IsFew}
use Rattle.flash_lite.proofs.Places.{at_within, taken_kept, within}

-- ---- places

grown_same : (clients : List (Option Client)) (k : ℕ) → taken (clients ++ replicate k None) ≡ taken clients
grown_same [] zero = refl
grown_same [] (suc k) = grown_same [] k
grown_same (None ∷ l) k = grown_same l k
grown_same (Some z ∷ l) k = ap suc (grown_same l k)

one_more : (l : List (Option Client)) (i : ℕ) (x : Client) → taken (slice_set l i (Some x)) ≤ taken l + 1
one_more [] i x = omega arith
one_more (None ∷ l) zero x = omega arith
one_more (Some z ∷ l) zero x = omega arith
one_more (None ∷ l) (suc i) x = one_more l i x
one_more (Some z ∷ l) (suc i) x = let h = one_more l i x in omega (arith, h)

none_more : (l : List (Option Client)) (i : ℕ) → taken (slice_set l i None) ≤ taken l
none_more [] i = omega arith
none_more (None ∷ l) zero = omega arith
none_more (Some z ∷ l) zero = omega arith
none_more (None ∷ l) (suc i) = none_more l i
none_more (Some z ∷ l) (suc i) = let h = none_more l i in omega (arith, h)

-- the client at an index is replaced or removed
no_more_set : (l : List (Option Client)) (fd : ℕ) (x : Client) (o : Option Client) → in_place l fd ≡ Some x
    → taken (slice_set l fd o) ≤ taken l
no_more_set l fd x None there = none_more l fd
no_more_set l fd x (Some y) there = let e = taken_kept l fd x y there in omega (arith, e)

no_more_at : (l : List (Option Client)) (fd : ℕ) (x : Client) (o : Option Client) → in_place l fd ≡ Some x
    → taken (with_at l fd o) ≤ taken l
no_more_at l fd x o there =
    subst (λ (m : List (Option Client)). taken m ≤ taken l) (sym (at_within l fd o (within l fd x there)))
    (no_more_set l fd x o there)

-- one more client, if one was being accepted
pub few_admitted : (clients : List (Option Client)) (fd : ℕ) (x : Client) → IsFew clients Accepting
    → taken (with_at clients fd (Some x)) ≤ 256
few_admitted clients fd x few =
    let grown : taken (clients ++ replicate (fd + 1 - length clients) None) ≡ taken clients =
    grown_same clients (fd + 1 - length clients) in
    let more : taken (with_at clients fd (Some x)) ≤ taken (clients ++ replicate (fd + 1 - length clients) None) + 1 =
    one_more (clients ++ replicate (fd + 1 - length clients) None) fd x in
    omega (arith, grown, more, few)

-- ---- the pick

few_accept_step : (clients : List (Option Client)) → taken clients ≤ 256 → IsFew clients (accept_step clients)
few_accept_step clients few = by (nat_lt (taken clients) most_conns) refl
  where
    by : (b : Bool) → nat_lt (taken clients) most_conns ≡ b → taken clients ≤ most_in (if b then Accepting else Nothing)
    by true lt = grind (arith, nat_tests, lt)
    by false lt = few

few_to : (clients : List (Option Client)) (found : Option ℕ) → taken clients ≤ 256
    → IsFew clients (pending_call_to clients found)
few_to clients None few = few_accept_step clients few
few_to clients (Some place) few = few

-- ---- a turn

few_next : (workers : ℕ) (l : List (Option Client)) (was : PendingCall) (r : Reply) → taken l ≤ 256
    → IsFew l (next_pending_call workers l was r)
few_next workers l Nothing r few = few_to l (next_place workers l 0) few
few_next workers l (At fd) r few = few_to l (next_place workers l (place_after fd (in_place l fd) r)) few
few_next workers l Accepting (reply.Fd fd) few = few_accept_step l few
few_next workers l Accepting r few = few

few_filed : (workers : ℕ) (clients : List (Option Client)) (was : PendingCall) (r : Reply) (received : List ℕ)
    → IsFew clients was → taken (filed workers clients was r received) ≤ 256
few_filed workers clients Nothing r received few = few
few_filed workers clients Accepting (reply.Fd fd) received few = few_admitted clients fd new_client few
few_filed workers clients Accepting r received few = omega (arith, few)
few_filed workers clients (At fd) r received few = by (in_place clients fd) refl
  where
    by : (o : Option Client) → in_place clients fd ≡ o → taken (after_reply_at workers clients fd o r received) ≤ 256
    by None is = few
    by (Some x) is = let less =
        no_more_at clients fd x
        (left_over (after_reply (runs_scripts workers) (first_free workers clients) x r received)) is in
        omega (arith, less, few)

few_picks : (workers : ℕ) (l : List (Option Client)) (pending_call : PendingCall) (made : Turn)
    (after : List (Option Client)) → IsFew l pending_call → Picks workers l pending_call made after
    → IsFew after pending_call
few_picks workers l Nothing made after few p = subst (λ (m : List (Option Client)). IsFew m Nothing) (sym p.0) few
few_picks workers l Accepting made after few p = subst (λ (m : List (Option Client)). IsFew m Accepting) (sym p.0) few
few_picks workers l (At fd) made after few p =
    let less = no_more_at l fd p.was (Some p.ready) p.there in
    subst (λ (m : List (Option Client)). taken m ≤ 256) (sym p.after_is)
    (let small : taken (with_at l fd (Some p.ready)) ≤ 256 = omega (arith, less, few) in small)

-- a turn preserves the bound
pub few_turn : (workers : ℕ) (clients : List (Option Client)) (was : PendingCall) (r : Reply) (received : List ℕ)
    (pending_call : PendingCall) (made : Turn) (after : List (Option Client)) → IsFew clients was
    → Picks workers (filed workers clients was r received) pending_call made after
    → pending_call ≡ next_pending_call workers (filed workers clients was r received) was r
    → IsFew after pending_call
few_turn workers clients was r received pending_call made after few picks policy =
    let l : List (Option Client) = filed workers clients was r received in
    few_picks workers l pending_call made after
    (subst (λ (f : PendingCall). IsFew l f) (sym policy)
    (few_next workers l was r (few_filed workers clients was r received few))) picks
