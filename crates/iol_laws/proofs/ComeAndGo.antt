-- Aggregates are added under the numbers in replies, and consumed ones are removed.
use Rattle.std.proofs.Common.{inl, inr, ◌≡◌, ◌≢◌, ◌≤◌, ℕ, ◌+◌, ◌==◌, List, [], ◌∷◌, ◌++◌, take, drop, ap, ◌∙◌, refl}
use Rattle.std.proofs.Common.{sym, subst, arith, Option, Some, None, true, false, Bool, append_assoc}
use Rattle.std.specs.Prelude.{option_map, is_none, fold, ◌&&◌, ◌||◌}
use Rattle.iol_core.specs.Text.{Text, bytes_of}
use Rattle.iol_core.specs.NumberedLists.{lookup, without}
use Rattle.iol_core.specs.State.{State, Domain, domain, is_live, aggregate, text, no_domain, with_domain}
use Rattle.iol_core.specs.Meaning.{first}
use Rattle.iol_core.specs.Run.{called, meaning, StepsTo}
use Rattle.iol_core.specs.Values.{gives_up}
use Rattle.iol_core.specs.Calls.Aggregates as aggs
use Rattle.iol_core.specs.Calls.Descriptors as fds
use Rattle.iol_core.specs.declared.refusals.Refusal.TheVariants as refuse
use Rattle.iol_core.specs.declared.events.Call.{Call}
use Rattle.iol_core.specs.declared.events.Call.TheVariants as call
use Rattle.iol_core.specs.declared.events.Event.{Event}
use Rattle.iol_core.specs.declared.events.Event.TheVariants as event
use Rattle.iol_core.specs.declared.events.Reply.{Reply}
use Rattle.iol_core.specs.declared.events.Reply.TheVariants as reply
use Rattle.iol_core.proofs.Lookups.{domain-same}
use Rattle.iol_core.proofs.TestedLists.{passed, when-none}
use Rattle.iol_laws.proofs.Gives.{agg_given}
use Rattle.iol_laws.specs.Order.{IsOrderly, Once}
use Rattle.iol_laws.specs.Caller.{readable_at}
use Rattle.iol_laws.specs.Aggregates.{brings, is_refusal}
use Rattle.iol_laws.proofs.AggsOfEach.{Brings, BringsIn, IsOfAggs, of_meant}
use Rattle.iol_laws.proofs.Connections.{forgotten, once-without}
use Rattle.iol_laws.proofs.Domains.{domain-with_other, domain-with_same, domains-all_closed, live-first, both-live}
use Rattle.iol_laws.proofs.Places.{lookup-push_other, lookup-without_none}
use Rattle.iol_laws.proofs.Tests.{apart, both-true, same-number, differs, either}

-- The aggregates that a domain lacks, after each event.

abbrev Lacks : State → (d a : ℕ) → Type 0
Lacks s d a = aggregate s d a ≡ None

-- domain d lacks aggregate a, as a property of domain e with these aggregates
abbrev LacksIn : (d a e : ℕ) → List (ℕ × Text) → (next : ℕ) → Type 0
LacksIn d a e kept n = e ≡ d → lookup kept a ≡ None

abbrev IsOther : (d a e n : ℕ) → Text → Type 0
IsOther d a e n t = ((e == d) && (n == a)) ≡ false

stays_lacking : (d a : ℕ) → IsOfAggs (LacksIn d a) (IsOther d a)
stays_lacking d a = record {
  none = λ e n same. refl;
  added = λ e n kept t un none same. lookup-push_other kept n a t (differs e d n a un same) ∙ none same;
  gone = λ e n kept b none same. lookup-without_none kept b a (none same);
}

neither : (x y z : Bool) → (x && (y || z)) ≡ false → ((x && y) ≡ false) × ((x && z) ≡ false)
neither true false false un = (refl, refl)
neither true true z un = absurd (cc)
neither true false true un = absurd (cc)
neither false y z un = (refl, refl)

other_call : (s : State) (by : ℕ) (k : Call) (d a : ℕ) → brings (event.Call by k) (called s by k).answer d a ≡ false
    → Brings (IsOther d a) s by k
other_call s by (call.AggMake bytes) d a un = un
other_call s by (call.AggDup x) d a un = un
other_call s by (call.AggCut x from to) d a un = un
other_call s by (call.AggSplit x at) d a un =
    neither (by == d) (aggs.next_agg s by == a) (aggs.next_agg s by + 1 == a) un
other_call s by (call.AggJoin x y) d a un = un
other_call s by (call.AggReplace x from to y) d a un = un
other_call s by (call.AggGive x to) d a un = un
other_call s by (call.IolRead f n) d a un = un
other_call s by k d a un = tt

other_event : (s : State) (e : Event) (d a : ℕ) → brings e (meaning s e).answer d a ≡ false → BringsIn (IsOther d a) s e
other_event s (event.Call by k) d a un = other_call s by k d a un
other_event s e d a un = tt

lacks_meant : (s : State) (e : Event) (d a : ℕ) → brings e (meaning s e).answer d a ≡ false → Lacks s d a
    → Lacks (meaning s e).after d a
lacks_meant s e d a un none =
    of_meant (LacksIn d a) (IsOther d a) (stays_lacking d a) s e (other_event s e d a un)
    (λ b same. subst (λ n. Lacks s n a) (sym same) none) d refl

readable-none : (s : State) (d a : ℕ) → readable_at s d a ≡ None → Lacks s d a
readable-none s d a none = by (aggregate s d a) none
  where
    by : (o : Option Text) → option_map bytes_of o ≡ None → o ≡ None
    by None none = refl
    by (Some t) none = absurd (cc)

unlent : (s : State) (d a : ℕ) → Lacks s d a → readable_at s d a ≡ None
unlent s d a none = ap (λ (o : Option Text). option_map bytes_of o) none

pub none_step : (s t : State) (e : Event) (r : Reply) (d a : ℕ) → StepsTo s e r t → readable_at s d a ≡ None
    → brings e r d a ≡ false → readable_at t d a ≡ None
none_step s t e (reply.Refused x) d a step none un = ap (λ u. readable_at u d a) step.1 ∙ none
none_step s t e r d a step none un = ap (λ u. readable_at u d a) step.2
    ∙ unlent (meaning s e).after d a
    (lacks_meant s e d a (sym (ap (λ q. brings e q d a) step.1) ∙ un) (readable-none s d a none))

-- Aggregates that are given up.

-- two aggregates are appended to a list
pub pushed-two : (kept : List (ℕ × Text)) (n a : ℕ) (t u : Text) → n ≢ a → n + 1 ≢ a
    → lookup (kept ++ (n, t) ∷ (n + 1, u) ∷ []) a ≡ lookup kept a
pushed-two kept n a t u one two =
    sym (ap (λ (l : List (ℕ × Text)). lookup l a) (append_assoc kept ((n, t) ∷ []) ((n + 1, u) ∷ [])))
    ∙ (lookup-push_other (kept ++ (n, t) ∷ []) (n + 1) a u two ∙ lookup-push_other kept n a t one)

-- the number of an existing aggregate is neither of the next two numbers
below : (s : State) (d a : ℕ) → IsOrderly s → aggs.lacks_agg s d a ≡ false
    → (aggs.next_agg s d ≢ a) × (aggs.next_agg s d + 1 ≢ a)
below s d a order has = (λ same. gone (omega (arith, same)) has, λ same. gone (omega (arith, same)) has)
  where
    gone : aggs.next_agg s d ≤ a → aggs.lacks_agg s d a ≡ false → ⊥
    gone past has = (let e = ap (λ (o : Option Text). is_none o) (order.aggs d a past) in absurd (cc (e, has)))

-- a live domain whose entry is replaced by one without the aggregate
of-own : (s : State) (by a : ℕ) (y : Domain Text) → is_live s by ≡ true → lookup y.aggs a ≡ None
    → Lacks (with_domain s by y) by a
of-own s by a y live none = ap (λ (z : Domain Text). lookup z.aggs a) (domain-with_same s by y live) ∙ none

gone_exit : (s : State) (by a : ℕ) → is_live s by ≡ true → Lacks (called s by call.Exit).after by a
gone_exit s by a live =
    let closed : State = fold fds.closed_on s (domain s by).fds in
    of-own closed by a no_domain
    (ap (λ (y : Domain Text). y.live) (domain-same s closed by (domains-all_closed s (domain s by).fds)) ∙ live)
    refl

gone_split : (s : State) (by a at : ℕ) → IsOrderly s → is_live s by ≡ true → aggs.lacks_agg s by a ≡ false
    → Lacks (aggs.agg_split s by a at).after by a
gone_split s by a at order live has =
    let new = below s by a order has in
    of-own s by a _ live (pushed-two (without (domain s by).aggs a) (aggs.next_agg s by) a (take at (text s by a))
    (drop at (text s by a)) new.0 new.1 ∙ forgotten (domain s by).aggs a (order.aggs_once by))

gone_join : (s : State) (by x y a : ℕ) → IsOrderly s → is_live s by ≡ true → aggs.lacks_agg s by x ≡ false
    → aggs.lacks_agg s by y ≡ false → ((x == a) || (y == a)) ≡ true → Lacks (aggs.agg_join s by x y).after by a
gone_join s by x y a order live has_x has_y is = elim (either (x == a) (y == a) is) [
  | inl first ↦ (let same = same-number x a first in
      of-own s by a _ live
      (lookup-push_other kept (aggs.next_agg s by) a both
      (subst (λ k. aggs.next_agg s by ≢ k) same (below s by x order has_x).0)
      ∙ lookup-without_none left y a
      (subst (λ k. lookup left k ≡ None) same (forgotten (domain s by).aggs x (order.aggs_once by)))))
  | inr second ↦ (let same = same-number y a second in
      of-own s by a _ live
      (lookup-push_other kept (aggs.next_agg s by) a both
      (subst (λ k. aggs.next_agg s by ≢ k) same (below s by y order has_y).0)
      ∙ subst (λ k. lookup kept k ≡ None) same
      (forgotten left y (once-without (domain s by).aggs x (order.aggs_once by)))))
]
  where
    left : List (ℕ × Text)
    left = without (domain s by).aggs x

    kept : List (ℕ × Text)
    kept = without left y

    both : Text
    both = text s by x ++ text s by y

gone_give : (s : State) (by a to : ℕ) → IsOrderly s → is_live s by ≡ true → aggs.lacks_agg s by a ≡ false
    → Lacks (aggs.agg_give s by a to).after by a
gone_give s by a to order live has =
    agg_given (λ t. Lacks t by a) s by a to
    (λ is. of-own s by a _ live (lookup-push_other (without (domain s by).aggs a) (aggs.next_agg s by) a (text s by a)
    (below s by a order has).0 ∙ forgotten (domain s by).aggs a (order.aggs_once by)))
    (λ is.
    let given : State = aggs.with_agg s to (text s by a) in
    let same : domain given by ≡ domain s by = domain-with_other s to by _ (λ equal. apart by to is (sym equal)) in
    of-own given by a _ (ap (λ (y : Domain Text). y.live) same ∙ live)
    (forgotten (domain given by).aggs a (subst (λ (y : Domain Text). Once y.aggs) (sym same) (order.aggs_once by))))

-- an event gives up only aggregates of its caller
mine : (by d : ℕ) (b : Bool) → ((by == d) && b) ≡ true → (by ≡ d) × (b ≡ true)
mine by d b is = let two = both-true (by == d) b is in (same-number by d two.0, two.1)

two-had : (x y z : Bool) → (x || y || z) ≡ false → (x ≡ false) × (y ≡ false)
two-had false false z is = (refl, refl)
two-had true y z is = absurd (cc)
two-had false true z is = absurd (cc)

gone_called : (s : State) (by : ℕ) (k : Call) (d a : ℕ) → IsOrderly s → first (called s by k).refusals ≡ None
    → gives_up (event.Call by k) d a ≡ true → Lacks (called s by k).after d a
gone_called s by call.Exit d a order passes is =
    subst (λ n. Lacks (called s by call.Exit).after n a) (same-number by d is)
    (gone_exit s by a (live-first s by _ passes))
gone_called s by (call.AggSplit b at) d a order passes is =
    let own = mine by d (b == a) is in
    let has =
    when-none refuse.BadAgg (aggs.lacks_agg s by b) (passed (called s by (call.AggSplit b at)).refusals 1 passes) in
    subst (λ n. Lacks (aggs.agg_split s by b at).after n a) own.0
    (subst (λ m. Lacks (aggs.agg_split s by b at).after by m) (same-number b a own.1)
    (gone_split s by b at order (live-first s by _ passes) has))
gone_called s by (call.AggJoin x y) d a order passes is =
    let own = mine by d ((x == a) || (y == a)) is in
    let has =
    two-had (aggs.lacks_agg s by x) (aggs.lacks_agg s by y) (x == y)
    (when-none refuse.BadAgg (aggs.lacks_agg s by x || aggs.lacks_agg s by y || (x == y))
    (passed (called s by (call.AggJoin x y)).refusals 1 passes)) in
    subst (λ n. Lacks (aggs.agg_join s by x y).after n a) own.0
    (gone_join s by x y a order (live-first s by _ passes) has.0 has.1 own.1)
gone_called s by (call.AggDrop b) d a order passes is =
    let own = mine by d (b == a) is in
    subst (λ n. Lacks (aggs.without_agg s by b) n a) own.0
    (subst (λ m. Lacks (aggs.without_agg s by b) by m) (same-number b a own.1)
    (of-own s by b _ (live-first s by _ passes) (forgotten (domain s by).aggs b (order.aggs_once by))))
gone_called s by (call.AggGive b to) d a order passes is =
    let own = mine by d (b == a) is in
    let has =
    when-none refuse.BadAgg (aggs.lacks_agg s by b) (passed (called s by (call.AggGive b to)).refusals 1 passes) in
    subst (λ n. Lacks (aggs.agg_give s by b to).after n a) own.0
    (subst (λ m. Lacks (aggs.agg_give s by b to).after by m) (same-number b a own.1)
    (gone_give s by b to order (both-live s by to _ passes).0 has))
gone_called s by k d a order passes is = absurd (cc)

gone_meant : (s : State) (e : Event) (d a : ℕ) → IsOrderly s → first (meaning s e).refusals ≡ None
    → gives_up e d a ≡ true → Lacks (meaning s e).after d a
gone_meant s (event.Call by k) d a order passes is = gone_called s by k d a order passes is
gone_meant s e d a order passes is = absurd (cc)

pub gone_step : (s t : State) (e : Event) (r : Reply) (d a : ℕ) → IsOrderly s → StepsTo s e r t → gives_up e d a ≡ true
    → is_refusal r ≡ false → readable_at t d a ≡ None
gone_step s t e (reply.Refused x) d a order step is answered = absurd (cc)
gone_step s t e r d a order step is answered = ap (λ u. readable_at u d a) step.2
    ∙ unlent (meaning s e).after d a (gone_meant s e d a order step.0 is)
