-- The effect of calls on aggregates for their caller.
use Rattle.std.proofs.Common.{◌≡◌, ℕ, ◌+◌, ◌-◌, ◌≤◌, List, [], ◌∷◌, ◌++◌, take, drop, ap, ◌∙◌, subst, arith, Option}
use Rattle.std.proofs.Common.{Some, None, true, append_assoc}
use Rattle.std.specs.Prelude.{option_map, slice_range}
use Rattle.iol_core.specs.Text.{Text, bytes_of, labelled, part}
use Rattle.iol_core.specs.NumberedLists.{lookup, without}
use Rattle.iol_core.specs.State.{State, Domain, domain, text, is_live}
use Rattle.iol_core.specs.Run.{StepsTo}
use Rattle.iol_core.specs.Calls.Aggregates as aggs
use Rattle.iol_core.specs.declared.events.Call.TheVariants as call
use Rattle.iol_core.specs.declared.events.Event.TheVariants as event
use Rattle.iol_core.specs.declared.events.Reply.{Reply}
use Rattle.iol_core.specs.declared.events.Reply.TheVariants as reply
use Rattle.iol_core.proofs.Lookups.{lookup-append}
use Rattle.iol_laws.specs.Order.{IsOrderly}
use Rattle.iol_laws.specs.Caller.{readable_at, Makes, Drops, Shows, MakesTwo}
use Rattle.iol_laws.proofs.Connections.{forgotten}
use Rattle.iol_laws.proofs.Domains.{domain-with_same, live-first}
use Rattle.iol_laws.proofs.Numbers.{readable-made, number, text-of}
use Rattle.iol_laws.proofs.Places.{lookup-push, lookup-push_other, lookup-without_none}
use Rattle.iol_laws.proofs.Texts.{bytes-append, bytes-drop, bytes-labelled, bytes-take}

-- the bytes of two texts, one after the other
joins : (x y : Text) (xs ys : List ℕ) → bytes_of x ≡ xs → bytes_of y ≡ ys → bytes_of (x ++ y) ≡ xs ++ ys
joins x y xs ys x_is y_is = bytes-append x y
    ∙ (ap (λ (l : List ℕ). l ++ bytes_of y) x_is ∙ ap (λ (l : List ℕ). xs ++ l) y_is)

-- an aggregate is added to those that are kept
made : (s t : State) (d n : ℕ) (kept : List (ℕ × Text)) (x : Text) (bytes : List ℕ) → IsOrderly s → is_live s d ≡ true
    → lookup kept (aggs.next_agg s d) ≡ None → n ≡ aggs.next_agg s d → t ≡ aggs.with_new s d kept x → bytes_of x ≡ bytes
    → Makes s d bytes (reply.Agg n) t
made s t d n kept x bytes order live none is same bytes_are = (
  ap (λ k. readable_at t d k) is ∙ (readable-made s t d kept x live none same ∙ ap (λ (l : List ℕ). Some l) bytes_are),
  ap (λ k. readable_at s d k) is
      ∙ ap (λ (o : Option Text). option_map bytes_of o) (order.aggs d (aggs.next_agg s d) (omega arith)),
)

-- the same if all aggregates are kept
added : (s t : State) (d n : ℕ) (x : Text) (bytes : List ℕ) → IsOrderly s → is_live s d ≡ true → n ≡ aggs.next_agg s d
    → t ≡ aggs.with_agg s d x → bytes_of x ≡ bytes → Makes s d bytes (reply.Agg n) t
added s t d n x bytes order live is same bytes_are =
    made s t d n (domain s d).aggs x bytes order live (order.aggs d (aggs.next_agg s d) (omega arith)) is same bytes_are

pub does_make : (s t : State) (d : ℕ) (bytes : List ℕ) (r : Reply) → IsOrderly s
    → StepsTo s (event.Call d (call.AggMake bytes)) r t → Makes s d bytes r t
does_make s t d bytes (reply.Agg n) order step =
    added s t d n (labelled (aggs.default_pool s d) bytes) bytes order (live-first s d _ step.0) (ap number step.1)
    step.2 (bytes-labelled (aggs.default_pool s d) bytes)
does_make s t d bytes (reply.Refused x) order step = step.1
does_make s t d bytes r order step = (let e = step.1 in absurd (cc))

pub does_cut : (s t : State) (d a from to : ℕ) (bytes : List ℕ) (r : Reply) → IsOrderly s
    → readable_at s d a ≡ Some bytes → StepsTo s (event.Call d (call.AggCut a from to)) r t
    → Makes s d (slice_range bytes from to) r t
does_cut s t d a from to bytes (reply.Agg n) order has step =
    let front : bytes_of (drop from (text s d a)) ≡ drop from bytes = bytes-drop from (text s d a)
    ∙ ap (λ (l : List ℕ). drop from l) (text-of s d a bytes has) in
    added s t d n (part (text s d a) from to) (slice_range bytes from to) order (live-first s d _ step.0)
    (ap number step.1) step.2 (bytes-take (to - from) (drop from (text s d a))
    ∙ ap (λ (l : List ℕ). take (to - from) l) front)
does_cut s t d a from to bytes (reply.Refused x) order has step = step.1
does_cut s t d a from to bytes r order has step = (let e = step.1 in absurd (cc))

-- the two numbers of a reply
abbrev pub first_agg : Reply → ℕ
first_agg (reply.Aggs n m) = n
first_agg r = 0

abbrev pub second_agg : Reply → ℕ
second_agg (reply.Aggs n m) = m
second_agg r = 0

-- the texts under two consecutive new numbers
pub two-found : (kept : List (ℕ × Text)) (n : ℕ) (x y : Text) → ((a : ℕ) → n ≤ a → lookup kept a ≡ None)
    → (lookup (kept ++ (n, x) ∷ (n + 1, y) ∷ []) n ≡ Some x)
    × (lookup (kept ++ (n, x) ∷ (n + 1, y) ∷ []) (n + 1) ≡ Some y)
two-found kept n x y below =
    let both = append_assoc kept ((n, x) ∷ []) ((n + 1, y) ∷ []) in
    let one : lookup (kept ++ (n, x) ∷ []) n ≡ Some x = lookup-push kept n x (below n (omega arith)) in
    let none : lookup (kept ++ (n, x) ∷ []) (n + 1) ≡ None =
    lookup-push_other kept n (n + 1) x (λ same. omega (arith, same)) ∙ below (n + 1) (omega arith) in (
      subst (λ (l : List (ℕ × Text)). lookup l n ≡ Some x) both
          (lookup-append (kept ++ (n, x) ∷ []) ((n + 1, y) ∷ []) n x one),
      subst (λ (l : List (ℕ × Text)). lookup l (n + 1) ≡ Some y) both
          (lookup-push (kept ++ (n, x) ∷ []) (n + 1) y none),
    )

pub does_split : (s t : State) (d a at : ℕ) (bytes : List ℕ) (r : Reply) → IsOrderly s → readable_at s d a ≡ Some bytes
    → StepsTo s (event.Call d (call.AggSplit a at)) r t → MakesTwo s d (take at bytes) (drop at bytes) r t
does_split s t d a at bytes (reply.Aggs n m) order has step =
    let live = live-first s d _ step.0 in
    let next : ℕ = aggs.next_agg s d in
    let kept : List (ℕ × Text) = without (domain s d).aggs a in
    let front : Text = take at (text s d a) in
    let back : Text = drop at (text s d a) in
    let list : List (ℕ × Text) = kept ++ (next, front) ∷ (next + 1, back) ∷ [] in
    let n_is : n ≡ next = ap first_agg step.1 in
    let m_is : m ≡ next + 1 = ap second_agg step.1 in
    let found =
    two-found kept next front back (λ b more. lookup-without_none (domain s d).aggs a b (order.aggs d b more)) in
    let text_is = text-of s d a bytes has in
    let dom : domain t d ≡ record (domain s d) { aggs = list; next_agg = next + 2 } = ap (λ u. domain u d) step.2
    ∙ domain-with_same s d (record (domain s d) { aggs = list; next_agg = next + 2 }) live in (
      ap (λ k. readable_at t d k) n_is ∙ (ap (λ (y : Domain Text). option_map bytes_of (lookup y.aggs next)) dom
          ∙ (ap (λ (o : Option Text). option_map bytes_of o) found.0
          ∙ ap (λ (l : List ℕ). Some l) (bytes-take at (text s d a) ∙ ap (λ (l : List ℕ). take at l) text_is))),
      ap (λ k. readable_at t d k) m_is ∙ (ap (λ (y : Domain Text). option_map bytes_of (lookup y.aggs (next + 1))) dom
          ∙ (ap (λ (o : Option Text). option_map bytes_of o) found.1
          ∙ ap (λ (l : List ℕ). Some l) (bytes-drop at (text s d a) ∙ ap (λ (l : List ℕ). drop at l) text_is))),
      ap (λ k. readable_at s d k) n_is
          ∙ ap (λ (o : Option Text). option_map bytes_of o) (order.aggs d next (omega arith)),
      ap (λ k. readable_at s d k) m_is
          ∙ ap (λ (o : Option Text). option_map bytes_of o) (order.aggs d (next + 1) (omega arith)),
    )
does_split s t d a at bytes (reply.Refused x) order has step = step.1
does_split s t d a at bytes r order has step = (let e = step.1 in absurd (cc))

pub does_join : (s t : State) (d a b : ℕ) (xs ys : List ℕ) (r : Reply) → IsOrderly s → readable_at s d a ≡ Some xs
    → readable_at s d b ≡ Some ys → StepsTo s (event.Call d (call.AggJoin a b)) r t → Makes s d (xs ++ ys) r t
does_join s t d a b xs ys (reply.Agg n) order has_a has_b step =
    let next : ℕ = aggs.next_agg s d in
    let kept : List (ℕ × Text) = without (domain s d).aggs a in
    let none : lookup (without kept b) next ≡ None =
    lookup-without_none kept b next
    (lookup-without_none (domain s d).aggs a next (order.aggs d next (omega arith))) in
    let joined : bytes_of (text s d a ++ text s d b) ≡ xs ++ ys =
    joins (text s d a) (text s d b) xs ys (text-of s d a xs has_a) (text-of s d b ys has_b) in
    made s t d n (without kept b) (text s d a ++ text s d b) (xs ++ ys) order (live-first s d _ step.0) none
    (ap number step.1) step.2 joined
does_join s t d a b xs ys (reply.Refused x) order has_a has_b step = step.1
does_join s t d a b xs ys r order has_a has_b step = (let e = step.1 in absurd (cc))

pub does_dup : (s t : State) (d a : ℕ) (bytes : List ℕ) (r : Reply) → IsOrderly s → readable_at s d a ≡ Some bytes
    → StepsTo s (event.Call d (call.AggDup a)) r t → Makes s d bytes r t
does_dup s t d a bytes (reply.Agg n) order has step =
    added s t d n (text s d a) bytes order (live-first s d _ step.0) (ap number step.1) step.2 (text-of s d a bytes has)
does_dup s t d a bytes (reply.Refused x) order has step = step.1
does_dup s t d a bytes r order has step = (let e = step.1 in absurd (cc))

pub does_replace : (s t : State) (d a from to b : ℕ) (xs ys : List ℕ) (r : Reply) → IsOrderly s
    → readable_at s d a ≡ Some xs → readable_at s d b ≡ Some ys
    → StepsTo s (event.Call d (call.AggReplace a from to b)) r t → Makes s d (take from xs ++ ys ++ drop to xs) r t
does_replace s t d a from to b xs ys (reply.Agg n) order has_a has_b step =
    let x : Text = text s d a in
    let y : Text = text s d b in
    let x_is = text-of s d a xs has_a in
    let front = joins (take from x) y (take from xs) ys (bytes-take from x ∙ ap (λ (l : List ℕ). take from l) x_is)
    (text-of s d b ys has_b) in
    let replaced = joins (take from x ++ y) (drop to x) (take from xs ++ ys) (drop to xs) front (bytes-drop to x
    ∙ ap (λ (l : List ℕ). drop to l) x_is) in
    added s t d n (take from x ++ y ++ drop to x) (take from xs ++ ys ++ drop to xs) order (live-first s d _ step.0)
    (ap number step.1) step.2 replaced
does_replace s t d a from to b xs ys (reply.Refused x) order has_a has_b step = step.1
does_replace s t d a from to b xs ys r order has_a has_b step = (let e = step.1 in absurd (cc))

-- the bytes of a reply
abbrev pub shown_in : Reply → List ℕ
shown_in (reply.Bytes bytes) = bytes
shown_in r = []

pub does_show : (s t : State) (d a : ℕ) (bytes : List ℕ) (r : Reply) → readable_at s d a ≡ Some bytes
    → StepsTo s (event.Call d (call.Show a)) r t → Shows s bytes r t
does_show s t d a bytes (reply.Bytes found) has step = (ap shown_in step.1 ∙ text-of s d a bytes has, step.2)
does_show s t d a bytes (reply.Refused x) has step = step.1
does_show s t d a bytes r has step = (let e = step.1 in absurd (cc))

pub does_drop : (s t : State) (d a : ℕ) (r : Reply) → IsOrderly s → StepsTo s (event.Call d (call.AggDrop a)) r t
    → Drops s d a r t
does_drop s t d a reply.Done order step =
    let live = live-first s d _ step.0 in
    let left : Domain Text = record (domain s d) { aggs = without (domain s d).aggs a } in
    ap (λ u. readable_at u d a) step.2
    ∙ (ap (λ (y : Domain Text). option_map bytes_of (lookup y.aggs a)) (domain-with_same s d left live)
    ∙ ap (λ (o : Option Text). option_map bytes_of o) (forgotten (domain s d).aggs a (order.aggs_once d)))
does_drop s t d a (reply.Refused x) order step = step.1
does_drop s t d a r order step = (let e = step.1 in absurd (cc))
