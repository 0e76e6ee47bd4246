-- The numbers that a domain gets from its calls are new.
use Rattle.std.proofs.Common.{◌≡◌, ℕ, ◌==◌, List, length, ap, ◌∙◌, refl, sym, arith, Option, Some, None, true, false}
use Rattle.std.specs.Prelude.{option_map}
use Rattle.iol_core.specs.Text.{Text, bytes_of}
use Rattle.iol_core.specs.NumberedLists.{lookup, without}
use Rattle.iol_core.specs.State.{State, domain, descriptor, is_live}
use Rattle.iol_core.specs.Run.{StepsTo}
use Rattle.iol_core.specs.Calls.Aggregates as aggs
use Rattle.iol_core.specs.Calls.Reads as reading
use Rattle.iol_core.specs.declared.descriptors.Descriptor.{Descriptor}
use Rattle.iol_core.specs.declared.events.Call.{Call}
use Rattle.iol_core.specs.declared.events.Call.TheVariants as call
use Rattle.iol_core.specs.declared.events.Event.TheVariants as event
use Rattle.iol_core.specs.declared.events.Reply.{Reply}
use Rattle.iol_core.specs.declared.events.Reply.TheVariants as reply
use Rattle.iol_laws.specs.Order.{IsOrderly}
use Rattle.iol_laws.specs.Caller.{readable_at, is_agg, is_fd, gives_away}
use Rattle.iol_laws.proofs.Domains.{live-first, kept-read_on}
use Rattle.iol_laws.proofs.Numbers.{readable-made, number}
use Rattle.iol_laws.proofs.Places.{lookup-without_none, lowest-free}
use Rattle.iol_laws.proofs.Tests.{same-number}

fresh : (s : State) (d b a : ℕ) → IsOrderly s → b ≡ aggs.next_agg s d → (b == a) ≡ true → readable_at s d a ≡ None
fresh s d b a order next is = ap (λ k. readable_at s d k) (sym (same-number b a is) ∙ next)
    ∙ ap (λ (o : Option Text). option_map bytes_of o) (order.aggs d (aggs.next_agg s d) (omega arith))

-- the number of an aggregate in a reply is new, unless the call gives something away
pub fresh_agg : (s t : State) (d : ℕ) (k : Call) (r : Reply) (a : ℕ) → IsOrderly s → StepsTo s (event.Call d k) r t
    → gives_away k ≡ false → is_agg r a ≡ true → readable_at s d a ≡ None
fresh_agg s t d (call.AggMake bytes) (reply.Agg b) a order step stays is = fresh s d b a order (ap number step.1) is
fresh_agg s t d (call.AggDup x) (reply.Agg b) a order step stays is = fresh s d b a order (ap number step.1) is
fresh_agg s t d (call.AggCut x from to) (reply.Agg b) a order step stays is = fresh s d b a order (ap number step.1) is
fresh_agg s t d (call.AggJoin x y) (reply.Agg b) a order step stays is = fresh s d b a order (ap number step.1) is
fresh_agg s t d (call.AggReplace x from to y) (reply.Agg b) a order step stays is =
    fresh s d b a order (ap number step.1) is
fresh_agg s t d (call.IolRead f n) (reply.Agg b) a order step stays is = fresh s d b a order (ap number step.1) is
fresh_agg s t d (call.AggGive x to) (reply.Agg b) a order step stays is = absurd (cc)
fresh_agg s t d (call.GiveFd f to) (reply.Agg b) a order step stays is = absurd (cc)
fresh_agg s t d k (reply.Agg b) a order step stays is = (let e = step.1 in absurd (cc))
fresh_agg s t d k r a order step stays is = absurd (cc)

-- the number of a descriptor in a reply is new, unless the call gives something away
pub fresh_fd : (s t : State) (d : ℕ) (k : Call) (r : Reply) (g : ℕ) → IsOrderly s → StepsTo s (event.Call d k) r t
    → gives_away k ≡ false → is_fd r g ≡ true → descriptor s d g ≡ None
fresh_fd s t d call.Accept (reply.Fd b) g order step stays is =
    ap (λ k. descriptor s d k) (sym (same-number b g is) ∙ ap number step.1) ∙ lowest-free (domain s d).fds
fresh_fd s t d (call.OpenFile name mode) (reply.Fd b) g order step stays is =
    ap (λ k. descriptor s d k) (sym (same-number b g is) ∙ ap number step.1) ∙ lowest-free (domain s d).fds
fresh_fd s t d (call.AggGive x to) (reply.Fd b) g order step stays is = absurd (cc)
fresh_fd s t d (call.GiveFd f to) (reply.Fd b) g order step stays is = absurd (cc)
fresh_fd s t d k (reply.Fd b) g order step stays is = (let e = step.1 in absurd (cc))
fresh_fd s t d k r g order step stays is = absurd (cc)

abbrev Named : State → (d b : ℕ) → Type 0
Named t d b = (bytes : List ℕ) × (readable_at t d b ≡ Some bytes)

named_new : (s t : State) (d b a : ℕ) (kept : List (ℕ × Text)) (x : Text) → is_live s d ≡ true
    → lookup kept (aggs.next_agg s d) ≡ None → t ≡ aggs.with_new s d kept x → b ≡ aggs.next_agg s d → (b == a) ≡ true
    → Named t d a
named_new s t d b a kept x live none same next is = (
  bytes_of x,
  ap (λ k. readable_at t d k) (sym (same-number b a is) ∙ next)
      ∙ readable-made s t d kept x live none same,
)

-- the number of an aggregate in a reply names one, with the same exception
pub named_agg : (s t : State) (d : ℕ) (k : Call) (r : Reply) (a : ℕ) → IsOrderly s → StepsTo s (event.Call d k) r t
    → gives_away k ≡ false → is_agg r a ≡ true → (bytes : List ℕ) × (readable_at t d a ≡ Some bytes)
named_agg s t d (call.AggMake bytes) (reply.Agg b) a order step stays is =
    named_new s t d b a (domain s d).aggs _ (live-first s d _ step.0) (order.aggs d (aggs.next_agg s d) (omega arith))
    step.2 (ap number step.1) is
named_agg s t d (call.AggDup x) (reply.Agg b) a order step stays is =
    named_new s t d b a (domain s d).aggs _ (live-first s d _ step.0) (order.aggs d (aggs.next_agg s d) (omega arith))
    step.2 (ap number step.1) is
named_agg s t d (call.AggCut x from to) (reply.Agg b) a order step stays is =
    named_new s t d b a (domain s d).aggs _ (live-first s d _ step.0) (order.aggs d (aggs.next_agg s d) (omega arith))
    step.2 (ap number step.1) is
named_agg s t d (call.AggReplace x from to y) (reply.Agg b) a order step stays is =
    named_new s t d b a (domain s d).aggs _ (live-first s d _ step.0) (order.aggs d (aggs.next_agg s d) (omega arith))
    step.2 (ap number step.1) is
named_agg s t d (call.AggJoin x y) (reply.Agg b) a order step stays is =
    named_new s t d b a (without (without (domain s d).aggs x) y) _ (live-first s d _ step.0)
    (lookup-without_none (without (domain s d).aggs x) y (aggs.next_agg s d)
    (lookup-without_none (domain s d).aggs x (aggs.next_agg s d) (order.aggs d (aggs.next_agg s d) (omega arith))))
    step.2 (ap number step.1) is
named_agg s t d (call.IolRead f n) (reply.Agg b) a order step stays is =
    let o : Option Descriptor = descriptor s d f in
    let tx : Text = reading.read_text s d o n in
    let next = kept-read_on (λ y. y.next_agg) (λ y xs. refl) s d f o (length tx) in
    let live = kept-read_on (λ y. y.live) (λ y xs. refl) s d f o (length tx) ∙ live-first s d _ step.0 in
    let mid : State = reading.read_on s d f o (length tx) in
    let none : lookup (domain mid d).aggs (domain mid d).next_agg ≡ None =
    ap (λ (l : List (ℕ × Text)). lookup l (domain mid d).next_agg)
    (kept-read_on (λ y. y.aggs) (λ y xs. refl) s d f o (length tx))
    ∙ (ap (λ k. lookup (domain s d).aggs k) next ∙ order.aggs d (aggs.next_agg s d) (omega arith)) in
    named_new mid t d b a (domain mid d).aggs tx live none step.2 (ap number step.1 ∙ sym next) is
named_agg s t d (call.AggGive x to) (reply.Agg b) a order step stays is = absurd (cc)
named_agg s t d (call.GiveFd f to) (reply.Agg b) a order step stays is = absurd (cc)
named_agg s t d k (reply.Agg b) a order step stays is = (let e = step.1 in absurd (cc))
named_agg s t d k r a order step stays is = absurd (cc)
