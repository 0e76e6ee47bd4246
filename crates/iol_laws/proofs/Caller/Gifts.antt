-- Giving to another domain.
use Rattle.std.proofs.Common.{◌≡◌, ◌≢◌, ℕ, ◌==◌, List, ap, ◌∙◌, refl, sym, subst, arith, Option, Some, None, true}
use Rattle.std.proofs.Common.{false, Bool}
use Rattle.std.specs.Prelude.{option_map, if◌then◌else◌}
use Rattle.std.specs.Option.{option_map_or}
use Rattle.std.proofs.lemmas.Bool.Decides.{nat_tests}
use Rattle.iol_core.specs.Text.{Text, bytes_of}
use Rattle.iol_core.specs.NumberedLists.{lookup, without, in_place, lowest, placed}
use Rattle.iol_core.specs.State.{State, Domain, domain, text, descriptor, is_live}
use Rattle.iol_core.specs.Run.{StepsTo}
use Rattle.iol_core.specs.Calls.Aggregates as aggs
use Rattle.iol_core.specs.Calls.Descriptors as fds
use Rattle.iol_core.specs.declared.descriptors.Descriptor.{Descriptor}
use Rattle.iol_core.specs.declared.events.Call.TheVariants as call
use Rattle.iol_core.specs.declared.events.Event.TheVariants as event
use Rattle.iol_core.specs.declared.events.Reply.{Reply}
use Rattle.iol_core.specs.declared.events.Reply.TheVariants as reply
use Rattle.iol_laws.specs.Order.{IsOrderly}
use Rattle.iol_laws.specs.Caller.{readable_at, HandsOn, GivesFd, GivesAgg}
use Rattle.iol_laws.proofs.Domains.{domain-with_other, domain-with_same, both-live}
use Rattle.iol_laws.proofs.Numbers.{readable-made, new-fd, number, text-of}
use Rattle.iol_laws.proofs.Places.{lookup-without_none, lowest-free, place-new, place-set_free}

-- to the giver itself
hands_within : (s t : State) (d fd to : ℕ) (x : Descriptor) (g : ℕ) → is_live s d ≡ true → d ≡ to
    → t ≡ fds.with_fds s d (placed (fds.freed s d fd) (lowest (fds.freed s d fd)) x) → g ≡ lowest (fds.freed s d fd)
    → HandsOn s d fd to x g t
hands_within s t d fd to x g live one same g_is = record {
  open_on =
      subst (λ n. descriptor t n g ≡ Some x) one (ap (λ k. descriptor t d k) g_is
      ∙ (ap (λ u. descriptor u d (lowest (fds.freed s d fd))) same
      ∙ (ap (λ (y : Domain Text). in_place y.fds (lowest (fds.freed s d fd)))
      (domain-with_same s d (record (domain s d) { fds = placed (fds.freed s d fd) (lowest (fds.freed s d fd)) x })
      live) ∙ place-new (fds.freed s d fd) x)));
  new = λ differ. absurd (differ one);
  left = λ differ. absurd (differ one);
}

-- to another domain
hands_across : (s t : State) (d fd to : ℕ) (x : Descriptor) (g : ℕ) → is_live s d ≡ true → is_live s to ≡ true → d ≢ to
    → t ≡ fds.with_fds (fds.opened s to x) d (fds.freed s d fd) → g ≡ fds.next_fd s to → HandsOn s d fd to x g t
hands_across s t d fd to x g live live_to differ same g_is =
    let v : State = fds.opened s to x in
    let here : domain v d ≡ domain s d =
    domain-with_other s to d (record (domain s to) { fds = placed (domain s to).fds (fds.next_fd s to) x })
    (λ one. differ (sym one)) in
    let left : Domain Text = record (domain v d) { fds = fds.freed s d fd } in
    record {
      open_on = ap (λ k. descriptor t to k) g_is
          ∙ (ap (λ u. descriptor u to (fds.next_fd s to)) same
          ∙ (ap (λ (y : Domain Text). in_place y.fds (fds.next_fd s to)) (domain-with_other v d to left differ)
          ∙ new-fd s to x live_to));
      new = λ other. ap (λ k. descriptor s to k) g_is ∙ lowest-free (domain s to).fds;
      left = λ other. ap (λ u. descriptor u d fd) same
          ∙ (ap (λ (y : Domain Text). in_place y.fds fd)
          (domain-with_same v d left (ap (λ (y : Domain Text). y.live) here ∙ live))
          ∙ place-set_free (domain s d).fds fd);
    }

pub does_give_fd : (s t : State) (d fd to : ℕ) (x : Descriptor) (r : Reply) → descriptor s d fd ≡ Some x
    → StepsTo s (event.Call d (call.GiveFd fd to)) r t → GivesFd s d fd to x r t
does_give_fd s t d fd to x (reply.Fd g) is step = by (d == to) refl same g_is
  where
    live : (is_live s d ≡ true) × (is_live s to ≡ true)
    live = both-live s d to _ step.0

    same : t ≡ fds.given_to s d fd to x
    same = step.2 ∙ ap (λ o. option_map_or (fds.given_to s d fd to) o s) is

    g_is : g ≡ (if d == to then lowest (fds.freed s d fd) else fds.next_fd s to)
    g_is = ap number step.1

    by : (b : Bool) → (d == to) ≡ b
        → t ≡ (if b then fds.with_fds s d (placed (fds.freed s d fd) (lowest (fds.freed s d fd)) x) else fds.with_fds
        (fds.opened s to x) d (fds.freed s d fd)) → g ≡ (if b then lowest (fds.freed s d fd) else fds.next_fd s to)
        → HandsOn s d fd to x g t
    by true one same g_is = hands_within s t d fd to x g live.0 (grind (arith, nat_tests, one)) same g_is
    by false differ same g_is =
        hands_across s t d fd to x g live.0 live.1 (λ one. grind (arith, nat_tests, differ, one)) same g_is
does_give_fd s t d fd to x (reply.Refused y) is step = step.1
does_give_fd s t d fd to x r is step = (let e = step.1 in absurd (cc))

pub does_give_agg : (s t : State) (d a to : ℕ) (bytes : List ℕ) (r : Reply) → IsOrderly s
    → readable_at s d a ≡ Some bytes → StepsTo s (event.Call d (call.AggGive a to)) r t → GivesAgg s to bytes r t
does_give_agg s t d a to bytes (reply.Agg n) order has step =
    (by (d == to) refl step.2, ap (λ k. readable_at s to k) n_is ∙ ap (λ (o : Option Text). option_map bytes_of o) none)
  where
    live : (is_live s d ≡ true) × (is_live s to ≡ true)
    live = both-live s d to _ step.0

    n_is : n ≡ aggs.next_agg s to
    n_is = ap number step.1

    none : lookup (domain s to).aggs (aggs.next_agg s to) ≡ None
    none = order.aggs to (aggs.next_agg s to) (omega arith)

    x : Text
    x = text s d a

    by : (b : Bool) → (d == to) ≡ b
        → t
        ≡ (if b then aggs.with_new s d (without (domain s d).aggs a) (text s d a) else aggs.without_agg
        (aggs.with_agg s to (text s d a)) d a) → readable_at t to n ≡ Some bytes
    by true one same =
        let to_is : d ≡ to = grind (arith, nat_tests, one) in
        let gone =
        lookup-without_none (domain s d).aggs a (aggs.next_agg s d)
        (order.aggs d (aggs.next_agg s d) (omega arith)) in
        ap (λ k. readable_at t to k) n_is
        ∙ (subst (λ m. readable_at t m (aggs.next_agg s m) ≡ Some (bytes_of (text s d a))) to_is
        (readable-made s t d (without (domain s d).aggs a) (text s d a) live.0 gone same)
        ∙ ap (λ (l : List ℕ). Some l) (text-of s d a bytes has))
    by false differ same =
        let other : d ≢ to = λ one. grind (arith, nat_tests, differ, one) in
        let v : State = aggs.with_agg s to (text s d a) in
        let at : readable_at t to (aggs.next_agg s to) ≡ readable_at v to (aggs.next_agg s to) =
        ap (λ u. readable_at u to (aggs.next_agg s to)) same
        ∙ ap (λ (y : Domain Text). option_map bytes_of (lookup y.aggs (aggs.next_agg s to)))
        (domain-with_other v d to (record (domain v d) { aggs = without (domain v d).aggs a }) other) in
        ap (λ k. readable_at t to k) n_is
        ∙ (at ∙ (readable-made s v to (domain s to).aggs (text s d a) live.1 none refl
        ∙ ap (λ (l : List ℕ). Some l) (text-of s d a bytes has)))
does_give_agg s t d a to bytes (reply.Refused y) order has step = step.1
does_give_agg s t d a to bytes r order has step = (let e = step.1 in absurd (cc))
