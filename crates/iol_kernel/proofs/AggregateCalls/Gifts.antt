-- An aggregate is given to another domain, or to the same one under a new number.
use Rattle.std.proofs.Common.{◌≡◌, ◌≢◌, ℕ, ◌<◌, ◌==◌, List, length, ap, ◌∙◌, refl, sym, subst, arith, [], Some, inl}
use Rattle.std.proofs.Common.{inr, true}
use Rattle.std.specs.Prelude.{if◌then◌else◌}
use Rattle.std.proofs.lemmas.Bool.{cases_eq}
use Rattle.std.proofs.lemmas.Bool.Decides.{nat_tests}
use Rattle.iol_core.specs.Text.{Text}
use Rattle.iol_core.specs.NumberedLists.{numbered_or, without}
use Rattle.iol_core.specs.State as machine
use Rattle.iol_core.specs.State.{State, Domain, no_domain}
use Rattle.iol_core.specs.Calls.Aggregates as aggs
use Rattle.iol_core.proofs.Lookups.{numbered_or-with}
use Rattle.iol_hold.specs.declared.slices.Slice.{Slice}
use Rattle.iol_desc.specs.Tables.{domain_in, with_domain_in, agg_in, with_agg_in, without_agg_in, live_aggs_in}
use Rattle.iol_desc.specs.Tables.{with_next}
use Rattle.iol_kernel.specs.Views.{state_view}
use Rattle.iol_kernel.specs.KernelState.{KernelState, objects_of, IsSound, slices_in, read_of}
use Rattle.iol_kernel.specs.DomainAggregates.{MayGive}
use Rattle.iol_kernel.specs.AggregateCalls.{MayGiveIn}
use Rattle.iol_kernel.specs.Readings.{Reading, bytes_over, read}
use Rattle.iol_kernel.proofs.State.TableCalls.{answers_here}
use Rattle.iol_kernel.proofs.State.Views.{with_agg-view, without_agg-view}
use Rattle.iol_kernel.proofs.State.Uses.{uses-with_agg, uses-without_agg, sum-with_domain, length-without}
use Rattle.iol_kernel.proofs.State.Sound.{agg_readable, agg_small, drop_readable, add_readable, fds_stay, limits_agg}
use Rattle.iol_kernel.proofs.State.Sound.{limits_drop}
use Rattle.iol_kernel.proofs.State.Once.{once_same}
use Rattle.iol_kernel.proofs.State.Effects.{few_numbers, moved-sound}
use Rattle.iol_kernel.proofs.State.Stay.{stays_here}
use Rattle.iol_kernel.proofs.State.ReadOf.{is_live-read_of, live_held, text-read_of, next_agg-read_of}
use Rattle.iol_kernel.proofs.AggregateCalls.Slices.{agg_live, agg_there, found_slices}
use Rattle.iol_kernel.proofs.State.Rows.{domain-with_same, domain-with_other, with_domain-twice, with_domain-comm}
use Rattle.iol_core.specs.declared.limits.TheConstants.{MAX_AGGREGATES}
use Rattle.iol_kernel.specs.Calls.{Answers}

-- On the machine's states: an aggregate is taken from a domain and added to one.

abbrev less : Domain Text → (a : ℕ) → Domain Text
less x a = record x { aggs = without x.aggs a }

-- to the same
given_within : (s : State) (d a : ℕ) (t : Text) → machine.is_live s d ≡ true
    → aggs.with_agg (aggs.without_agg s d a) d t ≡ aggs.with_new s d (without (machine.domain s d).aggs a) t
given_within s d a t live =
    let x : Domain Text = less (machine.domain s d) a in
    ap (λ (y : Domain Text). machine.with_domain (machine.with_domain s d x) d (with_next y t))
    (domain-with_same s d x live) ∙ with_domain-twice s d x (with_next x t)

-- to another: taken and then added, or added and then taken
given_across : (s : State) (d a e : ℕ) (t : Text) → d ≢ e
    → aggs.with_agg (aggs.without_agg s d a) e t ≡ aggs.without_agg (aggs.with_agg s e t) d a
given_across s d a e t differ =
    let x : Domain Text = less (machine.domain s d) a in
    let y : Domain Text = with_next (machine.domain s e) t in
    ap (λ (z : Domain Text). machine.with_domain (machine.with_domain s d x) e (with_next z t))
    (domain-with_other s d e x differ)
    ∙ with_domain-comm s d e x y differ
    ∙ ap (λ (z : Domain Text). machine.with_domain (machine.with_domain s e y) d (less z a))
    (sym (domain-with_other s e d y (λ i. differ (sym i))))

given_either : (s : State) (d a e : ℕ) (t : Text) → machine.is_live s d ≡ true
    → aggs.with_agg (aggs.without_agg s d a) e t
    ≡ (if d == e then aggs.with_new s d (without (machine.domain s d).aggs a) t else aggs.without_agg
    (aggs.with_agg s e t) d a)
given_either s d a e t live = elim (cases_eq d e) [
  | inl same ↦ ap (λ n. aggs.with_agg (aggs.without_agg s d a) n t) (sym same) ∙ given_within s d a t live
      ∙ grind (arith, nat_tests, same)
  | inr differ ↦ given_across s d a e t differ ∙ grind (arith, nat_tests, differ)
]

-- The facts of a domain that the giver's change leaves unchanged.

kept : {B : Type 0} (g : Domain (List Slice) → B) (ds : List (Domain (List Slice))) (d e : ℕ) (x : Domain (List Slice))
    → g x ≡ g (domain_in ds d) → g (domain_in (with_domain_in ds d x) e) ≡ g (domain_in ds e)
unfolding domain_in with_domain_in
kept g ds d e x same = elim (numbered_or-with ds d e x no_domain) [
  | inl both ↦ ap g both.1 ∙ same ∙ ap (λ n. g (numbered_or ds n no_domain)) both.0
  | inr other ↦ ap g other
]

pub left_live : (ds : List (Domain (List Slice))) (d a e : ℕ) → (domain_in ds e).live ≡ true
    → (domain_in (without_agg_in ds d a) e).live ≡ true
left_live ds d a e live = kept (λ y. y.live) ds d e (record (domain_in ds d) { aggs = without (domain_in ds d).aggs a })
    refl ∙ live

pub left_next : (ds : List (Domain (List Slice))) (d a e : ℕ)
    → (domain_in (without_agg_in ds d a) e).next_agg ≡ (domain_in ds e).next_agg
left_next ds d a e = kept (λ y. y.next_agg) ds d e (record (domain_in ds d) { aggs = without (domain_in ds d).aggs a })
    refl

-- of the table
pub give_in : {h : KernelState} {d a e : ℕ} → MayGive d a e h → MayGiveIn h.domains d a e
give_in {h} {d} {a} {e} may = record {
  from = agg_live may.has;
  to = live_held (bytes_over [] h.store) h e may.to;
  there = agg_there may.has;
  few = omega (arith, few_numbers (bytes_over [] h.store) h e 1 1 may.few);
}

-- The whole change.

module _ (h : KernelState) (ds : List (Domain (List Slice))) (d a e : ℕ) (may : MayGive d a e h)
    (moved : ds ≡ with_agg_in (without_agg_in h.domains d a) e (slices_in h.domains d a)) where
  moved-read : (f : Reading)
      → read_of f (record h { domains = ds }) ≡ aggs.with_agg (aggs.without_agg (read_of f h) d a) e
      (read f (slices_in h.domains d a))
  unfolding read_of
  moved-read f =
      ap (λ (xs : List (Domain (List Slice))). state_view f xs h.store.pools (objects_of h)) moved
      ∙ with_agg-view f (without_agg_in h.domains d a) h.store.pools (objects_of h) e (slices_in h.domains d a)
      ∙ ap (λ (s : State). aggs.with_agg s e (read f (slices_in h.domains d a)))
      (without_agg-view f h.domains h.store.pools (objects_of h) d a)

  given-each : (f : Reading) → read_of f (record h { domains = ds }) ≡ (aggs.agg_give (read_of f h) d a e).after
  given-each f = moved-read f ∙ ap (aggs.with_agg (aggs.without_agg (read_of f h) d a) e) (sym (text-read_of f h d a))
      ∙ given_either (read_of f h) d a e (machine.text (read_of f h) d a) (is_live-read_of f h d ∙ agg_live may.has)

  given-sound : IsSound (record h { domains = ds })
  given-sound =
      let sound = may.has.lives.sound in
      let live = agg_live may.has in
      let xs : List Slice = slices_in h.domains d a in
      let rest : List (Domain (List Slice)) = without_agg_in h.domains d a in
      let x : Domain (List Slice) = record (domain_in h.domains d) { aggs = without (domain_in h.domains d).aggs a } in
      let y : Domain (List Slice) = with_next (domain_in rest e) xs in
      let found : Some xs ≡ agg_in h.domains d a = found_slices h.domains d a (agg_there may.has) in
      let live' = left_live h.domains d a e (give_in may).to in
      let few : live_aggs_in rest < MAX_AGGREGATES =
      omega (
        arith,
        sound.limits.few,
        sum-with_domain (λ (z : Domain (List Slice)). length z.aggs) h.domains d x
            live,
        length-without (domain_in h.domains d).aggs a xs found,
      ) in
      subst (λ (ys : List (Domain (List Slice))). IsSound (record h { domains = ys })) (sym moved)
      (moved-sound h.store (record h { domains = with_agg_in rest e xs }) (stays_here h.store)
      (record {
        each =
            λ b. omega (
              arith,
              sound.counted.each b,
              uses-without_agg b h.domains d a xs live found,
              uses-with_agg b rest e xs live',
            );
      })
      sound.tidy sound.still sound.reclaimed
      (add_readable h.store rest e xs (drop_readable h d a sound) (agg_readable h d a xs sound found)) sound.objects
      (fds_stay (objects_of h) rest e y (fds_stay (objects_of h) h.domains d x sound.fds refl) refl)
      (once_same rest e y live' refl (once_same h.domains d x live refl sound.once))
      (limits_agg rest (objects_of h) e xs (limits_drop h.domains (objects_of h) d a xs sound.limits live found) live'
      (agg_small h d a xs sound found) few) sound.pooled sound.sums sound.filed sound.cached refl)

  pub given_answers : (n : ℕ) → n ≡ (domain_in h.domains e).next_agg
      → Answers (λ s. aggs.agg_give s d a e) h n (record h { domains = ds })
  given_answers n number = answers_here (λ s. aggs.agg_give s d a e) h (record h { domains = ds }) n given-sound refl
      refl (λ f. number ∙ sym (next_agg-read_of f h e)) refl given-each
