-- A domain gets an aggregate of bytes that are in memory already: the step of the machine and of the layout, and the
-- invariant.
use Rattle.std.proofs.Common.{[], refl, ◌≡◌, ℕ, ◌-◌, ◌<◌, ◌≤◌, List, ◌++◌, length, length-append, take, drop}
use Rattle.std.proofs.Common.{slice_range, ap, ◌∙◌, sym, arith, true}
use Rattle.std.proofs.lemmas.List.Elements.{All-append, All-take, All-drop, All-same}
use Rattle.std.proofs.lemmas.List.{take_all, length-take, length-drop}
use Rattle.iol_core.specs.Text.{Text}
use Rattle.iol_core.specs.Meaning.{Meaning}
use Rattle.iol_core.specs.State as machine
use Rattle.iol_core.specs.State.{State, Domain}
use Rattle.iol_core.specs.Calls.Aggregates as aggs
use Rattle.iol_pool.specs.Pools.{Pool}
use Rattle.iol_arena.specs.State.{page_count}
use Rattle.iol_hold.specs.StoreState.{Stored}
use Rattle.iol_hold.specs.Places.{Place, places, byte_len}
use Rattle.iol_kernel.specs.Readings.{Reading, read, bytes_over}
use Rattle.iol_hold.specs.Texts.{AllReadable, IsThere}
use Rattle.iol_hold.specs.declared.slices.Slice.{Slice}
use Rattle.iol_hold.proofs.AtPlaces.{read_cut, read_replaced}
use Rattle.iol_hold.proofs.EmptyPools.{all_reclaimed_same}
use Rattle.iol_hold.proofs.Moves.{shares_move, covers_given}
use Rattle.iol_hold.proofs.ReadSlices.{readable_stays}
use Rattle.iol_desc.specs.Tables.{domain_in, live_aggs_in}
use Rattle.iol_kernel.specs.Views.{state_view}
use Rattle.iol_kernel.specs.NewAggregates.{replaced, AddsShared}
use Rattle.iol_kernel.specs.DomainAggregates.{MayCut, MayReplace}
use Rattle.iol_kernel.specs.KernelState.{KernelState, objects_of, machine_of, IsSound, slices_in, read_of}
use Rattle.iol_kernel.proofs.State.TableCalls.{answers_as, answers_shared}
use Rattle.iol_kernel.proofs.State.Views.{with_agg-view}
use Rattle.iol_kernel.proofs.State.Effects.{few_aggs, gained-sound}
use Rattle.iol_kernel.proofs.State.ReadOf.{text-read_of, length_text-read_of, next_agg-read_of}
use Rattle.iol_kernel.proofs.AggregateCalls.Slices.{agg_live, slices_readable, slices_small}
use Rattle.iol_core.specs.declared.limits.TheConstants.{MAX_AGGREGATES, MAX_AGGREGATE_BYTES}
use Rattle.iol_kernel.specs.Calls.{Answers}

module _ (h : KernelState) (t : Stored) (ds : List (Domain (List Slice))) (d : ℕ) (bytes : List Place)
    (adds : AddsShared h.store t h.domains ds d bytes) where
  added-read : (f : Reading)
      → read_of f (record h { store = t; domains = ds }) ≡ aggs.with_agg (read_of f h) d (read f adds.slices)
  unfolding read_of
  added-read f =
      ap (λ (xs : List (Domain (List Slice))). state_view f xs t.pools (objects_of h)) adds.added
      ∙ with_agg-view f h.domains t.pools (objects_of h) d adds.slices
      ∙ ap (λ (ps : List Pool). aggs.with_agg (state_view f h.domains ps (objects_of h)) d (read f adds.slices))
      adds.shares.pools

  added-sound : IsSound h → (domain_in h.domains d).live ≡ true → live_aggs_in h.domains < MAX_AGGREGATES
      → AllReadable h.store adds.slices → byte_len adds.slices ≤ MAX_AGGREGATE_BYTES
      → IsSound (record h { store = t; domains = ds })
  added-sound sound live few readable small =
      gained-sound h t ds d adds.slices sound live few small
      (readable_stays adds.slices (shares_move adds.shares).stays (covers_given adds.shares.counts) readable)
      (shares_move adds.shares)
      (all_reclaimed_same h.store t adds.shares.arena adds.shares.pools sound.reclaimed) adds.shares.pools
      (ap page_count adds.shares.arena) adds.added

  -- a call that adds these bytes, and has no other effect, is answered
  added_answers : (m : State → Meaning ℕ) (n : ℕ) → ((f : Reading) → n ≡ (m (read_of f h)).answer)
      → ((f : Reading) → aggs.with_agg (read_of f h) d (read f adds.slices) ≡ (m (read_of f h)).after)
      → IsSound (record h { store = t; domains = ds }) → Answers m h n (record h { store = t; domains = ds })
  added_answers m n number after sound =
      answers_shared m h (record h { store = t; domains = ds }) n sound refl refl number adds.shares
      (λ f keeps. added-read f ∙ after f)

-- Part of an aggregate.

few_cut : {h : KernelState} {d a from to : ℕ} → MayCut d a from to h → live_aggs_in h.domains < MAX_AGGREGATES
few_cut {h} {d} may = omega (arith, few_aggs (bytes_over [] h.store) h d 1 0 may.few)

module _ (h : KernelState) (t : Stored) (ds : List (Domain (List Slice))) (d a from to n : ℕ)
    (adds : AddsShared h.store t h.domains ds d (slice_range (places (slices_in h.domains d a)) from to))
    (may : MayCut d a from to h) (number : n ≡ (domain_in h.domains d).next_agg) where
  cut-sound : IsSound (record h { store = t; domains = ds })
  cut-sound =
      let sound = may.has.lives.sound in
      let xs : List Slice = slices_in h.domains d a in
      added-sound h t ds d _ adds sound (agg_live may.has) (few_cut may)
      (record {
        each =
            All-same (IsThere h.store) _ _ adds.is_there
            (All-take (IsThere h.store) (to - from) (drop from (places xs))
            (All-drop (IsThere h.store) from (places xs) (slices_readable h d a sound).each));
      })
      (omega (
        arith,
        slices_small h d a sound,
        ap length adds.is_there,
        length-take (to - from) (drop from (places xs)),
        length-drop from (places xs),
      ))

  pub cut_answers : Answers (λ s. aggs.agg_cut s d a from to) h n (record h { store = t; domains = ds })
  cut_answers =
      added_answers h t ds d _ adds (λ s. aggs.agg_cut s d a from to) n (λ f. number ∙ sym (next_agg-read_of f h d))
      (λ f. ap (aggs.with_agg (read_of f h) d)
      (read_cut f.at adds.slices (slices_in h.domains d a) from to adds.is_there
      ∙ ap (λ (u : Text). slice_range u from to) (sym (text-read_of f h d a)))) cut-sound

-- a copy of an aggregate is a cut of all its bytes
pub dup_answers : (h k : KernelState) (d a len n : ℕ) → ((f : Reading) → len ≡ length (machine.text (read_of f h) d a))
    → Answers (λ s. aggs.agg_cut s d a 0 len) h n k → Answers (λ s. aggs.agg_dup s d a) h n k
dup_answers h k d a len n all cut =
    answers_as (λ s. aggs.agg_cut s d a 0 len) (λ s. aggs.agg_dup s d a) h k n (λ f. refl)
    (λ f. ap (aggs.with_agg (read_of f h) d) (whole (machine.text (read_of f h) d a) len (all f))) cut
  where
    whole : (u : Text) (n : ℕ) → n ≡ length u → slice_range u 0 n ≡ u
    whole u n is = rw is (take_all (length u - 0) u (omega arith))

-- An aggregate with another in place of a range.

module _ (h : KernelState) (t : Stored) (ds : List (Domain (List Slice))) (d a from to b n : ℕ)
    (adds : AddsShared h.store t h.domains ds d
    (replaced (places (slices_in h.domains d a)) from to (places (slices_in h.domains d b))))
    (may : MayReplace d a from to b h) (number : n ≡ (domain_in h.domains d).next_agg) where
  replaced-sound : IsSound (record h { store = t; domains = ds })
  replaced-sound =
      let xs : List Place = places (slices_in h.domains d a) in
      let ys : List Place = places (slices_in h.domains d b) in
      let P : Place → Type 0 = IsThere h.store in
      let sound = may.other.lives.sound in
      let good = (slices_readable h d a sound).each in
      added-sound h t ds d _ adds sound (agg_live may.other) (few_cut may.cuts)
      (record {
        each = All-same P _ _ adds.is_there
            (All-append P (take from xs ++ ys) (drop to xs)
            (All-append P (take from xs) ys (All-take P from xs good) (slices_readable h d b sound).each)
            (All-drop P to xs good));
      })
      (omega (arith, may.small, ap length adds.is_there, as_long))
    where
      as_long : length (replaced (places (slices_in h.domains d a)) from to (places (slices_in h.domains d b)))
          ≡ length (replaced (machine.text (machine_of [] h) d a) from to (machine.text (machine_of [] h) d b))
      as_long =
          let x : List Place = places (slices_in h.domains d a) in
          let y : List Place = places (slices_in h.domains d b) in
          let u : Text = machine.text (machine_of [] h) d a in
          let v : Text = machine.text (machine_of [] h) d b in
          omega (
            arith,
            length_text-read_of (bytes_over [] h.store) h d a,
            length_text-read_of (bytes_over [] h.store) h d b,
            length-append (take from x ++ y) (drop to x),
            length-append (take from x) y,
            length-take from x,
            length-drop to x,
            length-append (take from u ++ v) (drop to u),
            length-append (take from u) v,
            length-take from u,
            length-drop to u,
          )

  pub replaced_answers : Answers (λ s. aggs.agg_replace s d a from to b) h n (record h { store = t; domains = ds })
  replaced_answers =
      added_answers h t ds d _ adds (λ s. aggs.agg_replace s d a from to b) n (λ f. number
      ∙ sym (next_agg-read_of f h d))
      (λ f. ap (aggs.with_agg (read_of f h) d)
      (read_replaced f.at adds.slices (slices_in h.domains d a) (slices_in h.domains d b) from to adds.is_there
      ∙ ap (λ (u : Text). replaced u from to (read f (slices_in h.domains d b))) (sym (text-read_of f h d a))
      ∙ ap (λ (u : Text). replaced (machine.text (read_of f h) d a) from to u) (sym (text-read_of f h d b))))
      replaced-sound
