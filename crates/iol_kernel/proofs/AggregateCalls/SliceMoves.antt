-- Effects that regroup a domain's aggregates: its slices move, and the store counts those that were divided.
use Rattle.std.proofs.Common.{◌≡◌, ℕ, ◌+◌, ◌<◌, ◌≤◌, List, [], ◌∷◌, ◌++◌, length, take, drop, ap, ◌∙◌, refl, sym, subst}
use Rattle.std.specs.List.{AllByRecursion}
use Rattle.std.proofs.Common.{arith, Some, true, length-append}
use Rattle.std.proofs.lemmas.List.{map-append, length-take, length-drop}
use Rattle.std.proofs.lemmas.List.Sums.{sum_by-append, sum_by_push}
use Rattle.iol_core.specs.Text.{Text}
use Rattle.iol_core.specs.NumberedLists.{lookup, without}
use Rattle.iol_core.specs.State as machine
use Rattle.iol_core.specs.State.{State, Domain}
use Rattle.iol_core.specs.Calls.Aggregates as aggs
use Rattle.iol_core.specs.declared.numbers.BufId.{BufId}
use Rattle.iol_core.proofs.Lookups.{lookup-without}
use Rattle.iol_pool.specs.Pools.{Pool}
use Rattle.iol_hold.specs.StoreState.{Stored}
use Rattle.iol_arena.specs.State.{page_count}
use Rattle.iol_hold.specs.Moves.{Shares, tally}
use Rattle.iol_hold.specs.Places.{places, byte_len}
use Rattle.iol_hold.specs.Texts.{bufs_of, AllReadable}
use Rattle.iol_hold.specs.declared.slices.Slice.{Slice}
use Rattle.iol_hold.proofs.AtPlaces.{read_taken, read_rest, read-append}
use Rattle.iol_hold.proofs.Counts.{tally-append, bufs-append}
use Rattle.iol_hold.proofs.EmptyPools.{all_reclaimed_same}
use Rattle.iol_hold.proofs.Moves.{shares_move, shares_none}
use Rattle.iol_hold.proofs.ReadSlices.{readable_taken, readable_rest, readable_joined}
use Rattle.iol_hold.proofs.SlicePlaces.{byte_len-append}
use Rattle.iol_desc.specs.Tables.{domain_in, with_domain_in, live_aggs_in}
use Rattle.iol_kernel.specs.Views.{Objects, domain_view, state_view}
use Rattle.iol_kernel.specs.HoldCounts.{uses, domain_uses}
use Rattle.iol_kernel.specs.KernelState.{KernelState, objects_of, IsDomainReadable, IsSound, slices_in, read_of}
use Rattle.iol_kernel.specs.DomainAggregates.{MayJoin, MaySplit}
use Rattle.iol_kernel.specs.Readings.{Reading, bytes_over, read}
use Rattle.iol_kernel.specs.AggregateCalls.{with_two, with_one, joined_in, MayJoinIn, MaySplitIn, SplitsAgg}
use Rattle.iol_kernel.proofs.State.TableCalls.{answers_here, answers_shared}
use Rattle.iol_kernel.proofs.State.Pools.{pools_pooled}
use Rattle.iol_kernel.proofs.State.Effects.{few_aggs, few_numbers, moved-sound}
use Rattle.iol_kernel.proofs.State.Views.{domain-view, with_domain-view, without-map}
use Rattle.iol_kernel.proofs.State.Once.{once_same}
use Rattle.iol_kernel.proofs.State.Sound.{each-push, each-without, each-with_domain_in, aggs_readable, aggs_small}
use Rattle.iol_kernel.proofs.State.Sound.{agg_readable, agg_small, fds_stay}
use Rattle.iol_kernel.proofs.State.Uses.{sum-with_domain, uses-without, length-without}
use Rattle.iol_kernel.proofs.State.ReadOf.{length_text-read_of, next_agg-read_of, text-view}
use Rattle.iol_kernel.proofs.AggregateCalls.Slices.{agg_live, agg_shared, agg_there, found_slices}
use Rattle.iol_core.specs.declared.limits.TheConstants.{MAX_AGGREGATES, MAX_AGGREGATE_BYTES}
use Rattle.iol_kernel.specs.Calls.{Answers}

-- One domain's aggregates change, and the store's counts with them.
regrouped-sound : (h : KernelState) (t : Stored) (d : ℕ) (x : Domain (List Slice)) (given taken : List BufId)
    → IsSound h → (domain_in h.domains d).live ≡ true → x.fds ≡ (domain_in h.domains d).fds
    → Shares h.store t taken given
    → IsDomainReadable h.store x
    → ((b : BufId) → domain_uses b x + tally b taken ≡ domain_uses b (domain_in h.domains d) + tally b given)
    → AllByRecursion (λ (e : ℕ × List Slice). byte_len e.1 ≤ MAX_AGGREGATE_BYTES) x.aggs
    → length x.aggs + live_aggs_in h.domains ≤ 65536 + length (domain_in h.domains d).aggs
    → IsSound (record h { store = t; domains = with_domain_in h.domains d x })
regrouped-sound h t d x given taken sound live same shares readable counts small few =
    moved-sound h.store (record h { store = t; domains = with_domain_in h.domains d x }) (shares_move shares).stays
    (record {
      each =
          λ b. (let s = sum-with_domain (domain_uses b) h.domains d x live in
          omega (arith, sound.counted.each b, shares.counts.each b, counts b, s));
    })
    (shares.tidy sound.tidy) ((shares_move shares).still sound.still)
    (all_reclaimed_same h.store t shares.arena shares.pools sound.reclaimed)
    (each-with_domain_in (IsDomainReadable h.store) h.domains d x sound.domains readable) sound.objects
    (fds_stay (objects_of h) h.domains d x sound.fds same) (once_same h.domains d x live same sound.once)
    (record {
      aggs =
          each-with_domain_in (λ (y : Domain (List Slice)). AllByRecursion (λ e. byte_len e.1 ≤ MAX_AGGREGATE_BYTES)
          y.aggs)
          h.domains d x sound.limits.aggs small;
      few = (let s = sum-with_domain (λ (y : Domain (List Slice)). length y.aggs) h.domains d x live in
          omega (arith, few, s));
      objects = sound.limits.objects;
    })
    (pools_pooled h.store t h.conns h.cache.files shares.pools sound.pooled) sound.sums sound.filed sound.cached
    (ap page_count shares.arena)

-- An aggregate is split.

split-view : (f : Reading) (ds : List (Domain (List Slice))) (ps : List Pool) (qs : Objects (List Slice)) (d a at : ℕ)
    (first second : List Slice) → places first ≡ take at (places (slices_in ds d a))
    → places second ≡ drop at (places (slices_in ds d a))
    → state_view f (with_domain_in ds d (with_two (domain_in ds d) a first second)) ps qs
    ≡ (aggs.agg_split (state_view f ds ps qs) d a at).after
split-view f ds ps qs d a at first second before after =
    let s : State = state_view f ds ps qs in
    let x : Domain (List Slice) = domain_in ds d in
    let n : ℕ = x.next_agg in
    let xs : List Slice = slices_in ds d a in
    let text : Text = machine.text s d a in
    let one : read f first ≡ take at text = read_taken f.at first xs at before
    ∙ ap (λ (w : Text). take at w) (sym (text-view f ds ps qs d a)) in
    let two : read f second ≡ drop at text = read_rest f.at second xs at after
    ∙ ap (λ (w : Text). drop at w) (sym (text-view f ds ps qs d a)) in
    with_domain-view f ds ps qs d (with_two x a first second)
    ∙ ap
    (λ (es : List (ℕ × Text)). machine.with_domain s d (record (domain_view (read f) x) {
      aggs = es;
      next_agg =
          n + 2;
    })) (map-append (λ (e : ℕ × List Slice). (e.0, read f e.1)) (without x.aggs a)
    ((n, first) ∷ (n + 1, second) ∷ []))
    ∙ ap
    (λ (es : List (ℕ × Text)). machine.with_domain s d
    (record (domain_view (read f) x) {
      aggs = es ++ (n, read f first) ∷ (n + 1, read f second) ∷ [];
      next_agg =
          n + 2;
    })) (without-map (read f) x.aggs a)
    ∙ ap
    (λ (w : Text). machine.with_domain s d
    (record (domain_view (read f) x) {
      aggs = without (domain_view (read f) x).aggs a ++ (n, w)
          ∷ (n + 1, read f second) ∷ [];
      next_agg = n + 2;
    })) one
    ∙ ap
    (λ (w : Text). machine.with_domain s d
    (record (domain_view (read f) x) {
      aggs = without (domain_view (read f) x).aggs a ++ (n, take at text)
          ∷ (n + 1, w) ∷ [];
      next_agg = n + 2;
    })) two
    ∙ ap
    (λ (y : Domain Text). machine.with_domain s d
    (record y {
      aggs = without y.aggs a ++ (y.next_agg, take at text) ∷ (y.next_agg + 1, drop at text) ∷ [];
      next_agg = y.next_agg + 2;
    })) (sym (domain-view f ds ps qs d))

module _ (h : KernelState) (t : Stored) (ds : List (Domain (List Slice))) (d a at : ℕ)
    (splits : SplitsAgg h.store t h.domains ds d a at) where
  split-each : (f : Reading)
      → read_of f (record h { store = t; domains = ds }) ≡ (aggs.agg_split (read_of f h) d a at).after
  unfolding read_of
  split-each f =
      ap (λ (ps : List Pool). state_view f ds ps (objects_of h)) splits.shares.pools
      ∙ ap (λ (ys : List (Domain (List Slice))). state_view f ys h.store.pools (objects_of h)) splits.split
      ∙ split-view f h.domains h.store.pools (objects_of h) d a at splits.first splits.second splits.before splits.after

  split-sound : MaySplit d a at h → IsSound (record h { store = t; domains = ds })
  split-sound may =
      let sound = may.has.lives.sound in
      let live = agg_live may.has in
      let few : live_aggs_in h.domains < MAX_AGGREGATES =
      omega (arith, few_aggs (bytes_over [] h.store) h d 2 1 may.few) in
      let x : Domain (List Slice) = domain_in h.domains d in
      let xs : List Slice = slices_in h.domains d a in
      let found = found_slices h.domains d a (agg_there may.has) in
      let readable : AllReadable h.store xs = agg_readable h d a xs sound found in
      let short : byte_len xs ≤ MAX_AGGREGATE_BYTES = agg_small h d a xs sound found in
      let two : List (ℕ × List Slice) = (x.next_agg, splits.first) ∷ (x.next_agg + 1, splits.second) ∷ [] in
      subst (λ (ys : List (Domain (List Slice))). IsSound (record h { store = t; domains = ys })) (sym splits.split)
      (regrouped-sound h t d (with_two x a splits.first splits.second) (bufs_of splits.first ++ bufs_of splits.second)
      (bufs_of xs) sound live refl splits.shares
      (each-two (λ (e : ℕ × List Slice). AllReadable h.store e.1) (without x.aggs a) (x.next_agg, splits.first)
      (x.next_agg + 1, splits.second)
      (each-without (λ (e : ℕ × List Slice). AllReadable h.store e.1) x.aggs a (aggs_readable h d sound))
      (readable_taken splits.first xs at splits.before readable)
      (readable_rest splits.second xs at splits.after readable))
      (λ b. (let u = uses-without b x.aggs a xs found in
      let v = sum_by-append (λ (e : ℕ × List Slice). uses b e.1) (without x.aggs a) two in
      let w = tally-append b (bufs_of splits.first) (bufs_of splits.second) in
      omega (arith, u, v, w)))
      (each-two (λ (e : ℕ × List Slice). byte_len e.1 ≤ MAX_AGGREGATE_BYTES) (without x.aggs a)
      (x.next_agg, splits.first) (x.next_agg + 1, splits.second)
      (each-without (λ (e : ℕ × List Slice). byte_len e.1 ≤ MAX_AGGREGATE_BYTES) x.aggs a (aggs_small h d sound))
      (omega (arith, short, ap length splits.before, length-take at (places xs)))
      (omega (arith, short, ap length splits.after, length-drop at (places xs))))
      (omega (arith, few, length-without x.aggs a xs found, length-append (without x.aggs a) two)))
    where
      each-two : (P : ℕ × List Slice → Type 0) (es : List (ℕ × List Slice)) (e f : ℕ × List Slice) → AllByRecursion P es
          → P e
          → P f → AllByRecursion P (es ++ e ∷ f ∷ [])
      each-two P [] e f h p q = (p, (q, tt))
      each-two P (g ∷ es) e f h p q = (h.0, each-two P es e f h.1 p q)

  pub split_answers : (r : ℕ × ℕ) → MaySplit d a at h
      → r ≡ ((domain_in h.domains d).next_agg, (domain_in h.domains d).next_agg + 1)
      → Answers (λ s. aggs.agg_split s d a at) h r (record h { store = t; domains = ds })
  split_answers r may numbers = answers_shared (λ s. aggs.agg_split s d a at) h (record h { store = t; domains = ds }) r
      (split-sound may) refl refl (λ f. numbers ∙ ap {B = ℕ × ℕ} (λ n. (n, n + 1)) (sym (next_agg-read_of f h d)))
      splits.shares (λ f keeps. split-each f)

-- the same of the table
pub split_in : {h : KernelState} {d a at : ℕ} → MaySplit d a at h → MaySplitIn h.store h.domains d a at
split_in {h} {d} {a} {at} may = record {
  live = agg_live may.has;
  there = agg_there may.has;
  few = omega (arith, few_numbers (bytes_over [] h.store) h d 2 1 may.few);
  within = subst (λ n. at ≤ n) (length_text-read_of (bytes_over [] h.store) h d a) may.within;
  shared = agg_shared may.has;
}

-- Two aggregates are joined; the store is unchanged.

join-view : (f : Reading) (ds : List (Domain (List Slice))) (ps : List Pool) (qs : Objects (List Slice)) (d a b : ℕ)
    → state_view f (joined_in ds d a b) ps qs ≡ (aggs.agg_join (state_view f ds ps qs) d a b).after
join-view f ds ps qs d a b =
    let s : State = state_view f ds ps qs in
    let x : Domain (List Slice) = domain_in ds d in
    let n : ℕ = x.next_agg in
    let whole : List Slice = slices_in ds d a ++ slices_in ds d b in
    let text : Text = machine.text s d a ++ machine.text s d b in
    let one : read f whole ≡ text =
    read-append f.at (slices_in ds d a) (slices_in ds d b)
    ∙ ap (λ (w : Text). w ++ read f (slices_in ds d b)) (sym (text-view f ds ps qs d a))
    ∙ ap (λ (w : Text). machine.text s d a ++ w) (sym (text-view f ds ps qs d b)) in
    with_domain-view f ds ps qs d (with_one x a b whole)
    ∙ ap
    (λ (es : List (ℕ × Text)). machine.with_domain s d (record (domain_view (read f) x) {
      aggs = es;
      next_agg =
          n + 1;
    })) (map-append (λ (e : ℕ × List Slice). (e.0, read f e.1)) (without (without x.aggs a) b)
    ((n, whole) ∷ []))
    ∙ ap
    (λ (es : List (ℕ × Text)). machine.with_domain s d
    (record (domain_view (read f) x) { aggs = es ++ (n, read f whole) ∷ []; next_agg = n + 1 }))
    (without-map (read f) (without x.aggs a) b)
    ∙ ap
    (λ (es : List (ℕ × Text)). machine.with_domain s d
    (record (domain_view (read f) x) { aggs = without es b ++ (n, read f whole) ∷ []; next_agg = n + 1 }))
    (without-map (read f) x.aggs a)
    ∙ ap
    (λ (w : Text). machine.with_domain s d
    (record (domain_view (read f) x) {
      aggs = without (without (domain_view (read f) x).aggs a) b ++ (n, w) ∷ [];
      next_agg = n + 1;
    })) one
    ∙ ap
    (λ (y : Domain Text). machine.with_domain s d
    (record y { aggs = without (without y.aggs a) b ++ (y.next_agg, text) ∷ []; next_agg = y.next_agg + 1 }))
    (sym (domain-view f ds ps qs d))

join_short : {h : KernelState} {d a b : ℕ} → MayJoin d a b h
    → byte_len (slices_in h.domains d a) + byte_len (slices_in h.domains d b) ≤ MAX_AGGREGATE_BYTES
join_short {h} {d} {a} {b} may =
    omega (
      arith,
      may.short,
      length_text-read_of (bytes_over [] h.store) h d a,
      length_text-read_of (bytes_over [] h.store) h d b,
    )

pub join_in : {h : KernelState} {d a b : ℕ} → MayJoin d a b h → MayJoinIn h.domains d a b
join_in {h} {d} may = record {
  live = agg_live may.first;
  first = agg_there may.first;
  second = agg_there may.second;
  differ = may.differ;
  few = omega (arith, few_numbers (bytes_over [] h.store) h d 1 2 may.few);
  small = omega (arith, join_short may);
}

module _ (h : KernelState) (ds : List (Domain (List Slice))) (d a b : ℕ) (joined : ds ≡ joined_in h.domains d a b) where
  join-each : (f : Reading) → read_of f (record h { domains = ds }) ≡ (aggs.agg_join (read_of f h) d a b).after
  unfolding read_of
  join-each f = ap (λ (ys : List (Domain (List Slice))). state_view f ys h.store.pools (objects_of h)) joined
      ∙ join-view f h.domains h.store.pools (objects_of h) d a b

  join-sound : MayJoin d a b h → IsSound (record h { domains = ds })
  join-sound may =
      let sound = may.first.lives.sound in
      let live = agg_live may.first in
      let x : Domain (List Slice) = domain_in h.domains d in
      let xs : List Slice = slices_in h.domains d a in
      let ys : List Slice = slices_in h.domains d b in
      let found = found_slices h.domains d a (agg_there may.first) in
      let other = found_slices h.domains d b (agg_there may.second) in
      let also : Some ys ≡ lookup (without x.aggs a) b = other ∙ sym (lookup-without x.aggs a b may.differ) in
      let readable : AllReadable h.store (xs ++ ys) =
      readable_joined (agg_readable h d a xs sound found) (agg_readable h d b ys sound other) in
      let rest : List (ℕ × List Slice) = without (without x.aggs a) b in
      subst (λ (zs : List (Domain (List Slice))). IsSound (record h { domains = zs })) (sym joined)
      (regrouped-sound h h.store d (with_one x a b (xs ++ ys)) [] [] sound live refl (shares_none h.store)
      (each-push (λ (e : ℕ × List Slice). AllReadable h.store e.1) rest (x.next_agg, xs ++ ys)
      (each-without (λ (e : ℕ × List Slice). AllReadable h.store e.1) (without x.aggs a) b
      (each-without (λ (e : ℕ × List Slice). AllReadable h.store e.1) x.aggs a (aggs_readable h d sound))) readable)
      (λ c. (let u = uses-without c x.aggs a xs found in
      let v = uses-without c (without x.aggs a) b ys also in
      let w = sum_by_push (λ (e : ℕ × List Slice). uses c e.1) rest (x.next_agg, xs ++ ys) in
      let t = ap (tally c) (bufs-append xs ys) ∙ tally-append c (bufs_of xs) (bufs_of ys) in
      omega (arith, u, v, w, t)))
      (each-push (λ (e : ℕ × List Slice). byte_len e.1 ≤ MAX_AGGREGATE_BYTES) rest (x.next_agg, xs ++ ys)
      (each-without (λ (e : ℕ × List Slice). byte_len e.1 ≤ MAX_AGGREGATE_BYTES) (without x.aggs a) b
      (each-without (λ (e : ℕ × List Slice). byte_len e.1 ≤ MAX_AGGREGATE_BYTES) x.aggs a (aggs_small h d sound)))
      (omega (arith, join_short may, byte_len-append xs ys)))
      (omega (
        arith,
        sound.limits.few,
        length-without x.aggs a xs found,
        length-without (without x.aggs a) b ys also,
        length-append rest ((x.next_agg, xs ++ ys) ∷ []),
      )))

  pub join_answers : (n : ℕ) → MayJoin d a b h → n ≡ (domain_in h.domains d).next_agg
      → Answers (λ s. aggs.agg_join s d a b) h n (record h { domains = ds })
  join_answers n may number = answers_here (λ s. aggs.agg_join s d a b) h (record h { domains = ds }) n (join-sound may)
      refl refl (λ f. number ∙ sym (next_agg-read_of f h d)) refl join-each
