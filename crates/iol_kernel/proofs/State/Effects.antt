-- The parts of the effects of calls: a change of the held slices, as the machine sees it, and the invariant after it.
use Rattle.std.proofs.Common.{◌≡◌, ℕ, ◌+◌, ◌<◌, ◌≤◌, List, [], ◌∷◌, ◌++◌, length, map, ap, ◌∙◌, refl, sym, subst, arith}
use Rattle.std.proofs.Common.{Option, Some, true, false}
use Rattle.std.specs.Prelude.{MatchOption, None, Err, nat_lt, ◌||◌}
use Rattle.std.proofs.lemmas.Bool.Decides.{nat_tests}
use Rattle.iol_core.specs.declared.descriptors.Descriptor.{Descriptor}
use Rattle.iol_core.specs.Meaning.{Meaning, first}
use Rattle.iol_core.specs.declared.refusals.Refusal.{Refusal}
use Rattle.iol_core.specs.Text.{Text}
use Rattle.iol_core.specs.NumberedLists.{with_numbered}
use Rattle.iol_core.specs.State as machine
use Rattle.iol_core.specs.State.{State, Domain, new_domain}
use Rattle.iol_core.specs.Calls.Aggregates as aggs
use Rattle.iol_core.specs.Calls.Descriptors as fds
use Rattle.iol_core.specs.Calls.Pools as pools
use Rattle.iol_pool.specs.Pools.{Pool, with_closed}
use Rattle.iol_hold.specs.StoreState.{Stored, IsTidy, IsStill, AllReclaimed}
use Rattle.iol_hold.specs.Moves.{Stays, Moves, SameLists, pool_meant}
use Rattle.iol_hold.specs.Texts.{text_of, bufs_of, AllReadable}
use Rattle.iol_hold.specs.declared.slices.Slice.{Slice}
use Rattle.iol_hold.specs.Pages.{KeepsPages}
use Rattle.iol_hold.specs.Releases.{FreesOnly}
use Rattle.iol_hold.specs.Room.{lowest_of}
use Rattle.iol_hold.proofs.PageChanges.{keeps_pages_frees, keeps_pages_trans}
use Rattle.iol_hold.proofs.Counts.{tally_none}
use Rattle.iol_hold.specs.Places.{byte_len}
use Rattle.iol_hold.proofs.ReadSlices.{length-text_of}
use Rattle.iol_desc.specs.Tables.{domain_in, with_domain_in, with_next, agg_in, with_agg_in, without_agg_in}
use Rattle.iol_desc.specs.Tables.{live_aggs_in, with_fds_in}
use Rattle.iol_kernel.specs.Views.{Objects, state_view}
use Rattle.iol_kernel.specs.HoldCounts.{IsCounted, domain_uses}
use Rattle.iol_kernel.specs.EndCounts.{IsOpenOnce, ends_on}
use Rattle.iol_kernel.specs.KernelState.{KernelState, objects_of, machine_of, IsDomainReadable, AreReadable}
use Rattle.iol_kernel.specs.KernelState.{IsOpenEnd, ArePooled, AreFiled, IsCached, IsSound, IsLimited, read_of}
use Rattle.iol_kernel.specs.Readings.{Reading, read, bytes_over}
use Rattle.iol_kernel.proofs.State.TableCalls.{answers_here}
use Rattle.iol_kernel.proofs.State.Views.{pools-view, closed-view, added_pool-view, add_domain-view, with_agg-view}
use Rattle.iol_kernel.proofs.State.Views.{without_agg-view, with_fds-view, with_domain-view, domain-view}
use Rattle.iol_kernel.proofs.State.Views.{live_aggs-view}
use Rattle.iol_kernel.proofs.State.Uses.{uses-with_agg, uses-without_agg}
use Rattle.iol_kernel.proofs.State.Once.{once_same}
use Rattle.iol_arena.specs.State.{page_count}
use Rattle.iol_kernel.proofs.State.Slots.{cache_stays}
use Rattle.iol_kernel.proofs.State.Sound.{AreHeld, counted_held, domains_stay, files_held, objects_stay, view-stays}
use Rattle.iol_kernel.proofs.State.Sound.{sound_with, sound_fds, ends_open, limits_agg, limits_drop, drop_readable}
use Rattle.iol_kernel.proofs.State.Sound.{add_readable, fds_stay, each-push, agg_readable}
use Rattle.iol_core.specs.declared.limits.TheConstants.{MAX_AGGREGATES, MAX_AGGREGATE_BYTES, MAX_POOLS}
use Rattle.iol_hold.proofs.Moves.{stays_trans}
use Rattle.iol_kernel.proofs.State.ReadOf.{next_agg-read_of}
use Rattle.iol_kernel.proofs.State.Stay.{stays_here, pages_here}
use Rattle.iol_kernel.proofs.State.Pools.{same_pooled, pools_pooled, one_more_pool, one_closed}
use Rattle.iol_sum.specs.Sums.{IsRight}
use Rattle.iol_sum.proofs.KeptSums.{IsRight-keeps}
use Rattle.std.specs.Prelude.{◌==◌}
use Rattle.std.specs.List.{list_any, AllByRecursion}
use Rattle.iol_kernel.specs.NewAggregates.{AddsText}
use Rattle.iol_kernel.specs.Calls.{MakesAgg, Answers, Leaves, KeepsPlaces}
use Rattle.std.proofs.lemmas.List.Sums.{sum_by_push}

-- a new domain

pub grown-read : (f : Reading) (h : KernelState) (ds : List (Domain (List Slice))) → ds ≡ h.domains ++ new_domain ∷ []
    → read_of f (record h { domains = ds }) ≡ record (read_of f h) {
      domains =
          (read_of f h).domains ++ new_domain ∷ [];
    }
unfolding read_of
grown-read f h ds is = ap (λ (xs : List (Domain (List Slice))). state_view f xs h.store.pools (objects_of h)) is
    ∙ add_domain-view f h.domains h.store.pools (objects_of h)

pub grown-sound : (h : KernelState) (ds : List (Domain (List Slice))) → IsSound h → ds ≡ h.domains ++ new_domain ∷ []
    → IsSound (record h { domains = ds })
grown-sound h ds sound is =
    subst (λ (ys : List (Domain (List Slice))). IsSound (record h { domains = ys })) (sym is) (record {
      domains = each-push (IsDomainReadable h.store) h.domains new_domain sound.domains tt;
      objects = sound.objects;
      fds = each-push (λ (x : Domain (List Slice)). AllByRecursion (IsOpenEnd (objects_of h)) x.fds) h.domains
          new_domain
          sound.fds
          tt;
      once =
          record {
            each =
                λ e. omega (
                  arith,
                  sound.once.each e,
                  sum_by_push (λ (x : Domain (List Slice)). ends_on e x.fds) h.domains
                      new_domain,
                );
          };
      counted =
          record { each = λ b. omega (arith, sound.counted.each b, sum_by_push (domain_uses b) h.domains new_domain) };
      tidy = sound.tidy;
      still = sound.still;
      reclaimed = sound.reclaimed;
      limits = record {
        aggs = each-push (λ (x : Domain (List Slice)). AllByRecursion (λ e. byte_len e.1 ≤ MAX_AGGREGATE_BYTES) x.aggs)
            h.domains
            new_domain sound.limits.aggs tt;
        few =
            omega (
              arith,
              sound.limits.few,
              sum_by_push (λ (x : Domain (List Slice)). length x.aggs) h.domains
                  new_domain,
            );
        objects = sound.limits.objects;
      };
      pooled = sound.pooled;
      sums = sound.sums;
      filed = sound.filed;
      cached = sound.cached;
    })

-- no more aggregates, and no more numbers, than there may be

pub few_numbers : (f : Reading) (h : KernelState) (d made given : ℕ)
    → aggs.too_many_aggs (read_of f h) d made given ≡ false
    → (domain_in h.domains d).next_agg + made ≤ 18446744073709551615
few_numbers f h d made given few =
    omega (
      arith,
      next_agg-read_of f h d,
      within (machine.live_aggs (read_of f h)) (machine.domain (read_of f h) d).next_agg few,
    )
  where
    within : (n m : ℕ) → (nat_lt (65536 + given) (n + made) || nat_lt (18446744073709551614 + 1) (m + made)) ≡ false
        → m + made ≤ 18446744073709551615
    within n m few = grind (arith, nat_tests, few)

-- one more aggregate, in an unchanged table
pub few_kept : (h : KernelState) (d : ℕ) {ds : List (Domain (List Slice))}
    → aggs.too_many_aggs (machine_of [] h) d 1 0 ≡ false → ds ≡ h.domains
    → (domain_in ds d).next_agg + 1 ≤ 18446744073709551615
few_kept h d few same =
    omega (
      arith,
      few_numbers (bytes_over [] h.store) h d 1 0 few,
      ap (λ (ys : List (Domain (List Slice))). (domain_in ys d).next_agg) same,
    )

pub few_aggs : (f : Reading) (h : KernelState) (d made given : ℕ)
    → aggs.too_many_aggs (read_of f h) d made given ≡ false → live_aggs_in h.domains + made ≤ 65536 + given
unfolding read_of
few_aggs f h d made given few =
    omega (
      arith,
      live_aggs-view f h.domains h.store.pools (objects_of h),
      within (machine.live_aggs (read_of f h)) (machine.domain (read_of f h) d).next_agg few,
    )
  where
    within : (n m : ℕ) → (nat_lt (65536 + given) (n + made) || nat_lt (18446744073709551614 + 1) (m + made)) ≡ false
        → n + made ≤ 65536 + given
    within n m few = grind (arith, nat_tests, few)

-- steps of the store

-- held slices have the same bytes
pub moved-read : (s : Stored) (k : KernelState) → Stays s k.store → AreHeld k.store k.domains (objects_of k)
    → AllByRecursion (IsDomainReadable s) k.domains → AreReadable s (objects_of k) → (stored : List (List ℕ))
    → machine_of stored k ≡ read_of (bytes_over stored s) k
unfolding read_of
moved-read s k stays held e o stored = view-stays s k.store stays k.domains (objects_of k) held k.store.pools e o stored

-- a change of the tables that is the same for each reading, with a step of the store
pub leaves : (after : State → State) (h k : KernelState) → ((f : Reading) → read_of f k ≡ after (read_of f h))
    → k.sums ≡ h.sums → k.cache ≡ h.cache
    → Stays h.store k.store → KeepsPages h.store k.store [] → AllByRecursion (IsDomainReadable h.store) k.domains
    → AreReadable h.store (objects_of k) → IsSound k → Leaves after h k
leaves after h k reads sums cache stays pages e o sound = record {
  bytes = λ stored. moved-read h.store k stays (counted_held sound.counted) e o stored
      ∙ reads (bytes_over stored h.store);
  places = λ f keeps. reads f;
  pages = pages;
  sums = sums;
  cache = cache;
  sound = sound;
  stays = stays;
}

pub moved-sound : (s : Stored) (k : KernelState) → Stays s k.store → IsCounted k.store k.domains (objects_of k)
    → IsTidy k.store → IsStill k.store.arena → AllReclaimed k.store → AllByRecursion (IsDomainReadable s) k.domains
    → AreReadable s (objects_of k)
    → AllByRecursion (λ (d : Domain (List Slice)). AllByRecursion (IsOpenEnd (objects_of k)) d.fds) k.domains
    → IsOpenOnce k.domains
    → IsLimited k.domains (objects_of k) → ArePooled k.store.pools k.conns k.cache.files → IsRight s.arena k.sums
    → AreFiled k.files k.cache.files → IsCached s k.cache → page_count k.store.arena ≡ page_count s.arena
    → IsSound k
moved-sound s k stays counted tidy still reclaimed e o fds once limits pooled sums filed cached count = record {
  domains = domains_stay s k.store stays k.domains (objects_of k) (counted_held counted) e;
  objects = objects_stay s k.store stays k.domains (objects_of k) (counted_held counted) o;
  fds = fds;
  once = once;
  counted = counted;
  tidy = tidy;
  still = still;
  reclaimed = reclaimed;
  limits = limits;
  pooled = pooled;
  sums = IsRight-keeps s.arena k.store.arena k.sums stays.keeps sums;
  filed = filed;
  cached =
      cache_stays s k.store k.cache stays (files_held s k.store stays k.domains (objects_of k) (counted_held counted))
      count pooled.files_open tidy still cached;
}

-- the tables change, and the store stays
pub leaves_here : (after : State → State) (h : KernelState) (ds : List (Domain (List Slice)))
    → ((f : Reading) → read_of f (record h { domains = ds }) ≡ after (read_of f h))
    → IsSound (record h { domains = ds }) → Leaves after h (record h { domains = ds })
leaves_here after h ds reads sound =
    record {
      bytes = λ stored. reads (bytes_over stored h.store);
      places = λ f keeps. reads f;
      pages =
          pages_here h.store;
      sums = refl;
      cache = refl;
      sound = sound;
      stays = stays_here h.store;
    }

-- a late refusal
pub keeps_late : {A : Type 0} (m : State → Meaning A) (h k : KernelState) (x : Refusal) → k ≡ h → IsSound h
    → ((f : Reading) → first (m (read_of f h)).refusals ≡ None) → ((f : Reading) → (m (read_of f h)).Late x)
    → KeepsPlaces m h (Err x) k
keeps_late {A} m h k x same sound none late =
    subst (λ (l : KernelState). KeepsPlaces m h (Err x) l) (sym same) (record {
      step = λ stored. (
        of (m (machine_of stored h)) (none (bytes_over stored h.store)) (late (bytes_over stored h.store)),
        refl,
      );
      places = λ f keeps. (of (m (read_of f h)) (none f) (late f), refl);
      pages = pages_here h.store;
      sums = refl;
      cache = refl;
      refused = refl;
      sound = sound;
      stays = stays_here h.store;
    })
  where
    of : (n : Meaning A) → first n.refusals ≡ None → n.Late x → MatchOption (first n.refusals) (n.Late x) (λ y. x ≡ y)
    of n none late = rw none late

same_lists : (h k : KernelState) → (machine_of [] k).pools ≡ (machine_of [] h).pools → SameLists h.store k.store
unfolding read_of state_view
same_lists h k same = same

-- one change after another: the first leaves the machine's pools unchanged
pub leaves_then : (m n : State → State) (h k l : KernelState) → ((s : State) → (m s).pools ≡ s.pools) → Leaves m h k
    → Leaves n k l → Leaves (λ s. n (m s)) h l
leaves_then m n h k l pools one two = record {
  bytes = λ stored. two.bytes stored ∙ ap n (one.bytes stored);
  places = λ f keeps. two.places f keeps ∙ ap n (one.places f keeps);
  pages = keeps_pages_trans (same_lists h k (ap (λ (s : State). s.pools) (one.bytes []) ∙ pools (machine_of [] h)))
      one.pages two.pages;
  sums = two.sums ∙ one.sums;
  cache = two.cache ∙ one.cache;
  sound = two.sound;
  stays = stays_trans one.stays two.stays;
}

-- the same change, in another form
pub leaves_as : (m n : State → State) (h k : KernelState) → ((f : Reading) → m (read_of f h) ≡ n (read_of f h))
    → Leaves m h k → Leaves n h k
leaves_as m n h k same one = record {
  bytes = λ stored. one.bytes stored ∙ same (bytes_over stored h.store);
  places =
      λ f keeps. one.places f keeps ∙ same f;
  pages = one.pages;
  sums = one.sums;
  cache = one.cache;
  sound =
      one.sound;
  stays = one.stays;
}

-- a domain gets an aggregate of new bytes

pub adds_held : (s t : Stored) (ds : List (Domain (List Slice))) (qs : Objects (List Slice)) (xs : List Slice)
    → IsCounted s ds qs → Moves s t [] (bufs_of xs) → AreHeld t ds qs
adds_held s t ds qs xs counted m = record { each = λ b. omega (arith, counted.each b, m.counts.each b, tally_none b) }

module _ (h : KernelState) (t : Stored) (ds : List (Domain (List Slice))) (d : ℕ) (text : Text) (placed : List ℕ)
    (sound : IsSound h) (adds : AddsText h.store t h.domains ds d text placed) where
  placed-read : (f : Reading)
      → read_of f (record h { store = t; domains = ds }) ≡ aggs.with_agg (read_of f h) d (read f adds.slices)
  unfolding read_of
  placed-read f =
      ap (λ (xs : List (Domain (List Slice))). state_view f xs t.pools (objects_of h)) adds.added
      ∙ with_agg-view f h.domains t.pools (objects_of h) d adds.slices
      ∙ ap (λ (ps : List Pool). aggs.with_agg (state_view f h.domains ps (objects_of h)) d (read f adds.slices))
      adds.pools

  held-read : (stored : List (List ℕ)) → read_of (bytes_over stored t) h ≡ machine_of stored h
  unfolding read_of
  held-read stored =
      view-stays h.store t adds.moves.stays h.domains (objects_of h)
      (adds_held h.store t h.domains (objects_of h) adds.slices sound.counted adds.moves) h.store.pools sound.domains
      sound.objects stored

  pub placed-machine : (stored : List (List ℕ))
      → machine_of stored (record h { store = t; domains = ds }) ≡ aggs.with_agg (machine_of stored h) d text
  placed-machine stored =
      placed-read (bytes_over stored t)
      ∙ ap (λ (x : State). aggs.with_agg x d (text_of t adds.slices)) (held-read stored)
      ∙ ap (aggs.with_agg (machine_of stored h) d) adds.is_text

-- a domain gets an aggregate of these slices
pub gained-sound : (h : KernelState) (t : Stored) (ds : List (Domain (List Slice))) (d : ℕ) (xs : List Slice)
    → IsSound h → (domain_in h.domains d).live ≡ true → live_aggs_in h.domains < MAX_AGGREGATES
    → byte_len xs ≤ MAX_AGGREGATE_BYTES → AllReadable t xs → Moves h.store t [] (bufs_of xs) → AllReclaimed t
    → t.pools ≡ h.store.pools → page_count t.arena ≡ page_count h.store.arena
    → ds ≡ with_agg_in h.domains d xs → IsSound (record h { store = t; domains = ds })
gained-sound h t ds d xs sound live few small readable moves reclaimed pools count added =
    let held = adds_held h.store t h.domains (objects_of h) xs sound.counted moves in
    let x : Domain (List Slice) = domain_in h.domains d in
    let still_pooled = pools_pooled h.store t h.conns h.cache.files pools sound.pooled in
    subst (λ (ys : List (Domain (List Slice))). IsSound (record h { store = t; domains = ys })) (sym added) (record {
      domains =
          add_readable t h.domains d xs (domains_stay h.store t moves.stays h.domains (objects_of h) held sound.domains)
          readable;
      objects = objects_stay h.store t moves.stays h.domains (objects_of h) held sound.objects;
      fds = fds_stay (objects_of h) h.domains d (with_next x xs) sound.fds refl;
      once = once_same h.domains d (with_next x xs) live refl sound.once;
      counted =
          record {
            each =
                λ b. omega (
                  arith,
                  sound.counted.each b,
                  moves.counts.each b,
                  tally_none b,
                  uses-with_agg b h.domains d xs live,
                );
          };
      tidy = moves.tidy sound.tidy;
      still = moves.still sound.still;
      reclaimed = reclaimed;
      limits = limits_agg h.domains (objects_of h) d xs sound.limits live small few;
      pooled = still_pooled;
      sums = IsRight-keeps h.store.arena t.arena h.sums moves.stays.keeps sound.sums;
      filed = sound.filed;
      cached =
          cache_stays h.store t h.cache moves.stays (files_held h.store t moves.stays h.domains (objects_of h) held)
          count still_pooled.files_open (moves.tidy sound.tidy) (moves.still sound.still) sound.cached;
    })

pub placed-sound : (h : KernelState) (t : Stored) (ds : List (Domain (List Slice))) (d : ℕ) (text : Text)
    (placed : List ℕ) → IsSound h → (domain_in h.domains d).live ≡ true → live_aggs_in h.domains < MAX_AGGREGATES
    → length text ≤ MAX_AGGREGATE_BYTES → AddsText h.store t h.domains ds d text placed
    → IsSound (record h { store = t; domains = ds })
placed-sound h t ds d text placed sound live few small adds =
    gained-sound h t ds d adds.slices sound live few
    (omega (arith, small, ap length adds.is_text, length-text_of t adds.slices)) adds.readable adds.moves
    (adds.reclaims sound.reclaimed) adds.pools adds.pages.count adds.added

-- nothing else changes, for each reading
pub placed_alone : (h : KernelState) (t : Stored) (ds : List (Domain (List Slice))) (d pool n : ℕ) (text : Text)
    → IsSound h → AddsText h.store t h.domains ds d text (lowest_of h.store pool n)
    → MakesAgg d pool n h (record h { store = t; domains = ds })
placed_alone h t ds d pool n text sound adds = record {
  slices = adds.slices;
  each = placed-read h t ds d text (lowest_of h.store pool n) sound adds;
  sums = refl;
  cache = refl;
  made_on = adds.made_on;
  pages = adds.pages;
}

-- a domain releases an aggregate

module _ (h : KernelState) (t : Stored) (ds : List (Domain (List Slice))) (d a : ℕ) (xs : List Slice)
    (sound : IsSound h) (live : (domain_in h.domains d).live ≡ true) (found : Some xs ≡ agg_in h.domains d a)
    (rest : ds ≡ without_agg_in h.domains d a) (moves : Moves h.store t (bufs_of xs) []) (lists : SameLists h.store t)
    (frees : FreesOnly h.store t) (reclaims : AllReadable h.store xs → AllReclaimed h.store → AllReclaimed t) where
  dropped_counted : IsCounted t (without_agg_in h.domains d a) (objects_of h)
  dropped_counted =
      record {
        each =
            λ b. omega (
              arith,
              sound.counted.each b,
              moves.counts.each b,
              tally_none b,
              uses-without_agg b h.domains d a xs live found,
            );
      }

  dropped-read : (f : Reading) → read_of f (record h { store = t; domains = ds }) ≡ aggs.without_agg (read_of f h) d a
  unfolding read_of
  dropped-read f =
      ap (λ (ys : List (Domain (List Slice))). state_view f ys t.pools (objects_of h)) rest
      ∙ pools-view f (without_agg_in h.domains d a) h.store.pools t.pools (objects_of h) lists
      ∙ without_agg-view f h.domains h.store.pools (objects_of h) d a

  dropped-sound : IsSound (record h { store = t; domains = ds })
  dropped-sound = subst (λ (ys : List (Domain (List Slice))). IsSound (record h { store = t; domains = ys })) (sym rest)
      (moved-sound h.store (record h { store = t; domains = without_agg_in h.domains d a }) moves.stays dropped_counted
      (moves.tidy sound.tidy) (moves.still sound.still)
      (reclaims (agg_readable h d a xs sound found) sound.reclaimed) (drop_readable h d a sound) sound.objects
      (fds_stay (objects_of h) h.domains d _ sound.fds refl) (once_same h.domains d _ live refl sound.once)
      (limits_drop h.domains (objects_of h) d a xs sound.limits live found)
      (same_pooled h.store t h.conns h.cache.files lists sound.pooled) sound.sums sound.filed sound.cached
      (keeps_pages_frees frees).count)

  pub dropped : Leaves (λ s. aggs.without_agg s d a) h (record h { store = t; domains = ds })
  dropped = leaves (λ s. aggs.without_agg s d a) h (record h { store = t; domains = ds }) dropped-read refl refl
      moves.stays (keeps_pages_frees frees)
      (subst (λ (ys : List (Domain (List Slice))). AllByRecursion (IsDomainReadable h.store) ys) (sym rest)
      (drop_readable h d a sound)) sound.objects dropped-sound

-- pools are added or closed; no bytes are placed, and no references released

module _ (h : KernelState) (t : Stored) (sound : IsSound h) (moves : Moves h.store t [] [])
    (reclaims : AllReclaimed h.store → AllReclaimed t) (pages : KeepsPages h.store t []) where
  unmoved_counted : IsCounted t h.domains (objects_of h)
  unmoved_counted = record { each = λ b. omega (arith, sound.counted.each b, moves.counts.each b, tally_none b) }

  unmoved-sound : ArePooled t.pools h.conns h.cache.files → IsSound (record h { store = t })
  unmoved-sound pooled =
      moved-sound h.store (record h { store = t }) moves.stays unmoved_counted (moves.tidy sound.tidy)
      (moves.still sound.still) (reclaims sound.reclaimed) sound.domains sound.objects sound.fds sound.once sound.limits
      pooled sound.sums sound.filed sound.cached pages.count

  pooled-read : (list : List ℕ) → map pool_meant t.pools ≡ map pool_meant h.store.pools
      ++ record { domains = list; closed = false } ∷ [] → (f : Reading)
      → read_of f (record h { store = t }) ≡ record (read_of f h) {
        pools =
            (read_of f h).pools ++ record { domains = list; closed = false } ∷ [];
      }
  unfolding read_of
  pooled-read list added f =
      added_pool-view f h.domains h.store.pools t.pools (objects_of h) (record { domains = list; closed = false }) added

  pool_closed-read : (p : ℕ) → map pool_meant t.pools ≡ map pool_meant (with_closed h.store.pools p) → (f : Reading)
      → read_of f (record h { store = t }) ≡ record (read_of f h) {
        pools =
            with_numbered (read_of f h).pools p (record (machine.pool (read_of f h) p) { closed = true });
      }
  unfolding read_of
  pool_closed-read p closed f = closed-view f h.domains h.store.pools t.pools (objects_of h) p closed

  pub pooled : (list : List ℕ) → map pool_meant t.pools ≡ map pool_meant h.store.pools
      ++ record { domains = list; closed = false } ∷ [] → length h.store.pools < MAX_POOLS
      → Leaves (λ s. record s { pools = s.pools ++ record { domains = list; closed = false } ∷ [] }) h
      (record h { store = t })
  pooled list added few = leaves (λ s. record s { pools = s.pools ++ record { domains = list; closed = false } ∷ [] }) h
      (record h { store = t }) (pooled-read list added) refl refl moves.stays pages sound.domains sound.objects
      (unmoved-sound (one_more_pool h.store t h.conns h.cache.files (record { domains = list; closed = false }) added
      few sound.pooled))

  pub pool_closed : (p : ℕ) → (list_any (λ x. x.pool == p) h.files || list_any (λ e. e.1.pool == p) h.conns) ≡ false
      → map pool_meant t.pools ≡ map pool_meant (with_closed h.store.pools p)
      → Leaves (λ s. record s { pools = with_numbered s.pools p (record (machine.pool s p) { closed = true }) }) h
      (record h { store = t })
  pool_closed p idle closed =
      leaves (λ s. record s { pools = with_numbered s.pools p (record (machine.pool s p) { closed = true }) }) h
      (record h { store = t }) (pool_closed-read p closed) refl refl moves.stays pages sound.domains sound.objects
      (unmoved-sound (one_closed h.store t h.conns h.files h.cache.files p sound.filed idle closed sound.pooled))

-- a domain's descriptors change

pub fds-changed : (f : Reading) (h : KernelState) (ds : List (Domain (List Slice))) (d : ℕ)
    (xs : List (Option Descriptor)) → ds ≡ with_fds_in h.domains d xs
    → read_of f (record h { domains = ds }) ≡ fds.with_fds (read_of f h) d xs
unfolding read_of
fds-changed f h ds d xs is = ap (λ (ys : List (Domain (List Slice))). state_view f ys h.store.pools (objects_of h)) is
    ∙ with_fds-view f h.domains h.store.pools (objects_of h) d xs

pub fds-sound : (h : KernelState) (ds : List (Domain (List Slice))) (d : ℕ) (xs : List (Option Descriptor)) → IsSound h
    → (domain_in h.domains d).live ≡ true → ds ≡ with_fds_in h.domains d xs
    → AllByRecursion (IsOpenEnd (objects_of h)) xs
    → IsOpenOnce (with_fds_in h.domains d xs) → IsSound (record h { domains = ds })
fds-sound h ds d xs sound live is ends once =
    subst (λ (ys : List (Domain (List Slice))). IsSound (record h { domains = ys })) (sym is)
    (sound_fds h d xs sound live ends once)

-- a domain's default pool

default-read : (f : Reading) (h : KernelState) (ds : List (Domain (List Slice))) (d p : ℕ)
    → ds ≡ with_domain_in h.domains d (record (domain_in h.domains d) { default = Some p })
    → read_of f (record h { domains = ds }) ≡ machine.with_domain (read_of f h) d
    (record (machine.domain (read_of f h) d) { default = Some p })
unfolding read_of
default-read f h ds d p is =
    ap (λ (ys : List (Domain (List Slice))). state_view f ys h.store.pools (objects_of h)) is
    ∙ with_domain-view f h.domains h.store.pools (objects_of h) d (record (domain_in h.domains d) { default = Some p })
    ∙ ap (λ (x : Domain Text). machine.with_domain (read_of f h) d (record x { default = Some p }))
    (sym (domain-view f h.domains h.store.pools (objects_of h) d))

default-sound : (h : KernelState) (ds : List (Domain (List Slice))) (d p : ℕ) → IsSound h
    → (domain_in h.domains d).live ≡ true
    → ds ≡ with_domain_in h.domains d (record (domain_in h.domains d) { default = Some p })
    → IsSound (record h { domains = ds })
default-sound h ds d p sound live is =
    subst (λ (ys : List (Domain (List Slice))). IsSound (record h { domains = ys })) (sym is)
    (sound_with h d (record (domain_in h.domains d) { default = Some p }) sound live refl (ends_open h d sound)
    (once_same h.domains d _ live refl sound.once))

pub default_set : (h : KernelState) (ds : List (Domain (List Slice))) (d p : ℕ) → IsSound h
    → (domain_in h.domains d).live ≡ true
    → ds ≡ with_domain_in h.domains d (record (domain_in h.domains d) { default = Some p })
    → Answers (λ s. pools.set_pool s d p) h tt (record h { domains = ds })
default_set h ds d p sound live is =
    answers_here (λ s. pools.set_pool s d p) h (record h { domains = ds }) tt (default-sound h ds d p sound live is)
    refl refl (λ f. refl) refl (λ f. default-read f h ds d p is)
