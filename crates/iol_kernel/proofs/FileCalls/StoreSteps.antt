-- The state after a step of the store and of the cache of files in which every file keeps its bytes.
use Rattle.std.proofs.Common.{◌≡◌, ℕ, suc, ◌+◌, ◌<◌, ◌≤◌, List, [], ◌∷◌, length, get_or, map, ap, ◌∙◌, refl, sym, subst}
use Rattle.std.proofs.Common.{arith, Option, Some, None, true}
use Rattle.std.specs.Prelude.{sum_by}
use Rattle.std.specs.List.{range_with_len, AllByRecursion}
use Rattle.std.proofs.Math.ListN.{get_or-map}
use Rattle.std.proofs.lemmas.List.{ext_get_or, length-map}
use Rattle.iol_core.specs.State as machine
use Rattle.iol_core.specs.State.{State, Domain}
use Rattle.iol_core.specs.Calls.Aggregates as aggs
use Rattle.iol_core.specs.Calls.Descriptors as fds
use Rattle.iol_core.specs.declared.descriptors.Descriptor.{Descriptor}
use Rattle.iol_core.specs.declared.descriptors.Descriptor.TheVariants as on
use Rattle.iol_core.specs.declared.limits.TheConstants.{MAX_AGGREGATES, MAX_AGGREGATE_BYTES, MAX_FILES}
use Rattle.iol_core.specs.declared.numbers.BufId.{BufId}
use Rattle.iol_back.specs.Disk.{Disk}
use Rattle.iol_hold.specs.Moves.{tally}
use Rattle.iol_hold.specs.Places.{byte_len}
use Rattle.iol_hold.specs.StoreState.{Stored, count_of}
use Rattle.iol_hold.specs.Texts.{AllReadable, bufs_of, text_of}
use Rattle.iol_hold.specs.declared.slices.Slice.{Slice}
use Rattle.iol_hold.proofs.Counts.{tally-append, tally_none}
use Rattle.iol_desc.specs.Tables.{domain_in, live_aggs_in, with_agg_in, with_fds_in, with_next}
use Rattle.iol_sum.proofs.KeptSums.{IsRight-keeps}
use Rattle.iol_cache.specs.CacheState.{Cached, file_in, held, no_file}
use Rattle.iol_cache.specs.Contents.{bytes_in_slot}
use Rattle.iol_cache.specs.Evictions.{Holding}
use Rattle.iol_cache.specs.ReadSteps.{Goes}
use Rattle.iol_cache.specs.Sound as cache
use Rattle.iol_cache.specs.declared.files.CachedFile.{CachedFile}
use Rattle.iol_cache.proofs.Evictions.Ready.{at_index}
use Rattle.iol_kernel.specs.FileCalls.{IsBackedBy, holding_of, with_slots}
use Rattle.iol_kernel.specs.HoldCounts.{domain_uses}
use Rattle.iol_kernel.specs.EndCounts.{IsOpenOnce}
use Rattle.iol_kernel.specs.KernelState.{KernelState, objects_of, AreFiled, AreReadable, IsCached}
use Rattle.iol_kernel.specs.KernelState.{IsDomainReadable, IsFile, IsOpenEnd, IsSound, machine_of, read_of}
use Rattle.iol_kernel.specs.Readings.{bytes_over, slot_read, slots_read}
use Rattle.iol_kernel.specs.Views.{Objects, state_view}
use Rattle.iol_kernel.proofs.State.Effects.{fds-changed}
use Rattle.iol_kernel.proofs.State.Once.{once_same}
use Rattle.iol_kernel.proofs.State.Pools.{same_pooled}
use Rattle.iol_kernel.proofs.State.CacheUntouched.{with_slots-same}
use Rattle.iol_kernel.proofs.State.Slots.{held-none, none_readable}
use Rattle.iol_kernel.proofs.State.Sound.{AreHeld, add_readable, domains_stay, each-weaker, fds_stay, limits_agg}
use Rattle.iol_kernel.proofs.State.Sound.{objects_stay, view-stays}
use Rattle.iol_kernel.proofs.State.Uses.{uses-with_agg}
use Rattle.iol_kernel.proofs.State.Views.{pools-view, with_agg-view}

abbrev Domains : Type 0
Domains = List (Domain (List Slice))

-- a store, and a cache over it
abbrev pub over : Stored → Cached → Holding
over s c = record { store = s; cache = c }

-- A change of domains, for any bytes of files.

pub agg-with_slots : (slots : List (List ℕ)) (h : KernelState) (d : ℕ) (xs : List Slice)
    → with_slots slots (record h { domains = with_agg_in h.domains d xs }) ≡ aggs.with_agg (with_slots slots h) d
    (text_of h.store xs)
unfolding with_slots read_of machine.with_domain machine.domain
agg-with_slots slots h d xs =
    ap (λ (s : State). record s { slots = slots })
    (with_agg-view (bytes_over [] h.store) h.domains h.store.pools (objects_of h) d xs)

pub fds-with_slots : (slots : List (List ℕ)) (h : KernelState) (d : ℕ) (xs : List (Option Descriptor))
    → with_slots slots (record h { domains = with_fds_in h.domains d xs }) ≡ fds.with_fds (with_slots slots h) d xs
unfolding with_slots machine.with_domain machine.domain
fds-with_slots slots h d xs =
    ap (λ (s : State). record s { slots = slots })
    (fds-changed (bytes_over [] h.store) h (with_fds_in h.domains d xs) d xs refl)

-- The files of a cache, one after another.

each_file : (P : CachedFile → Type 0) (fs : List CachedFile) → ((i : ℕ) → P (get_or fs i no_file)) → AllByRecursion P fs
each_file P [] all = tt
each_file P (x ∷ fs) all = (all 0, each_file P fs (λ i. all (suc i)))

pool_at : (fs : List CachedFile) (i : ℕ) → get_or (map (λ (x : CachedFile). x.pool) fs) i 0 ≡ (file_in fs (i + 1)).pool
pool_at fs i = get_or-map (λ (x : CachedFile). x.pool) fs i no_file
    ∙ ap (λ (x : CachedFile). x.pool) (sym (at_index fs i))

same_pools : (fs gs : List CachedFile) → length gs ≡ length fs → ((f : ℕ) → (file_in gs f).pool ≡ (file_in fs f).pool)
    → map (λ (x : CachedFile). x.pool) gs ≡ map (λ (x : CachedFile). x.pool) fs
same_pools fs gs count same =
    let pool : CachedFile → ℕ = λ x. x.pool in
    ext_get_or 0 (map pool gs) (map pool fs) (length-map gs pool ∙ count ∙ sym (length-map fs pool))
    (λ i within. pool_at gs i ∙ same (i + 1) ∙ sym (pool_at fs i))

module _ (disk : Disk) (given : List BufId) (h : KernelState) (t : Stored) (c : Cached) (sound : IsSound h)
    (goes : Goes disk [] given (holding_of h) (over t c)) (kept : cache.IsSound t c) where
  abbrev pub refilled : Domains → KernelState
  refilled ds = record h { store = t; domains = ds; cache = c }

  -- all but the files
  abbrev rest : Objects (List Slice)
  rest = record (objects_of h) { cached = [] }

  counts : (b : BufId)
      → count_of t b + tally b (held h.cache.files) ≡ count_of h.store b + (tally b (held c.files) + tally b given)
  counts b =
      omega (
        arith,
        goes.moves.counts.each b,
        tally-append b (held h.cache.files) [],
        tally-append b (held c.files) given,
        tally_none b,
      )

  rest_held : AreHeld t h.domains rest
  rest_held = record { each = λ b. omega (arith, counts b, sound.counted.each b, held-none b) }

  rest_good : AreReadable h.store rest
  rest_good = record { pipes = sound.objects.pipes; conns = sound.objects.conns; files = none_readable h.store }

  rest_now : AreReadable t rest
  rest_now = objects_stay h.store t goes.moves.stays h.domains rest rest_held rest_good

  domains_now : AllByRecursion (IsDomainReadable t) h.domains
  domains_now = domains_stay h.store t goes.moves.stays h.domains rest rest_held sound.domains

  -- for any bytes of files, all else is unchanged
  pub with_slots-refilled : (slots : List (List ℕ)) → with_slots slots (refilled h.domains) ≡ with_slots slots h
  unfolding with_slots read_of state_view
  with_slots-refilled slots =
      ap (λ (s : State). record s { slots = slots })
      (pools-view (bytes_over [] t) h.domains h.store.pools t.pools rest goes.lists
      ∙ view-stays h.store t goes.moves.stays h.domains rest rest_held h.store.pools sound.domains rest_good [])

  -- with an honest store files have their bytes
  slots-refilled : (ds : Domains) (stored : List (List ℕ)) → IsBackedBy disk h → stored ≡ disk.slots
      → (machine_of stored (refilled ds)).slots ≡ (machine_of disk.slots h).slots
  unfolding read_of state_view slots_read
  slots-refilled ds stored backed same = λ i. map (λ n. each n i) (range_with_len 1 MAX_FILES)
    where
      each : (n : ℕ) → slot_read (bytes_over stored t) c.files n ≡ slot_read (bytes_over disk.slots h.store)
          h.cache.files n
      each n = ap (λ (slots : List (List ℕ)). bytes_in_slot t slots c.files n) same
          ∙ (goes.files backed.honest backed.mirrors).each n

  pub machine-refilled : (ds : Domains) (stored : List (List ℕ)) → IsBackedBy disk h → stored ≡ disk.slots
      → machine_of stored (refilled ds) ≡ with_slots (machine_of disk.slots h).slots (refilled ds)
  machine-refilled ds stored backed same =
      sym (with_slots-same (refilled ds) stored)
      ∙ ap (λ (slots : List (List ℕ)). with_slots slots (refilled ds)) (slots-refilled ds stored backed same)

  same_end : (ds : Domains) (e : Option Descriptor) → IsOpenEnd (objects_of h) e
      → IsOpenEnd (objects_of (refilled ds)) e
  same_end ds None is = tt
  same_end ds (Some (on.ReadEnd q)) is = is
  same_end ds (Some (on.WriteEnd q)) is = is
  same_end ds (Some (on.File f at mode)) is = is
  same_end ds (Some (on.Connection n)) is = is

  filed_now : AreFiled h.files c.files
  filed_now = same_pools h.cache.files c.files goes.count goes.pools
      ∙ sym (same_pools h.cache.files h.cache.files refl (λ f. refl)) ∙ sound.filed

  files_limited : AllByRecursion IsFile c.files
  files_limited =
      each_file IsFile c.files
      (λ i. subst IsFile (at_index c.files i)
      (record { apart = (kept.files (i + 1)).apart; short = (kept.files (i + 1)).short }))

  refilled-sound : (ds : Domains)
      → ((b : BufId) → sum_by (domain_uses b) ds ≡ sum_by (domain_uses b) h.domains + tally b given)
      → AllByRecursion (IsDomainReadable t) ds
      → AllByRecursion (λ (d : Domain (List Slice)). AllByRecursion (IsOpenEnd (objects_of h)) d.fds) ds
      → IsOpenOnce ds
      → AllByRecursion
      (λ (d : Domain (List Slice)). AllByRecursion (λ (e : ℕ × List Slice). byte_len e.1 ≤ MAX_AGGREGATE_BYTES)
      d.aggs) ds
      → live_aggs_in ds ≤ MAX_AGGREGATES → IsSound (refilled ds)
  unfolding IsCached
  refilled-sound ds uses readable ends once small few =
      let l = sound.limits.objects in
      let pooled = same_pooled h.store t h.conns h.cache.files goes.lists sound.pooled in
      record {
        domains = readable;
        objects =
            record {
              pipes = rest_now.pipes;
              conns = rest_now.conns;
              files =
                  λ n. record { laid = (kept.files n).laid };
            };
        fds =
            each-weaker (λ (d : Domain (List Slice)). AllByRecursion (IsOpenEnd (objects_of h)) d.fds)
            (λ (d : Domain (List Slice)). AllByRecursion (IsOpenEnd (objects_of (refilled ds))) d.fds) ds
            (λ d e. each-weaker (IsOpenEnd (objects_of h)) (IsOpenEnd (objects_of (refilled ds))) d.fds (same_end ds) e)
            ends;
        once = once;
        counted = record { each = λ b. omega (arith, counts b, sound.counted.each b, uses b) };
        tidy = kept.tidy;
        still = kept.still;
        reclaimed = goes.reclaims sound.reclaimed;
        limits = record {
          aggs = small;
          few = few;
          objects = record {
            queues = l.queues;
            few_pipes = l.few_pipes;
            conns = l.conns;
            few_conns = l.few_conns;
            rising = l.rising;
            last = l.last;
            cached = files_limited;
            few_files = kept.few_files;
          };
        };
        pooled =
            record { few = pooled.few; opened = pooled.opened; files_open = λ n there. (kept.opened n there).is_open };
        sums = IsRight-keeps h.store.arena t.arena h.sums goes.moves.stays.keeps sound.sums;
        filed = filed_now;
        cached = kept;
      }

  -- with the same domains, if no new reference is given
  pub still_sound : given ≡ [] → IsSound (refilled h.domains)
  still_sound none = refilled-sound h.domains (λ b. omega (arith, ap (tally b) none, tally_none b)) domains_now
      sound.fds sound.once sound.limits.aggs sound.limits.few

  -- with one more aggregate
  pub gained_sound : (d : ℕ) (xs : List Slice) → given ≡ bufs_of xs → (domain_in h.domains d).live ≡ true
      → live_aggs_in h.domains < MAX_AGGREGATES → byte_len xs ≤ MAX_AGGREGATE_BYTES → AllReadable t xs
      → IsSound (refilled (with_agg_in h.domains d xs))
  gained_sound d xs is live few small readable =
      let limits = limits_agg h.domains (objects_of h) d xs sound.limits live small few in
      refilled-sound (with_agg_in h.domains d xs)
      (λ b. omega (arith, uses-with_agg b h.domains d xs live, ap (tally b) is))
      (add_readable t h.domains d xs domains_now readable)
      (fds_stay (objects_of h) h.domains d (with_next (domain_in h.domains d) xs) sound.fds refl)
      (once_same h.domains d (with_next (domain_in h.domains d) xs) live refl sound.once) limits.aggs limits.few
