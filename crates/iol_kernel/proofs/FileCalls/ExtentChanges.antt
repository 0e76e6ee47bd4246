-- The extents of files change: a system stays sound, and all except the bytes of its files is unchanged.
use Rattle.std.proofs.Common.{◌≡◌, ℕ, suc, ◌+◌, List, [], ◌∷◌, length, get_or, map, refl, sym, ap, ◌∙◌, subst, arith}
use Rattle.std.specs.List.{AllByRecursion}
use Rattle.std.proofs.Common.{Option, Some, None}
use Rattle.iol_core.specs.State.{State}
use Rattle.iol_core.specs.declared.descriptors.Descriptor.{Descriptor}
use Rattle.iol_core.specs.declared.descriptors.Descriptor.TheVariants as on
use Rattle.iol_arena.specs.State.{page_count}
use Rattle.iol_hold.specs.StoreState.{Stored, AllReclaimed}
use Rattle.iol_hold.specs.Moves.{Moves, SameLists}
use Rattle.iol_hold.specs.declared.slices.Slice.{Slice}
use Rattle.iol_sum.proofs.KeptSums.{IsRight-keeps}
use Rattle.iol_cache.specs.CacheState.{Cached, file_in, no_file, held}
use Rattle.iol_cache.specs.Sound as cache
use Rattle.iol_cache.specs.declared.files.CachedFile.{CachedFile}
use Rattle.iol_cache.proofs.Evictions.Ready.{at_index}
use Rattle.iol_kernel.specs.FileCalls.{with_slots}
use Rattle.iol_kernel.specs.HoldCounts.{IsCounted}
use Rattle.iol_kernel.specs.KernelState.{KernelState, objects_of, machine_of, read_of, ArePooled, AreReadable}
use Rattle.iol_kernel.specs.KernelState.{IsCached, IsFile, IsOpenEnd, IsSound}
use Rattle.iol_kernel.specs.Readings.{bytes_over, slots_read}
use Rattle.iol_kernel.specs.Views.{Objects, state_view}
use Rattle.iol_kernel.proofs.State.Pools.{same_pooled}
use Rattle.iol_kernel.proofs.State.Slots.{held-none, none_readable}
use Rattle.iol_kernel.proofs.State.FileLimits.{ends_weaker, with_files}
use Rattle.iol_kernel.proofs.State.Sound.{AreHeld, domains_stay, objects_stay, view-stays}
use Rattle.iol_kernel.proofs.State.Views.{pools-view}

-- A change of pages and extents: only references of extents changed, and no file was added or removed.
pub record Recaches (s t : Stored) (c d : Cached) : Type 0 where
  pub moves : Moves s t (held c.files) (held d.files)
  pub lists : SameLists s t
  pub reclaims : AllReclaimed s → AllReclaimed t
  pub pages : page_count t.arena ≡ page_count s.arena
  pub files : length d.files ≡ length c.files
  pub pools : (f : ℕ) → (file_in d.files f).pool ≡ (file_in c.files f).pool
  pub sound : cache.IsSound t d

-- Lists of files, by number.

each_indexed : (P : CachedFile → Type 0) (fs : List CachedFile) → ((i : ℕ) → P (get_or fs i no_file))
    → AllByRecursion P fs
each_indexed P [] h = tt
each_indexed P (x ∷ fs) h = (h 0, each_indexed P fs (λ i. h (suc i)))

all_apart : (t : Stored) (fs : List CachedFile) → ((f : ℕ) → cache.IsFiled t (file_in fs f)) → AllByRecursion IsFile fs
all_apart t fs filed =
    each_indexed IsFile fs (λ i. (let x = subst (cache.IsFiled t) (at_index fs i) (filed (i + 1)) in
    record { apart = x.apart; short = x.short }))

pools_indexed : (fs gs : List CachedFile) → length gs ≡ length fs
    → ((i : ℕ) → (get_or gs i no_file).pool ≡ (get_or fs i no_file).pool)
    → map (λ (x : CachedFile). x.pool) gs ≡ map (λ (x : CachedFile). x.pool) fs
pools_indexed [] [] long same = refl
pools_indexed [] (y ∷ gs) long same = absurd (omega (arith, long))
pools_indexed (x ∷ fs) [] long same = absurd (omega (arith, long))
pools_indexed (x ∷ fs) (y ∷ gs) long same =
    ap (λ p. p ∷ map (λ (z : CachedFile). z.pool) gs) (same 0)
    ∙ ap (λ l. x.pool ∷ l) (pools_indexed fs gs (omega (arith, long)) (λ i. same (suc i)))

same_pools : (fs gs : List CachedFile) → length gs ≡ length fs → ((f : ℕ) → (file_in gs f).pool ≡ (file_in fs f).pool)
    → map (λ (x : CachedFile). x.pool) gs ≡ map (λ (x : CachedFile). x.pool) fs
same_pools fs gs long same =
    pools_indexed fs gs long (λ i. ap (λ (x : CachedFile). x.pool) (sym (at_index gs i)) ∙ same (i + 1)
    ∙ ap (λ (x : CachedFile). x.pool) (at_index fs i))

-- the object of a descriptor stays open, whichever extents files have
ends_recached : (qs : Objects (List Slice)) (fs : List CachedFile) (x : Option Descriptor) → IsOpenEnd qs x
    → IsOpenEnd (record qs { cached = fs }) x
ends_recached qs fs None e = tt
ends_recached qs fs (Some (on.ReadEnd p)) e = e
ends_recached qs fs (Some (on.WriteEnd p)) e = e
ends_recached qs fs (Some (on.File f at mode)) e = e
ends_recached qs fs (Some (on.Connection c)) e = e

is_cached : (t : Stored) (d : Cached) → cache.IsSound t d → IsCached t d
unfolding IsCached
is_cached t d sound = sound

module _ (h : KernelState) (t : Stored) (d : Cached) (sound : IsSound h) (m : Recaches h.store t h.cache d) where
  abbrev next : KernelState
  next = record h { store = t; cache = d }

  -- the objects, without extents
  abbrev bare : Objects (List Slice)
  bare = record (objects_of h) { cached = [] }

  recounted : IsCounted t h.domains (objects_of next)
  recounted = record { each = λ b. omega (arith, sound.counted.each b, m.moves.counts.each b) }

  bare_held : AreHeld t h.domains bare
  bare_held = record { each = λ b. omega (arith, recounted.each b, held-none b) }

  bare_there : AreReadable h.store bare
  bare_there = record { pipes = sound.objects.pipes; conns = sound.objects.conns; files = λ n. none_readable h.store n }

  bare_good : AreReadable t bare
  bare_good = objects_stay h.store t m.moves.stays h.domains bare bare_held bare_there

  repooled : ArePooled t.pools h.conns d.files
  repooled =
      let was = same_pooled h.store t h.conns h.cache.files m.lists sound.pooled in
      record { few = was.few; opened = was.opened; files_open = λ n is. (m.sound.opened n is).is_open }

  pub recached_sound : IsSound next
  recached_sound =
      record {
        domains = domains_stay h.store t m.moves.stays h.domains bare bare_held sound.domains;
        objects =
            record {
              pipes = bare_good.pipes;
              conns = bare_good.conns;
              files =
                  λ n. record { laid = (m.sound.files n).laid };
            };
        fds = ends_weaker (objects_of h) (objects_of next) h.domains (ends_recached (objects_of h) d.files) sound.fds;
        once = sound.once;
        counted = recounted;
        tidy = m.moves.tidy sound.tidy;
        still = m.moves.still sound.still;
        reclaimed = m.reclaims sound.reclaimed;
        limits =
            record {
              aggs = sound.limits.aggs;
              few = sound.limits.few;
              objects =
                  with_files _ _ sound.limits.objects (all_apart t d.files m.sound.files) m.sound.few_files;
            };
        pooled = repooled;
        sums = IsRight-keeps h.store.arena t.arena h.sums m.moves.stays.keeps sound.sums;
        filed = same_pools h.cache.files d.files m.files m.pools ∙ sound.filed;
        cached = is_cached t d m.sound;
      }

  -- all except the bytes of files is unchanged
  pub recached_beside : (slots : List (List ℕ)) → with_slots slots next ≡ with_slots slots h
  unfolding with_slots read_of state_view
  recached_beside slots =
      ap (λ (s : State). record s { slots = slots })
      (pools-view (bytes_over [] t) h.domains h.store.pools t.pools bare m.lists
      ∙ view-stays h.store t m.moves.stays h.domains bare bare_held h.store.pools sound.domains bare_there [])

-- The bytes of files are those that the reading gives.

pub machine-slots : (stored : List (List ℕ)) (h : KernelState)
    → machine_of stored h ≡ with_slots (slots_read (bytes_over stored h.store) h.cache.files) h
unfolding with_slots read_of state_view
machine-slots stored h = refl

-- if these are unchanged, so is the machine's state
pub recached_same : (h : KernelState) (t : Stored) (d : Cached) (stored new : List (List ℕ)) → IsSound h
    → Recaches h.store t h.cache d
    → slots_read (bytes_over new t) d.files ≡ slots_read (bytes_over stored h.store) h.cache.files
    → machine_of new (record h { store = t; cache = d }) ≡ machine_of stored h
recached_same h t d stored new sound m same =
    let next : KernelState = record h { store = t; cache = d } in
    machine-slots new next ∙ recached_beside h t d sound m (slots_read (bytes_over new t) d.files)
    ∙ ap (λ z. with_slots z h) same ∙ sym (machine-slots stored h)
