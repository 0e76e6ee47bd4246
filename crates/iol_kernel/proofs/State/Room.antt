-- Clean extents of files are evicted: the state of the kernel after that.
use Rattle.std.proofs.Common.{◌≡◌, ℕ, suc, ◌<◌, ◌∙◌, List, [], ◌∷◌, length, get_or, map, Option, Some, refl, sym, ap}
use Rattle.std.proofs.Common.{subst, arith}
use Rattle.std.proofs.lemmas.Bool.Decides.{nat_tests}
use Rattle.std.specs.List.{range_with_len, AllByRecursion}
use Rattle.iol_core.specs.State as machine
use Rattle.iol_core.specs.State.{State}
use Rattle.iol_core.specs.declared.descriptors.Descriptor.{Descriptor}
use Rattle.iol_core.specs.declared.descriptors.Descriptor.TheVariants as on
use Rattle.iol_core.specs.declared.limits.TheConstants.{MAX_FILES}
use Rattle.iol_back.specs.Disk.{Disk}
use Rattle.iol_hold.specs.StoreState.{Stored}
use Rattle.iol_hold.specs.declared.slices.Slice.{Slice}
use Rattle.iol_sum.proofs.KeptSums.{IsRight-keeps}
use Rattle.iol_cache.specs.CacheState.{Cached, file_in, no_file}
use Rattle.iol_cache.specs.Evictions.{EvictsAll, GivesUp, Holding}
use Rattle.iol_cache.specs.Sound as cache
use Rattle.iol_cache.specs.declared.files.CachedFile.{CachedFile}
use Rattle.iol_cache.proofs.Extents.FileEntries.{numbered_bounds, numbered_yes}
use Rattle.iol_cache.proofs.Extents.KeptCover.{apart_of, evictions_keep, nothing_goes}
use Rattle.iol_kernel.specs.FileCalls.{IsBackedBy, holding_of, with_slots}
use Rattle.iol_kernel.specs.KernelState.{KernelState, objects_of, AreFiled, AreReadable, IsCached, IsFile}
use Rattle.iol_kernel.specs.KernelState.{IsOpenEnd, IsSound, read_of, machine_of}
use Rattle.iol_kernel.specs.Room.{IsSame, MakesRoom}
use Rattle.iol_kernel.specs.Readings.{Reading, bytes_over, slots_read}
use Rattle.iol_kernel.specs.Views.{Objects, state_view}
use Rattle.iol_kernel.proofs.State.Pools.{same_pooled}
use Rattle.iol_kernel.proofs.State.Slots.{held-none, none_readable}
use Rattle.iol_kernel.proofs.State.FileLimits.{ends_weaker, with_files}
use Rattle.iol_kernel.proofs.State.Sound.{AreHeld, domains_stay, objects_stay, view-stays}

-- Files by slot, and as a list.

files_each : (P : CachedFile → Type 0) (fs : List CachedFile) → ((i : ℕ) → i < length fs → P (get_or fs i no_file))
    → AllByRecursion P fs
files_each P [] all = tt
files_each P (x ∷ fs) all = (all 0 (omega arith), files_each P fs (λ i there. all (suc i) (omega (arith, there))))

file-at : (fs : List CachedFile) (i : ℕ) → file_in fs (suc i) ≡ get_or fs i no_file
unfolding file_in
file-at fs i = grind (arith, nat_tests)

same_pools : (fs gs : List CachedFile) → length gs ≡ length fs
    → ((i : ℕ) → i < length fs → (get_or gs i no_file).pool ≡ (get_or fs i no_file).pool)
    → map (λ (x : CachedFile). x.pool) gs ≡ map (λ (x : CachedFile). x.pool) fs
same_pools [] [] len same = refl
same_pools [] (y ∷ gs) len same = absurd (cc len)
same_pools (x ∷ fs) [] len same = absurd (cc len)
same_pools (x ∷ fs) (y ∷ gs) len same =
    ap (λ p. p ∷ map (λ (z : CachedFile). z.pool) gs) (same 0 (omega arith))
    ∙ ap (λ ps. x.pool ∷ ps) (same_pools fs gs (omega (arith, len)) (λ i there. same (suc i) (omega (arith, there))))

-- An open end stays open, whichever extents files have.
pub ends_recached : (qs : Objects (List Slice)) (fs : List CachedFile) (e : Option Descriptor) → IsOpenEnd qs e
    → IsOpenEnd (record qs { cached = fs }) e
ends_recached qs fs (Some (on.File f at mode)) is = is
ends_recached qs fs e is = is

module _ (h : KernelState) (t : Stored) (c : Cached) (sound : IsSound h) (kept : cache.IsSound t c)
    (gone : GivesUp (holding_of h) (record { store = t; cache = c })) where
  abbrev k : KernelState
  k = record h { store = t; cache = c }

  -- the objects, without extents
  abbrev beside_files : Objects (List Slice)
  beside_files = record (objects_of h) { cached = [] }

  still_held : AreHeld t h.domains beside_files
  still_held = record { each = λ b. omega (arith, sound.counted.each b, gone.moves.counts.each b, held-none b) }

  readable : AreReadable h.store beside_files
  readable = record { pipes = sound.objects.pipes; conns = sound.objects.conns; files = none_readable h.store }

  readable_still : AreReadable t beside_files
  readable_still = objects_stay h.store t gone.moves.stays h.domains beside_files still_held readable

  pools_kept : (i : ℕ) → i < length h.cache.files
      → (get_or c.files i no_file).pool ≡ (get_or h.cache.files i no_file).pool
  pools_kept i there = ap (λ (x : CachedFile). x.pool) (sym (file-at c.files i)) ∙ gone.keeps.pools (suc i)
      ∙ ap (λ (x : CachedFile). x.pool) (file-at h.cache.files i)

  filed : AreFiled h.files c.files
  filed = same_pools h.cache.files c.files gone.keeps.count pools_kept ∙ sound.filed

  file_good : (i : ℕ) → i < length c.files → IsFile (get_or c.files i no_file)
  file_good i there = let is = file-at c.files i in let good = kept.files (suc i) in
      subst IsFile is (record { apart = good.apart; short = good.short })

  pub room_sound : IsSound k
  unfolding IsCached
  room_sound =
      let pooled = same_pooled h.store t h.conns h.cache.files gone.lists sound.pooled in
      record {
        domains = domains_stay h.store t gone.moves.stays h.domains beside_files still_held sound.domains;
        objects = record {
          pipes = readable_still.pipes;
          conns = readable_still.conns;
          files =
              λ n. record { laid = (kept.files n).laid };
        };
        fds = ends_weaker (objects_of h) (objects_of k) h.domains (ends_recached (objects_of h) c.files) sound.fds;
        once = sound.once;
        counted = record { each = λ b. omega (arith, sound.counted.each b, gone.moves.counts.each b) };
        tidy = gone.moves.tidy sound.tidy;
        still = gone.moves.still sound.still;
        reclaimed = gone.reclaims sound.reclaimed;
        limits =
            record {
              aggs = sound.limits.aggs;
              few = sound.limits.few;
              objects =
                  with_files _ _ sound.limits.objects (files_each IsFile c.files file_good) kept.few_files;
            };
        pooled =
            record { few = pooled.few; opened = pooled.opened; files_open = λ n there. (kept.opened n there).is_open };
        sums = IsRight-keeps h.store.arena t.arena h.sums gone.moves.stays.keeps sound.sums;
        filed = filed;
        cached = kept;
      }

  -- For each reading, only the bytes of files change.
  room-read : (f : Reading) → read_of f k ≡ record (read_of f h) { slots = (read_of f k).slots }
  unfolding read_of state_view
  room-read f = ap (λ (ps : List machine.Pool). record (read_of f k) { pools = ps }) gone.lists

  room-beside : (slots : List (List ℕ)) → with_slots slots k ≡ with_slots slots h
  unfolding read_of state_view with_slots
  room-beside slots =
      ap (λ (ps : List machine.Pool). record (machine_of [] k) { pools = ps; slots = slots }) gone.lists
      ∙ ap (λ (s : State). record s { slots = slots })
      (view-stays h.store t gone.moves.stays h.domains beside_files still_held h.store.pools sound.domains readable
      [])

  slots-same : (disk : Disk) → IsBackedBy disk h
      → slots_read (bytes_over disk.slots t) c.files ≡ slots_read (bytes_over disk.slots h.store) h.cache.files
  unfolding slots_read
  slots-same disk backed = λ i. map (λ n. (gone.files disk.slots backed.mirrors).each n i) (range_with_len 1 MAX_FILES)

  as_with_slots : (stored : List (List ℕ)) (l : KernelState)
      → machine_of stored l ≡ with_slots (slots_read (bytes_over stored l.store) l.cache.files) l
  unfolding read_of state_view with_slots
  as_with_slots stored l = refl

  pub room_same : IsSame h k
  room_same = record {
    files = λ disk backed. as_with_slots disk.slots k ∙ room-beside (slots_read (bytes_over disk.slots t) c.files)
        ∙ ap (λ (xs : List (List ℕ)). with_slots xs h) (slots-same disk backed) ∙ sym (as_with_slots disk.slots h);
    backed = λ disk backed. record {
      honest = backed.honest;
      short =
          λ f there. (let b = numbered_bounds c.files f there in
          backed.short f (numbered_yes h.cache.files f b.0 (omega (arith, b.1, gone.keeps.count))));
      mirrors = gone.mirrors disk.slots backed.mirrors;
    };
    beside = room-beside;
  }

  pub room_made : (pool pages : ℕ) → EvictsAll pool (Some pages) (holding_of h) (record { store = t; cache = c })
      → MakesRoom pool pages h k
  unfolding IsCached
  room_made pool pages victims = record {
    victims = victims;
    gives_up = gone;
    rest = refl;
    enough =
        λ free. ap (λ (x : Holding). record h { store = x.store; cache = x.cache })
        (nothing_goes pool pages (holding_of h) (holding_of k) free victims);
    keeps =
        evictions_keep pool (Some pages) (holding_of h) (holding_of k) victims
        (apart_of {h = holding_of h} sound.cached);
    reads = room-read;
    same = room_same;
    sound = room_sound;
  }
