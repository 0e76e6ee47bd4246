-- Dirty extents are written back, and clean ones evicted: the machine's state is unchanged.
use Rattle.std.proofs.Common.{inl, inr, ◌≡◌, ℕ, zero, suc, ◌+◌, ◌≤◌, ◌++◌, List, [], ◌∷◌, length, get_or, refl, sym, ap}
use Rattle.std.proofs.Common.{◌∙◌, subst, arith, Option, Some, None, true, false, Bool}
use Rattle.std.specs.Prelude.{Result, Ok, Err, cond, flat_map}
use Rattle.std.proofs.lemmas.Bool.{cases_eq}
use Rattle.std.proofs.lemmas.List.Concat.{flat_map-cons}
use Rattle.std.proofs.lemmas.List.FromFn.{length-map-range_with_len}
use Rattle.iol_core.specs.NumberedLists.{is_numbered}
use Rattle.iol_core.specs.State.{State}
use Rattle.iol_core.specs.Meaning.{Meaning, Step}
use Rattle.iol_core.specs.declared.numbers.BufId.{BufId}
use Rattle.iol_core.specs.declared.refusals.Refusal.{Refusal}
use Rattle.iol_core.specs.declared.limits.TheConstants.{MAX_FILE_BYTES}
use Rattle.iol_back.specs.Disk.{Disk, content}
use Rattle.iol_hold.specs.Moves.{Moves}
use Rattle.iol_hold.specs.StoreState.{Stored}
use Rattle.iol_hold.specs.Texts.{bufs_of}
use Rattle.iol_hold.specs.declared.slices.Slice.{Slice}
use Rattle.iol_hold.proofs.PageChanges.{keeps_pages_frees}
use Rattle.iol_extent.specs.Extents.{Extent, dirty_in, last_end}
use Rattle.iol_cache.specs.CacheState.{Cached, all_parts, extents_in, file_in, held, no_file, with_file}
use Rattle.iol_cache.specs.Contents.{byte_in, bytes_in_slot, file_byte, file_len}
use Rattle.iol_cache.specs.Evictions.{GivesUp, Holding}
use Rattle.iol_cache.specs.ReadResults.{IsBacked}
use Rattle.iol_cache.specs.Sound as cache
use Rattle.iol_cache.specs.WriteBack.{Cleans, Flushes, KeepsBytes, KeepsStored, Syncs, first_cleaned}
use Rattle.iol_extent.specs.Extents.{as_clean}
use Rattle.iol_cache.specs.declared.files.CachedFile.{CachedFile}
use Rattle.iol_cache.specs.declared.sync.Flushed.{Flushed}
use Rattle.iol_cache.specs.declared.sync.Flushed.TheVariants.{Nothing, Wrote}
use Rattle.iol_core.specs.declared.refusals.Refusal.TheVariants as because
use Rattle.iol_cache.proofs.RangeWrites.CleanExtents.{parts-cleaned}
use Rattle.iol_cache.proofs.Extents.FileEntries.{file_nowhere, file_other, file_same, length-with_file, numbered_bounds}
use Rattle.iol_cache.proofs.Extents.FileEntries.{numbered_yes}
use Rattle.iol_cache.proofs.Evictions.Ready.{at_index}
use Rattle.iol_kernel.specs.FileCalls.{IsBackedBy, Serves, holding_of, with_slots}
use Rattle.iol_kernel.specs.KernelState.{KernelState, IsSound, machine_of}
use Rattle.iol_kernel.specs.Readings.{bytes_over, slots_read}
use Rattle.iol_kernel.proofs.FileCalls.FileWrites.{backed_kept}
use Rattle.iol_kernel.proofs.FileCalls.WritesAtPosition.{slots_kept}
use Rattle.iol_kernel.proofs.FileCalls.ExtentChanges.{Recaches, machine-slots, recached_beside, recached_same}
use Rattle.iol_kernel.proofs.FileCalls.ExtentChanges.{recached_sound}
use Rattle.iol_kernel.proofs.State.Stay.{stays_here}

-- The same slices are held, clean or dirty.

held_indexed : (fs gs : List CachedFile) → length gs ≡ length fs
    → ((i : ℕ) → all_parts (get_or gs i no_file).extents.extents ≡ all_parts (get_or fs i no_file).extents.extents)
    → held gs ≡ held fs
unfolding held
held_indexed [] [] long same = refl
held_indexed [] (y ∷ gs) long same = absurd (omega (arith, long))
held_indexed (x ∷ fs) [] long same = absurd (omega (arith, long))
held_indexed (x ∷ fs) (y ∷ gs) long same =
    let buffers : CachedFile → List BufId = λ f. bufs_of (all_parts f.extents.extents) in
    flat_map-cons buffers y gs
    ∙ ap (λ (l : List Slice). bufs_of l ++ flat_map buffers gs) (same 0)
    ∙ ap (λ l. buffers x ++ l) (held_indexed fs gs (omega (arith, long)) (λ i. same (suc i)))
    ∙ sym (flat_map-cons buffers x fs)

parts-first : (n : ℕ) (es : List Extent) → all_parts (first_cleaned n es) ≡ all_parts es
parts-first zero es = refl
parts-first (suc n) [] = refl
parts-first (suc n) (e ∷ es) = of e.dirty (parts-first n es) (parts-first (suc n) es)
  where
    of : (b : Bool) → all_parts (first_cleaned n es) ≡ all_parts es
        → all_parts (first_cleaned (suc n) es) ≡ all_parts es
        → all_parts (cond b (as_clean e ∷ first_cleaned n es) (e ∷ first_cleaned (suc n) es)) ≡ all_parts (e ∷ es)
    of true less more = flat_map-cons (λ (x : Extent). x.parts) (as_clean e) (first_cleaned n es)
        ∙ ap (λ l. e.parts ++ l) less ∙ sym (flat_map-cons (λ (x : Extent). x.parts) e es)
    of false less more = flat_map-cons (λ (x : Extent). x.parts) e (first_cleaned (suc n) es)
        ∙ ap (λ l. e.parts ++ l) more ∙ sym (flat_map-cons (λ (x : Extent). x.parts) e es)

-- one more extent is clean, or several are
pub record KeepsParts (c d : Cached) : Type 0 where
  pub files : length d.files ≡ length c.files
  pub pools : (f : ℕ) → (file_in d.files f).pool ≡ (file_in c.files f).pool
  pub parts : (f : ℕ) → all_parts (extents_in d.files f) ≡ all_parts (extents_in c.files f)

pub synced_parts : (s : Stored) (f : ℕ) (c d : Cached) (x y : Disk) → Syncs s f c d x y → KeepsParts c d
synced_parts s f c d x y m = record {
  files = m.files;
  pools = m.pools;
  parts = λ g. elim (cases_eq g f) [
    | inl same ↦ ap (λ n. all_parts (extents_in d.files n)) same ∙ ap all_parts m.extents
        ∙ parts-first m.count (extents_in c.files f) ∙ ap (λ n. all_parts (extents_in c.files n)) (sym same)
    | inr ne ↦ ap (λ (z : CachedFile). all_parts z.extents.extents) (m.others g ne)
  ];
}

same_parts : (c : Cached) → KeepsParts c c
same_parts c = record { files = refl; pools = λ f. refl; parts = λ f. refl }

parts_kept : (h : KernelState) (d : Cached) → KeepsParts h.cache d → held d.files ≡ held h.cache.files
parts_kept h d m = held_indexed h.cache.files d.files m.files
    (λ i. ap (λ (x : CachedFile). all_parts x.extents.extents) (sym (at_index d.files i)) ∙ m.parts (i + 1)
    ∙ ap (λ (x : CachedFile). all_parts x.extents.extents) (at_index h.cache.files i))

pub cleaned_recaches : (h : KernelState) (d : Cached) → KeepsParts h.cache d → cache.IsSound h.store d
    → Recaches h.store h.store h.cache d
cleaned_recaches h d m sound = record {
  moves =
      subst (Moves h.store h.store (held h.cache.files)) (sym (parts_kept h d m))
      (record { counts = record { each = λ b. refl }; stays = stays_here h.store; still = λ x. x; tidy = λ x. x });
  lists = refl;
  reclaims = λ x. x;
  pages = refl;
  files = m.files;
  pools = m.pools;
  sound = sound;
}

-- The machine's state is unchanged, with an honest store.

longer : (s : Stored) (c d : Cached) (x y : Disk) (f : ℕ)
    → bytes_in_slot s y.slots d.files f ≡ bytes_in_slot s x.slots c.files f
    → length (content x.slots f) ≤ MAX_FILE_BYTES → last_end (extents_in c.files f) ≤ MAX_FILE_BYTES
    → length (content y.slots f) ≤ MAX_FILE_BYTES
longer s c d x y f same short ends =
    let es = extents_in c.files f in
    let fs = extents_in d.files f in
    omega (
      arith,
      ap length same,
      length-map-range_with_len (file_byte (byte_in s) (content y.slots f) fs) 0 (file_len (content y.slots f) fs),
      length-map-range_with_len (file_byte (byte_in s) (content x.slots f) es) 0 (file_len (content x.slots f) es),
      short,
      ends,
    )

module _ (m : State → Meaning (Unit {0})) (h k : KernelState) (t : Stored) (d : Cached) (x y : Disk)
    (r : Result (Unit {0}) Refusal) (sound : IsSound h) (re : Recaches h.store t h.cache d)
    (steps : (stored : List (List ℕ)) → Step (m (machine_of stored h)) (machine_of stored h) r (machine_of stored h))
  where
    abbrev before : List (List ℕ)
    before = slots_read (bytes_over [] h.store) h.cache.files

    abbrev next : KernelState
    next = record h { store = t; cache = d }

    beside_step : Step (m (with_slots before h)) (with_slots before h) r (with_slots before next)
    beside_step =
        subst (λ (s : State). Step (m (with_slots before h)) (with_slots before h) r s)
        (sym (recached_beside h t d sound re before))
        (subst (λ (s : State). Step (m s) s r s) (machine-slots [] h) (steps []))

    same_step : slots_read (bytes_over y.slots t) d.files ≡ slots_read (bytes_over x.slots h.store) h.cache.files
        → Step (m (machine_of x.slots h)) (machine_of x.slots h) r (machine_of y.slots next)
    same_step same =
        subst (λ (s : State). Step (m (machine_of x.slots h)) (machine_of x.slots h) r s)
        (sym (recached_same h t d x.slots y.slots sound re same)) (steps x.slots)

    pub same_serves : y.honest ≡ x.honest
        → (IsBackedBy x h → (n : ℕ) → bytes_in_slot t y.slots d.files n ≡ bytes_in_slot h.store x.slots h.cache.files n)
        → (IsBackedBy x h → IsBacked y (record { store = t; cache = d })) → k ≡ next → Serves m x h r y k
    same_serves honest bytes backed same = subst (λ (l : KernelState). Serves m x h r y l) (sym same) (record {
      step =
          λ is placed. same_step (slots_kept (bytes_over x.slots h.store) (bytes_over y.slots t) h.cache.files d.files
          (bytes is));
      backed = backed;
      beside = record { before = before; after = before; step = beside_step };
      honest = honest;
      sums = refl;
      sound = recached_sound h t d sound re;
      stays = re.moves.stays;
    })

-- dirty extents were written back
pub back_serves : (m : State → Meaning (Unit {0})) (h k : KernelState) (d : Cached) (x y : Disk)
    (r : Result (Unit {0}) Refusal) → IsSound h → KeepsParts h.cache d → cache.IsSound h.store d
    → ((stored : List (List ℕ)) → Step (m (machine_of stored h)) (machine_of stored h) r (machine_of stored h))
    → y.honest ≡ x.honest → KeepsBytes h.store h.cache d x y → KeepsStored h.store h.cache d x y
    → cache.IsSound h.store h.cache → k ≡ record h { cache = d } → Serves m x h r y k
back_serves m h k d x y r sound parts after steps honest bytes stored was same =
    same_serves m h k h.store d x y r sound (cleaned_recaches h d parts after) steps honest
    (λ is. (bytes is.honest).each)
    (λ is. record {
      honest = honest ∙ is.honest;
      short = λ g there. (let b = numbered_bounds d.files g there in
          let filed = was.files g in
          longer h.store h.cache d x y g ((bytes is.honest).each g)
          (is.short g (numbered_yes h.cache.files g b.0 (omega (arith, b.1, parts.files)))) filed.short);
      mirrors = stored is.honest is.mirrors;
    })
    same

-- clean extents were evicted
pub given_recaches : (h : KernelState) (new : Holding) → GivesUp (holding_of h) new → cache.IsSound new.store new.cache
    → Recaches h.store new.store h.cache new.cache
given_recaches h new m sound =
    record {
      moves = m.moves;
      lists = m.lists;
      reclaims = m.reclaims;
      pages = (keeps_pages_frees m.frees).count;
      files =
          m.keeps.count;
      pools = m.keeps.pools;
      sound = sound;
    }

pub given_serves : (m : State → Meaning (Unit {0})) (h k : KernelState) (new : Holding) (r : Result (Unit {0}) Refusal)
    → IsSound h → GivesUp (holding_of h) new → cache.IsSound new.store new.cache
    → ((stored : List (List ℕ)) → Step (m (machine_of stored h)) (machine_of stored h) r (machine_of stored h))
    → k ≡ record h { store = new.store; cache = new.cache } → (disk : Disk) → Serves m disk h r disk k
given_serves m h k new r sound gone after steps same disk =
    same_serves m h k new.store new.cache disk disk r sound (given_recaches h new gone after) steps refl
    (λ is. (gone.files disk.slots is.mirrors).each)
    (backed_kept disk (holding_of h) new gone.keeps.count (record { each = gone.mirrors })) same

-- the extent of least file and offset
pub flushed_parts : (s : Stored) (f : ℕ) (c d : Cached) (x y : Disk) → Cleans s f c d x y → is_numbered c.files f ≡ true
    → KeepsParts c d
flushed_parts s f c d x y m there =
    let put : CachedFile = record { pool = (file_in c.files f).pool; extents = m.extents } in
    let b = numbered_bounds c.files f there in
    let here : file_in (with_file c.files f put) f ≡ put = file_same c.files f put b.0 b.1 in
    record {
      files = ap length m.files ∙ length-with_file c.files f put;
      pools = λ g. ap (λ (l : List CachedFile). (file_in l g).pool) m.files ∙ elim (cases_eq g f) [
        | inl same ↦ ap (λ n. (file_in (with_file c.files f put) n).pool) same ∙ ap (λ (z : CachedFile). z.pool) here
            ∙ ap (λ n. (file_in c.files n).pool) (sym same)
        | inr ne ↦ ap (λ (z : CachedFile). z.pool) (file_other c.files f g put ne)
      ];
      parts = λ g. ap (λ (l : List CachedFile). all_parts (extents_in l g)) m.files ∙ elim (cases_eq g f) [
        | inl same ↦ ap (λ n. all_parts (extents_in (with_file c.files f put) n)) same
            ∙ ap (λ (z : CachedFile). all_parts z.extents.extents) here
            ∙ ap all_parts m.is
            ∙ parts-cleaned (extents_in c.files f) m.extent.at
            ∙ ap (λ n. all_parts (extents_in c.files n)) (sym same)
        | inr ne ↦ ap (λ (z : CachedFile). all_parts z.extents.extents) (file_other c.files f g put ne)
      ];
    }

-- a file that has a dirty extent is a file of the cache
pub dirty_there : (fs : List CachedFile) (f : ℕ) (e : Extent) → dirty_in (extents_in fs f) ≡ Some e
    → is_numbered fs f ≡ true
dirty_there fs f e is = pick (is_numbered fs f) refl
  where
    none_dirty : ◌≡◌ {A = Option Extent} None (Some e) → ⊥
    none_dirty z = cc

    pick : (b : Bool) → is_numbered fs f ≡ b → is_numbered fs f ≡ true
    pick true there = there
    pick false away =
        absurd (none_dirty (sym (ap (λ (z : CachedFile). dirty_in z.extents.extents) (file_nowhere fs f away)) ∙ is))

pub kept_parts : (c d : Cached) → d ≡ c → KeepsParts c d
kept_parts c d same = subst (KeepsParts c) (sym same) (same_parts c)

pub flush_parts : (s : Stored) (c d : Cached) (x y : Disk) (r : Result Flushed Refusal) → Flushes s c d x y r
    → KeepsParts c d × (y.honest ≡ x.honest)
flush_parts s c d x y (Ok Nothing) m = (kept_parts c d m.1, ap (λ (z : Disk). z.honest) m.2)
flush_parts s c d x y (Ok (Wrote f)) m =
    (flushed_parts s f c d x y m.1 (dirty_there c.files f m.1.extent m.1.first), m.1.honest)
flush_parts s c d x y (Err (because.Fault f)) m = (kept_parts c d m.1.same, m.1.honest)
flush_parts s c d x y (Err z) m = absurd m
