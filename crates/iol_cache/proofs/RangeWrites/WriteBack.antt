-- A file of which dirty extents were written back.
use Rattle.std.proofs.Common.{inl, inr, ◌≡◌, ◌∙◌, ℕ, suc, ◌+◌, ◌-◌, ◌<◌, ◌≤◌, true, List, [], length, map, max, get_or}
use Rattle.std.specs.List.{AllByRecursion}
use Rattle.std.proofs.Common.{Some, refl, sym, ap, arith, subst}
use Rattle.std.specs.Prelude.{slice_index}
use Rattle.std.proofs.lemmas.Bool.{cases_eq}
use Rattle.std.proofs.lemmas.List.{append-nil, get_or-map, length-map}
use Rattle.iol_back.specs.Disk.{Disk, Tears, content}
use Rattle.iol_core.specs.NumberedLists.{is_numbered}
use Rattle.iol_core.specs.Text as text
use Rattle.iol_hold.specs.Moves.{tally}
use Rattle.iol_hold.specs.Places.{byte_len, places}
use Rattle.iol_hold.specs.StoreState.{Stored}
use Rattle.iol_hold.specs.Texts.{byte_at, bufs_of, text_of}
use Rattle.iol_hold.specs.declared.slices.Slice.{Slice}
use Rattle.iol_hold.proofs.Counts.{tally-append, tally_none}
use Rattle.iol_hold.proofs.Moves.{moves_none}
use Rattle.iol_extent.specs.Extents.{Extent, IsApart, begins_at, cell_at, dirty_in, end_of, is_over, last_end, no_place}
use Rattle.iol_extent.specs.Extents.{dirty_count}
use Rattle.iol_cache.specs.declared.files.CachedFile.{CachedFile}
use Rattle.iol_cache.specs.CacheState.{Cached, extents_in, file_in, held, all_parts}
use Rattle.iol_cache.specs.Contents.{AreStored, Mirrors, byte_in, bytes_in_slot, file_bytes}
use Rattle.iol_cache.specs.Evictions.{Holding}
use Rattle.iol_cache.specs.Sound.{IsLaid, IsSound}
use Rattle.iol_cache.specs.WriteBack.{Cleans, Fails, KeepsBytes, KeepsStored, Syncs, first_cleaned}
use Rattle.iol_extent.specs.Extents.{cleaned_at}
use Rattle.iol_cache.specs.Writes.{Changes}
use Rattle.iol_cache.proofs.Extents.ChangedFile.{sound_changed}
use Rattle.iol_cache.proofs.RangeWrites.CleanExtents.{bytes_alike, cleaned_more, count-cleaned, end-cleaned}
use Rattle.iol_cache.proofs.RangeWrites.CleanExtents.{first_dirty, laid-cleaned, parts-cleaned, read-cleaned}
use Rattle.iol_cache.proofs.RangeWrites.CleanExtents.{stored-cleaned, torn_byte, torn_len, torn_stored}
use Rattle.iol_cache.proofs.RangeWrites.Composition.{length-bytes}
use Rattle.iol_cache.proofs.Extents.FewerExtents.{last_end-without_at, over_of}
use Rattle.iol_cache.proofs.Extents.FileEntries.{file_other, file_same, length-with_file, numbered_bounds}
use Rattle.iol_cache.proofs.Evictions.Files.{bytes_same}
use Rattle.iol_cache.proofs.RangeWrites.StoredBytes.{stores_tears}

-- the byte at the k-th place
byte_there : (s : Stored) (xs : List Slice) (k : ℕ) → k < byte_len xs
    → byte_in s (get_or (places xs) k no_place) ≡ get_or (text.bytes_of (text_of s xs)) k 0
byte_there s xs k h =
    let ps = places xs in
    let first : ℕ × ℕ → ℕ = λ b. b.0 in
    let none : ℕ × ℕ = (0, 0) in
    let a : get_or (map first (map (byte_at s) ps)) k 0 ≡ first (get_or (map (byte_at s) ps) k none) =
    get_or-map first (map (byte_at s) ps) k none 0 (omega (arith, h, length-map ps (byte_at s))) in
    let b : get_or (map (byte_at s) ps) k none ≡ byte_at s (get_or ps k no_place) =
    get_or-map (byte_at s) ps k no_place none h in
    sym (a ∙ ap first b)

-- The store is written under the first dirty extent of a file.
module _ (s : Stored) (old : Cached) (f : ℕ) (x : Extent) (d e : Disk) (sound : IsSound s old)
    (first : dirty_in (extents_in old.files f) ≡ Some x)
    (tears : Tears x.at (byte_len x.parts) (content d.slots f) (content e.slots f)) where
  abbrev es : List Extent
  es = extents_in old.files f

  apart : IsApart 0 es
  apart = (sound.files f).apart

  begins : begins_at es x.at ≡ Some x
  begins = (first_dirty 0 es x apart first).0

  dirty : x.dirty ≡ true
  dirty = (first_dirty 0 es x apart first).1

  ends : end_of x ≤ last_end es
  ends = omega (arith, last_end-without_at es x.at x begins)

  under_bytes : file_bytes (byte_in s) (content e.slots f) es ≡ file_bytes (byte_in s) (content d.slots f) es
  under_bytes =
      bytes_alike (byte_in s) (content d.slots f) (content e.slots f) es es
      (torn_byte (content d.slots f) (content e.slots f) es x.at x apart begins refl dirty ends tears (byte_in s))
      (torn_len (content d.slots f) (content e.slots f) es x.at x apart begins refl dirty ends tears)

  under_stored : AreStored s (content d.slots f) es → AreStored s (content e.slots f) es
  under_stored all =
      record {
        each = λ i. torn_stored (content d.slots f) (content e.slots f) es x.at x apart begins refl dirty ends
            tears s i (all.each i);
      }

module _ (s : Stored) (f : ℕ) (old new : Cached) (d e : Disk) (sound : IsSound s old)
    (there : is_numbered old.files f ≡ true) (w : Cleans s f old new d e) where
  abbrev xs : List Extent
  xs = extents_in old.files f

  abbrev x : Extent
  x = w.extent

  abbrev p : ℕ
  p = (file_in old.files f).pool

  abbrev y : CachedFile
  y = record { pool = p; extents = w.extents }

  numbered : (0 < f) × (f ≤ length old.files)
  numbered = numbered_bounds old.files f there

  file_is : file_in new.files f ≡ y
  file_is = ap (λ l. file_in l f) w.files ∙ file_same old.files f y numbered.0 numbered.1

  extents_is : extents_in new.files f ≡ cleaned_at xs x.at
  extents_is = ap (λ (z : CachedFile). z.extents.extents) file_is ∙ w.is

  other_is : (g : ℕ) → (g ≡ f → ⊥) → file_in new.files g ≡ file_in old.files g
  other_is g ne = ap (λ l. file_in l g) w.files ∙ file_other old.files f g y ne

  abbrev change : Changes f [] (let h : Holding = record { store = s; cache = old } in
      h) (record { store = s; cache = new })
  change = record {
    extents = w.extents;
    order = w.order;
    apart = w.apart;
    files = w.files;
    orders = w.orders;
    follows = w.follows;
    moves = record {
      counts =
          record {
            each =
                λ b. omega (
                  arith,
                  ap (λ (l : List Slice). tally b (bufs_of l)) (append-nil (all_parts xs)),
                  ap (λ (l : List Extent). tally b (bufs_of (all_parts l))) w.is,
                  ap (λ (l : List Slice). tally b (bufs_of l)) (parts-cleaned xs x.at),
                );
          };
      stays = (moves_none s).stays;
      still = λ h. h;
      tidy = λ h. h;
    };
    pages = refl;
    pools = λ p is. refl;
  }

  pub cleaned_sound : IsSound s new
  cleaned_sound = sound_changed (record { store = s; cache = old }) (record { store = s; cache = new }) f [] sound there
      change
      (record {
        each =
            λ b. omega (arith, sound.covered.each b, tally-append b (held old.files) (bufs_of []), tally_none b);
      })
      (subst (λ (l : List Extent). AllByRecursion (IsLaid s p) l) (sym w.is)
      (laid-cleaned s p xs x.at (sound.files f).laid))
      (omega (arith, ap last_end w.is, end-cleaned xs x.at, (sound.files f).short))

  -- The bytes that are written.

  abbrev ws : List ℕ
  ws = text.bytes_of (text_of s x.parts)

  tears : d.honest ≡ true → Tears x.at (byte_len x.parts) (content d.slots f) (content e.slots f)
  tears h = subst (λ n. Tears x.at n (content d.slots f) (content e.slots f)) (length-bytes s x.parts)
      (stores_tears x.at ws (content d.slots f) (content e.slots f) (w.stored h))

  begins_x : begins_at xs x.at ≡ Some x
  begins_x = (first_dirty 0 xs x (sound.files f).apart w.first).0

  pub clean_bytes : d.honest ≡ true → (g : ℕ)
      → bytes_in_slot s e.slots new.files g ≡ bytes_in_slot s d.slots old.files g
  clean_bytes h g = elim (cases_eq g f) [
    | inl same ↦ ap (bytes_in_slot s e.slots new.files) same
        ∙ ap (file_bytes (byte_in s) (content e.slots f)) extents_is
        ∙ bytes_same (byte_in s) (byte_in s) (content e.slots f) (cleaned_at xs x.at) xs
        (λ i. read-cleaned (byte_in s) (slice_index (content e.slots f) i) xs x.at i)
        (ap (max (length (content e.slots f))) (end-cleaned xs x.at))
        ∙ under_bytes s old f x d e sound w.first (tears h)
        ∙ ap (bytes_in_slot s d.slots old.files) (sym same)
    | inr ne ↦ ap (λ (z : CachedFile). file_bytes (byte_in s) (content e.slots g) z.extents.extents) (other_is g ne)
        ∙ ap (λ l. file_bytes (byte_in s) l (extents_in old.files g)) ((w.others h).each g ne)
  ]

  own : d.honest ≡ true → (i : ℕ) → is_over x i ≡ true → (i < length (content e.slots f))
      × (byte_in s (cell_at x i).place ≡ slice_index (content e.slots f) i)
  own h i over =
      let b = over_of x i over in
      let k = i - x.at in
      let st = w.stored h in
      let n : length ws ≡ byte_len x.parts = length-bytes s x.parts in (
        omega (arith, st.reaches (omega (arith, n, b.0, b.1)), n, b.0, b.1),
        byte_there s x.parts k (omega (arith, b.0, b.1)) ∙ sym (st.inside k (omega (arith, n, b.0, b.1)))
            ∙ ap (slice_index (content e.slots f)) (let is : x.at + k ≡ i = omega (arith, b.0) in is),
      )

  pub clean_mirrors : d.honest ≡ true → Mirrors s d.slots old.files → Mirrors s e.slots new.files
  clean_mirrors h all = record {
    each = λ g. elim (cases_eq g f) [
      | inl same ↦ subst (λ k. AreStored s (content e.slots k) (extents_in new.files k)) (sym same)
          (subst (AreStored s (content e.slots f)) (sym extents_is) (record {
            each =
                λ i. stored-cleaned s (content e.slots f) xs x.at i x begins_x (own h i)
                ((under_stored s old f x d e sound w.first (tears h) (all.each f)).each i);
          }))
      | inr ne ↦ subst (λ (z : CachedFile). AreStored s (content e.slots g) z.extents.extents) (sym (other_is g ne))
          (subst (λ l. AreStored s l (extents_in old.files g)) (sym ((w.others h).each g ne)) (all.each g))
    ];
  }

  pool_is : (g : ℕ) → (file_in new.files g).pool ≡ (file_in old.files g).pool
  pool_is g = elim (cases_eq g f) [
    | inl same ↦ ap (λ k. (file_in new.files k).pool) same ∙ ap (λ (z : CachedFile). z.pool) file_is
        ∙ ap (λ k. (file_in old.files k).pool) (sym same)
    | inr ne ↦ ap (λ (z : CachedFile). z.pool) (other_is g ne)
  ]

  files_are : length new.files ≡ length old.files
  files_are = ap length w.files ∙ length-with_file old.files f y

  -- the file has one dirty extent less
  pub clean_fewer : dirty_count (extents_in new.files f) + 1 ≡ dirty_count xs
  clean_fewer =
      omega (
        arith,
        ap dirty_count extents_is,
        count-cleaned xs x.at x (sound.files f).apart begins_x (first_dirty 0 xs x (sound.files f).apart w.first).1,
      )

-- One after another.

pub syncs_none : (s : Stored) (f : ℕ) (c : Cached) (d : Disk) → Syncs s f c c d d
syncs_none s f c d = record {
  count = 0;
  extents = refl;
  others = λ g ne. refl;
  pools = λ g. refl;
  files = refl;
  honest = refl;
  contents = λ h. record { each = λ g. refl };
  mirrors = λ h m. m;
}

pub syncs_more : (s : Stored) (f : ℕ) (old mid new : Cached) (d m e : Disk) → IsSound s old → IsSound s mid
    → is_numbered mid.files f ≡ true → Syncs s f old mid d m → Cleans s f mid new m e → Syncs s f old new d e
syncs_more s f old mid new d m e sound now there a w =
    let first : dirty_in (first_cleaned a.count (extents_in old.files f)) ≡ Some w.extent = ap dirty_in (sym a.extents)
    ∙ w.first in
    record {
      count = suc a.count;
      extents = extents_is s f mid new m e now there w ∙ ap (λ (l : List Extent). cleaned_at l w.extent.at) a.extents
          ∙ cleaned_more a.count 0 (extents_in old.files f) w.extent (sound.files f).apart first;
      others = λ g ne. other_is s f mid new m e now there w g ne ∙ a.others g ne;
      pools = λ g. pool_is s f mid new m e now there w g ∙ a.pools g;
      files = files_are s f mid new m e now there w ∙ a.files;
      honest = w.honest ∙ a.honest;
      contents =
          λ h. record { each = λ g. clean_bytes s f mid new m e now there w (a.honest ∙ h) g ∙ (a.contents h).each g };
      mirrors = λ h all. clean_mirrors s f mid new m e now there w (a.honest ∙ h) (a.mirrors h all);
    }

-- If the store fails, no extent becomes clean, and every file keeps its bytes.

pub fail_bytes : (s : Stored) (f : ℕ) (old new : Cached) (d e : Disk) → IsSound s old → Fails f old new d e
    → KeepsBytes s old new d e
fail_bytes s f old new d e sound w = λ h. record {
  each = λ g. ap (λ (c : Cached). bytes_in_slot s e.slots c.files g) w.same ∙ elim (cases_eq g f) [
    | inl same ↦ ap (bytes_in_slot s e.slots old.files) same ∙ under_bytes s old f w.extent d e sound w.first (w.torn h)
        ∙ ap (bytes_in_slot s d.slots old.files) (sym same)
    | inr ne ↦ ap (λ l. file_bytes (byte_in s) l (extents_in old.files g)) ((w.others h).each g ne)
  ];
}

pub fail_stored : (s : Stored) (f : ℕ) (old new : Cached) (d e : Disk) → IsSound s old → Fails f old new d e
    → KeepsStored s old new d e
fail_stored s f old new d e sound w =
    λ h all. subst (λ (c : Cached). Mirrors s e.slots c.files) (sym w.same)
    (record { each = λ g. one h g (all.each g) })
  where
    one : d.honest ≡ true → (g : ℕ) → AreStored s (content d.slots g) (extents_in old.files g)
        → AreStored s (content e.slots g) (extents_in old.files g)
    one h g all = elim (cases_eq g f) [
      | inl same ↦ subst (λ k. AreStored s (content e.slots k) (extents_in old.files k)) (sym same)
          (under_stored s old f w.extent d e sound w.first (w.torn h)
          (subst (λ k. AreStored s (content d.slots k) (extents_in old.files k)) same all))
      | inr ne ↦ subst (λ l. AreStored s l (extents_in old.files g)) (sym ((w.others h).each g ne)) all
    ]

-- and the last one failed
pub syncs_fail : (s : Stored) (f : ℕ) (old mid new : Cached) (d m e : Disk) → IsSound s mid → Syncs s f old mid d m
    → Fails f mid new m e → Syncs s f old new d e
syncs_fail s f old mid new d m e now a w = record {
  count = a.count;
  extents = ap (λ (c : Cached). extents_in c.files f) w.same ∙ a.extents;
  others = λ g ne. ap (λ (c : Cached). file_in c.files g) w.same ∙ a.others g ne;
  pools = λ g. ap (λ (c : Cached). (file_in c.files g).pool) w.same ∙ a.pools g;
  files = ap (λ (c : Cached). length c.files) w.same ∙ a.files;
  honest = w.honest ∙ a.honest;
  contents =
      λ h. record { each = λ g. (fail_bytes s f mid new m e now w (a.honest ∙ h)).each g ∙ (a.contents h).each g };
  mirrors = λ h all. fail_stored s f mid new m e now w (a.honest ∙ h) (a.mirrors h all);
}
