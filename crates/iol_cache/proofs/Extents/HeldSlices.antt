-- The references of extents, and those of others to the same buffers.
use Rattle.std.proofs.Common.{inl, inr, ◌≡◌, ℕ, ◌<◌, ◌≤◌, Bool, true, false, cond, List, [], ◌∷◌, length, get_or, Some}
use Rattle.std.proofs.Common.{None, refl, sym, ap, ◌∙◌, arith}
use Rattle.std.specs.Prelude.{nat_lt, ◌||◌}
use Rattle.std.specs.List.{All, list_any}
use Rattle.std.proofs.lemmas.Bool.{cases_lt}
use Rattle.std.proofs.lemmas.Grind.{common_steps}
use Rattle.std.proofs.lemmas.List.Elements.{All-nil, All-cons}
use Rattle.std.proofs.lemmas.List.Sums.{sum_by-le-sum_by}
use Rattle.iol_core.specs.NumberedLists.{is_numbered}
use Rattle.iol_core.specs.declared.numbers.BufId.{BufId}
use Rattle.iol_arena.specs.State.{State, entry_at, page_count, kind_head}
use Rattle.iol_arena.specs.Buffers.{IsLive}
use Rattle.iol_hold.specs.StoreState.{Stored, count_of}
use Rattle.iol_hold.specs.Moves.{tally, Covers}
use Rattle.iol_hold.specs.Texts.{bufs_of}
use Rattle.iol_hold.specs.declared.slices.Slice.{Slice}
use Rattle.iol_hold.proofs.Counts.{live_of}
use Rattle.iol_hold.proofs.Moves.{covers_first, covers_later}
use Rattle.iol_extent.specs.Extents.{Extent, begins_at, extent_over}
use Rattle.iol_extent.proofs.Cover.{extent_begins}
use Rattle.iol_cache.specs.declared.files.CachedFile.{CachedFile}
use Rattle.iol_cache.specs.Marks.{Counted, AreWithin, is_held_beside, is_in_use}
use Rattle.iol_cache.specs.CacheState.{file_in, no_file, extents_in, parts_in, parts_at, all_parts, clean_in}
use Rattle.iol_cache.specs.CacheState.{clean_parts, held, clean_held}
use Rattle.iol_cache.specs.Sound.{IsFiled, IsUsable}
use Rattle.iol_cache.specs.Evictions.{in_use, IsCleanAt}
use Rattle.iol_cache.proofs.Evictions.Marks.{at_page-live}
use Rattle.iol_cache.proofs.Extents.FileEntries.{file_nowhere, IsAdditive, additive_tally, additive_bufs, sum-flat}
use Rattle.iol_cache.proofs.Extents.FileEntries.{sum-file_in, sum-without_at, numbered_bounds}

none_begins : (fs : List CachedFile) (f at : ℕ) (e : Extent) → file_in fs f ≡ no_file
    → begins_at (extents_in fs f) at ≡ Some e → ⊥
none_begins fs f at e none h =
    let g : begins_at (extents_in fs f) at ≡ None = ap (λ (x : CachedFile). begins_at x.extents.extents at) none in
    cc

-- a file that has an extent is a file of the cache
pub begins_numbered : (fs : List CachedFile) (f at : ℕ) (e : Extent) → begins_at (extents_in fs f) at ≡ Some e
    → is_numbered fs f ≡ true
begins_numbered fs f at e h = pick (is_numbered fs f) refl where
  pick : (b : Bool) → is_numbered fs f ≡ b → b ≡ true
  pick true is = refl
  pick false is = absurd (none_begins fs f at e (file_nowhere fs f is) h)

pub clean_numbered : {fs : List CachedFile} {f at : ℕ} → IsCleanAt fs f at → (0 < f) × (f ≤ length fs)
clean_numbered {fs = fs} {f = f} {at = at} c = numbered_bounds fs f (begins_numbered fs f at c.extent c.begins)

-- an extent has no more slices than its file, and a file no more than all
pub sum-extent : (h : List BufId → ℕ) → IsAdditive h → (es : List Extent) (at : ℕ) (e : Extent)
    → begins_at es at ≡ Some e → h (bufs_of e.parts) ≤ h (bufs_of (all_parts es))
sum-extent h a es at e begins =
    let s = sum-flat (additive_bufs a) (λ (x : Extent). x.parts) es in
    let w = sum-without_at (λ (x : Extent). h (bufs_of x.parts)) es at e begins in
    omega (arith, s, w)

pub sum-file : (h : List BufId → ℕ) → IsAdditive h → (fs : List CachedFile) (f : ℕ)
    → h (bufs_of (all_parts (extents_in fs f))) ≤ h (held fs)
unfolding held
sum-file h a fs f =
    let s = sum-flat a (λ (x : CachedFile). bufs_of (all_parts x.extents.extents)) fs in
    let w = sum-file_in (λ (x : CachedFile). h (bufs_of (all_parts x.extents.extents))) fs f a.none in
    omega (arith, s, w)

pub sum-clean : (h : List BufId → ℕ) → IsAdditive h → (es : List Extent)
    → h (bufs_of (clean_in es)) ≤ h (bufs_of (all_parts es))
sum-clean h a es =
    let s = sum-flat (additive_bufs a) (λ (x : Extent). x.parts) es in
    let t = sum-flat (additive_bufs a) clean_parts es in
    let less = sum_by-le-sum_by (λ (x : Extent). h (bufs_of (clean_parts x))) (λ (x : Extent). h (bufs_of x.parts)) es
    each in
    omega (arith, s, t, less)
  where
    each : (x : Extent) → h (bufs_of (clean_parts x)) ≤ h (bufs_of x.parts)
    each x = pick x.dirty where
      pick : (b : Bool) → h (bufs_of (cond b [] x.parts)) ≤ h (bufs_of x.parts)
      pick true = omega (arith, a.none)
      pick false = omega arith

pub sum-clean_held : (h : List BufId → ℕ) → IsAdditive h → (fs : List CachedFile) → h (clean_held fs) ≤ h (held fs)
unfolding held clean_held
sum-clean_held h a fs =
    let s = sum-flat a (λ (x : CachedFile). bufs_of (all_parts x.extents.extents)) fs in
    let t = sum-flat a (λ (x : CachedFile). bufs_of (clean_in x.extents.extents)) fs in
    let less =
    sum_by-le-sum_by (λ (x : CachedFile). h (bufs_of (clean_in x.extents.extents)))
    (λ (x : CachedFile). h (bufs_of (all_parts x.extents.extents))) fs (λ x. sum-clean h a x.extents.extents) in
    omega (arith, s, t, less)

-- a clean extent's slices are among those of clean extents
pub sum-clean_at : (h : List BufId → ℕ) → IsAdditive h → (fs : List CachedFile) (f at : ℕ) (e : Extent)
    → begins_at (extents_in fs f) at ≡ Some e → e.dirty ≡ false → h (bufs_of e.parts) ≤ h (clean_held fs)
unfolding clean_held
sum-clean_at h a fs f at e begins clean =
    let es = extents_in fs f in
    let s = sum-flat a (λ (x : CachedFile). bufs_of (clean_in x.extents.extents)) fs in
    let t = sum-file_in (λ (x : CachedFile). h (bufs_of (clean_in x.extents.extents))) fs f a.none in
    let u = sum-flat (additive_bufs a) clean_parts es in
    let v = sum-without_at (λ (x : Extent). h (bufs_of (clean_parts x))) es at e begins in
    let w = ap (λ (b : Bool). h (bufs_of (cond b [] e.parts))) clean in
    omega (arith, s, t, u, v, w)

pub covers_all : {s : Stored} (fs : List CachedFile) → Covers s (held fs) → Covers s (clean_held fs)
covers_all fs c = record { each = λ b. omega (arith, c.each b, sum-clean_held (tally b) (additive_tally b) fs) }

pub covers_file : {s : Stored} (fs : List CachedFile) (f : ℕ) → Covers s (held fs)
    → Covers s (bufs_of (all_parts (extents_in fs f)))
covers_file fs f c = record { each = λ b. omega (arith, c.each b, sum-file (tally b) (additive_tally b) fs f) }

pub covers_extent : {s : Stored} (es : List Extent) (at : ℕ) (e : Extent) → begins_at es at ≡ Some e
    → Covers s (bufs_of (all_parts es)) → Covers s (bufs_of e.parts)
covers_extent es at e begins c =
    record { each = λ b. omega (arith, c.each b, sum-extent (tally b) (additive_tally b) es at e begins) }

pub covers_at : {s : Stored} (fs : List CachedFile) (f at : ℕ) (e : Extent) → begins_at (extents_in fs f) at ≡ Some e
    → Covers s (held fs) → Covers s (bufs_of e.parts)
covers_at fs f at e begins c = covers_extent (extents_in fs f) at e begins (covers_file fs f c)

pub covers_live : {s : Stored} (bs : List BufId) → Covers s bs → All (IsLive s.arena) bs
covers_live {s = s} [] c = All-nil (IsLive s.arena)
covers_live {s = s} (b ∷ bs) c =
    All-cons (IsLive s.arena) b bs (live_of s b (covers_first b bs c)) (covers_live bs (covers_later b bs c))

-- the pages of live buffers
pub live_page : {s : State} (b : BufId) → IsLive s b → b.page < page_count s
live_page {s = s} b live = elim (cases_lt b.page (page_count s)) [
  | inl l ↦ l
  | inr l ↦ absurd (let none : kind_head (entry_at s b.page).kind ≡ false = grind (arith, common_steps, l) in
      let some : kind_head (entry_at s b.page).kind ≡ true = ap kind_head live.head in
      let e : ◌≡◌ {A = Bool} true false = sym some ∙ none in cc)
]

pub within_pages : {s : Stored} (bs : List BufId) (n : ℕ) → n ≡ page_count s.arena → Covers s bs
    → All (λ (b : BufId). b.page < n) bs
within_pages {s = s} [] n is c = All-nil (λ (b : BufId). b.page < n)
within_pages {s = s} (b ∷ bs) n is c =
    All-cons (λ (b : BufId). b.page < n) b bs (omega (arith, live_page b (live_of s b (covers_first b bs c)), is))
    (within_pages bs n is (covers_later b bs c))

pub are_within : {s : Stored} (xs : List Slice) (n : ℕ) → n ≡ page_count s.arena → Covers s (bufs_of xs)
    → AreWithin n xs
are_within xs n is c = record { each = within_pages (bufs_of xs) n is c }

-- the mark of a live buffer is the number of its references by clean extents
pub mark_is : {s : Stored} (fs : List CachedFile) {marks : List ℕ} (b : BufId) → Covers s (held fs)
    → Counted marks (clean_held fs) → IsLive s.arena b → get_or marks b.page 0 ≡ tally b (clean_held fs)
mark_is {s = s} fs b covers counted live = counted.each b.page
    ∙ at_page-live s b (clean_held fs) live (covers_live (clean_held fs) (covers_all fs covers))

pub in_use_is : {s : Stored} (fs : List CachedFile) {marks : List ℕ} (xs : List Slice) → Covers s (held fs)
    → Counted marks (clean_held fs) → Covers s (bufs_of xs)
    → is_in_use s marks xs ≡ list_any (λ (x : Slice). is_held_beside s (clean_held fs) x.hold.buf) xs
in_use_is fs [] covers counted c = refl
in_use_is {s = s} fs {marks = marks} (x ∷ xs) covers counted c =
    let b = x.hold.buf in
    let same =
    ap (λ n. nat_lt n (count_of s b)) (mark_is fs b covers counted (live_of s b (covers_first b (bufs_of xs) c))) in
    ap (λ t. t || is_in_use s marks xs) same
    ∙ ap (λ t. is_held_beside s (clean_held fs) b || t)
    (in_use_is fs xs covers counted (covers_later b (bufs_of xs) c))

-- the extent that is found over the place is the one that begins there
pub found_is : {s : Stored} (fs : List CachedFile) (f at : ℕ) (x : CachedFile) (y : Extent) → IsFiled s (file_in fs f)
    → (c : IsCleanAt fs f at) → x ≡ file_in fs f → extent_over x.extents.extents at ≡ Some y → y ≡ c.extent
found_is fs f at x y filed c is found =
    let b = extent_begins 0 (extents_in fs f) at c.extent filed.apart c.begins in
    let g = ap (λ (z : CachedFile). extent_over z.extents.extents at) (sym is) in
    let e : Some y ≡ Some c.extent = sym found ∙ sym g ∙ b.0 in
    cc

pub not_found : {s : Stored} (fs : List CachedFile) (f at : ℕ) (x : CachedFile) → IsFiled s (file_in fs f)
    → IsCleanAt fs f at → x ≡ file_in fs f → extent_over x.extents.extents at ≡ None → ⊥
not_found fs f at x filed c is found =
    let b = extent_begins 0 (extents_in fs f) at c.extent filed.apart c.begins in
    let g = ap (λ (z : CachedFile). extent_over z.extents.extents at) (sym is) in
    let e : Some c.extent ≡ None = sym b.0 ∙ g ∙ found in
    cc

-- who uses the extent
pub used_is : {s : Stored} (fs : List CachedFile) (marks : List ℕ) (f at : ℕ) (xs : List Slice) → IsUsable s fs marks
    → (c : IsCleanAt fs f at) → xs ≡ c.extent.parts → is_in_use s marks xs ≡ in_use s fs f at
unfolding in_use
used_is {s = s} fs marks f at xs usable c is =
    let parts : parts_at fs f at ≡ c.extent.parts = ap parts_in c.begins in
    let covers = covers_at fs f at c.extent c.begins usable.covered in
    ap (is_in_use s marks) is ∙ in_use_is fs c.extent.parts usable.covered usable.marked covers
    ∙ ap (list_any (λ (x : Slice). is_held_beside s (clean_held fs) x.hold.buf)) (sym parts)
