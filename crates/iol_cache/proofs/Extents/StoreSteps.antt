-- A cache over a store that makes a step, and marks that are few.
use Rattle.std.proofs.Common.{inl, inr, ◌≡◌, ℕ, ◌<◌, ◌≤◌, Bool, true, false, cond, eqb, List, [], ◌∷◌, get_or, Option}
use Rattle.std.proofs.Common.{Some, None, refl, sym, ap, arith, subst}
use Rattle.std.specs.List.{All}
use Rattle.std.proofs.lemmas.Bool.{cases_lt}
use Rattle.std.proofs.lemmas.List.Elements.{All-head, All-tail, All-nil}
use Rattle.iol_core.specs.declared.numbers.BufId.{BufId}
use Rattle.iol_arena.specs.State.{page_count}
use Rattle.iol_arena.specs.Buffers.{IsLive}
use Rattle.iol_hold.specs.Moves.{tally, Moves, Covers, SameLists}
use Rattle.iol_hold.specs.Places.{byte_len}
use Rattle.iol_hold.specs.StoreState.{Stored}
use Rattle.iol_hold.specs.Texts.{bufs_of}
use Rattle.iol_hold.specs.declared.slices.Slice.{Slice}
use Rattle.iol_hold.proofs.SlicePlaces.{byte_len-cons}
use Rattle.iol_extent.specs.Extents.{Extent, begins_at}
use Rattle.iol_cache.specs.Marks.{at_page, one_at, AreWithin}
use Rattle.iol_cache.specs.CacheState.{Cached, parts_in, all_parts, held, clean_held}
use Rattle.iol_cache.specs.RangeReads.{AllWithin}
use Rattle.iol_cache.specs.SharedBytes.{CountsBelow}
use Rattle.iol_cache.specs.Sound.{IsSound}
use Rattle.iol_cache.proofs.Extents.FewerExtents.{eq_of}
use Rattle.iol_cache.proofs.Extents.HeldSlices.{covers_all, covers_live, covers_extent, are_within, mark_is}
use Rattle.iol_cache.proofs.Extents.HeldSlices.{sum-clean_held}
use Rattle.iol_cache.proofs.Extents.FileEntries.{additive_tally}
use Rattle.iol_cache.proofs.Extents.OtherCalls.{held_still, open_all, open_same, sound_moved}

-- the store made a step, and the references of the extents remain
pub sound_on : (s t : Stored) (c : Cached) {xs ys : List BufId} → IsSound s c → Moves s t xs ys
    → Covers t (held c.files) → SameLists s t → page_count t.arena ≡ page_count s.arena → IsSound t c
sound_on s t c sound moves covers lists pages =
    sound_moved c sound moves covers (open_same s t c.files lists (open_all sound)) pages

pub sound_to : (s t : Stored) (c : Cached) → IsSound s c → Moves s t [] [] → SameLists s t
    → page_count t.arena ≡ page_count s.arena → IsSound t c
sound_to s t c sound moves lists pages =
    sound_on s t c sound moves (held_still (held c.files) moves.counts sound.covered) lists pages

-- the pages of extents
pub all_within : {t : Stored} (es : List Extent) (n : ℕ) → n ≡ page_count t.arena → Covers t (bufs_of (all_parts es))
    → AllWithin n es
all_within {t = t} es n is covers = record { each = λ at. pick (begins_at es at) at refl }
  where
    nothing : AreWithin n []
    nothing = record { each = All-nil (λ (b : BufId). b.page < n) }

    pick : (o : Option Extent) (at : ℕ) → begins_at es at ≡ o → AreWithin n (parts_in (begins_at es at))
    pick None at e = subst (λ (x : Option Extent). AreWithin n (parts_in x)) (sym e) nothing
    pick (Some x) at e =
        subst (λ (y : Option Extent). AreWithin n (parts_in y)) (sym e)
        (are_within x.parts n is (covers_extent es at x e covers))

-- Marks.

one_few : (p : ℕ) (b : BufId) → one_at p b ≤ 1
one_few p b = pick (eqb b.page p) where
  pick : (c : Bool) → cond {A = ℕ} c 1 0 ≤ 1
  pick true = omega arith
  pick false = omega arith

pub page_len : (p : ℕ) (xs : List Slice) → at_page p (bufs_of xs) ≤ byte_len xs
unfolding at_page
page_len p [] = omega arith
page_len p (x ∷ xs) = omega (arith, one_few p x.hold.buf, page_len p xs, byte_len-cons x xs, x.some)

some_there : (s : Stored) (p : ℕ) (bs : List BufId) → All (IsLive s.arena) bs → 0 < at_page p bs
    → (b : BufId) × (b.page ≡ p) × IsLive s.arena b
unfolding at_page
some_there s p [] all h = absurd (omega (arith, h))
some_there s p (b ∷ bs) all h = here (eqb b.page p) refl (some_there s p bs (All-tail (IsLive s.arena) b bs all))
  where
    here : (c : Bool) → eqb b.page p ≡ c → (0 < at_page p bs → (b : BufId) × (b.page ≡ p) × IsLive s.arena b)
        → (b : BufId) × (b.page ≡ p) × IsLive s.arena b
    here true is ih = (b, eq_of b.page p is, All-head (IsLive s.arena) b bs all)
    here false is ih = ih (omega (arith, h, ap (λ c. cond {A = ℕ} c 1 0) is))

pub mark_few : (s : Stored) (c : Cached) (n p : ℕ) → IsSound s c → CountsBelow s n → 0 < n → get_or c.marks p 0 < n
mark_few s c n p sound few some = elim (cases_lt 0 (at_page p (clean_held c.files))) [
  | inr nothing ↦ omega (arith, sound.marked.each p, nothing, some)
  | inl there ↦ (
      let b = some_there s p (clean_held c.files) (covers_live (clean_held c.files) (covers_all c.files sound.covered))
      there in
      let is = mark_is c.files b.0 sound.covered sound.marked b.2 in
      omega (
        arith,
        is,
        ap (λ q. get_or c.marks q 0) b.1,
        sound.covered.each b.0,
        sum-clean_held (tally b.0) (additive_tally b.0) c.files,
        few.each b.0,
      ))
]
