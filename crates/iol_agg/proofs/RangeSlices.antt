-- The slices that meet a range.
use Rattle.std.proofs.Common.{◌≡◌, ℕ, zero, suc, ◌+◌, ◌-◌, ◌<◌, ◌≤◌, min, cond, List, [], ◌∷◌, ◌++◌, length, take, drop}
use Rattle.std.proofs.Common.{get_or, refl, sym, ap, ◌∙◌, arith, append_assoc, append-nil}
use Rattle.std.proofs.lemmas.Bool.{lt-ltb, le-ltb}
use Rattle.std.proofs.lemmas.List.{at_drop_more}
use Rattle.iol_core.specs.declared.numbers.BufId.{BufId}
use Rattle.iol_hold.specs.declared.slices.Slice.{Slice}
use Rattle.iol_hold.specs.Places.{byte_len}
use Rattle.iol_hold.specs.Texts.{bufs_of}
use Rattle.iol_hold.proofs.SlicePlaces.{byte_len-cons}
use Rattle.iol_hold.proofs.Counts.{bufs-push}
use Rattle.iol_agg.specs.Pours.{meeting}

-- the first slice meets the range
meeting-first : (from to : ℕ) (x : Slice) (xs : List Slice) → from < to → from < x.len
    → meeting from to (x ∷ xs) ≡ x ∷ meeting (from - x.len) (to - x.len) xs
unfolding meeting
meeting-first from to x xs h k =
    ap (λ b. cond b (x ∷ []) [] ++ meeting (from - x.len) (to - x.len) xs) (lt-ltb from (min to x.len) (omega arith))

pub meeting-nil : (from to : ℕ) → meeting from to [] ≡ []
unfolding meeting
meeting-nil from to = refl

-- no slice meets an empty range
pub meeting-empty : (at : ℕ) (xs : List Slice) → meeting at at xs ≡ []
unfolding meeting
meeting-empty at [] = refl
meeting-empty at (x ∷ xs) =
    ap (λ b. cond b (x ∷ []) [] ++ meeting (at - x.len) (at - x.len) xs) (le-ltb at (min at x.len) (omega arith))
    ∙ meeting-empty (at - x.len) xs

-- all slices meet the range
pub meeting-all : (from to : ℕ) (xs : List Slice) → from ≡ 0 → byte_len xs ≤ to → meeting from to xs ≡ xs
unfolding meeting
meeting-all from to [] z h = refl
meeting-all from to (x ∷ xs) z h =
    ap (λ b. cond b (x ∷ []) [] ++ meeting (from - x.len) (to - x.len) xs)
    (lt-ltb from (min to x.len) (omega (arith, byte_len-cons x xs, x.some)))
    ∙ ap (λ t. x ∷ t) (meeting-all (from - x.len) (to - x.len) xs (omega arith) (omega (arith, byte_len-cons x xs)))

-- only the first slice meets the range
pub meeting-start : (to : ℕ) (x : Slice) (xs : List Slice) → 0 < to → to < x.len → meeting 0 to (x ∷ xs) ≡ x ∷ []
meeting-start to x xs h k =
    let none : 0 - x.len ≡ 0 = omega arith in
    let end : to - x.len ≡ 0 = omega (arith, k) in
    meeting-first 0 to x xs h x.some ∙ ap (λ n. x ∷ meeting n (to - x.len) xs) none ∙ ap (λ n. x ∷ meeting 0 n xs) end
    ∙ ap (λ t. x ∷ t) (meeting-empty 0 xs)

-- the first k slices, and those that meet the bytes after them
pub meeting-front : (xs : List Slice) (k r at : ℕ) → byte_len (take k xs) + r ≡ at
    → take k xs ++ meeting 0 r (drop k xs) ≡ meeting 0 at xs
meeting-front xs zero r at e = (let same : r ≡ at = omega (arith, e) in ap (λ n. meeting 0 n xs) same)
meeting-front [] (suc k) r at e = meeting-nil 0 r ∙ sym (meeting-nil 0 at)
meeting-front (x ∷ xs) (suc k) r at e =
    let len : byte_len (x ∷ take k xs) ≡ x.len + byte_len (take k xs) = byte_len-cons x (take k xs) in
    let none : 0 - x.len ≡ 0 = omega arith in
    ap (λ t. x ∷ t) (meeting-front xs k r (at - x.len) (omega (arith, len, e)))
    ∙ ap (λ n. x ∷ meeting n (at - x.len) xs) (sym none)
    ∙ sym (meeting-first 0 at x xs (omega (arith, len, e, x.some)) x.some)

-- all slices meet a range that begins within the first
pub meeting-rest : (xs : List Slice) (r to : ℕ) → ((d : Slice) → 0 < r → r < (get_or xs 0 d).len) → byte_len xs ≤ to
    → meeting r to xs ≡ xs
meeting-rest [] r to inside h = meeting-nil r to
meeting-rest (x ∷ xs) zero to inside h = meeting-all 0 to (x ∷ xs) refl h
meeting-rest (x ∷ xs) (suc r) to inside h =
    let len : byte_len (x ∷ xs) ≡ x.len + byte_len xs = byte_len-cons x xs in
    let within : suc r < x.len = inside x (omega arith) in
    meeting-first (suc r) to x xs (omega (arith, len, h, within)) within
    ∙ ap (λ t. x ∷ t) (meeting-all (suc r - x.len) (to - x.len) xs (omega (arith, within)) (omega (arith, len, h)))

-- the slices after the first k, which end before the range
pub meeting-drop : (xs : List Slice) (k r n from to : ℕ) → byte_len (take k xs) + r ≡ from → from + n ≡ to
    → meeting r (r + n) (drop k xs) ≡ meeting from to xs
unfolding meeting
meeting-drop xs zero r n from to e f =
    let same : r ≡ from = omega arith in
    let end : r + n ≡ to = omega arith in
    ap (λ i. meeting i (r + n) xs) same ∙ ap (λ i. meeting from i xs) end
meeting-drop [] (suc k) r n from to e f = refl
meeting-drop (x ∷ xs) (suc k) r n from to e f =
    let len : byte_len (x ∷ take k xs) ≡ x.len + byte_len (take k xs) = byte_len-cons x (take k xs) in
    meeting-drop xs k r n (from - x.len) (to - x.len) (omega (arith, len)) (omega (arith, len))
    ∙ ap (λ b. cond b (x ∷ []) [] ++ meeting (from - x.len) (to - x.len) xs)
    (sym (le-ltb from (min to x.len) (omega (arith, len))))

-- one step of a cut: this slice is taken, and the rest comes from the slices after it, from their first byte on
pub meeting_more : (out xs : List Slice) (i skip left taken : ℕ) (x part : Slice) (all : List BufId) → i < length xs
    → x ≡ get_or xs i x
    → 0 < left → skip < x.len → taken ≡ min left (x.len - skip) → part.hold.buf ≡ x.hold.buf
    → bufs_of out ++ bufs_of (meeting skip (skip + left) (drop i xs)) ≡ all
    → bufs_of (out ++ part ∷ []) ++ bufs_of (meeting 0 (0 + (left - taken)) (drop (i + 1) xs)) ≡ all
meeting_more out xs i skip left taken x part all h e some ends is same before =
    let rest : List Slice = drop (i + 1) xs in
    let later : List Slice = meeting 0 (0 + (left - taken)) rest in
    let done : skip - x.len ≡ 0 = omega arith in
    let less : skip + left - x.len ≡ 0 + (left - taken) = omega (arith, is) in
    let step : meeting skip (skip + left) (drop i xs) ≡ x ∷ later =
    at_drop_more (meeting skip (skip + left)) xs i x h ∙ ap (λ y. meeting skip (skip + left) (y ∷ rest)) (sym e)
    ∙ meeting-first skip (skip + left) x rest (omega arith) ends
    ∙ ap (λ n. x ∷ meeting n (skip + left - x.len) rest) done ∙ ap (λ n. x ∷ meeting 0 n rest) less in
    ap (λ t. t ++ bufs_of later) (bufs-push out part ∙ ap (λ b. bufs_of out ++ b ∷ []) same)
    ∙ append_assoc (bufs_of out) (x.hold.buf ∷ []) (bufs_of later) ∙ ap (λ l. bufs_of out ++ bufs_of l) (sym step)
    ∙ before

-- no byte is left
pub meeting_done : (done xs : List Slice) (skip left : ℕ) (all : List BufId) → meeting skip (skip + left) xs ≡ []
    → bufs_of done ++ bufs_of (meeting skip (skip + left) xs) ≡ all → bufs_of done ≡ all
meeting_done done xs skip left all none h = sym (append-nil (bufs_of done))
    ∙ ap (λ l. bufs_of done ++ bufs_of l) (sym none) ∙ h

-- a part, all of other slices, and another part
pub meeting_thrice : (none one two all xs xs' xs'' ys ys' : List Slice) (from to len len' : ℕ) → none ≡ []
    → bufs_of one ≡ bufs_of none ++ bufs_of (meeting 0 from xs')
    → bufs_of two ≡ bufs_of one ++ bufs_of (meeting 0 len' ys')
    → bufs_of all ≡ bufs_of two ++ bufs_of (meeting to len xs'')
    → xs' ≡ xs → ys' ≡ ys → xs'' ≡ xs → len' ≡ byte_len ys → len ≡ byte_len xs
    → bufs_of all ≡ bufs_of (meeting 0 from xs) ++ bufs_of ys ++ bufs_of (meeting to (byte_len xs) xs)
meeting_thrice none one two all xs xs' xs'' ys ys' from to len len' e first second third ex ey ez ly lx =
    let start = bufs_of (meeting 0 from xs) in
    let a : bufs_of one ≡ start = first ∙ ap (λ l. bufs_of l ++ bufs_of (meeting 0 from xs')) e
    ∙ ap (λ l. bufs_of (meeting 0 from l)) ex in
    let b : bufs_of two ≡ start ++ bufs_of ys =
    second ∙ ap (λ t. t ++ bufs_of (meeting 0 len' ys')) a ∙ ap (λ l. start ++ bufs_of (meeting 0 len' l)) ey
    ∙ ap (λ l. start ++ bufs_of l) (meeting-all 0 len' ys refl (omega arith)) in
    third ∙ ap (λ t. t ++ bufs_of (meeting to len xs'')) b
    ∙ ap (λ l. start ++ bufs_of ys ++ bufs_of (meeting to len l)) ez
    ∙ ap (λ n. start ++ bufs_of ys ++ bufs_of (meeting to n xs)) lx
