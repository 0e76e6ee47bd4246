-- Slices of one pool.
use Rattle.std.proofs.Common.{suc, ◌≡◌, ℕ, All, List, [], ◌∷◌, length, map, take, drop, refl, sym, ap, ◌∙◌, arith}
use Rattle.std.proofs.lemmas.List.{take_at, drop_at}
use Rattle.std.proofs.lemmas.List.Elements.{All-nil, All-cons, All-take, All-drop, All-same}
use Rattle.std.proofs.lemmas.List.FromFn.{get_or-map-range_with_len}
use Rattle.iol_core.specs.Text as text
use Rattle.iol_hold.specs.StoreState.{Stored}
use Rattle.iol_hold.specs.Places.{Place, place_in, slice_places, places}
use Rattle.iol_hold.specs.Texts.{byte_at, text_of}
use Rattle.iol_hold.specs.declared.slices.Slice.{Slice}
use Rattle.iol_hold.proofs.SlicePlaces.{length-slice_places}

pub length-labelled : (p : ℕ) (w : List ℕ) → length (text.labelled p w) ≡ length w
length-labelled p [] = refl
length-labelled p (b ∷ w) = ap suc (length-labelled p w)

abbrev IsOf : ℕ → Place → Type 0
IsOf p l = l.pool ≡ p

first_pool : (p : ℕ) (x : Slice) → All (IsOf p) (slice_places x) → x.hold.pool ≡ p
first_pool p x h =
    let d : Place = place_in x 0 in
    sym
    (ap (λ (l : Place). l.pool)
    (get_or-map-range_with_len (place_in x) x.from x.len 0 x.from d (omega (arith, x.some)) (omega arith)))
    ∙ h 0 d (omega (arith, length-slice_places x, x.some))

-- each slice has a byte
pub pooled_places : (p : ℕ) (xs : List Slice) → All (IsOf p) (places xs) → All (λ (x : Slice). x.hold.pool ≡ p) xs
pooled_places p [] h = All-nil (λ (x : Slice). x.hold.pool ≡ p)
pooled_places p (x ∷ xs) h =
    let n = length (slice_places x) in
    let head : take n (places (x ∷ xs)) ≡ slice_places x = take_at (slice_places x) (places xs) n refl in
    let rest : drop n (places (x ∷ xs)) ≡ places xs = drop_at (slice_places x) (places xs) n refl in
    All-cons (λ (x : Slice). x.hold.pool ≡ p) x xs
    (first_pool p x (All-same (IsOf p) _ _ (sym head) (All-take (IsOf p) n (places (x ∷ xs)) h)))
    (pooled_places p xs (All-same (IsOf p) _ _ (sym rest) (All-drop (IsOf p) n (places (x ∷ xs)) h)))

places_of : (t : Stored) (p : ℕ) (ls : List Place) (w : List ℕ) → map (byte_at t) ls ≡ text.labelled p w
    → All (IsOf p) ls
places_of t p [] w e = All-nil (IsOf p)
places_of t p (l ∷ ls) [] e = cc
places_of t p (l ∷ ls) (b ∷ w) e =
    let here : (byte_at t l).1 ≡ p = ap (λ (x : ℕ × ℕ). x.1) (let q : byte_at t l ≡ (b, p) = cc in q) in
    let rest : map (byte_at t) ls ≡ text.labelled p w = cc in
    All-cons (IsOf p) l ls here (places_of t p ls w rest)

pub pooled_text : (t : Stored) (p : ℕ) (xs : List Slice) (w : List ℕ) → text_of t xs ≡ text.labelled p w
    → All (λ (x : Slice). x.hold.pool ≡ p) xs
pooled_text t p xs w e = pooled_places p xs (places_of t p (places xs) w e)
