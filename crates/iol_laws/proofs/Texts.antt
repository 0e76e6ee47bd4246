-- Bytes of texts.
use Rattle.std.proofs.Common.{zero, suc, ◌≡◌, ℕ, List, [], ◌∷◌, ◌++◌, length, take, drop, ap, refl, Bool}
use Rattle.std.specs.List.{prefix_len}
use Rattle.iol_core.specs.Text.{Text, bytes_of, labelled, admitted}

pub bytes-labelled : (p : ℕ) (bytes : List ℕ) → bytes_of (labelled p bytes) ≡ bytes
bytes-labelled p [] = refl
bytes-labelled p (b ∷ bytes) = ap (λ (l : List ℕ). b ∷ l) (bytes-labelled p bytes)

pub length-labelled : (p : ℕ) (bytes : List ℕ) → length (labelled p bytes) ≡ length bytes
length-labelled p [] = refl
length-labelled p (b ∷ bytes) = ap suc (length-labelled p bytes)

pub bytes-append : (xs ys : Text) → bytes_of (xs ++ ys) ≡ bytes_of xs ++ bytes_of ys
bytes-append [] ys = refl
bytes-append (x ∷ xs) ys = ap (λ (l : List ℕ). x.0 ∷ l) (bytes-append xs ys)

pub bytes-take : (n : ℕ) (xs : Text) → bytes_of (take n xs) ≡ take n (bytes_of xs)
bytes-take zero xs = refl
bytes-take (suc n) [] = refl
bytes-take (suc n) (x ∷ xs) = ap (λ (l : List ℕ). x.0 ∷ l) (bytes-take n xs)

pub bytes-drop : (n : ℕ) (xs : Text) → bytes_of (drop n xs) ≡ drop n (bytes_of xs)
bytes-drop zero xs = refl
bytes-drop (suc n) [] = refl
bytes-drop (suc n) (x ∷ xs) = bytes-drop n xs

prefix-rest : (m n : ℕ) (q : Text) → q ≡ take m (take n q) ++ drop (length (take m (take n q))) q
prefix-rest zero n q = refl
prefix-rest (suc m) zero q = refl
prefix-rest (suc m) (suc n) [] = refl
prefix-rest (suc m) (suc n) (x ∷ q) = ap (λ (l : Text). x ∷ l) (prefix-rest m n q)

-- a queue is the longest prefix of its first n bytes that may be read, followed by the rest
pub admitted-rest : (may : ℕ → Bool) (n : ℕ) (q : Text)
    → q ≡ admitted may (take n q) ++ drop (length (admitted may (take n q))) q
admitted-rest may n q = prefix-rest (prefix_len (λ x. may x.1) (take n q)) n q

pub length-bytes : (w : Text) → length (bytes_of w) ≡ length w
length-bytes [] = refl
length-bytes (x ∷ w) = ap suc (length-bytes w)
