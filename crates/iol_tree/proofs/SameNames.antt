-- Lists of names that are the same.
use Rattle.std.proofs.Common.{◌≡◌, ◌&&◌, List, [], ◌∷◌, refl, subst, sym, map, nat_eq, string_bytes, String}
use Rattle.std.specs.Bool.{Decides}
use Rattle.std.specs.Cmp.Lexicographic.{bytes_decides, pointwise, pointwise_decides}
use Rattle.std.specs.String.{string_eq}

-- the test of texts is that of their bytes
tests : {Z : Type 0} → (a b : List (String Z))
    → pointwise string_eq a b ≡ pointwise (pointwise nat_eq) (map string_bytes a) (map string_bytes b)
tests [] [] = refl
tests [] (y ∷ ys) = refl
tests (x ∷ xs) [] = refl
tests (x ∷ xs) (y ∷ ys) = λ i. string_eq x y && tests xs ys i

-- the test of two lists of texts is true exactly if they have the same bytes
pub names_decide : {Z : Type 0} → (a b : List (String Z))
    → Decides (pointwise string_eq a b) (map string_bytes a ≡ map string_bytes b)
names_decide a b = subst (λ t. Decides t (map string_bytes a ≡ map string_bytes b)) (sym (tests a b))
    (pointwise_decides bytes_decides (map string_bytes a) (map string_bytes b))
