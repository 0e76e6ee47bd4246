-- A property of all elements of a list, after an insertion or a removal.
use Rattle.std.proofs.Common.{zero, suc, ℕ, List, [], ◌∷◌, insert, remove}
use Rattle.std.specs.List.{AllByRecursion}

pub each_insert : {A : Type 0} (P : A → Type 0) (xs : List A) (i : ℕ) (y : A) → AllByRecursion P xs → P y
    → AllByRecursion P (insert xs i y)
each_insert P [] zero y all here = (here, tt)
each_insert P [] (suc i) y all here = (here, tt)
each_insert P (x ∷ xs) zero y all here = (here, all)
each_insert P (x ∷ xs) (suc i) y all here = (all.0, each_insert P xs i y all.1 here)

pub each_remove : {A : Type 0} (P : A → Type 0) (xs : List A) (i : ℕ) → AllByRecursion P xs
    → AllByRecursion P (remove xs i)
each_remove P [] zero all = tt
each_remove P [] (suc i) all = tt
each_remove P (x ∷ xs) zero all = all.1
each_remove P (x ∷ xs) (suc i) all = (all.0, each_remove P xs i all.1)
