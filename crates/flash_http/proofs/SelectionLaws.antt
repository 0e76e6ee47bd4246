-- The selection of a file is within the file.
use Rattle.std.proofs.Common.{◌≡◌, ℕ, ◌-◌, ◌==◌, ◌<◌, ◌≤◌, refl, arith, Some, None, true, false, Bool}
use Rattle.std.specs.Prelude.{min, nat_le, nat_lt, if◌then◌else◌}
use Rattle.std.proofs.lemmas.Bool.Decides.{nat_tests}
use Rattle.flash_http.specs.declared.requests.Part.{Part}
use Rattle.flash_http.specs.declared.requests.Part.TheVariants.{From, Final}
use Rattle.flash_http.specs.declared.ranges.Selection.TheVariants.{Whole, Bytes, Unsatisfiable}
use Rattle.flash_http.specs.Range.{LiesWithin, SelectionsLieWithin, bytes_between, part_selected}

between-within : (first last len : ℕ) → first ≤ last → LiesWithin len (bytes_between first last len)
between-within first last len le = by (nat_le len first) refl
  where
    by : (b : Bool) → nat_le len first ≡ b
        → LiesWithin len (if b then Unsatisfiable else Bytes first (min last (len - 1)))
    by true is = tt
    by false is = (grind (arith, nat_tests, is, le), grind (arith, nat_tests, is, le))

part-within : (p : Part) (len : ℕ) → 0 < len → LiesWithin len (part_selected p len)
part-within (From first None) len some = by (nat_le len first) refl
  where
    by : (b : Bool) → nat_le len first ≡ b
        → LiesWithin len (if b then Unsatisfiable else Bytes first (min (len - 1) (len - 1)))
    by true is = tt
    by false is = (grind (arith, nat_tests, is), grind (arith, nat_tests, is))
part-within (From first (Some last)) len some = by (nat_lt last first) refl
  where
    by : (b : Bool) → nat_lt last first ≡ b → LiesWithin len (if b then Whole else bytes_between first last len)
    by true is = tt
    by false is = between-within first last len (grind (arith, nat_tests, is))
part-within (Final n) len some = by (n == 0) refl
  where
    by : (b : Bool) → (n == 0) ≡ b → LiesWithin len (if b then Unsatisfiable else Bytes (len - n) (len - 1))
    by true is = tt
    by false is = let more : 0 < n = grind (arith, nat_tests, is) in (omega arith, omega arith)

pub selected-within : SelectionsLieWithin
selected-within None len = tt
selected-within (Some p) len = by (len == 0) refl
  where
    by : (b : Bool) → (len == 0) ≡ b → LiesWithin len (if b then Whole else part_selected p len)
    by true is = tt
    by false is = part-within p len (grind (arith, nat_tests, is))
