-- The number of the bytes of a store's files.
use Rattle.std.proofs.Common.{◌≡◌, ◌∙◌, ℕ, ◌-◌, ◌^◌, List, [], ap, arith, false, length, map, min, sum, refl, sym, true}
use Rattle.std.proofs.Math.ListN.{get_or-map}
use Rattle.std.proofs.lemmas.Bool.{true≢false}
use Rattle.std.proofs.lemmas.Bool.Decides.{nat_tests}
use Rattle.iol_back.specs.Disk.{Disk, content, length_reported}
use Rattle.iol_tree.specs.Store.{HaveLengths, HoldsBytes}
use Rattle.flash_site.specs.World.{HasBytes}

-- the length of a file, by the lengths of all
length-content : (contents : List (List ℕ)) (f : ℕ) → length (content contents f) ≡ length_reported (map length contents) f
unfolding content length_reported
length-content contents f = let e = get_or-map length contents (f - 1) [] in grind (arith, nat_tests, e)

-- an honest store that holds the bytes of files of these lengths
pub held_bytes : (store : Disk) (lengths : List ℕ) (contents : List (List ℕ)) (bytes : ℕ) → store.honest ≡ true
    → HoldsBytes contents store.slots → HaveLengths lengths contents → bytes ≡ min (sum lengths) (2 ^ 64 - 1)
    → HasBytes store bytes
held_bytes store lengths contents bytes honest holds have total = record {
  lengths = lengths;
  honest = λ _ f. ap length (holds.each f) ∙ length-content contents f
      ∙ ap (λ (l : List ℕ). length_reported l f) have;
  reported = λ not. absurd (true≢false (sym honest ∙ not));
  total = total;
}

-- a store that is not honest, and reports these lengths
pub reported_bytes : (store : Disk) (lengths : List ℕ) → store.honest ≡ false → store.reported ≡ lengths
    → HasBytes store (min (sum lengths) (2 ^ 64 - 1))
reported_bytes store lengths not reported = record {
  lengths = lengths;
  honest = λ honest. absurd (true≢false (sym honest ∙ not));
  reported = λ _. reported;
  total = refl;
}
