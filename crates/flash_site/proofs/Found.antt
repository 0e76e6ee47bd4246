-- The files that were found in a folder.
use Rattle.std.proofs.Common.{◌≡◌, ◌∙◌, ◌≤◌, ◌<◌, ◌-◌, ℕ, List, [], ◌∷◌, ap, arith, get_or, length, subst, sym}
use Rattle.std.specs.Prelude.{All, Contains}
use Rattle.std.specs.List.{zip}
use Rattle.std.proofs.lemmas.Slice.Zip.{get_or-zip, length-zip}
use Rattle.iol_back.specs.Disk.{Disk}
use Rattle.iol_proc.specs.World.{WorldState}
use Rattle.iol_system.specs.Machine.{SystemState}
use Rattle.iol_tree.specs.Index.{HaveSameFiles, IndexedFiles, IsPartOf}
use Rattle.flash_cgi.specs.declared.worker.Worker.{Worker}
use Rattle.flash_laws.specs.World.Consistency.{Actor}
use Rattle.flash_site.specs.Reads.{IsFound}
use Rattle.flash_site.specs.World.{IsWorldOf}
use Rattle.flash_site.specs.declared.source.Summary.{Summary}

-- the first part of a pair
in_first : {A B : Type 0} (zs : List A) (ws : List B) (p : A × B) → Contains (zip zs ws) p → Contains zs p.0
in_first {A} {B} zs ws p there =
    let first : there.0 < length zs = omega (arith, there.1, length-zip zs ws) in
    let second : there.0 < length ws = omega (arith, there.1, length-zip zs ws) in
    (there.0, first, ap (λ (q : A × B). q.0) (sym (get_or-zip zs ws there.0 p first second) ∙ there.2))

-- the first parts of pairs
among : {A B : Type 0} (xs zs : List A) (ys ws : List B) → length xs ≡ length ys
    → All (λ p. Contains (zip zs ws) p) (zip xs ys) → All (λ x. Contains zs x) xs
among xs zs [] ws same all k d within = absurd (omega (arith, same, within))
among {A} {B} xs zs (y ∷ ys) ws same all k d within =
    let inside : k < length (y ∷ ys) = omega (arith, same, within) in
    in_first zs ws (get_or xs k d, get_or (y ∷ ys) k y)
    (subst (λ (p : A × B). Contains (zip zs ws) p) (get_or-zip xs (y ∷ ys) k (d, y) within inside)
    (all k (d, y) (omega (arith, within, inside, length-zip xs (y ∷ ys)))))

-- the site has some of them, and the others are counted
pub all_found : (root : List ℕ) (summary : Summary) (world : WorldState SystemState (Actor Worker))
    (names : List (List ℕ)) (store : Disk) (all some found : IndexedFiles) → IsPartOf all some
    → length some.names ≡ length some.stamps → HaveSameFiles all found → found.root ≡ root
    → length found.names ≤ 1024 → names ≡ some.names → summary.files ≡ length names
    → summary.skipped ≡ some.skipped → IsWorldOf names store world → IsFound root summary world found
all_found root summary world names store all some found part stamped same root-is few are files skipped is = record {
  root-is = root-is;
  served = ∣ record {
    names = names;
    store = store;
    is = is;
    among = subst (λ (ns : List (List ℕ)). All (λ name. Contains ns name) names) same.0
        (subst (λ (ns : List (List ℕ)). All (λ name. Contains all.names name) ns) (sym are)
        (among some.names all.names some.stamps all.stamps stamped part.files));
  } ∣₁;
  counted = omega (arith, few, files, skipped, part.skipped, ap length same.0, ap length are);
}
