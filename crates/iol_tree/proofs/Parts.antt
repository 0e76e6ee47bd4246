-- Parts of an index.
use Rattle.std.proofs.Common.{◌≡◌, ◌+◌, ◌-◌, ◌<◌, ◌≤◌, ◌∙◌, ◌++◌, ◌∷◌, ◌^◌, [], ℕ, List, All, Contains, Some, ap, arith}
use Rattle.std.proofs.Common.{length, refl, slice_get, subst, sym}
use Rattle.std.specs.List.{zip}
use Rattle.std.proofs.lemmas.List.{length_push}
use Rattle.std.proofs.lemmas.List.Elements.{All-push}
use Rattle.std.proofs.lemmas.Option.{get_or_from_slice_get, slice_get_within}
use Rattle.std.proofs.lemmas.Slice.Zip.{get_or-zip, length-zip}
use Rattle.iol_tree.specs.declared.stamp.Stamp.{Stamp}
use Rattle.iol_tree.specs.Index.{IndexedFiles, IsPartOf, no_files, raised_by, with_file, with_skipped}

-- the files are some of the first n of an index, and the others of these count as entries that are not listed
pub record ArePart (all : IndexedFiles) (n : ℕ) (some : IndexedFiles) : Type 0 where
  pub root : some.root ≡ all.root
  pub files : All (λ file. Contains (zip all.names all.stamps) file) (zip some.names some.stamps)
  pub stamped : length some.names ≡ length some.stamps
  pub few : length some.names ≤ n
  pub skipped : some.skipped ≡ raised_by all.skipped (n - length some.names)

-- one more of each
zip-push : {A B : Type 0} → (xs : List A) (ys : List B) (a : A) (b : B) → length xs ≡ length ys
    → zip (xs ++ a ∷ []) (ys ++ b ∷ []) ≡ zip xs ys ++ (a, b) ∷ []
zip-push [] [] a b same = refl
zip-push [] (y ∷ ys) a b same = absurd (omega (arith, same))
zip-push (x ∷ xs) [] a b same = absurd (omega (arith, same))
zip-push (x ∷ xs) (y ∷ ys) a b same = λ i. (x, y) ∷ zip-push xs ys a b (omega (arith, same)) i

-- two elements at one index
in_zip : {A B : Type 0} → (xs : List A) (ys : List B) (k : ℕ) (a : A) (b : B) → slice_get xs k ≡ Some a
    → slice_get ys k ≡ Some b
    → Contains (zip xs ys) (a, b)
in_zip xs ys k a b first second =
    let within = slice_get_within xs k a first in
    let inside = slice_get_within ys k b second in (
      k,
      omega (arith, within, inside, length-zip xs ys),
      get_or-zip xs ys k (a, b) within inside
          ∙ (λ i. (get_or_from_slice_get xs k a a first i, get_or_from_slice_get ys k b b second i)),
    )

-- at first there are none
pub part_none : (all some : IndexedFiles) (root : List ℕ) (skipped : ℕ) → some ≡ no_files root skipped → root ≡ all.root
    → skipped ≡ all.skipped → skipped < 2 ^ 64 → ArePart all 0 some
part_none all some root skipped is same count fits = subst (λ (i : IndexedFiles). ArePart all 0 i) (sym is) (record {
  root = same;
  files = λ k file within. absurd (omega (arith, within));
  stamped = refl;
  few = omega arith;
  skipped = omega (arith, fits, count);
})

-- the next file is added
pub part_added : (all some new : IndexedFiles) (n : ℕ) (name : List ℕ) (stamp : Stamp) → ArePart all n some
    → slice_get all.names n ≡ Some name → slice_get all.stamps n ≡ Some stamp → new ≡ with_file some name stamp
    → ArePart all (n + 1) new
part_added all some new n name stamp part named stamped is = subst (λ (i : IndexedFiles). ArePart all (n + 1) i)
    (sym is) (record {
      root = part.root;
      files = subst (λ fs. All (λ file. Contains (zip all.names all.stamps) file) fs)
          (sym (zip-push some.names some.stamps name stamp part.stamped))
          (All-push (λ file. Contains (zip all.names all.stamps) file) _ _ part.files
          (in_zip _ _ n name stamp named stamped));
      stamped = longer ∙ ap (λ k. k + 1) part.stamped ∙ sym (length_push some.stamps stamp);
      few = omega (arith, part.few, longer);
      skipped = omega (arith, part.few, part.skipped, longer);
    })
  where
    longer : length (some.names ++ name ∷ []) ≡ length some.names + 1
    longer = length_push some.names name

-- the next file is left out
pub part_skipped : (all some new : IndexedFiles) (n : ℕ) → ArePart all n some → new ≡ with_skipped some
    → ArePart all (n + 1) new
part_skipped all some new n part is = subst (λ (i : IndexedFiles). ArePart all (n + 1) i) (sym is) (record {
  root = part.root;
  files = part.files;
  stamped = part.stamped;
  few = omega (arith, part.few);
  skipped = omega (arith, part.few, part.skipped);
})

-- no file is left
pub part_of : (all some : IndexedFiles) (n : ℕ) → n ≡ length all.names → ArePart all n some → IsPartOf all some
part_of all some n is part = record {
  root = part.root;
  files = part.files;
  skipped = part.skipped ∙ ap (λ k. raised_by all.skipped (k - length some.names)) is;
}
