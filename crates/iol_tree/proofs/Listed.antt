-- Files that are added to an index, one after another, or counted.
use Rattle.std.proofs.Common.{◌≡◌, ◌+◌, ◌<◌, ◌≤◌, ◌∙◌, ◌∷◌, ◌^◌, [], ℕ, List, ap, arith, inl, inr, length, refl, subst}
use Rattle.std.proofs.Common.{sym, take}
use Rattle.std.proofs.lemmas.List.{length_push, length-take, take-append-le, take_all}
use Rattle.iol_tree.specs.Index.{AddsOrSkips, IndexedFiles, ListsOrCounts, raised_by}

-- at first there are none
pub listed_none : (s : IndexedFiles) → s.skipped < 2 ^ 64 → ListsOrCounts 0 s s
listed_none s fits = record {
  root = refl;
  names = take_all (length s.names) s.names (omega arith);
  few = omega arith;
  skipped = omega (arith, fits);
}

-- the next one is added or skipped
pub listed_more : (old now new : IndexedFiles) (n m : ℕ) (name : List ℕ) → ListsOrCounts n old now
    → AddsOrSkips name now new
    → m ≡ n + 1
    → ListsOrCounts m old new
listed_more old now new n m name lists taken is = elim taken [
  | inl adds ↦ let longer = ap length adds.names ∙ length_push now.names name in record {
    root = adds.root ∙ lists.root;
    names = ap (take (length old.names)) adds.names ∙ take-append-le (length old.names) now.names (name ∷ []) kept
        ∙ lists.names;
    few = omega (arith, lists.few, longer, is);
    skipped = adds.skipped ∙ lists.skipped ∙ ap (raised_by old.skipped) (omega (arith, longer, kept, lists.few, is));
  }
  | inr skips ↦ subst (λ (f : IndexedFiles). ListsOrCounts m old f) (sym skips) (record {
    root = lists.root;
    names = lists.names;
    few = omega (arith, lists.few, is);
    skipped = omega (arith, lists.skipped, kept, lists.few, is);
  })
]
  where
    kept : length old.names ≤ length now.names
    kept = omega (arith, sym (length-take (length old.names) now.names) ∙ ap length lists.names)
