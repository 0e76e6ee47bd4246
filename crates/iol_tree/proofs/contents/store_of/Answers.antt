use Rattle.std.proofs.Common.{◌≡◌, ◌∙◌, ℕ, List, ◌++◌, ◌∷◌, [], ap, subst, sym, length, arith, rules, length-append}
use Rattle.std.proofs.lemmas.List.{map-append, length-map}
use Rattle.iol_back.specs.Lists.{items_of}
use Rattle.iol_tree.proofs.Fillings.{Fills, fills_none, one_filled, all_filled}
use Rattle.iol_tree.proofs.contents.store_of.Goals as goal

pub loop-bytes-init : goal.loop-bytes-init
loop-bytes-init c = record {
  few = search rules;
  fills = subst (λ (s : List (List ℕ)). Fills (items_of c.args.contents.items) (items_of c.args.contents.items) s)
      (sym c.new-slots.ensures) (fills_none _);
}

pub loop-bytes-preserved : goal.loop-bytes-preserved
loop-bytes-preserved c =
    let bytes = c.in-Some.bytes in
    let rest = c.pop.new.self.items in
    let was : c.loop-bytes.contents.items ≡ rest ++ bytes ∷ [] = search rules in
    let shorter = ap length was ∙ length-append rest (bytes ∷ []) in
    let lists = ap items_of was ∙ map-append (λ v. v.items) rest (bytes ∷ []) in
    let fills = subst (λ (l : List (List ℕ)). Fills (items_of c.args.contents.items) l c.loop-bytes.slots) lists
    c.loop-bytes.invariant.fills in
    record {
      few = omega (arith, shorter, c.loop-bytes.invariant.few);
      fills = one_filled _ (items_of rest) c.loop-bytes.slots c.append.new.self bytes.items _ fills
          (omega (arith, c.new.ensures, c.len.ensures, c.pop.new.self.ok.0, length-map rest (λ v. v.items)))
          (search rules) c.append.ensures.others;
    }

pub returns-clause-bytes : goal.returns-clause-bytes
returns-clause-bytes c =
    let left = c.loop-bytes.contents.items in
    rw c.new-2.ensures.slots
    (all_filled _ (items_of left) c.loop-bytes.slots
    (omega (arith, c.in_default.ensures.cases.0, c.loop-bytes.contents.ok.0, length-map left (λ v. v.items)))
    c.loop-bytes.invariant.fills)
