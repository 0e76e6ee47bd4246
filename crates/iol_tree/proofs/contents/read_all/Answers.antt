use Rattle.std.proofs.Common.{◌∙◌, ℕ, List, ◌∷◌, [], ap, map, length}
use Rattle.std.proofs.lemmas.List.{map-append}
use Rattle.iol_back.specs.Lists.{items_of}
use Rattle.iol_tree.specs.Index.{file_lengths}
use Rattle.iol_tree.proofs.Fillings.{lengths_more}
use Rattle.iol_tree.proofs.contents.read_all.Goals as goal

pub loop-place-preserved : goal.loop-place-preserved
loop-place-preserved g c =
    ap (λ (l : List (List ℕ)). map length l) (ap items_of c.in_ok-push.ensures.items
    ∙ map-append (λ v. v.items) c.loop-place.contents.items (c.in_ok-read_file.field-0 ∷ []))
    ∙ lengths_more (file_lengths c.args.index.now) c.loop-place.place (items_of c.loop-place.contents.items)
    c.in_ok-read_file.field-0.items c.loop-place.invariant c.in_ok-read_file.ensures
