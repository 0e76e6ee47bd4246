use Rattle.std.proofs.Common.{rules}
use Rattle.std.specs.Prelude.{is_some}
use Rattle.std.proofs.lemmas.List.Elements.{filter_from_retain}
use Rattle.iol_desc.proofs.entries.close_holes.Goals as goal

pub returns-clause-items : goal.returns-clause-items
returns-clause-items g c =
    filter_from_retain _ (λ e. is_some e.1) (λ p x b q called. search rules) _ _ _ c.retain.ensures.filtered
