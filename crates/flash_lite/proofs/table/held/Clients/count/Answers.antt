use Rattle.std.proofs.Common.{◌≡◌, ◌∙◌, ap, length, List, ℕ, rules}
use Rattle.iol_core.specs.NumberedLists.{taken}
use Rattle.flash_lite.proofs.Order.{as_held}
use Rattle.flash_lite.proofs.table.held.Clients.count.Goals as goal

pub returns : goal.returns
returns c =
    let many : c.len.result ≡ length c.self.inside.held.items = search rules in
    many
    ∙ (ap (λ (l : List ℕ). length l) c.self.invariant.1.held_is
    ∙ (as_held c.self.inside.places.items ∙ ap taken c.self.view_is))
