-- Places whose clients have no connection of an earlier world.
use Rattle.std.proofs.Common.{◌≡◌, ◌∙◌, ◌+◌, ℕ, List, Option, None, ap, arith, inl, inr}
use Rattle.std.proofs.Common.{set}
use Rattle.std.specs.Prelude.{IsFalse}
use Rattle.std.proofs.lemmas.Bool.{cases_eq}
use Rattle.iol_reactor.specs.Connections.{AreCurrent, is_earlier, link_at}
use Rattle.iol_reactor.specs.declared.links.Link.{Link}
use Rattle.iol_reactor.proofs.Served.{released_at, set_rest}

-- the connection of one more place is of the current world
pub current_next : (generation places : ℕ) (table : List (Option Link)) → AreCurrent generation places table
    → IsFalse (is_earlier generation (link_at table places)) → AreCurrent generation (places + 1) table
current_next generation places table all one j less = elim (cases_eq j places) [
  | inl same ↦ ap (λ (k : ℕ). is_earlier generation (link_at table k)) same ∙ one
  | inr other ↦ all j (omega (arith, less, other))
]

-- the client in one more place gives up its connection
pub current_released : (generation places : ℕ) (table next : List (Option Link)) → next ≡ set table places None
    → AreCurrent generation places table → AreCurrent generation (places + 1) next
current_released generation places table next same all = current_next generation places next
    (λ j less. ap (λ (l : Option Link). is_earlier generation l)
    (set_rest table next places None same j (omega (arith, less))) ∙ all j less)
    (ap (λ (l : Option Link). is_earlier generation l) (released_at table next places same))
