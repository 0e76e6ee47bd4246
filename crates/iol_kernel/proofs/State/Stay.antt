-- Buffers that are live before and after a call are unchanged.
use Rattle.std.proofs.Common.{◌≡◌, [], refl, subst, sym}
use Rattle.iol_hold.specs.StoreState.{Stored}
use Rattle.iol_hold.specs.Moves.{Stays}
use Rattle.iol_hold.specs.Pages.{KeepsPages}
use Rattle.iol_hold.proofs.Moves.{moves_none}
use Rattle.iol_hold.proofs.PageChanges.{keeps_pages_same}

pub stays_here : (s : Stored) → Stays s s
stays_here s = (moves_none s).stays

-- an unchanged store
pub stays_equal : (s t : Stored) → t ≡ s → Stays s t
stays_equal s t e = subst (Stays s) (sym e) (stays_here s)

-- and its pages
pub pages_here : (s : Stored) → KeepsPages s s []
pages_here s = keeps_pages_same s s refl refl

pub pages_equal : (s t : Stored) → t ≡ s → KeepsPages s t []
pages_equal s t e = subst (λ (u : Stored). KeepsPages s u []) (sym e) (pages_here s)

pub ruleset stay_rules = (stays_here, stays_equal, pages_here, pages_equal)
