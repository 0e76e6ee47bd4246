-- The first refusal among replies.
use Rattle.std.proofs.Common.{◌≡◌, ◌<◌, ℕ, suc, ◌+◌, List, [], ◌∷◌, ◌++◌, length, take, drop, get_or, refl, sym, ap}
use Rattle.std.proofs.Common.{◌∙◌, Some, None, drop-cons}
use Rattle.std.proofs.lemmas.List.{take_more, take-append-drop}
use Rattle.iol_core.specs.declared.events.Reply.{Reply}
use Rattle.iol_core.specs.declared.events.Reply.TheVariants as reply
use Rattle.iol_core.specs.declared.refusals.Refusal.{Refusal}
use Rattle.flash_lite.specs.Setup.{first_refusal}

-- it is that of the rest, if the first replies are no refusals
pub refusal-append : (rs qs : List Reply) → first_refusal rs ≡ None → first_refusal (rs ++ qs) ≡ first_refusal qs
refusal-append [] qs none = refl
refusal-append (reply.Refused x ∷ rs) qs none = absurd (cc)
refusal-append (r ∷ rs) qs none = refusal-append rs qs none

-- the reply at this index is the first refusal
pub refused_at : (rs : List Reply) (i : ℕ) (x : Refusal) (d : Reply) → i < length rs → first_refusal (take i rs) ≡ None
    → get_or rs i d ≡ reply.Refused x → first_refusal rs ≡ Some x
refused_at rs i x d within none is =
    ap first_refusal (sym (take-append-drop i rs))
    ∙ (refusal-append (take i rs) (drop i rs) none
    ∙ (ap first_refusal (drop-cons rs i d within) ∙ ap (λ (r : Reply). first_refusal (r ∷ drop (suc i) rs)) is))

-- one more reply that is no refusal
pub none_more : (rs : List Reply) (i : ℕ) (d : Reply) → i < length rs → first_refusal (take i rs) ≡ None
    → first_refusal (get_or rs i d ∷ []) ≡ None → first_refusal (take (i + 1) rs) ≡ None
none_more rs i d within none one = ap first_refusal (take_more rs i d within)
    ∙ (refusal-append (take i rs) (get_or rs i d ∷ []) none ∙ one)

pub not_refused : (r q : Reply) → r ≡ q → ((x : Refusal) → r ≡ reply.Refused x → ⊥) → first_refusal (q ∷ []) ≡ None
not_refused r q same not = ap (λ (p : Reply). first_refusal (p ∷ [])) (sym same) ∙ by r not
  where
    by : (p : Reply) → ((x : Refusal) → p ≡ reply.Refused x → ⊥) → first_refusal (p ∷ []) ≡ None
    by (reply.Refused x) not = absurd (not x refl)
    by p not = refl
