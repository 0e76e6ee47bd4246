-- The meaning of a line by its first word is that of this name only.
use Rattle.std.proofs.Common.{◌≡◌, inl, inr, false, true, ℕ, List, bytes_eq, codes, ap, sym, ◌∙◌}
use Rattle.std.proofs.lemmas.Bool.{false≢true}
use Rattle.iol_core.specs.declared.events.Event.{Event}
use Rattle.iolite.specs.Outside.{Happens, IsPeerClosed}
use Rattle.iolite.specs.Setup.{SetsFault, SetsSizes, SetsUp}
use Rattle.iolite.specs.declared.setup.Setup.{Setup}

pub peer_closed_alone : (name rest : List ℕ) (e : Event) → name ≡ codes "peer_closed" → Happens name rest e
    → IsPeerClosed rest e
peer_closed_alone name rest e is (inl x) = cc (is, x.0)
peer_closed_alone name rest e is (inr (inl x)) = cc (is, x.0)
peer_closed_alone name rest e is (inr (inr (inl x))) = x.1
peer_closed_alone name rest e is (inr (inr (inr x))) = cc (is, x.0)

config_or_fault : (name : List ℕ) → name ≡ codes "config" → name ≡ codes "fault" → false ≡ true
config_or_fault name a b = ap (λ l. bytes_eq l (codes "fault")) (sym a ∙ b)

config_or_store : (name : List ℕ) → name ≡ codes "config" → name ≡ codes "store" → false ≡ true
config_or_store name a b = ap (λ l. bytes_eq l (codes "store")) (sym a ∙ b)

config_or_storen : (name : List ℕ) → name ≡ codes "config" → name ≡ codes "storen" → false ≡ true
config_or_storen name a b = ap (λ l. bytes_eq l (codes "storen")) (sym a ∙ b)

fault_or_store : (name : List ℕ) → name ≡ codes "fault" → name ≡ codes "store" → false ≡ true
fault_or_store name a b = ap (λ l. bytes_eq l (codes "store")) (sym a ∙ b)

fault_or_storen : (name : List ℕ) → name ≡ codes "fault" → name ≡ codes "storen" → false ≡ true
fault_or_storen name a b = ap (λ l. bytes_eq l (codes "storen")) (sym a ∙ b)

pub config_alone : (name rest : List ℕ) (old new : Setup) → name ≡ codes "config" → SetsUp name rest old new
    → SetsSizes rest old new
config_alone name rest old new is (inl x) = x.1
config_alone name rest old new is (inr (inl x)) = absurd (false≢true (config_or_fault name is x.0))
config_alone name rest old new is (inr (inr (inl x))) = absurd (false≢true (config_or_store name is x.0))
config_alone name rest old new is (inr (inr (inr x))) = absurd (false≢true (config_or_storen name is x.0))

pub fault_alone : (name rest : List ℕ) (old new : Setup) → name ≡ codes "fault" → SetsUp name rest old new
    → SetsFault rest old new
fault_alone name rest old new is (inl x) = absurd (false≢true (config_or_fault name x.0 is))
fault_alone name rest old new is (inr (inl x)) = x.1
fault_alone name rest old new is (inr (inr (inl x))) = absurd (false≢true (fault_or_store name is x.0))
fault_alone name rest old new is (inr (inr (inr x))) = absurd (false≢true (fault_or_storen name is x.0))
