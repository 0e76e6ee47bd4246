-- The effect of a call on pages, from the kernel's contract.
use Rattle.std.proofs.Common.{inl, inr, ◌∙◌, ℕ, List, [], ap, refl, sym}
use Rattle.std.specs.Prelude.{Result}
use Rattle.iol_core.specs.State.{State}
use Rattle.iol_core.specs.Meaning.{Meaning}
use Rattle.iol_core.specs.declared.refusals.Refusal.{Refusal}
use Rattle.iol_hold.specs.Pages.{KeepsPages}
use Rattle.iol_hold.specs.StoreState.{Stored}
use Rattle.iol_hold.proofs.PageChanges.{keeps_pages_same, same_closed}
use Rattle.iol_hold.proofs.Releases.{all_or_none}
use Rattle.iol_hold.specs.Moves.{SameLists}
use Rattle.iol_hold.specs.Releases.{FreesOnly}
use Rattle.iol_pool.specs.Pools.{Pool}
use Rattle.iol_cache.specs.PageChanges.{FillsLowest}
use Rattle.iol_kernel.specs.Calls.{CarriesOut}
use Rattle.iol_kernel.specs.KernelState.{KernelState}

pub carried_pages : {A : Type 0} (m : State → Meaning A) (old new : KernelState) (r : Result A Refusal)
    → CarriesOut m old r new → KeepsPages old.store new.store []
carried_pages m old new r c = keeps_pages_same old.store new.store c.arena c.pools

pub pages_here : (s : Stored) → KeepsPages s s []
pages_here s = keeps_pages_same s s refl refl

-- pages are filled, and then some are freed
pub keeps_then_frees : {a b c : Stored} {placed : List ℕ} → SameLists b c → KeepsPages a b placed → FreesOnly b c
    → KeepsPages a c placed
keeps_then_frees {a = a} {b = b} {c = c} same m n = record {
  count = n.count ∙ m.count;
  limit = n.limit ∙ m.limit;
  raises = record {
    incremented = λ q h. n.incremented q ∙ m.raises.incremented q h;
    kept = λ q h. n.incremented q
        ∙ m.raises.kept q h;
  };
  others = λ q h. elim (n.each q) [
    | inl x ↦ elim (m.others q h) [ inl y ↦ inl (x ∙ y) | inr y ↦ inr (x ∙ y) ]
    | inr x ↦ inr x
  ];
  chunks = λ p was is. (let now = sym (same_closed b c same p) ∙ is in ap (λ (x : Pool). x.chunks) (n.pools p now)
      ∙ m.chunks p was now);
  returned = λ p is. all_or_none a b c p (m.returned p (sym (same_closed b c same p) ∙ is)) (n.chunks p);
}

pub fills_then_frees : {p : ℕ} {a b c : Stored} → SameLists b c → FillsLowest p a b → FreesOnly b c → FillsLowest p a c
fills_then_frees same x n =
    record { roomy = x.roomy; frees = x.frees; count = x.count; pages = keeps_then_frees same x.pages n }

pub ruleset paged_rules = (carried_pages, pages_here)
