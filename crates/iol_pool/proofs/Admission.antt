-- Admitting a domain to a pool changes neither its chunks nor whether it is closed.
use Rattle.std.proofs.Common.{◌≡◌, inl, inr, ℕ, true, List, length, ap, refl, sym, ◌∙◌}
use Rattle.std.proofs.lemmas.Bool.{cases_eq}
use Rattle.iol_core.specs.Calls.Pools.{with_name}
use Rattle.iol_core.specs.NumberedLists.{is_numbered, with_numbered}
use Rattle.iol_arena.specs.State.{State}
use Rattle.iol_pool.specs.Pools.{Pool, pool_in, with_admitted}
use Rattle.iol_pool.specs.Owners.{AreOwned}
use Rattle.iol_pool.proofs.Owners.{length-with_numbered, owned_same, pool_in-other, pool_in-there}

-- a field of pools that admitting does not change
kept : {A : Type 0} (f : Pool → A) → ((x : Pool) (list : List ℕ) → f (record x { domains = list }) ≡ f x)
    → (ps : List Pool) (p d q : ℕ) → is_numbered ps p ≡ true → f (pool_in (with_admitted ps p d) q) ≡ f (pool_in ps q)
unfolding with_admitted
kept f same ps p d q there = elim (cases_eq q p) [
  | inl e ↦
      let x : Pool = record (pool_in ps p) { domains = with_name (pool_in ps p).domains d } in
      ap (λ n. f (pool_in (with_numbered ps p x) n)) e ∙ ap f (pool_in-there ps p x there)
      ∙ same (pool_in ps p) (with_name (pool_in ps p).domains d) ∙ ap (λ n. f (pool_in ps n)) (sym e)
  | inr n ↦ ap f (pool_in-other ps p q (record (pool_in ps p) { domains = with_name (pool_in ps p).domains d }) n)
]

pub closed-admitted : (ps : List Pool) (p d q : ℕ) → is_numbered ps p ≡ true
    → (pool_in (with_admitted ps p d) q).closed ≡ (pool_in ps q).closed
closed-admitted ps p d q there = kept (λ x. x.closed) (λ x list. refl) ps p d q there

pub chunks-admitted : (ps : List Pool) (p d q : ℕ) → is_numbered ps p ≡ true
    → (pool_in (with_admitted ps p d) q).chunks ≡ (pool_in ps q).chunks
chunks-admitted ps p d q there = kept (λ x. x.chunks) (λ x list. refl) ps p d q there

pub length-admitted : (ps : List Pool) (p d : ℕ) → length (with_admitted ps p d) ≡ length ps
unfolding with_admitted
length-admitted ps p d =
    length-with_numbered ps p (record (pool_in ps p) { domains = with_name (pool_in ps p).domains d })

pub owned_admitted : (s : State) (ps : List Pool) (p d : ℕ) → is_numbered ps p ≡ true → AreOwned s ps
    → AreOwned s (with_admitted ps p d)
owned_admitted s ps p d there o = owned_same s ps (with_admitted ps p d) (λ q. chunks-admitted ps p d q there) o
