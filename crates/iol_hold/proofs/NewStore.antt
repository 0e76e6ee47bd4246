-- A new store: every page is free, and there is no pool.
use Rattle.std.proofs.Common.{◌≡◌, ℕ, zero, suc, ◌<◌, true, false, Bool, inl, List, length, replicate, get_or, refl, ap}
use Rattle.std.proofs.Common.{◌∙◌, arith}
use Rattle.std.proofs.lemmas.List.{length-replicate}
use Rattle.iol_arena.specs.State.{State, entry_at, kind_head, no_entry}
use Rattle.iol_pool.specs.Pools.{Pool}
use Rattle.iol_pool.specs.Owners.{AreOwned}
use Rattle.iol_hold.specs.StoreState.{IsTidy}
use Rattle.iol_hold.proofs.LiveBuffers.{tidy_of}

every : {A : Type 0} (n i : ℕ) (x : A) → get_or (replicate n x) i x ≡ x
every zero i x = refl
every (suc n) zero x = refl
every (suc n) (suc i) x = every n i x

pub new_tidy : (a : State) (ps : List Pool) (counts : List ℕ) (n : ℕ) → a.entries ≡ replicate n no_entry → AreOwned a ps
    → IsTidy (record { arena = a; pools = ps; counts = counts })
new_tidy a ps counts n e owned =
    let free : (q : ℕ) → entry_at a q ≡ no_entry = λ q. ap (λ es. get_or es q no_entry) e ∙ every n q no_entry in
    tidy_of (record {
      held = λ b h. (let x = ap (λ y. kind_head y.kind) (free b.page) in let y = ap kind_head h.head in
          absurd (cc (x, y)));
      placed = λ q. inl (ap (λ y. y.kind) (free q));
    })
    (record {
      each = λ p m head. (let x = ap (λ y. kind_head y.kind) (free p) in let y = ap kind_head head in
          absurd (cc (x, y)));
    }) owned

-- no chunk is taken
pub none_taken : (taken : List Bool) (n : ℕ) → taken ≡ replicate n false → (c : ℕ) → c < length taken
    → get_or taken c true ≡ false
none_taken taken n e c h = ap (λ l. get_or l c true) e
    ∙ there n c (omega (arith, h, ap length e, length-replicate n false))
  where
    there : (n i : ℕ) → i < n → get_or (replicate n false) i true ≡ false
    there zero i h = absurd (omega arith)
    there (suc n) zero h = refl
    there (suc n) (suc i) h = there n i (omega arith)
