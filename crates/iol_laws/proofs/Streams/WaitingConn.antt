-- The waiting connection, and those that are open.
use Rattle.std.proofs.Common.{inl, inr, ◌≡◌, ℕ, List, [], ◌∷◌, ap, refl, sym, subst, arith, Some, true, false, Bool}
use Rattle.std.specs.Prelude.{option_map, not, ◌&&◌, find}
use Rattle.std.proofs.lemmas.Bool.{cases_eq}
use Rattle.std.proofs.lemmas.Bool.Decides.{nat_tests}
use Rattle.std.proofs.lemmas.Grind.{common_steps}
use Rattle.iol_core.specs.NumberedLists.{lookup}
use Rattle.iol_core.specs.State.{State, Connection, descriptor, may_read, conn_at}
use Rattle.iol_core.specs.Calls.Descriptors as fds
use Rattle.iol_core.specs.declared.descriptors.Descriptor.TheVariants as on
use Rattle.iol_laws.specs.Order.{Once, IsOrderly}
use Rattle.iol_laws.proofs.Connections.{conn-found}

-- the connection that is found under a test passes the test
found-is : (es : List (ℕ × Connection)) (c : ℕ) (f : Connection → Bool) → Once es
    → option_map (λ e. e.0) (find (λ e. f e.1) es) ≡ Some c → (x : Connection) × (lookup es c ≡ Some x) × (f x ≡ true)
found-is [] c f once is = absurd (cc)
found-is (e ∷ es) c f once is = by (f e.1) refl (found-is es c f once.1)
  where
    by : (b : Bool) → f e.1 ≡ b
        → (option_map (λ e. e.0) (find (λ e. f e.1) es) ≡ Some c → (x : Connection) × (lookup es c ≡ Some x)
        × (f x ≡ true)) → (x : Connection) × (lookup (e ∷ es) c ≡ Some x) × (f x ≡ true)
    by true holds rec =
        (let n : e.0 ≡ c = grind (arith, common_steps, holds, is) in
        (e.1, grind (arith, nat_tests, common_steps, n), holds))
    by false no_more rec =
        let later : option_map (λ e. e.0) (find (λ e. f e.1) es) ≡ Some c = grind (arith, common_steps, no_more, is) in
        let r = rec later in
        elim (cases_eq e.0 c) [
          | inl k ↦ (let none = once.0 in let some = r.1 in let z = ap (λ n. lookup es n) k in
              absurd (cc (none, some, z)))
          | inr k ↦ (let some = r.1 in (r.0, grind (arith, nat_tests, common_steps, k, some), r.2))
        ]

pub waiting-is : (s : State) (d c : ℕ) → IsOrderly s → fds.waiting s d ≡ Some c → ((conn_at s c).accepted ≡ false)
    × (may_read s d (conn_at s c).pool ≡ true)
waiting-is s d c order is =
    let r = found-is s.conns c (λ k. not k.accepted && may_read s d k.pool) order.once is in
    let e = conn-found s c r.0 r.1 in
    subst (λ (k : Connection). (k.accepted ≡ false) × (may_read s d k.pool ≡ true)) (sym e)
    (both r.0.accepted (may_read s d r.0.pool) r.2)
  where
    both : (a b : Bool) → (not a && b) ≡ true → (a ≡ false) × (b ≡ true)
    both false b is = (refl, is)
    both true b is = absurd (cc)

pub opened-conn : (s : State) (d fd c : ℕ) → IsOrderly s → descriptor s d fd ≡ Some (on.Connection c)
    → ((conn_at s c).accepted ≡ true) × ((conn_at s c).closed ≡ false)
opened-conn s d fd c order is =
    by (conn_at s c).accepted (conn_at s c).closed refl refl (order.all_stand d fd (on.Connection c) is)
  where
    by : (a b : Bool) → (conn_at s c).accepted ≡ a → (conn_at s c).closed ≡ b → (a && not b) ≡ true
        → ((conn_at s c).accepted ≡ true) × ((conn_at s c).closed ≡ false)
    by true false is_a is_b both = (is_a, is_b)
    by true true is_a is_b both = absurd (cc)
    by false b is_a is_b both = absurd (cc)
