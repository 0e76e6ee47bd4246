-- The lists of pools stay short.
use Rattle.std.proofs.Common.{inl, inr, ◌≡◌, ◌≤◌, ◌<◌, ◌∙◌, ℕ, ◌==◌, List, [], ◌∷◌, ◌++◌, length, ap, refl, sym, subst}
use Rattle.std.proofs.Common.{arith, None, true, false, Bool, length-append}
use Rattle.std.specs.Prelude.{nat_lt, ◌||◌, if◌then◌else◌}
use Rattle.std.specs.List.{list_any}
use Rattle.std.proofs.lemmas.Bool.Decides.{nat_tests}
use Rattle.std.proofs.lemmas.Grind.{common_steps}
use Rattle.iol_core.specs.NumberedLists.{numbered_or, with_numbered}
use Rattle.iol_core.specs.State.{State, Pool, pool, no_pool}
use Rattle.iol_core.specs.Meaning.{first}
use Rattle.iol_core.specs.Run.{called, meaning}
use Rattle.iol_core.specs.Calls.Pools.{admitting, distinct, has_place, pool_admit, pool_create, with_name}
use Rattle.iol_core.specs.declared.limits.TheConstants.{MAX_LISTED}
use Rattle.iol_core.specs.declared.refusals.Refusal.TheVariants as refuse
use Rattle.iol_core.specs.declared.events.Call.{Call}
use Rattle.iol_core.specs.declared.events.Call.TheVariants as call
use Rattle.iol_core.specs.declared.events.Event.{Event}
use Rattle.iol_core.specs.declared.events.Event.TheVariants as event
use Rattle.iol_core.proofs.Lookups.{numbered_or-push, numbered_or-with}
use Rattle.iol_core.proofs.TestedLists.{passed, when-none, when-not}
use Rattle.iol_laws.proofs.Frame.Files.{list-closed, store_meant}
use Rattle.iol_laws.proofs.Tests.{left-false}

abbrev IsShort : List ℕ → Type 0
IsShort list = length list ≤ MAX_LISTED

abbrev AreShort : State → Type 0
AreShort s = (p : ℕ) → IsShort (pool s p).domains

pub pool-unmade : (s : State) (p : ℕ) → s.pools ≡ [] → pool s p ≡ no_pool
unfolding pool
pool-unmade s p none = ap (λ (ps : List Pool). numbered_or ps p no_pool) none ∙ grind (arith, nat_tests, common_steps)

short_same : (s t : State) → AreShort s → t.pools ≡ s.pools → AreShort t
unfolding pool
short_same s t short same p =
    subst (λ (ps : List Pool). IsShort (numbered_or ps p no_pool).domains) (sym same) (short p)

short_made : (s : State) (x : Pool) → AreShort s → IsShort x.domains → AreShort (record s { pools = s.pools ++ x ∷ [] })
unfolding pool
short_made s x short new p = elim (numbered_or-push s.pools p x no_pool) [
  | inl same ↦ subst (λ (y : Pool). IsShort y.domains) (sym same) (short p)
  | inr both ↦ subst (λ (y : Pool). IsShort y.domains) (sym both.1) new
]

short_named : (list : List ℕ) (d : ℕ) → IsShort list → has_place list d ≡ true → IsShort (with_name list d)
short_named list d short place = by (list_any (λ e. e == d) list) refl
  where
    by : (b : Bool) → list_any (λ e. e == d) list ≡ b → IsShort (if b then list else list ++ d ∷ [])
    by true is = short
    by false un =
        let room : (false || nat_lt (length list) MAX_LISTED) ≡ true =
        subst (λ b. (b || nat_lt (length list) MAX_LISTED) ≡ true) un place in
        let less : length list < MAX_LISTED = grind (arith, nat_tests, room) in
        omega (arith, less, length-append list (d ∷ []))

short_admitted : (s : State) (q d : ℕ) → AreShort s → has_place (pool s q).domains d ≡ true
    → AreShort (record s { pools = with_numbered s.pools q (admitting (pool s q) d) })
unfolding pool
short_admitted s q d short place p = elim (numbered_or-with s.pools q p (admitting (pool s q) d) no_pool) [
  | inl both ↦ subst (λ (x : Pool). IsShort x.domains) (sym both.1) (short_named (pool s q).domains d (short q) place)
  | inr same ↦ subst (λ (x : Pool). IsShort x.domains) (sym same) (short p)
]

few_distinct : (list : List ℕ) (full : Bool) → (nat_lt MAX_LISTED (length (distinct list)) || full) ≡ false
    → IsShort (distinct list)
few_distinct list full un = few (length (distinct list)) (left-false _ full un)
  where
    few : (n : ℕ) → nat_lt MAX_LISTED n ≡ false → n ≤ MAX_LISTED
    few n un = grind (arith, nat_tests, un)

listed_called : (s : State) (by : ℕ) (k : Call) → AreShort s → first (called s by k).refusals ≡ None
    → AreShort (called s by k).after
listed_called s by (call.PoolCreate chunks list) short unrefused =
    short_made s _ short
    (few_distinct list _ (when-none refuse.TooMany _ (passed (pool_create s by chunks list).refusals 2 unrefused)))
listed_called s by (call.PoolClose q) short unrefused =
    λ p. subst (λ (list : List ℕ). IsShort list) (sym (list-closed s q p)) (short p)
listed_called s by (call.PoolAdmit q d) short unrefused =
    short_admitted s q d short
    (when-not refuse.TooMany (has_place (pool s q).domains d) (passed (pool_admit s by q d).refusals 2 unrefused))
listed_called s by k short unrefused = short_same s _ short ((store_meant s (event.Call by k)).table refl)

pub listed_meant : (s : State) (e : Event) → AreShort s → first (meaning s e).refusals ≡ None
    → AreShort (meaning s e).after
listed_meant s (event.Call by k) short unrefused = listed_called s by k short unrefused
listed_meant s e short unrefused = short_same s _ short ((store_meant s e).table refl)
