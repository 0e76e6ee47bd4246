use Rattle.std.proofs.Common.{◌≡◌, ◌∙◌, ℕ, ◌∷◌, [], Option, Some, None, true, false, Bool, ap, refl, rules, sym}
use Rattle.std.specs.Prelude.{not}
use Rattle.iol_core.specs.State as machine
use Rattle.iol_core.specs.State.{State}
use Rattle.iol_core.specs.Meaning.{first, ◌when◌}
use Rattle.iol_core.specs.Calls.Pools as calls
use Rattle.iol_core.specs.declared.refusals.Refusal.{Refusal}
use Rattle.iol_core.specs.declared.refusals.Refusal.TheVariants.{Denied, NoDomain, NoPool, PoolBusy, PoolClosed}
use Rattle.iol_kernel.specs.Kernel.{as_read, state_of}
use Rattle.iol_kernel.specs.Readings.{Reading, bytes_over}
use Rattle.iol_kernel.proofs.State.Refinement.{kept_refused}
use Rattle.iol_kernel.proofs.kernel.Kernel.pool_close.Goals as goal

-- one more test follows those of a default pool

still_refused : (a b c d e : Option Refusal) (x : Refusal) → first (a ∷ b ∷ c ∷ d ∷ []) ≡ Some x
    → first (a ∷ b ∷ c ∷ d ∷ e ∷ []) ≡ Some x
still_refused (Some y) b c d e x is = is
still_refused None (Some y) c d e x is = is
still_refused None None (Some y) d e x is = is
still_refused None None None (Some y) e x is = is
still_refused None None None None e x is = absurd (cc is)

last_left : (a b c d e : Option Refusal) → first (a ∷ b ∷ c ∷ d ∷ []) ≡ None
    → first (a ∷ b ∷ c ∷ d ∷ e ∷ []) ≡ first (e ∷ [])
last_left (Some y) b c d e is = absurd (cc is)
last_left None (Some y) c d e is = absurd (cc is)
last_left None None (Some y) d e is = absurd (cc is)
last_left None None None (Some y) e is = absurd (cc is)
last_left None None None None e is = refl

close_refused : (s : State) (by p : ℕ) (x : Refusal) → first (calls.set_pool s by p).refusals ≡ Some x
    → first (calls.pool_close s by p).refusals ≡ Some x
close_refused s by p x is =
    still_refused (NoDomain when not (machine.is_live s by)) (NoPool when not (machine.is_pool s p))
    (Denied p when not (machine.may_read s by p)) (PoolClosed p when (machine.pool s p).closed)
    (PoolBusy p when calls.is_busy s p) x is

close_left : (s : State) (by p : ℕ) (b : Bool) → first (calls.set_pool s by p).refusals ≡ None → calls.is_busy s p ≡ b
    → first (calls.pool_close s by p).refusals ≡ first ((PoolBusy p when b) ∷ [])
close_left s by p b is busy =
    last_left (NoDomain when not (machine.is_live s by)) (NoPool when not (machine.is_pool s p))
    (Denied p when not (machine.may_read s by p)) (PoolClosed p when (machine.pool s p).closed)
    (PoolBusy p when calls.is_busy s p) is ∙ ap (λ k. first ((PoolBusy p when k) ∷ [])) busy

pub returns-in_err-test_pool-clause-pool_close : goal.returns-in_err-test_pool-clause-pool_close
returns-in_err-test_pool-clause-pool_close c =
    let y = c.in_err-test_pool.field-0.0 in
    let done = kept_refused (λ s. calls.pool_close s c.args.by c.args.pool) (state_of c.args.self.now) y c.requires
    (λ f. close_refused (as_read f c.args.self.now) c.args.by c.args.pool y
    (c.in_err-test_pool.ensures.refused.refused f)) in
    search (rules, done)

pub returns-then-is_busy-clause-pool_close : goal.returns-then-is_busy-clause-pool_close
returns-then-is_busy-clause-pool_close c =
    kept_refused (λ s. calls.pool_close s c.args.by c.args.pool) (state_of c.args.self.now) (PoolBusy c.args.pool)
    c.requires
    (λ f. close_left (as_read f c.args.self.now) c.args.by c.args.pool true (c.in_ok-test_pool.ensures.may.passed f)
    (sym (c.is_busy.ensures f) ∙ c.if-is_busy.true))

pub returns-clause-pool_close : goal.returns-clause-pool_close
returns-clause-pool_close c =
    let e = c.end_pool.ensures in
    let passed =
    λ (f : Reading). close_left (as_read f c.args.self.now) c.args.by c.args.pool false
    (c.in_ok-test_pool.ensures.may.passed f) (sym (c.is_busy.ensures f) ∙ c.if-is_busy.false) in
    record {
      step = λ stored. (passed (bytes_over stored c.args.self.now.store), refl, e.bytes stored);
      places = λ f keeps. (passed f, refl, e.places f keeps);
      pages = e.pages;
      refused = tt;
      sums = e.sums;
      cache = e.cache;
      sound = e.sound;
      stays = e.stays;
    }
