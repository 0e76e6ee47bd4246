-- A run without resource refusals is fair, and any run is fair if the refusals that its turns got are allowed.
use Rattle.std.proofs.Common.{inl, inr, ◌≡◌, ◌≢◌, ◌⊎◌, ℕ, ◌==◌, List, [], ◌∷◌, ◌++◌, length, ap, refl, sym, subst}
use Rattle.std.proofs.Common.{arith, true, false, Bool, if◌then◌else◌}
use Rattle.std.proofs.lemmas.Bool.Decides.{nat_tests}
use Rattle.std.specs.Prelude.{◌&&◌, ◌||◌, not}
use Rattle.iol_core.specs.declared.events.Reply.{Reply}
use Rattle.iol_core.specs.declared.events.Reply.TheVariants as reply
use Rattle.iol_core.specs.declared.refusals.Refusal.{Refusal}
use Rattle.iol_core.specs.declared.refusals.Refusal.TheVariants as refusal
use Rattle.iol_laws.specs.Caller.{is_resource_failure}
use Rattle.iol_proc.specs.declared.choice.Choice.{Choice}
use Rattle.iol_proc.specs.declared.choice.Choice.TheVariants as choice
use Rattle.flash_laws.specs.SiteContents.{Refusals, IsAmong}
use Rattle.flash_laws.specs.Site.{server}
use Rattle.flash_laws.specs.World.{AreFair, may_refuse}
use Rattle.flash_laws.specs.World.Fair.{no_refusal, any_refusal, is_same, refuses_by, refused_in, refusals_in}
use Rattle.flash_laws.specs.World.Fair.{FailureFreeIsFair, AnyIsFair, OwnIsFair, OwnIsLeast, NoneRefusesNothing}
use Rattle.flash_laws.proofs.Lists.{clash, not-equal, not-true, self}

-- ---- the refusals that a turn of the server, and a turn of a worker, may get

pub server-among : (refuses : Refusals) (by : ℕ) (r : Reply) → by ≡ server → IsAmong (may_refuse refuses by) r
    → IsAmong refuses.of_server r
server-among refuses by r is among =
    subst (λ (b : Bool). IsAmong (if b then refuses.of_server else refuses.of_workers) r)
    (subst (λ d. (d == server) ≡ true) (sym is) refl) among

pub among-server : (refuses : Refusals) (by : ℕ) (r : Reply) → by ≡ server → IsAmong refuses.of_server r
    → IsAmong (may_refuse refuses by) r
among-server refuses by r is among =
    subst (λ (b : Bool). IsAmong (if b then refuses.of_server else refuses.of_workers) r)
    (sym (subst (λ d. (d == server) ≡ true) (sym is) refl)) among

pub worker-among : (refuses : Refusals) (by : ℕ) (r : Reply) → by ≢ server → IsAmong (may_refuse refuses by) r
    → IsAmong refuses.of_workers r
worker-among refuses by r other among =
    subst (λ (b : Bool). IsAmong (if b then refuses.of_server else refuses.of_workers) r) (not-equal by server other)
    among

-- ---- a failure-free run

none-among : (b : Bool) (r : Reply) → is_resource_failure r ≡ false
    → IsAmong (if b then no_refusal.of_server else no_refusal.of_workers) r
none-among b (reply.Refused x) failure_free =
    λ resource_failure. absurd (clash (is_resource_failure (reply.Refused x)) resource_failure failure_free)
none-among b r failure_free = tt

pub failure_free_is_fair : FailureFreeIsFair
failure_free_is_fair [] rs failure_free = tt
failure_free_is_fair (choice.Turn by ∷ xs) (r ∷ rs) failure_free =
    (none-among (by == server) r failure_free.0, failure_free_is_fair xs rs failure_free.1)
failure_free_is_fair (choice.Outside e ∷ xs) (r ∷ rs) failure_free = failure_free_is_fair xs rs failure_free
failure_free_is_fair (choice.Turn by ∷ xs) [] failure_free = tt
failure_free_is_fair (choice.Outside e ∷ xs) [] failure_free = tt

-- ---- any run

any-among : (b : Bool) (r : Reply) → IsAmong (if b then any_refusal.of_server else any_refusal.of_workers) r
any-among true (reply.Refused x) = λ resource_failure. resource_failure
any-among false (reply.Refused x) = λ resource_failure. resource_failure
any-among b r = tt

pub any_is_fair : AnyIsFair
any_is_fair [] rs = tt
any_is_fair (choice.Turn by ∷ xs) (r ∷ rs) = (any-among (by == server) r, any_is_fair xs rs)
any_is_fair (choice.Outside e ∷ xs) (r ∷ rs) = any_is_fair xs rs
any_is_fair (choice.Turn by ∷ xs) [] = tt
any_is_fair (choice.Outside e ∷ xs) [] = tt

-- ---- any run, if its refusals are allowed

same-self : (x : Refusal) → is_resource_failure (reply.Refused x) ≡ true → is_same x x ≡ true
same-self refusal.TooMany resource_failure = refl
same-self (refusal.NoRoom p) resource_failure = self p
same-self (refusal.Fault f) resource_failure = self f
same-self refusal.Memory resource_failure = refl
same-self x resource_failure = absurd (cc (resource_failure))

-- the refusals of these turns are allowed
record AreIn (refuses : Refusals) (xs : List Choice) (rs : List Reply) : Type 0 where
  pub of_server : (x : Refusal) → refused_in true xs rs x ≡ true → refuses.of_server x ≡ true
  pub of_workers : (x : Refusal) → refused_in false xs rs x ≡ true → refuses.of_workers x ≡ true

former : (a b c : Bool) → a ≡ true → b ≡ true → ((a && b) || c) ≡ true
former true true c u v = refl
former true false c u v = absurd (cc (v))
former false b c u v = absurd (cc (u))

later : (a b c : Bool) → c ≡ true → ((a && b) || c) ≡ true
later true true c u = refl
later true false c u = u
later false b c u = u

among-own : (refuses : Refusals) (by : ℕ) (xs : List Choice) (r : Reply) (rs : List Reply)
    → AreIn refuses (choice.Turn by ∷ xs) (r ∷ rs)
    → (b : Bool) → (by == server) ≡ b → IsAmong (if b then refuses.of_server else refuses.of_workers) r
unfolding refused_in
among-own refuses by xs (reply.Refused x) rs all true is =
    λ resource_failure. all.of_server x
    (former (by == server) (is_same x x) (refused_in true xs rs x) is (same-self x resource_failure))
among-own refuses by xs (reply.Refused x) rs all false is =
    λ resource_failure. all.of_workers x
    (former (not (by == server)) (is_same x x) (refused_in false xs rs x) (ap (λ (b : Bool). not b) is)
    (same-self x resource_failure))
among-own refuses by xs r rs all b is = tt

rest-own : (refuses : Refusals) (x : Choice) (xs : List Choice) (r : Reply) (rs : List Reply)
    → AreIn refuses (x ∷ xs) (r ∷ rs) → AreIn refuses xs rs
unfolding refused_in
rest-own refuses (choice.Turn by) xs r rs all = record {
  of_server = λ x is. all.of_server x (later (by == server) (refuses_by r x) (refused_in true xs rs x) is);
  of_workers = λ x is. all.of_workers x (later (not (by == server)) (refuses_by r x) (refused_in false xs rs x) is);
}
rest-own refuses (choice.Outside e) xs r rs all =
    record { of_server = λ x is. all.of_server x is; of_workers = λ x is. all.of_workers x is }

fair-within : (refuses : Refusals) (xs : List Choice) (rs : List Reply) → AreIn refuses xs rs → AreFair refuses xs rs
fair-within refuses [] rs all = tt
fair-within refuses (choice.Turn by ∷ xs) (r ∷ rs) all = (
  among-own refuses by xs r rs all (by == server) refl,
  fair-within refuses xs rs (rest-own refuses (choice.Turn by) xs r rs all),
)
fair-within refuses (choice.Outside e ∷ xs) (r ∷ rs) all =
    fair-within refuses xs rs (rest-own refuses (choice.Outside e) xs r rs all)
fair-within refuses (choice.Turn by ∷ xs) [] all = tt
fair-within refuses (choice.Outside e ∷ xs) [] all = tt

fair-parts : (refuses : Refusals) (xs ys : List Choice) (rs ss : List Reply) → length xs ≡ length rs
    → AreFair refuses (xs ++ ys) (rs ++ ss)
    → AreFair refuses xs rs × AreFair refuses ys ss
fair-parts refuses [] ys [] ss even fair = (tt, fair)
fair-parts refuses [] ys (r ∷ rs) ss even fair = absurd (omega (arith, even))
fair-parts refuses (x ∷ xs) ys [] ss even fair = absurd (omega (arith, even))
fair-parts refuses (choice.Turn by ∷ xs) ys (r ∷ rs) ss even fair =
    let same : length xs ≡ length rs = omega (arith, even) in
    let parts = fair-parts refuses xs ys rs ss same fair.1 in
    ((fair.0, parts.0), parts.1)
fair-parts refuses (choice.Outside e ∷ xs) ys (r ∷ rs) ss even fair =
    let same : length xs ≡ length rs = omega (arith, even) in
    fair-parts refuses xs ys rs ss same fair

pub own_is_fair : OwnIsFair
own_is_fair xs ys rs ss even = fair-parts (refusals_in (xs ++ ys) (rs ++ ss)) xs ys rs ss even
    (fair-within (refusals_in (xs ++ ys) (rs ++ ss)) (xs ++ ys) (rs ++ ss)
    (record { of_server = λ x is. is; of_workers = λ x is. is }))

-- ---- the least set of refusals for which a run is fair

equal : (a b : ℕ) → (a == b) ≡ true → a ≡ b
equal a b is = grind (arith, nat_tests, is)

same-is : (y x : Refusal) → is_same y x ≡ true → (y ≡ x) × (is_resource_failure (reply.Refused y) ≡ true)
same-is refusal.TooMany refusal.TooMany is = (refl, refl)
same-is (refusal.NoRoom p) (refusal.NoRoom q) is = (ap (λ n. refusal.NoRoom n) (equal p q is), refl)
same-is (refusal.Fault f) (refusal.Fault g) is = (ap (λ n. refusal.Fault n) (equal f g is), refl)
same-is refusal.Memory refusal.Memory is = (refl, refl)
same-is y x is = absurd (cc (is))

-- if a fair reply is this refusal, the refusal is allowed
allowed-of : (refuses : Refusal → Bool) (r : Reply) (x : Refusal) → IsAmong refuses r → refuses_by r x ≡ true
    → refuses x ≡ true
allowed-of refuses (reply.Refused y) x among is =
    let same = same-is y x is in
    subst (λ (z : Refusal). refuses z ≡ true) same.0 (among same.1)
allowed-of refuses r x among is = absurd (cc (is))

first-or-rest : (a b c : Bool) → ((a && b) || c) ≡ true → ((a ≡ true) × (b ≡ true)) ⊎ (c ≡ true)
first-or-rest true true c is = inl (refl, refl)
first-or-rest true false c is = inr is
first-or-rest false b c is = inr is

-- if this turn or a later one got this refusal, it is allowed
turn-allowed : (refuses : Refusal → Bool) (a : Bool) (r : Reply) (x : Refusal) (rest : Bool)
    → (a ≡ true → IsAmong refuses r)
    → (rest ≡ true → refuses x ≡ true) → ((a && refuses_by r x) || rest) ≡ true → refuses x ≡ true
turn-allowed refuses a r x rest among later is = by (first-or-rest a (refuses_by r x) rest is)
  where
    by : ((a ≡ true) × (refuses_by r x ≡ true)) ⊎ (rest ≡ true) → refuses x ≡ true
    by (inl here) = allowed-of refuses r x (among here.0) here.1
    by (inr there) = later there

least-server : (refuses : Refusals) (xs : List Choice) (rs : List Reply) → AreFair refuses xs rs → (x : Refusal)
    → refused_in true xs rs x ≡ true
    → refuses.of_server x ≡ true
unfolding refused_in
least-server refuses [] rs fair x is = absurd (cc (is))
least-server refuses (choice.Turn by ∷ xs) (r ∷ rs) fair x is =
    turn-allowed refuses.of_server (by == server) r x (refused_in true xs rs x)
    (λ here. subst (λ (b : Bool). IsAmong (if b then refuses.of_server else refuses.of_workers) r) here fair.0)
    (λ later. least-server refuses xs rs fair.1 x later) is
least-server refuses (choice.Outside e ∷ xs) (r ∷ rs) fair x is = least-server refuses xs rs fair x is
least-server refuses (choice.Turn by ∷ xs) [] fair x is = absurd (cc (is))
least-server refuses (choice.Outside e ∷ xs) [] fair x is = absurd (cc (is))

least-workers : (refuses : Refusals) (xs : List Choice) (rs : List Reply) → AreFair refuses xs rs → (x : Refusal)
    → refused_in false xs rs x ≡ true
    → refuses.of_workers x ≡ true
unfolding refused_in
least-workers refuses [] rs fair x is = absurd (cc (is))
least-workers refuses (choice.Turn by ∷ xs) (r ∷ rs) fair x is =
    turn-allowed refuses.of_workers (not (by == server)) r x (refused_in false xs rs x)
    (λ here. subst (λ (b : Bool). IsAmong (if b then refuses.of_server else refuses.of_workers) r)
    (not-true (by == server) here) fair.0)
    (λ later. least-workers refuses xs rs fair.1 x later) is
least-workers refuses (choice.Outside e ∷ xs) (r ∷ rs) fair x is = least-workers refuses xs rs fair x is
least-workers refuses (choice.Turn by ∷ xs) [] fair x is = absurd (cc (is))
least-workers refuses (choice.Outside e ∷ xs) [] fair x is = absurd (cc (is))

pub own_is_least : OwnIsLeast
own_is_least refuses xs rs fair =
    record { of_server = least-server refuses xs rs fair; of_workers = least-workers refuses xs rs fair }

pub none_refuses_nothing : NoneRefusesNothing
none_refuses_nothing site_contents is =
    λ x. (ap (λ (l : Refusals). l.of_server x) is, ap (λ (l : Refusals). l.of_workers x) is)
