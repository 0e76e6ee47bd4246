-- The input of a connection is in its pool.
use Rattle.std.proofs.Common.{◌≡◌, ℕ, ◌==◌, List, [], ◌∷◌, ◌++◌, length, take, refl, sym, subst, arith, Option, Some}
use Rattle.std.proofs.Common.{None, true, false, Bool}
use Rattle.std.specs.Prelude.{⊤, option_map, min, ◌-◌, MatchOption}
use Rattle.std.specs.List.{list_all}
use Rattle.std.proofs.lemmas.Bool.Decides.{nat_tests}
use Rattle.std.proofs.lemmas.Grind.{common_steps}
use Rattle.iol_core.specs.Text.{Text, barred, labelled}
use Rattle.iol_core.specs.State.{State, Connection, descriptor, may_read, conn_at, new_conn, new_state, with_conn}
use Rattle.iol_core.specs.State.{with_domain, with_pipe, with_content}
use Rattle.iol_core.specs.Run.{called, meaning, Run, StepsTo}
use Rattle.iol_core.specs.Calls.Reads as reading
use Rattle.iol_core.specs.declared.limits.TheConstants.{MAX_QUEUE_BYTES}
use Rattle.iol_core.specs.declared.refusals.Refusal.{Refusal}
use Rattle.iol_core.specs.declared.refusals.Refusal.TheVariants as refuse
use Rattle.iol_core.specs.declared.descriptors.Descriptor.{Descriptor}
use Rattle.iol_core.specs.declared.descriptors.Descriptor.TheVariants as on
use Rattle.iol_core.specs.declared.descriptors.How.TheVariants as ways
use Rattle.iol_core.specs.declared.events.Call.TheVariants as call
use Rattle.iol_core.specs.declared.events.Event.{Event}
use Rattle.iol_core.specs.declared.events.Event.TheVariants as event
use Rattle.iol_core.specs.declared.events.Reply.{Reply}
use Rattle.iol_core.specs.declared.events.Reply.TheVariants as reply
use Rattle.iol_core.proofs.TestedLists.{list_all-both, list_all-drop, list_all-labelled, list_all-lookup, list_all-push}
use Rattle.iol_core.proofs.TestedLists.{list_all-take, list_all-weaker}
use Rattle.iol_laws.proofs.Runs.{run_keeps}
use Rattle.iol_laws.specs.Labels.{AreInOwnPool, lies_in}
use Rattle.iol_laws.proofs.Changes.{Change, OfConn, OnConn, NewConn, IsUsed, IsLeft, Receives, Reads, Closes, changed}
use Rattle.iol_laws.proofs.Changes.{conn_by, kept_always}
use Rattle.iol_laws.proofs.Refusals.Calls.{left, may}
use Rattle.iol_laws.proofs.Bounds.ShortQueues.{list_all-with_conn}
use Rattle.iol_laws.proofs.Tests.{itself}

abbrev is_in_pool : Connection → Bool
is_in_pool k = lies_in k.pool k.incoming

pub home_each : (s : State) (c : ℕ) → AreInOwnPool s → lies_in (conn_at s c).pool (conn_at s c).incoming ≡ true
unfolding conn_at
home_each s c home = list_all-lookup is_in_pool s.conns c _ refl home

home_conn : (s : State) (c : ℕ) (x : Connection) → is_in_pool x ≡ true → AreInOwnPool s → AreInOwnPool (with_conn s c x)
home_conn s c x new home = list_all-with_conn is_in_pool s c x new home

-- bytes of this pool are appended to others
home-more : (p : ℕ) (t : Text) (bytes : List ℕ) → lies_in p t ≡ true → lies_in p (t ++ labelled p bytes) ≡ true
home-more p t bytes home =
    list_all-both (λ b. b.1 == p) t (labelled p bytes) home (list_all-labelled (λ q. q == p) p bytes (itself p))

home_by : (x : OfConn) (k : Connection) → is_in_pool k ≡ true → is_in_pool (conn_by x k) ≡ true
home_by (IsUsed (Reads n)) k home = list_all-drop (λ b. b.1 == k.pool) n k.incoming home
home_by (IsUsed Closes) k home = refl
home_by (Receives bytes) k home =
    home-more k.pool k.incoming (take (min (length bytes) (MAX_QUEUE_BYTES - length k.incoming)) bytes) home
home_by (IsLeft ways.Done) k home = home
home_by (IsLeft ways.Gone) k home = home
home_by x k home = home

home_changed : (s : State) (c : Change) → AreInOwnPool s → AreInOwnPool (changed s c)
unfolding with_domain with_pipe with_content
home_changed s (OnConn c x) home = home_conn s c _ (home_by x (conn_at s c) (home_each s c home)) home
home_changed s (NewConn p) home =
    list_all-push {A = ℕ × Connection} (λ e. is_in_pool e.1) s.conns (s.next_conn, new_conn p) home refl
home_changed s c home = home

home_meant : (s : State) (e : Event) → AreInOwnPool s → AreInOwnPool (meaning s e).after
home_meant s e home = kept_always AreInOwnPool home_changed s e home

pub home_new : (slots : List (List ℕ)) → AreInOwnPool (new_state slots)
home_new slots = refl

pub home_step : (s t : State) (e : Event) (r : Reply) → AreInOwnPool s → StepsTo s e r t → AreInOwnPool t
home_step s t e (reply.Refused x) home step = subst (λ (u : State). AreInOwnPool u) (sym step.1) home
home_step s t e r home step = subst (λ (u : State). AreInOwnPool u) (sym step.2) (home_meant s e home)

pub home_reached : (slots : List (List ℕ)) (t : State) (es : List Event) (rs : List Reply)
    → Run (new_state slots) es rs t → AreInOwnPool t
home_reached slots t es rs run =
    run_keeps (λ s. AreInOwnPool s) home_step (new_state slots) t es rs (home_new slots) run

-- A domain that may read the pool is never denied.

abbrev pub is_other : Refusal → Bool
is_other (refuse.Denied p) = false
is_other x = true

abbrev pub IsOther : Refusal → Type 0
IsOther x = is_other x ≡ true

pub barred-none : (may : ℕ → Bool) (t : Text) → list_all (λ b. may b.1) t ≡ true → barred may t ≡ None
barred-none may [] all = refl
barred-none may (b ∷ t) all = by (may b.1) refl (barred-none may t)
  where
    by : (m : Bool) → may b.1 ≡ m → (list_all (λ x. may x.1) t ≡ true → barred may t ≡ None) → barred may (b ∷ t) ≡ None
    by true is rest = grind (arith, common_steps, is, rest, all)
    by false is rest = absurd (let e : list_all (λ x. may x.1) (b ∷ t) ≡ false = grind (arith, common_steps, is) in
        cc (e, all))

-- a pool that equals one that the domain may read
read-of : (s : State) (d p q : ℕ) → may_read s d p ≡ true → (q == p) ≡ true → may_read s d q ≡ true
read-of s d p q may_see is =
    (let same : p ≡ q = grind (arith, nat_tests, is) in subst (λ n. may_read s d n ≡ true) same may_see)

undenied : (s : State) (d n c : ℕ) (o : Option Descriptor) → AreInOwnPool s → may_read s d (conn_at s c).pool ≡ true
    → o ≡ Some (on.Connection c) → MatchOption (reading.read_denied s d o n) ⊤ IsOther
undenied s d n c o home may_see is =
    let t : Text = (conn_at s c).incoming in
    let all =
    list_all-weaker (λ b. b.1 == (conn_at s c).pool) (λ b. may_read s d b.1) t
    (λ b. read-of s d (conn_at s c).pool b.1 may_see) (home_each s c home) in
    let none = barred-none (may_read s d) (take (min n 1) t) (list_all-take (λ b. may_read s d b.1) (min n 1) t all) in
    subst (λ (z : Option Descriptor). MatchOption (reading.read_denied s d z n) ⊤ IsOther) (sym is)
    (subst (λ (z : Option ℕ). MatchOption (option_map refuse.Denied z) ⊤ IsOther) (sym none) tt)

not-late : (s : State) (c p : ℕ) (o : Option Descriptor) → o ≡ Some (on.Connection c)
    → reading.read_late s o (refuse.Denied p) → IsOther (refuse.Denied p)
not-late s c p o is late = absurd (subst (λ (z : Option Descriptor). reading.read_late s z (refuse.Denied p)) is late)

pub home_reads : (s t : State) (d fd c n p : ℕ) → AreInOwnPool s → descriptor s d fd ≡ Some (on.Connection c)
    → may_read s d (conn_at s c).pool ≡ true
    → StepsTo s (event.Call d (call.IolRead fd n)) (reply.Refused (refuse.Denied p)) t → ⊥
home_reads s t d fd c n p home is may_see step =
    let other : IsOther (refuse.Denied p) =
    left IsOther (reading.read_late s (descriptor s d fd)) (called s d (call.IolRead fd n)).refusals
    (refuse.Denied p) (
      may IsOther refuse.NoDomain _ refl,
      (
        may IsOther refuse.BadFd _ refl,
        (
          may IsOther refuse.WrongMode _ refl,
          (
            may IsOther refuse.TooMany _ refl,
            (undenied s d n c (descriptor s d fd) home may_see is, (may IsOther refuse.WouldBlock _ refl, tt)),
          ),
        ),
      ),
    )
    (not-late s c p (descriptor s d fd) is) step.0 in
    cc (other)

pub home_copies : (s t : State) (d fd c n p : ℕ) → AreInOwnPool s → descriptor s d fd ≡ Some (on.Connection c)
    → may_read s d (conn_at s c).pool ≡ true
    → StepsTo s (event.Call d (call.Read fd n)) (reply.Refused (refuse.Denied p)) t → ⊥
home_copies s t d fd c n p home is may_see step =
    let other : IsOther (refuse.Denied p) =
    left IsOther (reading.read_late s (descriptor s d fd)) (called s d (call.Read fd n)).refusals (refuse.Denied p) (
      may IsOther refuse.NoDomain _ refl,
      (
        may IsOther refuse.BadFd _ refl,
        (
          may IsOther refuse.WrongMode _ refl,
          (undenied s d n c (descriptor s d fd) home may_see is, (may IsOther refuse.WouldBlock _ refl, tt)),
        ),
      ),
    )
    (not-late s c p (descriptor s d fd) is) step.0 in
    cc (other)
