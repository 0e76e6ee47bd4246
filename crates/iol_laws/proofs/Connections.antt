-- Lookups of a connection after a change.
use Rattle.std.proofs.Common.{inl, inr, ◌≡◌, ◌≢◌, ℕ, ◌==◌, ◌⊎◌, List, [], ◌∷◌, ◌++◌, length, ap, ◌∙◌, refl, sym, subst}
use Rattle.std.proofs.Common.{arith, Option, Some, None, true, false, Bool}
use Rattle.std.specs.Prelude.{unwrap_or, ◌&&◌, if◌then◌else◌}
use Rattle.std.proofs.lemmas.Bool.{cases_eq}
use Rattle.std.proofs.lemmas.Bool.Decides.{nat_tests}
use Rattle.std.proofs.lemmas.Grind.{common_steps}
use Rattle.iol_core.specs.Text.{Text}
use Rattle.iol_core.specs.NumberedLists.{lookup, without, changed}
use Rattle.iol_core.specs.State.{State, Pipe, Connection, conn_at, no_conn, new_conn, is_over, with_domain, with_pipe}
use Rattle.iol_core.specs.State.{with_conn}
use Rattle.iol_core.specs.Calls.Aggregates as aggs
use Rattle.iol_core.specs.Calls.Descriptors as fds
use Rattle.iol_core.specs.Calls.Outside.{conn_new}
use Rattle.iol_core.specs.declared.descriptors.Descriptor.{Descriptor}
use Rattle.iol_core.proofs.Lookups.{lookup-without}
use Rattle.iol_laws.specs.Caller.{remains}
use Rattle.iol_laws.specs.Order.{Once}
use Rattle.iol_laws.proofs.Places.{changed-none, lookup-changed, lookup-changed_same, lookup-push, lookup-push_other}
use Rattle.iol_laws.proofs.Places.{lookup-without_none}

-- all connections are unchanged, except those that a test names
abbrev pub KeepsConns : (s t : State) → (ℕ → Bool) → Type 0
KeepsConns s t touched = (c : ℕ) → touched c ≡ false → conn_at t c ≡ conn_at s c

pub conns_same : (s t : State) (touched : ℕ → Bool) → t.conns ≡ s.conns → KeepsConns s t touched
unfolding conn_at
conns_same s t touched same c un = ap (λ (es : List (ℕ × Connection)). unwrap_or (lookup es c) no_conn) same

pub conns_conn : (s : State) (e : ℕ) (x : Connection) (c : ℕ) → e ≢ c → conn_at (with_conn s e x) c ≡ conn_at s c
unfolding conn_at with_conn
conns_conn s e x c differ = by (is_over x)
  where
    by : (b : Bool) → unwrap_or (lookup (if b then without s.conns e else changed s.conns e x) c) no_conn
        ≡ unwrap_or (lookup s.conns c) no_conn
    by true = ap (λ o. unwrap_or o no_conn) (lookup-without s.conns e c differ)
    by false = ap (λ o. unwrap_or o no_conn) (lookup-changed s.conns e c x differ)

pub conns-with_pipe : (s : State) (p : ℕ) (x : Pipe) → (with_pipe s p x).conns ≡ s.conns
unfolding with_pipe
conns-with_pipe s p x = refl

pub conns-with_agg : (s : State) (d : ℕ) (x : Text) (c : ℕ) → conn_at (aggs.with_agg s d x) c ≡ conn_at s c
unfolding with_domain
conns-with_agg s d x c = conns_same s (aggs.with_agg s d x) (λ k. false) refl c refl

pub conns-with_fds : (s : State) (d : ℕ) (xs : List (Option Descriptor)) (c : ℕ)
    → conn_at (fds.with_fds s d xs) c ≡ conn_at s c
unfolding with_domain
conns-with_fds s d xs c = conns_same s (fds.with_fds s d xs) (λ k. false) refl c refl

pub conn-push : (s : State) (p c : ℕ) → s.next_conn ≢ c → conn_at (conn_new s p).after c ≡ conn_at s c
unfolding conn_at
conn-push s p c differ = ap (λ o. unwrap_or o no_conn) (lookup-push_other s.conns s.next_conn c (new_conn p) differ)

pub conn-found : (s : State) (c : ℕ) (x : Connection) → lookup s.conns c ≡ Some x → conn_at s c ≡ x
unfolding conn_at
conn-found s c x is = ap (λ (o : Option Connection). unwrap_or o no_conn) is

pub conn-unmade : (s : State) (c : ℕ) → lookup s.conns c ≡ None → conn_at s c ≡ no_conn
unfolding conn_at
conn-unmade s c none = ap (λ (o : Option Connection). unwrap_or o no_conn) none

pub conn-made : (s : State) (p : ℕ) → lookup s.conns s.next_conn ≡ None
    → conn_at (conn_new s p).after s.next_conn ≡ new_conn p
unfolding conn_at
conn-made s p none =
    ap (λ (o : Option Connection). unwrap_or o no_conn) (lookup-push s.conns s.next_conn (new_conn p) none)

-- a connection that is not closed has the value that was set, unless that is over
pub conn-with_same : (s : State) (c : ℕ) (x : Connection) → (conn_at s c).closed ≡ false → is_over x ≡ false
    → conn_at (with_conn s c x) c ≡ x
unfolding conn_at with_conn
conn-with_same s c x lives over = by (lookup s.conns c) refl
  where
    by : (o : Option Connection) → lookup s.conns c ≡ o
        → unwrap_or (lookup (if is_over x then without s.conns c else changed s.conns c x) c) no_conn ≡ x
    by None none = (let e = ap (λ (z : Option Connection). (unwrap_or z no_conn).closed) none in absurd (cc (lives, e)))
    by (Some y) some = ap (λ b. unwrap_or (lookup (if b then without s.conns c else changed s.conns c x) c) no_conn)
        over ∙ ap (λ (z : Option Connection). unwrap_or z no_conn) (lookup-changed_same s.conns c x y some)

pub not-over : (x : Connection) → x.accepted ≡ true → x.closed ≡ false → is_over x ≡ false
not-over x accepted closed = grind (arith, accepted, closed)

pub nothing-left : (out : Text) (b : Bool) → ((length out == 0) && b) ≡ true → out ≡ []
nothing-left [] b is = refl
nothing-left (x ∷ out) b is = absurd (let e : (length (x ∷ out) == 0) ≡ false = grind (arith, nat_tests) in
    by (length (x ∷ out) == 0) e is)
  where
    by : (t : Bool) → t ≡ false → (t && b) ≡ true → ⊥
    by true e is = cc
    by false e is = cc

-- Unique numbers.

-- an element that is removed is not found
pub forgotten : {A : Type 0} (es : List (ℕ × A)) (c : ℕ) → Once es → lookup (without es c) c ≡ None
forgotten [] c once = refl
forgotten (e ∷ es) c once =
    let r = forgotten es c once.1 in
    elim (cases_eq e.0 c) [
      | inl k ↦ (let none = once.0 in grind (arith, nat_tests, common_steps, k, none))
      | inr k ↦ grind (arith, nat_tests, common_steps, r, k)
    ]

pub conn-over : (s : State) (c : ℕ) (x : Connection) → Once s.conns → is_over x ≡ true
    → conn_at (with_conn s c x) c ≡ no_conn
unfolding conn_at with_conn
conn-over s c x once over =
    ap (λ b. unwrap_or (lookup (if b then without s.conns c else changed s.conns c x) c) no_conn) over
    ∙ ap (λ (z : Option Connection). unwrap_or z no_conn) (forgotten s.conns c once)

pub conn-there : (s : State) (c : ℕ) (x y : Connection) → lookup s.conns c ≡ Some y → is_over x ≡ false
    → conn_at (with_conn s c x) c ≡ x
unfolding conn_at with_conn
conn-there s c x y there over =
    ap (λ b. unwrap_or (lookup (if b then without s.conns c else changed s.conns c x) c) no_conn) over
    ∙ ap (λ (z : Option Connection). unwrap_or z no_conn) (lookup-changed_same s.conns c x y there)

pub conn-missing : (s : State) (c : ℕ) (x : Connection) → lookup s.conns c ≡ None → is_over x ≡ false
    → conn_at (with_conn s c x) c ≡ no_conn
unfolding conn_at with_conn
conn-missing s c x none over =
    ap (λ b. unwrap_or (lookup (if b then without s.conns c else changed s.conns c x) c) no_conn) over
    ∙ ap (λ (o : Option Connection). unwrap_or o no_conn) (changed-none s.conns c c x none)

-- a connection that is set has its new value, or is removed if that is over
pub conn-remains : (s : State) (c : ℕ) (x : Connection) → Once s.conns
    → (is_over x ≡ false → conn_at (with_conn s c x) c ≡ x) → conn_at (with_conn s c x) c ≡ remains x
conn-remains s c x once there = by (is_over x) refl
  where
    by : (b : Bool) → is_over x ≡ b → conn_at (with_conn s c x) c ≡ (if b then no_conn else x)
    by true over = conn-over s c x once over
    by false over = there over

-- a connection that changes has its new value, or is removed
pub after-with_conn : (s : State) (c : ℕ) (x : Connection) → Once s.conns → (conn_at (with_conn s c x) c ≡ x)
    ⊎ (conn_at (with_conn s c x) c ≡ no_conn)
after-with_conn s c x once = by (is_over x) refl (lookup s.conns c) refl
  where
    by : (b : Bool) → is_over x ≡ b → (o : Option Connection) → lookup s.conns c ≡ o → (conn_at (with_conn s c x) c ≡ x)
        ⊎ (conn_at (with_conn s c x) c ≡ no_conn)
    by true over o is = inr (conn-over s c x once over)
    by false over (Some y) is = inl (conn-there s c x y is over)
    by false over None is = inr (conn-missing s c x is over)

pub next-with_conn : (s : State) (c : ℕ) (x : Connection) → (with_conn s c x).next_conn ≡ s.next_conn
unfolding with_conn
next-with_conn s c x = refl

pub none-with_conn : (s : State) (c : ℕ) (x : Connection) (k : ℕ) → lookup s.conns k ≡ None
    → lookup (with_conn s c x).conns k ≡ None
unfolding with_conn
none-with_conn s c x k none = by (is_over x)
  where
    by : (b : Bool) → lookup (if b then without s.conns c else changed s.conns c x) k ≡ None
    by true = lookup-without_none s.conns c k none
    by false = changed-none s.conns c k x none

pub once-without : {A : Type 0} (es : List (ℕ × A)) (n : ℕ) → Once es → Once (without es n)
once-without [] n once = tt
once-without {A = A} (e ∷ es) n once = by (e.0 == n) (once-without es n once.1)
  where
    by : (b : Bool) → Once (without es n) → Once (if b then es else e ∷ without es n)
    by true rest = once.1
    by false rest = (lookup-without_none es n e.0 once.0, rest)

once-changed : {A : Type 0} (es : List (ℕ × A)) (n : ℕ) (x : A) → Once es → Once (changed es n x)
once-changed [] n x once = tt
once-changed {A = A} (e ∷ es) n x once = (none (e.0 == n) refl, once-changed es n x once.1)
  where
    none : (b : Bool) → (e.0 == n) ≡ b → lookup (changed es n x) (if b then (n, x) else e).0 ≡ None
    none true is =
        (let k : e.0 ≡ n = grind (arith, nat_tests, is) in
        changed-none es n n x (subst (λ m. lookup es m ≡ None) k once.0))
    none false is = changed-none es n e.0 x once.0

pub once-with_conn : (s : State) (c : ℕ) (x : Connection) → Once s.conns → Once (with_conn s c x).conns
unfolding with_conn
once-with_conn s c x once = by (is_over x)
  where
    by : (b : Bool) → Once (if b then without s.conns c else changed s.conns c x)
    by true = once-without s.conns c once
    by false = once-changed s.conns c x once

pub once-push : {A : Type 0} (es : List (ℕ × A)) (n : ℕ) (x : A) → lookup es n ≡ None → Once es
    → Once (es ++ (n, x) ∷ [])
once-push [] n x none once = (refl, tt)
once-push (e ∷ es) n x none once = elim (cases_eq e.0 n) [
  | inl same ↦ absurd (let z : lookup (e ∷ es) n ≡ Some e.1 = grind (arith, nat_tests, common_steps, same) in
      cc (z, none))
  | inr differ ↦ (
    lookup-push_other es n e.0 x (λ same. differ (sym same))
        ∙ once.0,
    once-push es n x (grind (arith, nat_tests, common_steps, none, differ)) once.1,
  )
]
