-- No call changes the pool of a connection.
use Rattle.std.proofs.Common.{inl, inr, ◌≡◌, ◌⊎◌, ℕ, List, [], ◌∷◌, ap, refl, sym, subst, true, false}
use Rattle.std.proofs.lemmas.Bool.{cases_eq}
use Rattle.iol_core.specs.State.{State, Connection, conn_at}
use Rattle.iol_core.specs.Run.{called, StepsTo}
use Rattle.iol_core.specs.declared.events.Call.{Call}
use Rattle.iol_core.specs.declared.events.Event.TheVariants as event
use Rattle.iol_core.specs.declared.events.Reply.{Reply}
use Rattle.iol_core.specs.declared.events.Reply.TheVariants as reply
use Rattle.iol_laws.specs.Order.{Once}
use Rattle.iol_laws.proofs.ConnChanges.{Change, Reads, Writes, Closes, Takes, all_turned, changed_by, changes}
use Rattle.iol_laws.proofs.ConnChanges.{conns_turned, once_turned, turned}
use Rattle.iol_laws.proofs.Connections.{after-with_conn, conns_conn, conns_same}

-- the connection is closed, or in this pool
abbrev HasPool : (pool : ℕ) → Connection → Type 0
HasPool pool k = (k.closed ≡ true) ⊎ (k.pool ≡ pool)

pool-changed : (pool : ℕ) (x : Change) (k : Connection) → HasPool pool k → HasPool pool (changed_by x k)
pool-changed pool (Reads n) k has = has
pool-changed pool (Writes w) k has = has
pool-changed pool Closes k has = inl refl
pool-changed pool Takes k has = has

pool-turned : (pool : ℕ) (s : State) (e : ℕ × Change) (c : ℕ) → Once s.conns → HasPool pool (conn_at s c)
    → HasPool pool (conn_at (turned s e) c)
pool-turned pool s e c once has = elim (cases_eq e.0 c) [
  | inr differ ↦
      subst (λ (k : Connection). HasPool pool k) (sym (conns_conn s e.0 (changed_by e.1 (conn_at s e.0)) c differ)) has
  | inl same ↦ subst (λ n. HasPool pool (conn_at (turned s e) n)) same
      (elim (after-with_conn s e.0 (changed_by e.1 (conn_at s e.0)) once) [
        | inl there ↦ subst (λ (k : Connection). HasPool pool k) (sym there)
            (pool-changed pool e.1 (conn_at s e.0) (subst (λ n. HasPool pool (conn_at s n)) (sym same) has))
        | inr none ↦ inl (ap (λ (k : Connection). k.closed) none)
      ])
]

pool-all : (pool : ℕ) (s : State) (es : List (ℕ × Change)) (c : ℕ) → Once s.conns → HasPool pool (conn_at s c)
    → HasPool pool (conn_at (all_turned s es) c)
pool-all pool s [] c once has = has
pool-all pool s (e ∷ es) c once has =
    pool-all pool (turned s e) es c (once_turned s e once) (pool-turned pool s e c once has)

pool-called : (s : State) (d : ℕ) (k : Call) (c : ℕ) → Once s.conns
    → HasPool (conn_at s c).pool (conn_at (called s d k).after c)
pool-called s d k c once =
    subst (λ (x : Connection). HasPool (conn_at s c).pool x)
    (sym (conns_same (all_turned s (changes s d k)) (called s d k).after (λ n. false) (conns_turned s d k).conns c
    refl))
    (pool-all (conn_at s c).pool s (changes s d k) c once (inr refl))

-- A connection that is not closed is in the same pool as before.
pub pool-stays : (s t : State) (d : ℕ) (k : Call) (r : Reply) (c : ℕ) → Once s.conns → StepsTo s (event.Call d k) r t
    → (conn_at t c).closed ≡ false
    → (conn_at t c).pool ≡ (conn_at s c).pool
pool-stays s t d k (reply.Refused x) c once step open_yet = ap (λ (u : State). (conn_at u c).pool) step.1
pool-stays s t d k r c once step open_yet =
    elim (subst (λ (u : State). HasPool (conn_at s c).pool (conn_at u c)) (sym step.2) (pool-called s d k c once)) [
      | inl closed ↦ absurd (cc (closed, open_yet))
      | inr same ↦ same
    ]
