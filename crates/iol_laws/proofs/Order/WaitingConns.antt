-- A connection that is not accepted is not closed, and has no queued output; numbers of connections are new.
use Rattle.std.proofs.Common.{inl, inr, zero, suc, ◌≡◌, ℕ, ◌≤◌, List, [], ◌∷◌, drop, ap, ◌∙◌, refl, sym, subst, arith}
use Rattle.std.proofs.Common.{None, true, false}
use Rattle.std.proofs.lemmas.Bool.{cases_eq}
use Rattle.iol_core.specs.Text.{Text}
use Rattle.iol_core.specs.NumberedLists.{lookup}
use Rattle.iol_core.specs.State.{State, Connection, conn_at, new_conn, with_conn}
use Rattle.iol_core.specs.Run.{called, meaning}
use Rattle.iol_core.specs.Calls.Outside.{conn_new}
use Rattle.iol_core.specs.declared.descriptors.How.TheVariants as ways
use Rattle.iol_core.specs.declared.events.Call.{Call}
use Rattle.iol_core.specs.declared.events.Event.{Event}
use Rattle.iol_core.specs.declared.events.Event.TheVariants as event
use Rattle.iol_laws.specs.Order.{Once, IsOrderly}
use Rattle.iol_laws.proofs.Streams.Accept.{allowed_called}
use Rattle.iol_laws.proofs.ConnChanges.{Change, Reads, Writes, Closes, Takes, changed_by, turned, all_turned, changes}
use Rattle.iol_laws.proofs.ConnChanges.{conns_turned, IsAllowed, AllAllowed}
use Rattle.iol_laws.proofs.Connections.{after-with_conn, conn-made, conn-push, conns_conn, conns_same, next-with_conn}
use Rattle.iol_laws.proofs.Connections.{none-with_conn, once-push, once-with_conn}
use Rattle.iol_laws.proofs.Places.{lookup-push_other}

pub record AreWaiting (s : State) : Type 0 where
  pub waits : (c : ℕ) → (conn_at s c).accepted ≡ false → (conn_at s c).closed ≡ false
  pub silent : (c : ℕ) → (conn_at s c).accepted ≡ false → (conn_at s c).outgoing ≡ []
  pub once : Once s.conns
  pub conns : (c : ℕ) → s.next_conn ≤ c → lookup s.conns c ≡ None

pub waiting_of : (s : State) → IsOrderly s → AreWaiting s
waiting_of s order = record { waits = order.waits; silent = order.silent; once = order.once; conns = order.conns }

pub waiting_same : (s t : State) → t.conns ≡ s.conns → t.next_conn ≡ s.next_conn → AreWaiting s → AreWaiting t
waiting_same s t same next q = record {
  waits = λ c is. ap (λ (k : Connection). k.closed) (at c)
      ∙ q.waits c (sym (ap (λ (k : Connection). k.accepted) (at c)) ∙ is);
  silent = λ c is. ap (λ (k : Connection). k.outgoing) (at c)
      ∙ q.silent c (sym (ap (λ (k : Connection). k.accepted) (at c)) ∙ is);
  once = subst (λ (l : List (ℕ × Connection)). Once l) (sym same) q.once;
  conns = λ c more. ap (λ (l : List (ℕ × Connection)). lookup l c) same ∙ q.conns c (subst (λ n. n ≤ c) next more);
}
  where
    at : (c : ℕ) → conn_at t c ≡ conn_at s c
    at c = conns_same s t (λ k. false) same c refl

abbrev Fine : Connection → Type 0
Fine x = (x.accepted ≡ false → x.closed ≡ false) × (x.accepted ≡ false → x.outgoing ≡ [])

pub waiting_conn : (s : State) (c : ℕ) (x : Connection) → Fine x → AreWaiting s → AreWaiting (with_conn s c x)
waiting_conn s c x fine q = record {
  waits = λ k is. (each k).0 is;
  silent = λ k is. (each k).1 is;
  once = once-with_conn s c x q.once;
  conns = λ k more. none-with_conn s c x k (q.conns k (subst (λ n. n ≤ k) (next-with_conn s c x) more));
}
  where
    each : (k : ℕ) → Fine (conn_at (with_conn s c x) k)
    each k = elim (cases_eq c k) [
      | inr differ ↦ subst (λ (y : Connection). Fine y) (sym (conns_conn s c x k differ)) (q.waits k, q.silent k)
      | inl same ↦ subst (λ n. Fine (conn_at (with_conn s c x) n)) same (elim (after-with_conn s c x q.once) [
        | inl is ↦ subst (λ (y : Connection). Fine y) (sym is) fine
        | inr none ↦ subst (λ (y : Connection). Fine y) (sym none) (λ a. absurd (cc), λ a. refl)
      ])
    ]

-- the condition is only about connections that are not accepted
accepted-fine : (x : Connection) → x.accepted ≡ true → Fine x
accepted-fine x is = (λ a. absurd (cc (is, a)), λ a. absurd (cc (is, a)))

waiting_turned : (s : State) (e : ℕ × Change) → IsAllowed s e → AreWaiting s → AreWaiting (turned s e)
waiting_turned s (c, Reads n) may q = waiting_conn s c _ (q.waits c, q.silent c) q
waiting_turned s (c, Writes w) may q = waiting_conn s c _ (accepted-fine (changed_by (Writes w) (conn_at s c)) may.0) q
waiting_turned s (c, Closes) may q = waiting_conn s c _ (accepted-fine (changed_by Closes (conn_at s c)) may) q
waiting_turned s (c, Takes) may q = waiting_conn s c _ (accepted-fine (changed_by Takes (conn_at s c)) refl) q

waiting_all : (s : State) (es : List (ℕ × Change)) → AllAllowed s es → AreWaiting s → AreWaiting (all_turned s es)
waiting_all s [] may q = q
waiting_all s (e ∷ es) may q = waiting_all (turned s e) es may.1 (waiting_turned s e may.0 q)

waiting_called : (s : State) (by : ℕ) (k : Call) → IsOrderly s → AreWaiting (called s by k).after
waiting_called s by k order =
    let same = conns_turned s by k in
    waiting_same (all_turned s (changes s by k)) (called s by k).after same.conns same.next
    (waiting_all s (changes s by k) (allowed_called s by k order) (waiting_of s order))

waiting_conn_new : (s : State) (p : ℕ) → AreWaiting s → AreWaiting (conn_new s p).after
waiting_conn_new s p q = record {
  waits = λ c is. elim (cases_eq s.next_conn c) [
    | inl same ↦
        subst (λ n. (conn_at (conn_new s p).after n).closed ≡ false) same (ap (λ (k : Connection). k.closed) made)
    | inr differ ↦ ap (λ (k : Connection). k.closed) (conn-push s p c differ)
        ∙ q.waits c (sym (ap (λ (k : Connection). k.accepted) (conn-push s p c differ)) ∙ is)
  ];
  silent = λ c is. elim (cases_eq s.next_conn c) [
    | inl same ↦
        subst (λ n. (conn_at (conn_new s p).after n).outgoing ≡ []) same (ap (λ (k : Connection). k.outgoing) made)
    | inr differ ↦ ap (λ (k : Connection). k.outgoing) (conn-push s p c differ)
        ∙ q.silent c (sym (ap (λ (k : Connection). k.accepted) (conn-push s p c differ)) ∙ is)
  ];
  once = once-push s.conns s.next_conn (new_conn p) none q.once;
  conns = λ c more. lookup-push_other s.conns s.next_conn c (new_conn p) (λ same. omega (arith, same, more))
      ∙ q.conns c (omega (arith, more));
}
  where
    none : lookup s.conns s.next_conn ≡ None
    none = q.conns s.next_conn (omega arith)

    made : conn_at (conn_new s p).after s.next_conn ≡ new_conn p
    made = conn-made s p none

pub waiting_meant : (s : State) (e : Event) → IsOrderly s → AreWaiting (meaning s e).after
waiting_meant s (event.Call by k) order = waiting_called s by k order
waiting_meant s (event.ConnNew p) order = waiting_conn_new s p (waiting_of s order)
waiting_meant s (event.Arrive c bytes) order = waiting_conn s c _ (order.waits c, order.silent c) (waiting_of s order)
waiting_meant s (event.PeerClosed c ways.Done) order =
    waiting_conn s c _ (order.waits c, order.silent c) (waiting_of s order)
waiting_meant s (event.PeerClosed c ways.Gone) order =
    waiting_conn s c _ (order.waits c, λ is. refl) (waiting_of s order)
waiting_meant s (event.Transmit c max) order =
    waiting_conn s c _ (order.waits c, λ is. ap (λ (t : Text). drop max t) (order.silent c is) ∙ none max)
    (waiting_of s order)
  where
    none : (n : ℕ) → drop {A = ℕ × ℕ} n [] ≡ []
    none zero = refl
    none (suc n) = refl
waiting_meant s e order = waiting_of s order
