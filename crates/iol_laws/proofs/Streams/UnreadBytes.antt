-- The unread bytes of a connection after an event are the last of the former unread ones.
use Rattle.std.proofs.Common.{inl, inr, ◌≡◌, ℕ, List, [], ◌∷◌, ◌++◌, take, drop, ap, ◌∙◌, refl, sym, subst, arith, None}
use Rattle.std.proofs.Common.{true, false, Bool, append_assoc}
use Rattle.std.proofs.lemmas.Bool.{cases_eq}
use Rattle.std.proofs.lemmas.List.{append-nil, take-append-drop}
use Rattle.iol_core.specs.Text.{Text}
use Rattle.iol_core.specs.NumberedLists.{lookup}
use Rattle.iol_core.specs.State.{State, Connection, conn_at, with_conn}
use Rattle.iol_core.specs.Run.{called, meaning}
use Rattle.iol_core.specs.Calls.Outside.{conn_new, closed_by}
use Rattle.iol_core.specs.declared.descriptors.How.TheVariants as ways
use Rattle.iol_core.specs.declared.events.Call.{Call}
use Rattle.iol_core.specs.declared.events.Event.{Event}
use Rattle.iol_core.specs.declared.events.Event.TheVariants as event
use Rattle.iol_laws.specs.Order.{Once, IsOrderly}
use Rattle.iol_laws.proofs.ConnChanges.{Change, Reads, Writes, Closes, Takes, turned, all_turned, changes, conns_turned}
use Rattle.iol_laws.proofs.ConnChanges.{once_turned}
use Rattle.iol_laws.proofs.Connections.{conns_same, conns_conn, conn-push, conn-unmade, conn-made, after-with_conn}

-- some of the first bytes were taken, or none
pub record IsRest (s t : State) (c : ℕ) : Type 0 where
  pub front : Text
  pub was : (conn_at s c).incoming ≡ front ++ (conn_at t c).incoming

pub rest_same : (s t : State) (c : ℕ) → conn_at t c ≡ conn_at s c → IsRest s t c
rest_same s t c same = record { front = []; was = ap (λ (x : Connection). x.incoming) (sym same) }

pub rest_then : (s t u : State) (c : ℕ) → IsRest s t c → IsRest t u c → IsRest s u c
rest_then s t u c one two = record {
  front = one.front ++ two.front;
  was =
      one.was
      ∙ (ap (λ (l : Text). one.front ++ l) two.was ∙ sym (append_assoc one.front two.front (conn_at u c).incoming));
}

rest_conns : (s t : State) (c : ℕ) → t.conns ≡ s.conns → IsRest s t c
rest_conns s t c same = rest_same s t c (conns_same s t (λ k. false) same c refl)

-- one connection changes, and the last of its unread bytes remain
pub rest_with_conn : (s : State) (e : ℕ) (x : Connection) (c : ℕ) (front : Text) → Once s.conns
    → (conn_at s e).incoming ≡ front ++ x.incoming → IsRest s (with_conn s e x) c
rest_with_conn s e x c front once was = elim (cases_eq e c) [
  | inr differ ↦ rest_same s (with_conn s e x) c (conns_conn s e x c differ)
  | inl same ↦ subst (λ n. IsRest s (with_conn s e x) n) same (elim (after-with_conn s e x once) [
    | inl is ↦ record { front = front; was = was ∙ ap (λ (k : Connection). front ++ k.incoming) (sym is) }
    | inr none ↦ record {
      front = (conn_at s e).incoming;
      was = sym (append-nil (conn_at s e).incoming)
          ∙ ap (λ (k : Connection). (conn_at s e).incoming ++ k.incoming) (sym none);
    }
  ])
]

rest_turned : (s : State) (e : ℕ × Change) (c : ℕ) → Once s.conns → IsRest s (turned s e) c
rest_turned s (d, Reads n) c once =
    rest_with_conn s d _ c (take n (conn_at s d).incoming) once (sym (take-append-drop n (conn_at s d).incoming))
rest_turned s (d, Writes w) c once = rest_with_conn s d _ c [] once refl
rest_turned s (d, Closes) c once =
    rest_with_conn s d _ c (conn_at s d).incoming once (sym (append-nil (conn_at s d).incoming))
rest_turned s (d, Takes) c once = rest_with_conn s d _ c [] once refl

rest_all : (s : State) (es : List (ℕ × Change)) (c : ℕ) → Once s.conns → IsRest s (all_turned s es) c
rest_all s [] c once = rest_same s s c refl
rest_all s (e ∷ es) c once =
    rest_then s (turned s e) (all_turned s (e ∷ es)) c (rest_turned s e c once)
    (rest_all (turned s e) es c (once_turned s e once))

rest_called : (s : State) (d : ℕ) (k : Call) (c : ℕ) → Once s.conns → IsRest s (called s d k).after c
rest_called s d k c once =
    rest_then s (all_turned s (changes s d k)) (called s d k).after c (rest_all s (changes s d k) c once)
    (rest_conns (all_turned s (changes s d k)) (called s d k).after c (conns_turned s d k).conns)

rest_conn_new : (s : State) (p c : ℕ) → IsOrderly s → IsRest s (conn_new s p).after c
rest_conn_new s p c order = elim (cases_eq s.next_conn c) [
  | inr differ ↦ rest_same s (conn_new s p).after c (conn-push s p c differ)
  | inl same ↦ subst (λ n. IsRest s (conn_new s p).after n) same (record {
    front = [];
    was = ap (λ (k : Connection). k.incoming) (conn-unmade s s.next_conn none)
        ∙ ap (λ (k : Connection). k.incoming) (sym (conn-made s p none));
  })
]
  where
    none : lookup s.conns s.next_conn ≡ None
    none = order.conns s.next_conn (omega arith)

-- whether the event is not an arrival
abbrev pub brings_none : Event → Bool
brings_none (event.Arrive e bytes) = false
brings_none e = true

pub rest_meant : (s : State) (e : Event) (c : ℕ) → IsOrderly s → brings_none e ≡ true → IsRest s (meaning s e).after c
rest_meant s (event.Call d k) c order none = rest_called s d k c order.once
rest_meant s (event.ConnNew p) c order none = rest_conn_new s p c order
rest_meant s (event.Arrive e bytes) c order none = absurd (cc)
rest_meant s (event.PeerClosed e ways.Done) c order none =
    rest_with_conn s e (closed_by (conn_at s e) ways.Done) c [] order.once refl
rest_meant s (event.PeerClosed e ways.Gone) c order none =
    rest_with_conn s e (closed_by (conn_at s e) ways.Gone) c [] order.once refl
rest_meant s (event.Transmit e max) c order none =
    rest_with_conn s e (record (conn_at s e) { outgoing = drop max (conn_at s e).outgoing }) c [] order.once refl
rest_meant s other c order none = rest_same s s c refl
