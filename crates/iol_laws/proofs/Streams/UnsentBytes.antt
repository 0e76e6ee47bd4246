-- The queued bytes of a connection are sent first, and written bytes follow them.
use Rattle.std.proofs.Common.{inl, inr, ◌≡◌, ℕ, List, [], ◌∷◌, ◌++◌, ap, ◌∙◌, refl, sym, subst, arith, Option, Some}
use Rattle.std.proofs.Common.{None, true, false, Bool, append_assoc}
use Rattle.std.specs.Prelude.{not, ◌&&◌, ◌||◌}
use Rattle.std.proofs.lemmas.Bool.{cases_eq}
use Rattle.std.proofs.lemmas.List.{append-nil}
use Rattle.iol_core.specs.Text.{Text}
use Rattle.iol_core.specs.NumberedLists.{lookup}
use Rattle.iol_core.specs.State.{State, Connection, conn_at, is_over, is_gone, with_conn}
use Rattle.iol_core.specs.Run.{called, meaning}
use Rattle.iol_core.specs.Calls.Outside.{conn_new, closed_by}
use Rattle.iol_core.specs.declared.descriptors.How.TheVariants as ways
use Rattle.iol_core.specs.declared.events.Call.{Call}
use Rattle.iol_core.specs.declared.events.Event.{Event}
use Rattle.iol_core.specs.declared.events.Event.TheVariants as event
use Rattle.iol_laws.specs.Order.{Once, IsOrderly}
use Rattle.iol_laws.proofs.Connections.{conns_same, conns_conn, conn-push, conn-unmade, conn-made, conn-with_same}
use Rattle.iol_laws.proofs.Connections.{conn-over, conn-there, conn-missing, not-over, nothing-left}
use Rattle.iol_laws.proofs.Streams.Accept.{allowed_called}
use Rattle.iol_laws.proofs.ConnChanges.{Change, Reads, Writes, Closes, Takes, turned, all_turned, changes, conns_turned}
use Rattle.iol_laws.proofs.ConnChanges.{once_turned, IsAllowed, AllAllowed}
use Rattle.iol_laws.proofs.Tests.{apart}
use Rattle.iol_laws.specs.History.{drops_unsent}

-- some bytes were appended to the queued output, or none
pub record IsLonger (s t : State) (c : ℕ) : Type 0 where
  pub more : Text
  pub is : (conn_at t c).outgoing ≡ (conn_at s c).outgoing ++ more

abbrev pub SameOut : State → State → ℕ → Type 0
SameOut s t c = (conn_at t c).outgoing ≡ (conn_at s c).outgoing

pub longer_same : (s t : State) (c : ℕ) → SameOut s t c → IsLonger s t c
longer_same s t c same = record { more = []; is = same ∙ sym (append-nil (conn_at s c).outgoing) }

out_conns : (s t : State) (c : ℕ) → t.conns ≡ s.conns → SameOut s t c
out_conns s t c same = ap (λ (x : Connection). x.outgoing) (conns_same s t (λ k. false) same c refl)

-- one connection changes, but not its queued output
pub out_with_conn : (s : State) (e : ℕ) (x : Connection) (c : ℕ) → Once s.conns → x.outgoing ≡ (conn_at s e).outgoing
    → SameOut s (with_conn s e x) c
out_with_conn s e x c once x_is = elim (cases_eq e c) [
  | inr differ ↦ ap (λ (k : Connection). k.outgoing) (conns_conn s e x c differ)
  | inl same ↦ subst (λ n. SameOut s (with_conn s e x) n) same (by (is_over x) refl (lookup s.conns e) refl)
]
  where
    by : (b : Bool) → is_over x ≡ b → (o : Option Connection) → lookup s.conns e ≡ o
        → (conn_at (with_conn s e x) e).outgoing ≡ (conn_at s e).outgoing
    by true over o is = ap (λ (k : Connection). k.outgoing) (conn-over s e x once over)
        ∙ (sym (nothing-left x.outgoing (x.closed || (not x.accepted && is_gone x.peer)) over) ∙ x_is)
    by false over (Some y) is = ap (λ (k : Connection). k.outgoing) (conn-there s e x y is over) ∙ x_is
    by false over None is = ap (λ (k : Connection). k.outgoing) (conn-missing s e x is over)
        ∙ ap (λ (k : Connection). k.outgoing) (sym (conn-unmade s e is))

longer_then : (s t u : State) (c : ℕ) → IsLonger s t c → IsLonger t u c → IsLonger s u c
longer_then s t u c one two =
    record {
      more = one.more ++ two.more;
      is =
          two.is ∙ (ap (λ (l : Text). l ++ two.more) one.is ∙ append_assoc (conn_at s c).outgoing one.more two.more);
    }

longer_turned : (s : State) (e : ℕ × Change) (c : ℕ) → Once s.conns → IsAllowed s e → IsLonger s (turned s e) c
longer_turned s (d, Reads n) c once may = longer_same s _ c (out_with_conn s d _ c once refl)
longer_turned s (d, Closes) c once may = longer_same s _ c (out_with_conn s d _ c once refl)
longer_turned s (d, Takes) c once may = longer_same s _ c (out_with_conn s d _ c once refl)
longer_turned s (d, Writes w) c once may = elim (cases_eq d c) [
  | inr differ ↦ longer_same s (with_conn s d x) c (ap (λ (k : Connection). k.outgoing) (conns_conn s d x c differ))
  | inl same ↦
      subst (λ n. IsLonger s (with_conn s d x) n) same
      (record {
        more = w;
        is = ap (λ (k : Connection). k.outgoing) (conn-with_same s d x may.1 (not-over x may.0 may.1));
      })
]
  where
    x : Connection
    x = record (conn_at s d) { outgoing = (conn_at s d).outgoing ++ w }

longer_all : (s : State) (es : List (ℕ × Change)) (c : ℕ) → Once s.conns → AllAllowed s es
    → IsLonger s (all_turned s es) c
longer_all s [] c once may = longer_same s s c refl
longer_all s (e ∷ es) c once may =
    longer_then s (turned s e) (all_turned s (e ∷ es)) c (longer_turned s e c once may.0)
    (longer_all (turned s e) es c (once_turned s e once) may.1)

longer_called : (s : State) (d : ℕ) (k : Call) (c : ℕ) → IsOrderly s → IsLonger s (called s d k).after c
longer_called s d k c order =
    let all : State = all_turned s (changes s d k) in
    longer_then s all (called s d k).after c (longer_all s (changes s d k) c order.once (allowed_called s d k order))
    (longer_same all (called s d k).after c (out_conns all (called s d k).after c (conns_turned s d k).conns))

out_conn_new : (s : State) (p c : ℕ) → IsOrderly s → SameOut s (conn_new s p).after c
out_conn_new s p c order = elim (cases_eq s.next_conn c) [
  | inr differ ↦ ap (λ (x : Connection). x.outgoing) (conn-push s p c differ)
  | inl same ↦
      subst (λ n. SameOut s (conn_new s p).after n) same (ap (λ (k : Connection). k.outgoing) (conn-made s p none)
      ∙ ap (λ (k : Connection). k.outgoing) (sym (conn-unmade s s.next_conn none)))
]
  where
    none : lookup s.conns s.next_conn ≡ None
    none = order.conns s.next_conn (omega arith)

abbrev pub sends : Event → Bool
sends (event.Transmit e max) = true
sends e = false

-- an event that sends no segment and does not drop the connection's output
pub longer_meant : (s : State) (e : Event) (c : ℕ) → IsOrderly s → sends e ≡ false → drops_unsent e c ≡ false
    → IsLonger s (meaning s e).after c
longer_meant s (event.Call d k) c order none kept = longer_called s d k c order
longer_meant s (event.ConnNew p) c order none kept = longer_same s _ c (out_conn_new s p c order)
longer_meant s (event.Arrive e bytes) c order none kept = longer_same s _ c (out_with_conn s e _ c order.once refl)
longer_meant s (event.PeerClosed e ways.Done) c order none kept =
    longer_same s _ c (out_with_conn s e (closed_by (conn_at s e) ways.Done) c order.once refl)
longer_meant s (event.PeerClosed e ways.Gone) c order none kept =
    longer_same s _ c
    (ap (λ (x : Connection). x.outgoing) (conns_conn s e (closed_by (conn_at s e) ways.Gone) c (apart e c kept)))
longer_meant s (event.Transmit e max) c order none kept = absurd (cc)
longer_meant s other c order none kept = longer_same s s c refl
