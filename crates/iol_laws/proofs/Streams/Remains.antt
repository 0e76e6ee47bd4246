-- Consequences for the rest of a connection: it is unchanged, or it was over, and is removed.
use Rattle.std.proofs.Common.{inl, inr, ◌≡◌, ℕ, ◌⊎◌, List, [], ◌++◌, take, drop, ap, ◌∙◌, refl, sym, true, false, Bool}
use Rattle.std.proofs.Common.{if◌then◌else◌}
use Rattle.std.specs.Prelude.{not, ◌&&◌, ◌||◌}
use Rattle.std.proofs.lemmas.List.{take-append-drop}
use Rattle.iol_core.specs.Text.{Text, bytes_of}
use Rattle.iol_core.specs.State.{State, Connection, conn_at, no_conn, is_over, is_gone}
use Rattle.iol_core.specs.Calls.Outside.{closed_by}
use Rattle.iol_core.specs.declared.descriptors.How.{How}
use Rattle.iol_core.specs.declared.descriptors.How.TheVariants as ways
use Rattle.iol_core.specs.declared.events.Reply.TheVariants as reply
use Rattle.iol_laws.specs.Order.{IsOrderly}
use Rattle.iol_laws.specs.Caller.{remains, ClosesConn}
use Rattle.iol_laws.specs.Others.{GoesOut, PeerCloses}
use Rattle.iol_laws.proofs.Connections.{not-over, nothing-left}
use Rattle.iol_laws.proofs.Texts.{bytes-append}

remains-either : (x : Connection) → (remains x ≡ x) ⊎ ((is_over x ≡ true) × (remains x ≡ no_conn))
remains-either x = by (is_over x) refl
  where
    by : (b : Bool) → is_over x ≡ b → ((if b then no_conn else x) ≡ x)
        ⊎ ((is_over x ≡ true) × ((if b then no_conn else x) ≡ no_conn))
    by false over = inl refl
    by true over = inr (over, refl)

-- a connection that is over has no queued output
none-over : (x : Connection) → is_over x ≡ true → x.outgoing ≡ []
none-over x over = nothing-left x.outgoing (x.closed || (not x.accepted && is_gone x.peer)) over

-- a connection that is over was closed, or was never accepted
over-closed : (x : Connection) → is_over x ≡ true → (x.closed ≡ true) ⊎ (x.accepted ≡ false)
over-closed x over = by x.closed x.accepted refl refl
  where
    by : (a b : Bool) → x.closed ≡ a → x.accepted ≡ b → (x.closed ≡ true) ⊎ (x.accepted ≡ false)
    by true b is_a is_b = inl is_a
    by false false is_a is_b = inr is_b
    by false true is_a is_b = absurd (let e = not-over x is_b is_a in cc (e, over))

-- ---- its domain closes it

pub closed-then : (s t : State) (c : ℕ) → ClosesConn s c reply.Done t
    → ((conn_at t c).closed ≡ true) × ((conn_at t c).outgoing ≡ (conn_at s c).outgoing)
closed-then s t c did = elim (remains-either x) [
  | inl is ↦ (ap (λ (z : Connection). z.closed) (did ∙ is), ap (λ (z : Connection). z.outgoing) (did ∙ is))
  | inr over ↦ (
    ap (λ (z : Connection). z.closed) (did ∙ over.1),
    ap (λ (z : Connection). z.outgoing) (did ∙ over.1)
        ∙ sym (none-over x over.0),
  )
]
  where
    x : Connection
    x = record (conn_at s c) { incoming = []; closed = true }

-- ---- a segment is sent

-- the segment is the front of the queued output; nothing else of the connection changed, or it was closed
pub record Went (s : State) (c : ℕ) (bytes : List ℕ) (t : State) : Type 0 where
  pub bytes_were : bytes_of (conn_at s c).outgoing ≡ bytes ++ bytes_of (conn_at t c).outgoing
  pub some : ((conn_at s c).outgoing ≡ []) → ⊥
  pub conn : (conn_at t c ≡ record (conn_at s c) { outgoing = (conn_at t c).outgoing })
      ⊎ (((conn_at s c).closed ≡ true) × ((conn_at t c).closed ≡ true))

pub went-out : (s t : State) (c max : ℕ) (bytes : List ℕ) → IsOrderly s → GoesOut s c max bytes t → Went s c bytes t
went-out s t c max bytes order did = by (remains-either x)
  where
    x : Connection
    x = record (conn_at s c) { outgoing = drop max (conn_at s c).outgoing }

    parts : bytes_of (conn_at s c).outgoing ≡ bytes ++ bytes_of (drop max (conn_at s c).outgoing)
    parts = ap (λ (l : Text). bytes_of l) (sym (take-append-drop max (conn_at s c).outgoing))
        ∙ (bytes-append (take max (conn_at s c).outgoing) (drop max (conn_at s c).outgoing)
        ∙ ap (λ (l : List ℕ). l ++ bytes_of (drop max (conn_at s c).outgoing)) (sym did.bytes_are))

    was-closed : (x.closed ≡ true) ⊎ (x.accepted ≡ false) → (conn_at s c).closed ≡ true
    was-closed (inl is) = is
    was-closed (inr waits) = absurd (did.some (order.silent c waits))

    by : (remains x ≡ x) ⊎ ((is_over x ≡ true) × (remains x ≡ no_conn)) → Went s c bytes t
    by (inl is) =
        let e : conn_at t c ≡ x = did.conn ∙ is in record {
          bytes_were = parts ∙ ap (λ (k : Connection). bytes ++ bytes_of k.outgoing) (sym e);
          some = did.some;
          conn = inl (e ∙ ap (λ (k : Connection). record (conn_at s c) { outgoing = k.outgoing }) (sym e));
        }
    by (inr over) =
        let e : conn_at t c ≡ no_conn = did.conn ∙ over.1 in record {
          bytes_were =
              parts
              ∙ (ap (λ (l : Text). bytes ++ bytes_of l) (none-over x over.0)
              ∙ ap (λ (k : Connection). bytes ++ bytes_of k.outgoing) (sym e));
          some = did.some;
          conn = inr (was-closed (over-closed x over.0), ap (λ (k : Connection). k.closed) e);
        }

-- ---- its peer closes

-- a connection as after its removal
pub record IsForgotten (c : ℕ) (t : State) : Type 0 where
  pub closed : (conn_at t c).closed ≡ true
  pub none : (conn_at t c).outgoing ≡ []

-- the connection with its peer's close; or it is removed, because it was not accepted, or because it was closed
abbrev pub LeavesPeer : State → (c : ℕ) → How → State → Type 0
LeavesPeer s c how t = (conn_at t c ≡ closed_by (conn_at s c) how)
    ⊎ (((conn_at s c).accepted ≡ false) × ((conn_at s c).outgoing ≡ []) × IsForgotten c t)
    ⊎ (((conn_at s c).closed ≡ true) × IsForgotten c t)

pub peer-left : (s t : State) (c : ℕ) (how : How) → IsOrderly s → PeerCloses s c how reply.Done t → LeavesPeer s c how t
peer-left s t c how order did = by (remains-either x)
  where
    x : Connection
    x = closed_by (conn_at s c) how

    kept : (k : Connection) (how : How) → ((closed_by k how).accepted ≡ k.accepted)
        × ((closed_by k how).closed ≡ k.closed)
    kept k ways.Done = (refl, refl)
    kept k ways.Gone = (refl, refl)

    by : (remains x ≡ x) ⊎ ((is_over x ≡ true) × (remains x ≡ no_conn)) → LeavesPeer s c how t
    by (inl is) = inl (did ∙ is)
    by (inr over) = inr (cases (over-closed x over.0))
      where
        e : conn_at t c ≡ no_conn
        e = did ∙ over.1

        gone : IsForgotten c t
        gone = record { closed = ap (λ (k : Connection). k.closed) e; none = ap (λ (k : Connection). k.outgoing) e }

        cases : (x.closed ≡ true) ⊎ (x.accepted ≡ false)
            → (((conn_at s c).accepted ≡ false) × ((conn_at s c).outgoing ≡ []) × IsForgotten c t)
            ⊎ (((conn_at s c).closed ≡ true) × IsForgotten c t)
        cases (inl closed) = inr (sym (kept (conn_at s c) how).1 ∙ closed, gone)
        cases (inr waits) = (let was = sym (kept (conn_at s c) how).0 ∙ waits in inl (was, order.silent c was, gone))
