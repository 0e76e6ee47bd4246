-- A peer that is gone was reported as gone: this is preserved by steps.
use Rattle.std.proofs.Common.{inl, inr, ◌≡◌, ℕ, ◌==◌, ◌⊎◌, List, [], ◌∷◌, ap, ◌∙◌, refl, sym, subst, Option, Some, None}
use Rattle.std.proofs.Common.{true, false, Bool, if◌then◌else◌, length}
use Rattle.std.specs.Prelude.{◌||◌, ◌&&◌, not, Result, Ok, Err}
use Rattle.std.proofs.lemmas.Bool.{cases_eq}
use Rattle.iol_core.specs.NumberedLists.{lookup}
use Rattle.iol_core.specs.State.{State, Connection, no_conn, conn_at, is_gone, is_over, with_conn}
use Rattle.iol_core.specs.Meaning.{Meaning, Step}
use Rattle.iol_core.specs.Run.{StepsTo, called, meaning, outcome}
use Rattle.iol_core.specs.Calls.Outside.{closed_by}
use Rattle.iol_core.specs.declared.refusals.Refusal.{Refusal}
use Rattle.iol_core.specs.declared.descriptors.How.TheVariants as how
use Rattle.iol_core.specs.declared.events.Call.{Call}
use Rattle.iol_core.specs.declared.events.Event.TheVariants as event
use Rattle.iol_core.specs.declared.events.Reply.{Reply}
use Rattle.iol_core.specs.declared.events.Reply.TheVariants as reply
use Rattle.iol_laws.specs.Order.{Once, IsOrderly}
use Rattle.iol_laws.proofs.ConnChanges.{Change, Closes, changed_by, turned, all_turned, changes, conns_turned}
use Rattle.iol_laws.proofs.ConnChanges.{once_turned}
use Rattle.iol_laws.proofs.Connections.{conn-unmade, conn-over, conn-there, conns_conn, conns_same, after-with_conn}
use Rattle.iol_laws.proofs.Connections.{nothing-left}

-- if the connection is open and its peer is gone, `gone` is true
abbrev pub IsAfterReply : (gone : Bool) → Connection → Type 0
IsAfterReply gone k = k.closed ≡ false → is_gone k.peer ≡ true → gone ≡ true

pub after_reply-none : (gone : Bool) (k : Connection) → k ≡ no_conn → IsAfterReply gone k
after_reply-none gone k is open_yet left = absurd (let e = ap (λ (z : Connection). z.closed) is in cc (e, open_yet))

after_reply-with_conn : (gone : Bool) (s : State) (e : ℕ) (x : Connection) (c : ℕ) → Once s.conns
    → (e ≡ c → IsAfterReply gone x) → IsAfterReply gone (conn_at s c) → IsAfterReply gone (conn_at (with_conn s e x) c)
after_reply-with_conn gone s e x c once new was = elim (cases_eq e c) [
  | inr differ ↦ subst (λ (k : Connection). IsAfterReply gone k) (sym (conns_conn s e x c differ)) was
  | inl same ↦ subst (λ z. IsAfterReply gone (conn_at (with_conn s e x) z)) same (elim (after-with_conn s e x once) [
    | inl is ↦ subst (λ (k : Connection). IsAfterReply gone k) (sym is) (new same)
    | inr none ↦ after_reply-none gone (conn_at (with_conn s e x) e) none
  ])
]

after_reply-changed : (gone : Bool) (x : Change) (k : Connection) → IsAfterReply gone k
    → IsAfterReply gone (changed_by x k)
after_reply-changed gone Closes k was = λ open_yet left. absurd (cc (open_yet))
after_reply-changed gone x k was = was

after_reply-turned : (gone : Bool) (s : State) (e : ℕ × Change) (c : ℕ) → Once s.conns → IsAfterReply gone (conn_at s c)
    → IsAfterReply gone (conn_at (turned s e) c)
after_reply-turned gone s e c once was =
    after_reply-with_conn gone s e.0 (changed_by e.1 (conn_at s e.0)) c once
    (λ same. after_reply-changed gone e.1 (conn_at s e.0) (subst (λ z. IsAfterReply gone (conn_at s z)) (sym same) was))
    was

after_reply-all : (gone : Bool) (s : State) (es : List (ℕ × Change)) (c : ℕ) → Once s.conns
    → IsAfterReply gone (conn_at s c) → IsAfterReply gone (conn_at (all_turned s es) c)
after_reply-all gone s [] c once was = was
after_reply-all gone s (e ∷ es) c once was =
    after_reply-all gone (turned s e) es c (once_turned s e once) (after_reply-turned gone s e c once was)

after_reply-called : (gone : Bool) (s : State) (d : ℕ) (k : Call) (c : ℕ) → Once s.conns
    → IsAfterReply gone (conn_at s c) → IsAfterReply gone (conn_at (called s d k).after c)
after_reply-called gone s d k c once was =
    subst (λ (x : Connection). IsAfterReply gone x)
    (sym (conns_same (all_turned s (changes s d k)) (called s d k).after (λ n. false) (conns_turned s d k).conns c
    refl)) (after_reply-all gone s (changes s d k) c once was)

after_reply-outcome : (gone : Bool) (x : Meaning Reply) (m n : State) (r : Result Reply Refusal) (c : ℕ)
    → IsAfterReply gone (conn_at x.after c) → IsAfterReply gone (conn_at m c) → Step x m r n
    → IsAfterReply gone (conn_at n c)
after_reply-outcome gone x m n (Ok a) c after was step =
    subst (λ (s : State). IsAfterReply gone (conn_at s c)) (sym step.2) after
after_reply-outcome gone x m n (Err y) c after was step =
    subst (λ (s : State). IsAfterReply gone (conn_at s c)) (sym step.1) was

-- a call makes no peer gone
pub after_reply-call : (gone : Bool) (m n : State) (d : ℕ) (k : Call) (r : Reply) (c : ℕ) → IsOrderly m
    → StepsTo m (event.Call d k) r n → IsAfterReply gone (conn_at m c) → IsAfterReply gone (conn_at n c)
after_reply-call gone m n d k r c order step was =
    after_reply-outcome gone (meaning m (event.Call d k)) m n (outcome r) c
    (after_reply-called gone m d k c order.once was) was step

-- After a peer is done, the connection is removed only if it is then over.

pub peer-done : (m n : State) (c : ℕ) → IsOrderly m → StepsTo m (event.PeerClosed c how.Done) reply.Done n
    → (conn_at n c ≡ closed_by (conn_at m c) how.Done)
    ⊎ ((conn_at n c ≡ no_conn) × (is_over (closed_by (conn_at m c) how.Done) ≡ true))
peer-done m n c order step = by (is_over (closed_by (conn_at m c) how.Done)) refl (lookup m.conns c) refl
  where
    by : (b : Bool) → is_over (closed_by (conn_at m c) how.Done) ≡ b → (o : Option Connection) → lookup m.conns c ≡ o
        → (conn_at n c ≡ closed_by (conn_at m c) how.Done)
        ⊎ ((conn_at n c ≡ no_conn) × (is_over (closed_by (conn_at m c) how.Done) ≡ true))
    by true over o is =
        inr (
          ap (λ (s : State). conn_at s c) step.2 ∙ conn-over m c (closed_by (conn_at m c) how.Done) order.once over,
          over,
        )
    by false over (Some y) is =
        inl (ap (λ (s : State). conn_at s c) step.2 ∙ conn-there m c (closed_by (conn_at m c) how.Done) y is over)
    by false over None is =
        absurd (let e = ap (λ (k : Connection). is_over (closed_by k how.Done)) (conn-unmade m c is) in cc (e, over))

-- such a connection has no output, and it was closed or its peer was gone
pub over-done : (k : Connection) → is_over (closed_by k how.Done) ≡ true
    → (k.outgoing ≡ []) × ((k.closed ≡ true) ⊎ (is_gone k.peer ≡ true))
over-done k over = (
  nothing-left k.outgoing (k.closed || (not k.accepted && is_gone (closed_by k how.Done).peer)) over,
  why (length k.outgoing == 0) k.closed k.accepted (is_gone k.peer) over,
)
  where
    why : (none closed accepted gone : Bool)
        → (none && (closed || (not accepted && is_gone (if gone then Some how.Gone else Some how.Done)))) ≡ true
        → (closed ≡ true) ⊎ (gone ≡ true)
    why none true accepted gone is = inl refl
    why none false accepted true is = inr refl
    why true false true false is = absurd (cc)
    why true false false false is = absurd (cc)
    why false false accepted false is = absurd (cc)
