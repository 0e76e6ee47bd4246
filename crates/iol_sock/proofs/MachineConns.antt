-- Connections of the copying machine, by a reading of their bytes.
use Rattle.std.proofs.Common.{◌≡◌, ℕ, ◌-◌, ◌==◌, ◌&&◌, ◌||◌, Bool, false, not, nat_lt, min, List, [], ◌∷◌, length}
use Rattle.std.proofs.Common.{Option, refl, sym, ap, subst, ◌∙◌}
use Rattle.std.specs.Prelude.{unwrap_or, is_some, is_none}
use Rattle.iol_core.specs.State as machine
use Rattle.iol_core.specs.State.{State, conn_at, is_gone, no_conn}
use Rattle.iol_core.specs.Meaning.{◌when◌, first, WantOfRoom}
use Rattle.iol_core.specs.Calls.Outside as outside
use Rattle.iol_core.specs.declared.descriptors.How.TheVariants.{Done, Gone}
use Rattle.iol_core.specs.declared.limits.TheConstants.{MAX_QUEUE_BYTES}
use Rattle.iol_core.specs.declared.refusals.Refusal.{Refusal}
use Rattle.iol_core.specs.declared.refusals.Refusal.TheVariants.{BadFd, BadRange, BrokenPipe, WouldBlock}
use Rattle.iol_hold.specs.Layout.{read}
use Rattle.iol_hold.specs.declared.slices.Slice.{Slice}
use Rattle.iol_hold.proofs.AtPlaces.{length-read}
use Rattle.iol_sock.specs.Connections.{Conn, conn_view}
use Rattle.iol_sock.specs.Meanings.{Reading, IsConn, IsOverAsMeant, ClosesAsMeant, ArrivesAsMeant, TakesAsMeant}
use Rattle.iol_sock.specs.Meanings.{WantsAsMeant, SendsAsMeant, QueuesAsMeant, FitsAsMeant}

pub conn_at-is : (f : Reading) (s : State) (c : ℕ) (x : Conn (List Slice)) → IsConn f s c x
    → conn_at s c ≡ conn_view (read f) x
unfolding conn_at
conn_at-is f s c x e = ap (λ (o : Option machine.Connection). unwrap_or o no_conn) e

pub over_meant : IsOverAsMeant
over_meant f x = ap (λ n. (n == 0) && (x.closed || (not x.accepted && is_gone x.peer))) (length-read f x.outgoing)

pub closes_meant : ClosesAsMeant
closes_meant f x Done = refl
closes_meant f x Gone = refl

-- the refusal of n arriving bytes at a connection, if any; `lacks` says that there is no such connection
met : (lacks : Bool) → machine.Connection → (n : ℕ) → Option Refusal
met lacks y n = first (
    (BadFd when lacks) ∷
    (BrokenPipe when (is_some y.peer || y.closed)) ∷
    (WouldBlock when (nat_lt 0 n && (min n (MAX_QUEUE_BYTES - length y.incoming) == 0))) ∷ []
    )

pub there : (f : Reading) (s : State) (c : ℕ) (x : Conn (List Slice)) → IsConn f s c x → outside.lacks_conn s c ≡ false
there f s c x e = ap is_none e

pub arrives_meant : ArrivesAsMeant
unfolding met
arrives_meant f s c x bytes e =
    let n : ℕ = length bytes in
    ap (λ l. met l (conn_at s c) n) (there f s c x e)
    ∙ ap (λ y. met false y n) (conn_at-is f s c x e)
    ∙ ap
    (λ k. first ((BrokenPipe when (is_some x.peer || x.closed))
    ∷ (WouldBlock when (nat_lt 0 n && (min n (MAX_QUEUE_BYTES - k) == 0))) ∷ [])) (length-read f x.incoming)

pub takes_meant : TakesAsMeant
takes_meant f s c x bytes e =
    ap (λ (y : machine.Connection). min (length bytes) (MAX_QUEUE_BYTES - length y.incoming)) (conn_at-is f s c x e)
    ∙ ap (λ k. min (length bytes) (MAX_QUEUE_BYTES - k)) (length-read f x.incoming)

pub wants_meant : WantsAsMeant
wants_meant f s c x [] r e h = h
wants_meant f s c x (b ∷ bytes) r e h =
    subst (λ (y : machine.Connection). WantOfRoom y.pool r) (sym (conn_at-is f s c x e)) h

sends : (lacks : Bool) → machine.Connection → (max : ℕ) → Option Refusal
sends lacks y max =
    first ((BadFd when lacks) ∷ (BadRange when (max == 0)) ∷ (WouldBlock when (length y.outgoing == 0)) ∷ [])

pub sends_meant : SendsAsMeant
unfolding sends
sends_meant f s c max x e =
    ap (λ l. sends l (conn_at s c) max) (there f s c x e)
    ∙ ap (λ y. sends false y max) (conn_at-is f s c x e)
    ∙ ap (λ k. first ((BadRange when (max == 0)) ∷ (WouldBlock when (k == 0)) ∷ [])) (length-read f x.outgoing)

pub fits_meant : FitsAsMeant
fits_meant f s c n x e =
    ap (λ (y : machine.Connection). min n (MAX_QUEUE_BYTES - length y.outgoing)) (conn_at-is f s c x e)
    ∙ ap (λ k. min n (MAX_QUEUE_BYTES - k)) (length-read f x.outgoing)

pub queues_meant : QueuesAsMeant
queues_meant f s c n x e =
    ap
    (λ (y : machine.Connection). first ((BrokenPipe when is_gone y.peer)
    ∷ (WouldBlock when (nat_lt 0 n && (min n (MAX_QUEUE_BYTES - length y.outgoing) == 0))) ∷ []))
    (conn_at-is f s c x e)
    ∙ ap
    (λ k.
    first ((BrokenPipe when is_gone x.peer) ∷ (WouldBlock when (nat_lt 0 n && (min n (MAX_QUEUE_BYTES - k) == 0)))
    ∷ [])) (length-read f x.outgoing)
