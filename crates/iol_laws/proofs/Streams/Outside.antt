-- The effect of external events on a connection.
use Rattle.std.proofs.Common.{◌≡◌, ℕ, ◌==◌, List, [], ◌∷◌, ◌++◌, length, take, drop, ap, ◌∙◌, refl, sym, arith, Option}
use Rattle.std.proofs.Common.{Some, None, true, false, Bool}
use Rattle.std.specs.Prelude.{min, not, is_none, is_some, ◌&&◌, ◌||◌, ◌-◌}
use Rattle.std.proofs.lemmas.List.{length-take}
use Rattle.iol_core.specs.Text.{Text, bytes_of, labelled}
use Rattle.iol_core.specs.Checksum.{checksum}
use Rattle.iol_core.specs.NumberedLists.{lookup}
use Rattle.iol_core.specs.State.{State, Connection, pool, conn_at, is_gone, with_conn}
use Rattle.iol_core.specs.Meaning.{first, ◌when◌}
use Rattle.iol_core.specs.Run.{StepsTo}
use Rattle.iol_core.specs.Calls.Outside.{conn_new, closed_by, transmit}
use Rattle.iol_core.specs.Calls.Outside as outside
use Rattle.iol_core.specs.declared.limits.TheConstants.{MAX_QUEUE_BYTES}
use Rattle.iol_core.specs.declared.refusals.Refusal.{Refusal}
use Rattle.iol_core.specs.declared.refusals.Refusal.TheVariants as refuse
use Rattle.iol_core.specs.declared.descriptors.How.{How}
use Rattle.iol_core.specs.declared.events.Event.TheVariants as event
use Rattle.iol_core.specs.declared.events.Reply.{Reply}
use Rattle.iol_core.specs.declared.events.Reply.TheVariants as reply
use Rattle.iol_core.proofs.TestedLists.{passed, when-none}
use Rattle.iol_laws.specs.Order.{IsOrderly}
use Rattle.iol_laws.specs.Others.{MakesConn, Arrives, Transmits, PeerCloses}
use Rattle.iol_laws.proofs.Connections.{conn-made, conn-remains, conn-unmade, conn-there, conn-with_same}
use Rattle.iol_laws.proofs.Numbers.{number}
use Rattle.iol_laws.proofs.Texts.{bytes-append, bytes-labelled, length-bytes}
use Rattle.iol_laws.proofs.Tests.{left-false, right-false}

abbrev sent_in : Reply → List ℕ
sent_in (reply.Segment bytes sum) = bytes
sent_in r = []

abbrev sum_in : Reply → ℕ
sum_in (reply.Segment bytes sum) = sum
sum_in r = 0

is-there : {A : Type 0} (o : Option A) → is_none o ≡ false → (y : A) × (o ≡ Some y)
is-there None some = absurd (cc)
is-there (Some y) some = (y, refl)

-- the number of a connection in a reply
abbrev conn_in : Reply → ℕ
conn_in (reply.Conn c) = c
conn_in r = 0

pub does_connect : (s t : State) (p : ℕ) (r : Reply) → IsOrderly s → StepsTo s (event.ConnNew p) r t → MakesConn s p r t
does_connect s t p (reply.Conn c) order step =
    let c_is : c ≡ s.next_conn = ap conn_in step.1 in
    let none = order.conns s.next_conn (omega arith) in
    record {
      new = ap (λ n. conn_at s n) c_is ∙ conn-unmade s s.next_conn none;
      conn = ap (λ n. conn_at t n) c_is ∙ (ap (λ u. conn_at u s.next_conn) step.2 ∙ conn-made s p none);
      open_yet = when-none (refuse.PoolClosed p) (pool s p).closed (passed (conn_new s p).refusals 2 step.0);
    }
does_connect s t p (reply.Refused x) order step = step.1
does_connect s t p r order step = (let e = step.1 in absurd (cc))

pub does_arrive : (s t : State) (c : ℕ) (bytes : List ℕ) (r : Reply) → IsOrderly s
    → StepsTo s (event.Arrive c bytes) r t → Arrives s c bytes r t
does_arrive s t c bytes (reply.Count k) order step =
    let broken =
    when-none refuse.BrokenPipe (is_some (conn_at s c).peer || (conn_at s c).closed)
    (passed (outside.arrive s c bytes).refusals 1 step.0) in
    let peer_open = left-false (is_some (conn_at s c).peer) (conn_at s c).closed broken in
    let open_yet = right-false (is_some (conn_at s c).peer) (conn_at s c).closed broken in
    let x : Connection =
    record (conn_at s c) { incoming = (conn_at s c).incoming ++ labelled (conn_at s c).pool (take k bytes) } in
    let same : t ≡ with_conn s c x =
    step.2
    ∙ ap
    (λ n.
    with_conn s c
    (record (conn_at s c) { incoming = (conn_at s c).incoming ++ labelled (conn_at s c).pool (take n bytes) }))
    (sym (ap number step.1)) in
    record {
      open_yet = open_yet;
      peer_open = none-there (conn_at s c).peer peer_open;
      incoming = (conn_at s c).incoming ++ labelled (conn_at s c).pool (take k bytes);
      bytes_are = bytes-append (conn_at s c).incoming (labelled (conn_at s c).pool (take k bytes))
          ∙ ap (λ (l : List ℕ). bytes_of (conn_at s c).incoming ++ l)
          (bytes-labelled (conn_at s c).pool (take k bytes));
      conn = ap (λ u. conn_at u c) same
          ∙ conn-with_same s c x open_yet (still (length x.outgoing == 0) (conn_at s c).closed (conn_at s c).accepted
          (conn_at s c).peer open_yet peer_open);
    }
  where
    none-there : (o : Option How) → is_some o ≡ false → o ≡ None
    none-there None is = refl
    none-there (Some h) is = absurd (cc)

    still : (e closed accepted : Bool) (peer : Option How) → closed ≡ false → is_some peer ≡ false
        → (e && (closed || (not accepted && is_gone peer))) ≡ false
    still e closed accepted None closed_is peer_is = grind (arith, closed_is)
    still e closed accepted (Some h) closed_is peer_is = absurd (cc)
does_arrive s t c bytes (reply.Refused x) order step = step.1
does_arrive s t c bytes r order step = (let e = step.1 in absurd (cc))

conn-known : (s : State) (c : ℕ) (rest : List (Option Refusal))
    → first ((refuse.BadFd when is_none (lookup s.conns c)) ∷ rest) ≡ None
    → (y : Connection) × (lookup s.conns c ≡ Some y)
conn-known s c rest none =
    is-there (lookup s.conns c)
    (when-none refuse.BadFd (is_none (lookup s.conns c))
    (passed ((refuse.BadFd when is_none (lookup s.conns c)) ∷ rest) 0 none))

pub does_transmit : (s t : State) (c max : ℕ) (r : Reply) → IsOrderly s → StepsTo s (event.Transmit c max) r t
    → Transmits s c max r t
does_transmit s t c max (reply.Segment bytes sum) order step = record {
  bytes_are = ap sent_in step.1;
  some =
      λ empty. (let a =
      when-none refuse.WouldBlock (length (conn_at s c).outgoing == 0) (passed (transmit s c max).refusals 2 step.0) in
      let b : (length (conn_at s c).outgoing == 0) ≡ true = ap (λ (l : Text). length l == 0) empty in
      absurd (cc (a, b)));
  conn = ap (λ u. conn_at u c) step.2 ∙ conn-remains s c x order.once (conn-there s c x there.0 there.1);
}
  where
    x : Connection
    x = record (conn_at s c) { outgoing = drop max (conn_at s c).outgoing }

    there : (y : Connection) × (lookup s.conns c ≡ Some y)
    there = conn-known s c _ step.0
does_transmit s t c max (reply.Refused x) order step = step.1
does_transmit s t c max r order step = (let e = step.1 in absurd (cc))

-- The peer closes.
pub does_peer_closed : (s t : State) (c : ℕ) (how : How) (r : Reply) → IsOrderly s
    → StepsTo s (event.PeerClosed c how) r t → PeerCloses s c how r t
does_peer_closed s t c how reply.Done order step =
    let x : Connection = closed_by (conn_at s c) how in
    let there = conn-known s c _ step.0 in
    ap (λ u. conn_at u c) step.2 ∙ conn-remains s c x order.once (conn-there s c x there.0 there.1)
does_peer_closed s t c how (reply.Refused x) order step = step.1
does_peer_closed s t c how r order step = (let e = step.1 in absurd (cc))

-- The numbers of bytes received and sent.

pub count_arrived : (s t : State) (c : ℕ) (bytes : List ℕ) (k : ℕ) → StepsTo s (event.Arrive c bytes) (reply.Count k) t
    → k ≡ min (length bytes) (MAX_QUEUE_BYTES - length (conn_at s c).incoming)
count_arrived s t c bytes k step = ap number step.1

pub count_sent : (s t : State) (c max : ℕ) (bytes : List ℕ) (sum : ℕ)
    → StepsTo s (event.Transmit c max) (reply.Segment bytes sum) t
    → (length bytes ≡ min max (length (conn_at s c).outgoing)) × (sum ≡ checksum bytes)
count_sent s t c max bytes sum step =
    let out : Text = (conn_at s c).outgoing in
    let is : bytes ≡ bytes_of (take max out) = ap sent_in step.1 in (
      ap (λ (l : List ℕ). length l) is ∙ (length-bytes (take max out) ∙ length-take max out),
      ap sum_in step.1
          ∙ ap checksum (sym is),
    )
