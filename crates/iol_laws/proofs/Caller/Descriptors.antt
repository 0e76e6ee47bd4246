-- The effect of reading, writing, accepting and closing for their caller.
use Rattle.std.proofs.Common.{◌≡◌, ℕ, List, [], ◌++◌, length, take, drop, ap, ◌∙◌, refl, sym, arith, Some, true, false}
use Rattle.std.specs.Prelude.{◌-◌, unwrap_or, is_none}
use Rattle.iol_core.specs.Text.{Text}
use Rattle.iol_core.specs.NumberedLists.{in_place, lowest, placed}
use Rattle.iol_core.specs.State.{State, Domain, Connection, domain, text, descriptor, may_read, conn_at, is_live}
use Rattle.iol_core.specs.State.{is_gone, with_conn}
use Rattle.iol_core.specs.Run.{StepsTo}
use Rattle.iol_core.specs.Calls.Aggregates as aggs
use Rattle.iol_core.specs.Calls.Descriptors as fds
use Rattle.iol_core.specs.Calls.Reads as reading
use Rattle.iol_core.specs.declared.limits.TheConstants.{MAX_QUEUE_BYTES}
use Rattle.iol_core.specs.declared.refusals.Refusal.TheVariants as refuse
use Rattle.iol_core.specs.declared.descriptors.Descriptor.TheVariants as on
use Rattle.iol_core.specs.declared.events.Call.TheVariants as call
use Rattle.iol_core.specs.declared.events.Event.TheVariants as event
use Rattle.iol_core.specs.declared.events.Reply.{Reply}
use Rattle.iol_core.specs.declared.events.Reply.TheVariants as reply
use Rattle.iol_core.proofs.Lookups.{domain-same}
use Rattle.iol_core.proofs.TestedLists.{passed, when-none}
use Rattle.iol_laws.specs.Order.{IsOrderly}
use Rattle.iol_laws.specs.Caller.{readable_at, Puts, ReadsConn, WritesConn, Closes, ClosesConn, Accepts}
use Rattle.iol_laws.proofs.Caller.Queues.{FitsIn, fits_in, front, read_passes, takes_front, wrote_agg}
use Rattle.iol_laws.proofs.Connections.{conn-remains, conn-with_same, conns-with_agg, conns-with_fds, conns_conn}
use Rattle.iol_laws.proofs.Connections.{not-over}
use Rattle.iol_laws.proofs.Domains.{domain-with_same, domains-closed_on, domains-with_conn, live-first}
use Rattle.iol_laws.proofs.Numbers.{got-agg, new-fd, number, text-of}
use Rattle.iol_laws.proofs.Places.{lowest-free, place-set_free}
use Rattle.iol_laws.proofs.Tests.{is_some-or}
use Rattle.iol_laws.proofs.Streams.WaitingConn.{opened-conn, waiting-is}

-- a text is appended to the queued output
pub puts_conn : (s t : State) (d fd c : ℕ) (bytes : List ℕ) (k : ℕ) (x : Text) → IsOrderly s
    → descriptor s d fd ≡ Some (on.Connection c) → FitsIn bytes (MAX_QUEUE_BYTES - length (conn_at s c).outgoing) k x
    → is_gone (conn_at s c).peer ≡ false
    → t ≡ with_conn s c (record (conn_at s c) { outgoing = (conn_at s c).outgoing ++ x }) → Puts s c bytes k t
puts_conn s t d fd c bytes k x order is fits takes same =
    let both = opened-conn s d fd c order is in
    let y : Connection = record (conn_at s c) { outgoing = (conn_at s c).outgoing ++ x } in
    record {
      text = x;
      within = fits.within;
      text_is = fits.text_is;
      most = fits.most;
      takes = takes;
      conn =
          ap (λ u. conn_at u c) same ∙ conn-with_same s c y both.1 (not-over y both.0 both.1);
    }

pub does_write_conn : (s t : State) (d fd c a : ℕ) (bytes : List ℕ) (r : Reply) → IsOrderly s
    → descriptor s d fd ≡ Some (on.Connection c) → readable_at s d a ≡ Some bytes
    → StepsTo s (event.Call d (call.IolWrite fd a)) r t → WritesConn s c bytes r t
does_write_conn s t d fd c a bytes (reply.Count k) order is has step =
    let wrote = wrote_agg s t d fd k _ is a step in
    puts_conn s t d fd c bytes k (take k (text s d a)) order is
    (fits_in (text s d a) bytes (MAX_QUEUE_BYTES - length (conn_at s c).outgoing) k (text-of s d a bytes has)
    wrote.0) wrote.2 wrote.1
does_write_conn s t d fd c a bytes (reply.Refused x) order is has step = step.1
does_write_conn s t d fd c a bytes r order is has step = (let e = step.1 in absurd (cc))

pub does_read_conn : (s t : State) (d fd c n : ℕ) (r : Reply) → IsOrderly s → descriptor s d fd ≡ Some (on.Connection c)
    → StepsTo s (event.Call d (call.IolRead fd n)) r t → ReadsConn s d c n r t
does_read_conn s t d fd c n (reply.Agg a) order is step =
    let passes = read_passes s d fd n _ is step.0 in
    let both = opened-conn s d fd c order is in
    let inc : Text = (conn_at s c).incoming in
    let taken = takes_front (may_read s d) n inc (is_none (conn_at s c).peer) passes.0 passes.1 in
    let x : Connection = record (conn_at s c) { incoming = drop (length (front (may_read s d) n inc)) inc } in
    let mid : State = with_conn s c x in
    let same : t ≡ aggs.with_agg mid d (front (may_read s d) n inc) =
    step.2
    ∙ ap (λ o. aggs.with_agg (reading.read_on s d fd o (length (reading.read_text s d o n))) d
    (reading.read_text s d o n)) is in
    let got = got-agg s mid t d a (front (may_read s d) n inc) (order.aggs d (aggs.next_agg s d) (omega arith))
    (domain-same s mid d (domains-with_conn s c x)) (live-first s d _ step.0) (ap number step.1) same in
    record {
      text = front (may_read s d) n inc;
      incoming = x.incoming;
      is_readable = got.0;
      new = got.1;
      was = taken.was;
      most = refl;
      conn = ap (λ u. conn_at u c) same
          ∙ (conns-with_agg mid d (front (may_read s d) n inc) c
          ∙ conn-with_same s c x both.1 (not-over x both.0 both.1));
      ended = taken.ended;
    }
does_read_conn s t d fd c n (reply.Refused x) order is step = step.1
does_read_conn s t d fd c n r order is step = (let e = step.1 in absurd (cc))

pub does_close : (s t : State) (d fd : ℕ) (r : Reply) → StepsTo s (event.Call d (call.Close fd)) r t → Closes s d fd r t
does_close s t d fd reply.Done step =
    let mid : State = fds.closed_on s (descriptor s d fd) in
    let dom : domain mid d ≡ domain s d = domain-same s mid d (domains-closed_on s (descriptor s d fd)) in
    let live : is_live mid d ≡ true = ap (λ (y : Domain Text). y.live) dom ∙ live-first s d _ step.0 in
    ap (λ u. descriptor u d fd) step.2
    ∙ (ap (λ (y : Domain Text). in_place y.fds fd)
    (domain-with_same mid d (record (domain mid d) { fds = fds.freed s d fd }) live)
    ∙ place-set_free (domain s d).fds fd)
does_close s t d fd (reply.Refused x) step = step.1
does_close s t d fd r step = (let e = step.1 in absurd (cc))

pub does_close_conn : (s t : State) (d fd c : ℕ) (r : Reply) → IsOrderly s → descriptor s d fd ≡ Some (on.Connection c)
    → StepsTo s (event.Call d (call.Close fd)) r t → ClosesConn s c r t
does_close_conn s t d fd c reply.Done order is step =
    let both = opened-conn s d fd c order is in
    let x : Connection = record (conn_at s c) { incoming = []; closed = true } in
    let same : t ≡ fds.with_fds (with_conn s c x) d (fds.freed s d fd) =
    step.2 ∙ ap (λ o. fds.with_fds (fds.closed_on s o) d (fds.freed s d fd)) is in
    ap (λ u. conn_at u c) same
    ∙ (conns-with_fds (with_conn s c x) d (fds.freed s d fd) c
    ∙ conn-remains s c x order.once (conn-with_same s c x both.1))
does_close_conn s t d fd c (reply.Refused x) order is step = step.1
does_close_conn s t d fd c r order is step = (let e = step.1 in absurd (cc))

pub does_accept : (s t : State) (d : ℕ) (r : Reply) → IsOrderly s → StepsTo s (event.Call d call.Accept) r t
    → Accepts s d r t
does_accept s t d (reply.Fd fd) order step =
    let live = live-first s d _ step.0 in
    let c : ℕ = unwrap_or (fds.waiting s d) 0 in
    let x : Connection = record (conn_at s c) { accepted = true } in
    let mid : State = with_conn s c x in
    let dom : domain mid d ≡ domain s d = domain-same s mid d (domains-with_conn s c x) in
    let fd_is : fd ≡ fds.next_fd mid d = ap number step.1 ∙ sym (ap (λ (y : Domain Text). lowest y.fds) dom) in
    let found =
    is_some-or (fds.waiting s d)
    (when-none refuse.WouldBlock (is_none (fds.waiting s d)) (passed (fds.accept s d).refusals 2 step.0)) in
    let it = waiting-is s d c order found in
    let conn : conn_at t c ≡ x = ap (λ u. conn_at u c) step.2
    ∙ (conns-with_fds mid d (placed (domain mid d).fds (fds.next_fd mid d) (on.Connection c)) c
    ∙ conn-with_same s c x (order.waits c it.0) (not-over x refl (order.waits c it.0))) in
    record {
      conn = c;
      waited = it.0;
      may = it.1;
      open_on = ap (λ k. descriptor t d k) fd_is
          ∙ (ap (λ u. descriptor u d (fds.next_fd mid d)) step.2
          ∙ new-fd mid d (on.Connection c) (ap (λ (y : Domain Text). y.live) dom ∙ live));
      new = ap (λ k. descriptor s d k) (ap number step.1) ∙ lowest-free (domain s d).fds;
      conn_is = conn;
      others = λ k differ. ap (λ u. conn_at u k) step.2
          ∙ (conns-with_fds mid d (placed (domain mid d).fds (fds.next_fd mid d) (on.Connection c)) k
          ∙ conns_conn s c x k differ);
    }
does_accept s t d (reply.Refused x) order step = step.1
does_accept s t d r order step = (let e = step.1 in absurd (cc))
