-- Writes and reads of a client without a running script.
use Rattle.std.proofs.Common.{inl, inr, ◌≡◌, ℕ, ◌+◌, ◌-◌, ◌==◌, ◌<◌, List, [], ◌∷◌, ◌++◌, length, take, drop, ap}
use Rattle.std.proofs.Common.{◌∙◌, refl, sym, subst, arith, Some, None, Bool, append_assoc, append-nil}
use Rattle.std.specs.Prelude.{min, ◌&&◌, slice_range}
use Rattle.std.proofs.lemmas.Bool.Decides.{nat_tests}
use Rattle.iol_core.specs.Text.{Text, bytes_of}
use Rattle.iol_core.specs.State.{State, Connection, descriptor, conn_at, is_gone}
use Rattle.iol_core.specs.Calls.Writes.{is_file}
use Rattle.iol_core.specs.Run.{StepsTo}
use Rattle.iol_core.specs.declared.descriptors.Descriptor.TheVariants as on
use Rattle.iol_core.specs.declared.refusals.Refusal.TheVariants as no
use Rattle.iol_core.specs.declared.events.Call.{Call}
use Rattle.iol_core.specs.declared.events.Call.TheVariants as call
use Rattle.iol_core.specs.declared.events.Event.TheVariants as event
use Rattle.iol_core.specs.declared.events.Reply.{Reply}
use Rattle.iol_core.specs.declared.events.Reply.TheVariants as reply
use Rattle.iol_laws.specs.Frame.{touches_fd}
use Rattle.iol_laws.specs.Order.{IsOrderly}
use Rattle.iol_laws.specs.Caller as o
use Rattle.iol_laws.specs.Caller.{readable_at}
use Rattle.flash_http.specs.declared.windows.Window.{Window}
use Rattle.flash_http.specs.declared.windows.Window.TheVariants.{Wait}
use Rattle.flash_http.specs.Window.{window_in, FitsIn}
use Rattle.flash_http.specs.Request.{Answer}
use Rattle.flash_laws.specs.Answers.{Reads}
use Rattle.flash_laws.specs.Client.{conn_after_reply}
use Rattle.flash_laws.specs.Client.Fits.{ConsistencyAlone, expected_in, Finds, FitsAlone}
use Rattle.flash_laws.specs.Conn as conn
use Rattle.flash_laws.specs.Conn.{Conn, most_buffered, piece_end, after_taking, next_piece}
use Rattle.flash_laws.specs.Conn.Fits.{Has, HoldsRestFrom, quits, Names}
use Rattle.flash_laws.specs.SiteContents.{SiteContents, Responds}
use Rattle.flash_laws.specs.Site.{server}
use Rattle.flash_laws.specs.declared.phase.Sending.{Sending}
use Rattle.flash_laws.specs.declared.phase.Phase.{Phase}
use Rattle.flash_laws.specs.declared.phase.Phase.TheVariants.{Receiving, DroppingInput, SendingWhole, SendingPiece}
use Rattle.flash_laws.specs.declared.phase.Phase.TheVariants.{DroppingPiece, AbortingPiece, Aborting}
use Rattle.flash_laws.proofs.Conn.Responses.{some-inj, order-all, reads-append}
use Rattle.flash_laws.proofs.Lists.{clash, bytes-append, none-bytes, take-plus, next-front, take-slice, few-taken}
use Rattle.flash_laws.proofs.Lists.{few-whole, least-taken}
use Rattle.flash_laws.proofs.Moves.{either-next}
use Rattle.flash_laws.proofs.Conn.ReadableBytes.{at-start}
use Rattle.flash_laws.proofs.TheLaws.{TheLaws}
use Rattle.flash_laws.proofs.World.Alone.Consistencies.{alone, FitsAt, part_of, Stands}
use Rattle.flash_laws.proofs.World.Responses.{begins-append, begins-consistency}

module _ (site_contents : SiteContents) (the : TheLaws) (m n : State) (came sent : List ℕ) (fd c : ℕ)
    (buffered script : List ℕ) (order : IsOrderly m) where
  abbrev Fitting : State → Answer → Phase → Type 0
  Fitting = FitsAt site_contents came sent fd c buffered script

  same : (q : Answer) (d : Phase) → Fitting m q d → n ≡ m → Fitting n q d
  same q d f is = subst (λ (s : State). Fitting s q d) (sym is) f

  -- the descriptor stays open on the connection that it reads or writes
  open_still : (k : Call) (r : Reply) → StepsTo m (event.Call server k) r n
      → descriptor m server fd ≡ Some (on.Connection c)
      → touches_fd m (event.Call server k) server fd ≡ is_file (descriptor m server fd)
      → descriptor n server fd ≡ Some (on.Connection c)
  open_still k r step open_on is =
      (the.steps.leaves m n (event.Call server k) r step).fds server fd (on.Connection c) open_on (is
      ∙ ap is_file open_on)

  itself : (a : ℕ) (b : Bool) → ((a == a) && b) ≡ b
  itself a b = grind (arith, nat_tests)

  -- the first k bytes of the offered aggregate are taken, and these are the next bytes of the response
  took_on : (q : Answer) (d e : Phase) (a taken k : ℕ) (bytes : List ℕ) → (f : Fitting m q d)
      → StepsTo m (event.Call server (call.IolWrite fd a)) (reply.Count k) n → o.Puts m c bytes k n
      → take k (drop taken f.expected) ≡ take k bytes
      → Stands f.expected q (take taken f.expected) d → Stands f.expected q (take (taken + k) f.expected) e
      → Has n q (expected_in f.expected q e) e → Finds site_contents n q script e → Fitting n q e
  took_on q d e a taken k bytes f step puts front was stands has finds = record {
    open_on =
        open_still (call.IolWrite fd a) (reply.Count k) step f.open_on (itself fd (is_file (descriptor m server fd)));
    took = f.took;
    expected = f.expected;
    may = f.may;
    came_is = f.came_is ∙ ap (λ (x : Connection). f.took ++ bytes_of x.incoming) (sym puts.conn);
    consistency =
        subst (λ (x : Connection). ConsistencyAlone site_contents f.expected x f.took sent (alone buffered script q e))
        (sym puts.conn) (consistent f.consistency);
    has = has;
    finds = finds;
    proper = f.proper;
  }
    where
      -- the written part is the earlier part and the bytes taken
      more_given : take (taken + k) f.expected ≡ take taken f.expected ++ take k bytes
      more_given = take-plus taken k f.expected ∙ ap (λ (l : List ℕ). take taken f.expected ++ l) front

      out : (before : List ℕ)
          → sent ++ bytes_of (conn_at m c).outgoing ≡ before ++ take taken f.expected
          → sent ++ bytes_of ((conn_at m c).outgoing ++ puts.text) ≡ before ++ part_of f.expected e
      out before is =
          ap (λ (l : List ℕ). sent ++ l) (bytes-append (conn_at m c).outgoing puts.text
          ∙ ap (λ (l : List ℕ). bytes_of (conn_at m c).outgoing ++ l) puts.text_is)
          ∙ (sym (append_assoc sent (bytes_of (conn_at m c).outgoing) (take k bytes))
          ∙ (ap (λ (l : List ℕ). l ++ take k bytes) is
          ∙ (append_assoc before (take taken f.expected) (take k bytes)
          ∙ ap (λ (l : List ℕ). before ++ l) (sym more_given ∙ sym stands.1))))

      consistent : ConsistencyAlone site_contents f.expected (conn_at m c) f.took sent (alone buffered script q d)
          → ConsistencyAlone site_contents f.expected
          (record (conn_at m c) { outgoing = (conn_at m c).outgoing ++ puts.text }) f.took sent
          (alone buffered script q e)
      consistent (inl owes) = inl (
        stands.2,
        record {
          done = owes.1.done;
          open_yet = owes.1.open_yet;
          reads = subst (λ (l : List Answer). Reads f.took (owes.1.done ++ l) buffered) (was.0 ∙ sym stands.0)
              owes.1.reads;
          before = owes.1.before;
          responds = owes.1.responds;
          out_is = out owes.1.before (owes.1.out_is ∙ ap (λ (l : List ℕ). owes.1.before ++ l) was.1);
        },
      )
      consistent (inr (inl finished)) = absurd (clash (quits d) finished.quits was.2)
      consistent (inr (inr gone)) = absurd (clash (is_gone (conn_at m c).peer) gone.gone puts.takes)

  -- the peer is gone: the sent bytes begin the answer, and no more are sent
  broken_off : (q : Answer) (d e : Phase) (a : ℕ) → (f : Fitting m q d)
      → StepsTo m (event.Call server (call.IolWrite fd a)) (reply.Refused no.BrokenPipe) n → n ≡ m
      → Has n q (expected_in f.expected q e) e → Finds site_contents n q script e → Fitting n q e
  broken_off q d e a f step same has finds = record {
    open_on = subst (λ (s : State). descriptor s server fd ≡ Some (on.Connection c)) (sym same) f.open_on;
    took = f.took;
    expected = f.expected;
    may = f.may;
    came_is = f.came_is ∙ ap (λ (s : State). f.took ++ bytes_of (conn_at s c).incoming) (sym same);
    consistency =
        subst (λ (s : State). ConsistencyAlone site_contents f.expected (conn_at s c) f.took sent
        (alone buffered script q e)) (sym same)
        (inr
        (inr (record {
          gone = the.reasons.peer_is_gone m n server fd c a f.open_on step;
          begins =
              begins-consistency site_contents (conn_at m c) f.took sent (alone buffered script q d) f.expected f.may
              f.consistency;
        })));
    has = has;
    finds = finds;
    proper = f.proper;
  }

  pub sends : (q : Answer) (s : Sending) (r : Reply) → (f : Fitting m q (SendingWhole s))
      → StepsTo m (event.Call server (call.IolWrite fd s.agg)) r n
      → Has n q (expected_in f.expected q (conn.after_send s r)) (conn.after_send s r)
      → Finds site_contents n q script (conn.after_send s r) → Fitting n q (conn.after_send s r)
  sends q s r f step has finds =
      by r (the.own.write_conn m n server fd c s.agg h.bytes r order f.open_on h.is_readable step) step has finds
    where
      h : HoldsRestFrom m f.expected s
      h = f.has.0

      by : (r : Reply) → o.WritesConn m c h.bytes r n → StepsTo m (event.Call server (call.IolWrite fd s.agg)) r n
          → Has n q (expected_in f.expected q (conn.after_send s r)) (conn.after_send s r)
          → Finds site_contents n q script (conn.after_send s r) → Fitting n q (conn.after_send s r)
      by (reply.Count k) puts step has finds =
          took_on q (SendingWhole s) (next_piece (after_taking s k)) s.agg s.taken k h.bytes f step puts
          (next-front k h.bytes h.after (drop s.taken f.expected) (at-start h f.has.1) puts.within) (refl, refl, refl)
          (either-next (λ (e : Phase). Stands f.expected q (take (s.taken + k) f.expected) e) (after_taking s k)
          (refl, all, refl) (refl, all, refl)) has finds
        where
          all : take (after_taking s k).taken f.expected ≡ take (s.taken + k) f.expected
          all =
              ap (λ z. take (s.taken + z) f.expected)
              (least-taken k s.from s.len h.bytes h.size (few-whole k s h.bytes f.has.1 puts.within))
      by (reply.Refused no.BrokenPipe) did step has finds =
          broken_off q (SendingWhole s) (Aborting s.agg s.more) s.agg f step did has finds
      by (reply.Refused y) did step has finds = same q (SendingWhole s) f did
      by r did step has finds = absurd did

  pub offers : (q : Answer) (s : Sending) (piece : ℕ) (r : Reply) → (f : Fitting m q (SendingPiece s piece))
      → StepsTo m (event.Call server (call.IolWrite fd piece)) r n
      → Has n q (expected_in f.expected q (conn.after_offer s piece r)) (conn.after_offer s piece r)
      → Finds site_contents n q script (conn.after_offer s piece r) → Fitting n q (conn.after_offer s piece r)
  offers q s piece r f step has finds =
      by r (the.own.write_conn m n server fd c piece (slice_range h.bytes s.from (piece_end s)) r order
      f.open_on f.has.is_readable step) step has finds
    where
      h : HoldsRestFrom m f.expected s
      h = f.has.whole

      by : (r : Reply) → o.WritesConn m c (slice_range h.bytes s.from (piece_end s)) r n
          → StepsTo m (event.Call server (call.IolWrite fd piece)) r n
          → Has n q (expected_in f.expected q (conn.after_offer s piece r)) (conn.after_offer s piece r)
          → Finds site_contents n q script (conn.after_offer s piece r) → Fitting n q (conn.after_offer s piece r)
      by (reply.Count k) puts step has finds =
          let few = few-taken k s h.bytes puts.within in
          took_on q (SendingPiece s piece) (DroppingPiece (after_taking s k) piece) piece s.taken k
          (slice_range h.bytes s.from (piece_end s)) f step puts
          (next-front k (drop s.from h.bytes) h.after (drop s.taken f.expected) h.next few
          ∙ take-slice k s.from (piece_end s) h.bytes puts.within) (refl, refl, refl) (
            refl,
            ap (λ z. take (s.taken + z) f.expected) (least-taken k s.from s.len h.bytes h.size few),
            refl,
          ) has finds
      by (reply.Refused no.BrokenPipe) did step has finds =
          broken_off q (SendingPiece s piece) (AbortingPiece piece s.agg s.more) piece f step did has finds
      by (reply.Refused y) did step has finds = same q (SendingPiece s piece) f did
      by r did step has finds = absurd did

  -- the bytes read are buffered, or the end of the stream was read
  pub rests : (q : Answer) (r : Reply) (received : List ℕ) → Fitting m q Receiving → window_in buffered ≡ Wait
      → StepsTo m (event.Call server (call.IolRead fd (most_buffered - length buffered))) r n → Names n r received
      → FitsAlone site_contents n came sent fd c (conn_after_reply (alone buffered script q Receiving) r received)
  rests q r received f waits step names =
      by r (the.own.read_conn m n server fd c count r order f.open_on step) step names
    where
      count : ℕ
      count = most_buffered - length buffered

      some : 0 < most_buffered - length buffered
      some = let fits : FitsIn (length buffered) Wait =
          subst (λ (w : Window). FitsIn (length buffered) w) waits (the.windows.fit buffered) in omega (arith, fits)

      got_some : (a : ℕ) (takes : o.Takes m server c (most_buffered - length buffered) a n)
          → StepsTo m (event.Call server (call.IolRead fd (most_buffered - length buffered))) (reply.Agg a) n
          → (bytes : List ℕ) → readable_at n server a ≡ Some bytes → (after : List ℕ) (d : Phase)
          → (ConsistencyAlone site_contents f.expected (conn_at m c) f.took sent (alone buffered script q Receiving)
          → ConsistencyAlone site_contents f.expected (record (conn_at m c) { incoming = takes.incoming })
          (f.took ++ bytes) sent (alone after script q d))
          → Has n q (expected_in f.expected q d) d → Finds site_contents n q script d
          → FitsAlone site_contents n came sent fd c (alone after script q d)
      got_some a takes step bytes named after d consistencies has finds = record {
        open_on = open_still (call.IolRead fd (most_buffered - length buffered)) (reply.Agg a) step f.open_on
            (itself fd (is_file (descriptor m server fd)));
        took = f.took ++ bytes;
        expected = f.expected;
        may = f.may;
        came_is =
            f.came_is
            ∙ (ap (λ (x : Text). f.took ++ bytes_of x) takes.was
            ∙ (ap (λ (l : List ℕ). f.took ++ l) (bytes-append takes.text takes.incoming
            ∙ ap (λ (l : List ℕ). l ++ bytes_of takes.incoming) same_bytes)
            ∙ (sym (append_assoc f.took bytes (bytes_of takes.incoming))
            ∙ ap (λ (x : Connection). (f.took ++ bytes) ++ bytes_of x.incoming) (sym takes.conn))));
        consistency =
            subst (λ (x : Connection). ConsistencyAlone site_contents f.expected x (f.took ++ bytes) sent
            (alone after script q d)) (sym takes.conn) (consistencies f.consistency);
        has = has;
        finds = finds;
        proper = f.proper;
      }
        where
          same_bytes : bytes_of takes.text ≡ bytes
          same_bytes = some-inj _ _ (sym takes.is_readable ∙ named)

      by : (r : Reply) → o.ReadsConn m server c (most_buffered - length buffered) r n
          → StepsTo m (event.Call server (call.IolRead fd (most_buffered - length buffered))) r n
          → Names n r received
          → FitsAlone site_contents n came sent fd c (conn_after_reply (alone buffered script q Receiving) r received)
      by (reply.Agg a) takes step names = ended received names
        where
          ended : (l : List ℕ) → readable_at n server a ≡ Some l
              → FitsAlone site_contents n came sent fd c
              (conn_after_reply (alone buffered script q Receiving) (reply.Agg a) l)
          ended [] names =
              got_some a takes step [] names buffered (Aborting a None) consistencies
              (record { after = []; readable = ([], names); follows = refl; apart = refl }) tt
            where
              text_none : takes.text ≡ []
              text_none = none-bytes takes.text (some-inj _ _ (sym takes.is_readable ∙ names))

              rest_none : takes.incoming ≡ []
              rest_none = ap (λ (t : Text). t ++ takes.incoming) (sym text_none)
                  ∙ (sym takes.was ∙ (takes.ended some text_none).0)

              consistencies : ConsistencyAlone site_contents f.expected (conn_at m c) f.took sent
                  (alone buffered script q Receiving)
                  → ConsistencyAlone site_contents f.expected (record (conn_at m c) { incoming = takes.incoming })
                  (f.took ++ []) sent (alone buffered script q (Aborting a None))
              consistencies (inl owes) = inr (inl (record {
                quits = refl;
                finished = record {
                  qs = owes.1.done;
                  rest = buffered;
                  reads =
                      subst (λ (l : List ℕ). Reads l owes.1.done buffered) (sym (append-nil f.took))
                      (subst (λ (l : List Answer). Reads f.took l buffered) (append-nil owes.1.done) owes.1.reads);
                  order = order-all owes.1.done owes.1.open_yet;
                  responds =
                      subst (λ (l : List ℕ). Responds site_contents owes.1.done l)
                      (sym (owes.1.out_is ∙ append-nil owes.1.before)) owes.1.responds;
                  no_more = inr (waits, rest_none, (takes.ended some text_none).1);
                };
                begins = begins-append the.windows site_contents f.took [] (sent ++ bytes_of (conn_at m c).outgoing)
                    (begins-consistency site_contents (conn_at m c) f.took sent (alone buffered script q Receiving)
                    f.expected
                    f.may f.consistency);
              }))
              consistencies (inr (inl finished)) = absurd (let bad = finished.quits in cc (bad))
              consistencies (inr (inr gone)) =
                  inr
                  (inr
                  (record {
                    gone = gone.gone;
                    begins =
                        begins-append the.windows site_contents f.took [] (sent ++ bytes_of (conn_at m c).outgoing)
                        gone.begins;
                  }))
          ended (b ∷ l) names =
              got_some a takes step (b ∷ l) names (buffered ++ (b ∷ l)) (DroppingInput a) consistencies (b ∷ l, names)
              tt
            where
              consistencies : ConsistencyAlone site_contents f.expected (conn_at m c) f.took sent
                  (alone buffered script q Receiving)
                  → ConsistencyAlone site_contents f.expected (record (conn_at m c) { incoming = takes.incoming })
                  (f.took ++ (b ∷ l)) sent (alone (buffered ++ (b ∷ l)) script q (DroppingInput a))
              consistencies (inl owes) =
                  inl (
                    refl,
                    record {
                      done = owes.1.done;
                      open_yet = owes.1.open_yet;
                      reads = reads-append the.windows f.took (b ∷ l) (owes.1.done ++ []) buffered owes.1.reads;
                      before = owes.1.before;
                      responds = owes.1.responds;
                      out_is = owes.1.out_is;
                    },
                  )
              consistencies (inr (inl finished)) = absurd (let bad = finished.quits in cc (bad))
              consistencies (inr (inr gone)) =
                  inr
                  (inr
                  (record {
                    gone = gone.gone;
                    begins =
                        begins-append the.windows site_contents f.took (b ∷ l) (sent ++ bytes_of (conn_at m c).outgoing)
                        gone.begins;
                  }))
      by (reply.Refused y) did step names = same q Receiving f did
      by r did step names = absurd did
