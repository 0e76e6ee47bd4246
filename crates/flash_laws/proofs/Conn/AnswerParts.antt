-- The server's own calls preserve its data of a response, for every expected response.
use Rattle.std.proofs.Common.{◌≡◌, ℕ, ◌+◌, ◌-◌, ◌==◌, ◌<◌, ◌≤◌, List, [], ◌∷◌, ◌++◌, length, drop, ap, ◌∙◌, refl, sym}
use Rattle.std.proofs.Common.{subst, arith, Some, None, true, false, Bool, append-nil, if◌then◌else◌}
use Rattle.std.specs.Prelude.{nat_lt, nat_le, slice_range, ◌||◌}
use Rattle.std.proofs.lemmas.List.{drop-drop}
use Rattle.std.proofs.lemmas.Bool.{or_parts, or_from}
use Rattle.std.proofs.lemmas.Bool.Decides.{nat_tests}
use Rattle.iol_core.specs.State.{State, descriptor}
use Rattle.iol_core.specs.Run.{StepsTo}
use Rattle.iol_core.specs.Values.{gives_up}
use Rattle.iol_core.specs.declared.limits.TheConstants.{MAX_AGGREGATE_BYTES}
use Rattle.iol_core.specs.declared.descriptors.Descriptor.TheVariants as on
use Rattle.iol_core.specs.declared.refusals.Refusal.TheVariants as no
use Rattle.iol_core.specs.declared.events.Call.{Call}
use Rattle.iol_core.specs.declared.events.Call.TheVariants as call
use Rattle.iol_core.specs.declared.events.Event.TheVariants as event
use Rattle.iol_core.specs.declared.events.Reply.{Reply}
use Rattle.iol_core.specs.declared.events.Reply.TheVariants as reply
use Rattle.iol_laws.specs.Frame.{EachStepLeavesTheRest}
use Rattle.iol_laws.specs.Order.{IsOrderly}
use Rattle.iol_laws.specs.Caller as o
use Rattle.iol_laws.specs.Caller.{CallsServeTheirDomain, readable_at}
use Rattle.flash_http.specs.declared.ranges.Selection.{Selection}
use Rattle.flash_http.specs.declared.ranges.Selection.TheVariants.{Whole, Bytes, Unsatisfiable}
use Rattle.flash_http.specs.Range.{selected, LiesWithin}
use Rattle.flash_http.specs.Request.{Answer, serve, refuse, Wanted}
use Rattle.flash_laws.specs.Answers.{keeps, body_unless, chosen, file_text, unsatisfiable}
use Rattle.flash_laws.specs.Conn.{Following, has_followed, content_agg, piece_end, count_of, text_of, sends_of}
use Rattle.flash_laws.specs.Conn.{resolved, after_close_file, after_slice, after_drop_whole, following, headed}
use Rattle.flash_laws.specs.Conn.{whole, after_head, after_join, after_send, after_cut, after_offer, after_swap}
use Rattle.flash_laws.specs.Conn.{after_taking, next_piece}
use Rattle.flash_laws.specs.Conn.{proceeds, after_taken, after_break, drops_next, after_drop, next_call, after_receive}
use Rattle.flash_laws.specs.Conn.{after_reply}
use Rattle.flash_laws.specs.declared.phase.FileResult.{FileResult}
use Rattle.flash_laws.specs.declared.phase.FileResult.TheVariants.{File, Length, Fails, Text as TextOf}
use Rattle.flash_laws.specs.declared.phase.Payload.{Payload}
use Rattle.flash_laws.specs.declared.phase.Payload.TheVariants.{Body}
use Rattle.flash_laws.specs.declared.phase.Sending.{Sending}
use Rattle.flash_laws.specs.declared.phase.Phase.{Phase}
use Rattle.flash_laws.specs.declared.phase.Phase.TheVariants.{Receiving, DroppingInput, ClosingFile, Slicing}
use Rattle.flash_laws.specs.declared.phase.Phase.TheVariants.{DroppingWhole, MakingHead, Joining, SendingWhole}
use Rattle.flash_laws.specs.declared.phase.Phase.TheVariants.{CuttingPiece, SendingPiece, DroppingPiece, DroppingSent}
use Rattle.flash_laws.specs.declared.phase.Phase.TheVariants.{AbortingPiece, Aborting, Disconnecting, Closed}
use Rattle.flash_laws.specs.Conn.Fits.{MoreIsReadable, HoldsRestFrom, HoldsUnsent, HasFile, HasFileResult}
use Rattle.flash_laws.specs.Conn.Fits.{HasContent, Has, is_closing, Names}
use Rattle.flash_laws.specs.Client.ResponseState.{is_opening}
use Rattle.flash_laws.specs.Site.{server}
use Rattle.flash_laws.proofs.Forms.{at}
use Rattle.flash_laws.proofs.Counts.{counted, made-short}
use Rattle.flash_laws.proofs.Moves.{dropped, closed, made, made-received, written, either-way}
use Rattle.flash_laws.proofs.Conn.ReadableBytes.{text-same, readable-stays, new-other, new-follows, follows-stay}
use Rattle.flash_laws.proofs.Conn.ReadableBytes.{content-on, rest-on}
use Rattle.flash_laws.proofs.Lists.{not-equal, turned, next-rest, none-left, both-long, few-taken, length-part}
use Rattle.flash_laws.proofs.Lists.{least-taken, few-whole}
use Rattle.flash_http.proofs.SelectionLaws.{selected-within}

module _ (steps : EachStepLeavesTheRest) (own : CallsServeTheirDomain) (m n : State) (order : IsOrderly m) where
  pub stays : (k : Call) (r : Reply) → StepsTo m (event.Call server k) r n → (a : ℕ) (bytes : List ℕ)
      → readable_at m server a ≡ Some bytes → gives_up (event.Call server k) server a ≡ false
      → readable_at n server a ≡ Some bytes
  stays k r step a bytes is un = readable-stays steps m n (event.Call server k) r step a bytes is un

  pub follows : (k : Call) (r : Reply) → StepsTo m (event.Call server k) r n
      → (more : Following) (bytes : List ℕ) → ((a : ℕ) → has_followed more a ≡ true
      → gives_up (event.Call server k) server a ≡ false) → MoreIsReadable m more bytes → MoreIsReadable n more bytes
  follows k r step more bytes un is =
      follows-stay m n more bytes (λ a l has readable. stays k r step a l readable (un a has)) is

  apart : (more : Following) (a b : ℕ) → has_followed more a ≡ false → has_followed more b ≡ true → (a == b) ≡ false
  apart more a b no_a is_b = not-equal a b (λ e. let p = ap (λ k. has_followed more k) e in absurd (cc (p, no_a, is_b)))

  unchanged : (q : Answer) (d : Phase) (expected : List ℕ) → Has m q expected d → n ≡ m → Has n q expected d
  unchanged q d expected has same = subst (λ (s : State). Has s q expected d) (sym same) has

  -- the response for a file: its head, and the selected bytes
  sent-whole : (w : Wanted) (a len : ℕ) (expected : List ℕ) (h : HasFile m w expected a len) (sel : Selection)
      → selected w.range len ≡ sel → expected ≡ file_text w len ++ chosen sel h.bytes
  sent-whole w a len expected h sel is =
      h.expected_is
      ∙ (ap (λ z. file_text w z ++ body_unless w.head_only (chosen (selected w.range z) h.bytes)) (sym h.count)
      ∙ (ap (λ b. file_text w len ++ body_unless b (chosen (selected w.range len) h.bytes)) h.whole
      ∙ ap (λ (z : Selection). file_text w len ++ chosen z h.bytes) is))

  pub shuts : (q : Answer) (g : ℕ) (k : FileResult) (expected : List ℕ) (r : Reply) → Has m q expected (ClosingFile g k)
      → StepsTo m (event.Call server (call.Close g)) r n → Has n q expected (after_close_file q g k r)
  shuts q g k expected r has step =
      closed m n (Has n q expected) g r (own.closes m n server g r step) (unchanged q (ClosingFile g k) expected has)
      (done q k has.1 (λ a l readable. stays (call.Close g) r step a l readable refl))
    where
      done : (q : Answer) (k : FileResult) → HasFileResult m q expected k → ((a : ℕ) (l : List ℕ)
          → readable_at m server a ≡ Some l → readable_at n server a ≡ Some l) → Has n q expected (resolved q k)
      done (serve w) (Fails status) h is_readable = h
      done (refuse status head_only close) (Fails was) h is_readable = h
      done (serve w) (TextOf a true) h is_readable = ((h.0.0, is_readable a h.0.0 h.0.1), refl, h.1)
      done (serve w) (TextOf a false) h is_readable = ((h.0.0, is_readable a h.0.0 h.0.1), refl, h.1)
      done (refuse status head_only close) (TextOf a true) h is_readable =
          ((h.0.0, is_readable a h.0.0 h.0.1), refl, h.1)
      done (refuse status head_only close) (TextOf a false) h is_readable =
          ((h.0.0, is_readable a h.0.0 h.0.1), refl, h.1)
      done (refuse status head_only close) (File a len) h is_readable = absurd h
      done (serve w) (File a len) h is_readable = cut (selected w.range len) refl (selected-within w.range len)
        where
          cut : (sel : Selection) → selected w.range len ≡ sel → LiesWithin len (selected w.range len)
              → Has n (serve w) expected (sends_of sel a len)
          cut Whole is within = record {
            bytes = h.bytes;
            is_readable = is_readable a h.bytes h.is_readable;
            count = h.count;
            expected_is = sent-whole w a len expected h Whole is;
          }
          cut (Bytes first last) is within =
              let in_file : LiesWithin len (Bytes first last) = subst (λ (z : Selection). LiesWithin len z) is within in
              record {
                bytes = h.bytes;
                is_readable = is_readable a h.bytes h.is_readable;
                some = (let le = in_file.0 in omega (arith, le));
                count = length-part h.bytes first last in_file.0 (subst (λ z. last < z) h.count in_file.1);
                expected_is = sent-whole w a len expected h (Bytes first last) is;
              }
          cut Unsatisfiable is within = (
            (h.bytes, is_readable a h.bytes h.is_readable),
            refl,
            sent-whole w a len expected h Unsatisfiable is
                ∙ ap (λ b. file_text w len ++ body_unless b unsatisfiable) (sym h.whole),
          )
      done x (Length len) h is_readable = h

  pub picks : (q : Answer) (a first to len : ℕ) (expected : List ℕ) (r : Reply)
      → Has m q expected (Slicing a first to len) → StepsTo m (event.Call server (call.AggCut a first to)) r n
      → Has n q expected (after_slice a first to len r)
  picks q a first to len expected r has step =
      made m n (Has n q expected) (slice_range has.bytes first to) r
      (own.cut m n server a first to has.bytes r order has.is_readable step)
      (unchanged q (Slicing a first to len) expected has)
      (λ x readable new. (
        (has.bytes, stays (call.AggCut a first to) r step a has.bytes has.is_readable refl),
        turned a x (new-other m a x has.bytes has.is_readable new),
        record {
          bytes = slice_range has.bytes first to;
          is_readable = readable;
          count = has.count;
          expected_is =
              has.expected_is
              ∙ ap (λ (l : List ℕ). l ++ slice_range has.bytes first to) (text-same q a x 0 (to - first) len);
        },
      ))

  pub spares : (q : Answer) (a : ℕ) (k : Payload) (expected : List ℕ) (r : Reply) → Has m q expected (DroppingWhole a k)
      → StepsTo m (event.Call server (call.AggDrop a)) r n → Has n q expected (after_drop_whole a k r)
  spares q a k expected r has step =
      dropped m n (Has n q expected) a r (own.drops m n server a r order step)
      (unchanged q (DroppingWhole a k) expected has)
      (content-on m n q expected k
      (λ b l u readable. stays (call.AggDrop a) r step b l readable
      (not-equal a b (λ e. let p = ap (λ z. content_agg k z) e in let not_a = has.1 in absurd (cc (p, not_a, u)))))
      has.2)

  -- after the head is made: the head, and the aggregate that follows it
  headed-keeps : (q : Answer) (a size : ℕ) (more : Following) (expected : List ℕ)
      → HoldsRestFrom n expected (whole a size 0 more) → Has n q expected (headed a size more)
  headed-keeps q a size None expected has = (has, refl)
  headed-keeps q a size (Some x) expected has = by (nat_le (size + x.1) MAX_AGGREGATE_BYTES) refl
    where
      by : (b : Bool) → nat_le (size + x.1) MAX_AGGREGATE_BYTES ≡ b
          → Has n q expected (if b then Joining a size x.0 x.1 else SendingWhole (whole a size 0 (Some x)))
      by true fits = (has, grind (arith, nat_tests, fits))
      by false fits = (has, refl)

  pub heads : (q : Answer) (k : Payload) (expected : List ℕ) (r : Reply) (received : List ℕ)
      → Has m q expected (MakingHead k) → StepsTo m (event.Call server (call.AggMake (text_of q k))) r n
      → Names n r received → Has n q expected (after_head k r received)
  heads q k expected r received has step names =
      made-received m n (Has n q expected) (text_of q k) received r (own.make m n server (text_of q k) r order step)
      names (unchanged q (MakingHead k) expected has) new
    where
      parts : (k : Payload) → HasContent m q expected k
          → (after : List ℕ) × MoreIsReadable m (following k) after × (text_of q k ++ after ≡ expected)
      parts (Body b size len) h = (h.bytes, (h.is_readable, h.count), sym h.expected_is)
      parts k h = ([], refl, append-nil (text_of q k) ∙ sym h)

      new : (x : ℕ) → r ≡ reply.Agg x → received ≡ text_of q k → readable_at n server x ≡ Some (text_of q k)
          → readable_at m server x ≡ None
          → Has n q expected (headed x (count_of received) (following k))
      new x is receives readable fresh =
          let p = parts k has in
          let short =
          made-short m n server x (text_of q k)
          (subst (λ z. StepsTo m (event.Call server (call.AggMake (text_of q k))) z n) is step) in
          headed-keeps q x (count_of received) (following k) expected
          (record {
            bytes = text_of q k;
            after = p.0;
            is_readable = readable;
            size = ap (λ (l : List ℕ). count_of l) receives ∙ counted (text_of q k) short;
            follows = follows (call.AggMake (text_of q k)) r step (following k) p.0 (λ a u. refl) p.1;
            next = p.2;
            apart = new-follows m (following k) p.0 x p.1 fresh;
          })

  pub joins : (q : Answer) (a size b len : ℕ) (expected : List ℕ) (r : Reply)
      → Has m q expected (Joining a size b len) → StepsTo m (event.Call server (call.AggJoin a b)) r n
      → Has n q expected (after_join a size b len r)
  joins q a size b len expected r has step =
      made m n (Has n q expected) (has.0.bytes ++ has.0.after) r
      (own.join m n server a b has.0.bytes has.0.after r order has.0.is_readable has.0.follows.0 step)
      (unchanged q (Joining a size b len) expected has)
      (λ x readable new. (
        record {
          bytes = has.0.bytes ++ has.0.after;
          after = [];
          is_readable = readable;
          size = both-long has.0.bytes has.0.after size len has.0.size has.0.follows.1;
          follows = refl;
          next = append-nil (has.0.bytes ++ has.0.after) ∙ has.0.next;
          apart = refl;
        },
        refl,
      ))

  -- the rest of a response that is being sent stays, unless the call gives up its aggregates
  abbrev rest-stays : (k : Call) (r : Reply) → StepsTo m (event.Call server k) r n → (expected : List ℕ) (s : Sending)
      → ((a : ℕ) → ((s.agg == a) || has_followed s.more a) ≡ true → gives_up (event.Call server k) server a ≡ false)
      → HoldsRestFrom m expected s → HoldsRestFrom n expected s
  rest-stays k r step expected s un h = rest-on m n expected s (λ a l u is. stays k r step a l is (un a u)) h

  -- the first k of the remaining bytes are taken
  taken-on : (expected : List ℕ) (s : Sending) (k : ℕ) (h : HoldsRestFrom n expected s)
      → k ≤ length (drop s.from h.bytes) → HoldsRestFrom n expected (after_taking s k)
  taken-on expected s k h within = record {
    bytes = h.bytes;
    after = h.after;
    is_readable = h.is_readable;
    size = h.size;
    follows = h.follows;
    next =
        subst (λ z. drop (s.from + z) h.bytes ++ h.after ≡ drop (s.taken + z) expected)
        (sym (least-taken k s.from s.len h.bytes h.size within))
        (ap (λ (l : List ℕ). l ++ h.after) (sym (drop-drop k s.from h.bytes))
        ∙ next-rest k s.taken (drop s.from h.bytes) h.after expected h.next within);
    apart = h.apart;
  }

  -- the next phase cuts a piece, or drops the aggregate if no bytes of it are left
  next-has : (q : Answer) (expected : List ℕ) (s : Sending) → HoldsRestFrom n expected s
      → Has n q expected (next_piece s)
  next-has q expected s h = cases (nat_lt s.from s.len) refl
    where
      cases : (b : Bool) → nat_lt s.from s.len ≡ b
          → Has n q expected (if b then CuttingPiece s else DroppingSent s.agg s.taken s.more)
      cases true part = (h, grind (arith, nat_tests, part))
      cases false all = record {
        bytes = h.bytes;
        after = h.after;
        is_readable = h.is_readable;
        follows = h.follows;
        next = none-left h.bytes h.after s.from s.len h.size all ∙ h.next;
        apart = h.apart;
      }

  unsent : (expected : List ℕ) (s : Sending) → HoldsRestFrom m expected s → HoldsUnsent m s.agg s.more
  unsent expected s h =
      record { after = h.after; readable = (h.bytes, h.is_readable); follows = h.follows; apart = h.apart }

  pub sends : (q : Answer) (fd c : ℕ) (s : Sending) (expected : List ℕ) (r : Reply)
      → descriptor m server fd ≡ Some (on.Connection c) → Has m q expected (SendingWhole s)
      → StepsTo m (event.Call server (call.IolWrite fd s.agg)) r n → Has n q expected (after_send s r)
  sends q fd c s expected r open_on has step =
      written m n (Has n q expected) c has.0.bytes r
      (own.write_conn m n server fd c s.agg has.0.bytes r order open_on has.0.is_readable step)
      (unchanged q (SendingWhole s) expected has)
      (unchanged q (Aborting s.agg s.more) expected (unsent expected s has.0))
      (λ k puts. next-has q expected (after_taking s k)
      (taken-on expected s k
      (rest-stays (call.IolWrite fd s.agg) r step expected s (λ a u. refl) has.0)
      (few-whole k s has.0.bytes has.1 puts.within)))

  pub cuts : (q : Answer) (s : Sending) (expected : List ℕ) (r : Reply) → Has m q expected (CuttingPiece s)
      → StepsTo m (event.Call server (call.AggCut s.agg s.from (piece_end s))) r n
      → Has n q expected (after_cut s r)
  cuts q s expected r has step =
      made m n (Has n q expected) (slice_range has.0.bytes s.from (piece_end s)) r
      (own.cut m n server s.agg s.from (piece_end s) has.0.bytes r order has.0.is_readable step)
      (unchanged q (CuttingPiece s) expected has)
      (λ x readable new. record {
        whole = rest-stays (call.AggCut s.agg s.from (piece_end s)) r step expected s (λ a u. refl) has.0;
        some = has.1;
        is_readable = readable;
        other = or_from (s.agg == x) (has_followed s.more x) (new-other m s.agg x has.0.bytes has.0.is_readable new)
            (new-follows m s.more has.0.after x has.0.follows new);
      })

  pub offers_piece : (q : Answer) (fd c : ℕ) (s : Sending) (piece : ℕ) (expected : List ℕ) (r : Reply)
      → descriptor m server fd ≡ Some (on.Connection c) → Has m q expected (SendingPiece s piece)
      → StepsTo m (event.Call server (call.IolWrite fd piece)) r n → Has n q expected (after_offer s piece r)
  offers_piece q fd c s piece expected r open_on has step =
      written m n (Has n q expected) c bytes r
      (own.write_conn m n server fd c piece bytes r order open_on has.is_readable step)
      (unchanged q (SendingPiece s piece) expected has)
      (unchanged q (AbortingPiece piece s.agg s.more) expected
      ((bytes, has.is_readable), has.other, unsent expected s has.whole))
      (λ k puts. (
        (bytes, stays (call.IolWrite fd piece) r step piece bytes has.is_readable refl),
        has.other,
        taken-on expected s k
            (rest-stays (call.IolWrite fd piece) r step expected s (λ a u. refl) has.whole)
            (few-taken k s has.whole.bytes puts.within),
      ))
    where
      bytes : List ℕ
      bytes = slice_range has.whole.bytes s.from (piece_end s)

  pub swaps : (q : Answer) (s : Sending) (piece : ℕ) (expected : List ℕ) (r : Reply)
      → Has m q expected (DroppingPiece s piece)
      → StepsTo m (event.Call server (call.AggDrop piece)) r n → Has n q expected (after_swap s piece r)
  swaps q s piece expected r has step =
      dropped m n (Has n q expected) piece r (own.drops m n server piece r order step)
      (unchanged q (DroppingPiece s piece) expected has)
      (next-has q expected s
      (rest-stays (call.AggDrop piece) r step expected s
      (λ b u. not-equal piece b
      (λ e. let p = ap (λ z. (s.agg == z) || has_followed s.more z) e in let not_piece = has.1 in
      absurd (cc (p, not_piece, u)))) has.2))

  pub breaks : (q : Answer) (piece a : ℕ) (more : Following) (expected : List ℕ) (r : Reply)
      → Has m q expected (AbortingPiece piece a more) → StepsTo m (event.Call server (call.AggDrop piece)) r n
      → Has n q expected (after_break piece a more r)
  breaks q piece a more expected r has step =
      let both = or_parts (a == piece) (has_followed more piece) has.1 in
      dropped m n (Has n q expected) piece r (own.drops m n server piece r order step)
      (unchanged q (AbortingPiece piece a more) expected has)
      (record {
        after = has.2.after;
        readable = (
          has.2.readable.0,
          stays (call.AggDrop piece) r step a has.2.readable.0 has.2.readable.1
              (turned a piece both.0),
        );
        follows =
            follows (call.AggDrop piece) r step more has.2.after (λ b u. apart more piece b both.1 u) has.2.follows;
        apart = has.2.apart;
      })

  pub sent_all : (q : Answer) (a taken : ℕ) (more : Following) (expected : List ℕ) (r : Reply)
      → Has m q expected (DroppingSent a taken more) → StepsTo m (event.Call server (call.AggDrop a)) r n
      → Has n q expected (after_taken q a taken more r)
  sent_all q a taken more expected r has step =
      dropped m n (Has n q expected) a r (own.drops m n server a r order step)
      (unchanged q (DroppingSent a taken more) expected has)
      (after more has.after (follows (call.AggDrop a) r step more has.after (λ b u. apart more a b has.apart u)
      has.follows) has.next)
    where
      after : (more : Following) (rest : List ℕ) → MoreIsReadable n more rest → rest ≡ drop taken expected
          → Has n q expected (proceeds q taken more)
      after (Some x) rest is_readable next = (
        record {
          bytes = rest;
          after = [];
          is_readable = is_readable.0;
          size = is_readable.1;
          follows = refl;
          next = append-nil rest ∙ next;
          apart = refl;
        },
        refl,
      )
      after None rest is_readable next = either-way (λ (e : Phase). Has n q expected e) (keeps q) tt tt

  pub drops : (q : Answer) (a : ℕ) (more : Following) (expected : List ℕ) (r : Reply)
      → Has m q expected (Aborting a more) → StepsTo m (event.Call server (call.AggDrop a)) r n
      → Has n q expected (after_drop a more r)
  drops q a more expected r has step =
      dropped m n (Has n q expected) a r (own.drops m n server a r order step)
      (unchanged q (Aborting a more) expected has)
      (next more has.after (follows (call.AggDrop a) r step more has.after (λ b u. apart more a b has.apart u)
      has.follows))
    where
      next : (more : Following) (after : List ℕ) → MoreIsReadable n more after → Has n q expected (drops_next more)
      next None after is_readable = tt
      next (Some x) after is_readable = record {
        after = [];
        readable = (after, is_readable.0);
        follows = refl;
        apart = refl;
      }

  rests : (buffered : List ℕ) (q : Answer) (expected : List ℕ) (r : Reply) (received : List ℕ) → Names n r received
      → Has n q expected (after_receive buffered q r received).phase
  rests buffered q expected (reply.Agg a) [] names =
      record { after = []; readable = ([], names); follows = refl; apart = refl }
  rests buffered q expected (reply.Agg a) (b ∷ l) names = (b ∷ l, names)
  rests buffered q expected r received names = tt

  -- every phase except those that open or read a file, or close the connection
  pub phase : (buffered : List ℕ) (fd c : ℕ) (q : Answer) (d : Phase) (expected : List ℕ) (r : Reply)
      (received : List ℕ)
      → descriptor m server fd ≡ Some (on.Connection c)
      → is_opening d ≡ false → is_closing d ≡ false → Has m q expected d
      → StepsTo m (event.Call server (next_call fd (at buffered q d))) r n
      → Names n r received → Has n q expected (after_reply (at buffered q d) r received).phase
  phase buffered fd c q Receiving expected r received open_on read busy has step names =
      rests buffered q expected r received names
  phase buffered fd c q (DroppingInput a) expected r received open_on read busy has step names =
      dropped m n (Has n q expected) a r (own.drops m n server a r order step)
      (unchanged q (DroppingInput a) expected has) tt
  phase buffered fd c q (ClosingFile f k) expected r received open_on read busy has step names =
      shuts q f k expected r has step
  phase buffered fd c q (Slicing a first last len) expected r received open_on read busy has step names =
      picks q a first last len expected r has step
  phase buffered fd c q (DroppingWhole a k) expected r received open_on read busy has step names =
      spares q a k expected r has step
  phase buffered fd c q (MakingHead k) expected r received open_on read busy has step names =
      heads q k expected r received has step names
  phase buffered fd c q (Joining a size body len) expected r received open_on read busy has step names =
      joins q a size body len expected r has step
  phase buffered fd c q (SendingWhole s) expected r received open_on read busy has step names =
      sends q fd c s expected r open_on has step
  phase buffered fd c q (CuttingPiece s) expected r received open_on read busy has step names =
      cuts q s expected r has step
  phase buffered fd c q (SendingPiece s piece) expected r received open_on read busy has step names =
      offers_piece q fd c s piece expected r open_on has step
  phase buffered fd c q (DroppingPiece s piece) expected r received open_on read busy has step names =
      swaps q s piece expected r has step
  phase buffered fd c q (DroppingSent a taken more) expected r received open_on read busy has step names =
      sent_all q a taken more expected r has step
  phase buffered fd c q (AbortingPiece piece a more) expected r received open_on read busy has step names =
      breaks q piece a more expected r has step
  phase buffered fd c q (Aborting a more) expected r received open_on read busy has step names =
      drops q a more expected r has step
  phase buffered fd c q Disconnecting expected r received open_on read busy has step names = absurd (cc (busy))
  phase buffered fd c q Closed expected r received open_on read busy has step names = absurd (cc (busy))
  phase buffered fd c q x expected r received open_on read busy has step names = absurd (cc (read))
