-- The part of a file's response that counts as taken, the time at which it is aborted, and the last call of a
-- connection.
use Rattle.std.proofs.Common.{◌≡◌, ℕ, ◌+◌, ◌-◌, ◌==◌, ◌≤◌, List, [], ◌∷◌, length, ap, ◌∙◌, refl, sym, arith, Some, None}
use Rattle.std.proofs.Common.{true, false, Bool, if◌then◌else◌}
use Rattle.std.specs.Prelude.{nat_le, slice_range, drop}
use Rattle.iol_core.specs.State.{State, descriptor, is_live, is_gone, conn_at}
use Rattle.iol_core.specs.Run.{StepsTo}
use Rattle.iol_core.specs.declared.limits.TheConstants.{MAX_AGGREGATE_BYTES}
use Rattle.iol_core.specs.declared.descriptors.Descriptor.TheVariants as on
use Rattle.iol_core.specs.declared.refusals.Refusal.TheVariants as no
use Rattle.iol_core.specs.declared.events.Call.TheVariants as call
use Rattle.iol_core.specs.declared.events.Event.TheVariants as event
use Rattle.iol_core.specs.declared.events.Reply.{Reply}
use Rattle.iol_core.specs.declared.events.Reply.TheVariants as reply
use Rattle.iol_laws.specs.Caller as caller
use Rattle.iol_laws.specs.Caller.{CallsServeTheirDomain}
use Rattle.iol_laws.specs.Order.{IsOrderly}
use Rattle.iol_laws.specs.Reasons.{RefusalsTellWhy}
use Rattle.iol_laws.specs.RefusalsLeft.{RefusalsThatAreLeft}
use Rattle.iol_laws.proofs.Streams.Remains.{closed-then}
use Rattle.flash_http.specs.declared.ranges.Selection.{Selection}
use Rattle.flash_http.specs.declared.ranges.Selection.TheVariants.{Bytes}
use Rattle.flash_http.specs.Range.{selected}
use Rattle.flash_http.specs.Request.{Answer, serve, refuse}
use Rattle.flash_laws.specs.Answers.{keeps}
use Rattle.flash_laws.specs.Conn.{Following, is_head_only, most_buffered, piece_end, count_of, next_call, sends_of}
use Rattle.flash_laws.specs.Conn.{resolved, following, headed, after_receive, after_send, after_cut, after_offer}
use Rattle.flash_laws.specs.Conn.{after_swap, after_taken, after_taking, next_piece, after_reply}
use Rattle.flash_laws.specs.Conn.Fits.{Has, HoldsRestFrom}
use Rattle.flash_laws.specs.Conn.Progress.{is_busy}
use Rattle.flash_laws.specs.Conn.OfferedBytes.{taken_of, newly_taken, is_dropping}
use Rattle.flash_laws.specs.Site.{server}
use Rattle.flash_laws.specs.declared.phase.FileResult.{FileResult}
use Rattle.flash_laws.specs.declared.phase.FileResult.TheVariants.{File}
use Rattle.flash_laws.specs.declared.phase.Sending.{Sending}
use Rattle.flash_laws.specs.declared.phase.Phase.{Phase}
use Rattle.flash_laws.specs.declared.phase.Phase.TheVariants.{Receiving, DroppingInput, Opening, Reading as Reading}
use Rattle.flash_laws.specs.declared.phase.Phase.TheVariants.{ClosingFile, Slicing, DroppingWhole}
use Rattle.flash_laws.specs.declared.phase.Phase.TheVariants.{MakingHead, Joining, SendingWhole, CuttingPiece}
use Rattle.flash_laws.specs.declared.phase.Phase.TheVariants.{SendingPiece, DroppingPiece, DroppingSent, AbortingPiece}
use Rattle.flash_laws.specs.declared.phase.Phase.TheVariants.{Aborting, Disconnecting, Closed}
use Rattle.flash_laws.proofs.Forms.{at}
use Rattle.flash_laws.proofs.Lists.{clash, self, few-taken, least-taken, few-whole}
use Rattle.iol_core.specs.declared.events.Call.{Call}
use Rattle.flash_laws.proofs.Moves.{after-done, after-agg, after-open, after-read, either-way, either-next, either-of}

-- ---- before anything is sent nothing is taken

-- a phase in which nothing of the response is taken, nor dropped
abbrev IsBegun : Phase → Type 0
IsBegun d = (taken_of d ≡ 0) × (is_dropping d ≡ false)

abbrev is_begun : Phase → Bool
is_begun (DroppingInput a) = true
is_begun Opening = true
is_begun (Reading f) = true
is_begun (ClosingFile f k) = true
is_begun (Slicing a first last len) = true
is_begun (DroppingWhole a k) = true
is_begun (MakingHead k) = true
is_begun (Joining a size body len) = true
is_begun Disconnecting = true
is_begun Closed = true
is_begun d = false

resolved-begun : (q : Answer) (k : FileResult) → IsBegun (resolved q k)
resolved-begun (serve w) (File a len) = by (selected w.range len)
  where
    by : (sel : Selection) → IsBegun (sends_of sel a len)
    by (Bytes first last) = (refl, refl)
    by x = (refl, refl)
resolved-begun (refuse status head_only close) (File a len) = (refl, refl)
resolved-begun q k = (refl, refl)

headed-begun : (a size : ℕ) (more : Following) → IsBegun (headed a size more)
headed-begun a size None = (refl, refl)
headed-begun a size (Some x) =
    either-way (λ (e : Phase). IsBegun e) (nat_le (size + x.1) MAX_AGGREGATE_BYTES) (refl, refl) (refl, refl)

begun : (buffered : List ℕ) (q : Answer) (d : Phase) (r : Reply) (received : List ℕ) → is_begun d ≡ true
    → IsBegun (after_reply (at buffered q d) r received).phase
begun buffered q (DroppingInput a) r received is = after-done IsBegun r (refl, refl) (refl, refl)
begun buffered q Opening r received is = after-open IsBegun r (refl, refl) (λ f. (refl, refl)) (λ x. (refl, refl))
begun buffered q (Reading f) r received is =
    after-read IsBegun r (refl, refl) (λ k. (refl, refl)) (λ k. (refl, refl)) (λ x. (refl, refl))
begun buffered q (ClosingFile f k) r received is = after-done IsBegun r (refl, refl) (resolved-begun q k)
begun buffered q (Slicing a first last len) r received is = after-agg IsBegun r (refl, refl) (λ k. (refl, refl))
begun buffered q (DroppingWhole a k) r received is = after-done IsBegun r (refl, refl) (refl, refl)
begun buffered q (MakingHead k) r received is =
    after-agg IsBegun r (refl, refl) (λ a. headed-begun a (count_of received) (following k))
begun buffered q (Joining a size body len) r received is = after-agg IsBegun r (refl, refl) (λ k. (refl, refl))
begun buffered q Disconnecting r received is = after-done IsBegun r (refl, refl) (refl, refl)
begun buffered q Closed r received is = (refl, refl)
begun buffered q d r received is = absurd (cc (is))

none-taken : (d : Phase) → is_begun d ≡ true → taken_of d ≡ 0
none-taken (SendingWhole s) is = absurd (cc (is))
none-taken (CuttingPiece s) is = absurd (cc (is))
none-taken (SendingPiece s piece) is = absurd (cc (is))
none-taken (DroppingPiece s piece) is = absurd (cc (is))
none-taken (DroppingSent a taken more) is = absurd (cc (is))
none-taken d is = refl

none-newly : (fd : ℕ) (buffered : List ℕ) (q : Answer) (d : Phase) (r : Reply) → is_begun d ≡ true
    → newly_taken fd (next_call fd (at buffered q d)) r ≡ 0
none-newly fd buffered q (SendingWhole s) r is = absurd (cc (is))
none-newly fd buffered q (SendingPiece s piece) r is = absurd (cc (is))
none-newly fd buffered q (Reading f) r is = either-way (λ (k : Call). newly_taken fd k r ≡ 0) (is_head_only q) refl refl
none-newly fd buffered q d r is = refl

-- ---- the bytes that count as taken

all-newly : (fd k : ℕ) → (if fd == fd then k else 0) ≡ k
all-newly fd k = ap (λ b. if b then k else 0) (self fd)

next-taken : (s : Sending) → taken_of (next_piece s) ≡ s.taken
next-taken s = either-next (λ (e : Phase). taken_of e ≡ s.taken) s refl refl

module _ (own : CallsServeTheirDomain) (m n : State) (order : IsOrderly m) (fd c : ℕ)
    (open_on : descriptor m server fd ≡ Some (on.Connection c)) (q : Answer) (expected : List ℕ) where
  counts : (s : Sending) (k : ℕ) (h : HoldsRestFrom m expected s) → k ≤ length (drop s.from h.bytes)
      → (after_taking s k).taken ≡ s.taken + (if fd == fd then k else 0)
  counts s k h within = ap (λ z. s.taken + z) (least-taken k s.from s.len h.bytes h.size within ∙ sym (all-newly fd k))

  sends : (s : Sending) (r : Reply) → Has m q expected (SendingWhole s)
      → StepsTo m (event.Call server (call.IolWrite fd s.agg)) r n
      → is_dropping (after_send s r) ≡ false
      → taken_of (after_send s r) ≡ s.taken + newly_taken fd (call.IolWrite fd s.agg) r
  sends s r has step on =
      by r (own.write_conn m n server fd c s.agg has.0.bytes r order open_on has.0.is_readable step) on
    where
      by : (r : Reply) → caller.WritesConn m c has.0.bytes r n → is_dropping (after_send s r) ≡ false
          → taken_of (after_send s r) ≡ s.taken + newly_taken fd (call.IolWrite fd s.agg) r
      by (reply.Count k) puts on =
          next-taken (after_taking s k) ∙ counts s k has.0 (few-whole k s has.0.bytes has.1 puts.within)
      by (reply.Refused no.BrokenPipe) did on = absurd (cc (on))
      by (reply.Refused y) did on = omega arith
      by r did on = absurd did

  offers : (s : Sending) (piece : ℕ) (r : Reply)
      → Has m q expected (SendingPiece s piece)
      → StepsTo m (event.Call server (call.IolWrite fd piece)) r n
      → is_dropping (after_offer s piece r) ≡ false
      → taken_of (after_offer s piece r) ≡ s.taken + newly_taken fd (call.IolWrite fd piece) r
  offers s piece r has step on =
      by r (own.write_conn m n server fd c piece (slice_range has.whole.bytes s.from (piece_end s)) r order open_on
      has.is_readable step) on
    where
      by : (r : Reply) → caller.WritesConn m c (slice_range has.whole.bytes s.from (piece_end s)) r n
          → is_dropping (after_offer s piece r) ≡ false
          → taken_of (after_offer s piece r) ≡ s.taken + newly_taken fd (call.IolWrite fd piece) r
      by (reply.Count k) puts on = counts s k has.whole (few-taken k s has.whole.bytes puts.within)
      by (reply.Refused no.BrokenPipe) did on = absurd (cc (on))
      by (reply.Refused y) did on = omega arith
      by r did on = absurd did

  swaps : (s : Sending) (piece : ℕ) (r : Reply)
      → taken_of (after_swap s piece r) ≡ s.taken + newly_taken fd (call.AggDrop piece) r
  swaps s piece reply.Done = let e = next-taken s in omega (arith, e)
  swaps s piece r = omega arith

  cuts : (s : Sending) (r : Reply)
      → taken_of (after_cut s r) ≡ s.taken + newly_taken fd (call.AggCut s.agg s.from (piece_end s)) r
  cuts s (reply.Agg k) = omega arith
  cuts s r = omega arith

  sent : (a taken : ℕ) (more : Following) (r : Reply) → is_busy (after_taken q a taken more r) ≡ true
      → taken_of (after_taken q a taken more r) ≡ taken + newly_taken fd (call.AggDrop a) r
  sent a taken (Some x) reply.Done busy = omega arith
  sent a taken None reply.Done busy =
      absurd (either-of (λ (e : Phase). is_busy e ≡ true → ⊥) (keeps q) Receiving Disconnecting (λ busy. cc (busy))
      (λ busy. cc (busy)) busy)
  sent a taken more r busy = omega arith

  rests : (buffered : List ℕ) (r : Reply) (received : List ℕ)
      → is_dropping (after_receive buffered q r received).phase ≡ false
      → is_busy (after_receive buffered q r received).phase ≡ true
      → taken_of (after_receive buffered q r received).phase
      ≡ newly_taken fd (call.IolRead fd (most_buffered - length buffered)) r
  rests buffered (reply.Agg k) [] on busy = absurd (cc (on))
  rests buffered (reply.Agg k) (b ∷ received) on busy = refl
  rests buffered r received on busy = absurd (cc (busy))

  pub takes : (buffered : List ℕ) (d : Phase) (r : Reply) (received : List ℕ) → Has m q expected d
      → StepsTo m (event.Call server (next_call fd (at buffered q d))) r n → is_dropping d ≡ false
      → is_dropping (after_reply (at buffered q d) r received).phase ≡ false
      → is_busy (after_reply (at buffered q d) r received).phase ≡ true
      → taken_of (after_reply (at buffered q d) r received).phase ≡ taken_of d + newly_taken fd
      (next_call fd (at buffered q d)) r
  takes buffered d r received has step at_is on busy = by (is_begun d) refl
    where
      by : (b : Bool) → is_begun d ≡ b
          → taken_of (after_reply (at buffered q d) r received).phase ≡ taken_of d + newly_taken fd
          (next_call fd (at buffered q d))
          r
      by true is =
          let new = (begun buffered q d r received is).0 in
          let was = none-taken d is in
          let none = none-newly fd buffered q d r is in
          omega (arith, new, was, none)
      by false is = sending d has step at_is on busy is
        where
          sending : (d : Phase) → Has m q expected d
              → StepsTo m (event.Call server (next_call fd (at buffered q d))) r n
              → is_dropping d ≡ false
              → is_dropping (after_reply (at buffered q d) r received).phase ≡ false
              → is_busy (after_reply (at buffered q d) r received).phase ≡ true → is_begun d ≡ false
              → taken_of (after_reply (at buffered q d) r received).phase ≡ taken_of d + newly_taken fd
              (next_call fd (at buffered q d)) r
          sending Receiving has step at_is on busy is = (let e = rests buffered r received on busy in omega (arith, e))
          sending (SendingWhole s) has step at_is on busy is = sends s r has step on
          sending (CuttingPiece s) has step at_is on busy is = cuts s r
          sending (SendingPiece s piece) has step at_is on busy is = offers s piece r has step on
          sending (DroppingPiece s piece) has step at_is on busy is = swaps s piece r
          sending (DroppingSent a taken more) has step at_is on busy is = sent a taken more r busy
          sending (AbortingPiece piece a more) has step at_is on busy is = absurd (cc (at_is))
          sending (Aborting a more) has step at_is on busy is = absurd (cc (at_is))
          sending d has step at_is on busy is = absurd (cc (is))

-- ---- aborted responses

abbrev Kept : Phase → Type 0
Kept d = is_dropping d ≡ false

next-not-dropped : (s : Sending) → Kept (next_piece s)
next-not-dropped s = either-next Kept s refl refl

never : {A : Type 0} (d : Phase) → is_dropping d ≡ true → Kept d → A
never d off buffered = absurd (clash (is_dropping d) off buffered)

module _ (why : RefusalsTellWhy) (m n : State) (fd c : ℕ) (open_on : descriptor m server fd ≡ Some (on.Connection c))
    (buffered : List ℕ) (q : Answer) (received : List ℕ) where
  pub breaks : (d : Phase) (r : Reply) → is_busy d ≡ true
      → StepsTo m (event.Call server (next_call fd (at buffered q d))) r n
      → is_dropping d ≡ false
      → is_dropping (after_reply (at buffered q d) r received).phase ≡ true → is_gone (conn_at m c).peer ≡ true
  breaks (SendingWhole s) (reply.Refused no.BrokenPipe) busy step at_is off =
      why.peer_is_gone m n server fd c s.agg open_on step
  breaks (SendingWhole s) (reply.Count k) busy step at_is off = never _ off (next-not-dropped (after_taking s k))
  breaks (SendingWhole s) r busy step at_is off = absurd (cc (off))
  breaks (SendingPiece s piece) (reply.Refused no.BrokenPipe) busy step at_is off =
      why.peer_is_gone m n server fd c piece open_on step
  breaks (SendingPiece s piece) (reply.Count k) busy step at_is off = absurd (cc (off))
  breaks (SendingPiece s piece) r busy step at_is off = absurd (cc (off))
  breaks (CuttingPiece s) r busy step at_is off = never _ off (after-agg Kept r refl (λ k. refl))
  breaks (DroppingPiece s piece) r busy step at_is off = never _ off (after-done Kept r refl (next-not-dropped s))
  breaks (DroppingSent a taken (Some x)) r busy step at_is off = never _ off (after-done Kept r refl refl)
  breaks (DroppingSent a taken None) r busy step at_is off =
      never _ off (after-done Kept r refl (either-way Kept (keeps q) refl refl))
  breaks (AbortingPiece piece a more) r busy step at_is off = absurd (cc (at_is))
  breaks (Aborting a more) r busy step at_is off = absurd (cc (at_is))
  breaks Receiving r busy step at_is off = absurd (cc (busy))
  breaks d r busy step at_is off = absurd (begun-on d (begun buffered q d r received refl) off)
    where
      begun-on : (d : Phase) → IsBegun (after_reply (at buffered q d) r received).phase
          → is_dropping (after_reply (at buffered q d) r received).phase ≡ true → ⊥
      begun-on d is off = clash (is_dropping (after_reply (at buffered q d) r received).phase) off is.1

-- ---- the last call

pub closes : CallsServeTheirDomain → RefusalsThatAreLeft
    → (m n : State) (fd c : ℕ) (buffered : List ℕ) (q : Answer) (d : Phase) (r : Reply) (received : List ℕ)
    → IsOrderly m
    → is_live m server ≡ true
    → descriptor m server fd ≡ Some (on.Connection c) → d ≡ Disconnecting
    → StepsTo m (event.Call server (next_call fd (at buffered q d))) r n
    → (r ≡ reply.Done) × ((after_reply (at buffered q d) r received).phase ≡ Closed) × ((conn_at n c).closed ≡ true)
closes own may m n fd c buffered q Disconnecting r received order lives open_on is step =
    by r (own.closes_conn m n server fd c r order open_on step) step
  where
    by : (r : Reply) → caller.ClosesConn m c r n → StepsTo m (event.Call server (call.Close fd)) r n
        → (r ≡ reply.Done) × ((after_reply (at buffered q Disconnecting) r received).phase ≡ Closed)
        × ((conn_at n c).closed ≡ true)
    by reply.Done did step = (refl, refl, (closed-then m n c did).0)
    by (reply.Refused z) did step = absurd (may.closes m n server fd (on.Connection c) z lives open_on step)
    by r did step = absurd did
closes own may m n fd c buffered q d r received order lives open_on is step = absurd (cc (is))
