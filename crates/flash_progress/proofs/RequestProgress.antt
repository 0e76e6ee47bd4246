-- Each call for a connection of files that is not retried later decreases the measure of the connection.
use Rattle.std.proofs.Common.{inl, inr, ◌≡◌, ℕ, suc, ◌+◌, ◌*◌, ◌-◌, ◌<◌, ◌≤◌, List, [], ◌∷◌, ◌++◌, length, ap, ◌∙◌}
use Rattle.std.proofs.Common.{refl, sym, subst, arith, Some, None, true, false, Bool, length-append, length-drop}
use Rattle.std.proofs.Common.{if◌then◌else◌}
use Rattle.std.specs.Prelude.{nat_le, slice_range}
use Rattle.std.proofs.Math.Nat.{mul-le-mul_left}
use Rattle.iol_core.specs.State.{State, Connection, descriptor, is_live, conn_at}
use Rattle.iol_core.specs.Text.{Text, bytes_of}
use Rattle.iol_core.specs.Run.{StepsTo}
use Rattle.iol_core.specs.declared.limits.TheConstants.{MAX_AGGREGATE_BYTES}
use Rattle.iol_core.specs.declared.descriptors.Descriptor.TheVariants as on
use Rattle.iol_core.specs.declared.refusals.Refusal.{Refusal}
use Rattle.iol_core.specs.declared.refusals.Refusal.TheVariants as no
use Rattle.iol_core.specs.declared.events.Call.TheVariants as call
use Rattle.iol_core.specs.declared.events.Event.TheVariants as event
use Rattle.iol_core.specs.declared.events.Reply.{Reply}
use Rattle.iol_core.specs.declared.events.Reply.TheVariants as reply
use Rattle.iol_laws.specs.Caller as o
use Rattle.iol_laws.specs.Caller.{CallsServeTheirDomain}
use Rattle.iol_laws.specs.Order.{IsOrderly}
use Rattle.iol_laws.specs.Reasons.{IsHidden, RefusalsTellWhy}
use Rattle.iol_laws.specs.RefusalsLeft.{RefusalsThatAreLeft, LacksNumbersOrHasNothingToRead}
use Rattle.flash_http.specs.declared.windows.Window.{Window}
use Rattle.flash_http.specs.declared.windows.Window.TheVariants.{Wait, Head, TooLarge}
use Rattle.flash_http.specs.declared.ranges.Selection.{Selection}
use Rattle.flash_http.specs.declared.ranges.Selection.TheVariants.{Bytes}
use Rattle.flash_http.specs.Range.{selected}
use Rattle.flash_http.specs.Window.{window_in, FitsIn}
use Rattle.flash_http.specs.Request.{Answer, serve, refuse}
use Rattle.flash_laws.specs.Answers.{keeps, Next, NextIn}
use Rattle.flash_laws.specs.Conn.{Conn, Following, Readies, begins, most_buffered, text_of, next_call, sends_of}
use Rattle.flash_laws.specs.Conn.{count_of}
use Rattle.flash_laws.specs.Conn.{following, headed, proceeds, resolved, after_open, after_read, after_close_file}
use Rattle.flash_laws.specs.Conn.{after_receive, after_disconnect, after_break, after_drop, after_taking, after_reply}
use Rattle.flash_laws.specs.Conn.Fits.{Has, HasContent, Names, is_closing}
use Rattle.flash_laws.specs.Conn.Policy.{is_later}
use Rattle.flash_laws.specs.Conn.Progress.{Nears, CanMake, is_busy}
use Rattle.flash_laws.specs.Site.{server}
use Rattle.flash_laws.specs.declared.phase.FileResult.{FileResult}
use Rattle.flash_laws.specs.declared.phase.FileResult.TheVariants.{File}
use Rattle.flash_laws.specs.declared.phase.Payload.{Payload}
use Rattle.flash_laws.specs.declared.phase.Payload.TheVariants.{Body, Error}
use Rattle.flash_laws.specs.declared.phase.Phase.{Phase}
use Rattle.flash_laws.specs.declared.phase.Phase.TheVariants.{Receiving, DroppingInput, Opening, Reading as Reading}
use Rattle.flash_laws.specs.declared.phase.Phase.TheVariants.{ClosingFile, Slicing, DroppingWhole}
use Rattle.flash_laws.specs.declared.phase.Phase.TheVariants.{MakingHead, Joining, SendingWhole, CuttingPiece}
use Rattle.flash_laws.specs.declared.phase.Phase.TheVariants.{SendingPiece, DroppingPiece, DroppingSent, AbortingPiece}
use Rattle.flash_laws.specs.declared.phase.Phase.TheVariants.{Aborting, Disconnecting, Closed}
use Rattle.flash_laws.proofs.Forms.{at}
use Rattle.flash_laws.proofs.Lists.{clash}
use Rattle.flash_laws.proofs.Conn.Progress.{near, rank, stage, calls_left, head_calls, ready}
use Rattle.flash_laws.proofs.Conn.ReadableBytes.{text-same}
use Rattle.flash_laws.proofs.Conn.Responses.{WindowLaws, some-inj}
use Rattle.std.proofs.lemmas.List.{length-map}
use Rattle.flash_progress.proofs.Measure.{request_turns, ahead, reads_on, buffered_turns, unread_turns, turns_left}
use Rattle.flash_laws.proofs.Moves.{either-way, either-next}

-- ---- texts that are made are no longer than the response

-- whether a response is about to be made
abbrev is_made : Phase → Bool
is_made (Slicing a from to len) = true
is_made (DroppingWhole a k) = true
is_made (MakingHead k) = true
is_made d = false

content-short : (m : State) (q : Answer) (expected : List ℕ) (k : Payload) → HasContent m q expected k
    → head_calls q k ≤ 3 * length expected + 7
content-short m q expected (Body a size len) has =
    let e = ap (λ (l : List ℕ). length l) has.expected_is in
    let both = length-append (text_of q (Body a size len)) has.bytes in
    let size = has.count in
    omega (arith, e, both, size)
content-short m q expected k has = let e = ap (λ (l : List ℕ). length l) has in omega (arith, e)

pub made-short : (m : State) (q : Answer) (expected : List ℕ) (longest : ℕ) (d : Phase) → is_made d ≡ true
    → Has m q expected d → length expected ≤ longest
    → ahead longest q d ≤ 3 * longest + 15
made-short m q expected longest (Slicing a from to len) is has short =
    let e = ap (λ (l : List ℕ). length l) has.expected_is in
    let both = length-append (text_of q (Body a 0 len)) (slice_range has.bytes from to) in
    let size = has.count in
    let same = ap (λ (l : List ℕ). length l) (text-same q a a (to - from) 0 len) in
    omega (arith, e, both, size, same, short)
made-short m q expected longest (DroppingWhole a k) is has short = let few = content-short m q expected k has.2 in
    omega (arith, few, short)
made-short m q expected longest (MakingHead k) is has short = let few = content-short m q expected k has in
    omega (arith, few, short)
made-short m q expected longest d is has short = absurd (cc (is))

resolved-made : (q : Answer) (k : FileResult) → is_made (resolved q k) ≡ true
resolved-made (serve w) (File a len) = by (selected w.range len)
  where
    by : (sel : Selection) → is_made (sends_of sel a len) ≡ true
    by (Bytes first last) = refl
    by x = refl
resolved-made (refuse status head_only close) (File a len) = refl
resolved-made q k = refl

-- ---- a request in progress

-- whether its file is still to be opened, read or closed
abbrev is_early : Phase → Bool
is_early Opening = true
is_early (Reading f) = true
is_early (ClosingFile f k) = true
is_early d = false

-- whether a response is being made or sent and is not aborted, or received input is being dropped
abbrev is_answering : Phase → Bool
is_answering Receiving = false
is_answering Opening = false
is_answering (Reading f) = false
is_answering (ClosingFile f k) = false
is_answering (AbortingPiece piece a more) = false
is_answering (Aborting a more) = false
is_answering Disconnecting = false
is_answering Closed = false
is_answering d = true

pub few-drops : (q : Answer) (a : ℕ) (more : Following) → calls_left q (Aborting a more) ≤ 2
few-drops q a None = omega arith
few-drops q a (Some x) = omega arith

ahead-most : (longest : ℕ) (q : Answer) (e : Phase) → is_early e ≡ false → ahead longest q e ≤ calls_left q e + 6
ahead-most longest q Opening late = absurd (cc (late))
ahead-most longest q (Reading g) late = absurd (cc (late))
ahead-most longest q (ClosingFile g k) late = absurd (cc (late))
ahead-most longest q Receiving late = omega arith
ahead-most longest q (AbortingPiece piece a more) late = omega arith
ahead-most longest q (Aborting a more) late = omega arith
ahead-most longest q Disconnecting late = omega arith
ahead-most longest q Closed late = omega arith
ahead-most longest q d late = omega arith

ahead-is : (longest : ℕ) (q : Answer) (d : Phase) → is_answering d ≡ true → (ahead longest q d ≡ calls_left q d + 6)
    × (stage d ≡ 0)
ahead-is longest q Receiving is = absurd (cc (is))
ahead-is longest q Opening is = absurd (cc (is))
ahead-is longest q (Reading f) is = absurd (cc (is))
ahead-is longest q (ClosingFile f k) is = absurd (cc (is))
ahead-is longest q (AbortingPiece piece a more) is = absurd (cc (is))
ahead-is longest q (Aborting a more) is = absurd (cc (is))
ahead-is longest q Disconnecting is = absurd (cc (is))
ahead-is longest q Closed is = absurd (cc (is))
ahead-is longest q d is = (refl, refl)

-- ---- the phase after the reply

-- the next phase is past the file, and the stream is read on only if it was before
abbrev Goes : Answer → (d e : Phase) → Type 0
Goes q d e = (is_early e ≡ false) × (reads_on q d ≡ false → reads_on q e ≡ false)

headed-goes : (q : Answer) (k : Payload) (a size : ℕ) (more : Following) → Goes q (MakingHead k) (headed a size more)
headed-goes q k a size None = (refl, λ is. is)
headed-goes q k a size (Some x) =
    either-way (λ (e : Phase). Goes q (MakingHead k) e) (nat_le (size + x.1) MAX_AGGREGATE_BYTES) (refl, λ is. is)
    (refl, λ is. is)

ends-goes : (q : Answer) (a taken : ℕ) (more : Following) → Goes q (DroppingSent a taken more) (proceeds q taken more)
ends-goes q a taken (Some x) = (refl, λ is. is)
ends-goes q a taken None = by (keeps q) refl
  where
    by : (b : Bool) → keeps q ≡ b → Goes q (DroppingSent a taken None) (if b then Receiving else Disconnecting)
    by true on = (refl, λ is. absurd (let e = sym on ∙ is in cc (e)))
    by false off = (refl, λ is. refl)

goes : (buffered : List ℕ) (q : Answer) (d : Phase) (r : Reply) (received : List ℕ) → is_answering d ≡ true
    → Goes q d (after_reply (at buffered q d) r received).phase
goes buffered q (DroppingInput a) reply.Done received is = (refl, λ no. absurd (cc (no)))
goes buffered q (DroppingInput a) r received is = (refl, λ no. no)
goes buffered q (Slicing a from to len) (reply.Agg n) received is = (refl, λ no. no)
goes buffered q (Slicing a from to len) r received is = (refl, λ no. no)
goes buffered q (DroppingWhole a k) reply.Done received is = (refl, λ no. no)
goes buffered q (DroppingWhole a k) r received is = (refl, λ no. no)
goes buffered q (MakingHead k) (reply.Agg n) received is = headed-goes q k n (count_of received) (following k)
goes buffered q (MakingHead k) r received is = (refl, λ no. no)
goes buffered q (Joining a size body len) (reply.Agg n) received is = (refl, λ no. no)
goes buffered q (Joining a size body len) r received is = (refl, λ no. no)
goes buffered q (SendingWhole s) (reply.Count n) received is =
    either-next (λ (e : Phase). Goes q (SendingWhole s) e) (after_taking s n) (refl, λ no. no) (refl, λ no. no)
goes buffered q (SendingWhole s) (reply.Refused no.BrokenPipe) received is = (refl, λ no. refl)
goes buffered q (SendingWhole s) r received is = (refl, λ no. no)
goes buffered q (CuttingPiece s) (reply.Agg n) received is = (refl, λ no. no)
goes buffered q (CuttingPiece s) r received is = (refl, λ no. no)
goes buffered q (SendingPiece s piece) (reply.Count n) received is = (refl, λ no. no)
goes buffered q (SendingPiece s piece) (reply.Refused no.BrokenPipe) received is = (refl, λ no. refl)
goes buffered q (SendingPiece s piece) r received is = (refl, λ no. no)
goes buffered q (DroppingPiece s piece) reply.Done received is =
    either-next (λ (e : Phase). Goes q (DroppingPiece s piece) e) s (refl, λ no. no) (refl, λ no. no)
goes buffered q (DroppingPiece s piece) r received is = (refl, λ no. no)
goes buffered q (DroppingSent a taken more) reply.Done received is = ends-goes q a taken more
goes buffered q (DroppingSent a taken more) r received is = (refl, λ no. no)
goes buffered q d r received is = absurd (cc (is))

-- if the phase is unchanged, its call is retried later
not-same : (q : Answer) (d : Phase) (r : Reply) → Nears (rank q) d r d → is_later r ≡ false → ⊥
not-same q d r (inl (inl less)) on = omega (arith, less)
not-same q d r (inl (inr fewer)) on = let less = fewer.1 in omega (arith, less)
not-same q d r (inr same) on = clash (is_later r) same.1 on

made-on : (q : Answer) (e : Phase) → is_made e ≡ true → reads_on q e ≡ keeps q
made-on q (Slicing a from to len) is = refl
made-on q (DroppingWhole a k) is = refl
made-on q (MakingHead k) is = refl
made-on q d is = absurd (cc (is))

module _ (n : State) (longest : ℕ) (buffered : List ℕ) (q : Answer) (expected : List ℕ)
    (short : length expected ≤ longest)
  where
    -- fewer turns are left for the request, and the stream is read on only if it was before
    abbrev Falls : (d e : Phase) → Type 0
    Falls d e = (ahead longest q e < ahead longest q d) × (reads_on q d ≡ false → reads_on q e ≡ false)

    answering : (d : Phase) (r : Reply) (received : List ℕ) → is_answering d ≡ true
        → Nears (rank q) d r (after_reply (at buffered q d) r received).phase
        → is_later r ≡ false → Falls d (after_reply (at buffered q d) r received).phase
    answering d r received is near on = (by near, after.1)
      where
        after : Goes q d (after_reply (at buffered q d) r received).phase
        after = goes buffered q d r received is

        here : (ahead longest q d ≡ calls_left q d + 6) × (stage d ≡ 0)
        here = ahead-is longest q d is

        most : ahead longest q (after_reply (at buffered q d) r received).phase ≤ calls_left q
            (after_reply (at buffered q d) r received).phase + 6
        most = ahead-most longest q (after_reply (at buffered q d) r received).phase after.0

        by : Nears (rank q) d r (after_reply (at buffered q d) r received).phase
            → ahead longest q (after_reply (at buffered q d) r received).phase < ahead longest q d
        by (inl (inl less)) = absurd (let none = here.1 in omega (arith, less, none))
        by (inl (inr fewer)) = (let less = fewer.1 in let now = here.0 in omega (arith, less, now, most))
        by (inr same) = absurd (clash (is_later r) same.1 on)

    made : (d e : Phase) (more : ℕ) → is_made e ≡ true → Has n q expected e
        → ahead longest q d ≡ 3 * longest + 16 + more
        → reads_on q d ≡ keeps q → Falls d e
    made d e more is has much on =
        let few = made-short n q expected longest e is has short in
        (omega (arith, few, much), λ no. made-on q e is ∙ (sym on ∙ no))

    opens : (r : Reply) → Nears (rank q) Opening r (after_open r) → is_later r ≡ false → Has n q expected (after_open r)
        → Falls Opening (after_open r)
    opens (reply.Fd f) near on has = (omega arith, λ no. no)
    opens (reply.Refused no.WouldBlock) near on has = absurd (cc (on))
    opens (reply.Refused z) near on has = made Opening (after_open (reply.Refused z)) 5 refl has (omega arith) refl
    opens r near on has = absurd (not-same q Opening r near on)

    reads : (f : ℕ) (r : Reply) (received : List ℕ) → Nears (rank q) (Reading f) r (after_read f r received)
        → is_later r ≡ false
        → Falls (Reading f) (after_read f r received)
    reads f (reply.Agg k) received near on = (omega arith, λ no. no)
    reads f (reply.Count k) received near on = (omega arith, λ no. no)
    reads f (reply.Refused no.WouldBlock) received near on = absurd (cc (on))
    reads f (reply.Refused z) received near on = (omega arith, λ no. no)
    reads f r received near on = absurd (not-same q (Reading f) r near on)

    shuts : (f : ℕ) (k : FileResult) (r : Reply) → Nears (rank q) (ClosingFile f k) r (after_close_file q f k r)
        → is_later r ≡ false
        → Has n q expected (after_close_file q f k r) → Falls (ClosingFile f k) (after_close_file q f k r)
    shuts f k reply.Done near on has =
        made (ClosingFile f k) (resolved q k) 3 (resolved-made q k) has (omega arith) refl
    shuts f k r near on has = absurd (not-same q (ClosingFile f k) r near on)

    breaks : (piece a : ℕ) (more : Following) (r : Reply)
        → Nears (rank q) (AbortingPiece piece a more) r (after_break piece a more r) → is_later r ≡ false
        → Falls (AbortingPiece piece a more) (after_break piece a more r)
    breaks piece a more reply.Done near on = (let few = few-drops q a more in omega (arith, few), λ no. refl)
    breaks piece a more r near on = absurd (not-same q (AbortingPiece piece a more) r near on)

    drops : (a : ℕ) (more : Following) (r : Reply) → Nears (rank q) (Aborting a more) r (after_drop a more r)
        → is_later r ≡ false
        → Falls (Aborting a more) (after_drop a more r)
    drops a None reply.Done near on = (omega arith, λ no. refl)
    drops a (Some x) reply.Done near on = (omega arith, λ no. refl)
    drops a more r near on = absurd (not-same q (Aborting a more) r near on)

    -- each busy phase
    pub busy-falls : (d : Phase) (r : Reply) (received : List ℕ) → is_busy d ≡ true
        → Nears (rank q) d r (after_reply (at buffered q d) r received).phase
        → is_later r ≡ false → Has n q expected (after_reply (at buffered q d) r received).phase
        → Falls d (after_reply (at buffered q d) r received).phase
    busy-falls Receiving r received busy near on has = absurd (cc (busy))
    busy-falls Disconnecting r received busy near on has = absurd (cc (busy))
    busy-falls Closed r received busy near on has = absurd (cc (busy))
    busy-falls Opening r received busy near on has = opens r near on has
    busy-falls (Reading f) r received busy near on has = reads f r received near on
    busy-falls (ClosingFile f k) r received busy near on has = shuts f k r near on has
    busy-falls (AbortingPiece piece a more) r received busy near on has = breaks piece a more r near on
    busy-falls (Aborting a more) r received busy near on has = drops a more r near on
    busy-falls d r received busy near on has = answering d r received refl near on

-- ---- with the buffered and the unread bytes

buffered-less : (longest : ℕ) (b c : Bool) (buffered : List ℕ) → (b ≡ false → c ≡ false)
    → buffered_turns longest c buffered ≤ buffered_turns longest b buffered
buffered-less longest true true buffered only = omega arith
buffered-less longest true false buffered only = omega arith
buffered-less longest false c buffered only =
    subst (λ (x : Bool). buffered_turns longest x buffered ≤ 0) (sym (only refl)) (omega arith)

-- Each reply to a request in progress decreases the measure, unless its call is retried later.
pub progress-falls : (n : State) (longest unread : ℕ) (buffered : List ℕ) (q : Answer) (d : Phase) (expected : List ℕ)
    (r : Reply) (received : List ℕ) → length expected ≤ longest
    → is_busy d ≡ true → Nears (rank q) d r (after_reply (at buffered q d) r received).phase → is_later r ≡ false
    → Has n q expected (after_reply (at buffered q d) r received).phase
    → turns_left longest unread buffered q (after_reply (at buffered q d) r received).phase < turns_left longest unread
    buffered q d
progress-falls n longest unread buffered q d expected r received short busy near on has =
    let falls = busy-falls n longest buffered q expected short d r received busy near on has in
    let less = falls.0 in
    let keeps_less = buffered-less longest (reads_on q d) (reads_on q (after_reply (at buffered q d) r received).phase)
    buffered
    falls.1 in
    omega (arith, less, keeps_less)

-- The end of a connection decreases it.
pub closes-falls : (longest unread : ℕ) (buffered : List ℕ) (q : Answer)
    → turns_left longest unread buffered q Closed < turns_left longest unread buffered q Disconnecting
closes-falls longest unread buffered q = omega arith

-- Reading bytes of the stream decreases it.
pub reads-falls : (longest unread later : ℕ) (buffered : List ℕ) (q : Answer) (a : ℕ) (received : List ℕ)
    → unread ≡ length received + later
    → turns_left longest later (after_receive buffered q (reply.Agg a) received).buffered q
    (after_receive buffered q (reply.Agg a) received).phase < turns_left longest unread buffered q Receiving
reads-falls longest unread later buffered q a [] all =
    let same : unread_turns longest unread ≡ unread_turns longest later =
    ap (λ (k : ℕ). unread_turns longest k) (none all) in
    omega (arith, same)
  where
    none : unread ≡ 0 + later → unread ≡ later
    none e = omega (arith, e)
reads-falls longest unread later buffered q a (b ∷ received) all =
    let long = length-append buffered (b ∷ received) in
    let buffered_is : request_turns longest * length (buffered ++ (b ∷ received)) ≡ request_turns longest * length
    buffered
    + request_turns longest * length (b ∷ received) = ap (λ (k : ℕ). request_turns longest * k) long
    ∙ spread (request_turns longest) (length buffered) (length (b ∷ received)) in
    let unread_is : (request_turns longest + 2) * unread ≡ (request_turns longest + 2) * length (b ∷ received)
    + (request_turns longest + 2) * later = ap (λ (k : ℕ). (request_turns longest + 2) * k) all
    ∙ spread (request_turns longest + 2) (length (b ∷ received)) later in
    let two : (request_turns longest + 2) * length (b ∷ received) ≡ request_turns longest * length (b ∷ received)
    + 2 * length (b ∷ received) = grind (arith) in
    omega (arith, buffered_is, unread_is, two)
  where
    spread : (k a b : ℕ) → k * (a + b) ≡ k * a + k * b
    spread k a b = grind (arith)

-- ---- a request begins

next-shorter : (laws : WindowLaws) (s : List ℕ) (q : Answer) (rest : List ℕ) → Next s q rest
    → (1 ≤ length s) × (keeps q ≡ true → suc (length rest) ≤ length s)
next-shorter laws s q rest next = by (window_in s) refl next
  where
    by : (w : Window) → window_in s ≡ w → NextIn w s q rest
        → (1 ≤ length s) × (keeps q ≡ true → suc (length rest) ≤ length s)
    by Wait is next = absurd next
    by (Head skip len) is next =
        let fits : FitsIn (length s) (Head skip len) = subst (λ (w : Window). FitsIn (length s) w) is (laws.fit s) in
        let long = ap (λ (l : List ℕ). length l) next.1 ∙ length-drop (skip + len) s in
        (omega (arith, fits), λ on. omega (arith, fits, long))
    by TooLarge is next =
        let fits : FitsIn (length s) TooLarge = subst (λ (w : Window). FitsIn (length s) w) is (laws.fit s) in
        (omega (arith, fits), λ on. absurd (let e = sym (ap (λ (p : Answer). keeps p) next.0) ∙ on in cc (e)))

begins-on : (q : Answer) → reads_on q (begins q) ≡ keeps q
begins-on (serve w) = refl
begins-on (refuse status head_only close) = refl

begins-short : (m : State) (longest : ℕ) (q : Answer)
    → ((status : ℕ) (head_only close : Bool) → q ≡ refuse status head_only close
    → length (text_of q (Error status)) ≤ longest) → ahead longest q (begins q) ≤ 3 * longest + 21
begins-short m longest (serve w) short = omega arith
begins-short m longest (refuse status head_only close) short =
    let few = made-short m (refuse status head_only close) (text_of (refuse status head_only close) (Error status))
    longest (MakingHead (Error status)) refl refl (short status head_only close refl) in omega (arith, few)

-- Beginning the first buffered request decreases it.
pub begins-falls : (laws : WindowLaws) (m : State) (longest unread : ℕ) (buffered : List ℕ) (was q : Answer)
    (rest : List ℕ)
    → Next buffered q rest
    → ((status : ℕ) (head_only close : Bool) → q ≡ refuse status head_only close
    → length (text_of q (Error status)) ≤ longest)
    → turns_left longest unread rest q (begins q) < turns_left longest unread buffered was Receiving
begins-falls laws m longest unread buffered was q rest next short = by (keeps q) refl
  where
    shorter : (1 ≤ length buffered) × (keeps q ≡ true → suc (length rest) ≤ length buffered)
    shorter = next-shorter laws buffered q rest next

    few : ahead longest q (begins q) ≤ 3 * longest + 21
    few = begins-short m longest q short

    on : (b : Bool) → keeps q ≡ b → buffered_turns longest (reads_on q (begins q)) rest ≡ buffered_turns longest b rest
    on b is = ap (λ (x : Bool). buffered_turns longest x rest) (begins-on q ∙ is)

    by : (b : Bool) → keeps q ≡ b
        → turns_left longest unread rest q (begins q) < turns_left longest unread buffered was Receiving
    by true is =
        let now = on true is in
        let step : request_turns longest * suc (length rest) ≤ request_turns longest * length buffered =
        mul-le-mul_left (request_turns longest) (shorter.1 is) in
        let split : request_turns longest * suc (length rest) ≡ request_turns longest * length rest + request_turns
        longest = grind (arith) in
        omega (arith, few, now, step, split)
    by false is =
        let now = on false is in
        let step : request_turns longest * 1 ≤ request_turns longest * length buffered =
        mul-le-mul_left (request_turns longest) shorter.0 in
        let one : request_turns longest * 1 ≡ request_turns longest = grind (arith) in
        omega (arith, few, now, step, one)

-- ---- a whole turn for a connection of files

-- fewer unread bytes do not increase the measure
unread-less : (longest few many : ℕ) → few ≤ many → unread_turns longest few ≤ unread_turns longest many
unread-less longest few many le = mul-le-mul_left (request_turns longest + 2) le

fewer-unread : (longest few many : ℕ) (buffered : List ℕ) (q : Answer) (d : Phase) → few ≤ many
    → turns_left longest few buffered q d ≤ turns_left longest many buffered q d
fewer-unread longest few many buffered q d le = let less = unread-less longest few many le in omega (arith, less)

-- the turns left for a connection of the server, with this number of unread bytes
abbrev pub conn_turns : (longest unread : ℕ) → Conn → ℕ
conn_turns longest unread x = turns_left longest unread x.buffered x.request x.phase

abbrev pub IsShort : (longest : ℕ) → Type 0
IsShort longest = (s rest : List ℕ) (q : Answer) → Next s q rest → (status : ℕ) (head_only close : Bool)
    → q ≡ refuse status head_only close → length (text_of q (Error status)) ≤ longest

module _ (own : CallsServeTheirDomain) (may : RefusalsThatAreLeft) (why : RefusalsTellWhy) (laws : WindowLaws)
    (m n : State) (longest fd c : ℕ)
    (order : IsOrderly m) (lives : is_live m server ≡ true) (open_on : descriptor m server fd ≡ Some (on.Connection c))
  where
    abbrev before : ℕ
    before = length (conn_at m c).incoming

    abbrev now : ℕ
    now = length (conn_at n c).incoming

    -- making a connection ready does not increase them
    pub readies-falls : (was ready : Conn) → IsShort longest → Readies was ready
        → conn_turns longest before ready ≤ conn_turns longest before was
    readies-falls was ready short readies = by was.phase refl readies
      where
        stays : ready ≡ was → conn_turns longest before ready ≤ conn_turns longest before was
        stays same = subst (λ (x : Conn). conn_turns longest before x ≤ conn_turns longest before was) (sym same)
            (omega arith)

        by : (d : Phase) → was.phase ≡ d → Readies (record was { phase = d }) ready
            → conn_turns longest before ready ≤ conn_turns longest before was
        by Receiving is (inl waits) = stays (waits.1 ∙ ap (λ (d : Phase). record was { phase = d }) (sym is))
        by Receiving is (inr some) =
            let less =
            begins-falls laws m longest before was.buffered was.request some.0 some.1 some.2
            (short was.buffered some.1 some.0 some.2) in
            let here = ap (λ (d : Phase). turns_left longest before was.buffered was.request d) is in
            subst (λ (x : Conn). conn_turns longest before x ≤ conn_turns longest before was) (sym some.3)
            (omega (arith, less, here))
        by d is readies = stays (readies-same d is readies)
          where
            readies-same : (d : Phase) → was.phase ≡ d → ready ≡ record was { phase = d } → ready ≡ was
            readies-same d is same = same ∙ ap (λ (d : Phase). record was { phase = d }) (sym is)

    -- the bytes received are no longer unread
    rests : (buffered : List ℕ) (q : Answer) (r : Reply) (received : List ℕ)
        → ((p : ℕ) → IsHidden m server p (conn_at m c).incoming → ⊥)
        → StepsTo m (event.Call server (call.IolRead fd (most_buffered - length buffered))) r n → Names n r received
        → is_later r ≡ false
        → conn_turns longest now (after_receive buffered q r received) < turns_left longest before buffered q Receiving
    rests buffered q r received seen step names sure =
        by r (own.read_conn m n server fd c (most_buffered - length buffered) r order open_on step) step names sure
      where
        by : (r : Reply) → o.ReadsConn m server c (most_buffered - length buffered) r n
            → StepsTo m (event.Call server (call.IolRead fd (most_buffered - length buffered))) r n → Names n r received
            → is_later r ≡ false
            → conn_turns longest now (after_receive buffered q r received) < turns_left longest before buffered q
            Receiving
        by (reply.Agg a) takes step names sure =
            subst (λ (k : ℕ). conn_turns longest k (after_receive buffered q (reply.Agg a) received)
            < turns_left longest
            before buffered q Receiving) (sym later)
            (after_reply-q received (reads-falls longest before (length takes.incoming) buffered q a received all))
          where
            later : now ≡ length takes.incoming
            later = ap (λ (k : Connection). length k.incoming) takes.conn

            all : before ≡ length received + length takes.incoming
            all =
                let parts = ap (λ (t : Text). length t) takes.was ∙ length-append takes.text takes.incoming in
                let bytes = length-map takes.text (λ b. b.0) in
                let received_is =
                ap (λ (l : List ℕ). length l) (some-inj (bytes_of takes.text) received (sym takes.is_readable
                ∙ names)) in
                omega (arith, parts, bytes, received_is)

            after_reply-q : (l : List ℕ)
                → turns_left longest (length takes.incoming) (after_receive buffered q (reply.Agg a) l).buffered q
                (after_receive buffered q (reply.Agg a) l).phase < turns_left longest before buffered q Receiving
                → conn_turns longest (length takes.incoming) (after_receive buffered q (reply.Agg a) l)
                < turns_left longest
                before buffered q Receiving
            after_reply-q [] less = less
            after_reply-q (b ∷ l) less = less
        by (reply.Refused z) did step names sure =
            absurd
            (refused z (may.reads_queue m n server fd (most_buffered - length buffered) (on.Connection c) z lives
            open_on refl
            refl step) step sure)
          where
            refused : (z : Refusal) → LacksNumbersOrHasNothingToRead z
                → StepsTo m (event.Call server (call.IolRead fd (most_buffered - length buffered))) (reply.Refused z) n
                → is_later (reply.Refused z) ≡ false → ⊥
            refused no.TooMany left step sure = cc (sure)
            refused no.WouldBlock left step sure = cc (sure)
            refused no.Memory left step sure = cc (sure)
            refused (no.Denied p) left step sure =
                seen p (why.conn_is_hidden m n server fd c (most_buffered - length buffered) p open_on step)
            refused z left step sure = left
        by r did step names sure = absurd did

    -- the connection is closed
    closes : (buffered : List ℕ) (q : Answer) (r : Reply) → now ≤ before
        → StepsTo m (event.Call server (call.Close fd)) r n
        → is_later r ≡ false
        → turns_left longest now buffered q (after_disconnect r) < turns_left longest before buffered q Disconnecting
    closes buffered q r few step sure = by r (own.closes_conn m n server fd c r order open_on step) step
      where
        by : (r : Reply) → o.ClosesConn m c r n → StepsTo m (event.Call server (call.Close fd)) r n
            → turns_left longest now buffered q (after_disconnect r) < turns_left longest before buffered q
            Disconnecting
        by reply.Done did step = (let less = unread-less longest now before few in omega (arith, less))
        by (reply.Refused z) did step = absurd (may.closes m n server fd (on.Connection c) z lives open_on step)
        by r did step = absurd did

    -- A reply to its call decreases them, unless the call is retried later.
    pub turn-falls : (buffered : List ℕ) (q : Answer) (d : Phase) (was expected : List ℕ) (r : Reply)
        (received : List ℕ)
        → length expected ≤ longest → now ≤ before
        → ((p : ℕ) → IsHidden m server p (conn_at m c).incoming → ⊥)
        → Has m q was d → (is_closing d ≡ false → Has n q expected (after_reply (at buffered q d) r received).phase)
        → CanMake m (next_call fd (at buffered q d))
        → StepsTo m (event.Call server (next_call fd (at buffered q d))) r n → Names n r received → is_later r ≡ false
        → conn_turns longest now (after_reply (at buffered q d) r received) < conn_turns longest before
        (at buffered q d)
    turn-falls buffered q Receiving was expected r received short few seen has later can step names sure =
        rests buffered q r received seen step names sure
    turn-falls buffered q Disconnecting was expected r received short few seen has later can step names sure =
        closes buffered q r few step sure
    turn-falls buffered q Closed was expected r received short few seen has later can step names sure = absurd has
    turn-falls buffered q d was expected r received short few seen has later can step names sure =
        let less =
        progress-falls n longest before buffered q d expected r received short refl
        (near own may m n order lives fd c buffered q d was r received open_on refl has can step names) sure
        (later refl) in
        let fewer = fewer-unread longest now before buffered q (after_reply (at buffered q d) r received).phase few in
        omega (arith, less, fewer)
