-- A call for a file reduces the rank of its request, or is retried later.
use Rattle.std.proofs.Common.{inl, inr, ◌≡◌, ◌≢◌, ℕ, ◌+◌, ◌*◌, ◌-◌, ◌==◌, ◌<◌, ◌≤◌, ◌⊎◌, List, [], ◌∷◌, ◌++◌, length}
use Rattle.std.proofs.Common.{drop, ap, ◌∙◌, refl, sym, subst, arith, Option, Some, None, true, false, Bool}
use Rattle.std.proofs.Common.{length-drop, if◌then◌else◌}
use Rattle.std.specs.Prelude.{min, nat_lt, nat_le, unwrap_or, option_map, slice_range, ◌&&◌}
use Rattle.std.proofs.lemmas.Bool.Decides.{nat_tests}
use Rattle.std.proofs.lemmas.List.{length-map, length-take-le}
use Rattle.iol_core.specs.Text.{Text, bytes_of}
use Rattle.iol_core.specs.State.{State, descriptor, aggregate, text, is_live, conn_at}
use Rattle.iol_core.specs.Run.{meaning, StepsTo}
use Rattle.iol_core.specs.Calls.Writes.{takes_none, fitting}
use Rattle.iol_core.specs.declared.limits.TheConstants.{MAX_AGGREGATE_BYTES}
use Rattle.iol_core.specs.declared.descriptors.Descriptor.{Descriptor}
use Rattle.iol_core.specs.declared.descriptors.Descriptor.TheVariants as on
use Rattle.iol_core.specs.declared.descriptors.Mode.TheVariants as modes
use Rattle.iol_core.specs.declared.refusals.Refusal.{Refusal}
use Rattle.iol_core.specs.declared.refusals.Refusal.TheVariants as no
use Rattle.iol_core.specs.declared.events.Call.TheVariants as call
use Rattle.iol_core.specs.declared.events.Event.TheVariants as event
use Rattle.iol_core.specs.declared.events.Reply.{Reply}
use Rattle.iol_core.specs.declared.events.Reply.TheVariants as reply
use Rattle.iol_core.proofs.TestedLists.{passed, when-none}
use Rattle.iol_laws.specs.Caller as o
use Rattle.iol_laws.specs.Caller.{CallsServeTheirDomain, readable_at}
use Rattle.iol_laws.specs.Order.{IsOrderly}
use Rattle.iol_laws.specs.Reasons.{IsHidden, RefusalsTellWhy}
use Rattle.iol_laws.specs.RefusalsLeft.{RefusalsThatAreLeft, LacksNumbers, LacksNumbersOrRoom}
use Rattle.iol_laws.specs.RefusalsLeft.{LacksNumbersOrHasNothingToRead, CannotPut}
use Rattle.flash_http.specs.declared.ranges.Selection.{Selection}
use Rattle.flash_http.specs.declared.ranges.Selection.TheVariants.{Bytes}
use Rattle.flash_http.specs.Range.{selected}
use Rattle.flash_http.specs.Request.{Answer, serve, refuse}
use Rattle.flash_laws.specs.Answers.{keeps}
use Rattle.flash_laws.specs.Conn.{Following, Conn, is_head_only, most_buffered, most_read, name_of, text_of, piece_end}
use Rattle.flash_laws.specs.Conn.{count_of, next_call, sends_of, resolved, following, headed, after_receive, after_open}
use Rattle.flash_laws.specs.Conn.{after_read, after_close_file, after_slice, after_drop_whole, after_head, after_join}
use Rattle.flash_laws.specs.Conn.{after_send, after_cut, after_offer, after_swap, proceeds, after_taken}
use Rattle.flash_laws.specs.Conn.{after_break, drops_next, after_drop, after_discard, after_reply}
use Rattle.flash_laws.specs.Conn.{after_taking, next_piece, whole}
use Rattle.flash_laws.specs.Conn.Fits.{Has, Names}
use Rattle.flash_laws.specs.Conn.Progress.{Rank, IsBelow, Nears, HasPlaceFor, CanMake, is_busy}
use Rattle.flash_laws.specs.Conn.Policy.{is_later}
use Rattle.flash_laws.specs.Site.{server}
use Rattle.flash_laws.specs.declared.phase.FileResult.{FileResult}
use Rattle.flash_laws.specs.declared.phase.FileResult.TheVariants.{File}
use Rattle.flash_laws.specs.declared.phase.Payload.{Payload}
use Rattle.flash_laws.specs.declared.phase.Payload.TheVariants.{Body}
use Rattle.flash_laws.specs.declared.phase.Sending.{Sending}
use Rattle.flash_laws.specs.declared.phase.Phase.{Phase}
use Rattle.flash_laws.specs.declared.phase.Phase.TheVariants.{Receiving, DroppingInput, Opening, Reading as Reading}
use Rattle.flash_laws.specs.declared.phase.Phase.TheVariants.{ClosingFile, Slicing, DroppingWhole}
use Rattle.flash_laws.specs.declared.phase.Phase.TheVariants.{MakingHead, Joining, SendingWhole, CuttingPiece}
use Rattle.flash_laws.specs.declared.phase.Phase.TheVariants.{SendingPiece, DroppingPiece, DroppingSent, AbortingPiece}
use Rattle.flash_laws.specs.declared.phase.Phase.TheVariants.{Aborting, Disconnecting}
use Rattle.flash_laws.proofs.Forms.{at}
use Rattle.flash_laws.proofs.Conn.Responses.{some-inj}
use Rattle.flash_laws.proofs.Conn.ReadableBytes.{text-same}
use Rattle.flash_laws.proofs.Lists.{turned, differ, within-part}
use Rattle.flash_laws.proofs.Moves.{either-way, either-next}

-- ---- the rank

-- the number of calls left after an aggregate is sent, with the aggregate that follows it
abbrev pub sent_after : Following → ℕ
sent_after None = 1
sent_after (Some x) = 3 * x.1 + 4

abbrev drops_left : Following → ℕ
drops_left None = 1
drops_left (Some x) = 2

abbrev size_of : Payload → ℕ
size_of (Body a size len) = size
size_of k = 0

abbrev pub head_calls : Answer → Payload → ℕ
head_calls q k = 3 * length (text_of q k) + (3 * size_of k + 7)

-- Each byte takes at most three calls: a piece that begins with it is cut, offered and dropped.
abbrev pub ready : Answer → Phase → ℕ
ready q (DroppingInput a) = 1
ready q (Slicing a from to len) = head_calls q (Body a (to - from) len) + 2
ready q (DroppingWhole a k) = head_calls q k + 1
ready q (MakingHead k) = head_calls q k
ready q (Joining a size body len) = 3 * (size + len) + 4
ready q (SendingWhole s) = 3 * (s.len - s.from) + (sent_after s.more + 2)
ready q (CuttingPiece s) = 3 * (s.len - s.from) + (sent_after s.more + 1)
ready q (SendingPiece s piece) = 3 * (s.len - s.from) + sent_after s.more
ready q (DroppingPiece s piece) = 3 * (s.len - s.from) + (sent_after s.more + 2)
ready q (DroppingSent a taken more) = sent_after more
ready q (AbortingPiece piece a more) = 3
ready q (Aborting a more) = drops_left more
ready q d = 0

abbrev pub calls_left : Answer → Phase → ℕ
calls_left q (ClosingFile f k) = ready q (resolved q k) + 1
calls_left q d = ready q d

-- before a file is read, the length of the response is unknown
abbrev pub stage : Phase → ℕ
stage Opening = 2
stage (Reading f) = 1
stage d = 0

abbrev pub rank : Answer → Phase → Rank
rank q d = (stage d, calls_left q d)

-- ---- refused calls that are retried later

pub lacks-later : (z : Refusal) → LacksNumbers z → is_later (reply.Refused z) ≡ true
lacks-later no.TooMany has = refl
lacks-later no.Memory has = refl
lacks-later z has = absurd has

pub lacks-room-later : (p : ℕ) (z : Refusal) → LacksNumbersOrRoom p z → is_later (reply.Refused z) ≡ true
lacks-room-later p no.TooMany has = refl
lacks-room-later p (no.NoRoom q) has = refl
lacks-room-later p no.Memory has = refl
lacks-room-later p z has = absurd has

-- ---- each call of a request

module _ (own : CallsServeTheirDomain) (may : RefusalsThatAreLeft) (m n : State) (order : IsOrderly m)
    (lives : is_live m server ≡ true)
    {A : Type 0} (rank_of : A → Rank) (x : A) (y : Reply → A) where
  abbrev pub Near : Reply → Type 0
  Near r = Nears rank_of x r (y r)

  pub drops : (a : ℕ) (bytes : List ℕ) (r : Reply) → readable_at m server a ≡ Some bytes
      → StepsTo m (event.Call server (call.AggDrop a)) r n
      → IsBelow (rank_of (y reply.Done)) (rank_of x) → Near r
  drops a bytes r readable step below = by r (own.drops m n server a r order step) step
    where
      by : (r : Reply) → o.Drops m server a r n → StepsTo m (event.Call server (call.AggDrop a)) r n → Near r
      by reply.Done did step = inl below
      by (reply.Refused z) did step = absurd (may.drops m n server a bytes z lives readable step)
      by r did step = absurd did

  pub closes : (g : ℕ) (d : Descriptor) (r : Reply) → descriptor m server g ≡ Some d
      → StepsTo m (event.Call server (call.Close g)) r n
      → IsBelow (rank_of (y reply.Done)) (rank_of x) → Near r
  closes g d r opened step below = by r (own.closes m n server g r step) step
    where
      by : (r : Reply) → o.Closes m server g r n → StepsTo m (event.Call server (call.Close g)) r n → Near r
      by reply.Done did step = inl below
      by (reply.Refused z) did step = absurd (may.closes m n server g d z lives opened step)
      by r did step = absurd did

  pub makes : (bytes received : List ℕ) (r : Reply) → HasPlaceFor m bytes
      → StepsTo m (event.Call server (call.AggMake bytes)) r n → Names n r received
      → ((k : ℕ) → received ≡ bytes → IsBelow (rank_of (y (reply.Agg k))) (rank_of x))
      → ((z : Refusal) → y (reply.Refused z) ≡ x) → Near r
  makes bytes received r placed step names below same = by r (own.make m n server bytes r order step) step names
    where
      by : (r : Reply) → o.Makes m server bytes r n → StepsTo m (event.Call server (call.AggMake bytes)) r n
          → Names n r received → Near r
      by (reply.Agg k) did step names = inl (below k (some-inj received bytes (sym names ∙ did.0)))
      by (reply.Refused z) did step names =
          inr (
            same z,
            lacks-room-later placed.place z
                (may.make m n server placed.place bytes z lives placed.default placed.open_yet
                placed.fits step),
          )
      by r did step names = absurd did

  pub cuts : (a from to : ℕ) (bytes : List ℕ) (r : Reply) → readable_at m server a ≡ Some bytes → from ≤ to
      → to ≤ length bytes
      → StepsTo m (event.Call server (call.AggCut a from to)) r n
      → ((k : ℕ) → IsBelow (rank_of (y (reply.Agg k))) (rank_of x)) → ((z : Refusal) → y (reply.Refused z) ≡ x) → Near r
  cuts a from to bytes r readable order_is within step below same =
      by r (own.cut m n server a from to bytes r order readable step) step
    where
      by : (r : Reply) → o.Makes m server (slice_range bytes from to) r n
          → StepsTo m (event.Call server (call.AggCut a from to)) r n → Near r
      by (reply.Agg k) did step = inl (below k)
      by (reply.Refused z) did step =
          inr (same z, lacks-later z (may.cut m n server a from to bytes z lives readable order_is within step))
      by r did step = absurd did

  pub joins : (a b : ℕ) (xs ys : List ℕ) (r : Reply) → readable_at m server a ≡ Some xs
      → readable_at m server b ≡ Some ys → a ≢ b
      → length xs + length ys ≤ MAX_AGGREGATE_BYTES → StepsTo m (event.Call server (call.AggJoin a b)) r n
      → ((k : ℕ) → IsBelow (rank_of (y (reply.Agg k))) (rank_of x)) → ((z : Refusal) → y (reply.Refused z) ≡ x) → Near r
  joins a b xs ys r readable_a readable_b apart short step below same =
      by r (own.join m n server a b xs ys r order readable_a readable_b step) step
    where
      by : (r : Reply) → o.Makes m server (xs ++ ys) r n → StepsTo m (event.Call server (call.AggJoin a b)) r n → Near r
      by (reply.Agg k) did step = inl (below k)
      by (reply.Refused z) did step =
          inr (same z, lacks-later z (may.join m n server a b xs ys z lives readable_a readable_b apart short step))
      by r did step = absurd did

  -- a write to a connection; if its peer is gone, the bytes are not offered again
  pub writes : (fd c a : ℕ) (bytes : List ℕ) (r : Reply) → descriptor m server fd ≡ Some (on.Connection c)
      → readable_at m server a ≡ Some bytes
      → StepsTo m (event.Call server (call.IolWrite fd a)) r n
      → ((k : ℕ) → StepsTo m (event.Call server (call.IolWrite fd a)) (reply.Count k) n → o.Puts m c bytes k n
      → IsBelow (rank_of (y (reply.Count k))) (rank_of x))
      → IsBelow (rank_of (y (reply.Refused no.BrokenPipe))) (rank_of x)
      → y (reply.Refused no.WouldBlock) ≡ x → y (reply.Refused no.Memory) ≡ x → Near r
  writes fd c a bytes r open_on readable step below broken blocked wanting =
      by r (own.write_conn m n server fd c a bytes r order open_on readable step) step
    where
      refused : (z : Refusal) → CannotPut z → Near (reply.Refused z)
      refused no.BrokenPipe put = inl broken
      refused no.WouldBlock put = inr (blocked, refl)
      refused no.Memory put = inr (wanting, refl)
      refused z put = absurd put

      by : (r : Reply) → o.WritesConn m c bytes r n → StepsTo m (event.Call server (call.IolWrite fd a)) r n → Near r
      by (reply.Count k) puts step = inl (below k step puts)
      by (reply.Refused z) did step =
          refused z (may.writes_queue m n server fd a (on.Connection c) bytes z lives open_on refl refl readable step)
      by r did step = absurd did

-- ---- a write of some bytes that is not refused takes at least one

text-long : (m : State) (a : ℕ) (bytes : List ℕ) → readable_at m server a ≡ Some bytes
    → length (text m server a) ≡ length bytes
text-long m a bytes readable = by (aggregate m server a) readable
  where
    by : (t : Option Text) → option_map bytes_of t ≡ Some bytes → length (unwrap_or t []) ≡ length bytes
    by None is = absurd (cc (is))
    by (Some t) is = sym (length-map t (λ b. b.0)) ∙ ap (λ (l : List ℕ). length l) (some-inj (bytes_of t) bytes is)

abbrev counted : Reply → ℕ
counted (reply.Count j) = j
counted r = 0

some-of : (k f l : ℕ) (bytes : List ℕ) → k ≡ f → l ≡ length bytes → (nat_lt 0 l && (f == 0)) ≡ false → 0 < length bytes
    → 0 < k
some-of k f l bytes after_reply long fits some =
    let big : nat_lt 0 l ≡ true = grind (arith, nat_tests, long, some) in
    let not_none : (f == 0) ≡ false = subst (λ b. (b && (f == 0)) ≡ false) big fits in
    grind (arith, nat_tests, after_reply, not_none)

some-taken : (m n : State) (fd a k : ℕ) (bytes : List ℕ) → readable_at m server a ≡ Some bytes → 0 < length bytes
    → StepsTo m (event.Call server (call.IolWrite fd a)) (reply.Count k) n → 0 < k
some-taken m n fd a k bytes readable some step =
    let to : Option Descriptor = descriptor m server fd in
    some-of k (fitting m to (length (text m server a))) (length (text m server a)) bytes
    (ap (λ (z : Reply). counted z) step.1) (text-long m a bytes readable)
    (when-none no.WouldBlock (takes_none m to (length (text m server a)))
    (passed (meaning m (event.Call server (call.IolWrite fd a))).refusals 6 step.0)) some

-- if bytes are left, the next piece has at least one
some-piece : (s : Sending) (bytes : List ℕ) → s.from < s.len → s.len ≡ length bytes
    → 0 < length (slice_range bytes s.from (piece_end s))
some-piece s bytes some size =
    let all = length-drop s.from bytes in
    let within : piece_end s - s.from ≤ length (drop s.from bytes) = omega (arith, all, size) in
    let long = length-take-le (piece_end s - s.from) (drop s.from bytes) within in
    omega (arith, long, some)

-- ---- the rank of each phase

falls : (q : Answer) (e d : Phase) → stage e ≡ stage d → calls_left q e < calls_left q d → IsBelow (rank q e) (rank q d)
falls q e d same fewer = inr (same, fewer)

resolved-near : (q : Answer) (f : ℕ) (k : FileResult) → IsBelow (rank q (resolved q k)) (rank q (ClosingFile f k))
resolved-near (serve w) f (File a len) = by (selected w.range len)
  where
    by : (sel : Selection) → IsBelow (rank (serve w) (sends_of sel a len)) (0, ready (serve w) (sends_of sel a len) + 1)
    by (Bytes first last) = inr (refl, omega arith)
    by x = inr (refl, omega arith)
resolved-near (refuse status head_only close) f (File a len) = inr (refl, omega arith)
resolved-near q f k = inr (refl, omega arith)

headed-near : (q : Answer) (a size : ℕ) (k : Payload) → size ≤ length (text_of q k)
    → IsBelow (rank q (headed a size (following k))) (rank q (MakingHead k))
headed-near q a size (Body b s len) short = by (nat_le (size + s) MAX_AGGREGATE_BYTES)
  where
    by : (fits : Bool)
        → IsBelow (rank q (if fits then Joining a size b s else SendingWhole (whole a size 0 (Some (b, s)))))
        (rank q (MakingHead (Body b s len)))
    by true = falls q (Joining a size b s) (MakingHead (Body b s len)) refl (omega (arith, short))
    by false =
        falls q (SendingWhole (whole a size 0 (Some (b, s)))) (MakingHead (Body b s len)) refl (omega (arith, short))
headed-near q a size k short = falls q (SendingWhole (whole a size 0 None)) (MakingHead k) refl (omega (arith, short))

some-after : (more : Following) → 1 ≤ sent_after more
some-after None = omega arith
some-after (Some x) = omega arith

few-sent : (more : Following) → drops_left more < sent_after more + 2
few-sent None = omega arith
few-sent (Some x) = omega arith

drops-near : (q : Answer) (s : Sending) → IsBelow (rank q (Aborting s.agg s.more)) (rank q (SendingWhole s))
drops-near q s =
    let few = few-sent s.more in falls q (Aborting s.agg s.more) (SendingWhole s) refl (omega (arith, few))

-- the rank of the next phase, which cuts a piece or drops the aggregate, by the number of calls left
next-near : (q : Answer) (s : Sending) (left : ℕ) → 3 * (s.len - s.from) + (sent_after s.more + 1) < left
    → IsBelow (rank q (next_piece s)) (0, left)
next-near q s left fewer =
    either-next (λ (e : Phase). IsBelow (rank q e) (0, left)) s (inr (refl, fewer))
    (inr (refl, omega (arith, fewer)))

few-drops : (more : Following) → drops_left more < 3
few-drops None = omega arith
few-drops (Some x) = omega arith

goes-near : (q : Answer) (a taken : ℕ) (more : Following)
    → IsBelow (rank q (proceeds q taken more)) (rank q (DroppingSent a taken more))
goes-near q a taken (Some x) =
    falls q (SendingWhole (whole x.0 x.1 taken None)) (DroppingSent a taken (Some x)) refl (omega arith)
goes-near q a taken None =
    either-way (λ (e : Phase). IsBelow (rank q e) (rank q (DroppingSent a taken None))) (keeps q)
    (falls q Receiving (DroppingSent a taken None) refl (omega arith))
    (falls q Disconnecting (DroppingSent a taken None) refl (omega arith))

drop-near : (q : Answer) (a : ℕ) (more : Following) → IsBelow (rank q (drops_next more)) (rank q (Aborting a more))
drop-near q a None = falls q Disconnecting (Aborting a None) refl (omega arith)
drop-near q a (Some x) = falls q (Aborting x.0 None) (Aborting a (Some x)) refl (omega arith)

counts-short : (received bytes : List ℕ) → received ≡ bytes → count_of received ≤ length bytes
counts-short received bytes same = let e = ap (λ (l : List ℕ). length l) same in omega (arith, e)

-- ---- each phase

module _ (own : CallsServeTheirDomain) (may : RefusalsThatAreLeft) (m n : State) (order : IsOrderly m)
    (lives : is_live m server ≡ true) where
  opens : (q : Answer) (name : List ℕ) (r : Reply) → StepsTo m (event.Call server (call.OpenFile name modes.Read)) r n
      → Nears (rank q) Opening r (after_open r)
  opens q name (reply.Fd f) step = inl (inl (omega arith))
  opens q name (reply.Refused no.WouldBlock) step = inr (refl, refl)
  opens q name (reply.Refused z) step = inl (inl (omega arith))
  opens q name r step = let e = step.1 in absurd (cc (e))

  reads : (q : Answer) (f : ℕ) (b : Bool) (r : Reply) (received : List ℕ)
      → StepsTo m (event.Call server (if b then call.Length f else call.IolRead f most_read)) r n
      → Nears (rank q) (Reading f) r (after_read f r received)
  reads q f b (reply.Agg k) received step = inl (inl (omega arith))
  reads q f b (reply.Count k) received step = inl (inl (omega arith))
  reads q f b (reply.Refused no.WouldBlock) received step = inr (refl, refl)
  reads q f b (reply.Refused z) received step = inl (inl (omega arith))
  reads q f true r received step = let e = step.1 in absurd (cc (e))
  reads q f false r received step = let e = step.1 in absurd (cc (e))

  sends : (q : Answer) (fd c : ℕ) (s : Sending) (bytes : List ℕ) (r : Reply)
      → descriptor m server fd ≡ Some (on.Connection c)
      → readable_at m server s.agg ≡ Some bytes → StepsTo m (event.Call server (call.IolWrite fd s.agg)) r n
      → Nears (rank q) (SendingWhole s) r (after_send s r)
  sends q fd c s bytes r open_on readable step =
      writes own may m n order lives (rank q) (SendingWhole s) (λ z. after_send s z) fd c s.agg bytes r open_on readable
      step
      (λ k did puts. next-near q (after_taking s k) (ready q (SendingWhole s)) (omega arith)) (drops-near q s) refl refl

  offers : (q : Answer) (fd c : ℕ) (s : Sending) (piece : ℕ) (bytes : List ℕ) (r : Reply)
      → descriptor m server fd ≡ Some (on.Connection c)
      → readable_at m server piece ≡ Some (slice_range bytes s.from (piece_end s)) → s.from < s.len
      → s.len ≡ length bytes
      → StepsTo m (event.Call server (call.IolWrite fd piece)) r n
      → Nears (rank q) (SendingPiece s piece) r (after_offer s piece r)
  offers q fd c s piece bytes r open_on readable some size step =
      writes own may m n order lives (rank q) (SendingPiece s piece) (λ z. after_offer s piece z) fd c piece
      (slice_range bytes s.from (piece_end s)) r open_on readable step
      (λ k did puts. taken-some k (some-taken m n fd piece k (slice_range bytes s.from (piece_end s)) readable
      (some-piece s bytes some size) did))
      (falls q (AbortingPiece piece s.agg s.more) (SendingPiece s piece) refl (let one = some-after s.more in
      omega (arith, one, some))) refl refl
    where
      taken-some : (k : ℕ) → 0 < k
          → IsBelow (rank q (DroppingPiece (after_taking s k) piece)) (rank q (SendingPiece s piece))
      taken-some k one =
          falls q (DroppingPiece (after_taking s k) piece) (SendingPiece s piece) refl (omega (arith, one, some))

  swaps : (q : Answer) (s : Sending) (piece : ℕ) (bytes : List ℕ) (r : Reply)
      → readable_at m server piece ≡ Some bytes
      → StepsTo m (event.Call server (call.AggDrop piece)) r n
      → Nears (rank q) (DroppingPiece s piece) r (after_swap s piece r)
  swaps q s piece bytes r readable step =
      drops own may m n order lives (rank q) (DroppingPiece s piece) (λ z. after_swap s piece z) piece bytes r readable
      step
      (next-near q s (ready q (DroppingPiece s piece)) (omega arith))

  pub near : (fd c : ℕ) (buffered : List ℕ) (q : Answer) (d : Phase) (expected : List ℕ) (r : Reply) (received : List ℕ)
      → descriptor m server fd ≡ Some (on.Connection c)
      → is_busy d ≡ true → Has m q expected d → CanMake m (next_call fd (at buffered q d))
      → StepsTo m (event.Call server (next_call fd (at buffered q d))) r n → Names n r received
      → Nears (rank q) d r (after_reply (at buffered q d) r received).phase
  near fd c buffered q (DroppingInput a) expected r received open_on busy has can step names =
      drops own may m n order lives (rank q) (DroppingInput a) (λ z. after_discard a z) a has.0 r has.1 step
      (falls q Receiving (DroppingInput a) refl (omega arith))
  near fd c buffered q Opening expected r received open_on busy has can step names = opens q (name_of q) r step
  near fd c buffered q (Reading f) expected r received open_on busy has can step names =
      reads q f (is_head_only q) r received step
  near fd c buffered q (ClosingFile f k) expected r received open_on busy has can step names =
      closes own may m n order lives (rank q) (ClosingFile f k) (λ z. after_close_file q f k z) f
      (on.File has.0.0 has.0.1 modes.Read) r has.0.2 step (resolved-near q f k)
  near fd c buffered q (Slicing a from to len) expected r received open_on busy has can step names =
      cuts own may m n order lives (rank q) (Slicing a from to len) (λ z. after_slice a from to len z) a from to
      has.bytes
      r has.is_readable
      (let some = has.some in omega (arith, some)) (within-part from to has.bytes has.some has.count) step
      (λ k. let same = ap (λ (l : List ℕ). length l) (text-same q a k (to - from) (to - from) len) in
      falls q (DroppingWhole a (Body k (to - from) len)) (Slicing a from to len) refl (omega (arith, same))) (λ z. refl)
  near fd c buffered q (DroppingWhole a k) expected r received open_on busy has can step names =
      drops own may m n order lives (rank q) (DroppingWhole a k) (λ z. after_drop_whole a k z) a has.0.0 r has.0.1 step
      (falls q (MakingHead k) (DroppingWhole a k) refl (omega arith))
  near fd c buffered q (MakingHead k) expected r received open_on busy has can step names =
      makes own may m n order lives (rank q) (MakingHead k) (λ z. after_head k z received) (text_of q k) received r can
      step
      names
      (λ a same. headed-near q a (count_of received) k (counts-short received (text_of q k) same)) (λ z. refl)
  near fd c buffered q (Joining a size body len) expected r received open_on busy has can step names =
      joins own may m n order lives (rank q) (Joining a size body len) (λ z. after_join a size body len z) a body
      has.0.bytes has.0.after r has.0.is_readable has.0.follows.0
      (differ a body (turned body a has.0.apart))
      (let one = has.0.size in let two = has.0.follows.1 in let fits = has.1 in omega (arith, one, two, fits)) step
      (λ k. falls q (SendingWhole (whole k (size + len) 0 None)) (Joining a size body len) refl (omega arith))
      (λ z. refl)
  near fd c buffered q (SendingWhole s) expected r received open_on busy has can step names =
      sends q fd c s has.0.bytes r open_on has.0.is_readable step
  near fd c buffered q (CuttingPiece s) expected r received open_on busy has can step names =
      cuts own may m n order lives (rank q) (CuttingPiece s) (λ z. after_cut s z) s.agg s.from (piece_end s)
      has.0.bytes r has.0.is_readable
      (let some = has.1 in omega (arith, some)) (let size = has.0.size in omega (arith, size)) step
      (λ k. falls q (SendingPiece s k) (CuttingPiece s) refl (omega arith)) (λ z. refl)
  near fd c buffered q (SendingPiece s piece) expected r received open_on busy has can step names =
      offers q fd c s piece has.whole.bytes r open_on has.is_readable has.some has.whole.size step
  near fd c buffered q (DroppingPiece s piece) expected r received open_on busy has can step names =
      swaps q s piece has.0.0 r has.0.1 step
  near fd c buffered q (DroppingSent a taken more) expected r received open_on busy has can step names =
      drops own may m n order lives (rank q) (DroppingSent a taken more) (λ z. after_taken q a taken more z) a has.bytes
      r
      has.is_readable step (goes-near q a taken more)
  near fd c buffered q (AbortingPiece piece a more) expected r received open_on busy has can step names =
      drops own may m n order lives (rank q) (AbortingPiece piece a more) (λ z. after_break piece a more z) piece
      has.0.0 r
      has.0.1 step
      (falls q (Aborting a more) (AbortingPiece piece a more) refl (few-drops more))
  near fd c buffered q (Aborting a more) expected r received open_on busy has can step names =
      drops own may m n order lives (rank q) (Aborting a more) (λ z. after_drop a more z) a has.readable.0 r
      has.readable.1
      step (drop-near q a more)
  near fd c buffered q d expected r received open_on busy has can step names = absurd (cc (busy))

-- ---- a connection

after_reply-at : (buffered : List ℕ) (q : Answer) (d : Phase) (r : Reply) (received : List ℕ) → is_busy d ≡ true
    → after_reply (at buffered q d) r received ≡ at buffered q (after_reply (at buffered q d) r received).phase
after_reply-at buffered q Receiving r received busy = absurd (cc (busy))
after_reply-at buffered q d r received busy = refl

lift : (buffered : List ℕ) (q : Answer) (d e : Phase) (r : Reply) → Nears (rank q) d r e
    → Nears (λ (x : Conn). rank x.request x.phase) (at buffered q d) r (at buffered q e)
lift buffered q d e r (inl below) = inl below
lift buffered q d e r (inr same) = inr (ap (λ z. at buffered q z) same.0, same.1)

pub conn-nears : CallsServeTheirDomain → RefusalsThatAreLeft
    → (m n : State) (fd c : ℕ) (buffered : List ℕ) (q : Answer) (d : Phase) (expected : List ℕ) (r : Reply)
    (received : List ℕ)
    → IsOrderly m → is_live m server ≡ true → descriptor m server fd ≡ Some (on.Connection c) → is_busy d ≡ true
    → Has m q expected d
    → CanMake m (next_call fd (at buffered q d)) → StepsTo m (event.Call server (next_call fd (at buffered q d))) r n
    → Names n r received
    → Nears (λ (x : Conn). rank x.request x.phase) (at buffered q d) r (after_reply (at buffered q d) r received)
conn-nears own may m n fd c buffered q d expected r received order lives open_on busy has can step names =
    subst (λ (z : Conn). Nears (λ (x : Conn). rank x.request x.phase) (at buffered q d) r z)
    (sym (after_reply-at buffered q d r received busy))
    (lift buffered q d (after_reply (at buffered q d) r received).phase r
    (near own may m n order lives fd c buffered q d expected r received open_on busy has can step names))

-- if a read of the stream changes nothing, it is retried later, or the server may not read the unread bytes
pub conn-reads : RefusalsTellWhy → RefusalsThatAreLeft
    → (m n : State) (fd c : ℕ) (buffered : List ℕ) (q : Answer) (d : Phase) (r : Reply) (received : List ℕ)
    → is_live m server ≡ true
    → descriptor m server fd ≡ Some (on.Connection c) → d ≡ Receiving
    → StepsTo m (event.Call server (next_call fd (at buffered q d))) r n
    → after_reply (at buffered q d) r received ≡ at buffered q d
    → (is_later r ≡ true) ⊎ ((p : ℕ) × IsHidden m server p (conn_at m c).incoming)
conn-reads why may m n fd c buffered q Receiving r received lives open_on rests step same = by r received step same
  where
    refused : (z : Refusal) → LacksNumbersOrHasNothingToRead z
        → StepsTo m (event.Call server (call.IolRead fd (most_buffered - length buffered))) (reply.Refused z) n
        → (is_later (reply.Refused z) ≡ true) ⊎ ((p : ℕ) × IsHidden m server p (conn_at m c).incoming)
    refused no.TooMany left step = inl refl
    refused no.WouldBlock left step = inl refl
    refused no.Memory left step = inl refl
    refused (no.Denied p) left step =
        inr (p, why.conn_is_hidden m n server fd c (most_buffered - length buffered) p open_on step)
    refused z left step = absurd left

    by : (r : Reply) (received : List ℕ)
        → StepsTo m (event.Call server (call.IolRead fd (most_buffered - length buffered))) r n
        → after_receive buffered q r received ≡ at buffered q Receiving
        → (is_later r ≡ true) ⊎ ((p : ℕ) × IsHidden m server p (conn_at m c).incoming)
    by (reply.Agg k) [] step same = let e = ap (λ (x : Conn). x.phase) same in absurd (cc (e))
    by (reply.Agg k) (b ∷ received) step same = let e = ap (λ (x : Conn). x.phase) same in absurd (cc (e))
    by (reply.Refused z) received step same =
        refused z (may.reads_queue m n server fd (most_buffered - length buffered) (on.Connection c) z lives open_on
        refl refl
        step) step
    by r received step same = let e = step.1 in absurd (cc (e))
conn-reads why may m n fd c buffered q d r received lives open_on rests step same = absurd (cc (rests))
