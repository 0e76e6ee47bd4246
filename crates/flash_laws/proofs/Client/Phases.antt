-- The phases of a client, for every expected response: the data in the machine, the offered bytes, and the text of a
-- script that was read.
use Rattle.std.proofs.Common.{◌≡◌, ℕ, ◌+◌, ◌-◌, List, [], ◌∷◌, ◌++◌, drop, ap, ◌∙◌, refl, sym, Some, None, true}
use Rattle.std.proofs.Common.{false, Bool, append_assoc, if◌then◌else◌}
use Rattle.std.specs.Prelude.{◌||◌, nat_le, slice_range}
use Rattle.std.proofs.lemmas.List.{take-append-drop}
use Rattle.iol_core.specs.State.{State}
use Rattle.iol_core.specs.declared.limits.TheConstants.{MAX_AGGREGATE_BYTES}
use Rattle.iol_core.specs.declared.descriptors.Descriptor.TheVariants as on
use Rattle.iol_core.specs.declared.refusals.Refusal.TheVariants as no
use Rattle.iol_core.specs.declared.events.Call.{Call}
use Rattle.iol_core.specs.declared.events.Call.TheVariants as call
use Rattle.iol_core.specs.declared.events.Reply.{Reply}
use Rattle.iol_core.specs.declared.events.Reply.TheVariants as reply
use Rattle.iol_laws.specs.Caller as o
use Rattle.iol_laws.specs.Caller.{readable_at}
use Rattle.flash_http.specs.declared.ranges.Selection.{Selection}
use Rattle.flash_http.specs.declared.ranges.Selection.TheVariants.{Bytes}
use Rattle.flash_http.specs.Range.{selected}
use Rattle.flash_http.specs.Request.{Answer, serve, refuse}
use Rattle.flash_laws.specs.Answers.{keeps}
use Rattle.flash_laws.specs.Client.{conn_call}
use Rattle.flash_laws.specs.Conn.{Following, is_head_only, most_read, piece_end, count_of, next_call, sends_of}
use Rattle.flash_laws.specs.Conn.{resolved}
use Rattle.flash_laws.specs.Conn.{following, headed, after_taking, after_reply}
use Rattle.flash_laws.proofs.Conn.ReadableBytes.{at-start}
use Rattle.flash_laws.specs.declared.phase.FileResult.{FileResult}
use Rattle.flash_laws.specs.declared.phase.FileResult.TheVariants.{File, Text as TextOf}
use Rattle.flash_laws.specs.declared.phase.Phase.{Phase}
use Rattle.flash_laws.specs.declared.phase.Phase.TheVariants.{Receiving, DroppingInput, Opening, Reading as Reading}
use Rattle.flash_laws.specs.declared.phase.Phase.TheVariants.{ClosingFile, Slicing, DroppingWhole}
use Rattle.flash_laws.specs.declared.phase.Phase.TheVariants.{MakingHead, Joining, SendingWhole, CuttingPiece}
use Rattle.flash_laws.specs.declared.phase.Phase.TheVariants.{SendingPiece, DroppingPiece, DroppingSent, AbortingPiece}
use Rattle.flash_laws.specs.declared.phase.Phase.TheVariants.{Aborting, Disconnecting, Closed}
use Rattle.flash_laws.specs.Conn.Fits.{Has}
use Rattle.flash_laws.specs.Client.ResponseState.{is_read, is_opening}
use Rattle.flash_laws.specs.Conn.OfferedBytes.{taken_of}
use Rattle.flash_laws.specs.Site.{server}
use Rattle.flash_laws.proofs.Forms.{at}
use Rattle.flash_laws.proofs.Moves.{after-done, after-agg, after-write, after-open, after-read, either-way, either-next}

-- ---- offered bytes

abbrev pub Next : State → (expected : List ℕ) → (a taken : ℕ) → Type 0
Next m expected a taken = (bytes : List ℕ) × (after : List ℕ) × (readable_at m server a ≡ Some bytes)
    × (bytes ++ after ≡ drop taken expected)

-- the descriptor that a call writes to, and the aggregate that it writes
abbrev pub written_fd : Call → (other : ℕ) → ℕ
written_fd (call.IolWrite fd a) other = fd
written_fd k other = other

abbrev pub written : Call → (other : ℕ) → ℕ
written (call.IolWrite fd a) other = a
written k other = other

reads-none : (b : Bool) (f g a : ℕ) → (if b then call.Length f else call.IolRead f most_read) ≡ call.IolWrite g a → ⊥
reads-none true f g a e = cc (e)
reads-none false f g a e = cc (e)

pub next-expected : (m : State) (fd g a : ℕ) (buffered : List ℕ) (q : Answer) (d : Phase) (expected : List ℕ)
    → Has m q expected d
    → next_call fd (at buffered q d) ≡ call.IolWrite g a → (g ≡ fd) × Next m expected a (taken_of d)
next-expected m fd g a buffered q (SendingWhole s) expected has is =
    let same : s.agg ≡ a = ap (λ k. written k s.agg) is in
    let own : fd ≡ g = ap (λ k. written_fd k fd) is in (
      sym own,
      (
        has.0.bytes,
        has.0.after,
        ap (λ z. readable_at m server z) (sym same) ∙ has.0.is_readable,
        at-start has.0 has.1,
      ),
    )
next-expected m fd g a buffered q (SendingPiece s piece) expected has is =
    let same : piece ≡ a = ap (λ k. written k piece) is in
    let own : fd ≡ g = ap (λ k. written_fd k fd) is in
    let bytes = has.whole.bytes in
    let rest = drop (piece_end s - s.from) (drop s.from bytes) in (
      sym own,
      (
        slice_range bytes s.from (piece_end s),
        rest ++ has.whole.after,
        ap (λ z. readable_at m server z) (sym same) ∙ has.is_readable,
        sym (append_assoc (slice_range bytes s.from (piece_end s)) rest has.whole.after)
            ∙ (ap (λ (l : List ℕ). l ++ has.whole.after)
            (take-append-drop (piece_end s - s.from) (drop s.from bytes)) ∙ has.whole.next),
      ),
    )
next-expected m fd g a buffered q (Reading f) expected has is = absurd (reads-none (is_head_only q) f g a is)
next-expected m fd g a buffered q d expected has is = absurd (cc (is))

-- a write for a script's request is also the write for a file's request
pub script-writes : (fd g a : ℕ) (buffered : List ℕ) (q : Answer) (d : Phase) (b : Bool)
    → conn_call b fd (at buffered q d) ≡ call.IolWrite g a → next_call fd (at buffered q d) ≡ call.IolWrite g a
script-writes fd g a buffered q d false is = is
script-writes fd g a buffered q (Reading f) true is = absurd (cc (is))
script-writes fd g a buffered q d true is = is

-- ---- once the file is read, no file is opened or read

-- whether the phase does not open, read or close a file, or drop its aggregate
abbrev is_apart : Phase → Bool
is_apart Opening = false
is_apart (Reading f) = false
is_apart (ClosingFile f k) = false
is_apart (DroppingWhole a k) = false
is_apart d = true

-- whether a file, or a script, is still to be opened or read, or the text of a script is to run
abbrev is_reading : Phase → Bool
is_reading d = is_read d || is_opening d

abbrev Unread : Phase → Type 0
Unread d = is_reading d ≡ false

headed-unread : (n size : ℕ) (more : Following) → is_reading (headed n size more) ≡ false
headed-unread n size None = refl
headed-unread n size (Some x) = either-way Unread (nat_le (size + x.1) MAX_AGGREGATE_BYTES) refl refl

apart-unread : (buffered : List ℕ) (q : Answer) (d : Phase) (r : Reply) (received : List ℕ) → is_apart d ≡ true
    → Unread (after_reply (at buffered q d) r received).phase
apart-unread buffered q Receiving (reply.Agg n) [] left = refl
apart-unread buffered q Receiving (reply.Agg n) (b ∷ received) left = refl
apart-unread buffered q Receiving r received left = refl
apart-unread buffered q (DroppingInput a) r received left = after-done Unread r refl refl
apart-unread buffered q (Slicing a from to len) r received left = after-agg Unread r refl (λ n. refl)
apart-unread buffered q Disconnecting r received left = after-done Unread r refl refl
apart-unread buffered q Closed r received left = refl
apart-unread buffered q (MakingHead k) r received left =
    after-agg Unread r refl (λ n. headed-unread n (count_of received) (following k))
apart-unread buffered q (Joining a size body len) r received left = after-agg Unread r refl (λ n. refl)
apart-unread buffered q (SendingWhole s) r received left =
    after-write Unread r refl refl (λ n. either-next Unread (after_taking s n) refl refl)
apart-unread buffered q (CuttingPiece s) r received left = after-agg Unread r refl (λ n. refl)
apart-unread buffered q (SendingPiece s piece) r received left = after-write Unread r refl refl (λ n. refl)
apart-unread buffered q (DroppingPiece s piece) r received left =
    after-done Unread r refl (either-next Unread s refl refl)
apart-unread buffered q (DroppingSent a taken (Some x)) r received left = after-done Unread r refl refl
apart-unread buffered q (DroppingSent a taken None) r received left =
    after-done Unread r refl (either-way Unread (keeps q) refl refl)
apart-unread buffered q (AbortingPiece piece a more) r received left = after-done Unread r refl refl
apart-unread buffered q (Aborting a (Some x)) r received left = after-done Unread r refl refl
apart-unread buffered q (Aborting a None) r received left = after-done Unread r refl refl
apart-unread buffered q d r received left = absurd (cc (left))

neither-true : (b c : Bool) → (b || c) ≡ false → (b ≡ false) × (c ≡ false)
neither-true true c is = absurd (cc (is))
neither-true false c is = (refl, is)

resolved-unread : (f : ℕ) (q : Answer) (k : FileResult) → is_read (ClosingFile f k) ≡ false
    → is_read (resolved q k) ≡ false
resolved-unread f (serve w) (File a len) was = by (selected w.range len)
  where
    by : (sel : Selection) → is_read (sends_of sel a len) ≡ false
    by (Bytes first last) = refl
    by x = refl
resolved-unread f x (TextOf a true) was = absurd (cc (was))
resolved-unread f q k was = refl

resolved-read : (q : Answer) (k : FileResult) → is_opening (resolved q k) ≡ false
resolved-read (serve w) (File a len) = by (selected w.range len)
  where
    by : (sel : Selection) → is_opening (sends_of sel a len) ≡ false
    by (Bytes first last) = refl
    by x = refl
resolved-read (refuse status head_only close) (File a len) = refl
resolved-read q k = refl

abbrev NotRead : Phase → Type 0
NotRead d = is_read d ≡ false

-- a call for a file reads no text of a script
pub unread-after_reply : (buffered : List ℕ) (q : Answer) (d : Phase) (r : Reply) (received : List ℕ)
    → is_read d ≡ false
    → is_read (after_reply (at buffered q d) r received).phase ≡ false
unread-after_reply buffered q Opening r received was = after-open NotRead r refl (λ f. refl) (λ x. refl)
unread-after_reply buffered q (Reading f) r received was = after-read NotRead r refl (λ n. refl) (λ k. refl) (λ x. refl)
unread-after_reply buffered q (ClosingFile f k) r received was = after-done NotRead r was (resolved-unread f q k was)
unread-after_reply buffered q (DroppingWhole a k) r received was = after-done NotRead r was refl
unread-after_reply buffered q d r received was =
    (neither-true (is_read (after_reply (at buffered q d) r received).phase)
    (is_opening (after_reply (at buffered q d) r received).phase) (apart-unread buffered q d r received refl)).0

-- once the file is read, no file is opened or read
pub read-after_reply : (buffered : List ℕ) (q : Answer) (d : Phase) (r : Reply) (received : List ℕ)
    → is_opening d ≡ false
    → is_opening (after_reply (at buffered q d) r received).phase ≡ false
read-after_reply buffered q Opening r received was = absurd (cc (was))
read-after_reply buffered q (Reading f) r received was = absurd (cc (was))
read-after_reply buffered q (ClosingFile f k) r received was =
    after-done (λ d. is_opening d ≡ false) r refl (resolved-read q k)
read-after_reply buffered q (DroppingWhole a k) r received was = after-done (λ d. is_opening d ≡ false) r refl refl
read-after_reply buffered q d r received was =
    (neither-true (is_read (after_reply (at buffered q d) r received).phase)
    (is_opening (after_reply (at buffered q d) r received).phase) (apart-unread buffered q d r received refl)).1

-- the request is unchanged
pub asks-after_reply : (buffered : List ℕ) (q : Answer) (d : Phase) (r : Reply) (received : List ℕ)
    → (after_reply (at buffered q d) r received).request ≡ q
asks-after_reply buffered q Receiving (reply.Agg n) [] = refl
asks-after_reply buffered q Receiving (reply.Agg n) (b ∷ received) = refl
asks-after_reply buffered q d r received = refl
