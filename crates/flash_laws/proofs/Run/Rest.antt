-- The rest of a response is sent by the phases of a file's response, and the bytes that the connection took count as
-- taken.
use Rattle.std.proofs.Common.{inl, ◌≡◌, ℕ, ◌+◌, ◌==◌, ◌≤◌, List, [], ◌++◌, length, drop, ap, ◌∙◌, refl, sym, subst}
use Rattle.std.proofs.Common.{arith, Some, None, true, false, Bool, append-nil, length-append, length-drop}
use Rattle.std.proofs.Common.{if◌then◌else◌}
use Rattle.std.specs.Prelude.{not, slice_range}
use Rattle.std.proofs.lemmas.Bool.{or_parts}
use Rattle.iol_core.specs.State.{State, descriptor}
use Rattle.iol_core.specs.Run.{StepsTo}
use Rattle.iol_core.specs.Values.{gives_up}
use Rattle.iol_core.specs.declared.descriptors.Descriptor.TheVariants as on
use Rattle.iol_core.specs.declared.events.Call.{Call}
use Rattle.iol_core.specs.declared.events.Call.TheVariants as call
use Rattle.iol_core.specs.declared.events.Event.TheVariants as event
use Rattle.iol_core.specs.declared.events.Reply.{Reply}
use Rattle.iol_core.specs.declared.events.Reply.TheVariants as reply
use Rattle.iol_laws.specs.Caller as caller
use Rattle.iol_laws.specs.Caller.{CallsServeTheirDomain}
use Rattle.iol_laws.specs.Frame.{EachStepLeavesTheRest}
use Rattle.iol_laws.specs.Order.{IsOrderly}
use Rattle.flash_http.specs.Request.{serve, Wanted}
use Rattle.flash_laws.specs.Answers.{error_text}
use Rattle.flash_laws.specs.Conn as conn
use Rattle.flash_laws.specs.Conn.{Following, has_followed, piece_end, after_taking}
use Rattle.flash_laws.specs.Conn.Fits.{Has, Names, HoldsRestFrom}
use Rattle.flash_laws.specs.Conn.Progress.{is_busy}
use Rattle.flash_laws.specs.Run.Fits.{Progress, Ran, Broken, NotRun, IsLeft, HasNone, sent_agg, IsPart, IsSending}
use Rattle.flash_laws.specs.Run.Fits.{last_agg, HasRest, HasLeft}
use Rattle.flash_laws.specs.Conn.OfferedBytes.{taken_of, newly_taken, is_dropping}
use Rattle.flash_laws.specs.Run.OfferedBytes.{takes_on, PartUpdates}
use Rattle.flash_laws.specs.Run.{in_phase, is_left}
use Rattle.flash_laws.specs.Site.{server}
use Rattle.flash_laws.specs.declared.phase.Payload.TheVariants.{Error}
use Rattle.flash_laws.specs.declared.phase.Sending.{Sending}
use Rattle.flash_laws.specs.declared.phase.Phase.{Phase}
use Rattle.flash_laws.specs.declared.phase.Phase.TheVariants as phase
use Rattle.flash_laws.proofs.Conn.AnswerParts as having
use Rattle.flash_laws.proofs.Conn.ReadableBytes.{readable-stays}
use Rattle.flash_laws.proofs.Lists.{turned, few-taken, few-whole, least-taken}
use Rattle.flash_laws.proofs.Run.Stays.{last-on}
use Rattle.flash_laws.proofs.Moves.{written, after-done, after-agg, after-write, either-next}
use Rattle.flash_laws.proofs.Conn.TakenBytes.{takes}

-- the data of a phase that sends all of the expected bytes
abbrev pub SendsAll : State → Wanted → (expected : List ℕ) → Phase → Type 0
SendsAll s w expected d = Has s (serve w) expected d × IsPart s (sent_agg d) expected × (taken_of d ≤ length expected)

abbrev pub is_sent : Phase → Bool
is_sent (phase.DroppingSent a taken more) = true
is_sent d = false

-- at most the length of a part is taken
most-left : (xs after part : List ℕ) (taken : ℕ) → xs ++ after ≡ drop taken part → taken ≤ length part
    → taken + length xs ≤ length part
most-left xs after part taken next within =
    let e = length-append xs after in
    let f = length-drop taken part in
    let g = ap (λ (l : List ℕ). length l) next in
    omega (arith, e, f, g, within)

-- if no bytes are left, all of the part is taken
pub whole-taken : (part : List ℕ) (taken : ℕ) → [] ≡ drop taken part → taken ≤ length part → length part ≡ taken
whole-taken part taken none within =
    let e = ap (λ (l : List ℕ). length l) none in
    let f = length-drop taken part in
    omega (arith, e, f, within)

-- if all of the rest is taken, nothing is left
left-none : (w : Wanted) (o : Progress) (expected : List ℕ) → IsLeft w o expected → IsLeft w (takes_on o expected) []
left-none w (Ran received ended past) expected left = (left.0, left.1 ∙ sym (append-nil (past ++ expected)))
left-none w Broken expected left = absurd left
left-none w (NotRun status past) expected left = left ∙ sym (append-nil (past ++ expected))

none-left : (w : Wanted) (o : Progress) → w.keep ≡ false → IsLeft w o [] → HasNone w o
none-left w Broken closes left = absurd left
none-left w x closes left = (left, inl closes)

-- a phase whose aggregate has the expected bytes sends them
pub part-sends : (m : State) (expected : List ℕ) (d : Phase) → IsPart m (sent_agg d) expected
    → taken_of d ≤ length expected → IsSending m expected d
part-sends m expected (phase.MakingHead (Error status)) is within = tt
part-sends m expected d is within = (is, within)

pub busy : (m : State) (expected : List ℕ) (d : Phase) → IsSending m expected d → is_busy d ≡ true
busy m expected phase.Receiving is = absurd is.0
busy m expected phase.Disconnecting is = absurd is.0
busy m expected phase.Closed is = absurd is.0
busy m expected d is = refl

-- a phase that still sends has the rest
pub is-rest : (m : State) (w : Wanted) (o : Progress) (d : Phase) → is_left d ≡ true → HasLeft m w o d → HasRest m w o d
is-rest m w o phase.Receiving is has = absurd (cc (is))
is-rest m w o phase.Disconnecting is has = absurd (cc (is))
is-rest m w o d is has = has

module _ (steps : EachStepLeavesTheRest) (own : CallsServeTheirDomain) (m n : State) (order : IsOrderly m) (w : Wanted)
    (expected : List ℕ) where
  abbrev Sends : State → Phase → Type 0
  Sends s d = SendsAll s w expected d

  is_readable : (k : Call) (r : Reply) → StepsTo m (event.Call server k) r n → (a : ℕ) (more : Following)
      → gives_up (event.Call server k) server a ≡ false → IsPart m (last_agg a more) expected
      → IsPart n (last_agg a more) expected
  is_readable k r step a more un is =
      last-on m n a more expected (λ is. readable-stays steps m n (event.Call server k) r step a expected is un) is

  -- ---- the number of bytes taken

  -- if the part is not yet sent whole, the next phase is busy
  abbrev IsBusy : Phase → Type 0
  IsBusy e = is_busy e ≡ true

  stays-busy : (d : Phase) (r : Reply) (received : List ℕ) → Sends m d → is_sent d ≡ false → is_dropping d ≡ false
      → IsBusy (conn.after_reply (in_phase w d) r received).phase
  stays-busy (phase.SendingWhole s) r received has unsent at =
      after-write IsBusy r refl refl (λ k. either-next IsBusy (after_taking s k) refl refl)
  stays-busy (phase.CuttingPiece s) r received has unsent at = after-agg IsBusy r refl (λ x. refl)
  stays-busy (phase.SendingPiece s piece) r received has unsent at = after-write IsBusy r refl refl (λ k. refl)
  stays-busy (phase.DroppingPiece s piece) r received has unsent at =
      after-done IsBusy r refl (either-next IsBusy s refl refl)
  stays-busy (phase.DroppingSent a taken None) r received has unsent at = absurd (cc (unsent))
  stays-busy (phase.AbortingPiece piece a None) r received has unsent at = absurd (cc (at))
  stays-busy (phase.Aborting a None) r received has unsent at = absurd (cc (at))
  stays-busy d r received has unsent at = absurd has.1

  -- while a part is sent and not dropped, the bytes that the connection took are counted
  pub counts : (fd c : ℕ) (d : Phase) (r : Reply) (received : List ℕ) → descriptor m server fd ≡ Some (on.Connection c)
      → Sends m d
      → StepsTo m (event.Call server (conn.next_call fd (in_phase w d))) r n → is_sent d ≡ false → is_dropping d ≡ false
      → is_dropping (conn.after_reply (in_phase w d) r received).phase ≡ false
      → taken_of (conn.after_reply (in_phase w d) r received).phase ≡ taken_of d + newly_taken fd
      (conn.next_call fd (in_phase w d)) r
  counts fd c d r received open_on has step unsent at on =
      takes own m n order fd c open_on (serve w) expected [] d r received has.0 step at on
      (stays-busy d r received has unsent at)

  -- ---- the data of a phase after the reply to its call

  abbrev Goes : Phase → Type 0
  Goes e = IsPart n (sent_agg e) expected × (taken_of e ≤ length expected)

  both : (d : Phase) → Has n (serve w) expected d → Goes d → Sends n d
  both d has goes = (has, goes.0, goes.1)

  -- the first k of the remaining bytes are taken
  taking : (s : Sending) (k : ℕ) (h : HoldsRestFrom m expected s) → s.taken ≤ length expected
      → k ≤ length (drop s.from h.bytes) → (after_taking s k).taken ≤ length expected
  taking s k h within few =
      let most = most-left (drop s.from h.bytes) h.after expected s.taken h.next within in
      let same = least-taken k s.from s.len h.bytes h.size few in
      omega (arith, most, few, same)

  pub sends : (fd c : ℕ) (s : Sending) (r : Reply) → descriptor m server fd ≡ Some (on.Connection c)
      → Sends m (phase.SendingWhole s)
      → StepsTo m (event.Call server (call.IolWrite fd s.agg)) r n → Sends n (conn.after_send s r)
  sends fd c s r open_on has step =
      let here = is_readable (call.IolWrite fd s.agg) r step s.agg s.more refl has.1 in
      let h : HoldsRestFrom m expected s = has.0.0 in
      both (conn.after_send s r) (having.sends steps own m n order (serve w) fd c s expected r open_on has.0 step)
      (written m n Goes c h.bytes r (own.write_conn m n server fd c s.agg h.bytes r order open_on h.is_readable step)
      (λ same. (here, has.2)) (λ same. (here, omega arith))
      (λ k puts. let fit = taking s k h has.2 (few-whole k s h.bytes has.0.1 puts.within) in
      either-next Goes (after_taking s k) (here, fit) (here, fit)))

  pub cuts : (s : Sending) (r : Reply) → Sends m (phase.CuttingPiece s)
      → StepsTo m (event.Call server (call.AggCut s.agg s.from (piece_end s))) r n → Sends n (conn.after_cut s r)
  cuts s r has step =
      let here = is_readable (call.AggCut s.agg s.from (piece_end s)) r step s.agg s.more refl has.1 in
      both (conn.after_cut s r) (having.cuts steps own m n order (serve w) s expected r has.0 step)
      (after-agg Goes r (here, has.2) (λ x. (here, has.2)))

  pub offers : (fd c : ℕ) (s : Sending) (piece : ℕ) (r : Reply) → descriptor m server fd ≡ Some (on.Connection c)
      → Sends m (phase.SendingPiece s piece)
      → StepsTo m (event.Call server (call.IolWrite fd piece)) r n → Sends n (conn.after_offer s piece r)
  offers fd c s piece r open_on has step =
      let here = is_readable (call.IolWrite fd piece) r step s.agg s.more refl has.1 in
      let bytes = slice_range has.0.whole.bytes s.from (piece_end s) in
      both (conn.after_offer s piece r)
      (having.offers_piece steps own m n order (serve w) fd c s piece expected r open_on has.0 step)
      (written m n Goes c bytes r (own.write_conn m n server fd c piece bytes r order open_on has.0.is_readable step)
      (λ same. (here, has.2)) (λ same. (here, omega arith))
      (λ k puts. (here, taking s k has.0.whole has.2 (few-taken k s has.0.whole.bytes puts.within))))

  pub swaps : (s : Sending) (piece : ℕ) (r : Reply) → Sends m (phase.DroppingPiece s piece)
      → StepsTo m (event.Call server (call.AggDrop piece)) r n → Sends n (conn.after_swap s piece r)
  swaps s piece r has step =
      let other = (or_parts (s.agg == piece) (has_followed s.more piece) has.0.1).0 in
      let here = is_readable (call.AggDrop piece) r step s.agg s.more (turned s.agg piece other) has.1 in
      both (conn.after_swap s piece r) (having.swaps steps own m n order (serve w) s piece expected r has.0 step)
      (after-done Goes r (here, has.2) (either-next Goes s (here, has.2) (here, has.2)))

  pub breaks : (piece a : ℕ) (r : Reply) → Sends m (phase.AbortingPiece piece a None)
      → StepsTo m (event.Call server (call.AggDrop piece)) r n → Sends n (conn.after_break piece a None r)
  breaks piece a r has step =
      let here = is_readable (call.AggDrop piece) r step a None (turned a piece (or_parts (a == piece) false has.0.1).0)
      has.1 in
      both (conn.after_break piece a None r)
      (having.breaks steps own m n order (serve w) piece a None expected r has.0 step)
      (after-done Goes r (here, has.2) (here, omega arith))

  -- ---- the rest

  -- the known part of the response after the reply, and the rest that is left
  abbrev AfterReply : Phase → Phase → Reply → Progress → Type 0
  AfterReply d e r before = (after : Progress) × PartUpdates m d r before after × HasLeft n w after e

  heads : (status : ℕ) (r : Reply) (received : List ℕ) (o : Progress) → IsLeft w o expected
      → Has m (serve w) expected (phase.MakingHead (Error status))
      → StepsTo m (event.Call server (call.AggMake (error_text status w.head_only (not w.keep)))) r n
      → Names n r received
      → HasRest n w o (conn.after_head (Error status) r received)
  heads status r received o left has step names =
      by r (own.make m n server (error_text status w.head_only (not w.keep)) r order step)
      (having.heads steps own m n order (serve w) (Error status) expected r received has step names)
    where
      by : (r : Reply) → caller.Makes m server (error_text status w.head_only (not w.keep)) r n
          → Has n (serve w) expected (conn.after_head (Error status) r received)
          → HasRest n w o (conn.after_head (Error status) r received)
      by (reply.Agg x) did next =
          record {
            expected = expected;
            left = left;
            has = next;
            sends = (did.0 ∙ ap (λ (l : List ℕ). Some l) (sym has), omega arith);
          }
      by (reply.Refused y) did next = record { expected = expected; left = left; has = next; sends = tt }
      by r did next = absurd did

  -- all of the rest is sent
  sent : (a taken : ℕ) (r : Reply) (o : Progress) → IsLeft w o expected → Sends m (phase.DroppingSent a taken None)
      → StepsTo m (event.Call server (call.AggDrop a)) r n
      → AfterReply (phase.DroppingSent a taken None) (conn.after_taken (serve w) a taken None r) r o
  sent a taken r o left has step = by r (own.drops m n server a r order step)
    where
      over : (b : Bool) → w.keep ≡ b
          → HasLeft n w (takes_on o expected) (if b then phase.Receiving else phase.Disconnecting)
      over true is = (left-none w o expected left, is)
      over false is = none-left w (takes_on o expected) is (left-none w o expected left)

      by : (r : Reply) → caller.Drops m server a r n
          → AfterReply (phase.DroppingSent a taken None) (conn.after_taken (serve w) a taken None r) r o
      by reply.Done did = (takes_on o expected, (expected, has.1, refl), over w.keep refl)
      by (reply.Refused y) did = (
        o,
        refl,
        subst (λ (s : State). HasRest s w o (phase.DroppingSent a taken None)) (sym did)
            (record { expected = expected; left = left; has = has.0; sends = (has.1, has.2) }),
      )
      by r did = absurd did

  -- the rest is aborted
  drops : (a : ℕ) (r : Reply) (o : Progress) → IsLeft w o expected → Sends m (phase.Aborting a None)
      → StepsTo m (event.Call server (call.AggDrop a)) r n
      → AfterReply (phase.Aborting a None) (conn.after_drop a None r) r o
  drops a r o left has step = by r (own.drops m n server a r order step)
    where
      by : (r : Reply) → caller.Drops m server a r n → AfterReply (phase.Aborting a None) (conn.after_drop a None r) r o
      by reply.Done did = (Broken, refl, tt)
      by (reply.Refused y) did = (
        o,
        refl,
        subst (λ (s : State). HasRest s w o (phase.Aborting a None)) (sym did)
            (record { expected = expected; left = left; has = has.0; sends = (has.1, has.2) }),
      )
      by r did = absurd did

  -- a phase that continues to send
  proceeds-on : (o : Progress) → IsLeft w o expected → (e : Phase) → Sends n e → HasLeft n w o e
  proceeds-on o left phase.Receiving has = absurd has.1
  proceeds-on o left phase.Disconnecting has = absurd has.1
  proceeds-on o left (phase.MakingHead (Error status)) has = absurd has.1
  proceeds-on o left e has = record { expected = expected; left = left; has = has.0; sends = (has.1, has.2) }

  pub leaving : (fd c : ℕ) (d : Phase) (r : Reply) (received : List ℕ) (o : Progress) → IsLeft w o expected
      → Has m (serve w) expected d → IsSending m expected d
      → descriptor m server fd ≡ Some (on.Connection c)
      → StepsTo m (event.Call server (conn.next_call fd (in_phase w d))) r n → Names n r received
      → AfterReply d (conn.after_reply (in_phase w d) r received).phase r o
  leaving fd c (phase.MakingHead (Error status)) r received o left has is open_on step names =
      (o, refl, by r (heads status r received o left has step names))
    where
      by : (r : Reply) → HasRest n w o (conn.after_head (Error status) r received)
          → HasLeft n w o (conn.after_head (Error status) r received)
      by (reply.Agg x) h = h
      by r h = h
  leaving fd c (phase.SendingWhole s) r received o left has is open_on step names =
      (o, refl, proceeds-on o left (conn.after_send s r) (sends fd c s r open_on (has, is.0, is.1) step))
  leaving fd c (phase.CuttingPiece s) r received o left has is open_on step names =
      (o, refl, proceeds-on o left (conn.after_cut s r) (cuts s r (has, is.0, is.1) step))
  leaving fd c (phase.SendingPiece s piece) r received o left has is open_on step names =
      (o, refl, proceeds-on o left (conn.after_offer s piece r) (offers fd c s piece r open_on (has, is.0, is.1) step))
  leaving fd c (phase.DroppingPiece s piece) r received o left has is open_on step names =
      (o, refl, proceeds-on o left (conn.after_swap s piece r) (swaps s piece r (has, is.0, is.1) step))
  leaving fd c (phase.AbortingPiece piece a None) r received o left has is open_on step names =
      (o, refl, proceeds-on o left (conn.after_break piece a None r) (breaks piece a r (has, is.0, is.1) step))
  leaving fd c (phase.DroppingSent a taken None) r received o left has is open_on step names =
      sent a taken r o left (has, is.0, is.1) step
  leaving fd c (phase.Aborting a None) r received o left has is open_on step names =
      drops a r o left (has, is.0, is.1) step
  leaving fd c d r received o left has is open_on step names = absurd is.0
