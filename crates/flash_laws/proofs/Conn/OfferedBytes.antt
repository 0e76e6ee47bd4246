-- The offered bytes are those of the response that are not yet taken, for every run.
use Rattle.std.proofs.Common.{◌≡◌, ℕ, ◌+◌, ◌-◌, ◌≤◌, List, [], ◌∷◌, ◌++◌, length, take, drop, ap, ◌∙◌, refl, sym, subst}
use Rattle.std.proofs.Common.{Some, None, true, false, Bool, append_assoc, if◌then◌else◌}
use Rattle.std.specs.Prelude.{slice_range}
use Rattle.std.proofs.lemmas.List.{take-append-drop}
use Rattle.iol_core.specs.Access.{HasAccess}
use Rattle.iol_core.specs.State.{State, descriptor, content, file, may_read, is_live}
use Rattle.iol_core.specs.Run.{StepsTo}
use Rattle.iol_core.specs.declared.descriptors.Descriptor.TheVariants as on
use Rattle.iol_core.specs.declared.descriptors.Mode.TheVariants as modes
use Rattle.iol_core.specs.declared.refusals.Refusal.TheVariants as no
use Rattle.iol_core.specs.declared.events.Call.{Call}
use Rattle.iol_core.specs.declared.events.Call.TheVariants as call
use Rattle.iol_core.specs.declared.events.Event.TheVariants as event
use Rattle.iol_core.specs.declared.events.Reply.{Reply}
use Rattle.iol_core.specs.declared.events.Reply.TheVariants as reply
use Rattle.iol_laws.specs.Frame.{EachStepLeavesTheRest}
use Rattle.iol_laws.specs.Order.{IsOrderly}
use Rattle.iol_laws.specs.Caller as o
use Rattle.iol_laws.specs.Caller.{CallsServeTheirDomain, readable_at}
use Rattle.iol_laws.specs.CallerFiles as of
use Rattle.iol_laws.specs.CallerFiles.{FileCallsServeTheirDomain}
use Rattle.iol_laws.specs.Reasons.{RefusalsTellWhy}
use Rattle.iol_laws.specs.RefusalsLeft.{RefusalsThatAreLeft}
use Rattle.flash_http.specs.Range.{selected}
use Rattle.flash_http.specs.Request.{Answer, serve, refuse, Wanted}
use Rattle.flash_laws.specs.Answers.{Outcome, Found, Failed, body_unless, chosen, file_text, unsatisfiable, response}
use Rattle.flash_laws.specs.Conn.{is_head_only, most_read, piece_end, name_of, next_call, begins, status_of}
use Rattle.flash_laws.specs.Conn.{after_receive}
use Rattle.flash_laws.specs.Conn.{after_reply}
use Rattle.flash_laws.specs.declared.phase.Phase.{Phase}
use Rattle.flash_laws.specs.declared.phase.Phase.TheVariants.{Receiving, Opening, Reading as Reading}
use Rattle.flash_laws.specs.declared.phase.Phase.TheVariants.{SendingWhole, SendingPiece, DroppingSent}
use Rattle.flash_laws.specs.Conn.Fits.{IsFile, Has, is_closing, Names}
use Rattle.flash_laws.specs.Site.{server}
use Rattle.flash_laws.specs.Conn.OfferedBytes.{HasAnswer, FirstCall, Updates, taken_of, IsNextOf, OffersTheResponse}
use Rattle.flash_laws.proofs.Forms.{at}
use Rattle.flash_laws.proofs.Conn.Responses.{some-inj}
use Rattle.flash_laws.proofs.Counts.{counted, short-take}
use Rattle.flash_laws.proofs.Conn.AnswerParts as having
use Rattle.flash_laws.proofs.Conn.ReadableBytes.{readable-stays, has-stays, at-start}
use Rattle.flash_laws.proofs.Conn.DoneCalls.{conn-moves}
use Rattle.flash_laws.proofs.Conn.Progress.{rank, conn-nears, conn-reads}
use Rattle.flash_laws.proofs.Conn.TakenBytes.{takes, breaks, closes}
use Rattle.flash_laws.proofs.Moves.{either-of}

starts : (m : State) (fd : ℕ) (buffered : List ℕ) (q : Answer) (o : Outcome)
    → FirstCall q (next_call fd (at buffered q (begins q))) × HasAnswer m (at buffered q (begins q)) o
starts m fd buffered (serve w) o = (refl, tt)
starts m fd buffered (refuse status head_only close) o = (refl, refl)

-- the aggregate that a call writes
abbrev written : Call → (other : ℕ) → ℕ
written (call.IolWrite fd a) other = a
written k other = other

next-of : (m : State) (fd a : ℕ) (buffered : List ℕ) (q : Answer) (d : Phase) (o : Outcome)
    → Has m q (response q o) d → next_call fd (at buffered q d) ≡ call.IolWrite fd a → IsNextOf m q o a (taken_of d)
next-of m fd a buffered q (SendingWhole s) o has is =
    let same : s.agg ≡ a = ap (λ k. written k s.agg) is in
    record {
      bytes = has.0.bytes;
      after = has.0.after;
      is_readable = ap (λ z. readable_at m server z) (sym same) ∙ has.0.is_readable;
      next = at-start has.0 has.1;
    }
next-of m fd a buffered q (SendingPiece s piece) o has is =
    let same : piece ≡ a = ap (λ k. written k piece) is in
    record {
      bytes = slice_range has.whole.bytes s.from (piece_end s);
      after = drop (piece_end s - s.from) (drop s.from has.whole.bytes) ++ has.whole.after;
      is_readable = ap (λ z. readable_at m server z) (sym same) ∙ has.is_readable;
      next =
          sym (append_assoc (slice_range has.whole.bytes s.from (piece_end s))
          (drop (piece_end s - s.from) (drop s.from has.whole.bytes)) has.whole.after)
          ∙ (ap (λ (l : List ℕ). l ++ has.whole.after)
          (take-append-drop (piece_end s - s.from) (drop s.from has.whole.bytes)) ∙ has.whole.next);
    }
next-of m fd a buffered q (Reading f) o has is =
    absurd (either-of (λ (k : Call). k ≡ call.IolWrite fd a → ⊥) (is_head_only q) (call.Length f)
    (call.IolRead f most_read) (λ is. cc) (λ is. cc) is)
next-of m fd a buffered q d o has is = absurd (cc (is))

module _ (steps : EachStepLeavesTheRest) (own : CallsServeTheirDomain) (files : FileCallsServeTheirDomain)
    (m n : State) (order : IsOrderly m) (lives : is_live m server ≡ true) (buffered : List ℕ) where
  -- the outcome after a reply, for which the machine has the data of the next phase
  abbrev AfterReply : Answer → Phase → Reply → (received : List ℕ) → Outcome → Type 0
  AfterReply q d r received before = (after : Outcome) × Updates d r received before after
      × HasAnswer n (after_reply (at buffered q d) r received) after

  opens : (q : Answer) (r : Reply) (received : List ℕ) (before : Outcome)
      → Has m q (response q before) Opening
      → StepsTo m (event.Call server (call.OpenFile (name_of q) modes.Read)) r n
      → AfterReply q Opening r received before
  opens (refuse status head_only close) r received before has step = absurd has
  opens (serve w) r received before has step = by r (files.opens m n server w.name modes.Read r lives step)
    where
      by : (r : Reply) → of.Opening m server w.name modes.Read r n → AfterReply (serve w) Opening r received before
      by (reply.Fd g) did = (before, refl, (tt, (did.file_is, 0, did.open_on)))
      by (reply.Refused no.WouldBlock) did = (Failed 503, refl, tt)
      by (reply.Refused no.NoFile) did = (Failed 404, refl, refl)
      by (reply.Refused (no.Denied p)) did = (Failed 403, refl, refl)
      by (reply.Refused (no.Fault f)) did = (Failed 500, refl, refl)
      by (reply.Refused y) did = (Failed 503, refl, refl)
      by r did = absurd did

  reads : (w : Wanted) (g i pos : ℕ) (r : Reply) (received : List ℕ) (before : Outcome)
      → descriptor m server g ≡ Some (on.File i pos modes.Read) → may_read m server (file m i).pool ≡ true
      → StepsTo m (event.Call server (if w.head_only then call.Length g else call.IolRead g most_read)) r n
      → Names n r received → AfterReply (serve w) (Reading g) r received before
  reads w g i pos r received before opened may step names = which w.head_only refl step
    where
      still : n ≡ m → IsFile n g
      still same =
          (i, pos, subst (λ (s : State). descriptor s server g ≡ Some (on.File i pos modes.Read)) (sym same) opened)

      measured : (r : Reply) → w.head_only ≡ true → of.Reports m (length (content m i)) r n
          → AfterReply (serve w) (Reading g) r received before
      measured (reply.Count k) is did = (
        Found (content m i),
        (content m i, did.0, refl),
        (
          still did.1,
          (ap (λ b. file_text w (length (content m i))
              ++ body_unless b (chosen (selected w.range (length (content m i))) (content m i))) is
              ∙ (ap (λ z. file_text w z ++ []) (sym did.0)
              ∙ ap (λ b. file_text w k ++ body_unless b unsatisfiable) (sym is))),
        ),
      )
      measured r is did = absurd did

      whole : (r : Reply) → w.head_only ≡ false
          → of.ReadsFile m server g i pos modes.Read (take most_read (drop pos (content m i))) r n
          → Names n r received → AfterReply (serve w) (Reading g) r received before
      whole (reply.Agg a) is did names =
          let same : take most_read (drop pos (content m i)) ≡ received = some-inj _ _ (sym did.is_readable ∙ names) in (
            Found received,
            refl,
            (
              (i, pos + length (take most_read (drop pos (content m i))), did.moves),
              record {
                bytes = received;
                is_readable = names;
                count =
                    counted received
                    (subst (λ (l : List ℕ). length l ≤ most_read) same (short-take most_read (drop pos (content m i))));
                whole = is;
                expected_is = refl;
              },
            ),
          )
      whole (reply.Refused no.WouldBlock) is did names = (Failed 503, refl, (tt, still did.1))
      whole (reply.Refused y) is did names = (Failed (status_of y), refl, (still did.1, refl))
      whole r is did names = absurd did

      which : (b : Bool) → w.head_only ≡ b
          → StepsTo m (event.Call server (if b then call.Length g else call.IolRead g most_read)) r n
          → AfterReply (serve w) (Reading g) r received before
      which true is step = measured r is (files.measures m n server g i pos modes.Read r lives opened step)
      which false is step =
          whole r is (files.reads_file m n server g i pos most_read modes.Read r order lives may refl opened step) names

  -- the bytes received are in an aggregate that is to be dropped
  rests : (q : Answer) (r : Reply) (received : List ℕ) (o : Outcome) → Names n r received
      → HasAnswer n (after_receive buffered q r received) o
  rests q (reply.Agg a) [] o names = record { after = []; readable = ([], names); follows = refl; apart = refl }
  rests q (reply.Agg a) (b ∷ l) o names = (b ∷ l, names)
  rests q r received o names = tt

  -- any call of a connection except its last
  pub replied : (fd c : ℕ) (q : Answer) (d : Phase) (r : Reply) (received : List ℕ) (before : Outcome)
      → HasAccess m → descriptor m server fd ≡ Some (on.Connection c) → is_closing d ≡ false
      → Has m q (response q before) d → StepsTo m (event.Call server (next_call fd (at buffered q d))) r n
      → Names n r received
      → AfterReply q d r received before
  replied fd c q Receiving r received before access open_on open_yet has step names =
      (before, refl, rests q r received before names)
  replied fd c q Opening r received before access open_on open_yet has step names = opens q r received before has step
  replied fd c (refuse status head_only close) (Reading g) r received before access open_on open_yet has step names =
      absurd has.0
  replied fd c (serve w) (Reading g) r received before access open_on open_yet has step names =
      reads w g has.1.0 has.1.1 r received before has.1.2 (access.fds server g has.1.0 has.1.1 modes.Read has.1.2) step
      names
  replied fd c q d r received before access open_on open_yet has step names = (
    before,
    refl,
    having.phase steps own m n order buffered fd c q d (response q before) r received open_on refl open_yet
        has step names,
  )

-- when a response is sent, all of it is taken
whole : (m : State) (q : Answer) (expected : List ℕ) (d : Phase) (a taken : ℕ) → d ≡ DroppingSent a taken None
    → Has m q expected d → drop taken expected ≡ []
whole m q expected d a taken is has =
    let all : Has m q expected (DroppingSent a taken None) = subst (λ (e : Phase). Has m q expected e) is has in
    sym all.next ∙ all.follows

pub offers_the_response : EachStepLeavesTheRest → CallsServeTheirDomain → FileCallsServeTheirDomain → RefusalsTellWhy
    → RefusalsThatAreLeft → OffersTheResponse
offers_the_response steps own files why may = record {
  starts = starts;
  replied = λ m n fd c x r received before order access lives open_on open_yet has step names. replied steps own files m
      n order lives x.buffered fd c x.request x.phase r received before access open_on open_yet has step names;
  stays =
      λ m n x e r o step aggs fds has. has-stays m n x.request (response x.request o) x.phase
      (λ a l u readable. readable-stays steps m n e r step a l readable (aggs a u))
      (λ g y u opens. (steps.leaves m n e r step).fds server g y opens (fds g u)) has;
  offers = λ m fd a x o has is. next-of m fd a x.buffered x.request x.phase o has is;
  takes = λ m n fd c x r received o order open_on has step at_is on busy. takes own m n order fd c open_on x.request
      (response x.request o) x.buffered x.phase r received has step at_is on busy;
  whole = λ m x o a taken is has. whole m x.request (response x.request o) x.phase a taken is has;
  breaks = λ m n fd c x r received o open_on busy has step at_is off. breaks why m n fd c open_on x.buffered x.request
      received
      x.phase r busy step at_is off;
  closes = λ m n fd c x r received order lives open_on is step. closes own may m n fd c x.buffered x.request x.phase r
      received
      order lives open_on is step;
  rank = λ x. rank x.request x.phase;
  nears = λ m n fd c x r received o order lives open_on busy has can step names.
      conn-nears own may m n fd c x.buffered x.request x.phase (response x.request o) r received order lives open_on
      busy has can step
      names;
  reads = λ m n fd c x r received lives open_on rests step same. conn-reads why may m n fd c x.buffered x.request
      x.phase r
      received lives open_on rests step same;
  moves = conn-moves;
}
