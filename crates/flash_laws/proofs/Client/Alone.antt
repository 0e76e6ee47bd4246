-- After a reply to its call, a client without a running script has the data for its next step, with the known results.
use Rattle.std.proofs.Common.{◌≡◌, ℕ, ◌+◌, List, [], ◌∷◌, length, take, drop, refl, sym, subst, Some, None, true, false}
use Rattle.std.proofs.Common.{Bool, if◌then◌else◌}
use Rattle.iol_core.specs.Access.{HasAccess}
use Rattle.iol_core.specs.State.{State, descriptor, content, file, may_read, is_live}
use Rattle.iol_core.specs.Run.{StepsTo}
use Rattle.iol_core.specs.declared.descriptors.Descriptor.TheVariants as on
use Rattle.iol_core.specs.declared.descriptors.Mode.TheVariants as modes
use Rattle.iol_core.specs.declared.refusals.Refusal.TheVariants as no
use Rattle.iol_core.specs.declared.events.Call.TheVariants as call
use Rattle.iol_core.specs.declared.events.Event.TheVariants as event
use Rattle.iol_core.specs.declared.events.Reply.{Reply}
use Rattle.iol_core.specs.declared.events.Reply.TheVariants as reply
use Rattle.iol_laws.specs.Caller as caller
use Rattle.iol_laws.specs.Caller.{CallsServeTheirDomain, readable_at}
use Rattle.iol_laws.specs.CallerFiles as of
use Rattle.iol_laws.specs.CallerFiles.{FileCallsServeTheirDomain}
use Rattle.iol_laws.specs.Frame.{EachStepLeavesTheRest}
use Rattle.iol_laws.specs.Order.{IsOrderly}
use Rattle.flash_http.specs.Request.{Answer, serve, refuse, Wanted}
use Rattle.flash_laws.specs.Answers.{Outcome, Failed, script_text}
use Rattle.flash_laws.specs.Client.{Client, is_for_script, conn_call, can_run, buffered_if, after_drop_whole}
use Rattle.flash_laws.specs.Client.{conn_after_reply, file_after_reply}
use Rattle.flash_laws.specs.Client.OfferedBytes.{ConnUpdates}
use Rattle.flash_laws.specs.Conn as conn
use Rattle.flash_laws.specs.Conn.{Conn, most_read, status_of}
use Rattle.flash_laws.specs.declared.phase.FileResult.TheVariants.{Text as TextOf}
use Rattle.flash_laws.specs.declared.phase.Payload.TheVariants.{Script}
use Rattle.flash_laws.specs.declared.phase.Phase.{Phase}
use Rattle.flash_laws.specs.declared.phase.Phase.TheVariants.{Receiving, DroppingInput, Opening, Reading as Reading}
use Rattle.flash_laws.specs.declared.phase.Phase.TheVariants.{ClosingFile, DroppingWhole, MakingHead}
use Rattle.flash_laws.specs.declared.phase.Phase.TheVariants.{AbortingPiece, Aborting, Disconnecting}
use Rattle.flash_laws.specs.Conn.Fits.{IsFile, Has, is_closing, Names}
use Rattle.flash_laws.specs.Client.ResponseState as known
use Rattle.flash_laws.specs.Client.ResponseState.{Known, OfFile, OfScript, is_read, is_silent, IsAfter, ReadsOn}
use Rattle.flash_laws.specs.Client.ResponseState.{HasNoRun, HasFile, HasKnown}
use Rattle.flash_laws.specs.Conn.OfferedBytes as single
use Rattle.flash_laws.specs.Run.Fits.{Progress, nothing_yet}
use Rattle.flash_laws.specs.Site.{server}
use Rattle.flash_laws.proofs.Conn.AnswerParts as having
use Rattle.flash_laws.proofs.Forms.{at, of as client}
use Rattle.flash_laws.proofs.Client.Phases.{asks-after_reply, unread-after_reply, read-after_reply}
use Rattle.flash_laws.proofs.Lists.{clash}
use Rattle.flash_laws.proofs.Conn.OfferedBytes as offering
use Rattle.flash_laws.proofs.Run.Ends.{all-taken}

untrue : (b : Bool) → (b ≡ true → ⊥) → b ≡ false
untrue true never = absurd (never refl)
untrue false never = refl

-- if nothing is being sent, and no script is to run, the next phase sends nothing
silent-after_reply : (buffered : List ℕ) (q : Answer) (d : Phase) (r : Reply) (received : List ℕ) → is_silent d ≡ true
    → is_read d ≡ false → is_closing d ≡ false
    → is_silent (conn.after_reply (at buffered q d) r received).phase ≡ true
silent-after_reply buffered q Receiving (reply.Agg n) [] silent unread busy = refl
silent-after_reply buffered q Receiving (reply.Agg n) (b ∷ received) silent unread busy = refl
silent-after_reply buffered q Receiving r received silent unread busy = refl
silent-after_reply buffered q (DroppingInput a) reply.Done received silent unread busy = refl
silent-after_reply buffered q (DroppingInput a) r received silent unread busy = refl
silent-after_reply buffered q (AbortingPiece piece a more) reply.Done received silent unread busy = refl
silent-after_reply buffered q (AbortingPiece piece a more) r received silent unread busy = refl
silent-after_reply buffered q (Aborting a None) reply.Done received silent unread busy = refl
silent-after_reply buffered q (Aborting a (Some x)) reply.Done received silent unread busy = refl
silent-after_reply buffered q (Aborting a more) r received silent unread busy = refl
silent-after_reply buffered q (ClosingFile f (TextOf a true)) r received silent unread busy = absurd (cc (unread))
silent-after_reply buffered q (DroppingWhole a Script) r received silent unread busy = absurd (cc (unread))
silent-after_reply buffered q Disconnecting r received silent unread busy = absurd (cc (busy))
silent-after_reply buffered q d r received silent unread busy = absurd (cc (silent))

-- the condition on the phase after a run (`IsAfter`) holds of the next phase, too
after-after_reply : (w : Wanted) (o : Progress) (buffered : List ℕ) (d : Phase) (r : Reply) (received : List ℕ)
    → is_silent d ≡ true → is_read d ≡ false → is_closing d ≡ false
    → IsAfter w o d → IsAfter w o (conn.after_reply (at buffered (serve w) d) r received).phase
after-after_reply w o buffered Receiving (reply.Agg n) [] silent unread busy after = all-taken w o after.0
after-after_reply w o buffered Receiving (reply.Agg n) (b ∷ received) silent unread busy after = after
after-after_reply w o buffered Receiving r received silent unread busy after = after
after-after_reply w o buffered (DroppingInput a) reply.Done received silent unread busy after = after
after-after_reply w o buffered (DroppingInput a) r received silent unread busy after = after
after-after_reply w o buffered (AbortingPiece piece a more) reply.Done received silent unread busy after = after
after-after_reply w o buffered (AbortingPiece piece a more) r received silent unread busy after = after
after-after_reply w o buffered (Aborting a None) reply.Done received silent unread busy after = after
after-after_reply w o buffered (Aborting a (Some x)) reply.Done received silent unread busy after = after
after-after_reply w o buffered (Aborting a more) r received silent unread busy after = after
after-after_reply w o buffered (ClosingFile f (TextOf a true)) r received silent unread busy after =
    absurd (cc (unread))
after-after_reply w o buffered (DroppingWhole a Script) r received silent unread busy after = absurd (cc (unread))
after-after_reply w o buffered Disconnecting r received silent unread busy after = absurd (cc (busy))
after-after_reply w o buffered d r received silent unread busy after = absurd (cc (silent))

-- if no text of a script is to run, `ReadsOn` is `IsAfter`
pub no-text : (b : Bool) (w : Wanted) (x : Client) (text : List ℕ) (o : Progress) → b ≡ false → IsAfter w o x.conn.phase
    → ReadsOn b w x text o
no-text true w x text o is after = absurd (cc (is))
no-text false w x text o is after = after

run-is-over : (b : Bool) (w : Wanted) (x : Client) (text : List ℕ) (o : Progress) → b ≡ false → ReadsOn b w x text o
    → IsAfter w o x.conn.phase
run-is-over true w x text o is reads = absurd (cc (is))
run-is-over false w x text o is reads = reads

module _ (steps : EachStepLeavesTheRest) (own : CallsServeTheirDomain) (files : FileCallsServeTheirDomain)
    (scripts : Bool)
    (m n : State) (order : IsOrderly m) (access : HasAccess m) (lives : is_live m server ≡ true) (fd c : ℕ)
    (open_on : descriptor m server fd ≡ Some (on.Connection c)) (buffered script : List ℕ) where
  abbrev of_phase : Answer → Phase → Client
  of_phase q d = client (at buffered q d) None script

  -- the known part of the response after a reply, for which the machine has the data of the next step
  abbrev AfterReply : (b : Bool) → Answer → Phase → Reply → (received : List ℕ) → Known → Type 0
  AfterReply b q d r received before = (after : Known) × ConnUpdates b d r received before after
      × HasKnown scripts n (file_after_reply b (of_phase q d) r received) after

  -- ---- a request for a file

  abbrev AfterReplyOfFile : Answer → Phase → Reply → (received : List ℕ) → Outcome → Type 0
  AfterReplyOfFile q d r received before = (after : Outcome) × single.Updates d r received before after
      × HasFile n (conn_after_reply (of_phase q d) r received) after

  file-on : (q : Answer) (d : Phase) (r : Reply) (received : List ℕ) (before : Outcome) → is_closing d ≡ false
      → HasFile m (of_phase q d) before
      → StepsTo m (event.Call server (conn.next_call fd (at buffered q d))) r n → Names n r received
      → AfterReplyOfFile q d r received before
  file-on q d r received before busy has step names =
      let got = offering.replied steps own files m n order lives buffered fd c q d r received before access open_on busy
      has.has step names in (
        got.0,
        got.1,
        record {
          none = refl;
          unread = unread-after_reply buffered q d r received has.unread;
          has = got.2;
        },
      )

  -- the text of a script is read
  text-read : (w : Wanted) (g i pos : ℕ) (r : Reply) (received : List ℕ) (before : Outcome)
      → is_for_script scripts (serve w) ≡ true
      → descriptor m server g ≡ Some (on.File i pos modes.Read) → may_read m server (file m i).pool ≡ true
      → StepsTo m (event.Call server (call.IolRead g most_read)) r n → Names n r received → AfterReply true (serve w) (Reading g) r received (OfFile before)
  text-read w g i pos r received before for_script opened may step names =
      by r (files.reads_file m n server g i pos most_read modes.Read r order lives may refl opened step) names
    where
      still : n ≡ m → IsFile n g
      still same =
          (i, pos, subst (λ (s : State). descriptor s server g ≡ Some (on.File i pos modes.Read)) (sym same) opened)

      sends : (a : ℕ) (h : Bool)
          → known.Sends h w (record { conn = at buffered (serve w) (ClosingFile g (TextOf a true)); run = None; script = buffered_if h true received }) received nothing_yet
      sends a true = refl
      sends a false = (refl, record { buffered = refl; fresh = refl })

      text : (a : ℕ) → IsFile n g → readable_at n server a ≡ Some received → (b : Bool)
          → (after : Known) × (after ≡ (if b then OfScript received nothing_yet else OfFile (Failed 500)))
          × HasKnown scripts n (record { conn = at buffered (serve w) (ClosingFile g (TextOf a b)); run = None; script = buffered_if w.head_only b received }) after
      text a is is_readable true = (
        OfScript received nothing_yet,
        refl,
        record {
          script = λ read. for_script;
          read = refl;
          has = (is, ((received, is_readable), refl));
          sends = sends a w.head_only;
        },
      )
      text a is is_readable false = (
        OfFile (Failed 500),
        refl,
        record {
          none = refl;
          unread = refl;
          has = (is, ((received, is_readable), refl));
        },
      )

      by : (r : Reply) → of.ReadsFile m server g i pos modes.Read (take most_read (drop pos (content m i))) r n → Names n r received
          → AfterReply true (serve w) (Reading g) r received (OfFile before)
      by (reply.Agg a) did names =
          text a (i, pos + length (take most_read (drop pos (content m i))), did.moves) names (can_run received)
      by (reply.Refused no.WouldBlock) did names = (
        OfFile (Failed 503),
        (Failed 503, refl, refl),
        record {
          none = refl;
          unread = refl;
          has = (tt, still did.1);
        },
      )
      by (reply.Refused y) did names = (
        OfFile (Failed (status_of y)),
        (Failed (status_of y), refl, refl),
        record {
          none = refl;
          unread = refl;
          has = (still did.1, refl);
        },
      )
      by r did names = absurd did

  -- a request for a script: no text that can run was read
  script-on : (q : Answer) (d : Phase) (r : Reply) (received : List ℕ) (before : Outcome)
      → is_for_script scripts q ≡ true → is_closing d ≡ false
      → HasFile m (of_phase q d) before → StepsTo m (event.Call server (conn_call true fd (at buffered q d))) r n
      → Names n r received
      → AfterReply true q d r received (OfFile before)
  script-on (refuse status head_only close) d r received before for_script busy has step names =
      absurd (cc (for_script))
  script-on (serve w) (Reading g) r received before for_script busy has step names =
      text-read w g has.has.1.0 has.has.1.1 r received before for_script has.has.1.2
      (access.fds server g has.has.1.0 has.has.1.1 modes.Read has.has.1.2) step names
  script-on (serve w) (DroppingWhole a Script) r received before for_script busy has step names =
      absurd (let read = has.unread in cc (read))
  script-on (serve w) d r received before for_script busy has step names =
      (let got = file-on (serve w) d r received before busy has step names in
      (OfFile got.0, (got.0, got.1, refl), got.2))

  pub of-file : (q : Answer) (d : Phase) (r : Reply) (received : List ℕ) (before : Outcome) (b : Bool)
      → is_for_script scripts q ≡ b → is_closing d ≡ false
      → HasFile m (of_phase q d) before → StepsTo m (event.Call server (conn_call b fd (at buffered q d))) r n
      → Names n r received
      → AfterReply b q d r received (OfFile before)
  of-file q d r received before true for_script busy has step names =
      script-on q d r received before for_script busy has step names
  of-file q d r received before false for_script busy has step names =
      (let got = file-on q d r received before busy has step names in (OfFile got.0, (got.0, got.1, refl), got.2))

  -- ---- a script that can run

  module _ (w : Wanted) (text : List ℕ) (o : Progress) (r : Reply) (received : List ℕ) where
    abbrev Was : Phase → Type 0
    Was d = HasNoRun scripts m w (of_phase (serve w) d) text o

    abbrev Goes : Phase → Type 0
    Goes d = HasNoRun scripts n w (conn_after_reply (of_phase (serve w) d) r received) text o

    phase : (d : Phase) → Was d → is_closing d ≡ false
        → StepsTo m (event.Call server (conn.next_call fd (at buffered (serve w) d))) r n → Names n r received
        → Has n (serve w) (script_text w) (conn.after_reply (at buffered (serve w) d) r received).phase
    phase d has busy step names =
        having.phase steps own m n order buffered fd c (serve w) d (script_text w) r received open_on has.read busy
        has.has
        step names

    -- a phase without a text that is to run
    plain-on : (d : Phase) → Was d → is_read d ≡ false → is_closing d ≡ false
        → StepsTo m (event.Call server (conn.next_call fd (at buffered (serve w) d))) r n
        → Names n r received → Goes d
    plain-on d has unread busy step names = record {
      script =
          λ read. absurd (clash (is_read (conn.after_reply (at buffered (serve w) d) r received).phase) read
          (unread-after_reply buffered (serve w) d r received unread));
      read = read-after_reply buffered (serve w) d r received has.read;
      has = phase d has busy step names;
      sends = sends w.head_only has.sends;
    }
      where
        sends : (h : Bool) → known.Sends h w (of_phase (serve w) d) text o
            → known.Sends h w (conn_after_reply (of_phase (serve w) d) r received) text o
        sends true fresh = fresh
        sends false was = (
          silent-after_reply buffered (serve w) d r received was.0 unread busy,
          no-text (is_read (conn.after_reply (at buffered (serve w) d) r received).phase) w
              (conn_after_reply (of_phase (serve w) d) r received) text o
              (unread-after_reply buffered (serve w) d r received unread)
              (after-after_reply w o buffered d r received was.0 unread busy
              (run-is-over (is_read d) w (of_phase (serve w) d) text o unread was.1)),
        )

    -- the descriptor of a script that was read is closed
    shut-on : (g a : ℕ) → is_for_script scripts (serve w) ≡ true → Was (ClosingFile g (TextOf a true))
        → StepsTo m (event.Call server (call.Close g)) r n → Names n r received → Goes (ClosingFile g (TextOf a true))
    shut-on g a for_script has step names = record {
      script = λ read. for_script;
      read = read-after_reply buffered (serve w) (ClosingFile g (TextOf a true)) r received refl;
      has = phase (ClosingFile g (TextOf a true)) has refl step names;
      sends = sends w.head_only r has.sends;
    }
      where
        sends : (h : Bool) (r : Reply) → known.Sends h w (of_phase (serve w) (ClosingFile g (TextOf a true))) text o
            → known.Sends h w (conn_after_reply (of_phase (serve w) (ClosingFile g (TextOf a true))) r received) text o
        sends true r fresh = fresh
        sends false reply.Done was = (refl, record { buffered = was.1.buffered; fresh = was.1.fresh })
        sends false r was = (refl, record { buffered = was.1.buffered; fresh = was.1.fresh })

    -- its aggregate is dropped: for GET the run begins
    spared-on : (a : ℕ) → is_for_script scripts (serve w) ≡ true → Was (DroppingWhole a Script)
        → StepsTo m (event.Call server (call.AggDrop a)) r n
        → HasKnown scripts n (record {
          conn = conn.after_reply (at buffered (serve w) (DroppingWhole a Script)) r received;
          run = after_drop_whole w.head_only r;
          script = script;
        }) (OfScript text o)
    spared-on a for_script has step = by r (own.drops m n server a r order step) w.head_only refl has.sends
      where
        by : (r : Reply) → caller.Drops m server a r n → (h : Bool) → w.head_only ≡ h
            → known.Sends h w (of_phase (serve w) (DroppingWhole a Script)) text o
            → HasKnown scripts n (record {
              conn = conn.after_reply (at buffered (serve w) (DroppingWhole a Script)) r received;
              run = after_drop_whole h r;
              script = script;
            }) (OfScript text o)
        by reply.Done did true is sends = record {
          script = λ read. for_script;
          read = refl;
          has = refl;
          sends =
              subst (λ h. known.Sends h w (client (at buffered (serve w) (MakingHead Script)) None script) text o)
              (sym is)
              sends;
        }
        by reply.Done did false is sends =
            record { answers = is; has = sends.1.fresh; buffered = λ keeps. sends.1.buffered }
        by (reply.Refused y) did true is sends =
            subst (λ (s : State). HasNoRun scripts s w (of_phase (serve w) (DroppingWhole a Script)) text o) (sym did)
            has
        by (reply.Refused y) did false is sends =
            subst (λ (s : State). HasNoRun scripts s w (of_phase (serve w) (DroppingWhole a Script)) text o) (sym did)
            has
        by r did h is sends = absurd did

    known-on : (d : Phase) → Goes d
        → HasKnown scripts n (conn_after_reply (of_phase (serve w) d) r received) (OfScript text o)
    known-on d goes =
        subst (λ (q : Answer). known.HasScript scripts n (conn_after_reply (of_phase (serve w) d) r received) q text o)
        (sym (asks-after_reply buffered (serve w) d r received)) goes

    unread-or : (d : Phase) → Was d → is_for_script scripts (serve w) ≡ false → is_read d ≡ false
    unread-or d has none = untrue (is_read d) (λ read. clash (is_for_script scripts (serve w)) (has.script read) none)

    pub of-script : (d : Phase) (b : Bool) → is_for_script scripts (serve w) ≡ b → is_closing d ≡ false → Was d
        → StepsTo m (event.Call server (conn_call b fd (at buffered (serve w) d))) r n → Names n r received
        → AfterReply b (serve w) d r received (OfScript text o)
    of-script d false for_script busy has step names =
        (OfScript text o, refl, known-on d (plain-on d has (unread-or d has for_script) busy step names))
    of-script Opening true for_script busy has step names = absurd (let read = has.read in cc (read))
    of-script (Reading f) true for_script busy has step names = absurd (let read = has.read in cc (read))
    of-script (ClosingFile g (TextOf a true)) true for_script busy has step names =
        (OfScript text o, refl, shut-on g a for_script has step names)
    of-script (DroppingWhole a Script) true for_script busy has step names =
        (OfScript text o, refl, spared-on a for_script has step)
    of-script d true for_script busy has step names =
        (OfScript text o, refl, known-on d (plain-on d has refl busy step names))
