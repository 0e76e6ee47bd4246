-- The bytes of a response while a script runs: over the server's own call, the written bytes remain the beginning of
-- the answer.
use Rattle.std.proofs.Common.{inl, inr, ◌≡◌, ◌⊎◌, ℕ, ◌+◌, ◌==◌, List, [], ◌∷◌, ◌++◌, length, take, drop, ap, ◌∙◌, refl}
use Rattle.std.proofs.Common.{sym, subst, arith, Some, None, true, false, Bool, append_assoc, append-nil, if◌then◌else◌}
use Rattle.std.proofs.lemmas.Bool.Decides.{nat_tests}
use Rattle.std.proofs.lemmas.List.{take_all}
use Rattle.iol_core.specs.Text.{bytes_of}
use Rattle.iol_core.specs.State.{State, Connection, descriptor, conn_at, is_gone}
use Rattle.iol_core.specs.Run.{StepsTo}
use Rattle.iol_core.specs.declared.descriptors.Descriptor.TheVariants as on
use Rattle.iol_core.specs.declared.events.Call.{Call}
use Rattle.iol_core.specs.declared.events.Call.TheVariants as call
use Rattle.iol_core.specs.declared.events.Event.TheVariants as event
use Rattle.iol_core.specs.declared.events.Reply.{Reply}
use Rattle.iol_core.specs.declared.events.Reply.TheVariants as reply
use Rattle.iol_laws.specs.Caller.{CallsServeTheirDomain, Puts, WritesConn}
use Rattle.iol_laws.specs.Frame.{EachStepLeavesTheRest, touches_conn}
use Rattle.iol_laws.specs.Order.{IsOrderly}
use Rattle.flash_http.specs.Request.{Answer, serve, Wanted}
use Rattle.flash_laws.specs.Answers.{Reads}
use Rattle.flash_laws.specs.Client.{Client, after_run}
use Rattle.flash_laws.specs.Client.Fits.{IsProper, Answers, IsLeftAlone, ConsistencyAlone, ConsistencyRun}
use Rattle.flash_laws.specs.Workers.WorkerSet.{WorkerSet}
use Rattle.flash_laws.specs.Conn.Fits.{Names}
use Rattle.flash_laws.specs.Conn.OfferedBytes.{newly_taken}
use Rattle.flash_laws.specs.Run.Fits.{Progress, Ran, Broken, NotRun, Follows, IsLeft, HasNone, HasLeft, HasRun}
use Rattle.flash_laws.specs.Run.Fits.{MayAnswer}
use Rattle.flash_laws.specs.Run.OfferedBytes.{Updates, taken_by, past_of, IsNextOf, breaks_off}
use Rattle.flash_laws.specs.Run.{next_call, after_reply, is_over}
use Rattle.flash_laws.specs.Answers.Scripts.{script_response}
use Rattle.flash_laws.specs.SiteContents.{SiteContents, MayBeExpected, Responds}
use Rattle.flash_laws.specs.Site.{server}
use Rattle.flash_laws.specs.declared.phase.Phase.{Phase}
use Rattle.flash_laws.specs.declared.phase.Phase.TheVariants as phase
use Rattle.flash_laws.specs.declared.script_run.Running.{Running}
use Rattle.flash_laws.specs.declared.script_run.Running.TheVariants.{Finishing, Disconnecting}
use Rattle.flash_laws.proofs.Conn.Responses.{all-more, order-more, last-more}
use Rattle.flash_laws.proofs.Lists.{bytes-append, clash, next-front, self, take-plus}
use Rattle.flash_laws.proofs.World.AllLaws.{AllLaws}
use Rattle.flash_laws.proofs.World.Responses.{responds-more, begins-part}

-- a client whose run ended: its connection continues in the run's last phase
abbrev pub past_run : (buffered : List ℕ) → Wanted → Running → Client
past_run buffered w z = record {
  conn = record { buffered = buffered; request = serve w; phase = after_run z };
  run = None;
  script = [];
}

-- the invariant after the call: of the run, if it continues; else of a connection without a run, which waits for input
-- or closes
pub record ConsistencyAfter (site_contents : SiteContents) (expected : List ℕ) (m n : State) (c : ℕ)
    (took sent buffered : List ℕ) (w : Wanted) (after : Progress)
    (z : Running) : Type 0 where
  pub goes : is_over z ≡ false → ConsistencyRun site_contents expected (conn_at n c) took sent buffered w after z
  pub ends : is_over z ≡ true → ConsistencyAlone site_contents expected (conn_at n c) took sent (past_run buffered w z)
  pub rests : is_over z ≡ true → (after_run z ≡ phase.Receiving) ⊎ (after_run z ≡ phase.Disconnecting)
  -- no byte of the stream was read
  pub unread : bytes_of (conn_at n c).incoming ≡ bytes_of (conn_at m c).incoming

-- ---- the effect of the call on the connection

-- it writes the next bytes of the response to the connection
pub record PutsNext (m n : State) (c : ℕ) (w : Wanted) (o : Progress) (taken new : ℕ) : Type 0 where
  pub agg : ℕ
  pub next : IsNextOf m w o agg taken
  pub puts : Puts m c next.bytes new n

-- it leaves the connection unchanged, or writes `new` bytes of the response
abbrev pub Wrote : State → State → (c : ℕ) → Wanted → Progress → (taken new : ℕ) → Type 0
Wrote m n c w o taken new = ((conn_at n c ≡ conn_at m c) × (new ≡ 0)) ⊎ PutsNext m n c w o taken new

-- a call that touches a connection only by writing to it
abbrev OnlyWrites : State → (fd c : ℕ) → Call → Type 0
OnlyWrites m fd c k = (d : ℕ) → touches_conn m (event.Call server k) d ≡ true
    → (c ≡ d) × ((a : ℕ) × (k ≡ call.IolWrite fd a))

module _ (steps : EachStepLeavesTheRest) (own : CallsServeTheirDomain) (m n : State) (order : IsOrderly m) (fd c : ℕ)
    (open_on : descriptor m server fd ≡ Some (on.Connection c)) (w : Wanted) (o : Progress) (taken : ℕ) where
  -- a write to the connection
  writes : (a : ℕ) (r : Reply) → IsNextOf m w o a taken → StepsTo m (event.Call server (call.IolWrite fd a)) r n
      → Wrote m n c w o taken (newly_taken fd (call.IolWrite fd a) r)
  writes a r next step = by r (own.write_conn m n server fd c a next.bytes r order open_on next.is_readable step)
    where
      counted : (k : ℕ) → (if fd == fd then k else 0) ≡ k
      counted k = ap (λ b. if b then k else 0) (self fd)

      by : (r : Reply) → WritesConn m c next.bytes r n → Wrote m n c w o taken (newly_taken fd (call.IolWrite fd a) r)
      by (reply.Count k) puts =
          inr
          (record { agg = a; next = next; puts = subst (λ (j : ℕ). Puts m c next.bytes j n) (sym (counted k)) puts })
      by (reply.Refused y) same = inl (ap (λ (s : State). conn_at s c) same, refl)
      by r did = absurd did

  -- any other call leaves the connection unchanged
  untouched : (k : Call) (r : Reply) → StepsTo m (event.Call server k) r n → OnlyWrites m fd c k
      → ((a : ℕ) → k ≡ call.IolWrite fd a → ⊥) → conn_at n c ≡ conn_at m c
  untouched k r step only other = by (touches_conn m (event.Call server k) c) refl
    where
      by : (b : Bool) → touches_conn m (event.Call server k) c ≡ b → conn_at n c ≡ conn_at m c
      by true is = (let write = only c is in absurd (other write.1.0 write.1.1))
      by false is = (steps.leaves m n (event.Call server k) r step).conns c is

  -- the descriptor that a call writes to
  abbrev written : Call → (other : ℕ) → ℕ
  written (call.IolWrite g a) other = g
  written k other = other

  -- any call
  pub wrote : (k : Call) (r : Reply) → StepsTo m (event.Call server k) r n → OnlyWrites m fd c k
      → ((a : ℕ) → k ≡ call.IolWrite fd a → IsNextOf m w o a taken) → Wrote m n c w o taken (newly_taken fd k r)
  wrote (call.IolWrite g a) r step only offers = by (g == fd) refl
    where
      by : (b : Bool) → (g == fd) ≡ b → Wrote m n c w o taken (newly_taken fd (call.IolWrite g a) r)
      by true is =
          let same : g ≡ fd = grind (arith, nat_tests, is) in
          subst (λ (f : ℕ). Wrote m n c w o taken (newly_taken fd (call.IolWrite f a) r)) (sym same)
          (writes a r (offers a (ap (λ (f : ℕ). call.IolWrite f a) same))
          (subst (λ (f : ℕ). StepsTo m (event.Call server (call.IolWrite f a)) r n) same step))
      by false is = inl (untouched (call.IolWrite g a) r step only elsewhere, none r)
        where
          elsewhere : (b : ℕ) → call.IolWrite g a ≡ call.IolWrite fd b → ⊥
          elsewhere b e = clash (g == fd) (ap (λ (k : Call). written k fd == fd) e ∙ self fd) is

          none : (r : Reply) → newly_taken fd (call.IolWrite g a) r ≡ 0
          none (reply.Count k) = ap (λ b. if b then k else 0) is
          none r = refl
  wrote k r step only offers = inl (untouched k r step only (λ a e. cc (e)), refl)

-- ---- the written bytes after the call

module _ (m n : State) (c : ℕ) (w : Wanted) (o : Progress) (taken new : ℕ) where
  -- no byte of the stream is read
  unread_still : Wrote m n c w o taken new → bytes_of (conn_at n c).incoming ≡ bytes_of (conn_at m c).incoming
  unread_still (inl same) = ap (λ (x : Connection). bytes_of x.incoming) same.0
  unread_still (inr put) = ap (λ (x : Connection). bytes_of x.incoming) put.puts.conn

  -- if the peer is gone, nothing is written
  gone_still : Wrote m n c w o taken new → is_gone (conn_at m c).peer ≡ true → conn_at n c ≡ conn_at m c
  gone_still (inl same) gone = same.0
  gone_still (inr put) gone = absurd (clash (is_gone (conn_at m c).peer) gone put.puts.takes)

  -- else the next bytes of the response are written, for every possible response
  written_more : Wrote m n c w o taken new → (expected : List ℕ) → MayAnswer w o expected
      → bytes_of (conn_at n c).outgoing ≡ bytes_of (conn_at m c).outgoing
      ++ take new (drop (past_of o + taken) expected)
  written_more (inl same) expected may =
      ap (λ (x : Connection). bytes_of x.outgoing) same.0
      ∙ (sym (append-nil (bytes_of (conn_at m c).outgoing))
      ∙ ap (λ (k : ℕ). bytes_of (conn_at m c).outgoing ++ take k (drop (past_of o + taken) expected)) (sym same.1))
  written_more (inr put) expected may =
      let found = put.next.next expected may in
      let front = next-front new put.next.bytes found.0 (drop (past_of o + taken) expected) found.1 put.puts.within in
      ap (λ (x : Connection). bytes_of x.outgoing) put.puts.conn
      ∙ (bytes-append (conn_at m c).outgoing put.puts.text
      ∙ ap (λ (l : List ℕ). bytes_of (conn_at m c).outgoing ++ l) (put.puts.text_is ∙ sym front))

  -- so the first `count` bytes of the response in progress are written
  answered_on : (site_contents : SiteContents) (took sent buffered : List ℕ) (now : List Answer) (expected : List ℕ)
      (count : ℕ) → Wrote m n c w o taken new → MayAnswer w o expected
      → count ≡ past_of o + taken + new
      → Answers site_contents took (sent ++ bytes_of (conn_at m c).outgoing) buffered now
      (take (past_of o + taken) expected)
      → Answers site_contents took (sent ++ bytes_of (conn_at n c).outgoing) buffered now (take count expected)
  answered_on site_contents took sent buffered now expected count did may count_is a = record {
    done = a.done;
    open_yet = a.open_yet;
    reads = a.reads;
    before = a.before;
    responds = a.responds;
    out_is = ap (λ (l : List ℕ). sent ++ l) (written_more did expected may)
        ∙ (sym (append_assoc sent (bytes_of (conn_at m c).outgoing) (take new (drop (past_of o + taken) expected)))
        ∙ (ap (λ (l : List ℕ). l ++ take new (drop (past_of o + taken) expected)) a.out_is
        ∙ (append_assoc a.before (take (past_of o + taken) expected) (take new (drop (past_of o + taken) expected))
        ∙ ap (λ (l : List ℕ). a.before ++ l) (sym (take-plus (past_of o + taken) new expected)
        ∙ ap (λ (k : ℕ). take k expected) (sym count_is)))));
  }

-- ---- the end of a run

-- no part of the response is being sent, and the connection waits for input, or is to be closed
abbrev Ending : Wanted → Progress → Running → Type 0
Ending w o z =
    (taken_by z ≡ 0)
    × (((after_run z ≡ phase.Receiving) × IsLeft w o [] × (w.keep ≡ true))
    ⊎ ((after_run z ≡ phase.Disconnecting) × HasNone w o))

-- a finishing run that is over is in one of these two phases
leaving : (m : State) (w : Wanted) (o : Progress) (d : Phase) → is_over (Finishing d) ≡ true → HasLeft m w o d
    → Ending w o (Finishing d)
leaving m w o phase.Receiving over has = (refl, inl (refl, has.0, has.1))
leaving m w o phase.Disconnecting over has = (refl, inr (refl, has))
leaving m w o (phase.MakingHead k) over has = absurd (cc (over))
leaving m w o (phase.SendingWhole s) over has = absurd (cc (over))
leaving m w o (phase.CuttingPiece s) over has = absurd (cc (over))
leaving m w o (phase.SendingPiece s piece) over has = absurd (cc (over))
leaving m w o (phase.DroppingPiece s piece) over has = absurd (cc (over))
leaving m w o (phase.DroppingSent a taken more) over has = absurd (cc (over))
leaving m w o (phase.AbortingPiece piece a more) over has = absurd (cc (over))
leaving m w o (phase.Aborting a more) over has = absurd (cc (over))
leaving m w o d over has = absurd has.sends.0

ending : (job : ℕ → List ℕ) (m : State) (w : Wanted) (o : Progress) (z : Running) → is_over z ≡ true
    → HasRun job m w o z → Ending w o z
ending job m w o (Finishing d) over has = leaving m w o d over has
ending job m w o Disconnecting over has = (refl, inr (refl, has))
ending job m w o x over has = absurd (cc (over))

-- after the end of the output no more output follows
none_follows : (ended : Bool) (more : List ℕ) → ended ≡ true → Follows ended more → more ≡ []
none_follows true more is follows = follows
none_follows false more is follows = absurd (cc (is))

-- if the expected bytes are those taken, that many bytes are all of them
all_of : (past expected : List ℕ) → expected ≡ past → take (length past) expected ≡ expected
all_of past expected is = ap (λ (l : List ℕ). take (length l) expected) (sym is)
    ∙ take_all (length expected) expected (omega arith)

-- if nothing is left, the whole response is taken
all_taken : (w : Wanted) (o : Progress) (expected : List ℕ) → MayAnswer w o expected → IsLeft w o []
    → take (past_of o) expected ≡ expected
all_taken w (Ran received ended past) expected may none =
    let same = ap (λ (l : List ℕ). received ++ l) (none_follows ended may.0 none.0 may.1) ∙ append-nil received in
    all_of past expected (may.2 ∙ (ap (λ (l : List ℕ). script_response w l) same ∙ (none.1 ∙ append-nil past)))
all_taken w Broken expected may none = absurd may
all_taken w (NotRun status past) expected may none = all_of past expected (may ∙ (none ∙ append-nil past))

-- if the response is possible, and the connection closes after it, nothing is left, and the request does not keep the
-- connection open
closed_whole : (w : Wanted) (o : Progress) (expected : List ℕ) → IsProper (serve w) → MayAnswer w o expected
    → HasNone w o → IsLeft w o [] × (w.keep ≡ false)
closed_whole w Broken expected proper may none = absurd may
closed_whole w x expected proper may none = (none.0, (elim none.1 [ inl last ↦ last | inr plain ↦ proper.1 plain ]))

-- ---- the invariant after the call

module _ (site_contents : SiteContents) (m n : State) (c : ℕ) (took sent buffered : List ℕ) (w : Wanted)
    (response : List ℕ)
    (may_be : MayBeExpected site_contents (serve w) response)
    (after : Progress) (z : Running) where
  -- the written bytes, sent or queued
  abbrev out : List ℕ
  out = sent ++ bytes_of (conn_at n c).outgoing

  -- the invariant of a connection without a run, in this phase
  abbrev Alone : Phase → Type 0
  Alone d =
      ConsistencyAlone site_contents response (conn_at n c) took sent
      (record { conn = record { buffered = buffered; request = serve w; phase = d }; run = None; script = [] })

  rests_or_closes : Ending w after z → (after_run z ≡ phase.Receiving) ⊎ (after_run z ≡ phase.Disconnecting)
  rests_or_closes e = (elim e.1 [ inl rest ↦ inl rest.0 | inr close ↦ inr close.0 ])

  -- the whole response is written
  answered_whole :
      (a : Answers site_contents took out buffered (serve w ∷ []) (take (past_of after + taken_by z) response))
      → taken_by z ≡ 0
      → MayAnswer w after response → IsLeft w after [] → Responds site_contents (a.done ++ serve w ∷ []) out
  answered_whole a none may rest =
      let count : past_of after + taken_by z ≡ past_of after = omega (arith, none) in
      subst (λ (l : List ℕ). Responds site_contents (a.done ++ serve w ∷ []) l)
      (sym (a.out_is ∙ ap (λ (l : List ℕ). a.before ++ l) (ap (λ (k : ℕ). take k response) count
      ∙ all_taken w after response may rest)))
      (responds-more site_contents a.done (serve w) a.before response a.responds may_be)

  -- the connection continues with the next request
  resting : Answers site_contents took out buffered (serve w ∷ []) (take (past_of after + taken_by z) response)
      → taken_by z ≡ 0
      → MayAnswer w after response → IsLeft w after [] → w.keep ≡ true → Alone phase.Receiving
  resting a none may rest keep = inl (
    refl,
    record {
      done = a.done ++ serve w ∷ [];
      open_yet = all-more a.done (serve w) a.open_yet keep;
      reads = subst (λ (l : List Answer). Reads took l buffered) (sym (append-nil (a.done ++ serve w ∷ []))) a.reads;
      before = out;
      responds = answered_whole a none may rest;
      out_is = sym (append-nil out);
    },
  )

  -- or this was the last request
  closing : Answers site_contents took out buffered (serve w ∷ []) (take (past_of after + taken_by z) response)
      → taken_by z ≡ 0
      → MayAnswer w after response → IsLeft w after [] → w.keep ≡ false → Alone phase.Disconnecting
  closing a none may rest last = inr (inl (record {
    quits = refl;
    finished = record {
      qs = a.done ++ serve w ∷ [];
      rest = buffered;
      reads = a.reads;
      order = order-more a.done (serve w) a.open_yet;
      responds = answered_whole a none may rest;
      no_more = inl (last-more a.done (serve w) last);
    };
    begins = begins-part site_contents took out buffered (serve w) response may_be (past_of after + taken_by z) a;
  }))

  -- so the invariant of a connection without a run holds
  ended : IsProper (serve w)
      → Answers site_contents took out buffered (serve w ∷ []) (take (past_of after + taken_by z) response)
      → MayAnswer w after response → Ending w after z → Alone (after_run z)
  ended proper a may e = by e.1
    where
      by : ((after_run z ≡ phase.Receiving) × IsLeft w after [] × (w.keep ≡ true))
          ⊎ ((after_run z ≡ phase.Disconnecting) × HasNone w after) → Alone (after_run z)
      by (inl rest) = subst Alone (sym rest.0) (resting a e.0 may rest.1 rest.2)
      by (inr close) =
          (let whole = closed_whole w after response proper may close.1 in
          subst Alone (sym close.0) (closing a e.0 may whole.0 whole.1))

  -- the response continues, or is written whole
  pub proceeds : IsProper (serve w) → bytes_of (conn_at n c).incoming ≡ bytes_of (conn_at m c).incoming
      → (is_over z ≡ true → Ending w after z)
      → Answers site_contents took out buffered (serve w ∷ []) (take (past_of after + taken_by z) response)
      → MayAnswer w after response → breaks_off z ≡ false
      → ConsistencyAfter site_contents response m n c took sent buffered w after z
  proceeds proper unread over a may whole = record {
    goes = λ on. inl (record { answers = a; may = may; whole = whole });
    ends = λ is. ended proper a may (over is);
    rests = λ is. rests_or_closes (over is);
    unread = unread;
  }

  -- the peer takes no more bytes
  pub left_alone : bytes_of (conn_at n c).incoming ≡ bytes_of (conn_at m c).incoming
      → (is_over z ≡ true → Ending w after z)
      → conn_at n c ≡ conn_at m c
      → IsLeftAlone site_contents (conn_at m c) took (sent ++ bytes_of (conn_at m c).outgoing)
      → ConsistencyAfter site_contents response m n c took sent buffered w after z
  left_alone unread over same was = record {
    goes = λ on. inr left;
    ends = λ is. inr (inr left);
    rests = λ is. rests_or_closes (over is);
    unread = unread;
  }
    where
      left : IsLeftAlone site_contents (conn_at n c) took out
      left = subst (λ (x : Connection). IsLeftAlone site_contents x took (sent ++ bytes_of x.outgoing)) (sym same) was

module _ (site_contents : SiteContents) (worker_set : WorkerSet) (laws : AllLaws worker_set) where
  pub consistency_step : (m n : State) (fd c worker : ℕ) (took sent buffered : List ℕ) (w : Wanted) (job : ℕ
      → List ℕ) (y : Running) (r : Reply)
      (received : List ℕ) (o after : Progress) (expected : List ℕ) → MayBeExpected site_contents (serve w) expected
      → IsOrderly m → descriptor m server fd ≡ Some (on.Connection c)
      → IsProper (serve w) → is_over y ≡ false → HasRun job m w o y
      → StepsTo m (event.Call server (next_call job fd w y)) r n → Names n r received
      → Updates m y r received o after → HasRun job n w after (after_reply worker w y r received)
      → (breaks_off y ≡ false → breaks_off (after_reply worker w y r received) ≡ true
      → is_gone (conn_at m c).peer ≡ true)
      → (breaks_off y ≡ false → breaks_off (after_reply worker w y r received) ≡ false → MayAnswer w o expected
      → MayAnswer w after expected)
      → ConsistencyRun site_contents expected (conn_at m c) took sent buffered w o y
      → ConsistencyAfter site_contents expected m n c took sent buffered w after (after_reply worker w y r received)
  consistency_step m n fd c worker took sent buffered w job y r received o after expected may_be order open_on proper
      ongoing has step names updates stands cut may consistency = by consistency
    where
      z : Running
      z = after_reply worker w y r received

      new : ℕ
      new = newly_taken fd (next_call job fd w y) r

      did : Wrote m n c w o (taken_by y) new
      did = wrote laws.the.steps laws.the.own m n order fd c open_on w o (taken_by y) (next_call job fd w y) r step
          ((laws.run_keeps job).alone m fd c w y o open_on ongoing has).conns
          (λ a is. (laws.runs job).offers m fd c a w y o open_on has is)

      unread : bytes_of (conn_at n c).incoming ≡ bytes_of (conn_at m c).incoming
      unread = unread_still m n c w o (taken_by y) new did

      over : is_over z ≡ true → Ending w after z
      over is = ending job n w after z is stands

      left : IsLeftAlone site_contents (conn_at m c) took (sent ++ bytes_of (conn_at m c).outgoing)
          → ConsistencyAfter site_contents expected m n c took sent buffered w after z
      left was =
          left_alone site_contents m n c took sent buffered w expected may_be after z unread over
          (gone_still m n c w o (taken_by y) new did was.gone) was

      by : ConsistencyRun site_contents expected (conn_at m c) took sent buffered w o y
          → ConsistencyAfter site_contents expected m n c took sent buffered w after z
      by (inl goes) = cases (breaks_off z) refl
        where
          cases : (b : Bool) → breaks_off z ≡ b
              → ConsistencyAfter site_contents expected m n c took sent buffered w after z
          cases true is = left (record {
            gone = cut goes.whole is;
            begins = begins-part site_contents took (sent ++ bytes_of (conn_at m c).outgoing) buffered (serve w)
                expected
                may_be (past_of o + taken_by y) goes.answers;
          })
          cases false is =
              let count = (laws.runs job).takes m n fd c worker w y r received o after order open_on ongoing has step
              updates goes.whole is in
              proceeds site_contents m n c took sent buffered w expected may_be after z proper unread over
              (answered_on m n c w o (taken_by y) new site_contents took sent buffered (serve w ∷ []) expected
              (past_of after + taken_by z) did goes.may count goes.answers)
              (may goes.whole is goes.may) is
      by (inr was) = left was
