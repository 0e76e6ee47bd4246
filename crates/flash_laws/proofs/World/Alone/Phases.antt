-- Each phase of a client without a running script, from its next call to its state after the reply.
use Rattle.std.proofs.Common.{inl, inr, ◌≡◌, ℕ, ◌+◌, ◌==◌, List, [], ◌∷◌, ◌++◌, take, drop, ap, ◌∙◌, refl, sym, subst}
use Rattle.std.proofs.Common.{Option, Some, None, true, false, Bool, if◌then◌else◌}
use Rattle.std.specs.Prelude.{nat_le, ◌||◌, is_some}
use Rattle.std.specs.List.{list_any}
use Rattle.iol_core.specs.Text.{bytes_of}
use Rattle.iol_core.specs.State.{State, Connection, descriptor, conn_at}
use Rattle.iol_core.specs.Run.{StepsTo}
use Rattle.iol_core.specs.declared.limits.TheConstants.{MAX_AGGREGATE_BYTES}
use Rattle.iol_core.specs.declared.descriptors.Descriptor.TheVariants as on
use Rattle.iol_core.specs.declared.descriptors.Mode.TheVariants as modes
use Rattle.iol_core.specs.declared.events.Call.{Call}
use Rattle.iol_core.specs.declared.events.Call.TheVariants as call
use Rattle.iol_core.specs.declared.events.Event.TheVariants as event
use Rattle.iol_core.specs.declared.events.Reply.{Reply}
use Rattle.iol_core.specs.declared.events.Reply.TheVariants as reply
use Rattle.iol_laws.specs.Frame.{is_conn, touches_conn, touches_fd}
use Rattle.iol_laws.specs.Order.{IsOrderly}
use Rattle.iol_laws.specs.Caller as o
use Rattle.iol_proc.specs.declared.process_slot.ProcessSlot.{ProcessSlot}
use Rattle.flash_http.specs.declared.ranges.Selection.{Selection}
use Rattle.flash_http.specs.declared.ranges.Selection.TheVariants.{Bytes}
use Rattle.flash_http.specs.Range.{selected}
use Rattle.flash_http.specs.Request.{Answer, serve, refuse}
use Rattle.flash_cgi.specs.Script.{script_of}
use Rattle.flash_cgi.specs.declared.line.Line.{Line}
use Rattle.flash_laws.specs.Answers.{Failed, keeps}
use Rattle.flash_laws.specs.Client as client
use Rattle.flash_laws.specs.Client.{is_for_script, conn_call, conn_after_reply, script_after_reply, file_after_reply}
use Rattle.flash_laws.specs.Client.Fits.{ConsistencyAlone, expected_in, HasText, Finds, FitsAlone, ConsistencyRun}
use Rattle.flash_laws.specs.Client.Fits.{FitsRun, Fits, made_of, response_to}
use Rattle.flash_laws.specs.Conn as conn
use Rattle.flash_laws.specs.Conn.{Following, Conn, count_of, text_of, sends_of, resolved, after_close_file}
use Rattle.flash_laws.specs.Conn.{after_drop_whole, following, headed, proceeds, drops_next}
use Rattle.flash_laws.specs.Conn.{next_piece, whole}
use Rattle.flash_laws.specs.Workers.WorkerSet.{WorkerSet}
use Rattle.flash_laws.specs.Conn.Fits.{Has, quits, is_closing, HoldsMore, Names}
use Rattle.flash_laws.specs.Client.ResponseState as known
use Rattle.flash_laws.specs.Client.ResponseState.{OfFile, OfScript, MaySendOutput, is_read, is_opening}
use Rattle.flash_laws.specs.Run.Fits.{nothing_yet}
use Rattle.flash_laws.specs.SiteContents.{SiteContents, expected_to, MayBeExpected, IsAmong}
use Rattle.flash_laws.specs.SiteContents.Expected.{outcomes_by}
use Rattle.flash_laws.proofs.Site.Expected.{all-show, expected-may, script-expected}
use Rattle.flash_laws.specs.Site.{server, IsFixed}
use Rattle.flash_laws.specs.declared.phase.FileResult.{FileResult}
use Rattle.flash_laws.specs.declared.phase.FileResult.TheVariants.{File, Text as TextOf}
use Rattle.flash_laws.specs.declared.phase.Payload.TheVariants.{Script}
use Rattle.flash_laws.specs.declared.phase.Sending.{Sending}
use Rattle.flash_laws.specs.declared.phase.Phase.{Phase}
use Rattle.flash_laws.specs.declared.phase.Phase.TheVariants.{Receiving, DroppingInput, Opening, Reading as Reading}
use Rattle.flash_laws.specs.declared.phase.Phase.TheVariants.{ClosingFile, Slicing, DroppingWhole}
use Rattle.flash_laws.specs.declared.phase.Phase.TheVariants.{MakingHead, Joining, SendingWhole, CuttingPiece}
use Rattle.flash_laws.specs.declared.phase.Phase.TheVariants.{SendingPiece, DroppingPiece, DroppingSent, AbortingPiece}
use Rattle.flash_laws.specs.declared.phase.Phase.TheVariants.{Aborting, Disconnecting, Closed}
use Rattle.flash_laws.specs.declared.script_run.Running.TheVariants.{AwaitingWorker}
use Rattle.flash_laws.proofs.Forms.{at}
use Rattle.flash_laws.proofs.Moves.{after-done, after-agg, either-way, either-next}
use Rattle.flash_laws.proofs.Conn.AnswerParts as having
use Rattle.flash_laws.proofs.Lists.{clash}
use Rattle.flash_laws.proofs.World.AllLaws.{AllLaws}
use Rattle.flash_laws.proofs.World.Alone.Files as files
use Rattle.flash_laws.proofs.World.Alone.Sends.{sends, offers, rests}
use Rattle.flash_laws.proofs.World.Alone.Consistencies.{alone, FitsAt, Stands, ConsistenciesOn, consistency_on, hush}
use Rattle.flash_laws.proofs.World.Alone.Consistencies.{ends, ends-last}

some-lines : (o : Option (List Line)) → is_some o ≡ true → (lines : List Line) × (o ≡ Some lines)
some-lines None is = absurd (cc (is))
some-lines (Some lines) is = (lines, refl)

module _ (site_contents : SiteContents) (worker_set : WorkerSet) (laws : AllLaws worker_set) (m n : State)
    (came sent : List ℕ) (fd c : ℕ) (buffered script : List ℕ)
    (order : IsOrderly m) where
  abbrev Fitting : State → Answer → Phase → Type 0
  Fitting = FitsAt site_contents came sent fd c buffered script

  -- ---- the lemmas of `Files`, for these states

  moves_to : (text : List ℕ) (q : Answer) (d e : Phase) (k : Call) (r : Reply) (later : List ℕ)
      → MayBeExpected site_contents q later → (f : Fitting m q d)
      → StepsTo m (event.Call server k) r n → touches_conn m (event.Call server k) c ≡ false
      → touches_fd m (event.Call server k) server fd ≡ false
      → ConsistenciesOn site_contents buffered script f.expected later q d e
      → Has n q (expected_in later q e) e → Finds site_contents n q text e
      → FitsAlone site_contents n came sent fd c (alone buffered text q e)
  moves_to = files.moves_to site_contents worker_set laws m n came sent fd c buffered script order

  same : (q : Answer) (d : Phase) → Fitting m q d → n ≡ m → Fitting n q d
  same = files.same site_contents worker_set laws m n came sent fd c buffered script order

  goes : (q : Answer) (part : List ℕ) (d e : Phase) (k : Call) (r : Reply) (f : Fitting m q d)
      → StepsTo m (event.Call server k) r n → touches_conn m (event.Call server k) c ≡ false
      → touches_fd m (event.Call server k) server fd ≡ false
      → Stands f.expected q part d → Stands f.expected q part e → Has n q (expected_in f.expected q e) e
      → Finds site_contents n q script e → Fitting n q e
  goes q part d e k r f = files.goes site_contents worker_set laws m n came sent fd c buffered script order q part d e k
      r
      f.expected f.may f

  has_after_reply : (q : Answer) (d : Phase) (r : Reply) (received : List ℕ) → (f : Fitting m q d)
      → is_opening d ≡ false → is_closing d ≡ false → is_read d ≡ false
      → StepsTo m (event.Call server (conn.next_call fd (at buffered q d))) r n → Names n r received
      → Has n q (expected_in f.expected q (conn.after_reply (at buffered q d) r received).phase)
      (conn.after_reply (at buffered q d) r received).phase
  has_after_reply = files.has_after_reply site_contents worker_set laws m n came sent fd c buffered script order

  finds_after_reply : (q : Answer) (d : Phase) (r : Reply) (received : List ℕ) → is_opening d ≡ false
      → is_read d ≡ false
      → Finds site_contents m q script d
      → Finds site_contents n q script (conn.after_reply (at buffered q d) r received).phase
  finds_after_reply = files.finds_after_reply site_contents worker_set laws m n came sent fd c buffered script order

  differ-fds : (g f pos : ℕ) → descriptor m server g ≡ Some (on.File f pos modes.Read)
      → descriptor m server fd ≡ Some (on.Connection c) → (g == fd) ≡ false
  differ-fds = files.differ-fds site_contents worker_set laws m n came sent fd c buffered script order

  unused : (g f pos : ℕ) → descriptor m server g ≡ Some (on.File f pos modes.Read)
      → (list_any (is_conn c) (descriptor m server g ∷ []) || false) ≡ false
  unused = files.unused site_contents worker_set laws m n came sent fd c buffered script order

  -- ---- each phase that opens and reads no file

  -- the invariant after the reply, if the invariant of the bytes is preserved
  on-consistency : (q : Answer) (d : Phase) (r : Reply) (received : List ℕ) (f : Fitting m q d) → is_opening d ≡ false
      → is_closing d ≡ false → is_read d ≡ false
      → StepsTo m (event.Call server (conn.next_call fd (at buffered q d))) r n → Names n r received
      → touches_conn m (event.Call server (conn.next_call fd (at buffered q d))) c ≡ false
      → touches_fd m (event.Call server (conn.next_call fd (at buffered q d))) server fd ≡ false
      → ConsistenciesOn site_contents buffered script f.expected f.expected q d
      (conn.after_reply (at buffered q d) r received).phase
      → Fitting n q (conn.after_reply (at buffered q d) r received).phase
  on-consistency q d r received f un busy unread step names un_conn un_fd consistencies =
      moves_to script q d (conn.after_reply (at buffered q d) r received).phase (conn.next_call fd (at buffered q d)) r
      f.expected
      f.may f step un_conn un_fd consistencies
      (has_after_reply q d r received f un busy unread step names) (finds_after_reply q d r received un unread f.finds)

  -- the invariant after the reply, if the same part of the response is written
  on-stands : (part : List ℕ) (q : Answer) (d : Phase) (r : Reply) (received : List ℕ) (f : Fitting m q d)
      → is_opening d ≡ false → is_closing d ≡ false → is_read d ≡ false
      → StepsTo m (event.Call server (conn.next_call fd (at buffered q d))) r n → Names n r received
      → touches_conn m (event.Call server (conn.next_call fd (at buffered q d))) c ≡ false
      → touches_fd m (event.Call server (conn.next_call fd (at buffered q d))) server fd ≡ false
      → Stands f.expected q part d → Stands f.expected q part (conn.after_reply (at buffered q d) r received).phase
      → Fitting n q (conn.after_reply (at buffered q d) r received).phase
  on-stands part q d r received f un busy unread step names un_conn un_fd was stands =
      goes q part d (conn.after_reply (at buffered q d) r received).phase (conn.next_call fd (at buffered q d)) r f step
      un_conn
      un_fd was stands
      (has_after_reply q d r received f un busy unread step names) (finds_after_reply q d r received un unread f.finds)

  resolved-stands : (expected : List ℕ) (q : Answer) (k : FileResult) → Stands expected q [] (resolved q k)
  resolved-stands expected (serve w) (File a len) = by (selected w.range len)
    where
      by : (sel : Selection) → Stands expected (serve w) [] (sends_of sel a len)
      by (Bytes first last) = (refl, refl, refl)
      by x = (refl, refl, refl)
  resolved-stands expected (refuse status head_only close) (File a len) = (refl, refl, refl)
  resolved-stands expected q k = (refl, refl, refl)

  shuts-stands : (expected : List ℕ) (q : Answer) (g : ℕ) (k : FileResult) (r : Reply)
      → Stands expected q [] (after_close_file q g k r)
  shuts-stands expected q g k r = after-done (Stands expected q []) r (refl, refl, refl) (resolved-stands expected q k)

  shuts : (q : Answer) (g : ℕ) (k : FileResult) (r : Reply) (received : List ℕ) → is_read (ClosingFile g k) ≡ false
      → Fitting m q (ClosingFile g k)
      → StepsTo m (event.Call server (call.Close g)) r n → Names n r received → Fitting n q (after_close_file q g k r)
  shuts q g k r received unread f step names =
      on-stands [] q (ClosingFile g k) r received f refl refl unread step names (unused g f.has.0.0 f.has.0.1 f.has.0.2)
      (differ-fds g f.has.0.0 f.has.0.1 f.has.0.2 f.open_on) (refl, refl, refl) (shuts-stands f.expected q g k r)

  -- the text of a script was read
  shuts_text : (q : Answer) (g a : ℕ) (r : Reply) → Fitting m q (ClosingFile g (TextOf a true))
      → StepsTo m (event.Call server (call.Close g)) r n
      → Fitting n q (after_close_file q g (TextOf a true) r)
  shuts_text q g a r f step =
      let on =
      still q r (having.shuts laws.the.steps laws.the.own m n order q g (TextOf a true) (text_of q Script) r f.has
      step) f.finds in
      goes q [] (ClosingFile g (TextOf a true)) (after_close_file q g (TextOf a true) r) (call.Close g) r f step
      (unused g f.has.0.0 f.has.0.1 f.has.0.2) (differ-fds g f.has.0.0 f.has.0.1 f.has.0.2 f.open_on)
      (refl, refl, refl) (shuts-stands f.expected q g (TextOf a true) r)
      on.0 on.1
    where
      still : (q : Answer) (r : Reply) → Has n q (text_of q Script) (after_close_file q g (TextOf a true) r)
          → HasText site_contents q script
          → Has n q (expected_in f.expected q (after_close_file q g (TextOf a true) r))
          (after_close_file q g (TextOf a true) r)
          × Finds site_contents n q script (after_close_file q g (TextOf a true) r)
      still (serve w) reply.Done has text = (has, text)
      still (refuse status head_only close) reply.Done has text = (has, text)
      still q r has text = (has, text)

  -- the text that was read is dropped: except for HEAD, the script begins to run
  runs : (process_slots : List (ProcessSlot worker_set.Worker)) (q : Answer) (a : ℕ) (r : Reply) (received : List ℕ)
      → Fitting m q (DroppingWhole a Script)
      → StepsTo m (event.Call server (call.AggDrop a)) r n
      → Fits site_contents worker_set n came sent fd c
      (script_after_reply (alone buffered script q (DroppingWhole a Script)) r received) process_slots
  runs process_slots (refuse status head_only close) a r received f step = absurd (let bad = f.finds.asks in cc (bad))
  runs process_slots (serve w) a r received f step =
      by w.head_only r refl (laws.the.own.drops m n server a r order step) step
    where
      may : MaySendOutput w.head_only w nothing_yet (expected_to site_contents (serve w))
      may =
          subst
          (λ (t : Bool). known.MayAnswer (serve w)
          (if t then OfScript f.finds.text nothing_yet else OfFile (Failed 500)) (expected_to site_contents (serve w)))
          f.finds.runs
          (laws.expected.read site_contents.scripts site_contents.finds site_contents.shows w f.finds.text f.finds.asks
          f.finds.found)

      may_be : (b : Bool) → w.head_only ≡ b → MaySendOutput b w nothing_yet (expected_to site_contents (serve w))
      may_be b is = subst (λ (t : Bool). MaySendOutput t w nothing_yet (expected_to site_contents (serve w))) is may

      consistencies : (k : Connection) (took sent : List ℕ) → w.head_only ≡ false
          → ConsistencyAlone site_contents f.expected k took sent
          (alone buffered script (serve w) (DroppingWhole a Script))
          → ConsistencyRun site_contents (expected_to site_contents (serve w)) k took sent buffered w nothing_yet
          AwaitingWorker
      consistencies k took sent get (inl owes) = inl (record { answers = owes.1; may = may_be false get; whole = refl })
      consistencies k took sent get (inr (inl finished)) = absurd (let bad = finished.quits in cc (bad))
      consistencies k took sent get (inr (inr gone)) = inr gone

      begins : w.head_only ≡ false → StepsTo m (event.Call server (call.AggDrop a)) reply.Done n
          → FitsRun site_contents worker_set n came sent fd c (record {
            conn = at buffered (serve w) (MakingHead Script);
            run = Some AwaitingWorker;
            script = script;
          }) AwaitingWorker process_slots
      begins get step =
          let leaves = laws.the.steps.leaves m n (event.Call server (call.AggDrop a)) reply.Done step in
          let conn = leaves.conns c refl in
          let lines = some-lines (script_of f.finds.text) f.finds.runs in
          let shown = outcomes_by site_contents.shows lines.0 in
          let is_expected : expected_to site_contents (serve w) ≡ response_to w (made_of w lines.0 shown) =
          script-expected site_contents w f.finds.text lines.0 f.finds.asks f.finds.found lines.1 get in
          record {
            open_on = leaves.fds server fd (on.Connection c) f.open_on refl;
            took = f.took;
            came_is = f.came_is ∙ ap (λ (x : Connection). f.took ++ bytes_of x.incoming) (sym conn);
            wanted = w;
            script = record {
              asks = refl;
              stands = refl;
              get = get;
              is_for = f.finds.asks;
              text = f.finds.text;
              found = f.finds.found;
              lines = lines.0;
              is_script = lines.1;
              proper = f.proper;
            };
            shown = shown;
            may_show = all-show site_contents shown;
            fresh = λ starts. refl;
            buffered = λ u. f.finds.buffered get;
            so_far = nothing_yet;
            has = refl;
            ongoing = refl;
            consistency =
                subst (λ (l : List ℕ). ConsistencyRun site_contents l (conn_at n c) f.took sent buffered w nothing_yet
                AwaitingWorker) is_expected
                (subst (λ (x : Connection). ConsistencyRun site_contents (expected_to site_contents (serve w)) x f.took
                sent buffered w nothing_yet AwaitingWorker) (sym conn)
                (consistencies (conn_at m c) f.took sent get f.consistency));
            job_queue = tt;
          }

      by : (b : Bool) (r : Reply) → w.head_only ≡ b → o.Drops m server a r n
          → StepsTo m (event.Call server (call.AggDrop a)) r n
          → Fits site_contents worker_set n came sent fd c
          (record {
            conn = at buffered (serve w) (after_drop_whole a Script r);
            run = client.after_drop_whole b r;
            script = script;
          }) process_slots
      by true reply.Done is did step =
          files.goes site_contents worker_set laws m n came sent fd c buffered script order (serve w) []
          (DroppingWhole a Script)
          (MakingHead Script) (call.AggDrop a) reply.Done (expected_to site_contents (serve w))
          (expected-may site_contents (serve w)) f step refl refl (refl, refl, refl) (refl, refl, refl)
          (may_be true is) tt
      by false reply.Done is did step = begins is step
      by other (reply.Refused y) is did step = same (serve w) (DroppingWhole a Script) f did
      by b r is did step = absurd did

  headed-stands : (expected : List ℕ) (q : Answer) (a size : ℕ) (more : Following)
      → Stands expected q [] (headed a size more)
  headed-stands expected q a size None = (refl, refl, refl)
  headed-stands expected q a size (Some x) =
      either-way (λ (e : Phase). Stands expected q [] e) (nat_le (size + x.1) MAX_AGGREGATE_BYTES) (refl, refl, refl)
      (refl, refl, refl)

  swaps-stands : (expected : List ℕ) (q : Answer) (s : Sending)
      → Stands expected q (take s.taken expected) (next_piece s)
  swaps-stands expected q s =
      either-next (λ (e : Phase). Stands expected q (take s.taken expected) e) s (refl, refl, refl) (refl, refl, refl)

  drops-quit : (more : Following) → quits (drops_next more) ≡ true
  drops-quit None = refl
  drops-quit (Some x) = refl

  sent-consistencies : (q : Answer) (a taken : ℕ) (more : Following) (f : Fitting m q (DroppingSent a taken more))
      → ConsistenciesOn site_contents buffered script f.expected f.expected q (DroppingSent a taken more)
      (proceeds q taken more)
  sent-consistencies q a taken more f = after more f.has
    where
      ended : (b : Bool) → keeps q ≡ b → drop taken f.expected ≡ []
          → ConsistenciesOn site_contents buffered script f.expected f.expected q (DroppingSent a taken None)
          (if b then Receiving else Disconnecting)
      ended true keep none = ends site_contents buffered script f.expected q f.may a taken keep none
      ended false keep none = ends-last site_contents buffered script f.expected q f.may a taken keep none

      after : (more : Following) → HoldsMore m f.expected a taken more
          → ConsistenciesOn site_contents buffered script f.expected f.expected q (DroppingSent a taken more)
          (proceeds q taken more)
      after (Some x) h =
          consistency_on site_contents buffered script f.expected f.expected q (DroppingSent a taken (Some x))
          (SendingWhole (whole x.0 x.1 taken None)) refl refl refl refl
      after None h = ended (keeps q) refl (sym h.next ∙ h.follows)

  -- ---- any call except the last

  -- whether the phase reads a file, or drops the text of a script
  abbrev is_of_text : Phase → Bool
  is_of_text (Reading g) = true
  is_of_text (DroppingWhole a Script) = true
  is_of_text d = false

  phase : (q : Answer) (d : Phase) (r : Reply) (received : List ℕ) → is_of_text d ≡ false
      → IsFixed site_contents.finds m → Fitting m q d
      → conn.IsAwaiting (at buffered q d) → is_closing d ≡ false → IsAmong site_contents.refuses.of_server r
      → StepsTo m (event.Call server (conn.next_call fd (at buffered q d))) r n → Names n r received
      → FitsAlone site_contents n came sent fd c (conn_after_reply (alone buffered script q d) r received)
  phase q Receiving r received plain fixed f waits busy undisturbed step names =
      rests site_contents laws.the m n came sent fd c buffered script order q r received f waits step names
  phase q (DroppingInput a) r received plain fixed f waits busy undisturbed step names =
      on-consistency q (DroppingInput a) r received f refl refl refl step names refl refl
      (after-done (ConsistenciesOn site_contents buffered script f.expected f.expected q (DroppingInput a)) r
      (consistency_on site_contents buffered script f.expected f.expected q (DroppingInput a) (DroppingInput a) refl
      refl
      refl refl)
      (consistency_on site_contents buffered script f.expected f.expected q (DroppingInput a) Receiving refl refl refl
      refl))
  phase q Opening r received plain fixed f waits busy undisturbed step names =
      files.opens site_contents worker_set laws m n came sent fd c buffered script order q r received fixed f
      undisturbed
      step
  phase q (Reading g) r received plain fixed f waits busy undisturbed step names = absurd (cc (plain))
  phase q (ClosingFile g (TextOf a true)) r received plain fixed f waits busy undisturbed step names =
      shuts_text q g a r f step
  phase q (ClosingFile g k) r received plain fixed f waits busy undisturbed step names =
      shuts q g k r received refl f step names
  phase q (Slicing a first last len) r received plain fixed f waits busy undisturbed step names =
      on-stands [] q (Slicing a first last len) r received f refl refl refl step names refl refl (refl, refl, refl)
      (after-agg (Stands f.expected q []) r (refl, refl, refl) (λ x. (refl, refl, refl)))
  phase q (DroppingWhole a Script) r received plain fixed f waits busy undisturbed step names = absurd (cc (plain))
  phase q (DroppingWhole a k) r received plain fixed f waits busy undisturbed step names =
      on-stands [] q (DroppingWhole a k) r received f refl refl refl step names refl refl (refl, refl, refl)
      (after-done (Stands f.expected q []) r (refl, refl, refl) (refl, refl, refl))
  phase q (MakingHead k) r received plain fixed f waits busy undisturbed step names =
      on-stands [] q (MakingHead k) r received f refl refl refl step names refl refl (refl, refl, refl)
      (after-agg (Stands f.expected q []) r (refl, refl, refl)
      (λ x. headed-stands f.expected q x (count_of received) (following k)))
  phase q (Joining a size body len) r received plain fixed f waits busy undisturbed step names =
      on-stands [] q (Joining a size body len) r received f refl refl refl step names refl refl (refl, refl, refl)
      (after-agg (Stands f.expected q []) r (refl, refl, refl) (λ x. (refl, refl, refl)))
  phase q (SendingWhole s) r received plain fixed f waits busy undisturbed step names =
      sends site_contents laws.the m n came sent fd c buffered script order q s r f step
      (has_after_reply q (SendingWhole s) r received f refl refl refl step names)
      (finds_after_reply q (SendingWhole s) r received refl refl f.finds)
  phase q (CuttingPiece s) r received plain fixed f waits busy undisturbed step names =
      on-stands (take s.taken f.expected) q (CuttingPiece s) r received f refl refl refl step names refl refl
      (refl, refl, refl) (after-agg (Stands f.expected q (take s.taken f.expected)) r (refl, refl, refl)
      (λ x. (refl, refl, refl)))
  phase q (SendingPiece s piece) r received plain fixed f waits busy undisturbed step names =
      offers site_contents laws.the m n came sent fd c buffered script order q s piece r f step
      (has_after_reply q (SendingPiece s piece) r received f refl refl refl step names)
      (finds_after_reply q (SendingPiece s piece) r received refl refl f.finds)
  phase q (DroppingPiece s piece) r received plain fixed f waits busy undisturbed step names =
      on-stands (take s.taken f.expected) q (DroppingPiece s piece) r received f refl refl refl step names
      refl refl (refl, refl, refl) (after-done (Stands f.expected q (take s.taken f.expected)) r (refl, refl, refl)
      (swaps-stands f.expected q s))
  phase q (DroppingSent a taken more) r received plain fixed f waits busy undisturbed step names =
      on-consistency q (DroppingSent a taken more) r received f refl refl refl step names refl refl
      (after-done (ConsistenciesOn site_contents buffered script f.expected f.expected q (DroppingSent a taken more)) r
      (consistency_on site_contents buffered script f.expected f.expected q (DroppingSent a taken more)
      (DroppingSent a taken more) refl
      refl refl refl) (sent-consistencies q a taken more f))
  phase q (AbortingPiece piece a more) r received plain fixed f waits busy undisturbed step names =
      on-consistency q (AbortingPiece piece a more) r received f refl refl refl step names refl refl
      (hush site_contents buffered script f.expected f.expected q (AbortingPiece piece a more)
      (conn.after_break piece a more r) refl
      (after-done (λ e. quits e ≡ true) r refl refl))
  phase q (Aborting a more) r received plain fixed f waits busy undisturbed step names =
      on-consistency q (Aborting a more) r received f refl refl refl step names refl refl
      (hush site_contents buffered script f.expected f.expected q (Aborting a more) (conn.after_drop a more r) refl
      (after-done (λ e. quits e ≡ true) r refl (drops-quit more)))
  phase q Disconnecting r received plain fixed f waits busy undisturbed step names = absurd (cc (busy))
  phase q Closed r received plain fixed f waits busy undisturbed step names = absurd (cc (busy))

  pub alone_phase : (process_slots : List (ProcessSlot worker_set.Worker)) (b : Bool) (q : Answer) (d : Phase)
      (r : Reply) (received : List ℕ)
      → is_for_script site_contents.scripts q ≡ b → IsFixed site_contents.finds m → Fitting m q d
      → conn.IsAwaiting (at buffered q d) → is_closing d ≡ false → IsAmong site_contents.refuses.of_server r
      → StepsTo m (event.Call server (conn_call b fd (at buffered q d))) r n → Names n r received
      → Fits site_contents worker_set n came sent fd c (file_after_reply b (alone buffered script q d) r received)
      process_slots
  alone_phase process_slots false q (Reading g) r received is fixed f waits busy undisturbed step names =
      files.reads site_contents worker_set laws m n came sent fd c buffered script order q g r received is fixed f
      undisturbed step names
  alone_phase process_slots false q (DroppingWhole a Script) r received is fixed f waits busy undisturbed step names =
      absurd (clash (is_for_script site_contents.scripts q) f.finds.asks is)
  alone_phase process_slots true q (Reading g) r received is fixed f waits busy undisturbed step names =
      files.reads_text site_contents worker_set laws m n came sent fd c buffered script order q g r received is fixed f
      undisturbed step names
  alone_phase process_slots true q (DroppingWhole a Script) r received is fixed f waits busy undisturbed step names =
      runs process_slots q a r received f step
  alone_phase process_slots b q d r received is fixed f waits busy undisturbed step names =
      phase q d r received refl fixed f waits busy undisturbed step names
