-- A client without a running script: lemmas of its phases, and the phases that open its file and read it.
use Rattle.std.proofs.Common.{◌≡◌, ℕ, ◌+◌, ◌==◌, ◌≤◌, List, [], ◌∷◌, ◌++◌, length, take, ap, ◌∙◌, refl, sym, subst}
use Rattle.std.proofs.Common.{arith, Option, Some, None, true, false, Bool, if◌then◌else◌}
use Rattle.std.specs.Prelude.{◌||◌, ◌&&◌}
use Rattle.std.specs.List.{list_any}
use Rattle.std.proofs.lemmas.List.{take_all}
use Rattle.iol_core.specs.Text.{bytes_of}
use Rattle.iol_core.specs.State.{State, Connection, File as FileEntry, descriptor, content, conn_at, may_read, file}
use Rattle.iol_core.specs.Calls.Files.{file_called}
use Rattle.iol_core.specs.Calls.Writes.{is_file}
use Rattle.iol_core.specs.Run.{StepsTo}
use Rattle.iol_core.specs.declared.descriptors.Descriptor.{Descriptor}
use Rattle.iol_core.specs.declared.descriptors.Descriptor.TheVariants as on
use Rattle.iol_core.specs.declared.descriptors.Mode.TheVariants as modes
use Rattle.iol_core.specs.declared.refusals.Refusal.TheVariants as no
use Rattle.iol_core.specs.declared.events.Call.{Call}
use Rattle.iol_core.specs.declared.events.Call.TheVariants as call
use Rattle.iol_core.specs.declared.events.Event.TheVariants as event
use Rattle.iol_core.specs.declared.events.Reply.{Reply}
use Rattle.iol_core.specs.declared.events.Reply.TheVariants as reply
use Rattle.iol_laws.specs.Frame.{is_conn, touches_conn, touches_fd}
use Rattle.iol_laws.specs.Order.{IsOrderly}
use Rattle.iol_laws.specs.CallerFiles as of
use Rattle.flash_http.specs.Range.{selected}
use Rattle.flash_http.specs.Request.{Answer, serve, refuse, Wanted}
use Rattle.flash_laws.specs.Answers.{Outcome, Found, Failed, body_unless, chosen, file_text, unsatisfiable, response}
use Rattle.flash_laws.specs.Client.{is_for_script, can_run, buffered_if, script_after_reply}
use Rattle.flash_laws.specs.Client.Fits.{ConsistencyAlone, expected_in, Finds, FitsAlone}
use Rattle.flash_laws.specs.Conn as conn
use Rattle.flash_laws.specs.Conn.{Conn, most_read, name_of, count_of, text_of, status_of}
use Rattle.flash_laws.specs.Workers.WorkerSet.{WorkerSet}
use Rattle.flash_laws.specs.Conn.Fits.{Has, is_closing, Names}
use Rattle.flash_laws.specs.Client.ResponseState as known
use Rattle.flash_laws.specs.Client.ResponseState.{OfFile, OfScript, is_read, is_opening}
use Rattle.flash_laws.specs.Run.Fits.{nothing_yet}
use Rattle.flash_laws.specs.SiteContents.{SiteContents, expected_to, MayBeExpected, IsAmong}
use Rattle.flash_laws.proofs.Conn.AnswerParts as having
use Rattle.flash_laws.proofs.Site.Expected.{expected-may, error-may}
use Rattle.flash_laws.specs.Site.{server, found_in, IsFixed}
use Rattle.flash_laws.specs.declared.phase.FileResult.TheVariants.{File, Length, Text as TextOf}
use Rattle.flash_laws.specs.declared.phase.Payload.TheVariants.{Error, Script}
use Rattle.flash_laws.specs.declared.phase.Phase.{Phase}
use Rattle.flash_laws.specs.declared.phase.Phase.TheVariants.{Opening, Reading as Reading, ClosingFile, MakingHead}
use Rattle.flash_laws.proofs.Conn.Responses.{some-inj}
use Rattle.flash_laws.proofs.Conn.ShortHeads.{refusal-status, finds-after_reply}
use Rattle.flash_laws.proofs.Forms.{at}
use Rattle.flash_laws.proofs.Client.Phases as phases
use Rattle.flash_laws.proofs.Counts.{counted}
use Rattle.flash_laws.proofs.Conn.ReadableBytes.{file-same, content-same}
use Rattle.flash_laws.proofs.Lists.{not-equal}
use Rattle.flash_laws.proofs.World.AllLaws.{AllLaws}
use Rattle.flash_laws.proofs.World.Alone.Consistencies.{alone, FitsAt, Stands, ConsistenciesOn, consistency_on}

-- in a phase that does not read a script, the expected bytes are those of the response
pub expected-is : (expected : List ℕ) (q : Answer) (d : Phase) → is_read d ≡ false → expected_in expected q d ≡ expected
expected-is expected q d is = ap (λ b. if b then text_of q Script else expected) is

module _ (site_contents : SiteContents) (worker_set : WorkerSet) (laws : AllLaws worker_set) (m n : State)
    (came sent : List ℕ) (fd c : ℕ) (buffered script : List ℕ)
    (order : IsOrderly m) where
  abbrev Fitting : State → Answer → Phase → Type 0
  Fitting = FitsAt site_contents came sent fd c buffered script

  -- a call that leaves the connection unchanged; the text that is kept may change
  pub moves_to : (text : List ℕ) (q : Answer) (d e : Phase) (k : Call) (r : Reply) (later : List ℕ)
      → MayBeExpected site_contents q later → (f : Fitting m q d)
      → StepsTo m (event.Call server k) r n → touches_conn m (event.Call server k) c ≡ false
      → touches_fd m (event.Call server k) server fd ≡ false
      → ConsistenciesOn site_contents buffered script f.expected later q d e
      → Has n q (expected_in later q e) e → Finds site_contents n q text e
      → FitsAlone site_contents n came sent fd c (alone buffered text q e)
  moves_to text q d e k r later may f step un un_fd consistencies has finds =
      let leaves = laws.the.steps.leaves m n (event.Call server k) r step in
      let conn = leaves.conns c un in
      record {
        open_on = leaves.fds server fd (on.Connection c) f.open_on un_fd;
        took = f.took;
        expected = later;
        may = may;
        came_is = f.came_is ∙ ap (λ (x : Connection). f.took ++ bytes_of x.incoming) (sym conn);
        consistency =
            subst (λ (x : Connection). ConsistencyAlone site_contents later x f.took sent (alone buffered script q e))
            (sym conn) (consistencies (conn_at m c) f.took sent f.consistency);
        has = has;
        finds = finds;
        proper = f.proper;
      }

  pub same : (q : Answer) (d : Phase) → Fitting m q d → n ≡ m → Fitting n q d
  same q d f is = subst (λ (s : State). Fitting s q d) (sym is) f

  -- a call after which the same part of the response is written
  pub goes : (q : Answer) (part : List ℕ) (d e : Phase) (k : Call) (r : Reply) (later : List ℕ)
      → MayBeExpected site_contents q later → (f : Fitting m q d)
      → StepsTo m (event.Call server k) r n → touches_conn m (event.Call server k) c ≡ false
      → touches_fd m (event.Call server k) server fd ≡ false
      → Stands f.expected q part d → Stands later q part e → Has n q (expected_in later q e) e
      → Finds site_contents n q script e → Fitting n q e
  goes q part d e k r later may f step un un_fd was stands has finds =
      moves_to script q d e k r later may f step un un_fd
      (consistency_on site_contents buffered script f.expected later q d e (stands.0 ∙ sym was.0) (stands.1 ∙ sym was.1)
      was.2 stands.2) has finds

  -- the client's objects and its file after a call that opens and reads no file
  pub has_after_reply : (q : Answer) (d : Phase) (r : Reply) (received : List ℕ) → (f : Fitting m q d)
      → is_opening d ≡ false → is_closing d ≡ false → is_read d ≡ false
      → StepsTo m (event.Call server (conn.next_call fd (at buffered q d))) r n → Names n r received
      → Has n q (expected_in f.expected q (conn.after_reply (at buffered q d) r received).phase)
      (conn.after_reply (at buffered q d) r received).phase
  has_after_reply q d r received f un busy unread step names =
      subst (λ (l : List ℕ). Has n q l (conn.after_reply (at buffered q d) r received).phase)
      (sym (expected-is f.expected q (conn.after_reply (at buffered q d) r received).phase
      (phases.unread-after_reply buffered q d r received unread)))
      (having.phase laws.the.steps laws.the.own m n order buffered fd c q d f.expected r received f.open_on un busy
      (subst (λ (l : List ℕ). Has m q l d) (expected-is f.expected q d unread) f.has) step names)

  pub finds_after_reply : (q : Answer) (d : Phase) (r : Reply) (received : List ℕ) → is_opening d ≡ false
      → is_read d ≡ false
      → Finds site_contents m q script d
      → Finds site_contents n q script (conn.after_reply (at buffered q d) r received).phase
  finds_after_reply q d r received un unread found =
      finds-after_reply site_contents m n buffered q script d r received un unread found

  -- the file's descriptor is not the connection's
  pub differ-fds : (g f pos : ℕ) → descriptor m server g ≡ Some (on.File f pos modes.Read)
      → descriptor m server fd ≡ Some (on.Connection c) → (g == fd) ≡ false
  differ-fds g f pos is_file is_conn =
      not-equal g fd (λ same. let e = ap (λ k. descriptor m server k) same in absurd (cc (e, is_file, is_conn)))

  pub unused : (g f pos : ℕ) → descriptor m server g ≡ Some (on.File f pos modes.Read)
      → (list_any (is_conn c) (descriptor m server g ∷ []) || false) ≡ false
  unused g f pos is = ap (λ (d : Option Descriptor). list_any (is_conn c) (d ∷ []) || false) is

  -- the expected response to a request for a file is that of the file's outcome
  expected_of_file : (w : Wanted) (found : Outcome) → is_for_script site_contents.scripts (serve w) ≡ false
      → site_contents.finds w.name ≡ found
      → expected_to site_contents (serve w) ≡ response (serve w) found
  expected_of_file w found none is =
      laws.expected.file site_contents.scripts site_contents.finds site_contents.shows (serve w) none
      ∙ ap (λ (y : Outcome). response (serve w) y) is

  -- if a file cannot be opened, the expected response is an error, for a script too
  failed : (w : Wanted) (status : ℕ) → site_contents.finds w.name ≡ Failed status
      → expected_to site_contents (serve w) ≡ text_of (serve w) (Error status)
  failed w status is = by (is_for_script site_contents.scripts (serve w)) refl
    where
      by : (b : Bool) → is_for_script site_contents.scripts (serve w) ≡ b
          → expected_to site_contents (serve w) ≡ text_of (serve w) (Error status)
      by true for_script = laws.expected.unread site_contents.scripts site_contents.finds site_contents.shows w status
          for_script is
      by false none = expected_of_file w (Failed status) none is

  pub opens : (q : Answer) (r : Reply) (received : List ℕ) → IsFixed site_contents.finds m → Fitting m q Opening
      → IsAmong site_contents.refuses.of_server r
      → StepsTo m (event.Call server (call.OpenFile (name_of q) modes.Read)) r n
      → Fitting n q (conn.after_open r)
  opens (refuse status head_only close) r received fixed f undisturbed step = absurd f.has
  opens (serve w) r received fixed f undisturbed step =
      by r (laws.the.files.opens m n server w.name modes.Read r fixed.lives step) step undisturbed
    where
      shelved : (x : Option ℕ) → file_called m w.name ≡ x → site_contents.finds w.name ≡ found_in m x
      shelved x is = sym (fixed.outcomes w.name) ∙ ap (λ (y : Option ℕ). found_in m y) is

      found : (i : ℕ) (b : Bool) → may_read m server (file m i).pool ≡ b → file_called m w.name ≡ Some i
          → site_contents.finds w.name ≡ (if b then Found (content m i) else Failed 403)
      found i b may is = shelved (Some i) is ∙ ap (λ (t : Bool). if t then Found (content m i) else Failed 403) may

      by : (r : Reply) → of.Opening m server w.name modes.Read r n
          → StepsTo m (event.Call server (call.OpenFile w.name modes.Read)) r n
          → IsAmong site_contents.refuses.of_server r
          → Fitting n (serve w) (conn.after_open r)
      by (reply.Fd g) did step undisturbed =
          let leaves = laws.the.steps.leaves m n (event.Call server (call.OpenFile w.name modes.Read)) (reply.Fd g)
          step in
          let here = file-same m n did.file_is (leaves.files refl).0 in
          let bytes = content-same m n did.file_is (leaves.files refl).1 in
          goes (serve w) [] Opening (Reading g) (call.OpenFile w.name modes.Read) (reply.Fd g)
          (expected_to site_contents (serve w)) (expected-may site_contents (serve w)) f step refl refl
          (refl, refl, refl) (refl, refl, refl)
          (tt, (did.file_is, 0, did.open_on)) (record {
            number = did.file_is;
            open_on = did.open_on;
            may =
                subst (λ (x : FileEntry). may_read n server x.pool ≡ true) (sym here)
                (leaves.readers server (file m did.file_is).pool did.may);
            short =
                subst (λ (l : List ℕ). length l ≤ most_read) (sym bytes) (fixed.lengths w.name did.file_is did.found);
            found = found did.file_is true did.may did.found ∙ ap (λ (l : List ℕ). Found l) (sym bytes);
          })
      by (reply.Refused no.NoFile) did step undisturbed =
          goes (serve w) [] Opening (MakingHead (Error 404)) (call.OpenFile w.name modes.Read) (reply.Refused no.NoFile)
          (expected_to site_contents (serve w)) (expected-may site_contents (serve w)) f step refl refl
          (refl, refl, refl) (refl, refl, refl) (failed w 404 (shelved None did.0)) refl
      by (reply.Refused (no.Denied p)) did step undisturbed =
          let may_not = ap (λ z. may_read m server z) did.0.pool_is ∙ did.0.may_not in
          goes (serve w) [] Opening (MakingHead (Error 403)) (call.OpenFile w.name modes.Read)
          (reply.Refused (no.Denied p))
          (expected_to site_contents (serve w)) (expected-may site_contents (serve w)) f step refl refl
          (refl, refl, refl) (refl, refl, refl) (failed w 403 (found did.0.file_is false may_not did.0.found)) refl
      by (reply.Refused no.WouldBlock) did step undisturbed = absurd (let bad = did.0 in cc (bad))
      by (reply.Refused y) did step undisturbed =
          goes (serve w) [] Opening (conn.after_open (reply.Refused y)) (call.OpenFile w.name modes.Read)
          (reply.Refused y)
          (text_of (serve w) (Error (status_of y))) (error-may site_contents w y (undisturbed did.0)) f step refl refl
          (refl, refl, refl) (refl, refl, refl) refl (refusal-status y)
      by r did step undisturbed = absurd did

  -- a read of a file touches neither the connection nor its descriptor
  reads_apart : (g i count : ℕ) → descriptor m server g ≡ Some (on.File i 0 modes.Read)
      → descriptor m server fd ≡ Some (on.Connection c)
      → (touches_conn m (event.Call server (call.IolRead g count)) c ≡ false)
      × (touches_fd m (event.Call server (call.IolRead g count)) server fd ≡ false)
  reads_apart g i count is open_on = (
    unused g i 0 is,
    ap (λ b. true && b && is_file (descriptor m server g)) (differ-fds g i 0 is open_on) ∙ grind (arith),
  )

  pub reads : (q : Answer) (g : ℕ) (r : Reply) (received : List ℕ) → is_for_script site_contents.scripts q ≡ false
      → IsFixed site_contents.finds m → Fitting m q (Reading g)
      → IsAmong site_contents.refuses.of_server r
      → StepsTo m (event.Call server (conn.next_call fd (at buffered q (Reading g)))) r n
      → Names n r received → Fitting n q (conn.after_read g r received)
  reads (refuse status head_only close) g r received none fixed f undisturbed step names = absurd f.has.0
  reads (serve w) g r received none fixed f undisturbed step names = which w.head_only refl step
    where
      measured : (r : Reply) → w.head_only ≡ true → of.Reports m (length (content m f.finds.number)) r n
          → StepsTo m (event.Call server (call.Length g)) r n
          → Fitting n (serve w) (conn.after_read g r received)
      measured (reply.Count k) is did step =
          goes (serve w) [] (Reading g) (ClosingFile g (Length k)) (call.Length g) (reply.Count k)
          (expected_to site_contents (serve w)) (expected-may site_contents (serve w)) f step refl refl
          (refl, refl, refl) (refl, refl, refl) (
            (
              f.has.1.0,
              f.has.1.1,
              subst (λ (s : State). descriptor s server g ≡ Some (on.File f.has.1.0 f.has.1.1 modes.Read)) (sym did.1)
                  f.has.1.2,
            ),
            expected_of_file w (Found (content m f.finds.number)) none f.finds.found
                ∙ (ap (λ b. file_text w (length (content m f.finds.number))
                ++ body_unless b
                (chosen (selected w.range (length (content m f.finds.number))) (content m f.finds.number))) is
                ∙ (ap (λ z. file_text w z ++ []) (sym did.0)
                ∙ ap (λ b. file_text w k ++ body_unless b unsatisfiable) (sym is))),
          ) (let size = did.0 in let short = f.finds.short in omega (arith, size, short))
      measured r is did step = absurd did

      whole : (r : Reply) → w.head_only ≡ false
          → of.ReadsFile m server g f.finds.number 0 modes.Read (take most_read (content m f.finds.number)) r n
          → StepsTo m (event.Call server (call.IolRead g most_read)) r n → IsAmong site_contents.refuses.of_server r
          → Names n r received → Fitting n (serve w) (conn.after_read g r received)
      whole (reply.Agg a) is did step undisturbed names =
          let bytes : received ≡ content m f.finds.number = some-inj _ _ (sym names ∙ did.is_readable)
          ∙ take_all most_read (content m f.finds.number) f.finds.short in
          let apart = reads_apart g f.finds.number most_read f.finds.open_on f.open_on in
          goes (serve w) [] (Reading g) (ClosingFile g (File a (count_of received))) (call.IolRead g most_read)
          (reply.Agg a)
          (expected_to site_contents (serve w)) (expected-may site_contents (serve w)) f step apart.0 apart.1
          (refl, refl, refl) (refl, refl, refl) (
            (f.finds.number, 0 + length (take most_read (content m f.finds.number)), did.moves),
            record {
              bytes = received;
              is_readable = names;
              count = counted received (subst (λ (l : List ℕ). length l ≤ most_read) (sym bytes) f.finds.short);
              whole = is;
              expected_is =
                  expected_of_file w (Found received) none (f.finds.found ∙ ap (λ (l : List ℕ). Found l) (sym bytes));
            },
          ) (let short : length received ≤ most_read =
          subst (λ (l : List ℕ). length l ≤ most_read) (sym bytes) f.finds.short in
          let size = counted received short in omega (arith, size, short))
      whole (reply.Refused no.WouldBlock) is did step undisturbed names = absurd (let bad = did.0 in cc (bad))
      whole (reply.Refused y) is did step undisturbed names =
          let apart = reads_apart g f.finds.number most_read f.finds.open_on f.open_on in
          goes (serve w) [] (Reading g) (conn.after_read g (reply.Refused y) received) (call.IolRead g most_read)
          (reply.Refused y)
          (text_of (serve w) (Error (status_of y))) (error-may site_contents w y (undisturbed did.0)) f step apart.0
          apart.1 (refl, refl, refl) (refl, refl, refl) (
            (
              f.has.1.0,
              f.has.1.1,
              subst (λ (s : State). descriptor s server g ≡ Some (on.File f.has.1.0 f.has.1.1 modes.Read)) (sym did.1)
                  f.has.1.2,
            ),
            refl,
          ) (refusal-status y)
      whole r is did step undisturbed names = absurd did

      which : (b : Bool) → w.head_only ≡ b
          → StepsTo m (event.Call server (if b then call.Length g else call.IolRead g most_read)) r n
          → Fitting n (serve w) (conn.after_read g r received)
      which true is step =
          measured r is (laws.the.files.measures m n server g f.finds.number 0 modes.Read r fixed.lives f.finds.open_on
          step) step
      which false is step =
          whole r is (laws.the.files.reads_file m n server g f.finds.number 0 most_read modes.Read r order fixed.lives
          f.finds.may refl f.finds.open_on step) step undisturbed names

  -- the text of a script is read whole
  pub reads_text : (q : Answer) (g : ℕ) (r : Reply) (received : List ℕ) → is_for_script site_contents.scripts q ≡ true
      → IsFixed site_contents.finds m → Fitting m q (Reading g)
      → IsAmong site_contents.refuses.of_server r → StepsTo m (event.Call server (call.IolRead g most_read)) r n
      → Names n r received
      → FitsAlone site_contents n came sent fd c (script_after_reply (alone buffered script q (Reading g)) r received)
  reads_text (refuse status head_only close) g r received asks fixed f undisturbed step names = absurd f.has.0
  reads_text (serve w) g r received asks fixed f undisturbed step names =
      by r (laws.the.files.reads_file m n server g f.finds.number 0 most_read modes.Read r order fixed.lives f.finds.may
      refl f.finds.open_on step) step undisturbed names
    where
      by : (r : Reply) → of.ReadsFile m server g f.finds.number 0 modes.Read (take most_read (content m f.finds.number))
          r n
          → StepsTo m (event.Call server (call.IolRead g most_read)) r n → IsAmong site_contents.refuses.of_server r
          → Names n r received
          → FitsAlone site_contents n came sent fd c
          (script_after_reply (alone buffered script (serve w) (Reading g)) r received)
      by (reply.Agg a) did step undisturbed names = runs (can_run received) refl
        where
          found : site_contents.finds w.name ≡ Found received
          found =
              let bytes : received ≡ content m f.finds.number = some-inj _ _ (sym names ∙ did.is_readable)
              ∙ take_all most_read (content m f.finds.number) f.finds.short in
              f.finds.found ∙ ap (λ (l : List ℕ). Found l) (sym bytes)

          may : (b : Bool) → can_run received ≡ b
              → known.MayAnswer (serve w) (if b then OfScript received nothing_yet else OfFile (Failed 500))
              (expected_to site_contents (serve w))
          may b is =
              subst
              (λ (t : Bool). known.MayAnswer (serve w)
              (if t then OfScript received nothing_yet else OfFile (Failed 500)) (expected_to site_contents (serve w)))
              is (laws.expected.read site_contents.scripts site_contents.finds site_contents.shows w received asks
              found)

          apart : (touches_conn m (event.Call server (call.IolRead g most_read)) c ≡ false)
              × (touches_fd m (event.Call server (call.IolRead g most_read)) server fd ≡ false)
          apart = reads_apart g f.finds.number most_read f.finds.open_on f.open_on

          buffered_whole : (b h : Bool) → b ≡ true → h ≡ false → buffered_if h b received ≡ received
          buffered_whole true false runs get = refl
          buffered_whole true true runs get = absurd (cc (get))
          buffered_whole false h runs get = absurd (cc (runs))

          runs : (b : Bool) → can_run received ≡ b
              → FitsAlone site_contents n came sent fd c
              (alone buffered (buffered_if w.head_only b received) (serve w) (ClosingFile g (TextOf a b)))
          runs true is =
              moves_to (buffered_if w.head_only true received) (serve w) (Reading g) (ClosingFile g (TextOf a true))
              (call.IolRead g most_read) (reply.Agg a) (expected_to site_contents (serve w))
              (expected-may site_contents (serve w)) f step apart.0 apart.1
              (consistency_on site_contents buffered script f.expected (expected_to site_contents (serve w)) (serve w)
              (Reading g) (ClosingFile g (TextOf a true)) refl refl refl refl) (
                (f.finds.number, 0 + length (take most_read (content m f.finds.number)), did.moves),
                ((received, names), refl),
              )
              (record {
                asks = asks;
                text = received;
                found = found;
                runs = is;
                buffered = λ get. buffered_whole true w.head_only refl get;
              })
          runs false is =
              moves_to (buffered_if w.head_only false received) (serve w) (Reading g) (ClosingFile g (TextOf a false))
              (call.IolRead g most_read) (reply.Agg a) (expected_to site_contents (serve w))
              (expected-may site_contents (serve w)) f step apart.0 apart.1
              (consistency_on site_contents buffered script f.expected (expected_to site_contents (serve w)) (serve w)
              (Reading g) (ClosingFile g (TextOf a false)) refl refl refl refl) (
                (f.finds.number, 0 + length (take most_read (content m f.finds.number)), did.moves),
                ((received, names), may false is),
              ) tt
      by (reply.Refused no.WouldBlock) did step undisturbed names = absurd (let bad = did.0 in cc (bad))
      by (reply.Refused y) did step undisturbed names =
          let apart = reads_apart g f.finds.number most_read f.finds.open_on f.open_on in
          goes (serve w) [] (Reading g) (conn.after_read g (reply.Refused y) received) (call.IolRead g most_read)
          (reply.Refused y)
          (text_of (serve w) (Error (status_of y))) (error-may site_contents w y (undisturbed did.0)) f step apart.0
          apart.1 (refl, refl, refl) (refl, refl, refl) (
            (
              f.has.1.0,
              f.has.1.1,
              subst (λ (s : State). descriptor s server g ≡ Some (on.File f.has.1.0 f.has.1.1 modes.Read)) (sym did.1)
                  f.has.1.2,
            ),
            refl,
          ) (refusal-status y)
      by r did step undisturbed names = absurd did
