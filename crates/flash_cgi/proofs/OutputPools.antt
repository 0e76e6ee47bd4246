-- A worker's output is in the pools of its input, and in its default pool.
use Rattle.std.proofs.Common.{inl, inr, ◌≡◌, ℕ, ◌+◌, ◌==◌, List, [], ◌++◌, length, ap, ◌∙◌, refl, sym, subst, arith}
use Rattle.std.proofs.Common.{Option, Some, None, true, false, Bool, if◌then◌else◌}
use Rattle.std.specs.Prelude.{option_map, nat_le, slice_get, unwrap_or, ◌&&◌, ◌||◌}
use Rattle.std.proofs.lemmas.Bool.Decides.{nat_tests}
use Rattle.iol_core.specs.Text.{Text, bytes_of}
use Rattle.iol_core.specs.NumberedLists.{numbered_or}
use Rattle.iol_core.specs.State.{State, File, aggregate, descriptor, file, no_file, pipe_at, text, is_live}
use Rattle.iol_core.specs.Calls.Aggregates.{default_pool}
use Rattle.iol_core.specs.Positions.{ArePlaced}
use Rattle.iol_core.specs.Run.{StepsTo}
use Rattle.iol_core.specs.declared.refusals.Refusal.TheVariants as not_so
use Rattle.iol_core.specs.declared.descriptors.Descriptor.{Descriptor}
use Rattle.iol_core.specs.declared.descriptors.Descriptor.TheVariants as on
use Rattle.iol_core.specs.declared.descriptors.Mode.{Mode}
use Rattle.iol_core.specs.declared.descriptors.Mode.TheVariants.{Read}
use Rattle.iol_core.specs.declared.events.Call.{Call}
use Rattle.iol_core.specs.declared.events.Call.TheVariants as call
use Rattle.iol_core.specs.declared.events.Event.{Event}
use Rattle.iol_core.specs.declared.events.Event.TheVariants as event
use Rattle.iol_core.specs.declared.events.Reply.{Reply}
use Rattle.iol_core.specs.declared.events.Reply.TheVariants as reply
use Rattle.iol_laws.specs.Aggregates.{brings}
use Rattle.iol_laws.specs.Caller.{readable_at}
use Rattle.iol_laws.specs.CallerDomains as own_pools
use Rattle.iol_laws.specs.CallerDomains.{DomainsAndPoolsComeAndGo}
use Rattle.iol_laws.specs.CallerFiles as own_files
use Rattle.iol_laws.specs.CallerFiles.{FileCallsServeTheirDomain}
use Rattle.iol_laws.specs.Frame.{EachStepLeavesTheRest, sets_default}
use Rattle.iol_laws.specs.Order.{IsOrderly}
use Rattle.iol_laws.specs.Sources.{LabelsFollow, is_write_end, lie_in, read_from, taken_from, writes_pipe}
use Rattle.iol_proc.specs.Turns.{Comes as ComesOf, ProcessSlotTurn}
use Rattle.iol_proc.specs.World.{copying}
use Rattle.iol_proc.specs.declared.process.Turn.{Turn}
use Rattle.iol_proc.specs.declared.process.Turn.TheVariants as turn
use Rattle.iol_proc.specs.declared.process_slot.ProcessSlot.{ProcessSlot}
use Rattle.flash_cgi.specs.Beside.{is_call_of}
use Rattle.flash_cgi.specs.Collecting.{Collected, bytes_of_one, is_nothing, last_place, nothing, with_next}
use Rattle.flash_cgi.specs.Collecting.{without_last, without_text}
use Rattle.flash_cgi.specs.Feeds.{HasBytes, IsFileOpen, Needs}
use Rattle.flash_cgi.specs.Job.{Task, job_of}
use Rattle.flash_cgi.specs.Output.{Outcome}
use Rattle.flash_cgi.specs.OutputPools.{HoldFiles, IsShown, LiesIn, OneLies, OutputsAreShown, PhaseLies, PieceLies}
use Rattle.flash_cgi.specs.Pieces.{HasPiece, HoldsAt, FilesAreReadable, NextIsReadable}
use Rattle.flash_cgi.specs.Turns.{RunsJob, filed_step, is_given, or_again, step_of}
use Rattle.flash_cgi.specs.Standstill.{is_over}
use Rattle.flash_cgi.specs.Works.{proceeds, with_job, works, works_as, worker_turns}
use Rattle.flash_cgi.specs.Works.{files as files_reply}
use Rattle.flash_cgi.specs.WorkerSteps.{bytes_at, call_at, phase_call, expected_now, file_collected, next_call, shut_by}
use Rattle.flash_cgi.specs.WorkerSteps.{after_reply, after_breaking, after_cutting, after_phase, after_dropping}
use Rattle.flash_cgi.specs.WorkerSteps.{after_joining, after_making, after_next, after_opening, after_parting}
use Rattle.flash_cgi.specs.WorkerSteps.{after_reading, after_replacing, after_writing, interleave_by, interleave_on}
use Rattle.flash_cgi.specs.declared.line.Line.{Line}
use Rattle.flash_cgi.specs.declared.line.Line.TheVariants as line
use Rattle.flash_cgi.specs.declared.phase.Purpose.{Purpose}
use Rattle.flash_cgi.specs.declared.phase.Purpose.TheVariants as purpose
use Rattle.flash_cgi.specs.declared.phase.Phase.{Phase}
use Rattle.flash_cgi.specs.declared.phase.Phase.TheVariants as phase
use Rattle.flash_cgi.specs.declared.phase.Standing.{Standing}
use Rattle.flash_cgi.specs.declared.phase.Standing.TheVariants as standing
use Rattle.flash_cgi.specs.declared.phase.Step.{Step}
use Rattle.flash_cgi.specs.declared.piece.Place.{Place}
use Rattle.flash_cgi.specs.declared.worker.Worker.{Worker}
use Rattle.flash_cgi.proofs.Beside.{filed_stays, free_still, no_gift, others_leave}
use Rattle.flash_cgi.proofs.Frame.{makes_call, run_is_not_given}
use Rattle.flash_cgi.proofs.Expected.{writing}
use Rattle.flash_cgi.proofs.StaysByCall.{at_step}
use Rattle.flash_cgi.proofs.OutputByTurn.{has_life, readable-live, process_slot_at, text_taken}

file-same : (m n : State) (f : ℕ) → n.files ≡ m.files → file n f ≡ file m f
unfolding file
file-same m n f same = ap (λ (fs : List File). numbered_or fs f no_file) same

module _ (labels : LabelsFollow) (steps : EachStepLeavesTheRest) (files : FileCallsServeTheirDomain)
    (pools_come : DomainsAndPoolsComeAndGo)
    (pools : ℕ → Bool) (m n : State) (d : ℕ) (order : IsOrderly m) (live : is_live m d ≡ true)
    (holds : HoldFiles pools m d) (default : pools (default_pool m d) ≡ true) where
  abbrev Lie : Text → Type 0
  Lie t = lie_in pools t ≡ true

  -- the bytes that its call takes are in the pools
  abbrev FromThere : Call → Type 0
  FromThere k = Lie (taken_from m (event.Call d k))

  -- an aggregate that existed before the call
  kept : (k : Call) (r : Reply) (a : ℕ) → FromThere k → StepsTo m (event.Call d k) r n → Lie (text m d a)
      → Lie (text n d a)
  kept k r a from step lies = labels.aggs pools m n (event.Call d k) r d a order step (λ is. from) (λ un. lies)

  -- a new aggregate
  new : (k : Call) (r : Reply) (a : ℕ) → FromThere k → StepsTo m (event.Call d k) r n
      → brings (event.Call d k) r d a ≡ true → Lie (text n d a)
  new k r a from step is =
      labels.aggs pools m n (event.Call d k) r d a order step (λ one. from)
      (λ un. absurd (let e = sym is ∙ un in cc (e)))

  brought : (a : ℕ) → ((d == d) && (a == a)) ≡ true
  brought a = grind (arith, nat_tests)

  made_here : (bytes : List ℕ) → FromThere (call.AggMake bytes)
  made_here bytes = labels.fresh pools (default_pool m d) bytes default

  -- the same for the buffered output
  one_kept : (k : Call) (r : Reply) (o : Option ℕ) → FromThere k → StepsTo m (event.Call d k) r n → OneLies pools m d o
      → OneLies pools n d o
  one_kept k r None from step lies = tt
  one_kept k r (Some a) from step lies = kept k r a from step lies

  piece_kept : (k : Call) (r : Reply) (x : Collected) → FromThere k → StepsTo m (event.Call d k) r n
      → PieceLies pools m d x → PieceLies pools n d x
  piece_kept k r x from step lies = (one_kept k r x.held from step lies.0, one_kept k r x.next from step lies.1)

  brought_front : (a b : ℕ) → ((d == d) && ((a == a) || (b == a))) ≡ true
  brought_front a b = grind (arith, nat_tests)

  brought_back : (a b : ℕ) → ((d == d) && ((a == b) || (b == b))) ≡ true
  brought_back a b = grind (arith, nat_tests)

  -- ---- call by call

  abbrev LiesAfter : Option Step → Collected → (y : Phase) → Type 0
  LiesAfter o x y = LiesIn pools n d (or_again o (at_step y 0 x)).piece (or_again o (at_step y 0 x)).phase

  -- the aggregate of the buffered text is made
  interleaved_lies : (x : Collected) (begun a : ℕ) → PieceLies pools n d x → Lie (text n d a)
      → LiesIn pools n d (interleave_on begun x a).piece (interleave_on begun x a).phase
  interleaved_lies x begun a lies made = by x.held refl (last_place x.places)
    where
      by : (h : Option ℕ) → x.held ≡ h → (o : Option Place)
          → LiesIn pools n d (interleave_by h o begun x a).piece (interleave_by h o begun x a).phase
      by None is o = (lies, made)
      by (Some held) is None = ((tt, lies.1), made)
      by (Some held) is (Some place) = (lies, (subst (λ (o : Option ℕ). OneLies pools n d o) is lies.0, made))

  after_made : (x : Collected) (begun : ℕ) (r : Reply) → PieceLies pools m d x
      → StepsTo m (event.Call d (call.AggMake x.text)) r n → LiesAfter (after_making x begun r) x phase.Interpreting
  after_made x begun (reply.Agg a) lies step =
      interleaved_lies (without_text x) begun a
      (piece_kept (call.AggMake x.text) (reply.Agg a) x (made_here x.text) step lies)
      (new (call.AggMake x.text) (reply.Agg a) a (made_here x.text) step (brought a))
  after_made x begun r lies step = (piece_kept (call.AggMake x.text) r x (made_here x.text) step lies, tt)

  opened_file : (name : List ℕ) (fd : ℕ) → own_files.OpensFile m d name Read fd n → n.files ≡ m.files
      → PhaseLies pools n d (phase.Reading fd purpose.Cat)
  opened_file name fd h same f at mode is =
      let number : f ≡ h.file_is = same_file f at mode h.file_is (sym is ∙ h.open_on) in
      ap (λ k. pools (file n k).pool) number
      ∙ (ap (λ (x : File). pools x.pool) (file-same m n h.file_is same) ∙ holds.files name h.file_is h.found h.may)
    where
      same_file : (f at : ℕ) (mode : Mode) (g : ℕ) → Some (on.File f at mode) ≡ Some (on.File g 0 Read) → f ≡ g
      same_file f at mode g e = cc

  after_opened : (x : Collected) (u : Purpose) (name : List ℕ) (begun : ℕ) (r : Reply) → PieceLies pools m d x
      → StepsTo m (event.Call d (call.OpenFile name Read)) r n
      → LiesAfter (after_opening x u begun r) x phase.Interpreting
  after_opened x u name begun (reply.Fd fd) lies step = (
    piece_kept (call.OpenFile name Read) (reply.Fd fd) x refl step lies,
    opened_file name fd (files.opens m n d name Read (reply.Fd fd) live step)
        ((steps.leaves m n (event.Call d (call.OpenFile name Read)) (reply.Fd fd) step).files refl).0,
  )
  after_opened x u name begun (reply.Refused y) lies step =
      (piece_kept (call.OpenFile name Read) (reply.Refused y) x refl step lies, tt)
  after_opened x u name begun r lies step = (piece_kept (call.OpenFile name Read) r x refl step lies, tt)

  after_line : (job : Task) (x : Collected) (begun : ℕ) (l : Option Line) (r : Reply) → PieceLies pools m d x
      → StepsTo m (event.Call d (next_call job l)) r n → LiesAfter (after_next job x l begun r) x phase.Interpreting
  after_line job x begun (Some (line.Emit bytes)) r lies step = (piece_kept (call.SetPool 3) r x refl step lies, tt)
  after_line job x begun (Some line.Query) r lies step = (piece_kept (call.SetPool 3) r x refl step lies, tt)
  after_line job x begun (Some line.Pause) r lies step = (piece_kept (call.SetPool 3) r x refl step lies, tt)
  after_line job x begun (Some (line.Cat name)) r lies step = after_opened x purpose.Cat name (begun + 1) r lies step
  after_line job x begun (Some (line.Wc name)) r lies step = after_opened x purpose.Wc name (begun + 1) r lies step
  after_line job x begun None r lies step = tt

  after_begun : (job : Task) (x : Collected) (begun : ℕ) (l : Option Line) (r : Reply) (t : Bool)
      → PieceLies pools m d x → StepsTo m (event.Call d (if t then call.AggMake x.text else next_call job l)) r n
      → LiesAfter (if t then after_making x begun r else after_next job x l begun r) x phase.Interpreting
  after_begun job x begun l r true lies step = after_made x begun r lies step
  after_begun job x begun l r false lies step = after_line job x begun l r lies step

  file_there : (fd f at : ℕ) (mode : Mode) → descriptor m d fd ≡ Some (on.File f at mode) → pools (file m f).pool ≡ true
      → FromThere (call.IolRead fd 16777216)
  file_there fd f at mode opened is =
      subst (λ (o : Option Descriptor). Lie (read_from m o)) (sym opened) (labels.fresh pools (file m f).pool _ is)

  after_read : (x : Collected) (fd : ℕ) (u : Purpose) (begun : ℕ) (r : Reply) → FromThere (call.IolRead fd 16777216)
      → PieceLies pools m d x → StepsTo m (event.Call d (call.IolRead fd 16777216)) r n
      → LiesAfter (after_reading (readable_at n d) x fd u begun r) x (phase.Reading fd u)
  after_read x fd purpose.Cat begun (reply.Agg a) from lies step = (
    piece_kept (call.IolRead fd 16777216) (reply.Agg a) x from step lies,
    new (call.IolRead fd 16777216) (reply.Agg a) a from step (brought a),
  )
  after_read x fd purpose.Wc begun (reply.Agg a) from lies step =
      (piece_kept (call.IolRead fd 16777216) (reply.Agg a) x from step lies, tt)
  after_read x fd u begun (reply.Refused y) from lies step =
      (piece_kept (call.IolRead fd 16777216) (reply.Refused y) x from step lies, tt)
  after_read x fd u begun r from lies step = (let e = step.1 in absurd (cc (e)))

  after_shut : (x : Collected) (fd a from len begun : ℕ) (r : Reply) → PieceLies pools m d x → Lie (text m d a)
      → StepsTo m (event.Call d (call.Close fd)) r n → LiesAfter (shut_by x from a len begun) x (phase.ClosingFile fd a)
  after_shut x fd a from len begun r lies made step = by x.held refl (nat_le len 4096) (is_nothing x)
    where
      piece : PieceLies pools n d x
      piece = piece_kept (call.Close fd) r x refl step lies

      there : Lie (text n d a)
      there = kept (call.Close fd) r a refl step made

      by : (o : Option ℕ) → x.held ≡ o → (t u : Bool) → LiesAfter (if t then file_collected x o from a len begun
          else (if u then Some (at_step (phase.Writing a) begun x) else Some
          (at_step phase.Interpreting begun (with_next x a))))
          x (phase.ClosingFile fd a)
      by None is true u = ((there, piece.1), tt)
      by (Some held) is true u = (piece, (subst (λ (o : Option ℕ). OneLies pools n d o) is piece.0, there))
      by o is false true = (piece, there)
      by o is false false = ((piece.0, there), tt)

  both_lie : (a b : ℕ) → Lie (text m d a) → Lie (text m d b) → Lie (text m d a ++ text m d b)
  both_lie a b one two = labels.both pools (text m d a) (text m d b) one two

  after_joined : (x : Collected) (held a from len begun : ℕ) (r : Reply) → PieceLies pools m d x → Lie (text m d held)
      → Lie (text m d a) → StepsTo m (event.Call d (call.AggJoin held a)) r n
      → LiesAfter (after_joining x from len begun r) x (phase.JoiningFile held a from len)
  after_joined x held a from len begun (reply.Agg b) lies one two step =
      let there = both_lie held a one two in (
        (
          new (call.AggJoin held a) (reply.Agg b) b there step (brought b),
          one_kept (call.AggJoin held a) (reply.Agg b) x.next there step lies.1,
        ),
        tt,
      )
  after_joined x held a from len begun r lies one two step =
      let there = both_lie held a one two in (
        piece_kept (call.AggJoin held a) r x there step lies,
        (kept (call.AggJoin held a) r held there step one, kept (call.AggJoin held a) r a there step two),
      )

  after_parted : (x : Collected) (held a from begun : ℕ) (r : Reply) → PieceLies pools m d x → Lie (text m d held)
      → Lie (text m d a) → StepsTo m (event.Call d (call.AggSplit held from)) r n
      → LiesAfter (after_parting x a begun r) x (phase.CuttingPart held a from)
  after_parted x held a from begun (reply.Aggs b c) lies one two step = (
    (
      new (call.AggSplit held from) (reply.Aggs b c) b one step (brought_front b c),
      one_kept (call.AggSplit held from) (reply.Aggs b c) x.next one step lies.1,
    ),
    (
      kept (call.AggSplit held from) (reply.Aggs b c) a one step two,
      new (call.AggSplit held from) (reply.Aggs b c) c one step (brought_back b c),
    ),
  )
  after_parted x held a from begun r lies one two step = (
    piece_kept (call.AggSplit held from) r x one step lies,
    (kept (call.AggSplit held from) r held one step one, kept (call.AggSplit held from) r a one step two),
  )

  after_replaced : (x : Collected) (a part at begun : ℕ) (r : Reply) → PieceLies pools m d x → Lie (text m d a)
      → Lie (text m d part) → StepsTo m (event.Call d (call.AggReplace a at at part)) r n
      → LiesAfter (after_replacing x a part begun r) x (phase.ReplacingPart a part at)
  after_replaced x a part at begun (reply.Agg b) lies one two step =
      let there = both_lie a part one two in (
        piece_kept (call.AggReplace a at at part) (reply.Agg b) x there step lies,
        new (call.AggReplace a at at part) (reply.Agg b) b there step (brought b),
      )
  after_replaced x a part at begun r lies one two step =
      let there = both_lie a part one two in (
        piece_kept (call.AggReplace a at at part) r x there step lies,
        (
          kept (call.AggReplace a at at part) r a there step one,
          kept (call.AggReplace a at at part) r part there step two,
        ),
      )

  after_written : (x : Collected) (fd a len begun : ℕ) (r : Reply) → PieceLies pools m d x → Lie (text m d a)
      → StepsTo m (event.Call d (call.IolWrite fd a)) r n
      → LiesAfter (after_writing x a len begun r) x (phase.Writing a)
  after_written x fd a len begun (reply.Count k) lies made step = by (k == len)
    where
      piece : PieceLies pools n d x
      piece = piece_kept (call.IolWrite fd a) (reply.Count k) x made step lies

      by : (b : Bool) → LiesIn pools n d x (if b then phase.DroppingWritten a else phase.CuttingRest a k len)
      by true = (piece, tt)
      by false = (piece, kept (call.IolWrite fd a) (reply.Count k) a made step made)
  after_written x fd a len begun (reply.Refused not_so.BrokenPipe) lies made step =
      (piece_kept (call.IolWrite fd a) (reply.Refused not_so.BrokenPipe) x made step lies, tt)
  after_written x fd a len begun r lies made step =
      (piece_kept (call.IolWrite fd a) r x made step lies, kept (call.IolWrite fd a) r a made step made)

  after_cut : (x : Collected) (a from to begun : ℕ) (r : Reply) → PieceLies pools m d x → Lie (text m d a)
      → StepsTo m (event.Call d (call.AggCut a from to)) r n
      → LiesAfter (after_cutting x a begun r) x (phase.CuttingRest a from to)
  after_cut x a from to begun (reply.Agg rest) lies made step = (
    piece_kept (call.AggCut a from to) (reply.Agg rest) x made step lies,
    new (call.AggCut a from to) (reply.Agg rest) rest made step (brought rest),
  )
  after_cut x a from to begun r lies made step =
      (piece_kept (call.AggCut a from to) r x made step lies, kept (call.AggCut a from to) r a made step made)

  after_dropped : (x : Collected) (a begun : ℕ) (r : Reply) (o : Option ℕ) → x.next ≡ o → PieceLies pools m d x
      → StepsTo m (event.Call d (call.AggDrop a)) r n → LiesAfter (after_dropping x o begun) x (phase.DroppingWritten a)
  after_dropped x a begun r None is lies step = (piece_kept (call.AggDrop a) r x refl step lies, tt)
  after_dropped x a begun r (Some b) is lies step =
      let piece = piece_kept (call.AggDrop a) r x refl step lies in
      ((piece.0, tt), subst (λ (o : Option ℕ). OneLies pools n d o) is piece.1)

  after_broken : (job : Task) (x : Collected) (a begun : ℕ) (r : Reply) (o : Option ℕ) → PieceLies pools m d x
      → StepsTo m (event.Call d (call.AggDrop a)) r n → LiesAfter (after_breaking job x o begun) x (phase.Aborting a)
  after_broken job x a begun r None lies step = (piece_kept (call.AggDrop a) r x refl step lies, tt)
  after_broken job x a begun r (Some b) lies step =
      (let piece = piece_kept (call.AggDrop a) r x refl step lies in ((piece.0, tt), tt))

  -- the file that it reads is open
  abbrev FileOpen : Phase → Type 0
  FileOpen (phase.Reading fd u) = IsFileOpen m d fd
  FileOpen x = Unit {0}

  -- if a step's bytes are in the pools, so are those of the step after the reply
  after : (job : Task) (x : Collected) (begun : ℕ) (y : Phase) (r : Reply) → FileOpen y → LiesIn pools m d x y
      → StepsTo m (event.Call d (phase_call job x begun y)) r n
      → LiesAfter (after_phase (readable_at n d) job x begun y r) x y
  after job x begun phase.Waiting r h lies step = tt
  after job x begun (phase.DroppingOther a) r h lies step = tt
  after job x begun phase.Interpreting r h lies step =
      after_begun job x begun (slice_get job.lines begun) r (expected_now job x begun) lies.0 step
  after job x begun (phase.Reading fd u) r h lies step =
      after_read x fd u begun r (file_there fd h.0 h.1 Read h.2 (lies.1 h.0 h.1 Read h.2)) lies.0 step
  after job x begun (phase.DroppingCounted fd a s) r h lies step =
      (piece_kept (call.AggDrop a) r x refl step lies.0, tt)
  after job x begun (phase.ClosingFile fd a) r h lies step =
      after_shut x fd a (length (bytes_of_one (readable_at n d) x.held)) (length (bytes_at (readable_at n d) a)) begun r
      lies.0 lies.1 step
  after job x begun (phase.ClosingCounted fd s) r h lies step = (piece_kept (call.Close fd) r x refl step lies.0, tt)
  after job x begun (phase.JoiningFile held a from len) r h lies step =
      after_joined x held a from len begun r lies.0 lies.1.0 lies.1.1 step
  after job x begun (phase.CuttingPart held a from) r h lies step =
      after_parted x held a from begun r lies.0 lies.1.0 lies.1.1 step
  after job x begun (phase.ReplacingPart a part at) r h lies step =
      after_replaced x a part at begun r lies.0 lies.1.0 lies.1.1 step
  after job x begun (phase.DroppingText a part made) r h lies step =
      (piece_kept (call.AggDrop a) r x refl step lies.0, kept (call.AggDrop a) r made refl step lies.1)
  after job x begun (phase.DroppingPart part made) r h lies step =
      interleaved_lies x begun made (piece_kept (call.AggDrop part) r x refl step lies.0)
      (kept (call.AggDrop part) r made refl step lies.1)
  after job x begun (phase.Writing a) r h lies step = after_written x job.fd a _ begun r lies.0 lies.1 step
  after job x begun (phase.CuttingRest a from to) r h lies step = after_cut x a from to begun r lies.0 lies.1 step
  after job x begun (phase.DroppingTaken a rest) r h lies step =
      (piece_kept (call.AggDrop a) r x refl step lies.0, kept (call.AggDrop a) r rest refl step lies.1)
  after job x begun (phase.DroppingWritten a) r h lies step = after_dropped x a begun r x.next refl lies.0 step
  after job x begun (phase.Aborting a) r h lies step = after_broken job x a begun r x.next lies.0 step

  -- ---- its default pool

  default_kept : (k : Call) (r : Reply) → sets_default (event.Call d k) d ≡ false → StepsTo m (event.Call d k) r n
      → pools (default_pool n d) ≡ true
  default_kept k r un step =
      subst (λ (o : Option ℕ). pools (unwrap_or o 0) ≡ true)
      (sym ((steps.leaves m n (event.Call d k) r step).defaults d live un)) default

  default_set : (r : Reply) → StepsTo m (event.Call d (call.SetPool 3)) r n → pools (default_pool n d) ≡ true
  default_set r step = by r (pools_come.sets_pool m n d 3 r step)
    where
      by : (r : Reply) → own_pools.SetsPool m d 3 r n → pools (default_pool n d) ≡ true
      by reply.Done set = subst (λ (o : Option ℕ). pools (unwrap_or o 0) ≡ true) (sym set.default_is) holds.pauses
      by (reply.Refused x) same = subst (λ (u : State). pools (default_pool u d) ≡ true) (sym same) default
      by r set = absurd set

  default_line : (job : Task) (l : Option Line) (r : Reply) → StepsTo m (event.Call d (next_call job l)) r n
      → pools (default_pool n d) ≡ true
  default_line job None r step = default_kept (next_call job None) r refl step
  default_line job (Some (line.Emit bytes)) r step = default_set r step
  default_line job (Some line.Query) r step = default_set r step
  default_line job (Some (line.Cat name)) r step = default_kept (next_call job (Some (line.Cat name))) r refl step
  default_line job (Some (line.Wc name)) r step = default_kept (next_call job (Some (line.Wc name))) r refl step
  default_line job (Some line.Pause) r step = default_set r step

  default_begun : (job : Task) (x : Collected) (l : Option Line) (r : Reply) (t : Bool)
      → StepsTo m (event.Call d (if t then call.AggMake x.text else next_call job l)) r n
      → pools (default_pool n d) ≡ true
  default_begun job x l r true step = default_kept (call.AggMake x.text) r refl step
  default_begun job x l r false step = default_line job l r step

  default_after : (job : Task) (x : Collected) (begun : ℕ) (y : Phase) (r : Reply)
      → StepsTo m (event.Call d (phase_call job x begun y)) r n → pools (default_pool n d) ≡ true
  default_after job x begun phase.Interpreting r step =
      default_begun job x (slice_get job.lines begun) r (expected_now job x begun) step
  default_after job x begun y r step = default_kept (phase_call job x begun y) r refl step

  -- ---- the bytes that it wrote

  line_written : (p : ℕ) (job : Task) (x : Collected) (l : Option Line) (t : Bool)
      → writes_pipe m (event.Call d (if t then call.AggMake x.text else next_call job l)) p ≡ false
  line_written p job x l true = refl
  line_written p job x (Some (line.Cat name)) false = refl
  line_written p job x (Some (line.Wc name)) false = refl
  line_written p job x (Some l) false = refl
  line_written p job x None false = refl

  from_there : (p : ℕ) (job : Task) (x : Collected) (begun : ℕ) (y : Phase) → LiesIn pools m d x y
      → writes_pipe m (event.Call d (phase_call job x begun y)) p ≡ true → FromThere (phase_call job x begun y)
  from_there p job x begun phase.Interpreting lies is =
      absurd (let e = line_written p job x (slice_get job.lines begun) (expected_now job x begun) in cc (e, is))
  from_there p job x begun (phase.Writing a) lies is = lies.1
  from_there p job x begun y lies is = absurd (cc (is))

  output_after : (p : ℕ) (job : Task) (x : Collected) (begun : ℕ) (y : Phase) (r : Reply) → LiesIn pools m d x y
      → Lie (pipe_at m p).queue → StepsTo m (event.Call d (phase_call job x begun y)) r n → Lie (pipe_at n p).queue
  output_after p job x begun y r lies was step =
      labels.pipes pools m n (event.Call d (phase_call job x begun y)) r p step (from_there p job x begun y lies) was

  -- ---- the worker after its call

  after_step : (o : Option Step) (step : Step)
      → LiesIn pools n d (or_again o (at_step step.phase 0 step.piece)).piece
      (or_again o (at_step step.phase 0 step.piece)).phase
      → LiesIn pools n d (or_again o step).piece (or_again o step).phase
  after_step None step h = h
  after_step (Some next) step h = h

  filed_after : (v : Worker) (r : Reply) (job : Task) (step : Step) → v.job ≡ job → v.step ≡ step
      → v.standing ≡ standing.Asked
      → filed_step v.standing v (readable_at n d) r ≡ or_again (after_reply job step (readable_at n d) r) step
  filed_after v r job step job_is step_is asked =
      ap (λ (s : Standing). filed_step s v (readable_at n d) r) asked
      ∙ (ap (λ (j : Task). or_again (after_reply j v.step (readable_at n d) r) v.step) job_is
      ∙ ap (λ (s : Step). or_again (after_reply job s (readable_at n d) r) s) step_is)

  shown_after : (p : ℕ) (v : Worker) (r : Reply) (job : Task) (step : Step) (k : Call) → v.job ≡ job → v.step ≡ step
      → v.standing ≡ standing.Asked
      → k ≡ call_at job step → FileOpen step.phase → LiesIn pools m d step.piece step.phase → Lie (pipe_at m p).queue
      → StepsTo m (event.Call d k) r n
      → IsShown pools n p (process_slot_at d v r)
  shown_after p v r job step k job_is step_is asked k_is opened lies was made =
      let goes = subst (λ (c : Call). StepsTo m (event.Call d c) r n) k_is made in
      let next = filed_after v r job step job_is step_is asked in
      record {
        default = default_after job step.piece step.begun step.phase r goes;
        output = output_after p job step.piece step.begun step.phase r lies was goes;
        lies =
            subst (λ (s : Step). LiesIn pools n d s.piece s.phase) (sym next)
            (after_step (after_reply job step (readable_at n d) r) step
            (after job step.piece step.begun step.phase r opened lies goes));
      }

-- ---- a turn

file_open : (labels : LabelsFollow) (steps : EachStepLeavesTheRest) (files : FileCallsServeTheirDomain)
    (pools_come : DomainsAndPoolsComeAndGo)
    (pools : ℕ → Bool) (m n : State) (d : ℕ) (order : IsOrderly m) (live : is_live m d ≡ true)
    (holds : HoldFiles pools m d) (default : pools (default_pool m d) ≡ true)
    (x : Phase) → Needs m d x → FileOpen labels steps files pools_come pools m n d order live holds default x
file_open labels steps files pools_come pools m n d order live holds default (phase.Reading fd u) h =
    (h.number, h.place, h.open_on)
file_open labels steps files pools_come pools m n d order live holds default x h = tt

-- a yield leaves it at the same step
yields_at : (w v : Worker) (l : Reply) (readable : ℕ → Option (List ℕ)) (s : Standing) → is_over s ≡ false
    → (s ≡ standing.Asked → is_given w.step.phase l ≡ false)
    → works_as s w l readable turn.Yield v → (v.step ≡ filed_step s w readable l) × (v.standing ≡ standing.Asks)
yields_at w v l readable standing.Over goes un did = absurd (cc (goes))
yields_at w v l readable standing.Asks goes un did = (let e = did.0 in absurd (cc (e)))
yields_at w v l readable standing.Asked goes un did = filed w.step.phase l (un refl) did
  where
    on : (o : Option Step) → proceeds w o turn.Yield v → (v.step ≡ or_again o w.step) × (v.standing ≡ standing.Asks)
    on (Some step) did = (let e = did.0 in absurd (cc (e)))
    on None did = (ap (λ (y : Worker). y.step) did.1, ap (λ (y : Worker). y.standing) did.1)

    filed : (x : Phase) (y : Reply) → is_given x y ≡ false → files_reply w x y readable turn.Yield v
        → (v.step ≡ or_again (after_reply w.job w.step readable y) w.step) × (v.standing ≡ standing.Asks)
    filed phase.Waiting (reply.Agg a) given did = absurd (cc (given))
    filed x y given did = on (after_reply w.job w.step readable y) did

module _ (labels : LabelsFollow) (steps : EachStepLeavesTheRest) (files : FileCallsServeTheirDomain)
    (pools_come : DomainsAndPoolsComeAndGo)
    (pools : ℕ → Bool) (m n : State) (p d : ℕ) (w : Worker) (last : Reply) (order : IsOrderly m)
    (live : is_live m d ≡ true) (holds : HoldFiles pools m d)
    (shown : IsShown pools m p (process_slot_at d w last)) (v : Worker) (r : Reply) (yields : Bool) where
  abbrev Open : Phase → Type 0
  Open x = FileOpen labels steps files pools_come pools m n d order live holds shown.default x

  abbrev now : Step
  now = filed_step w.standing w (readable_at m d) last

  -- a worker that continues at its step
  moves : (t : Turn) → is_over w.standing ≡ false → (w.standing ≡ standing.Asked → is_given w.step.phase last ≡ false)
      → Open now.phase
      → works_as w.standing w last (readable_at m d) t v → ComesOf copying worker_turns m d t yields r n
      → IsShown pools n p (process_slot_at d v r)
  moves turn.Yield goes un opened did comes =
      let y = yields_at w v last (readable_at m d) w.standing goes un did in
      let step_is : filed_step v.standing v (readable_at n d) r ≡ now =
      ap (λ (s : Standing). filed_step s v (readable_at n d) r) y.1 ∙ y.0 in
      record {
        default = subst (λ (u : State). pools (default_pool u d) ≡ true) (sym comes.2) shown.default;
        output = subst (λ (u : State). lie_in pools (pipe_at u p).queue ≡ true) (sym comes.2) shown.output;
        lies =
            subst (λ (x : Step). LiesIn pools n d x.piece x.phase) (sym step_is)
            (subst (λ (u : State). LiesIn pools u d now.piece now.phase) (sym comes.2) shown.lies);
      }
  moves (turn.Make k) goes un opened did comes =
      let made = makes_call w v k last (readable_at m d) w.standing refl goes un did in
      shown_after labels steps files pools_come pools m n d order live holds shown.default p v r w.job now k made.job_is
      made.step_is made.asked made.call_is opened shown.lies shown.output comes.1

  -- a worker that takes its job
  takes_job : (t : Turn) (job : Task) (a : ℕ) → w.standing ≡ standing.Asked → t ≡ turn.Make (call.AggDrop a)
      → v ≡ with_job w (Some job) a
      → ComesOf copying worker_turns m d t yields r n → IsShown pools n p (process_slot_at d v r)
  takes_job t job a asked is v_is comes =
      let step : Step = record { phase = phase.DroppingWritten a; begun = 0; piece = nothing } in
      shown_after labels steps files pools_come pools m n d order live holds shown.default p v r job step
      (call.AggDrop a)
      (ap (λ (y : Worker). y.job) v_is) (ap (λ (y : Worker). y.step) v_is) (ap (λ (y : Worker). y.standing) v_is
      ∙ asked) refl tt ((tt, tt), tt) shown.output
      (subst (λ (u : Turn). ComesOf copying worker_turns m d u yields r n) is comes).1

turns : LabelsFollow → EachStepLeavesTheRest → FileCallsServeTheirDomain → DomainsAndPoolsComeAndGo
    → (pools : ℕ → Bool) (m n : State) (p : ℕ) (process_slot next : ProcessSlot Worker) (yields : Bool) (r : Reply)
    (unseen : List Outcome → List ℕ) → IsOrderly m → HoldFiles pools m process_slot.by → RunsJob m p process_slot unseen
    → IsShown pools m p process_slot → ProcessSlotTurn copying worker_turns m process_slot yields r n next
    → IsShown pools n p next
turns labels steps files pools_come pools m n p process_slot next yields r unseen order holds job shown (inl starved) =
    subst (λ (u : State). IsShown pools u p next) (sym starved.machine_stays)
    (subst (λ (x : ProcessSlot Worker). IsShown pools m p x) (sym starved.process_slot_stays) shown)
turns labels steps files pools_come pools m n p process_slot next yields r unseen order holds job shown (inr did) =
    subst (λ (x : ProcessSlot Worker). IsShown pools n p x) same (by job goes)
  where
    live : is_live m process_slot.by ≡ true
    live = has_life m p process_slot unseen job

    w : Worker
    w = process_slot.process

    goes : works w process_slot.last (readable_at m process_slot.by) did.turn next.process
    goes =
        subst (λ (l : ℕ → Option (List ℕ)). works w process_slot.last l did.turn next.process)
        (readable-live m process_slot.by live) did.proceeds

    same : process_slot_at process_slot.by next.process r ≡ next
    same = ap (λ (x : ℕ). process_slot_at x next.process r) (sym did.domain_stays)
        ∙ ap (λ (l : Reply). process_slot_at next.by next.process l) (sym did.reported)

    by : RunsJob m p process_slot unseen
        → works w process_slot.last (readable_at m process_slot.by) did.turn next.process
        → IsShown pools n p (process_slot_at process_slot.by next.process r)
    by (inl h) goes = moves labels steps files pools_come pools m n p process_slot.by w process_slot.last order live
        holds shown next.process r yields did.turn h.free.not_over h.free.not_given
        (subst (λ (x : Phase). FileOpen labels steps files pools_come pools m n process_slot.by order live holds
        shown.default x) (sym h.free.waits) tt) goes did.comes
    by (inr (inl h)) goes =
        let filed =
        subst (λ (s : Standing). works_as s w process_slot.last (readable_at m process_slot.by) did.turn
        next.process) h.asked goes in
        let took =
        subst (λ (l : Reply). files_reply w phase.Waiting l (readable_at m process_slot.by) did.turn next.process)
        h.last
        (subst (λ (x : Phase). files_reply w x process_slot.last (readable_at m process_slot.by) did.turn next.process)
        h.waits filed) in
        let is_job : job_of (bytes_at (readable_at m process_slot.by) h.agg) ≡ Some h.job =
        ap (λ (l : Option (List ℕ)). job_of (unwrap_or l [])) h.begins.is_readable ∙ h.begins.is_job in
        takes_job labels steps files pools_come pools m n p process_slot.by w process_slot.last order live holds shown
        next.process r yields did.turn h.job h.agg h.asked took.0
        (took.1 ∙ text_taken w (bytes_at (readable_at m process_slot.by) h.agg) h.agg h.job is_job) did.comes
    by (inr (inr i)) goes = moves labels steps files pools_come pools m n p process_slot.by w process_slot.last order
        live holds shown next.process r yields did.turn i.not_over
        (λ asked. run_is_not_given m process_slot.by w process_slot.last (readable_at m process_slot.by) w.standing
        asked i.feeds.needs)
        (file_open labels steps files pools_come pools m n process_slot.by order live holds shown.default
        (step_of m process_slot).phase i.feeds.needs) goes did.comes

-- ---- events of others

module _ (labels : LabelsFollow) (steps : EachStepLeavesTheRest) (pools : ℕ → Bool) (m n : State) (d : ℕ) (e : Event)
    (r : Reply)
    (placed : ArePlaced m) (step : StepsTo m e r n) (other : is_call_of e d ≡ false) where
  text_stays : (a : ℕ) → HasBytes m d a → text n d a ≡ text m d a
  text_stays a h = by (aggregate m d a) refl
    where
      by : (o : Option Text) → aggregate m d a ≡ o → text n d a ≡ text m d a
      by None none = (let l = ap (λ (o : Option Text). option_map bytes_of o) none in let k = h.1 in absurd (cc (l, k)))
      by (Some t) is =
          ap (λ (o : Option Text). unwrap_or o []) ((steps.values m n e r step).each d a t is (no_gift e d a other)
          ∙ sym is)

  lies_still : (a : ℕ) → HasBytes m d a → lie_in pools (text m d a) ≡ true → lie_in pools (text n d a) ≡ true
  lies_still a h lies = subst (λ (t : Text). lie_in pools t ≡ true) (sym (text_stays a h)) lies

  file_still : (fd : ℕ) → IsFileOpen m d fd → PhaseLies pools m d (phase.Reading fd purpose.Cat)
      → PhaseLies pools n d (phase.Reading fd purpose.Cat)
  file_still fd h lies f at mode is =
      let left = others_leave steps m n d e r placed step other in
      let number : f ≡ h.0 = same_file f at mode h.0 h.1 (sym is ∙ left.fds fd (on.File h.0 h.1 Read) h.2) in
      let there = (placed.each d fd h.0 h.1 Read h.2).0 in
      ap (λ k. pools (file n k).pool) number
      ∙ (ap (λ (x : File). pools x.pool) ((steps.leaves m n e r step).known h.0 there) ∙ lies h.0 h.1 Read h.2)
    where
      same_file : (f at : ℕ) (mode : Mode) (g to : ℕ) → Some (on.File f at mode) ≡ Some (on.File g to Read) → f ≡ g
      same_file f at mode g to e = cc

  one_still : (o : Option ℕ) (ps : List Place) → FilesAreReadable (readable_at m d) o ps → OneLies pools m d o
      → OneLies pools n d o
  one_still None ps h lies = tt
  one_still (Some a) ps h lies = lies_still a h lies

  next_still : (held o : Option ℕ) → NextIsReadable (readable_at m d) held o → OneLies pools m d o → OneLies pools n d o
  next_still held None h lies = tt
  next_still held (Some a) h lies = lies_still a h.0 lies

  piece_still : (len : ℕ) (x : Collected) → HasPiece (readable_at m d) len x → PieceLies pools m d x
      → PieceLies pools n d x
  piece_still len x h lies = (one_still x.held x.places h.files lies.0, next_still x.held x.next h.next lies.1)

  held_still : (x : Collected) (held : ℕ) → FilesAreReadable (readable_at m d) x.held x.places → x.held ≡ Some held
      → lie_in pools (text m d held) ≡ true → lie_in pools (text n d held) ≡ true
  held_still x held h is lies =
      lies_still held (subst (λ (o : Option ℕ). FilesAreReadable (readable_at m d) o x.places) is h) lies

  lies_stay : (x : Collected) (y : Phase) → Needs m d y → HoldsAt (readable_at m d) x y → LiesIn pools m d x y
      → LiesIn pools n d x y
  lies_stay x phase.Waiting h k lies = tt
  lies_stay x (phase.DroppingOther a) h k lies = absurd h
  lies_stay x (phase.Aborting a) h k lies = absurd h
  lies_stay x phase.Interpreting h k lies = (piece_still (length x.text) x k lies.0, tt)
  lies_stay x (phase.Reading fd u) h k lies =
      (piece_still (length x.text) x k.piece lies.0, file_still fd (h.number, h.place, h.open_on) lies.1)
  lies_stay x (phase.DroppingCounted fd a s) h k lies = (piece_still (length x.text) x k.0.piece lies.0, tt)
  lies_stay x (phase.ClosingCounted fd s) h k lies = (piece_still (length x.text) x k.piece lies.0, tt)
  lies_stay x (phase.ClosingFile fd a) h k lies =
      (piece_still (length x.text) x k.0.piece lies.0, lies_still a h.1 lies.1)
  lies_stay x (phase.JoiningFile held a from len) h k lies = (
    piece_still (length x.text) x k.gathers.piece lies.0,
    (held_still x held k.gathers.piece.files k.held_is lies.1.0, lies_still a k.is_readable lies.1.1),
  )
  lies_stay x (phase.CuttingPart held a from) h k lies = (
    piece_still (length (bytes_at (readable_at m d) a)) x k.piece lies.0,
    (held_still x held k.piece.files k.held_is lies.1.0, lies_still a k.is_readable lies.1.1),
  )
  lies_stay x (phase.ReplacingPart a part at) h k lies = (
    piece_still at (without_last x) k.piece lies.0,
    (lies_still a k.is_readable lies.1.0, lies_still part k.parts lies.1.1),
  )
  lies_stay x (phase.DroppingText a part made) h k lies = (
    piece_still (length (bytes_at (readable_at m d) made)) x k.drops.piece lies.0,
    lies_still made k.drops.is_readable lies.1,
  )
  lies_stay x (phase.DroppingPart part made) h k lies =
      (piece_still (length (bytes_at (readable_at m d) made)) x k.piece lies.0, lies_still made k.is_readable lies.1)
  lies_stay x (phase.DroppingWritten a) h k lies = (piece_still (length x.text) x k.0.piece lies.0, tt)
  lies_stay x (phase.Writing a) h k lies = (piece_still (length x.text) x k.0.piece lies.0, lies_still a h lies.1)
  lies_stay x (phase.CuttingRest a from to) h k lies =
      (piece_still (length x.text) x k.0.piece lies.0, lies_still a (h.0, h.1) lies.1)
  lies_stay x (phase.DroppingTaken a rest) h k lies =
      (piece_still (length x.text) x k.0.piece lies.0, lies_still rest h.0 lies.1)

-- a waiting worker has no buffered bytes
nothing_lies : (pools : ℕ → Bool) (n : State) (d : ℕ) (x : Collected) (y : Phase) → y ≡ phase.Waiting
    → LiesIn pools n d x y
nothing_lies pools n d x y is = subst (λ (z : Phase). LiesIn pools n d x z) (sym is) tt

given_at : (n : State) (d : ℕ) (w : Worker) (last : Reply) → w.standing ≡ standing.Asked → w.step.phase ≡ phase.Waiting
    → (filed_step w.standing w (readable_at n d) last).phase ≡ phase.Waiting
given_at n d w last asked waits =
    ap (λ (s : Standing). (filed_step s w (readable_at n d) last).phase) asked
    ∙ (ap
    (λ (x : Phase). (or_again (after_phase (readable_at n d) w.job w.step.piece w.step.begun x last) w.step).phase)
    waits ∙ waits)

no_exit : (e : Event) (d : ℕ) → is_call_of e d ≡ false → sets_default e d ≡ false
no_exit (event.Call by call.Exit) d other = other
no_exit (event.Call by (call.SetPool q)) d other = other
no_exit e d other = refl

-- no other domain has the write end of the pipe
end_of : (m : State) (d p fd by f : ℕ) → IsOrderly m → descriptor m d fd ≡ Some (on.WriteEnd p) → (by == d) ≡ false
    → is_write_end p (descriptor m by f) ≡ true → ⊥
end_of m d p fd by f order opened other is = at_end (descriptor m by f) refl is
  where
    at_end : (o : Option Descriptor) → descriptor m by f ≡ o → is_write_end p o ≡ true → ⊥
    at_end (Some (on.WriteEnd q)) here one =
        let same : q ≡ p = grind (arith, nat_tests, one) in
        let both : by ≡ d =
        (order.one by d f fd (on.WriteEnd p) refl (here ∙ ap (λ k. Some (on.WriteEnd k)) same) opened).0 in
        grind (arith, nat_tests, other, both)
    at_end o here one = cc (one)

not_written : (m : State) (d p fd : ℕ) (e : Event) → IsOrderly m → descriptor m d fd ≡ Some (on.WriteEnd p)
    → is_call_of e d ≡ false → writes_pipe m e p ≡ true → ⊥
not_written m d p fd (event.Call by (call.IolWrite f a)) order opened other is =
    end_of m d p fd by f order opened other is
not_written m d p fd (event.Call by (call.Write f bytes)) order opened other is =
    end_of m d p fd by f order opened other is
not_written m d p fd e order opened other is = cc (is)

others : LabelsFollow → EachStepLeavesTheRest
    → (pools : ℕ → Bool) (m n : State) (p : ℕ) (process_slot : ProcessSlot Worker) (e : Event) (r : Reply)
    (unseen : List Outcome → List ℕ) → IsOrderly m → ArePlaced m
    → RunsJob m p process_slot unseen → IsShown pools m p process_slot → StepsTo m e r n
    → is_call_of e process_slot.by ≡ false → IsShown pools n p process_slot
others labels steps pools m n p process_slot e r unseen order placed job shown step other = record {
  default =
      subst (λ (o : Option ℕ). pools (unwrap_or o 0) ≡ true)
      (sym ((steps.leaves m n e r step).defaults process_slot.by (has_life m p process_slot unseen job)
      (no_exit e process_slot.by other))) shown.default;
  output =
      labels.pipes pools m n e r p step (λ is. absurd (let w = writing m p process_slot unseen job in
      not_written m process_slot.by p w.0 e order w.1 other is)) shown.output;
  lies = by job;
}
  where
    by : RunsJob m p process_slot unseen
        → LiesIn pools n process_slot.by (step_of n process_slot).piece (step_of n process_slot).phase
    by (inl h) = nothing_lies pools n process_slot.by (step_of n process_slot).piece (step_of n process_slot).phase
        (free_still m n process_slot h.free).waits
    by (inr (inl h)) =
        nothing_lies pools n process_slot.by (step_of n process_slot).piece (step_of n process_slot).phase
        (given_at n process_slot.by process_slot.process process_slot.last h.asked h.waits)
    by (inr (inr i)) =
        let left = others_leave steps m n process_slot.by e r placed step other in
        let same = filed_stays m n process_slot.by left process_slot.process.standing process_slot.process
        process_slot.last i.feeds.needs i.feeds.holds in
        subst (λ (s : Step). LiesIn pools n process_slot.by s.piece s.phase) (sym same)
        (lies_stay labels steps pools m n process_slot.by e r placed step other (step_of m process_slot).piece
        (step_of m process_slot).phase i.feeds.needs i.feeds.holds shown.lies)

pub outputs_are_shown : LabelsFollow → EachStepLeavesTheRest → FileCallsServeTheirDomain → DomainsAndPoolsComeAndGo
    → OutputsAreShown
outputs_are_shown labels steps files pools_come = record {
  free = λ pools m p process_slot free default output. record {
    default = default;
    output = output;
    lies =
        nothing_lies pools m process_slot.by (step_of m process_slot).piece (step_of m process_slot).phase free.waits;
  };
  turns = turns labels steps files pools_come;
  others = others labels steps;
}
