-- The steps of a worker: the call that it makes, and its phase and buffered output after the reply.
--
-- If a reply does not fit the call and is no outcome of a file, the step is unchanged: the call is retried.
use Rattle.std.specs.Prelude.{ℕ, ◌+◌, ◌==◌, nat_le, Bool, List, [], ◌∷◌, ◌++◌, length, count_by, Option, Some, None}
use Rattle.std.specs.Prelude.{unwrap_or, if◌then◌else◌, slice_get}
use Rattle.std.specs.Fmt.{decimal}
use Rattle.iol_core.specs.Refusals.{name_of}
use Rattle.iol_core.specs.declared.descriptors.Mode.TheVariants.{Read}
use Rattle.iol_core.specs.declared.refusals.Refusal.TheVariants.{BrokenPipe}
use Rattle.iol_core.specs.declared.events.Call.{Call}
use Rattle.iol_core.specs.declared.events.Call.TheVariants as call
use Rattle.iol_core.specs.declared.events.Reply.{Reply}
use Rattle.iol_core.specs.declared.events.Reply.TheVariants as reply
use Rattle.flash_cgi.specs.Collecting.{Collected, bytes_of_one, is_expected, is_nothing, last_place, with_file}
use Rattle.flash_cgi.specs.Collecting.{with_held, with_line, with_next, with_text, without_files, without_last}
use Rattle.flash_cgi.specs.Collecting.{without_next, without_text}
use Rattle.flash_cgi.specs.Job.{Task}
pub use Rattle.flash_cgi.specs.Script.{is_line_feed}
use Rattle.flash_cgi.specs.declared.line.Line.{Line}
use Rattle.flash_cgi.specs.declared.line.Line.TheVariants as line
use Rattle.flash_cgi.specs.declared.counts.Counts.{Counts}
use Rattle.flash_cgi.specs.declared.counts.Said.{Said}
use Rattle.flash_cgi.specs.declared.counts.Said.TheVariants as said
use Rattle.flash_cgi.specs.declared.phase.Purpose.{Purpose}
use Rattle.flash_cgi.specs.declared.phase.Purpose.TheVariants as purpose
use Rattle.flash_cgi.specs.declared.phase.Phase.{Phase}
use Rattle.flash_cgi.specs.declared.phase.Phase.TheVariants as phase
use Rattle.flash_cgi.specs.declared.phase.Step.{Step}
use Rattle.flash_cgi.specs.declared.piece.Place.{Place}
use Rattle.flash_cgi.specs.declared.piece.TheConstants.{MAX_COLLECTED_BYTES}

-- ---- texts

abbrev pub line_text : List ℕ → List ℕ
line_text text = text ++ 10 ∷ []

abbrev pub counts_of : List ℕ → Counts
counts_of text = record { lines = count_by is_line_feed text; bytes = length text }

-- the name of a refusal in brackets, or the number of line feeds and bytes
abbrev pub said_text : Said → List ℕ
said_text (said.Refused x) = 91 ∷ name_of x ++ 93 ∷ 10 ∷ []
said_text (said.Counted c) = decimal c.lines ++ 32 ∷ decimal c.bytes ++ 10 ∷ []

-- the bytes under a number; empty if there is no aggregate
abbrev pub bytes_at : (ℕ → Option (List ℕ)) → ℕ → List ℕ
bytes_at readable agg = unwrap_or (readable agg) []

-- ---- the call of a step

abbrev pub open_call : List ℕ → Call
open_call name = call.OpenFile name Read

-- the call that begins a line; a text needs none, and is buffered
abbrev pub line_call : Line → Call
line_call (line.Cat name) = open_call name
line_call (line.Wc name) = open_call name
line_call l = call.SetPool 3

-- the call for the next line, or the close of the output
abbrev pub next_call : Task → Option Line → Call
next_call job (Some l) = line_call l
next_call job None = call.Close job.fd

abbrev pub make_call : List ℕ → Call
make_call text = call.AggMake text

-- whether the buffered output is written before the next line
abbrev pub expected_now : Task → Collected → (begun : ℕ) → Bool
expected_now job x begun = is_expected x (slice_get job.lines begun)

abbrev pub begin_call : Task → Collected → (begun : ℕ) → Call
begin_call job x begun =
    if expected_now job x begun then make_call x.text else next_call job (slice_get job.lines begun)

abbrev pub phase_call : Task → Collected → (begun : ℕ) → Phase → Call
phase_call job x begun phase.Waiting = call.IolRead 0 65536
phase_call job x begun phase.Interpreting = begin_call job x begun
phase_call job x begun (phase.Reading file p) = call.IolRead file 16777216
phase_call job x begun (phase.ClosingFile file agg) = call.Close file
phase_call job x begun (phase.ClosingCounted file s) = call.Close file
phase_call job x begun (phase.JoiningFile held agg from len) = call.AggJoin held agg
phase_call job x begun (phase.CuttingPart held agg from) = call.AggSplit held from
phase_call job x begun (phase.ReplacingPart agg part at) = call.AggReplace agg at at part
phase_call job x begun (phase.DroppingText agg part made) = call.AggDrop agg
phase_call job x begun (phase.DroppingPart part made) = call.AggDrop part
phase_call job x begun (phase.Writing agg) = call.IolWrite job.fd agg
phase_call job x begun (phase.CuttingRest agg from to) = call.AggCut agg from to
phase_call job x begun (phase.DroppingOther agg) = call.AggDrop agg
phase_call job x begun (phase.DroppingCounted file agg s) = call.AggDrop agg
phase_call job x begun (phase.DroppingTaken agg rest) = call.AggDrop agg
phase_call job x begun (phase.DroppingWritten agg) = call.AggDrop agg
phase_call job x begun (phase.Aborting agg) = call.AggDrop agg

abbrev pub call_at : Task → Step → Call
call_at job step = phase_call job step.piece step.begun step.phase

-- ---- the step after the reply; none if the call is retried

abbrev pub step_with : Phase → (begun : ℕ) → Collected → Step
step_with d begun x = record { phase = d; begun = begun; piece = x }

abbrev pub at : Phase → (begun : ℕ) → Collected → Option Step
at d begun x = Some (step_with d begun x)

-- a text is buffered
abbrev pub said_collected : (begun : ℕ) → Collected → Said → Option Step
said_collected begun x s = at phase.Interpreting begun (with_text x (said_text s))

abbrev pub after_opening : Collected → Purpose → (begun : ℕ) → Reply → Option Step
after_opening x p begun (reply.Fd file) = at (phase.Reading file p) begun x
after_opening x p begun (reply.Refused why) = said_collected begun x (said.Refused why)
after_opening x p begun r = None

abbrev pub after_line : Task → Collected → Line → (begun : ℕ) → Reply → Option Step
after_line job x (line.Emit text) begun r = at phase.Interpreting begun (with_line x text)
after_line job x line.Query begun r = at phase.Interpreting begun (with_line x job.query)
after_line job x (line.Cat name) begun r = after_opening x purpose.Cat begun r
after_line job x (line.Wc name) begun r = after_opening x purpose.Wc begun r
after_line job x line.Pause begun r = at phase.Interpreting begun x

abbrev pub after_next : Task → Collected → Option Line → (begun : ℕ) → Reply → Option Step
after_next job x (Some l) begun r = after_line job x l (begun + 1) r
after_next job x None begun r = at phase.Waiting 0 x

-- after this text is made: the bytes of the last file are to be inserted, or all are inserted
abbrev pub interleave_by : Option ℕ → Option Place → (begun : ℕ) → Collected → (agg : ℕ) → Step
interleave_by None place begun x agg = step_with (phase.Writing agg) begun x
interleave_by (Some held) None begun x agg = step_with (phase.DroppingTaken held agg) begun (without_files x)
interleave_by (Some held) (Some place) begun x agg = step_with (phase.CuttingPart held agg place.from) begun x

abbrev pub interleave_on : (begun : ℕ) → Collected → (agg : ℕ) → Step
interleave_on begun x agg = interleave_by x.held (last_place x.places) begun x agg

abbrev pub after_making : Collected → (begun : ℕ) → Reply → Option Step
after_making x begun (reply.Agg agg) = Some (interleave_on begun (without_text x) agg)
after_making x begun r = None

abbrev pub after_begin : Task → Collected → (begun : ℕ) → Reply → Option Step
after_begin job x begun r =
    if expected_now job x begun then after_making x begun r else after_next job x (slice_get job.lines begun) begun r

-- after the bytes of a file were joined to those of earlier files
abbrev pub after_joining : Collected → (from len begun : ℕ) → Reply → Option Step
after_joining x from len begun (reply.Agg held) = at phase.Interpreting begun (with_file x held from len)
after_joining x from len begun r = None

abbrev pub place_at : Option Place → ℕ
place_at None = 0
place_at (Some place) = place.at

-- after those of the last file were cut off
abbrev pub after_parting : Collected → (agg begun : ℕ) → Reply → Option Step
after_parting x agg begun (reply.Aggs held part) =
    at (phase.ReplacingPart agg part (place_at (last_place x.places))) begun (with_held x held)
after_parting x agg begun r = None

-- after they were inserted into the text
abbrev pub after_replacing : Collected → (agg part begun : ℕ) → Reply → Option Step
after_replacing x agg part begun (reply.Agg made) = at (phase.DroppingText agg part made) begun (without_last x)
after_replacing x agg part begun r = None

abbrev pub after_cutting : Collected → (agg begun : ℕ) → Reply → Option Step
after_cutting x agg begun (reply.Agg rest) = at (phase.DroppingTaken agg rest) begun x
after_cutting x agg begun r = None

-- after taken of to bytes were taken
abbrev pub taken_of : (agg taken to : ℕ) → Phase
taken_of agg taken to = if taken == to then phase.DroppingWritten agg else phase.CuttingRest agg taken to

abbrev pub after_writing : Collected → (agg len begun : ℕ) → Reply → Option Step
after_writing x agg len begun (reply.Count taken) = at (taken_of agg taken len) begun x
after_writing x agg len begun (reply.Refused BrokenPipe) = at (phase.Aborting agg) begun x
after_writing x agg len begun r = None

-- after all of an aggregate is written: the file that is too long is written, or the script continues
abbrev pub after_dropping : Collected → Option ℕ → (begun : ℕ) → Option Step
after_dropping x (Some agg) begun = at (phase.Writing agg) begun (without_next x)
after_dropping x None begun = at phase.Interpreting begun x

-- without reader, the rest is dropped, and the script ends
abbrev pub after_breaking : Task → Collected → Option ℕ → (begun : ℕ) → Option Step
after_breaking job x (Some agg) begun = at (phase.Aborting agg) begun (without_next x)
after_breaking job x None begun = at phase.Interpreting (length job.lines) x

-- a file of len bytes is closed, and its bytes are buffered after from bytes
abbrev pub file_collected : Collected → Option ℕ → (from agg len begun : ℕ) → Option Step
file_collected x None from agg len begun = at phase.Interpreting begun (with_file x agg 0 len)
file_collected x (Some held) from agg len begun = at (phase.JoiningFile held agg from len) begun x

-- the same, or it is too long, and is written by itself
abbrev pub shut_by : Collected → (from agg len begun : ℕ) → Option Step
shut_by x from agg len begun =
    if nat_le len MAX_COLLECTED_BYTES then file_collected x x.held from agg len begun
    else (if is_nothing x then at (phase.Writing agg) begun x else at phase.Interpreting begun (with_next x agg))

module _ (readable : ℕ → Option (List ℕ)) where
  -- after bytes were read
  abbrev pub got : (file agg : ℕ) → Purpose → Phase
  got file agg purpose.Cat = phase.ClosingFile file agg
  got file agg purpose.Wc = phase.DroppingCounted file agg (said.Counted (counts_of (bytes_at readable agg)))

  abbrev pub after_reading : Collected → (file : ℕ) → Purpose → (begun : ℕ) → Reply → Option Step
  after_reading x file p begun (reply.Agg agg) = at (got file agg p) begun x
  after_reading x file p begun (reply.Refused why) = at (phase.ClosingCounted file (said.Refused why)) begun x
  after_reading x file p begun r = None

  -- after a file is closed
  abbrev pub after_closing : Collected → (agg begun : ℕ) → Option Step
  after_closing x agg begun =
      shut_by x (length (bytes_of_one readable x.held)) agg (length (bytes_at readable agg)) begun

  abbrev pub after_phase : Task → Collected → (begun : ℕ) → Phase → Reply → Option Step
  after_phase job x begun phase.Waiting r = None
  after_phase job x begun phase.Interpreting r = after_begin job x begun r
  after_phase job x begun (phase.Reading file p) r = after_reading x file p begun r
  after_phase job x begun (phase.ClosingFile file agg) r = after_closing x agg begun
  after_phase job x begun (phase.ClosingCounted file s) r = said_collected begun x s
  after_phase job x begun (phase.JoiningFile held agg from len) r = after_joining x from len begun r
  after_phase job x begun (phase.CuttingPart held agg from) r = after_parting x agg begun r
  after_phase job x begun (phase.ReplacingPart agg part place) r = after_replacing x agg part begun r
  after_phase job x begun (phase.DroppingText agg part made) r = at (phase.DroppingPart part made) begun x
  after_phase job x begun (phase.DroppingPart part made) r = Some (interleave_on begun x made)
  after_phase job x begun (phase.Writing agg) r = after_writing x agg (length (bytes_at readable agg)) begun r
  after_phase job x begun (phase.CuttingRest agg from to) r = after_cutting x agg begun r
  after_phase job x begun (phase.DroppingOther agg) r = at phase.Waiting begun x
  after_phase job x begun (phase.DroppingCounted file agg s) r = at (phase.ClosingCounted file s) begun x
  after_phase job x begun (phase.DroppingTaken agg rest) r = at (phase.Writing rest) begun x
  after_phase job x begun (phase.DroppingWritten agg) r = after_dropping x x.next begun
  after_phase job x begun (phase.Aborting agg) r = after_breaking job x x.next begun

abbrev pub after_reply : Task → Step → (ℕ → Option (List ℕ)) → Reply → Option Step
after_reply job step readable r = after_phase readable job step.piece step.begun step.phase r
