-- The uses of memory by a worker: to parse a job, for the bytes of a call, and to buffer output.
use Rattle.std.specs.Prelude.{◌<◌, ℕ, Bool, true, false, List, length, Option, Some, None, is_some, slice_get}
use Rattle.std.specs.Prelude.{if◌then◌else◌, IsTrue, IsFalse}
use Rattle.iol_core.specs.declared.events.Reply.{Reply}
use Rattle.iol_core.specs.declared.events.Reply.TheVariants as reply
use Rattle.flash_cgi.specs.Collecting.{Collected}
use Rattle.flash_cgi.specs.Job.{Task}
use Rattle.flash_cgi.specs.WorkerSteps.{bytes_at, expected_now, after_reply}
use Rattle.flash_cgi.specs.declared.phase.Phase.{Phase}
use Rattle.flash_cgi.specs.declared.phase.Phase.TheVariants as phase
use Rattle.flash_cgi.specs.declared.phase.Standing.{Standing}
use Rattle.flash_cgi.specs.declared.phase.Standing.TheVariants as standing
use Rattle.flash_cgi.specs.declared.phase.Step.{Step}
use Rattle.flash_cgi.specs.declared.line.Line.{Line}
use Rattle.flash_cgi.specs.declared.line.Line.TheVariants as line
use Rattle.flash_cgi.specs.declared.worker.Worker.{Worker}

-- whether the call that begins a line has bytes of its own: a name
abbrev pub line_has_bytes : Line → Bool
line_has_bytes (line.Cat name) = true
line_has_bytes (line.Wc name) = true
line_has_bytes l = false

abbrev pub next_has_bytes : Option Line → Bool
next_has_bytes None = false
next_has_bytes (Some l) = line_has_bytes l

-- whether the next call has bytes: it begins such a line, or makes an aggregate of the buffered text
abbrev pub begins_with_bytes : Task → Collected → (begun : ℕ) → Bool
begins_with_bytes job x begun = if expected_now job x begun then true else next_has_bytes (slice_get job.lines begun)

abbrev pub phase_has_bytes : Task → Collected → (begun : ℕ) → Phase → Bool
phase_has_bytes job x begun phase.Interpreting = begins_with_bytes job x begun
phase_has_bytes job x begun d = false

-- whether the call of a step has bytes
abbrev pub has_bytes : Task → Step → Bool
has_bytes job step = phase_has_bytes job step.piece step.begun step.phase

-- whether the buffered output may change after the reply, and is copied
abbrev pub may_copy : Collected → Phase → Bool
may_copy x phase.Interpreting = true
may_copy x (phase.ClosingFile file agg) = true
may_copy x (phase.ClosingCounted file s) = true
may_copy x (phase.JoiningFile held agg from len) = true
may_copy x (phase.CuttingPart held agg from) = true
may_copy x (phase.ReplacingPart agg part place) = true
may_copy x (phase.DroppingPart part made) = true
may_copy x (phase.DroppingWritten agg) = is_some x.next
may_copy x (phase.Aborting agg) = is_some x.next
may_copy x d = false

-- it continues with a call that has bytes, or makes its call again
abbrev pub WantsOn : Task → Option Step → Type 0
WantsOn job None = ⊥
WantsOn job (Some step) = IsTrue (has_bytes job step)

-- if it copies nothing, it needs memory only for its next call
abbrev pub WantsByReply : Worker → Reply → (ℕ → Option (List ℕ)) → Type 0
WantsByReply w last readable = IsFalse (may_copy w.step.piece w.step.phase)
    → WantsOn w.job (after_reply w.job w.step readable last)

-- it processes a reply: a text of at least one byte is parsed as a job
abbrev pub WantsToFile : Worker → Phase → Reply → (ℕ → Option (List ℕ)) → Type 0
WantsToFile w phase.Waiting (reply.Agg agg) readable = 0 < length (bytes_at readable agg)
WantsToFile w d last readable = WantsByReply w last readable

abbrev pub WantsAs : Standing → Worker → Reply → (ℕ → Option (List ℕ)) → Type 0
WantsAs standing.Asks w last readable = IsTrue (has_bytes w.job w.step)
WantsAs standing.Asked w last readable = WantsToFile w w.step.phase last readable
WantsAs standing.Over w last readable = ⊥

-- in a turn
abbrev pub Wants : Worker → Reply → (ℕ → Option (List ℕ)) → Type 0
Wants w last readable = WantsAs w.standing w last readable
