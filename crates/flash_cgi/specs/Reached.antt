-- The value of a step in the code: a phase, the number of lines begun, and the buffered output, if it changes.
use Rattle.std.specs.Prelude.{ℕ, List, Option, Some, None, unwrap_or}
use Rattle.iol_core.specs.declared.refusals.Refusal.TheVariants.{BrokenPipe}
use Rattle.iol_core.specs.declared.events.Reply.{Reply}
use Rattle.iol_core.specs.declared.events.Reply.TheVariants as reply
use Rattle.flash_cgi.specs.Collecting.{Collected}
use Rattle.flash_cgi.specs.WorkerSteps.{got, step_with, taken_of}
use Rattle.flash_cgi.specs.declared.counts.Said.TheVariants as said
use Rattle.flash_cgi.specs.declared.phase.Phase.{Phase}
use Rattle.flash_cgi.specs.declared.phase.Phase.TheVariants as phase
use Rattle.flash_cgi.specs.declared.phase.Purpose.{Purpose}
use Rattle.flash_cgi.specs.declared.phase.Step.{Step}
use Rattle.flash_cgi.specs.declared.replies.After.{After}

abbrev pub after_of : Phase → (begun : ℕ) → Option Collected → Option After
after_of d begun x = Some (record { phase = d; begun = begun; piece = x })

-- the step, given the previous buffered output
abbrev pub reached_by : Collected → After → Step
reached_by x a = step_with a.phase a.begun (unwrap_or a.piece x)

abbrev pub reached : Collected → Option After → Option Step
reached x (Some a) = Some (reached_by x a)
reached x None = None

-- the steps after which the buffered output is unchanged
abbrev pub read_after : (ℕ → Option (List ℕ)) → (file : ℕ) → Purpose → (begun : ℕ) → Reply → Option After
read_after readable file p begun (reply.Agg agg) = after_of (got readable file agg p) begun None
read_after readable file p begun (reply.Refused why) =
    after_of (phase.ClosingCounted file (said.Refused why)) begun None
read_after readable file p begun r = None

abbrev pub written_after : (agg len begun : ℕ) → Reply → Option After
written_after agg len begun (reply.Count taken) = after_of (taken_of agg taken len) begun None
written_after agg len begun (reply.Refused BrokenPipe) = after_of (phase.Aborting agg) begun None
written_after agg len begun r = None

abbrev pub cut_after : (agg begun : ℕ) → Reply → Option After
cut_after agg begun (reply.Agg rest) = after_of (phase.DroppingTaken agg rest) begun None
cut_after agg begun r = None
