-- The uses of memory by the run of a script: the bytes of a call.
use Rattle.std.specs.Prelude.{Bool, true, false}
use Rattle.flash_laws.specs.Conn.Wants.{has_bytes}
use Rattle.flash_laws.specs.declared.script_run.Step.{Step}
use Rattle.flash_laws.specs.declared.script_run.Step.TheVariants.{MakingJob, MakingHead, SendingPart, MakingFrame}
use Rattle.flash_laws.specs.declared.script_run.Step.TheVariants.{MakingEnd}
use Rattle.flash_laws.specs.declared.script_run.Running.{Running}
use Rattle.flash_laws.specs.declared.script_run.Running.TheVariants.{InProgress, Finishing}

-- whether its next call has bytes of its own
abbrev pub makes_bytes : Step → Bool
makes_bytes (MakingJob fd) = true
makes_bytes MakingHead = true
makes_bytes (SendingPart d frame) = has_bytes d
makes_bytes (MakingFrame held) = true
makes_bytes (MakingEnd held) = true
makes_bytes s = false

abbrev pub makes_any : Running → Bool
makes_any (InProgress run step) = makes_bytes step
makes_any (Finishing d) = has_bytes d
makes_any x = false
