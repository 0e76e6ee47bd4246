-- A run that meets the premises of the server's law.
use Rattle.std.specs.Prelude.{ℕ, Bool, List}
use Rattle.iol_core.specs.declared.events.Reply.{Reply}
use Rattle.iol_system.specs.Prelude.{slots_of}
use Rattle.iol_proc.specs.World.{WorldState, copied}
use Rattle.iol_proc.specs.declared.choice.Choice.{Choice}
use Rattle.iol_system.specs.Machine.{SystemState}
use Rattle.flash_cgi.specs.declared.worker.Worker.{Worker}
use Rattle.flash_laws.specs.World.Consistency.{Actor}
use Rattle.flash_lite.specs.Harmless.{AreHarmless, IsRightNow}
use Rattle.flash_lite.specs.HostedSite.{Hosts, refusals_of}
use Rattle.flash_lite.specs.declared.site.Site.{Site}

-- The site was hosted over a store of these bytes with harmless choices and these replies; and the whole result is
-- right, with the refusals that its turns got.
pub record IsRightRun (s : Site) (stored : List (List ℕ)) (rs : List Reply) (turns : ℕ) (idle : Bool)
    (after : WorldState SystemState (Actor Worker)) : Type 0 where
  pub choices : List Choice
  pub hosts : Hosts s (slots_of stored) choices rs turns idle (copied after)
  pub harmless : AreHarmless s choices
  pub right : IsRightNow s (slots_of stored) choices rs turns idle (copied after) hosts
      (refusals_of s (slots_of stored) choices rs turns idle (copied after) hosts)
