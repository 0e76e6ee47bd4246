-- Choices that do not affect a site and its processes in any machine; this can be decided without a run.
use Rattle.std.specs.Prelude.{◌<◌, ◌+◌, ℕ, Bool, true, false, List, IsTrue, IsFalse, ⊤}
use Rattle.std.specs.List.{AllByRecursion}
use Rattle.iol_core.specs.State.{State}
use Rattle.iol_core.specs.declared.events.Call.{Call}
use Rattle.iol_core.specs.declared.events.Call.TheVariants as call
use Rattle.iol_core.specs.declared.events.Event.TheVariants as event
use Rattle.iol_core.specs.declared.events.Reply.{Reply}
use Rattle.iol_proc.specs.World.{WorldState}
use Rattle.iol_proc.specs.declared.choice.Choice.{Choice}
use Rattle.iol_proc.specs.declared.choice.Choice.TheVariants as choice
use Rattle.flash_cgi.specs.declared.worker.Worker.{Worker}
use Rattle.flash_laws.specs.SiteContents.{Refusals}
use Rattle.flash_laws.specs.Site.{server}
use Rattle.flash_laws.specs.World.Consistency.{Actor}
use Rattle.flash_laws.specs.World.{AreFair}
use Rattle.flash_laws.specs.World.Fair.{any_refusal, no_refusal}
use Rattle.flash_laws.specs.World.Host.{IsRight}
use Rattle.flash_lite.specs.WorkerSet.{worker_set_of}
use Rattle.flash_lite.specs.HostedSite.{HasFairTurns, Hosts, PreservesSite, refusals_of}
use Rattle.flash_lite.specs.Library.{library_of}
use Rattle.flash_lite.specs.Setup.{workers_used}
use Rattle.flash_lite.specs.declared.site.Site.{Site}

-- whether a call makes and writes no file, for all objects of its descriptors, and admits no domain to a pool
abbrev pub leaves_site : Call → Bool
leaves_site (call.FileNew name pool) = false
leaves_site (call.IolWrite fd agg) = false
leaves_site (call.Write fd bytes) = false
leaves_site (call.PoolAdmit pool domain) = false
leaves_site k = true

-- An external call must be such a call, by a domain after those of the server and of its workers. All other choices are
-- harmless.
abbrev pub IsHarmless : (workers : ℕ) → Choice → Type 0
IsHarmless workers (choice.Outside (event.Call d k)) = (server + workers < d) × IsTrue (leaves_site k)
IsHarmless workers x = ⊤

abbrev pub AreHarmless : Site → List Choice → Type 0
AreHarmless s xs = AllByRecursion (λ x. IsHarmless (workers_used s) x) xs

-- Harmless choices are site-preserving, whatever is hosted, if their turns were fair.
abbrev pub HarmlessIsSitePreserving : Type 0
HarmlessIsSitePreserving = (s : Site) (slots : List (List ℕ)) (xs : List Choice) (rs : List Reply) (turns : ℕ)
    (idle : Bool) (after : WorldState State (Actor Worker)) (hosts : Hosts s slots xs rs turns idle after)
    → (refuses : Refusals) → AreHarmless s xs → AreFair refuses xs rs
    → PreservesSite s slots xs rs turns idle after hosts

-- So a site hosted with them is right, for the input of these choices: the turns in rounds after them add none.
module _ (s : Site) (slots : List (List ℕ)) (xs : List Choice) (rs : List Reply) (turns : ℕ) (idle : Bool)
    (after : WorldState State (Actor Worker)) (hosts : Hosts s slots xs rs turns idle after) where
  abbrev pub IsRightNow : (refuses : Refusals) → Type 0
  IsRightNow refuses = IsRight (worker_set_of s) (library_of s slots refuses) xs rs idle after

  pub record IsRightIfHarmless : Type 0 where
    -- if its turns got no other refusals
    pub fair : (refuses : Refusals) → AreHarmless s xs → HasFairTurns s slots xs rs turns idle after hosts refuses
        → IsRightNow refuses
    -- with none, if the world's failure flag is clear
    pub failure_free : AreHarmless s xs → IsFalse after.resource_failure → IsRightNow no_refusal
    -- with those that the turns of the server and the workers got, whatever was refused
    pub own : AreHarmless s xs → IsRightNow (refusals_of s slots xs rs turns idle after hosts)
    -- with TooMany, NoRoom, Fault and Memory, whatever was refused
    pub any : AreHarmless s xs → IsRightNow any_refusal

abbrev pub HarmlessIsRight : Type 0
HarmlessIsRight = (s : Site) (slots : List (List ℕ)) (xs : List Choice) (rs : List Reply) (turns : ℕ)
    (idle : Bool) (after : WorldState State (Actor Worker)) (hosts : Hosts s slots xs rs turns idle after)
    → IsRightIfHarmless s slots xs rs turns idle after hosts
