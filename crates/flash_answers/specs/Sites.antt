-- The connections of clients in the worlds of sites.
use Rattle.std.specs.Prelude.{ℕ, Bool, List, IsTrue, IsFalse}
use Rattle.iol_core.specs.Calls.Outside.{lacks_conn}
use Rattle.iol_system.specs.Prelude.{slots_of}
use Rattle.iol_proc.specs.World.{WorldState, copied}
use Rattle.iol_reactor.specs.Visits.{HasVisited}
use Rattle.iol_system.specs.Machine.{SystemState}
use Rattle.flash_cgi.specs.declared.worker.Worker.{Worker}
use Rattle.flash_laws.specs.Serves.Rounds.{in_rounds}
use Rattle.flash_laws.specs.SiteContents.{Begins, IsAnswer, SiteContents}
use Rattle.flash_laws.specs.Site.{net_pool}
use Rattle.flash_laws.specs.World.Fair.{any_refusal}
use Rattle.flash_laws.specs.World.Consistency.{Actor, actor_turns}
use Rattle.flash_lite.specs.Library.{library_of}
use Rattle.flash_lite.specs.Workers.{worker_turns}
use Rattle.flash_site.specs.World.{BeginsSite, IsSiteWorld}

-- the contents of the site of a world; any call of the server or a worker may be refused for lack of resources
abbrev pub site_of : (world : WorldState SystemState (Actor Worker)) → IsSiteWorld world → SiteContents
site_of world is = library_of is.is.site (slots_of is.store.slots) any_refusal

-- Over an honest store, the bytes sent on this connection begin an answer to those received on it, by the site of its
-- world, and are an answer once the connection is removed, unless its peer was reported as gone.
pub record IsAnsweredBySite (c : ℕ) (came sent : List ℕ) (gone : Bool) (w : WorldState SystemState (Actor Worker))
    (visited : HasVisited (actor_turns in_rounds worker_turns) BeginsSite net_pool c came sent gone w)
    (is : IsSiteWorld visited.begun) : Type 0 where
  pub begins : Begins (site_of visited.begun is) came sent
  pub whole : IsFalse gone → IsTrue (lacks_conn (copied w).machine c) → IsAnswer (site_of visited.begun is) came sent

-- Each connection of a world that began as that of a site is answered by this site.
abbrev pub SitesAnswer : Type 0
SitesAnswer = (c : ℕ) (came sent : List ℕ) (gone : Bool) (w : WorldState SystemState (Actor Worker))
    → (visited : HasVisited (actor_turns in_rounds worker_turns) BeginsSite net_pool c came sent gone w)
    → (is : IsSiteWorld visited.begun) → IsTrue visited.begun.machine.disk.honest
    → IsAnsweredBySite c came sent gone w visited is
