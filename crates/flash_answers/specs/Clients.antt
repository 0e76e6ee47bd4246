-- The answers to a client of the event loop, whose connections were in worlds of sites.
use Rattle.std.specs.Prelude.{◌≡◌, ℕ, Bool, List, [], IsTrue}
use Rattle.std.specs.List.{AllByRecursion}
use Rattle.iol_proc.specs.World.{WorldState}
use Rattle.iol_system.specs.Machine.{SystemState}
use Rattle.iol_reactor.specs.Clients.{Holds, IsClosed, Visit, WereLeft}
use Rattle.iol_reactor.specs.Visits.{HasVisited}
use Rattle.iol_reactor.specs.declared.service.Frame.TheVariants.{Incomplete}
use Rattle.flash_cgi.specs.declared.worker.Worker.{Worker}
use Rattle.flash_clients.specs.Clients.{BeginsInTurn, InTurn}
use Rattle.flash_framing.specs.Framing.{Framed}
use Rattle.flash_laws.specs.Serves.Rounds.{in_rounds}
use Rattle.flash_laws.specs.SiteContents.{IsAnswer, SiteContents}
use Rattle.flash_laws.specs.Site.{net_pool}
use Rattle.flash_laws.specs.World.Consistency.{Actor, actor_turns}
use Rattle.flash_lite.specs.Workers.{worker_turns}
use Rattle.flash_site.specs.World.{IsSiteWorld}
use Rattle.flash_answers.specs.Sites.{site_of}

-- a connection in a world over an honest store
abbrev pub IsHonest : Visit (Actor Worker) → Type 0
IsHonest v = IsTrue v.world.machine.disk.honest

-- The worlds begin as these do, for example as those of one site over one store.
module _ (starts : WorldState SystemState (Actor Worker) → Type 0) where
  -- the contents of the site of such a world
  pub record IsOfSite (site_contents : SiteContents) : Type 0 where
    pub world : WorldState SystemState (Actor Worker)
    pub started : starts world
    pub is : IsSiteWorld world
    pub same : site_contents ≡ site_of world is

  -- The bytes accepted are a prefix of an answer to those supplied, by the sites of such worlds in turn.
  pub record IsBegun (supplied accepted : List ℕ) : Type 0 where
    pub sites : List SiteContents
    pub of_worlds : AllByRecursion IsOfSite sites
    pub begins : BeginsInTurn sites supplied accepted

  -- They are an answer.
  pub record IsAnswered (supplied accepted : List ℕ) : Type 0 where
    pub sites : List SiteContents
    pub of_worlds : AllByRecursion IsOfSite sites
    pub whole : InTurn IsAnswer sites supplied accepted

  -- connections that were left, after requests of HTTP that keep them, in such worlds over honest stores
  pub record LeftSites (came sent : List ℕ) : Type 0 where
    pub were : WereLeft (actor_turns in_rounds worker_turns) starts Framed net_pool came sent
    pub honest : AllByRecursion IsHonest were.visits

  -- The answer to a client, by the history of its connections and the bytes that its socket supplied and accepted.
  pub record ClientsAreAnswered : Type 0 where
    -- it has a connection, or had a last one
    pub begins : (pc ps : List ℕ) (v : Visit (Actor Worker)) (gone : Bool) (waiting unsent supplied accepted : List ℕ)
        → LeftSites pc ps → IsHonest v
        → HasVisited (actor_turns in_rounds worker_turns) starts net_pool v.conn v.came v.sent gone v.world
        → Holds pc ps v.came v.sent waiting unsent supplied accepted → ∥ IsBegun supplied accepted ∥₁
    -- it left all its connections
    pub apart : (pc ps waiting unsent supplied accepted : List ℕ) → LeftSites pc ps
        → Holds pc ps [] [] waiting unsent supplied accepted → ∥ IsBegun supplied accepted ∥₁
    -- a request closed its last connection, and its socket accepted all
    pub closed : (pc ps : List ℕ) (v : Visit (Actor Worker)) (waiting supplied accepted : List ℕ) → LeftSites pc ps
        → IsHonest v
        → IsClosed (actor_turns in_rounds worker_turns) starts Framed net_pool v
        → Holds pc ps v.came v.sent waiting [] supplied accepted → ∥ IsAnswered supplied accepted ∥₁
    -- it left all, no complete request waits, and its socket accepted all
    pub ended : (pc ps waiting supplied accepted : List ℕ) → LeftSites pc ps → Framed waiting Incomplete
        → Holds pc ps [] [] waiting [] supplied accepted → ∥ IsAnswered supplied accepted ∥₁
