-- The answers to the clients of an event loop whose worlds are those of sites.
use Rattle.std.specs.Prelude.{◌≡◌, ℕ, List, Option, Some, IsTrue}
use Rattle.iol_proc.specs.World.{WorldState}
use Rattle.iol_system.specs.Machine.{SystemState}
use Rattle.iol_reactor.specs.Served.{AreKnown}
use Rattle.iol_reactor.specs.declared.client.Client.{Client}
use Rattle.iol_reactor.specs.declared.client.Phase.TheVariants.{Closing}
use Rattle.iol_reactor.specs.declared.service.Frame.{Frame}
use Rattle.flash_cgi.specs.declared.worker.Worker.{Worker}
use Rattle.flash_framing.specs.Framing.{Framed}
use Rattle.flash_laws.specs.World.Consistency.{Actor}
use Rattle.flash_site.specs.World.{BeginsSite}
use Rattle.flash_answers.specs.Clients.{IsAnswered, IsBegun}

-- The worlds that a service begins with begin as those of sites, over honest stores, and its frames are those of
-- requests of HTTP.
pub record ServesSites (starts : WorldState SystemState (Actor Worker) → Type 0) (frames : List ℕ → Frame → Type 0) :
    Type 0 where
  pub begins : (world : WorldState SystemState (Actor Worker)) → starts world → BeginsSite world
  pub honest : (world : WorldState SystemState (Actor Worker)) → starts world → IsTrue world.machine.disk.honest
  pub framed : (bytes : List ℕ) (frame : Frame) → frames bytes frame → Framed bytes frame

-- The bytes that a client's socket accepted are a prefix of an answer to those that it supplied, by the sites of worlds
-- that begin so, in turn. They are an answer if its output was ended after its requests were answered to the end.
pub record HasAnswers {S : Type 0} (starts : WorldState SystemState (Actor Worker) → Type 0)
    (supplied accepted : S → Option (List ℕ)) (c : Client S) : Type 0 where
  pub begins : (from to : List ℕ) → supplied c.socket ≡ Some from → accepted c.socket ≡ Some to
      → ∥ IsBegun starts from to ∥₁
  pub whole : (from to : List ℕ) → supplied c.socket ≡ Some from → accepted c.socket ≡ Some to → c.phase ≡ Closing
      → IsTrue c.is_whole → ∥ IsAnswered starts from to ∥₁

-- The same for sockets of a type whose bytes are known.
abbrev pub IsAnsweredClient : {S : Type 0} → (starts : WorldState SystemState (Actor Worker) → Type 0)
    → (supplied accepted : S → Option (List ℕ)) → Client S → Type 0
IsAnsweredClient starts supplied accepted c = AreKnown supplied accepted → HasAnswers starts supplied accepted c
