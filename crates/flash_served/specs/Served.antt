-- Connections that are served in a world that satisfies the server's invariant: the bytes sent begin an answer to the
-- bytes received.
use Rattle.std.specs.Prelude.{◌≡◌, ℕ, List, [], ◌∷◌, ◌++◌, Option, IsTrue, IsFalse, ◌≢◌, ⊤}
use Rattle.std.specs.Io.KnownBytes.{Appends, Consumes}
use Rattle.std.specs.List.{AllByRecursion}
use Rattle.iol_core.specs.Calls.Outside.{lacks_conn}
use Rattle.iol_core.specs.State.{State}
use Rattle.iol_core.specs.declared.events.Event.TheVariants as event
use Rattle.iol_core.specs.declared.events.Reply.{Reply}
use Rattle.iol_core.specs.declared.events.Reply.TheVariants as reply
use Rattle.iol_proc.specs.Histories.{stream_over, sent_over}
use Rattle.iol_proc.specs.World.{OutsideStep, WorldState, copying}
use Rattle.iol_proc.specs.declared.choice.Choice.{Choice}
use Rattle.iol_proc.specs.declared.choice.Choice.TheVariants as choice
use Rattle.iol_serve.specs.Service.{Proceeds, Serves, hung_up}
use Rattle.iol_serve.specs.declared.ending.Ending.{Ending}
use Rattle.iol_serve.specs.declared.ending.Ending.TheVariants.{Over}
use Rattle.flash_cgi.specs.declared.worker.Worker.{Worker}
use Rattle.flash_laws.specs.Serves.Rounds.{in_rounds}
use Rattle.flash_laws.specs.SiteContents.{Begins, IsAnswer, Refusals, SiteContents}
use Rattle.flash_laws.specs.Site.{net_pool}
use Rattle.flash_laws.specs.World.{AreFair, Consistent}
use Rattle.flash_laws.specs.World.Fair.{any_refusal, no_refusal}
use Rattle.flash_laws.specs.World.Consistency.{Actor, actor_turns, gone_over, made_over}
use Rattle.flash_lite.specs.WorkerSet.{worker_set_of}
use Rattle.flash_lite.specs.Library.{library_of}
use Rattle.flash_lite.specs.Workers.{worker_turns}
use Rattle.flash_lite.specs.declared.site.Site.{Site}

-- A connection of the net without history: nothing arrived, nothing was sent, and its peer did not leave.
pub record IsFresh (c : ℕ) (past : List Choice) (ps : List Reply) : Type 0 where
  pub net : IsTrue (made_over c past ps)
  pub unread : stream_over c past ps ≡ []
  pub unsent : sent_over c past ps ≡ []
  pub stays : IsFalse (gone_over c past ps)

-- The bytes sent begin an answer to the bytes received, and are an answer if the connection ended with `Over`.
pub record IsAnswered (site_contents : SiteContents) (ending : Ending) (came sent : List ℕ) : Type 0 where
  pub begins : Begins site_contents came sent
  pub whole : ending ≡ Over → IsAnswer site_contents came sent

-- A connection that was served: its number, its ending, and the bytes received and sent.
pub record Session : Type 0 where
  pub conn : ℕ
  pub ending : Ending
  pub came : List ℕ
  pub sent : List ℕ

-- a connection is created in the net, and served
pub record IsSession (it : Session) (w after : WorldState State (Actor Worker)) : Type 0 where
  pub begun : WorldState State (Actor Worker)
  pub made : OutsideStep copying (actor_turns in_rounds worker_turns) w (event.ConnNew net_pool) (reply.Conn it.conn)
      begun
  pub proceeds : Proceeds (actor_turns in_rounds worker_turns) it.conn it.came it.sent (hung_up it.ending) begun after
  pub over : it.ending ≡ Over → IsTrue (lacks_conn after.machine it.conn)

abbrev pub AreSessions : List Session → (w after : WorldState State (Actor Worker)) → Type 0
AreSessions [] w after = after ≡ w
AreSessions (it ∷ more) w after = (mid : WorldState State (Actor Worker)) × IsSession it w mid
    × AreSessions more mid after

-- the turns of each are fair if these refusals are allowed
abbrev pub AreFairSessions : (refuses : Refusals) → (its : List Session) → (w after : WorldState State (Actor Worker))
    → AreSessions its w after → Type 0
AreFairSessions refuses [] w after is = ⊤
AreFairSessions refuses (it ∷ more) w after is = AreFair refuses is.1.proceeds.choices is.1.proceeds.replies
    × AreFairSessions refuses more is.0 after is.2

module _ (s : Site) (slots : List (List ℕ)) where
  -- The server's invariant, if these refusals are allowed.
  abbrev pub Holds : (refuses : Refusals) → List Choice → List Reply → WorldState State (Actor Worker) → Type 0
  Holds refuses past ps w = Consistent (library_of s slots refuses) (worker_set_of s) past ps w

  -- ---- one connection

  module _ (past : List Choice) (ps : List Reply) (c : ℕ) (ending : Ending) (left rest held now : Option (List ℕ))
      (w after : WorldState State (Actor Worker))
      (served : Serves (actor_turns in_rounds worker_turns) c (hung_up ending) left rest held now w after) where
    -- the invariant holds afterwards, and the output is right
    abbrev pub IsRight : (refuses : Refusals) → Type 0
    IsRight refuses = Holds refuses (past ++ served.proceeds.choices) (ps ++ served.proceeds.replies) after
        × IsAnswered (library_of s slots refuses) ending served.came served.sent

    pub record IsServedRight : Type 0 where
      -- if its turns got no other refusals
      pub fair : (refuses : Refusals) → Holds refuses past ps w
          → AreFair refuses served.proceeds.choices served.proceeds.replies
          → IsRight refuses
      -- with none, if the world's failure flag is clear at the end
      pub failure_free : Holds no_refusal past ps w → IsFalse after.resource_failure → IsRight no_refusal
      -- with TooMany, NoRoom, Fault and Memory, whatever was refused
      pub any : Holds any_refusal past ps w → IsRight any_refusal

  -- ---- connections one after another

  -- the output to each is right, and the invariant holds afterwards
  pub record AreRight (refuses : Refusals) (past : List Choice) (ps : List Reply) (its : List Session)
      (after : WorldState State (Actor Worker)) : Type 0 where
    pub answered : AllByRecursion (λ it. IsAnswered (library_of s slots refuses) it.ending it.came it.sent) its
    pub choices : List Choice
    pub replies : List Reply
    pub holds : Holds refuses (past ++ choices) (ps ++ replies) after

  pub record AreServedRight (past : List Choice) (ps : List Reply) (its : List Session)
      (w after : WorldState State (Actor Worker))
      (sessions : AreSessions its w after) : Type 0 where
    pub fair : (refuses : Refusals) → Holds refuses past ps w → AreFairSessions refuses its w after sessions
        → AreRight refuses past ps its after
    pub any : Holds any_refusal past ps w → AreRight any_refusal past ps its after

-- A connection without history is served, and is removed if its ending is `Over`. Then it is served right.
abbrev pub ServedIsRight : Type 0
ServedIsRight = (s : Site) (slots : List (List ℕ)) (past : List Choice) (ps : List Reply) (c : ℕ) (ending : Ending)
    (left rest held now : Option (List ℕ)) (w after : WorldState State (Actor Worker)) → IsFresh c past ps
    → (served : Serves (actor_turns in_rounds worker_turns) c (hung_up ending) left rest held now w after)
    → (ending ≡ Over → IsTrue (lacks_conn after.machine c))
    → IsServedRight s slots past ps c ending left rest held now w after served

-- A connection is created in the net and served, from a reader and to a writer, with this ending: the bytes received
-- are those that the reader supplies, and the bytes sent those that the writer accepts. Then it is served right, for
-- every site and history.
pub record ServesRight (ending : Ending) (left rest held now : Option (List ℕ))
    (w after : WorldState State (Actor Worker)) :
    Type 0 where
  pub session : Session
  pub ends : session.ending ≡ ending
  pub given : Consumes left rest session.came
  pub taken : Appends held now session.sent
  pub serves : IsSession session w after
  -- if its turns got no other refusals
  pub fair : (s : Site) (slots : List (List ℕ)) (refuses : Refusals) (past : List Choice) (ps : List Reply)
      → Holds s slots refuses past ps w → AreFair refuses serves.proceeds.choices serves.proceeds.replies
      → AreRight s slots refuses past ps (session ∷ []) after
  -- with TooMany, NoRoom, Fault and Memory, whatever was refused
  pub any : (s : Site) (slots : List (List ℕ)) (past : List Choice) (ps : List Reply)
      → Holds s slots any_refusal past ps w
      → AreRight s slots any_refusal past ps (session ∷ []) after

-- a reply that is no connection
abbrev pub IsNoConn : Reply → Type 0
IsNoConn r = (c : ℕ) → r ≢ reply.Conn c

-- No connection is created: the world satisfies the invariant afterwards, if it did before, for every site and history.
pub record ServesNone (w after : WorldState State (Actor Worker)) : Type 0 where
  pub reply : Reply
  pub refused : OutsideStep copying (actor_turns in_rounds worker_turns) w (event.ConnNew net_pool) reply after
  pub none : IsNoConn reply
  pub holds : (s : Site) (slots : List (List ℕ)) (refuses : Refusals) (past : List Choice) (ps : List Reply)
      → Holds s slots refuses past ps w
      → Holds s slots refuses (past ++ choice.Outside (event.ConnNew net_pool) ∷ []) (ps ++ reply ∷ []) after

-- Connections that are created in the net and served, one after another, are served right.
abbrev pub SessionsAreRight : Type 0
SessionsAreRight = (s : Site) (slots : List (List ℕ)) (past : List Choice) (ps : List Reply) (its : List Session)
    (w after : WorldState State (Actor Worker)) → (sessions : AreSessions its w after)
    → AreServedRight s slots past ps its w after sessions
