-- The files of a site and their access lists: the meaning of a list of outcomes by name, and the steps that leave it
-- unchanged.
pub mod Past
pub mod OtherConns
pub mod Places
pub mod ClientConsistency
use Rattle.std.specs.Prelude.{◌≡◌, ◌≢◌, ◌≤◌, ℕ, List, length, Option, Some, None, if◌then◌else◌, IsTrue}
use Rattle.std.specs.Prelude.{IsFalse}
use Rattle.iol_core.specs.State.{State, content, file, may_read, is_live}
use Rattle.iol_core.specs.Calls.Files.{file_called}
use Rattle.iol_core.specs.Run.{StepsTo}
use Rattle.iol_core.specs.declared.events.Event.{Event}
use Rattle.iol_core.specs.declared.events.Reply.{Reply}
use Rattle.iol_laws.specs.Frame.{changes_files, admits_to}
use Rattle.flash_laws.specs.Answers.{Outcome, Found, Failed, SiteContents}
use Rattle.flash_laws.specs.Conn.{most_read}

-- the server's domain
abbrev pub server : ℕ
server = 1

-- the pool `net`, which lists only the server
abbrev pub net_pool : ℕ
net_pool = 2

-- the result of opening and reading a file for the server, without resource refusals
abbrev pub found_in : State → Option ℕ → Outcome
found_in m None = Failed 404
found_in m (Some f) = if may_read m server (file m f).pool then Found (content m f) else Failed 403

abbrev pub outcome_in : State → (name : List ℕ) → Outcome
outcome_in m name = found_in m (file_called m name)

-- The files and their access lists are those of the site contents; each file is within the limit of one read of the
-- server and in a pool with a reader; only the server may read the net; and the server is live.
pub record IsFixed (site_contents : SiteContents) (m : State) : Type 0 where
  pub lives : IsTrue (is_live m server)
  pub outcomes : (name : List ℕ) → outcome_in m name ≡ site_contents name
  pub lengths : (name : List ℕ) (f : ℕ) → file_called m name ≡ Some f
      → length (content m f) ≤ most_read
  pub read_by : (name : List ℕ) (f : ℕ) → file_called m name ≡ Some f → (d : ℕ)
      × IsTrue (may_read m d (file m f).pool)
  pub net_read : IsTrue (may_read m server net_pool)
  pub net_alone : (d : ℕ) → d ≢ server → IsFalse (may_read m d net_pool)

-- No file is made or written, and no domain is admitted to the net or to a file's pool: the site is unchanged.
pub record KeepsSite (m n : State) : Type 0 where
  pub files : n.files ≡ m.files
  pub slots : n.slots ≡ m.slots
  pub net : (d : ℕ) → may_read n d net_pool ≡ may_read m d net_pool
  pub readers : (name : List ℕ) (f d : ℕ) → file_called m name ≡ Some f
      → may_read n d (file m f).pool ≡ may_read m d (file m f).pool

-- each step that may change no file, and that admits no domain to a pool, leaves the site unchanged
abbrev pub SiteStays : Type 0
SiteStays = (site_contents : SiteContents) (m n : State) (e : Event) (r : Reply) → IsFixed site_contents m
    → StepsTo m e r n
    → IsFalse (changes_files m e) → ((p : ℕ) → IsFalse (admits_to e p)) → KeepsSite m n
