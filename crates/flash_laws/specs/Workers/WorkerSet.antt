-- The workers of a site, in the terms of the law over a world, and the conditions that remain while a world runs.
use Rattle.std.specs.Prelude.{◌≡◌, ◌<◌, ℕ, Bool, List, IsTrue}
use Rattle.iol_core.specs.Access.{HasAccess}
use Rattle.iol_core.specs.Positions.{ArePlaced}
use Rattle.iol_core.specs.Prelude.{default_pool}
use Rattle.iol_core.specs.State.{State}
use Rattle.iol_laws.specs.DescriptorNumbers.{AreLow}
use Rattle.iol_laws.specs.Sources.{MayReadAll}
use Rattle.iol_proc.specs.Quiescence.{Claim}
use Rattle.iol_proc.specs.Turns.{TransitionRelation}
use Rattle.iol_proc.specs.declared.process_slot.ProcessSlot.{ProcessSlot}
use Rattle.flash_cgi.specs.Expected.{Made}
use Rattle.flash_cgi.specs.Outcomes.{AreFiles, outcome_in}
use Rattle.flash_cgi.specs.OutputPools.{HoldFiles}
use Rattle.flash_laws.specs.Site.Places.{runs_scripts}
use Rattle.flash_laws.specs.Run.{worker_domain}
use Rattle.flash_laws.specs.SiteContents.{SiteContents}
use Rattle.flash_laws.specs.Site.{server}
use Rattle.flash_laws.specs.Site as site

-- The workers: worker k, counted from 0, is in domain k + 2, and reads its jobs from pipe `job_queue k`.
pub record WorkerSet : Type 1 where
  pub Worker : Type 0
  -- the turns that each may take, and its condition when idle
  pub turns : TransitionRelation Worker
  pub quiescent : Claim Worker
  -- their number
  pub count : ℕ
  pub job_queue : ℕ → ℕ
  -- the pools of their output, and those of their jobs
  pub pools : ℕ → Bool
  pub jobs : ℕ → Bool
  -- a free worker with this job pipe
  pub Free : State → (j : ℕ) → ProcessSlot Worker → Type 0
  -- a worker with job pipe j whose script has this output, of which this text is expected from pipe p
  pub Expected : State → (j p : ℕ) → ProcessSlot Worker → Made → (text : List ℕ) → Type 0

-- The fixed conditions: the files and their access lists are those of the site contents, for the server and for each
-- worker; the server may read the output of workers, and the workers their jobs.
pub record IsFixedFor (site_contents : SiteContents) (worker_set : WorkerSet) (m : State) : Type 0 where
  pub site : site.IsFixed site_contents.finds m
  pub access : HasAccess m
  pub placed : ArePlaced m
  pub low : AreLow m
  pub files : AreFiles m
  pub holds : (k : ℕ) → k < worker_set.count → HoldFiles worker_set.pools m (worker_domain k)
  pub shows : (k : ℕ) → k < worker_set.count → (name : List ℕ)
      → outcome_in m (worker_domain k) name ≡ site_contents.shows name
  pub wide : MayReadAll m server worker_set.pools
  pub read_jobs : (k : ℕ) → k < worker_set.count → MayReadAll m (worker_domain k) worker_set.jobs
  pub default : IsTrue (worker_set.jobs (default_pool m server))
  pub scripts : site_contents.scripts ≡ runs_scripts worker_set.count
