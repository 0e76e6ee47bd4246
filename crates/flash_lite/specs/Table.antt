-- The state of the server: its clients, the pending call, and the free workers.
use Rattle.std.specs.Prelude.{◌≡◌, ◌<◌, ◌≤◌, ℕ, Bool, true, false, List, [], length, get_or, replicate, Option}
use Rattle.flash_laws.specs.Client.{Client}
use Rattle.flash_laws.specs.Site.Places.{NoneRuns, is_free}
use Rattle.flash_laws.specs.Serves.{Server}
use Rattle.flash_laws.specs.Workers.OwnWorkers.{IsShared}
use Rattle.flash_laws.specs.declared.phase.PendingCall.{PendingCall}
use Rattle.flash_laws.specs.declared.phase.PendingCall.TheVariants.{Nothing}
use Rattle.flash_lite.specs.Few.{IsFew}
use Rattle.flash_lite.specs.declared.site.TheConstants.{MAX_WORKERS}

pub record Table : Type 0 where
  pub clients : List (Option Client)
  pub pending_call : PendingCall
  pub workers : ℕ
  -- for each possible number of a worker, whether it is free
  pub free : List Bool

-- without clients, and with workers workers, all free
abbrev pub new_table : (workers : ℕ) → Table
new_table workers = record { clients = []; pending_call = Nothing; workers = workers; free = replicate 8 true }

-- the state of the server that it represents
abbrev pub serving : Table → Server
serving t = record { clients = t.clients; pending_call = t.pending_call; workers = t.workers }

-- the list has the workers that run no script of these clients
pub record ReportsFree (free : List Bool) (clients : List (Option Client)) : Type 0 where
  pub long : length free ≡ MAX_WORKERS
  pub each : (worker : ℕ) → worker < MAX_WORKERS → get_or free worker false ≡ is_free clients worker

-- between two turns
pub record IsBetweenTurns (t : Table) : Type 0 where
  pub few : IsFew t.clients t.pending_call
  pub hired : t.workers ≤ MAX_WORKERS
  pub shared : IsShared (serving t)
  pub reports : ReportsFree t.free t.clients
  pub none : t.workers ≡ 0 → NoneRuns t.clients
