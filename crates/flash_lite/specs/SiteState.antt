-- The machine of a site that was set up: its whole state.
use Rattle.std.specs.Prelude.{◌≡◌, ◌<◌, ℕ, ◌+◌, Bool, true, false, if◌then◌else◌, List, [], ◌∷◌, ◌++◌, map, replicate}
use Rattle.std.specs.Prelude.{Option, Some, None}
use Rattle.std.specs.List.{range_with_len, slice_get}
use Rattle.iol_core.specs.Calls.Files.{file_called}
use Rattle.iol_core.specs.State.{State, Domain, Pool, File, descriptor, pipe_at, new_pipe, new_state}
use Rattle.iol_core.specs.Text.{Text}
use Rattle.iol_core.specs.declared.descriptors.Descriptor.{Descriptor}
use Rattle.iol_core.specs.declared.descriptors.Descriptor.TheVariants as on
use Rattle.flash_laws.specs.Run.{job_pipe, worker_domain}
use Rattle.flash_laws.specs.Site.{server}
use Rattle.flash_lite.specs.Setup.{is_private}
use Rattle.flash_lite.specs.declared.site.Site.{Site}
use Rattle.flash_lite.specs.declared.site.SiteFile.{SiteFile}

-- a live domain without aggregates that places its bytes in pool 3, `work`
abbrev pub placing_in_work : List (Option Descriptor) → Domain Text
placing_in_work fds = record { live = true; aggs = []; next_agg = 1; fds = fds; default = Some 3 }

-- the server writes to its workers by its descriptors 1, 2 and so on
abbrev pub server_of : (workers : ℕ) → Domain Text
server_of workers = placing_in_work (None ∷ map (λ p. Some (on.WriteEnd p)) (range_with_len 0 workers))

-- and a worker reads by its descriptor 0
abbrev pub worker_of : (job_pipe : ℕ) → Domain Text
worker_of job_pipe = placing_in_work (Some (on.ReadEnd job_pipe) ∷ [])

abbrev pub guest : Domain Text
guest = placing_in_work []

-- the server, then the workers, then the guests
abbrev pub domains_of : (workers guests : ℕ) → List (Domain Text)
domains_of workers guests = server_of workers ∷ (map worker_of (range_with_len 0 workers) ++ replicate guests guest)

-- an open pool for count domains from first on
abbrev pub pool_for : (first count : ℕ) → Pool
pool_for first count = record { domains = range_with_len first count; closed = false }

-- `site` and `work` for all, `net` for the server, and, if a file is private, `vault` for the first guest
abbrev pub pools_of : (private : Bool) → (workers guests : ℕ) → List Pool
pools_of private workers guests =
    pool_for 1 (1 + workers + guests)
    ∷ pool_for 1 1
    ∷ pool_for 1 (1 + workers + guests)
    ∷ (if private then pool_for (2 + workers) 1 ∷ [] else [])

-- in `vault` or in `site`, by its name
abbrev pub file_of : SiteFile → File
file_of f = record { name = f.name.items; pool = if f.private then 4 else 1 }

-- Over these slots: all job pipes are empty, and there is no connection.
abbrev pub state_of : Site → (slots : List (List ℕ)) → State
state_of s slots = record {
  domains = domains_of s.workers s.guests;
  pools = pools_of (is_private s) s.workers s.guests;
  files = map file_of s.files.items;
  slots = slots;
  pipes = replicate s.workers (Some new_pipe);
  conns = [];
  next_conn = 1;
}

-- Worker k, counted from 0, has the read end of its job pipe, the server the write end, and the pipe is empty.
pub record HasJobQueue (m : State) (k : ℕ) : Type 0 where
  pub reads : descriptor m (worker_domain k) 0 ≡ Some (on.ReadEnd k)
  pub writes : descriptor m server (job_pipe k) ≡ Some (on.WriteEnd k)
  pub new : pipe_at m k ≡ new_pipe

-- The machine of a site, for all contents of its slots: each file of the site is found by its name, and each worker has
-- its job pipe.
pub record IsSetUp (s : Site) (m : State) : Type 0 where
  pub state : m ≡ state_of s m.slots
  pub named : (i : ℕ) (f : SiteFile) → slice_get s.files.items i ≡ Some f → file_called m f.name.items ≡ Some (i + 1)
  pub job_queues : (k : ℕ) → k < s.workers → HasJobQueue m k

-- the result of the calls of a site in a new machine
abbrev pub LeavesSite : Site → (old new : State) → Type 0
LeavesSite s old new = (slots : List (List ℕ)) → old ≡ new_state slots → IsSetUp s new
