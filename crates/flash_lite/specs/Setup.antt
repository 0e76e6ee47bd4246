-- The calls that set a site up.
use Rattle.std.specs.Prelude.{◌≡◌, ◌⊎◌, ℕ, ◌+◌, ◌&&◌, ◌||◌, not, nat_le, nat_lt, Bool, List, [], ◌∷◌, ◌++◌}
use Rattle.std.specs.Prelude.{length, map, Option, Some, None, if◌then◌else◌, IsTrue}
use Rattle.std.specs.List.{range_with_len, list_any, flat_map, slice_get}
use Rattle.iol_core.specs.State.{State}
use Rattle.iol_core.specs.Run.{Run}
use Rattle.iol_core.specs.declared.events.Call.{Call}
use Rattle.iol_core.specs.declared.events.Call.TheVariants as call
use Rattle.iol_core.specs.declared.events.Event.{Event}
use Rattle.iol_core.specs.declared.events.Event.TheVariants as event
use Rattle.iol_core.specs.declared.events.Reply.{Reply}
use Rattle.iol_core.specs.declared.events.Reply.TheVariants as reply
use Rattle.iol_core.specs.declared.refusals.Refusal.{Refusal}
use Rattle.iol_core.specs.declared.refusals.Refusal.TheVariants.{Memory}
use Rattle.iol_system.specs.Machine.{SystemState}
use Rattle.iol_system.specs.Promises.{Chain}
use Rattle.flash_http.specs.MediaType.{is_script}
use Rattle.flash_cgi.specs.Works.{IsNew}
use Rattle.flash_cgi.specs.declared.worker.Worker.{Worker}
use Rattle.flash_laws.specs.Run.{worker_domain}
use Rattle.flash_laws.specs.Serves.{Server, new_server}
use Rattle.flash_laws.specs.Site.{server}
use Rattle.flash_laws.specs.World.Consistency.{Actor, Serving, Working}
use Rattle.flash_lite.specs.declared.site.Site.{Site}
use Rattle.flash_lite.specs.declared.site.SiteFile.{SiteFile}
use Rattle.flash_lite.specs.declared.site.TheConstants.{MAX_WORKERS, MAX_GUESTS}

abbrev pub is_private : Site → Bool
is_private s = list_any (λ f. f.private) s.files.items

-- 1 to 8 workers, at most 7 guests, and at least one if a file is private
abbrev pub is_in_range : Site → Bool
is_in_range s =
    nat_le 1 s.workers && nat_le s.workers MAX_WORKERS && nat_le s.guests MAX_GUESTS
    && (nat_lt 0 s.guests || not (is_private s))

-- ---- the calls, in order; domain 1 is the server, then come the workers, then the guests

abbrev pub call_by : (by : ℕ) → Call → Event
call_by by c = event.Call by c

abbrev pub domains_made : (count : ℕ) → List Event
domains_made count = map (λ k. call_by 1 call.DomainNew) (range_with_len 0 count)

-- a pool for count domains from first on
abbrev pub pool : (chunks first count : ℕ) → Event
pool chunks first count = call_by 1 (call.PoolCreate chunks (range_with_len first count))

-- 1 `site` and 3 `work` for all, 2 `net` for the server, 4 `vault` for the first guest if a file is private
abbrev pub pools_made : Site → List Event
pools_made s =
    (pool s.site_chunks 1 (1 + s.workers + s.guests)
    ∷ pool s.net_chunks 1 1
    ∷ pool s.work_chunks 1 (1 + s.workers + s.guests) ∷ [])
    ++ (if is_private s then pool s.vault_chunks (2 + s.workers) 1 ∷ [] else [])

-- each domain places its bytes in `work`
abbrev pub defaults_set : (count : ℕ) → List Event
defaults_set count = map (λ k. call_by (1 + k) (call.SetPool 3)) (range_with_len 0 count)

abbrev pub file_named : (guest : ℕ) → SiteFile → Event
file_named guest f =
    if f.private then call_by guest (call.FileNew f.name.items 4)
    else call_by 1 (call.FileNew f.name.items 1)

-- the calls that name the files, in order
abbrev pub files_named : (guest : ℕ) → List SiteFile → List Event
files_named guest files = map (λ f. file_named guest f) files

-- each worker gets the read end of a pipe, as its descriptor 0
abbrev pub pipe_given : (k : ℕ) → List Event
pipe_given k = call_by 1 call.Pipe ∷ call_by 1 (call.GiveFd 0 (2 + k)) ∷ []

abbrev pub pipes_made : (workers : ℕ) → List Event
pipes_made workers = flat_map pipe_given (range_with_len 0 workers)

abbrev pub calls : Site → List Event
calls s =
    ((((domains_made (s.workers + s.guests))
    ++ pools_made s)
    ++ defaults_set (1 + (s.workers + s.guests)))
    ++ files_named (2 + s.workers) s.files.items)
    ++ pipes_made s.workers

-- ---- their results

-- the first refusal among replies
abbrev pub first_refusal : List Reply → Option Refusal
first_refusal [] = None
first_refusal (reply.Refused x ∷ rs) = Some x
first_refusal (r ∷ rs) = first_refusal rs

-- the machine makes all these calls, without refusal
pub record SetsUp (s : Site) (old new : State) : Type 0 where
  pub replies : List Reply
  pub run : Run old (calls s) replies new
  pub passed : first_refusal replies ≡ None

-- a system makes them, without refusal
pub record IsMade (s : Site) (old new : SystemState) : Type 0 where
  pub replies : List Reply
  pub chain : Chain old (calls s) replies new
  pub passed : first_refusal replies ≡ None

-- or this is the first refusal
pub record IsRefused (s : Site) (x : Refusal) (old new : SystemState) : Type 0 where
  pub replies : List Reply
  pub chain : Chain old (calls s) replies new
  pub refuses : first_refusal replies ≡ Some x

-- the same, or memory ran out before the first call
abbrev pub WhyRefused : Site → Refusal → (old new : SystemState) → Type 0
WhyRefused s x old new = ((x ≡ Memory) × (new ≡ old)) ⊎ IsRefused s x old new

-- the reason for which the setup of a site within its limits was refused
abbrev pub WhyRefusedWithin : Site → Refusal → (old new : SystemState) → Type 0
WhyRefusedWithin s x old new = IsTrue (is_in_range s) → WhyRefused s x old new

-- ---- its processes

abbrev pub has_script : Site → Bool
has_script s = list_any (λ f. is_script f.name.items) s.files.items

-- the number of workers that run its scripts: 0 if it has no script
abbrev pub workers_used : Site → ℕ
workers_used s = if has_script s then s.workers else 0

-- without clients, with workers to run its scripts
abbrev pub server_with : (workers : ℕ) → Server
server_with workers = record new_server { workers = workers }

-- the worker of this number, counted from 0, before its first job
abbrev pub IsWorkerAt : (k : ℕ) → ℕ × Actor Worker → Type 0
IsWorkerAt k (d, Serving s) = ⊥
IsWorkerAt k (d, Working w) = (d ≡ worker_domain k) × IsNew w

-- count workers after these processes
pub record HasWorkers (first : List (ℕ × Actor Worker)) (count : ℕ) (ps : List (ℕ × Actor Worker)) : Type 0 where
  pub workers : List (ℕ × Actor Worker)
  pub are : ps ≡ first ++ workers
  pub many : length workers ≡ count
  pub each : (k : ℕ) (p : ℕ × Actor Worker) → slice_get workers k ≡ Some p → IsWorkerAt k p

-- The server in its domain, followed by the workers that run the site's scripts.
abbrev pub AreActors : Site → List (ℕ × Actor Worker) → Type 0
AreActors s ps = HasWorkers ((server, Serving (server_with (workers_used s))) ∷ []) (workers_used s) ps
