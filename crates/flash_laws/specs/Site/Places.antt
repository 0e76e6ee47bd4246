-- The clients of a server, by the index of their descriptors, and the workers that run scripts for them.
use Rattle.std.specs.Prelude.{◌≡◌, ◌<◌, ℕ, ◌==◌, ◌||◌, not, Bool, false, List, Option, Some, None, nat_lt, IsTrue}
use Rattle.std.specs.List.{list_any, position_or_len, range_with_len}
use Rattle.iol_core.specs.NumberedLists.{in_place}
use Rattle.iol_core.specs.declared.events.Reply.{Reply}
use Rattle.iol_core.specs.declared.events.Reply.TheVariants as reply
use Rattle.flash_laws.specs.Client.{Client, new_client, after_reply, left_over, awaits}
use Rattle.flash_laws.specs.Site.OtherConns.{with_at}
use Rattle.flash_laws.specs.declared.phase.PendingCall.{PendingCall}
use Rattle.flash_laws.specs.declared.phase.PendingCall.TheVariants.{Nothing, Accepting, At}
use Rattle.flash_laws.specs.declared.script_run.Running.{Running}
use Rattle.flash_laws.specs.declared.script_run.Running.TheVariants.{InProgress}

-- no script runs for any of them
abbrev pub NoneRuns : List (Option Client) → Type 0
NoneRuns clients = (fd : ℕ) (x : Client) → in_place clients fd ≡ Some x → x.run ≡ None

-- ---- workers, counted from 0

abbrev pub has_worker : Running → (worker : ℕ) → Bool
has_worker (InProgress run step) worker = run.worker == worker
has_worker y worker = false

abbrev pub is_run_by : Client → (worker : ℕ) → Bool
is_run_by x worker = by x.run
  where
    by : Option Running → Bool
    by None = false
    by (Some y) = has_worker y worker

-- whether the worker runs the script of the client at an index
abbrev pub runs_at : (worker : ℕ) → Option Client → Bool
runs_at worker None = false
runs_at worker (Some x) = is_run_by x worker

-- whether the worker runs no script
abbrev pub is_free : List (Option Client) → (worker : ℕ) → Bool
is_free clients worker = not (list_any (λ o. runs_at worker o) clients)

-- the first free worker, or the number of workers if no worker is free
abbrev pub first_free : (workers : ℕ) → List (Option Client) → ℕ
first_free workers clients = position_or_len (λ k. is_free clients k) (range_with_len 0 workers)

abbrev pub has_free : (workers : ℕ) → List (Option Client) → Bool
has_free workers clients = nat_lt (first_free workers clients) workers

-- a client that waits for a worker takes a turn only if one is free
abbrev pub may_go : (free : Bool) → Client → Bool
may_go free x = free || not (awaits x)

-- no worker runs the scripts of two clients, and each that runs one is below the number of workers
pub record EachHasItsOwn (workers : ℕ) (clients : List (Option Client)) : Type 0 where
  pub apart : (fd gd k : ℕ) (x y : Client) → in_place clients fd ≡ Some x → in_place clients gd ≡ Some y
      → IsTrue (is_run_by x k) → IsTrue (is_run_by y k) → fd ≡ gd
  pub among : (fd k : ℕ) (x : Client) → in_place clients fd ≡ Some x → IsTrue (is_run_by x k) → k < workers

-- ---- processing of replies

-- whether scripts are run
abbrev pub runs_scripts : (workers : ℕ) → Bool
runs_scripts workers = nat_lt 0 workers

abbrev pub after_reply_at : (workers : ℕ) → List (Option Client) → (fd : ℕ) → Option Client → Reply
    → (received : List ℕ)
    → List (Option Client)
after_reply_at workers clients fd None r received = clients
after_reply_at workers clients fd (Some x) r received =
    with_at clients fd (left_over (after_reply (runs_scripts workers) (first_free workers clients) x r received))

abbrev pub accepted : List (Option Client) → Reply → List (Option Client)
accepted clients (reply.Fd fd) = with_at clients fd (Some new_client)
accepted clients r = clients

-- the clients after the reply to the pending call is processed
abbrev pub filed : (workers : ℕ) → List (Option Client) → PendingCall → Reply → (received : List ℕ)
    → List (Option Client)
filed workers clients Nothing r received = clients
filed workers clients Accepting r received = accepted clients r
filed workers clients (At fd) r received = after_reply_at workers clients fd (in_place clients fd) r received
