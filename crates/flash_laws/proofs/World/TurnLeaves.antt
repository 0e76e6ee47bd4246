-- A worker's turn leaves the site, and all clients for which it runs no script, unchanged.
use Rattle.std.proofs.Common.{inl, inr, ◌≡◌, ◌≢◌, ◌<◌, ◌⊎◌, ℕ, zero, suc, ◌==◌, List, [], ◌∷◌, ◌++◌, ap, ◌∙◌, refl, sym}
use Rattle.std.proofs.Common.{subst, arith, Option, Some, None, true, false, Bool, append-nil, slice_get, slice_set}
use Rattle.std.specs.Prelude.{is_none}
use Rattle.std.specs.List.{list_any}
use Rattle.iol_core.specs.NumberedLists.{in_place}
use Rattle.iol_core.specs.Text.{bytes_of}
use Rattle.iol_core.specs.State.{State, Pool, Connection, descriptor, is_pool, may_read, file, conn_at, is_gone}
use Rattle.iol_core.specs.Run.{StepsTo}
use Rattle.iol_core.specs.declared.descriptors.Descriptor.TheVariants as on
use Rattle.iol_core.specs.declared.events.Call.{Call}
use Rattle.iol_core.specs.declared.events.Event.TheVariants as event
use Rattle.iol_core.specs.declared.events.Reply.{Reply}
use Rattle.iol_laws.specs.Order.{IsOrderly}
use Rattle.iol_proc.specs.Turns.{TransitionRelation, Comes, ProcessSlotTurn}
use Rattle.iol_proc.specs.World.{copying}
use Rattle.iol_proc.specs.declared.process.Turn.{Turn}
use Rattle.iol_proc.specs.declared.process.Turn.TheVariants as turn
use Rattle.iol_proc.specs.declared.process_slot.ProcessSlot.{ProcessSlot}
use Rattle.flash_cgi.specs.Frame.{LeavesAllBut}
use Rattle.flash_laws.specs.Answers.{Outcome}
use Rattle.flash_laws.specs.Client.{Client}
use Rattle.flash_laws.specs.Client.Fits.{Fits, made_of}
use Rattle.flash_laws.specs.Client.Holdings.{has_fd}
use Rattle.flash_laws.specs.Conn.{Conn}
use Rattle.flash_cgi.specs.Expected.{Made}
use Rattle.flash_laws.specs.Workers.WorkerSet.{WorkerSet, IsFixedFor}
use Rattle.flash_laws.specs.Site.Past.{Past}
use Rattle.flash_laws.specs.Site.Places.{has_worker, is_run_by}
use Rattle.flash_laws.specs.Run.Fits.{Progress}
use Rattle.flash_laws.specs.Run.{worker_domain}
use Rattle.flash_laws.specs.Site.ClientConsistency.{FitsAt, AllFit}
use Rattle.flash_laws.specs.SiteContents.{SiteContents, IsAmong}
use Rattle.flash_laws.specs.Site.{server, net_pool, IsFixed, KeepsSite}
use Rattle.flash_laws.specs.Run.WorkerStates.{HasWorkerAt}
use Rattle.flash_laws.specs.declared.script_run.Run.{Run}
use Rattle.flash_laws.specs.declared.script_run.Step.{Step}
use Rattle.flash_laws.specs.declared.script_run.Running.{Running}
use Rattle.flash_laws.specs.declared.script_run.Running.TheVariants.{InProgress}
use Rattle.flash_laws.proofs.Forms.{of}
use Rattle.flash_laws.proofs.Lists.{clash, not-equal, differ}
use Rattle.flash_laws.proofs.World.AllLaws.{AllLaws}
use Rattle.flash_laws.proofs.World.JobQueue.Frame.{LeavesOne, none-given, none-touched}
use Rattle.flash_laws.proofs.World.ClientFrame.{Changes, fits_beside}
use Rattle.flash_laws.proofs.Site.Others.{none-listed}

-- ---- process slots

pub set-same : {A : Type 0} (xs : List A) (i : ℕ) (x y : A) → slice_get xs i ≡ Some x
    → slice_get (slice_set xs i y) i ≡ Some y
set-same [] i x y is = absurd (cc)
set-same (z ∷ xs) zero x y is = refl
set-same (z ∷ xs) (suc i) x y is = set-same xs i x y is

pub set-other : {A : Type 0} (xs : List A) (i j : ℕ) (y : A) → i ≢ j → slice_get (slice_set xs i y) j ≡ slice_get xs j
set-other [] i j y apart = refl
set-other (z ∷ xs) zero zero y apart = absurd (apart refl)
set-other (z ∷ xs) zero (suc j) y apart = refl
set-other (z ∷ xs) (suc i) zero y apart = refl
set-other (z ∷ xs) (suc i) (suc j) y apart = set-other xs i j y (λ same. apart (ap suc same))

-- ---- a turn

-- a turn is a call, or changes nothing
abbrev pub IsCallOf : State → (d : ℕ) → Reply → State → Type 0
IsCallOf m d r n = (n ≡ m) ⊎ ((c : Call) × StepsTo m (event.Call d c) r n)

pub what-came : {W : Type 0} (works : TransitionRelation W) (m n : State) (process_slot next : ProcessSlot W)
    (yields : Bool) (r : Reply)
    → ProcessSlotTurn copying works m process_slot yields r n next → IsCallOf m process_slot.by r n
    × (next.by ≡ process_slot.by)
what-came {W = W} works m n process_slot next yields r (inl starves) =
    (inl starves.machine_stays, ap (λ (s : ProcessSlot W). s.by) starves.process_slot_stays)
what-came works m n process_slot next yields r (inr moves) = (by moves.turn moves.comes, moves.domain_stays)
  where
    by : (t : Turn) → Comes copying works m process_slot.by t yields r n → IsCallOf m process_slot.by r n
    by turn.Yield comes = inl comes.2
    by (turn.Make c) comes = inr (c, comes.1)

-- the turn of the worker in place k
pub record IsTurn (site_contents : SiteContents) (worker_set : WorkerSet) (m n : State) (p : Past)
    (clients : List (Option Client)) (process_slots : List (ProcessSlot worker_set.Worker)) (k : ℕ)
    (process_slot next : ProcessSlot worker_set.Worker) (yields : Bool) (r : Reply) : Type 0 where
  pub order : IsOrderly m
  pub order_after : IsOrderly n
  pub fixed : IsFixedFor site_contents worker_set m
  pub fit : AllFit site_contents worker_set m p clients process_slots
  pub sits : slice_get process_slots k ≡ Some process_slot
  pub did : ProcessSlotTurn copying worker_set.turns m process_slot yields r n next
  pub among : IsAmong site_contents.refuses.of_workers r

-- ---- the pipe that a turn touches

-- it is not the job queue of another worker, nor a pipe that the server reads for a client of another worker
pub record IsItsOwn (worker_set : WorkerSet) (m : State) (clients : List (Option Client)) (k q : ℕ) : Type 0 where
  pub job_queues : (l : ℕ) → l < worker_set.count → l ≢ k → worker_set.job_queue l ≢ q
  pub pipes : (fd : ℕ) (y : Client) (run : Run) (step : Step) (p : ℕ) → in_place clients fd ≡ Some y
      → y.run ≡ Some (InProgress run step)
      → is_run_by y k ≡ false → descriptor m server run.from ≡ Some (on.ReadEnd p) → has_fd y run.from ≡ true
      → ((l : ℕ) → l < worker_set.count → worker_set.job_queue l ≢ p) → p ≢ q

pub record Touches (worker_set : WorkerSet) (m n : State) (clients : List (Option Client)) (k d : ℕ) : Type 0 where
  pub pipe : ℕ
  pub leaves : LeavesAllBut m d pipe n
  pub own : IsItsOwn worker_set m clients k pipe

-- an unchanged state meets `LeavesAllBut`
pub leaves-same : (m : State) (d q : ℕ) → LeavesAllBut m d q m
leaves-same m d q = record {
  conns = λ c. refl;
  pipes = λ p apart. refl;
  files = (refl, refl);
  pools = λ p is. refl;
  lives = λ e is. is;
  defaults = λ e apart is. refl;
  fds = λ e fd apart. refl;
  aggs = λ e a apart. refl;
  job_queue = λ j apart is. is;
}

-- ---- the site is unchanged

may-left : (m n : State) (d q p e by : ℕ) → LeavesAllBut m d q n → may_read m by p ≡ true
    → may_read n e p ≡ may_read m e p
may-left m n d q p e by left some = is (is_pool m p) refl
  where
    is : (b : Bool) → is_pool m p ≡ b → may_read n e p ≡ may_read m e p
    is true there = ap (λ (x : Pool). list_any (λ y. y == e) x.domains) (left.pools p there)
    is false there = absurd (none-listed m by p there some)

pub keeps-site : (finds : List ℕ → Outcome) (m n : State) (d q : ℕ) → IsFixed finds m → LeavesAllBut m d q n
    → KeepsSite m n
keeps-site finds m n d q fixed left = record {
  files = left.files.0;
  slots = left.files.1;
  net = λ e. may-left m n d q net_pool e server left fixed.net_read;
  readers = λ name f e is. let some = fixed.read_by name f is in may-left m n d q (file m f).pool e some.0 left some.1;
}

-- ---- clients for which it runs no script

-- an unchanged connection meets `Changes`
pub conn-left : (k j : Connection) (sent : List ℕ) → j ≡ k → Changes k j sent sent
conn-left k j sent same = inl (record {
  total = ap (λ (z : Connection). sent ++ bytes_of z.outgoing) (sym same);
  gone = ap (λ (z : Connection). is_gone z.peer) same;
  ended = λ is. (ap (λ (z : Connection). z.incoming) same, ap (λ (z : Connection). is_none z.peer) same ∙ is);
})

-- a client whose script worker k does not run does not depend on the process slot in place k
job_queue-in_slots_again : (worker_set : WorkerSet) (n : State) (k : ℕ)
    (process_slots : List (ProcessSlot worker_set.Worker)) (next : ProcessSlot worker_set.Worker) (made : Made)
    (o : Progress) (y : Running)
    → has_worker y k ≡ false → HasWorkerAt worker_set n process_slots made o y
    → HasWorkerAt worker_set n (slice_set process_slots k next) made o y
job_queue-in_slots_again worker_set n k process_slots next made o (InProgress run s) none h = record {
  process_slot = h.process_slot;
  sits = set-other process_slots k run.worker next (λ same. differ run.worker k none (sym same)) ∙ h.sits;
  at_step = h.at_step;
}
job_queue-in_slots_again worker_set n k process_slots next made o y none h = tt

in_slots_again : (site_contents : SiteContents) (worker_set : WorkerSet) (n : State) (came sent : List ℕ) (fd c k : ℕ)
    (x : Conn) (run : Option Running) (script : List ℕ)
    (process_slots : List (ProcessSlot worker_set.Worker)) (next : ProcessSlot worker_set.Worker)
    → is_run_by (of x run script) k ≡ false
    → Fits site_contents worker_set n came sent fd c (of x run script) process_slots
    → Fits site_contents worker_set n came sent fd c (of x run script) (slice_set process_slots k next)
in_slots_again site_contents worker_set n came sent fd c k x None script process_slots next none f = f
in_slots_again site_contents worker_set n came sent fd c k x (Some y) script process_slots next none f = record {
  open_on = f.open_on;
  took = f.took;
  came_is = f.came_is;
  wanted = f.wanted;
  script = f.script;
  shown = f.shown;
  may_show = f.may_show;
  fresh = f.fresh;
  buffered = f.buffered;
  so_far = f.so_far;
  has = f.has;
  ongoing = f.ongoing;
  consistency = f.consistency;
  job_queue = job_queue-in_slots_again worker_set n k process_slots next (made_of f.wanted f.script.lines f.shown)
      f.so_far y none f.job_queue;
}

module _ (site_contents : SiteContents) (worker_set : WorkerSet) (laws : AllLaws worker_set) (m n : State) (p : Past)
    (clients : List (Option Client)) (process_slots : List (ProcessSlot worker_set.Worker)) (k : ℕ)
    (process_slot next : ProcessSlot worker_set.Worker) (yields : Bool) (r : Reply)
    (turn : IsTurn site_contents worker_set m n p clients process_slots k process_slot next yields r) where
  -- it is one of the workers, in a domain of its own
  pub sits-in : (k < worker_set.count) × (process_slot.by ≡ worker_domain k)
  sits-in = turn.fit.job_queues.by k process_slot turn.sits

  pub not-server : process_slot.by ≢ server
  not-server same = (let in_domain = sits-in.1 in absurd (omega (arith, same, in_domain)))

  pub other-worker : (l d : ℕ) → k ≢ l → d ≡ worker_domain l → (process_slot.by == d) ≡ false
  other-worker l d apart is =
      not-equal process_slot.by d (λ same. let in_domain = sits-in.1 in apart (omega (arith, same, in_domain, is)))

  pub no-call : (c : Call) → (process_slot.by == server) ≡ false
  no-call c = not-equal process_slot.by server not-server

  module _ (q : ℕ) (left : LeavesAllBut m process_slot.by q n) (own : IsItsOwn worker_set m clients k q) where
    leaves-one : (fd : ℕ) (y : Client) (c : Call) → in_place clients fd ≡ Some y → is_run_by y k ≡ false
        → LeavesOne worker_set m n (event.Call process_slot.by c) fd y
    leaves-one fd y c at none = record {
      own = none-touched m (event.Call process_slot.by c) server fd (no-call c);
      aggs = λ a used. none-given (event.Call process_slot.by c) server a (no-call c);
      fds = λ g used. none-touched m (event.Call process_slot.by c) server g (no-call c);
      site = keeps-site site_contents.finds m n process_slot.by q turn.fixed.site left;
      others = λ l lt runs. other-worker l (worker_domain l) (apart l runs) refl;
      job_queues =
          λ l lt runs. left.pipes (worker_set.job_queue l) (own.job_queues l lt (λ same. apart l runs (sym same)));
      pipe =
          λ run s pipe is opens has away going. left.pipes pipe (own.pipes fd y run s pipe at is none opens has away);
    }
      where
        apart : (l : ℕ) → is_run_by y l ≡ true → k ≢ l
        apart l runs same = clash (is_run_by y k) (subst (λ z. is_run_by y z ≡ true) (sym same) runs) none

    pub beside-fits : (fd : ℕ) (y : Client) → in_place clients fd ≡ Some y → is_run_by y k ≡ false
        → FitsAt site_contents worker_set n p fd y (slice_set process_slots k next)
    beside-fits fd y at none =
        record {
          conn = f.conn;
          fits =
              in_slots_again site_contents worker_set n (p.came f.conn) (p.sent f.conn) fd f.conn k y.conn y.run
              y.script
              process_slots next none (by came.0);
        }
      where
        f : FitsAt site_contents worker_set m p fd y process_slots
        f = turn.fit.each fd y at

        came : IsCallOf m process_slot.by r n × (next.by ≡ process_slot.by)
        came = what-came worker_set.turns m n process_slot next yields r turn.did

        by : IsCallOf m process_slot.by r n
            → Fits site_contents worker_set n (p.came f.conn) (p.sent f.conn) fd f.conn y process_slots
        by (inl same) =
            subst (λ (s : State). Fits site_contents worker_set s (p.came f.conn) (p.sent f.conn) fd f.conn y
            process_slots) (sym same) f.fits
        by (inr call) =
            subst (λ (l : List ℕ). Fits site_contents worker_set n l (p.sent f.conn) fd f.conn y process_slots)
            (append-nil (p.came f.conn))
            (fits_beside site_contents worker_set laws m n (event.Call process_slot.by call.0) r (p.came f.conn)
            (p.sent f.conn) [] (p.sent f.conn) fd f.conn y process_slots turn.order turn.fixed turn.fit.job_queues
            call.1
            (leaves-one fd y call.0 at none)
            (ap (λ (z : Connection). bytes_of z.incoming) (left.conns f.conn)
            ∙ sym (append-nil (bytes_of (conn_at m f.conn).incoming)))
            (conn-left (conn_at m f.conn) (conn_at n f.conn) (p.sent f.conn) (left.conns f.conn)) f.fits)
