-- The parts of a worker, and of the script that it runs, that others leave unchanged.
use Rattle.std.proofs.Common.{◌≡◌, ◌≢◌, ◌<◌, ℕ, ◌==◌, List, [], ap, ◌∙◌, refl, sym, subst, Option, Some, None, true}
use Rattle.std.proofs.Common.{false, if◌then◌else◌}
use Rattle.std.specs.Prelude.{◌&&◌, ◌||◌, option_map, unwrap_or}
use Rattle.iol_core.specs.Positions.{ArePlaced}
use Rattle.iol_core.specs.Text.{Text, bytes_of}
use Rattle.iol_core.specs.State.{State, File as FileEntry, aggregate, descriptor, text, file, content, may_read}
use Rattle.iol_core.specs.State.{pipe_at}
use Rattle.iol_core.specs.Calls.Files.{file_called}
use Rattle.iol_core.specs.Calls.Writes.{is_file}
use Rattle.iol_core.specs.Run.{StepsTo}
use Rattle.iol_core.specs.Values.{gives_up}
use Rattle.iol_core.specs.declared.descriptors.Descriptor.TheVariants as on
use Rattle.iol_core.specs.declared.refusals.Refusal.TheVariants.{Denied}
use Rattle.iol_core.specs.declared.events.Call.TheVariants as call
use Rattle.iol_core.specs.declared.events.Event.{Event}
use Rattle.iol_core.specs.declared.events.Event.TheVariants as event
use Rattle.iol_core.specs.declared.events.Reply.{Reply}
use Rattle.iol_laws.specs.Caller.{readable_at}
use Rattle.iol_laws.specs.Frame.{EachStepLeavesTheRest, Leaves as Leaving, touches_fd}
use Rattle.iol_laws.specs.Order.{IsOrderly}
use Rattle.iol_laws.specs.Sources.{lie_in}
use Rattle.iol_proc.specs.declared.process_slot.ProcessSlot.{ProcessSlot}
use Rattle.flash_http.specs.Request.{Wanted}
use Rattle.flash_cgi.specs.Beside.{is_call_of, LeavesFiles}
use Rattle.flash_cgi.specs.Outcomes.{outcome_of}
use Rattle.flash_cgi.specs.Output.{Found, Failed}
use Rattle.flash_laws.specs.Client.{Client, uses_agg, uses_fd}
use Rattle.flash_laws.specs.Client.Holdings.{has_fd}
use Rattle.flash_cgi.specs.Expected.{Made}
use Rattle.flash_laws.specs.Workers.WorkerSet.{WorkerSet}
use Rattle.flash_laws.specs.Site.Places.{is_run_by}
use Rattle.flash_laws.specs.Run.Fits.{Progress, HasStep}
use Rattle.flash_laws.specs.Run.OfferedBytes.{is_stopping}
use Rattle.flash_laws.specs.Run.{worker_domain, is_reading, step_agg}
use Rattle.flash_laws.specs.Site.{server, KeepsSite}
use Rattle.flash_laws.specs.Run.WorkerStates.{HasPipeOf, IsReadyFor, IsGiven, IsDelivering, HasDelivered, IsAtStep}
use Rattle.flash_laws.specs.declared.script_run.Run.{Run}
use Rattle.flash_laws.specs.declared.script_run.Step.{Step}
use Rattle.flash_laws.specs.declared.script_run.Step.TheVariants.{GivingPipe, MakingJob, WritingJob, DroppingEnd}
use Rattle.flash_laws.specs.declared.script_run.Step.TheVariants.{DiscardingHeld, ClosingOutput, DroppingFrame}
use Rattle.flash_laws.specs.declared.script_run.Step.TheVariants.{MakingEnd, FillingEnd, DroppingLast}
use Rattle.flash_laws.specs.declared.script_run.Step.TheVariants.{DroppingLastFrame, ClosingPipe, DiscardingJob}
use Rattle.flash_laws.specs.declared.script_run.Step.TheVariants.{Failing}
use Rattle.flash_laws.specs.declared.script_run.Running.TheVariants.{InProgress}
use Rattle.flash_laws.proofs.Conn.ReadableBytes.{file-same, content-same}
use Rattle.flash_laws.proofs.Lists.{self}
use Rattle.flash_laws.proofs.World.AllLaws.{AllLaws}
use Rattle.flash_laws.proofs.Site.Others.{called-same}

-- ---- the files

outcome-same : (m n : State) (d : ℕ) (name : List ℕ) → KeepsSite m n → (o : Option ℕ) → file_called m name ≡ o
    → outcome_of n d o ≡ outcome_of m d o
outcome-same m n d name site None is = refl
outcome-same m n d name site (Some f) is =
    let same = file-same m n f site.files in
    let may : may_read n d (file n f).pool ≡ may_read m d (file m f).pool =
    ap (λ (x : FileEntry). may_read n d x.pool) same ∙ site.readers name f d is in
    ap (λ b. if b then Found (content n f) else Failed (Denied (file n f).pool)) may
    ∙ (ap (λ (l : List ℕ). if may_read m d (file m f).pool then Found l else Failed (Denied (file n f).pool))
    (content-same m n f site.slots)
    ∙ ap (λ (x : FileEntry). if may_read m d (file m f).pool then Found (content m f) else Failed (Denied x.pool)) same)

-- a step that leaves the site unchanged leaves the outcomes of files for each domain unchanged
pub files-left : (m n : State) (d : ℕ) → KeepsSite m n → LeavesFiles m d n
files-left m n d site = record {
  outcomes = λ name. ap (λ (o : Option ℕ). outcome_of n d o) (called-same m n name site.files)
      ∙ outcome-same m n d name site (file_called m name) refl;
  contents = λ f. content-same m n f site.slots;
}

-- ---- descriptors and aggregates

-- an event that is not a call of a domain touches none of its descriptors
pub none-touched : (m : State) (e : Event) (d fd : ℕ) → is_call_of e d ≡ false → touches_fd m e d fd ≡ false
none-touched m (event.Call by call.Exit) d fd is = is
none-touched m (event.Call by (call.Close f)) d fd is = ap (λ b. b && (f == fd)) is
none-touched m (event.Call by (call.GiveFd f to)) d fd is = ap (λ b. b && (f == fd)) is
none-touched m (event.Call by (call.Seek f at)) d fd is = ap (λ b. b && (f == fd)) is
none-touched m (event.Call by (call.IolRead f n)) d fd is = ap (λ b. b && (f == fd) && is_file (descriptor m by f)) is
none-touched m (event.Call by (call.IolWrite f a)) d fd is = ap (λ b. b && (f == fd) && is_file (descriptor m by f)) is
none-touched m (event.Call by (call.Read f n)) d fd is = ap (λ b. b && (f == fd) && is_file (descriptor m by f)) is
none-touched m (event.Call by (call.Write f bytes)) d fd is = ap (λ b. b && (f == fd) && is_file (descriptor m by f)) is
none-touched m e d fd is = refl

-- and gives up none of its aggregates
pub none-given : (e : Event) (d a : ℕ) → is_call_of e d ≡ false → gives_up e d a ≡ false
none-given (event.Call by call.Exit) d a is = is
none-given (event.Call by (call.AggSplit b at)) d a is = ap (λ t. t && (b == a)) is
none-given (event.Call by (call.AggJoin b c)) d a is = ap (λ t. t && ((b == a) || (c == a))) is
none-given (event.Call by (call.AggDrop b)) d a is = ap (λ t. t && (b == a)) is
none-given (event.Call by (call.AggGive b to)) d a is = ap (λ t. t && (b == a)) is
none-given e d a is = refl

-- an aggregate of the server that is not given up keeps its bytes and their places
pub text-stays : (steps : EachStepLeavesTheRest) (m n : State) (e : Event) (r : Reply) → StepsTo m e r n
    → (a : ℕ) (bytes : List ℕ)
    → readable_at m server a ≡ Some bytes → gives_up e server a ≡ false → text n server a ≡ text m server a
text-stays steps m n e r step a bytes is un = by (aggregate m server a) refl
  where
    by : (x : Option Text) → aggregate m server a ≡ x → text n server a ≡ text m server a
    by None none = (let e = sym (ap (λ (t : Option Text). option_map bytes_of t) none) ∙ is in absurd (cc))
    by (Some t) some = ap (λ (y : Option Text). unwrap_or y []) ((steps.values m n e r step).each server a t some un
        ∙ sym some)

-- ---- the objects of one client

-- An event leaves the objects of one client, and the worker that runs its script, unchanged.
pub record LeavesOne (worker_set : WorkerSet) (m n : State) (e : Event) (fd : ℕ) (x : Client) : Type 0 where
  pub own : touches_fd m e server fd ≡ false
  pub aggs : (a : ℕ) → uses_agg x a ≡ true → gives_up e server a ≡ false
  pub fds : (g : ℕ) → uses_fd x g ≡ true → touches_fd m e server g ≡ false
  pub site : KeepsSite m n
  pub others : (k : ℕ) → k < worker_set.count → is_run_by x k ≡ true → is_call_of e (worker_domain k) ≡ false
  pub job_queues : (k : ℕ) → k < worker_set.count → is_run_by x k ≡ true
      → pipe_at n (worker_set.job_queue k) ≡ pipe_at m (worker_set.job_queue k)
  pub pipe : (run : Run) (step : Step) (p : ℕ) → x.run ≡ Some (InProgress run step)
      → descriptor m server run.from ≡ Some (on.ReadEnd p)
      → has_fd x run.from ≡ true → ((k : ℕ) → k < worker_set.count → worker_set.job_queue k ≢ p)
      → is_stopping (InProgress run step) ≡ false
      → pipe_at n p ≡ pipe_at m p

-- ---- the objects of its worker

module _ (worker_set : WorkerSet) (laws : AllLaws worker_set) (m n : State) (e : Event) (r : Reply)
    (order : IsOrderly m) (placed : ArePlaced m) (step : StepsTo m e r n) (site : KeepsSite m n) where
  leaves : Leaving m e n
  leaves = laws.the.steps.leaves m n e r step

  -- the pipe of a run is unchanged
  abbrev SamePipe : Run → Type 0
  SamePipe run = (p : ℕ) → descriptor m server run.from ≡ Some (on.ReadEnd p)
      → ((k : ℕ) → k < worker_set.count → worker_set.job_queue k ≢ p) → pipe_at n p ≡ pipe_at m p

  module _ (run : Run) (process_slot : ProcessSlot worker_set.Worker) (other : is_call_of e process_slot.by ≡ false)
      (job_queue : pipe_at n (worker_set.job_queue run.worker) ≡ pipe_at m (worker_set.job_queue run.worker)) where
    free-on : worker_set.Free m (worker_set.job_queue run.worker) process_slot
        → worker_set.Free n (worker_set.job_queue run.worker) process_slot
    free-on free = laws.workers.free_others m n (worker_set.job_queue run.worker) process_slot e r placed step other
        job_queue free

    abbrev pipe-on : touches_fd m e server run.from ≡ false → HasPipeOf worker_set m run → HasPipeOf worker_set n run
    pipe-on undisturbed h =
        record {
          pipe = h.pipe;
          reads = leaves.fds server run.from (on.ReadEnd h.pipe) h.reads undisturbed;
          apart = h.apart;
        }

    abbrev ready-on : touches_fd m e server run.from ≡ false → SamePipe run → IsReadyFor worker_set m process_slot run
        → IsReadyFor worker_set n process_slot run
    ready-on undisturbed same h =
        record {
          free = free-on h.free;
          has = pipe-on undisturbed h.has;
          new = same h.has.pipe h.has.reads h.has.apart
              ∙ h.new;
        }

    given-on : (fd : ℕ) → touches_fd m e server run.from ≡ false → SamePipe run
        → IsGiven worker_set m process_slot run fd → IsGiven worker_set n process_slot run fd
    given-on fd undisturbed same h = record {
      ready = ready-on undisturbed same h.ready;
      writes =
          leaves.fds process_slot.by fd (on.WriteEnd h.ready.has.pipe) h.writes
          (none-touched m e process_slot.by fd other);
    }

    putting-on : (made : Made) (o : Progress) → touches_fd m e server run.from ≡ false → SamePipe run
        → IsDelivering worker_set m process_slot run made o
        → IsDelivering worker_set n process_slot run made o
    putting-on made o undisturbed same h = record {
      has = pipe-on undisturbed h.has;
      more = h.more;
      delivers_text = laws.texts.left m n (worker_set.job_queue run.worker) h.has.pipe process_slot e r made h.more
          order
          placed step other (files-left m n process_slot.by site) job_queue (same h.has.pipe h.has.reads h.has.apart)
          h.delivers_text;
      to_come = h.to_come;
    }

    put-on : (made : Made) (o : Progress) → HasDelivered worker_set m process_slot run made o
        → HasDelivered worker_set n process_slot run made o
    put-on made o h = record { free = free-on h.free; whole = h.whole }

    pub at-step-on : (job : ℕ → List ℕ) (w : Wanted) (made : Made) (o : Progress) (s : Step)
        → ((a : ℕ) → step_agg s a ≡ true → gives_up e server a ≡ false)
        → (is_reading s ≡ true → touches_fd m e server run.from ≡ false)
        → (is_reading s ≡ true → is_stopping (InProgress run s) ≡ false → SamePipe run)
        → HasStep job m w o run s → IsAtStep worker_set m process_slot run made o s
        → IsAtStep worker_set n process_slot run made o s
    at-step-on job w made o (GivingPipe write) un undisturbed same has h =
        ready-on (undisturbed refl) (same refl refl) h
    at-step-on job w made o (MakingJob f) un undisturbed same has h = given-on f (undisturbed refl) (same refl refl) h
    at-step-on job w made o (WritingJob j f) un undisturbed same has h = (
      given-on f (undisturbed refl) (same refl refl) h.0,
      subst (λ (t : Text). lie_in worker_set.jobs t ≡ true)
          (sym (text-stays laws.the.steps m n e r step j (job f) has.1 (un j (self j)))) h.1,
    )
    at-step-on job w made o (DroppingEnd a held frame) un undisturbed same has h = put-on made o h
    at-step-on job w made o (DiscardingHeld held frame) un undisturbed same has h = put-on made o h
    at-step-on job w made o (ClosingOutput held frame) un undisturbed same has h = put-on made o h
    at-step-on job w made o (DroppingFrame frame held) un undisturbed same has h = put-on made o h
    at-step-on job w made o (MakingEnd held) un undisturbed same has h = put-on made o h
    at-step-on job w made o (FillingEnd held size frame) un undisturbed same has h = put-on made o h
    at-step-on job w made o (DroppingLast held chunk len frame) un undisturbed same has h = put-on made o h
    at-step-on job w made o (DroppingLastFrame frame chunk len) un undisturbed same has h = put-on made o h
    at-step-on job w made o (ClosingPipe write) un undisturbed same has h = h
    at-step-on job w made o (DiscardingJob j) un undisturbed same has h = h
    at-step-on job w made o Failing un undisturbed same has h = h
    at-step-on job w made o s un undisturbed same has h = putting-on made o (undisturbed refl) (same refl refl) h
