-- The pipe ends of a client with a run: the read end of its pipe, and the write end until its worker has it. They are
-- not ends of a job pipe.
use Rattle.std.proofs.Common.{inl, inr, ◌≡◌, ◌<◌, ◌⊎◌, ℕ, ◌==◌, List, ap, ◌∙◌, refl, sym, subst, Option, Some, None}
use Rattle.std.proofs.Common.{true, false, Bool}
use Rattle.std.specs.Prelude.{◌||◌, ◌&&◌}
use Rattle.iol_core.specs.State.{State, descriptor}
use Rattle.iol_core.specs.declared.descriptors.Descriptor.TheVariants as on
use Rattle.iol_core.specs.declared.events.Call.{Call}
use Rattle.iol_core.specs.declared.events.Event.TheVariants as event
use Rattle.iol_laws.specs.Frame.{touches_pipe}
use Rattle.iol_proc.specs.declared.process_slot.ProcessSlot.{ProcessSlot}
use Rattle.flash_http.specs.Request.{Wanted}
use Rattle.flash_laws.specs.Client.{uses_fd, job_of, next_call}
use Rattle.flash_laws.specs.Client.Fits.{expected_in, made_of, FitsRun, Fits}
use Rattle.flash_laws.specs.Client.Holdings.{has_fd}
use Rattle.flash_laws.specs.Conn as conn
use Rattle.flash_laws.specs.Conn.{Conn}
use Rattle.flash_laws.specs.Workers.WorkerSet.{WorkerSet}
use Rattle.flash_laws.specs.Run.Fits.{Progress, HasStep, HasLeft}
use Rattle.flash_laws.specs.Run.Holdings.{has_end}
use Rattle.flash_laws.specs.Run.{job_pipe, is_reading, step_fd, ends_of, step_call}
use Rattle.flash_laws.specs.Run as running
use Rattle.flash_laws.specs.SiteContents.{SiteContents}
use Rattle.flash_laws.specs.Site.{server}
use Rattle.flash_laws.specs.Run.WorkerStates.{AtJobQueue, HasWorkerAt}
use Rattle.flash_laws.specs.declared.phase.Phase.{Phase}
use Rattle.flash_laws.specs.declared.phase.Phase.TheVariants as phase
use Rattle.flash_laws.specs.declared.script_run.Run.{Run}
use Rattle.flash_laws.specs.declared.script_run.Step.{Step}
use Rattle.flash_laws.specs.declared.script_run.Step.TheVariants.{GivingPipe, SendingPart, ReadingOutput}
use Rattle.flash_laws.specs.declared.script_run.Step.TheVariants.{DroppingOutput, JoiningOutput, MakingFrame}
use Rattle.flash_laws.specs.declared.script_run.Step.TheVariants.{FillingFrame, DroppingHeld, DroppingEnd}
use Rattle.flash_laws.specs.declared.script_run.Step.TheVariants.{DiscardingHeld, DroppingFrame, MakingEnd}
use Rattle.flash_laws.specs.declared.script_run.Step.TheVariants.{FillingEnd, DroppingLast, DroppingLastFrame}
use Rattle.flash_laws.specs.declared.script_run.Step.TheVariants.{ClosingPipe}
use Rattle.flash_laws.specs.declared.script_run.Running.{Running}
use Rattle.flash_laws.specs.declared.script_run.Running.TheVariants.{InProgress, Finishing}
use Rattle.flash_laws.proofs.Forms.{of}
use Rattle.flash_laws.proofs.Conn.Responses.{some-inj}
use Rattle.flash_laws.proofs.Lists.{self}
use Rattle.flash_laws.proofs.Conn.Uses.{same-number, has-fd, one-of}
use Rattle.flash_laws.proofs.World.OwnRun.{call-run}

-- a run that reads has the read end of a pipe
pub reads-from : (job : ℕ → List ℕ) (m : State) (w : Wanted) (o : Progress) (run : Run) (s : Step)
    → HasStep job m w o run s → is_reading s ≡ true
    → (q : ℕ) × (descriptor m server run.from ≡ Some (on.ReadEnd q))
reads-from job m w o run (GivingPipe write) has is = (has.0.pipe, has.0.read_end)
reads-from job m w o run (ClosingPipe write) has is = (has.0.pipe, has.0.read_end)
reads-from job m w o run (SendingPart d frame) has is = has.reads
reads-from job m w o run (ReadingOutput held frame) has is = has.reads
reads-from job m w o run (DroppingOutput b frame) has is = has.1.reads
reads-from job m w o run (JoiningOutput held size piece len frame) has is = has.reads
reads-from job m w o run (MakingFrame held) has is = has.reads
reads-from job m w o run (FillingFrame held frame) has is = has.0.reads
reads-from job m w o run (DroppingHeld held chunk len frame) has is = has.1.reads
reads-from job m w o run (DroppingEnd b held frame) has is = has.1
reads-from job m w o run (DiscardingHeld held frame) has is = has.1
reads-from job m w o run (DroppingFrame f held) has is = absurd (cc (is))
reads-from job m w o run (MakingEnd held) has is = absurd (cc (is))
reads-from job m w o run (FillingEnd held size frame) has is = absurd (cc (is))
reads-from job m w o run (DroppingLast held chunk len frame) has is = absurd (cc (is))
reads-from job m w o run (DroppingLastFrame frame chunk len) has is = absurd (cc (is))
reads-from job m w o run s has is = has.0

both-of : (a b : Bool) → (a && b) ≡ true → (a ≡ true) × (b ≡ true)
both-of true true u = (refl, refl)
both-of true false u = absurd (cc (u))
both-of false b u = absurd (cc (u))

-- an end that a run has is the read end of its pipe, or the write end that it is still to give, or to close
pub which-end : (job : ℕ → List ℕ) (m : State) (w : Wanted) (o : Progress) (run : Run) (s : Step) (g : ℕ)
    → HasStep job m w o run s → ends_of run s g ≡ true
    → ((is_reading s ≡ true) × (run.from ≡ g)) ⊎ (step_fd s g ≡ true)
which-end job m w o run s g has u = elim (one-of (is_reading s && (run.from == g)) (step_fd s g) u) [
  | inl from ↦ (let b = both-of (is_reading s) (run.from == g) from in inl (b.0, same-number run.from g b.1))
  | inr write ↦ inr write
]

-- if the call of a step touches a pipe, the run reads
pub touches-reading : (job : ℕ → List ℕ) (m : State) (fd : ℕ) (w : Wanted) (run : Run) (s : Step) (p : ℕ)
    → touches_pipe m (event.Call server (step_call job fd w run s)) p ≡ true → is_reading s ≡ true
touches-reading job m fd w run (DroppingFrame f held) p u = absurd (cc (u))
touches-reading job m fd w run (MakingEnd held) p u = absurd (cc (u))
touches-reading job m fd w run (FillingEnd held size frame) p u = absurd (cc (u))
touches-reading job m fd w run (DroppingLast held chunk len frame) p u = absurd (cc (u))
touches-reading job m fd w run (DroppingLastFrame frame chunk len) p u = absurd (cc (u))
touches-reading job m fd w run s p u = refl

-- the read end that a reading run has is among its ends
pub has-from : (run : Run) (s : Step) → is_reading s ≡ true → ends_of run s run.from ≡ true
has-from run s is = by (is_reading s) is
  where
    same : (a : ℕ) → (a == a) ≡ true
    same a = self a

    by : (b : Bool) → b ≡ true → ((b && (run.from == run.from)) || step_fd s run.from) ≡ true
    by true is = ap (λ b. b || step_fd s run.from) (same run.from)
    by false is = absurd (cc (is))

module _ (site_contents : SiteContents) (worker_set : WorkerSet) (m : State) (came sent : List ℕ) (fd c : ℕ)
    (process_slots : List (ProcessSlot worker_set.Worker)) where
  -- likewise for the call of a client
  pub touches-from : (conn : Conn) (run : Option Running) (script : List ℕ)
      → Fits site_contents worker_set m came sent fd c (of conn run script) process_slots
      → (v : Run) (s : Step) (q : ℕ) → run ≡ Some (InProgress v s)
      → touches_pipe m (event.Call server (next_call site_contents.scripts fd (of conn run script))) q ≡ true
      → is_reading s ≡ true
  touches-from conn None script f v s q is u = absurd (cc (is))
  touches-from conn (Some y) script f v s q is u =
      touches-reading (job_of f.wanted f.script.text) m fd f.wanted v s q
      (subst (λ (k : Call). touches_pipe m (event.Call server k) q ≡ true)
      (call-run site_contents.scripts fd conn (Some y) script f.script.text y f.wanted refl f.script.asks f.buffered
      ∙ ap (λ (z : Running). running.next_call (job_of f.wanted f.script.text) fd f.wanted z)
      (some-inj y (InProgress v s) is)) u)

  -- the invariant excludes a client that closes the write end itself
  pub no-returns : (conn : Conn) (run : Option Running) (script : List ℕ)
      → Fits site_contents worker_set m came sent fd c (of conn run script) process_slots
      → (v : Run) (write : ℕ) → run ≡ Some (InProgress v (ClosingPipe write)) → ⊥
  no-returns conn None script f v write is = absurd (cc (is))
  no-returns conn (Some y) script f v write is =
      let at : AtJobQueue worker_set m process_slots v (made_of f.wanted f.script.lines f.shown) f.so_far
      (ClosingPipe write) =
      subst (λ (z : Running). HasWorkerAt worker_set m process_slots (made_of f.wanted f.script.lines f.shown) f.so_far
      z) (some-inj y (InProgress v (ClosingPipe write)) is) f.job_queue in
      at.at_step

  -- a write end that a client has is not that of a job queue
  write-apart : (conn : Conn) (y : Running) (script : List ℕ) (g k : ℕ)
      → FitsRun site_contents worker_set m came sent fd c (of conn (Some y) script) y process_slots → has_end y g ≡ true
      → k < worker_set.count
      → descriptor m server g ≡ Some (on.WriteEnd (worker_set.job_queue k)) → ⊥
  write-apart conn (InProgress run s) script g k f u lt is =
      elim (which-end (job_of f.wanted f.script.text) m f.wanted f.so_far run s g f.has.1 u) [
        | inl from ↦ (let there = reads-from (job_of f.wanted f.script.text) m f.wanted f.so_far run s f.has.1 from.0 in
            let here = ap (λ h. descriptor m server h) from.1 in let e = there.1 in absurd (cc (here, e, is)))
        | inr write ↦ by s f.has.1 f.job_queue write
      ]
    where
      read-inj : (a b : ℕ) → Some (on.ReadEnd a) ≡ Some (on.ReadEnd b) → a ≡ b
      read-inj a b e = cc

      write-inj : (a b : ℕ) → Some (on.WriteEnd a) ≡ Some (on.WriteEnd b) → a ≡ b
      write-inj a b e = cc

      by : (s : Step) → HasStep (job_of f.wanted f.script.text) m f.wanted f.so_far run s
          → AtJobQueue worker_set m process_slots run (made_of f.wanted f.script.lines f.shown) f.so_far s
          → step_fd s g ≡ true → ⊥
      by (GivingPipe write) has job_queue u =
          let here = ap (λ h. descriptor m server h) (same-number write g u) in
          let same : has.0.pipe ≡ worker_set.job_queue k =
          write-inj has.0.pipe (worker_set.job_queue k) (sym has.0.write_end ∙ (here ∙ is)) in
          job_queue.at_step.has.apart k lt (sym same
          ∙ read-inj has.0.pipe job_queue.at_step.has.pipe (sym has.0.read_end ∙ job_queue.at_step.has.reads))
      by (ClosingPipe write) has job_queue u = job_queue.at_step
      by s has job_queue u = cc (u)
  write-apart conn y script g k f u lt is = cc (u)

  pub no-job_queue : (conn : Conn) (run : Option Running) (script : List ℕ) (g k : ℕ)
      → Fits site_contents worker_set m came sent fd c (of conn run script) process_slots
      → has_fd (of conn run script) g ≡ true → k < worker_set.count
      → descriptor m server g ≡ Some (on.WriteEnd (worker_set.job_queue k)) → ⊥
  no-job_queue conn None script g k f u lt is =
      (let file = (has-fd m conn.request (expected_in f.expected conn.request conn.phase) conn.phase g u f.has).2 in
      absurd (cc (file, is)))
  no-job_queue conn (Some y) script g k f u lt is = write-apart conn y script g k f u lt is

  -- a client has each descriptor that it uses, or it is that of its worker's job queue
  left-none : (w : Wanted) (o : Progress) (d : Phase) (g : ℕ) → HasLeft m w o d → conn.uses_fd d g ≡ true → ⊥
  left-none w o (phase.Reading f) g has u = has.sends.0
  left-none w o (phase.ClosingFile f k) g has u = has.sends.0
  left-none w o d g has u = cc (u)

  pub uses-or-job_queue : (conn : Conn) (run : Option Running) (script : List ℕ) (g : ℕ)
      → Fits site_contents worker_set m came sent fd c (of conn run script) process_slots
      → uses_fd (of conn run script) g ≡ true
      → (has_fd (of conn run script) g ≡ true)
      ⊎ ((v : Run) × (s : Step) × (run ≡ Some (InProgress v s)) × (job_pipe v.worker ≡ g))
  uses-or-job_queue conn None script g f u = inl u
  uses-or-job_queue conn (Some (Finishing d)) script g f u = absurd (left-none f.wanted f.so_far d g f.has u)
  uses-or-job_queue conn (Some (InProgress v s)) script g f u =
      elim (one-of (job_pipe v.worker == g) (ends_of v s g) u) [
        | inl job_queue ↦ inr (v, s, refl, same-number (job_pipe v.worker) g job_queue)
        | inr ends ↦ inl ends
      ]
  uses-or-job_queue conn o script g f u = absurd (cc (u))
