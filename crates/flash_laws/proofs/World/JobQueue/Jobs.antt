-- Each worker reads its jobs, whether it is free or runs a script.
use Rattle.std.proofs.Common.{inl, inr, ◌≡◌, ℕ, List, ap, ◌∙◌, refl, sym, subst, Option, Some, true, false, Bool}
use Rattle.std.proofs.Common.{slice_get}
use Rattle.iol_core.specs.State.{State, descriptor}
use Rattle.iol_core.specs.declared.descriptors.Descriptor.TheVariants as on
use Rattle.iol_proc.specs.declared.process_slot.ProcessSlot.{ProcessSlot}
use Rattle.flash_laws.specs.Client.{Client}
use Rattle.flash_laws.specs.Client.Fits.{Fits}
use Rattle.flash_laws.specs.Conn.{Conn}
use Rattle.flash_cgi.specs.Expected.{Made}
use Rattle.flash_laws.specs.Workers.WorkerSet.{WorkerSet}
use Rattle.flash_laws.specs.Site.Past.{Past}
use Rattle.flash_laws.specs.Site.Places.{is_run_by, is_free}
use Rattle.flash_laws.specs.Workers.DeliversText.{DeliversText}
use Rattle.flash_laws.specs.Run.Fits.{Progress}
use Rattle.flash_laws.specs.Site.ClientConsistency.{AllFit}
use Rattle.flash_laws.specs.SiteContents.{SiteContents}
use Rattle.flash_laws.specs.Run.WorkerStates.{IsDelivering, IsAtStep}
use Rattle.flash_laws.specs.declared.script_run.Run.{Run}
use Rattle.flash_laws.specs.declared.script_run.Step.{Step}
use Rattle.flash_laws.specs.declared.script_run.Step.TheVariants.{MakingJob, WritingJob, DroppingJob, MakingHead}
use Rattle.flash_laws.specs.declared.script_run.Step.TheVariants.{SendingPart, ReadingOutput, DroppingOutput}
use Rattle.flash_laws.specs.declared.script_run.Step.TheVariants.{JoiningOutput, MakingFrame, FillingFrame}
use Rattle.flash_laws.specs.declared.script_run.Step.TheVariants.{DroppingHeld, ClosingPipe, DiscardingJob, Failing}
use Rattle.flash_laws.specs.declared.script_run.Running.{Running}
use Rattle.flash_laws.specs.declared.script_run.Running.TheVariants.{InProgress}
use Rattle.flash_laws.proofs.Forms.{of}
use Rattle.flash_laws.proofs.Conn.Responses.{some-inj}
use Rattle.flash_laws.proofs.Conn.Uses.{same-number}
use Rattle.flash_laws.proofs.World.AllLaws.{AllLaws}
use Rattle.flash_laws.proofs.Site.OwnWorkers.{runs-for}

module _ (worker_set : WorkerSet) (laws : AllLaws worker_set) where
  free-reads : (m : State) (j : ℕ) (process_slot : ProcessSlot worker_set.Worker) → worker_set.Free m j process_slot
      → descriptor m process_slot.by 0 ≡ Some (on.ReadEnd j)
  free-reads m j process_slot free = (laws.workers.none m j process_slot free).jobs

  puts-reads : (m : State) (process_slot : ProcessSlot worker_set.Worker) (run : Run) (made : Made) (o : Progress)
      → IsDelivering worker_set m process_slot run made o
      → descriptor m process_slot.by 0 ≡ Some (on.ReadEnd (worker_set.job_queue run.worker))
  puts-reads m process_slot run made o h = by h.delivers_text
    where
      by : DeliversText worker_set.turns worker_set.pools worker_set.Free worker_set.Expected m
          (worker_set.job_queue run.worker) h.has.pipe process_slot made h.more
          → descriptor m process_slot.by 0 ≡ Some (on.ReadEnd (worker_set.job_queue run.worker))
      by (inl expected) = laws.workers.reads m (worker_set.job_queue run.worker) h.has.pipe process_slot made h.more
          expected
      by (inr there) = free-reads m (worker_set.job_queue run.worker) process_slot there.free

  at-step-reads : (m : State) (process_slot : ProcessSlot worker_set.Worker) (run : Run) (made : Made) (o : Progress)
      (s : Step) → IsAtStep worker_set m process_slot run made o s
      → descriptor m process_slot.by 0 ≡ Some (on.ReadEnd (worker_set.job_queue run.worker))
  at-step-reads m process_slot run made o (MakingJob f) h =
      free-reads m (worker_set.job_queue run.worker) process_slot h.ready.free
  at-step-reads m process_slot run made o (WritingJob j f) h =
      free-reads m (worker_set.job_queue run.worker) process_slot h.0.ready.free
  at-step-reads m process_slot run made o (DroppingJob j) h = puts-reads m process_slot run made o h
  at-step-reads m process_slot run made o MakingHead h = puts-reads m process_slot run made o h
  at-step-reads m process_slot run made o (SendingPart d frame) h = puts-reads m process_slot run made o h
  at-step-reads m process_slot run made o (ReadingOutput held frame) h = puts-reads m process_slot run made o h
  at-step-reads m process_slot run made o (DroppingOutput a frame) h = puts-reads m process_slot run made o h
  at-step-reads m process_slot run made o (JoiningOutput held size piece len frame) h =
      puts-reads m process_slot run made o h
  at-step-reads m process_slot run made o (MakingFrame held) h = puts-reads m process_slot run made o h
  at-step-reads m process_slot run made o (FillingFrame held frame) h = puts-reads m process_slot run made o h
  at-step-reads m process_slot run made o (DroppingHeld held chunk len frame) h = puts-reads m process_slot run made o h
  at-step-reads m process_slot run made o (ClosingPipe write) h = absurd h
  at-step-reads m process_slot run made o (DiscardingJob j) h = absurd h
  at-step-reads m process_slot run made o Failing h = absurd h
  at-step-reads m process_slot run made o s h = free-reads m (worker_set.job_queue run.worker) process_slot h.free

module _ (site_contents : SiteContents) (worker_set : WorkerSet) (laws : AllLaws worker_set) where
  -- the worker of a client reads its jobs
  run-reads : (m : State) (came sent : List ℕ) (fd c : ℕ) (x : Conn) (run : Option Running) (script : List ℕ)
      (process_slots : List (ProcessSlot worker_set.Worker)) (j : ℕ)
      (process_slot : ProcessSlot worker_set.Worker) → is_run_by (of x run script) j ≡ true
      → Fits site_contents worker_set m came sent fd c (of x run script) process_slots
      → slice_get process_slots j ≡ Some process_slot
      → descriptor m process_slot.by 0 ≡ Some (on.ReadEnd (worker_set.job_queue j))
  run-reads m came sent fd c x (Some (InProgress run s)) script process_slots j process_slot runs f sits =
      let here : run.worker ≡ j = same-number run.worker j runs in
      let mine : f.job_queue.process_slot ≡ process_slot =
      some-inj f.job_queue.process_slot process_slot (sym f.job_queue.sits
      ∙ (ap (λ k. slice_get process_slots k) here ∙ sits)) in
      subst (λ k. descriptor m process_slot.by 0 ≡ Some (on.ReadEnd (worker_set.job_queue k))) here
      (subst (λ (t : ProcessSlot worker_set.Worker). descriptor m t.by 0
      ≡ Some (on.ReadEnd (worker_set.job_queue run.worker))) mine
      (at-step-reads worker_set laws m f.job_queue.process_slot run _ f.so_far s f.job_queue.at_step))
  run-reads m came sent fd c x run script process_slots j process_slot runs f sits = absurd (cc (runs))

  pub reads-jobs : (m : State) (p : Past) (clients : List (Option Client))
      (process_slots : List (ProcessSlot worker_set.Worker)) → AllFit site_contents worker_set m p clients process_slots
      → (k : ℕ) (process_slot : ProcessSlot worker_set.Worker) → slice_get process_slots k ≡ Some process_slot
      → descriptor m process_slot.by 0 ≡ Some (on.ReadEnd (worker_set.job_queue k))
  reads-jobs m p clients process_slots all k process_slot sits = by (is_free clients k) refl
    where
      by : (b : Bool) → is_free clients k ≡ b
          → descriptor m process_slot.by 0 ≡ Some (on.ReadEnd (worker_set.job_queue k))
      by true free =
          free-reads worker_set laws m (worker_set.job_queue k) process_slot (all.free k process_slot sits free)
      by false busy =
          let ran = runs-for clients k busy in
          let f = all.each ran.fd ran.client ran.at in
          run-reads m (p.came f.conn) (p.sent f.conn) ran.fd f.conn ran.client.conn ran.client.run ran.client.script
          process_slots k process_slot ran.runs f.fits sits
