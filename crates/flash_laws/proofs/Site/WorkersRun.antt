-- The worker that runs scripts meets the requirements of the law.
use Rattle.std.proofs.Common.{inl, inr, ◌≡◌, ◌⊎◌, ℕ, List, ◌++◌, ap, ◌∙◌, refl, sym, subst, Option, Some, true, false}
use Rattle.std.proofs.Common.{Bool}
use Rattle.std.specs.Prelude.{unwrap_or}
use Rattle.iol_core.specs.Text.{bytes_of}
use Rattle.iol_core.specs.State.{State, Pipe, descriptor, pipe_at}
use Rattle.iol_core.specs.Calls.Aggregates.{default_pool}
use Rattle.iol_core.specs.Positions.{ArePlaced}
use Rattle.iol_core.specs.Run.{StepsTo}
use Rattle.iol_core.specs.declared.descriptors.Descriptor.TheVariants as on
use Rattle.iol_core.specs.declared.events.Call.TheVariants as call
use Rattle.iol_core.specs.declared.events.Event.{Event}
use Rattle.iol_core.specs.declared.events.Event.TheVariants as event
use Rattle.iol_core.specs.declared.events.Reply.{Reply}
use Rattle.iol_laws.specs.Frame.{EachStepLeavesTheRest, sets_default}
use Rattle.iol_laws.specs.Order.{IsOrderly}
use Rattle.iol_laws.specs.Sources.{lie_in}
use Rattle.iol_proc.specs.Turns.{ProcessSlotTurn}
use Rattle.iol_proc.specs.World.{copying}
use Rattle.iol_proc.specs.declared.process_slot.ProcessSlot.{ProcessSlot}
use Rattle.flash_cgi.specs.Beside.{is_call_of, LeavesFiles, OthersReceive}
use Rattle.flash_cgi.specs.Expected.{Goes, IsExpected, IsWritten, Made, ScriptsHaveOneOutput}
use Rattle.flash_cgi.specs.Free.{HasNoJob, WorkersStayFree}
use Rattle.flash_cgi.specs.Full.{RunningIsFull}
use Rattle.flash_cgi.specs.Frame.{LeavesAllBut, WorkersAreConfined}
use Rattle.flash_cgi.specs.Outcomes.{AreFiles, outcomes_in}
use Rattle.flash_cgi.specs.Output.{Outcome, output}
use Rattle.flash_cgi.specs.OutputPools.{HoldFiles, IsShown, OutputsAreShown}
use Rattle.flash_cgi.specs.JobStart.{HasJob}
use Rattle.flash_cgi.specs.Turns.{RunsJob}
use Rattle.flash_cgi.specs.Standstill.{HasWaited}
use Rattle.flash_cgi.specs.Works.{worker_turns}
use Rattle.flash_cgi.specs.declared.line.Line.{Line}
use Rattle.flash_cgi.specs.declared.worker.Worker.{Worker}
use Rattle.flash_laws.specs.Workers.{Gave, IsExpectedOf, IsFreeFor, TakesTurn, WorkersRun, Wrote}

no_exit : (e : Event) (d : ℕ) → is_call_of e d ≡ false → sets_default e d ≡ false
no_exit (event.Call by call.Exit) d other = other
no_exit (event.Call by (call.SetPool q)) d other = other
no_exit e d other = refl

module _ (stay_free : WorkersStayFree) (have_one_output : ScriptsHaveOneOutput) (receive : OthersReceive)
    (keep_confined : WorkersAreConfined) (show : OutputsAreShown) (fill : RunningIsFull)
    (steps : EachStepLeavesTheRest) (pools : ℕ → Bool) where
  abbrev Free : State → (j : ℕ) → ProcessSlot Worker → Type 0
  Free m j process_slot = IsFreeFor pools m j process_slot

  abbrev Expected : State → (j p : ℕ) → ProcessSlot Worker → Made → List ℕ → Type 0
  Expected m j p process_slot made text = IsExpectedOf pools m j p process_slot made text

  waits : (m n : State) (j : ℕ) (process_slot next : ProcessSlot Worker) (yields : Bool) (r : Reply) → IsOrderly m
      → Free m j process_slot → ProcessSlotTurn copying worker_turns m process_slot yields r n next
      → (n ≡ m) × Free n j next
  waits m n j process_slot next yields r order free did =
      let same = stay_free.turns m n j process_slot next yields r order free.none free.free did in
      let by_same = stays_in did in (
        same.0,
        record {
          free = same.1;
          none =
              subst (λ d. HasNoJob n d j) (sym by_same)
              (subst (λ (u : State). HasNoJob u process_slot.by j) (sym same.0) free.none);
          default =
              subst (λ d. pools (default_pool n d) ≡ true) (sym by_same)
              (subst (λ (u : State). pools (default_pool u process_slot.by) ≡ true) (sym same.0) free.default);
        },
      )
    where
      stays_in : ProcessSlotTurn copying worker_turns m process_slot yields r n next → next.by ≡ process_slot.by
      stays_in (inl starved) = ap (λ (s : ProcessSlot Worker). s.by) starved.process_slot_stays
      stays_in (inr moves) = moves.domain_stays

  free_others : (m n : State) (j : ℕ) (process_slot : ProcessSlot Worker) (e : Event) (r : Reply) → ArePlaced m
      → StepsTo m e r n → is_call_of e process_slot.by ≡ false → pipe_at n j ≡ pipe_at m j → Free m j process_slot
      → Free n j process_slot
  free_others m n j process_slot e r placed step other same free =
      let left = receive.leave m n process_slot.by e r placed step other in
      let leaves = steps.leaves m n e r step in
      record {
        free = stay_free.others m n process_slot free.free;
        none = record {
          live = left.live free.none.live;
          jobs = left.fds 0 _ free.none.jobs;
          empty = ap (λ (x : Pipe). x.queue) same ∙ free.none.empty;
          writing = ap (λ (x : Pipe). x.writing) same ∙ free.none.writing;
        };
        default =
            subst (λ (o : Option ℕ). pools (unwrap_or o 0) ≡ true)
            (sym (leaves.defaults process_slot.by free.none.live (no_exit e process_slot.by other))) free.default;
      }

  begins : (m n : State) (j p fd : ℕ) (process_slot : ProcessSlot Worker) (query script : List ℕ) (lines : List Line)
      (e : Event) (r : Reply) → ArePlaced m → Free m j process_slot → StepsTo m e r n
      → is_call_of e process_slot.by ≡ false → HasJob n process_slot.by j p fd query script lines
      → (pipe_at n j).writing ≡ true → lie_in pools (pipe_at n p).queue ≡ true
      → Expected n j p process_slot (record {
        before = bytes_of (pipe_at n p).queue;
        query = query;
        lines = lines;
        outcomes = outcomes_in n process_slot.by lines;
      })
      (bytes_of (pipe_at n p).queue ++ output query lines (outcomes_in n process_slot.by lines))
  begins m n j p fd process_slot query script lines e r placed free step other has writing lies =
      let is_free = stay_free.others m n process_slot free.free in
      let leaves = steps.leaves m n e r step in
      let default =
      subst (λ (o : Option ℕ). pools (unwrap_or o 0) ≡ true)
      (sym (leaves.defaults process_slot.by free.none.live (no_exit e process_slot.by other))) free.default in
      record {
        expected = have_one_output.begins n j p fd process_slot query script lines is_free has writing;
        shown = show.free pools n p process_slot is_free default lies;
      }

  turns : (m n : State) (j p : ℕ) (process_slot next : ProcessSlot Worker) (yields : Bool) (r : Reply) (made : Made)
      (text : List ℕ) → IsOrderly m → ArePlaced m → AreFiles m → HoldFiles pools m process_slot.by
      → Expected m j p process_slot made text → ProcessSlotTurn copying worker_turns m process_slot yields r n next
      → TakesTurn worker_turns HasWaited pools Free Expected m n j p next made text r
  turns m n j p process_slot next yields r made text order placed good holds h did =
      record { after = goes.after; later = goes.later; instead = goes.instead; goes = by goes.goes }
    where
      goes : Goes m n j p next made text r
      goes = have_one_output.turns m n j p process_slot next yields r made text order placed good h.expected did

      shown : IsShown pools n p next
      shown = show.turns pools m n p process_slot next yields r h.expected.unseen order holds h.expected.runs h.shown
          did

      by : IsExpected n j p next goes.after goes.later ⊎ IsWritten m n j p next goes.later r
          ⊎ ((pipe_at n p).reading ≡ false)
          → Expected n j p next goes.after goes.later ⊎ Wrote worker_turns HasWaited pools Free Expected m n j p next
          goes.later r ⊎ ((pipe_at n p).reading ≡ false)
      by (inl expected) = inl (record { expected = expected; shown = shown })
      by (inr (inl w)) =
          inr
          (inl (record {
            all = w.all;
            done = w.done;
            closes = w.closes;
            free = record { free = w.free; none = w.none; default = shown.default };
            lies = shown.output;
          }))
      by (inr (inr gone)) = inr (inr gone)

  others : (m n : State) (j p : ℕ) (process_slot : ProcessSlot Worker) (e : Event) (r : Reply) (made : Made)
      (text : List ℕ) → IsOrderly m → ArePlaced m → StepsTo m e r n → is_call_of e process_slot.by ≡ false
      → LeavesFiles m process_slot.by n → pipe_at n j ≡ pipe_at m j → Expected m j p process_slot made text
      → Gave worker_turns HasWaited pools Free Expected m n j p process_slot made text
  others m n j p process_slot e r made text order placed step other files same h =
      let gave = have_one_output.others m n j p process_slot e r made text order placed step other files same
      h.expected in
      record {
        goes = gave.goes;
        rest = gave.rest;
        splits = gave.splits;
        expected =
            record {
              expected = gave.expected;
              shown =
                  show.others pools m n p process_slot e r h.expected.unseen order placed h.expected.runs h.shown step
                  other;
            };
      }

  confined : (m n : State) (j p : ℕ) (process_slot next : ProcessSlot Worker) (yields : Bool) (r : Reply) (made : Made)
      (text : List ℕ) → Expected m j p process_slot made text
      → ProcessSlotTurn copying worker_turns m process_slot yields r n next → LeavesAllBut m process_slot.by j n
      ⊎ LeavesAllBut m process_slot.by p n
  confined m n j p process_slot next yields r made text h did = by h.expected.unseen h.expected.runs
    where
      by : (unseen : List Outcome → List ℕ) → RunsJob m p process_slot unseen → LeavesAllBut m process_slot.by j n
          ⊎ LeavesAllBut m process_slot.by p n
      by unseen (inl a) =
          inl (keep_confined.free m n j process_slot next yields r a.has.live a.free h.expected.job_queue.jobs did).0
      by unseen (inr (inl a)) = inr (keep_confined.begins m n p process_slot next yields r unseen a did)
      by unseen (inr (inr a)) = inr (keep_confined.runs m n p process_slot next yields r unseen a did)

  writes : (m : State) (j p : ℕ) (process_slot : ProcessSlot Worker) (made : Made) (text : List ℕ)
      → Expected m j p process_slot made text → (fd : ℕ) × (descriptor m process_slot.by fd ≡ Some (on.WriteEnd p))
  writes m j p process_slot made text h = by h.expected.unseen h.expected.runs
    where
      by : (unseen : List Outcome → List ℕ) → RunsJob m p process_slot unseen
          → (fd : ℕ) × (descriptor m process_slot.by fd ≡ Some (on.WriteEnd p))
      by unseen (inl a) = (a.fd, a.has.open_on)
      by unseen (inr (inl a)) = (a.job.fd, a.begins.feeds.open_on)
      by unseen (inr (inr a)) = (process_slot.process.job.fd, a.feeds.open_on)

  pub workers_run : WorkersRun worker_turns HasWaited pools Free Expected
  workers_run = record {
    none = λ m j process_slot free. free.none;
    writes = writes;
    waits = waits;
    free_others = free_others;
    begins = begins;
    turns = turns;
    others = others;
    confined = confined;
    shown = λ m j p process_slot made text h. h.shown.output;
    reads = λ m j p process_slot made text h. h.expected.job_queue.jobs;
    full = λ m j p process_slot made text order access h waited. fill m p process_slot h.expected.unseen order access
        h.expected.runs waited;
  }
