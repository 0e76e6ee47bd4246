-- The worker's side: the unseen text of a script, over one step.
use Rattle.std.proofs.Common.{inl, inr, ◌≡◌, ◌⊎◌, ◌<◌, ℕ, List, [], ◌∷◌, ◌++◌, length, ap, ◌∙◌, refl, sym, subst, arith}
use Rattle.std.proofs.Common.{Some, true, false, Bool, length-append}
use Rattle.iol_core.specs.Text.{Text, bytes_of}
use Rattle.iol_core.specs.State.{State, Pipe, descriptor, pipe_at}
use Rattle.iol_core.specs.Positions.{ArePlaced}
use Rattle.iol_core.specs.Run.{StepsTo}
use Rattle.iol_core.specs.declared.descriptors.Descriptor.TheVariants as on
use Rattle.iol_core.specs.declared.refusals.Refusal.TheVariants.{Denied}
use Rattle.iol_core.specs.declared.events.Call.TheVariants as call
use Rattle.iol_core.specs.declared.events.Event.{Event}
use Rattle.iol_core.specs.declared.events.Event.TheVariants as event
use Rattle.iol_core.specs.declared.events.Reply.{Reply}
use Rattle.iol_core.specs.declared.events.Reply.TheVariants as reply
use Rattle.iol_laws.specs.Caller.{CallsServeTheirDomain, ClosesWriteEnd, TakesFromPipe, readable_at}
use Rattle.iol_laws.specs.Order.{IsOrderly}
use Rattle.iol_laws.specs.Sources.{LabelsFollow, MayReadAll, lie_in}
use Rattle.iol_proc.specs.Quiescence.{Claim}
use Rattle.iol_proc.specs.Turns.{TransitionRelation, ProcessSlotTurn}
use Rattle.iol_proc.specs.World.{copying}
use Rattle.iol_proc.specs.declared.process_slot.ProcessSlot.{ProcessSlot}
use Rattle.flash_cgi.specs.Beside.{is_call_of, LeavesFiles, OthersReceive}
use Rattle.flash_cgi.specs.Expected.{Made}
use Rattle.flash_cgi.specs.Outcomes.{AreFiles}
use Rattle.flash_cgi.specs.OutputPools.{HoldFiles}
use Rattle.flash_cgi.proofs.OutputByCall.{bytes-append}
use Rattle.flash_laws.specs.Workers.DeliversText.{HasRead, IsAllThere, DeliversText, StillDeliversText}
use Rattle.flash_laws.specs.Workers.DeliversText.{TextsAreDelivered}
use Rattle.flash_laws.specs.Workers.{TakesTurn, WorkersRun, Wrote}

-- no byte was taken from an unchanged queue
no_front : (gone queue : Text) → queue ≡ gone ++ queue → gone ≡ []
no_front [] queue e = refl
no_front (b ∷ gone) queue e = (let l = ap (λ (t : Text). length t) e ∙ length-append (b ∷ gone) queue in
    absurd (omega (arith, l)))

no_text : (t : Text) → bytes_of t ≡ [] → t ≡ []
no_text [] e = refl
no_text (b ∷ t) e = absurd (cc (e))

module _ {W : Type 0} (works : TransitionRelation W) (quiescent : Claim W) (pools : ℕ → Bool) (Free : State → (j : ℕ)
    → ProcessSlot W → Type 0)
    (Expected : State → (j p : ℕ) → ProcessSlot W → Made → (text : List ℕ) → Type 0)
    (run : WorkersRun works quiescent pools Free Expected) (own : CallsServeTheirDomain) (labels : LabelsFollow)
    (receive : OthersReceive) where
  abbrev Puts : State → (j p : ℕ) → ProcessSlot W → Made → List ℕ → Type 0
  Puts m j p process_slot made text = DeliversText works pools Free Expected m j p process_slot made text

  abbrev There : State → (j p : ℕ) → ProcessSlot W → List ℕ → Type 0
  There m j p process_slot text = IsAllThere works pools Free Expected m j p process_slot text

  -- ---- a turn of the worker

  closes : (m n : State) (j p : ℕ) (next : ProcessSlot W) (text : List ℕ) (r : Reply) → (pipe_at m p).reading ≡ true
      → Wrote works quiescent pools Free Expected m n j p next text r → There n j p next text
  closes m n j p next text r reads w =
      let shut = subst (λ (l : Reply). ClosesWriteEnd m p l n) w.done w.closes in
      record {
        all = w.all ∙ sym (ap (λ (x : Pipe). bytes_of x.queue) (shut.1 reads));
        closed = shut.0;
        free = w.free;
        lies = w.lies;
      }

  turns : (m n : State) (j p : ℕ) (process_slot next : ProcessSlot W) (yields : Bool) (r : Reply) (made : Made)
      (text : List ℕ) → IsOrderly m → ArePlaced m → AreFiles m → HoldFiles pools m process_slot.by
      → Puts m j p process_slot made text → ProcessSlotTurn copying works m process_slot yields r n next
      → (pipe_at m p).reading ≡ true → (pipe_at n p).reading ≡ true
      → StillDeliversText works pools Free Expected n j p next made text r
  turns m n j p process_slot next yields r made text order placed good holds (inl expected) did was now =
      record { after = t.after; later = t.later; instead = t.instead; delivers_text = by t.goes }
    where
      t : TakesTurn works quiescent pools Free Expected m n j p next made text r
      t = run.turns m n j p process_slot next yields r made text order placed good holds expected did

      by : Expected n j p next t.after t.later ⊎ Wrote works quiescent pools Free Expected m n j p next t.later r
          ⊎ ((pipe_at n p).reading ≡ false) → Puts n j p next t.after t.later
      by (inl d) = inl d
      by (inr (inl w)) = inr (closes m n j p next t.later r was w)
      by (inr (inr gone)) = absurd (let e = sym now ∙ gone in cc (e))
  turns m n j p process_slot next yields r made text order placed good holds (inr there) did was now =
      let same = run.waits m n j process_slot next yields r order there.free did in
      record {
        after = made;
        later = text;
        instead = inl (refl, refl);
        delivers_text = inr (record {
          all = there.all ∙ ap (λ u. bytes_of (pipe_at u p).queue) (sym same.0);
          closed = ap (λ u. (pipe_at u p).writing) same.0 ∙ there.closed;
          free = same.1;
          lies = subst (λ (u : State). lie_in pools (pipe_at u p).queue ≡ true) (sym same.0) there.lies;
        });
      }

  -- ---- events of others that leave both pipes unchanged

  left : (m n : State) (j p : ℕ) (process_slot : ProcessSlot W) (e : Event) (r : Reply) (made : Made) (text : List ℕ)
      → IsOrderly m → ArePlaced m → StepsTo m e r n → is_call_of e process_slot.by ≡ false
      → LeavesFiles m process_slot.by n → pipe_at n j ≡ pipe_at m j → pipe_at n p ≡ pipe_at m p
      → Puts m j p process_slot made text → Puts n j p process_slot made text
  left m n j p process_slot e r made text order placed step other files job_queue pipe (inl expected) =
      let gave = run.others m n j p process_slot e r made text order placed step other files job_queue expected in
      let none =
      no_front gave.goes.gone (pipe_at m p).queue (gave.goes.queue
      ∙ ap (λ (x : Pipe). gave.goes.gone ++ x.queue) pipe) in
      inl
      (subst (λ (l : List ℕ). Expected n j p process_slot made l)
      (sym (gave.splits ∙ ap (λ (t : Text). bytes_of t ++ gave.rest) none)) gave.expected)
  left m n j p process_slot e r made text order placed step other files job_queue pipe (inr there) = inr (record {
    all = there.all ∙ ap (λ (x : Pipe). bytes_of x.queue) (sym pipe);
    closed = ap (λ (x : Pipe). x.writing) pipe ∙ there.closed;
    free = run.free_others m n j process_slot e r placed step other job_queue there.free;
    lies = subst (λ (x : Pipe). lie_in pools x.queue ≡ true) (sym pipe) there.lies;
  })

  -- ---- a read of the pipe

  module _ (m n : State) (j p by fd count a : ℕ) (process_slot : ProcessSlot W) (order : IsOrderly m)
      (placed : ArePlaced m)
      (step : StepsTo m (event.Call by (call.IolRead fd count)) (reply.Agg a) n)
      (other : is_call_of (event.Call by (call.IolRead fd count)) process_slot.by ≡ false)
      (opened : descriptor m by fd ≡ Some (on.ReadEnd p)) (files : LeavesFiles m process_slot.by n)
      (job_queue : pipe_at n j ≡ pipe_at m j) where
    takes : TakesFromPipe m by p count a n
    takes = own.read_pipe m n by fd p count (reply.Agg a) order opened step

    some_bytes : (bytes : List ℕ) → readable_at n by a ≡ Some bytes → bytes_of takes.text ≡ bytes
    some_bytes bytes is_readable = inner (bytes_of takes.text) bytes (sym takes.is_readable ∙ is_readable)
      where
        inner : (x y : List ℕ) → Some x ≡ Some y → x ≡ y
        inner x y e = cc

    rest_there : (text : List ℕ) → There m j p process_slot text → There n j p process_slot (bytes_of takes.rest)
    rest_there text there = record {
      all = ap (λ (x : Pipe). bytes_of x.queue) (sym takes.pipe);
      closed = ap (λ (x : Pipe). x.writing) takes.pipe ∙ there.closed;
      free = run.free_others m n j process_slot (event.Call by (call.IolRead fd count)) (reply.Agg a) placed step other
          job_queue there.free;
      lies = labels.pipes pools m n (event.Call by (call.IolRead fd count)) (reply.Agg a) p step (λ e. absurd (cc (e)))
          there.lies;
    }

    reads : (made : Made) (text bytes : List ℕ) → readable_at n by a ≡ Some bytes → Puts m j p process_slot made text
        → HasRead works pools Free Expected n j p process_slot made text bytes
    reads made text bytes is_readable (inl expected) =
        let gave = run.others m n j p process_slot (event.Call by (call.IolRead fd count)) (reply.Agg a) made text order
        placed step other files job_queue expected in
        let front = receive.received m n p by count a bytes takes is_readable gave.goes in
        record {
          rest = gave.rest;
          splits = gave.splits ∙ ap (λ (l : List ℕ). l ++ gave.rest) front;
          delivers_text = inl gave.expected;
        }
    reads made text bytes is_readable (inr there) = record {
      rest = bytes_of takes.rest;
      splits =
          there.all
          ∙ (ap (λ (t : Text). bytes_of t) takes.was
          ∙ (bytes-append takes.text takes.rest
          ∙ ap (λ (l : List ℕ). l ++ bytes_of takes.rest) (some_bytes bytes is_readable)));
      delivers_text = inr (rest_there text there);
    }

    ends : (made : Made) (text : List ℕ) → 0 < count → readable_at n by a ≡ Some [] → Puts m j p process_slot made text
        → (text ≡ []) × Free n j process_slot
    ends made text some is_readable puts = either puts
      where
        ended : ((pipe_at m p).queue ≡ []) × ((pipe_at m p).writing ≡ false)
        ended = takes.ended some (no_text takes.text (some_bytes [] is_readable))

        either : Puts m j p process_slot made text → (text ≡ []) × Free n j process_slot
        either (inl expected) =
            let gave = run.others m n j p process_slot (event.Call by (call.IolRead fd count)) (reply.Agg a) made text
            order placed step other files job_queue expected in
            let was = sym (ap (λ (x : Pipe). x.writing) takes.pipe) ∙ gave.goes.writing in
            absurd (let e = sym was ∙ ended.1 in cc (e))
        either (inr there) = (there.all ∙ ap (λ (t : Text). bytes_of t) ended.0, (rest_there text there).free)

  undenied : (m n : State) (j p by fd count q : ℕ) (process_slot : ProcessSlot W) (made : Made) (text : List ℕ)
      → MayReadAll m by pools → descriptor m by fd ≡ Some (on.ReadEnd p) → Puts m j p process_slot made text
      → StepsTo m (event.Call by (call.IolRead fd count)) (reply.Refused (Denied q)) n → ⊥
  undenied m n j p by fd count q process_slot made text may opened (inl expected) step =
      labels.reads pools m n by fd p count q may (run.shown m j p process_slot made text expected) opened step
  undenied m n j p by fd count q process_slot made text may opened (inr there) step =
      labels.reads pools m n by fd p count q may there.lies opened step

  pub texts_are_delivered : TextsAreDelivered works pools Free Expected
  texts_are_delivered = record {
    turns = turns;
    left = left;
    reads = λ m n j p by fd count a process_slot made text bytes order placed step other opened files job_queue
        is_readable puts.
        reads m n j p by fd count a process_slot order placed step other opened files job_queue made text bytes
        is_readable puts;
    ends = λ m n j p by fd count a process_slot made text order placed some step other opened files job_queue
        is_readable puts.
        ends m n j p by fd count a process_slot order placed step other opened files job_queue made text some
        is_readable puts;
    undenied = undenied;
  }
