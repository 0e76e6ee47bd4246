-- A worker whose job pipe has ended makes no more calls.
use Rattle.std.proofs.Common.{◌≡◌, ℕ, List, [], ◌∷◌, ap, ◌∙◌, refl, sym, subst, arith, Option, Some, None, true, false}
use Rattle.std.specs.Prelude.{unwrap_or}
use Rattle.iol_core.specs.Text.{Text, bytes_of}
use Rattle.iol_core.specs.State.{State, descriptor, pipe_at}
use Rattle.iol_core.specs.Run.{StepsTo}
use Rattle.iol_core.specs.declared.descriptors.Descriptor.TheVariants as on
use Rattle.iol_core.specs.declared.events.Call.TheVariants as call
use Rattle.iol_core.specs.declared.events.Event.TheVariants as event
use Rattle.iol_core.specs.declared.events.Reply.{Reply}
use Rattle.iol_core.specs.declared.events.Reply.TheVariants as reply
use Rattle.iol_laws.specs.Caller.{CallsServeTheirDomain, TakesFromPipe, readable_at}
use Rattle.iol_laws.specs.Order.{IsOrderly}
use Rattle.iol_proc.specs.declared.process.Turn.{Turn}
use Rattle.iol_proc.specs.declared.process.Turn.TheVariants as turn
use Rattle.flash_cgi.specs.Job.{Task, job_of}
use Rattle.flash_cgi.specs.WorkerSteps.{after_reply, bytes_at}
use Rattle.flash_cgi.specs.Works.{works, works_as, files, proceeds, takes, with_job, with_text}
use Rattle.flash_cgi.specs.Standstill.{is_over}
use Rattle.flash_cgi.specs.PipeEnd.{ReadNothing, WorkersStop}
use Rattle.flash_cgi.specs.declared.phase.Phase.{Phase}
use Rattle.flash_cgi.specs.declared.phase.Phase.TheVariants as phase
use Rattle.flash_cgi.specs.declared.phase.Standing.{Standing}
use Rattle.flash_cgi.specs.declared.phase.Standing.TheVariants as standing
use Rattle.flash_cgi.specs.declared.phase.Step.{Step}
use Rattle.flash_cgi.specs.declared.worker.Worker.{Worker}

no_text : (t : Text) → bytes_of t ≡ [] → t ≡ []
no_text [] is = refl
no_text (b ∷ t) is = absurd (cc)

reports : CallsServeTheirDomain → (m n : State) (d j a : ℕ) → IsOrderly m → descriptor m d 0 ≡ Some (on.ReadEnd j)
    → StepsTo m (event.Call d (call.IolRead 0 65536)) (reply.Agg a) n → bytes_at (readable_at n d) a ≡ []
    → ((pipe_at m j).queue ≡ []) × ((pipe_at m j).writing ≡ false)
reports own m n d j a order opened step none =
    let takes : TakesFromPipe m d j 65536 a n = own.read_pipe m n d 0 j 65536 (reply.Agg a) order opened step in
    let bytes : bytes_of takes.text ≡ [] = sym (ap (λ (l : Option (List ℕ)). unwrap_or l []) takes.is_readable)
    ∙ none in
    takes.ended (omega arith) (no_text takes.text bytes)

ends : (w v : Worker) (last : Reply) (readable : ℕ → Option (List ℕ)) (t : Turn) → (is : ReadNothing w last readable)
    → works w last readable t v → (t ≡ turn.Make (call.AggDrop is.agg)) × (v.standing ≡ standing.Over)
ends w v last readable t is did = (took.0, ap (λ (x : Worker). x.standing) took.1)
  where
    filed : files w w.step.phase last readable t v
    filed = subst (λ (s : Standing). works_as s w last readable t v) is.asked did

    after_reply_agg : takes w (bytes_at readable is.agg) is.agg t v
    after_reply_agg =
        subst (λ (l : Reply). files w phase.Waiting l readable t v) is.read
        (subst (λ (x : Phase). files w x last readable t v) is.waited filed)

    took : takes w [] is.agg t v
    took = subst (λ (l : List ℕ). takes w l is.agg t v) is.nothing after_reply_agg

-- a worker becomes over only if it read no bytes
only : (w v : Worker) (last : Reply) (readable : ℕ → Option (List ℕ)) (t : Turn) → is_over w.standing ≡ false
    → works w last readable t v → is_over v.standing ≡ true → ReadNothing w last readable
only w v last readable t goes did over = by w.standing refl goes did
  where
    clash : (x : Worker) → v ≡ x → is_over x.standing ≡ false → ReadNothing w last readable
    clash x is not_over = (let e = ap (λ (y : Worker). is_over y.standing) is in absurd (cc (e, not_over, over)))

    proceeds_so : (o : Option Step) → w.standing ≡ standing.Asked → proceeds w o t v → ReadNothing w last readable
    proceeds_so (Some step) is did = clash (record w { step = step }) did.1 (ap (λ (s : Standing). is_over s) is)
    proceeds_so None is did = clash (record w { standing = standing.Asks }) did.1 refl

    with_one : (o : Option Task) (agg : ℕ) → w.standing ≡ standing.Asked → v ≡ with_job w o agg
        → ReadNothing w last readable
    with_one (Some job) agg is same = clash (with_job w (Some job) agg) same (ap (λ (s : Standing). is_over s) is)
    with_one None agg is same = clash (with_job w None agg) same (ap (λ (s : Standing). is_over s) is)

    took : (agg : ℕ) (text : List ℕ) → w.step.phase ≡ phase.Waiting → w.standing ≡ standing.Asked → last ≡ reply.Agg agg
        → bytes_at readable agg ≡ text → v ≡ with_text w text agg → ReadNothing w last readable
    took agg [] waits asked is none same =
        record { agg = agg; waited = waits; asked = asked; read = is; nothing = none }
    took agg (b ∷ bs) waits asked is some same = with_one (job_of (b ∷ bs)) agg asked same

    filed : (x : Phase) (l : Reply) → w.step.phase ≡ x → last ≡ l → w.standing ≡ standing.Asked
        → files w x l readable t v → ReadNothing w last readable
    filed phase.Waiting (reply.Agg agg) at is asked did = took agg (bytes_at readable agg) at asked is refl did.1
    filed x l at is asked did = proceeds_so (after_reply w.job w.step readable l) asked did

    by : (s : Standing) → w.standing ≡ s → is_over s ≡ false → works_as s w last readable t v
        → ReadNothing w last readable
    by standing.Over is goes did = absurd (cc)
    by standing.Asks is goes did = clash (record w { standing = standing.Asked }) did.1 refl
    by standing.Asked is goes did = filed w.step.phase last refl refl is did

stops : (w v : Worker) (last : Reply) (readable : ℕ → Option (List ℕ)) (t : Turn) → is_over w.standing ≡ true
    → works w last readable t v → (t ≡ turn.Yield) × (v ≡ w)
stops w v last readable t over did = by w.standing over did
  where
    by : (s : Standing) → is_over s ≡ true → works_as s w last readable t v → (t ≡ turn.Yield) × (v ≡ w)
    by standing.Over over did = did
    by x over did = absurd (cc)

pub workers_stop : CallsServeTheirDomain → WorkersStop
workers_stop own = record {
  reports = reports own;
  ends = ends;
  only = only;
  stops = stops;
}
