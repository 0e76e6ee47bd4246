-- A worker takes its job.
use Rattle.std.proofs.Common.{◌≡◌, ◌≢◌, ℕ, ◌+◌, ◌==◌, List, [], ◌∷◌, ◌++◌, length, take, cond, ap, ◌∙◌, refl, sym}
use Rattle.std.proofs.Common.{arith, Option, Some, true, false, Bool}
use Rattle.std.specs.Prelude.{◌&&◌, ◌||◌}
use Rattle.std.specs.List.{AllByRecursion, list_any, prefix_len}
use Rattle.std.proofs.lemmas.List.{take_all, length-map}
use Rattle.std.proofs.lemmas.Bool.Decides.{nat_tests}
use Rattle.iol_core.specs.Text.{Text, bytes_of, admitted}
use Rattle.iol_core.specs.State.{State, Pipe, descriptor, pipe_at, may_read}
use Rattle.iol_core.specs.Calls.Writes.{is_file}
use Rattle.iol_core.specs.declared.descriptors.Descriptor.{Descriptor}
use Rattle.iol_core.specs.declared.descriptors.Descriptor.TheVariants as on
use Rattle.iol_core.specs.declared.events.Call.TheVariants as call
use Rattle.iol_core.specs.declared.events.Event.TheVariants as event
use Rattle.iol_core.specs.declared.events.Reply.TheVariants as reply
use Rattle.iol_proc.specs.declared.process_slot.ProcessSlot.{ProcessSlot}
use Rattle.iol_laws.specs.Caller.{TakesFromPipe, readable_at}
use Rattle.iol_laws.specs.Frame.{EachStepLeavesTheRest, Leaves, is_end}
use Rattle.flash_cgi.specs.Collecting.{nothing}
use Rattle.flash_cgi.specs.Job.{job_of, task_of}
use Rattle.flash_cgi.specs.Output.{Outcome, output}
use Rattle.flash_cgi.specs.Pieces.{IsRest}
use Rattle.flash_cgi.specs.JobStart.{HasJob, JobsAreTaken}
use Rattle.flash_cgi.specs.Turns.{Awaits, IsFree}
use Rattle.flash_cgi.specs.declared.worker.Worker.{Worker}
use Rattle.flash_cgi.specs.declared.line.Line.{Line}
use Rattle.flash_cgi.proofs.JobText.{job_is_read, job_is_short}

all_pass : (f : ℕ × ℕ → Bool) (t : Text) → AllByRecursion (λ b. f b ≡ true) t → prefix_len f t ≡ length t
all_pass f [] h = refl
all_pass f (b ∷ t) h = ap (λ v. cond v (1 + prefix_len f t) 0) h.0 ∙ (let e = all_pass f t h.1 in omega arith)

all_admitted : (f : ℕ → Bool) (t : Text) → AllByRecursion (λ b. f b.1 ≡ true) t → admitted f t ≡ t
all_admitted f t h = ap (λ k. take k t) (all_pass (λ b. f b.1) t h) ∙ take_all (length t) t (omega arith)

not-equal : (a b : ℕ) → a ≢ b → (a == b) ≡ false
not-equal a b differ = grind (arith, nat_tests, differ)

last_false : (b c : Bool) → c ≡ false → (b && c) ≡ false
last_false true c e = e
last_false false c e = refl

-- it awaits the same job in another state of the machine
abbrev pub awaits_still : (m n : State) (p : ℕ) (process_slot next : ProcessSlot Worker) (was is : List Outcome
    → List ℕ) → (h : Awaits m p process_slot was) → IsFree n next
    → HasJob n next.by h.jobs p h.fd h.query h.script h.lines
    → ((os : List Outcome) → is os ≡ bytes_of (pipe_at n p).queue ++ output h.query h.lines os) → Awaits n p next is
awaits_still m n p process_slot next was is h free has unseen =
    record {
      jobs = h.jobs;
      fd = h.fd;
      query = h.query;
      script = h.script;
      lines = h.lines;
      free = free;
      has = has;
      is = unseen;
    }

-- the bytes of its job pipe parse as its job
pub waits_as_job : (m : State) (d j p fd : ℕ) (query script : List ℕ) (lines : List Line)
    → HasJob m d j p fd query script lines
    → job_of (bytes_of (pipe_at m j).queue) ≡ Some (record { fd = fd; query = query; lines = lines })
waits_as_job m d j p fd query script lines has =
    let queue : Text = (pipe_at m j).queue in
    let size = length-map queue (λ b. b.0) in
    let same = ap (λ (l : List ℕ). length l) has.text in
    let short = job_is_short fd query script (omega (arith, size, same, has.short)) in
    ap job_of has.text
    ∙ (job_is_read fd query script has.fds short.0 short.1
    ∙ ap (λ (o : Option (List Line)). task_of fd query o) has.is_script)

-- a read of the job leaves the job pipe empty
pub all_taken : (m n : State) (d j p fd a : ℕ) (query script : List ℕ) (lines : List Line)
    → HasJob m d j p fd query script lines
    → TakesFromPipe m d j 65536 a n → (pipe_at n j).queue ≡ []
all_taken m n d j p fd a query script lines has takes =
    let queue : Text = (pipe_at m j).queue in
    let all : takes.text ≡ queue =
    takes.most ∙ (ap (λ (t : Text). admitted (may_read m d) t) (take_all 65536 queue has.short)
    ∙ all_admitted (may_read m d) queue has.readable) in
    ap (λ (x : Pipe). x.queue) takes.pipe ∙ no_rest queue takes.rest (ap (λ (t : Text). t ++ takes.rest) (sym all)
    ∙ sym takes.was)
  where
    no_rest : (t rest : Text) → t ++ rest ≡ t → rest ≡ []
    no_rest [] rest e = e
    no_rest (b ∷ t) rest e = no_rest t rest (tail_is b b (t ++ rest) t e)
      where
        tail_is : (x y : ℕ × ℕ) (s u : Text) → x ∷ s ≡ y ∷ u → s ≡ u
        tail_is x y s u e = cc

-- nothing is buffered yet
nothing_left : (readable : ℕ → Option (List ℕ)) → IsRest readable nothing
nothing_left readable = record {
  piece = record { files = refl; within = tt; next = tt };
  no_text = refl;
  no_places = refl;
}

pub job_is_taken : EachStepLeavesTheRest → JobsAreTaken
job_is_taken steps m n d j p fd a query script lines has step takes =
    let queue : Text = (pipe_at m j).queue in
    let all : takes.text ≡ queue =
    takes.most ∙ (ap (λ (t : Text). admitted (may_read m d) t) (take_all 65536 queue has.short)
    ∙ all_admitted (may_read m d) queue has.readable) in
    let leaves : Leaves m (event.Call d (call.IolRead 0 65536)) n =
    steps.leaves m n (event.Call d (call.IolRead 0 65536)) (reply.Agg a) step in
    let pipe : pipe_at n p ≡ pipe_at m p =
    leaves.pipes p (ap (λ (x : Option Descriptor). list_any (is_end p) (x ∷ []) || false) has.jobs
    ∙ ap (λ b. (b || false) || false) (not-equal j p has.apart)) in
    record {
      bytes = bytes_of takes.text;
      is_readable = takes.is_readable;
      is_job = ap (λ (t : Text). job_of (bytes_of t)) all ∙ waits_as_job m d j p fd query script lines has;
      feeds = record {
        live = leaves.lives d has.live refl;
        open_on =
            leaves.fds d fd (on.WriteEnd p) has.open_on
            (last_false ((d == d) && (0 == fd)) (is_file (descriptor m d 0))
            (ap (λ (x : Option Descriptor). is_file x) has.jobs));
        needs = (bytes_of takes.text, takes.is_readable);
        holds = (nothing_left (readable_at n d), (λ e. absurd (cc (e)), λ e. absurd (cc (e))));
        is = λ os. ap (λ (x : Pipe). bytes_of x.queue ++ output query lines os) (sym pipe);
      };
    }
