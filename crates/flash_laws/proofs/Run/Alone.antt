-- The calls of a run touch only its own objects.
use Rattle.std.proofs.Common.{◌≡◌, ℕ, ◌-◌, ◌==◌, List, [], ◌∷◌, ap, ◌∙◌, refl, sym, subst, Option, Some, None, true}
use Rattle.std.proofs.Common.{false, Bool}
use Rattle.std.specs.Prelude.{◌||◌, ◌&&◌}
use Rattle.std.specs.List.{list_any}
use Rattle.iol_core.specs.NumberedLists.{lowest}
use Rattle.iol_core.specs.State.{State, descriptor}
use Rattle.iol_core.specs.Calls.Writes.{is_file}
use Rattle.iol_core.specs.Run.{StepsTo}
use Rattle.iol_core.specs.Values.{gives_up}
use Rattle.iol_core.specs.declared.descriptors.Descriptor.{Descriptor}
use Rattle.iol_core.specs.declared.descriptors.Descriptor.TheVariants as on
use Rattle.iol_core.specs.declared.events.Call.{Call}
use Rattle.iol_core.specs.declared.events.Call.TheVariants as call
use Rattle.iol_core.specs.declared.events.Event.TheVariants as event
use Rattle.iol_core.specs.declared.events.Reply.TheVariants as reply
use Rattle.iol_laws.specs.Frame.{is_conn, is_end, touches_fd, touches_conn, touches_pipe, changes_files}
use Rattle.flash_http.specs.Request.{serve, Wanted}
use Rattle.flash_laws.specs.Conn as conn
use Rattle.flash_laws.specs.Conn.{has_followed, piece_end}
use Rattle.flash_laws.specs.Run.Fits.{Progress, IsSending, HasRun}
use Rattle.flash_laws.specs.Run.Holdings.{has_end, may_make, MayTouch, KeepsToItself}
use Rattle.flash_laws.specs.Run.{worker_domain, job_pipe, has_frame, uses_agg, held_size, in_phase, step_call}
use Rattle.flash_laws.specs.Run.{next_call}
use Rattle.flash_laws.specs.Run.{after_reply, is_left, is_over}
use Rattle.flash_laws.specs.Answers.Scripts.{script_text, frame_of, place_in_frame, end_around}
use Rattle.flash_laws.specs.Site.{server}
use Rattle.flash_laws.specs.declared.phase.Payload.TheVariants.{Error}
use Rattle.flash_laws.specs.declared.phase.Phase.{Phase}
use Rattle.flash_laws.specs.declared.phase.Phase.TheVariants as phase
use Rattle.flash_laws.specs.declared.script_run.TheConstants.{CHUNK_BYTES}
use Rattle.flash_laws.specs.declared.script_run.Run.{Run}
use Rattle.flash_laws.specs.declared.script_run.Step.{Step}
use Rattle.flash_laws.specs.declared.script_run.Step.TheVariants.{GivingPipe, MakingJob, WritingJob, DroppingJob}
use Rattle.flash_laws.specs.declared.script_run.Step.TheVariants.{MakingHead, SendingPart, ReadingOutput}
use Rattle.flash_laws.specs.declared.script_run.Step.TheVariants.{DroppingOutput, JoiningOutput, MakingFrame}
use Rattle.flash_laws.specs.declared.script_run.Step.TheVariants.{FillingFrame, DroppingHeld, DroppingEnd}
use Rattle.flash_laws.specs.declared.script_run.Step.TheVariants.{DiscardingHeld}
use Rattle.flash_laws.specs.declared.script_run.Step.TheVariants.{ClosingOutput, DroppingFrame, MakingEnd, FillingEnd}
use Rattle.flash_laws.specs.declared.script_run.Step.TheVariants.{DroppingLast, DroppingLastFrame}
use Rattle.flash_laws.specs.declared.script_run.Step.TheVariants.{ClosingPipe, DiscardingJob, Failing}
use Rattle.flash_laws.specs.declared.script_run.Running.{Running}
use Rattle.flash_laws.specs.declared.script_run.Running.TheVariants.{AwaitingWorker, InProgress, Finishing}
use Rattle.flash_laws.specs.declared.script_run.Running.TheVariants.{Disconnecting}
use Rattle.flash_laws.proofs.Lists.{clash, later_of, bare, former_of, not-false}
use Rattle.flash_laws.proofs.Run.Rest.{is-rest, part-sends}
use Rattle.flash_laws.proofs.Run.Parts.{no-position}
use Rattle.flash_laws.proofs.Conn.Uses.{same-number}

-- a call on one descriptor touches only its connection, or its pipe
one-conn : (x : Option Descriptor) (y : Descriptor) (d : ℕ) → x ≡ Some y
    → (list_any (is_conn d) (x ∷ []) || false) ≡ true → is_conn d (Some y) ≡ true
one-conn x y d is u = ap (λ z. is_conn d z) (sym is) ∙ bare (is_conn d x) (bare (is_conn d x || false) u)

one-end : (x : Option Descriptor) (y : Descriptor) (p : ℕ) → x ≡ Some y → (list_any (is_end p) (x ∷ []) || false) ≡ true
    → is_end p (Some y) ≡ true
one-end x y p is u = ap (λ z. is_end p z) (sym is) ∙ bare (is_end p x) (bare (is_end p x || false) u)

no-file : (x : Option Descriptor) (y : Descriptor) → x ≡ Some y → is_file (Some y) ≡ false → is_file x ≡ false
no-file x y is none = ap (λ z. is_file z) is ∙ none

module _ (m : State) (fd c : ℕ) (x : Running) where
  abbrev Keeps : Call → Type 0
  Keeps k = KeepsToItself m fd c x k

  makes : (bytes : List ℕ) → Keeps (call.AggMake bytes)
  makes bytes = record {
    kind = refl;
    aggs = λ a u. absurd (cc (u));
    fds = λ g u. absurd (cc (u));
    conns = λ d u. absurd (cc (u));
    pipes = λ p u. absurd (cc (u));
    files = refl;
  }

  cuts : (a from to : ℕ) → Keeps (call.AggCut a from to)
  cuts a from to = record {
    kind = refl;
    aggs = λ a u. absurd (cc (u));
    fds = λ g u. absurd (cc (u));
    conns = λ d u. absurd (cc (u));
    pipes = λ p u. absurd (cc (u));
    files = refl;
  }

  replaces : (a from to b : ℕ) → Keeps (call.AggReplace a from to b)
  replaces a from to b = record {
    kind = refl;
    aggs = λ a u. absurd (cc (u));
    fds = λ g u. absurd (cc (u));
    conns = λ d u. absurd (cc (u));
    pipes = λ p u. absurd (cc (u));
    files = refl;
  }

  drops : (b : ℕ) → ((a : ℕ) → (b == a) ≡ true → uses_agg x a ≡ true) → Keeps (call.AggDrop b)
  drops b uses = record {
    kind = refl;
    aggs = uses;
    fds = λ g u. absurd (cc (u));
    conns = λ d u. absurd (cc (u));
    pipes = λ p u. absurd (cc (u));
    files = refl;
  }

  joins : (b e : ℕ) → ((a : ℕ) → ((b == a) || (e == a)) ≡ true → uses_agg x a ≡ true) → Keeps (call.AggJoin b e)
  joins b e uses = record {
    kind = refl;
    aggs = uses;
    fds = λ g u. absurd (cc (u));
    conns = λ d u. absurd (cc (u));
    pipes = λ p u. absurd (cc (u));
    files = refl;
  }

  gives : (f to : ℕ) → ((g : ℕ) → (f == g) ≡ true → has_end x g ≡ true) → Keeps (call.GiveFd f to)
  gives f to has = record {
    kind = refl;
    aggs = λ a u. absurd (cc (u));
    fds = has;
    conns = λ d u. absurd (cc (u));
    pipes = λ p u. absurd (cc (u));
    files = refl;
  }

  -- a write to its connection
  offers : (a : ℕ) → descriptor m server fd ≡ Some (on.Connection c) → Keeps (call.IolWrite fd a)
  offers a open_on = record {
    kind = refl;
    aggs = λ a u. absurd (cc (u));
    fds =
        λ g u.
        absurd
        (clash ((fd == g) && is_file (descriptor m server fd)) u (no-position m fd g (on.Connection c) open_on refl));
    conns = λ d u. (same-number c d (one-conn (descriptor m server fd) (on.Connection c) d open_on u), (a, refl));
    pipes = λ p u. let e = one-end (descriptor m server fd) (on.Connection c) p open_on u in absurd (cc (e));
    files = no-file (descriptor m server fd) (on.Connection c) open_on refl;
  }

  -- a call on an end of a pipe touches only that pipe
  on-end : (k : Call) (f p : ℕ) (y : Descriptor) → descriptor m server f ≡ Some y
      → ((d : ℕ) → is_conn d (Some y) ≡ false) → ((q : ℕ) → is_end q (Some y) ≡ (p == q))
      → may_make k ≡ true → ((a : ℕ) → gives_up (event.Call server k) server a ≡ false)
      → ((d : ℕ)
      → touches_conn m (event.Call server k) d ≡ (list_any (is_conn d) (descriptor m server f ∷ []) || false))
      → ((q : ℕ) → touches_pipe m (event.Call server k) q ≡ (list_any (is_end q) (descriptor m server f ∷ []) || false))
      → ((g : ℕ) → touches_fd m (event.Call server k) server g ≡ true → has_end x g ≡ true)
      → changes_files m (event.Call server k) ≡ false
      → ((q : ℕ) → p ≡ q → MayTouch m x q) → Keeps k
  on-end k f p y open_on no_conn its_end kind aggs conns pipes fds files may = record {
    kind = kind;
    aggs = λ a u. absurd (clash (gives_up (event.Call server k) server a) u (aggs a));
    fds = fds;
    conns =
        λ d u. absurd (clash (is_conn d (Some y)) (one-conn (descriptor m server f) y d open_on (sym (conns d) ∙ u))
        (no_conn d));
    pipes =
        λ q u.
        may q (same-number p q (sym (its_end q) ∙ one-end (descriptor m server f) y q open_on (sym (pipes q) ∙ u)));
    files = files;
  }

  no-place : (f : ℕ) (y : Descriptor) (g : ℕ) → descriptor m server f ≡ Some y → is_file (Some y) ≡ false
      → ((f == g) && is_file (descriptor m server f)) ≡ true
      → has_end x g ≡ true
  no-place f y g open_on none u =
      absurd (clash ((f == g) && is_file (descriptor m server f)) u (no-position m f g y open_on none))

  writes : (f p a : ℕ) → descriptor m server f ≡ Some (on.WriteEnd p) → ((q : ℕ) → p ≡ q → MayTouch m x q)
      → Keeps (call.IolWrite f a)
  writes f p a open_on = on-end (call.IolWrite f a) f p (on.WriteEnd p) open_on (λ d. refl) (λ q. refl) refl (λ b. refl)
      (λ d. refl) (λ q. refl)
      (λ g u. no-place f (on.WriteEnd p) g open_on refl u)
      (no-file (descriptor m server f) (on.WriteEnd p) open_on refl)

  reads : (f p n : ℕ) → descriptor m server f ≡ Some (on.ReadEnd p) → ((q : ℕ) → p ≡ q → MayTouch m x q)
      → Keeps (call.IolRead f n)
  reads f p n open_on = on-end (call.IolRead f n) f p (on.ReadEnd p) open_on (λ d. refl) (λ q. refl) refl (λ b. refl)
      (λ d. refl) (λ q. refl)
      (λ g u. no-place f (on.ReadEnd p) g open_on refl u) refl

  closes : (f p : ℕ) (y : Descriptor) → descriptor m server f ≡ Some y → ((d : ℕ) → is_conn d (Some y) ≡ false)
      → ((q : ℕ) → is_end q (Some y) ≡ (p == q))
      → ((g : ℕ) → (f == g) ≡ true → has_end x g ≡ true) → ((q : ℕ) → p ≡ q → MayTouch m x q) → Keeps (call.Close f)
  closes f p y open_on no_conn its_end has =
      on-end (call.Close f) f p y open_on no_conn its_end refl (λ b. refl) (λ d. refl) (λ q. refl) has refl

  -- a phase that sends
  sends : (w : Wanted) (expected : List ℕ) (d : Phase) → descriptor m server fd ≡ Some (on.Connection c)
      → ((a : ℕ) → conn.uses_agg d a ≡ true → uses_agg x a ≡ true)
      → IsSending m expected d → Keeps (conn.next_call fd (in_phase w d))
  sends w expected (phase.MakingHead (Error status)) open_on uses is = makes (conn.text_of (serve w) (Error status))
  sends w expected (phase.SendingWhole s) open_on uses is = offers s.agg open_on
  sends w expected (phase.CuttingPiece s) open_on uses is = cuts s.agg s.from (piece_end s)
  sends w expected (phase.SendingPiece s piece) open_on uses is = offers piece open_on
  sends w expected (phase.DroppingPiece s piece) open_on uses is =
      drops piece (λ b u. uses b (former_of (piece == b) ((s.agg == b) || has_followed s.more b) u))
  sends w expected (phase.DroppingSent a taken None) open_on uses is =
      drops a (λ b u. uses b (former_of (a == b) false u))
  sends w expected (phase.AbortingPiece piece a None) open_on uses is =
      drops piece (λ b u. uses b (former_of (piece == b) ((a == b) || false) u))
  sends w expected (phase.Aborting a None) open_on uses is = drops a (λ b u. uses b (former_of (a == b) false u))
  sends w expected d open_on uses is = absurd is.0

to-end : (m : State) (f p q : ℕ) → descriptor m server f ≡ Some (on.ReadEnd p) → p ≡ q
    → descriptor m server f ≡ Some (on.ReadEnd q)
to-end m f p q open_on same = subst (λ z. descriptor m server f ≡ Some (on.ReadEnd z)) same open_on

from-end : (m : State) (f p q : ℕ) → descriptor m server f ≡ Some (on.WriteEnd p) → p ≡ q
    → descriptor m server f ≡ Some (on.WriteEnd q)
from-end m f p q open_on same = subst (λ z. descriptor m server f ≡ Some (on.WriteEnd z)) same open_on

module _ (job : ℕ → List ℕ) (m : State) (fd c : ℕ) (w : Wanted) (o : Progress) (run : Run)
    (open_on : descriptor m server fd ≡ Some (on.Connection c)) where
  -- the read end is one of its descriptors
  reading : (g : ℕ) → (run.from == g) ≡ true → ((run.from == g) || false) ≡ true
  reading g u = former_of (run.from == g) false u

  step-alone : (s : Step) → HasRun job m w o (InProgress run s)
      → KeepsToItself m fd c (InProgress run s) (step_call job fd w run s)
  step-alone (GivingPipe write) has =
      gives m fd c (InProgress run (GivingPipe write)) write (worker_domain run.worker)
      (λ g u. later_of (run.from == g) (write == g) u)
  step-alone (MakingJob f) has = makes m fd c (InProgress run (MakingJob f)) (job f)
  step-alone (WritingJob j f) has =
      writes m fd c (InProgress run (WritingJob j f)) (job_pipe run.worker) has.0.0 j has.0.1
      (λ q same. from-end m (job_pipe run.worker) has.0.0 q has.0.1 same)
  step-alone (DroppingJob j) has = drops m fd c (InProgress run (DroppingJob j)) j (λ a u. u)
  step-alone MakingHead has = makes m fd c (InProgress run MakingHead) (script_text w)
  step-alone (SendingPart d frame) has =
      sends m fd c (InProgress run (SendingPart d frame)) w has.1.part d open_on
      (λ a u. former_of (conn.uses_agg d a) (has_frame frame a) u)
      (part-sends m has.1.part d has.1.is_part has.1.within)
  step-alone (ReadingOutput held frame) has =
      reads m fd c (InProgress run (ReadingOutput held frame)) run.from has.1.reads.0 (CHUNK_BYTES - held_size held)
      has.1.reads.1
      (λ q same. to-end m run.from has.1.reads.0 q has.1.reads.1 same)
  step-alone (DroppingOutput a frame) has =
      drops m fd c (InProgress run (DroppingOutput a frame)) a (λ b u. former_of (a == b) (has_frame frame b) u)
  step-alone (JoiningOutput held size piece len frame) has =
      joins m fd c (InProgress run (JoiningOutput held size piece len frame)) held piece
      (λ a u. around (held == a) (piece == a) (has_frame frame a) u)
    where
      around : (x y z : Bool) → (x || y) ≡ true → (x || (y || z)) ≡ true
      around true y z u = refl
      around false y z u = former_of y z u
  step-alone (MakingFrame held) has = makes m fd c (InProgress run (MakingFrame held)) (frame_of CHUNK_BYTES)
  step-alone (FillingFrame held frame) has =
      replaces m fd c (InProgress run (FillingFrame held frame)) frame (place_in_frame CHUNK_BYTES)
      (place_in_frame CHUNK_BYTES) held
  step-alone (DroppingHeld held chunk len frame) has =
      drops m fd c (InProgress run (DroppingHeld held chunk len frame)) held
      (λ a u. former_of (held == a) ((chunk == a) || (frame == a)) u)
  step-alone (DroppingEnd b held frame) has =
      drops m fd c (InProgress run (DroppingEnd b held frame)) b
      (λ a u. former_of (b == a) (has_followed held a || has_frame frame a) u)
  step-alone (DiscardingHeld held frame) has =
      drops m fd c (InProgress run (DiscardingHeld held frame)) held
      (λ a u. former_of (held == a) (has_frame frame a) u)
  step-alone (ClosingOutput held frame) has =
      closes m fd c (InProgress run (ClosingOutput held frame)) run.from has.1.0.0 (on.ReadEnd has.1.0.0) has.1.0.1
      (λ d. refl)
      (λ q. refl) (λ g u. reading g u) (λ q same. to-end m run.from has.1.0.0 q has.1.0.1 same)
  step-alone (DroppingFrame frame held) has =
      drops m fd c (InProgress run (DroppingFrame frame held)) frame
      (λ a u. former_of (frame == a) (has_followed held a) u)
  step-alone (MakingEnd held) has = makes m fd c (InProgress run (MakingEnd held)) (end_around held)
  step-alone (FillingEnd held size frame) has =
      replaces m fd c (InProgress run (FillingEnd held size frame)) frame (place_in_frame size) (place_in_frame size)
      held
  step-alone (DroppingLast held chunk len frame) has =
      drops m fd c (InProgress run (DroppingLast held chunk len frame)) held
      (λ a u. former_of (held == a) ((chunk == a) || (frame == a)) u)
  step-alone (DroppingLastFrame frame chunk len) has =
      drops m fd c (InProgress run (DroppingLastFrame frame chunk len)) frame
      (λ a u. former_of (frame == a) (chunk == a) u)
  step-alone (ClosingPipe write) has =
      closes m fd c (InProgress run (ClosingPipe write)) write has.1.0.pipe (on.WriteEnd has.1.0.pipe) has.1.0.write_end
      (λ d. refl) (λ q. refl) (λ g u. later_of (run.from == g) (write == g) u)
      (λ q same. from-end m write has.1.0.pipe q has.1.0.write_end same)
  step-alone (DiscardingJob j) has = drops m fd c (InProgress run (DiscardingJob j)) j (λ a u. u)
  step-alone Failing has = closes m fd c (InProgress run Failing) run.from has.1.0.0 (on.ReadEnd has.1.0.0) has.1.0.1
      (λ d. refl)
      (λ q. refl) (λ g u. reading g u) (λ q same. to-end m run.from has.1.0.0 q has.1.0.1 same)

pub keeps-alone : (job : ℕ → List ℕ) (m : State) (fd c : ℕ) (w : Wanted) (x : Running) (o : Progress)
    → descriptor m server fd ≡ Some (on.Connection c)
    → is_over x ≡ false → HasRun job m w o x → KeepsToItself m fd c x (next_call job fd w x)
keeps-alone job m fd c w AwaitingWorker o open_on going has = record {
  kind = refl;
  aggs = λ a u. absurd (cc (u));
  fds = λ g u. absurd (cc (u));
  conns = λ d u. absurd (cc (u));
  pipes = λ p u. same-number (lowest m.pipes) p u;
  files = refl;
}
keeps-alone job m fd c w (InProgress run s) o open_on going has = step-alone job m fd c w o run open_on s has
keeps-alone job m fd c w (Finishing d) o open_on going has =
    let h = is-rest m w o d (not-false (is_left d) going) has in
    sends m fd c (Finishing d) w h.expected d open_on (λ a u. u) h.sends
keeps-alone job m fd c w Disconnecting o open_on going has = absurd (cc (going))

-- ---- a new pipe

-- only `Pipe` returns two descriptors
only-pipe : (m n : State) (d from write : ℕ) (k : Call) → StepsTo m (event.Call d k) (reply.Fds from write) n
    → k ≡ call.Pipe
only-pipe m n d from write call.Pipe step = refl
only-pipe m n d from write k step = let e = step.1 in absurd (cc (e))

no-pipe : (m : State) (fd : ℕ) (w : Wanted) (expected : List ℕ) (d : Phase) → IsSending m expected d
    → conn.next_call fd (in_phase w d) ≡ call.Pipe → ⊥
no-pipe m fd w expected (phase.Reading f) sends is = sends.0
no-pipe m fd w expected d sends is = cc (is)

pub opened : (job : ℕ → List ℕ) (m n : State) (fd worker : ℕ) (w : Wanted) (x : Running) (o : Progress) (from write : ℕ)
    (received : List ℕ) (g : ℕ)
    → is_over x ≡ false → HasRun job m w o x
    → StepsTo m (event.Call server (next_call job fd w x)) (reply.Fds from write) n
    → ((from == g) || (write == g)) ≡ true → has_end (after_reply worker w x (reply.Fds from write) received) g ≡ true
opened job m n fd worker w x o from write received g going has step u =
    by x going has (only-pipe m n server from write (next_call job fd w x) step)
  where
    by : (x : Running) → is_over x ≡ false → HasRun job m w o x → next_call job fd w x ≡ call.Pipe
        → has_end (after_reply worker w x (reply.Fds from write) received) g ≡ true
    by AwaitingWorker going has is = u
    by (Finishing d) going has is = let h = is-rest m w o d (not-false (is_left d) going) has in
        absurd (no-pipe m fd w h.expected d h.sends is)
    by (InProgress run (SendingPart d frame)) going has is =
        absurd (no-pipe m fd w has.1.part d (part-sends m has.1.part d has.1.is_part has.1.within) is)
    by x going has is = absurd (cc (is))
