-- A worker's turn changes only its own domain, and one pipe.
use Rattle.std.proofs.Common.{inl, inr, ◌≡◌, ◌≢◌, ℕ, ◌==◌, List, [], ◌∷◌, ap, ◌∙◌, refl, sym, subst, arith, Option}
use Rattle.std.proofs.Common.{Some, None, true, false, Bool}
use Rattle.std.specs.Prelude.{◌&&◌, ◌||◌, not, if◌then◌else◌, slice_get}
use Rattle.std.specs.List.{list_any}
use Rattle.std.proofs.lemmas.Bool.Decides.{nat_tests}
use Rattle.iol_core.specs.State.{State, descriptor, domain, pipe_at, conn_at, pool, is_live}
use Rattle.iol_core.specs.Calls.Writes.{is_file}
use Rattle.iol_core.specs.Run.{StepsTo}
use Rattle.iol_core.specs.declared.descriptors.Descriptor.{Descriptor}
use Rattle.iol_core.specs.declared.descriptors.Descriptor.TheVariants as on
use Rattle.iol_core.specs.declared.descriptors.Mode.TheVariants.{Read}
use Rattle.iol_core.specs.declared.events.Call.{Call}
use Rattle.iol_core.specs.declared.events.Call.TheVariants as call
use Rattle.iol_core.specs.declared.events.Event.TheVariants as event
use Rattle.iol_core.specs.declared.events.Reply.{Reply}
use Rattle.iol_core.specs.declared.events.Reply.TheVariants as reply
use Rattle.iol_laws.specs.Aggregates.{AggregatesComeAndGo, brings}
use Rattle.iol_laws.specs.Caller.{readable_at}
use Rattle.iol_laws.specs.Frame.{EachStepLeavesTheRest, Leaves, admits_to, changes_files, closes_pool, ends, is_conn}
use Rattle.iol_laws.specs.Frame.{is_end, sets_default, touches_conn, touches_fd, touches_pipe}
use Rattle.iol_laws.specs.DescriptorNumbers.{DescriptorsComeByReplies, opens}
use Rattle.iol_proc.specs.Turns.{Comes as ComesOf, ProcessSlotTurn}
use Rattle.iol_proc.specs.World.{copying}
use Rattle.iol_proc.specs.declared.process.Turn.{Turn}
use Rattle.iol_proc.specs.declared.process.Turn.TheVariants as turn
use Rattle.iol_proc.specs.declared.process_slot.ProcessSlot.{ProcessSlot}
use Rattle.flash_cgi.specs.Collecting.{Collected}
use Rattle.flash_cgi.specs.Feeds.{Needs}
use Rattle.flash_cgi.specs.Job.{Task}
use Rattle.flash_cgi.specs.Frame.{LeavesAllBut, WorkersAreConfined}
use Rattle.flash_cgi.specs.Output.{Outcome}
use Rattle.flash_cgi.specs.Turns.{IsFree, HasRead, IsRunning, filed_step, is_given, or_again}
use Rattle.flash_cgi.specs.Standstill.{is_over}
use Rattle.flash_cgi.specs.WorkerSteps.{call_at, phase_call, expected_now, next_call, after_reply, after_phase}
use Rattle.flash_cgi.specs.Works.{files, proceeds, works, works_as, worker_turns}
use Rattle.flash_cgi.specs.declared.line.Line.{Line}
use Rattle.flash_cgi.specs.declared.line.Line.TheVariants as line
use Rattle.flash_cgi.specs.declared.phase.Phase.{Phase}
use Rattle.flash_cgi.specs.declared.phase.Phase.TheVariants as phase
use Rattle.flash_cgi.specs.declared.phase.Standing.{Standing}
use Rattle.flash_cgi.specs.declared.phase.Standing.TheVariants as standing
use Rattle.flash_cgi.specs.declared.phase.Step.{Step}
use Rattle.flash_cgi.specs.declared.worker.Worker.{Worker}
use Rattle.flash_cgi.proofs.Beside.{no_gift, no_touch, values_stay}
use Rattle.flash_cgi.proofs.OutputByTurn.{readable-live}

-- ---- calls that use only a file, or one pipe

is_but : (p : ℕ) → Option Descriptor → Bool
is_but p (Some (on.ReadEnd q)) = q == p
is_but p (Some (on.WriteEnd q)) = q == p
is_but p (Some (on.Connection c)) = false
is_but p o = true

abbrev keeps_to : State → (d p : ℕ) → Call → Bool
keeps_to m d p (call.AggMake bytes) = true
keeps_to m d p (call.AggCut a from to) = true
keeps_to m d p (call.AggDrop a) = true
keeps_to m d p (call.AggSplit a at) = true
keeps_to m d p (call.AggJoin a b) = true
keeps_to m d p (call.AggReplace a from to b) = true
keeps_to m d p (call.SetPool q) = true
keeps_to m d p (call.OpenFile name mode) = true
keeps_to m d p (call.Close fd) = is_but p (descriptor m d fd)
keeps_to m d p (call.IolRead fd n) = is_but p (descriptor m d fd)
keeps_to m d p (call.IolWrite fd a) = is_but p (descriptor m d fd) && not (is_file (descriptor m d fd))
keeps_to m d p k = false

first_of : (a b : Bool) → (a && b) ≡ true → a ≡ true
first_of true b is = refl
first_of false b is = absurd (cc (is))

second_of : (a b : Bool) → (a && not b) ≡ true → b ≡ false
second_of true true is = absurd (cc (is))
second_of true false is = refl
second_of false b is = absurd (cc (is))

no_conn : (p c : ℕ) (o : Option Descriptor) → is_but p o ≡ true → list_any (is_conn c) (o ∷ []) ≡ false
unfolding is_but
no_conn p c (Some (on.Connection e)) is = absurd (cc (is))
no_conn p c o is = refl

same_pipe : (q p r : ℕ) → (q == p) ≡ true → r ≢ p → ((q == r) || false) ≡ false
same_pipe q p r is differ = grind (arith, nat_tests, is, differ)

no_end : (p r : ℕ) (o : Option Descriptor) → r ≢ p → is_but p o ≡ true → list_any (is_end r) (o ∷ []) ≡ false
unfolding is_but
no_end p r (Some (on.ReadEnd q)) differ is = same_pipe q p r is differ
no_end p r (Some (on.WriteEnd q)) differ is = same_pipe q p r is differ
no_end p r (Some (on.Connection e)) differ is = absurd (cc (is))
no_end p r o differ is = refl

or_none : (b : Bool) → b ≡ false → (b || false) ≡ false
or_none b is = ap (λ x. x || false) is

at_pipe : (p j : ℕ) → is_but p (Some (on.ReadEnd j)) ≡ true → j ≡ p
unfolding is_but
at_pipe p j one = grind (arith, nat_tests, one)

module _ (m : State) (d p : ℕ) where
  conn_free : (k : Call) (c : ℕ) → keeps_to m d p k ≡ true → touches_conn m (event.Call d k) c ≡ false
  conn_free (call.AggMake bytes) c is = refl
  conn_free (call.AggCut a from to) c is = refl
  conn_free (call.AggDrop a) c is = refl
  conn_free (call.AggSplit a at) c is = refl
  conn_free (call.AggJoin a b) c is = refl
  conn_free (call.AggReplace a from to b) c is = refl
  conn_free (call.SetPool q) c is = refl
  conn_free (call.OpenFile name mode) c is = refl
  conn_free (call.Close fd) c is = or_none _ (no_conn p c (descriptor m d fd) is)
  conn_free (call.IolRead fd n) c is = or_none _ (no_conn p c (descriptor m d fd) is)
  conn_free (call.IolWrite fd a) c is = or_none _ (no_conn p c (descriptor m d fd) (first_of _ _ is))
  conn_free k c is = absurd (cc (is))

  pipe_free : (k : Call) (r : ℕ) → r ≢ p → keeps_to m d p k ≡ true → touches_pipe m (event.Call d k) r ≡ false
  pipe_free (call.AggMake bytes) r differ is = refl
  pipe_free (call.AggCut a from to) r differ is = refl
  pipe_free (call.AggDrop a) r differ is = refl
  pipe_free (call.AggSplit a at) r differ is = refl
  pipe_free (call.AggJoin a b) r differ is = refl
  pipe_free (call.AggReplace a from to b) r differ is = refl
  pipe_free (call.SetPool q) r differ is = refl
  pipe_free (call.OpenFile name mode) r differ is = refl
  pipe_free (call.Close fd) r differ is = or_none _ (no_end p r (descriptor m d fd) differ is)
  pipe_free (call.IolRead fd n) r differ is = or_none _ (no_end p r (descriptor m d fd) differ is)
  pipe_free (call.IolWrite fd a) r differ is = or_none _ (no_end p r (descriptor m d fd) differ (first_of _ _ is))
  pipe_free k r differ is = absurd (cc (is))

  file_free : (k : Call) → keeps_to m d p k ≡ true → changes_files m (event.Call d k) ≡ false
  file_free (call.AggMake bytes) is = refl
  file_free (call.AggCut a from to) is = refl
  file_free (call.AggDrop a) is = refl
  file_free (call.AggSplit a at) is = refl
  file_free (call.AggJoin a b) is = refl
  file_free (call.AggReplace a from to b) is = refl
  file_free (call.SetPool q) is = refl
  file_free (call.OpenFile name mode) is = refl
  file_free (call.Close fd) is = refl
  file_free (call.IolRead fd n) is = refl
  file_free (call.IolWrite fd a) is = second_of (is_but p (descriptor m d fd)) (is_file (descriptor m d fd)) is
  file_free k is = absurd (cc (is))

  pool_free : (k : Call) (q : ℕ) → keeps_to m d p k ≡ true → (closes_pool (event.Call d k) q ≡ false)
      × (admits_to (event.Call d k) q ≡ false)
  pool_free (call.PoolClose x) q is = absurd (cc (is))
  pool_free (call.PoolAdmit x e) q is = absurd (cc (is))
  pool_free k q is = (refl, refl)

  life_free : (k : Call) (e : ℕ) → keeps_to m d p k ≡ true → ends (event.Call d k) e ≡ false
  life_free call.Exit e is = absurd (cc (is))
  life_free k e is = refl

  default_free : (k : Call) (e : ℕ) → keeps_to m d p k ≡ true → (d == e) ≡ false
      → sets_default (event.Call d k) e ≡ false
  default_free call.Exit e is other = other
  default_free (call.SetPool q) e is other = other
  default_free k e is other = refl

  fd_free : (k : Call) (r : Reply) (e fd : ℕ) → keeps_to m d p k ≡ true → (d == e) ≡ false
      → opens (event.Call d k) r e fd ≡ false
  fd_free (call.GiveFd f to) r e fd is other = absurd (cc (is))
  fd_free k (reply.Fd g) e fd is other = ap (λ b. b && (g == fd)) other
  fd_free k (reply.Fds g h) e fd is other = ap (λ b. b && ((g == fd) || (h == fd))) other
  fd_free k r e fd is other = refl

  agg_free : (k : Call) (r : Reply) (e a : ℕ) → keeps_to m d p k ≡ true → (d == e) ≡ false
      → brings (event.Call d k) r e a ≡ false
  agg_free (call.AggGive x to) r e a is other = absurd (cc (is))
  agg_free k (reply.Agg b) e a is other = ap (λ t. t && (b == a)) other
  agg_free k (reply.Aggs b c) e a is other = ap (λ t. t && ((b == a) || (c == a))) other
  agg_free k r e a is other = refl

  -- it does not close its job pipe
  at_job_queue : (fd j : ℕ) → j ≢ p → descriptor m d 0 ≡ Some (on.ReadEnd j) → is_but p (descriptor m d fd) ≡ true
      → (fd == 0) ≡ false
  at_job_queue fd j differ opened is = by (fd == 0) refl
    where
      by : (b : Bool) → (fd == 0) ≡ b → (fd == 0) ≡ false
      by false is_b = is_b
      by true is_b =
          let zero_is : fd ≡ 0 = grind (arith, nat_tests, is_b) in
          absurd (differ (at_pipe p j (sym (ap (λ o. is_but p o) (ap (λ k. descriptor m d k) zero_is ∙ opened)) ∙ is)))

  no_file_end : (fd : ℕ) (j : ℕ) → descriptor m d 0 ≡ Some (on.ReadEnd j)
      → ((d == d) && (fd == 0) && is_file (descriptor m d fd)) ≡ false
  no_file_end fd j opened = by (fd == 0) refl
    where
      none : (b : Bool) → (b && false) ≡ false
      none true = refl
      none false = refl

      by : (b : Bool) → (fd == 0) ≡ b → ((d == d) && (fd == 0) && is_file (descriptor m d fd)) ≡ false
      by false is_b = (let e : ((d == d) && (fd == 0)) ≡ false = ap (λ b. (d == d) && b) is_b ∙ none (d == d) in
          ap (λ b. b && is_file (descriptor m d fd)) e)
      by true is_b =
          let zero_is : fd ≡ 0 = grind (arith, nat_tests, is_b) in
          ap (λ o. (d == d) && (fd == 0) && is_file o) (ap (λ k. descriptor m d k) zero_is ∙ opened)
          ∙ none ((d == d) && (fd == 0))

  job_queue_free : (k : Call) (j : ℕ) → j ≢ p → descriptor m d 0 ≡ Some (on.ReadEnd j) → keeps_to m d p k ≡ true
      → touches_fd m (event.Call d k) d 0 ≡ false
  job_queue_free (call.AggMake bytes) j differ opened is = refl
  job_queue_free (call.AggCut a from to) j differ opened is = refl
  job_queue_free (call.AggDrop a) j differ opened is = refl
  job_queue_free (call.AggSplit a at) j differ opened is = refl
  job_queue_free (call.AggJoin a b) j differ opened is = refl
  job_queue_free (call.AggReplace a from to b) j differ opened is = refl
  job_queue_free (call.SetPool q) j differ opened is = refl
  job_queue_free (call.OpenFile name mode) j differ opened is = refl
  job_queue_free (call.Close fd) j differ opened is =
      (let e = at_job_queue fd j differ opened is in grind (arith, nat_tests, e))
  job_queue_free (call.IolRead fd n) j differ opened is = no_file_end fd j opened
  job_queue_free (call.IolWrite fd a) j differ opened is = no_file_end fd j opened
  job_queue_free k j differ opened is = absurd (cc (is))

module _ (steps : EachStepLeavesTheRest) (come : AggregatesComeAndGo) (by_reply : DescriptorsComeByReplies)
    (m n : State) (d p : ℕ) where
  other_domain : (e : ℕ) → e ≢ d → (d == e) ≡ false
  other_domain e differ = grind (arith, nat_tests, differ)

  called : (k : Call) (r : Reply) → StepsTo m (event.Call d k) r n → keeps_to m d p k ≡ true → LeavesAllBut m d p n
  called k r step is = record {
    conns = λ c. leaves.conns c (conn_free m d p k c is);
    pipes = λ q differ. leaves.pipes q (pipe_free m d p k q differ is);
    files = leaves.files (file_free m d p k is);
    pools = λ q there. (let f = pool_free m d p k q is in leaves.pools q there f.0 f.1);
    lives = λ e lives. leaves.lives e lives (life_free m d p k e is);
    defaults = λ e differ lives. leaves.defaults e lives (default_free m d p k e is (other_domain e differ));
    fds = λ e fd differ. fd_stays e fd differ (descriptor m e fd) refl;
    aggs = λ e a differ. agg_stays e a differ (readable_at m e a) refl;
    job_queue = λ j differ opened. leaves.fds d 0 (on.ReadEnd j) opened (job_queue_free m d p k j differ opened is);
  }
    where
      leaves : Leaves m (event.Call d k) n
      leaves = steps.leaves m n (event.Call d k) r step

      fd_stays : (e fd : ℕ) → e ≢ d → (o : Option Descriptor) → descriptor m e fd ≡ o
          → descriptor n e fd ≡ descriptor m e fd
      fd_stays e fd differ None none =
          by_reply.none m n (event.Call d k) r e fd step none (fd_free m d p k r e fd is (other_domain e differ))
          ∙ sym none
      fd_stays e fd differ (Some x) opened =
          leaves.fds e fd x opened (no_touch m (event.Call d k) e fd (other_domain e differ)) ∙ sym opened

      agg_stays : (e a : ℕ) → e ≢ d → (o : Option (List ℕ)) → readable_at m e a ≡ o
          → readable_at n e a ≡ readable_at m e a
      agg_stays e a differ None none =
          come.none m n (event.Call d k) r e a step none (agg_free m d p k r e a is (other_domain e differ)) ∙ sym none
      agg_stays e a differ (Some bytes) readable =
          values_stay m n (event.Call d k) e a bytes (steps.values m n (event.Call d k) r step) readable
          (no_gift (event.Call d k) e a (other_domain e differ)) ∙ sym readable

  same : n ≡ m → LeavesAllBut m d p n
  same is = record {
    conns = λ c. ap (λ u. conn_at u c) is;
    pipes = λ q differ. ap (λ u. pipe_at u q) is;
    files = (ap (λ (u : State). u.files) is, ap (λ (u : State). u.slots) is);
    pools = λ q there. ap (λ u. pool u q) is;
    lives = λ e lives. ap (λ u. is_live u e) is ∙ lives;
    defaults = λ e differ lives. ap (λ u. (domain u e).default) is;
    fds = λ e fd differ. ap (λ u. descriptor u e fd) is;
    aggs = λ e a differ. ap (λ u. readable_at u e a) is;
    job_queue = λ j differ opened. ap (λ u. descriptor u d 0) is ∙ opened;
  }

  turned : (t : Turn) (r : Reply) (yields : Bool) → ComesOf copying worker_turns m d t yields r n
      → ((k : Call) → t ≡ turn.Make k → keeps_to m d p k ≡ true) → LeavesAllBut m d p n
  turned turn.Yield r yields comes keeps = same comes.2
  turned (turn.Make k) r yields comes keeps = called k r comes.1 (keeps k refl)

-- ---- the call of a turn

made_is : (k c : Call) → turn.Make k ≡ turn.Make c → k ≡ c
made_is k c e = cc

-- It makes the call of its step after the last reply is processed, and is at that step afterwards.
pub record MakesCall (w v : Worker) (k : Call) (step : Step) : Type 0 where
  pub call_is : k ≡ call_at w.job step
  pub job_is : v.job ≡ w.job
  pub step_is : v.step ≡ step
  pub asked : v.standing ≡ standing.Asked

makes : (w v x : Worker) (k : Call) (step : Step) → turn.Make k ≡ turn.Make (call_at w.job step) → v ≡ x → x.job ≡ w.job
    → x.step ≡ step → x.standing ≡ standing.Asked → MakesCall w v k step
makes w v x k step call_is is job_is step_is asked = record {
  call_is = made_is k (call_at w.job step) call_is;
  job_is = ap (λ (y : Worker). y.job) is ∙ job_is;
  step_is = ap (λ (y : Worker). y.step) is ∙ step_is;
  asked = ap (λ (y : Worker). y.standing) is ∙ asked;
}

pub makes_call : (w v : Worker) (k : Call) (l : Reply) (readable : ℕ → Option (List ℕ)) (s : Standing) → w.standing ≡ s
    → is_over s ≡ false
    → (s ≡ standing.Asked → is_given w.step.phase l ≡ false) → works_as s w l readable (turn.Make k) v
    → MakesCall w v k (filed_step s w readable l)
makes_call w v k l readable standing.Over is goes un did = absurd (cc (goes))
makes_call w v k l readable standing.Asks is goes un did =
    makes w v (record w { standing = standing.Asked }) k w.step did.0 did.1 refl refl refl
makes_call w v k l readable standing.Asked is goes un did = filed w.step.phase l (un refl) did
  where
    on : (o : Option Step) → proceeds w o (turn.Make k) v → MakesCall w v k (or_again o w.step)
    on (Some step) did = makes w v (record w { step = step }) k step did.0 did.1 refl refl is
    on None did = (let e = did.0 in absurd (cc (e)))

    filed : (x : Phase) (y : Reply) → is_given x y ≡ false → files w x y readable (turn.Make k) v
        → MakesCall w v k (or_again (after_reply w.job w.step readable y) w.step)
    filed phase.Waiting (reply.Agg a) given did = absurd (cc (given))
    filed x y given did = on (after_reply w.job w.step readable y) did

-- the call of a step uses only files and the output pipe
line_keeps : (m : State) (d p : ℕ) (job : Task) (l : Option Line) → is_but p (descriptor m d job.fd) ≡ true
    → keeps_to m d p (next_call job l) ≡ true
line_keeps m d p job None is = is
line_keeps m d p job (Some (line.Cat name)) is = refl
line_keeps m d p job (Some (line.Wc name)) is = refl
line_keeps m d p job o is = refl

begin_keeps : (m : State) (d p : ℕ) (job : Task) (x : Collected) (l : Option Line) (t : Bool)
    → is_but p (descriptor m d job.fd) ≡ true → keeps_to m d p (if t then call.AggMake x.text else next_call job l)
    ≡ true
begin_keeps m d p job x l true is = refl
begin_keeps m d p job x l false is = line_keeps m d p job l is

output_is : (m : State) (d p fd : ℕ) → descriptor m d fd ≡ Some (on.WriteEnd p) → (is_but p (descriptor m d fd) ≡ true)
    × (is_file (descriptor m d fd) ≡ false)
unfolding is_but
output_is m d p fd opened = (ap (λ o. is_but p o) opened ∙ grind (arith, nat_tests), ap (λ o. is_file o) opened)

file_is : (m : State) (d p fd f at : ℕ) → descriptor m d fd ≡ Some (on.File f at Read)
    → is_but p (descriptor m d fd) ≡ true
unfolding is_but
file_is m d p fd f at opened = ap (λ o. is_but p o) opened

both : (a b : Bool) → a ≡ true → b ≡ false → (a && not b) ≡ true
both true false one two = refl
both true true one two = absurd (cc (two))
both false b one two = absurd (cc (one))

step_keeps : (m : State) (d p : ℕ) (job : Task) (x : Collected) (begun : ℕ) (y : Phase)
    → descriptor m d job.fd ≡ Some (on.WriteEnd p) → Needs m d y → keeps_to m d p (phase_call job x begun y) ≡ true
step_keeps m d p job x begun phase.Waiting opened h = absurd h
step_keeps m d p job x begun (phase.DroppingOther a) opened h = absurd h
step_keeps m d p job x begun (phase.Aborting a) opened h = absurd h
step_keeps m d p job x begun phase.Interpreting opened h =
    begin_keeps m d p job x (slice_get job.lines begun) (expected_now job x begun) (output_is m d p job.fd opened).0
step_keeps m d p job x begun (phase.Reading file u) opened h = file_is m d p file h.number h.place h.open_on
step_keeps m d p job x begun (phase.ClosingFile file a) opened h = file_is m d p file h.0.0 h.0.1 h.0.2
step_keeps m d p job x begun (phase.ClosingCounted file s) opened h = file_is m d p file h.0 h.1 h.2
step_keeps m d p job x begun (phase.Writing a) opened h = (let o = output_is m d p job.fd opened in both _ _ o.0 o.1)
step_keeps m d p job x begun y opened h = refl

-- a worker that runs a script was not given a text: it would be waiting
given_waits : (m : State) (d : ℕ) (x : Phase) (y : Reply) (w : Worker) (readable : ℕ → Option (List ℕ))
    → w.step.phase ≡ x → Needs m d (or_again (after_phase readable w.job w.step.piece w.step.begun x y) w.step).phase
    → is_given x y ≡ false
given_waits m d phase.Waiting (reply.Agg a) w readable at h = absurd (subst (λ (z : Phase). Needs m d z) at h)
given_waits m d x y w readable at h = refl

pub run_is_not_given : (m : State) (d : ℕ) (w : Worker) (l : Reply) (readable : ℕ → Option (List ℕ)) (s : Standing)
    → s ≡ standing.Asked → Needs m d (filed_step s w readable l).phase → is_given w.step.phase l ≡ false
run_is_not_given m d w l readable s asked h =
    given_waits m d w.step.phase l w readable refl
    (subst (λ (z : Standing). Needs m d (filed_step z w readable l).phase) asked h)

module _ (steps : EachStepLeavesTheRest) (come : AggregatesComeAndGo) (by_reply : DescriptorsComeByReplies) where
  -- a live worker whose calls use only files and the pipe changes nothing outside its domain and the pipe
  confined : (m n : State) (p : ℕ) (process_slot next : ProcessSlot Worker) (yields : Bool) (r : Reply)
      → is_live m process_slot.by ≡ true
      → ((k : Call) (v : Worker)
      → works process_slot.process process_slot.last (readable_at m process_slot.by) (turn.Make k) v
      → keeps_to m process_slot.by p k ≡ true)
      → ProcessSlotTurn copying worker_turns m process_slot yields r n next → LeavesAllBut m process_slot.by p n
  confined m n p process_slot next yields r live keeps (inl starved) =
      same steps come by_reply m n process_slot.by p starved.machine_stays
  confined m n p process_slot next yields r live keeps (inr did) =
      let goes =
      subst (λ (l : ℕ → Option (List ℕ)). works process_slot.process process_slot.last l did.turn next.process)
      (readable-live m process_slot.by live) did.proceeds in
      turned steps come by_reply m n process_slot.by p did.turn r yields did.comes
      (λ k is. keeps k next.process
      (subst (λ (t : Turn). works process_slot.process process_slot.last (readable_at m process_slot.by) t
      next.process) is goes))

  free_keeps : (m : State) (j : ℕ) (process_slot : ProcessSlot Worker) → IsFree m process_slot
      → descriptor m process_slot.by 0 ≡ Some (on.ReadEnd j)
      → (k : Call) (v : Worker)
      → works process_slot.process process_slot.last (readable_at m process_slot.by) (turn.Make k) v
      → k ≡ call.IolRead 0 65536
  free_keeps m j process_slot free opened k v did =
      let w : Worker = process_slot.process in
      let step : Step = filed_step w.standing w (readable_at m process_slot.by) process_slot.last in
      (makes_call w v k process_slot.last (readable_at m process_slot.by) w.standing refl free.not_over free.not_given
      did).call_is ∙ ap (λ (x : Phase). phase_call w.job step.piece step.begun x) free.waits

  job_queue_is : (m : State) (d j : ℕ) → descriptor m d 0 ≡ Some (on.ReadEnd j) → is_but j (descriptor m d 0) ≡ true
  unfolding is_but
  job_queue_is m d j opened = ap (λ o. is_but j o) opened ∙ grind (arith, nat_tests)

  free : (m n : State) (j : ℕ) (process_slot next : ProcessSlot Worker) (yields : Bool) (r : Reply)
      → is_live m process_slot.by ≡ true
      → IsFree m process_slot → descriptor m process_slot.by 0 ≡ Some (on.ReadEnd j)
      → ProcessSlotTurn copying worker_turns m process_slot yields r n next
      → LeavesAllBut m process_slot.by j n × (descriptor n process_slot.by 0 ≡ Some (on.ReadEnd j))
  free m n j process_slot next yields r live is_free opened did = (
    confined m n j process_slot next yields r live
        (λ k v goes. ap (λ c. keeps_to m process_slot.by j c) (free_keeps m j process_slot is_free opened k v goes)
        ∙ job_queue_is m process_slot.by j opened) did,
    kept did,
  )
    where
      read : (t : Turn) (y : Bool) → ComesOf copying worker_turns m process_slot.by t y r n
          → ((k : Call) → t ≡ turn.Make k → k ≡ call.IolRead 0 65536)
          → descriptor n process_slot.by 0 ≡ Some (on.ReadEnd j)
      read turn.Yield y comes is = ap (λ u. descriptor u process_slot.by 0) comes.2 ∙ opened
      read (turn.Make k) y comes is =
          let step = subst (λ c. StepsTo m (event.Call process_slot.by c) r n) (is k refl) comes.1 in
          (steps.leaves m n (event.Call process_slot.by (call.IolRead 0 65536)) r step).fds process_slot.by 0
          (on.ReadEnd j) opened (no_file_end m process_slot.by j 0 j opened)

      kept : ProcessSlotTurn copying worker_turns m process_slot yields r n next
          → descriptor n process_slot.by 0 ≡ Some (on.ReadEnd j)
      kept (inl starved) = ap (λ u. descriptor u process_slot.by 0) starved.machine_stays ∙ opened
      kept (inr did) =
          let goes =
          subst (λ (l : ℕ → Option (List ℕ)). works process_slot.process process_slot.last l did.turn next.process)
          (readable-live m process_slot.by live) did.proceeds in
          read did.turn yields did.comes
          (λ k is. free_keeps m j process_slot is_free opened k next.process
          (subst (λ (t : Turn). works process_slot.process process_slot.last (readable_at m process_slot.by) t
          next.process) is goes))

  begins : (m n : State) (p : ℕ) (process_slot next : ProcessSlot Worker) (yields : Bool) (r : Reply)
      (unseen : List Outcome → List ℕ)
      → HasRead m p process_slot unseen → ProcessSlotTurn copying worker_turns m process_slot yields r n next
      → LeavesAllBut m process_slot.by p n
  begins m n p process_slot next yields r unseen h did =
      confined m n p process_slot next yields r h.begins.feeds.live keeps did
    where
      keeps : (k : Call) (v : Worker)
          → works process_slot.process process_slot.last (readable_at m process_slot.by) (turn.Make k) v
          → keeps_to m process_slot.by p k ≡ true
      keeps k v goes =
          let w : Worker = process_slot.process in
          let filed =
          subst (λ (s : Standing). works_as s w process_slot.last (readable_at m process_slot.by) (turn.Make k) v)
          h.asked goes in
          let took = subst (λ (l : Reply). files w phase.Waiting l (readable_at m process_slot.by) (turn.Make k) v)
          h.last
          (subst (λ (x : Phase). files w x process_slot.last (readable_at m process_slot.by) (turn.Make k) v) h.waits
          filed) in
          ap (λ c. keeps_to m process_slot.by p c) (made_is k (call.AggDrop h.agg) took.0)

  runs : (m n : State) (p : ℕ) (process_slot next : ProcessSlot Worker) (yields : Bool) (r : Reply)
      (unseen : List Outcome → List ℕ)
      → IsRunning m p process_slot unseen → ProcessSlotTurn copying worker_turns m process_slot yields r n next
      → LeavesAllBut m process_slot.by p n
  runs m n p process_slot next yields r unseen i did = confined m n p process_slot next yields r i.feeds.live keeps did
    where
      keeps : (k : Call) (v : Worker)
          → works process_slot.process process_slot.last (readable_at m process_slot.by) (turn.Make k) v
          → keeps_to m process_slot.by p k ≡ true
      keeps k v goes =
          let w : Worker = process_slot.process in
          let step : Step = filed_step w.standing w (readable_at m process_slot.by) process_slot.last in
          let is = makes_call w v k process_slot.last (readable_at m process_slot.by) w.standing refl i.not_over
          (λ asked. run_is_not_given m process_slot.by w process_slot.last (readable_at m process_slot.by)
          w.standing asked i.feeds.needs) goes in
          ap (λ c. keeps_to m process_slot.by p c) is.call_is
          ∙ step_keeps m process_slot.by p w.job step.piece step.begun step.phase i.feeds.open_on i.feeds.needs

pub workers_are_confined : EachStepLeavesTheRest → AggregatesComeAndGo → DescriptorsComeByReplies → WorkersAreConfined
workers_are_confined steps come by_reply = record {
  free = free steps come by_reply;
  begins = begins steps come by_reply;
  runs = runs steps come by_reply;
}
