-- The information that a reply gives on the aggregates that a worker writes, and when its call is retried.
use Rattle.std.proofs.Common.{◌≡◌, ◌≢◌, ℕ, ◌+◌, ◌-◌, ◌*◌, ◌==◌, ◌<◌, ◌≤◌, List, [], length, take, drop, ap, ◌∙◌, refl}
use Rattle.std.proofs.Common.{sym, subst, arith, Option, Some, None, true, false, Bool, if◌then◌else◌}
use Rattle.std.specs.Prelude.{unwrap_or, option_map, ◌&&◌, not, nat_le, nat_lt, slice_get, slice_range}
use Rattle.std.proofs.lemmas.Bool.Decides.{nat_tests}
use Rattle.std.proofs.lemmas.List.{length-map, length-take}
use Rattle.iol_core.specs.Text.{Text, bytes_of}
use Rattle.iol_core.specs.State.{State, aggregate, descriptor, text}
use Rattle.iol_core.specs.Calls.Writes.{fitting, takes_none}
use Rattle.iol_core.specs.Run.{StepsTo, meaning}
use Rattle.iol_core.proofs.TestedLists.{passed, when-none}
use Rattle.iol_core.specs.declared.descriptors.Descriptor.{Descriptor}
use Rattle.iol_core.specs.declared.descriptors.Descriptor.TheVariants as on
use Rattle.iol_core.specs.declared.events.Call.TheVariants as call
use Rattle.iol_core.specs.declared.events.Event.{Event}
use Rattle.iol_core.specs.declared.events.Event.TheVariants as event
use Rattle.iol_core.specs.declared.events.Reply.{Reply}
use Rattle.iol_core.specs.declared.events.Reply.TheVariants as reply
use Rattle.iol_core.specs.declared.refusals.Refusal.{Refusal}
use Rattle.iol_core.specs.declared.refusals.Refusal.TheVariants as refuse
use Rattle.iol_laws.specs.Caller.{CallsServeTheirDomain, Makes, WritesPipe, readable_at}
use Rattle.iol_laws.specs.Frame.{EachStepLeavesTheRest}
use Rattle.iol_laws.specs.Order.{IsOrderly}
use Rattle.flash_cgi.specs.Beside.{is_call_of}
use Rattle.flash_cgi.specs.Collecting.{Collected, bytes_of_one, is_nothing, with_next}
use Rattle.flash_cgi.specs.Feeds.{HasBytes}
use Rattle.flash_cgi.specs.Job.{Task}
use Rattle.flash_cgi.specs.WorkerSteps.{at, bytes_at, phase_call, expected_now, file_collected, line_call, make_call}
use Rattle.flash_cgi.specs.WorkerSteps.{next_call, after_breaking, after_phase, after_dropping, after_line}
use Rattle.flash_cgi.specs.WorkerSteps.{after_making, after_next}
use Rattle.flash_cgi.specs.declared.line.Line.{Line}
use Rattle.flash_cgi.specs.declared.line.Line.TheVariants as line
use Rattle.flash_cgi.specs.declared.phase.Phase.{Phase}
use Rattle.flash_cgi.specs.declared.phase.Phase.TheVariants as phase
use Rattle.flash_cgi.specs.declared.phase.Step.{Step}
use Rattle.flash_cgi.proofs.Beside.{no_gift, values_stay}
use Rattle.flash_cgi.proofs.StaysByCall.{and_false, is_bytes, not-equal, same_bytes}
use Rattle.flash_cgi.specs.declared.piece.TheConstants.{MAX_COLLECTED_BYTES}
use Rattle.flash_workers.specs.Advance.{IsReady, calls_left, rank, stage}
use Rattle.flash_workers.proofs.Falls.{Facts}

-- ---- a write of a non-empty aggregate takes some bytes

text-long : (m : State) (d a : ℕ) (bytes : List ℕ) → readable_at m d a ≡ Some bytes → length (text m d a) ≡ length bytes
text-long m d a bytes readable = by (aggregate m d a) readable
  where
    by : (t : Option Text) → option_map bytes_of t ≡ Some bytes → length (unwrap_or t []) ≡ length bytes
    by None is = absurd (cc (is))
    by (Some t) is = sym (length-map t (λ b. b.0)) ∙ ap (λ (o : Option (List ℕ)). length (unwrap_or o [])) is

abbrev counted : Reply → ℕ
counted (reply.Count j) = j
counted r = 0

some-of : (k f l : ℕ) (bytes : List ℕ) → k ≡ f → l ≡ length bytes → (nat_lt 0 l && (f == 0)) ≡ false → 0 < length bytes
    → 0 < k
some-of k f l bytes after_reply long fits some =
    let big : nat_lt 0 l ≡ true = grind (arith, nat_tests, long, some) in
    let not_none : (f == 0) ≡ false = subst (λ b. (b && (f == 0)) ≡ false) big fits in
    grind (arith, nat_tests, after_reply, not_none)

some-taken : (m n : State) (d fd a k : ℕ) (bytes : List ℕ) → readable_at m d a ≡ Some bytes → 0 < length bytes
    → StepsTo m (event.Call d (call.IolWrite fd a)) (reply.Count k) n → 0 < k
some-taken m n d fd a k bytes readable some step =
    let to : Option Descriptor = descriptor m d fd in
    some-of k (fitting m to (length (text m d a))) (length (text m d a)) bytes (ap (λ (z : Reply). counted z) step.1)
    (text-long m d a bytes readable)
    (when-none refuse.WouldBlock (takes_none m to (length (text m d a)))
    (passed (meaning m (event.Call d (call.IolWrite fd a))).refusals 6 step.0)) some

part-short : (bytes : List ℕ) (from to : ℕ) → length (slice_range bytes from to) ≤ to - from
part-short bytes from to = let size = length-take (to - from) (drop from bytes) in omega (arith, size)

-- ---- the information in a reply

module _ (steps : EachStepLeavesTheRest) (own : CallsServeTheirDomain) (m n : State) (d p : ℕ) (job : Task)
    (order : IsOrderly m) where
  same-length : (e : Event) (r : Reply) (a : ℕ) (bytes : List ℕ) → readable_at m d a ≡ Some bytes
      → readable_at n d a ≡ Some bytes
      → length (bytes_at (readable_at n d) a) ≡ length (bytes_at (readable_at m d) a)
  same-length e r a bytes is now = ap (λ (l : List ℕ). length l) (same_bytes m n d a bytes is now)

  writes : (agg : ℕ) (r : Reply) → IsReady m d p job (phase.Writing agg)
      → StepsTo m (event.Call d (call.IolWrite job.fd agg)) r n
      → Facts (readable_at m d) (readable_at n d) (phase.Writing agg) r
  writes agg (reply.Count k) ready step =
      let bytes = ready.1.0 in
      let readable : readable_at m d agg ≡ Some bytes = ready.1.1 in
      let long : length (bytes_at (readable_at m d) agg) ≡ length bytes =
      ap (λ (l : List ℕ). length l) (is_bytes m d agg bytes readable) in
      let puts : WritesPipe m p bytes (reply.Count k) n =
      own.write_pipe m n d job.fd p agg bytes (reply.Count k) order ready.0 readable step in (
        same-length (event.Call d (call.IolWrite job.fd agg)) (reply.Count k) agg bytes readable
            (values_stay m n (event.Call d (call.IolWrite job.fd agg)) d agg bytes
            (steps.values m n (event.Call d (call.IolWrite job.fd agg)) (reply.Count k) step) readable refl),
        λ some. some-taken m n d job.fd agg k bytes readable (subst (λ l. 0 < l) long some) step,
        subst (λ l. k ≤ l) (sym long) puts.within,
      )
  writes agg r ready step = tt

  cuts : (agg from to : ℕ) (r : Reply) → HasBytes m d agg → StepsTo m (event.Call d (call.AggCut agg from to)) r n
      → Facts (readable_at m d) (readable_at n d) (phase.CuttingRest agg from to) r
  cuts agg from to (reply.Agg k) has step =
      let makes : Makes m d (slice_range has.0 from to) (reply.Agg k) n =
      own.cut m n d agg from to has.0 (reply.Agg k) order has.1 step in
      let same = is_bytes n d k (slice_range has.0 from to) makes.0 in
      subst (λ (l : List ℕ). length l ≤ to - from) (sym same) (part-short has.0 from to)
  cuts agg from to r has step = tt

  swaps : (agg rest : ℕ) (r : Reply) → HasBytes m d rest → agg ≢ rest → StepsTo m (event.Call d (call.AggDrop agg)) r n
      → Facts (readable_at m d) (readable_at n d) (phase.DroppingTaken agg rest) r
  swaps agg rest r has differ step =
      let now =
      values_stay m n (event.Call d (call.AggDrop agg)) d rest has.0
      (steps.values m n (event.Call d (call.AggDrop agg)) r step) has.1
      (and_false (d == d) (agg == rest) (not-equal agg rest differ)) in
      let same = same-length (event.Call d (call.AggDrop agg)) r rest has.0 has.1 now in
      omega (arith, same)

  pub facts : (x : Collected) (begun : ℕ) (e : Phase) (r : Reply) → IsReady m d p job e
      → StepsTo m (event.Call d (phase_call job x begun e)) r n
      → Facts (readable_at m d) (readable_at n d) e r
  facts x begun (phase.Writing agg) r ready step = writes agg r ready step
  facts x begun (phase.CuttingRest agg from to) r ready step = cuts agg from to r ready step
  facts x begun (phase.DroppingTaken agg rest) r ready step = swaps agg rest r ready.0 ready.1 step
  facts x begun e r ready step = tt

-- ---- when a call is retried

abbrev pub Refuses : Reply → (m n : State) → Type 0
Refuses r m n = (x : Refusal) × (r ≡ reply.Refused x) × (n ≡ m)

module _ (m n : State) (d : ℕ) (job : Task) (readable : ℕ → Option (List ℕ)) (x : Collected) (begun : ℕ) where
  made-again : (r : Reply) → StepsTo m (event.Call d (make_call x.text)) r n → after_making x begun r ≡ None
      → Refuses r m n
  made-again (reply.Agg a) step e = absurd (cc (e))
  made-again (reply.Refused y) step e = (y, refl, step.1)
  made-again r step e = absurd (let is = step.1 in cc (is))

  line-again : (l : Line) (b : ℕ) (r : Reply) → StepsTo m (event.Call d (line_call l)) r n
      → after_line job x l b r ≡ None → Refuses r m n
  line-again (line.Cat name) b (reply.Fd file) step e = absurd (cc (e))
  line-again (line.Cat name) b (reply.Refused y) step e = absurd (cc (e))
  line-again (line.Cat name) b r step e = absurd (let is = step.1 in cc (is))
  line-again (line.Wc name) b (reply.Fd file) step e = absurd (cc (e))
  line-again (line.Wc name) b (reply.Refused y) step e = absurd (cc (e))
  line-again (line.Wc name) b r step e = absurd (let is = step.1 in cc (is))
  line-again (line.Emit t) b r step e = absurd (cc (e))
  line-again line.Query b r step e = absurd (cc (e))
  line-again line.Pause b r step e = absurd (cc (e))

  next-again : (o : Option Line) (r : Reply) → StepsTo m (event.Call d (next_call job o)) r n
      → after_next job x o begun r ≡ None → Refuses r m n
  next-again (Some l) r step e = line-again l (begun + 1) r step e
  next-again None r step e = absurd (cc (e))

  runs-again : (b : Bool) (r : Reply)
      → StepsTo m (event.Call d (if b then make_call x.text else next_call job (slice_get job.lines begun))) r n
      → (if b then after_making x begun r else after_next job x (slice_get job.lines begun) begun r) ≡ None
      → Refuses r m n
  runs-again true r step e = made-again r step e
  runs-again false r step e = next-again (slice_get job.lines begun) r step e

  collects : (o : Option ℕ) (from agg len : ℕ) → file_collected x o from agg len begun ≡ None → ⊥
  collects None from agg len e = cc (e)
  collects (Some held) from agg len e = cc (e)

  alone : (agg : ℕ) (b : Bool)
      → (if b then at (phase.Writing agg) begun x else at phase.Interpreting begun (with_next x agg))
      ≡ None → ⊥
  alone agg true e = cc (e)
  alone agg false e = cc (e)

  shuts : (from agg len : ℕ) (b : Bool) → (if b then file_collected x x.held from agg len begun
      else (if is_nothing x then at (phase.Writing agg) begun x else at phase.Interpreting begun (with_next x agg)))
      ≡ None → ⊥
  shuts from agg len true e = collects x.held from agg len e
  shuts from agg len false e = alone agg (is_nothing x) e

  drops : (o : Option ℕ) → after_dropping x o begun ≡ None → ⊥
  drops (Some agg) e = cc (e)
  drops None e = cc (e)

  breaks : (o : Option ℕ) → after_breaking job x o begun ≡ None → ⊥
  breaks (Some agg) e = cc (e)
  breaks None e = cc (e)

  pub again : (e : Phase) (r : Reply) → e ≢ phase.Waiting → StepsTo m (event.Call d (phase_call job x begun e)) r n
      → after_phase readable job x begun e r ≡ None
      → Refuses r m n
  again phase.Waiting r other step e = absurd (other refl)
  again phase.Interpreting r other step e = runs-again (expected_now job x begun) r step e
  again (phase.Reading file p) (reply.Agg a) other step e = absurd (cc (e))
  again (phase.Reading file p) (reply.Refused y) other step e = absurd (cc (e))
  again (phase.Reading file p) r other step e = absurd (let is = step.1 in cc (is))
  again (phase.ClosingFile file agg) r other step e =
      absurd (shuts (length (bytes_of_one readable x.held)) agg (length (bytes_at readable agg))
      (nat_le (length (bytes_at readable agg)) MAX_COLLECTED_BYTES) e)
  again (phase.ClosingCounted file s) r other step e = absurd (cc (e))
  again (phase.JoiningFile held agg from len) (reply.Agg a) other step e = absurd (cc (e))
  again (phase.JoiningFile held agg from len) (reply.Refused y) other step e = (y, refl, step.1)
  again (phase.JoiningFile held agg from len) r other step e = absurd (let is = step.1 in cc (is))
  again (phase.CuttingPart held agg from) (reply.Aggs a b) other step e = absurd (cc (e))
  again (phase.CuttingPart held agg from) (reply.Refused y) other step e = (y, refl, step.1)
  again (phase.CuttingPart held agg from) r other step e = absurd (let is = step.1 in cc (is))
  again (phase.ReplacingPart agg part place) (reply.Agg a) other step e = absurd (cc (e))
  again (phase.ReplacingPart agg part place) (reply.Refused y) other step e = (y, refl, step.1)
  again (phase.ReplacingPart agg part place) r other step e = absurd (let is = step.1 in cc (is))
  again (phase.DroppingText agg part new) r other step e = absurd (cc (e))
  again (phase.DroppingPart part new) r other step e = absurd (cc (e))
  again (phase.Writing agg) (reply.Count k) other step e = absurd (cc (e))
  again (phase.Writing agg) (reply.Refused refuse.BrokenPipe) other step e = absurd (cc (e))
  again (phase.Writing agg) (reply.Refused y) other step e = (y, refl, step.1)
  again (phase.Writing agg) r other step e = absurd (let is = step.1 in cc (is))
  again (phase.CuttingRest agg from to) (reply.Agg a) other step e = absurd (cc (e))
  again (phase.CuttingRest agg from to) (reply.Refused y) other step e = (y, refl, step.1)
  again (phase.CuttingRest agg from to) r other step e = absurd (let is = step.1 in cc (is))
  again (phase.DroppingOther agg) r other step e = absurd (cc (e))
  again (phase.DroppingCounted file agg s) r other step e = absurd (cc (e))
  again (phase.DroppingTaken agg rest) r other step e = absurd (cc (e))
  again (phase.DroppingWritten agg) r other step e = absurd (drops x.next e)
  again (phase.Aborting agg) r other step e = absurd (breaks x.next e)

-- ---- events of others

module _ (steps : EachStepLeavesTheRest) (m n : State) (d p : ℕ) (job : Task) where
  bytes-same : (e : Event) (r : Reply) (a : ℕ) → HasBytes m d a → StepsTo m e r n → is_call_of e d ≡ false
      → bytes_at (readable_at n d) a ≡ bytes_at (readable_at m d) a
  bytes-same e r a has step other =
      same_bytes m n d a has.0 has.1
      (values_stay m n e d a has.0 (steps.values m n e r step) has.1 (no_gift e d a other))

  calls-same : (x : Collected) (y : Phase) (e : Event) (r : Reply) → IsReady m d p job y → StepsTo m e r n
      → is_call_of e d ≡ false
      → calls_left (readable_at n d) x y ≡ calls_left (readable_at m d) x y
  calls-same x (phase.Writing agg) e r ready step other =
      ap (λ (l : List ℕ). 3 * length l + 2) (bytes-same e r agg ready.1 step other)
  calls-same x (phase.DroppingTaken agg rest) e r ready step other =
      ap (λ (l : List ℕ). 3 * length l + 3) (bytes-same e r rest ready.0 step other)
  calls-same x y e r ready step other = refl

  pub rank-same : (step : Step) (e : Event) (r : Reply) → IsReady m d p job step.phase → StepsTo m e r n
      → is_call_of e d ≡ false
      → rank job (readable_at n d) step ≡ rank job (readable_at m d) step
  rank-same step e r ready did other =
      ap (λ k. (8 * (length job.lines - step.begun) + stage job step.piece step.begun step.phase, k))
      (calls-same step.piece step.phase e r ready did other)
