-- The outcomes that a worker's calls settle are those of the files that its lines name.
use Rattle.std.proofs.Common.{inl, inr, ◌≡◌, ◌⊎◌, ℕ, ◌+◌, ◌-◌, ◌==◌, ◌≤◌, List, [], ◌∷◌, ◌++◌, length, take, drop, ap}
use Rattle.std.proofs.Common.{◌∙◌, refl, sym, subst, arith, Option, Some, None, true, false, Bool, if◌then◌else◌}
use Rattle.std.specs.Prelude.{nat_le, slice_get, unwrap_or}
use Rattle.std.specs.List.{list_any}
use Rattle.std.proofs.lemmas.List.{take_all}
use Rattle.iol_core.specs.State.{State, File, content, file, may_read}
use Rattle.iol_core.specs.NumberedLists.{numbered_or}
use Rattle.iol_core.specs.Calls.Files.{file_called}
use Rattle.iol_core.specs.Calls.Writes.{is_file}
use Rattle.iol_core.specs.Positions.{ArePlaced}
use Rattle.iol_core.specs.Run.{StepsTo}
use Rattle.iol_core.specs.declared.descriptors.Descriptor.{Descriptor}
use Rattle.iol_core.specs.declared.descriptors.Mode.TheVariants.{Read}
use Rattle.iol_core.specs.declared.refusals.Refusal.TheVariants as not_so
use Rattle.iol_core.specs.declared.events.Call.{Call}
use Rattle.iol_core.specs.declared.events.Call.TheVariants as call
use Rattle.iol_core.specs.declared.events.Event.{Event}
use Rattle.iol_core.specs.declared.events.Event.TheVariants as event
use Rattle.iol_core.specs.declared.events.Reply.{Reply}
use Rattle.iol_core.specs.declared.events.Reply.TheVariants as reply
use Rattle.iol_laws.specs.Caller.{readable_at}
use Rattle.iol_laws.specs.CallerFiles as fl
use Rattle.iol_laws.specs.CallerFiles.{FileCallsServeTheirDomain}
use Rattle.iol_laws.specs.Frame.{EachStepLeavesTheRest, Leaves, changes_files, admits_to}
use Rattle.iol_laws.specs.Order.{IsOrderly}
use Rattle.flash_cgi.specs.Collecting.{Collected, bytes_of_one, is_expected, is_nothing, last_place, with_next}
use Rattle.flash_cgi.specs.Collecting.{without_text}
use Rattle.flash_cgi.specs.Job.{Task}
use Rattle.flash_cgi.specs.Output.{Outcome, Found, Failed}
use Rattle.flash_cgi.specs.WorkerSteps.{call_at, expected_now, file_collected, shut_by, after_reply, after_dropping}
use Rattle.flash_cgi.specs.WorkerSteps.{after_joining, after_next, after_making, after_opening, after_parting}
use Rattle.flash_cgi.specs.WorkerSteps.{after_replacing, after_writing, after_reading, after_cutting, next_call}
use Rattle.flash_cgi.specs.WorkerSteps.{bytes_at, interleave_by, interleave_on}
use Rattle.flash_cgi.specs.Feeds.{Feeds, resolved, resolved_begun, resolved_open, failed}
use Rattle.flash_cgi.specs.Outcomes.{outcome_of, outcome_in, outcomes_in, to_come, IsReading, ReadsNamed, ResolvesTruly}
use Rattle.flash_cgi.specs.Outcomes.{ResolvesByRefusal, AreFiles, OutcomesAreTrue}
use Rattle.flash_cgi.specs.declared.line.Line.{Line}
use Rattle.flash_cgi.specs.declared.line.Line.TheVariants as line
use Rattle.flash_cgi.specs.declared.phase.Purpose.{Purpose}
use Rattle.flash_cgi.specs.declared.phase.Purpose.TheVariants as purpose
use Rattle.flash_cgi.specs.declared.phase.Phase.{Phase}
use Rattle.flash_cgi.specs.declared.phase.Phase.TheVariants as phase
use Rattle.flash_cgi.specs.declared.phase.Step.{Step}
use Rattle.flash_cgi.specs.declared.piece.Place.{Place}
use Rattle.flash_cgi.proofs.StaysByCall.{rest-cons, rest-nil, at_step, file-same}

pub content-same : (m n : State) (k : ℕ) → n.slots ≡ m.slots → content n k ≡ content m k
unfolding content
content-same m n k e = ap (λ (ss : List (List ℕ)). numbered_or ss k []) e

-- a step that changes no file, and admits no domain to a pool, leaves all outcomes unchanged
pub same_outcome : (m n : State) (d : ℕ) (e : Event) → Leaves m e n → AreFiles m → changes_files m e ≡ false
    → ((q : ℕ) → admits_to e q ≡ false) → (name : List ℕ) → outcome_in n d name ≡ outcome_in m d name
same_outcome m n d e leaves good undisturbed shut name =
    ap (λ (o : Option ℕ). outcome_of n d o)
    (ap (λ (fs : List File). file_called (record m { files = fs }) name) (leaves.files undisturbed).0)
    ∙ by (file_called m name) refl
  where
    by : (o : Option ℕ) → file_called m name ≡ o → outcome_of n d o ≡ outcome_of m d o
    by None is = refl
    by (Some f) is =
        let same_file : file n f ≡ file m f = file-same m n f (leaves.files undisturbed).0 in
        let lists = leaves.listed (file m f).pool (good.pooled name f is) (shut (file m f).pool) in
        ap (λ (x : File). if may_read n d x.pool then Found (content n f) else Failed (not_so.Denied x.pool)) same_file
        ∙ (ap (λ (ds : List ℕ). if list_any (λ e. e == d) ds then Found (content n f) else Failed
        (not_so.Denied (file m f).pool)) lists
        ∙ ap (λ (l : List ℕ). if may_read m d (file m f).pool then Found l else Failed (not_so.Denied (file m f).pool))
        (content-same m n f (leaves.files undisturbed).1))

pub same_outcomes : (m n : State) (d : ℕ) → ((name : List ℕ) → outcome_in n d name ≡ outcome_in m d name)
    → (lines : List Line) → outcomes_in m d lines ≡ outcomes_in n d lines
same_outcomes m n d same [] = refl
same_outcomes m n d same (line.Emit text ∷ lines) = same_outcomes m n d same lines
same_outcomes m n d same (line.Query ∷ lines) = same_outcomes m n d same lines
same_outcomes m n d same (line.Pause ∷ lines) = same_outcomes m n d same lines
same_outcomes m n d same (line.Cat name ∷ lines) = ap (λ (o : Outcome). o ∷ outcomes_in m d lines) (sym (same name))
    ∙ ap (λ (os : List Outcome). outcome_in n d name ∷ os) (same_outcomes m n d same lines)
same_outcomes m n d same (line.Wc name ∷ lines) = ap (λ (o : Outcome). o ∷ outcomes_in m d lines) (sym (same name))
    ∙ ap (λ (os : List Outcome). outcome_in n d name ∷ os) (same_outcomes m n d same lines)

-- a phase that settles nothing and begins no line
pub plain : EachStepLeavesTheRest → (m n : State) (d : ℕ) (job : Task) (c : Call) (r : Reply)
    → StepsTo m (event.Call d c) r n → AreFiles m → changes_files m (event.Call d c) ≡ false
    → ((q : ℕ) → admits_to (event.Call d c) q ≡ false) → (begun : ℕ)
    → outcomes_in m d (drop begun job.lines) ≡ outcomes_in n d (drop begun job.lines)
plain steps m n d job c r step good undisturbed shut begun =
    same_outcomes m n d (same_outcome m n d (event.Call d c) (steps.leaves m n (event.Call d c) r step) good undisturbed
    shut) (drop begun job.lines)

module _ (steps : EachStepLeavesTheRest) (files : FileCallsServeTheirDomain) where
  abbrev TrulyTo : State → ℕ → Task → Step → Reply → State → Option Step → Type 0
  TrulyTo m d job step r n None = Unit {0}
  TrulyTo m d job step r n (Some next) = ResolvesTruly m d job step r n next ⊎ ResolvesByRefusal m d job step r n next

  -- the aggregate of the buffered text is made: no file is opened
  interleaved_truly : (m n : State) (d : ℕ) (job : Task) (begun a : ℕ) (s : Step) (r : Reply) (x : Collected)
      → to_come m d job s ≡ outcomes_in n d (drop begun job.lines) → resolved job s (readable_at n d) r ≡ []
      → TrulyTo m d job s r n (Some (interleave_on begun x a))
  interleaved_truly m n d job begun a s r x same none = by x.held (last_place x.places)
    where
      all : to_come m d job s ≡ resolved job s (readable_at n d) r ++ outcomes_in n d (drop begun job.lines)
      all = same ∙ ap (λ (used : List Outcome). used ++ outcomes_in n d (drop begun job.lines)) (sym none)

      by : (h : Option ℕ) (o : Option Place) → TrulyTo m d job s r n (Some (interleave_by h o begun x a))
      by None o = inl (record { same = all; reads = tt })
      by (Some held) None = inl (record { same = all; reads = tt })
      by (Some held) (Some place) = inl (record { same = all; reads = tt })

  made : (m n : State) (d : ℕ) (job : Task) (begun : ℕ) (x : Collected) (r : Reply)
      → outcomes_in m d (drop begun job.lines) ≡ outcomes_in n d (drop begun job.lines)
      → resolved job (at_step phase.Interpreting begun x) (readable_at n d) r ≡ []
      → TrulyTo m d job (at_step phase.Interpreting begun x) r n (after_making x begun r)
  made m n d job begun x (reply.Agg a) same none =
      interleaved_truly m n d job begun a (at_step phase.Interpreting begun x) (reply.Agg a) (without_text x) same none
  made m n d job begun x r same none = tt

  cut : (m n : State) (d : ℕ) (job : Task) (begun a from to : ℕ) (x : Collected) (r : Reply)
      → outcomes_in m d (drop begun job.lines) ≡ outcomes_in n d (drop begun job.lines)
      → TrulyTo m d job (at_step (phase.CuttingRest a from to) begun x) r n (after_cutting x a begun r)
  cut m n d job begun a from to x (reply.Agg b) same = inl (record { same = same; reads = tt })
  cut m n d job begun a from to x r same = tt

  joined : (m n : State) (d : ℕ) (job : Task) (begun held a from len : ℕ) (x : Collected) (r : Reply)
      → outcomes_in m d (drop begun job.lines) ≡ outcomes_in n d (drop begun job.lines)
      → TrulyTo m d job (at_step (phase.JoiningFile held a from len) begun x) r n (after_joining x from len begun r)
  joined m n d job begun held a from len x (reply.Agg b) same = inl (record { same = same; reads = tt })
  joined m n d job begun held a from len x r same = tt

  parted : (m n : State) (d : ℕ) (job : Task) (begun held a from : ℕ) (x : Collected) (r : Reply)
      → outcomes_in m d (drop begun job.lines) ≡ outcomes_in n d (drop begun job.lines)
      → TrulyTo m d job (at_step (phase.CuttingPart held a from) begun x) r n (after_parting x a begun r)
  parted m n d job begun held a from x (reply.Aggs b c) same = inl (record { same = same; reads = tt })
  parted m n d job begun held a from x r same = tt

  replaced : (m n : State) (d : ℕ) (job : Task) (begun a part at : ℕ) (x : Collected) (r : Reply)
      → outcomes_in m d (drop begun job.lines) ≡ outcomes_in n d (drop begun job.lines)
      → TrulyTo m d job (at_step (phase.ReplacingPart a part at) begun x) r n (after_replacing x a part begun r)
  replaced m n d job begun a part at x (reply.Agg b) same = inl (record { same = same; reads = tt })
  replaced m n d job begun a part at x r same = tt

  dropped : (m n : State) (d : ℕ) (job : Task) (begun a : ℕ) (x : Collected) (r : Reply) (o : Option ℕ)
      → outcomes_in m d (drop begun job.lines) ≡ outcomes_in n d (drop begun job.lines)
      → TrulyTo m d job (at_step (phase.DroppingWritten a) begun x) r n (after_dropping x o begun)
  dropped m n d job begun a x r (Some b) same = inl (record { same = same; reads = tt })
  dropped m n d job begun a x r None same = inl (record { same = same; reads = tt })

  shut : (m n : State) (d : ℕ) (job : Task) (begun file a from len : ℕ) (x : Collected) (r : Reply)
      → outcomes_in m d (drop begun job.lines) ≡ outcomes_in n d (drop begun job.lines)
      → TrulyTo m d job (at_step (phase.ClosingFile file a) begun x) r n (shut_by x from a len begun)
  shut m n d job begun file a from len x r same = by x.held (nat_le len 4096) (is_nothing x)
    where
      by : (o : Option ℕ) (t u : Bool)
          → TrulyTo m d job (at_step (phase.ClosingFile file a) begun x) r n
          (if t then file_collected x o from a len begun
          else (if u then Some (at_step (phase.Writing a) begun x) else Some
          (at_step phase.Interpreting begun (with_next x a))))
      by None true u = inl (record { same = same; reads = tt })
      by (Some held) true u = inl (record { same = same; reads = tt })
      by o false true = inl (record { same = same; reads = tt })
      by o false false = inl (record { same = same; reads = tt })

  written : (m n : State) (d : ℕ) (job : Task) (begun a : ℕ) (x : Collected) (r : Reply)
      → outcomes_in m d (drop begun job.lines) ≡ outcomes_in n d (drop begun job.lines)
      → TrulyTo m d job (at_step (phase.Writing a) begun x) r n
      (after_writing x a (length (bytes_at (readable_at n d) a)) begun r)
  written m n d job begun a x (reply.Count k) same = by (k == length (bytes_at (readable_at n d) a))
    where
      by : (t : Bool)
          → TrulyTo m d job (at_step (phase.Writing a) begun x) (reply.Count k) n
          (Some
          (at_step
          (if t then phase.DroppingWritten a else phase.CuttingRest a k (length (bytes_at (readable_at n d) a)))
          begun x))
      by true = inl (record { same = same; reads = tt })
      by false = inl (record { same = same; reads = tt })
  written m n d job begun a x (reply.Refused not_so.BrokenPipe) same = inl (record { same = same; reads = tt })
  written m n d job begun a x (reply.Refused y) same = tt
  written m n d job begun a x r same = tt

  -- a file is opened for the line that begins
  opens : (m n : State) (d : ℕ) (job : Task) (begun : ℕ) (u : Purpose) (name : List ℕ) (x : Collected) (r : Reply)
      → outcomes_in m d (drop begun job.lines) ≡ outcome_in m d name ∷ outcomes_in m d (drop (begun + 1) job.lines)
      → ((k : ℕ) → outcomes_in m d (drop k job.lines) ≡ outcomes_in n d (drop k job.lines))
      → ((f : ℕ) → content n f ≡ content m f)
      → resolved job (at_step phase.Interpreting begun x) (readable_at n d) r ≡ failed r → fl.Opening m d name Read r n
      → TrulyTo m d job (at_step phase.Interpreting begun x) r n (after_opening x u (begun + 1) r)
  opens m n d job begun u name x (reply.Fd g) line same contents used did =
      let back : begun + 1 - 1 ≡ begun = omega arith in
      let found : outcome_in m d name ≡ Found (content n did.file_is) =
      ap (λ (o : Option ℕ). outcome_of m d o) did.found
      ∙ (ap (λ b. if b then Found (content m did.file_is) else Failed (not_so.Denied (file m did.file_is).pool))
      did.may ∙ ap (λ (l : List ℕ). Found l) (sym (contents did.file_is))) in
      inl (record {
        same =
            same begun
            ∙ (ap (λ k. outcomes_in n d (drop k job.lines)) (sym back)
            ∙ ap (λ (os : List Outcome). os ++ outcomes_in n d (drop (begun + 1 - 1) job.lines)) (sym used));
        reads = record {
          number = did.file_is;
          open_on = did.open_on;
          names = ap (λ k. outcomes_in n d (drop k job.lines)) back
              ∙ (sym (same begun)
              ∙ (line ∙ (ap (λ (o : Outcome). o ∷ outcomes_in m d (drop (begun + 1) job.lines)) found
              ∙ ap (λ (os : List Outcome). Found (content n did.file_is) ∷ os) (same (begun + 1)))));
        };
      })
  opens m n d job begun u name x (reply.Refused not_so.NoFile) line same contents used did = inl (record {
    same = line ∙ (ap (λ (o : Option ℕ). outcome_of m d o ∷ outcomes_in m d (drop (begun + 1) job.lines)) did.0
        ∙ (ap (λ (os : List Outcome). Failed not_so.NoFile ∷ os) (same (begun + 1))
        ∙ ap (λ (os : List Outcome). os ++ outcomes_in n d (drop (begun + 1) job.lines)) (sym used)));
    reads = tt;
  })
  opens m n d job begun u name x (reply.Refused (not_so.Denied q)) line same contents used did =
      let barred = did.0 in
      let may_not : may_read m d (file m barred.file_is).pool ≡ false = ap (λ k. may_read m d k) barred.pool_is
      ∙ barred.may_not in
      let is : outcome_in m d name ≡ Failed (not_so.Denied q) = ap (λ (o : Option ℕ). outcome_of m d o) barred.found
      ∙ (ap
      (λ b. if b then Found (content m barred.file_is) else Failed (not_so.Denied (file m barred.file_is).pool))
      may_not ∙ ap (λ k. Failed (not_so.Denied k)) barred.pool_is) in
      inl (record {
        same =
            line ∙ (ap (λ (o : Outcome). o ∷ outcomes_in m d (drop (begun + 1) job.lines)) is
            ∙ (ap (λ (os : List Outcome). Failed (not_so.Denied q) ∷ os) (same (begun + 1))
            ∙ ap (λ (os : List Outcome). os ++ outcomes_in n d (drop (begun + 1) job.lines)) (sym used)));
        reads = tt;
      })
  opens m n d job begun u name x (reply.Refused y) line same contents used did = inr (record {
    why = y;
    answer = refl;
    resource_failure = did.0;
    instead = outcome_in m d name;
    was = line ∙ ap (λ (os : List Outcome). outcome_in m d name ∷ os) (same (begun + 1));
    resolves = used;
    reads = tt;
  })
  opens m n d job begun u name x r line same contents used did = tt

  -- a file is read
  reads : (m n : State) (d : ℕ) (job : Task) (begun fd : ℕ) (u : Purpose) (x : Collected) (r : Reply)
      → (g : IsReading m d job begun fd)
      → ((k : ℕ) → outcomes_in m d (drop k job.lines) ≡ outcomes_in n d (drop k job.lines))
      → length (content m g.number) ≤ 16777216
      → fl.ReadsFile m d fd g.number 0 Read (take 16777216 (drop 0 (content m g.number))) r n
      → TrulyTo m d job (at_step (phase.Reading fd u) begun x) r n (after_reading (readable_at n d) x fd u begun r)
  reads m n d job begun fd u x (reply.Agg a) g same short did = by u
    where
      text : bytes_at (readable_at n d) a ≡ content m g.number
      text = ap (λ (l : Option (List ℕ)). unwrap_or l []) did.is_readable ∙ take_all 16777216 (content m g.number) short

      all : outcomes_in m d (drop (begun - 1) job.lines) ≡ Found (bytes_at (readable_at n d) a)
          ∷ outcomes_in n d (drop begun job.lines)
      all = g.names ∙ (ap (λ (l : List ℕ). Found l ∷ outcomes_in m d (drop begun job.lines)) (sym text)
          ∙ ap (λ (os : List Outcome). Found (bytes_at (readable_at n d) a) ∷ os) (same begun))

      by : (u : Purpose)
          → TrulyTo m d job (at_step (phase.Reading fd u) begun x) (reply.Agg a) n
          (after_reading (readable_at n d) x fd u begun (reply.Agg a))
      by purpose.Cat = inl (record { same = all; reads = tt })
      by purpose.Wc = inl (record { same = all; reads = tt })
  reads m n d job begun fd u x (reply.Refused y) g same short did = inr (record {
    why = y;
    answer = refl;
    resource_failure = did.0;
    instead = Found (content m g.number);
    was = g.names ∙ ap (λ (os : List Outcome). Found (content m g.number) ∷ os) (same begun);
    resolves = refl;
    reads = tt;
  })
  reads m n d job begun fd u x r g same short did = absurd did

  line_named : (m : State) (d : ℕ) (job : Task) (begun : ℕ) (l : Line) (ls : List Line) → drop begun job.lines ≡ l ∷ ls
      → outcomes_in m d (drop begun job.lines) ≡ outcomes_in m d (l ∷ ls)
  line_named m d job begun l ls e = ap (λ (xs : List Line). outcomes_in m d xs) e

  used_by : (job : Task) (x : Collected) (begun : ℕ) (readable : ℕ → Option (List ℕ)) (o : Option Line) (r : Reply)
      → slice_get job.lines begun ≡ o → is_expected x o ≡ false
      → resolved job (at_step phase.Interpreting begun x) readable r ≡ resolved_open o r
  used_by job x begun readable o r is expected = ap (λ (l : Option Line). resolved_begun (is_expected x l) l r) is
      ∙ ap (λ (t : Bool). resolved_begun t o r) expected

  -- a line that names no file
  passes : (m n : State) (d : ℕ) (job : Task) (begun : ℕ) (x y : Collected) (r : Reply)
      → outcomes_in m d (drop begun job.lines) ≡ outcomes_in n d (drop (begun + 1) job.lines)
      → resolved job (at_step phase.Interpreting begun x) (readable_at n d) r ≡ []
      → TrulyTo m d job (at_step phase.Interpreting begun x) r n (Some (at_step phase.Interpreting (begun + 1) y))
  passes m n d job begun x y r same none =
      inl
      (record {
        same = same ∙ ap (λ (used : List Outcome). used ++ outcomes_in n d (drop (begun + 1) job.lines))
            (sym none);
        reads = tt;
      })

  begins : (m n : State) (d p : ℕ) (job : Task) (begun : ℕ) (x : Collected) (r : Reply) (unseen : List Outcome
      → List ℕ) (l : Option Line) → AreFiles m → Feeds m d p job (at_step phase.Interpreting begun x) unseen
      → slice_get job.lines begun ≡ l → is_expected x l ≡ false
      → StepsTo m (event.Call d (next_call job l)) r n
      → TrulyTo m d job (at_step phase.Interpreting begun x) r n (after_next job x l begun r)
  begins m n d p job begun x r unseen None good f is expected step =
      inl (record {
        same = ap (λ (ls : List Line). outcomes_in m d ls) (rest-nil job.lines begun is)
            ∙ sym (ap (λ (os : List Outcome). os ++ []) (used_by job x begun (readable_at n d) None r is expected));
        reads = tt;
      })
  begins m n d p job begun x r unseen (Some (line.Emit text)) good f is expected step = passes m n d job begun x _ r
      (line_named m d job begun (line.Emit text) (drop (begun + 1) job.lines)
      (rest-cons job.lines begun (line.Emit text) is)
      ∙ plain steps m n d job (call.SetPool 3) r step good refl (λ q. refl) (begun + 1))
      (used_by job x begun (readable_at n d) (Some (line.Emit text)) r is expected)
  begins m n d p job begun x r unseen (Some line.Query) good f is expected step = passes m n d job begun x _ r
      (line_named m d job begun line.Query (drop (begun + 1) job.lines) (rest-cons job.lines begun line.Query is)
      ∙ plain steps m n d job (call.SetPool 3) r step good refl (λ q. refl) (begun + 1))
      (used_by job x begun (readable_at n d) (Some line.Query) r is expected)
  begins m n d p job begun x r unseen (Some line.Pause) good f is expected step = passes m n d job begun x x r
      (line_named m d job begun line.Pause (drop (begun + 1) job.lines) (rest-cons job.lines begun line.Pause is)
      ∙ plain steps m n d job (call.SetPool 3) r step good refl (λ q. refl) (begun + 1))
      (used_by job x begun (readable_at n d) (Some line.Pause) r is expected)
  begins m n d p job begun x r unseen (Some (line.Cat name)) good f is expected step =
      opens m n d job begun purpose.Cat name x r
      (line_named m d job begun (line.Cat name) (drop (begun + 1) job.lines)
      (rest-cons job.lines begun (line.Cat name) is))
      (plain steps m n d job (call.OpenFile name Read) r step good refl (λ q. refl))
      (λ k. content-same m n k ((steps.leaves m n (event.Call d (call.OpenFile name Read)) r step).files refl).1)
      (used_by job x begun (readable_at n d) (Some (line.Cat name)) r is expected)
      (files.opens m n d name Read r f.live step)
  begins m n d p job begun x r unseen (Some (line.Wc name)) good f is expected step =
      opens m n d job begun purpose.Wc name x r
      (line_named m d job begun (line.Wc name) (drop (begun + 1) job.lines)
      (rest-cons job.lines begun (line.Wc name) is))
      (plain steps m n d job (call.OpenFile name Read) r step good refl (λ q. refl))
      (λ k. content-same m n k ((steps.leaves m n (event.Call d (call.OpenFile name Read)) r step).files refl).1)
      (used_by job x begun (readable_at n d) (Some (line.Wc name)) r is expected)
      (files.opens m n d name Read r f.live step)

  runs : (m n : State) (d p : ℕ) (job : Task) (begun : ℕ) (x : Collected) (r : Reply) (unseen : List Outcome
      → List ℕ) (t : Bool) → AreFiles m → Feeds m d p job (at_step phase.Interpreting begun x) unseen
      → expected_now job x begun ≡ t
      → StepsTo m (event.Call d (if t then call.AggMake x.text else next_call job (slice_get job.lines begun))) r n
      → TrulyTo m d job (at_step phase.Interpreting begun x) r n
      (if t then after_making x begun r else after_next job x (slice_get job.lines begun) begun r)
  runs m n d p job begun x r unseen true good f expected step =
      made m n d job begun x r (plain steps m n d job (call.AggMake x.text) r step good refl (λ q. refl) begun)
      (ap (λ (t : Bool). resolved_begun t (slice_get job.lines begun) r) expected)
  runs m n d p job begun x r unseen false good f expected step =
      begins m n d p job begun x r unseen (slice_get job.lines begun) good f refl expected step

  by_phase : (m n : State) (d p : ℕ) (job : Task) (begun : ℕ) (x : Collected) (y : Phase) (r : Reply)
      (unseen : List Outcome → List ℕ) → IsOrderly m → ArePlaced m → AreFiles m
      → Feeds m d p job (at_step y begun x) unseen → ReadsNamed m d job begun y
      → StepsTo m (event.Call d (call_at job (at_step y begun x))) r n
      → TrulyTo m d job (at_step y begun x) r n (after_reply job (at_step y begun x) (readable_at n d) r)
  by_phase m n d p job begun x phase.Interpreting r unseen order placed good f g did =
      runs m n d p job begun x r unseen (expected_now job x begun) good f refl did
  by_phase m n d p job begun x (phase.Reading fd u) r unseen order placed good f g did =
      reads m n d job begun fd u x r g (plain steps m n d job (call.IolRead fd 16777216) r did good refl (λ q. refl))
      (good.lengths g.number (placed.each d fd g.number 0 Read g.open_on).0)
      (files.reads_file m n d fd g.number 0 16777216 Read r order f.live may refl g.open_on did)
    where
      number : f.needs.number ≡ g.number
      number = let e = sym f.needs.open_on ∙ g.open_on in cc

      may : may_read m d (file m g.number).pool ≡ true
      may = subst (λ k. may_read m d (file m k).pool ≡ true) number f.needs.may
  by_phase m n d p job begun x (phase.DroppingCounted fd a t) r unseen order placed good f g did =
      inl (record { same = plain steps m n d job (call.AggDrop a) r did good refl (λ q. refl) begun; reads = tt })
  by_phase m n d p job begun x (phase.ClosingFile fd a) r unseen order placed good f g did =
      shut m n d job begun fd a (length (bytes_of_one (readable_at n d) x.held)) (length (bytes_at (readable_at n d) a))
      x r (plain steps m n d job (call.Close fd) r did good refl (λ q. refl) begun)
  by_phase m n d p job begun x (phase.ClosingCounted fd t) r unseen order placed good f g did =
      inl (record { same = plain steps m n d job (call.Close fd) r did good refl (λ q. refl) begun; reads = tt })
  by_phase m n d p job begun x (phase.JoiningFile held a from len) r unseen order placed good f g did =
      joined m n d job begun held a from len x r
      (plain steps m n d job (call.AggJoin held a) r did good refl (λ q. refl) begun)
  by_phase m n d p job begun x (phase.CuttingPart held a from) r unseen order placed good f g did =
      parted m n d job begun held a from x r
      (plain steps m n d job (call.AggSplit held from) r did good refl (λ q. refl) begun)
  by_phase m n d p job begun x (phase.ReplacingPart a part at) r unseen order placed good f g did =
      replaced m n d job begun a part at x r
      (plain steps m n d job (call.AggReplace a at at part) r did good refl (λ q. refl) begun)
  by_phase m n d p job begun x (phase.DroppingText a part b) r unseen order placed good f g did =
      inl (record { same = plain steps m n d job (call.AggDrop a) r did good refl (λ q. refl) begun; reads = tt })
  by_phase m n d p job begun x (phase.DroppingPart part b) r unseen order placed good f g did =
      interleaved_truly m n d job begun b (at_step (phase.DroppingPart part b) begun x) r x
      (plain steps m n d job (call.AggDrop part) r did good refl (λ q. refl) begun) refl
  by_phase m n d p job begun x (phase.Writing a) r unseen order placed good f g did =
      written m n d job begun a x r
      (plain steps m n d job (call.IolWrite job.fd a) r did good (ap (λ (o : Option Descriptor). is_file o) f.open_on)
      (λ q. refl) begun)
  by_phase m n d p job begun x (phase.CuttingRest a from to) r unseen order placed good f g did =
      cut m n d job begun a from to x r (plain steps m n d job (call.AggCut a from to) r did good refl (λ q. refl)
      begun)
  by_phase m n d p job begun x (phase.DroppingTaken a b) r unseen order placed good f g did =
      inl (record { same = plain steps m n d job (call.AggDrop a) r did good refl (λ q. refl) begun; reads = tt })
  by_phase m n d p job begun x (phase.DroppingWritten a) r unseen order placed good f g did =
      dropped m n d job begun a x r x.next (plain steps m n d job (call.AggDrop a) r did good refl (λ q. refl) begun)
  by_phase m n d p job begun x y r unseen order placed good f g did = absurd f.needs

  pub outcomes_are_true : OutcomesAreTrue
  outcomes_are_true m n d p job step next r unseen order placed good f g did is =
      subst (λ (o : Option Step). TrulyTo m d job step r n o) is
      (by_phase m n d p job step.begun step.piece step.phase r unseen order placed good f g did)
