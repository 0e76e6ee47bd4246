-- The rank falls from step to step, and the buffered output stays tidy.
use Rattle.std.proofs.Common.{inl, inr, ◌≡◌, ◌≢◌, ℕ, ◌+◌, ◌-◌, ◌*◌, ◌==◌, ◌<◌, ◌≤◌, ◌⊎◌, List, [], ◌∷◌, length, ap, ◌∙◌}
use Rattle.std.proofs.Common.{refl, sym, subst, arith, Option, Some, None, true, false, Bool, if◌then◌else◌}
use Rattle.std.specs.Prelude.{unwrap_or, ◌||◌, ◌&&◌, not, nat_le, nat_lt, is_none, is_some, slice_get}
use Rattle.std.proofs.lemmas.Bool.Decides.{nat_tests}
use Rattle.std.proofs.lemmas.Option.{slice_get_within}
use Rattle.iol_core.specs.declared.events.Reply.{Reply}
use Rattle.iol_core.specs.declared.events.Reply.TheVariants as reply
use Rattle.iol_core.specs.declared.refusals.Refusal.TheVariants as refuse
use Rattle.flash_cgi.specs.Collecting.{Collected, bytes_of_one, but_last, is_expected, is_nothing, last_place}
use Rattle.flash_cgi.specs.Collecting.{with_file, with_line, with_next, with_text, without_text}
use Rattle.flash_cgi.specs.Job.{Task}
use Rattle.flash_cgi.specs.WorkerSteps.{at, bytes_at, expected_now, file_collected, got, interleave_by, said_text}
use Rattle.flash_cgi.specs.WorkerSteps.{step_with, after_breaking, after_phase, after_dropping, after_line}
use Rattle.flash_cgi.specs.WorkerSteps.{after_making, after_next, after_opening, after_reading, after_writing}
use Rattle.flash_cgi.specs.declared.line.Line.{Line}
use Rattle.flash_cgi.specs.declared.line.Line.TheVariants as line
use Rattle.flash_cgi.specs.declared.phase.Purpose.{Purpose}
use Rattle.flash_cgi.specs.declared.phase.Purpose.TheVariants as purpose
use Rattle.flash_cgi.specs.declared.phase.Phase.{Phase}
use Rattle.flash_cgi.specs.declared.phase.Phase.TheVariants as phase
use Rattle.flash_cgi.specs.declared.phase.Step.{Step}
use Rattle.flash_cgi.specs.declared.piece.Place.{Place}
use Rattle.flash_cgi.specs.declared.piece.TheConstants.{MIN_PIECE_BYTES, MAX_COLLECTED_BYTES}
use Rattle.flash_workers.specs.Advance.{Rank, IsBelow, IsMade, IsTidy, IsTidyIn, IsWhole, rank, stage}

-- ---- plain facts

same-step : (a b : Step) → Some a ≡ Some b → a ≡ b
same-step a b e = ap (λ (o : Option Step). unwrap_or o a) e

one-of : (b : Bool) → (if b then 1 else 0) ≤ 1
one-of true = omega arith
one-of false = omega arith

three-of : (b : Bool) → (if b then 3 else 0) ≤ 3
three-of true = omega arith
three-of false = omega arith

last-is : (ps : List Place) → 0 < length ps → length (but_last ps) + 1 ≡ length ps
last-is [] some = absurd (omega (arith, some))
last-is (p ∷ ps) some = omega arith

has-one : (ps : List Place) (p : Place) → last_place ps ≡ Some p → 0 < length ps
has-one [] p is = absurd (cc (is))
has-one (q ∷ ps) p is = omega arith

-- if nothing is buffered, no write is expected before a line
no-text : (t : List ℕ) (f : ℕ) (n : Option ℕ) → t ≡ [] → f ≡ 0 → n ≡ None
    → (nat_le MIN_PIECE_BYTES (length t + f) || is_some n) ≡ false
no-text t f n a b c =
    ap (λ (l : List ℕ). nat_le MIN_PIECE_BYTES (length l + f) || is_some n) a
    ∙ (ap (λ k. nat_le MIN_PIECE_BYTES (0 + k) || is_some n) b
    ∙ ap (λ (o : Option ℕ). nat_le MIN_PIECE_BYTES 0 || is_some o) c)

no-rest : (t : List ℕ) (ps : List Place) (h n : Option ℕ) → t ≡ [] → ps ≡ [] → h ≡ None → n ≡ None
    → not ((length t == 0) && (length ps == 0) && is_none h && is_none n) ≡ false
no-rest t ps h n a b c e =
    ap (λ (l : List ℕ). not ((length l == 0) && (length ps == 0) && is_none h && is_none n)) a
    ∙ (ap (λ (l : List Place). not ((0 == 0) && (length l == 0) && is_none h && is_none n)) b
    ∙ (ap (λ (o : Option ℕ). not ((0 == 0) && (0 == 0) && is_none o && is_none n)) c
    ∙ ap (λ (o : Option ℕ). not ((0 == 0) && (0 == 0) && true && is_none o)) e))

not-expected : (x : Collected) → IsMade x → x.next ≡ None → (o : Option Line) → is_expected x o ≡ false
not-expected x made none (Some l) = no-text x.text x.files x.next made.0 made.2 none
not-expected x made none None = no-rest x.text x.places x.held x.next made.0 made.3 made.1 none

-- if nothing is buffered, there is no text and no held aggregate
nothing-of : (t : List ℕ) (ps : List Place) (h n : Option ℕ)
    → ((length t == 0) && (length ps == 0) && is_none h && is_none n) ≡ true
    → (t ≡ []) × (h ≡ None)
nothing-of [] [] None n is = (refl, refl)
nothing-of [] [] (Some h) n is = absurd (cc (is))
nothing-of [] (p ∷ ps) h n is = absurd (grind (arith, nat_tests, is))
nothing-of (b ∷ t) ps h n is = absurd (grind (arith, nat_tests, is))

made-of : (x : Collected) → IsWhole x → is_nothing x ≡ true → IsMade x
made-of x whole is =
    let none = nothing-of x.text x.places x.held x.next is in
    (none.0, none.1, (whole none.1).0, (whole none.1).1)

below-one : (a b : ℕ) → a ≤ b → IsBelow (a, 0) (b, 1)
below-one a b le = by (nat_lt a b) refl
  where
    by : (t : Bool) → nat_lt a b ≡ t → IsBelow (a, 0) (b, 1)
    by true is = inl (grind (arith, nat_tests, is))
    by false is = inr (grind (arith, nat_tests, is, le), omega arith)

-- ---- the information in a reply on the aggregates that are written

abbrev pub Facts : (readable now : ℕ → Option (List ℕ)) → Phase → Reply → Type 0
Facts readable now (phase.Writing agg) (reply.Count k) = (length (bytes_at now agg) ≡ length (bytes_at readable agg))
    × (0 < length (bytes_at readable agg) → 0 < k) × (k ≤ length (bytes_at readable agg))
Facts readable now (phase.CuttingRest agg from to) (reply.Agg k) = length (bytes_at now k) ≤ to - from
Facts readable now (phase.DroppingTaken agg rest) r = length (bytes_at now rest) ≤ length (bytes_at readable rest)
Facts readable now d r = Unit {0}

-- ---- the steps

module _ (job : Task) (readable now : ℕ → Option (List ℕ)) (begun : ℕ) where
  -- the step is tidy, and is the end or has a lower rank
  abbrev Good : Rank → Step → Type 0
  Good was next = IsTidy next × ((next.phase ≡ phase.Waiting) ⊎ IsBelow (rank job now next) was)

  abbrev left : ℕ
  left = length job.lines - begun

  reached : (was : Rank) (a next : Step) → Some a ≡ Some next → Good was a → Good was next
  reached was a next e good = subst (λ (s : Step). Good was s) (same-step a next e) good

  -- a step in the same line, at a lower stage
  lower : (was k : ℕ) (y : Collected) (d : Phase) → IsTidyIn y d → stage job y begun d < k
      → Good (8 * left + k, was) (step_with d begun y)
  lower was k y d tidy less = (tidy, inr (inl (omega (arith, less))))

  -- the text is made, or the bytes of another file are inserted
  inserts : (was k : ℕ) (h : Option ℕ) (o : Option Place) (y : Collected) (agg : ℕ) → y.held ≡ h
      → last_place y.places ≡ o → y.text ≡ [] → IsWhole y
      → 2 < k ⊎ ((2 ≡ k) × (4 * length y.places < was)) → Good (8 * left + k, was) (interleave_by h o begun y agg)
  inserts was k None o y agg held place text whole low =
      ((text, held, (whole held).0, (whole held).1), inr (inl (small (is_some y.next) low)))
    where
      small : (b : Bool) → 2 < k ⊎ ((2 ≡ k) × (4 * length y.places < was))
          → 8 * left + (if b then 1 else 0) < 8 * left + k
      small b (inl more) = let one = one-of b in omega (arith, more, one)
      small b (inr same) = let one = one-of b in let two = same.0 in omega (arith, two, one)
  inserts was k (Some h) None y agg held place text whole low =
      ((text, refl, refl, refl), inr (inl (small (is_some y.next) low)))
    where
      small : (b : Bool) → 2 < k ⊎ ((2 ≡ k) × (4 * length y.places < was))
          → 8 * left + (if b then 1 else 0) < 8 * left + k
      small b (inl more) = let one = one-of b in omega (arith, more, one)
      small b (inr same) = let one = one-of b in let two = same.0 in omega (arith, two, one)
  inserts was k (Some h) (Some p) y agg held place text whole low =
      ((text, whole, has-one y.places p place), inr (by low))
    where
      by : 2 < k ⊎ ((2 ≡ k) × (4 * length y.places < was))
          → IsBelow (8 * left + 2, 4 * length y.places) (8 * left + k, was)
      by (inl more) = inl (omega (arith, more))
      by (inr same) = inr (ap (λ z. 8 * left + z) same.0, same.1)

  -- ---- a line begins

  begins-at : (d : Phase) (y : Collected) → begun < length job.lines → IsTidyIn y d → stage job y (begun + 1) d ≤ 7
      → Good (8 * left + 0, 0) (step_with d (begun + 1) y)
  begins-at d y more tidy low = (tidy, inr (inl (omega (arith, more, low))))

  runs-at : (y : Collected) → begun < length job.lines → IsWhole y
      → Good (8 * left + 0, 0) (step_with phase.Interpreting (begun + 1) y)
  runs-at y more whole =
      begins-at phase.Interpreting y more whole (let three = three-of (expected_now job y (begun + 1)) in
      omega (arith, three))

  opened : (x : Collected) (p : Purpose) (r : Reply) (next : Step) → begun < length job.lines → IsWhole x
      → after_opening x p (begun + 1) r ≡ Some next → Good (8 * left + 0, 0) next
  opened x p (reply.Fd file) next more whole e =
      reached _ _ next e (begins-at (phase.Reading file p) x more whole (omega arith))
  opened x p (reply.Refused why) next more whole e = reached _ _ next e (runs-at _ more whole)
  opened x p r next more whole e = absurd (cc (e))

  line-begins : (x : Collected) (l : Line) (r : Reply) (next : Step) → begun < length job.lines → IsWhole x
      → after_line job x l (begun + 1) r ≡ Some next → Good (8 * left + 0, 0) next
  line-begins x (line.Emit text) r next more whole e = reached _ _ next e (runs-at (with_line x text) more whole)
  line-begins x line.Query r next more whole e = reached _ _ next e (runs-at (with_line x job.query) more whole)
  line-begins x (line.Cat name) r next more whole e = opened x purpose.Cat r next more whole e
  line-begins x (line.Wc name) r next more whole e = opened x purpose.Wc r next more whole e
  line-begins x line.Pause r next more whole e = reached _ _ next e (runs-at x more whole)

  next-begins : (x : Collected) (o : Option Line) (r : Reply) (next : Step) → slice_get job.lines begun ≡ o → IsWhole x
      → after_next job x o begun r ≡ Some next → Good (8 * left + 0, 0) next
  next-begins x (Some l) r next is whole e = line-begins x l r next (slice_get_within job.lines begun l is) whole e
  next-begins x None r next is whole e = reached _ _ next e (whole, inl refl)

  made : (x : Collected) (r : Reply) (next : Step) → IsWhole x → after_making x begun r ≡ Some next
      → Good (8 * left + 3, 0) next
  made x (reply.Agg agg) next whole e = reached _ _ next e
      (inserts 0 3 x.held (last_place x.places) (without_text x) agg refl refl refl whole (inl (omega arith)))
  made x r next whole e = absurd (cc (e))

  runs : (x : Collected) (r : Reply) (next : Step) (b : Bool) → IsWhole x
      → (if b then after_making x begun r else after_next job x (slice_get job.lines begun) begun r) ≡ Some next
      → Good (8 * left + (if b then 3 else 0), 0) next
  runs x r next true whole e = made x r next whole e
  runs x r next false whole e = next-begins x (slice_get job.lines begun) r next refl whole e

  -- ---- within a line

  ran : (was k : ℕ) (y : Collected) → 3 < k → IsWhole y
      → Good (8 * left + k, was) (step_with phase.Interpreting begun y)
  ran was k y more whole = lower was k y phase.Interpreting whole (let three = three-of (expected_now job y begun) in
      omega (arith, three, more))

  read : (x : Collected) (file : ℕ) (p : Purpose) (r : Reply) (next : Step) → IsWhole x
      → after_reading now x file p begun r ≡ Some next
      → Good (8 * left + 7, 0) next
  read x file purpose.Cat (reply.Agg agg) next whole e =
      reached _ _ next e (lower 0 7 x (got now file agg purpose.Cat) whole (omega arith))
  read x file purpose.Wc (reply.Agg agg) next whole e =
      reached _ _ next e (lower 0 7 x (got now file agg purpose.Wc) whole (omega arith))
  read x file p (reply.Refused why) next whole e =
      reached _ _ next e (lower 0 7 x (phase.ClosingCounted file _) whole (omega arith))
  read x file p r next whole e = absurd (cc (e))

  collected-file : (x : Collected) (o : Option ℕ) (from agg len : ℕ) (next : Step) → IsWhole x
      → file_collected x o from agg len begun ≡ Some next
      → Good (8 * left + 5, 0) next
  collected-file x None from agg len next whole e =
      reached _ _ next e (ran 0 5 (with_file x agg 0 len) (omega arith) (λ none. absurd (cc (none))))
  collected-file x (Some held) from agg len next whole e =
      reached _ _ next e (lower 0 5 x (phase.JoiningFile held agg from len) whole (omega arith))

  written-alone : (x : Collected) (agg : ℕ) (next : Step) (b : Bool) → IsWhole x → is_nothing x ≡ b
      → (if b then at (phase.Writing agg) begun x else at phase.Interpreting begun (with_next x agg)) ≡ Some next
      → Good (8 * left + 5, 0) next
  written-alone x agg next true whole is e =
      reached _ _ next e (lower 0 5 x (phase.Writing agg) (made-of x whole is) (let one = one-of (is_some x.next) in
      omega (arith, one)))
  written-alone x agg next false whole is e = reached _ _ next e (ran 0 5 (with_next x agg) (omega arith) whole)

  shut : (x : Collected) (from agg len : ℕ) (next : Step) (b : Bool) → IsWhole x
      → (if b then file_collected x x.held from agg len begun
      else (if is_nothing x then at (phase.Writing agg) begun x else at phase.Interpreting begun (with_next x agg)))
      ≡ Some next
      → Good (8 * left + 5, 0) next
  shut x from agg len next true whole e = collected-file x x.held from agg len next whole e
  shut x from agg len next false whole e = written-alone x agg next (is_nothing x) whole refl e

  joined : (x : Collected) (from len : ℕ) (held agg : ℕ) (r : Reply) (next : Step) → IsWhole x
      → after_phase now job x begun (phase.JoiningFile held agg from len) r ≡ Some next → Good (8 * left + 4, 0) next
  joined x from len held agg (reply.Agg new) next whole e =
      reached _ _ next e (ran 0 4 (with_file x new from len) (omega arith) (λ none. absurd (cc (none))))
  joined x from len held agg r next whole e = absurd (cc (e))

  -- ---- the bytes of files are inserted

  parted : (x : Collected) (held agg from : ℕ) (r : Reply) (next : Step) → IsTidyIn x (phase.CuttingPart held agg from)
      → after_phase now job x begun (phase.CuttingPart held agg from) r ≡ Some next
      → Good (8 * left + 2, 4 * length x.places) next
  parted x held agg from (reply.Aggs front part) next tidy e =
      let fewer = last-is x.places tidy.2 in
      reached _ _ next e ((tidy.0, λ none. absurd (cc (none))), inr (inr (refl, omega (arith, fewer))))
  parted x held agg from r next tidy e = absurd (cc (e))

  fewer-whole : (h : Option ℕ) (f : ℕ) (ps : List Place) → (h ≡ None → (f ≡ 0) × (ps ≡ [])) → h ≡ None
      → (f ≡ 0) × (but_last ps ≡ [])
  fewer-whole h f ps whole none = ((whole none).0, ap (λ (l : List Place). but_last l) (whole none).1)

  replaced : (x : Collected) (agg part place : ℕ) (r : Reply) (next : Step)
      → IsTidyIn x (phase.ReplacingPart agg part place)
      → after_phase now job x begun (phase.ReplacingPart agg part place) r ≡ Some next
      → Good (8 * left + 2, 4 * length (but_last x.places) + 3) next
  replaced x agg part place (reply.Agg new) next tidy e =
      reached _ _ next e ((tidy.0, fewer-whole x.held x.files x.places tidy.1), inr (inr (refl, omega arith)))
  replaced x agg part place r next tidy e = absurd (cc (e))

  -- ---- the buffered output is written

  taken : (x : Collected) (agg k len : ℕ) (b : Bool) → (k == len) ≡ b → IsMade x → len ≡ length (bytes_at readable agg)
      → (0 < length (bytes_at readable agg) → 0 < k) → k ≤ length (bytes_at readable agg)
      → Good (8 * left + stage job x begun (phase.Writing agg), 3 * length (bytes_at readable agg) + 2)
      (step_with (if b then phase.DroppingWritten agg else phase.CuttingRest agg k len) begun x)
  taken x agg k len true is tidy same some within = (tidy, inr (inr (refl, omega arith)))
  taken x agg k len false is tidy same some within =
      let differ : k ≢ len = λ e. absurd (grind (arith, nat_tests, is, e)) in
      let less : k < length (bytes_at readable agg) = fewer k len (length (bytes_at readable agg)) differ same within in
      let one = some (omega (arith, less)) in
      (tidy, inr (inr (refl, omega (arith, one, less, same))))
    where
      fewer : (k len l : ℕ) → k ≢ len → len ≡ l → k ≤ l → k < l
      fewer k len l differ same within = grind (arith, differ, same, within)

  written : (x : Collected) (agg : ℕ) (r : Reply) (next : Step) → IsMade x → Facts readable now (phase.Writing agg) r
      → after_writing x agg (length (bytes_at now agg)) begun r ≡ Some next
      → Good (8 * left + stage job x begun (phase.Writing agg), 3 * length (bytes_at readable agg) + 2) next
  written x agg (reply.Count k) next tidy facts e =
      reached _ _ next e (taken x agg k (length (bytes_at now agg)) (k == length (bytes_at now agg)) refl tidy facts.0
      facts.1 facts.2)
  written x agg (reply.Refused refuse.BrokenPipe) next tidy facts e =
      reached _ _ next e (tidy, inr (inr (refl, omega arith)))
  written x agg r next tidy facts e = absurd (cc (e))

  cut : (x : Collected) (agg from to : ℕ) (r : Reply) (next : Step) → IsMade x
      → Facts readable now (phase.CuttingRest agg from to) r
      → after_phase now job x begun (phase.CuttingRest agg from to) r ≡ Some next
      → Good (8 * left + stage job x begun (phase.CuttingRest agg from to), 3 * (to - from) + 4) next
  cut x agg from to (reply.Agg rest) next tidy facts e =
      reached _ _ next e (tidy, inr (inr (refl, omega (arith, facts))))
  cut x agg from to r next tidy facts e = absurd (cc (e))

  -- the stage depends on whether a long file follows
  stage-is : (x : Collected) (o : Option ℕ) → x.next ≡ o
      → ◌≡◌ {A = ℕ} (if is_some x.next then 1 else 0) (if is_some o then 1 else 0)
  stage-is x o is = ap (λ (p : Option ℕ). if is_some p then 1 else 0) is

  -- if all is made and no file follows, no write is expected
  at-rest : (x : Collected) (b : ℕ) → IsMade x → x.next ≡ None → ◌≡◌ {A = ℕ} (if expected_now job x b then 3 else 0) 0
  at-rest x b tidy none = ap (λ (t : Bool). if t then 3 else 0) (not-expected x tidy none (slice_get job.lines b))

  whole-of : (x : Collected) → IsMade x → IsWhole x
  whole-of x tidy = λ none. (tidy.2, tidy.3)

  dropped : (x : Collected) (o : Option ℕ) (next : Step) → x.next ≡ o → IsMade x → after_dropping x o begun ≡ Some next
      → Good (8 * left + (if is_some x.next then 1 else 0), 1) next
  dropped x (Some agg) next is tidy e =
      let was = stage-is x (Some agg) is in
      reached _ _ next e (tidy, inr (inl (omega (arith, was))))
  dropped x None next is tidy e =
      let was = stage-is x None is in
      let rests = at-rest x begun tidy is in
      reached _ _ next e (whole-of x tidy, inr (inr (omega (arith, was, rests), omega arith)))

  broken : (x : Collected) (o : Option ℕ) (next : Step) → x.next ≡ o → IsMade x
      → after_breaking job x o begun ≡ Some next
      → Good (8 * left + (if is_some x.next then 1 else 0), 1) next
  broken x (Some agg) next is tidy e =
      let was = stage-is x (Some agg) is in
      reached _ _ next e (tidy, inr (inl (omega (arith, was))))
  broken x None next is tidy e =
      reached _ _ next e (
        whole-of x tidy,
        inr
            (subst
            (λ k. IsBelow (8 * (length job.lines - length job.lines) + k, 0)
            (8 * left + (if is_some x.next then 1 else 0), 1))
            (sym (at-rest x (length job.lines) tidy is)) (below-one _ _ (omega arith))),
      )

  -- ---- all

  pub falls : (x : Collected) (d : Phase) (r : Reply) (next : Step) → Facts readable now d r → IsTidyIn x d
      → after_phase now job x begun d r ≡ Some next
      → Good (rank job readable (step_with d begun x)) next
  falls x phase.Waiting r next facts tidy e = absurd (cc (e))
  falls x phase.Interpreting r next facts tidy e = runs x r next (expected_now job x begun) tidy e
  falls x (phase.Reading file p) r next facts tidy e = read x file p r next tidy e
  falls x (phase.ClosingFile file agg) r next facts tidy e =
      shut x (length (bytes_of_one now x.held)) agg (length (bytes_at now agg)) next
      (nat_le (length (bytes_at now agg)) MAX_COLLECTED_BYTES) tidy e
  falls x (phase.ClosingCounted file s) r next facts tidy e =
      reached _ _ next e (ran 0 5 (with_text x (said_text s)) (omega arith) tidy)
  falls x (phase.JoiningFile held agg from len) r next facts tidy e = joined x from len held agg r next tidy e
  falls x (phase.CuttingPart held agg from) r next facts tidy e = parted x held agg from r next tidy e
  falls x (phase.ReplacingPart agg part place) r next facts tidy e = replaced x agg part place r next tidy e
  falls x (phase.DroppingText agg part new) r next facts tidy e =
      reached _ _ next e (tidy, inr (inr (refl, omega arith)))
  falls x (phase.DroppingPart part new) r next facts tidy e = reached _ _ next e
      (inserts (4 * length x.places + 1) 2 x.held (last_place x.places) x new refl refl tidy.0 tidy.1
      (inr (refl, omega arith)))
  falls x (phase.Writing agg) r next facts tidy e = written x agg r next tidy facts e
  falls x (phase.CuttingRest agg from to) r next facts tidy e = cut x agg from to r next tidy facts e
  falls x (phase.DroppingOther agg) r next facts tidy e = reached _ _ next e (tidy, inl refl)
  falls x (phase.DroppingCounted file agg s) r next facts tidy e =
      reached _ _ next e (lower 0 6 x (phase.ClosingCounted file s) tidy (omega arith))
  falls x (phase.DroppingTaken agg rest) r next facts tidy e =
      reached _ _ next e (tidy, inr (inr (refl, omega (arith, facts))))
  falls x (phase.DroppingWritten agg) r next facts tidy e = dropped x x.next next refl tidy e
  falls x (phase.Aborting agg) r next facts tidy e = broken x x.next next refl tidy e
