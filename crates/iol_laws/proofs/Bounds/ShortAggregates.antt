-- No aggregate exceeds its limit.
use Rattle.std.proofs.Common.{inl, inr, ◌≡◌, ◌≤◌, ℕ, ◌+◌, ◌-◌, List, [], ◌++◌, length, take, drop, ap, ◌∙◌, refl, sym}
use Rattle.std.proofs.Common.{subst, arith, Option, Some, None, true, false, Bool, length-append, length-drop}
use Rattle.std.specs.Prelude.{nat_lt}
use Rattle.std.specs.List.{list_all}
use Rattle.std.proofs.lemmas.Bool.Decides.{nat_tests}
use Rattle.std.proofs.lemmas.List.{length-take}
use Rattle.iol_core.specs.Text.{Text, labelled, part, admitted}
use Rattle.iol_core.specs.NumberedLists.{placed}
use Rattle.iol_core.specs.State.{State, Domain, domain, content, descriptor, text, file, may_read, pipe_at, conn_at}
use Rattle.iol_core.specs.State.{new_state}
use Rattle.iol_core.specs.Positions.{ArePlaced}
use Rattle.iol_core.specs.Meaning.{first}
use Rattle.iol_core.specs.Run.{called, meaning}
use Rattle.iol_core.specs.Calls.Aggregates as aggs
use Rattle.iol_core.specs.Calls.Reads as reading
use Rattle.iol_core.specs.declared.limits.TheConstants.{MAX_AGGREGATE_BYTES}
use Rattle.iol_core.specs.declared.refusals.Refusal.TheVariants as refuse
use Rattle.iol_core.specs.declared.descriptors.Descriptor.{Descriptor}
use Rattle.iol_core.specs.declared.descriptors.Descriptor.TheVariants as on
use Rattle.iol_core.specs.declared.events.Call.{Call}
use Rattle.iol_core.specs.declared.events.Call.TheVariants as call
use Rattle.iol_core.specs.declared.events.Event.{Event}
use Rattle.iol_core.specs.declared.events.Event.TheVariants as event
use Rattle.iol_core.proofs.Lookups.{domain-new_state}
use Rattle.iol_core.proofs.TestedLists.{list_all-lookup, list_all-push, list_all-without, passed, when-none}
use Rattle.iol_laws.specs.Lengths.{AreShort, fits_aggregate, fits_queue, both_fit}
use Rattle.iol_laws.proofs.AggsOfEach.{Brings, BringsIn, IsOfAggs, of_meant}
use Rattle.iol_laws.proofs.Tests.{both-true}
use Rattle.iol_laws.proofs.Texts.{admitted-rest, length-labelled}

abbrev Fit : List (ℕ × Text) → Type 0
Fit list = list_all (λ e. fits_aggregate e.1) list ≡ true

abbrev pub AllFit : State → Type 0
AllFit s = (d : ℕ) → Fit (domain s d).aggs

-- Lengths.

fits : (t : Text) (n : ℕ) → length t ≤ n → n ≤ MAX_AGGREGATE_BYTES → fits_aggregate t ≡ true
fits t n less short =
    (let f : length t ≤ MAX_AGGREGATE_BYTES = omega (arith, less, short) in grind (arith, nat_tests, f))

pub is-short : (t : Text) → fits_aggregate t ≡ true → length t ≤ MAX_AGGREGATE_BYTES
is-short t is = grind (arith, nat_tests, is)

-- a length that is not over the limit is within it
passes : (n : ℕ) → nat_lt MAX_AGGREGATE_BYTES n ≡ false → n ≤ MAX_AGGREGATE_BYTES
passes n is = grind (arith, nat_tests, is)

pub taken-less : {A : Type 0} (n : ℕ) (xs : List A) → length (take n xs) ≤ length xs
taken-less n xs = let e = length-take n xs in grind (arith, nat_tests, e)

pub dropped-less : {A : Type 0} (n : ℕ) (xs : List A) → length (drop n xs) ≤ length xs
dropped-less n xs = omega (arith, length-drop n xs)

-- the prefix that a domain may read is no longer than the queue
admitted-less : (may : ℕ → Bool) (n : ℕ) (q : Text) → length (admitted may (take n q)) ≤ length q
admitted-less may n q =
    let front : Text = admitted may (take n q) in
    let e = ap (λ (l : Text). length l) (admitted-rest may n q) ∙ length-append front (drop (length front) q) in
    omega (arith, e)

pub text-fits : (s : State) (d a : ℕ) → AllFit s → fits_aggregate (text s d a) ≡ true
text-fits s d a fit = list_all-lookup fits_aggregate (domain s d).aggs a [] refl (fit d)

text-short : (s : State) (d a : ℕ) → AllFit s → length (text s d a) ≤ MAX_AGGREGATE_BYTES
text-short s d a fit = is-short (text s d a) (text-fits s d a fit)

-- The text that a read returns.

queue-short : (t : Text) → fits_queue t ≡ true → length t ≤ MAX_AGGREGATE_BYTES
queue-short t is = grind (arith, nat_tests, is)

incoming-fits : (s : State) (c : ℕ) → AreShort s → fits_queue (conn_at s c).incoming ≡ true
unfolding conn_at
incoming-fits s c short = (both-true _ _ (list_all-lookup both_fit s.conns c _ refl short.conns)).0

read-short : (s : State) (by fd : ℕ) (o : Option Descriptor) (n : ℕ) → descriptor s by fd ≡ o → ArePlaced s → AreShort s
    → length (reading.read_text s by o n) ≤ MAX_AGGREGATE_BYTES
read-short s by fd (Some (on.File f at mode)) n is placed short =
    let here = placed.each by fd f at mode is in
    let all = short.files f here.0 in
    let e = length-labelled (file s f).pool (take n (drop at (content s f))) in
    let l = taken-less n (drop at (content s f)) in
    let k = dropped-less at (content s f) in
    omega (arith, e, l, k, all)
read-short s by fd (Some (on.ReadEnd p)) n is placed short =
    (let e = admitted-less (may_read s by) n (pipe_at s p).queue in let q =
    queue-short (pipe_at s p).queue (short.pipes p) in omega (arith, e, q))
read-short s by fd (Some (on.Connection c)) n is placed short =
    (let e = admitted-less (may_read s by) n (conn_at s c).incoming in let q =
    queue-short (conn_at s c).incoming (incoming-fits s c short) in omega (arith, e, q))
read-short s by fd o n is placed short = (let e = admitted-less (may_read s by) n [] in omega (arith, e))

-- The aggregates that each call creates.

abbrev Fits : (d n : ℕ) → Text → Type 0
Fits d n t = fits_aggregate t ≡ true

abbrev AreFit : (d : ℕ) → List (ℕ × Text) → (next : ℕ) → Type 0
AreFit d kept n = Fit kept

stays_fit : IsOfAggs AreFit Fits
stays_fit = record {
  none = λ d n. refl;
  added = λ d n kept t new old. list_all-push {A = ℕ × Text} (λ e. fits_aggregate e.1) kept (n, t) old new;
  gone = λ d n kept a old. list_all-without (λ e. fits_aggregate e.1) kept a old;
}

fit_call : (s : State) (by : ℕ) (k : Call) → first (called s by k).refusals ≡ None → ArePlaced s → AreShort s
    → Brings Fits s by k
fit_call s by (call.AggMake bytes) un placed short =
    let passed_all =
    passes (length bytes)
    (when-none refuse.TooLong (nat_lt MAX_AGGREGATE_BYTES (length bytes))
    (passed (aggs.agg_make s by bytes).refusals 2 un)) in
    fits (labelled (aggs.default_pool s by) bytes) (length bytes)
    (omega (arith, length-labelled (aggs.default_pool s by) bytes)) passed_all
fit_call s by (call.AggDup a) un placed short = text-fits s by a short.aggs
fit_call s by (call.AggCut a from to) un placed short =
    let t : Text = text s by a in
    let less : length (part t from to) ≤ length t =
    (let e = taken-less (to - from) (drop from t) in let f = dropped-less from t in omega (arith, e, f)) in
    fits (part t from to) (length t) less (text-short s by a short.aggs)
fit_call s by (call.AggSplit a at) un placed short =
    let t : Text = text s by a in (
      fits (take at t) (length t) (taken-less at t) (text-short s by a short.aggs),
      fits (drop at t) (length t) (dropped-less at t) (text-short s by a short.aggs),
    )
fit_call s by (call.AggJoin a b) un placed short =
    let x : Text = text s by a in
    let y : Text = text s by b in
    fits (x ++ y) (length x + length y) (omega (arith, length-append x y))
    (passes (length x + length y) (when-none refuse.TooLong (nat_lt MAX_AGGREGATE_BYTES (length x + length y))
    (passed (aggs.agg_join s by a b).refusals 2 un)))
fit_call s by (call.AggReplace a from to b) un placed short =
    let w : Text = take from (text s by a) ++ text s by b ++ drop to (text s by a) in
    fits w (length w) (omega arith)
    (passes (length w)
    (when-none refuse.TooLong (nat_lt MAX_AGGREGATE_BYTES (length w))
    (passed (aggs.agg_replace s by a from to b).refusals 3 un)))
fit_call s by (call.AggGive a to) un placed short = text-fits s by a short.aggs
fit_call s by (call.IolRead fd n) un placed short =
    let w : Text = reading.read_text s by (descriptor s by fd) n in
    fits w (length w) (omega arith) (read-short s by fd (descriptor s by fd) n refl placed short)
fit_call s by k un placed short = tt

fit_event : (s : State) (e : Event) → first (meaning s e).refusals ≡ None → ArePlaced s → AreShort s → BringsIn Fits s e
fit_event s (event.Call by k) un placed short = fit_call s by k un placed short
fit_event s e un placed short = tt

pub fit_meant : (s : State) (e : Event) → first (meaning s e).refusals ≡ None → ArePlaced s → AreShort s
    → AllFit (meaning s e).after
fit_meant s e un placed short = of_meant AreFit Fits stays_fit s e (fit_event s e un placed short) short.aggs

pub fit_new_state : (slots : List (List ℕ)) → AllFit (new_state slots)
fit_new_state slots d = elim (domain-new_state slots d) [
  | inl one ↦ subst (λ (x : Domain Text). Fit x.aggs) (sym one) refl
  | inr none ↦ subst (λ (x : Domain Text). Fit x.aggs) (sym none) refl
]
