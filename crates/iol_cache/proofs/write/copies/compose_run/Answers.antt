use Rattle.std.proofs.Common.{Ok, Err, ◌≡◌, ◌∙◌, ◌+◌, ◌-◌, ◌==◌, Bool, true, false, All, List, ℕ, take, drop}
use Rattle.std.proofs.Common.{slice_range, refl, sym, ap, subst, arith}
use Rattle.iol_agg.proofs.KnownHolds.{tally-few}
use Rattle.iol_arena.specs.State.{pages_for}
use Rattle.iol_core.specs.declared.refusals.Refusal.TheVariants.{NoRoom}
use Rattle.iol_hold.specs.Places.{byte_len, places}
use Rattle.iol_hold.specs.StoreState.{Stored}
use Rattle.iol_hold.specs.declared.slices.Slice.{Slice}
use Rattle.iol_cache.specs.Composition.{Composes, ComposesRunOrKeeps, MayCopy, copied_pages}
use Rattle.iol_cache.proofs.RangeWrites.Composition.{IsRun, all_rest, byte_len-drop-le, composes_shared, eq_no, eq_yes}
use Rattle.iol_cache.proofs.RangeWrites.Composition.{is_run, may_copy, other_run, own_run, readable_drop, readable_take}
use Rattle.iol_cache.proofs.RangeWrites.Composition.{run_places, run_splits}
use Rattle.iol_cache.proofs.write.copies.compose_run.Goals.{After-run_of-count, Else-own}
use Rattle.iol_cache.proofs.write.copies.compose_run.Goals as goal

kind_is : (p a b q : ℕ) → a ≡ p → b ≡ q → (p == q) ≡ (a == b)
kind_is p a b q e f = ap (λ n. n == q) (sym e) ∙ ap (λ n. a == n) (sym f)

pub run_of-count-requires : goal.run_of-count-requires
run_of-count-requires c =
    let xs = c.args.source.now in
    omega (
      arith,
      ap byte_len (all_rest c.slices-slices.result.now xs c.args.i c.slices-slices.ensures),
      byte_len-drop-le xs c.args.i,
      c.requires.may.small,
    )

-- the run that was found
run : (c : After-run_of-count)
    → IsRun c.args.source.now c.args.i c.args.pool c.run_of-count.result.0 c.run_of-count.result.1
    (c.number.result == c.number-2.result)
run c =
    let kind = kind_is c.index-slices-i.result.hold.pool c.number.result c.number-2.result c.args.pool (c.number.ensures
    ∙ c.pool.ensures ∙ ap (λ (x : Slice). x.hold.pool) (sym c.index-slices-i.is)) c.number-2.ensures in
    is_run c.slices-slices.result.now c.args.source.now c.args.i c.args.pool c.run_of-count.result.0
    c.run_of-count.result.1 (c.number.result == c.number-2.result) c.index-slices-i.result c.slices-slices.ensures
    c.requires.at.there c.index-slices-i.is kind c.run_of-count.ensures

composed : {s t : Stored} {p i at n count k : ℕ} {own : Bool} {xs out : List Slice} → IsRun xs i p n count own
    → at ≡ byte_len (take i xs) → k + copied_pages p (drop (i + n) xs) ≡ copied_pages p (drop i xs)
    → Composes s t p k (take n (drop i xs)) out → ComposesRunOrKeeps s t p xs i (Ok (i + n, at + count, out))
composed {i = i} {n = n} {k = k} {xs = xs} r before pages m = record {
  further = omega (arith, r.some);
  within = r.within;
  ends = omega (arith, r.long, before);
  composes = record { run = take n (drop i xs); splits = run_splits xs i n; count = k; pages = pages; composes = m };
  no_room = λ p is. cc;
  late = tt;
  err = tt;
}

pub overflow_add-end : goal.overflow_add-end
overflow_add-end c =
    (let r = run (goal.at.overflow_add-end c).After-run_of-count in
    omega (arith, r.few, c.requires.at.before, c.requires.may.small))

-- Bytes of the pool.

pub cut-requires-clause-within : goal.cut-requires-clause-within
cut-requires-clause-within c =
    (let r = run (goal.at.cut-requires-clause-within c).After-run_of-count in
    omega (arith, r.few, c.requires.at.before))

pub cut-requires-clause-countable : goal.cut-requires-clause-countable
cut-requires-clause-countable c =
    record { each = λ b. omega (arith, c.requires.may.few.each b, tally-few b c.args.source.now, c.requires.may.small) }

pub returns-then-own : goal.returns-then-own
returns-then-own c =
    let xs = c.args.source.now in
    let i = c.args.i in
    let n = c.run_of-count.result.0 in
    let r = run (goal.at.returns-then-own c).After-run_of-count in
    let is : (c.number.result == c.number-2.result) ≡ true = eq_yes c.number.result c.number-2.result c.if-own.true in
    let run = take n (drop i xs) in
    let all = subst (λ b. All (λ (x : Slice). (x.hold.pool == c.args.pool) ≡ b) run) is r.all in
    let readable = readable_take run (drop i xs) n refl (readable_drop xs i c.requires.may.readable) in
    let same : places c.in-Ok.shared ≡ places run = c.in-Ok.ensures.places
    ∙ ap (λ k. slice_range (places xs) k (k + c.run_of-count.result.1)) c.requires.at.before
    ∙ ap (λ m. slice_range (places xs) (byte_len (take i xs)) (byte_len (take i xs) + m)) r.bytes
    ∙ run_places xs i n in
    composed r c.requires.at.before
    (omega (
      arith,
      ap (copied_pages c.args.pool) (run_splits xs i n),
      own_run c.args.pool run (drop (i + n) xs) all,
    )) (composes_shared all same c.in-Ok.ensures.shares readable)

-- Bytes of other pools.

found : (c : Else-own) → IsRun c.args.source.now c.args.i c.args.pool c.run_of-count.result.0 c.run_of-count.result.1
    (c.number.result == c.number-2.result)
    → IsRun c.args.source.now c.args.i c.args.pool c.run_of-count.result.0 c.run_of-count.result.1 false
found c r = subst (λ b. IsRun c.args.source.now c.args.i c.args.pool c.run_of-count.result.0 c.run_of-count.result.1 b)
    (eq_no c.number.result c.number-2.result c.if-own.false) r

same : (c : Else-own) → take (c.args.i + c.run_of-count.result.0 - c.args.i) (drop c.args.i c.slices-slices.result.now)
    ≡ take c.run_of-count.result.0 (drop c.args.i c.args.source.now)
same c =
    let i = c.args.i in
    let n = c.run_of-count.result.0 in
    ap (λ k. take k (drop i c.slices-slices.result.now)) (let m : i + n - i ≡ n = omega arith in m)
    ∙ ap (λ (l : List Slice). take n (drop i l)) c.slices-slices.ensures

pages : {xs : List Slice} {i p n count : ℕ} → IsRun xs i p n count false
    → copied_pages p (drop i xs) ≡ pages_for (byte_len (take n (drop i xs))) + copied_pages p (drop (i + n) xs)
pages {xs} {i} {p} {n} r =
    let run = take n (drop i xs) in
    ap (copied_pages p) (run_splits xs i n) ∙ other_run 0 p run (drop (i + n) xs) r.all r.ends
    ∙ ap (λ k. pages_for k + copied_pages p (drop (i + n) xs)) (let none : 0 + byte_len run ≡ byte_len run =
    omega arith in none)

pub copy_run-requires : goal.copy_run-requires
copy_run-requires c =
    let at = goal.at.copy_run-requires c in
    subst (MayCopy c.args.store.now c.args.pool) (sym (same at.Else-own))
    (may_copy c.requires.may (found at.Else-own (run at.After-run_of-count)))

pub returns-in-Err : goal.returns-in-Err
returns-in-Err c =
    let at = goal.at.returns-in-Err c in
    let e = c.in-Err.ensures in
    let needs = pages (found at.Else-own (run at.After-run_of-count)) in
    let long = ap (λ l. pages_for (byte_len l)) (same at.Else-own) in
    record {
      further = tt;
      within = tt;
      ends = tt;
      composes = tt;
      no_room =
          λ p none. omega (
            arith,
            e.no_room p (let q : c.in-Err.refusal ≡ NoRoom p = cc in ap (λ x. Err x) q),
            needs,
            long,
          );
      late = e.late;
      err = e.err;
    }

pub returns : goal.returns
returns c =
    let at = goal.at.returns c in
    let r = run at.After-run_of-count in
    composed r c.requires.at.before (sym (pages (found at.Else-own r)))
    (subst (λ (l : List Slice). Composes c.args.store.now c.copy_run.new.store c.args.pool (pages_for (byte_len l)) l
    c.in-Ok-copy_run.copy) (same at.Else-own) c.in-Ok-copy_run.ensures.composes)
