use Rattle.std.proofs.Common.{◌≡◌, ℕ, Option, Some, None, refl, sym, ap, subst, ◌∙◌, arith, rules}
use Rattle.std.specs.Map.{lookup}
use Rattle.iol_core.specs.Checksum.{word_sum, folded}
use Rattle.iol_sum.specs.Sums.{key_of, same, IsRight, IsRightSum, Uses}
use Rattle.iol_sum.proofs.SumUse.{sums_of, Uses-found, Uses-put, Uses-right, right-sum, unpromoted}
use Rattle.iol_sum.proofs.cache.SumCache.sum.Goals as goal

found : (c : goal.In-Some) → lookup (same c.of-key.result) c.self.inside.sums.entries ≡ Some c.in-Some.sum
found c = sym c.get.ensures.value ∙ sym c.copied.ensures ∙ c.in-Some.is

found-uses : (c : goal.In-Some)
    → Uses (sums_of c.self.inside.sums) c.of-key.result c.in-Some.sum (sums_of c.get.follows.lender-at-none)
found-uses c = Uses-found c.self.inside.sums c.get.follows.lender-at-none c.of-key.result c.in-Some.sum (found c)
    c.get.follows.holds-at-none

right-before : (c : goal.In-Some) → IsRight c.args.store.now.arena (sums_of c.self.inside.sums)
right-before c = search rules

pub returns-in-Some-clause-value : goal.returns-in-Some-clause-value
returns-in-Some-clause-value c =
    (right-sum c.args.store.now.arena (key_of c.args.slice.now) c.in-Some.sum (sums_of c.self.inside.sums)
    (right-before c) (ap (λ k. lookup (same k) c.self.inside.sums.entries) (sym c.of-key.ensures) ∙ found c)).value
    c.requires.readable.live

pub returns-in-Some-clause-uses : goal.returns-in-Some-clause-uses
returns-in-Some-clause-uses c =
    subst (λ v. Uses v (key_of c.args.slice.now) c.in-Some.sum (sums_of c.get.follows.lender-at-none)) c.self.view_is
    (subst (λ k. Uses (sums_of c.self.inside.sums) k c.in-Some.sum (sums_of c.get.follows.lender-at-none))
    c.of-key.ensures (found-uses c))

pub returns-in-Some-clause-right : goal.returns-in-Some-clause-right
returns-in-Some-clause-right c =
    Uses-right c.args.store.now.arena (sums_of c.self.inside.sums) (sums_of c.get.follows.lender-at-none)
    c.of-key.result c.in-Some.sum
    (right-sum c.args.store.now.arena c.of-key.result c.in-Some.sum (sums_of c.self.inside.sums) (right-before c)
    (found c)) (right-before c) (found-uses c)

none : (o : Option ℕ) → ((x : ℕ) → o ≡ Some x → ⊥) → o ≡ None
none (Some x) h = absurd (h x refl)
none None h = refl

missed : (c : goal.After-put-remembered) → lookup (same c.of-key.result) c.self.inside.sums.entries ≡ None
missed c = sym c.get.ensures.value ∙ sym c.copied.ensures ∙ (none c.copied.result c.in_default.not-Some)

put-uses : (c : goal.After-put-remembered)
    → Uses (sums_of c.self.inside.sums) c.of-key.result c.sum_of-sum.result (sums_of c.put-remembered.new.self)
put-uses c =
    let put = c.put-remembered in
    let before =
    unpromoted c.self.inside.sums c.get.follows.lender-at-none c.of-key.result (missed c)
    c.get.follows.holds-at-none in
    let none = ap (λ l. lookup (same c.of-key.result) l.entries) before ∙ missed c in
    subst (λ l. Uses (sums_of l) c.of-key.result c.sum_of-sum.result (sums_of put.new.self)) before
    (Uses-put c.get.follows.lender-at-none put.new.self c.of-key.result c.sum_of-sum.result put.result none
    put.ensures.entries put.ensures.err)

key-uses : (c : goal.After-put-remembered)
    → Uses (sums_of c.self.inside.sums) (key_of c.args.slice.now) c.sum_of-sum.result
    (sums_of c.put-remembered.new.self)
key-uses c = subst (λ k. Uses (sums_of c.self.inside.sums) k c.sum_of-sum.result (sums_of c.put-remembered.new.self))
    c.of-key.ensures (put-uses c)

right-then : (c : goal.After-put-remembered) → IsRight c.args.store.now.arena (sums_of c.self.inside.sums)
right-then c = search rules

pub returns-clause-uses : goal.returns-clause-uses
returns-clause-uses c =
    subst (λ v. Uses v (key_of c.args.slice.now) c.sum_of-sum.result (sums_of c.put-remembered.new.self)) c.self.view_is
    (key-uses c)

new-right : (c : goal.After-put-remembered)
    → IsRightSum c.args.store.now.arena (key_of c.args.slice.now, c.sum_of-sum.result)
new-right c = record {
  value = λ live. c.sum_of-sum.ensures ∙ ap (λ l. folded (word_sum l)) c.bytes.ensures;
  published = let live = c.requires.readable.live.generation in omega arith;
}

pub returns-clause-right : goal.returns-clause-right
returns-clause-right c =
    Uses-right c.args.store.now.arena (sums_of c.self.inside.sums) (sums_of c.put-remembered.new.self)
    (key_of c.args.slice.now) c.sum_of-sum.result (new-right c) (right-then c) (key-uses c)
