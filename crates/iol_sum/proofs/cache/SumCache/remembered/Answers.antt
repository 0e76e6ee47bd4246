use Rattle.std.proofs.Common.{rules, ◌≡◌, ℕ, Option, Some, None, IfSome, sym, ap, ◌∙◌}
use Rattle.std.specs.Map.{lookup}
use Rattle.iol_core.specs.Checksum.{word_sum, folded}
use Rattle.iol_hold.specs.StoreState.{Stored}
use Rattle.iol_hold.specs.Texts.{slice_bytes, IsReadable}
use Rattle.iol_hold.specs.declared.slices.Slice.{Slice}
use Rattle.iol_sum.specs.Sums.{Sums, key_of, same, sum_kept, IsRight}
use Rattle.iol_sum.proofs.SumUse.{sums_of, right-sum}
use Rattle.iol_sum.proofs.cache.SumCache.remembered.Goals as goal

-- a sum that is remembered for a slice is that of its bytes
value : (s : Stored) (x : Slice) (c : Sums) → IsReadable s x → IsRight s.arena c → (o : Option ℕ)
    → o ≡ sum_kept c (key_of x) → IfSome o (λ n. n ≡ folded (word_sum (slice_bytes s x)))
value s x c ready h None e = tt
value s x c ready h (Some n) e = (right-sum s.arena (key_of x) n c h (sym e)).value ready.live

pub returns-clause-value : goal.returns-clause-value
returns-clause-value c =
    value c.args.store.now c.args.slice.now (sums_of c.self.inside.sums) c.requires.readable (search rules)
    c.copied.result (c.copied.ensures ∙ c.peek.ensures
    ∙ ap (λ k. lookup (same k) c.self.inside.sums.entries) c.of.ensures)
