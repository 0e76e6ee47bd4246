use Rattle.std.proofs.Common.{◌≡◌, ℕ, List, arith, refl, ◌∙◌, get_or, subst}
use Rattle.std.proofs.lemmas.List.{take_all, get_or_default}
use Rattle.iol_arena.specs.Chunks.{AreTaken}
use Rattle.iol_arena.proofs.GivenChunks.{one_taken}
use Rattle.iol_arena.proofs.arena.chunks.mark_taken.Goals as goal

pub loop-chunk-init : goal.loop-chunk-init
loop-chunk-init c = record { count = refl; there = λ q h. absurd (omega (arith, h.1)); others = λ q out. refl }

pub loop-chunk-preserved : goal.loop-chunk-preserved
loop-chunk-preserved c =
    let xs = c.args.chunks.now in
    let i : ℕ = c.loop-chunk.chunk-index in
    let read : c.number.result ≡ get_or xs i 0 = c.number.ensures ∙ c.chunk-item.is
    ∙ get_or_default xs i c.chunk-item.result 0 c.loop-chunk-test.true in
    one_taken c.args.taken.now c.loop-chunk.taken xs i c.number.result read c.loop-chunk-test.true
    c.loop-chunk.invariant

pub returns : goal.returns
returns c =
    subst (λ (cs : List ℕ). AreTaken c.args.taken.now c.loop-chunk.taken cs)
    (take_all c.loop-chunk.chunk-index c.args.chunks.now (omega arith)) c.loop-chunk.invariant
