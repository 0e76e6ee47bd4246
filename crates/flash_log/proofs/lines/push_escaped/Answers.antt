use Rattle.std.proofs.Common.{◌≡◌, ◌+◌, ◌++◌, List, ℕ, sym, subst, drop, arith}
use Rattle.flash_log.specs.Line.{escaped}
use Rattle.flash_log.proofs.Printable.{escaped_more}
use Rattle.flash_log.proofs.lines.push_escaped.Goals as goal

pub loop-byte-preserved : goal.loop-byte-preserved
loop-byte-preserved c =
    subst (λ (l : List ℕ). l ++ escaped (drop (c.loop-byte.byte-index + 1) c.args.bytes.now) ≡ c.args.line.now.items
    ++ escaped c.args.bytes.now)
    (sym c.in_ok-push_byte.ensures)
    (escaped_more c.loop-byte.line.items _ c.args.bytes.now c.loop-byte.byte-index 0
    (omega (arith, c.loop-byte-test.true)) c.loop-byte.invariant)
