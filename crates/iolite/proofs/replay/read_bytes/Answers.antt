use Rattle.std.proofs.Common.{arith}
use Rattle.iolite.proofs.ScriptText.{IsWholeOrTooLong-take}
use Rattle.iolite.proofs.replay.read_bytes.Goals as goal

-- the reader's bytes, up to the limit
pub returns-in-Ok-clause-bytes : goal.returns-in-Ok-clause-bytes
returns-in-Ok-clause-bytes g c =
    let found = rw (c.take.ensures.inner) at c.in-Ok.ensures.bytes in
    IsWholeOrTooLong-take (g.R.Read.remaining c.args.input.now) c.take.result.limit _ _ c.new-bytes.ensures.items
    (omega (arith, c.take.ensures.limit)) found
