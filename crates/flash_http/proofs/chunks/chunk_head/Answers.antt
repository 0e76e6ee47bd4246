use Rattle.std.proofs.Common.{◌≡◌, arith, rules}
use Rattle.std.specs.Prelude.{IfOk, string_bytes}
use Rattle.flash_http.specs.Chunk.{chunk_head}
use Rattle.flash_http.proofs.ChunkLines.{text_reads}
use Rattle.flash_http.proofs.chunks.chunk_head.Goals as goal

pub returns-clause-reads : goal.returns-clause-reads
returns-clause-reads c =
    let text : IfOk c.format.result (λ text. string_bytes text ≡ chunk_head c.args.len) = search rules in
    text_reads string_bytes c.args.len c.format.result (omega (arith, c.ranges.len)) text
