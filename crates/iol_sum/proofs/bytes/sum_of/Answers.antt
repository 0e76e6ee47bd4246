use Rattle.std.proofs.Common.{◌≡◌, ◌+◌, ◌*◌, ◌/◌, ◌≤◌, ◌∙◌, [], sym, ap, arith, take, drop, length, get_or}
use Rattle.std.specs.Int.{w64, from_le_bytes}
use Rattle.std.proofs.lemmas.List.{drop-drop, length-drop}
use Rattle.iol_core.specs.Checksum.{word_sum, folded}
use Rattle.iol_sum.proofs.EightBytes.{folded-eight, first_chunks-at}
use Rattle.iol_sum.proofs.bytes.sum_of.Goals as goal

pub loop-chunk-preserved : goal.loop-chunk-preserved
loop-chunk-preserved c =
    let xs = c.args.bytes.now in
    let i = c.loop-chunk.chunk-index in
    let t = c.loop-chunk.total in
    let room : 8 * i + 8 ≤ length xs = omega arith in
    let here : get_or c.as_chunks.result.0.now i [] ≡ take 8 (drop (8 * i) xs) =
    ap (λ l. get_or l i []) c.as_chunks.ensures.front ∙ first_chunks-at (length xs / 8) i xs [] (omega arith) in
    let value : c.from.result ≡ from_le_bytes w64 (take 8 (drop (8 * i) xs)) = c.from.ensures ∙ c.from_le_bytes.ensures
    ∙ ap (from_le_bytes w64) here in
    let place : 8 * i + 8 ≡ 8 * (i + 1) = omega arith in
    let left : drop (8 * (i + 1)) xs ≡ drop 8 (drop (8 * i) xs) = ap (λ n. drop n xs) (sym place)
    ∙ sym (drop-drop 8 (8 * i) xs) in
    record {
      sum = ap (λ n. folded (256 * (t + n) + word_sum (drop (8 * (i + 1)) xs))) value
          ∙ ap (λ l. folded (256 * (t + from_le_bytes w64 (take 8 (drop (8 * i) xs))) + word_sum l)) left
          ∙ folded-eight t (drop (8 * i) xs) (omega (arith, length-drop (8 * i) xs)) ∙ c.loop-chunk.invariant.sum;
      bound = omega arith;
    }
