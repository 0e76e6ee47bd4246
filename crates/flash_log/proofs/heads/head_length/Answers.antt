use Rattle.std.proofs.Common.{◌∙◌, ◌+◌, ◌==◌, codes, length, rules, sym, take}
use Rattle.std.specs.List.{ends_with}
use Rattle.flash_log.proofs.HeadLemmas.{find_later}
use Rattle.flash_log.proofs.heads.head_length.Goals as goal

pub loop-place-preserved : goal.loop-place-preserved
loop-place-preserved c =
    sym (find_later (λ n. ends_with (λ a b. a == b) (take n c.args.bytes.now) (codes "\r\n\r\n")) c.loop-place.place
    (length c.args.bytes.now + 1) c.loop-place-test.true (search rules)) ∙ c.loop-place.invariant
