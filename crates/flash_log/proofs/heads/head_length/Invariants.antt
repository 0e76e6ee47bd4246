use Rattle.std.proofs.Common.{◌≡◌, ◌+◌, ◌-◌, ◌==◌, codes, find, length, take}
use Rattle.std.specs.List.{ends_with, range_with_len}
use Rattle.flash_log.specs.Head as spec
use Rattle.flash_log.proofs.heads.head_length.Given as goal

abbrev pub invariant-loop-place : goal.invariant-loop-place
invariant-loop-place l =
    find (λ n. ends_with (λ a b. a == b) (take n l.bytes) (codes "\r\n\r\n"))
    (range_with_len l.place (length l.bytes + 1 - l.place)) ≡ spec.head_length l.bytes
