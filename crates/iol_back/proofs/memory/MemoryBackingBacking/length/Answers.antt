use Rattle.std.proofs.Common.{ℕ, ◌-◌, ◌^◌, List, min, length, ap, sym, ◌∙◌}
use Rattle.iol_back.proofs.Contents.{reported-lengths}
use Rattle.iol_back.proofs.memory.MemoryBackingBacking.length.Goals as goal

pub returns-clause-reported : goal.returns-clause-reported
returns-clause-reported c =
    let reported = reported-lengths c.self.inside.slots c.args.file in
    rw (← c.self.view_is) (c.min.ensures ∙ ap (λ (l : List ℕ). min (length l) (2 ^ 32 - 1)) c.bytes.ensures
    ∙ sym reported)
