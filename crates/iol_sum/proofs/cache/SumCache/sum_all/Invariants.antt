use Rattle.std.proofs.Common.{◌≡◌, length, take}
use Rattle.iol_core.specs.Text as text
use Rattle.iol_core.specs.Checksum.{word_sum, folded}
use Rattle.iol_hold.specs.Texts.{text_of}
use Rattle.iol_sum.specs.Pieces.{is_odd}
use Rattle.iol_sum.specs.Sums.{IsRight, UsesEach}
use Rattle.iol_sum.proofs.cache.SumCache.sum_all.Given as goal

abbrev pub invariant-loop-slice : goal.invariant-loop-slice
invariant-loop-slice l =
    let done = text.bytes_of (text_of l.store (take l.slice-index l.slices)) in
    record {
      sum : l.sum ≡ folded (word_sum done);
      odd : l.at_odd ≡ is_odd (length done);
      uses : UsesEach l.store l.initial.self (take l.slice-index l.slices) l.self;
      right : IsRight l.store.arena l.self;
    }
