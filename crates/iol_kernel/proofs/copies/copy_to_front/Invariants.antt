use Rattle.std.proofs.Common.{◌≡◌, ◌+◌, ◌≤◌, ◌++◌, length, take, drop}
use Rattle.std.specs.List.{flat_map}
use Rattle.iol_core.specs.Text.{bytes_of}
use Rattle.iol_hold.specs.Texts.{text_of}
use Rattle.iol_kernel.proofs.copies.copy_to_front.Given as goal

-- The bytes copied so far and those of the parts that are left are all bytes. The rest of the memory is unchanged.
abbrev pub invariant-loop-part : goal.invariant-loop-part
invariant-loop-part l = record {
  room : l.at + length (flat_map (λ w. w) l.part-iterator) ≤ length l.into;
  so_far : take l.at l.into ++ flat_map (λ w. w) l.part-iterator ≡ bytes_of (text_of l.store l.agg);
  rest : drop l.at l.into ≡ drop l.at l.fn.into;
}
