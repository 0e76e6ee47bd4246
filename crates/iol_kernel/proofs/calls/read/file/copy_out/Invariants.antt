use Rattle.std.proofs.Common.{◌≡◌, ◌+◌, ◌≤◌, ◌++◌, length, vec_len, vec_capacity}
use Rattle.std.specs.List.{flat_map}
use Rattle.iol_core.specs.Text.{bytes_of}
use Rattle.iol_hold.specs.Texts.{text_of}
use Rattle.iol_kernel.proofs.calls.read.file.copy_out.Given as goal

abbrev pub invariant-loop-part : goal.invariant-loop-part
invariant-loop-part l = record {
  so_far : l.bytes.items ++ flat_map (λ w. w) l.part-iterator ≡ l.fn.bytes.items ++ bytes_of (text_of l.store l.agg);
  room : vec_len l.bytes + length (flat_map (λ w. w) l.part-iterator) ≤ vec_capacity l.bytes;
}
