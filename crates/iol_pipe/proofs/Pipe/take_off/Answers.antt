use Rattle.std.proofs.Common.{◌≡◌, min, List, ℕ, [], ◌∷◌, length, arith, rules}
use Rattle.iol_hold.specs.Places.{byte_len}
use Rattle.iol_hold.specs.declared.slices.Slice.{Slice}
use Rattle.iol_hold.proofs.SlicePlaces.{byte_len-cons}
use Rattle.iol_pipe.proofs.Pipe.take_off.Goals as goal

-- if no byte is requested, or none is queued, no slice is needed
no_slice : (xs : List Slice) (n k : ℕ) → min n (byte_len xs) ≡ 0 → k ≡ min (length xs) n → k ≡ 0
no_slice [] n k e is = omega (arith, is)
no_slice (x ∷ xs) n k e is = omega (arith, e, is, byte_len-cons x xs, x.some)

pub returns-in_err-slices : goal.returns-in_err-slices
returns-in_err-slices c = record {
  takes = search rules;
  none = λ e.
      let zero =
      no_slice c.args.self.now c.args.n c.min-room.result e
      (search (rules, c.min-room.ensures, c.len.ensures, c.self.view_is)) in
      absurd (cc (c.in_err-slices.ensures.succeeds zero));
  err = search rules;
}
