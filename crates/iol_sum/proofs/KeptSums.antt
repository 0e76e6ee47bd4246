-- Remembered sums stay right while the store changes.
use Rattle.std.proofs.Common.{ℕ, ◌+◌, slice_range, sym, ap, ◌∙◌, arith, inl, inr}
use Rattle.std.proofs.lemmas.List.Elements.{All-weaker}
use Rattle.iol_core.specs.Checksum.{word_sum, folded}
use Rattle.iol_arena.specs.State.{State}
use Rattle.iol_arena.specs.Buffers.{Keeps}
use Rattle.iol_sum.specs.declared.keys.Key.{Key}
use Rattle.iol_sum.specs.Sums.{Sums, buf_of, IsRightSum, IsRight}

-- A key that names a live buffer afterwards named it before, with the same bytes: a new one has a higher generation.
IsRightSum-keeps : (s t : State) → Keeps s t → (e : Key × ℕ) → IsRightSum s e → IsRightSum t e
IsRightSum-keeps s t k e h = record {
  value = λ live. elim (k.kept (buf_of e.0) live) [
    | inl w ↦ h.value w.0 ∙ ap (λ l. folded (word_sum (slice_range l e.0.from (e.0.from + e.0.len)))) (sym w.1)
    | inr w ↦ let below = h.published in absurd (omega arith)
  ];
  published = let below = h.published in let up = k.rising e.0.page in omega arith;
}

pub IsRight-keeps : (s t : State) (c : Sums) → Keeps s t → IsRight s c → IsRight t c
IsRight-keeps s t c k h = record {
  each = All-weaker (IsRightSum s) (IsRightSum t) (IsRightSum-keeps s t k) c.entries h.each;
  distinct = h.distinct;
  fits = h.fits;
  some = h.some;
}
