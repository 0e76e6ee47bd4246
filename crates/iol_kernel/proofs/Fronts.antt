-- Bytes that are copied to the front of a memory, one part after another.
use Rattle.std.proofs.Common.{◌≡◌, ◌∙◌, ℕ, ◌+◌, ◌≤◌, List, [], ◌++◌, length, take, drop, sym, ap, arith, length-append}
use Rattle.std.proofs.lemmas.List.{append-nil, append_assoc, drop-drop, drop_at, length-take-le, take-append-drop}
use Rattle.std.proofs.lemmas.List.{take_at}

module _ (all old into new part rest : List ℕ) (at : ℕ) (room : at + length part ≤ length into)
    (put : new ≡ take at into ++ part ++ drop (at + length part) into) where
  abbrev front : List ℕ
  front = take at into ++ part

  front_len : length front ≡ at + length part
  front_len = omega (arith, length-append (take at into) part, length-take-le at into (omega (arith, room)))

  pub front_more : take at into ++ (part ++ rest) ≡ all → take (at + length part) new ++ rest ≡ all
  front_more so_far =
      ap (λ (w : List ℕ). take (at + length part) w ++ rest) put
      ∙ ap (λ (w : List ℕ). w ++ rest) (take_at front (drop (at + length part) into) (at + length part) front_len)
      ∙ append_assoc (take at into) part rest
      ∙ so_far

  pub rest_kept : drop at into ≡ drop at old → drop (at + length part) new ≡ drop (at + length part) old
  rest_kept kept =
      ap (drop (at + length part)) put
      ∙ drop_at front (drop (at + length part) into) (at + length part) front_len
      ∙ sym (drop-drop (length part) at into)
      ∙ ap (drop (length part)) kept
      ∙ drop-drop (length part) at old

-- all parts were copied
pub front_all : (all old into : List ℕ) (at n : ℕ) → at ≤ length into → length all ≡ n → take at into ++ [] ≡ all
    → drop at into ≡ drop at old → into ≡ all ++ drop n old
front_all all old into at n room long so_far kept =
    let front : take at into ≡ all = sym (append-nil (take at into)) ∙ so_far in
    let is : at ≡ n = omega (arith, length-take-le at into room, ap length front, long) in
    sym (take-append-drop at into) ∙ ap (λ (w : List ℕ). w ++ drop at into) front
    ∙ ap (λ (w : List ℕ). all ++ w) (kept ∙ ap (λ k. drop k old) is)
