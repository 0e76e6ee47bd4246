-- Bytes of a store that are written, slice after slice.
use Rattle.std.proofs.Common.{inl, inr, ◌≡◌, ◌∙◌, ℕ, ◌+◌, ◌-◌, ◌<◌, ◌≤◌, List, ◌++◌, length, length-append, take, drop}
use Rattle.std.proofs.Common.{get_or, max, sym, ap, arith}
use Rattle.std.proofs.lemmas.Bool.{cases_lt}
use Rattle.std.proofs.lemmas.List.{get_or-append-add, get_or-drop, get_or-take, get_or_append_left, length-drop}
use Rattle.std.proofs.lemmas.List.{length-take}
use Rattle.iol_back.specs.Disk.{Tears, Writes, overwritten}
use Rattle.iol_cache.specs.WriteBack.{Stores}

-- A list of which a range was overwritten.

module _ (at : ℕ) (w xs : List ℕ) (begins : at ≤ length xs) where
  abbrev first : List ℕ
  first = take at xs

  abbrev rest : List ℕ
  rest = drop (at + length w) xs

  first_long : length first ≡ at
  first_long = omega (arith, length-take at xs, begins)

  front_long : length (first ++ w) ≡ at + length w
  front_long = omega (arith, length-append first w, first_long)

  pub length-overwritten : length (overwritten at w xs) ≡ max (length xs) (at + length w)
  length-overwritten =
      let all : length (first ++ w ++ rest) ≡ length (first ++ w) + length rest = length-append (first ++ w) rest in
      omega (arith, all, front_long, length-drop (at + length w) xs, begins)

  pub over_before : (i : ℕ) → i < at → get_or (overwritten at w xs) i 0 ≡ get_or xs i 0
  over_before i h = get_or_append_left (first ++ w) rest 0 i (omega (arith, h, front_long))
      ∙ get_or_append_left first w 0 i (omega (arith, h, first_long)) ∙ get_or-take at xs i 0 h

  pub over_in : (k : ℕ) → k < length w → get_or (overwritten at w xs) (at + k) 0 ≡ get_or w k 0
  over_in k h =
      get_or_append_left (first ++ w) rest 0 (at + k) (omega (arith, h, front_long))
      ∙ ap (λ z. get_or (first ++ w) z 0) (let e : at + k ≡ length first + k = omega (arith, first_long) in e)
      ∙ get_or-append-add first w k 0

  pub over_after : (i : ℕ) → at + length w ≤ i → get_or (overwritten at w xs) i 0 ≡ get_or xs i 0
  over_after i h =
      let k = i - (at + length w) in
      ap (λ z. get_or (first ++ w ++ rest) z 0) (let e : i ≡ length (first ++ w) + k = omega (arith, h, front_long) in
      e)
      ∙ get_or-append-add (first ++ w) rest k 0 ∙ get_or-drop (at + length w) xs k 0
      ∙ ap (λ z. get_or xs z 0) (let e : at + length w + k ≡ i = omega (arith, h) in e)

-- one slice more
pub stores_more : (at n : ℕ) (ws w old mid new : List ℕ) → n ≡ at + length ws → Stores at ws old mid
    → Writes n w mid new → Stores at (ws ++ w) old new
stores_more at n ws w old mid new is m x = record {
  beside = λ i o. elim o [
    | inl lo ↦ ap (λ l. get_or l i 0) x.written ∙ over_before n w mid x.begins i (omega (arith, is, lo))
        ∙ m.beside i (inl lo)
    | inr hi ↦ ap (λ l. get_or l i 0) x.written
        ∙ over_after n w mid x.begins i (omega (arith, is, hi, length-append ws w))
        ∙ m.beside i (inr (omega (arith, hi, length-append ws w)))
  ];
  inside = λ i h. elim (cases_lt i (length ws)) [
    | inl lo ↦ ap (λ l. get_or l (at + i) 0) x.written ∙ over_before n w mid x.begins (at + i) (omega (arith, is, lo))
        ∙ m.inside i lo ∙ sym (get_or_append_left ws w 0 i lo)
    | inr hi ↦ (
        let k = i - length ws in
        let j : at + i ≡ n + k = omega (arith, hi, is) in
        ap (λ l. get_or l (at + i) 0) x.written ∙ ap (λ z. get_or (overwritten n w mid) z 0) j
        ∙ over_in n w mid x.begins k (omega (arith, h, hi, length-append ws w))
        ∙ sym (ap (λ z. get_or (ws ++ w) z 0) (let e : i ≡ length ws + k = omega (arith, hi) in e)
        ∙ get_or-append-add ws w k 0))
  ];
  no_shorter = omega (arith, m.no_shorter, long);
  no_longer = omega (arith, m.no_longer, long, is, length-append ws w);
  reaches = λ h. omega (arith, long, is, length-append ws w);
}
  where
    long : length new ≡ max (length mid) (n + length w)
    long = ap length x.written ∙ length-overwritten n w mid x.begins

-- a slice that failed
pub tears_more : (at n k : ℕ) (ws old mid new : List ℕ) → n ≡ at + length ws → Stores at ws old mid → Tears n k mid new
    → (m : ℕ) → length ws + k ≤ m → Tears at m old new
tears_more at n k ws old mid new is m x all fits = record {
  each = λ i o. elim o [
    | inl lo ↦ x.each i (inl (omega (arith, is, lo))) ∙ m.beside i (inl lo)
    | inr hi ↦ x.each i (inr (omega (arith, is, hi, fits))) ∙ m.beside i (inr (omega (arith, hi, fits)))
  ];
  no_shorter = omega (arith, m.no_shorter, x.no_shorter);
  no_longer = omega (arith, m.no_longer, x.no_longer, is, fits);
}

pub stores_tears : (at : ℕ) (ws old new : List ℕ) → Stores at ws old new → Tears at (length ws) old new
stores_tears at ws old new m = record { each = m.beside; no_shorter = m.no_shorter; no_longer = m.no_longer }
