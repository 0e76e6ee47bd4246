-- Keys that move across borders, one after another.
use Rattle.std.proofs.Common.{inl, inr, ◌≡◌, ◌≢◌, ℕ, ◌+◌, ◌-◌, ◌<◌, List, [], ◌∷◌, ◌++◌, length, get_or, set, refl, sym}
use Rattle.std.proofs.Common.{ap, ◌∙◌, arith, subst, append_assoc, length-append}
use Rattle.std.proofs.lemmas.Bool.{cases_eq}
use Rattle.std.proofs.lemmas.Bool.Decides.{nat_tests}
use Rattle.std.proofs.lemmas.List.{length-set, get_or-set_same, get_or-set_other, get_or_default, set_comm}
use Rattle.iol_tier.specs.Blocks.{Block, joined, block_at, size_at, width_at, no_block, one_if, HasPlace, MovesPlace}
use Rattle.iol_tier.specs.Blocks.{Shifts}
use Rattle.iol_tier.proofs.JoinedKeys.{joined-border}

pub one_here : (k at : ℕ) → k ≡ at → one_if k at ≡ 1
one_here k at e = grind (arith, nat_tests)

pub one_other : (k at : ℕ) → k ≢ at → one_if k at ≡ 0
one_other k at e = grind (arith, nat_tests)

-- two blocks are replaced
two_set : (bs : List Block) (i j : ℕ) (b c : Block) (k : ℕ) → i < length bs → j < length bs → i ≢ j
    → (P : Block → Type 0) → (k ≡ i → P b) → (k ≡ j → P c) → (k ≢ i → k ≢ j → P (block_at bs k))
    → P (block_at (set (set bs j c) i b) k)
two_set bs i j b c k h l d P f g other = elim (cases_eq k i) [
  | inl e ↦
      subst P
      (sym (ap (λ n. block_at (set (set bs j c) i b) n) e
      ∙ get_or-set_same (set bs j c) i b no_block (omega (arith, h, length-set bs j c)))) (f e)
  | inr n ↦ subst P (sym (get_or-set_other (set bs j c) i k b no_block n)) (elim (cases_eq k j) [
    | inl e ↦ subst P (sym (ap (λ n. block_at (set bs j c) n) e ∙ get_or-set_same bs j c no_block l)) (g e)
    | inr m ↦ subst P (sym (get_or-set_other bs j k c no_block m)) (other n m)
  ])
]

-- A key moves across a border.

crossed : (bs : List Block) (at next to from : ℕ) (b c : Block) → next ≡ at + 1 → next < length bs
    → b.keys ++ c.keys ≡ (block_at bs at).keys ++ (block_at bs next).keys
    → length b.keys + one_if at from ≡ size_at bs at + one_if at to
    → length c.keys + one_if next from ≡ size_at bs next + one_if next to
    → ((k : ℕ) → k ≢ at → k ≢ next → one_if k from ≡ one_if k to)
    → b.capacity ≡ width_at bs at → c.capacity ≡ width_at bs next → Shifts to from bs (set (set bs next c) at b)
crossed bs at next to from b c n h e bl cl other bw cw = record {
  keys = joined-border bs at next b c n h e;
  count = length-set (set bs next c) at b ∙ length-set bs next c;
  sizes =
      λ k. two_set bs at next b c k (omega (arith, n, h)) h (omega (arith, n))
      (λ x. length x.keys + one_if k from ≡ size_at bs k + one_if k to)
      (λ is. omega (arith, bl, ap (λ i. one_if i from) is, ap (λ i. one_if i to) is, ap (size_at bs) is))
      (λ is. omega (arith, cl, ap (λ i. one_if i from) is, ap (λ i. one_if i to) is, ap (size_at bs) is))
      (λ d f. omega (arith, other k d f));
  widths = λ k. two_set bs at next b c k (omega (arith, n, h)) h (omega (arith, n)) (λ x. x.capacity ≡ width_at bs k)
      (λ is. bw ∙ sym (ap (width_at bs) is))
      (λ is. cw ∙ sym (ap (width_at bs) is))
      (λ d f. refl);
}

pulled : (bs : List Block) (at next : ℕ) (b c : Block) → next ≡ at + 1 → next < length bs
    → b.keys ++ c.keys ≡ (block_at bs at).keys ++ (block_at bs next).keys → length b.keys ≡ size_at bs at + 1
    → length c.keys + 1 ≡ size_at bs next → b.capacity ≡ width_at bs at → c.capacity ≡ width_at bs next
    → Shifts at next bs (set (set bs next c) at b)
pulled bs at next b c n h e bl cl bw cw =
    crossed bs at next at next b c n h e
    (omega (arith, bl, one_here at at refl, one_other at next (omega (arith, n))))
    (omega (arith, cl, one_here next next refl, one_other next at (omega (arith, n))))
    (λ k d f. one_other k next f ∙ sym (one_other k at d)) bw cw

pushed : (bs : List Block) (at next : ℕ) (b c : Block) → next ≡ at + 1 → next < length bs
    → b.keys ++ c.keys ≡ (block_at bs at).keys ++ (block_at bs next).keys → length b.keys + 1 ≡ size_at bs at
    → length c.keys ≡ size_at bs next + 1 → b.capacity ≡ width_at bs at → c.capacity ≡ width_at bs next
    → Shifts next at bs (set (set bs at b) next c)
pushed bs at next b c n h e bl cl bw cw = subst (Shifts next at bs) (set_comm bs next at c b (omega (arith, n)))
    (crossed bs at next next at b c n h e
    (omega (arith, bl, one_here at at refl, one_other at next (omega (arith, n))))
    (omega (arith, cl, one_here next next refl, one_other next at (omega (arith, n))))
    (λ k d f. one_other k at d ∙ sym (one_other k next f)) bw cw)

-- in the order of the code: first the block that loses the key
pub pull_step : (bs : List Block) (at key : ℕ) (x y b c : Block) → at + 1 < length bs → y ≡ get_or bs (at + 1) y
    → y.keys ≡ key ∷ c.keys → HasPlace y c → x ≡ get_or (set bs (at + 1) c) at x
    → b ≡ record x { keys = x.keys ++ key ∷ [] } → MovesPlace at (at + 1) bs (set (set bs (at + 1) c) at b)
pull_step bs at key x y b c h yr yk place xr new =
    let y_is : y ≡ block_at bs (at + 1) = yr ∙ get_or_default bs (at + 1) y no_block h in
    let x_is : x ≡ block_at bs at = xr ∙ get_or-set_other bs (at + 1) at c x (omega arith)
    ∙ get_or_default bs at x no_block (omega (arith, h)) in
    let b_keys : b.keys ≡ (block_at bs at).keys ++ key ∷ [] = ap (λ (z : Block). z.keys) new
    ∙ ap (λ (z : Block). z.keys ++ key ∷ []) x_is in
    let y_keys : key ∷ c.keys ≡ (block_at bs (at + 1)).keys = sym yk ∙ ap (λ (z : Block). z.keys) y_is in
    let moved : block_at (set (set bs (at + 1) c) at b) (at + 1) ≡ c =
    get_or-set_other (set bs (at + 1) c) at (at + 1) b no_block (omega arith)
    ∙ get_or-set_same bs (at + 1) c no_block h in
    let shifts = pulled bs at (at + 1) b c refl h
    (ap (λ (ks : List ℕ). ks ++ c.keys) b_keys ∙ append_assoc (block_at bs at).keys (key ∷ []) c.keys
    ∙ ap (λ (ks : List ℕ). (block_at bs at).keys ++ ks) y_keys)
    (ap length b_keys ∙ length-append (block_at bs at).keys (key ∷ []))
    (let long = ap length y_keys in omega (arith, long))
    (ap (λ (z : Block). z.capacity) new ∙ ap (λ (z : Block). z.capacity) x_is)
    (place.width ∙ ap (λ (z : Block). z.capacity) y_is) in
    record { shifts = shifts; room = subst (λ (z : Block). length z.keys < z.capacity) (sym moved) place.room }

pub push_step : (bs : List Block) (at key : ℕ) (x y b c : Block) → at + 1 < length bs → x ≡ get_or bs at x
    → x.keys ≡ b.keys ++ key ∷ [] → HasPlace x b → y ≡ get_or (set bs at b) (at + 1) y
    → c ≡ record y { keys = key ∷ y.keys } → MovesPlace (at + 1) at bs (set (set bs at b) (at + 1) c)
push_step bs at key x y b c h xr xk place yr new =
    let x_is : x ≡ block_at bs at = xr ∙ get_or_default bs at x no_block (omega (arith, h)) in
    let y_is : y ≡ block_at bs (at + 1) = yr ∙ get_or-set_other bs at (at + 1) b y (omega arith)
    ∙ get_or_default bs (at + 1) y no_block h in
    let c_keys : c.keys ≡ key ∷ (block_at bs (at + 1)).keys = ap (λ (z : Block). z.keys) new
    ∙ ap (λ (z : Block). key ∷ z.keys) y_is in
    let x_keys : b.keys ++ key ∷ [] ≡ (block_at bs at).keys = sym xk ∙ ap (λ (z : Block). z.keys) x_is in
    let moved : block_at (set (set bs at b) (at + 1) c) at ≡ b =
    get_or-set_other (set bs at b) (at + 1) at c no_block (omega arith)
    ∙ get_or-set_same bs at b no_block (omega (arith, h)) in
    let shifts = pushed bs at (at + 1) b c refl h
    (ap (λ (ks : List ℕ). b.keys ++ ks) c_keys ∙ sym (append_assoc b.keys (key ∷ []) (block_at bs (at + 1)).keys)
    ∙ ap (λ (ks : List ℕ). ks ++ (block_at bs (at + 1)).keys) x_keys)
    (sym (length-append b.keys (key ∷ [])) ∙ ap length x_keys)
    (let long = ap length c_keys in omega (arith, long))
    (place.width ∙ ap (λ (z : Block). z.capacity) x_is)
    (ap (λ (z : Block). z.capacity) new ∙ ap (λ (z : Block). z.capacity) y_is) in
    record { shifts = shifts; room = subst (λ (z : Block). length z.keys < z.capacity) (sym moved) place.room }
