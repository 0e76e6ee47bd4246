-- Keys that are inserted into blocks and removed from them.
use Rattle.std.proofs.Common.{inl, inr, ◌≡◌, ℕ, ◌+◌, ◌-◌, ◌*◌, ◌<◌, ◌≤◌, List, length, get_or, set, take, insert}
use Rattle.std.proofs.Common.{remove, refl, sym, ap, ◌∙◌, arith, subst}
use Rattle.std.proofs.lemmas.Bool.{cases_eq}
use Rattle.std.proofs.lemmas.List.{length-set, get_or-set_same, get_or-set_other, get_or_default}
use Rattle.std.proofs.lemmas.List.Edits.{length-insert, length-remove}
use Rattle.iol_tier.specs.Blocks.{Block, joined, block_at, size_at, width_at, no_block, before_block, one_if, AreFilled}
use Rattle.iol_tier.specs.Blocks.{Shifts, Becomes}
use Rattle.iol_tier.proofs.JoinedKeys.{joined-put, joined-take, length-before}
use Rattle.iol_tier.proofs.Shifts.{one_here, one_other}

-- The filled places, with one more key in block e, before the first key or after the last.

pub filled_left : (skip more len k e s : ℕ) → more ≡ skip + 1 → e * 128 ≤ skip → skip < e * 128 + 128
    → before_block more len k + s ≡ before_block more len (k + 1)
    → before_block skip (len + 1) k + (s + one_if k e) ≡ before_block skip (len + 1) (k + 1)
filled_left skip more len k e s m l h f = elim (cases_eq k e) [
  | inl is ↦ omega (arith, m, l, h, f, is, one_here k e is)
  | inr apart ↦ omega (arith, m, l, h, f, apart, one_other k e apart)
]

pub filled_right : (skip len k e s : ℕ) → e * 128 ≤ skip + len → skip + len < e * 128 + 128
    → before_block skip len k + s ≡ before_block skip len (k + 1)
    → before_block skip (len + 1) k + (s + one_if k e) ≡ before_block skip (len + 1) (k + 1)
filled_right skip len k e s l h f = elim (cases_eq k e) [
  | inl is ↦ omega (arith, l, h, f, is, one_here k e is)
  | inr apart ↦ omega (arith, l, h, f, apart, one_other k e apart)
]

-- The same, with one key less.

pub left_of_filled : (skip more len k e s t : ℕ) → more ≡ skip + 1 → e * 128 ≤ skip → skip < e * 128 + 128
    → t + one_if k e ≡ s → before_block skip (len + 1) k + s ≡ before_block skip (len + 1) (k + 1)
    → before_block more len k + t ≡ before_block more len (k + 1)
left_of_filled skip more len k e s t m l h d f = elim (cases_eq k e) [
  | inl is ↦ omega (arith, m, l, h, f, d, is, one_here k e is)
  | inr apart ↦ omega (arith, m, l, h, f, d, apart, one_other k e apart)
]

pub right_of_filled : (skip len k e s t : ℕ) → e * 128 ≤ skip + len → skip + len < e * 128 + 128 → t + one_if k e ≡ s
    → before_block skip (len + 1) k + s ≡ before_block skip (len + 1) (k + 1)
    → before_block skip len k + t ≡ before_block skip len (k + 1)
right_of_filled skip len k e s t l h d f = elim (cases_eq k e) [
  | inl is ↦ omega (arith, l, h, f, d, is, one_here k e is)
  | inr apart ↦ omega (arith, l, h, f, d, apart, one_other k e apart)
]

-- One block is replaced.

pub size_set : (bs : List Block) (at : ℕ) (b : Block) (k : ℕ) → at < length bs → length b.keys ≡ size_at bs at + 1
    → size_at (set bs at b) k ≡ size_at bs k + one_if k at
size_set bs at b k h l = elim (cases_eq k at) [
  | inl is ↦ omega (
    arith,
    l,
    one_here k at is,
    ap (size_at bs) is,
    ap (λ n. size_at (set bs at b) n) is,
    ap (λ (x : Block). length x.keys) (get_or-set_same bs at b no_block h),
  )
  | inr apart ↦
      omega (arith, one_other k at apart, ap (λ (x : Block). length x.keys) (get_or-set_other bs at k b no_block apart))
]

pub size_less : (bs : List Block) (at : ℕ) (b : Block) (k : ℕ) → at < length bs → length b.keys + 1 ≡ size_at bs at
    → size_at (set bs at b) k + one_if k at ≡ size_at bs k
size_less bs at b k h l = elim (cases_eq k at) [
  | inl is ↦ omega (
    arith,
    l,
    one_here k at is,
    ap (size_at bs) is,
    ap (λ n. size_at (set bs at b) n) is,
    ap (λ (x : Block). length x.keys) (get_or-set_same bs at b no_block h),
  )
  | inr apart ↦
      omega (arith, one_other k at apart, ap (λ (x : Block). length x.keys) (get_or-set_other bs at k b no_block apart))
]

pub width_set : (bs : List Block) (at : ℕ) (b : Block) (k : ℕ) → at < length bs → width_at bs at ≤ b.capacity
    → width_at bs k ≤ width_at (set bs at b) k
width_set bs at b k h l = elim (cases_eq k at) [
  | inl is ↦
      omega (
        arith,
        l,
        ap (width_at bs) is,
        ap (λ n. width_at (set bs at b) n) is,
        ap (λ (x : Block). x.capacity) (get_or-set_same bs at b no_block h),
      )
  | inr apart ↦ omega (arith, ap (λ (x : Block). x.capacity) (get_or-set_other bs at k b no_block apart))
]

-- A place became free in block `at`, instead of one in block e, and a key is inserted there.
pub put_becomes : (old mid : List Block) (e at i place key len skip : ℕ) (x b : Block) → Shifts e at old mid
    → at < length old → x ≡ get_or mid at x → i ≤ length x.keys → b.keys ≡ insert x.keys i key → x.capacity ≤ b.capacity
    → len ≡ length (joined old) → place ≤ len → place ≡ length (joined (take at mid)) + i
    → ((k : ℕ) → k < length old → before_block skip (len + 1) k + (size_at old k + one_if k e)
    ≡ before_block skip (len + 1) (k + 1))
    → Becomes (insert (joined old) place key) skip old (set mid at b)
put_becomes old mid e at i place key len skip x b s h read l new wide long most is filled =
    let within : at < length mid = omega (arith, h, s.count) in
    let x_is : x ≡ block_at mid at = read ∙ get_or_default mid at x no_block within in
    let i_within : i ≤ size_at mid at = omega (arith, l, ap (λ (y : Block). length y.keys) x_is) in
    let b_keys : b.keys ≡ insert (block_at mid at).keys i key = new ∙ ap (λ (y : Block). insert y.keys i key) x_is in
    let b_long : length b.keys ≡ size_at mid at + 1 = ap length b_keys
    ∙ length-insert (block_at mid at).keys i key i_within in
    let b_wide : width_at mid at ≤ b.capacity = omega (arith, wide, ap (λ (y : Block). y.capacity) x_is) in
    let keys_long = length-insert (joined old) place key (omega (arith, long, most)) in
    record {
      is = joined-put mid at i place key b within i_within is b_keys ∙ ap (λ (ks : List ℕ). insert ks place key) s.keys;
      filled = record {
        each = λ k below.
            let count : k < length old = omega (arith, below, length-set mid at b, s.count) in
            let each = filled k count in
            let total : length (insert (joined old) place key) ≡ len + 1 = omega (arith, keys_long, long) in
            subst (λ n. before_block skip n k + size_at (set mid at b) k ≡ before_block skip n (k + 1)) (sym total)
            (omega (arith, each, size_set mid at b k within b_long, s.sizes k));
      };
      count = length-set mid at b ∙ s.count;
      wide = λ w all. record {
        each = λ k below.
            let had = all.each k (omega (arith, below, length-set mid at b, s.count)) in
            omega (arith, had, width_set mid at b k within b_wide, s.widths k);
      };
    }

-- A key is removed from block `at`, and a place becomes free in block e instead.
pub take_becomes : (old new : List Block) (e at i place len skip : ℕ) (x b : Block) → at < length old
    → x ≡ get_or old at x → i < length x.keys → b.keys ≡ remove x.keys i → b.capacity ≡ x.capacity
    → Shifts at e (set old at b) new
    → len + 1 ≡ length (joined old) → place ≤ len → place ≡ length (joined (take at old)) + i
    → ((k t : ℕ) → k < length old → t + one_if k e ≡ size_at old k
    → before_block skip len k + t ≡ before_block skip len (k + 1))
    → Becomes (remove (joined old) place) skip old new
take_becomes old new e at i place len skip x b h read l gone wide s long most is filled =
    let x_is : x ≡ block_at old at = read ∙ get_or_default old at x no_block h in
    let i_within : i < size_at old at = omega (arith, l, ap (λ (y : Block). length y.keys) x_is) in
    let b_keys : b.keys ≡ remove (block_at old at).keys i = gone ∙ ap (λ (y : Block). remove y.keys i) x_is in
    let b_long : length b.keys + 1 ≡ size_at old at = ap (λ (ks : List ℕ). length ks + 1) b_keys
    ∙ length-remove (block_at old at).keys i i_within in
    let b_wide : width_at old at ≤ b.capacity = omega (arith, wide, ap (λ (y : Block). y.capacity) x_is) in
    let keys_long = length-remove (joined old) place (omega (arith, long, most)) in
    record {
      is = s.keys ∙ joined-take old at i place b h i_within is b_keys;
      filled = record {
        each = λ k below.
            let count : k < length old = omega (arith, below, length-set old at b, s.count) in
            let total : length (remove (joined old) place) ≡ len = omega (arith, keys_long, long) in
            let lost : size_at new k + one_if k e ≡ size_at old k =
            omega (arith, size_less old at b k h b_long, s.sizes k) in
            subst (λ n. before_block skip n k + size_at new k ≡ before_block skip n (k + 1)) (sym total)
            (filled k (size_at new k) count lost);
      };
      count = s.count ∙ length-set old at b;
      wide = λ w all. record {
        each = λ k below.
            let had = all.each k (omega (arith, below, length-set old at b, s.count)) in
            omega (arith, had, width_set old at b k h b_wide, s.widths k);
      };
    }

-- The same, with the block and the place in it found by a division.

pub put_left_becomes : (old mid : List Block) (skip more e at place key : ℕ) (x b : Block) → more ≡ skip + 1
    → e * 128 ≤ skip → skip < e * 128 + 128 → at * 128 ≤ skip + place → skip + place < at * 128 + 128
    → AreFilled old more (length (joined old)) → more + length (joined old) ≤ length old * 128
    → place ≤ length (joined old) → Shifts e at old mid → x ≡ get_or mid at x
    → b.keys ≡ insert x.keys (place - (at * 128 - skip)) key → x.capacity ≤ b.capacity
    → Becomes (insert (joined old) place key) skip old (set mid at b)
put_left_becomes old mid skip more e at place key x b m e_low e_high low high filled fits most s read new wide =
    let len = length (joined old) in
    let within : at < length old = omega (arith, m, low, fits, most) in
    let x_long : length x.keys ≡ size_at mid at =
    ap (λ (y : Block). length y.keys) (read ∙ get_or_default mid at x no_block (omega (arith, within, s.count))) in
    let before =
    length-before mid skip len at (λ j l. earlier j l (filled.each j (omega (arith, l, within))) (s.sizes j))
    (omega (arith, within, s.count)) in
    put_becomes old mid e at (place - (at * 128 - skip)) place key len skip x b s within read
    (inside (filled.each at within) (s.sizes at) x_long) new wide refl most
    (omega (arith, before, low, high, most))
    (λ k l. filled_left skip more len k e (size_at old k) m e_low e_high (filled.each k l))
  where
    earlier : (j : ℕ) → j < at → before_block more (length (joined old)) j + size_at old j
        ≡ before_block more (length (joined old)) (j + 1) → size_at mid j + one_if j at ≡ size_at old j + one_if j e
        → before_block skip (length (joined old)) j + size_at mid j ≡ before_block skip (length (joined old)) (j + 1)
    earlier j l f d = elim (cases_eq j e) [
      | inl is ↦
          omega (
            arith,
            m,
            e_low,
            e_high,
            low,
            high,
            most,
            l,
            f,
            d,
            is,
            one_here j e is,
            one_other j at (omega (arith, l)),
          )
      | inr apart ↦ omega (
        arith,
        m,
        e_low,
        e_high,
        low,
        high,
        most,
        l,
        f,
        d,
        apart,
        one_other j e apart,
        one_other j at (omega (arith, l)),
      )
    ]

    inside : before_block more (length (joined old)) at + size_at old at ≡ before_block more (length (joined old))
        (at + 1) → size_at mid at + one_if at at ≡ size_at old at + one_if at e → length x.keys ≡ size_at mid at
        → place - (at * 128 - skip) ≤ length x.keys
    inside f d xl = elim (cases_eq at e) [
      | inl is ↦ omega (arith, m, e_low, e_high, low, high, most, f, d, xl, is, one_here at e is, one_here at at refl)
      | inr apart ↦ omega (
        arith,
        m,
        e_low,
        e_high,
        low,
        high,
        most,
        f,
        d,
        xl,
        apart,
        one_other at e apart,
        one_here at at refl,
      )
    ]

pub put_right_becomes : (old mid : List Block) (skip e at place key : ℕ) (x b : Block)
    → e * 128 ≤ skip + length (joined old) → skip + length (joined old) < e * 128 + 128 → at * 128 ≤ skip + place
    → skip + place < at * 128 + 128
    → AreFilled old skip (length (joined old)) → skip + length (joined old) < length old * 128
    → place ≤ length (joined old) → Shifts e at old mid → x ≡ get_or mid at x
    → b.keys ≡ insert x.keys (place - (at * 128 - skip)) key → x.capacity ≤ b.capacity
    → Becomes (insert (joined old) place key) skip old (set mid at b)
put_right_becomes old mid skip e at place key x b e_low e_high low high filled fits most s read new wide =
    let len = length (joined old) in
    let within : at < length old = omega (arith, low, fits, most) in
    let x_long : length x.keys ≡ size_at mid at =
    ap (λ (y : Block). length y.keys) (read ∙ get_or_default mid at x no_block (omega (arith, within, s.count))) in
    let before =
    length-before mid skip len at
    (λ j l. omega (
      arith,
      filled.each j (omega (arith, l, within)),
      s.sizes j,
      one_other j at (omega (arith, l)),
      one_other j e (omega (arith, l, low, most, e_high)),
    )) (omega (arith, within, s.count)) in
    put_becomes old mid e at (place - (at * 128 - skip)) place key len skip x b s within read
    (inside (filled.each at within) (s.sizes at) x_long) new wide refl most
    (omega (arith, before, low, high, most))
    (λ k l. filled_right skip len k e (size_at old k) e_low e_high (filled.each k l))
  where
    inside : before_block skip (length (joined old)) at + size_at old at ≡ before_block skip (length (joined old))
        (at + 1) → size_at mid at + one_if at at ≡ size_at old at + one_if at e → length x.keys ≡ size_at mid at
        → place - (at * 128 - skip) ≤ length x.keys
    inside f d xl = elim (cases_eq at e) [
      | inl is ↦ omega (arith, e_low, e_high, low, high, most, f, d, xl, is, one_here at e is, one_here at at refl)
      | inr apart ↦
          omega (arith, e_low, e_high, low, high, most, f, d, xl, apart, one_other at e apart, one_here at at refl)
    ]

-- a key is removed from block `at`, if the keys that are left then fill the blocks
taken_at : (old new : List Block) (skip more e at place : ℕ) (x b : Block) → at * 128 ≤ skip + place
    → skip + place < at * 128 + 128
    → AreFilled old skip (length (joined old)) → skip + length (joined old) ≤ length old * 128
    → place < length (joined old) → x ≡ get_or old at x
    → b.keys ≡ remove x.keys (place - (at * 128 - skip)) → b.capacity ≡ x.capacity → Shifts at e (set old at b) new
    → ((k t : ℕ) → t + one_if k e ≡ size_at old k → before_block skip (length (joined old)) k + size_at old k
    ≡ before_block skip (length (joined old)) (k + 1)
    → before_block more (length (joined old) - 1) k + t ≡ before_block more (length (joined old) - 1) (k + 1))
    → Becomes (remove (joined old) place) more old new
taken_at old new skip more e at place x b low high filled fits most read gone wide s left =
    let len : ℕ = length (joined old) in
    let within : at < length old = omega (arith, low, fits, most) in
    let x_long : length x.keys ≡ size_at old at =
    ap (λ (y : Block). length y.keys) (read ∙ get_or_default old at x no_block within) in
    let before =
    length-before old skip len at (λ j l. filled.each j (omega (arith, l, within))) (omega (arith, within)) in
    take_becomes old new e at (place - (at * 128 - skip)) place (len - 1) more x b within read
    (omega (arith, filled.each at within, x_long, low, high, most)) gone wide s (omega (arith, most))
    (omega (arith, most))
    (omega (arith, before, low, high, most))
    (λ k t l d. left k t d (filled.each k l))

pub take_left_becomes : (old new : List Block) (skip more e at place : ℕ) (x b : Block) → more ≡ skip + 1
    → e * 128 ≤ skip → skip < e * 128 + 128 → at * 128 ≤ skip + place → skip + place < at * 128 + 128
    → AreFilled old skip (length (joined old)) → skip + length (joined old) ≤ length old * 128
    → place < length (joined old) → x ≡ get_or old at x
    → b.keys ≡ remove x.keys (place - (at * 128 - skip)) → b.capacity ≡ x.capacity → Shifts at e (set old at b) new
    → Becomes (remove (joined old) place) more old new
take_left_becomes old new skip more e at place x b m e_low e_high low high filled fits most read gone wide s =
    let len : ℕ = length (joined old) - 1 in
    let long : len + 1 ≡ length (joined old) = omega (arith, most) in
    taken_at old new skip more e at place x b low high filled fits most read gone wide s
    (λ k t d f. left_of_filled skip more len k e (size_at old k) t m e_low e_high d
    (subst (λ n. before_block skip n k + size_at old k ≡ before_block skip n (k + 1)) (sym long) f))

pub take_right_becomes : (old new : List Block) (skip e at place : ℕ) (x b : Block)
    → e * 128 ≤ skip + length (joined old) - 1 → skip + length (joined old) - 1 < e * 128 + 128
    → at * 128 ≤ skip + place → skip + place < at * 128 + 128
    → AreFilled old skip (length (joined old)) → skip + length (joined old) ≤ length old * 128
    → place < length (joined old) → x ≡ get_or old at x
    → b.keys ≡ remove x.keys (place - (at * 128 - skip)) → b.capacity ≡ x.capacity → Shifts at e (set old at b) new
    → Becomes (remove (joined old) place) skip old new
take_right_becomes old new skip e at place x b e_low e_high low high filled fits most read gone wide s =
    let len : ℕ = length (joined old) - 1 in
    let long : len + 1 ≡ length (joined old) = omega (arith, most) in
    taken_at old new skip skip e at place x b low high filled fits most read gone wide s
    (λ k t d f. right_of_filled skip len k e (size_at old k) t (omega (arith, e_low, long))
    (omega (arith, e_high, long)) d
    (subst (λ n. before_block skip n k + size_at old k ≡ before_block skip n (k + 1)) (sym long) f))
