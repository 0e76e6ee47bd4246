-- Empty blocks that move to the other end, and blocks that are added.
use Rattle.std.proofs.Common.{inl, inr, ◌≡◌, ℕ, zero, suc, ◌+◌, ◌-◌, ◌*◌, ◌<◌, ◌≤◌, List, [], ◌∷◌, ◌++◌, length, get_or}
use Rattle.std.proofs.Common.{set, take, drop, ◌^◌, refl, sym, ap, ◌∙◌, arith, subst, length-append, append-nil}
use Rattle.std.proofs.lemmas.Bool.{cases_eq, cases_lt}
use Rattle.std.proofs.lemmas.List.{get_or_append_left, get_or-append_right, get_or_push, get_or_past, nil_from_length}
use Rattle.std.proofs.lemmas.List.{length-set, get_or_default, get_or-set_same, get_or-set_other}
use Rattle.iol_tier.specs.Blocks.{Block, joined, block_at, size_at, width_at, no_block, before_block, AreFilled}
use Rattle.iol_tier.specs.Blocks.{AreLaid, AreWide, Becomes, Grows, Widens}
use Rattle.iol_tier.proofs.JoinedKeys.{joined-append, joined-set, joined-split}
use Rattle.iol_tier.proofs.BlockKeys.{width_set}

empty_joined : (b : Block) (bs : List Block) → length b.keys ≡ 0 → joined (b ∷ bs) ≡ joined bs
empty_joined b bs e = ap (λ (ks : List ℕ). ks ++ joined bs) (nil_from_length b.keys e)

empty_last : (bs : List Block) (b : Block) → length b.keys ≡ 0 → joined (bs ++ b ∷ []) ≡ joined bs
empty_last bs b e = joined-append bs (b ∷ []) ∙ ap (λ (ks : List ℕ). joined bs ++ ks) (empty_joined b [] e)
    ∙ append-nil (joined bs)

pub turned_right : (old rest : List Block) (b : Block) (skip : ℕ) → old ≡ rest ++ b ∷ []
    → AreFilled old skip (length (joined old)) → skip + length (joined old) + 128 ≤ length old * 128
    → Becomes (joined old) (skip + 128) old (b ∷ rest)
turned_right old rest b skip is filled room =
    let long : length old ≡ length rest + 1 = ap length is ∙ length-append rest (b ∷ []) in
    let last : block_at old (length rest) ≡ b = ap (λ (bs : List Block). block_at bs (length rest)) is
    ∙ get_or_push rest b no_block (length rest) refl in
    let empty : length b.keys ≡ 0 =
    omega (
      arith,
      filled.each (length rest) (omega (arith, long)),
      ap (λ (x : Block). length x.keys) last,
      long,
      room,
    ) in
    let others : (k : ℕ) → k < length rest → block_at old k ≡ block_at rest k =
    λ k l. ap (λ (bs : List Block). block_at bs k) is ∙ get_or_append_left rest (b ∷ []) no_block k l in
    record {
      is = empty_joined b rest empty ∙ sym (ap joined is ∙ empty_last rest b empty);
      filled =
          record {
            each =
                λ k below. shape k below empty (λ j l. filled.each j (omega (arith, l, long)))
                (λ j l. ap (λ (x : Block). length x.keys) (others j l));
          };
      count = sym (omega (arith, long));
      wide =
          λ w all. record {
            each =
                λ k below. width k below w
                (subst (λ (x : Block). w ≤ x.capacity) last (all.each (length rest) (omega (arith, long))))
                (λ j l. subst (λ (x : Block). w ≤ x.capacity) (others j l) (all.each j (omega (arith, l, long))));
          };
    }
  where
    shape : (k : ℕ) → k < length (b ∷ rest) → length b.keys ≡ 0
        → ((j : ℕ) → j < length rest → before_block skip (length (joined old)) j + size_at old j
        ≡ before_block skip (length (joined old)) (j + 1))
        → ((j : ℕ) → j < length rest → size_at old j ≡ size_at rest j)
        → before_block (skip + 128) (length (joined old)) k + size_at (b ∷ rest) k
        ≡ before_block (skip + 128) (length (joined old)) (k + 1)
    shape zero below empty each same = omega (arith, empty)
    shape (suc j) below empty each same = let l : j < length rest = omega (arith, below) in
        omega (arith, each j l, same j l)

    width : (k : ℕ) → k < length (b ∷ rest) → (w : ℕ) → w ≤ b.capacity
        → ((j : ℕ) → j < length rest → w ≤ width_at rest j) → w ≤ width_at (b ∷ rest) k
    width zero below w first others = first
    width (suc j) below w first others = others j (omega (arith, below))

pub turned_left : (old rest : List Block) (b : Block) (skip : ℕ) → old ≡ b ∷ rest
    → AreFilled old skip (length (joined old)) → 128 ≤ skip → skip + length (joined old) ≤ length old * 128
    → Becomes (joined old) (skip - 128) old (rest ++ b ∷ [])
turned_left old rest b skip is filled room fits =
    let long : length old ≡ length rest + 1 = omega (arith, ap length is) in
    let first : block_at old 0 ≡ b = ap (λ (bs : List Block). block_at bs 0) is in
    let empty : length b.keys ≡ 0 =
    omega (arith, filled.each 0 (omega (arith, long)), ap (λ (x : Block). length x.keys) first, room) in
    let after : (k : ℕ) → block_at old (k + 1) ≡ block_at rest k = λ k. ap (λ (bs : List Block). block_at bs (k + 1)) is
    ∙ ap (λ n. block_at (b ∷ rest) n) (plus k) in
    let new_long : length (rest ++ b ∷ []) ≡ length rest + 1 = length-append rest (b ∷ []) in
    record {
      is = empty_last rest b empty ∙ sym (ap joined is ∙ empty_joined b rest empty);
      filled = record {
        each = λ k below. elim (cases_lt k (length rest)) [
          | inl l ↦
              omega (
                arith,
                filled.each (k + 1) (omega (arith, l, long)),
                ap (λ (x : Block). length x.keys) (after k),
                ap (λ (x : Block). length x.keys) (get_or_append_left rest (b ∷ []) no_block k l),
                room,
              )
          | inr m ↦ (let at : length rest ≡ k = omega (arith, m, below, new_long) in
              omega (
                arith,
                ap (λ (x : Block). length x.keys) (get_or_push rest b no_block k at),
                empty,
                fits,
                long,
                at,
                room,
              ))
        ];
      };
      count = omega (arith, long, new_long);
      wide = λ w all. record {
        each = λ k below. elim (cases_lt k (length rest)) [
          | inl l ↦ (let had = all.each (k + 1) (omega (arith, l, long)) in
              omega (
                arith,
                had,
                ap (λ (x : Block). x.capacity) (after k),
                ap (λ (x : Block). x.capacity) (get_or_append_left rest (b ∷ []) no_block k l),
              ))
          | inr m ↦ (let had = all.each 0 (omega (arith, long)) in
              omega (
                arith,
                had,
                ap (λ (x : Block). x.capacity) first,
                ap (λ (x : Block). x.capacity) (get_or_push rest b no_block k (omega (arith, m, below, new_long))),
              ))
        ];
      };
    }
  where
    plus : (k : ℕ) → k + 1 ≡ suc k
    plus k = omega arith

-- Blocks that are added.

pub grows_more : (old mid : List Block) (b : Block) → Grows old mid → b.keys ≡ [] → Grows old (mid ++ b ∷ [])
grows_more old mid b g empty = record {
  keys = empty_last mid b (ap length empty) ∙ g.keys;
  count = omega (arith, g.count, length-append mid (b ∷ []));
  sizes = λ k. elim (cases_lt k (length mid)) [
    | inl l ↦ ap (λ (x : Block). length x.keys) (get_or_append_left mid (b ∷ []) no_block k l) ∙ g.sizes k
    | inr m ↦ past k m ∙ g.sizes k
  ];
}
  where
    alone : (k : ℕ) → size_at (b ∷ []) k ≡ 0
    alone zero = ap length empty
    alone (suc k) = refl

    past : (k : ℕ) → length mid ≤ k → size_at (mid ++ b ∷ []) k ≡ size_at mid k
    past k m =
        ap (λ (x : Block). length x.keys) (get_or-append_right mid (b ∷ []) (length mid) k no_block refl m)
        ∙ alone (k - length mid)
        ∙ sym (ap (λ (x : Block). length x.keys) (get_or_past mid k no_block m))

pub wide_more : (mid : List Block) (b : Block) (w : ℕ) → AreWide mid w → w ≤ b.capacity → AreWide (mid ++ b ∷ []) w
wide_more mid b w all fits = record {
  each = λ k below. elim (cases_lt k (length mid)) [
    | inl l ↦ subst (λ (x : Block). w ≤ x.capacity) (sym (get_or_append_left mid (b ∷ []) no_block k l)) (all.each k l)
    | inr m ↦
        subst (λ (x : Block). w ≤ x.capacity)
        (sym (get_or_push mid b no_block k (omega (arith, m, below, length-append mid (b ∷ []))))) fits
  ];
}

-- Blocks that are widened, one after another.

widened_keys : (mid : List Block) (at : ℕ) (x b : Block) → at < length mid → x ≡ get_or mid at x → b.keys ≡ x.keys
    → joined (set mid at b) ≡ joined mid
widened_keys mid at x b h read same =
    joined-set mid at b h
    ∙ ap (λ (ks : List ℕ). joined (take at mid) ++ (ks ++ joined (drop (suc at) mid))) (same
    ∙ ap (λ (y : Block). y.keys) (read ∙ get_or_default mid at x no_block h))
    ∙ sym (joined-split mid at h)

widened_grows : (old mid : List Block) (at : ℕ) (x b : Block) → Grows old mid → at < length mid → x ≡ get_or mid at x
    → b.keys ≡ x.keys → Grows old (set mid at b)
widened_grows old mid at x b g h read same = record {
  keys = widened_keys mid at x b h read same ∙ g.keys;
  count = omega (arith, g.count, length-set mid at b);
  sizes = λ k. (elim (cases_eq k at) [
    | inl is ↦ ap (size_at (set mid at b)) is ∙ ap (λ (y : Block). length y.keys) (get_or-set_same mid at b no_block h)
        ∙ ap length same ∙ ap (λ (y : Block). length y.keys) (read ∙ get_or_default mid at x no_block h)
        ∙ sym (ap (size_at mid) is)
    | inr apart ↦ ap (λ (y : Block). length y.keys) (get_or-set_other mid at k b no_block apart)
  ]) ∙ g.sizes k;
}

pub widened_width : (mid : List Block) (at : ℕ) (x b : Block) (k w : ℕ) → at < length mid → x ≡ get_or mid at x
    → x.capacity ≤ b.capacity → w ≤ width_at mid k → w ≤ width_at (set mid at b) k
widened_width mid at x b k w h read more had =
    let same = ap (λ (y : Block). y.capacity) (read ∙ get_or_default mid at x no_block h) in
    let kept = width_set mid at b k h (omega (arith, more, same)) in
    omega (arith, had, kept)

pub widened_here : (mid : List Block) (at : ℕ) (b : Block) (k w : ℕ) → at < length mid → w ≤ b.capacity
    → ((j : ℕ) → j < at → w ≤ width_at (set mid at b) j) → k < at + 1 → w ≤ width_at (set mid at b) k
widened_here mid at b k w h fits others below = elim (cases_lt k at) [
  | inl l ↦ others k l
  | inr m ↦ (let is : k ≡ at = omega (arith, m, below) in
      subst (λ n. w ≤ n)
      (sym (ap (width_at (set mid at b)) is ∙ ap (λ (y : Block). y.capacity) (get_or-set_same mid at b no_block h)))
      fits)
]

pub widened : (old mid : List Block) (at : ℕ) (x b : Block) → Widens old mid → at < length mid → x ≡ get_or mid at x
    → b.keys ≡ x.keys → x.capacity ≤ b.capacity → Widens old (set mid at b)
widened old mid at x b g h read same more = record {
  grows = widened_grows old mid at x b g.grows h read same;
  count = length-set mid at b ∙ g.count;
  wide = λ w all. let had = g.wide w all in
      record {
        each =
            λ k below. widened_width mid at x b k w h read more
            (had.each k (omega (arith, below, length-set mid at b)));
      };
}

-- Properties of blocks, after more blocks are added.

pub grows_then : (xs ys zs : List Block) → Grows xs ys → Grows ys zs → Grows xs zs
grows_then xs ys zs g h = record {
  keys = h.keys ∙ g.keys;
  count = omega (arith, g.count, h.count);
  sizes =
      λ k. h.sizes k ∙ g.sizes k;
}

grows_filled : (old new : List Block) (skip len : ℕ) → Grows old new → AreFilled old skip len
    → skip + len ≤ length old * 128 → AreFilled new skip len
grows_filled old new skip len g filled fits = record {
  each = λ k below. elim (cases_lt k (length old)) [
    | inl l ↦ omega (arith, filled.each k l, g.sizes k)
    | inr m ↦ omega (arith, m, fits, g.sizes k, ap (λ (x : Block). length x.keys) (get_or_past old k no_block m))
  ];
}

pub grows_laid : (old new : List Block) (skip len : ℕ) → Grows old new → length new ≤ 2 ^ 48 → AreLaid old skip len
    → AreLaid new skip len
grows_laid old new skip len g few laid = record {
  keys = laid.keys ∙ sym (ap length g.keys);
  filled = grows_filled old new skip len g laid.filled laid.places;
  places = omega (arith, g.count, laid.places);
  few = few;
}

pub wide_less : (bs : List Block) (v w : ℕ) → AreWide bs w → v ≤ w → AreWide bs v
wide_less bs v w all l = record { each = λ k below. let had = all.each k below in omega (arith, had, l) }
