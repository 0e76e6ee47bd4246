-- The keys of blocks, joined.
use Rattle.std.proofs.Common.{◌≡◌, ℕ, zero, suc, ◌+◌, ◌-◌, ◌*◌, ◌<◌, ◌≤◌, List, [], ◌∷◌, ◌++◌, length, get_or, set}
use Rattle.std.proofs.Common.{take, drop, insert, remove, refl, sym, ap, ◌∙◌, arith, append_assoc, length-append}
use Rattle.std.proofs.lemmas.List.{set_split, take_more, get_or_default, get_or-append_right, get_or_append_left}
use Rattle.std.proofs.lemmas.List.Edits.{insert-append_left, insert-append_right, remove-append_left}
use Rattle.std.proofs.lemmas.List.Edits.{remove-append_right}
use Rattle.iol_tier.specs.Blocks.{Block, joined, block_at, size_at, no_block, before_block, AreFilled}

pub joined-append : (cs bs : List Block) → joined (cs ++ bs) ≡ joined cs ++ joined bs
joined-append [] bs = refl
joined-append (c ∷ cs) bs = ap (λ (ks : List ℕ). c.keys ++ ks) (joined-append cs bs)
    ∙ sym (append_assoc c.keys (joined cs) (joined bs))

-- the block at k, between those before it and those after it
pub joined-split : (bs : List Block) (k : ℕ) → k < length bs
    → joined bs ≡ joined (take k bs) ++ ((block_at bs k).keys ++ joined (drop (suc k) bs))
joined-split [] k h = absurd (omega (arith, h))
joined-split (b ∷ bs) zero h = refl
joined-split (b ∷ bs) (suc k) h =
    ap (λ (ks : List ℕ). b.keys ++ ks) (joined-split bs k (omega (arith, h)))
    ∙ sym (append_assoc b.keys (joined (take k bs)) ((block_at bs k).keys ++ joined (drop (suc k) bs)))

pub joined-set : (bs : List Block) (k : ℕ) (b : Block) → k < length bs
    → joined (set bs k b) ≡ joined (take k bs) ++ (b.keys ++ joined (drop (suc k) bs))
joined-set bs k b h = ap joined (set_split bs k b h) ∙ joined-append (take k bs) (b ∷ drop (suc k) bs)

-- the number of keys before a block, if the blocks before it are filled
pub length-before : (bs : List Block) (skip len k : ℕ)
    → ((j : ℕ) → j < k → before_block skip len j + size_at bs j ≡ before_block skip len (j + 1)) → k ≤ length bs
    → length (joined (take k bs)) ≡ before_block skip len k
length-before bs skip len zero f h = omega arith
length-before bs skip len (suc k) f h =
    let within : k < length bs = omega (arith, h) in
    let more : joined (take (k + 1) bs) ≡ joined (take k bs) ++ ((block_at bs k).keys ++ []) =
    ap joined (take_more bs k no_block within) ∙ joined-append (take k bs) (block_at bs k ∷ []) in
    let long = ap length more ∙ length-append (joined (take k bs)) ((block_at bs k).keys ++ []) in
    let last = length-append (block_at bs k).keys [] in
    let one : suc k ≡ k + 1 = omega arith in
    let ih = length-before bs skip len k (λ j l. f j (omega (arith, l))) (omega (arith, h)) in
    let each = f k (omega arith) in
    ap (λ n. length (joined (take n bs))) one ∙ omega (arith, long, last, ih, each)

-- One key of a block.

pub joined-at : (bs : List Block) (k i at d : ℕ) → k < length bs → i < size_at bs k
    → at ≡ length (joined (take k bs)) + i → get_or (joined bs) at d ≡ get_or (block_at bs k).keys i d
joined-at bs k i at d h l is =
    let keys = (block_at bs k).keys in
    let low = joined (take k bs) in
    let back : at - length low ≡ i = omega (arith, is) in
    ap (λ (ks : List ℕ). get_or ks at d) (joined-split bs k h)
    ∙ get_or-append_right low (keys ++ joined (drop (suc k) bs)) (length low) at d refl (omega (arith, is))
    ∙ ap (λ n. get_or (keys ++ joined (drop (suc k) bs)) n d) back
    ∙ get_or_append_left keys (joined (drop (suc k) bs)) d i l

-- An edit of one block is that edit of all keys, if it reads a list by its parts.
joined-edit : (edit : List ℕ → ℕ → List ℕ) (bs : List Block) (k i at : ℕ) (b : Block) → k < length bs
    → at ≡ length (joined (take k bs)) + i → b.keys ≡ edit (block_at bs k).keys i
    → ((high : List ℕ) → edit ((block_at bs k).keys ++ high) i ≡ edit (block_at bs k).keys i ++ high)
    → ((low rest : List ℕ) → length low ≤ at → edit (low ++ rest) at ≡ low ++ edit rest (at - length low))
    → joined (set bs k b) ≡ edit (joined bs) at
joined-edit edit bs k i at b h is new left right =
    let keys = (block_at bs k).keys in
    let low = joined (take k bs) in
    let high = joined (drop (suc k) bs) in
    let back : at - length low ≡ i = omega (arith, is) in
    joined-set bs k b h
    ∙ ap (λ (ks : List ℕ). low ++ (ks ++ high)) new
    ∙ ap (λ (ks : List ℕ). low ++ ks) (sym (left high))
    ∙ ap (λ n. low ++ edit (keys ++ high) n) (sym back)
    ∙ sym (right low (keys ++ high) (omega (arith, is)))
    ∙ ap (λ (ks : List ℕ). edit ks at) (sym (joined-split bs k h))

pub joined-put : (bs : List Block) (k i at key : ℕ) (b : Block) → k < length bs → i ≤ size_at bs k
    → at ≡ length (joined (take k bs)) + i → b.keys ≡ insert (block_at bs k).keys i key
    → joined (set bs k b) ≡ insert (joined bs) at key
joined-put bs k i at key b h l is new =
    joined-edit (λ ks n. insert ks n key) bs k i at b h is new
    (λ high. insert-append_left (block_at bs k).keys high i key l)
    (λ low rest le. insert-append_right low rest (length low) at key refl le)

pub joined-take : (bs : List Block) (k i at : ℕ) (b : Block) → k < length bs → i < size_at bs k
    → at ≡ length (joined (take k bs)) + i → b.keys ≡ remove (block_at bs k).keys i
    → joined (set bs k b) ≡ remove (joined bs) at
joined-take bs k i at b h l is new =
    joined-edit (λ ks n. remove ks n) bs k i at b h is new
    (λ high. remove-append_left (block_at bs k).keys high i l)
    (λ low rest le. remove-append_right low rest (length low) at refl le)

-- Keys that move across the border between two blocks.

pub joined-border : (bs : List Block) (at next : ℕ) (b c : Block) → next ≡ at + 1 → next < length bs
    → b.keys ++ c.keys ≡ (block_at bs at).keys ++ (block_at bs next).keys
    → joined (set (set bs next c) at b) ≡ joined bs
joined-border [] at next b c n h e = absurd (omega (arith, h))
joined-border (x ∷ []) at next b c n h e = absurd (omega (arith, n, h))
joined-border (x ∷ y ∷ bs) zero zero b c n h e = absurd (omega (arith, n))
joined-border (x ∷ y ∷ bs) zero (suc zero) b c n h e =
    sym (append_assoc b.keys c.keys (joined bs)) ∙ ap (λ (ks : List ℕ). ks ++ joined bs) e
    ∙ append_assoc x.keys y.keys (joined bs)
joined-border (x ∷ y ∷ bs) zero (suc (suc next)) b c n h e = absurd (omega (arith, n))
joined-border (x ∷ y ∷ bs) (suc at) zero b c n h e = absurd (omega (arith, n))
joined-border (x ∷ y ∷ bs) (suc at) (suc next) b c n h e =
    ap (λ (ks : List ℕ). x.keys ++ ks) (joined-border (y ∷ bs) at next b c (omega (arith, n)) (omega (arith, h)) e)

-- the key that is read at a place
pub key_read : (bs : List Block) (skip len place k key : ℕ) (x : Block) → AreFilled bs skip len
    → len ≡ length (joined bs) → place < len → k < length bs → k * 128 ≤ skip + place → skip + place < k * 128 + 128
    → x ≡ get_or bs k x → key ≡ get_or x.keys (place - (k * 128 - skip)) key → key ≡ get_or (joined bs) place key
key_read bs skip len place k key x filled long within below low high read is =
    let x_is : x ≡ block_at bs k = read ∙ get_or_default bs k x no_block below in
    let before = length-before bs skip len k (λ j l. filled.each j (omega (arith, l, below))) (omega (arith, below)) in
    let size = filled.each k below in
    is ∙ ap (λ (y : Block). get_or y.keys (place - (k * 128 - skip)) key) x_is
    ∙ sym (joined-at bs k (place - (k * 128 - skip)) place key below (omega (arith, size, within, low, high))
    (omega (arith, before, within, low, high)))
