-- Pages of chunks, counted.
use Rattle.std.proofs.Common.{◌≡◌, ℕ, suc, ◌+◌, ◌-◌, ◌*◌, ◌<◌, ◌≤◌, Bool, List, [], ◌∷◌, ◌++◌, length, take, drop}
use Rattle.std.proofs.Common.{get_or, flat_map, refl, sym, ap, ◌∙◌, arith, inl, inr, length-append}
use Rattle.std.specs.List.{All, filter, range_with_len}
use Rattle.std.proofs.lemmas.List.{take_more, take-append-drop, append-nil}
use Rattle.std.proofs.lemmas.List.Elements.{filter-append}
use Rattle.std.proofs.lemmas.List.FromFn.{length-range_with_len}
use Rattle.std.proofs.lemmas.Grind.{flat_map-append}
use Rattle.iol_arena.specs.State.{State, chunk_count}
use Rattle.iol_arena.specs.Chunks.{IsRising, IsRisingFrom, chunk_pages}
use Rattle.iol_arena.proofs.Good.{bool_cases}

-- the pages of the first chunks, and of one more chunk
pub pages_more : (f : ℕ → Bool) (cs : List ℕ) (i c : ℕ) → i < length cs → c ≡ get_or cs i c
    → length (filter f (flat_map chunk_pages (take (i + 1) cs))) ≡ length (filter f (flat_map chunk_pages (take i cs)))
    + length (filter f (flat_map chunk_pages (c ∷ [])))
pages_more f cs i c h is =
    ap (λ l. length (filter f (flat_map chunk_pages l))) (take_more cs i c h ∙ ap (λ x. take i cs ++ x ∷ []) (sym is))
    ∙ ap (λ l. length (filter f l)) (flat_map-append chunk_pages (take i cs) (c ∷ []))
    ∙ ap length (filter-append f (flat_map chunk_pages (take i cs)) (flat_map chunk_pages (c ∷ [])))
    ∙ length-append (filter f (flat_map chunk_pages (take i cs))) (filter f (flat_map chunk_pages (c ∷ [])))

-- all pages of chunks: sixteen for each
pub pages_length : (cs : List ℕ) → length (flat_map chunk_pages cs) ≡ 16 * length cs
unfolding chunk_pages
pages_length [] = refl
pages_length (c ∷ cs) =
    omega (
      arith,
      pages_length cs,
      length-append (range_with_len (c * 16) 16) (flat_map chunk_pages cs),
      length-range_with_len (c * 16) 16,
    )

-- the first chunks have at most as many such pages as all
pub take_fewer : (f : ℕ → Bool) (cs : List ℕ) (k : ℕ)
    → length (filter f (flat_map chunk_pages (take k cs))) ≤ length (filter f (flat_map chunk_pages cs))
take_fewer f cs k =
    let all = ap (λ l. length (filter f (flat_map chunk_pages l))) (take-append-drop k cs) in
    let parts = ap (λ l. length (filter f l)) (flat_map-append chunk_pages (take k cs) (drop k cs))
    ∙ ap length (filter-append f (flat_map chunk_pages (take k cs)) (flat_map chunk_pages (drop k cs)))
    ∙ length-append (filter f (flat_map chunk_pages (take k cs))) (filter f (flat_map chunk_pages (drop k cs))) in
    omega (arith, all, parts)

filter_few : (f : ℕ → Bool) (xs : List ℕ) → length (filter f xs) ≤ length xs
filter_few f [] = omega arith
filter_few f (x ∷ xs) = let r = filter_few f xs in
    elim (bool_cases (f x)) [ inl e ↦ rw e (omega (arith, r)) | inr e ↦ rw e (omega (arith, r)) ]

-- a chunk has at most sixteen such pages
pub pages_few : (f : ℕ → Bool) (c : ℕ) → length (filter f (flat_map chunk_pages (c ∷ []))) ≤ 16
unfolding chunk_pages
pages_few f c =
    omega (
      arith,
      filter_few f (flat_map chunk_pages (c ∷ [])),
      ap length (append-nil (range_with_len (c * 16) 16)),
      length-range_with_len (c * 16) 16,
    )

-- rising numbers from `low` on and below n are at most n - low
pub rising_few : (low n : ℕ) (xs : List ℕ) → IsRisingFrom low xs → All (λ c. c < n) xs → length xs ≤ n - low
rising_few low n [] rising below = omega arith
rising_few low n (x ∷ xs) rising below =
    let r = rising_few (x + 1) n xs rising.1 (λ k d h. below (suc k) d (omega arith)) in
    let b : x < n = below 0 0 (omega arith) in
    omega (arith, rising.0, r, b)

-- rising chunks of an arena are at most as many as it has, and so at most 256
pub few_chunks : (s : State) (cs : List ℕ) (n : ℕ) → IsRising cs → All (λ k. k < chunk_count s) cs → n ≡ chunk_count s
    → n ≤ 256 → length cs ≤ 256
few_chunks s cs n rising all is most = omega (arith, rising_few 0 (chunk_count s) cs rising all, is, most)
