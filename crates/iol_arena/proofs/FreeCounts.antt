-- The free pages of each chunk, counted.
use Rattle.std.proofs.Common.{◌≡◌, false, true, Bool, ℕ, zero, suc, ◌+◌, ◌*◌, ◌/◌, ◌<◌, ◌≤◌, ◌⊎◌, inl, inr, List, []}
use Rattle.std.proofs.Common.{◌∷◌, length, get_or, set, take, drop, refl, sym, ap, ◌∙◌, arith, subst, flat_map, cond}
use Rattle.std.proofs.Common.{replicate, length-set}
use Rattle.std.specs.List.{filter, range_with_len}
use Rattle.std.proofs.lemmas.Bool.{cases_eq, lt-ltb}
use Rattle.std.proofs.lemmas.List.{get_or-set_same, get_or-set_other, length-replicate, take_all, take-append-drop}
use Rattle.std.proofs.lemmas.List.Elements.{filter-append}
use Rattle.std.proofs.lemmas.Grind.{flat_map-append}
use Rattle.std.specs.Ptr.{Ptr}
use Rattle.iol_arena.specs.State.{State, HasRuns, IsSound, entry_in, no_entry, is_free, kind_head}
use Rattle.iol_arena.specs.View.{AreCounted, one}
use Rattle.iol_arena.specs.Chunks.{chunk_pages, usable, free_pages}
use Rattle.iol_arena.specs.declared.pages.Entry.{Entry}
use Rattle.iol_arena.proofs.Each.{order}
use Rattle.iol_arena.proofs.Scan.{take_full}
use Rattle.iol_arena.proofs.Members.{filter_same, range_in}

-- the count with one more element
length-filter-cons : (f : ℕ → Bool) (x : ℕ) (xs : List ℕ)
    → length (filter f (x ∷ xs)) ≡ one (f x) + length (filter f xs)
length-filter-cons f x xs =
    elim (f x) as (λ b. length (cond b (x ∷ filter f xs) (filter f xs)) ≡ one b + length (filter f xs)) [
      | true ↦
          omega arith
      | false ↦ omega arith
    ]

-- the count after the test changes at one place
pub count_changed : (f g : ℕ → Bool) (a n p : ℕ) → ((q : ℕ) → (q ≡ p → ⊥) → g q ≡ f q) → a ≤ p → p < a + n
    → length (filter g (range_with_len a n)) + one (f p) ≡ length (filter f (range_with_len a n)) + one (g p)
count_changed f g a zero p same lo hi = absurd (omega arith)
count_changed f g a (suc n) p same lo hi =
    let rest = range_with_len (a + 1) n in
    let x = length-filter-cons f a rest in
    let y = length-filter-cons g a rest in
    elim (cases_eq p a) [
      | inl e ↦ (
          let z =
          ap length
          (filter_same g f rest
          (λ q i. same q (λ at. (let r = range_in (a + 1) n q i in omega (arith, r.0, at, e))))) in
          let u = ap (λ k. one (f k)) e in
          let v = ap (λ k. one (g k)) e in
          omega (arith, x, y, z, u, v))
      | inr ne ↦ (
          let z = ap one (same a (λ at. ne (sym at))) in
          let r = count_changed f g (a + 1) n p same (above a p lo ne) (omega arith) in
          omega (arith, x, y, z, r))
    ]
  where
    above : (a p : ℕ) → a ≤ p → (p ≡ a → ⊥) → a + 1 ≤ p
    above a p h ne =
        elim (order a 1 p) [
          | inl x ↦ absurd (omega arith)
          | inr r ↦
              elim r [ inl x ↦ absurd (ne (omega (arith, x.0, x.1))) | inr x ↦ x ]
        ]

pub count_few : (f : ℕ → Bool) (a n : ℕ) → length (filter f (range_with_len a n)) ≤ n
count_few f a zero = omega arith
count_few f a (suc n) =
    omega (arith, length-filter-cons f a (range_with_len (a + 1) n), count_few f (a + 1) n, one_few (f a))
  where
    one_few : (b : Bool) → one b ≤ 1
    one_few true = omega arith
    one_few false = omega arith

pub count_all : (f : ℕ → Bool) (a n : ℕ) → ((q : ℕ) → f q ≡ true) → length (filter f (range_with_len a n)) ≡ n
count_all f a zero all = refl
count_all f a (suc n) all =
    omega (arith, length-filter-cons f a (range_with_len (a + 1) n), ap one (all a), count_all f (a + 1) n all)

-- an element that passes is counted
pub count_some : (f : ℕ → Bool) (a n p : ℕ) → a ≤ p → p < a + n → one (f p) ≤ length (filter f (range_with_len a n))
count_some f a zero p lo hi = absurd (omega arith)
count_some f a (suc n) p lo hi = elim (cases_eq p a) [
  | inl e ↦ omega (arith, length-filter-cons f a (range_with_len (a + 1) n), ap (λ k. one (f k)) e)
  | inr ne ↦ elim (order a 1 p) [
    | inl h ↦ absurd (omega arith)
    | inr r ↦ elim r [
      | inl h ↦ absurd (ne (omega (arith, h.0, h.1)))
      | inr h ↦
          omega (arith, length-filter-cons f a (range_with_len (a + 1) n), count_some f (a + 1) n p h (omega arith))
    ]
  ]
]

-- a page changes: its chunk's count changes with it, and the other counts stay
pub counted_set : (free : List ℕ) (limit : ℕ) (es : List Entry) (p : ℕ) (e : Entry) (m : ℕ) → AreCounted free limit es
    → p / 16 < length free → p < length es
    → m + one (is_free limit (entry_in es p)) ≡ get_or free (p / 16) 0 + one (is_free limit e)
    → AreCounted (set free (p / 16) m) limit (set es p e)
unfolding chunk_pages
counted_set free limit es p e m old within there is = record {
  each = λ c h.
      let f : ℕ → Bool = λ q. is_free limit (entry_in es q) in
      let g : ℕ → Bool = λ q. is_free limit (entry_in (set es p e) q) in
      let same : (q : ℕ) → (q ≡ p → ⊥) → g q ≡ f q =
      λ q ne. ap (is_free limit) (get_or-set_other es p q e no_entry ne) in
      elim (cases_eq c (p / 16)) [
        | inl at ↦ (
            let changed = count_changed f g (p / 16 * 16) 16 p same (omega arith) (omega arith) in
            let here : one (g p) ≡ one (is_free limit e) =
            ap (λ x. one (is_free limit x)) (get_or-set_same es p e no_entry there) in
            let was = old.each (p / 16) within in
            let now : get_or (set free (p / 16) m) (p / 16) 0 ≡ m = get_or-set_same free (p / 16) m 0 within in
            ap (λ k. get_or (set free (p / 16) m) k 0) at ∙ omega (arith, changed, here, was, now, is)
            ∙ ap (λ k. length (filter g (range_with_len (k * 16) 16))) (sym at))
        | inr ne ↦ (
            let out = get_or-set_other free (p / 16) c m 0 ne in
            let was = old.each c (omega (arith, h, length-set free (p / 16) m)) in
            out ∙ was
            ∙ sym
            (ap length
            (filter_same g f (range_with_len (c * 16) 16)
            (λ q i. same q (λ at. (let r = range_in (c * 16) 16 q i in ne (omega (arith, r.0, r.1, at))))))))
      ];
}

-- the count of a chunk with a free page is not 0
pub counted_some : (free : List ℕ) (limit : ℕ) (es : List Entry) (p : ℕ) → AreCounted free limit es
    → p / 16 < length free → one (is_free limit (entry_in es p)) ≤ get_or free (p / 16) 0
unfolding chunk_pages
counted_some free limit es p old within =
    omega (
      arith,
      old.each (p / 16) within,
      count_some (λ q. is_free limit (entry_in es q)) (p / 16 * 16) 16 p
          (omega arith) (omega arith),
    )

pub counted_few : (free : List ℕ) (limit : ℕ) (es : List Entry) (c : ℕ) → AreCounted free limit es → c < length free
    → get_or free c 0 ≤ 16
unfolding chunk_pages
counted_few free limit es c old within =
    omega (arith, old.each c within, count_few (λ q. is_free limit (entry_in es q)) (c * 16) 16)

every : (n i : ℕ) → entry_in (replicate n no_entry) i ≡ no_entry
every zero i = refl
every (suc n) zero = refl
every (suc n) (suc i) = every n i

-- pages without buffers have only whole runs
pub new_runs : (n : ℕ) → HasRuns (replicate n no_entry)
new_runs n =
    record {
      each = λ p m head. (let none = ap (λ (e : Entry). kind_head e.kind) (every n p) in let is =
          ap kind_head head in absurd (cc (none, is)));
    }

-- all pages are free at first
pub counted_new : (limit n k : ℕ) → 0 < limit → AreCounted (replicate {A = ℕ} n 16) limit (replicate k no_entry)
unfolding chunk_pages
counted_new limit n k some = record {
  each = λ c h. sixteen n c (omega (arith, h, length-replicate {A = ℕ} n 16))
      ∙ sym (count_all (λ q. is_free limit (entry_in (replicate k no_entry) q)) (c * 16) 16
      (λ q. ap (is_free limit) (every k q) ∙ lt-ltb 0 limit some));
}
  where
    sixteen : (n i : ℕ) → i < n → get_or (replicate {A = ℕ} n 16) i 0 ≡ 16
    sixteen zero i h = absurd (omega arith)
    sixteen (suc n) zero h = refl
    sixteen (suc n) (suc i) h = sixteen n i (omega arith)

-- a new arena is sound
pub new_sound : (base : Ptr) (memory : List ℕ) (es : List Entry) (taken : List Bool) (free : List ℕ) (limit n : ℕ)
    → memory ≡ replicate (n * 16 * 4096) 0 → es ≡ replicate (n * 16) no_entry → taken ≡ replicate n false
    → free ≡ replicate n 16
    → n ≤ 256 → 0 < limit
    → IsSound (record { memory = memory; base = base; entries = es; limit = limit; taken = taken })
    × (length free ≡ length taken) × AreCounted free limit es
new_sound base memory es taken free limit n m e t f few some = (
  record {
    memory =
        omega (
          arith,
          ap length m,
          ap length e,
          length-replicate {A = ℕ} (n * 16 * 4096) 0,
          length-replicate (n * 16) no_entry,
        );
    chunks = omega (arith, ap length e, ap length t, length-replicate (n * 16) no_entry, length-replicate n false);
    small = omega (arith, ap length t, length-replicate n false, few);
    runs = subst HasRuns (sym e) (new_runs (n * 16));
  },
  omega (arith, ap length f, ap length t, length-replicate {A = ℕ} n 16, length-replicate n false),
  subst (λ l. AreCounted l limit es) (sym f)
      (subst (λ xs. AreCounted (replicate {A = ℕ} n 16) limit xs) (sym e) (counted_new limit n (n * 16) some)),
)

none_left : (xs : List ℕ) → length xs ≡ 0 → xs ≡ []
none_left [] e = refl
none_left (x ∷ xs) e = absurd (omega arith)

-- a chunk that counts no free page has none
pub none_free : (free : List ℕ) (s : State) (c : ℕ) → AreCounted free s.limit s.entries → c < length free
    → get_or free c 0 ≡ 0 → filter (usable s) (chunk_pages c) ≡ []
none_free free s c counted within none =
    none_left (filter (usable s) (chunk_pages c)) (sym (counted.each c within) ∙ none)

pub take-nil : (m : ℕ) → take m (let l : List ℕ = [] in l) ≡ []
take-nil zero = refl
take-nil (suc m) = refl

-- the search may stop once it has searched all chunks, or has found enough pages
pub all_found : (s : State) (xs : List ℕ) (i need have : ℕ) → have ≡ length (take need (free_pages s (take i xs)))
    → (length xs ≤ i) ⊎ (have ≡ need) → take need (free_pages s (take i xs)) ≡ take need (free_pages s xs)
all_found s xs i need have is (inl all) = ap (λ l. take need (free_pages s l)) (take_all i xs all)
all_found s xs i need have is (inr enough) =
    let whole = ap (λ l. filter (usable s) l) (sym (flat_map-append chunk_pages (take i xs) (drop i xs))
    ∙ ap (λ l. flat_map chunk_pages l) (take-append-drop i xs)) in
    sym (take_full need (free_pages s (take i xs)) (free_pages s (drop i xs)) (omega arith))
    ∙ ap (λ l. take need l)
    (sym (filter-append (usable s) (flat_map chunk_pages (take i xs)) (flat_map chunk_pages (drop i xs))) ∙ whole)
