-- Dirty extents that become clean, one after another.
use Rattle.std.proofs.Common.{inl, inr, ◌≡◌, ◌∙◌, ℕ, zero, suc, ◌+◌, ◌<◌, ◌≤◌, ◌⊎◌, ◌==◌, nat_lt, Bool, true, false}
use Rattle.std.proofs.Common.{cond, List, [], ◌∷◌, length, map, max, ◌++◌, Option, Some, None, refl, sym, ap, arith}
use Rattle.std.proofs.Common.{subst}
use Rattle.std.specs.Prelude.{slice_index}
use Rattle.std.specs.List.{range_with_len, AllByRecursion}
use Rattle.std.proofs.lemmas.Bool.{cases_lt}
use Rattle.std.proofs.lemmas.Bool.Decides.{nat_tests}
use Rattle.iol_back.specs.Disk.{Tears}
use Rattle.iol_hold.specs.Places.{Place, byte_len}
use Rattle.iol_hold.specs.StoreState.{Stored}
use Rattle.iol_extent.specs.Extents.{Cell, Extent, IsApart, begins_at, cell_at, cover, dirty_in, end_of, is_over}
use Rattle.iol_extent.specs.Extents.{last_end, put_in, without_at, dirty_count, one_dirty}
use Rattle.iol_cache.specs.CacheState.{all_parts}
use Rattle.iol_cache.specs.Contents.{IsStored, byte_in, file_byte, file_bytes, file_len, read_or}
use Rattle.iol_cache.specs.Sound.{IsLaid}
use Rattle.iol_cache.specs.WriteBack.{first_cleaned}
use Rattle.iol_extent.specs.Extents.{as_clean, cleaned_at}
use Rattle.iol_extent.proofs.CleanExtents.{first_begins}
use Rattle.iol_cache.proofs.Extents.FewerExtents.{cover-begins, eq_of, over_yes}
use Rattle.iol_cache.proofs.Extents.FileEntries.{sum-put_in, sum-without_at}

not_true : false ≡ true → ⊥
not_true h = cc

same_at : (n : ℕ) → (n == n) ≡ true
same_at n = grind (arith, nat_tests)

other_at : (m n : ℕ) → m < n → (m == n) ≡ false
other_at m n h = grind (arith, nat_tests)

before : (m n : ℕ) → m < n → nat_lt m n ≡ true
before m n h = grind (arith, nat_tests)

not_before : (m n : ℕ) → n < m → nat_lt m n ≡ false
not_before m n h = grind (arith, nat_tests)

-- The first dirty extent.

pub first_dirty : (low : ℕ) (es : List Extent) (e : Extent) → IsApart low es → dirty_in es ≡ Some e
    → (begins_at es e.at ≡ Some e) × (e.dirty ≡ true) × (low ≤ e.at)
first_dirty = first_begins

pub dirty_some : (low : ℕ) (es : List Extent) (e : Extent) → IsApart low es → dirty_in es ≡ Some e
    → 0 < byte_len e.parts
dirty_some low [] e apart is = cc
dirty_some low (x ∷ xs) e apart is = here x.dirty is (λ h. dirty_some (end_of x) xs e apart.2 h)
  where
    here : (b : Bool) → cond b (Some x) (dirty_in xs) ≡ Some e → (dirty_in xs ≡ Some e → 0 < byte_len e.parts)
        → 0 < byte_len e.parts
    here true h ih = let same : x ≡ e = cc in omega (arith, apart.1, ap (λ (y : Extent). byte_len y.parts) same)
    here false h ih = ih h

-- The extent becomes clean.

module _ (at : ℕ) (e : Extent) where
  pub cleaned_put : (low : ℕ) (es : List Extent) → IsApart low es → begins_at es at ≡ Some e
      → put_in (without_at es at) (as_clean e) ≡ cleaned_at es at
  cleaned_put low [] apart begins = cc
  cleaned_put low (x ∷ xs) apart begins = here (x.at == at) refl begins (λ h. cleaned_put (end_of x) xs apart.2 h)
    where
      first : (low : ℕ) (ys : List Extent) (y : Extent) → IsApart low ys → y.at < low → put_in ys y ≡ y ∷ ys
      first low [] y apart h = refl
      first low (z ∷ zs) y apart h =
          ap (λ b. cond b (y ∷ z ∷ zs) (z ∷ put_in zs y)) (before y.at z.at (omega (arith, h, apart.0)))

      above : (low : ℕ) (ys : List Extent) → IsApart low ys → begins_at ys at ≡ Some e → (low ≤ e.at) × (e.at ≡ at)
      above low [] apart h = cc
      above low (y ∷ ys) apart h = pick (y.at == at) refl h (λ k. above (end_of y) ys apart.2 k)
        where
          pick : (b : Bool) → (y.at == at) ≡ b → cond b (Some y) (begins_at ys at) ≡ Some e
              → (begins_at ys at ≡ Some e → (end_of y ≤ e.at) × (e.at ≡ at)) → (low ≤ e.at) × (e.at ≡ at)
          pick true is h ih = let same : y ≡ e = cc in (
            omega (arith, apart.0, ap (λ (z : Extent). z.at) same),
            omega (arith, eq_of y.at at is, ap (λ (z : Extent). z.at) same),
          )
          pick false is h ih = let r = ih h in (omega (arith, r.0, apart.0), r.1)

      here : (b : Bool) → (x.at == at) ≡ b → cond b (Some x) (begins_at xs at) ≡ Some e
          → (begins_at xs at ≡ Some e → put_in (without_at xs at) (as_clean e) ≡ cleaned_at xs at)
          → put_in (cond b xs (x ∷ without_at xs at)) (as_clean e) ≡ cond b (as_clean x ∷ xs) (x ∷ cleaned_at xs at)
      here true is h ih =
          let same : x ≡ e = cc in
          first (end_of x) xs (as_clean e) apart.2 (omega (arith, apart.1, ap (λ (z : Extent). z.at) same))
          ∙ ap (λ (z : Extent). as_clean z ∷ xs) (sym same)
      here false is h ih =
          let r = above (end_of x) xs apart.2 h in
          ap (λ b. cond b (as_clean e ∷ x ∷ without_at xs at) (x ∷ put_in (without_at xs at) (as_clean e)))
          (not_before e.at x.at (omega (arith, r.0, apart.1))) ∙ ap (λ l. x ∷ l) (ih h)

-- a function of the extents that does not depend on `dirty` is unchanged
cleaned-same : {A : Type 0} (g : List Extent → A)
    → ((x : Extent) (xs ys : List Extent) → g xs ≡ g ys → g (x ∷ xs) ≡ g (x ∷ ys))
    → ((x : Extent) (xs : List Extent) → g (as_clean x ∷ xs) ≡ g (x ∷ xs)) → (es : List Extent) (at : ℕ)
    → g (cleaned_at es at) ≡ g es
cleaned-same g more clean [] at = refl
cleaned-same g more clean (x ∷ xs) at = here (x.at == at) (cleaned-same g more clean xs at)
  where
    here : (b : Bool) → g (cleaned_at xs at) ≡ g xs → g (cond b (as_clean x ∷ xs) (x ∷ cleaned_at xs at)) ≡ g (x ∷ xs)
    here true ih = clean x xs
    here false ih = more x (cleaned_at xs at) xs ih

pub parts-cleaned : (es : List Extent) (at : ℕ) → all_parts (cleaned_at es at) ≡ all_parts es
parts-cleaned = cleaned-same all_parts (λ x xs ys same. ap (λ l. x.parts ++ l) same) (λ x xs. refl)

pub end-cleaned : (es : List Extent) (at : ℕ) → last_end (cleaned_at es at) ≡ last_end es
end-cleaned = cleaned-same last_end (λ x xs ys same. ap (max (end_of x)) same) (λ x xs. refl)

pub laid-cleaned : (s : Stored) (p : ℕ) (es : List Extent) (at : ℕ) → AllByRecursion (IsLaid s p) es
    → AllByRecursion (IsLaid s p) (cleaned_at es at)
laid-cleaned s p [] at all = tt
laid-cleaned s p (x ∷ xs) at all = here (x.at == at) (laid-cleaned s p xs at all.1)
  where
    here : (b : Bool) → AllByRecursion (IsLaid s p) (cleaned_at xs at)
        → AllByRecursion (IsLaid s p) (cond b (as_clean x ∷ xs) (x ∷ cleaned_at xs at))
    here true ih = (record { readable = all.0.readable; home = all.0.home }, all.1)
    here false ih = (all.0, ih)

pub count-cleaned : (es : List Extent) (at : ℕ) (e : Extent) → IsApart 0 es → begins_at es at ≡ Some e → e.dirty ≡ true
    → dirty_count (cleaned_at es at) + 1 ≡ dirty_count es
count-cleaned es at e apart begins dirty =
    let one : one_dirty e ≡ 1 = ap (λ b. cond {A = ℕ} b 1 0) dirty in
    omega (
      arith,
      one,
      sum-put_in one_dirty (without_at es at) (as_clean e),
      sum-without_at one_dirty es at e begins,
      ap dirty_count (cleaned_put at e 0 es apart begins),
    )

-- Its bytes are unchanged.

pub read-cleaned : (g : Place → ℕ) (n : ℕ) (es : List Extent) (at i : ℕ)
    → read_or g n (cover (cleaned_at es at) i) ≡ read_or g n (cover es i)
read-cleaned g n [] at i = refl
read-cleaned g n (x ∷ xs) at i = here (x.at == at) (is_over x i) (read-cleaned g n xs at i)
  where
    here : (b o : Bool) → read_or g n (cover (cleaned_at xs at) i) ≡ read_or g n (cover xs i)
        → read_or g n (cover (cond b (as_clean x ∷ xs) (x ∷ cleaned_at xs at)) i) ≡ read_or g n (cover (x ∷ xs) i)
    here b o ih = pick b (is_over x i) refl
      where
        pick : (b o : Bool) → is_over x i ≡ o → read_or g n (cover (cond b (as_clean x ∷ xs) (x ∷ cleaned_at xs at)) i)
            ≡ read_or g n (cover (x ∷ xs) i)
        pick true true is = ap (λ c. read_or g n (cond c (Some (cell_at (as_clean x) i)) (cover xs i))) is
            ∙ sym (ap (λ c. read_or g n (cond c (Some (cell_at x i)) (cover xs i))) is)
        pick true false is = ap (λ c. read_or g n (cond c (Some (cell_at (as_clean x) i)) (cover xs i))) is
            ∙ sym (ap (λ c. read_or g n (cond c (Some (cell_at x i)) (cover xs i))) is)
        pick false true is = ap (λ c. read_or g n (cond c (Some (cell_at x i)) (cover (cleaned_at xs at) i))) is
            ∙ sym (ap (λ c. read_or g n (cond c (Some (cell_at x i)) (cover xs i))) is)
        pick false false is = ap (λ c. read_or g n (cond c (Some (cell_at x i)) (cover (cleaned_at xs at) i))) is ∙ ih
            ∙ sym (ap (λ c. read_or g n (cond c (Some (cell_at x i)) (cover xs i))) is)

pub stored-cleaned : (s : Stored) (stored : List ℕ) (es : List Extent) (at i : ℕ) (e : Extent)
    → begins_at es at ≡ Some e
    → (is_over e i ≡ true → (i < length stored) × (byte_in s (cell_at e i).place ≡ slice_index stored i))
    → IsStored s stored i (cover es i) → IsStored s stored i (cover (cleaned_at es at) i)
stored-cleaned s stored [] at i e begins own h = h
stored-cleaned s stored (x ∷ xs) at i e begins own h =
    here (x.at == at) begins (is_over x i) refl (λ b k. stored-cleaned s stored xs at i e b own k)
  where
    here : (b : Bool) → cond b (Some x) (begins_at xs at) ≡ Some e → (o : Bool) → is_over x i ≡ o
        → (begins_at xs at ≡ Some e → IsStored s stored i (cover xs i)
        → IsStored s stored i (cover (cleaned_at xs at) i))
        → IsStored s stored i (cover (cond b (as_clean x ∷ xs) (x ∷ cleaned_at xs at)) i)
    here true bs true is ih =
        let same : x ≡ e = cc in
        subst (λ c. IsStored s stored i (cond c (Some (cell_at (as_clean x) i)) (cover xs i))) (sym is)
        (λ clean. subst (λ (y : Extent). (i < length stored)
        × (byte_in s (cell_at y i).place ≡ slice_index stored i)) (sym same)
        (own (ap (λ (y : Extent). is_over y i) (sym same) ∙ is)))
    here true bs false is ih =
        subst (λ c. IsStored s stored i (cond c (Some (cell_at (as_clean x) i)) (cover xs i))) (sym is)
        (subst (λ c. IsStored s stored i (cond c (Some (cell_at x i)) (cover xs i))) is h)
    here false bs true is ih =
        subst (λ c. IsStored s stored i (cond c (Some (cell_at x i)) (cover (cleaned_at xs at) i))) (sym is)
        (subst (λ c. IsStored s stored i (cond c (Some (cell_at x i)) (cover xs i))) is h)
    here false bs false is ih =
        subst (λ c. IsStored s stored i (cond c (Some (cell_at x i)) (cover (cleaned_at xs at) i))) (sym is)
        (ih bs (subst (λ c. IsStored s stored i (cond c (Some (cell_at x i)) (cover xs i))) is h))

-- The backing store is written under a dirty extent.

pub bytes_alike : (g : Place → ℕ) (stored new : List ℕ) (es fs : List Extent)
    → ((i : ℕ) → file_byte g new fs i ≡ file_byte g stored es i) → file_len new fs ≡ file_len stored es
    → file_bytes g new fs ≡ file_bytes g stored es
bytes_alike g stored new es fs each len = (λ i. map (λ (k : ℕ). each k i) (range_with_len 0 (file_len new fs)))
    ∙ ap (λ n. map (file_byte g stored es) (range_with_len 0 n)) len

module _ (stored new : List ℕ) (es : List Extent) (at : ℕ) (e : Extent) (apart : IsApart 0 es)
    (begins : begins_at es at ≡ Some e) (is_at : e.at ≡ at) (dirty : e.dirty ≡ true) (ends : end_of e ≤ last_end es)
    (tears : Tears at (byte_len e.parts) stored new) where
  out_of : (i : ℕ) → is_over e i ≡ false → (i < at) ⊎ (at + byte_len e.parts ≤ i)
  out_of i h = elim (cases_lt i at) [
    | inl lo ↦ inl lo
    | inr ge ↦ elim (cases_lt i (at + byte_len e.parts)) [
      | inl lt ↦ absurd (not_true (sym h ∙ over_yes e i (omega (arith, ge, is_at)) (omega (arith, lt, is_at))))
      | inr hi ↦ inr hi
    ]
  ]

  same_out : (i : ℕ) → is_over e i ≡ false → slice_index new i ≡ slice_index stored i
  same_out i h = tears.each i (out_of i h)

  pub torn_byte : (g : Place → ℕ) (i : ℕ) → file_byte g new es i ≡ file_byte g stored es i
  torn_byte g i = pick (is_over e i) refl
    where
      pick : (b : Bool) → is_over e i ≡ b → file_byte g new es i ≡ file_byte g stored es i
      pick true is =
          let c = cover-begins 0 es at e i apart begins is in
          ap (read_or g (slice_index new i)) c ∙ sym (ap (read_or g (slice_index stored i)) c)
      pick false is = ap (λ n. read_or g n (cover es i)) (same_out i is)

  pub torn_len : file_len new es ≡ file_len stored es
  torn_len = omega (arith, tears.no_shorter, tears.no_longer, ends, is_at)

  pub torn_stored : (s : Stored) (i : ℕ) → IsStored s stored i (cover es i) → IsStored s new i (cover es i)
  torn_stored s i h = pick (is_over e i) refl
    where
      keep : slice_index new i ≡ slice_index stored i → (o : Option Cell) → IsStored s stored i o → IsStored s new i o
      keep same None k = k
      keep same (Some c) k = λ clean. (omega (arith, (k clean).0, tears.no_shorter), (k clean).1 ∙ sym same)

      pick : (b : Bool) → is_over e i ≡ b → IsStored s new i (cover es i)
      pick true is =
          subst (IsStored s new i) (sym (cover-begins 0 es at e i apart begins is))
          (λ clean. absurd (not_true (sym clean ∙ dirty)))
      pick false is = keep (same_out i is) (cover es i) h

-- One more of the first dirty extents is cleaned.

pub apart-first : (n low : ℕ) (es : List Extent) → IsApart low es → IsApart low (first_cleaned n es)
apart-first zero low es apart = apart
apart-first (suc n) low [] apart = apart
apart-first (suc n) low (x ∷ xs) apart =
    here x.dirty (apart-first n (end_of x) xs apart.2) (apart-first (suc n) (end_of x) xs apart.2)
  where
    here : (b : Bool) → IsApart (end_of x) (first_cleaned n xs) → IsApart (end_of x) (first_cleaned (suc n) xs)
        → IsApart low (cond b (as_clean x ∷ first_cleaned n xs) (x ∷ first_cleaned (suc n) xs))
    here true one more = (apart.0, apart.1, one)
    here false one more = (apart.0, apart.1, more)

-- an extent that begins before the place is not cleaned
skip : (x y : Extent) (ys : List Extent) (at : ℕ) → x.at ≡ y.at → y.at < at
    → cleaned_at (x ∷ ys) at ≡ x ∷ cleaned_at ys at
skip x y ys at same less =
    ap (λ b. cond b (as_clean x ∷ ys) (x ∷ cleaned_at ys at)) (other_at x.at at (omega (arith, same, less)))

pub cleaned_more : (n low : ℕ) (es : List Extent) (e : Extent) → IsApart low es → dirty_in (first_cleaned n es) ≡ Some e
    → cleaned_at (first_cleaned n es) e.at ≡ first_cleaned (suc n) es
cleaned_more zero low [] e apart is = cc
cleaned_more (suc n) low [] e apart is = cc
cleaned_more zero low (x ∷ xs) e apart is =
    here x.dirty is (λ h. (first_dirty (end_of x) xs e apart.2 h).2) (λ h. cleaned_more zero (end_of x) xs e apart.2 h)
  where
    here : (b : Bool) → cond b (Some x) (dirty_in xs) ≡ Some e → (dirty_in xs ≡ Some e → end_of x ≤ e.at)
        → (dirty_in xs ≡ Some e → cleaned_at xs e.at ≡ first_cleaned (suc zero) xs)
        → cleaned_at (x ∷ xs) e.at ≡ cond b (as_clean x ∷ xs) (x ∷ first_cleaned (suc zero) xs)
    here true h low ih = let same : x ≡ e = cc in
        ap (λ b. cond b (as_clean x ∷ xs) (x ∷ cleaned_at xs e.at)) (ap (λ (y : Extent). y.at == e.at) same
        ∙ same_at e.at)
    here false h low ih = skip x x xs e.at refl (omega (arith, low h, apart.1)) ∙ ap (λ l. x ∷ l) (ih h)
cleaned_more (suc n) low (x ∷ xs) e apart is =
    here x.dirty refl is
    (λ h. (first_dirty (end_of x) (first_cleaned n xs) e (apart-first n (end_of x) xs apart.2) h).2)
    (λ h. (first_dirty (end_of x) (first_cleaned (suc n) xs) e (apart-first (suc n) (end_of x) xs apart.2) h).2)
    (λ h. cleaned_more n (end_of x) xs e apart.2 h)
    (λ h. cleaned_more (suc n) (end_of x) xs e apart.2 h)
  where
    here : (b : Bool) → x.dirty ≡ b → dirty_in (cond b (as_clean x ∷ first_cleaned n xs) (x ∷ first_cleaned (suc n) xs))
        ≡ Some e
        → (dirty_in (first_cleaned n xs) ≡ Some e → end_of x ≤ e.at)
        → (dirty_in (first_cleaned (suc n) xs) ≡ Some e → end_of x ≤ e.at)
        → (dirty_in (first_cleaned n xs) ≡ Some e → cleaned_at (first_cleaned n xs) e.at ≡ first_cleaned (suc n) xs)
        → (dirty_in (first_cleaned (suc n) xs) ≡ Some e
        → cleaned_at (first_cleaned (suc n) xs) e.at ≡ first_cleaned (suc (suc n)) xs)
        → cleaned_at (cond b (as_clean x ∷ first_cleaned n xs) (x ∷ first_cleaned (suc n) xs)) e.at
        ≡ cond b (as_clean x ∷ first_cleaned (suc n) xs) (x ∷ first_cleaned (suc (suc n)) xs)
    here true d h one more ih jh = skip (as_clean x) x (first_cleaned n xs) e.at refl (omega (arith, one h, apart.1))
        ∙ ap (λ l. as_clean x ∷ l) (ih h)
    here false d h one more ih jh =
        let k : dirty_in (first_cleaned (suc n) xs) ≡ Some e =
        sym (ap (λ b. cond b (Some x) (dirty_in (first_cleaned (suc n) xs))) d) ∙ h in
        skip x x (first_cleaned (suc n) xs) e.at refl (omega (arith, more k, apart.1)) ∙ ap (λ l. x ∷ l) (jh k)
