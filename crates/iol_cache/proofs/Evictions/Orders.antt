-- The order of eviction while extents are removed and put in.
use Rattle.std.proofs.Common.{◌≡◌, ◌∙◌, ℕ, ◌<◌, ◌==◌, Bool, true, false, cond, List, [], ◌∷◌, Option, Some, None}
use Rattle.std.proofs.Common.{IfSome, refl, sym, ap, arith, subst}
use Rattle.std.specs.List.{filter}
use Rattle.std.proofs.lemmas.Bool.Decides.{nat_tests}
use Rattle.iol_evict.specs.Order.{Ranking, entered, left_at, with_one_given_back, with_one_kept}
use Rattle.iol_extent.specs.Extents.{Extent, IsApart, IsFirstMet, end_of, meets, met_in, without_at}
use Rattle.iol_extent.proofs.RangeExtents.{met_low}
use Rattle.iol_hold.specs.Places.{byte_len}
use Rattle.iol_cache.specs.Replacement.{all_forgotten, forgotten, remembered, reordered}

-- One extent.

pub forgot_dirty : (r t : Ranking) (f : ℕ) (x : Extent) → x.dirty ≡ true → t ≡ with_one_given_back r
    → t ≡ forgotten r f x
forgot_dirty r t f x dirty is = is ∙ sym (ap (λ b. cond b (with_one_given_back r) (left_at r f x.at)) dirty)

pub forgot_clean : (r t : Ranking) (f at : ℕ) (x : Extent) → x.dirty ≡ false → x.at ≡ at → t ≡ left_at r f at
    → t ≡ forgotten r f x
forgot_clean r t f at x clean begins is = is ∙ ap (left_at r f) (sym begins)
    ∙ sym (ap (λ b. cond b (with_one_given_back r) (left_at r f x.at)) clean)

remembered_some : (r : Ranking) (f : ℕ) (x : Extent) → 0 < byte_len x.parts
    → remembered r f x ≡ cond x.dirty (with_one_kept r) (entered r f x.at (byte_len x.parts) 1)
remembered_some r f x some = ap (λ b. cond b r (cond x.dirty (with_one_kept r) (entered r f x.at (byte_len x.parts) 1)))
    (some_bytes (byte_len x.parts) some)
  where
    some_bytes : (n : ℕ) → 0 < n → (n == 0) ≡ false
    some_bytes n h = grind (arith, nat_tests, h)

pub remembered_clean : (r : Ranking) (f : ℕ) (x : Extent) → x.dirty ≡ false → 0 < byte_len x.parts
    → remembered r f x ≡ entered r f x.at (byte_len x.parts) 1
remembered_clean r f x clean some = remembered_some r f x some
    ∙ ap (λ b. cond b (with_one_kept r) (entered r f x.at (byte_len x.parts) 1)) clean

pub remembered_dirty : (r : Ranking) (f : ℕ) (x : Extent) → x.dirty ≡ true → 0 < byte_len x.parts
    → remembered r f x ≡ with_one_kept r
remembered_dirty r f x dirty some = remembered_some r f x some
    ∙ ap (λ b. cond b (with_one_kept r) (entered r f x.at (byte_len x.parts) 1)) dirty

pub remembered_none : (r : Ranking) (f : ℕ) (x : Extent) → byte_len x.parts ≡ 0 → remembered r f x ≡ r
remembered_none r f x none = ap (λ n. cond (n == 0) r (cond x.dirty (with_one_kept r) (entered r f x.at n 1))) none

-- The extents that a range meets.

eq_yes : (m n : ℕ) → m ≡ n → (m == n) ≡ true
eq_yes m n h = grind (arith, nat_tests)

eq_no : (m n : ℕ) → m < n → (m == n) ≡ false
eq_no m n h = grind (arith, nat_tests)

met_first : (low : ℕ) (es : List Extent) (from to : ℕ) (e : Extent) → IsApart low es → met_in es from to ≡ Some e
    → filter (meets from to) es ≡ e ∷ filter (meets from to) (without_at es e.at)
met_first low [] from to e apart h = cc
met_first low (x ∷ xs) from to e apart h =
    here (meets from to x) refl h (met_first (end_of x) xs from to e apart.2) where
      here : (b : Bool) → meets from to x ≡ b → cond b (Some x) (met_in xs from to) ≡ Some e
          → (met_in xs from to ≡ Some e → filter (meets from to) xs ≡ e ∷ filter (meets from to) (without_at xs e.at))
          → filter (meets from to) (x ∷ xs) ≡ e ∷ filter (meets from to) (without_at (x ∷ xs) e.at)
      here true is h ih =
          let same : x ≡ e = cc in
          ap (λ b. cond b (x ∷ filter (meets from to) xs) (filter (meets from to) xs)) is
          ∙ ap (λ y. y ∷ filter (meets from to) xs) same
          ∙ ap (λ b. e ∷ filter (meets from to) (cond b xs (x ∷ without_at xs e.at)))
          (sym (eq_yes x.at e.at (ap (λ (y : Extent). y.at) same)))
      here false is h ih =
          let later = met_low (end_of x) xs from to e apart.2 h in
          ap (λ b. cond b (x ∷ filter (meets from to) xs) (filter (meets from to) xs)) is
          ∙ ih h
          ∙ ap
          (λ b. e ∷ cond b (x ∷ filter (meets from to) (without_at xs e.at))
          (filter (meets from to) (without_at xs e.at))) (sym is)
          ∙ ap (λ b. e ∷ filter (meets from to) (cond b xs (x ∷ without_at xs e.at)))
          (sym (eq_no x.at e.at (omega (arith, later, apart.1))))

pub met_none : (es : List Extent) (from to : ℕ) → met_in es from to ≡ None → filter (meets from to) es ≡ []
met_none [] from to h = refl
met_none (x ∷ xs) from to h = here (meets from to x) h (met_none xs from to) where
  here : (b : Bool) → cond b (Some x) (met_in xs from to) ≡ None
      → (met_in xs from to ≡ None → filter (meets from to) xs ≡ [])
      → cond b (x ∷ filter (meets from to) xs) (filter (meets from to) xs) ≡ []
  here true h ih = cc
  here false h ih = ih h

-- the extents that a range meets leave the order: the first of them, and then the others
pub forgot_first : (r t : Ranking) (f from to at : ℕ) (es : List Extent) → IsApart 0 es → (m : IsFirstMet es from to at)
    → t ≡ forgotten r f m.extent → all_forgotten t f (filter (meets from to) (without_at es at))
    ≡ all_forgotten r f (filter (meets from to) es)
forgot_first r t f from to at es apart m is =
    ap (λ n. all_forgotten t f (filter (meets from to) (without_at es n))) (sym m.begins)
    ∙ ap (λ q. all_forgotten q f (filter (meets from to) (without_at es m.extent.at))) is
    ∙ ap (all_forgotten r f) (sym (met_first 0 es from to m.extent apart m.is))

pub some_is : (P : Extent → Type 0) (o : Option Extent) (e : Extent) → o ≡ Some e → IfSome o P → P e
some_is P o e is h = let i : IfSome (Some e) P = subst (λ (x : Option Extent). IfSome x P) is h in i

pub is_some : (P : Extent → Type 0) (o : Option Extent) (e : Extent) → o ≡ Some e → P e → IfSome o P
is_some P o e is h = subst (λ (x : Option Extent). IfSome x P) (sym is) h

-- a range is replaced, part by part
pub reordered_is : (r a b c d : Ranking) (f : ℕ) (es : List Extent) (from to : ℕ) (left right e : Extent)
    → a ≡ all_forgotten r f (filter (meets from to) es) → b ≡ remembered a f left → c ≡ remembered b f right
    → d ≡ remembered c f e → d ≡ reordered r f es from to left right e
reordered_is r a b c d f es from to left right e g h i j =
    j ∙ ap (λ x. remembered x f e) (i ∙ ap (λ x. remembered x f right) (h ∙ ap (λ x. remembered x f left) g))
