-- A table of connections, no two of which are the same.
use Rattle.std.proofs.Common.{◌≡◌, inl, inr, ◌∙◌, ◌<◌, ◌≤◌, ◌+◌, ◌++◌, ◌∷◌, [], ℕ, zero, suc, true, false, List, Option}
use Rattle.std.proofs.Common.{None, Some, get_or, set, length, sym, ap, refl, subst, arith}
use Rattle.std.proofs.lemmas.Bool.{cases_eq, cases_lt}
use Rattle.std.proofs.lemmas.Bool.Decides.{nat_tests}
use Rattle.std.proofs.lemmas.List.{get_or-set_same, get_or-set_other}
use Rattle.std.proofs.lemmas.List.Sums.{sum_by-cons, sum_by-set, sum_by_push}
use Rattle.std.specs.Prelude.{Bool, Result, Ok, Err, cond, count_by, is_ok, is_some, not, ◌==◌, if◌then◌else◌}
use Rattle.iol_reactor.specs.Connections.{link_at, AreApart, HaveCome, has_come, is_current, is_earlier}
use Rattle.iol_reactor.specs.declared.links.Link.{Link}

link_of : Link → Option Link → Link
link_of l None = l
link_of l (Some k) = k

-- two options with a value are equal only if their values are
same_link : (a b : Link) → Some a ≡ Some b → a ≡ b
unfolding link_of
same_link a b e = ap (λ o. link_of a o) e

-- one more place, without a connection
link_at-pushed : (table : List (Option Link)) (i : ℕ) → link_at (table ++ None ∷ []) i ≡ link_at table i
link_at-pushed [] zero = refl
link_at-pushed [] (suc i) = refl
link_at-pushed (l ∷ table) zero = refl
link_at-pushed (l ∷ table) (suc i) = link_at-pushed table i

pub apart_pushed : (table : List (Option Link)) → AreApart table → AreApart (table ++ None ∷ [])
apart_pushed table apart =
    λ i j l at other. apart i j l (sym (link_at-pushed table i) ∙ at) (sym (link_at-pushed table j) ∙ other)

pub come_pushed : (generation last : ℕ) (table : List (Option Link)) → HaveCome generation last table
    → HaveCome generation last (table ++ None ∷ [])
come_pushed generation last table come = λ i l at. come i l (sym (link_at-pushed table i) ∙ at)

none_some : (l : Link) (o : Option Link) → o ≡ None → o ≡ Some l → ⊥
none_some l o none some = cc (none, some)

pub apart_none : AreApart []
apart_none = λ i j l at other. absurd (none_some l None refl at)

pub come_none : (generation last : ℕ) → HaveCome generation last []
come_none generation last = λ i l at. absurd (none_some l None refl at)

-- no client has a connection that is later than the last one
not_there : (generation last : ℕ) (table : List (Option Link)) (l : Link) → HaveCome generation last table
    → has_come generation last l ≡ false → (i : ℕ) → link_at table i ≡ Some l → ⊥
not_there generation last table l come new i at = let is = come i l at in cc (is, new)

apart_within : (generation last : ℕ) (table : List (Option Link)) (k : ℕ) (l : Link) → k < length table
    → HaveCome generation last table → has_come generation last l ≡ false
    → AreApart table → AreApart (set table k (Some l))
apart_within generation last table k l within come new apart = λ i j m at other. elim (cases_eq i k) [
  | inl e ↦ elim (cases_eq j k) [
    | inl f ↦ e ∙ sym f
    | inr f ↦ absurd (
        let same : l ≡ m =
        same_link l m (sym (get_or-set_same table k (Some l) None within)
        ∙ (ap (λ n. get_or (set table k (Some l)) n None) (sym e) ∙ at)) in
        not_there generation last table l come new j (sym (get_or-set_other table k j (Some l) None f)
        ∙ (other ∙ ap (λ n. Some n) (sym same))))
  ]
  | inr e ↦ elim (cases_eq j k) [
    | inl f ↦ absurd (
        let same : l ≡ m =
        same_link l m (sym (get_or-set_same table k (Some l) None within)
        ∙ (ap (λ n. get_or (set table k (Some l)) n None) (sym f) ∙ other)) in
        not_there generation last table l come new i (sym (get_or-set_other table k i (Some l) None e)
        ∙ (at ∙ ap (λ n. Some n) (sym same))))
    | inr f ↦
        apart i j m (sym (get_or-set_other table k i (Some l) None e) ∙ at)
        (sym (get_or-set_other table k j (Some l) None f) ∙ other)
  ]
]

-- a place after the end
set_past : (table : List (Option Link)) (k : ℕ) (x : Option Link) → length table ≤ k → set table k x ≡ table
set_past [] k x h = refl
set_past (y ∷ table) zero x h = absurd (omega (arith, h))
set_past (y ∷ table) (suc k) x h = ap (λ (t : List (Option Link)). y ∷ t) (set_past table k x (omega (arith, h)))

pub apart_given : (generation last : ℕ) (table : List (Option Link)) (k : ℕ) (l : Link) → HaveCome generation last table
    → has_come generation last l ≡ false
    → AreApart table → AreApart (set table k (Some l))
apart_given generation last table k l come new apart = elim (cases_lt k (length table)) [
  | inl within ↦ apart_within generation last table k l within come new apart
  | inr past ↦ subst (λ (t : List (Option Link)). AreApart t) (sym (set_past table k (Some l) past)) apart
]

-- `has_come` is preserved as the last number grows
later : (generation last : ℕ) (l : Link) (now : ℕ) → last < now → has_come generation last l ≡ true
    → has_come generation now l ≡ true
later generation last l now more is = grind (arith, nat_tests, more, is)

come_within : (generation last : ℕ) (table : List (Option Link)) (k : ℕ) (l : Link) → k < length table
    → l.generation ≡ generation → last < l.conn → HaveCome generation last table
    → HaveCome generation l.conn (set table k (Some l))
come_within generation last table k l within own more come = λ i m at. elim (cases_eq i k) [
  | inl e ↦ (
      let same : l ≡ m =
      same_link l m (sym (get_or-set_same table k (Some l) None within)
      ∙ (ap (λ n. get_or (set table k (Some l)) n None) (sym e) ∙ at)) in
      let is : has_come generation l.conn l ≡ true = grind (arith, nat_tests, own) in
      subst (λ (n : Link). has_come generation l.conn n ≡ true) same is)
  | inr e ↦ later generation last m l.conn more (come i m (sym (get_or-set_other table k i (Some l) None e) ∙ at))
]

pub come_given : (generation last : ℕ) (table : List (Option Link)) (k : ℕ) (l : Link) → l.generation ≡ generation
    → last < l.conn → HaveCome generation last table
    → HaveCome generation l.conn (set table k (Some l))
come_given generation last table k l own more come = elim (cases_lt k (length table)) [
  | inl within ↦ come_within generation last table k l within own more come
  | inr past ↦ subst (λ (t : List (Option Link)). HaveCome generation l.conn t) (sym (set_past table k (Some l) past))
      (λ i m at. later generation last m l.conn more (come i m at))
]

pub new_link : (generation last : ℕ) (l : Link) → l.generation ≡ generation → last < l.conn
    → has_come generation last l ≡ false
new_link generation last l own more = grind (arith, nat_tests, own, more)

pub come_renewed : (generation last : ℕ) (table : List (Option Link)) → HaveCome generation last table
    → HaveCome (generation + 1) 0 table
come_renewed generation last table come = λ i l at. (let is = come i l at in grind (arith, nat_tests, is))

-- ---- how many clients have a connection

abbrev pub one_if : Bool → ℕ
one_if b = cond b 1 0

-- the current and the earlier ones are all
pub count_all : (generation : ℕ) (table : List (Option Link))
    → count_by (is_current generation) table + count_by (is_earlier generation) table ≡ count_by is_some table
count_all generation [] = refl
count_all generation (None ∷ table) =
    let more = count_all generation table in
    let a = sum_by-cons (λ o. one_if (is_current generation o)) None table in
    let b = sum_by-cons (λ o. one_if (is_earlier generation o)) None table in
    let d = sum_by-cons (λ (o : Option Link). one_if (is_some o)) None table in
    omega (arith, more, a, b, d)
count_all generation (Some l ∷ table) =
    let more = count_all generation table in
    let a = sum_by-cons (λ o. one_if (is_current generation o)) (Some l) table in
    let b = sum_by-cons (λ o. one_if (is_earlier generation o)) (Some l) table in
    let d = sum_by-cons (λ (o : Option Link). one_if (is_some o)) (Some l) table in
    let either = both (l.generation == generation) in
    omega (arith, more, a, b, d, either)
  where
    both : (b : Bool) → one_if b + one_if (not b) ≡ 1
    both true = refl
    both false = refl

-- none has a connection of a world that is new
pub none_new : (generation last : ℕ) (table : List (Option Link)) → HaveCome generation last table
    → count_by (is_current (generation + 1)) table ≡ 0
none_new generation last [] come = refl
none_new generation last (None ∷ table) come =
    let rest = none_new generation last table (λ i l at. come (suc i) l at) in
    let a = sum_by-cons (λ o. one_if (is_current (generation + 1) o)) None table in
    omega (arith, rest, a)
none_new generation last (Some l ∷ table) come =
    let rest = none_new generation last table (λ i m at. come (suc i) m at) in
    let a = sum_by-cons (λ o. one_if (is_current (generation + 1) o)) (Some l) table in
    let is = come 0 l refl in
    let off : (l.generation == generation + 1) ≡ false = grind (arith, nat_tests, is) in
    let x : one_if (l.generation == generation + 1) ≡ 0 = ap (λ t. one_if t) off in
    omega (arith, rest, a, x)

-- so all that have one have an earlier one
pub all_earlier : (generation last : ℕ) (table : List (Option Link)) → HaveCome generation last table
    → count_by (is_earlier (generation + 1)) table ≡ count_by is_some table
all_earlier generation last table come =
    let a = count_all (generation + 1) table in let b = none_new generation last table come in omega (arith, a, b)

-- a place gets another value
pub count_set : (p : Option Link → Bool) (table : List (Option Link)) (k : ℕ) (x : Option Link) → k < length table
    → count_by p (set table k x) + one_if (p (link_at table k)) ≡ count_by p table + one_if (p x)
count_set p table k x within = sum_by-set (λ o. one_if (p o)) table k x None within

pub count_pushed : (p : Option Link → Bool) (table : List (Option Link)) → p None ≡ false
    → count_by p (table ++ None ∷ []) ≡ count_by p table
count_pushed p table none =
    let a = sum_by_push (λ o. one_if (p o)) table None in
    let x : one_if (p None) ≡ 0 = ap (λ t. one_if t) none in
    omega (arith, a, x)

-- a place gives up its connection
pub count_taken : (p : Option Link → Bool) (table : List (Option Link)) (k : ℕ) → p None ≡ false
    → count_by p (set table k None) + one_if (p (link_at table k)) ≡ count_by p table
count_taken p table k none = elim (cases_lt k (length table)) [
  | inl within ↦
      let a = count_set p table k None within in
      let x : one_if (p None) ≡ 0 = ap (λ t. one_if t) none in
      omega (arith, a, x)
  | inr past ↦
      let a : count_by p (set table k None) ≡ count_by p table = ap (λ t. count_by p t) (set_past table k None past) in
      let x : one_if (p (link_at table k)) ≡ 0 = ap (λ o. one_if (p o)) (link_past table k past)
      ∙ ap (λ t. one_if t) none in
      omega (arith, a, x)
]
  where
    link_past : (table : List (Option Link)) (k : ℕ) → length table ≤ k → link_at table k ≡ None
    link_past [] k past = refl
    link_past (o ∷ table) zero past = absurd (omega (arith, past))
    link_past (o ∷ table) (suc k) past = link_past table k (omega (arith, past))

-- a place without a connection gets one
pub count_given : (p : Option Link → Bool) (table : List (Option Link)) (k : ℕ) (l : Link) → p None ≡ false
    → k < length table → link_at table k ≡ None
    → count_by p (set table k (Some l)) ≡ count_by p table + one_if (p (Some l))
count_given p table k l none within free =
    let a = count_set p table k (Some l) within in
    let x : one_if (p (link_at table k)) ≡ 0 = ap (λ o. one_if (p o)) free ∙ ap (λ t. one_if t) none in
    omega (arith, a, x)

-- a place is added, or there is no memory for it
pub grown : {T E : Type 0} (r : Result T E) (P : List (Option Link) → Type 0) (table next : List (Option Link))
    → next ≡ (if is_ok r then table ++ None ∷ [] else table) → P table → P (table ++ None ∷ []) → P next
grown (Ok x) P table next same old new = subst P (sym same) new
grown (Err e) P table next same old new = subst P (sym same) old

pub none_of : (o : Option Link) → is_some o ≡ false → o ≡ None
none_of None empty = refl
none_of (Some l) empty = absurd (cc (empty))

-- a client gets a connection of the current world, and none an earlier one
pub given_current : (generation : ℕ) (table : List (Option Link)) (k : ℕ) (l : Link) → l.generation ≡ generation
    → k < length table → link_at table k ≡ None
    → count_by (is_current generation) (set table k (Some l)) ≡ count_by (is_current generation) table + 1
given_current generation table k l own within free =
    let a = count_given (is_current generation) table k l refl within free in
    let is : (l.generation == generation) ≡ true = grind (arith, nat_tests, own) in
    let x : one_if (l.generation == generation) ≡ 1 = ap (λ t. one_if t) is in
    omega (arith, a, x)

pub given_earlier : (generation : ℕ) (table : List (Option Link)) (k : ℕ) (l : Link) → l.generation ≡ generation
    → k < length table → link_at table k ≡ None
    → count_by (is_earlier generation) (set table k (Some l)) ≡ count_by (is_earlier generation) table
given_earlier generation table k l own within free =
    let a = count_given (is_earlier generation) table k l refl within free in
    let is : (l.generation == generation) ≡ true = grind (arith, nat_tests, own) in
    let x : one_if (not (l.generation == generation)) ≡ 0 = ap (λ t. one_if (not t)) is in
    omega (arith, a, x)

-- a connection that is left was there before
taken_at : (table : List (Option Link)) (k i : ℕ) (l : Link) → k < length table
    → link_at (set table k None) i ≡ Some l → link_at table i ≡ Some l
taken_at table k i l within at = elim (cases_eq i k) [
  | inl e ↦ absurd (none_some l (link_at (set table k None) i) (ap (λ n. link_at (set table k None) n) e
      ∙ get_or-set_same table k None None within) at)
  | inr e ↦ sym (get_or-set_other table k i None None e) ∙ at
]

pub apart_taken : (table : List (Option Link)) (k : ℕ) → k < length table → AreApart table
    → AreApart (set table k None)
apart_taken table k within apart =
    λ i j l at other. apart i j l (taken_at table k i l within at) (taken_at table k j l within other)

pub come_taken : (generation last : ℕ) (table : List (Option Link)) (k : ℕ) → k < length table
    → HaveCome generation last table → HaveCome generation last (set table k None)
come_taken generation last table k within come = λ i l at. come i l (taken_at table k i l within at)
