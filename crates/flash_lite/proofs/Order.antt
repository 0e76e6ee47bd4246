-- The indices of the clients that may take a turn.
use Rattle.std.proofs.Common.{◌≡◌, ℕ, zero, suc, ◌+◌, ◌-◌, ◌<◌, ◌≤◌, List, [], ◌∷◌, ◌++◌, length, get_or, drop, ap, ◌∙◌}
use Rattle.std.proofs.Common.{refl, sym, subst, arith, zero-add, IfSome, length-append, Bool, true, false, cond, Option}
use Rattle.std.proofs.Common.{Some, None}
use Rattle.std.specs.Prelude.{filter, find, nat_lt, nat_le, if◌then◌else◌, AllPairs, slice_set, position, option_map}
use Rattle.std.specs.Prelude.{replicate, is_some}
use Rattle.std.specs.List.Sorted.{IsStrictlyIncreasing}
use Rattle.std.proofs.lemmas.Bool.Decides.{nat_tests}
use Rattle.std.proofs.lemmas.List.{get_or-set_same, length-replicate, length-set}
use Rattle.std.proofs.lemmas.List.Elements.{filter_agree}
use Rattle.iol_core.specs.NumberedLists.{in_place, taken}
use Rattle.flash_laws.specs.Client.{Client}
use Rattle.flash_laws.specs.Serves.Rounds.{goes_in, next_in}
use Rattle.flash_laws.specs.Site.OtherConns.{grown, with_at}
use Rattle.flash_lite.specs.Order.{CanNote, goers, marked, places_from}
use Rattle.flash_lite.proofs.Marks.{all_fail, all_pass}
use Rattle.flash_lite.proofs.Fewer.{taken_few}
use Rattle.flash_lite.proofs.Calls.FileCalls.{position-here, position-past}
use Rattle.flash_lite.proofs.Places.{found_in, within}

-- ---- the indices of the elements that pass a test

module _ {A : Type 0} (p : A → Bool) where
  is_past : (at : ℕ) (xs : List A) (g : ℕ) → g < at → (k d : ℕ) → k < length (places_from p at xs)
      → g < get_or (places_from p at xs) k d
  is_past at [] g lt = λ k d within. absurd (omega (arith, within))
  is_past at (x ∷ xs) g lt = by (is_past (at + 1) xs g (omega (arith, lt))) (p x)
    where
      by : ((k d : ℕ) → k < length (places_from p (at + 1) xs) → g < get_or (places_from p (at + 1) xs) k d)
          → (b : Bool) (k d : ℕ) → k < length (cond b (at ∷ places_from p (at + 1) xs) (places_from p (at + 1) xs))
          → g < get_or (cond b (at ∷ places_from p (at + 1) xs) (places_from p (at + 1) xs)) k d
      by rest true zero d within = lt
      by rest true (suc k) d within = rest k d (omega (arith, within))
      by rest false k d within = rest k d within

  up : (at : ℕ) (xs : List A) → AllPairs (λ a b. a < b) (places_from p at xs)
  up at [] = λ i j d lt within. absurd (omega (arith, within))
  up at (x ∷ xs) = by (up (at + 1) xs) (p x)
    where
      by : AllPairs (λ a b. a < b) (places_from p (at + 1) xs) → (b : Bool)
          → AllPairs (λ a b. a < b) (cond b (at ∷ places_from p (at + 1) xs) (places_from p (at + 1) xs))
      by rest true zero zero d lt within = absurd (omega (arith, lt))
      by rest true zero (suc j) d lt within = is_past (at + 1) xs at (omega arith) j d (omega (arith, within))
      by rest true (suc i) zero d lt within = absurd (omega (arith, lt))
      by rest true (suc i) (suc j) d lt within = rest i j d (omega (arith, lt)) (omega (arith, within))
      by rest false i j d lt within = rest i j d lt within

  pub places_ascend : (at : ℕ) (xs : List A) → IsStrictlyIncreasing (places_from p at xs)
  places_ascend at xs k within = up at xs k (k + 1) 0 (omega arith) within

  -- the index before all others is inserted at the front
  all_above : (at : ℕ) (xs : List A) → marked (places_from p (at + 1) xs) at true ≡ at ∷ places_from p (at + 1) xs
  all_above at xs =
      let l : List ℕ = places_from p (at + 1) xs in
      let low : filter (λ k. nat_lt k at) l ≡ [] =
      all_fail (λ k. nat_lt k at) l (λ k d lt. let a : at < get_or l k d =
      is_past (at + 1) xs at (omega arith) k d lt in grind (arith, nat_tests, a)) in
      let high : filter (λ k. nat_lt at k) l ≡ l =
      all_pass (λ k. nat_lt at k) l (λ k d lt. let a : at < get_or l k d =
      is_past (at + 1) xs at (omega arith) k d lt in grind (arith, nat_tests, a)) in
      ap (λ m. m ++ at ∷ filter (λ k. nat_lt at k) l) low ∙ ap (λ m. at ∷ m) high

  none_above : (at : ℕ) (xs : List A) → marked (places_from p (at + 1) xs) at false ≡ places_from p (at + 1) xs
  none_above at xs =
      let l : List ℕ = places_from p (at + 1) xs in
      let low : filter (λ k. nat_lt k at) l ≡ [] =
      all_fail (λ k. nat_lt k at) l (λ k d lt. let a : at < get_or l k d =
      is_past (at + 1) xs at (omega arith) k d lt in grind (arith, nat_tests, a)) in
      let high : filter (λ k. nat_lt at k) l ≡ l =
      all_pass (λ k. nat_lt at k) l (λ k d lt. let a : at < get_or l k d =
      is_past (at + 1) xs at (omega arith) k d lt in grind (arith, nat_tests, a)) in
      ap (λ m. m ++ filter (λ k. nat_lt at k) l) low ∙ high

  -- the result does not depend on whether the list begins with the marked index
  unmarked : (at : ℕ) (ks : List ℕ) (there : Bool) → marked (at ∷ ks) at there ≡ marked ks at there
  unmarked at ks there =
      let low : nat_lt at at ≡ false = grind (arith, nat_tests) in
      ap (λ b. cond b (at ∷ filter (λ k. nat_lt k at) ks) (filter (λ k. nat_lt k at) ks)
      ++ ((if there then at ∷ [] else []) ++ cond b (at ∷ filter (λ k. nat_lt at k) ks)
      (filter (λ k. nat_lt at k) ks))) low

  -- an index below stays
  marked_past : (k : ℕ) (ks : List ℕ) (place : ℕ) (there : Bool) → k < place
      → marked (k ∷ ks) place there ≡ k ∷ marked ks place there
  marked_past k ks place there lt =
      let low : nat_lt k place ≡ true = grind (arith, nat_tests) in
      let high : nat_lt place k ≡ false = grind (arith, nat_tests) in
      ap (λ b. cond b (k ∷ filter (λ j. nat_lt j place) ks) (filter (λ j. nat_lt j place) ks)
      ++ ((if there then place ∷ [] else []) ++ filter (λ j. nat_lt place j) (k ∷ ks))) low
      ∙ ap
      (λ b. k
      ∷ (filter (λ j. nat_lt j place) ks
      ++ ((if there then place ∷ [] else []) ++ cond b (k ∷ filter (λ j. nat_lt place j) ks)
      (filter (λ j. nat_lt place j) ks)))) high

  -- the first index is inserted if marked
  marked_above : (at : ℕ) (xs : List A) (b : Bool)
      → marked (places_from p (at + 1) xs) at b ≡ cond b (at ∷ places_from p (at + 1) xs) (places_from p (at + 1) xs)
  marked_above at xs true = all_above at xs
  marked_above at xs false = none_above at xs

  marked_first : (at : ℕ) (xs : List A) (b a : Bool)
      → marked (cond a (at ∷ places_from p (at + 1) xs) (places_from p (at + 1) xs)) at b
      ≡ cond b (at ∷ places_from p (at + 1) xs) (places_from p (at + 1) xs)
  marked_first at xs b true = unmarked at (places_from p (at + 1) xs) b ∙ marked_above at xs b
  marked_first at xs b false = marked_above at xs b

  marked_later : (at i : ℕ) (xs ys : List A) (b : Bool)
      → marked (places_from p (at + 1) xs) ((at + 1) + i) b ≡ places_from p (at + 1) ys → (a : Bool)
      → marked (cond a (at ∷ places_from p (at + 1) xs) (places_from p (at + 1) xs)) ((at + 1) + i) b
      ≡ cond a (at ∷ places_from p (at + 1) ys) (places_from p (at + 1) ys)
  marked_later at i xs ys b rest true = marked_past at (places_from p (at + 1) xs) ((at + 1) + i) b (omega arith)
      ∙ ap (λ l. at ∷ l) rest
  marked_later at i xs ys b rest false = rest

  pub marked_set : (at i : ℕ) (xs : List A) (y : A) → i < length xs
      → marked (places_from p at xs) (at + i) (p y) ≡ places_from p at (slice_set xs i y)
  marked_set at i [] y lt = absurd (omega (arith, lt))
  marked_set at zero (x ∷ xs) y lt =
      let none : at + 0 ≡ at = omega arith in
      ap (λ n. marked (places_from p at (x ∷ xs)) n (p y)) none ∙ marked_first at xs (p y) (p x)
  marked_set at (suc i) (x ∷ xs) y lt =
      let next : at + suc i ≡ (at + 1) + i = omega arith in
      ap (λ n. marked (places_from p at (x ∷ xs)) n (p y)) next
      ∙ marked_later at i xs (slice_set xs i y) (p y) (marked_set (at + 1) i xs y (omega (arith, lt))) (p x)

  -- marking an index as it is already marked changes nothing; indices after the end fail
  pub marked_same : (at i : ℕ) (xs : List A) (z : A) → p z ≡ false
      → marked (places_from p at xs) (at + i) (p (get_or xs i z)) ≡ places_from p at xs
  marked_same at i [] z fails = ap (λ b. marked [] (at + i) b) fails
  marked_same at zero (x ∷ xs) z fails =
      let none : at + 0 ≡ at = omega arith in
      ap (λ n. marked (places_from p at (x ∷ xs)) n (p x)) none ∙ marked_first at xs (p x) (p x)
  marked_same at (suc i) (x ∷ xs) z fails =
      let next : at + suc i ≡ (at + 1) + i = omega arith in
      ap (λ n. marked (places_from p at (x ∷ xs)) n (p (get_or xs i z))) next
      ∙ marked_later at i xs xs (p (get_or xs i z)) (marked_same (at + 1) i xs z fails) (p x)

  -- the first index that is at least g
  first_found : (at g : ℕ) (xs : List A) → g ≤ at
      → find (λ k. nat_le g k) (places_from p at xs) ≡ option_map (λ k. at + k) (position p xs)
  first_found at g [] le = refl
  first_found at g (x ∷ xs) le = by (first_found (at + 1) g xs (omega (arith, le))) (p x) refl
    where
      shifted : (o : Option ℕ) → option_map (λ k. (at + 1) + k) o ≡ option_map (λ k. at + k) (option_map (λ k. k + 1) o)
      shifted None = refl
      shifted (Some k) = ap (λ n. Some n) (let e : (at + 1) + k ≡ at + (k + 1) = omega arith in e)

      by : find (λ k. nat_le g k) (places_from p (at + 1) xs) ≡ option_map (λ k. (at + 1) + k) (position p xs)
          → (b : Bool) → p x ≡ b
          → find (λ k. nat_le g k) (cond b (at ∷ places_from p (at + 1) xs) (places_from p (at + 1) xs))
          ≡ option_map (λ k. at + k) (position p (x ∷ xs))
      by rest true is =
          ap (λ b. cond b (Some at) (find (λ k. nat_le g k) (places_from p (at + 1) xs))) (let t : nat_le g at ≡ true =
          grind (arith, nat_tests, le) in t)
          ∙ (ap (λ n. Some n) (let e : at ≡ at + 0 = omega arith in e)
          ∙ ap (λ (o : Option ℕ). option_map (λ k. at + k) o) (sym (position-here p x xs is)))
      by rest false is =
          rest
          ∙ (shifted (position p xs)
          ∙ ap (λ (o : Option ℕ). option_map (λ k. at + k) o) (sym (position-past p x xs is)))

  pub first_from : (at f : ℕ) (xs : List A)
      → find (λ k. nat_le (at + f) k) (places_from p at xs) ≡ option_map (λ k. (at + f) + k) (position p (drop f xs))
  first_from at f [] = ap (λ (l : List A). option_map (λ k. (at + f) + k) (position p l)) (sym (drop_none f))
    where
      drop_none : (n : ℕ) → drop {A = A} n [] ≡ []
      drop_none zero = refl
      drop_none (suc n) = refl
  first_from at zero (x ∷ xs) =
      let none : at + 0 ≡ at = omega arith in
      first_found at (at + 0) (x ∷ xs) (omega arith)
      ∙ ap (λ n. option_map (λ k. n + k) (position p (x ∷ xs))) (sym none)
  first_from at (suc f) (x ∷ xs) =
      let next : at + suc f ≡ (at + 1) + f = omega arith in
      by
      (subst (λ n. find (λ k. nat_le n k) (places_from p (at + 1) xs)
      ≡ option_map (λ k. n + k) (position p (drop f xs))) (sym next) (first_from (at + 1) f xs)) (p x)
    where
      by : find (λ k. nat_le (at + suc f) k) (places_from p (at + 1) xs) ≡ option_map (λ k. (at + suc f) + k)
          (position p (drop f xs)) → (b : Bool)
          → find (λ k. nat_le (at + suc f) k) (cond b (at ∷ places_from p (at + 1) xs) (places_from p (at + 1) xs))
          ≡ option_map (λ k. (at + suc f) + k) (position p (drop f xs))
      by rest true = ap (λ b. cond b (Some at) (find (λ k. nat_le (at + suc f) k) (places_from p (at + 1) xs)))
          (let t : nat_le (at + suc f) at ≡ false = grind (arith, nat_tests) in t) ∙ rest
      by rest false = rest

  -- appended elements that fail add no index
  pub places_more : (at : ℕ) (xs : List A) (n : ℕ) (z : A) → p z ≡ false
      → places_from p at (xs ++ replicate n z) ≡ places_from p at xs
  places_more at [] zero z fails = refl
  places_more at [] (suc n) z fails =
      ap (λ b. cond b (at ∷ places_from p (at + 1) (replicate n z)) (places_from p (at + 1) (replicate n z))) fails
      ∙ places_more (at + 1) [] n z fails
  places_more at (x ∷ xs) n z fails = ap (λ l. cond (p x) (at ∷ l) l) (places_more (at + 1) xs n z fails)

-- if all elements that pass one test pass another, at most as many pass the first
pub fewer_places : {A : Type 0} (p q : A → Bool) (at bt : ℕ) (xs : List A) → ((x : A) → p x ≡ true → q x ≡ true)
    → length (places_from p at xs) ≤ length (places_from q bt xs)
fewer_places p q at bt [] all = omega arith
fewer_places p q at bt (x ∷ xs) all = by (fewer_places p q (at + 1) (bt + 1) xs all) (p x) (q x) refl refl
  where
    by : length (places_from p (at + 1) xs) ≤ length (places_from q (bt + 1) xs) → (a b : Bool) → p x ≡ a → q x ≡ b
        → length (cond a (at ∷ places_from p (at + 1) xs) (places_from p (at + 1) xs))
        ≤ length (cond b (bt ∷ places_from q (bt + 1) xs) (places_from q (bt + 1) xs))
    by rest true true is it = omega (arith, rest)
    by rest true false is it = let yes : q x ≡ true = all x is in absurd (cc)
    by rest false true is it = omega (arith, rest)
    by rest false false is it = rest

pub as_many : {A : Type 0} (p : A → Bool) (at : ℕ) (xs : List A) → length (places_from p at xs) ≡ length (filter p xs)
as_many p at [] = refl
as_many p at (x ∷ xs) = by (as_many p (at + 1) xs) (p x)
  where
    by : length (places_from p (at + 1) xs) ≡ length (filter p xs) → (b : Bool)
        → length (cond b (at ∷ places_from p (at + 1) xs) (places_from p (at + 1) xs))
        ≡ length (cond b (x ∷ filter p xs) (filter p xs))
    by rest true = ap suc rest
    by rest false = rest

-- ---- the clients

here : (o : Option Client) → goes_in true o ≡ is_some o
here None = refl
here (Some x) = refl

goes_too : (free : Bool) (o : Option Client) → goes_in free o ≡ true → goes_in true o ≡ true
goes_too free None goes = goes
goes_too free (Some x) goes = refl

pub as_held : (clients : List (Option Client)) → length (goers true clients) ≡ taken clients
as_held clients = as_many (λ o. goes_in true o) 0 clients
    ∙ ap (λ (l : List (Option Client)). length l) (filter_agree (λ o. goes_in true o) is_some here clients)

few_go : (free : Bool) (clients : List (Option Client)) → length (goers free clients) ≤ length clients
few_go free clients =
    let a = fewer_places (λ o. goes_in free o) (λ o. goes_in true o) 0 0 clients (goes_too free) in
    let b = as_held clients in
    let few = taken_few clients in omega (arith, a, b, few)

pub ascend : (free : Bool) (clients : List (Option Client)) (l : List ℕ) → l ≡ goers free clients
    → IsStrictlyIncreasing l
ascend free clients l is =
    subst (λ (m : List ℕ). IsStrictlyIncreasing m) (sym is) (places_ascend (λ o. goes_in free o) 0 clients)

pub next_is : (free : Bool) (clients : List (Option Client)) (l : List ℕ) (from : ℕ) → l ≡ goers free clients
    → find (λ k. nat_le from k) l ≡ next_in free clients from
next_is free clients l from is =
    ap (λ (m : List ℕ). find (λ k. nat_le from k) m) is
    ∙ subst (λ n. find (λ k. nat_le n k) (goers free clients)
    ≡ option_map (λ k. n + k) (position (λ o. goes_in free o) (drop from clients))) (zero-add from)
    (first_from (λ o. goes_in free o) 0 from clients)

there-within : (free : Bool) (clients : List (Option Client)) (place : ℕ) (o : Option Client)
    → in_place clients place ≡ o → goes_in free o ≡ true → place < length clients
there-within free clients place None is goes = absurd (cc (goes))
there-within free clients place (Some x) is goes = within clients place x is

pub next_within : (free : Bool) (clients : List (Option Client)) (from place : ℕ)
    → next_in free clients from ≡ Some place → place < length clients
next_within free clients from place is =
    there-within free clients place (in_place clients place) refl (found_in free clients from place is).1

-- ---- one of them changes

-- the clients `now` are those before with one place set, to a client or to none; added places have no client
pub record Changes (was now : List (Option Client)) (place : ℕ) : Type 0 where
  pub from : List (Option Client)
  pub same : (free : Bool) → goers free from ≡ goers free was
  pub within : place < length from
  pub o : Option Client
  pub now_is : now ≡ slice_set from place o

pub is_set : (was now : List (Option Client)) (place : ℕ) (o : Option Client) → place < length was
    → now ≡ slice_set was place o → Changes was now place
is_set was now place o lt is = record { from = was; same = λ free. refl; within = lt; o = o; now_is = is }

pub is_added : (was now : List (Option Client)) (place : ℕ) (o : Option Client) → now ≡ with_at was place o
    → Changes was now place
is_added was now place o is = record {
  from = grown was place;
  same = λ free. places_more (λ z. goes_in free z) 0 was (place + 1 - length was) None refl;
  within = let none : Option Client = None in let a = length-append was (replicate (place + 1 - length was) none) in
      let b = length-replicate (place + 1 - length was) none in omega (arith, a, b);
  o = o;
  now_is = is;
}

noted_same : (free : Bool) (clients : List (Option Client)) (l : List ℕ) (place : ℕ) → l ≡ goers free clients
    → marked l place (goes_in free (in_place clients place)) ≡ l
noted_same free clients l place is =
    let none : Option Client = None in
    let same : marked (goers free clients) place (goes_in free (in_place clients place)) ≡ goers free clients =
    subst (λ n. marked (goers free clients) n (goes_in free (in_place clients place)) ≡ goers free clients)
    (zero-add place) (marked_same (λ o. goes_in free o) 0 place clients none refl) in
    subst (λ (m : List ℕ). marked m place (goes_in free (in_place clients place)) ≡ m) (sym is) same

module _ {was now : List (Option Client)} {place : ℕ} where
  noted : Changes was now place → (free : Bool) (l : List ℕ) → l ≡ goers free was
      → marked l place (goes_in free (in_place now place)) ≡ goers free now
  noted w free l is =
      let none : Option Client = None in
      let at : in_place now place ≡ w.o = ap (λ (m : List (Option Client)). in_place m place) w.now_is
      ∙ get_or-set_same w.from place w.o none w.within in
      let set : marked (goers free w.from) place (goes_in free w.o) ≡ goers free (slice_set w.from place w.o) =
      subst (λ n. marked (goers free w.from) n (goes_in free w.o) ≡ goers free (slice_set w.from place w.o))
      (zero-add place) (marked_set (λ o. goes_in free o) 0 place w.from w.o w.within) in
      ap (λ (m : List ℕ). marked m place (goes_in free (in_place now place))) (is ∙ sym (w.same free))
      ∙ (ap (λ (o : Option Client). marked (goers free w.from) place (goes_in free o)) at
      ∙ (set ∙ ap (λ (m : List (Option Client)). goers free m) (sym w.now_is)))

  -- the value seen at a place may be noted
  pub can_note : Changes was now place → (free : Bool) (l : List ℕ) (room : ℕ) (seen : List (Option Client)) (b : Bool)
      → l ≡ goers free was → length now ≤ room → seen ≡ was
      → b ≡ goes_in free (in_place seen place) → CanNote free now l place b room
  can_note w free l room seen b is fits seen_is b_is = record {
    can = record {
      ascends = ascend free was l is;
      stands =
          ap (λ c. marked l place c) (b_is ∙ ap (λ (m : List (Option Client)). goes_in free (in_place m place)) seen_is)
          ∙ noted_same free was l place is;
      fits = let a = ap (λ (m : List ℕ). length m) (noted w free l is) in let few = few_go free now in
          omega (arith, a, few, fits);
    };
    noted = noted w free l is;
  }

pub long_added : (was now : List (Option Client)) (place : ℕ) (o : Option Client) (room : ℕ) → now ≡ with_at was place o
    → length was ≤ room → place + 1 ≤ room → length now ≤ room
long_added was now place o room is fits here =
    let none : Option Client = None in
    let a = length-append was (replicate (place + 1 - length was) none) in
    let b = length-replicate (place + 1 - length was) none in
    let c = length-set (grown was place) place o in
    let d = ap (λ (l : List (Option Client)). length l) is in
    omega (arith, a, b, c, d, fits, here)

pub next_some : (free : Bool) (clients : List (Option Client)) (from : ℕ) (o : Option ℕ) → o ≡ next_in free clients from
    → IfSome o (λ place. place < length clients)
next_some free clients from None is = tt
next_some free clients from (Some place) is = next_within free clients from place (sym is)
