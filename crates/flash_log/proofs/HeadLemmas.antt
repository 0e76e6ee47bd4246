-- Lines and numbers of heads.
use Rattle.std.proofs.Common.{◌≡◌, ◌≢◌, ◌∙◌, ◌++◌, ◌+◌, ◌-◌, ◌*◌, ◌^◌, ◌<◌, ◌≤◌, ◌&&◌, ℕ, Bool, List, Some, None}
use Rattle.std.proofs.Common.{codes, find, get_or, length, nat_lt, suc, sym, take, true, false, arith, refl}
use Rattle.std.proofs.Common.{if◌then◌else◌, ap, subst}
use Rattle.std.proofs.lemmas.Bool.Decides.{nat_tests, same_from_decides}
use Rattle.std.proofs.lemmas.Int.Digits.{digits_value_more}
use Rattle.std.proofs.lemmas.List.{append_cancel_right, take_all}
use Rattle.std.proofs.lemmas.List.Folds.{list_all_at, list_all_more}
use Rattle.std.proofs.lemmas.Slice.Eq.{bytes_eq-Decides}
use Rattle.std.proofs.lemmas.Str.Parse.{digits_value-take-le}
use Rattle.std.specs.Char.{digit_value, is_ascii_digit}
use Rattle.std.specs.List.{list_all, range_with_len}
use Rattle.std.specs.Str.{bytes_eq}
use Rattle.std.specs.Str.Parse.{digits_value}
use Rattle.flash_log.specs.Head.{number_in}

pub is_this_line : (line text wanted : List ℕ) (r : Bool) → line ≡ text ++ codes "\r" → r ≡ bytes_eq text wanted
    → r ≡ bytes_eq line (wanted ++ codes "\r")
is_this_line line text wanted r is e =
    let same = bytes_eq-Decides text wanted in
    same_from_decides {P = line ≡ wanted ++ codes "\r"} r (bytes_eq line (wanted ++ codes "\r")) (
      (λ h. is ∙ ap (λ (t : List ℕ). t ++ codes "\r") (same.0 (sym e ∙ h))),
      (λ h. e ∙ same.1 (append_cancel_right text wanted (codes "\r") (sym is ∙ h))),
    )
    (bytes_eq-Decides line (wanted ++ codes "\r"))

pub is_no_line : (line wanted : List ℕ) → ((front : List ℕ) → line ≢ front ++ codes "\r")
    → false ≡ bytes_eq line (wanted ++ codes "\r")
is_no_line line wanted other =
    same_from_decides {P = line ≡ wanted ++ codes "\r"} false (bytes_eq line (wanted ++ codes "\r"))
    ((λ h. grind arith), (λ h. absurd (other wanted h)))
    (bytes_eq-Decides line (wanted ++ codes "\r"))

later : (test : ℕ → Bool) (a k : ℕ) → test a ≡ false
    → find test (range_with_len a (suc k)) ≡ find test (range_with_len (a + 1) k)
later test a k fails = rw fails refl

-- a search in rising numbers continues after one that does not pass
pub find_later : (test : ℕ → Bool) (a n : ℕ) → a < n → test a ≡ false
    → find test (range_with_len a (n - a)) ≡ find test (range_with_len (a + 1) (n - (a + 1)))
find_later test a n below fails =
    let e : n - a ≡ suc (n - (a + 1)) = omega (arith, below) in
    subst (λ (k : ℕ). find test (range_with_len a k) ≡ find test (range_with_len (a + 1) (n - (a + 1))))
    (sym e) (later test a (n - (a + 1)) fails)

pub no_number : (ds : List ℕ) (i : ℕ) → i < length ds → is_ascii_digit (get_or ds i 0) ≡ false → None ≡ number_in ds
no_number ds i below is = rw (list_all_at is_ascii_digit ds i 0 below is) refl

pub value_of_digit : (c : ℕ) → is_ascii_digit c ≡ true → digit_value c ≡ c - 48
value_of_digit c is = grind (arith, nat_tests)

without : (b : Bool) (v : ℕ) → 2 ^ 64 ≤ v → None ≡ (if b && nat_lt v (2 ^ 64) then Some v else None)
without true v large = let e : nat_lt v (2 ^ 64) ≡ false = grind (arith, nat_tests) in rw e refl
without false v large = refl

-- one more digit
pub more : (ds : List ℕ) (i n : ℕ) → i < length ds → is_ascii_digit (get_or ds i 0) ≡ true
    → n ≡ digits_value 10 (take i ds) → n * 10 + (get_or ds i 0 - 48) ≡ digits_value 10 (take (i + 1) ds)
more ds i n below is e =
    let m = digits_value_more 10 ds i below in
    let d = value_of_digit (get_or ds i 0) is in
    omega (arith, m, d, e)

pub too_large : (ds : List ℕ) (i n : ℕ) → i < length ds → is_ascii_digit (get_or ds i 0) ≡ true
    → n ≡ digits_value 10 (take i ds) → 2 ^ 64 ≤ n * 10 + (get_or ds i 0 - 48) → None ≡ number_in ds
too_large ds i n below is e large =
    let m = more ds i n below is e in
    let most = digits_value-take-le 10 ds (i + 1) (omega arith) in
    without (list_all is_ascii_digit ds) (digits_value 10 ds) (omega (arith, m, most, large))

pub all_digits : (ds : List ℕ) (i : ℕ) → i < length ds → is_ascii_digit (get_or ds i 0) ≡ true
    → list_all is_ascii_digit (take i ds) ≡ true → list_all is_ascii_digit (take (i + 1) ds) ≡ true
all_digits ds i below is all = list_all_more is_ascii_digit ds i 0 below ∙ rw (all, is) refl

pub whole : (ds : List ℕ) (i n : ℕ) → length ds ≤ i → n < 2 ^ 64 → list_all is_ascii_digit (take i ds) ≡ true
    → n ≡ digits_value 10 (take i ds) → Some n ≡ number_in ds
whole ds i n past small all e =
    let same : take i ds ≡ ds = take_all i ds past in
    let digits : list_all is_ascii_digit ds ≡ true = subst (λ (xs : List ℕ). list_all is_ascii_digit xs ≡ true) same
    all in
    let value : n ≡ digits_value 10 ds = subst (λ (xs : List ℕ). n ≡ digits_value 10 xs) same e in
    let below : nat_lt (digits_value 10 ds) (2 ^ 64) ≡ true = rw (← value) (grind (arith, nat_tests)) in
    rw (digits, below) (ap (λ (k : ℕ). Some k) value)
