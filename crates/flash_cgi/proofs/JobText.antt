-- Parsing the text of a job gives that job.
use Rattle.std.proofs.Common.{◌≡◌, ℕ, suc, ◌+◌, ◌^◌, ◌<◌, ◌≤◌, Bool, true, false, cond, List, [], ◌∷◌, ◌++◌, length}
use Rattle.std.proofs.Common.{take, drop, Some, None, refl, ap, ◌∙◌, arith, append_assoc, length-append}
use Rattle.std.specs.Prelude.{not, nat_lt, ◌==◌}
use Rattle.std.specs.List.{position, position_or_len}
use Rattle.std.specs.Char.{is_ascii_digit}
use Rattle.std.specs.Fmt.{decimal}
use Rattle.std.proofs.lemmas.Bool.Decides.{nat_tests}
use Rattle.std.proofs.lemmas.Grind.{common_steps}
use Rattle.std.proofs.lemmas.Fmt.{digits_decimal, digits_value-decimal, length-decimal-le, decimal_nonempty}
use Rattle.flash_cgi.specs.Job.{job_text, number, numbered, cut_at, number_before, task_of, job_sized, job_asked}
use Rattle.flash_cgi.specs.Job.{job_begun, job_of}
use Rattle.flash_cgi.specs.Script.{script_of}
use Rattle.flash_cgi.proofs.Digits.{AreDigits, own, number_of_digits}

number-decimal : (n : ℕ) → n < 10 ^ 9 → number (decimal n) ≡ Some n
number-decimal n small =
    number_of_digits (decimal n) (digits_decimal own n (omega arith)) (decimal_nonempty n (omega arith))
    (length-decimal-le 9 n (omega arith) small (omega arith))
    ∙ ap (λ k. Some k) (digits_value-decimal own n (omega arith))

-- the first byte that passes is the one after the digits, since no digit passes
runs_to : (p : ℕ → Bool) (ds rest : List ℕ) (y : ℕ) → AreDigits ds → ((d : ℕ) → is_ascii_digit d ≡ true → p d ≡ false)
    → p y ≡ true → position_or_len p (ds ++ y ∷ rest) ≡ length ds
runs_to p [] rest y digits none yes_y = ap (λ t. cond (not t) (1 + position_or_len p rest) 0) yes_y
runs_to p (d ∷ ds) rest y digits none yes_y =
    let here : is_ascii_digit d ≡ true = grind (arith, nat_tests, common_steps, digits) in
    let later : AreDigits ds = grind (arith, nat_tests, common_steps, digits) in
    ap (λ t. cond (not t) (1 + position_or_len p (ds ++ y ∷ rest)) 0) (none d here)
    ∙ (let e = runs_to p ds rest y later none yes_y in omega arith)

place : (p : ℕ → Bool) (ds rest : List ℕ) (y : ℕ) → AreDigits ds → ((d : ℕ) → is_ascii_digit d ≡ true → p d ≡ false)
    → p y ≡ true → position p (ds ++ y ∷ rest) ≡ Some (length ds)
place p ds rest y digits none yes_y =
    let e = runs_to p ds rest y digits none yes_y in
    let l = length-append ds (y ∷ rest) in
    let within : nat_lt (length ds) (length (ds ++ y ∷ rest)) ≡ true = grind (arith, nat_tests, l) in
    ap (λ k. cond (nat_lt k (length (ds ++ y ∷ rest))) (Some k) None) e
    ∙ ap (λ t. cond t (Some (length ds)) None) within

after : (ds rest : List ℕ) (y : ℕ) → drop (length ds + 1) (ds ++ y ∷ rest) ≡ rest
after [] rest y = refl
after (d ∷ ds) rest y = let e : suc (length ds) + 1 ≡ suc (length ds + 1) = omega arith in
    ap (λ k. drop k (d ∷ (ds ++ y ∷ rest))) e ∙ after ds rest y

front : (ds rest : List ℕ) → take (length ds) (ds ++ rest) ≡ ds
front [] rest = refl
front (d ∷ ds) rest = ap (λ l. d ∷ l) (front ds rest)

back : (ds rest : List ℕ) → drop (length ds) (ds ++ rest) ≡ rest
back [] rest = refl
back (d ∷ ds) rest = back ds rest

read_before : (n stop : ℕ) (rest : List ℕ) → n < 10 ^ 9 → ((d : ℕ) → is_ascii_digit d ≡ true → (d == stop) ≡ false)
    → (stop == stop) ≡ true → number_before stop (decimal n ++ stop ∷ rest) ≡ Some (n, rest)
read_before n stop rest small none self =
    ap (λ o. cut_at (decimal n ++ stop ∷ rest) o)
    (place (λ b. b == stop) (decimal n) rest stop (digits_decimal own n (omega arith)) none self)
    ∙ (ap (λ l. numbered (number l) (drop (length (decimal n) + 1) (decimal n ++ stop ∷ rest)))
    (front (decimal n) (stop ∷ rest))
    ∙ (ap (λ o. numbered o (drop (length (decimal n) + 1) (decimal n ++ stop ∷ rest))) (number-decimal n small)
    ∙ ap (λ (l : List ℕ). Some (n, l)) (after (decimal n) rest stop)))

no_space : (d : ℕ) → is_ascii_digit d ≡ true → (d == 32) ≡ false
no_space d h = grind (arith, nat_tests)

no_feed : (d : ℕ) → is_ascii_digit d ≡ true → (d == 10) ≡ false
no_feed d h = grind (arith, nat_tests)

regroup : (a b c q s : List ℕ) → a ++ 32 ∷ b ++ 32 ∷ c ++ 10 ∷ q ++ s ≡ a ++ 32 ∷ (b ++ 32 ∷ (c ++ 10 ∷ (q ++ s)))
regroup a b c q s = simp append_assoc

sized : (q s : List ℕ) → (length q + length s == length (q ++ s)) ≡ true
sized q s = let l = length-append q s in grind (arith, nat_tests, l)

pub job_is_read : (fd : ℕ) (q s : List ℕ) → fd < 10 ^ 9 → length q < 10 ^ 9 → length s < 10 ^ 9
    → job_of (job_text fd q s) ≡ task_of fd q (script_of s)
job_is_read fd q s f g h =
    let body : List ℕ = q ++ s in
    let third : List ℕ = decimal (length s) ++ 10 ∷ body in
    let second : List ℕ = decimal (length q) ++ 32 ∷ third in
    ap job_of (regroup (decimal fd) (decimal (length q)) (decimal (length s)) q s)
    ∙ (ap job_begun (read_before fd 32 second f no_space refl)
    ∙ (ap (λ o. job_asked fd o) (read_before (length q) 32 third g no_space refl)
    ∙ (ap (λ o. job_sized fd (length q) o) (read_before (length s) 10 body h no_feed refl)
    ∙ (ap (λ t. cond t (task_of fd (take (length q) body) (script_of (drop (length q) body))) None) (sized q s)
    ∙ (ap (λ l. task_of fd l (script_of (drop (length q) body))) (front q s)
    ∙ ap (λ l. task_of fd q (script_of l)) (back q s))))))

-- its length: the three numbers, one byte after each, and the two texts
pub length-job_text : (fd : ℕ) (q s : List ℕ)
    → length (job_text fd q s) ≡ length (decimal fd) + length (decimal (length q)) + length (decimal (length s))
    + length q + length s + 3
length-job_text fd q s =
    let body : List ℕ = q ++ s in
    let third : List ℕ = decimal (length s) ++ 10 ∷ body in
    let second : List ℕ = decimal (length q) ++ 32 ∷ third in
    let whole = ap (λ (l : List ℕ). length l) (regroup (decimal fd) (decimal (length q)) (decimal (length s)) q s) in
    let one = length-append (decimal fd) (32 ∷ second) in
    let two = length-append (decimal (length q)) (32 ∷ third) in
    let three = length-append (decimal (length s)) (10 ∷ body) in
    let four = length-append q s in
    omega (arith, whole, one, two, three, four)

-- a job whose text is short has a short query and a short script
pub job_is_short : (fd : ℕ) (q s : List ℕ) → length (job_text fd q s) ≤ 65536
    → (length q < 10 ^ 9) × (length s < 10 ^ 9)
job_is_short fd q s short =
    (let whole = length-job_text fd q s in (omega (arith, short, whole), omega (arith, short, whole)))
