-- The text of a log is printable.
use Rattle.std.proofs.Common.{◌≡◌, ℕ, suc, ◌+◌, ◌<◌, ◌/◌, ◌%◌, ◌&&◌, true, List, [], ◌∷◌, ◌++◌, length, drop}
use Rattle.std.proofs.Common.{get_or, codes, refl, arith, sym, ap, ◌∙◌, append_assoc}
use Rattle.std.proofs.Math.Seq.{drop-cons}
use Rattle.std.proofs.lemmas.Bool.Decides.{nat_tests}
use Rattle.std.proofs.lemmas.Grind.{common_steps}
use Rattle.std.proofs.lemmas.List.Folds.{list_all-append}
use Rattle.std.specs.List.{list_all}
use Rattle.flash_log.specs.Line.{hex_digit, escaped_byte, escaped, count_of, first_of, last_of, front_of, is_printable}
use Rattle.flash_log.specs.declared.lines.Entry.{Entry}

digit : (n : ℕ) → n < 16 → is_printable (hex_digit n) ≡ true
digit n below = grind (arith, nat_tests, common_steps, below)

pub printable_byte : (b : ℕ) → list_all is_printable (escaped_byte b) ≡ true
printable_byte b = let high = digit (b / 16 % 16) (omega arith) in let low = digit (b % 16) (omega arith) in
    grind (arith, nat_tests, common_steps, high, low)

both : (xs ys : List ℕ) → list_all is_printable xs ≡ true → list_all is_printable ys ≡ true
    → list_all is_printable (xs ++ ys) ≡ true
both xs ys first second = list_all-append is_printable xs ys ∙ (λ i. first i && second i)

pub printable_escaped : (bytes : List ℕ) → list_all is_printable (escaped bytes) ≡ true
printable_escaped [] = refl
printable_escaped (b ∷ bytes) = both (escaped_byte b) (escaped bytes) (printable_byte b) (printable_escaped bytes)

pub printable_front : (e : Entry) → list_all is_printable (front_of e) ≡ true
printable_front e =
    let host = escaped e.host.now in
    let date = escaped e.date.now in
    let status = escaped e.status.now in
    let count = escaped (count_of e.body) in
    let h = both host (codes " - - [") (printable_escaped e.host.now) refl in
    let d = both (host ++ codes " - - [") date h (printable_escaped e.date.now) in
    let b = both (host ++ codes " - - [" ++ date) (codes "] \"") d refl in
    let first : list_all is_printable (first_of e) ≡ true =
    both (host ++ codes " - - [" ++ date ++ codes "] \"") _ b (printable_escaped e.request_line.now) in
    let s = both (codes "\" ") status refl (printable_escaped e.status.now) in
    let c = both (codes "\" " ++ status) (codes " ") s refl in
    let last : list_all is_printable (last_of e (count_of e.body)) ≡ true =
    both (codes "\" " ++ status ++ codes " ") count c (printable_escaped (count_of e.body)) in
    both (first_of e) (last_of e (count_of e.body)) first last

-- one byte more
pub escaped_more : (line before bytes : List ℕ) (k d : ℕ) → k < length bytes → line ++ escaped (drop k bytes) ≡ before
    → (line ++ escaped_byte (get_or bytes k d)) ++ escaped (drop (k + 1) bytes) ≡ before
escaped_more line before bytes k d there is =
    append_assoc line (escaped_byte (get_or bytes k d)) (escaped (drop (k + 1) bytes))
    ∙ (ap (λ (l : List ℕ). line ++ escaped l) (sym (drop_one bytes k d there)) ∙ is)
  where
    drop_one : (xs : List ℕ) (k d : ℕ) → k < length xs → drop k xs ≡ get_or xs k d ∷ drop (k + 1) xs
    drop_one xs k d below = drop-cons xs k d below ∙ ap (λ (n : ℕ). get_or xs k d ∷ drop n xs) (let e : suc k ≡ k + 1 =
        omega arith in e)
