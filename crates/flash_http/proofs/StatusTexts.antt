-- The length of the text of a status.
use Rattle.std.proofs.Common.{◌≡◌, ℕ, ◌+◌, ◌<◌, ◌≤◌, ◌/◌, ◌%◌, ◌^◌, List, [], ◌∷◌, ◌++◌, length, ap, ◌∙◌, arith}
use Rattle.std.proofs.Common.{length-append}
use Rattle.std.specs.Prelude.{decimal, codes, unwrap_or}
use Rattle.std.proofs.lemmas.Fmt.{decimal_digit, decimal_step}
use Rattle.http.specs.StatusCode.{IsStatusCode, reason_phrase}
use Rattle.flash_http.specs.Response.{error_body}

length_next : (n k : ℕ) → 10 ≤ n → n < 2 ^ 64 → length (decimal (n / 10)) ≡ k → length (decimal n) ≡ k + 1
length_next n k h small e = ap length (decimal_step n h small) ∙ length-append (decimal (n / 10)) ((48 + n % 10) ∷ [])
    ∙ ap (λ m. m + 1) e

three_digits : (n : ℕ) → IsStatusCode n → length (decimal n) ≡ 3
three_digits n h =
    length_next n 2 (omega (arith, h)) (omega (arith, h))
    (length_next (n / 10) 1 (omega (arith, h)) (omega (arith, h))
    (ap length (decimal_digit (n / 10 / 10) (omega (arith, h)))))

framed : (digits phrase : List ℕ) → length digits ≡ 3
    → length ((digits ++ codes " " ++ phrase) ++ codes "\n") ≡ 3 + length phrase + 2
framed digits phrase h =
    omega (
      arith,
      h,
      length-append (digits ++ codes " " ++ phrase) (codes "\n"),
      length-append (digits ++ codes " ") phrase,
      length-append digits (codes " "),
    )

pub error_body_len : (n : ℕ) → IsStatusCode n
    → length (error_body n) ≡ 3 + length (unwrap_or (reason_phrase n) (codes "<unknown status code>")) + 2
error_body_len n h = framed (decimal n) (unwrap_or (reason_phrase n) (codes "<unknown status code>")) (three_digits n h)
