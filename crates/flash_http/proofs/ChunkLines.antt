-- The line before a chunk, as a recipient reads it.
use Rattle.std.proofs.Common.{◌≡◌, ℕ, zero, suc, ◌+◌, ◌*◌, ◌/◌, ◌%◌, ◌^◌, ◌<◌, ◌≤◌, ◌==◌, Bool, true, false, cond, List}
use Rattle.std.proofs.Common.{[], ◌∷◌, ◌++◌, length, None, Result, Ok, Err, refl, ap, ◌∙◌, arith, append-nil}
use Rattle.std.specs.Prelude.{IfOk}
use Rattle.std.specs.Char.{digit_value, is_ascii_hexdigit}
use Rattle.std.specs.Fmt.{digits, digits_onto, digit_glyph}
use Rattle.std.specs.Str.Parse.{AllDigits}
use Rattle.std.proofs.Math.Nat.{pow-succ'}
use Rattle.std.proofs.lemmas.Fmt.{digits_is_IsNumeral}
use Rattle.std.proofs.lemmas.Bool.Decides.{nat_tests}
use Rattle.httparse.specs.Grammar.{AllPass, ChunkLine, print_chunk_line}
use Rattle.flash_http.specs.Chunk.{chunk_head, ReadsAsSize}

some : (m : ℕ) → (m == 0) ≡ false → 0 < m
some m e = grind (arith, nat_tests)

sixteen_times : (k : ℕ) → 16 ^ (suc k + 1) ≡ 16 * 16 ^ (k + 1)
sixteen_times k = let e : suc k + 1 ≡ suc (k + 1) = omega arith in ap (λ m. 16 ^ m) e ∙ pow-succ' 16 (k + 1)

-- one more digit for each division by 16
length_onto : (fuel k n : ℕ) (acc : List ℕ) → n < 16 ^ (k + 1)
    → length (digits_onto fuel 16 false n acc) ≤ k + 1 + length acc
length_onto zero k n acc h = omega arith
length_onto (suc fuel) k n acc h =
    ends_or_proceeds k (n / 16 == 0) refl h (λ j below. length_onto fuel j (n / 16) (digit_glyph false (n % 16) ∷ acc)
    below)
  where
    ends_or_proceeds : (k : ℕ) (v : Bool) → (n / 16 == 0) ≡ v → n < 16 ^ (k + 1)
        → ((j : ℕ) → n / 16 < 16 ^ (j + 1)
        → length (digits_onto fuel 16 false (n / 16) (digit_glyph false (n % 16) ∷ acc)) ≤ j + 1
        + length (digit_glyph false (n % 16) ∷ acc))
        → length
        (cond v (digit_glyph false (n % 16) ∷ acc)
        (digits_onto fuel 16 false (n / 16) (digit_glyph false (n % 16) ∷ acc))) ≤ k + 1 + length acc
    ends_or_proceeds k true e h more = omega arith
    ends_or_proceeds zero false e h more = let below = some (n / 16) e in absurd (omega arith)
    ends_or_proceeds (suc k) false e h more =
        let below : n / 16 < 16 ^ (k + 1) = omega (arith, sixteen_times k) in
        let rest = more k below in omega arith

hex_digit : (c : ℕ) → digit_value c < 16 → is_ascii_hexdigit c ≡ true
hex_digit c h = grind (arith, nat_tests)

each_passes : (c : ℕ) (ds : List ℕ) → is_ascii_hexdigit c ≡ true → AllPass is_ascii_hexdigit ds
    → AllPass is_ascii_hexdigit (c ∷ ds)
each_passes c ds h rest zero d within = h
each_passes c ds h rest (suc k) d within = rest k d (omega arith)

hex_digits : (ds : List ℕ) → AllDigits 16 ds → AllPass is_ascii_hexdigit ds
hex_digits [] h = λ k d within. absurd (omega arith)
hex_digits (c ∷ ds) h = each_passes c ds (hex_digit c h.0) (hex_digits ds h.1)

hex_length : (len : ℕ) → len < 2 ^ 64 → length (digits 16 false len) ≤ 16
unfolding digits
hex_length len small = length_onto 64 15 len [] (omega arith)

no_padding : (len : ℕ) → digits 16 false len ++ 13 ∷ 10 ∷ [] ≡ digits 16 false len ++ [] ++ [] ++ 13 ∷ 10 ∷ [] ++ []
no_padding len = simp append-nil

pub reads_as_size : (len : ℕ) → len < 2 ^ 64 → ReadsAsSize (chunk_head len) len
unfolding print_chunk_line
reads_as_size len small =
    let numeral = digits_is_IsNumeral 16 false (omega arith) (omega arith) len (omega arith) in
    let line : ChunkLine = record { digits = digits 16 false len; pad = []; extension = None } in (
      line,
      (
        record {
          digits = (numeral.0.0, hex_length len small, hex_digits _ numeral.0.1);
          pad =
              λ k d within. absurd (omega arith);
          extension = tt;
        },
        no_padding len,
      ),
      numeral.1,
    )

pub text_reads : {T E : Type 0} (bytes : T → List ℕ) (len : ℕ) (r : Result T E) → len < 2 ^ 64
    → IfOk r (λ text. bytes text ≡ chunk_head len) → IfOk r (λ text. ReadsAsSize (bytes text) len)
text_reads bytes len (Ok text) small h = rw h (reads_as_size len small)
text_reads bytes len (Err e) small h = tt
