-- The live aggregates, counted over the rows of a table.
use Rattle.std.proofs.Common.{◌≡◌, ◌≢◌, ℕ, zero, suc, ◌+◌, ◌-◌, ◌*◌, ◌<◌, ◌≤◌, ◌^◌, List, [], ◌∷◌, ◌++◌, length, get_or}
use Rattle.std.proofs.Common.{None, inl, inr, arith, refl, ap}
use Rattle.std.specs.Prelude.{slice_set}
use Rattle.std.specs.List.{AllByRecursion}
use Rattle.std.proofs.lemmas.Bool.{cases_eq}
use Rattle.std.proofs.lemmas.Bool.Decides.{nat_tests}
use Rattle.std.proofs.lemmas.List.Sums.{sum_by-cons}
use Rattle.iol_core.specs.State.{Domain}
use Rattle.iol_core.specs.NumberedLists.{lookup, without}
use Rattle.iol_desc.specs.Tables.{Row, domains_of, live_aggs_in, IsCounted}

pub length-without : {A : Type 0} (es : List (ℕ × A)) (n : ℕ) → lookup es n ≢ None
    → length (without es n) + 1 ≡ length es
length-without [] n there = absurd (there refl)
length-without (e ∷ es) n there = elim (cases_eq e.0 n) [
  | inl k ↦ grind (arith, nat_tests, k)
  | inr k ↦ (let r = length-without es n (λ none. there (grind (arith, nat_tests, k, none))) in
      grind (arith, nat_tests, k, r))
]

aggs_of : {A : Type 0} → Row A → ℕ
aggs_of r = length r.domain.aggs

live-cons : {A : Type 0} (x : Row A) (rows : List (Row A))
    → live_aggs_in (domains_of (x ∷ rows)) ≡ length x.domain.aggs + live_aggs_in (domains_of rows)
live-cons {A} x rows = sum_by-cons (λ (d : Domain A). length d.aggs) x.domain (domains_of rows)

count-set : {A : Type 0} (rows : List (Row A)) (n : ℕ) (r : Row A) (d : Row A) → n < length rows
    → live_aggs_in (domains_of (slice_set rows n r)) + length (get_or rows n d).domain.aggs
    ≡ live_aggs_in (domains_of rows) + length r.domain.aggs
count-set [] n r d lt = absurd (omega arith)
count-set (x ∷ rows) zero r d lt = omega (arith, live-cons x rows, live-cons r rows)
count-set (x ∷ rows) (suc n) r d lt =
    omega (arith, live-cons x rows, live-cons x (slice_set rows n r), count-set rows n r d (omega arith))

short-set : {A : Type 0} (rows : List (Row A)) (n : ℕ) (r : Row A)
    → AllByRecursion (λ (r : Row A). length r.domain.aggs < 2 ^ 64) rows → length r.domain.aggs < 2 ^ 64
    → AllByRecursion (λ (r : Row A). length r.domain.aggs < 2 ^ 64) (slice_set rows n r)
short-set [] n r short lt = tt
short-set (x ∷ rows) zero r short lt = (lt, short.1)
short-set (x ∷ rows) (suc n) r short lt = (short.0, short-set rows n r short.1 lt)

short-get : {A : Type 0} (rows : List (Row A)) (n : ℕ) (d : Row A) → n < length rows
    → AllByRecursion (λ (r : Row A). length r.domain.aggs < 2 ^ 64) rows → length (get_or rows n d).domain.aggs < 2 ^ 64
short-get [] n d lt short = absurd (omega arith)
short-get (x ∷ rows) zero d lt short = short.0
short-get (x ∷ rows) (suc n) d lt short = short-get rows n d (omega arith) short.1

short-push : {A : Type 0} (rows : List (Row A)) (r : Row A)
    → AllByRecursion (λ (r : Row A). length r.domain.aggs < 2 ^ 64) rows → length r.domain.aggs < 2 ^ 64
    → AllByRecursion (λ (r : Row A). length r.domain.aggs < 2 ^ 64) (rows ++ r ∷ [])
short-push [] r short lt = (lt, tt)
short-push (x ∷ rows) r short lt = (short.0, short-push rows r short.1 lt)

count-push : {A : Type 0} (rows : List (Row A)) (r : Row A)
    → live_aggs_in (domains_of (rows ++ r ∷ [])) ≡ live_aggs_in (domains_of rows) + length r.domain.aggs
count-push [] r = omega (arith, live-cons r [])
count-push (x ∷ rows) r = omega (arith, live-cons x rows, live-cons x (rows ++ r ∷ []), count-push rows r)

count-few : {A : Type 0} (rows : List (Row A)) → AllByRecursion (λ (r : Row A). length r.domain.aggs < 2 ^ 64) rows
    → live_aggs_in (domains_of rows) ≤ length rows * 2 ^ 64
count-few [] short = omega arith
count-few (x ∷ rows) short = omega (arith, live-cons x rows, count-few rows short.1, short.0)

-- the row `old` is replaced by one with another number of aggregates
pub counted-set : {A : Type 0} (rows : List (Row A)) (n : ℕ) (r old : Row A) (live after : ℕ) → IsCounted live rows
    → n < length rows → old ≡ get_or rows n old → length r.domain.aggs < 2 ^ 64
    → after + length old.domain.aggs ≡ live + length r.domain.aggs → IsCounted after (slice_set rows n r)
counted-set {A} rows n r old live after counted lt at short is =
    let same : length old.domain.aggs ≡ length (get_or rows n old).domain.aggs =
    ap (λ (r : Row A). length r.domain.aggs) at in
    record {
      count = omega (arith, count-set rows n r old lt, counted.count);
      short = short-set rows n r counted.short short;
    }

-- or by one with the same number of aggregates
pub counted_kept : {A : Type 0} (rows : List (Row A)) (n : ℕ) (r old : Row A) (live : ℕ) → IsCounted live rows
    → n < length rows → old ≡ get_or rows n old → length r.domain.aggs ≡ length old.domain.aggs
    → IsCounted live (slice_set rows n r)
counted_kept {A} rows n r old live counted lt at same =
    let is : length old.domain.aggs ≡ length (get_or rows n old).domain.aggs =
    ap (λ (r : Row A). length r.domain.aggs) at in
    counted-set rows n r old live live counted lt at (omega (arith, short-get rows n old lt counted.short))
    (omega arith)

pub live-get : {A : Type 0} (rows : List (Row A)) (n : ℕ) (d : Row A) → n < length rows
    → length (get_or rows n d).domain.aggs ≤ live_aggs_in (domains_of rows)
live-get [] n d lt = absurd (omega arith)
live-get (x ∷ rows) zero d lt = omega (arith, live-cons x rows)
live-get (x ∷ rows) (suc n) d lt = omega (arith, live-cons x rows, live-get rows n d (omega arith))

-- or by one with fewer
pub counted_fewer : {A : Type 0} (rows : List (Row A)) (n : ℕ) (r old : Row A) (live gone : ℕ) → IsCounted live rows
    → n < length rows → old ≡ get_or rows n old → length r.domain.aggs + gone ≡ length old.domain.aggs
    → (gone ≤ live) × IsCounted (live - gone) (slice_set rows n r)
counted_fewer {A} rows n r old live gone counted lt at fewer =
    let is : length old.domain.aggs ≡ length (get_or rows n old).domain.aggs =
    ap (λ (r : Row A). length r.domain.aggs) at in
    let within : gone ≤ live = omega (arith, live-get rows n old lt, counted.count) in (
      within,
      counted-set rows n r old live (live - gone) counted lt at (omega (arith, short-get rows n old lt counted.short))
          (omega arith),
    )

pub counted_push : {A : Type 0} (rows : List (Row A)) (r : Row A) (live : ℕ) → IsCounted live rows → r.domain.aggs ≡ []
    → IsCounted live (rows ++ r ∷ [])
counted_push {A} rows r live counted none =
    let few : length r.domain.aggs ≡ 0 = ap (λ (es : List (ℕ × A)). length es) none in
    record {
      count = omega (arith, count-push rows r, counted.count);
      short = short-push rows r counted.short (omega arith);
    }

pub counted_fits : {A : Type 0} (rows : List (Row A)) (live : ℕ) → IsCounted live rows → length rows < 2 ^ 64
    → live + 2 ^ 64 ≤ 2 ^ 128
counted_fits rows live counted few = omega (arith, count-few rows counted.short, counted.count)

pub ruleset counted_rules = (counted_push, counted_fits, length-without)
