use Rattle.std.proofs.Common.{◌≡◌, ◌∙◌, ◌+◌, ◌-◌, ◌*◌, get_or, rules, arith, true}
use Rattle.std.specs.Char.{is_ascii_digit}
use Rattle.flash_log.proofs.HeadLemmas.{all_digits, more, too_large, whole}
use Rattle.flash_log.proofs.heads.number_of.Goals as goal

pub returns-in_err-checked_mul : goal.returns-in_err-checked_mul
returns-in_err-checked_mul c =
    c.from_residual.ensures
    ∙ too_large c.args.digits.now c.loop-digit.digit-index c.loop-digit.number c.loop-digit-test.true (search rules)
    c.loop-digit.invariant.1 (omega (arith, c.in_err-checked_mul.ensures))

pub returns-in_err-number : goal.returns-in_err-number
returns-in_err-number c =
    let product : c.in_ok-checked_mul.field-0 ≡ c.loop-digit.number * 10 = search rules in
    let value : c.from-value.result ≡ get_or c.args.digits.now c.loop-digit.digit-index 0 - 48 = search rules in
    c.from_residual-in_err-number.ensures
    ∙ too_large c.args.digits.now c.loop-digit.digit-index c.loop-digit.number c.loop-digit-test.true (search rules)
    c.loop-digit.invariant.1 (omega (arith, c.in_err-number.ensures, product, value))

pub loop-digit-preserved : goal.loop-digit-preserved
loop-digit-preserved c =
    let is : is_ascii_digit (get_or c.args.digits.now c.loop-digit.digit-index 0) ≡ true = search rules in
    let n : c.in_ok-number.number ≡ c.loop-digit.number * 10 +
    (get_or c.args.digits.now c.loop-digit.digit-index 0 - 48) =
    search rules in (
      all_digits c.args.digits.now c.loop-digit.digit-index c.loop-digit-test.true is c.loop-digit.invariant.0,
      n ∙ more c.args.digits.now c.loop-digit.digit-index c.loop-digit.number c.loop-digit-test.true is
          c.loop-digit.invariant.1,
      search rules,
    )

pub returns : goal.returns
returns c =
    whole c.args.digits.now c.loop-digit.digit-index c.loop-digit.number (search rules)
    c.loop-digit.invariant.2
    c.loop-digit.invariant.0 c.loop-digit.invariant.1
