use Rattle.std.proofs.Common.{◌≡◌, sym, arith, ◌∙◌}
use Rattle.std.specs.Str.Parse.{digits_value}
use Rattle.civl_lex.proofs.Numbers.{number_of-some, number_of-large, digits_value_next, IsPlain}
use Rattle.std.proofs.lemmas.List.{take_all}
use Rattle.std.proofs.Common.{ap, Some}
use Rattle.civl_lex.proofs.number.value_of.Goals as goal
use Rattle.civl_lex.proofs.number.value_of.Goals.{else-digits-gt1-via-then-digits-gt1+else-digits-eq48, else-digits-gt1-via-else-digits-gt1}

pub returns-in_err-checked_mul : goal.returns-in_err-checked_mul
returns-in_err-checked_mul c =
    let next = digits_value_next c.args.digits.now c.loop-digit.digit-index c.requires (omega arith) in
    c.from_residual.ensures ∙ sym (number_of-large c.args.digits.now (omega (arith, next.0, next.1, next.2, c.in_err-checked_mul.ensures)))

pub returns-in_err-value : goal.returns-in_err-value
returns-in_err-value c =
    let next = digits_value_next c.args.digits.now c.loop-digit.digit-index c.requires (omega arith) in
    c.from_residual-in_err-value.ensures ∙ sym (number_of-large c.args.digits.now (omega (arith, next.0, next.1, next.2, c.in_err-value.ensures)))

pub loop-digit-preserved : goal.loop-digit-preserved
loop-digit-preserved c =
    let next = digits_value_next c.args.digits.now c.loop-digit.digit-index c.requires (omega arith) in
    record { read = omega (arith, next.0, next.1); fits = omega arith }

pub returns : goal.returns
returns c =
    let text = c.args.digits.now in
    let value : c.loop-digit.value ≡ digits_value 10 text = c.loop-digit.invariant.read ∙ ap (digits_value 10) (take_all c.loop-digit.digit-index text (omega arith)) in
    let plain : IsPlain text = elim c.else-digits-gt1.branch [ else-digits-gt1-via-then-digits-gt1+else-digits-eq48 w ↦ λ first. absurd (w.if-digits-eq48.false first) | else-digits-gt1-via-else-digits-gt1 w ↦ λ first. omega arith ] in
    ap Some value ∙ sym (number_of-some text plain (omega arith))
