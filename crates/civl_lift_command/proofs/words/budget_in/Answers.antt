use Rattle.std.proofs.Common.{◌∙◌, ℕ, List, sym, ap, arith, true, false}
use Rattle.std.proofs.lemmas.Bool.{false≢true}
use Rattle.std.specs.Prelude.{decimal}
use Rattle.std.specs.Str.{bytes_eq}
use Rattle.civl_lift_command.proofs.Asking.{parsed, parsed_as, same_text}
use Rattle.civl_lift_command.proofs.words.budget_in.Goals as goal

pub returns-in_default : goal.returns-in_default
returns-in_default c = λ number written within. c.in_default.not-Ok number (parsed c.args.word.now c.parse.result c.parse.ensures.value.0 number written within)

pub returns-then-number-gt-MOST_BUDGET : goal.returns-then-number-gt-MOST_BUDGET
returns-then-number-gt-MOST_BUDGET c = λ number written within.
    let same = parsed_as c.args.word.now c.parse.result c.parse.ensures.value.0 c.in-Ok.number c.in-Ok.is number written within in
    omega (arith, same, within, c.if-number-gt-MOST_BUDGET.true)

pub returns-else-eq : goal.returns-else-eq
returns-else-eq c = λ number written within.
    let same = parsed_as c.args.word.now c.parse.result c.parse.ensures.value.0 c.in-Ok.number c.in-Ok.is number written within in
    let text = c.format.ensures.text ∙ (sym (ap decimal same) ∙ sym written) in
    let tested = c.eq.ensures ∙ ap (λ (w : List ℕ). bytes_eq w c.args.word.now) text in
    false≢true (sym c.if-eq.false ∙ same_text c.args.word.now c.eq.result tested)
