use Rattle.std.proofs.Common.{◌≡◌, ap, sym, ◌∙◌, arith, rules}
use Rattle.civl_meaning.specs.declared.config.Stepped.{Stepped}
use Rattle.civl_meaning.specs.declared.config.Stepped.TheVariants as answer
use Rattle.civl_history.proofs.Seen.{move_told}
use Rattle.civl_history.proofs.telling.make_move.Goals as goal

pub returns-clause-told : goal.returns-clause-told
returns-clause-told c =
    let moved : c.in_ok-answer.answer ≡ answer.Moved = search rules in
    let step = sym c.in_ok-answer.ensures.ok ∙ ap (λ (a : Stepped). (a, c.step.new.config)) moved in
    sym (move_told c.args.plain.now c.args.config.now c.args.chosen.now c.in_ok-kept.kept c.step.new.config c.in_ok-made.made (omega arith) c.in_ok-kept.ensures step c.in_ok-made.ensures)
