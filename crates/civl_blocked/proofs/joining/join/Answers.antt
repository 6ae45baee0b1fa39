use Rattle.std.proofs.Common.{◌≡◌, ◌∙◌, [], ◌∷◌, ◌++◌, ap}
use Rattle.civl_meaning.specs.declared.config.Move.{Move}
use Rattle.civl_blocked.proofs.Besides.{beside_more}
use Rattle.civl_blocked.proofs.joining.join.Goals as goal

pub returns-clause-beside : goal.returns-clause-beside
returns-clause-beside c =
    let items : c.push.new.self.items ≡ c.args.done.now.items ++ c.args.chosen.now ∷ [] = c.in_ok-push.ensures.items ∙ ap (λ (m : Move). c.args.done.now.items ++ m ∷ []) c.in_ok-copy.ensures in
    beside_more c.args.ground.now c.args.done.now.items c.push.new.self.items c.args.chosen.now c.args.beside.now c.shadowed_step.new.shadowed c.in_ok-shadowed_step.field-0
    c.requires.ground c.requires.runs c.in_ok-shadowed_step.ensures.answer c.in_ok-shadowed_step.ensures.moved c.requires.beside items
