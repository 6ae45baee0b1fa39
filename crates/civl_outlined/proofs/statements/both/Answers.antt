use Rattle.std.proofs.Common.{◌≡◌, arith}
use Rattle.civl_goals.specs.Weights.{note_before_weight}
use Rattle.civl_weighing.proofs.Capping.{sum_weighs}
use Rattle.civl_outlined.proofs.Stating.{once_same, once_both}
use Rattle.civl_outlined.proofs.statements.both.Goals as goal

pub returns-then-first-second : goal.returns-then-first-second
returns-then-first-second c =
    let same : c.args.first ≡ c.args.second = omega (arith, c.if-first-second.true) in
    once_same (note_before_weight c.args.said.now.program.now c.args.said.now.outline.now c.args.place) c.args.first c.args.second same c.note_before-note.ensures

pub returns : goal.returns
returns c =
    once_both (note_before_weight c.args.said.now.program.now c.args.said.now.outline.now c.args.place) c.args.first c.args.second (λ e. absurd (omega (arith, c.if-first-second.false, e)))
    (sum_weighs c.plus.ensures c.note_before-note.ensures c.note_before.ensures)
