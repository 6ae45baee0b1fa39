use Rattle.std.proofs.Common.{Option, subst}
use Rattle.civl_tree.specs.declared.stmt.Stmt.{out-Stmt}
use Rattle.civl_goals.specs.Weights.{note_before_weight, form_reaches, summed_at}
use Rattle.civl_weighing.proofs.Capping.{weighs_same}
use Rattle.civl_outlined.specs.declared.weights.Found.{Found}
use Rattle.civl_outlined.specs.inner.Sums.{IsFound}
use Rattle.civl_outlined.proofs.Totals.{next_is}
use Rattle.civl_outlined.proofs.weights.next.Goals as goal

pub returns-in-Some : goal.returns-in-Some
returns-in-Some c =
    let of = subst (λ (o : Option Found). IsFound c.args.sums.now.said.program.now c.args.sums.now.said.outline.now c.args.number c.args.statement o) c.in-Some.is c.look_up.ensures in
    weighs_same (next_is c.args.sums.now.said.program.now c.args.sums.now.said.outline.now c.args.number c.args.statement) (c.statement_goal.ensures.is c.args.number c.args.statement (λ x. summed_at (note_before_weight c.args.sums.now.said.program.now c.args.sums.now.said.outline.now c.args.number) (form_reaches x.number x.next (out-Stmt x.stmt))) of of.own.reaches)

pub returns-in-None : goal.returns-in-None
returns-in-None c = absurd (subst (λ (o : Option Found). IsFound c.args.sums.now.said.program.now c.args.sums.now.said.outline.now c.args.number c.args.statement o) c.in-None.is c.look_up.ensures)
