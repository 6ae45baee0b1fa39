use Rattle.std.proofs.Common.{Option, subst}
use Rattle.civl_outlined.specs.declared.weights.Found.{Found}
use Rattle.civl_outlined.specs.inner.Sums.{IsFound}
use Rattle.civl_outlined.proofs.weights.other.Goals as goal

pub returns-in-Some-look_up : goal.returns-in-Some-look_up
returns-in-Some-look_up c =
    c.other_goal.ensures.is c.args.number c.args.statement c.args.root c.args.place (subst (λ (o : Option Found). IsFound c.args.sums.now.said.program.now c.args.sums.now.said.outline.now c.args.number c.args.statement o) c.in-Some.is c.look_up.ensures)
    (subst (λ (o : Option Found). IsFound c.args.sums.now.said.program.now c.args.sums.now.said.outline.now c.args.root c.args.place o) c.in-Some-look_up.is c.look_up-in-Some.ensures)

pub returns-in-None-look_up : goal.returns-in-None-look_up
returns-in-None-look_up c = absurd (subst (λ (o : Option Found). IsFound c.args.sums.now.said.program.now c.args.sums.now.said.outline.now c.args.root c.args.place o) c.in-None-look_up.is c.look_up-in-Some.ensures)

pub returns-in-None : goal.returns-in-None
returns-in-None c = absurd (subst (λ (o : Option Found). IsFound c.args.sums.now.said.program.now c.args.sums.now.said.outline.now c.args.number c.args.statement o) c.in-None.is c.look_up.ensures)
