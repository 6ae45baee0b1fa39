use Rattle.std.proofs.Common.{◌∙◌, sym, ap}
use Rattle.civl_provers.proofs.Nodes.{all_marked, bits_hold, bits_whole, not_all}
use Rattle.civl_provers.proofs.looking.judge.Goals as goal

pub returns-in_ok-bits-in-None : goal.returns-in_ok-bits-in-None
returns-in_ok-bits-in-None c =
    bits_whole c.args.marks.now c.args.cnf.now c.in_ok-bits-in-None.bits c.requires.size c.variables-variables.ensures.below c.in_ok-bits-in-None.ensures c.requires.quiet c.in-None.ensures

pub returns-then-all_hold : goal.returns-then-all_hold
returns-then-all_hold c =
    let marks = c.args.marks.now in
    let set = c.args.cnf.now in
    bits_hold marks set c.in_ok-bits-in-Some.bits c.requires.size c.variables-variables.ensures.below c.in_ok-bits-in-Some.ensures
    (sym (c.all_hold.ensures ∙ ap (all_marked marks) c.clauses.ensures.is) ∙ c.if-all_hold.true)

pub returns-else-all_hold : goal.returns-else-all_hold
returns-else-all_hold c =
    let marks = c.args.marks.now in
    let set = c.args.cnf.now in
    (c.if-may_choose.false, not_all marks set.clauses (sym (c.all_hold.ensures ∙ ap (all_marked marks) c.clauses.ensures.is) ∙ c.if-all_hold.false))
