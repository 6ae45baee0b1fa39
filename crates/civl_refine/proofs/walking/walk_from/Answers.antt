use Rattle.std.proofs.Common.{◌∙◌, arith}
use Rattle.civl_tree.proofs.Pairs.{contains_at}
use Rattle.civl_terms.proofs.Growing.{lengthens_trans, lengthened}
use Rattle.civl_layers.specs.Cuts.{proc_cuts}
use Rattle.civl_conditions.specs.Values.{Begun, begun}
use Rattle.civl_states.specs.formula_parts.Said.{Env}
use Rattle.civl_states.specs.formula_parts.Given.{given}
use Rattle.civl_states.proofs.formula_parts.Giving.{variables_kept}
use Rattle.civl_refine.proofs.Assuming.{begin_stays, begun_stays}
use Rattle.civl_refine.proofs.Cutting.{statements_few, refines_some}
use Rattle.civl_refine.proofs.walking.walk_from.Goals as goal

pub walk-requires-clause-cuts : goal.walk-requires-clause-cuts
walk-requires-clause-cuts c = c.as_slice-cuts.ensures ∙ c.requires.body.cuts

pub walk-requires-clause-there : goal.walk-requires-clause-there
walk-requires-clause-there c = contains_at (proc_cuts c.args.start.now.proc.now) c.args.start.now.number c.args.start.now.cut c.requires.there

pub walk-requires-clause-refines : goal.walk-requires-clause-refines
walk-requires-clause-refines c = refines_some c.args.start.now.program.now c.args.start.now.proc.now c.args.start.now.refined c.requires.start.refined

pub walk-requires-clause-small : goal.walk-requires-clause-small
walk-requires-clause-small c = statements_few c.args.start.now.program.now c.requires.layered c.requires.start.proc.0 c.args.start.now.proc.now c.requires.start.proc.1

pub returns-in_err-walk-clause-lengthens : goal.returns-in_err-walk-clause-lengthens
returns-in_err-walk-clause-lengthens c = lengthens_trans _ _ _ c.in_ok-beginning.ensures.lengthens (lengthened _ _ c.in_err-walk.ensures.grows)

pub returns-clause-lengthens : goal.returns-clause-lengthens
returns-clause-lengthens c = lengthens_trans _ _ _ c.in_ok-beginning.ensures.lengthens (lengthened _ _ c.in_ok-walk.ensures.grows)

pub returns-clause-variables : goal.returns-clause-variables
returns-clause-variables c = variables_kept _ _ c.args.sorts.now c.in_ok-walk.ensures.grows c.in_ok-beginning.ensures.variables

pub returns-clause-weighs : goal.returns-clause-weighs
returns-clause-weighs c = omega (arith, c.in_ok-beginning.ensures.weighs, c.in_ok-walk.ensures.weighs c.requires.linear)

pub returns-clause-can : goal.returns-clause-can
returns-clause-can c = record {
  begins = begin_stays _ _ _ _ _ _ _ c.in_ok-walk.ensures.grows c.in_ok-beginning.ensures.can;
  safe = c.in_ok-walk.ensures.safe;
  once = c.in_ok-walk.ensures.once;
  ways = c.in_ok-walk.ensures.ways;
  ends = c.in_ok-walk.ensures.ends;
}

pub returns-clause-walked : goal.returns-clause-walked
returns-clause-walked c = λ n l.
    let s = c.args.start.now in
    let b : Env → Begun = λ env. begun s.program.now s.step s.proc.now s.cut (given env 0 n) in
    let first = c.in_ok-beginning.ensures.begun n l in
    let walk = c.in_ok-walk.ensures.walk b first in
    record {
      begun = begun_stays _ _ _ _ _ _ _ b c.in_ok-walk.ensures.grows first;
      before = record { safe = walk.safe; once = walk.once };
      ways = walk.ways;
    }
