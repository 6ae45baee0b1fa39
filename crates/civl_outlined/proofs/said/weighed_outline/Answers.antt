use Rattle.std.proofs.Common.{List, ap, subst}
use Rattle.civl_tree.specs.declared.expr.Expr.{Expr}
use Rattle.civl_outlines.specs.declared.outline.Note.{Note}
use Rattle.civl_conditions.specs.Weights.{weights_of, global_weight}
use Rattle.civl_weighing.proofs.Capping.{weighs_same}
use Rattle.civl_outlined.specs.inner.Notes.{AreNotes}
use Rattle.civl_outlined.proofs.said.weighed_outline.Goals as goal

pub returns-clause-said : goal.returns-clause-said
returns-clause-said c = record {
  numbered = c.requires;
  holds = weighs_same (ap (λ (es : List Expr). weights_of (global_weight c.args.program.now) es) c.as_slice-2.ensures) c.weights_of.ensures;
  notes = subst (λ (ns : List Note). AreNotes c.args.program.now ns c.in_ok-notes.notes) c.as_slice.ensures c.in_ok-notes.ensures;
}
