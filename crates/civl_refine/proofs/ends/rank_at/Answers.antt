use Rattle.std.specs.Prelude.{Option, not, nat_eq}
use Rattle.std.proofs.Common.{◌∙◌, ap, sym}
use Rattle.std.proofs.lemmas.Bool.{eq-eqb}
use Rattle.std.proofs.Math.Bool.{not-not}
use Rattle.civl_tree.specs.declared.expr.Expr.{Expr}
use Rattle.civl_tree.specs.declared.expr.Two.TheVariants.{Lt}
use Rattle.civl_firing.specs.values.Values.{is_true}
use Rattle.civl_firing.specs.values.Operators.{two_value}
use Rattle.civl_firing.specs.Eval.{value_of}
use Rattle.civl_conditions.specs.paths.NoteValues.{plain_note_values}
use Rattle.civl_conditions.specs.Movers.{on_some}
use Rattle.civl_states.proofs.formula_parts.Saying.{test_as}
use Rattle.civl_refine.proofs.Asking.{asked}
use Rattle.civl_refine.proofs.ends.rank_at.Goals as goal

pub returns-in_ok-id-in-Some-clause-keeps : goal.returns-in_ok-id-in-Some-clause-keeps
returns-in_ok-id-in-Some-clause-keeps c = λ b p begun at.
    let s = c.args.start.now in
    let gs = s.program.now.globals in
    let q = s.proc.now in
    let e = eq-eqb c.args.way.now.end s.number c.if-way-start.false in
    test_as _ _ _ _ (λ env.
    sym (not-not (is_true (two_value Lt (value_of (plain_note_values gs q (p env).store (p env).locals) c.in-Some.rank.now) (value_of (plain_note_values gs q (b env).store (b env).locals) c.in-Some.rank.now))))
    ∙ ap (λ (o : Option Expr). not (on_some o (λ r. not (is_true (two_value Lt (value_of (plain_note_values gs q (p env).store (p env).locals) r) (value_of (plain_note_values gs q (b env).store (b env).locals) r)))))) c.in-Some.ensures
    ∙ asked (nat_eq c.args.way.now.end s.number) _ e) (c.in_ok-id-in-Some.ensures.test b p begun at)
