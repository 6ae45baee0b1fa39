use Rattle.std.proofs.Common.{◌≡◌, ◌∙◌, List, Some, not, sym, ap}
use Rattle.std.specs.Prelude.{option_copied}
use Rattle.civl_tree.specs.declared.expr.Expr.{Expr}
use Rattle.civl_tree.specs.declared.program.Global.{Global}
use Rattle.civl_firing.specs.declared.scope.Scope.{Scope}
use Rattle.civl_firing.specs.Eval.{value_of}
use Rattle.civl_firing.specs.Scope.{global_values}
use Rattle.civl_firing.specs.values.Values.{is_true}
use Rattle.civl_conditions.specs.Invariants.{invariant_at}
use Rattle.civl_assumed.proofs.Counting.{lost_there}
use Rattle.civl_assumed.proofs.invariants.invariant_lost.Goals as goal

pub returns-in-Some : goal.returns-in-Some
returns-in-Some c =
    let p = c.args.program.now in
    let g = c.args.store.now in
    let e = c.in-Some.invariant.now in
    let at : invariant_at p c.args.step c.args.place ≡ Some e = sym c.invariant_at.ensures ∙ ap (option_copied {T = Expr}) c.in-Some.is in
    ap not (c.holds.ensures ∙ ap (λ (s : Scope). is_true (value_of s e)) (c.at_start.ensures ∙ ap (λ (gs : List Global). global_values gs g) c.as_slice.ensures))
    ∙ lost_there p c.args.step c.args.place g e at
