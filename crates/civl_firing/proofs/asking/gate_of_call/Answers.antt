use Rattle.std.proofs.Common.{◌≡◌, ◌∙◌, ◌-◌, ◌++◌, ℕ, List, take, drop, length, ap, subst, arith}
use Rattle.std.proofs.lemmas.List.{take_rest}
use Rattle.civl_bits.specs.declared.value.Value.{Value}
use Rattle.civl_tree.specs.declared.expr.Expr.{Expr}
use Rattle.civl_firing.specs.declared.scope.Scope.{Scope}
use Rattle.civl_firing.specs.values.Values.{is_true}
use Rattle.civl_firing.specs.Eval.{value_of, values_of}
use Rattle.civl_firing.specs.Scope.{frame_values, gate_values}
use Rattle.civl_firing.specs.Fired.{gate_holds}
use Rattle.civl_firing.proofs.Joining.{evaluated}
use Rattle.civl_firing.proofs.asking.gate_of_call.Goals as goal

pub returns : goal.returns
unfolding gate_holds
returns c =
    let frame = frame_values c.args.globals.now c.args.proc.now c.args.locals.now in
    let args = c.args.args.now in
    let count = c.min-count.result in
    let end : c.loop-at.at ≡ count = omega arith in
    let first : take count c.loop-at.inputs ≡ values_of frame (take count args) = subst (λ (k : ℕ). take k c.loop-at.inputs ≡ values_of frame (take k args)) end c.loop-at.invariant in
    let all : take count c.loop-at.inputs ++ values_of frame (take (length args - count) (drop count args)) ≡ values_of frame args =
    ap (λ (vs : List Value). vs ++ values_of frame (take (length args - count) (drop count args))) first
    ∙ ap (λ (es : List Expr). values_of frame (take count args) ++ values_of frame es) (take_rest args count)
    ∙ evaluated frame args count in
    c.holds.ensures ∙ ap (λ (s : Scope). is_true (value_of s c.args.action.now.gate)) (c.at_call-asked.ensures ∙ ap (gate_values c.args.globals.now c.args.store.now c.args.action.now) all)
