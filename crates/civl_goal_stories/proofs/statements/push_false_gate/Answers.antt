use Rattle.std.proofs.Common.{◌∙◌, List, ◌++◌, ap}
use Rattle.civl_bits.specs.declared.value.Value.{Value}
use Rattle.civl_path_stories.specs.Paths.{gate_parts}
use Rattle.civl_path_stories.proofs.Chains.{behind_one}
use Rattle.civl_goal_stories.proofs.statements.push_false_gate.Goals as goal

pub returns : goal.returns
returns c =
    behind_one _ _ c.args.lines.now.items _ _ c.in_ok-push_call.ensures (c.in_ok-push_gate.ensures
    ∙ ap (λ (vs : List Value). c.push_call.new.lines.items ++ gate_parts c.args.program.now c.args.number c.args.here.now.store vs)
    c.as_slice.ensures)
