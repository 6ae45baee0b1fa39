-- The rules on layers, E30 to E35.
use Rattle.std.specs.Prelude.{List, [], ◌∷◌}
use Rattle.civl_tree.specs.rules.Codes.{E30, E31, E32, E33, E35}
use Rattle.civl_tree.specs.rules.Rules.{Rule, asks_nothing, statements_where}
use Rattle.civl_tree.specs.rules.Typing.{signature_rule}
use Rattle.civl_layers.specs.Names.{global_range, action_range}
use Rattle.civl_layers.specs.Range.{range_fails, step_fails, refines_range}
use Rattle.civl_layers.specs.Hidden.{action_hidden, invariant_hidden, with_hidden, stmt_hidden}
use Rattle.civl_layers.specs.NotBelow.{stmt_not_below}
use Rattle.civl_layers.specs.NotThere.{refines_missing, stmt_missing, thread_missing}
use Rattle.civl_layers.specs.Introduced.{linear_hidden, stmt_introduced}

-- E30: ranges, steps and the layers of procedures
abbrev pub range_rule : Rule
range_rule = record (asks_nothing E30) {
  global = λ program place global. range_fails program (global_range global);
  invariant = λ program place invariant. step_fails program invariant.step;
  action = λ program place action. range_fails program (action_range action);
  proc = λ program place proc. refines_range program proc.refines;
}

-- E31: globals that are used where they don't exist
abbrev pub hidden_rule : Rule
hidden_rule = record (asks_nothing E31) {
  invariant = λ program place invariant. invariant_hidden program invariant;
  action = λ program place action. action_hidden program action;
  proc = λ program place proc. with_hidden program proc.refines;
  statements = λ program place proc. statements_where (stmt_hidden program proc.refines) proc;
}

-- E32: calls and spawns that don't go down
abbrev pub not_below_rule : Rule
not_below_rule = record (asks_nothing E32) { statements = λ program place proc. statements_where (stmt_not_below program place proc) proc }

-- E33: actions that don't exist where they are needed
abbrev pub not_there_rule : Rule
not_there_rule = record (asks_nothing E33) {
  proc = λ program place proc. refines_missing program proc.refines;
  statements = λ program place proc. statements_where (stmt_missing program proc) proc;
  thread = λ program place thread. thread_missing program thread;
}

-- E35: the targets of intros, and linear globals
abbrev pub introduced_rule : Rule
introduced_rule = record (asks_nothing E35) {
  global = λ program place global. linear_hidden program global;
  statements = λ program place proc. statements_where (stmt_introduced program proc.refines) proc;
}

-- E30 to E35, in their order; E34 is that on signatures
abbrev pub layer_rules : List Rule
layer_rules = range_rule ∷ hidden_rule ∷ not_below_rule ∷ not_there_rule ∷ signature_rule ∷ introduced_rule ∷ []
