use Rattle.std.proofs.Common.{◌≡◌, drop}
use Rattle.civl_tree.specs.rules.Names.{has_name, action_names}
use Rattle.civl_subjects.proofs.naming.is_action.Given as goal

abbrev pub invariant-loop-action : goal.invariant-loop-action
invariant-loop-action l = has_name (action_names (drop l.action-index l.actions)) l.name ≡ has_name (action_names l.fn.actions) l.fn.name
