use Rattle.std.proofs.Common.{◌≡◌, drop}
use Rattle.civl_tree.specs.rules.Names.{has_name, param_names}
use Rattle.civl_subjects.proofs.statements.is_param.Given as goal

abbrev pub invariant-loop-param : goal.invariant-loop-param
invariant-loop-param l = has_name (param_names (drop l.param-index l.params)) l.name ≡ has_name (param_names l.fn.params) l.fn.name
