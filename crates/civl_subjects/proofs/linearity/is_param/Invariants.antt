use Rattle.std.proofs.Common.{◌≡◌, drop}
use Rattle.civl_tree.specs.rules.Names.{has_name, param_names}
use Rattle.civl_linear.specs.Places.{is_param}
use Rattle.civl_subjects.proofs.linearity.is_param.Given as goal

abbrev pub invariant-loop-param : goal.invariant-loop-param
invariant-loop-param l = has_name (param_names (drop l.param-index l.param-items)) l.name ≡ is_param l.fn.proc l.fn.name
