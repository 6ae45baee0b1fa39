use Rattle.std.proofs.Common.{◌≡◌, drop}
use Rattle.civl_tree.specs.rules.Names.{global_names, has_name}
use Rattle.civl_lines.proofs.naming.is_global.Given as goal

abbrev pub invariant-loop-global : goal.invariant-loop-global
invariant-loop-global l = has_name (global_names (drop l.global-index l.globals)) l.name ≡ has_name (global_names l.fn.globals) l.fn.name
