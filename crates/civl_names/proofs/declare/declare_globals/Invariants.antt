use Rattle.std.proofs.Common.{◌≡◌, drop, take}
use Rattle.civl_tree.specs.rules.Names.{global_names}
use Rattle.civl_tree.specs.rules.Rules.{global_places}
use Rattle.civl_tree.specs.rules.Typing.{twice_rule}
use Rattle.civl_names.specs.inner.NameSets.{names_in, first_twice}
use Rattle.civl_names.proofs.declare.declare_globals.Given as goal

abbrev pub invariant-loop-place : goal.invariant-loop-place
invariant-loop-place l =
    (first_twice (global_places twice_rule l.program) l.place (drop l.place l.items)
    ≡ first_twice (global_places twice_rule l.fn.program) 0 l.fn.program.globals)
    × (names_in l.globals ≡ global_names (take l.place l.fn.program.globals))
