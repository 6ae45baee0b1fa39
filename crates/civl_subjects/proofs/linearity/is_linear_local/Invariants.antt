use Rattle.std.proofs.Common.{◌≡◌, drop}
use Rattle.std.specs.Prelude.{◌&&◌}
use Rattle.std.specs.List.{list_any}
use Rattle.civl_tree.specs.rules.Names.{same_name}
use Rattle.civl_linear.specs.Places.{is_linear_local}
use Rattle.civl_subjects.proofs.linearity.is_linear_local.Given as goal

abbrev pub invariant-loop-local : goal.invariant-loop-local
invariant-loop-local l =
    list_any (λ declared. declared.linear && same_name declared.name l.name) (drop l.local-index l.local-items)
    ≡ is_linear_local l.fn.proc l.fn.name
