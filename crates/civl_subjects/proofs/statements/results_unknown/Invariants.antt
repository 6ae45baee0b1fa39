use Rattle.std.proofs.Common.{◌≡◌, drop}
use Rattle.civl_tree.specs.rules.Unknown.{place_unknown}
use Rattle.civl_subjects.specs.declared.expr_rule.ExprRule.TheVariants.{Unknown}
use Rattle.civl_subjects.specs.Parts.{first_told}
use Rattle.civl_subjects.specs.Places.{name_subject}
use Rattle.civl_subjects.proofs.statements.results_unknown.Given as goal

abbrev pub invariant-loop-name : goal.invariant-loop-name
invariant-loop-name l =
    first_told (λ name. name_subject Unknown (place_unknown l.proc name) name) (drop l.name-index l.results)
    ≡ first_told (λ name. name_subject Unknown (place_unknown l.fn.proc name) name) l.fn.results
