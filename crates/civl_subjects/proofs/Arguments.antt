-- Arguments, one by one.
use Rattle.std.proofs.Common.{◌≡◌, ℕ, ◌+◌, ◌<◌, List, drop, length, get_or, Option, sym, ap, ◌∙◌}
use Rattle.std.specs.Prelude.{slice_get}
use Rattle.std.specs.Option.{option_or}
use Rattle.civl_tree.specs.declared.expr.Sort.{Sort}
use Rattle.civl_tree.specs.declared.expr.Expr.{Expr}
use Rattle.civl_tree.specs.rules.Scopes.{Scope}
use Rattle.civl_tree.specs.rules.Uses.{argument_uses, target_use}
use Rattle.civl_types.proofs.Slots.{next_use}
use Rattle.civl_subjects.specs.declared.expr_rule.ExprRule.{ExprRule}
use Rattle.civl_subjects.specs.Subjects.{Subject}
use Rattle.civl_subjects.specs.Places.{use_subject, uses_subject}

-- what is told of the arguments from this one on
pub next_argument : (rule : ExprRule) (scope : Scope) (args : List Expr) (sorts : List Sort) (at : ℕ) (arg : Expr) (sort : Option Sort) (told : Option Subject)
    → at < length args → arg ≡ get_or args at arg → sort ≡ slice_get sorts at → told ≡ use_subject rule (target_use scope arg sort)
    → uses_subject rule (argument_uses scope (drop at args) (drop at sorts))
    ≡ option_or told (uses_subject rule (argument_uses scope (drop (at + 1) args) (drop (at + 1) sorts)))
next_argument rule scope args sorts at arg sort told l e s t =
    let rest = uses_subject rule (argument_uses scope (drop (at + 1) args) (drop (at + 1) sorts)) in
    ap (uses_subject rule) (next_use scope args sorts at arg l e)
    ∙ ap (λ (o : Option Subject). option_or o rest) (sym (t ∙ ap (λ (x : Option Sort). use_subject rule (target_use scope arg x)) s))
