-- The holds of an outline are bools of the globals.
use Rattle.std.specs.Prelude.{All, get_or}
use Rattle.std.proofs.Common.{◌≡◌, ℕ, ◌<◌, List, length, sym, subst}
use Rattle.std.proofs.lemmas.List.Elements.{All-get_or}
use Rattle.civl_tree.specs.declared.expr.Expr.{Expr}
use Rattle.civl_tree.specs.declared.expr.Sort.TheVariants.{Bool as Truth}
use Rattle.civl_tree.specs.declared.program.Program.{Program}
use Rattle.civl_tree.specs.rules.Scopes.{global_scope}
use Rattle.civl_states.specs.Notes.{HasType}
use Rattle.civl_outlines.specs.declared.outline.Outline.{Outline}
use Rattle.civl_goal_terms.specs.inner.Outlined.{IsOutlined}

-- one of them, where they are lent
pub hold_typed : (program : Program) (outline : Outline) → IsOutlined program outline → (holds : List Expr) (k : ℕ) (e : Expr) → holds ≡ outline.holds → k < length holds → e ≡ get_or holds k e → HasType (global_scope program) e Truth
hold_typed program outline o holds k e same below is =
    let P : Expr → Type 0 = λ d. HasType (global_scope program) d Truth in
    subst P (sym is) (All-get_or P holds k e below (subst (All P) (sym same) o.holds))
