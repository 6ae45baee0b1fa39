-- E11, E20, E21 and E22: the first name, number or sort at which an expression or a declaration breaks one of these rules.
use Rattle.std.specs.Prelude.{ℕ, ◌^◌, Bool, true, false, not, ◌&&◌, nat_lt, if◌then◌else◌, List, [], ◌∷◌, Option, None, Some, is_none, is_some}
use Rattle.std.specs.Option.{option_or, option_map}
use Rattle.civl_tree.specs.declared.name.Name.{Name}
use Rattle.civl_tree.specs.declared.expr.Sort.{Sort}
use Rattle.civl_tree.specs.declared.expr.Sort.TheVariants.{Word}
use Rattle.civl_tree.specs.declared.expr.Expr.{Expr, out-Expr}
use Rattle.civl_tree.specs.declared.expr.Expr.TheOpen as expr
use Rattle.civl_tree.specs.declared.stmt.Stmt.{Stmt, out-Stmt}
use Rattle.civl_tree.specs.declared.stmt.Stmt.TheOpen.{Stmt-F, Assign, Call, Intro, Spawn}
use Rattle.civl_tree.specs.declared.action.Param.{Param}
use Rattle.civl_tree.specs.declared.action.Choice.{Choice}
use Rattle.civl_tree.specs.declared.action.Update.{Update}
use Rattle.civl_tree.specs.declared.action.Action.{Action}
use Rattle.civl_tree.specs.declared.program.Global.{Global}
use Rattle.civl_tree.specs.declared.program.Invariant.{Invariant}
use Rattle.civl_tree.specs.declared.program.Local.{Local}
use Rattle.civl_tree.specs.declared.program.Refines.{Refines}
use Rattle.civl_tree.specs.declared.program.Proc.{Proc}
use Rattle.civl_tree.specs.declared.program.Thread.{Thread}
use Rattle.civl_tree.specs.declared.program.Program.{Program}
use Rattle.civl_tree.specs.rules.Names.{has_name, global_names, proc_named, callee_signature}
use Rattle.civl_tree.specs.rules.Scopes.{Scope, sort_in, gate_scope, guard_scope}
use Rattle.civl_tree.specs.rules.Sorts.{same_sort, sort_of}
use Rattle.civl_tree.specs.rules.Exprs.{literal_fits, slice_in_range, widen_in_range, join_in_range, is_index}
use Rattle.civl_tree.specs.rules.Width.{sort_width_fits, is_linear}
use Rattle.civl_tree.specs.rules.Index.{sort_index}
use Rattle.civl_tree.specs.rules.Unknown.{target_unknown, refined_unknown, place_unknown}
use Rattle.civl_tree.specs.rules.Uses.{Use, Only, serves, truth_use, target_use, update_sort, place_sort, given_sorts, init_uses, invariant_uses, with_uses, stmt_uses, thread_uses}
use Rattle.civl_subjects.specs.declared.expr_rule.ExprRule.{ExprRule}
use Rattle.civl_subjects.specs.declared.expr_rule.ExprRule.TheVariants.{Unknown, Width, Sorts, Index}
use Rattle.civl_subjects.specs.Subjects.{Subject, OfName, OfSort, OfNeed, OfExpr, OfUnsorted, OfMissorted}
use Rattle.civl_subjects.specs.Parts.{first_told, first_part}

-- ---- a part of an expression

-- the part is a name, or `old` of one, that isn't in scope
abbrev pub form_unknown : Scope → expr.Expr-F Expr → Bool
form_unknown scope (expr.Name name) = is_none (sort_in scope.names name)
form_unknown scope (expr.Old name) = is_none (sort_in scope.olds name)
form_unknown scope _ = false

-- the part is a literal that doesn't fit its width, or a `slice`, `widen` or `join` that leaves its range
abbrev pub form_unfit : Scope → expr.Expr-F Expr → Bool
form_unfit scope (expr.Literal value width) = not (literal_fits value width)
form_unfit scope (expr.Slice word high low) = not (slice_in_range (sort_of scope word) high low)
form_unfit scope (expr.Widen word wider) = not (widen_in_range (sort_of scope word) wider)
form_unfit scope (expr.Join first second) = not (join_in_range (sort_of scope first) (sort_of scope second))
form_unfit scope _ = false

abbrev pub has_sort : Scope → Expr → Bool
has_sort scope expr = is_some (sort_of scope expr)

-- all operands of the part have a sort
abbrev pub operands_sorted : Scope → expr.Expr-F Expr → Bool
operands_sorted scope (expr.One op part) = has_sort scope part
operands_sorted scope (expr.Two op first second) = has_sort scope first && has_sort scope second
operands_sorted scope (expr.Pick test first second) = has_sort scope test && (has_sort scope first && has_sort scope second)
operands_sorted scope (expr.Get row at) = has_sort scope row && has_sort scope at
operands_sorted scope (expr.Set row at cell) = has_sort scope row && (has_sort scope at && has_sort scope cell)
operands_sorted scope (expr.Fill index cell) = has_sort scope cell
operands_sorted scope (expr.Slice word high low) = has_sort scope word
operands_sorted scope (expr.Widen word wider) = has_sort scope word
operands_sorted scope (expr.Join first second) = has_sort scope first && has_sort scope second
operands_sorted scope _ = true

-- the part has no sort, and all its operands have one
abbrev pub part_unsorted : Scope → Expr → Bool
part_unsorted scope part = not (has_sort scope part) && operands_sorted scope (out-Expr part)

-- the part is a row whose index is out of range
abbrev pub form_index : expr.Expr-F Expr → Bool
form_index (expr.Fill index cell) = not (is_index index)
form_index _ = false

-- the part breaks the rule by itself
abbrev pub part_breaks : ExprRule → Scope → Expr → Bool
part_breaks Unknown scope part = form_unknown scope (out-Expr part)
part_breaks Width scope part = form_unfit scope (out-Expr part)
part_breaks Sorts scope part = part_unsorted scope part
part_breaks Index scope part = form_index (out-Expr part)

-- what is told of a name, plain or in `old`, or of any other part
abbrev pub name_or_part : Expr → expr.Expr-F Expr → Subject
name_or_part part (expr.Name name) = OfName name
name_or_part part (expr.Old name) = OfName name
name_or_part part _ = OfExpr part

-- what is told of a part that breaks the rule
abbrev pub part_subject : ExprRule → Expr → Subject
part_subject Unknown part = name_or_part part (out-Expr part)
part_subject Width part = OfExpr part
part_subject Sorts part = OfUnsorted part
part_subject Index part = OfExpr part

-- ---- an expression at its place

-- an expression of this sort doesn't serve at its place
abbrev pub needs_subject : Use → Option Sort → Option Subject
needs_subject use_of None = None
needs_subject use_of (Some sort) = if serves (Some sort) use_of.need then None else Some (OfMissorted use_of.expression sort use_of.need)

-- what the place of an expression needs, under the rule on sorts
abbrev pub place_subject : ExprRule → Use → Option Subject
place_subject Unknown use_of = None
place_subject Width use_of = None
place_subject Sorts use_of = needs_subject use_of (sort_of use_of.scope use_of.expression)
place_subject Index use_of = None

-- the first part that breaks the rule; or the whole expression, where its place needs another sort
abbrev pub use_subject : ExprRule → Use → Option Subject
use_subject rule use_of =
    option_or (option_map (part_subject rule) (first_part (part_breaks rule use_of.scope) use_of.expression)) (place_subject rule use_of)

abbrev pub uses_subject : ExprRule → List Use → Option Subject
uses_subject rule uses = first_told (use_subject rule) uses

-- ---- a declared name

-- a linear name needs the sort of a word of this width
abbrev pub linear_subject : Bool → ℕ → Name → Sort → Option Subject
linear_subject linear width name sort = if linear && not (same_sort sort (Word width)) then Some (OfNeed name sort (Word width)) else None

-- a name with a sort whose widths or index are out of range; a linear one, of which a word of this width is needed
abbrev pub declared_subject : ExprRule → Bool → ℕ → Name → Sort → Option Subject
declared_subject Unknown linear width name sort = None
declared_subject Width linear width name sort =
    if sort_width_fits sort then linear_subject linear width name sort else Some (OfSort name sort)
declared_subject Sorts linear width name sort = None
declared_subject Index linear width name sort = if sort_index sort then Some (OfSort name sort) else None

abbrev pub param_subject : ExprRule → Program → Param → Option Subject
param_subject rule program param = declared_subject rule (is_linear param.mode) program.permissions param.name param.sort

abbrev pub local_subject : ExprRule → Program → Local → Option Subject
local_subject rule program declared = declared_subject rule declared.linear program.permissions declared.name declared.sort

-- ---- names that stand in no expression

-- the name, under the rule on names, where this is so
abbrev pub name_subject : ExprRule → Bool → Name → Option Subject
name_subject Unknown strange name = if strange then Some (OfName name) else None
name_subject Width strange name = None
name_subject Sorts strange name = None
name_subject Index strange name = None

-- ---- items, each in text order

-- the width of a word with one bit for each permission; E12 comes first, so there are at most 5 permissions
abbrev pub set_width : ℕ → ℕ
set_width permissions = if nat_lt permissions 32 then 2 ^ permissions else 0

abbrev pub global_subject : ExprRule → Program → Global → Option Subject
global_subject rule program global = declared_subject rule global.linear (set_width program.permissions) global.name global.sort

abbrev pub init_subject : ExprRule → Program → Option Subject
init_subject rule program = uses_subject rule (init_uses program)

abbrev pub invariant_subject : ExprRule → Program → Invariant → Option Subject
invariant_subject rule program invariant = uses_subject rule (invariant_uses program invariant)

-- `name : sort = expr`
abbrev pub choice_subject : ExprRule → Program → Action → Choice → Option Subject
choice_subject rule program action choice =
    option_or (declared_subject rule false program.permissions choice.name choice.sort)
    (use_subject rule (target_use (gate_scope program action) choice.offer (Some choice.sort)))

-- `name := expr`
abbrev pub update_subject : ExprRule → Program → Action → Update → Option Subject
update_subject rule program action update =
    option_or (name_subject rule (target_unknown program action update.target) update.target)
    (use_subject rule (target_use (guard_scope program action) update.expr (update_sort program action update.target)))

-- the gate, then the guard
abbrev pub conditions_subject : ExprRule → Program → Action → Option Subject
conditions_subject rule program action =
    option_or (use_subject rule (truth_use (gate_scope program action) action.gate))
    (use_subject rule (truth_use (guard_scope program action) action.guard))

abbrev pub action_subject : ExprRule → Program → Action → Option Subject
action_subject rule program action =
    option_or (first_told (param_subject rule program) action.params)
    (option_or (first_told (param_subject rule program) action.outs)
    (option_or (first_told (choice_subject rule program action) action.choices)
    (option_or (conditions_subject rule program action) (first_told (update_subject rule program action) action.updates))))

-- the name behind `refines`
abbrev pub refined_subject : ExprRule → Program → Option Refines → Option Subject
refined_subject rule program None = None
refined_subject rule program (Some refines) = name_subject rule (refined_unknown program (Some refines)) refines.action

-- a procedure up to its statements
abbrev pub proc_subject : ExprRule → Program → Proc → Option Subject
proc_subject rule program proc =
    option_or (first_told (param_subject rule program) proc.params)
    (option_or (first_told (param_subject rule program) proc.outs)
    (option_or (refined_subject rule program proc.refines)
    (option_or (uses_subject rule (with_uses program proc proc.refines)) (first_told (local_subject rule program) proc.locals))))

abbrev pub thread_subject : ExprRule → Program → Thread → Option Subject
thread_subject rule program thread =
    option_or (name_subject rule (is_none (proc_named program thread.callee)) thread.callee)
    (uses_subject rule (thread_uses program thread))

-- ---- statements, without those in them

-- the target or the callee, which stands in front
abbrev pub front_subject : ExprRule → Program → Proc → Stmt-F Stmt → Option Subject
front_subject rule program proc (Assign target value) = name_subject rule (place_unknown proc target) target
front_subject rule program proc (Call callee args results) = name_subject rule (is_none (callee_signature program callee)) callee
front_subject rule program proc (Intro target value) = name_subject rule (not (has_name (global_names program.globals) target)) target
front_subject rule program proc (Spawn callee args) = name_subject rule (is_none (proc_named program callee)) callee
front_subject rule program proc _ = None

-- a result that hasn't the sort of the output in its place
abbrev pub result_sort : Name → Option Sort → Sort → Option Subject
result_sort result None out = None
result_sort result (Some sort) out = if serves (Some sort) (Only out) then None else Some (OfNeed result sort out)

abbrev pub results_sort : Proc → List Name → List Sort → Option Subject
results_sort proc [] outs = None
results_sort proc (result ∷ results) [] = None
results_sort proc (result ∷ results) (out ∷ outs) =
    option_or (result_sort result (place_sort proc result) out) (results_sort proc results outs)

-- the results of a call, where its outputs have these sorts
abbrev pub results_subject : ExprRule → Proc → List Name → List Sort → Option Subject
results_subject Unknown proc results outs = first_told (λ result. name_subject Unknown (place_unknown proc result) result) results
results_subject Width proc results outs = None
results_subject Sorts proc results outs = results_sort proc results outs
results_subject Index proc results outs = None

-- the results of a call stand last
abbrev pub last_subject : ExprRule → Program → Proc → Stmt-F Stmt → Option Subject
last_subject rule program proc (Call callee args results) =
    results_subject rule proc results (given_sorts (callee_signature program callee))
last_subject rule program proc _ = None

abbrev pub stmt_subject : ExprRule → Program → Proc → Stmt → Option Subject
stmt_subject rule program proc stmt =
    option_or (front_subject rule program proc (out-Stmt stmt))
    (option_or (uses_subject rule (stmt_uses program proc stmt)) (last_subject rule program proc (out-Stmt stmt)))
