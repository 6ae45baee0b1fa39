-- The expressions of a program: each with the scope of its place and the sort that its place needs.
use Rattle.std.specs.Prelude.{Bool, true, false, List, [], ◌∷◌, ◌++◌, map, Option, None, Some}
use Rattle.civl_tree.specs.declared.name.Name.{Name}
use Rattle.civl_tree.specs.declared.expr.Sort.{Sort}
use Rattle.civl_tree.specs.declared.expr.Sort.TheVariants.{Bool as Truth, Word, Row}
use Rattle.civl_tree.specs.declared.expr.Expr.{Expr}
use Rattle.civl_tree.specs.declared.stmt.Stmt.{Stmt, out-Stmt}
use Rattle.civl_tree.specs.declared.stmt.Stmt.TheOpen.{Stmt-F, Assign, Assert, If, While, YieldLoop, RankLoop, Call, Yield, Commit, Intro, Spawn}
use Rattle.civl_tree.specs.declared.action.Param.{Param}
use Rattle.civl_tree.specs.declared.action.Action.{Action}
use Rattle.civl_tree.specs.declared.program.Invariant.{Invariant}
use Rattle.civl_tree.specs.declared.program.Refines.{Refines}
use Rattle.civl_tree.specs.declared.program.Proc.{Proc}
use Rattle.civl_tree.specs.declared.program.Thread.{Thread}
use Rattle.civl_tree.specs.declared.program.Program.{Program}
use Rattle.civl_tree.specs.rules.Names.{Signature, callee_signature, action_named, proc_named, proc_signature_of}
use Rattle.civl_tree.specs.rules.Scopes.{Scope, sort_in, bind_globals, bind_params, bind_proc, global_scope, gate_scope, guard_scope, body_scope, note_scope}
use Rattle.civl_tree.specs.rules.Sorts.{same_sort}

-- what the place of an expression needs: any sort, a word of any width, or this sort
pub data Need : Type 0 where
  AnySort AnyWord : Need
  Only : Sort → Need

-- an expression at a place
pub record Use : Type 0 where
  pub scope : Scope
  pub expression : Expr
  pub need : Need

-- it is a word
abbrev pub is_any_word : Sort → Bool
is_any_word Truth = false
is_any_word (Word width) = true
is_any_word (Row index width) = false

-- an expression of this sort, or of none, serves at a place with this need
abbrev pub serves : Option Sort → Need → Bool
serves None need = false
serves (Some sort) AnySort = true
serves (Some sort) AnyWord = is_any_word sort
serves (Some sort) (Only other) = same_sort sort other

-- what the value for a target needs: the target's sort, where there is this target
abbrev pub need_of : Option Sort → Need
need_of None = AnySort
need_of (Some sort) = Only sort

-- a condition, an invariant, a gate or a guard
abbrev pub truth_use : Scope → Expr → Use
truth_use scope expression = record { scope = scope; expression = expression; need = Only Truth }

abbrev pub target_use : Scope → Expr → Option Sort → Use
target_use scope expression target = record { scope = scope; expression = expression; need = need_of target }

-- arguments for places of these sorts; one for which there is no place needs any sort
abbrev pub argument_uses : Scope → List Expr → List Sort → List Use
argument_uses scope [] sorts = []
argument_uses scope (arg ∷ args) [] = target_use scope arg None ∷ argument_uses scope args []
argument_uses scope (arg ∷ args) (sort ∷ sorts) = target_use scope arg (Some sort) ∷ argument_uses scope args sorts

abbrev pub param_sorts : List Param → List Sort
param_sorts params = map (λ param. param.sort) params

-- the sorts of what a callee takes, and of what it gives; none where there is no such callee
abbrev pub taken_sorts : Option Signature → List Sort
taken_sorts None = []
taken_sorts (Some signature) = param_sorts signature.params

abbrev pub given_sorts : Option Signature → List Sort
given_sorts None = []
given_sorts (Some signature) = param_sorts signature.outs

-- the sorts of an action's choices; none where there is no such action
abbrev pub chosen_sorts : Option Action → List Sort
chosen_sorts None = []
chosen_sorts (Some action) = map (λ choice. choice.sort) action.choices

-- ---- the expressions of each item, in text order

abbrev pub init_uses : Program → List Use
init_uses program = truth_use (global_scope program) program.init ∷ []

abbrev pub invariant_uses : Program → Invariant → List Use
invariant_uses program invariant = truth_use (global_scope program) invariant.expr ∷ []

-- what an action may update: the globals, and its outputs
abbrev pub update_sort : Program → Action → Name → Option Sort
update_sort program action target = sort_in (bind_globals program.globals ++ bind_params action.outs) target

-- the offers, the gate, the guard and the updates
abbrev pub action_uses : Program → Action → List Use
action_uses program action =
    map (λ choice. target_use (gate_scope program action) choice.offer (Some choice.sort)) action.choices
    ++ truth_use (gate_scope program action) action.gate ∷ truth_use (guard_scope program action) action.guard
    ∷ map (λ update. target_use (guard_scope program action) update.expr (update_sort program action update.target)) action.updates

-- the values after `with`, for the choices of the action that the procedure refines; a root has none
abbrev pub with_uses : Program → Proc → Option Refines → List Use
with_uses program proc None = []
with_uses program proc (Some refines) = argument_uses (note_scope program proc) refines.with (chosen_sorts (action_named program refines.action))

-- the sort of a parameter, an output or a local
abbrev pub place_sort : Proc → Name → Option Sort
place_sort proc name = sort_in (bind_proc proc) name

abbrev pub form_uses : Program → Proc → Stmt-F Stmt → List Use
form_uses program proc (Assign target value) = target_use (body_scope program proc) value (place_sort proc target) ∷ []
form_uses program proc (Assert fact) = truth_use (body_scope program proc) fact ∷ []
form_uses program proc (If test first second) = truth_use (body_scope program proc) test ∷ []
form_uses program proc (While test body) = truth_use (body_scope program proc) test ∷ []
form_uses program proc (YieldLoop test inv body) = truth_use (body_scope program proc) test ∷ truth_use (note_scope program proc) inv ∷ []
form_uses program proc (RankLoop test rank inv body) =
    truth_use (body_scope program proc) test ∷ record { scope = note_scope program proc; expression = rank; need = AnyWord }
    ∷ truth_use (note_scope program proc) inv ∷ []
form_uses program proc (Call callee args results) = argument_uses (body_scope program proc) args (taken_sorts (callee_signature program callee))
form_uses program proc (Yield inv) = truth_use (note_scope program proc) inv ∷ []
form_uses program proc Commit = []
form_uses program proc (Intro target value) = target_use (note_scope program proc) value (sort_in (bind_globals program.globals) target) ∷ []
form_uses program proc (Spawn callee args) = argument_uses (body_scope program proc) args (taken_sorts (proc_signature_of (proc_named program callee)))

-- the expressions of a statement itself, without those of the statements in it
abbrev pub stmt_uses : Program → Proc → Stmt → List Use
stmt_uses program proc stmt = form_uses program proc (out-Stmt stmt)

abbrev pub thread_uses : Program → Thread → List Use
thread_uses program thread = argument_uses (global_scope program) thread.args (taken_sorts (proc_signature_of (proc_named program thread.callee)))
