-- The two rules on outlines: that holds and notes are expressions of their places (E90), and that the topmost program runs
-- roots, which call actions (E91).
use Rattle.std.specs.Prelude.{ℕ, ◌+◌, Bool, false, not, ◌&&◌, nat_eq, nat_lt, is_none, if◌then◌else◌, List, [], ◌∷◌, ◌++◌, length, Option}
use Rattle.std.specs.List.{find, list_any}
use Rattle.std.specs.Option.{option_map, option_map_or}
use Rattle.civl_tree.specs.declared.name.Name.{Name}
use Rattle.civl_tree.specs.declared.expr.Expr.{Expr}
use Rattle.civl_tree.specs.declared.stmt.Stmt.{Stmt, out-Stmt}
use Rattle.civl_tree.specs.declared.stmt.Stmt.TheOpen.{Stmt-F, Call, Spawn}
use Rattle.civl_tree.specs.declared.program.Proc.{Proc}
use Rattle.civl_tree.specs.declared.program.Thread.{Thread}
use Rattle.civl_tree.specs.declared.program.Program.{Program}
use Rattle.civl_tree.specs.Numbering.{proc_item, thread_item, sizes_of}
use Rattle.civl_tree.specs.rules.Names.{action_named, proc_named}
use Rattle.civl_tree.specs.rules.Scopes.{Scope, bind_globals, bind_proc}
use Rattle.civl_tree.specs.rules.Exprs.{names_known, widths_fit, indices_fit}
use Rattle.civl_tree.specs.rules.Sorts.{sort_of, is_truth}
use Rattle.civl_tree.specs.rules.Rules.{Place, item_place, statement_places, statements_where, each_place}
use Rattle.civl_yields.specs.Places.{stray, no_leave}
use Rattle.civl_outlines.specs.declared.outline.Note.{Note}
use Rattle.civl_outlines.specs.declared.outline.Outline.{Outline}
use Rattle.civl_conditions.specs.Steps.{each_at}
use Rattle.civl_goals.specs.Outlines.{top_globals}
use Rattle.civl_goals.specs.Listed.{is_root}

-- ---- E90: holds and notes

-- a bool over these names, in range, without `done` and `old(..)`
abbrev pub says_of : Scope → Expr → Bool
says_of scope e = names_known scope e && (widths_fit scope e && (is_truth (sort_of scope e) && (indices_fit e && not (stray no_leave e))))

-- the globals of the topmost program
abbrev pub hold_scope : Program → Scope
hold_scope program = record { names = bind_globals (top_globals program); olds = [] }

-- these, and the names of the procedure
abbrev pub outline_scope : Program → Proc → Scope
outline_scope program proc = record { names = bind_globals (top_globals program) ++ bind_proc proc; olds = [] }

-- the root that is this item
abbrev pub root_at : Program → ℕ → Option Proc
root_at program item = option_map (λ (q : ℕ × Proc). q.1) (find (λ (q : ℕ × Proc). nat_eq (proc_item program q.0) item && is_root q.1) (each_at (λ r proc. (r, proc) ∷ []) 0 program.procs))

abbrev pub same_place : Note → Note → Bool
same_place a b = nat_eq a.item b.item && nat_eq a.statement b.statement

-- it stands before a statement of this procedure, and says something of that place
abbrev pub stands_in : Program → Note → Proc → Bool
stands_in program note proc = nat_lt note.statement (sizes_of proc.body) && says_of (outline_scope program proc) note.expr

-- it stands before a statement of a root, before which no earlier one stands, and says something of that place
abbrev pub note_fits : Program → List Note → Note → Bool
note_fits program earlier note =
    option_map_or (stands_in program note) (root_at program note.item) false && not (list_any (same_place note) earlier)

-- the numbers of the notes that don't fit, where these stand before them and the first has this number
abbrev pub misplaced : Program → List Note → ℕ → List Note → List ℕ
misplaced program earlier number [] = []
misplaced program earlier number (note ∷ notes) =
    (if note_fits program earlier note then [] else number ∷ []) ++ misplaced program (earlier ++ note ∷ []) (number + 1) notes

-- the numbers of the holds that don't fit
abbrev pub unfit_holds : Program → List Expr → List ℕ
unfit_holds program holds = each_at (λ number e. if says_of (hold_scope program) e then [] else number ∷ []) 0 holds

-- holds and notes are numbered together, from 0
abbrev pub unfit : Program → Outline → List ℕ
unfit program outline = unfit_holds program outline.holds ++ misplaced program [] (length outline.holds) outline.notes

-- ---- E91: roots call actions, and threads run roots

-- it is a procedure that refines an action
abbrev pub names_layered : Program → Name → Bool
names_layered program name = option_map_or (λ proc. not (is_root proc)) (proc_named program name) false

-- a call of it is a call of a root
abbrev pub names_root : Program → Name → Bool
names_root program name = is_none (action_named program name) && option_map_or is_root (proc_named program name) false

-- a statement of a root that calls a root, or spawns a procedure that refines an action
abbrev pub form_descends : Program → Stmt-F Stmt → Bool
form_descends program (Call callee args results) = names_root program callee
form_descends program (Spawn callee args) = names_layered program callee
form_descends program _ = false

-- the places of such statements in a procedure, where it is a root
abbrev pub descending_in : Program → ℕ → Proc → List Place
descending_in program r proc = statement_places (proc_item program r) (if is_root proc then statements_where (λ stmt. form_descends program (out-Stmt stmt)) proc else [])

-- that of a declared thread which calls a procedure that refines an action
abbrev pub descending_thread : Program → ℕ → Thread → List Place
descending_thread program i thread = item_place (thread_item program i) (names_layered program thread.callee)

abbrev pub descending : Program → List Place
descending program = each_place (descending_in program) 0 program.procs ++ each_place (descending_thread program) 0 program.threads
