-- Laws of spellings and numbers.
use Rattle.std.specs.Prelude.{◌≡◌, ℕ, Bool, true, IsTrue, length, List, [], ◌∷◌, ◌++◌, map, Some, slice_get, codes}
use Rattle.std.specs.List.{AllByRecursion, list_all}
use Rattle.civl_tree.specs.declared.expr.Expr.{Expr}
use Rattle.civl_tree.specs.declared.stmt.Stmt.{Stmt}
use Rattle.civl_tree.specs.declared.stmt.Stmt as stmt
use Rattle.civl_tree.specs.declared.action.Action.{Action}
use Rattle.civl_tree.specs.declared.program.Global.{Global}
use Rattle.civl_tree.specs.declared.program.Invariant.{Invariant}
use Rattle.civl_tree.specs.declared.program.Proc.{Proc}
use Rattle.civl_tree.specs.declared.program.Thread.{Thread}
use Rattle.civl_tree.specs.declared.program.Program.{Program}
use Rattle.civl_tree.specs.declared.script.Script.{Script}
use Rattle.civl_tree.specs.Token.{Token, Named, Reserved, Sign, Number, is_name, is_reserved, is_sign}
use Rattle.civl_tree.specs.Spelling.{semicolon, joined}
use Rattle.civl_tree.specs.SpellingProgram.{spell_global, spell_init, spell_invariant, spell_action, spell_proc, spell_thread, spell_program}
use Rattle.civl_tree.specs.Numbering.{Item, OfGlobal, OfInit, OfInvariant, OfAction, OfProc, OfThread, items_of, item_count, global_item, init_item, invariant_item, action_item, proc_item, thread_item, sizes_of, numbered, inner_number, second_number, statements_of, statement_at}
use Rattle.civl_tree.specs.Raised.{raised}
use Rattle.civl_tree.specs.SpellingScript.{spell_script}
use Rattle.civl_tree.specs.SpellingDomain.{HasSpelling, ScriptHasSpelling}

-- where a program has a spelling, the program that is printed for it has one
abbrev pub RaisedHasSpelling : Type 0
RaisedHasSpelling = (program : Program) → HasSpelling program → HasSpelling (raised program)

-- counted by parts, a body has as many statements as listed in text order
abbrev pub SizesAreCounts : Type 0
SizesAreCounts = (body : List Stmt) → length (statements_of body) ≡ sizes_of body

-- these statements, numbered by counts from this number on, are those that stand in the body at these numbers
abbrev pub AreNumberedIn : List Stmt → ℕ → List Stmt → Type 0
AreNumberedIn body number stmts = AllByRecursion (λ (pair : ℕ × Stmt). statement_at body pair.0 ≡ Some pair.1) (numbered number stmts)

-- the statements of a body are numbered from 0
abbrev pub BodyIsNumbered : Type 0
BodyIsNumbered = (body : List Stmt) → AreNumberedIn body 0 body

-- wherever an `if` stands in a body, the statements of its first branch are numbered from the number behind its own,
-- and those of its second branch from the number behind all of these
abbrev pub BranchesAreNumbered : Type 0
BranchesAreNumbered =
    (body : List Stmt) (number : ℕ) (test : Expr) (first second : List Stmt) → statement_at body number ≡ Some (stmt.If test first second)
    → AreNumberedIn body (inner_number number) first × AreNumberedIn body (second_number number first) second

-- wherever a loop stands in a body, the statements in it are numbered from the number behind its own
abbrev pub LoopsAreNumbered : Type 0
LoopsAreNumbered =
    (body : List Stmt) (number : ℕ) (inside : List Stmt)
    → ((test : Expr) → statement_at body number ≡ Some (stmt.While test inside) → AreNumberedIn body (inner_number number) inside)
    × ((test inv : Expr) → statement_at body number ≡ Some (stmt.YieldLoop test inv inside) → AreNumberedIn body (inner_number number) inside)
    × ((test rank inv : Expr) → statement_at body number ≡ Some (stmt.RankLoop test rank inv inside) → AreNumberedIn body (inner_number number) inside)

-- the tokens of an item
abbrev pub spell_item : Item → List Token
spell_item (OfGlobal global) = spell_global global
spell_item (OfInit expr) = spell_init expr
spell_item (OfInvariant invariant) = spell_invariant invariant
spell_item (OfAction action) = spell_action action
spell_item (OfProc proc) = spell_proc proc
spell_item (OfThread thread) = spell_thread thread

-- the tokens of the three header numbers
abbrev pub spell_header : Program → List Token
spell_header program =
    Reserved (codes "civl") ∷ Number program.version ∷ semicolon
    ∷ Reserved (codes "layers") ∷ Number program.layers ∷ semicolon
    ∷ Reserved (codes "permissions") ∷ Number program.permissions ∷ semicolon
    ∷ []

-- the text is the header and then the items in the order of their numbers
abbrev pub ItemsAreInTextOrder : Type 0
ItemsAreInTextOrder = (program : Program) → spell_program program ≡ spell_header program ++ joined (map spell_item (items_of program))

-- the item at this number
abbrev pub IsItem : Program → ℕ → Item → Type 0
IsItem program number item = slice_get (items_of program) number ≡ Some item

-- each declaration is the item that has its number, and there are as many items as counted
abbrev pub ItemsAreNumbered : Type 0
ItemsAreNumbered =
    (program : Program) (place : ℕ)
    → ((global : Global) → slice_get program.globals place ≡ Some global → IsItem program (global_item program place) (OfGlobal global))
    × IsItem program (init_item program) (OfInit program.init)
    × ((invariant : Invariant) → slice_get program.invariants place ≡ Some invariant → IsItem program (invariant_item program place) (OfInvariant invariant))
    × ((action : Action) → slice_get program.actions place ≡ Some action → IsItem program (action_item program place) (OfAction action))
    × ((proc : Proc) → slice_get program.procs place ≡ Some proc → IsItem program (proc_item program place) (OfProc proc))
    × ((thread : Thread) → slice_get program.threads place ≡ Some thread → IsItem program (thread_item program place) (OfThread thread))
    × (length (items_of program) ≡ item_count program)

-- the token may stand in a text: a name, a reserved word, a sign, or a number, which has 32 bits where it comes from a tree
abbrev pub may_stand : Token → Bool
may_stand (Named bytes) = is_name bytes
may_stand (Reserved bytes) = is_reserved bytes
may_stand (Sign bytes) = is_sign bytes
may_stand (Number value) = true

-- where a program or a script has a spelling, each of its tokens may stand in a text
abbrev pub TokensMayStand : Type 0
TokensMayStand =
    ((program : Program) → HasSpelling program → IsTrue (list_all may_stand (spell_program program)))
    × ((script : Script) → ScriptHasSpelling script → IsTrue (list_all may_stand (spell_script script)))
