-- Part of the claim: docs/CLAIM.md.
-- The spelling of declarations and programs: from the tree to the tokens, by the grammar.
use Rattle.std.specs.Prelude.{Bool, if◌then◌else◌, Option, None, Some, List, [], ◌∷◌, ◌++◌, map, codes}
use Rattle.civl_tree.specs.declared.expr.Expr.{Expr}
use Rattle.civl_tree.specs.declared.action.Mode.{Mode}
use Rattle.civl_tree.specs.declared.action.Mode.TheVariants.{Val, Lend, Take, Give}
use Rattle.civl_tree.specs.declared.action.Mover.{Mover}
use Rattle.civl_tree.specs.declared.action.Mover.TheVariants.{Atomic, Right, Left, Both}
use Rattle.civl_tree.specs.declared.action.Param.{Param}
use Rattle.civl_tree.specs.declared.action.Choice.{Choice}
use Rattle.civl_tree.specs.declared.action.Update.{Update}
use Rattle.civl_tree.specs.declared.action.Action.{Action}
use Rattle.civl_tree.specs.declared.program.Refines.{Refines}
use Rattle.civl_tree.specs.declared.program.Local.{Local}
use Rattle.civl_tree.specs.declared.program.Proc.{Proc}
use Rattle.civl_tree.specs.declared.program.Global.{Global}
use Rattle.civl_tree.specs.declared.program.Invariant.{Invariant}
use Rattle.civl_tree.specs.declared.program.Thread.{Thread}
use Rattle.civl_tree.specs.declared.program.Program.{Program}
use Rattle.civl_tree.specs.Token.{Token, Reserved, Sign, Number}
use Rattle.civl_tree.specs.Spelling.{semicolon, colon, becomes, arrow, name_token, joined, enclosed, block, optional, open_brace, close_brace, spell_sort, spell_expr}
use Rattle.civl_tree.specs.SpellingStmt.{spell_stmt}

-- global = global [linear] name : sort layers number to number ;
abbrev pub spell_global : Global → List Token
spell_global global =
    Reserved (codes "global") ∷ optional global.linear (Reserved (codes "linear")) (name_token global.name ∷ colon ∷ spell_sort global.sort
    ++ Reserved (codes "layers") ∷ Number global.first ∷ Reserved (codes "to") ∷ Number global.last ∷ semicolon ∷ [])

-- init = init expr ;
abbrev pub spell_init : Expr → List Token
spell_init expr = Reserved (codes "init") ∷ spell_expr expr ++ semicolon ∷ []

-- invariant = invariant number expr ;
abbrev pub spell_invariant : Invariant → List Token
spell_invariant invariant = Reserved (codes "invariant") ∷ Number invariant.step ∷ spell_expr invariant.expr ++ semicolon ∷ []

-- val, lend, take or give
abbrev pub mode_token : Mode → Token
mode_token Val = Reserved (codes "val")
mode_token Lend = Reserved (codes "lend")
mode_token Take = Reserved (codes "take")
mode_token Give = Reserved (codes "give")

-- param = val name : sort | lend name : sort | take name : sort
abbrev pub spell_param : Param → List Token
spell_param param = mode_token param.mode ∷ name_token param.name ∷ colon ∷ spell_sort param.sort

-- out = val name : sort | give name : sort
abbrev pub spell_out : Param → List Token
spell_out out = mode_token out.mode ∷ name_token out.name ∷ colon ∷ spell_sort out.sort

-- choice = name : sort = expr
abbrev pub spell_choice : Choice → List Token
spell_choice choice = name_token choice.name ∷ colon ∷ spell_sort choice.sort ++ (Sign (codes "=") ∷ spell_expr choice.offer)

-- mover = atomic | right | left | both
abbrev pub mover_token : Mover → Token
mover_token Atomic = Reserved (codes "atomic")
mover_token Right = Reserved (codes "right")
mover_token Left = Reserved (codes "left")
mover_token Both = Reserved (codes "both")

-- update = name := expr ;
abbrev pub spell_update : Update → List Token
spell_update update = name_token update.target ∷ becomes ∷ spell_expr update.expr ++ semicolon ∷ []

-- action = action name ( list(param) ) -> ( list(out) ) choose ( list(choice) ) layers number to number mover
--          gate expr guard expr { update* }
abbrev pub spell_action : Action → List Token
spell_action action =
    Reserved (codes "action") ∷ name_token action.name ∷ enclosed spell_param action.params
    ++ (arrow ∷ enclosed spell_out action.outs
    ++ (Reserved (codes "choose") ∷ enclosed spell_choice action.choices
    ++ (Reserved (codes "layers") ∷ Number action.first ∷ Reserved (codes "to") ∷ Number action.last ∷ mover_token action.mover
    ∷ Reserved (codes "gate") ∷ spell_expr action.gate
    ++ (Reserved (codes "guard") ∷ spell_expr action.guard
    ++ block (map spell_update action.updates)))))

-- rank_of = root | refines name with ( list(expr) ) layer number
abbrev pub spell_rank_of : Option Refines → List Token
spell_rank_of None = Reserved (codes "root") ∷ []
spell_rank_of (Some refines) =
    Reserved (codes "refines") ∷ name_token refines.action ∷ Reserved (codes "with") ∷ enclosed spell_expr refines.with
    ++ Reserved (codes "layer") ∷ Number refines.layer ∷ []

-- var, or linear
abbrev pub local_token : Bool → Token
local_token linear = if linear then Reserved (codes "linear") else Reserved (codes "var")

-- local = var name : sort ; | linear name : sort ;
abbrev pub spell_local : Local → List Token
spell_local local = local_token local.linear ∷ name_token local.name ∷ colon ∷ spell_sort local.sort ++ semicolon ∷ []

-- proc = proc name ( list(param) ) -> ( list(out) ) rank_of { local* stmt* }
abbrev pub spell_proc : Proc → List Token
spell_proc proc =
    Reserved (codes "proc") ∷ name_token proc.name ∷ enclosed spell_param proc.params
    ++ (arrow ∷ enclosed spell_out proc.outs
    ++ (spell_rank_of proc.refines
    ++ (open_brace ∷ joined (map spell_local proc.locals) ++ (joined (map spell_stmt proc.body) ++ close_brace ∷ []))))

-- thread = thread name ( list(expr) ) ;
abbrev pub spell_thread : Thread → List Token
spell_thread thread = Reserved (codes "thread") ∷ name_token thread.callee ∷ enclosed spell_expr thread.args ++ semicolon ∷ []

-- program = civl number ; layers number ; permissions number ; global* init invariant* action* proc* thread*
abbrev pub spell_program : Program → List Token
spell_program program =
    Reserved (codes "civl") ∷ Number program.version ∷ semicolon
    ∷ Reserved (codes "layers") ∷ Number program.layers ∷ semicolon
    ∷ Reserved (codes "permissions") ∷ Number program.permissions ∷ semicolon
    ∷ joined (map spell_global program.globals)
    ++ (spell_init program.init
    ++ (joined (map spell_invariant program.invariants)
    ++ (joined (map spell_action program.actions)
    ++ (joined (map spell_proc program.procs)
    ++ joined (map spell_thread program.threads)))))
