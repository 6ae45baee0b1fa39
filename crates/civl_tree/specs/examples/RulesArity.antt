-- Programs with a wrong number of arguments or results, an output without an update, or a thread with outputs; and
-- procedures whose signature isn't that of their action.
use Rattle.std.specs.Prelude.{ℕ, ◌≡◌, List, [], ◌∷◌, codes}
use Rattle.civl_tree.specs.declared.expr.Expr as expr
use Rattle.civl_tree.specs.declared.expr.Sort.TheVariants.{Bool as Truth, Word}
use Rattle.civl_tree.specs.declared.stmt.Stmt as stmt
use Rattle.civl_tree.specs.declared.action.Mode.{Mode}
use Rattle.civl_tree.specs.declared.action.Mode.TheVariants.{Val, Lend, Take}
use Rattle.civl_tree.specs.declared.action.Param.{Param}
use Rattle.civl_tree.specs.declared.program.Program.{Program}
use Rattle.civl_tree.specs.rules.Rules.{Keeps, refusals_of}
use Rattle.civl_tree.specs.rules.Typing.{signature_rule}
use Rattle.civl_tree.specs.rules.Broken.{broken_at}
use Rattle.civl_tree.specs.examples.RulesFlag.{flag, named, update, val, call, Refused}
use Rattle.civl_tree.specs.examples.RulesUnit.{unit, unit_action, unit_proc, with_action, with_body, with_proc, with_refined, with_thread, unit_thread}

abbrev pub RefusesArity : Type 0
RefusesArity =
    Refused (with_action (record unit_action { updates = update (codes "g") expr.True ∷ [] })) 23 3 0
    × Refused (with_body (stmt.Commit ∷ call (codes "A") [] (named (codes "v") ∷ []) ∷ [])) 23 4 1
    × Refused (with_body (call (codes "A") (expr.True ∷ expr.True ∷ []) (named (codes "v") ∷ []) ∷ [])) 23 4 0
    × Refused (with_body (call (codes "A") (expr.True ∷ []) [] ∷ [])) 23 4 0
    × Refused (with_body (call (codes "A") (expr.True ∷ []) (named (codes "v") ∷ named (codes "o") ∷ []) ∷ [])) 23 4 0
    × Refused (with_refined (codes "A") []) 23 4 0
    × Refused (with_body (stmt.Spawn (named (codes "R")) (expr.True ∷ []) ∷ [])) 23 4 0
    × Refused (with_body (stmt.Spawn (named (codes "Q")) (expr.True ∷ []) ∷ [])) 23 4 0
    × Refused (with_thread (unit_thread (expr.True ∷ []))) 23 6 0
    × Refused (with_thread (record { callee = named (codes "Q"); args = expr.True ∷ [] })) 23 6 0

-- the procedure with these parameters and outputs
abbrev pub signed : List Param → List Param → Program
signed params outs = with_proc (record (unit_proc []) { params = params; outs = outs })

abbrev pub param : Mode → List ℕ → Param
param mode bytes = record { mode = mode; name = named bytes; sort = Word 1 }

-- the procedure, item 4, with these parameters, refines the action with those
abbrev pub moded : List Param → List Param → Program
moded params others = record (signed params []) { actions = record unit_action { params = others; outs = [] } ∷ [] }

abbrev pub Differs : Program → Type 0
Differs program = refusals_of signature_rule program ≡ broken_at signature_rule 4 0 ∷ []

abbrev pub Signed : Program → Type 0
Signed program = Keeps (signature_rule ∷ []) program

abbrev pub SignaturesDiffer : Type 0
SignaturesDiffer =
    Signed flag
    × Signed unit
    × Signed (signed (val (codes "x") Truth ∷ []) (val (codes "y") Truth ∷ []))
    × Differs (signed [] (val (codes "o") Truth ∷ []))
    × Differs (signed (val (codes "a") Truth ∷ []) [])
    × Differs (signed (val (codes "a") Truth ∷ val (codes "b") Truth ∷ []) (val (codes "o") Truth ∷ []))
    × Differs (signed (val (codes "a") (Word 1) ∷ []) (val (codes "o") Truth ∷ []))
    × Differs (signed (val (codes "a") Truth ∷ []) (val (codes "o") (Word 1) ∷ []))
    × Signed (moded (param Lend (codes "a") ∷ param Val (codes "b") ∷ []) (param Lend (codes "b") ∷ param Val (codes "a") ∷ []))
    × Differs (moded (param Lend (codes "a") ∷ []) (param Take (codes "a") ∷ []))
    × Differs (moded (param Val (codes "a") ∷ []) (param Lend (codes "a") ∷ []))
    × Differs (moded (param Lend (codes "a") ∷ param Val (codes "b") ∷ []) (param Val (codes "a") ∷ param Lend (codes "b") ∷ []))
