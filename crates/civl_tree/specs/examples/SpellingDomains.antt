-- Trees that have a spelling, and trees that have none: with a name that is none, with a word of version 2, and with a
-- mode, each at every place where a tree can have one.
use Rattle.std.specs.Prelude.{◌≡◌, ℕ, true, false, Some, List, [], ◌∷◌, ◌++◌, map}
use Rattle.std.specs.List.{list_all, list_any}
use Rattle.civl_tree.specs.declared.name.Name.{Name}
use Rattle.civl_tree.specs.declared.expr.Sort.TheVariants as sort
use Rattle.civl_tree.specs.declared.expr.One.TheVariants.{Not}
use Rattle.civl_tree.specs.declared.expr.Two.{Two}
use Rattle.civl_tree.specs.declared.expr.Two.TheVariants.{And, Udiv}
use Rattle.civl_tree.specs.declared.expr.Expr.{Expr}
use Rattle.civl_tree.specs.declared.expr.Expr as expr
use Rattle.civl_tree.specs.declared.stmt.Stmt.{Stmt}
use Rattle.civl_tree.specs.declared.stmt.Stmt as stmt
use Rattle.civl_tree.specs.declared.action.Mode.{Mode}
use Rattle.civl_tree.specs.declared.action.Mode.TheVariants.{Val, Lend, Take, Give}
use Rattle.civl_tree.specs.declared.action.Param.{Param}
use Rattle.civl_tree.specs.declared.action.Action.{Action}
use Rattle.civl_tree.specs.declared.program.Proc.{Proc}
use Rattle.civl_tree.specs.declared.program.Program.{Program}
use Rattle.civl_tree.specs.SpellingDomain.{allows_name, allows_expr, allows_program}
use Rattle.civl_tree.specs.examples.SpellingWords.{named}
use Rattle.civl_tree.specs.examples.SpellingExprs.{twos, name_of}
use Rattle.civl_tree.specs.examples.SpellingItems.{skipping, root}
use Rattle.civl_tree.specs.examples.SpellingFlag.{flag}

-- what is no name: reserved words, also those of version 2, bytes that begin no name, and nothing at all
abbrev pub NamesAreNames : Type 0
NamesAreNames =
    (map (λ text. allows_name (named text)) ("x" ∷ "_" ∷ "Z9_a" ∷ "gates" ∷ "Gate" ∷ "_gate" ∷ "x0" ∷ []) ≡ true ∷ true ∷ true ∷ true ∷ true ∷ true ∷ true ∷ [])
    × (map (λ text. allows_name (named text)) ("gate" ∷ "done" ∷ "spawn" ∷ "sar" ∷ "0x" ∷ "" ∷ "a-b" ∷ "a b" ∷ "(" ∷ []) ≡ false ∷ false ∷ false ∷ false ∷ false ∷ false ∷ false ∷ false ∷ false ∷ [])

-- in version 1 all operators but the last five can be written, in version 2 all
abbrev pub OpsHaveSpelling : Type 0
OpsHaveSpelling =
    (map (λ (op : Two). allows_expr false (expr.Two op expr.True expr.True)) twos
    ≡ true ∷ true ∷ true ∷ true ∷ true ∷ true ∷ true ∷ true ∷ true ∷ true ∷ true ∷ true ∷ true ∷ true ∷ true ∷ false ∷ false ∷ false ∷ false ∷ false ∷ [])
    × (list_all (λ (op : Two). allows_expr true (expr.Two op expr.True expr.True)) twos ≡ true)

-- the expressions that have this one as a part
abbrev pub around : Expr → List Expr
around part =
    part
    ∷ expr.One Not part
    ∷ expr.Two And part expr.True
    ∷ expr.Two And expr.True part
    ∷ expr.Pick part expr.True expr.True
    ∷ expr.Pick expr.True part expr.True
    ∷ expr.Pick expr.True expr.True part
    ∷ expr.Get part expr.True
    ∷ expr.Get expr.True part
    ∷ expr.Set part expr.True expr.True
    ∷ expr.Set expr.True part expr.True
    ∷ expr.Set expr.True expr.True part
    ∷ expr.Fill 1 part
    ∷ expr.Slice part 1 0
    ∷ expr.Widen part 1
    ∷ expr.Join part expr.True
    ∷ expr.Join expr.True part
    ∷ []

-- an expression of version 2 alone
abbrev pub dividing : Expr
dividing = expr.Two Udiv (name_of "x") (name_of "y")

-- wherever an expression has a part: a name, a word that is none, as itself and as an old value, and an operator of
-- version 2 in version 1 and in version 2
abbrev pub ExprsHaveSpelling : Type 0
ExprsHaveSpelling =
    (list_all (allows_expr false) (around (name_of "x") ++ around (expr.Old (named "x"))) ≡ true)
    × (list_any (allows_expr true) (around (name_of "gate") ++ around (expr.Old (named "gate"))) ≡ false)
    × (list_any (allows_expr false) (around dividing) ≡ false)
    × (list_all (allows_expr true) (around dividing) ≡ true)

-- the procedure with this one statement
abbrev pub doing : Stmt → Proc
doing step = record root { body = step ∷ [] }

-- the statements that have this expression as a part
abbrev pub expr_users : Expr → List Stmt
expr_users part =
    stmt.Assign (named "x") part
    ∷ stmt.Assert part
    ∷ stmt.If part [] []
    ∷ stmt.While part []
    ∷ stmt.YieldLoop part expr.True []
    ∷ stmt.YieldLoop expr.True part []
    ∷ stmt.RankLoop part expr.True expr.True []
    ∷ stmt.RankLoop expr.True part expr.True []
    ∷ stmt.RankLoop expr.True expr.True part []
    ∷ stmt.Call (named "x") (expr.True ∷ part ∷ []) []
    ∷ stmt.Yield part
    ∷ stmt.Intro (named "x") part
    ∷ []

-- the statements that have this one as a part
abbrev pub stmt_users : Stmt → List Stmt
stmt_users part =
    part
    ∷ stmt.If expr.True (stmt.Commit ∷ part ∷ []) []
    ∷ stmt.If expr.True [] (part ∷ [])
    ∷ stmt.While expr.True (part ∷ [])
    ∷ stmt.YieldLoop expr.True expr.True (part ∷ [])
    ∷ stmt.RankLoop expr.True expr.True expr.True (part ∷ [])
    ∷ []

-- the program of the flag with these actions, or with these procedures
abbrev pub with_action : Action → Program
with_action action = record flag { actions = action ∷ [] }

abbrev pub with_proc : Proc → Program
with_proc proc = record flag { procs = root ∷ proc ∷ [] }

-- the programs that have this statement in a body
abbrev pub programs_doing : Stmt → List Program
programs_doing step = map (λ user. with_proc (doing user)) (stmt_users step)

-- the programs that have this expression as a part
abbrev pub programs_using : Expr → List Program
programs_using part =
    record flag { init = part }
    ∷ record flag { invariants = record { step = 1; expr = part } ∷ [] }
    ∷ with_action (record skipping { choices = record { name = named "x"; sort = sort.Bool; offer = part } ∷ [] })
    ∷ with_action (record skipping { gate = part })
    ∷ with_action (record skipping { guard = part })
    ∷ with_action (record skipping { updates = record { target = named "x"; expr = part } ∷ [] })
    ∷ with_proc (record root { refines = Some (record { action = named "x"; with = expr.True ∷ part ∷ []; layer = 1 }) })
    ∷ record flag { threads = record { callee = named "x"; args = part ∷ [] } ∷ [] }
    ∷ map (λ user. with_proc (doing user)) (expr_users part)

-- wherever a program has an expression, as above
abbrev pub ProgramsUsing : Type 0
ProgramsUsing =
    (list_all allows_program (programs_using (name_of "x")) ≡ true)
    × (list_any allows_program (programs_using (name_of "gate")) ≡ false)
    × (list_any allows_program (programs_using dividing) ≡ false)
    × (list_all (λ program. allows_program (record program { version = 2 })) (programs_using dividing) ≡ true)

-- the parameter or output of this mode and name
abbrev pub passed : Mode → Name → Param
passed mode name = record { mode = mode; name = name; sort = sort.Word 1 }

-- the programs that have this name as a part, elsewhere than in an expression
abbrev pub programs_naming : Name → List Program
programs_naming name =
    record flag { globals = record { linear = false; name = name; sort = sort.Bool; first = 0; last = 1 } ∷ [] }
    ∷ with_action (record skipping { name = name })
    ∷ with_action (record skipping { params = passed Val name ∷ [] })
    ∷ with_action (record skipping { outs = passed Val name ∷ [] })
    ∷ with_action (record skipping { choices = record { name = name; sort = sort.Bool; offer = expr.True } ∷ [] })
    ∷ with_action (record skipping { updates = record { target = name; expr = expr.True } ∷ [] })
    ∷ with_proc (record root { name = name })
    ∷ with_proc (record root { params = passed Val name ∷ [] })
    ∷ with_proc (record root { outs = passed Val name ∷ [] })
    ∷ with_proc (record root { refines = Some (record { action = name; with = []; layer = 1 }) })
    ∷ with_proc (record root { locals = record { linear = true; name = name; sort = sort.Word 1 } ∷ [] })
    ∷ with_proc (doing (stmt.Assign name expr.True))
    ∷ with_proc (doing (stmt.Call name [] []))
    ∷ with_proc (doing (stmt.Call (named "x") [] (named "y" ∷ name ∷ [])))
    ∷ with_proc (doing (stmt.Intro name expr.True))
    ∷ record flag { threads = record { callee = name; args = [] } ∷ [] }
    ∷ []

-- wherever a program has a name
abbrev pub ProgramsNaming : Type 0
ProgramsNaming =
    (list_all allows_program (programs_naming (named "x")) ≡ true)
    × (list_any allows_program (programs_naming (named "gate")) ≡ false)

-- wherever a program has a statement: a spawn in versions 0, 1 and 3, and in version 2, there with a word that is no
-- name, and with one as an argument
abbrev pub spawning : Stmt
spawning = stmt.Spawn (named "x") (expr.True ∷ [])

abbrev pub ProgramsSpawning : Type 0
ProgramsSpawning =
    (list_any allows_program (programs_doing spawning) ≡ false)
    × (list_any (λ program. allows_program (record program { version = 0 })) (programs_doing spawning) ≡ false)
    × (list_any (λ program. allows_program (record program { version = 3 })) (programs_doing spawning) ≡ false)
    × (list_all (λ program. allows_program (record program { version = 2 })) (programs_doing spawning) ≡ true)
    × (list_any (λ program. allows_program (record program { version = 2 })) (programs_doing (stmt.Spawn (named "gate") [])) ≡ false)
    × (list_any (λ program. allows_program (record program { version = 2 })) (programs_doing (stmt.Spawn (named "x") (name_of "gate" ∷ []))) ≡ false)

-- the four modes, in a parameter and in an output of an action and of a procedure
abbrev pub modes : List Mode
modes = Val ∷ Lend ∷ Take ∷ Give ∷ []

abbrev pub ModesHaveSpelling : Type 0
ModesHaveSpelling =
    (map (λ mode. allows_program (with_action (record skipping { params = passed Val (named "y") ∷ passed mode (named "x") ∷ [] }))) modes ≡ true ∷ true ∷ true ∷ false ∷ [])
    × (map (λ mode. allows_program (with_proc (record root { params = passed mode (named "x") ∷ [] }))) modes ≡ true ∷ true ∷ true ∷ false ∷ [])
    × (map (λ mode. allows_program (with_action (record skipping { outs = passed Val (named "y") ∷ passed mode (named "x") ∷ [] }))) modes ≡ true ∷ false ∷ false ∷ true ∷ [])
    × (map (λ mode. allows_program (with_proc (record root { outs = passed mode (named "x") ∷ [] }))) modes ≡ true ∷ false ∷ false ∷ true ∷ [])

-- a program with no word of version 2 has a spelling in every version
abbrev pub VersionsHaveSpelling : Type 0
VersionsHaveSpelling =
    map (λ (version : ℕ). allows_program (record flag { version = version })) (0 ∷ 1 ∷ 2 ∷ 3 ∷ 4294967295 ∷ []) ≡ true ∷ true ∷ true ∷ true ∷ true ∷ []
