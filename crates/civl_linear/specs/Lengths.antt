-- What comes of going over statements stands beside them: one entry for each statement, and in it one flag for each name
-- of the procedure. So a list that is read beside another ends where that one does.
use Rattle.std.specs.Prelude.{◌≡◌, Bool, List, length, All}
use Rattle.civl_tree.specs.declared.name.Name.{Name}
use Rattle.civl_tree.specs.declared.stmt.Stmt.{Stmt}
use Rattle.civl_tree.specs.declared.program.Proc.{Proc}
use Rattle.civl_tree.specs.declared.program.Program.{Program}
use Rattle.civl_tree.specs.Numbering.{statements_of}
use Rattle.civl_tree.specs.rules.Names.{names_in_proc}
use Rattle.civl_layers.specs.Cuts.{proc_cuts}
use Rattle.civl_linear.specs.Held.{Traced, entry_held, exit_owed, traced_proc}
use Rattle.civl_linear.specs.Cuts.{held_of}

-- there is one flag for each of these names
abbrev pub OneEach : List Name → List Bool → Type 0
OneEach names held = length held ≡ length names

-- what comes of going over these statements, in text order, of a procedure with these names
pub record StandsBeside (stmts : List Stmt) (names : List Name) (traced : Traced) : Type 0 where
  pub befores : length traced.befores ≡ length stmts
  pub losses : length traced.losses ≡ length stmts
  pub flags : All (OneEach names) traced.befores
  pub after : OneEach names traced.after

-- what is held at the entry of a procedure, before each of its statements and at its exit, and what is owed there
pub record IsTracedInFull (program : Program) (proc : Proc) : Type 0 where
  pub entry : OneEach (names_in_proc proc) (entry_held proc)
  pub body : StandsBeside (statements_of proc.body) (names_in_proc proc) (traced_proc program proc)
  pub exit : OneEach (names_in_proc proc) (exit_owed proc)

abbrev pub ProcsAreTraced : Type 0
ProcsAreTraced = (program : Program) (proc : Proc) → IsTracedInFull program proc

-- for each cut of a procedure there is what is held there
abbrev pub HeldAtEachCut : Type 0
HeldAtEachCut = (program : Program) (proc : Proc) → length (held_of program proc) ≡ length (proc_cuts proc)
