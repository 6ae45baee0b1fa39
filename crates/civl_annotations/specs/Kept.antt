-- What a program keeps without its annotations: all that its runs look at, and the numbers of its statements.
use Rattle.std.specs.Prelude.{ℕ, ◌≡◌, List, map, Option, option_map, slice_get}
use Rattle.civl_tree.specs.declared.name.Name.{Name}
use Rattle.civl_tree.specs.declared.action.Param.{Param}
use Rattle.civl_tree.specs.declared.stmt.Stmt.{Stmt}
use Rattle.civl_tree.specs.declared.program.Local.{Local}
use Rattle.civl_tree.specs.declared.program.Refines.{Refines}
use Rattle.civl_tree.specs.declared.program.Proc.{Proc}
use Rattle.civl_tree.specs.declared.program.Program.{Program}
use Rattle.civl_tree.specs.Numbering.{sizes_of, statement_at}
use Rattle.civl_annotations.specs.Bare.{bare, bare_stmt}

-- a procedure without its body: its name, its parameters, its outputs, what it refines at which layer, its locals
pub record Header : Type 0 where
  pub name : Name
  pub params : List Param
  pub outs : List Param
  pub refines : Option Refines
  pub locals : List Local

abbrev pub header_of : Proc → Header
header_of proc = record { name = proc.name; params = proc.params; outs = proc.outs; refines = proc.refines; locals = proc.locals }

-- two programs with the same header numbers, globals with the layers in which they exist, `init`, actions with theirs, threads and
-- headers of procedures, and with as many statements in each procedure
pub record HaveOneShape (one other : Program) : Type 0 where
  pub version : one.version ≡ other.version
  pub layers : one.layers ≡ other.layers
  pub permissions : one.permissions ≡ other.permissions
  pub globals : one.globals ≡ other.globals
  pub init : one.init ≡ other.init
  pub actions : one.actions ≡ other.actions
  pub threads : one.threads ≡ other.threads
  pub headers : map header_of one.procs ≡ map header_of other.procs
  pub sizes : map (λ p. sizes_of p.body) one.procs ≡ map (λ p. sizes_of p.body) other.procs

-- a program has the shape of the one without annotations, and so have programs that differ in annotations alone
abbrev pub BareHasShape : Type 0
BareHasShape = (program : Program) → HaveOneShape (bare program) program

-- what stands at a number of a body stands there without its annotations too
abbrev pub BareKeepsNumbers : Type 0
BareKeepsNumbers = (body : List Stmt) (number : ℕ) → statement_at (map bare_stmt body) number ≡ option_map bare_stmt (statement_at body number)

-- nothing more goes where there are no annotations
abbrev pub BareIsBare : Type 0
BareIsBare = (program : Program) → bare (bare program) ≡ bare program
