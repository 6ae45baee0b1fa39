-- Short words for the phrases of a program, so that a tree reads as its text does.
use Rattle.std.specs.Prelude.{◌≡◌, ℕ, Result, IfOk, ◌++◌, codes, decimal, false}
use Prim.Native.String.{String}
use Rattle.civl_tree.specs.declared.name.Name.{Name}
use Rattle.civl_tree.specs.declared.expr.Sort.{Sort}
use Rattle.civl_tree.specs.declared.expr.Two.TheVariants.{Eq, Ne, And, Add}
use Rattle.civl_tree.specs.declared.expr.Expr.{Expr}
use Rattle.civl_tree.specs.declared.expr.Expr as expr
use Rattle.civl_tree.specs.declared.action.Mode.TheVariants as mode
use Rattle.civl_tree.specs.declared.action.Param.{Param}
use Rattle.civl_tree.specs.declared.action.Update.{Update}
use Rattle.civl_tree.specs.declared.program.Local.{Local}

-- it is this part, where memory was not wanting for it
abbrev pub Makes : {A E : Type 0} → Result A E → A → Type 0
Makes made part = IfOk made (λ it. it ≡ part)

-- the name that this text spells: of a parameter, an output or a local
abbrev pub named : String → Name
named text = record { bytes = codes text }

-- the name of a global, an action or a procedure in a copy: `_` and the copy's number stand behind it
abbrev pub of_copy : String → ℕ → Name
of_copy text copy = record { bytes = codes text ++ codes "_" ++ decimal copy }

-- the value of a parameter, an output or a local
abbrev pub local : String → Expr
local text = expr.Name (named text)

-- the value of a global of a copy
abbrev pub global : String → ℕ → Expr
global text copy = expr.Name (of_copy text copy)

-- ( a == b ), ( a != b ), ( a && b ), ( a + b )
abbrev pub equal : Expr → Expr → Expr
equal a b = expr.Two Eq a b

abbrev pub different : Expr → Expr → Expr
different a b = expr.Two Ne a b

abbrev pub both : Expr → Expr → Expr
both a b = expr.Two And a b

abbrev pub sum_of : Expr → Expr → Expr
sum_of a b = expr.Two Add a b

-- val name : sort, and lend name : sort
abbrev pub val : String → Sort → Param
val text sort = record { mode = mode.Val; name = named text; sort = sort }

abbrev pub lend : String → Sort → Param
lend text sort = record { mode = mode.Lend; name = named text; sort = sort }

-- target := expr ;
abbrev pub becomes : Name → Expr → Update
becomes target expr = record { target = target; expr = expr }

-- var name : sort ;
abbrev pub var : String → Sort → Local
var text sort = record { linear = false; name = named text; sort = sort }
