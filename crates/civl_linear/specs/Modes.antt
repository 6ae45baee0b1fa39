-- Which arguments and results of a call stand for linear values.
use Rattle.std.specs.Prelude.{Bool, true, false, List, [], ◌∷◌, ◌++◌, if◌then◌else◌}
use Rattle.std.specs.List.{flat_map}
use Rattle.civl_tree.specs.declared.name.Name.{Name}
use Rattle.civl_tree.specs.declared.expr.Expr.{Expr, out-Expr}
use Rattle.civl_tree.specs.declared.expr.Expr.TheOpen as expr
use Rattle.civl_tree.specs.declared.action.Mode.{Mode}
use Rattle.civl_tree.specs.declared.action.Mode.TheVariants.{Lend, Take, Give}
use Rattle.civl_tree.specs.declared.action.Param.{Param}

-- a parameter for which a linear value is handed in
abbrev pub is_passed : Mode → Bool
is_passed Lend = true
is_passed Take = true
is_passed _ = false

-- a parameter whose linear value isn't handed back
abbrev pub is_taken : Mode → Bool
is_taken Take = true
is_taken _ = false

-- a parameter whose linear value is handed back
abbrev pub is_lent : Mode → Bool
is_lent Lend = true
is_lent _ = false

-- an output that hands out a linear value
abbrev pub is_given : Mode → Bool
is_given Give = true
is_given _ = false

-- of these arguments or results, each in the place of one of these parameters or outputs, those whose mode passes the test
abbrev pub at_modes : {A : Type 0} → (Mode → Bool) → List Param → List A → List A
at_modes test [] items = []
at_modes test (param ∷ params) [] = []
at_modes test (param ∷ params) (item ∷ items) = (if test param.mode then item ∷ [] else []) ++ at_modes test params items

-- the name that an expression is, if it is a plain name
abbrev pub form_name : expr.Expr-F Expr → List Name
form_name (expr.Name name) = name ∷ []
form_name _ = []

abbrev pub plain_name : Expr → List Name
plain_name expr = form_name (out-Expr expr)

-- the plain names that stand for the parameters whose mode passes the test
abbrev pub passed_names : (Mode → Bool) → List Param → List Expr → List Name
passed_names test params args = flat_map plain_name (at_modes test params args)

-- the results to which linear values are given
abbrev pub given_names : List Param → List Name → List Name
given_names outs results = at_modes is_given outs results
