-- The annotations of a program's statements, in the order of the text.
use Rattle.std.specs.Prelude.{List, [], ◌∷◌}
use Rattle.std.specs.List.{flat_map}
use Rattle.civl_tree.specs.declared.expr.Expr.{Expr}
use Rattle.civl_tree.specs.declared.stmt.Stmt.{Stmt, out-Stmt}
use Rattle.civl_tree.specs.declared.stmt.Stmt.TheOpen.{Stmt-F, YieldLoop, RankLoop, Yield}
use Rattle.civl_tree.specs.declared.program.Program.{Program}
use Rattle.civl_tree.specs.Numbering.{statements_of}

-- the annotation of a statement by its form: a list of one, or of none
abbrev pub form_annotation : Stmt-F Stmt → List Expr
form_annotation (YieldLoop test inv body) = inv ∷ []
form_annotation (RankLoop test rank inv body) = inv ∷ []
form_annotation (Yield inv) = inv ∷ []
form_annotation _ = []

-- the annotation of a statement itself
abbrev pub annotation_of : Stmt → List Expr
annotation_of stmt = form_annotation (out-Stmt stmt)

-- those of these statements and of all in them
abbrev pub annotations_in : List Stmt → List Expr
annotations_in body = flat_map annotation_of (statements_of body)

-- those of all procedures
abbrev pub annotations : Program → List Expr
annotations program = flat_map (λ p. annotations_in p.body) program.procs
