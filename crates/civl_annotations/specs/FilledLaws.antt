-- What filling in changes: the annotations, and nothing else.
use Rattle.std.specs.Prelude.{◌≡◌, List, [], ◌∷◌}
use Rattle.civl_tree.specs.declared.expr.Expr.{Expr}
use Rattle.civl_tree.specs.declared.program.Invariant.{Invariant}
use Rattle.civl_tree.specs.declared.program.Program.{Program}
use Rattle.civl_annotations.specs.Bare.{bare, DifferInAnnotations}
use Rattle.civl_annotations.specs.Annotated.{annotations}
use Rattle.civl_annotations.specs.Filled.{conjoined, filled}

-- without annotations the filled program is the program
abbrev pub FilledIsBare : Type 0
FilledIsBare = (program : Program) (found : List Expr) (added : List Invariant) → bare (filled program found added) ≡ bare program

-- given annotations with what was found for them, one by one; those for which nothing was found stay
abbrev pub with_found : List Expr → List Expr → List Expr
with_found [] found = []
with_found (given ∷ rest) [] = given ∷ rest
with_found (given ∷ rest) (first ∷ others) = conjoined given first ∷ with_found rest others

-- these are its annotations
abbrev pub FilledHasFound : Type 0
FilledHasFound =
    (program : Program) (found : List Expr) (added : List Invariant) → annotations (filled program found added) ≡ with_found (annotations program) found

-- a program is the bare one, filled with its own annotations
abbrev pub FilledBack : Type 0
FilledBack = (program : Program) → filled (bare program) (annotations program) program.invariants ≡ program

-- so programs that differ in annotations alone and have the same ones are one program
abbrev pub AnnotationsTell : Type 0
AnnotationsTell =
    (one other : Program) → DifferInAnnotations one other → annotations one ≡ annotations other → one.invariants ≡ other.invariants → one ≡ other
