-- For the view of `Clauses` alone: clauses whose literals stand in one list.
use Rattle.std.specs.Prelude.{◌≤◌, ◌+◌, ℕ, List, All, take, drop, map}
use Rattle.civl_cnf.specs.Literal.{Literal}
use Rattle.civl_propagation.specs.declared.clauses.Span.{Span}

-- the literals of a span
abbrev pub part : List Literal → Span → List Literal
part lits span = take span.len (drop span.start lits)

abbrev pub parts : List Literal → List Span → List (List Literal)
parts lits spans = map (part lits) spans

-- no span goes past so many literals
abbrev pub AreWithin : ℕ → List Span → Type 0
AreWithin n spans = All (λ s. s.start + s.len ≤ n) spans
