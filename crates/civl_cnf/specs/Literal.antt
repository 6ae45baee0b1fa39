-- Literals of propositional logic, and their truth under an assignment.
use Rattle.std.specs.Prelude.{ℕ, Bool, not, if◌then◌else◌}

-- a variable, by its number, or its negation
pub record Literal : Type 0 where
  pub variable : ℕ
  pub positive : Bool

abbrev pub opposite : Literal → Literal
opposite l = record { variable = l.variable; positive = not l.positive }

-- An assignment gives each variable a truth value. This is the literal's.
abbrev pub truth_of : (ℕ → Bool) → Literal → Bool
truth_of v l = if l.positive then v l.variable else not (v l.variable)
