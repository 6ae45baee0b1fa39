-- Serves private functions: watched literals as numbers: a literal is twice its variable, and one more where it is a negation (Een and Sorensson, "An extensible SAT-solver", 2003).
use Rattle.std.specs.Prelude.{ℕ, ◌+◌, ◌*◌, ◌/◌, ◌%◌, nat_eq, if◌then◌else◌, Option, None, Some}
use Rattle.civl_cnf.specs.Literal.{Literal}
use Rattle.civl_propagation.specs.declared.watches.Pair.{Pair}

abbrev pub code_of : Literal → ℕ
code_of l = if l.positive then 2 * l.variable else 2 * l.variable + 1

abbrev pub literal_of : ℕ → Literal
literal_of n = record { variable = n / 2; positive = nat_eq (n % 2) 0 }

-- the literals of two numbers, or none where these are the same
abbrev pub pair_of : ℕ → ℕ → Option Pair
pair_of n m = if nat_eq n m then None else Some (record { first = literal_of n; second = literal_of m })
