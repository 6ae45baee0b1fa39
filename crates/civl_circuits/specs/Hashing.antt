-- Structural hashing of gates: an equal gate is found again, and what needs no gate is folded (Kuehlmann, Paruthi, Krohm, Ganai, "Robust Boolean reasoning for equivalence checking and functional property verification", 2002).
use Rattle.std.specs.Prelude.{◌≡◌, ℕ, ◌<◌, ◌⊎◌, List, [], ◌∷◌, Bool, ◌&&◌, if◌then◌else◌, All, Some, slice_get}
use Rattle.civl_cnf.specs.Literal.{Literal, truth_of}
use Rattle.civl_cnf.specs.ClauseSet.{ClauseSet, Satisfies}
use Rattle.civl_cnf.specs.Gates.{xor, majority}
use Rattle.civl_circuits.specs.Circuits.{IsOne}
use Rattle.civl_circuits.specs.declared.gate.Operand.{Operand}
use Rattle.civl_circuits.specs.declared.gate.Gate.{Gate}
use Rattle.civl_circuits.specs.declared.gate.Gate.TheVariants as gate

abbrev pub literal_of : Operand → Literal
literal_of a = record { variable = a.variable; positive = a.positive }

-- the truth value of a gate
abbrev pub gate_value : (ℕ → Bool) → Gate → Bool
gate_value v (gate.And a b) = truth_of v (literal_of a) && truth_of v (literal_of b)
gate_value v (gate.Xor a b) = xor (truth_of v (literal_of a)) (truth_of v (literal_of b))
gate_value v (gate.Ite c a b) = if truth_of v (literal_of c) then truth_of v (literal_of a) else truth_of v (literal_of b)
gate_value v (gate.Sum a b c) = xor (truth_of v (literal_of a)) (xor (truth_of v (literal_of b)) (truth_of v (literal_of c)))
gate_value v (gate.Carry a b c) = majority (truth_of v (literal_of a)) (truth_of v (literal_of b)) (truth_of v (literal_of c))

-- the literal is one of the set's, and has the gate's value wherever the clauses are true
pub record IsOutput (set : ClauseSet) (gate : Gate) (output : Literal) : Type 0 where
  pub below : output.variable < set.variables
  pub value : (v : ℕ → Bool) → Satisfies v set.clauses → truth_of v output ≡ gate_value v gate

-- each gate of the table has its output
abbrev pub AreOutputs : ClauseSet → List (Gate × Literal) → Type 0
AreOutputs set entries = All (λ e. IsOutput set e.0 e.1) entries

-- what holds of a circuit: its constant is the first clause, and its table says the truth
pub record IsHashed (set : ClauseSet) (one : Literal) (entries : List (Gate × Literal)) : Type 0 where
  pub first : slice_get set.clauses 0 ≡ Some (one ∷ [])
  pub constant : IsOne set one
  pub outputs : AreOutputs set entries

-- the literal that is the set's first clause, or its opposite
abbrev pub IsConstant : ClauseSet → Literal → Type 0
IsConstant set l = (one : Literal) × (slice_get set.clauses 0 ≡ Some (one ∷ [])) × (l.variable ≡ one.variable)

-- two literals that need no gate: one of them is constant, or they are equal or opposite
abbrev pub IsFolded : ClauseSet → Literal → Literal → Type 0
IsFolded set a b = IsConstant set a ⊎ IsConstant set b ⊎ (a.variable ≡ b.variable)
