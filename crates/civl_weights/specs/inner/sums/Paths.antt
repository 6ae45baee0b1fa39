-- Serves private functions: what is worked out of a procedure for its paths, at a step.
use Rattle.std.specs.Prelude.{ℕ, ◌+◌, ◌-◌, ◌*◌, map}
use Rattle.std.specs.Option.{option_map_or}
use Rattle.civl_tree.specs.declared.expr.Expr.{Expr}
use Rattle.civl_tree.specs.declared.stmt.Stmt.{out-Stmt}
use Rattle.civl_tree.specs.declared.program.Proc.{Proc}
use Rattle.civl_tree.specs.declared.program.Program.{Program}
use Rattle.civl_tree.specs.Numbering.{statements_of}
use Rattle.civl_tree.specs.rules.Scopes.{Scope}
use Rattle.civl_tree.specs.rules.Sorts.{sort_of}
use Rattle.civl_firing.specs.values.Weights.{weight_of, bits_in}
use Rattle.civl_firing.specs.values.ActionWeights.{gate_weight, guard_weight, updates_weight}
use Rattle.civl_meaning.specs.Layers.{program_at}
use Rattle.civl_layers.specs.declared.cut.CutKind.{CutKind}
use Rattle.civl_conditions.specs.Assumed.{refined_action, with_of}
use Rattle.civl_conditions.specs.Variables.{layer_choices}
use Rattle.civl_conditions.specs.Weights.{note_weight, weights_of, result_bits, layer_weight}
use Rattle.civl_weighing.specs.declared.weight.Weight.{Weight}
use Rattle.civl_weights.specs.declared.sums.cuts.BodySums.{BodySums}
use Rattle.civl_weighing.specs.Weighing.{Weighs, AreWeights}
use Rattle.civl_weighing.specs.Bits.{choices_bits}
use Rattle.civl_weights.specs.sums.Sums.{path_bits}

-- three times the weight of a rank, and twice its bits
abbrev pub rank_weight : Scope → Expr → ℕ
rank_weight scope r = 3 * weight_of scope r + 2 * bits_in (sort_of scope r)

-- the bits of a path's variables, where those of the globals and of the calls' choices are these
pub record ArePathBits (near : Weight) (proc : Proc) (kind : CutKind) (choices w : Weight) : Type 0 where
  pub is : (m n : ℕ) → Weighs near m → Weighs choices n → Weighs w (path_bits m proc kind n)

-- these are the sums of a procedure's body
pub record OfBody (program : Program) (step : ℕ) (proc : Proc) (body : BodySums) : Type 0 where
  pub gate : Weighs body.gate (option_map_or (gate_weight program) (refined_action program proc) 0)
  pub stutter : Weighs body.stutter (1 + result_bits program step proc)
  pub perform : Weighs body.perform (1 + result_bits program step proc + weights_of (note_weight program proc) (with_of proc.refines) + option_map_or (λ a. guard_weight program a + updates_weight program a) (refined_action program proc) 0)
  pub weights : AreWeights body.weights (map (λ s. layer_weight (program_at program (step - 1)) proc s (out-Stmt s)) (statements_of proc.body))
  pub choices : AreWeights body.choices (map (λ s. choices_bits (layer_choices (program_at program (step - 1)) (out-Stmt s))) (statements_of proc.body))
