-- How a part of the condition on paths fails: before an end, or at the end where the path arrives.
use Rattle.std.specs.Prelude.{ℕ, ◌≡◌, not, List, Some}
use Rattle.std.specs.List.{Contains}
use Rattle.civl_tree.specs.declared.program.Proc.{Proc}
use Rattle.civl_terms.specs.declared.node.Node.{Node}
use Rattle.civl_conditions.specs.paths.Paths.{Outcome, progress_of, has_failed}
use Rattle.civl_conditions.specs.paths.Ends.{arrived}
use Rattle.civl_states.specs.formula_parts.Said.{Env, IsTest}
use Rattle.civl_body.specs.declared.way.Walk.{Walk}

-- where the path arrives is one of these ends
abbrev pub ArrivesAmong : Proc → List ℕ → Outcome → Type 0
ArrivesAmong proc ends o = (end : ℕ) → arrived proc o ≡ Some end → Contains ends end

-- what a walk says before an end
pub record SaysBefore (ns : List Node) (walk : Walk) (o : Env → Outcome) : Type 0 where
  pub safe : IsTest ns walk.safe (λ env. not (has_failed (o env)))
  pub once : IsTest ns walk.once (λ env. not (progress_of (o env)).again)
