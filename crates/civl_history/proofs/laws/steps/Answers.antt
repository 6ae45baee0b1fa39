use Rattle.std.proofs.Common.{◌≡◌, ◌∙◌, ◌++◌, ℕ, List, [], ◌∷◌, None, ap, false, true}
use Rattle.civl_tree.specs.declared.expr.Expr.{the_lemmas as of_expr}
use Rattle.civl_tree.specs.declared.stmt.Stmt.{the_lemmas as of_stmt}
use Rattle.civl_firing.specs.Fired.{gate_holds, fires, fired}
use Rattle.civl_meaning.specs.declared.config.Config.{Config}
use Rattle.civl_meaning.proofs.Placing.{placing}
use Rattle.civl_meaning.specs.Layers.{lowest}
use Rattle.civl_meaning.specs.Run.{run_of}
use Rattle.civl_meaning.specs.examples.Moves.{moves_of}
use Rattle.civl_meaning.specs.examples.Steps.{worked}
use Rattle.civl_history.specs.declared.moves.MadeMove.{MadeMove}
use Rattle.civl_history.specs.History.{history}
use Rattle.civl_history.specs.examples.Steps.{one, work, twice, entering, leaving, calling, returning}
use Rattle.civl_history.proofs.Joining.{histories_join}
use Rattle.civl_history.proofs.laws.steps.Goals as goal

pub returns-clause-returned : goal.returns-clause-returned
unfolding gate_holds fires fired
returns-clause-returned c = simp (of_stmt)

pub returns-clause-acted : goal.returns-clause-acted
unfolding gate_holds fires fired
returns-clause-acted c = simp (of_expr, placing)

-- two moves, where each is made
module _ (from middle : Config) (runs : run_of (lowest worked) (moves_of (0 ∷ 0 ∷ [])) 0 from ≡ (2, None, middle)) where
  two_more : (others : List ℕ) (told later : List MadeMove) → history (lowest worked) from (moves_of (0 ∷ 0 ∷ [])) ≡ told → history (lowest worked) middle (moves_of others) ≡ later → history (lowest worked) from (moves_of (0 ∷ 0 ∷ others)) ≡ told ++ later
  two_more others told later first then =
      histories_join (lowest worked) (moves_of (0 ∷ 0 ∷ [])) (moves_of others) 0 2 from middle runs
      ∙ ap (λ (l : List MadeMove). l ++ history (lowest worked) middle (moves_of others)) first
      ∙ ap (λ (l : List MadeMove). told ++ l) then

enters_runs : run_of (lowest worked) (moves_of (0 ∷ 0 ∷ [])) 0 (one [] (work 4 5 true)) ≡ (2, None, one [] (work 6 0 true))
enters_runs = simp (of_expr, placing)

enters_told : history (lowest worked) (one [] (work 4 5 true)) (moves_of (0 ∷ 0 ∷ [])) ≡ entering
enters_told = simp (of_expr, placing)

leaves_runs : run_of (lowest worked) (moves_of (0 ∷ 0 ∷ [])) 0 (one [] (work 6 0 true)) ≡ (2, None, one [] (work 7 0 false))
leaves_runs = simp (of_expr, placing)

leaves_told : history (lowest worked) (one [] (work 6 0 true)) (moves_of (0 ∷ 0 ∷ [])) ≡ leaving
leaves_told = simp (of_expr, placing)

calls_runs : run_of (lowest worked) (moves_of (0 ∷ 0 ∷ [])) 0 (one [] (work 7 0 false)) ≡ (2, None, one (work 8 0 false ∷ []) (twice 1 0 0))
calls_runs = simp (of_expr, placing)

calls_told : history (lowest worked) (one [] (work 7 0 false)) (moves_of (0 ∷ 0 ∷ [])) ≡ calling
calls_told = simp (of_expr, placing)

returns_told : history (lowest worked) (one (work 8 0 false ∷ []) (twice 1 0 0)) (moves_of (0 ∷ 0 ∷ [])) ≡ returning
unfolding gate_holds fires fired
returns_told = simp (of_expr, placing)

pub returns-clause-around : goal.returns-clause-around
returns-clause-around c =
    two_more (one [] (work 4 5 true)) (one [] (work 6 0 true)) enters_runs (0 ∷ 0 ∷ 0 ∷ 0 ∷ 0 ∷ 0 ∷ []) entering _ enters_told
    (two_more (one [] (work 6 0 true)) (one [] (work 7 0 false)) leaves_runs (0 ∷ 0 ∷ 0 ∷ 0 ∷ []) leaving _ leaves_told
    (two_more (one [] (work 7 0 false)) (one (work 8 0 false ∷ []) (twice 1 0 0)) calls_runs (0 ∷ 0 ∷ []) calling _ calls_told returns_told))
