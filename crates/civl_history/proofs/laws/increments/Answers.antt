use Rattle.std.proofs.Common.{◌≡◌, ◌∙◌, ◌++◌, ℕ, List, [], ◌∷◌, None, ap}
use Rattle.civl_tree.specs.declared.expr.Expr.{the_lemmas as of_expr}
use Rattle.civl_tree.specs.declared.stmt.Stmt.{the_lemmas as of_stmt}
use Rattle.civl_firing.specs.Fired.{gate_holds, fires, fired}
use Rattle.civl_firing.specs.examples.Written.{word, holding}
use Rattle.civl_meaning.specs.declared.config.Config.{Config}
use Rattle.civl_meaning.specs.declared.config.Running.{Running}
use Rattle.civl_meaning.specs.declared.config.State.TheVariants.{Inside}
use Rattle.civl_meaning.specs.Layers.{lowest, topmost}
use Rattle.civl_meaning.specs.Run.{run_of}
use Rattle.civl_meaning.specs.Step.{start}
use Rattle.civl_meaning.specs.examples.Increments.{increments, low_later}
use Rattle.civl_meaning.specs.examples.Moves.{moves_of}
use Rattle.civl_history.specs.declared.moves.MadeMove.{MadeMove}
use Rattle.civl_history.specs.declared.moves.StepKind.TheVariants.{Goes, Acts, Enters, Returns}
use Rattle.civl_history.specs.declared.stand.Stand.TheVariants.{Begins, Before, Leaves}
use Rattle.civl_history.specs.History.{history}
use Rattle.civl_history.specs.examples.Increments.{from_to, unchanged, wrote, read}
use Rattle.civl_history.proofs.Joining.{histories_join}
use Rattle.civl_history.proofs.laws.increments.Goals as goal

-- the first thread in the body of Incr, at this place
first_in_body : ℕ → Running
first_in_body place = record {
  callee = 1;
  args = [];
  state = Inside ((record { procedure = 1; place = 0; locals = [] }) ∷ []) (record { procedure = 0; place = place; locals = word 8 0 ∷ [] });
}

second_at : ℕ → Running
second_at place = record { callee = 2; args = []; state = Inside [] (record { procedure = 2; place = place; locals = word 8 0 ∷ [] }) }

-- the second thread has entered its body
early : Config
early = record { store = holding (word 8 0 ∷ []); threads = first_in_body 1 ∷ second_at 0 ∷ [] }

early_runs : run_of (lowest increments) (moves_of (0 ∷ 0 ∷ 0 ∷ 1 ∷ [])) 0 (start (lowest increments) (holding (word 8 0 ∷ []))) ≡ (4, None, early)
unfolding gate_holds fires fired early first_in_body second_at
early_runs = simp (of_expr, of_stmt)

early_told : history (lowest increments) (start (lowest increments) (holding (word 8 0 ∷ []))) (moves_of (0 ∷ 0 ∷ 0 ∷ 1 ∷ [])) ≡ unchanged 0 (Begins 1) (Enters 1) ∷ unchanged 0 (Before 1 0) (Enters 0) ∷ unchanged 0 (Before 0 0) Acts ∷ unchanged 1 (Begins 2) (Enters 2) ∷ []
unfolding gate_holds fires fired
early_told = simp (of_expr, of_stmt)

-- and has loaded 0 too
loaded : Config
loaded = record {
  store = holding (word 8 0 ∷ []);
  threads =
      first_in_body 1
      ∷ (record { callee = 2; args = []; state = Inside ((record { procedure = 2; place = 0; locals = word 8 0 ∷ [] }) ∷ []) (record { procedure = 0; place = 1; locals = word 8 0 ∷ [] }) })
      ∷ [];
}

loaded_runs : run_of (lowest increments) (moves_of (1 ∷ 1 ∷ [])) 0 early ≡ (2, None, loaded)
unfolding gate_holds fires fired early loaded first_in_body second_at
loaded_runs = simp (of_expr, of_stmt)

loaded_told : history (lowest increments) early (moves_of (1 ∷ 1 ∷ [])) ≡ unchanged 1 (Before 2 0) (Enters 0) ∷ unchanged 1 (Before 0 0) Acts ∷ []
unfolding gate_holds fires fired early first_in_body second_at
loaded_told = simp (of_expr, of_stmt)

stored_told : history (lowest increments) loaded (moves_of (1 ∷ 1 ∷ [])) ≡ wrote 1 (Before 0 2) (from_to 0 1) ∷ unchanged 1 (Leaves 0) (Returns 2) ∷ []
unfolding gate_holds fires fired loaded first_in_body second_at
stored_told = simp (of_expr, of_stmt)

then_told : history (lowest increments) early (moves_of (1 ∷ 1 ∷ 1 ∷ 1 ∷ [])) ≡ unchanged 1 (Before 2 0) (Enters 0) ∷ unchanged 1 (Before 0 0) Acts ∷ wrote 1 (Before 0 2) (from_to 0 1) ∷ unchanged 1 (Leaves 0) (Returns 2) ∷ []
then_told =
    histories_join (lowest increments) (moves_of (1 ∷ 1 ∷ [])) (moves_of (1 ∷ 1 ∷ [])) 0 2 early loaded loaded_runs
    ∙ ap (λ (told : List MadeMove). told ++ history (lowest increments) loaded (moves_of (1 ∷ 1 ∷ []))) loaded_told
    ∙ ap (λ (told : List MadeMove). unchanged 1 (Before 2 0) (Enters 0) ∷ unchanged 1 (Before 0 0) Acts ∷ told) stored_told

pub returns-clause-begins : goal.returns-clause-begins
returns-clause-begins c =
    histories_join (lowest increments) (moves_of (0 ∷ 0 ∷ 0 ∷ 1 ∷ [])) (moves_of (1 ∷ 1 ∷ 1 ∷ 1 ∷ [])) 0 4 (start (lowest increments) (holding (word 8 0 ∷ []))) early early_runs
    ∙ ap (λ (told : List MadeMove). told ++ history (lowest increments) early (moves_of (1 ∷ 1 ∷ 1 ∷ 1 ∷ []))) early_told
    ∙ ap (λ (told : List MadeMove). unchanged 0 (Begins 1) (Enters 1) ∷ unchanged 0 (Before 1 0) (Enters 0) ∷ unchanged 0 (Before 0 0) Acts ∷ unchanged 1 (Begins 2) (Enters 2) ∷ told) then_told

pub returns-clause-goes_on : goal.returns-clause-goes_on
unfolding gate_holds fires fired
returns-clause-goes_on c = simp (of_expr, of_stmt)

-- the increment is lost
late : Config
late = record { store = holding (word 8 1 ∷ []); threads = first_in_body 3 ∷ second_at 2 ∷ [] }

late_runs : run_of (lowest increments) (moves_of (1 ∷ 0 ∷ [])) 0 low_later ≡ (2, None, late)
unfolding gate_holds fires fired late first_in_body second_at
late_runs = simp (of_expr, of_stmt)

late_told : history (lowest increments) low_later (moves_of (1 ∷ 0 ∷ [])) ≡ unchanged 1 (Leaves 0) (Returns 2) ∷ wrote 0 (Before 0 2) (from_to 2 1) ∷ []
unfolding gate_holds fires fired
late_told = simp (of_expr, of_stmt)

last_told : history (lowest increments) late (moves_of (1 ∷ 1 ∷ 0 ∷ [])) ≡ read 1 (Before 2 2) (from_to 0 1) ∷ []
unfolding gate_holds fires fired late first_in_body second_at
last_told = simp (of_expr, of_stmt)

pub returns-clause-ends : goal.returns-clause-ends
returns-clause-ends c =
    histories_join (lowest increments) (moves_of (1 ∷ 0 ∷ [])) (moves_of (1 ∷ 1 ∷ 0 ∷ [])) 0 2 low_later late late_runs
    ∙ ap (λ (told : List MadeMove). told ++ history (lowest increments) late (moves_of (1 ∷ 1 ∷ 0 ∷ []))) late_told
    ∙ ap (λ (told : List MadeMove). unchanged 1 (Leaves 0) (Returns 2) ∷ wrote 0 (Before 0 2) (from_to 2 1) ∷ told) last_told

-- the second thread has incremented twice, and the first has entered its body
half : Config
half = record { store = holding (word 8 2 ∷ []); threads = (record { callee = 1; args = []; state = Inside [] (record { procedure = 1; place = 0; locals = [] }) }) ∷ second_at 2 ∷ [] }

half_runs : run_of (topmost increments) (moves_of (1 ∷ 1 ∷ 1 ∷ 0 ∷ [])) 0 (start (topmost increments) (holding (word 8 0 ∷ []))) ≡ (4, None, half)
unfolding gate_holds fires fired half second_at
half_runs = simp (of_expr, of_stmt)

half_told : history (topmost increments) (start (topmost increments) (holding (word 8 0 ∷ []))) (moves_of (1 ∷ 1 ∷ 1 ∷ 0 ∷ [])) ≡ unchanged 1 (Begins 2) (Enters 2) ∷ wrote 1 (Before 2 0) (from_to 0 1) ∷ wrote 1 (Before 2 1) (from_to 1 2) ∷ unchanged 0 (Begins 1) (Enters 1) ∷ []
unfolding gate_holds fires fired
half_told = simp (of_expr, of_stmt)

rest_told : history (topmost increments) half (moves_of (0 ∷ 1 ∷ 1 ∷ [])) ≡ wrote 0 (Before 1 0) (from_to 2 3) ∷ read 1 (Before 2 2) (from_to 0 3) ∷ unchanged 1 (Before 2 3) Goes ∷ []
unfolding gate_holds fires fired half second_at
rest_told = simp (of_expr, of_stmt)

pub returns-clause-top : goal.returns-clause-top
returns-clause-top c =
    histories_join (topmost increments) (moves_of (1 ∷ 1 ∷ 1 ∷ 0 ∷ [])) (moves_of (0 ∷ 1 ∷ 1 ∷ [])) 0 4 (start (topmost increments) (holding (word 8 0 ∷ []))) half half_runs
    ∙ ap (λ (told : List MadeMove). told ++ history (topmost increments) half (moves_of (0 ∷ 1 ∷ 1 ∷ []))) half_told
    ∙ ap (λ (told : List MadeMove). unchanged 1 (Begins 2) (Enters 2) ∷ wrote 1 (Before 2 0) (from_to 0 1) ∷ wrote 1 (Before 2 1) (from_to 1 2) ∷ unchanged 0 (Begins 1) (Enters 1) ∷ told) rest_told
