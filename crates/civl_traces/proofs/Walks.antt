-- The longest of the worked paths, part by part.
use Rattle.std.proofs.Common.{◌≡◌, true, false, [], ◌∷◌, ap, ◌∙◌}
use Rattle.civl_tree.specs.declared.expr.Expr.{the_lemmas as of_expr}
use Rattle.civl_tree.specs.declared.stmt.Stmt.{the_lemmas as of_stmt}
use Rattle.civl_tree.proofs.Layers.{layers}
use Rattle.civl_firing.specs.Fired.{gate_holds, fires, fired}
use Rattle.civl_meaning.specs.Rest.{Rest, with_rest, rest_among}
use Rattle.civl_conditions.specs.paths.Paths.{Course, Progress, Comes}
use Rattle.civl_conditions.proofs.paths.Passing.{passing}
use Rattle.civl_traces.specs.Traces.{Trace, Onward, decided, moved, exits, tell, tell_all, trace_from}
use Rattle.civl_traces.specs.examples.Rows.{choosing, state, choice_of_one, see, less, loop, last}
use Rattle.civl_traces.specs.examples.Walks.{loop_cut}
use Rattle.civl_traces.proofs.Telling.{tell_more}
use Rattle.civl_traces.proofs.Known.{the_trace, then_known, then_is, first_is, knows_rank_loop, knowing}

abbrev c : Course
c = choosing 2 3

-- at the head, behind the call, behind the commit, behind the intro, and at the head again
abbrev begins : Progress
begins = state (5 ∷ 9 ∷ [], 0) (7, 1) (false, false)

abbrev called : Progress
called = state (5 ∷ 4 ∷ [], 0) (9, 1) (false, false)

abbrev committed : Progress
committed = state (5 ∷ 4 ∷ [], 0) (9, 1) (true, false)

abbrev seen : Progress
seen = state (5 ∷ 4 ∷ [], 4) (9, 1) (true, false)

abbrev again : Progress
again = state (5 ∷ 4 ∷ [], 4) (9, 0) (true, false)

-- what comes behind the `if`
abbrev later : Rest
later = (5, see) ∷ (6, less) ∷ (0, loop) ∷ (7, last) ∷ []

by_choice : (onward : Onward) → tell c choice_of_one choice_of_one 1 onward begins ≡ then_known (decided 1 true begins) (then_known (moved 2 begins called) (then_known (moved 3 called committed) (onward committed)))
unfolding gate_holds fires fired
by_choice onward = simp (layers, of_expr, passing, knowing)

by_later : tell_all c later (exits c) committed ≡ the_trace (moved 5 committed seen ∷ moved 6 seen again ∷ []) (Comes 0 again) 0
by_later = simp (layers, of_expr, passing, knowing)

by_head : trace_from c loop_cut begins ≡ then_known (decided 0 true begins) (tell c choice_of_one choice_of_one 1 (tell_all c later (exits c)) begins)
unfolding trace_from rest_among with_rest
by_head = simp (layers, of_expr, of_stmt, first_is, knows_rank_loop, tell_more)

pub through_the_call : trace_from c loop_cut begins ≡ the_trace (decided 0 true begins ∷ decided 1 true begins ∷ moved 2 begins called ∷ moved 3 called committed ∷ moved 5 committed seen ∷ moved 6 seen again ∷ []) (Comes 0 again) 0
through_the_call =
    by_head
    ∙ ap (then_known (decided 0 true begins)) (by_choice (tell_all c later (exits c))
    ∙ ap (λ (t : Trace). then_known (decided 1 true begins) (then_known (moved 2 begins called) (then_known (moved 3 called committed) t))) by_later)
    ∙ simp then_is
