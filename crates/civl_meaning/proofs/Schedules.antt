-- The schedule of the lowest program, in three parts.
use Rattle.std.proofs.Common.{◌∙◌, [], ◌∷◌, ◌++◌, refl, false}
use Rattle.std.proofs.lemmas.List.Elements.{All-nil, All-cons}
use Rattle.civl_bits.specs.Value.{IsValue}
use Rattle.civl_tree.specs.declared.expr.Expr.{the_lemmas as of_expr}
use Rattle.civl_tree.specs.declared.stmt.Stmt.{the_lemmas as of_stmt}
use Rattle.civl_firing.specs.Fired.{gate_holds, fires, fired}
use Rattle.civl_meaning.specs.Step.{start}
use Rattle.civl_meaning.specs.Failing.{IsMove}
use Rattle.civl_meaning.specs.Layers.{lowest}
use Rattle.civl_firing.specs.examples.Written.{word, holding}
use Rattle.civl_meaning.specs.examples.Moves.{by, moves_of}
use Rattle.civl_meaning.specs.examples.Increments.{increments, low_middle, low_later, LowScheduleBegins, LowScheduleGoesOn, LowScheduleEnds, LowScheduleRuns}
use Rattle.civl_meaning.specs.declared.config.State.TheVariants.{Inside}
use Rattle.civl_meaning.specs.examples.Flag.{set, bare, GatedCanFail}
use Rattle.civl_meaning.proofs.Runs.{runs_join}

pub low_schedule_begins : LowScheduleBegins
unfolding gate_holds fires fired
low_schedule_begins = simp (of_expr, of_stmt)

pub low_schedule_goes_on : LowScheduleGoesOn
unfolding gate_holds fires fired
low_schedule_goes_on = simp (of_expr, of_stmt)

pub low_schedule_ends : LowScheduleEnds
unfolding gate_holds fires fired
low_schedule_ends = simp (of_expr, of_stmt)

pub low_schedule_runs : LowScheduleRuns
low_schedule_runs =
    let whole = lowest increments in
    let last = moves_of (1 ∷ 0 ∷ 1 ∷ []) in
    runs_join whole (moves_of (0 ∷ 0 ∷ 0 ∷ 1 ∷ 1 ∷ 1 ∷ 1 ∷ 1 ∷ [])) (moves_of (1 ∷ 1 ∷ 1 ∷ []) ++ last) 0 8 (start whole (holding (word 8 0 ∷ []))) low_middle low_schedule_begins
    ∙ runs_join whole (moves_of (1 ∷ 1 ∷ 1 ∷ [])) last 8 11 low_middle low_later low_schedule_goes_on
    ∙ low_schedule_ends

pub gated_can_fail : GatedCanFail
unfolding gate_holds
gated_can_fail = (moves_of (0 ∷ []), set false (Inside [] (bare 0 0)), All-cons IsMove (by 0) [] (All-nil IsValue) (All-nil IsMove), (set false (Inside [] (bare 0 0)), refl, refl), simp (of_expr, of_stmt))
