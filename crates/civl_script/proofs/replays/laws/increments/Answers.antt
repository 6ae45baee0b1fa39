use Rattle.std.proofs.Common.{◌∙◌, ap, refl}
use Rattle.civl_tree.specs.declared.expr.Expr.{the_lemmas as of_expr}
use Rattle.civl_tree.specs.declared.stmt.Stmt.{the_lemmas as of_stmt}
use Rattle.civl_firing.specs.Fired.{gate_holds, fires, fired}
use Rattle.civl_meaning.specs.Layers.{lowest, topmost}
use Rattle.civl_meaning.specs.examples.Increments.{increments, TopScheduleRuns}
use Rattle.civl_meaning.proofs.Schedules.{low_schedule_runs}
use Rattle.civl_script.specs.replays.Trace.{read_off}
use Rattle.civl_script.proofs.replays.laws.increments.Goals as goal

pub returns-clause-low : goal.returns-clause-low
returns-clause-low c = ap (read_off (lowest increments)) low_schedule_runs ∙ simp (of_expr, of_stmt)

top_schedule_runs : TopScheduleRuns
unfolding gate_holds fires fired
top_schedule_runs = simp (of_expr, of_stmt)

pub returns-clause-top : goal.returns-clause-top
returns-clause-top c = ap (read_off (topmost increments)) top_schedule_runs ∙ simp (of_stmt)

pub returns-clause-nothread : goal.returns-clause-nothread
returns-clause-nothread c = refl
