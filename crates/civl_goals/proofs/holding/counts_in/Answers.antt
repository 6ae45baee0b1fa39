use Rattle.std.proofs.Common.{◌∙◌, map, ap}
use Rattle.civl_tree.specs.rules.Names.{names_in_proc}
use Rattle.civl_linear.specs.Held.{traced_proc}
use Rattle.civl_linear.proofs.Beside.{procs_are_traced}
use Rattle.civl_goals.proofs.Unheld.{counted, counted_each}
use Rattle.civl_goals.proofs.holding.counts_in.Goals as goal

pub returns-clause-counts : goal.returns-clause-counts
returns-clause-counts c = λ statement.
    counted c.in_ok-counts.counts.items (names_in_proc c.args.proc.now) _ _ _ (traced_proc c.args.program.now c.args.proc.now).befores statement c.in_ok-counts.ensures (ap (map (λ name. name.now)) c.as_slice.ensures.value ∙ c.in_ok-names.ensures) c.as_slice-2.ensures.value c.in_ok-befores.ensures

pub returns-clause-statements : goal.returns-clause-statements
returns-clause-statements c =
    counted_each c.in_ok-counts.counts.items _ _ _ (traced_proc c.args.program.now c.args.proc.now).befores c.args.proc.now.body c.in_ok-counts.ensures c.as_slice-2.ensures.value c.in_ok-befores.ensures (procs_are_traced c.args.program.now c.args.proc.now).body.befores
