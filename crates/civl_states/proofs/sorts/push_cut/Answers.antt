use Rattle.std.proofs.Common.{ap, ◌∙◌}
use Rattle.civl_tree.specs.declared.program.Program.{Program}
use Rattle.civl_states.proofs.Grouping.{none_behind}
use Rattle.civl_states.proofs.sorts.push_cut.Goals as goal

pub returns-in-None : goal.returns-in-None
returns-in-None c =
    none_behind _ c.args.sorts.now.items _ c.args.src.now.procs c.args.number (c.as_slice.ensures ∙ ap (λ (p : Program). p.procs) c.program.ensures.same) c.in-None.ensures.lookup.3
