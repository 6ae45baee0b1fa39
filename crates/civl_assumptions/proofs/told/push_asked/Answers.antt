use Rattle.std.proofs.Common.{◌∙◌, ap}
use Rattle.civl_tree.specs.declared.program.Program.{Program}
use Rattle.civl_path_stories.proofs.Chains.{none_there}
use Rattle.civl_assumptions.proofs.told.push_asked.Goals as goal

pub returns-in-None : goal.returns-in-None
returns-in-None c =
    none_there _ c.args.lines.now.items _ c.args.src.now.procs c.args.asked.now.number
    (c.as_slice.ensures ∙ ap (λ (p : Program). p.procs) c.program.ensures.same) c.in-None.ensures.lookup.3
