use Rattle.std.proofs.Common.{◌∙◌, List, map, ap}
use Rattle.civl_tree.specs.declared.program.Proc.{Proc}
use Rattle.civl_meaning.specs.Layers.{means_body}
use Rattle.civl_layers.proofs.PlainPrograms.{copy_is_plain}
use Rattle.civl_layers.proofs.plain.at.Goals as goal

pub returns-clause-keeps : goal.returns-clause-keeps
returns-clause-keeps c =
    copy_is_plain c.in_ok-program.program c.program-source.result.now c.in_ok-bodies.bodies c.args.k c.program-source.ensures.keeps c.in_ok-program.ensures
    (c.in_ok-bodies.ensures ∙ ap (λ (procs : List Proc). map (λ proc. means_body c.args.k proc.refines) procs) c.as_slice.ensures)
