use Rattle.std.proofs.Common.{◌≤◌, List, length, subst, sym}
use Rattle.civl_layers.specs.declared.cut.Cut.{Cut}
use Rattle.civl_conditions.proofs.Placing.{cuts_fit, found_cuts}
use Rattle.civl_conditions.proofs.places.push_proc.Goals as goal

pub push_cuts-requires : goal.push_cuts-requires
push_cuts-requires c =
    subst (λ (cuts : List Cut). length cuts ≤ 4294967296) (sym (found_cuts _ c.requires.found c.in_ok-cuts.ensures))
    (cuts_fit c.args.src.now c.requires.numbered c.args.number c.args.proc.now c.requires.found)
