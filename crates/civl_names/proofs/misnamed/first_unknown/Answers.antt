use Rattle.std.proofs.Common.{◌∙◌}
use Rattle.civl_names.specs.inner.NameSets.{names_in}
use Rattle.civl_names.proofs.Parts.{unknown_in_parts}
use Rattle.civl_names.proofs.misnamed.first_unknown.Goals as goal

pub returns : goal.returns
returns c =
    let sets = c.args.sets.now in
    c.in_ok-first.ensures
    ∙ unknown_in_parts c.args.program.now (names_in sets.globals.now) (names_in sets.actions.now) (names_in sets.procs.now) c.requires.globals c.requires.actions c.requires.procs
