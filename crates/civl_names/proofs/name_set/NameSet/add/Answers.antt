use Rattle.std.proofs.Common.{◌∙◌, ap, map}
use Rattle.std.specs.Prelude.{not}
use Rattle.std.proofs.Math.Bool.{not-not}
use Rattle.civl_names.proofs.NameKeys.{any_key, with_key, name_of}
use Rattle.civl_names.proofs.name_set.NameSet.add.Goals as goal

pub returns-clause-old : goal.returns-clause-old
returns-clause-old c =
    ap not c.in_ok-added.ensures.added ∙ not-not _ ∙ any_key c.args.name.now c.as_slice.result.now c.args.self.now.keys.keys c.as_slice.ensures

pub returns-clause-names : goal.returns-clause-names
returns-clause-names c =
    ap (map name_of) c.in_ok-added.ensures.keys ∙ with_key c.args.name.now c.as_slice.result c.args.self.now.keys.keys c.as_slice.ensures
