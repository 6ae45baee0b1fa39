use Rattle.std.proofs.Common.{◌∙◌}
use Rattle.civl_names.proofs.NameKeys.{any_key}
use Rattle.civl_names.proofs.name_set.NameSet.has.Goals as goal

pub returns : goal.returns
returns c = c.contains.ensures ∙ any_key c.args.name.now c.as_slice-bytes.result.now c.args.self.now.keys.keys c.as_slice-bytes.ensures
