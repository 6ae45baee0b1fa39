use Rattle.std.specs.Fmt.{digits}
use Rattle.civl_tree.proofs.Layers.{layers}
use Rattle.civl_layers.specs.Cuts.{cuts_among}
use Rattle.civl_conditions.specs.Listed.{conditions}
use Rattle.civl_conditions.specs.Names.{name_text}
use Rattle.civl_condition_laws.proofs.laws.countdown_names.Goals as goal

pub returns : goal.returns
unfolding digits cuts_among conditions name_text
returns c = simp layers
