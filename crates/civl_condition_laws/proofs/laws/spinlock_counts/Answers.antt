use Rattle.civl_tree.proofs.Layers.{layers}
use Rattle.civl_layers.specs.Cuts.{cuts_among}
use Rattle.civl_condition_laws.proofs.laws.spinlock_counts.Goals as goal

pub returns : goal.returns
unfolding cuts_among
returns c = (simp layers, simp layers)
