use Rattle.std.proofs.Common.{refl}
use Rattle.civl_tree.proofs.Layers.{layers}
use Rattle.civl_layers.specs.Cuts.{cuts_among}
use Rattle.civl_layers.proofs.laws.cuts_in_order.Goals as goal

pub returns : goal.returns
unfolding cuts_among
returns c = (simp layers, simp layers, simp layers, refl)
