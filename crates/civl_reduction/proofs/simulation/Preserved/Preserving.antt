-- Accepted programs preserve failures.
use Rattle.civl_reduction.specs.staged.Inside.{CheckedAreSafeInside}
use Rattle.civl_reduction.specs.simulation.Between.{BetweenAreSafe}
use Rattle.civl_reduction.specs.staged.Reduced.{CheckedEndInside}
use Rattle.civl_reduction.specs.simulation.Carried.{CheckedAreRefined}
use Rattle.civl_reduction.specs.simulation.Followed.{LayersAreSound, AcceptedPreserve}
use Rattle.civl_reduction.specs.simulation.Preserved.{CheckedBlocksAreSound, CheckedLayersPreserve, AcceptedProgramsPreserve}

pub blocks_sound : CheckedAreSafeInside → CheckedEndInside → BetweenAreSafe → CheckedAreRefined → CheckedBlocksAreSound
blocks_sound safe ends between refined program layer store k = record {
  safe_inside = safe program layer store k;
  ends_inside = ends program layer store k;
  safe_between = λ moves config t f g now. between program layer store moves config t f k g now;
  refined = refined program layer store k;
}

pub layers_preserve : LayersAreSound → CheckedBlocksAreSound → CheckedLayersPreserve
layers_preserve layers sound program layer store k fails = layers program layer store k (sound program layer store k) fails

pub programs_preserve : AcceptedPreserve → CheckedBlocksAreSound → AcceptedProgramsPreserve
programs_preserve preserve sound program a initial =
    preserve program a initial (λ layer store below i. sound program layer store (record { written = a.written; layered = a.layered; linear = a.linear; yields = a.yields; hold = a.hold; below = below; initial = i }))
