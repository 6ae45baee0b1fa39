use Rattle.civl_script.proofs.replays.Sound.{replays_stay, stops_have_causes}
use Rattle.civl_script.proofs.replays.laws.soundness.Goals as goal

pub returns-clause-stays : goal.returns-clause-stays
returns-clause-stays c = replays_stay

pub returns-clause-stops : goal.returns-clause-stops
returns-clause-stops c = stops_have_causes
