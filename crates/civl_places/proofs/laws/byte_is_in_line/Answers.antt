use Rattle.civl_places.proofs.Feeds.{byte_is_in_line}
use Rattle.civl_places.proofs.laws.byte_is_in_line.Goals as goal

pub returns : goal.returns
returns c = byte_is_in_line
