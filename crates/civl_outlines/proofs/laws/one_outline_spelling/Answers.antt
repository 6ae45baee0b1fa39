use Rattle.std.proofs.Common.{length}
use Rattle.civl_phrases.proofs.Exactly.{one_spelling}
use Rattle.civl_parser.proofs.Shallow.{all_shallow}
use Rattle.civl_outlines.specs.SpellingOutline.{spell_outline}
use Rattle.civl_outlines.proofs.OfOutlines.{outline_text_is}
use Rattle.civl_outlines.proofs.laws.one_outline_spelling.Goals as goal

pub returns : goal.returns
returns c = λ a b f g e. one_spelling (outline_text_is (length (spell_outline a))) a b f g e (all_shallow (spell_outline a))
