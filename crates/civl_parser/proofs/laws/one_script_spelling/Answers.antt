use Rattle.std.proofs.Common.{length}
use Rattle.civl_tree.specs.SpellingScript.{spell_script}
use Rattle.civl_phrases.proofs.Exactly.{one_spelling}
use Rattle.civl_parser.proofs.Shallow.{all_shallow}
use Rattle.civl_parser.proofs.OfScripts.{script_text_is}
use Rattle.civl_parser.proofs.laws.one_script_spelling.Goals as goal

pub returns : goal.returns
returns c = λ p q f g e. one_spelling (script_text_is (length (spell_script p))) p q f g e (all_shallow (spell_script p))
