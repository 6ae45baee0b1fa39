use Rattle.std.proofs.Common.{lit<}
use Rattle.std.specs.Fmt.{digits}
use Rattle.std.specs.Prelude.{codes, ◌∷◌, ◌++◌}
use Rattle.civl_lex.proofs.Readings.{answer_right}
use Rattle.civl_lex.proofs.laws.examples.Goals as goal

pub returns : goal.returns
unfolding digits
returns c = record {
  header = answer_right 20 (codes "civl 1;") (lit< tt);
  fault = answer_right 20 (codes "civl 1 $") (lit< tt);
  longest = answer_right 20 (codes "a<<=civl2") (lit< tt);
  digits = answer_right 20 (codes "1a 0") (lit< tt);
  zeros = answer_right 20 (codes "00") (lit< tt);
  limit = answer_right 20 (codes "4294967295") (lit< tt);
  past = answer_right 20 (codes "4294967296") (lit< tt);
  comments = answer_right 20 (codes "a//b" ++ 10 ∷ codes "c//d") (lit< tt);
  slash = answer_right 20 (codes "a /") (lit< tt);
}
