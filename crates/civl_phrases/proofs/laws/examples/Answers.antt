use Rattle.std.proofs.Common.{refl}
use Rattle.civl_phrases.specs.Bracket.{room}
use Rattle.civl_phrases.specs.Reader.{opened, enter, expect, after, done, chosen, mapped, both, then_token, leaf, flagged}
use Rattle.civl_phrases.specs.List.{enclosed, series, repeated, repeated_by}
use Rattle.civl_phrases.specs.Leaf.{a_number}
use Rattle.civl_phrases.proofs.laws.examples.Goals as goal

pub returns : goal.returns
unfolding room opened enter expect after done chosen mapped both then_token leaf flagged enclosed series repeated repeated_by a_number
returns c = record {
  none = refl;
  two = refl;
  trailing_comma = refl;
  leading_comma = refl;
  other_bracket = refl;
  cut_short = refl;
  no_bracket = refl;
  deep = refl;
  deep_missed = refl;
  flag_set = refl;
  flag_unset = refl;
  brackets_alike = refl;
  third_bracket = refl;
}
