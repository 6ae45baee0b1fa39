use Rattle.std.proofs.Common.{refl}
use Rattle.clap.proofs.OnLiterals.{clap_on_literals}
use Rattle.civl_explain_words.specs.Words.{asked_of}
use Rattle.civl_explain_words.specs.examples.Lines.{NumbersAreRead}
use Rattle.civl_explain_words.proofs.laws.numbers_are_read.Goals as goal

shown : NumbersAreRead
unfolding clap_on_literals asked_of
shown = (refl, refl, refl, refl, refl, refl)

pub returns : goal.returns
returns c = shown
