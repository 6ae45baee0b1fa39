use Rattle.std.proofs.Common.{refl}
use Rattle.clap.proofs.OnLiterals.{clap_on_literals}
use Rattle.civl_explain_words.specs.Words.{asked_of}
use Rattle.civl_explain_words.specs.examples.Lines.{FlagsAreRead}
use Rattle.civl_explain_words.proofs.laws.flags_are_read.Goals as goal

shown : FlagsAreRead
unfolding clap_on_literals asked_of
shown = (refl, refl, refl)

pub returns : goal.returns
returns c = shown
