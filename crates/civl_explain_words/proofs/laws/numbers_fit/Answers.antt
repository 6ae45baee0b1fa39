use Rattle.civl_explain_words.proofs.Fits.{numbers_fit}
use Rattle.civl_explain_words.proofs.laws.numbers_fit.Goals as goal

pub returns : goal.returns
returns c = numbers_fit
