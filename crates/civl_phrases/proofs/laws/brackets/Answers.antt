use Rattle.civl_phrases.proofs.Nesting.{to_shallow, from_shallow}
use Rattle.civl_phrases.proofs.laws.brackets.Goals as goal

pub returns : goal.returns
returns c = λ d tokens. (λ h. from_shallow d tokens h, λ h. to_shallow d tokens h.0 h.1)
