use Rattle.civl_phrases.proofs.Repeated.{list_unfolds}
use Rattle.civl_phrases.proofs.laws.lists.Goals as goal

pub returns : goal.returns
returns g c = λ test x less. list_unfolds test x less
