use Rattle.std.specs.Prelude.{Result, Ok, Err}
use Rattle.std.proofs.Common.{ap₂, sym, subst}
use Rattle.civl_tree.specs.Results.{both_of}
use Rattle.civl_trial.specs.Phrases.{Makes}
use Rattle.civl_trial.proofs.phrases.together.Goals as goal

both_made : {A B E : Type 0} (first : Result A E) (second : Result B E) (a : A) (b : B) → Makes first a → Makes second b → Makes (both_of first second) (a, b)
both_made (Ok x) (Ok y) a b is_a is_b = ap₂ (λ x y. (x, y)) is_a is_b
both_made (Ok x) (Err error) a b is_a is_b = tt
both_made (Err error) second a b is_a is_b = tt

pub returns : goal.returns
returns g c = λ a b is_a is_b. subst (λ made. Makes made (a, b)) (sym c.both.ensures) (both_made c.args.first c.args.second a b is_a is_b)
