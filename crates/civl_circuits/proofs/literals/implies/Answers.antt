use Rattle.std.proofs.Common.{arith, ◌≡◌, ◌∙◌, refl, ap, Bool, true, false, not, ◌&&◌, ◌||◌}
use Rattle.civl_cnf.specs.Literal.{truth_of}
use Rattle.civl_cnf.proofs.Extending.{truth_of-opposite}
use Rattle.civl_circuits.proofs.Words.{bit_turned}
use Rattle.civl_circuits.proofs.literals.implies.Goals as goal

table : (a b : Bool) → not (a && not b) ≡ (not a || b)
table true true = refl
table true false = refl
table false true = refl
table false false = refl

pub returns-clause-ok : goal.returns-clause-ok
returns-clause-ok c =
    bit_turned _ _ _ (rw c.negate-not_b.ensures at c.in_ok-broken.ensures.ok) c.negate.ensures (omega arith)
    (λ v. ap (λ y. not (truth_of v c.args.a && y)) (truth_of-opposite v c.args.b) ∙ table (truth_of v c.args.a) (truth_of v c.args.b))

pub returns-clause-folded : goal.returns-clause-folded
returns-clause-folded c = λ h. (rw c.negate-not_b.ensures at c.in_ok-broken.ensures.folded) h
