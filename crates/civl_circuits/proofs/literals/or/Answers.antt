use Rattle.std.proofs.Common.{arith, ◌≡◌, ◌∙◌, refl, ap₂, Bool, true, false, not, ◌&&◌, ◌||◌}
use Rattle.civl_cnf.specs.Literal.{truth_of}
use Rattle.civl_cnf.proofs.Extending.{truth_of-opposite}
use Rattle.civl_circuits.proofs.Words.{bit_turned}
use Rattle.civl_circuits.proofs.literals.or.Goals as goal

table : (a b : Bool) → not (not a && not b) ≡ (a || b)
table true true = refl
table true false = refl
table false true = refl
table false false = refl

pub returns-clause-ok : goal.returns-clause-ok
returns-clause-ok c =
    bit_turned _ _ _ (rw (c.negate-not_a.ensures, c.negate-not_b.ensures) at c.in_ok-neither.ensures.ok) c.negate.ensures (omega arith)
    (λ v. ap₂ (λ x y. not (x && y)) (truth_of-opposite v c.args.a) (truth_of-opposite v c.args.b) ∙ table (truth_of v c.args.a) (truth_of v c.args.b))

pub returns-clause-folded : goal.returns-clause-folded
returns-clause-folded c = λ h. (rw (c.negate-not_a.ensures, c.negate-not_b.ensures) at c.in_ok-neither.ensures.folded) h
