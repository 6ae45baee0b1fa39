use Rattle.std.proofs.Common.{length, map, refl, ap}
use Rattle.std.proofs.lemmas.List.{length-map}
use Rattle.civl_bits.specs.declared.value.Value.TheVariants as value
use Rattle.civl_cnf.specs.Literal.{opposite}
use Rattle.civl_circuits.proofs.Numbers.{number-complement}
use Rattle.civl_circuits.proofs.Words.{IsBelow-flipped}
use Rattle.civl_symbolic.proofs.Making.{word_kept}
use Rattle.civl_symbolic.proofs.one_operand.unary_of_word.Goals as goal

pub returns-in_ok-word-in-Flip-clause-ok : goal.returns-in_ok-word-in-Flip-clause-ok
returns-in_ok-word-in-Flip-clause-ok c =
    rw (c.in-Flip.is, c.from_vec.ensures, c.in_ok-word-in-Flip.ensures.word)
    (word_kept _ (map opposite c.args.a.now) _ _ (length c.args.a.now) _ (length-map c.args.a.now opposite) c.requires.width (IsBelow-flipped _ _ c.requires.a) refl (λ v. ap (λ n. value.Word (length c.args.a.now, n)) (number-complement v _ _ refl)))
