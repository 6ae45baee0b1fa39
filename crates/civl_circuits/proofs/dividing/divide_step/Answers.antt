use Rattle.std.proofs.Common.{◌∙◌, ◌<◌, ap, [], ◌∷◌, ◌++◌, map}
use Rattle.std.proofs.lemmas.List.Elements.{All-cons, All-push}
use Rattle.civl_cnf.specs.Literal.{opposite}
use Rattle.civl_circuits.proofs.Words.{IsBelow-flipped, IsBelow-take, IsBelow-more}
use Rattle.civl_circuits.proofs.Divisions.{IsStep, step_enough, step_rest}
use Rattle.civl_cnf.proofs.Extending.{extends_trans}
use Rattle.civl_circuits.proofs.dividing.divide_step.Goals as goal

pub add_with_carry-requires-clause-b : goal.add_with_carry-requires-clause-b
add_with_carry-requires-clause-b c =
    rw (c.as_slice-3.ensures.value, c.in_ok-push.ensures.items, c.in_ok-flipped.ensures.word)
    (All-push (λ l. l.variable < c.args.gates.now.variables) (map opposite c.args.b.now) c.args.one (IsBelow-flipped _ _ c.requires.b) c.requires.one.below)

pub choose-requires-clause-b : goal.choose-requires-clause-b
choose-requires-clause-b c =
    rw (c.deref-2.ensures.value, c.in_ok-from.ensures.word, c.as_slice.ensures)
    (IsBelow-take _ _ (c.args.next ∷ c.args.rest.now) (IsBelow-more c.args.gates.now.variables _ (c.args.next ∷ c.args.rest.now) c.in_ok-sum.ensures.extends.variables (All-cons (λ l. l.variable < c.args.gates.now.variables) c.args.next c.args.rest.now c.requires.next c.requires.rest)))

stepping : (c : goal.After-drop-from-2) → IsStep c.args.gates.now c.add_with_carry.new.gates c.args.rest.now c.args.b.now c.args.next c.args.one c.in_ok-from.from.items c.push.new.self.items c.in_ok-sum.sum.items c.index-enough.result.now
stepping c = record {
  from_is = c.in_ok-from.ensures.word ∙ ap (λ xs. xs ++ c.args.rest.now) c.as_slice.ensures;
  flipped_is = c.in_ok-push.ensures.items ∙ ap (λ xs. xs ++ c.args.one ∷ []) c.in_ok-flipped.ensures.word;
  size = c.requires.size;
  one_is = c.requires.one;
  enough_at = c.index-enough.ensures;
  made = rw (c.as_slice-2.ensures.value, c.as_slice-3.ensures.value) at c.in_ok-sum.ensures.ok;
}

pub returns-clause-enough : goal.returns-clause-enough
returns-clause-enough c = step_enough (stepping c) (rw (c.deref.ensures.value, c.deref-2.ensures.value) at c.in_ok-rest.ensures.ok)

pub returns-clause-rest : goal.returns-clause-rest
returns-clause-rest c = step_rest (stepping c) (rw (c.deref.ensures.value, c.deref-2.ensures.value) at c.in_ok-rest.ensures.ok)

pub returns-in_err-rest-clause-extends : goal.returns-in_err-rest-clause-extends
returns-in_err-rest-clause-extends c = extends_trans c.in_ok-sum.ensures.extends c.in_err-rest.ensures.extends

pub returns-clause-extends : goal.returns-clause-extends
returns-clause-extends c = extends_trans c.in_ok-sum.ensures.extends c.in_ok-rest.ensures.extends
