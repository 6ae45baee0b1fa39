use Rattle.std.proofs.Common.{◌≡◌, ◌∙◌, ◌++◌, ◌∷◌, [], sym, ap, subst, arith, List, length, append_assoc}
use Rattle.civl_cnf.specs.Literal.{Literal, opposite}
use Rattle.std.specs.Prelude.{Contains}
use Rattle.std.proofs.lemmas.List.{nil_from_length}
use Rattle.civl_provers.specs.Splitter.{IsSplit, FewerLeft}
use Rattle.civl_provers.proofs.Branches.{learned, learned_there, all_refuted, turned_last, taken_back}
use Rattle.civl_provers.proofs.Steps.{fewer_left}
use Rattle.civl_provers.proofs.refuting.refute.Goals as goal

pub returns-in-None-clause-after : goal.returns-in-None-clause-after
returns-in-None-clause-after c set h =
    let falses = c.loop-falses.falses.items in
    let log = c.loop-falses.log in
    let new = c.learn.new.log in
    let is : new ≡ log ++ falses ∷ [] = c.in_ok-learn.ensures ∙ ap (λ x. log ++ x ∷ []) c.as_slice.ensures.value in
    let none = c.in-None.ensures.cases in
    let size : length falses ≡ 0 = omega (arith, none.0) in
    all_refuted set falses new (nil_from_length falses size) (learned set falses log new is (c.loop-falses.invariant.refuted set h)) (learned_there falses log new is)

pub returns-then-positive-clause-after : goal.returns-then-positive-clause-after
returns-then-positive-clause-after c set h =
    let falses = c.loop-falses.falses.items in
    let log = c.loop-falses.log in
    let new = c.learn.new.log in
    let rest = c.pop.new.self.items in
    let last = c.in-Some.last in
    let is : new ≡ log ++ falses ∷ [] = c.in_ok-learn.ensures ∙ ap (λ x. log ++ x ∷ []) c.as_slice.ensures.value in
    let split : falses ≡ rest ++ last ∷ [] = c.in-Some.ensures.items in
    let old : IsSplit set (rest ++ last ∷ []) new = subst (λ (x : List Literal). IsSplit set x new) split (learned set falses log new is (c.loop-falses.invariant.refuted set h)) in
    let there : Contains new (rest ++ last ∷ []) = subst (Contains new) split (learned_there falses log new is) in
    let now : c.push.new.self.items ≡ rest ++ opposite last ∷ [] = c.in_ok-push-in-Some.ensures.items ∙ ap (λ x. rest ++ x ∷ []) c.negate.ensures in
    subst (λ (x : List Literal). IsSplit set x new) (sym now) (turned_last set rest last new old there)

pub returns-then-positive-clause-fewer : goal.returns-then-positive-clause-fewer
returns-then-positive-clause-fewer c done =
    let rest = c.pop.new.self.items in
    let last = c.in-Some.last in
    let tail = c.loop-falses.invariant.tail in
    let split : c.loop-falses.falses.items ≡ rest ++ last ∷ [] = c.in-Some.ensures.items in
    let was : c.args.falses.now.items ≡ rest ++ last ∷ tail = c.loop-falses.invariant.was ∙ ap (λ x. x ++ tail) split ∙ append_assoc rest (last ∷ []) tail in
    let now : c.push.new.self.items ≡ rest ++ opposite last ∷ [] = c.in_ok-push-in-Some.ensures.items ∙ ap (λ x. rest ++ x ∷ []) c.negate.ensures in
    subst (FewerLeft c.args.falses.now.items) (sym now) (fewer_left c.args.falses.now.items rest tail last was (sym c.positive.ensures ∙ c.if-positive.true))

pub loop-falses-preserved : goal.loop-falses-preserved
loop-falses-preserved c =
    let falses = c.loop-falses.falses.items in
    let log = c.loop-falses.log in
    let new = c.learn.new.log in
    let rest = c.pop.new.self.items in
    let last = c.in-Some.last in
    let tail = c.loop-falses.invariant.tail in
    let is : new ≡ log ++ falses ∷ [] = c.in_ok-learn.ensures ∙ ap (λ x. log ++ x ∷ []) c.as_slice.ensures.value in
    let split : falses ≡ rest ++ last ∷ [] = c.in-Some.ensures.items in
    record {
      refuted = λ set h.
          let old : IsSplit set (rest ++ last ∷ []) new = subst (λ (x : List Literal). IsSplit set x new) split (learned set falses log new is (c.loop-falses.invariant.refuted set h)) in
          let there : Contains new (rest ++ last ∷ []) = subst (Contains new) split (learned_there falses log new is) in
          taken_back set rest last new (sym c.positive.ensures ∙ c.if-positive.false) old there;
      tail = last ∷ tail;
      was = c.loop-falses.invariant.was ∙ ap (λ x. x ++ tail) split ∙ append_assoc rest (last ∷ []) tail;
    }

pub returns-then-positive-clause-turned : goal.returns-then-positive-clause-turned
returns-then-positive-clause-turned c done =
    let rest = c.pop.new.self.items in
    let last = c.in-Some.last in
    let tail = c.loop-falses.invariant.tail in
    let split : c.loop-falses.falses.items ≡ rest ++ last ∷ [] = c.in-Some.ensures.items in
    record {
      rest = rest;
      last = last;
      tail = tail;
      was = c.loop-falses.invariant.was ∙ ap (λ x. x ++ tail) split ∙ append_assoc rest (last ∷ []) tail;
      now = c.in_ok-push-in-Some.ensures.items ∙ ap (λ x. rest ++ x ∷ []) c.negate.ensures;
    }
