use Rattle.std.proofs.Common.{◌≡◌, ◌∙◌, ◌<◌, ℕ, List, length, get_or, refl, sym, ap, subst}
use Rattle.std.specs.Prelude.{Option, Bool, None}
use Rattle.std.proofs.lemmas.List.{get_or_default}
use Rattle.civl_cnf.specs.Literal.{Literal, opposite}
use Rattle.civl_units.specs.Propagation.{Holds}
use Rattle.civl_units.specs.Trail.{IsOpen}
use Rattle.civl_propagation.specs.Trail.{IsDecided}
use Rattle.civl_rup.proofs.Hints.{follows_falses, loose_decides, size_decides, follows_decides}
use Rattle.civl_rup.proofs.following.make_all_false.Goals as goal

pub loop-lit-init : goal.loop-lit-init
loop-lit-init c = record {
  loose = c.requires.loose;
  size = refl;
  says = λ first clauses f. follows_falses c.args.trail.now first clauses c.args.lits.now f;
}

pub loop-lit-preserved : goal.loop-lit-preserved
loop-lit-preserved c =
    let old = c.loop-lit.trail in
    let new = c.decide.new.self in
    let lits = c.args.lits.now in
    let at = c.loop-lit.lit-index in
    let m = c.lit-item.result in
    let l = opposite m in
    let inv = c.loop-lit.invariant in
    let is : (d : Literal) → get_or lits at d ≡ m = λ d. sym (c.lit-item.is ∙ get_or_default lits at m d c.loop-lit-test.true) in
    let low : m.variable < length old.marks = subst (λ (n : ℕ). m.variable < n) (sym inv.size) (subst (λ (x : Literal). x.variable < length c.args.trail.now.marks) (is m) (c.requires.below at m c.loop-lit-test.true)) in
    let free : IsOpen old.marks l = ap (λ (v : ℕ). get_or old.marks v None) (sym c.variable.ensures.is) ∙ ap (λ (x : List (Option Bool)). get_or x c.variable.result None) (sym c.marks.ensures) ∙ c.in-None.is in
    let decided = subst (λ (x : Literal). IsDecided old new x) c.negate.ensures c.in_ok-decide-in-None.ensures in
    record {
      loose = loose_decides old new l inv.loose low free decided;
      size = size_decides old new l decided ∙ inv.size;
      says = λ first clauses f. follows_decides old new l first clauses lits inv.loose low free decided (inv.says first clauses f)
          (λ s fails closed within. subst (λ (x : Literal). Holds s (opposite x)) (is m) (fails at m c.loop-lit-test.true));
    }
