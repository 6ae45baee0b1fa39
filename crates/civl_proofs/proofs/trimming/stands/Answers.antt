use Rattle.std.proofs.Common.{arith, ◌≡◌, ◌≤◌, ◌<◌, ◌++◌, ℕ, List, [], length, get_or, refl, sym, subst, ◌∙◌, ap, ap₂, take}
use Rattle.std.proofs.lemmas.List.{get_or_default}
use Rattle.civl_cnf.specs.Literal.{Literal}
use Rattle.civl_cnf.specs.ClauseSet.{AreBelow}
use Rattle.civl_rup.proofs.Replays.{earlier_below, rup_moved}
use Rattle.civl_proofs.proofs.trimming.stands.Goals as goal

pub returns-then-at-from-clause-exact : goal.returns-then-at-from-clause-exact
returns-then-at-from-clause-exact c = (λ t. c.requires.known c.args.at c.if-at-from.true, λ h. refl)

pub has_rup-requires-clause-earlier : goal.has_rup-requires-clause-earlier
has_rup-requires-clause-earlier c =
    let at = c.args.at in
    let is = c.clauses-clauses.ensures in
    let fits : at ≤ length c.args.log.now = omega (arith, c.requires.within) in
    let below = earlier_below c.args.cnf.now c.args.log.now at fits c.requires.before in
    subst (λ (n : ℕ). AreBelow n (take at c.clauses-clauses.result.now)) (sym c.requires.marks)
    (subst (λ (log : List (List Literal)). AreBelow c.args.cnf.now.variables (take at log)) (sym is) below)

pub returns-clause-exact : goal.returns-clause-exact
returns-clause-exact c =
    let at = c.args.at in
    let log = c.args.log.now in
    let is = c.clauses-clauses.ensures in
    let size : length c.clauses-clauses.result.now ≡ length log = ap length is in
    let low : at < length c.clauses-clauses.result.now = omega (arith, c.requires.within, size) in
    let clause_is : c.lits-clause.result.now ≡ get_or log at [] = c.lits-clause.ensures ∙ c.index-clauses-at.is ∙ get_or_default c.clauses-clauses.result.now at c.index-clauses-at.result [] low ∙ ap (λ (all : List (List Literal)). get_or all at []) is in
    let clauses_are = ap₂ (λ (xs ys : List (List Literal)). xs ++ take at ys) c.clauses.ensures.is is in (
      λ t. rup_moved _ _ _ _ _ _ c.requires.marks clauses_are clause_is (c.in_ok-yes.ensures.exact.0 t),
      λ h. c.in_ok-yes.ensures.exact.1 (rup_moved _ _ _ _ _ _ (sym c.requires.marks) (sym clauses_are) (sym clause_is) h),
    )
