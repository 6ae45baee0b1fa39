use Rattle.std.proofs.Common.{◌≡◌, ◌∙◌, ◌++◌, ◌∷◌, [], ◌+◌, ◌<◌, ℕ, List, length, get_or, take, sym, ap, ap₂, subst, arith, append_assoc}
use Rattle.std.proofs.lemmas.List.{get_or_default, take_more}
use Rattle.civl_cnf.specs.Literal.{Literal}
use Rattle.civl_cnf.specs.ClauseSet.{AreBelow}
use Rattle.civl_units.specs.Propagation.{IsClosed, IsClosedAt}
use Rattle.civl_units.proofs.Propagating.{all_left}
use Rattle.civl_rup.specs.inner.Following.{IsRoot}
use Rattle.civl_rup.proofs.Hints.{root_more}
use Rattle.civl_rup.proofs.Replays.{earlier_below, have_next, rup_moved}
use Rattle.civl_rup.proofs.following.followed.Goals as goal

pub follow-requires-clause-root : goal.follow-requires-clause-root
follow-requires-clause-root c =
    let at = c.loop-at.at in
    let is = ap₂ (λ (xs ys : List (List Literal)). xs ++ take at ys) (sym c.clauses.ensures.is) (sym c.clauses-clauses.ensures) in
    subst (IsRoot c.loop-at.trail) is c.loop-at.invariant.root

pub follow-requires-clause-earlier : goal.follow-requires-clause-earlier
follow-requires-clause-earlier c =
    let at = c.loop-at.at in
    let log = c.args.log.now in
    let size : length c.clauses-clauses.result.now ≡ length log = ap length c.clauses-clauses.ensures in
    let below = earlier_below c.args.cnf.now log at (omega arith) c.loop-at.invariant.rup in
    subst (λ (n : ℕ). AreBelow n (take at c.clauses-clauses.result.now)) (sym c.loop-at.invariant.size)
    (subst (λ (xs : List (List Literal)). AreBelow c.args.cnf.now.variables (take at xs)) (sym c.clauses-clauses.ensures) below)

pub loop-at-preserved : goal.loop-at-preserved
loop-at-preserved c =
    let at = c.loop-at.at in
    let set = c.args.cnf.now in
    let log = c.args.log.now in
    let inv = c.loop-at.invariant in
    let says = c.in_ok-follows.ensures in
    let size : length c.clauses-clauses.result.now ≡ length log = ap length c.clauses-clauses.ensures in
    let fits : at < length log = omega arith in
    let is = ap₂ (λ (xs ys : List (List Literal)). xs ++ take at ys) c.clauses.ensures.is c.clauses-clauses.ensures in
    let clause_is : c.lits.result.now ≡ get_or log at [] = c.lits.ensures ∙ c.index-clauses-at.is ∙ get_or_default c.clauses-clauses.result.now at c.index-clauses-at.result [] c.loop-at-test.true ∙ ap (λ (all : List (List Literal)). get_or all at []) c.clauses-clauses.ensures in
    let root = subst (IsRoot c.follow.new.trail) is says.root in
    let more : (set.clauses ++ take at log) ++ get_or log at [] ∷ [] ≡ set.clauses ++ take (at + 1) log
    = append_assoc set.clauses (take at log) (get_or log at [] ∷ []) ∙ ap (λ (xs : List (List Literal)). set.clauses ++ xs) (sym (take_more log at [] fits)) in
    record {
      loose = says.loose;
      size = says.size ∙ inv.size;
      marks = says.marks ∙ inv.size;
      root = root_more c.follow.new.trail (set.clauses ++ take at log) (set.clauses ++ take (at + 1) log)
          (λ s closed. all_left (IsClosedAt s) (set.clauses ++ take at log) (get_or log at [] ∷ []) (subst (IsClosed s) (sym more) closed)) root;
      rup = have_next set log at inv.rup (rup_moved _ _ _ _ _ _ inv.size is clause_is (says.rup c.if-not-follows.false));
    }
