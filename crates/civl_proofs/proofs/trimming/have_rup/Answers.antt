use Rattle.std.proofs.Common.{arith, ◌≡◌, ◌<◌, List, [], length, get_or, refl, ◌∙◌, ap}
use Rattle.std.proofs.lemmas.List.{get_or_default}
use Rattle.civl_cnf.specs.Literal.{Literal}
use Rattle.civl_units.proofs.Listing.{next_listed}
use Rattle.civl_rup.proofs.Replays.{have_next}
use Rattle.civl_proofs.proofs.trimming.have_rup.Goals as goal

pub returns-then-not-branch-clause-exact : goal.returns-then-not-branch-clause-exact
returns-then-not-branch-clause-exact c = (
  λ t. absurd (cc (t)),
  λ h.
      let size : length c.clauses-clauses.result.now ≡ length c.args.log.now = ap length c.clauses-clauses.ensures in
      let yes = c.in_ok-stands.ensures.exact.1 (h c.loop-at.at (omega arith)) in
      let no = c.if-not-branch.true in
      cc,
)

pub loop-at-preserved : goal.loop-at-preserved
loop-at-preserved c =
    let at = c.loop-at.at in
    let set = c.args.cnf.now in
    let log = c.args.log.now in
    let is = c.clauses-clauses.ensures in
    let size : length c.clauses-clauses.result.now ≡ length log = ap length is in
    let fits : at < length log = omega arith in
    let formula : length c.clauses-formula.result.now ≡ length set.clauses = ap length c.clauses-formula.ensures.is in
    let clause_is : c.lits.result.now ≡ get_or log at [] = c.lits.ensures ∙ c.index-clauses-at.is ∙ get_or_default c.clauses-clauses.result.now at c.index-clauses-at.result [] c.loop-at-test.true ∙ ap (λ (all : List (List Literal)). get_or all at []) is in
    record {
      marks = c.in_ok-stands.ensures.size ∙ c.loop-at.invariant.marks;
      size = c.add.ensures.size ∙ c.loop-at.invariant.size;
      lists = next_listed set.clauses log at c.lits.result.now c.loop-at.occurrences c.add.new.self _ fits clause_is (omega arith) c.loop-at.invariant.lists c.in_ok-add.ensures.listed c.in_ok-add.ensures.unit;
      rup = have_next set log at c.loop-at.invariant.rup (c.in_ok-stands.ensures.exact.0 c.if-not-branch.false);
    }

pub returns-clause-exact : goal.returns-clause-exact
returns-clause-exact c =
    let size : length c.clauses-clauses.result.now ≡ length c.args.log.now = ap length c.clauses-clauses.ensures in
    (λ t. λ i low. c.loop-at.invariant.rup i (omega arith), λ h. refl)
