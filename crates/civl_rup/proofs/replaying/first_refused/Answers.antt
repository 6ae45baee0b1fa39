use Rattle.std.proofs.Common.{arith, ◌≡◌, ◌∙◌, ◌+◌, ◌<◌, ◌++◌, ◌∷◌, ℕ, List, [], length, get_or, sym, ap, subst, take, append_assoc}
use Rattle.std.proofs.lemmas.List.{get_or_default, take_more, length-replicate}
use Rattle.std.specs.Prelude.{Bool, Option, None}
use Rattle.civl_cnf.specs.Literal.{Literal}
use Rattle.civl_cnf.specs.ClauseSet.{AreBelow}
use Rattle.civl_units.specs.Trail.{Marking}
use Rattle.civl_rup.specs.Rup.{HasRup, IsFirstWithoutRup}
use Rattle.civl_rup.specs.inner.Standing.{Stands, TakeSays}
use Rattle.civl_rup.proofs.Replays.{earlier_below, have_next}
use Rattle.civl_rup.proofs.replaying.first_refused.Goals as goal

abbrev none : Option Bool
none = None

pub returns-then-clauses-known-clause-none : goal.returns-then-clauses-known-clause-none
returns-then-clauses-known-clause-none c = λ e i low.
    let size : length c.clauses-clauses.result.now ≡ length c.args.log.now = ap length c.clauses-clauses.ensures in
    c.requires.rup i (omega arith)

pub load_log-requires : goal.load_log-requires
load_log-requires c =
    let below = earlier_below c.args.cnf.now c.args.log.now c.args.known c.requires.within c.requires.rup in (
      c.args.cnf.now.variables,
      c.args.cnf.now.clauses,
      c.in_ok-loaded.ensures,
      subst (λ (xs : List (List Literal)). AreBelow c.args.cnf.now.variables (take c.args.known xs)) (sym c.clauses-clauses.ensures) below,
    )

pub loop-at-init : goal.loop-at-init
loop-at-init c =
    let set = c.args.cnf.now in
    record {
      marks = ap (λ (m : Marking). length m.values) c.in_ok-marks.ensures ∙ length-replicate c.variables-2.result none ∙ c.variables-2.ensures.is;
      stands = subst (λ (xs : List (List Literal)). Stands c.load_log.new.engine set.variables (set.clauses ++ take c.args.known xs) c.in_ok-refuted.refuted) c.clauses-clauses.ensures (c.in_ok-refuted.ensures set.variables set.clauses c.in_ok-loaded.ensures);
      rup = c.requires.rup;
    }

pub take_clause-requires : goal.take_clause-requires
take_clause-requires c =
    let so_far = c.args.cnf.now.clauses ++ take c.loop-at.at c.args.log.now in
    (so_far, subst (λ (n : ℕ). Stands c.loop-at.engine n so_far c.loop-at.refuted) (sym c.loop-at.invariant.marks) c.loop-at.invariant.stands)

pub returns-in-None-clause-some : goal.returns-in-None-clause-some
returns-in-None-clause-some c = λ i e.
    let set = c.args.cnf.now in
    let log = c.args.log.now in
    let at = c.loop-at.at in
    let so_far = set.clauses ++ take at log in
    let n = length c.loop-at.marks.values in
    let is = c.clauses-clauses.ensures in
    let size : length c.clauses-clauses.result.now ≡ length log = ap length is in
    let clause_is : c.lits.result.now ≡ get_or log at [] = c.lits.ensures ∙ c.index-clauses-at.is ∙ get_or_default c.clauses-clauses.result.now at c.index-clauses-at.result [] c.loop-at-test.true ∙ ap (λ (all : List (List Literal)). get_or all at []) is in
    let stands = subst (λ (m : ℕ). Stands c.loop-at.engine m so_far c.loop-at.refuted) (sym c.loop-at.invariant.marks) c.loop-at.invariant.stands in
    let says = subst (TakeSays c.take_clause.new.engine n so_far c.lits.result.now (so_far ++ c.lits.result.now ∷ [])) c.in-None.is (c.in_ok-take_clause.ensures.says so_far stands) in
    let here : at ≡ i = cc in
    subst (IsFirstWithoutRup set log) here (record {
      place = omega arith;
      before = c.loop-at.invariant.rup;
      refused = λ h. says (subst (λ (m : ℕ). HasRup m so_far c.lits.result.now) (sym c.loop-at.invariant.marks) (subst (λ (x : List Literal). HasRup set.variables so_far x) (sym clause_is) h));
    })

pub loop-at-preserved : goal.loop-at-preserved
loop-at-preserved c =
    let set = c.args.cnf.now in
    let log = c.args.log.now in
    let at = c.loop-at.at in
    let so_far = set.clauses ++ take at log in
    let clause = c.lits.result.now in
    let n = length c.loop-at.marks.values in
    let new = c.take_clause.new.engine in
    let is = c.clauses-clauses.ensures in
    let size : length c.clauses-clauses.result.now ≡ length log = ap length is in
    let fits : at < length log = omega arith in
    let clause_is : clause ≡ get_or log at [] = c.lits.ensures ∙ c.index-clauses-at.is ∙ get_or_default c.clauses-clauses.result.now at c.index-clauses-at.result [] c.loop-at-test.true ∙ ap (λ (all : List (List Literal)). get_or all at []) is in
    let stands = subst (λ (m : ℕ). Stands c.loop-at.engine m so_far c.loop-at.refuted) (sym c.loop-at.invariant.marks) c.loop-at.invariant.stands in
    let says = subst (TakeSays new n so_far clause (so_far ++ clause ∷ [])) c.in-Some.is (c.in_ok-take_clause.ensures.says so_far stands) in
    let rup = subst (λ (x : List Literal). HasRup set.variables so_far x) clause_is (subst (λ (m : ℕ). HasRup m so_far clause) c.loop-at.invariant.marks says.0) in
    let more : so_far ++ clause ∷ [] ≡ set.clauses ++ take (at + 1) log
    = append_assoc set.clauses (take at log) (clause ∷ []) ∙ ap (λ (x : List Literal). set.clauses ++ (take at log ++ x ∷ [])) clause_is ∙ ap (λ (xs : List (List Literal)). set.clauses ++ xs) (sym (take_more log at [] fits)) in
    record {
      marks = c.in_ok-take_clause.ensures.size ∙ c.loop-at.invariant.marks;
      stands = subst (λ (cs : List (List Literal)). Stands new set.variables cs c.in-Some.refuted_now) more (subst (λ (m : ℕ). Stands new m (so_far ++ clause ∷ []) c.in-Some.refuted_now) c.loop-at.invariant.marks says.1);
      rup = have_next set log at c.loop-at.invariant.rup rup;
    }

pub returns-clause-none : goal.returns-clause-none
returns-clause-none c = λ e i low.
    let size : length c.clauses-clauses.result.now ≡ length c.args.log.now = ap length c.clauses-clauses.ensures in
    c.loop-at.invariant.rup i (omega arith)
