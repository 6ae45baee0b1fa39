use Rattle.std.specs.Prelude.{List, length, All}
use Rattle.std.proofs.Common.{◌<◌, sym, subst, arith}
use Rattle.std.proofs.lemmas.Option.{slice_get_within}
use Rattle.civl_tree.specs.declared.expr.Sort.TheVariants.{Bool as Truth}
use Rattle.civl_cnf.specs.ClauseSet.{assignment}
use Rattle.civl_terms.proofs.Weighing.{terms_weigh_less}
use Rattle.civl_actions.proofs.Staying.{sorted_within}
use Rattle.civl_blast.specs.declared.blasted.Place.{Place}
use Rattle.civl_verdicts.specs.models.Reading.{IsCellPlace, AreRead}
use Rattle.civl_verdicts.proofs.decisions.Concluding.{cell_places, true_where_read, decided_at}
use Rattle.civl_certify.proofs.Evidence.{evidence_refuted, evidence_spent}
use Rattle.civl_certify.proofs.examining.examine.Goals as goal

pub blast-requires-clause-within : goal.blast-requires-clause-within
blast-requires-clause-within g c = sorted_within c.args.terms.now c.args.id Truth c.requires.truth

pub blast-requires-clause-light : goal.blast-requires-clause-light
blast-requires-clause-light g c = omega (arith, c.requires.light, terms_weigh_less c.args.terms.now c.args.id (sorted_within c.args.terms.now c.args.id Truth c.requires.truth))

pub blast-requires-clause-numbers : goal.blast-requires-clause-numbers
blast-requires-clause-numbers g c = λ i k s e.
    let below : k < length c.args.sorts.now = slice_get_within c.args.sorts.now k s (c.requires.variables i k s e) in
    omega (arith, below, c.requires.few)

pub returns-in-Unsat-clause-found : goal.returns-in-Unsat-clause-found
returns-in-Unsat-clause-found g c = λ formula term.
    let e = c.in_ok-cnf.ensures in
    let ns = c.args.terms.now in
    let within = sorted_within ns c.args.id Truth c.requires.truth in
    evidence_refuted ns c.args.id c.args.sorts.now c.args.budget formula term c.requires.variables _ _ e.stands e.back e.places c.requires.limits e.small (terms_weigh_less ns c.args.id within) _
    (c.in_ok-outcome.ensures.unsat _ c.in-Unsat.is) c.variables-variables.ensures.below

pub read_back-requires-clause-places : goal.read_back-requires-clause-places
read_back-requires-clause-places g c =
    let e = c.in_ok-cnf.ensures in
    let sat = c.in_ok-outcome.ensures.sat _ c.in-Sat.is in
    subst (λ (ps : List Place). All (IsCellPlace c.args.sorts.now (length c.in-Sat.bits)) ps) (sym c.as_slice.ensures)
    (cell_places c.args.terms.now c.args.id c.args.sorts.now c.requires.variables _ _ e.stands e.back e.places (length c.in-Sat.bits) sat.enough)

pub returns-in_ok-values-in-Sat-clause-found : goal.returns-in_ok-values-in-Sat-clause-found
returns-in_ok-values-in-Sat-clause-found g c = λ formula term.
    let e = c.in_ok-cnf.ensures in
    let sat = c.in_ok-outcome.ensures.sat _ c.in-Sat.is in
    let read = subst (λ (ps : List Place). AreRead c.args.sorts.now ps (assignment c.in-Sat.bits) c.in_ok-values-in-Sat.values) c.as_slice.ensures c.in_ok-values-in-Sat.ensures in
    decided_at c.args.terms.now c.args.id c.args.sorts.now c.args.budget formula term _ read.sorted
    (true_where_read c.args.terms.now c.args.id c.args.sorts.now c.requires.variables _ _ e.stands e.back e.places (assignment c.in-Sat.bits) _ sat.truth read)

pub returns-in-Spent-clause-found : goal.returns-in-Spent-clause-found
returns-in-Spent-clause-found g c = λ formula term.
    let e = c.in_ok-cnf.ensures in
    let ns = c.args.terms.now in
    let within = sorted_within ns c.args.id Truth c.requires.truth in
    evidence_spent ns c.args.id c.args.sorts.now c.args.budget formula term c.requires.variables _ _ e.stands e.back e.places c.requires.limits e.small (terms_weigh_less ns c.args.id within) _
    (c.in_ok-outcome.ensures.spent _ c.in-Spent.is)
