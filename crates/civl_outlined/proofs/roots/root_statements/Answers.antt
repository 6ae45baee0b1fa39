use Rattle.std.proofs.Common.{List, ℕ, ◌∙◌, ap, sym, get_or, subst}
use Rattle.civl_tree.specs.declared.program.Program.{Program}
use Rattle.civl_tree.specs.rules.Rules.{Keeps}
use Rattle.civl_yields.specs.YieldRules.{yield_rules}
use Rattle.civl_goals.proofs.Plain.{roots_are_plain}
use Rattle.civl_outlined.specs.declared.places.Place.{Place}
use Rattle.civl_outlined.specs.inner.Places.{ArePlaces}
use Rattle.civl_outlined.proofs.Stating.{places_are_few}
use Rattle.civl_outlined.proofs.Plain.{few_statements, counts_are}
use Rattle.civl_outlined.proofs.roots.root_statements.Goals as goal

pub places_of-requires : goal.places_of-requires
places_of-requires c = few_statements c.args.said.now.program.now c.requires.said.numbered c.args.number c.args.proc.now c.requires.proc

pub statement_list-requires-clause-small : goal.statement_list-requires-clause-small
statement_list-requires-clause-small c = few_statements c.args.said.now.program.now c.requires.said.numbered c.args.number c.args.proc.now c.requires.proc

pub statement_list-requires-clause-places : goal.statement_list-requires-clause-places
statement_list-requires-clause-places c = subst (λ (ps : List Place). ArePlaces c.args.proc.now.body ps) (sym c.as_slice.ensures.value) c.in_ok-places.ensures

pub statement_list-requires-clause-plain : goal.statement_list-requires-clause-plain
statement_list-requires-clause-plain c =
    roots_are_plain c.args.said.now.program.now (subst (λ (p : Program). Keeps yield_rules p) (sym c.requires.of.in_program) c.requires.yields) c.args.number c.args.proc.now c.requires.proc c.requires.root

pub statement_list-requires-clause-few : goal.statement_list-requires-clause-few
statement_list-requires-clause-few c =
    places_are_few c.args.proc.now.body _ (subst (λ (ps : List Place). ArePlaces c.args.proc.now.body ps) (sym c.as_slice.ensures.value) c.in_ok-places.ensures) (few_statements c.args.said.now.program.now c.requires.said.numbered c.args.number c.args.proc.now c.requires.proc)

pub statement_list-requires-clause-counts : goal.statement_list-requires-clause-counts
statement_list-requires-clause-counts c = λ number.
    ap (λ (ns : List ℕ). get_or ns number 0) c.as_slice-2.ensures.value ∙ c.in_ok-counts.ensures.counts number
    ∙ counts_are c.args.said.now.program.now c.args.src.now c.args.number c.args.proc.now number c.requires.of.in_program c.requires.proc
