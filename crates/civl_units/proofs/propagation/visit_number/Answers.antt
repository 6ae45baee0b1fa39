use Rattle.std.proofs.Common.{◌++◌, ◌∙◌, [], length, sym, subst}
use Rattle.std.proofs.lemmas.List.Elements.{All-append, All-get_or}
use Rattle.civl_cnf.specs.ClauseSet.{IsBelow}
use Rattle.civl_units.proofs.Visiting.{number_says}
use Rattle.civl_units.proofs.propagation.visit_number.Goals as goal

pub returns-in_ok-falsified-in-Some : goal.returns-in_ok-falsified-in-Some
returns-in_ok-falsified-in-Some c =
    let marks = c.args.marks.now in
    let clauses = c.args.formula.now ++ c.args.earlier.now in
    let is = c.lits.ensures ∙ c.in-Some.ensures.is in
    let all = All-append (IsBelow (length marks.values)) c.args.formula.now c.args.earlier.now c.requires.formula c.requires.earlier in
    let below = subst (IsBelow (length marks.values)) (sym is) (All-get_or (IsBelow (length marks.values)) clauses c.args.number [] c.in-Some.ensures.within all) in
    number_says marks c.mark_forced.new.marks clauses c.lits.result.now c.args.number c.in_ok-falsified-in-Some.falsified c.in-Some.ensures.within is below c.in_ok-falsified-in-Some.ensures
