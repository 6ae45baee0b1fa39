use Rattle.std.proofs.Common.{◌≡◌, ◌++◌, ◌∷◌, [], ◌∙◌, List, length, sym, subst, take, arith}
use Rattle.std.proofs.lemmas.List.{take_more, length-take-le}
use Rattle.civl_cnf.specs.Literal.{Literal}
use Rattle.civl_units.specs.Occurrences.{AreOccurrences}
use Rattle.civl_units.proofs.Listing.{occurrences_more}
use Rattle.civl_units.proofs.occurrences.occurrences_of.Goals as goal

pub loop-at-preserved : goal.loop-at-preserved
loop-at-preserved c =
    let clauses = c.args.cnf.now.clauses in
    let at = c.loop-at.at in
    let is = c.lits.ensures ∙ c.clause.ensures.is in
    let size : at ≡ length (take at clauses) = sym (length-take-le at clauses (omega arith)) in
    let more = occurrences_more (take at clauses) c.lits.result.now c.loop-at.occurrences c.add.new.self at size c.loop-at.invariant.lists c.in_ok-add.ensures.listed c.in_ok-add.ensures.unit in
    record {
      size = c.add.ensures.size ∙ c.loop-at.invariant.size;
      lists = subst (λ (front : List (List Literal)). AreOccurrences front c.add.new.self) (sym (take_more clauses at [] (omega arith))) (subst (λ (clause : List Literal). AreOccurrences (take at clauses ++ clause ∷ []) c.add.new.self) is more);
    }
