use Rattle.std.proofs.Common.{◌≡◌, ap, rules, [], ◌∷◌, ◌++◌}
use Rattle.civl_cnf.specs.ClauseSet.{ClauseSet}
use Rattle.civl_blast.proofs.Concluding.{stands, placed, gives_values}
use Rattle.civl_blast.proofs.blasting.blast_flat.Goals as goal

pub returns-clause-stands : goal.returns-clause-stands
returns-clause-stands c =
    let set : c.push.new.self ≡ record { variables = c.in_ok-gates.field-0.gates.variables; clauses = c.in_ok-gates.field-0.gates.clauses ++ (c.in_ok-gates.field-0.output ∷ []) ∷ [] } = search rules in
    stands _ _ c.len-count.ensures.graph c.requires.rowless c.in_ok-marks.ensures (rw c.as_slice-2.ensures.value at c.in_ok-gates.ensures) (rw c.as_slice.ensures.value at c.in_ok-places.ensures.count) (rw c.as_slice.ensures.value at c.in_ok-places.ensures.places) set

pub returns-clause-places : goal.returns-clause-places
returns-clause-places c =
    let set : c.push.new.self ≡ record { variables = c.in_ok-gates.field-0.gates.variables; clauses = c.in_ok-gates.field-0.gates.clauses ++ (c.in_ok-gates.field-0.output ∷ []) ∷ [] } = search rules in
    placed _ _ c.len-count.ensures.graph c.requires.rowless c.in_ok-marks.ensures (rw c.as_slice-2.ensures.value at c.in_ok-gates.ensures) (rw c.as_slice.ensures.value at c.in_ok-places.ensures.count) (rw c.as_slice.ensures.value at c.in_ok-places.ensures.places) (ap (λ (s : ClauseSet). s.variables) set)

pub returns-clause-back : goal.returns-clause-back
returns-clause-back c = gives_values _ c.len-count.ensures.graph c.len-count.ensures.distinct c.requires.rowless c.in_ok-marks.ensures (rw c.as_slice.ensures.value at c.in_ok-places.ensures.places)
