use Rattle.std.proofs.Common.{◌≡◌, ◌∙◌, sym, subst, length, List, ℕ}
use Rattle.civl_cdcl.specs.inner.Analysis.{Sees}
use Rattle.civl_cdcl.proofs.Analysing.{clause_within, analyses_first}
use Rattle.civl_cdcl.proofs.analysis.analyse.Goals as goal

pub see-requires-clause-clause : goal.see-requires-clause-clause
see-requires-clause-clause c =
    clause_within (length c.args.seen.now) (length c.args.trail.now.marks) c.args.clauses.now c.args.conflict c.lits.result.now c.requires.seen c.requires.below c.requires.conflict.0 c.lits.ensures

pub see-requires-clause-places : goal.see-requires-clause-places
see-requires-clause-places c =
    subst (λ (p : List ℕ). length p ≡ length c.args.seen.now) (sym c.places.ensures) (c.requires.trail.size ∙ sym c.requires.seen)

pub walk-requires-clause-seen : goal.walk-requires-clause-seen
walk-requires-clause-seen c =
    let t = c.args.trail.now in
    let sees = subst (λ (p : List ℕ). Sees p c.args.root c.args.seen.now c.see.new.seen c.lits.result.now) c.places.ensures c.in_ok-see.ensures.sees in
    analyses_first t c.args.clauses.now c.args.root c.args.conflict c.lits.result.now c.args.seen.now c.see.new.seen c.requires.trail c.requires.root c.requires.seen c.lits.ensures c.requires.conflict sees
