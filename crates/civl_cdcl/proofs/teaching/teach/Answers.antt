use Rattle.std.proofs.Common.{◌∙◌, ◌-◌, ◌≤◌, sym, subst, length, get_or, ◌<◌, List, ℕ}
use Rattle.std.specs.Prelude.{All}
use Rattle.civl_cnf.specs.Literal.{Literal}
use Rattle.civl_cdcl.specs.inner.Levels.{AreBefore}
use Rattle.civl_cdcl.specs.inner.Analysis.{ReachSays, LearnSays}
use Rattle.civl_cdcl.proofs.Placing.{teaches_permuted}
use Rattle.civl_cdcl.proofs.Lessons.{learned_by, clause_placed, reach_low}
use Rattle.civl_cdcl.proofs.teaching.teach.Goals as goal

pub reach-limit-requires : goal.reach-limit-requires
reach-limit-requires c =
    let t = c.args.trail.now in
    let lits = c.by_place.new.lits.items in
    let g = teaches_permuted t.marks t.places c.args.clauses.now c.args.start c.args.one c.args.seen.now c.in_ok-lits.lits.items lits c.by_place.ensures c.in_ok-lits.ensures in
    subst (λ (p : List ℕ). All (λ (l : Literal). l.variable < length p) c.as_slice.result.now) (sym c.places-2.ensures)
    (subst (All (λ (l : Literal). l.variable < length t.places)) (sym c.as_slice.ensures.value) (clause_placed t c.args.clauses.now c.args.start c.args.one c.args.seen.now lits c.requires.trail g))

pub levels_below-levels-requires-clause-some : goal.levels_below-levels-requires-clause-some
levels_below-levels-requires-clause-some c = subst (λ (s : List ℕ). 0 < length s) (sym c.starts.ensures) c.requires.start.0

pub levels_below-levels-requires-clause-last : goal.levels_below-levels-requires-clause-last
levels_below-levels-requires-clause-last c =
    let t = c.args.trail.now in
    subst (λ (s : List ℕ). c.reach-limit.result ≤ get_or s (length s - 1) 0) (sym c.starts.ensures)
    (reach_low t.starts c.places-2.result.now c.as_slice.result.now c.args.start c.reach-limit.result c.requires.start c.reach-limit.ensures)

pub returns : goal.returns
returns c =
    let t = c.args.trail.now in
    let clauses = c.args.clauses.now in
    let lits = c.by_place.new.lits.items in
    let g = teaches_permuted t.marks t.places c.args.clauses.now c.args.start c.args.one c.args.seen.now c.in_ok-lits.lits.items lits c.by_place.ensures c.in_ok-lits.ensures in
    let levels = c.levels_below-levels.result in
    let r : ReachSays t.places lits c.args.start c.reach-limit.result
    = subst (λ (p : List ℕ). ReachSays p lits c.args.start c.reach-limit.result) c.places-2.ensures
    (subst (λ (x : List Literal). ReachSays c.places-2.result.now x c.args.start c.reach-limit.result) c.as_slice.ensures.value c.reach-limit.ensures) in
    let cuts : AreBefore t.starts c.reach-limit.result levels = subst (λ (s : List ℕ). AreBefore s c.reach-limit.result levels) c.starts.ensures c.levels_below-levels.ensures in
    subst (λ (x : List Literal). LearnSays t clauses x levels) (sym (c.in_ok-clause.ensures ∙ c.as_slice-2.ensures.value))
    (learned_by t clauses c.args.start c.args.one c.args.seen.now lits c.reach-limit.result levels c.requires.trail c.requires.start c.requires.one g r cuts)
