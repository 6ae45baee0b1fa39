-- The search up to its next conflict.
use Rattle.std.proofs.Common.{◌≡◌, ℕ, ◌<◌, ◌≤◌, List, [], length, get_or, sym, ◌∙◌, ap, subst, arith, Bool, true, false}
use Rattle.std.specs.Prelude.{Some}
use Rattle.std.proofs.lemmas.List.{get_or-take, length-take-le}
use Rattle.std.proofs.lemmas.List.Elements.{All-nil}
use Rattle.civl_cnf.specs.Literal.{Literal}
use Rattle.civl_units.specs.Propagation.{Holds, IsFalsified}
use Rattle.civl_units.specs.Marks.{marked, IsQuiet}
use Rattle.civl_propagation.specs.Trail.{TrailState, before, IsAt, IsTrailOver, IsCut}
use Rattle.civl_propagation.specs.Engine.{EngineState, IsQuietBelow}
use Rattle.civl_propagation.proofs.Engines.{decided_none, conflict_by}
use Rattle.civl_rup.specs.Rup.{HasRup}
use Rattle.civl_cdcl.specs.inner.Levels.{LastSays}
use Rattle.civl_cdcl.specs.Outcome.{IsLearned}
use Rattle.civl_cdcl.specs.inner.Analysis.{LearnSays}
use Rattle.civl_cdcl.specs.Turn.{IsFull, IsLearnedBy, IsBack, TurnSays}
use Rattle.civl_cdcl.specs.declared.turn.Turn.{Turn}
use Rattle.civl_cdcl.proofs.Analysing.{quiet_unfalsified, start_quiet}

-- a conflict with no decision: the empty clause has RUP
pub refuted_by : (t : TrailState) (clauses : List (List Literal)) (variables r : ℕ) → IsTrailOver t clauses → t.starts ≡ [] → IsAt clauses r (IsFalsified (marked t.marks)) → HasRup variables clauses []
refuted_by t clauses variables r h none at = record {
  below = λ k d low. absurd (omega arith);
  once = λ i j d less low. absurd (omega arith);
  conflict = λ set fails closed. conflict_by t clauses [] r h (decided_none t none) at set (All-nil (Holds set)) closed;
}

-- above the first level the empty clause has no RUP
pub full_by : (t : TrailState) (clauses : List (List Literal)) (variables start : ℕ) → IsTrailOver t clauses → LastSays t.starts (Some start) → HasRup variables clauses [] → ⊥
full_by t clauses variables start h last rup =
    let set = before t.marks t.places start in
    let quiet = start_quiet t clauses start h last in
    quiet_unfalsified set clauses quiet (rup.conflict set (λ k d low. absurd (omega arith)) (λ k d low. (quiet k d low).0))

-- once levels are taken back, the clause that was learned can be added
pub learned_quiet : (t new : TrailState) (clauses : List (List Literal)) (clause : List Literal) (levels : ℕ) → IsTrailOver t clauses → LearnSays t clauses clause levels → IsCut t new levels → IsQuietBelow new clause
learned_quiet t new clauses clause levels h says cut k low =
    let fewer = says.fewer in
    let count : length new.starts ≡ levels = ap length cut.starts ∙ length-take-le levels t.starts (omega arith) in
    let few : k < levels = omega arith in
    let older : get_or new.starts k 0 ≡ get_or t.starts k 0 = ap (λ (x : List ℕ). get_or x k 0) cut.starts ∙ get_or-take levels t.starts k 0 few in
    let end = cut.end in
    let rise = h.rise k levels (omega arith) fewer in
    let same : before new.marks new.places (get_or new.starts k 0) ≡ before t.marks t.places (get_or t.starts k 0) = ap (before new.marks new.places) older ∙ cut.same (get_or t.starts k 0) (omega arith) in
    subst (λ f. IsQuiet f clause) (sym same) (says.quiet k few)

-- what was learned can be added where fewer levels stay
learned_less : (t : TrailState) (clauses : List (List Literal)) (clause : List Literal) (levels kept : ℕ) → kept ≤ levels → LearnSays t clauses clause levels → LearnSays t clauses clause kept
learned_less t clauses clause levels kept few says =
    let fewer = says.fewer in
    record { learned = says.learned; fewer = omega arith; quiet = λ k low. says.quiet k (omega arith) }

-- what was learned, read at other lists that are equal
pub learned_as : (t u : TrailState) (clauses others : List (List Literal)) (clause : List Literal) (levels : ℕ) → t ≡ u → clauses ≡ others → LearnSays t clauses clause levels → LearnSays u others clause levels
learned_as t u clauses others clause levels e f says =
    subst (λ (x : TrailState). LearnSays x others clause levels) e (subst (λ (cs : List (List Literal)). LearnSays t cs clause levels) f says)

-- and over the clauses that the engine had
learned_first : (old e : EngineState) (clause : List Literal) → length e.trail.marks ≡ length old.trail.marks → e.clauses ≡ old.clauses → IsLearned (length e.trail.marks) e.clauses clause → IsLearned (length old.trail.marks) old.clauses clause
learned_first old e clause size same learned =
    subst (λ (cs : List (List Literal)). IsLearned (length old.trail.marks) cs clause) same (subst (λ (n : ℕ). IsLearned n e.clauses clause) size learned)

-- no clause may be learned any more
pub full_as : (old e : EngineState) (may : Bool) (clause : List Literal) (levels start : ℕ) → length e.trail.marks ≡ length old.trail.marks → e.clauses ≡ old.clauses → may ≡ false → IsTrailOver e.trail e.clauses → LastSays e.trail.starts (Some start) → LearnSays e.trail e.clauses clause levels → IsFull may (length old.trail.marks) old.clauses
full_as old e may clause levels start size same limit h last says = record {
  limit = limit;
  unrefuted = λ rup. full_by e.trail e.clauses (length old.trail.marks) start h last (subst (λ (cs : List (List Literal)). HasRup (length old.trail.marks) cs []) (sym same) rup);
  clause = clause;
  more = learned_first old e clause size same says.learned;
}

-- a clause was learned, and levels were taken back
pub learned_by_cut : (old e new : EngineState) (may : Bool) (clause : List Literal) (levels : ℕ) → length e.trail.marks ≡ length old.trail.marks → e.clauses ≡ old.clauses → may ≡ true → IsTrailOver e.trail e.clauses → LearnSays e.trail e.clauses clause levels → IsBack e new levels → IsLearnedBy may old new clause
learned_by_cut old e new may clause levels size same limit h says back = record {
  limit = limit;
  size = back.cut.size ∙ size;
  clauses = back.clauses ∙ same;
  learned = learned_first old e clause size same says.learned;
  rest = back.rest;
  levels = learned_quiet e.trail new.trail e.clauses clause back.kept h (learned_less e.trail e.clauses clause levels back.kept back.few says) back.cut;
}

pub turned_as : (may : Bool) (old new : EngineState) (turned is : Turn) → turned ≡ is → TurnSays may old new turned → TurnSays may old new is
turned_as may old new turned is e says = subst (TurnSays may old new) e says
