use Rattle.std.proofs.Common.{◌<◌, ◌∙◌, sym, subst, length, List, ℕ}
use Rattle.civl_cdcl.specs.inner.Levels.{FirstSays}
use Rattle.civl_cdcl.specs.inner.Analysis.{AreFound}
use Rattle.civl_cdcl.proofs.Lessons.{found_none}
use Rattle.civl_cdcl.proofs.teaching.learn.Goals as goal

pub first_start-root-requires : goal.first_start-root-requires
first_start-root-requires c = subst (λ (s : List ℕ). 0 < length s) (sym c.starts.ensures) c.requires.start.0

pub analyse-requires-clause-root : goal.analyse-requires-clause-root
analyse-requires-clause-root c = subst (λ (s : List ℕ). FirstSays s c.first_start-root.result) c.starts.ensures c.first_start-root.ensures

pub analyse-requires-clause-found : goal.analyse-requires-clause-found
analyse-requires-clause-found c = found_none c.args.seen.now _ c.clear.ensures.items c.requires.none

pub teach-requires-clause-root : goal.teach-requires-clause-root
teach-requires-clause-root c = subst (λ (s : List ℕ). FirstSays s c.first_start-root.result) c.starts.ensures c.first_start-root.ensures

pub teach-requires-clause-found : goal.teach-requires-clause-found
teach-requires-clause-found c = subst (AreFound c.analyse.new.seen) (sym c.as_slice.ensures.value) c.in_ok-one.ensures.found

pub forget-requires : goal.forget-requires
forget-requires c = subst (AreFound c.analyse.new.seen) (sym c.as_slice-2.ensures.value) c.in_ok-one.ensures.found

pub returns-clause-size : goal.returns-clause-size
returns-clause-size c = c.forget.ensures.size ∙ c.in_ok-one.ensures.one.size ∙ sym c.requires.seen
