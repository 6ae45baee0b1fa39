use Rattle.std.proofs.Common.{◌≡◌, ◌<◌, ◌∙◌, sym, ap, subst, length, get_or, arith, inl, inr, List, ℕ}
use Rattle.civl_cdcl.proofs.Lessons.{follows_none, kept_by}
use Rattle.civl_cdcl.proofs.teaching.keep.Goals as goal

pub place_in-place-requires : goal.place_in-place-requires
place_in-place-requires c = subst (λ (p : List ℕ). c.args.variable < length p) (sym c.places.ensures) (omega (arith, c.requires.trail.size))

pub returns-then-start-place : goal.returns-then-start-place
returns-then-start-place c =
    let place : c.place_in-place.result ≡ get_or c.args.trail.now.places c.args.variable 0 = c.place_in-place.ensures ∙ ap (λ (p : List ℕ). get_or p c.args.variable 0) c.places.ensures in
    inl (omega arith)

pub returns-in-None : goal.returns-in-None
returns-in-None c = inr (follows_none c.args.trail.now.marks c.args.trail.now.places c.args.clauses.now c.args.seen.now c.args.variable (sym c.in-None.ensures))

pub returns-then-is_redundant : goal.returns-then-is_redundant
returns-then-is_redundant c = inr (c.is_redundant.ensures c.if-is_redundant.true)

pub returns-else-is_redundant : goal.returns-else-is_redundant
returns-else-is_redundant c =
    let t = c.args.trail.now in
    let place : c.place_in-place.result ≡ get_or t.places c.args.variable 0 = c.place_in-place.ensures ∙ ap (λ (p : List ℕ). get_or p c.args.variable 0) c.places.ensures in
    kept_by t.marks t.places c.args.clauses.now c.args.start c.args.seen.now c.args.variable c.in-Some.value c.new.result (sym c.in-Some.ensures) c.new.ensures (omega arith)
