use Rattle.std.proofs.Common.{◌≡◌, ◌∙◌, ◌++◌, ◌∷◌, [], ap, length, List}
use Rattle.civl_cnf.specs.Literal.{Literal}
use Rattle.civl_cdcl.proofs.Lessons.{collects_none, collects_at, teaches_by, known_under}
use Rattle.civl_cdcl.proofs.teaching.collect.Goals as goal

pub loop-variable-init : goal.loop-variable-init
loop-variable-init c =
    let t = c.args.trail.now in
    let first : c.push.new.self.items ≡ c.negate.result ∷ [] = c.in_ok-push.ensures.items ∙ ap (λ (x : List Literal). x ++ c.negate.result ∷ []) c.new-lits.ensures.items in
    collects_none t.marks t.places c.args.clauses.now c.args.start c.args.one c.args.seen.now c.args.found.now c.push.new.self.items c.requires.one (first ∙ ap (λ (l : Literal). l ∷ []) c.negate.ensures)

pub keep-kept-requires-clause-variable : goal.keep-kept-requires-clause-variable
keep-kept-requires-clause-variable c = known_under c.args.seen.now c.args.found.now c.loop-variable.variable-index _ (length c.args.trail.now.marks) c.requires.found c.loop-variable-test.true c.requires.one.size

pub loop-variable-preserved : goal.loop-variable-preserved
loop-variable-preserved c =
    let t = c.args.trail.now in
    let seen = c.args.seen.now in
    let found = c.args.found.now in
    let at = c.loop-variable.variable-index in
    collects_at t.marks t.places c.args.clauses.now c.args.start c.args.one seen found at _ c.loop-variable.lits.items c.push_kept.new.lits.items c.keep-kept.result c.requires.one c.requires.found c.loop-variable-test.true (known_under seen found at _ (length t.marks) c.requires.found c.loop-variable-test.true c.requires.one.size) c.keep-kept.ensures c.in_ok-push_kept.ensures c.loop-variable.invariant

pub returns : goal.returns
returns c =
    let t = c.args.trail.now in
    teaches_by t.marks t.places c.args.clauses.now c.args.start c.args.one c.args.seen.now c.args.found.now c.loop-variable.variable-index c.loop-variable.lits.items c.requires.found c.loop-variable-test.false c.loop-variable.invariant
