use Rattle.std.specs.Prelude.{Bool, Option, Some, IfSome, option_copied}
use Rattle.std.proofs.Common.{◌≡◌, ap, subst}
use Rattle.civl_tree.specs.rules.Sorts.{sort_of}
use Rattle.civl_tree.specs.rules.Scopes.{note_scope}
use Rattle.civl_tree.specs.declared.expr.Sort.TheVariants.{Bool as Truth}
use Rattle.civl_terms.proofs.Growing.{grows_trans}
use Rattle.civl_states.specs.formula_parts.Said.{Env}
use Rattle.civl_states.proofs.formula_parts.Saying.{sort_stays, test_stays}
use Rattle.civl_conditions.specs.Invariants.{holds_in}
use Rattle.civl_states.specs.Notes.{seen_values}
use Rattle.civl_refine.proofs.invariants.with_note.Goals as goal

pub both-requires-clause-a : goal.both-requires-clause-a
both-requires-clause-a c = sort_stays _ _ _ Truth c.in_ok-holds-in-Some.ensures.grows c.requires.test

pub returns-in_err-id-in-Some-clause-grows : goal.returns-in_err-id-in-Some-clause-grows
returns-in_err-id-in-Some-clause-grows c = grows_trans _ _ _ c.in_ok-holds-in-Some.ensures.grows c.in_err-id-in-Some.ensures.grows

pub returns-in_ok-id-in-Some-clause-test : goal.returns-in_ok-id-in-Some-clause-test
returns-in_ok-id-in-Some-clause-test c = λ f s t seen.
    let h : Env → Bool = λ env. holds_in (seen_values c.args.program.now c.args.proc.now (s env)) c.in-Some.expr.now in
    let truth = subst (λ (o : Option _). IfSome o (λ e. sort_of (note_scope c.args.program.now c.args.proc.now) e ≡ Some Truth)) (ap option_copied c.in-Some.is) c.requires.truth in
    rw c.in-Some.is (c.in_ok-id-in-Some.ensures.test f h (test_stays _ _ _ f c.in_ok-holds-in-Some.ensures.grows t) (c.in_ok-holds-in-Some.ensures.note.holds s truth seen))

pub returns-in_ok-id-in-Some-clause-grows : goal.returns-in_ok-id-in-Some-clause-grows
returns-in_ok-id-in-Some-clause-grows c = grows_trans _ _ _ c.in_ok-holds-in-Some.ensures.grows c.in_ok-id-in-Some.ensures.grows
