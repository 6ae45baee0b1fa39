use Rattle.std.specs.Prelude.{Option, IsSome, List}
use Rattle.std.proofs.Common.{◌∙◌, refl, sym, ap, subst, arith}
use Rattle.civl_bits.specs.declared.value.Value.{Value}
use Rattle.civl_tree.specs.declared.expr.Sort.{Sort}
use Rattle.civl_firing.specs.values.Weights.{bits_in}
use Rattle.civl_firing.specs.declared.store.Store.{Store}
use Rattle.civl_firing.specs.Eval.{value_of}
use Rattle.civl_conditions.specs.paths.NoteValues.{plain_note_values}
use Rattle.civl_states.specs.formula_parts.Said.{Env}
use Rattle.civl_refine.proofs.Judging.{less_test, less_sorted}
use Rattle.civl_tree.specs.declared.expr.Sort.TheVariants.{Word}
use Rattle.civl_terms.proofs.Growing.{grows_trans}
use Rattle.civl_actions.proofs.Staying.{sorted_within}
use Rattle.civl_states.proofs.formula_parts.Saying.{sort_stays, said_stays}
use Rattle.civl_states.proofs.formula_parts.Listing.{sorts_stay, said_stay}
use Rattle.civl_refine.proofs.Typing.{rank_typed, rank_word}
use Rattle.civl_refine.proofs.ranks.rank_kept.Goals as goal

pub plain_note-requires-clause-typed : goal.plain_note-requires-clause-typed
plain_note-requires-clause-typed c = let s = c.args.start.now in rank_typed s.program.now c.requires.start.rules s.proc.now c.requires.start.proc s.cut c.args.rank.now c.requires.rank

pub plain_note-requires-2-clause-typed : goal.plain_note-requires-2-clause-typed
plain_note-requires-2-clause-typed c = let s = c.args.start.now in rank_typed s.program.now c.requires.start.rules s.proc.now c.requires.start.proc s.cut c.args.rank.now c.requires.rank

pub plain_note-requires-2-clause-globals : goal.plain_note-requires-2-clause-globals
plain_note-requires-2-clause-globals c = sorts_stay _ _ _ _ c.in_ok-then.ensures.grows c.requires.begins.globals

pub plain_note-requires-2-clause-locals : goal.plain_note-requires-2-clause-locals
plain_note-requires-2-clause-locals c = sorts_stay _ _ _ _ c.in_ok-then.ensures.grows c.requires.begins.locals

pub returns-in_err-first-clause-grows : goal.returns-in_err-first-clause-grows
returns-in_err-first-clause-grows c = grows_trans _ _ _ c.in_ok-then.ensures.grows c.in_err-first.ensures.grows

pub two-requires-clause-a : goal.two-requires-clause-a
two-requires-clause-a c =
    let s = c.args.start.now in
    let w = rank_word s.program.now c.requires.start.rules s.proc.now c.requires.start.proc s.cut c.args.rank.now c.requires.rank in
    sorted_within _ _ (Word w.0) (sort_stays _ _ _ (Word w.0) c.in_ok-first.ensures.grows (c.in_ok-then.ensures.sorted ∙ w.1))

pub two-requires-clause-b : goal.two-requires-clause-b
two-requires-clause-b c =
    let s = c.args.start.now in
    let w = rank_word s.program.now c.requires.start.rules s.proc.now c.requires.start.proc s.cut c.args.rank.now c.requires.rank in
    sorted_within _ _ (Word w.0) (c.in_ok-first.ensures.sorted ∙ w.1)

pub two-requires-clause-fits : goal.two-requires-clause-fits
two-requires-clause-fits c =
    let s = c.args.start.now in
    let w = rank_word s.program.now c.requires.start.rules s.proc.now c.requires.start.proc s.cut c.args.rank.now c.requires.rank in
    subst (λ (o : Option Sort). IsSome o) (sym (less_sorted w.0 _ _ (sort_stays _ _ _ (Word w.0) c.in_ok-first.ensures.grows (c.in_ok-then.ensures.sorted ∙ w.1)) (c.in_ok-first.ensures.sorted ∙ w.1))) refl

pub returns-in_err-id-clause-grows : goal.returns-in_err-id-clause-grows
returns-in_err-id-clause-grows c = grows_trans _ _ _ c.in_ok-then.ensures.grows (grows_trans _ _ _ c.in_ok-first.ensures.grows c.in_err-id.ensures.grows)

pub returns-clause-test : goal.returns-clause-test
returns-clause-test c = λ b p begun at.
    let s = c.args.start.now in
    let one = c.in_ok-then.ensures.grows in
    let two = c.in_ok-first.ensures.grows in
    let scope : (Env → Store) → (Env → List Value) → Env → Value = λ g v env. value_of (plain_note_values s.program.now.globals s.proc.now (g env) (v env)) c.args.rank.now in
    let w = rank_word s.program.now c.requires.start.rules s.proc.now c.requires.start.proc s.cut c.args.rank.now c.requires.rank in
    let then = c.in_ok-then.ensures.note (Word w.0) (λ env. (p env).store) (λ env. (p env).locals) w.1 at.globals at.locals in
    let first = c.in_ok-first.ensures.note (Word w.0) (λ env. (b env).store) (λ env. (b env).locals) w.1 (said_stay _ _ _ _ _ one begun.globals) (said_stay _ _ _ _ _ one begun.locals) in
    less_test c.plain_note-2.new.terms c.two.new.self c.in_ok-then.then c.in_ok-first.first c.in_ok-id.id w.0 (scope (λ env. (p env).store) (λ env. (p env).locals)) (scope (λ env. (b env).store) (λ env. (b env).locals)) c.len-count.ensures.graph c.in_ok-id.ensures.grows c.in_ok-id.ensures.built
    (said_stays _ _ _ (Word w.0) _ two then) first

pub returns-clause-sorted : goal.returns-clause-sorted
returns-clause-sorted c =
    let s = c.args.start.now in
    let w = rank_word s.program.now c.requires.start.rules s.proc.now c.requires.start.proc s.cut c.args.rank.now c.requires.rank in
    c.in_ok-id.ensures.built.sorted ∙ less_sorted w.0 _ _ (sort_stays _ _ _ (Word w.0) c.in_ok-first.ensures.grows (c.in_ok-then.ensures.sorted ∙ w.1)) (c.in_ok-first.ensures.sorted ∙ w.1)

pub returns-clause-grows : goal.returns-clause-grows
returns-clause-grows c = grows_trans _ _ _ c.in_ok-then.ensures.grows (grows_trans _ _ _ c.in_ok-first.ensures.grows c.in_ok-id.ensures.grows)

pub returns-clause-weighs : goal.returns-clause-weighs
returns-clause-weighs c =
    let s = c.args.start.now in
    let w = rank_word s.program.now c.requires.start.rules s.proc.now c.requires.start.proc s.cut c.args.rank.now c.requires.rank in
    let there = sort_stays _ _ _ (Word w.0) c.in_ok-first.ensures.grows (c.in_ok-then.ensures.sorted ∙ w.1) in
    omega (arith, c.in_ok-then.ensures.weighs, c.in_ok-first.ensures.weighs, c.in_ok-id.ensures.built.weighs, ap bits_in there, ap bits_in w.1)
