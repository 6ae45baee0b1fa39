use Rattle.std.specs.Prelude.{Bool, List, ℕ, All, Some, slice_get, IfSome, if◌then◌else◌, ◌≤◌}
use Rattle.std.proofs.Common.{◌≡◌, ◌+◌, sym, subst, arith}
use Rattle.civl_tree.specs.declared.expr.Sort.TheVariants.{Bool as Truth, Word}
use Rattle.civl_meaning.specs.Config.{frame_sorts}
use Rattle.civl_meaning.specs.Permissions.{pairwise_disjoint}
use Rattle.civl_terms.proofs.Growing.{grows_trans}
use Rattle.civl_conditions.specs.Assumed.{owned, refined_gate}
use Rattle.civl_conditions.specs.Permissions.{in_store, of_held}
use Rattle.std.specs.Prelude.{◌++◌}
use Rattle.civl_states.specs.formula_parts.Said.{Env, IsTest}
use Rattle.civl_states.proofs.formula_parts.Saying.{sort_stays, test_stays}
use Rattle.std.specs.Prelude.{Option}
use Rattle.civl_tree.specs.declared.action.Action.{Action}
use Rattle.civl_firing.specs.values.ActionWeights.{gate_weight}
use Rattle.civl_terms.specs.Weights.{graph_weight}
use Rattle.civl_conditions.specs.paths.Ends.{is_entry, is_rank_loop}
use Rattle.civl_refine.specs.Assuming.{gate_or_done}
use Rattle.civl_refine.proofs.Assuming.{held_words, begin_stays, begun_stays, refined_is, kinds_weigh}
use Rattle.civl_refine.proofs.assumption.owned_and_gated.Goals as goal

pub owned_apart-requires-clause-within : goal.owned_apart-requires-clause-within
owned_apart-requires-clause-within c =
    let s = c.args.start.now in
    let words = subst (λ (ns : List ℕ). All (λ n. slice_get (frame_sorts s.proc.now) n ≡ Some (Word s.program.now.permissions)) ns) (sym c.requires.start.held) c.requires.start.words in
    (held_words c.args.terms.now s.program.now.permissions c.args.beginning.now.locals (frame_sorts s.proc.now) s.held.now c.requires.begins.locals words).0

pub owned_apart-requires-clause-words : goal.owned_apart-requires-clause-words
owned_apart-requires-clause-words c =
    let s = c.args.start.now in
    let words = subst (λ (ns : List ℕ). All (λ n. slice_get (frame_sorts s.proc.now) n ≡ Some (Word s.program.now.permissions)) ns) (sym c.requires.start.held) c.requires.start.words in
    (held_words c.args.terms.now s.program.now.permissions c.args.beginning.now.locals (frame_sorts s.proc.now) s.held.now c.requires.begins.locals words).1

pub begun_gate-requires-clause-begins : goal.begun_gate-requires-clause-begins
begun_gate-requires-clause-begins c = begin_stays _ _ _ _ _ _ _ c.in_ok-apart.ensures.grows c.requires.begins

pub returns-in_err-gate-clause-grows : goal.returns-in_err-gate-clause-grows
returns-in_err-gate-clause-grows c = grows_trans _ _ _ c.in_ok-apart.ensures.grows c.in_err-gate.ensures.grows

pub both-requires-clause-a : goal.both-requires-clause-a
both-requires-clause-a c = sort_stays _ _ _ Truth c.in_ok-gate.ensures.grows c.in_ok-apart.ensures.sorted

pub returns-in_err-id-clause-grows : goal.returns-in_err-id-clause-grows
returns-in_err-id-clause-grows c = grows_trans _ _ _ c.in_ok-apart.ensures.grows (grows_trans _ _ _ c.in_ok-gate.ensures.grows c.in_err-id.ensures.grows)

pub returns-clause-test : goal.returns-clause-test
returns-clause-test c = λ b at begun.
    let s = c.args.start.now in
    let p = s.program.now in
    let q = s.proc.now in
    let f : Env → Bool = λ env. pairwise_disjoint (owned p q s.number (b env)) in
    let g : Env → Bool = λ env. gate_or_done (b env).old_done (b env).done (refined_gate p q (b env)) in
    let apart = subst (λ (ns : List ℕ). IsTest c.owned_apart.new.terms c.in_ok-apart.apart (λ env. pairwise_disjoint (in_store p (b env).store ++ of_held ns (b env).locals))) c.requires.start.held
    (c.in_ok-apart.ensures.test (frame_sorts q) (λ env. (b env).store) (λ env. (b env).locals) begun.globals begun.locals) in
    c.in_ok-id.ensures.test f g (test_stays _ _ _ f c.in_ok-gate.ensures.grows apart) (c.in_ok-gate.ensures.test b at (begun_stays _ _ _ _ _ _ _ b c.in_ok-apart.ensures.grows begun))

pub returns-clause-grows : goal.returns-clause-grows
returns-clause-grows c = grows_trans _ _ _ c.in_ok-apart.ensures.grows (grows_trans _ _ _ c.in_ok-gate.ensures.grows c.in_ok-id.ensures.grows)

pub returns-clause-weighs : goal.returns-clause-weighs
returns-clause-weighs c =
    let s = c.args.start.now in
    let r = c.requires.start.refined in
    let w = subst (λ (o : Option Action). IfSome o (λ a. graph_weight c.begun_gate.new.terms ≤ graph_weight c.owned_apart.new.terms + gate_weight s.program.now a + (if is_entry s.cut.kind then 0 else if is_rank_loop s.cut.kind then 3 else 1))) r.refined c.in_ok-gate.ensures.weighs in
    refined_is s.program.now s.proc.now s.refined r _ (omega (arith, c.in_ok-apart.ensures.weighs, w, c.in_ok-id.ensures.weighs, kinds_weigh (is_entry s.cut.kind) (is_rank_loop s.cut.kind)))
