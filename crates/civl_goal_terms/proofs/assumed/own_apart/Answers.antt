use Rattle.std.specs.Prelude.{All, map}
use Rattle.std.proofs.Common.{◌≡◌, ◌∙◌, ◌<◌, ◌++◌, ℕ, List, length, Some, sym, ap, subst}
use Rattle.civl_tree.specs.declared.expr.Sort.TheVariants.{Word}
use Rattle.civl_terms.specs.Graphs.{sort_at}
use Rattle.civl_meaning.specs.Permissions.{pairwise_disjoint, permissions_of_word}
use Rattle.civl_meaning.specs.Config.{frame_sorts}
use Rattle.civl_actions.specs.Actions.{values_at}
use Rattle.civl_conditions.specs.Permissions.{in_store}
use Rattle.civl_states.proofs.formula_parts.Saying.{test_where}
use Rattle.civl_goal_terms.proofs.Parting.{held_said}
use Rattle.civl_goal_terms.proofs.Assuming.{are_words, words_within, words_sorted, words_pushed}
use Rattle.civl_goal_terms.proofs.assumed.own_apart.Goals as goal

pub push_held-requires : goal.push_held-requires
push_held-requires c =
    let at = c.args.at.now in
    subst (λ (ids : List ℕ). All (λ n. n < length ids) c.args.held.now) (sym c.as_slice.ensures)
    (words_within c.args.program.now c.requires.layered.rules at.root at.proc.now c.requires.at.proc at.number c.args.held.now c.requires.held c.args.terms.now c.args.setting.now.locals c.requires.can.locals)

pub words_apart-requires-clause-words : goal.words_apart-requires-clause-words
words_apart-requires-clause-words c =
    let p = c.args.program.now in
    let at = c.args.at.now in
    let locals = c.args.setting.now.locals in
    let words = c.as_slice-2.ensures.value ∙ words_pushed locals c.args.held.now c.as_slice.result.now c.new-words.result.items c.push_held.new.ids.items c.as_slice.ensures c.new-words.ensures.items c.in_ok-push_held.ensures in
    subst (λ (ids : List ℕ). All (λ i. sort_at c.args.terms.now i ≡ Some (Word p.permissions)) ids) (sym words)
    (words_sorted p c.requires.layered.rules at.root at.proc.now c.requires.at.proc at.number c.args.held.now c.requires.held c.args.terms.now locals c.requires.can.locals)

pub returns-clause-tells : goal.returns-clause-tells
returns-clause-tells c = λ h says.
    let p = c.args.program.now in
    let o = c.args.terms.now in
    let at = c.args.at.now in
    let held = c.args.held.now in
    let locals = c.args.setting.now.locals in
    let words = c.as_slice-2.ensures.value ∙ words_pushed locals held c.as_slice.result.now c.new-words.result.items c.push_held.new.ids.items c.as_slice.ensures c.new-words.ensures.items c.in_ok-push_held.ensures in
    test_where c.words_apart.new.terms c.in_ok-id.id _ _
    (λ env fits. ap (λ (ps : List (List ℕ)). pairwise_disjoint (in_store p (h env).store ++ ps))
    (ap (λ (ids : List ℕ). map permissions_of_word (values_at env o ids)) words
    ∙ held_said (frame_sorts at.proc.now) (Word p.permissions) o locals held (λ e. (h e).locals) says.locals (are_words p c.requires.layered.rules at.root at.proc.now c.requires.at.proc at.number held c.requires.held) env (c.in_ok-id.ensures.grows.fits env fits)))
    (c.in_ok-id.ensures.tells (λ env. (h env).store) says.globals)
