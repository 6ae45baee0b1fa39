use Rattle.std.specs.Prelude.{All, map, get_or}
use Rattle.std.proofs.Common.{◌≡◌, ◌∙◌, ◌+◌, ◌*◌, ◌≤◌, ◌<◌, ◌++◌, ℕ, List, length, Some, sym, ap, ap₂, subst}
use Rattle.std.proofs.lemmas.List.Elements.{All-append}
use Rattle.civl_tree.specs.declared.expr.Sort.TheVariants.{Word}
use Rattle.civl_terms.specs.Graphs.{sort_at}
use Rattle.civl_terms.specs.Weights.{graph_weight}
use Rattle.civl_meaning.specs.Permissions.{pairwise_disjoint, permissions_of_word}
use Rattle.civl_meaning.specs.Config.{frame_sorts}
use Rattle.civl_actions.specs.Actions.{values_at}
use Rattle.civl_conditions.specs.Permissions.{in_store}
use Rattle.civl_conditions.specs.Weights.{lin, linear_globals}
use Rattle.civl_states.proofs.formula_parts.Saying.{test_where}
use Rattle.civl_goal_terms.proofs.Parting.{held_said}
use Rattle.civl_goal_terms.proofs.Assuming.{are_words, words_within, words_sorted, words_pushed, words_more}
use Rattle.civl_goal_terms.proofs.OthersBeside.{words_joined, words_long}
use Rattle.civl_goal_terms.proofs.others.both_apart.Goals as goal

pub push_held-requires : goal.push_held-requires
push_held-requires c =
    let at = c.args.at.now in
    subst (λ (ids : List ℕ). All (λ n. n < length ids) c.args.held.now) (sym c.as_slice.ensures)
    (words_within c.args.program.now c.requires.layered.rules at.root at.proc.now c.requires.at.proc at.number c.args.held.now c.requires.held c.args.terms.now c.args.setting.now.locals c.requires.can.locals)

pub push_held-requires-2 : goal.push_held-requires-2
push_held-requires-2 c =
    let other = c.args.other.now in
    subst (λ (ids : List ℕ). All (λ n. n < length ids) c.args.other_held.now) (sym c.as_slice-2.ensures)
    (words_within c.args.program.now c.requires.layered.rules other.root other.proc.now c.requires.other other.number c.args.other_held.now c.requires.other_held c.args.terms.now c.args.locals.now c.requires.locals)

pub words_apart-requires-clause-words : goal.words_apart-requires-clause-words
words_apart-requires-clause-words c =
    let p = c.args.program.now in
    let at = c.args.at.now in
    let other = c.args.other.now in
    let held = c.args.held.now in
    let more = c.args.other_held.now in
    let own = c.args.setting.now.locals in
    let rules = c.requires.layered.rules in
    let first = words_pushed own held c.as_slice.result.now c.new-words.result.items c.push_held.new.ids.items c.as_slice.ensures c.new-words.ensures.items c.in_ok-push_held.ensures in
    let words = c.as_slice-3.ensures.value ∙ words_more _ c.args.locals.now more c.as_slice-2.result.now c.push_held.new.ids.items c.push_held-2.new.ids.items c.as_slice-2.ensures first c.in_ok-push_held-2.ensures in
    subst (λ (ids : List ℕ). All (λ i. sort_at c.args.terms.now i ≡ Some (Word p.permissions)) ids) (sym words)
    (All-append (λ i. sort_at c.args.terms.now i ≡ Some (Word p.permissions)) (map (λ n. get_or own n 0) held) (map (λ n. get_or c.args.locals.now n 0) more)
    (words_sorted p rules at.root at.proc.now c.requires.at.proc at.number held c.requires.held c.args.terms.now own c.requires.can.locals)
    (words_sorted p rules other.root other.proc.now c.requires.other other.number more c.requires.other_held c.args.terms.now c.args.locals.now c.requires.locals))

pub returns-clause-tells : goal.returns-clause-tells
returns-clause-tells c = λ h l says said.
    let p = c.args.program.now in
    let o = c.args.terms.now in
    let at = c.args.at.now in
    let other = c.args.other.now in
    let held = c.args.held.now in
    let more = c.args.other_held.now in
    let own = c.args.setting.now.locals in
    let rules = c.requires.layered.rules in
    let first = words_pushed own held c.as_slice.result.now c.new-words.result.items c.push_held.new.ids.items c.as_slice.ensures c.new-words.ensures.items c.in_ok-push_held.ensures in
    let words = c.as_slice-3.ensures.value ∙ words_more _ c.args.locals.now more c.as_slice-2.result.now c.push_held.new.ids.items c.push_held-2.new.ids.items c.as_slice-2.ensures first c.in_ok-push_held-2.ensures in
    test_where c.words_apart.new.terms c.in_ok-id.id _ _
    (λ env fits. ap (λ (ps : List (List ℕ)). pairwise_disjoint (in_store p (h env).store ++ ps))
    (ap (λ (ids : List ℕ). map permissions_of_word (values_at env o ids)) words
    ∙ (words_joined env o (map (λ n. get_or own n 0) held) (map (λ n. get_or c.args.locals.now n 0) more)
    ∙ ap₂ (λ (a b : List (List ℕ)). a ++ b)
    (held_said (frame_sorts at.proc.now) (Word p.permissions) o own held (λ e. (h e).locals) says.locals (are_words p rules at.root at.proc.now c.requires.at.proc at.number held c.requires.held) env (c.in_ok-id.ensures.grows.fits env fits))
    (held_said (frame_sorts other.proc.now) (Word p.permissions) o c.args.locals.now more l said (are_words p rules other.root other.proc.now c.requires.other other.number more c.requires.other_held) env (c.in_ok-id.ensures.grows.fits env fits)))))
    (c.in_ok-id.ensures.tells (λ env. (h env).store) says.globals)

pub returns-clause-weighs : goal.returns-clause-weighs
returns-clause-weighs c =
    let p = c.args.program.now in
    let held = c.args.held.now in
    let more = c.args.other_held.now in
    let own = c.args.setting.now.locals in
    let first = words_pushed own held c.as_slice.result.now c.new-words.result.items c.push_held.new.ids.items c.as_slice.ensures c.new-words.ensures.items c.in_ok-push_held.ensures in
    let words = c.as_slice-3.ensures.value ∙ words_more _ c.args.locals.now more c.as_slice-2.result.now c.push_held.new.ids.items c.push_held-2.new.ids.items c.as_slice-2.ensures first c.in_ok-push_held-2.ensures in
    subst (λ (n : ℕ). graph_weight c.words_apart.new.terms ≤ graph_weight c.args.terms.now + 4 * lin p (linear_globals p + n)) (ap length words ∙ words_long own held c.args.locals.now more) c.in_ok-id.ensures.weighs
