use Rattle.std.proofs.Common.{◌≡◌, ◌≤◌, ◌++◌, ℕ, List, [], ◌∷◌, length, drop, refl, sym, ap, ◌∙◌}
use Rattle.std.proofs.lemmas.List.{append-nil, drop_all}
use Rattle.civl_bits.specs.declared.value.Value.{Value}
use Rattle.civl_history.specs.declared.changes.Changed.{Changed}
use Rattle.civl_history.specs.History.{changes_from}
use Rattle.civl_history.proofs.changes.changed_values.Goals.{then-loop-place-test+else-place-after, else-loop-place-test}
use Rattle.civl_history.proofs.changes.changed_values.Goals as goal

nothing_behind : (place : ℕ) (befores : List Value) → changes_from place befores [] ≡ []
nothing_behind place [] = refl
nothing_behind place (before ∷ befores) = refl

first_ends : (place : ℕ) (before after : List Value) → length before ≤ place → changes_from place (drop place before) (drop place after) ≡ []
first_ends place before after past = ap (λ (vs : List Value). changes_from place vs (drop place after)) (drop_all place before past)

second_ends : (place : ℕ) (before after : List Value) → length after ≤ place → changes_from place (drop place before) (drop place after) ≡ []
second_ends place before after past = ap (λ (vs : List Value). changes_from place (drop place before) vs) (drop_all place after past) ∙ nothing_behind place (drop place before)

pub returns : goal.returns
returns c =
    let place = c.loop-place.place in
    let end : changes_from place (drop place c.args.before.now) (drop place c.args.after.now) ≡ [] = elim c.loop-place-test.branch [
      | then-loop-place-test+else-place-after w ↦ second_ends place c.args.before.now c.args.after.now w.if-place-after.false
      | else-loop-place-test w ↦ first_ends place c.args.before.now c.args.after.now w.loop-place-test.false
    ] in
    c.from_vec.ensures ∙ c.shrink_to_fit.ensures.items ∙ sym (append-nil c.loop-place.changed.items) ∙ ap (λ (changed : List Changed). c.loop-place.changed.items ++ changed) (sym end) ∙ c.loop-place.invariant.told
