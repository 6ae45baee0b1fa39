use Rattle.std.proofs.Common.{rules, ◌≡◌, ◌∙◌, List, sym, ap, subst, Ok, Err}
use Rattle.std.specs.Prelude.{map, get_or}
use Rattle.std.specs.List.Sorted.{IsStrictlyIncreasing}
use Rattle.std.proofs.lemmas.List.Sorted.{answers_always}
use Rattle.civl_states.specs.declared.choices.Chosen.{Chosen}
use Rattle.civl_states.specs.Beginnings.{chosen_at}
use Rattle.civl_states.proofs.Searching.{searched}
use Rattle.civl_states.proofs.choices.Choices.at.Goals as goal

pub returns-in-Ok : goal.returns-in-Ok
returns-in-Ok c =
    let number = c.args.number in
    let up = subst (λ (cs : List Chosen). IsStrictlyIncreasing (map (λ q. q.statement) cs)) (sym c.deref.ensures.value) c.self.invariant in
    let by_key = c.in-Ok.ensures.position (λ call. call.statement) (answers_always _ _ _ (λ f a r g called. search rules)) in
    let found = searched c.deref.result.now number (Ok c.in-Ok.at) up c.in-Ok.ensures.bound by_key in
    let there = subst (λ (cs : List Chosen). (d : Chosen) → (get_or cs c.in-Ok.at d).choices ≡ chosen_at cs number) c.deref.ensures.value found in
    c.as_slice.ensures ∙ ap (λ (q : Chosen). q.choices) c.index.ensures ∙ there c.index.result.now ∙ ap (λ (cs : List Chosen). chosen_at cs number) c.self.view_is

pub returns-in-Err : goal.returns-in-Err
returns-in-Err c =
    let number = c.args.number in
    let up = subst (λ (cs : List Chosen). IsStrictlyIncreasing (map (λ q. q.statement) cs)) (sym c.deref.ensures.value) c.self.invariant in
    let by_key = c.in-Err.ensures.position (λ call. call.statement) (answers_always _ _ _ (λ f a r g called. search rules)) in
    searched c.deref.result.now number (Err c.in-Err.field-0) up c.in-Err.ensures.bound by_key ∙ ap (λ (cs : List Chosen). chosen_at cs number) (c.deref.ensures.value ∙ c.self.view_is)
