use Rattle.std.proofs.Common.{◌≡◌, ◌∙◌, sym, ap, arith, slice_get, map, List}
use Rattle.std.proofs.lemmas.Option.{slice_get_past}
use Rattle.civl_tree.specs.declared.action.Action.{Action}
use Rattle.civl_tree.specs.rules.Names.{action_named}
use Rattle.civl_firing.specs.Truth.{place_of}
use Rattle.civl_firing.proofs.Finding.{found_at}
use Rattle.civl_body.proofs.calls.number_named.Goals as goal

pub returns-then-at-len-clause-is : goal.returns-then-at-len-clause-is
returns-then-at-len-clause-is c =
    let actions = c.args.program.now.actions in
    let name = c.args.name.now in
    ap (slice_get actions) (c.action-at.ensures ∙ ap (λ (xs : List Action). place_of (map (λ a. a.name) xs) name) c.as_slice.ensures) ∙ found_at (λ (a : Action). a.name) actions name

pub returns-clause-is : goal.returns-clause-is
returns-clause-is c =
    let actions = c.args.program.now.actions in
    let name = c.args.name.now in
    let at = c.action-at.result in
    let found : slice_get actions at ≡ action_named c.args.program.now name =
    ap (slice_get actions) (c.action-at.ensures ∙ ap (λ (xs : List Action). place_of (map (λ a. a.name) xs) name) c.as_slice.ensures) ∙ found_at (λ (a : Action). a.name) actions name in
    sym (slice_get_past actions at (omega arith)) ∙ found
