use Rattle.std.proofs.Common.{◌≡◌, ◌++◌, List, ℕ, sym, ap, ap₂, ◌∙◌, subst}
use Rattle.std.specs.Prelude.{OnOk}
use Rattle.std.specs.Option.{option_map}
use Rattle.civl_bits.specs.declared.value.Value.{Value}
use Rattle.civl_tree.specs.declared.program.Global.{Global}
use Rattle.civl_firing.specs.declared.scope.Scope.{Scope}
use Rattle.civl_firing.specs.Scope.{frame_values}
use Rattle.civl_conditions.specs.Invariants.{holds_in}
use Rattle.civl_reasons.specs.inner.Told.{subformula}
use Rattle.civl_goal_stories.proofs.Chained.{tested}
use Rattle.civl_goal_stories.proofs.frames.put_passage.Goals as goal

pub returns-in-Some : goal.returns-in-Some
returns-in-Some c =
    let proc = c.args.proc.now in
    let test = subformula c.in-Some.test in
    let found = sym c.formula_at.ensures ∙ ap (option_map subformula) c.in-Some.is in
    let names = c.in_frame-setting.ensures
    ∙ ap₂ (λ (gs : List Global) (vs : List Value). frame_values gs proc vs) c.as_slice.ensures c.as_slice-in-Some.ensures in
    let truth = c.holds.ensures ∙ ap (λ (s : Scope). holds_in s test.expr) names in
    subst (λ (t : List ℕ). OnOk c.put.result (c.put.new.out.items ≡ c.args.out.now.items ++ t))
    (tested c.args.program.now c.args.here.now c.args.there.now proc test c.holds.result _ found truth c.bool_text.ensures) c.put.ensures
