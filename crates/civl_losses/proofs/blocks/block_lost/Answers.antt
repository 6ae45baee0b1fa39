use Rattle.std.proofs.Common.{◌≡◌, ◌∙◌, ap, subst, List, drop}
use Rattle.std.specs.Prelude.{IfOk, Option, ℕ}
use Rattle.civl_bits.specs.declared.value.Value.{Value}
use Rattle.civl_tree.specs.declared.program.Program.{Program}
use Rattle.civl_conditions.specs.Values.{layout}
use Rattle.civl_losses.specs.declared.loss.Loss.{Loss}
use Rattle.civl_losses.specs.inner.Routes.{block_lost}
use Rattle.civl_losses.proofs.Shifting.{block_here}
use Rattle.civl_losses.proofs.blocks.block_lost.Goals as goal

pub returns : goal.returns
returns c =
    let route = c.args.route.now in
    let src = c.args.src.now in
    let target = c.args.target in
    let values = c.args.values.now in
    let at : Program → ℕ = λ p. (layout p route.step route.proc.now route.cut).behind in
    subst (λ (l : Option Loss). IfOk c.block_loss.result (λ found. found ≡ l)) (
    ap (λ (vs : List Value). block_lost src route target vs 0) (c.in_ok-rest.ensures ∙ ap (λ (p : Program). drop (at p) values) c.requires.program)
    ∙ block_here src route target values (at src)
    ) c.block_loss.ensures
