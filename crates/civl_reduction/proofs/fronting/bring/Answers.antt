use Rattle.std.proofs.Common.{◌+◌, ◌-◌, ◌∙◌, subst}
use Rattle.civl_reduction.specs.declared.swapped.Swapped.{Swapped}
use Rattle.civl_reduction.specs.declared.swapped.Swapped.TheVariants.{Fails, Differs}
use Rattle.civl_reduction.specs.Swap.{IsSwapped}
use Rattle.civl_reduction.proofs.Bringing.{goes_down, stops_down, keeps_length}
use Rattle.civl_reduction.proofs.fronting.bring.Goals as goal

pub returns-in-Fails : goal.returns-in-Fails
returns-in-Fails c =
    c.loop-done.invariant.rest (Fails c.in-Fails.shorter)
    (stops_down c.args.plain.now c.args.from.now c.args.count c.loop-done.done c.args.target c.loop-done.current (Fails c.in-Fails.shorter) c.loop-done-test.true
    (subst (λ (s : Swapped). IsSwapped c.args.plain.now c.args.from.now c.loop-done.current (c.args.target + (c.args.count - 1 - c.loop-done.done)) s) c.in-Fails.is c.in_ok-turned.ensures) tt)

pub returns-in-Differs : goal.returns-in-Differs
returns-in-Differs c =
    c.loop-done.invariant.rest (Differs c.in-Differs.at)
    (stops_down c.args.plain.now c.args.from.now c.args.count c.loop-done.done c.args.target c.loop-done.current (Differs c.in-Differs.at) c.loop-done-test.true
    (subst (λ (s : Swapped). IsSwapped c.args.plain.now c.args.from.now c.loop-done.current (c.args.target + (c.args.count - 1 - c.loop-done.done)) s) c.in-Differs.is c.in_ok-turned.ensures) tt)

pub loop-done-preserved : goal.loop-done-preserved
loop-done-preserved c =
    let swapped = subst (λ (s : Swapped). IsSwapped c.args.plain.now c.args.from.now c.loop-done.current (c.args.target + (c.args.count - 1 - c.loop-done.done)) s) c.in-Same.is c.in_ok-turned.ensures in
    record {
      rest = λ answer rest. c.loop-done.invariant.rest answer (goes_down c.args.plain.now c.args.from.now c.args.count c.loop-done.done c.args.target c.loop-done.current c.in-Same.turned answer c.loop-done-test.true swapped rest);
      long = keeps_length c.args.plain.now c.args.from.now c.loop-done.current c.in-Same.turned (c.args.target + (c.args.count - 1 - c.loop-done.done)) swapped ∙ c.loop-done.invariant.long;
    }
