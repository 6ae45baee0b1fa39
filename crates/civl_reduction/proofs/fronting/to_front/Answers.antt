use Rattle.std.proofs.Common.{◌-◌, ◌<◌, ℕ, length, ◌∙◌, subst, arith}
use Rattle.civl_reduction.specs.declared.swapped.Swapped.{Swapped}
use Rattle.civl_reduction.specs.declared.swapped.Swapped.TheVariants.{Fails, Differs}
use Rattle.civl_reduction.specs.Front.{down, AreExchanged}
use Rattle.civl_reduction.proofs.Bringing.{rises_above, all_there, goes_next, stops_next, all_keep_length}
use Rattle.civl_reduction.proofs.fronting.to_front.Goals as goal

pub overflow_sub-place : goal.overflow_sub-place
overflow_sub-place c = rises_above c.args.chosen.now c.requires.rising c.loop-target.target c.get-place.result.now c.get-place.ensures

pub bring-requires-clause-exist : goal.bring-requires-clause-exist
bring-requires-clause-exist c =
    let high = rises_above c.args.chosen.now c.requires.rising c.loop-target.target c.get-place.result.now c.get-place.ensures in
    let within = all_there (λ (place : ℕ). place < length c.args.moves.now) c.args.chosen.now c.loop-target.target c.get-place.result.now c.get-place.ensures c.requires.exist in
    omega (arith, high, within, c.loop-target.invariant.long)

pub returns-in-Fails : goal.returns-in-Fails
returns-in-Fails c =
    c.loop-target.invariant.rest (Fails c.in-Fails.shorter)
    (stops_next c.args.plain.now c.args.from.now c.args.chosen.now c.loop-target.target c.get-place.result.now c.loop-target.current (Fails c.in-Fails.shorter) c.get-place.ensures tt
    (subst (λ (s : Swapped). AreExchanged c.args.plain.now c.args.from.now (down (c.get-place.result.now - c.loop-target.target) c.loop-target.target) c.loop-target.current s) c.in-Fails.is c.in_ok-turned.ensures))

pub returns-in-Differs : goal.returns-in-Differs
returns-in-Differs c =
    c.loop-target.invariant.rest (Differs c.in-Differs.at)
    (stops_next c.args.plain.now c.args.from.now c.args.chosen.now c.loop-target.target c.get-place.result.now c.loop-target.current (Differs c.in-Differs.at) c.get-place.ensures tt
    (subst (λ (s : Swapped). AreExchanged c.args.plain.now c.args.from.now (down (c.get-place.result.now - c.loop-target.target) c.loop-target.target) c.loop-target.current s) c.in-Differs.is c.in_ok-turned.ensures))

pub loop-target-preserved : goal.loop-target-preserved
loop-target-preserved c =
    let down_so = subst (λ (s : Swapped). AreExchanged c.args.plain.now c.args.from.now (down (c.get-place.result.now - c.loop-target.target) c.loop-target.target) c.loop-target.current s) c.in-Same.is c.in_ok-turned.ensures in
    record {
      rest = λ answer rest. c.loop-target.invariant.rest answer (goes_next c.args.plain.now c.args.from.now c.args.chosen.now c.loop-target.target c.get-place.result.now c.loop-target.current c.in-Same.turned answer c.get-place.ensures down_so rest);
      long = all_keep_length c.args.plain.now c.args.from.now (down (c.get-place.result.now - c.loop-target.target) c.loop-target.target) c.loop-target.current c.in-Same.turned down_so ∙ c.loop-target.invariant.long;
    }
