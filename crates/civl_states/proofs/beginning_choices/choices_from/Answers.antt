use Rattle.std.specs.Prelude.{map, get_or, take}
use Rattle.std.proofs.Common.{◌≡◌, refl, sym, ap, subst, arith, length, List}
use Rattle.civl_tree.specs.declared.action.Choice.{Choice}
use Rattle.civl_terms.proofs.Growing.{lengthens_trans}
use Rattle.civl_states.specs.Groups.{StandFrom}
use Rattle.civl_states.specs.Laying.{call_at, calls_at}
use Rattle.civl_states.proofs.Calling.{call_stands, call_within, call_past, call_bits, call_chosen, call_counted}
use Rattle.civl_states.proofs.beginning_choices.choices_from.Goals as goal

pub push_call-requires-clause-stand : goal.push_call-requires-clause-stand
push_call-requires-clause-stand c =
    let ns = c.args.numbers.now in
    let i = c.loop-number.number-index in
    let s = call_stands c.args.program.now c.args.layer (map (λ s. s.now) c.args.flat.now) ns i (get_or ns i 0) (omega arith) refl c.args.sorts.now c.loop-number.next c.loop-number.invariant.1 in
    subst (λ (chs : List Choice). StandFrom c.args.sorts.now c.loop-number.next (map (λ x. x.sort) chs)) (sym c.number_choices-choices.ensures) s

pub push_call-requires-clause-variables : goal.push_call-requires-clause-variables
push_call-requires-clause-variables c = c.loop-number.invariant.3

pub returns-in_err-push_call-clause-lengthens : goal.returns-in_err-push_call-clause-lengthens
returns-in_err-push_call-clause-lengthens c = lengthens_trans _ _ _ c.loop-number.invariant.4 c.in_err-push_call.ensures.lengthens

pub overflow_cast-next : goal.overflow_cast-next
overflow_cast-next c =
    let ns = c.args.numbers.now in
    let i = c.loop-number.number-index in
    let l = call_within c.args.program.now c.args.layer (map (λ s. s.now) c.args.flat.now) ns i (get_or ns i 0) (omega arith) refl c.args.sorts.now c.loop-number.next c.loop-number.invariant.1 in
    omega (arith, l, c.requires.small, ap length c.number_choices-choices.ensures)

pub overflow_add-next : goal.overflow_add-next
overflow_add-next c =
    let ns = c.args.numbers.now in
    let i = c.loop-number.number-index in
    let l = call_within c.args.program.now c.args.layer (map (λ s. s.now) c.args.flat.now) ns i (get_or ns i 0) (omega arith) refl c.args.sorts.now c.loop-number.next c.loop-number.invariant.1 in
    omega (arith, l, c.requires.small, ap length c.number_choices-choices.ensures)

pub loop-number-preserved : goal.loop-number-preserved
loop-number-preserved c =
    let p = c.args.program.now in
    let k = c.args.layer in
    let ss = map (λ s. s.now) c.args.flat.now in
    let ns = c.args.numbers.now in
    let i = c.loop-number.number-index in
    let n = get_or ns i 0 in
    let next = c.loop-number.next in
    let choices = c.number_choices-choices.result.now in
    let e : choices ≡ (call_at p k ss n).1 = c.number_choices-choices.ensures in
    let inv = c.loop-number.invariant in
    let made = c.in_ok-push_call.ensures in (
      call_chosen p k ss ns i n (omega arith) refl c.push_call.new.terms c.push_call.new.calls.items c.args.first choices e (made.chosen (calls_at p k ss (take i ns)) c.args.first inv.0 inv.2),
      call_past p k ss ns i n (omega arith) refl c.args.sorts.now next inv.1 (length choices) (ap length e),
      call_counted p k ss ns i n (omega arith) refl c.args.first next (length choices) inv.2 (ap length e),
      made.variables,
      lengthens_trans _ _ _ inv.4 made.lengthens,
      omega (arith, inv.5, made.weighs, call_bits p k ss ns i n (omega arith) refl c.args.sorts.now next inv.1 choices e),
    )
