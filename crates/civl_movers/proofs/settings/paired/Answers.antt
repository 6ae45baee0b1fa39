use Rattle.std.specs.Prelude.{◌+◌, ◌-◌, ℕ}
use Rattle.std.proofs.Common.{◌∙◌, ◌++◌, ap, ap₂, arith}
use Rattle.civl_tree.proofs.Lists.{get_there}
use Rattle.civl_terms.proofs.Growing.{lengthens_same, lengthens_trans}
use Rattle.civl_states.specs.formula_parts.Given.{bits_of_sorts}
use Rattle.civl_states.proofs.formula_parts.Giving.{bits-append}
use Rattle.civl_states.specs.declared.stores.Existing.TheVariants.{Layer}
use Rattle.civl_states.specs.Existing.{existing_sorts}
use Rattle.civl_states.specs.Runs.{instance_sorts}
use Rattle.civl_states.proofs.Limits.{action_few}
use Rattle.civl_states.proofs.Variables.{existing_few, pair_sorts}
use Rattle.civl_movers.proofs.Pairing.{lower_after, from_after, pair_front, pair_first, pair_second, pair_small, pair_limits}
use Rattle.civl_movers.proofs.settings.paired.Goals as goal

pub store-requires-clause-stand : goal.store-requires-clause-stand
store-requires-clause-stand c =
    let p = c.args.program.now in
    let t = get_there p.actions c.args.x c.requires.x in
    let u = get_there p.actions c.args.y c.requires.y in
    pair_front p c.requires.rules c.args.sorts.now c.args.step c.args.x t.0 t.1 c.args.number c.args.y u.0 u.1 c.requires.sorts c.lower.result c.lower.ensures

pub store-requires-clause-small : goal.store-requires-clause-small
store-requires-clause-small c =
    let p = c.args.program.now in
    let t = get_there p.actions c.args.x c.requires.x in
    let u = get_there p.actions c.args.y c.requires.y in
    pair_small p c.requires.rules c.args.sorts.now c.args.step c.args.x t.0 t.1 c.args.number c.args.y u.0 u.1 c.requires.sorts

pub store-requires-clause-limits : goal.store-requires-clause-limits
store-requires-clause-limits c =
    let p = c.args.program.now in
    let t = get_there p.actions c.args.x c.requires.x in
    let u = get_there p.actions c.args.y c.requires.y in
    pair_limits p c.requires.rules c.args.sorts.now c.args.step c.args.x t.0 t.1 c.args.number c.args.y u.0 u.1 c.requires.sorts

pub overflow_add-second : goal.overflow_add-second
overflow_add-second c =
    let p = c.args.program.now in
    let t = get_there p.actions c.args.x c.requires.x in
    omega (arith, c.count_lower-first.ensures, existing_few p c.requires.rules (Layer (c.args.step - 1)), c.count_instance.ensures t.0 t.1, action_few p c.requires.rules c.args.x t.0 t.1)

pub invocation-requires-clause-stand : goal.invocation-requires-clause-stand
invocation-requires-clause-stand c = λ a at.
    let p = c.args.program.now in
    let u = get_there p.actions c.args.y c.requires.y in
    pair_first p c.requires.rules c.args.sorts.now c.args.step c.args.x a at c.args.number c.args.y u.0 u.1 c.requires.sorts c.count_lower-first.result c.count_lower-first.ensures

pub invocation-requires-clause-small : goal.invocation-requires-clause-small
invocation-requires-clause-small c =
    let p = c.args.program.now in
    let t = get_there p.actions c.args.x c.requires.x in
    let u = get_there p.actions c.args.y c.requires.y in
    pair_small p c.requires.rules c.args.sorts.now c.args.step c.args.x t.0 t.1 c.args.number c.args.y u.0 u.1 c.requires.sorts

pub invocation-requires-clause-limits : goal.invocation-requires-clause-limits
invocation-requires-clause-limits c =
    let p = c.args.program.now in
    let t = get_there p.actions c.args.x c.requires.x in
    let u = get_there p.actions c.args.y c.requires.y in
    pair_limits p c.requires.rules c.args.sorts.now c.args.step c.args.x t.0 t.1 c.args.number c.args.y u.0 u.1 c.requires.sorts

pub returns-in_err-x-clause-lengthens : goal.returns-in_err-x-clause-lengthens
returns-in_err-x-clause-lengthens c = lengthens_trans _ _ _ c.in_ok-globals.ensures.lengthens c.in_err-x.ensures.lengthens

pub invocation-requires-2-clause-stand : goal.invocation-requires-2-clause-stand
invocation-requires-2-clause-stand c = λ b bt.
    let p = c.args.program.now in
    let t = get_there p.actions c.args.x c.requires.x in
    pair_second p c.requires.rules c.args.sorts.now c.args.step c.args.x t.0 t.1 c.args.number c.args.y b bt c.requires.sorts c.count_lower-first.result c.count_instance.result c.count_lower-first.ensures (c.count_instance.ensures t.0 t.1)

pub invocation-requires-2-clause-small : goal.invocation-requires-2-clause-small
invocation-requires-2-clause-small c =
    let p = c.args.program.now in
    let t = get_there p.actions c.args.x c.requires.x in
    let u = get_there p.actions c.args.y c.requires.y in
    pair_small p c.requires.rules c.args.sorts.now c.args.step c.args.x t.0 t.1 c.args.number c.args.y u.0 u.1 c.requires.sorts

pub invocation-requires-2-clause-limits : goal.invocation-requires-2-clause-limits
invocation-requires-2-clause-limits c =
    let p = c.args.program.now in
    let t = get_there p.actions c.args.x c.requires.x in
    let u = get_there p.actions c.args.y c.requires.y in
    pair_limits p c.requires.rules c.args.sorts.now c.args.step c.args.x t.0 t.1 c.args.number c.args.y u.0 u.1 c.requires.sorts

pub returns-in_err-y-clause-lengthens : goal.returns-in_err-y-clause-lengthens
returns-in_err-y-clause-lengthens c = lengthens_trans _ _ _ c.in_ok-globals.ensures.lengthens (lengthens_trans _ _ _ c.in_ok-x.ensures.lengthens c.in_err-y.ensures.lengthens)

pub returns-clause-lengthens : goal.returns-clause-lengthens
returns-clause-lengthens c = lengthens_trans _ _ _ c.in_ok-globals.ensures.lengthens (lengthens_trans _ _ _ c.in_ok-x.ensures.lengthens c.in_ok-y.ensures.lengthens)

pub returns-clause-is : goal.returns-clause-is
returns-clause-is c =
    let p = c.args.program.now in
    let n1 = c.store.new.terms in
    let n2 = c.invocation.new.terms in
    let n3 = c.invocation-2.new.terms in
    let w2 = c.in_ok-x.ensures.lengthens in
    let w3 = c.in_ok-y.ensures.lengthens in
    record {
      globals = lower_after n1 n3 p c.args.step c.lower.result c.in_ok-globals.globals c.lower.ensures (lengthens_trans n1 n2 n3 w2 w3) c.in_ok-globals.ensures.store;
      first = from_after n2 n3 p c.args.x c.count_lower-first.result _ c.in_ok-x.x c.count_lower-first.ensures w3 c.in_ok-x.ensures.is c.in_ok-x.ensures.ready c.in_ok-x.ensures.invoked;
      second = λ a at.
          from_after n3 n3 p c.args.y (c.count_lower-first.result + c.count_instance.result) _ c.in_ok-y.y (ap₂ (λ (i j : ℕ). i + j) c.count_lower-first.ensures (c.count_instance.ensures a at))
          (lengthens_same n3) c.in_ok-y.ensures.is c.in_ok-y.ensures.ready c.in_ok-y.ensures.invoked;
    }

pub returns-clause-weighs : goal.returns-clause-weighs
returns-clause-weighs c =
    let p = c.args.program.now in
    let t = get_there p.actions c.args.x c.requires.x in
    let u = get_there p.actions c.args.y c.requires.y in
    let whole = c.requires.sorts ∙ pair_sorts p c.args.step c.args.x t.0 t.1 c.args.number c.args.y u.0 u.1 in
    omega (
      arith,
      c.in_ok-globals.ensures.weighs,
      ap (λ w. bits_of_sorts (existing_sorts w p)) c.lower.ensures,
      c.in_ok-x.ensures.weighs t.0 t.1,
      c.in_ok-y.ensures.weighs u.0 u.1,
      ap bits_of_sorts whole,
      bits-append (existing_sorts (Layer (c.args.step - 1)) p) (instance_sorts t.0 ++ instance_sorts u.0),
      bits-append (instance_sorts t.0) (instance_sorts u.0),
    )
