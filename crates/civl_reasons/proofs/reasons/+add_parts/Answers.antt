use Rattle.std.proofs.Common.{rules, ◌≡◌, false, ap, sym, ◌∙◌}
use Rattle.civl_tree.specs.declared.expr.Expr.{the_lemmas as of_expr}
use Rattle.civl_reasons.specs.Reasons.{is_joint}
use Rattle.civl_reasons.proofs.Parts.{not_two}
use Rattle.civl_reasons.proofs.Adding.{joined_kept, leaf_added}
use Rattle.civl_reasons.proofs.reasons.+add_parts.Goals as goal
use Rattle.civl_reasons.proofs.reasons.+add_parts.Goals.{in_default-via-in-Two+else-joins, in_default-via-in_default}

pub returns-in_ok-right-in-Two-clause-parts : goal.returns-in_ok-right-in-Two-clause-parts
returns-in_ok-right-in-Two-clause-parts g t c =
    joined_kept (g.B.Bindings.scope c.args.bindings.now) c.in-Two.op c.in-Two.a c.in-Two.b c.get.result.now c.get-in-Two.result.now c.args.expr.now
    c.args.token c.len-count.result c.in_ok-left-in-Two.field-0.end c.in_ok-left-in-Two.field-0.value c.in_ok-right-in-Two.field-0.value c.two-value.result
    c.args.parts.now.items c.add_parts.new.parts.items c.add_parts-in-Two.new.parts.items c.keep_if_false.new.parts.items
    c.in-Two.is c.get.ensures c.get-in-Two.ensures (sym c.joins.ensures ∙ c.if-joins.true) (search rules)
    c.in_ok-left-in-Two.ensures.value c.in_ok-right-in-Two.ensures.value c.two-value.ensures
    c.in_ok-left-in-Two.ensures.end c.in_ok-left-in-Two.ensures.parts c.in_ok-right-in-Two.ensures.parts c.keep_if_false.ensures

pub returns-in_ok-add_if_false-in_default-clause-parts : goal.returns-in_ok-add_if_false-in_default-clause-parts
returns-in_ok-add_if_false-in_default-clause-parts g t c =
    let other : is_joint c.args.expr.now ≡ false = elim c.in_default.branch [
      | in_default-via-in-Two+else-joins w ↦ let h = w.if-joins.false in let k = w.joins.ensures in ap is_joint w.in-Two.is ∙ simp of_expr (sym k ∙ h)
      | in_default-via-in_default w ↦ not_two c.args.expr.now w.in_default.not-Two
    ] in
    leaf_added (g.B.Bindings.scope c.args.bindings.now) c.args.expr.now c.args.token c.value-value.result c.args.parts.now.items c.add_if_false.new.parts.items other
    c.value-value.ensures c.in_ok-add_if_false-in_default.ensures
