use Rattle.std.proofs.Common.{◌≡◌, ◌∙◌, true, false, sym}
use Rattle.civl_tree.specs.rules.Twice.{stmt_twice}
use Rattle.civl_names.proofs.walks.Finding.{next_seen, none_seen, where_found, where_behind, where_none}
use Rattle.civl_names.proofs.twice.first_doubled.Goals as goal

pub returns-then-branch : goal.returns-then-branch
returns-then-branch c =
    let broken : stmt_twice c.stmt-item.result.now ≡ true = sym c.in_ok-stmt_twice.ensures ∙ c.if-branch.true in
    sym (sym c.loop-number.invariant
    ∙ where_found stmt_twice c.loop-number.number _ _ _ (next_seen (λ stmt. stmt.now) c.deref-stmt-items.result.now c.loop-number.number c.stmt-item.result c.loop-number-test.true c.stmt-item.is) broken)

pub loop-number-preserved : goal.loop-number-preserved
loop-number-preserved c =
    let kept : stmt_twice c.stmt-item.result.now ≡ false = sym c.in_ok-stmt_twice.ensures ∙ c.if-branch.false in
    sym (where_behind stmt_twice c.loop-number.number _ _ _ (next_seen (λ stmt. stmt.now) c.deref-stmt-items.result.now c.loop-number.number c.stmt-item.result c.loop-number-test.true c.stmt-item.is) kept)
    ∙ c.loop-number.invariant

pub returns : goal.returns
returns c =
    sym (sym c.loop-number.invariant
    ∙ where_none stmt_twice c.loop-number.number _ (none_seen (λ stmt. stmt.now) c.deref-stmt-items.result.now c.loop-number.number c.loop-number-test.false))
