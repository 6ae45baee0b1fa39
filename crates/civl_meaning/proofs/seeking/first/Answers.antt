use Rattle.std.proofs.Common.{◌+◌, ◌∙◌, List, drop, sym, ap, arith}
use Rattle.std.specs.Prelude.{option_copied}
use Rattle.std.proofs.lemmas.List.{drop_all}
use Rattle.civl_tree.specs.declared.stmt.Stmt.{Stmt}
use Rattle.civl_tree.proofs.Lists.{drop_is}
use Rattle.civl_meaning.specs.inner.Left.{first_left}
use Rattle.civl_meaning.proofs.Shifting.{first_here, first_skipped, first_none}
use Rattle.civl_meaning.proofs.seeking.first.Goals as goal

pub returns-then-not-skipped : goal.returns-then-not-skipped
returns-then-not-skipped c =
    let after = option_copied c.args.after in
    let at = c.loop-stmt.stmt-index in
    let d = drop_is c.args.stmts.now at c.stmt-item.result (omega arith) c.stmt-item.is in
    sym (first_here c.stmt-item.result (drop (at + 1) c.args.stmts.now) after (sym c.skipped.ensures ∙ c.if-not-skipped.true)) ∙ ap (λ (r : List Stmt). first_left r after) (sym d) ∙ c.loop-stmt.invariant

pub loop-stmt-preserved : goal.loop-stmt-preserved
loop-stmt-preserved c =
    let after = option_copied c.args.after in
    let at = c.loop-stmt.stmt-index in
    let d = drop_is c.args.stmts.now at c.stmt-item.result (omega arith) c.stmt-item.is in
    sym (first_skipped c.stmt-item.result (drop (at + 1) c.args.stmts.now) after (sym c.skipped.ensures ∙ c.if-not-skipped.false)) ∙ ap (λ (r : List Stmt). first_left r after) (sym d) ∙ c.loop-stmt.invariant

pub returns : goal.returns
returns c =
    let after = option_copied c.args.after in
    let d = drop_all c.loop-stmt.stmt-index c.args.stmts.now (omega arith) in
    sym (first_none after) ∙ ap (λ (r : List Stmt). first_left r after) (sym d) ∙ c.loop-stmt.invariant
