use Rattle.std.proofs.Common.{◌≡◌, ◌∙◌, ℕ, List, None, Some, ap, subst, sym}
use Rattle.std.specs.Prelude.{option_copied}
use Rattle.civl_bits.specs.declared.value.Value.{Value}
use Rattle.civl_tree.specs.declared.stmt.Stmt.{Stmt, out-Stmt}
use Rattle.civl_meaning.specs.Change.{statement_doing}
use Rattle.civl_meaning.specs.Layers.{topmost}
use Rattle.civl_meaning.specs.Remaining.{rest_of}
use Rattle.civl_meaning.proofs.Rests.{head_at}
use Rattle.civl_goal_losses.specs.GoalLosses.{fault}
use Rattle.civl_goal_losses.proofs.Failing.{nothing_fails, stmt_fails, ok_map}
use Rattle.civl_goal_losses.proofs.faults.proc_fault.Goals as goal

pub returns-in-Some : goal.returns-in-Some
returns-in-Some c =
    let p = c.args.program.now in
    let g = c.args.store.now in
    let proc = c.args.proc.now in
    let stmt = c.in-Some.stmt.now in
    let rest = ap rest_of c.as_slice.ensures.value ∙ c.in_ok-rest.ensures in
    let head = head_at proc c.args.frame.now.place _ (Some stmt) rest (λ end. sym (ap (option_copied {T = Stmt}) c.in-Some.is) ∙ c.head.ensures end) in
    ok_map _ _ c.stmt_fault.result (λ f h.
    stmt_fails p g c.args.frame.now proc stmt f
    (subst (λ (ls : List Value). (at next : ℕ) → f ≡ fault p g (statement_doing (topmost p) proc ls at next (out-Stmt stmt))) c.as_slice-in-Some.ensures h) head) c.stmt_fault.ensures

pub returns : goal.returns
returns c =
    let proc = c.args.proc.now in
    let rest = ap rest_of c.as_slice.ensures.value ∙ c.in_ok-rest.ensures in
    nothing_fails c.args.program.now c.args.store.now c.args.frame.now proc
    (head_at proc c.args.frame.now.place _ None rest (λ end. sym (ap (option_copied {T = Stmt}) c.in-None.is) ∙ c.head.ensures end))
