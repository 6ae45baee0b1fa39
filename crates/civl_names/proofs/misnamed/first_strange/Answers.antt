use Rattle.std.proofs.Common.{◌≡◌, ℕ, ◌+◌, ◌∙◌, ap, ap₂, sym, length}
use Rattle.std.specs.Prelude.{not}
use Rattle.civl_tree.specs.Numbering.{init_item, invariant_item, proc_item}
use Rattle.civl_names.specs.inner.Strange.{declared_in, invariant_strange, action_strange, thread_strange}
use Rattle.civl_names.proofs.Same.{item_kept}
use Rattle.civl_names.proofs.Telling.{moved, all_past}
use Rattle.civl_names.proofs.misnamed.first_strange.Goals as goal

pub returns : goal.returns
returns c =
    let program = c.args.program.now in
    let declared = declared_in c.args.sets.now in
    let init = item_kept _ (init_item program) (ap not (sym c.all_known.ensures ∙ c.if-not-all_known.false)) in
    let before : c.len-init.result + 1 + c.len.result ≡ invariant_item program (length program.invariants) = ap₂ (λ (m n : ℕ). m + 1 + n) c.len-init.ensures c.len.ensures in
    let invariants = moved (invariant_strange declared) (c.len-init.result + 1) (init_item program + 1) c.as_slice.result.now program.invariants (ap (λ (n : ℕ). n + 1) c.len-init.ensures) c.as_slice.ensures in
    let actions = moved (action_strange declared) (c.len-init.result + 1 + c.len.result) (invariant_item program (length program.invariants)) c.as_slice-2.result.now program.actions before c.as_slice-2.ensures in
    let threads = moved (thread_strange declared) (c.len-init.result + 1 + c.len.result + c.len-2.result + c.len-3.result) (proc_item program (length program.procs)) c.as_slice-3.result.now program.threads
    (ap₂ (λ (m n : ℕ). m + n) (ap₂ (λ (m n : ℕ). m + n) before c.len-2.ensures) c.len-3.ensures) c.as_slice-3.ensures in
    c.in_ok-last.ensures ∙ threads
    ∙ sym (all_past _ _ _ _ _ (sym init) (sym invariants ∙ sym c.in_ok-refusal.ensures ∙ c.in_default.is) (sym actions ∙ sym c.in_ok-refusal-2.ensures ∙ c.in_default-2.is) (sym c.in_ok-refusal-3.ensures ∙ c.in_default-3.is))
