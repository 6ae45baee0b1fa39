use Rattle.std.proofs.Common.{◌≡◌, ℕ, length, get_or, subst}
use Rattle.civl_tree.specs.declared.program.Program.{Program}
use Rattle.civl_tree.specs.Numbering.{sizes_of}
use Rattle.civl_conditions.specs.Steps.{of_proc}
use Rattle.civl_goals.specs.Failed.{held_before}
use Rattle.civl_goals.proofs.holding.held_counts.Goals as goal

pub returns-clause-counts : goal.returns-clause-counts
returns-clause-counts c =
    subst (λ (p : Program). (statement : ℕ) → get_or c.in_ok-counts.counts.items statement 0 ≡ of_proc {A = ℕ} p c.args.proc_number 0 (λ proc. length (held_before p proc statement))) c.program.ensures.same c.in_ok-counts.ensures.counts

pub returns-clause-statements : goal.returns-clause-statements
returns-clause-statements c =
    subst (λ (p : Program). length c.in_ok-counts.counts.items ≡ of_proc {A = ℕ} p c.args.proc_number 0 (λ proc. sizes_of proc.body)) c.program.ensures.same c.in_ok-counts.ensures.statements
