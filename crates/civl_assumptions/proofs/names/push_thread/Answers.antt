use Rattle.std.proofs.Common.{◌≡◌, ◌∙◌, ℕ, ◌≤◌, List, length, map, ap, subst}
use Rattle.civl_tree.specs.declared.program.Proc.{Proc}
use Rattle.civl_firing.specs.Truth.{place_of}
use Rattle.civl_meaning.specs.Meaning.{proc_number}
use Rattle.civl_path_stories.proofs.Chains.{none_there}
use Rattle.civl_assumptions.specs.Names.{of_callee}
use Rattle.civl_assumptions.proofs.names.push_thread.Goals as goal

pub returns-in-None : goal.returns-in-None
returns-in-None c =
    let program = c.args.program.now in
    let callee = c.args.thread.now.callee in
    let number : c.proc.result ≡ proc_number program callee =
    c.proc.ensures ∙ ap (λ (ps : List Proc). place_of (map (λ (p : Proc). p.name) ps) callee) c.as_slice-procs.ensures in
    none_there of_callee c.args.names.now.items _ program.procs (proc_number program callee) c.as_slice-procs.ensures
    (subst (λ (n : ℕ). length c.as_slice-procs.result.now ≤ n) number c.in-None.ensures.lookup.3)
