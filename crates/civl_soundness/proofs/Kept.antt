-- In a program that keeps the rule on signatures, a procedure has the signature of the action that it refines.
use Rattle.std.proofs.Common.{◌≡◌, ℕ, false, [], ◌∷◌, Some, slice_get}
use Rattle.civl_tree.specs.declared.program.Proc.{Proc}
use Rattle.civl_tree.specs.declared.program.Program.{Program}
use Rattle.civl_tree.specs.rules.Signature.{proc_signature_differs}
use Rattle.civl_tree.specs.rules.Rules.{Keeps}
use Rattle.civl_tree.specs.rules.Typing.{signature_rule}
use Rattle.civl_tree.proofs.Pairs.{contains_here}
use Rattle.civl_tree.proofs.Kept.{proc_kept}

pub signature_kept : (program : Program) → Keeps (signature_rule ∷ []) program → (i : ℕ) (proc : Proc) → slice_get program.procs i ≡ Some proc → proc_signature_differs program proc ≡ false
signature_kept program keeps i proc at = proc_kept (signature_rule ∷ []) program keeps signature_rule (contains_here signature_rule []) i proc at
