-- The first place in a procedure at which a rule is broken.
use Rattle.std.specs.Prelude.{ℕ, Option, Some, if◌then◌else◌}
use Rattle.civl_tree.specs.declared.program.Proc.{Proc}
use Rattle.civl_tree.specs.declared.program.Program.{Program}
use Rattle.civl_tree.specs.Numbering.{no_statement}
use Rattle.civl_tree.specs.rules.Rules.{Rule, first_of}

-- the number of the first statement of a procedure, at this place among the procedures, that breaks a rule; that of no
-- statement where the procedure breaks it as a whole
abbrev pub proc_first : Rule → Program → ℕ → Proc → Option ℕ
proc_first rule program place proc = if rule.proc program place proc then Some no_statement else first_of (rule.statements program place proc)
