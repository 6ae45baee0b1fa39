use Rattle.std.proofs.Common.{◌≡◌, drop}
use Rattle.civl_tree.specs.rules.Names.{has_name, proc_names}
use Rattle.civl_subjects.proofs.naming.is_proc.Given as goal

abbrev pub invariant-loop-proc : goal.invariant-loop-proc
invariant-loop-proc l = has_name (proc_names (drop l.proc-index l.procs)) l.name ≡ has_name (proc_names l.fn.procs) l.fn.name
