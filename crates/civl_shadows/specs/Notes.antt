-- A frame as its notes see it, and a body on its way.
use Rattle.std.specs.Prelude.{Option, None, Some}
use Rattle.civl_tree.specs.declared.stmt.Stmt.{Stmt}
use Rattle.civl_tree.specs.declared.stmt.Stmt.TheOpen as stmt
use Rattle.civl_conditions.specs.paths.Paths.{Course, Progress, committed, introduced}
use Rattle.civl_reduction.specs.blocks.Shadow.{course_of}
use Rattle.civl_shadows.specs.declared.notes.Noting.{Noting}
use Rattle.civl_shadows.specs.declared.notes.Progress as code

-- commits and intros look at no choices
abbrev pub noted : Noting → Course
noted noting = course_of noting.program.now noting.layer noting.proc.now

-- with the frame's locals
abbrev pub progress_of : Noting → code.Progress → Progress
progress_of noting p = record { store = record { values = p.values.items }; locals = noting.locals.now; done = p.done; again = p.again }

-- a yield, a commit and an intro let what takes effect go on behind them
abbrev pub layer_glides : Course → stmt.Stmt-F Stmt → Progress → Option Progress
layer_glides c stmt.Commit p = Some (committed p)
layer_glides c (stmt.Intro x e) p = Some (introduced c x e p)
layer_glides c (stmt.Yield i) p = Some p
layer_glides c _ p = None
