-- Frames with their procedures.
use Rattle.std.specs.Prelude.{Option, None, Some}
use Rattle.civl_tree.specs.declared.program.Proc.{Proc}
use Rattle.civl_meaning.specs.declared.config.Activation.{Activation}
use Rattle.civl_shadows.specs.declared.frames.Framed.{Framed}

abbrev pub framed_of : Option Framed → Option (Proc × Activation)
framed_of None = None
framed_of (Some f) = Some (f.proc.now, f.frame.now)
