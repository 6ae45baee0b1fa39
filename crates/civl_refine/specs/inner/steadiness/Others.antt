-- Serves private functions: another thread's frame at a yield, as terms.
use Rattle.std.specs.Prelude.{◌≡◌, ◌++◌, ℕ, List, [], ◌∷◌, All, Some, slice_get}
use Rattle.civl_tree.specs.declared.expr.Sort.{Sort}
use Rattle.civl_tree.specs.declared.expr.Sort.TheVariants.{Bool as Truth, Word}
use Rattle.civl_tree.specs.declared.program.Proc.{Proc}
use Rattle.civl_tree.specs.declared.program.Program.{Program}
use Rattle.civl_meaning.specs.Config.{frame_sorts}
use Rattle.civl_layers.specs.Cuts.{proc_cuts}
use Rattle.civl_terms.specs.declared.node.Node.{Node}
use Rattle.civl_terms.specs.Graphs.{sort_at}
use Rattle.civl_actions.specs.Scopes.{AreOf}
use Rattle.civl_conditions.specs.Assumed.{cut_invariant}
use Rattle.civl_conditions.specs.Permissions.{held_at}
use Rattle.civl_conditions.specs.Targets.{Other}
use Rattle.civl_states.specs.formula_parts.Said.{Env, IsTest}
use Rattle.civl_states.specs.formula_parts.Lists.{AreSaid}
use Rattle.civl_states.specs.Notes.{IsProcIn}
use Rattle.civl_refine.specs.declared.steadiness.yielding.Yielding.{Yielding}
use Rattle.civl_refine.specs.declared.steadiness.yielding.Frame.{Frame}

-- a yield of a procedure of the program, with its invariant; what is held there are words of the permission width
pub record IsYieldIn (program : Program) (place : Yielding) : Type 0 where
  pub proc : IsProcIn program place.proc.now
  pub note : cut_invariant place.proc.now place.cut ≡ Some place.note.now
  pub words : All (λ n. slice_get (frame_sorts place.proc.now) n ≡ Some (Word program.permissions)) place.held.now

-- it is the one with these numbers of a procedure and a cut
pub record YieldsAt (program : Program) (r y : ℕ) (place : Yielding) : Type 0 where
  pub proc : slice_get program.procs r ≡ Some place.proc.now
  pub cut : slice_get (proc_cuts place.proc.now) y ≡ Some place.cut
  pub note : cut_invariant place.proc.now place.cut ≡ Some place.note.now
  pub held : place.held.now ≡ held_at program place.proc.now y

-- terms of the sorts that belong to a frame
pub record AreFrame (ns : List Node) (proc : Proc) (frame : Frame) : Type 0 where
  pub locals : AreOf ns frame.locals (frame_sorts proc)
  pub done : sort_at ns frame.done ≡ Some Truth

-- they say this frame
pub record SayFrame (ns : List Node) (proc : Proc) (frame : Frame) (o : Env → Other) : Type 0 where
  pub locals : AreSaid ns frame.locals (frame_sorts proc) (λ env. (o env).locals)
  pub done : IsTest ns frame.done (λ env. (o env).done)

-- the sorts of its variables
abbrev pub other_sorts : Proc → List Sort
other_sorts proc = frame_sorts proc ++ Truth ∷ []
