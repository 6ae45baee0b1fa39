use Rattle.std.proofs.Common.{◌≡◌, ℕ, List, [], ◌∙◌, None, append-nil, ap, subst, sym}
use Rattle.std.specs.Prelude.{Option, codes, slice_get}
use Rattle.std.specs.Option.{option_map_or}
use Rattle.std.proofs.lemmas.Option.{slice_get_past}
use Rattle.civl_tree.specs.declared.program.Proc.{Proc}
use Rattle.civl_tree.specs.declared.program.Program.{Program}
use Rattle.civl_layers.specs.Cuts.{proc_cuts}
use Rattle.civl_lines.specs.declared.line.Line.{Line}
use Rattle.civl_assumptions.specs.inner.Told.{said_lines}
use Rattle.civl_assumptions.proofs.told.push_target_said.Goals as goal

pub returns-in-None : goal.returns-in-None
returns-in-None c =
    let program = c.args.src.now in
    let same = c.as_slice.ensures ∙ ap (λ (p : Program). p.procs) c.program.ensures.same in
    let gone : slice_get program.procs c.in-Yield.number ≡ None =
    subst (λ (ps : List Proc). slice_get ps c.in-Yield.number ≡ None) same (slice_get_past _ _ c.in-None.ensures.lookup.3) in
    let said : Proc → List Line = λ proc.
    option_map_or (said_lines program c.in-Yield.number (codes "is assumed of another thread")) (slice_get (proc_cuts proc) c.in-Yield.cut) [] in
    rw (c.in-Yield.is, ap (λ (o : Option Proc). option_map_or said o []) gone) (sym (append-nil _))
