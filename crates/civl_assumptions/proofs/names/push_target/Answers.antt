use Rattle.std.proofs.Common.{◌≡◌, ℕ, List, [], ◌∙◌, None, append-nil, ap, subst, sym}
use Rattle.std.specs.Prelude.{Option, codes, slice_get}
use Rattle.std.specs.Option.{option_map_or}
use Rattle.std.proofs.lemmas.Option.{slice_get_past}
use Rattle.civl_tree.specs.declared.program.Proc.{Proc}
use Rattle.civl_tree.specs.declared.program.Program.{Program}
use Rattle.civl_conditions.specs.Permissions.{held_at}
use Rattle.civl_assumptions.specs.Names.{of_numbers}
use Rattle.civl_assumptions.proofs.names.push_target.Goals as goal

pub returns-in-None : goal.returns-in-None
returns-in-None c =
    let program = c.args.src.now in
    let same = c.as_slice.ensures ∙ ap (λ (p : Program). p.procs) c.program.ensures.same in
    let gone : slice_get program.procs c.in-Yield.number ≡ None =
    subst (λ (ps : List Proc). slice_get ps c.in-Yield.number ≡ None) same (slice_get_past _ _ c.in-None.ensures.lookup.3) in
    let held : Proc → List (List ℕ) = λ proc. of_numbers (codes "other.") proc (held_at program proc c.in-Yield.cut) in
    rw (c.in-Yield.is, ap (λ (o : Option Proc). option_map_or held o []) gone) (sym (append-nil _))
