-- A frame with its own outputs in their place is the frame.
use Rattle.std.proofs.Common.{◌≡◌, List, ◌++◌, length, take, drop, ap, sym, ◌∙◌}
use Rattle.std.proofs.lemmas.List.{take-append-drop, drop-drop}
use Rattle.civl_bits.specs.declared.value.Value.{Value}
use Rattle.civl_tree.specs.declared.program.Proc.{Proc}
use Rattle.civl_meaning.specs.Change.{outs_in}
use Rattle.civl_conditions.specs.paths.NoteValues.{with_outs}

pub same_outputs : (proc : Proc) (locals : List Value) → with_outs proc locals (outs_in proc locals) ≡ locals
same_outputs proc locals =
    let params = length proc.params in
    let outs = length proc.outs in
    ap (λ (rest : List Value). take params locals ++ (take outs (drop params locals) ++ rest)) (sym (drop-drop outs params locals))
    ∙ ap (λ (rest : List Value). take params locals ++ rest) (take-append-drop outs (drop params locals))
    ∙ take-append-drop params locals
