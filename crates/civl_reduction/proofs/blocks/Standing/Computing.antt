-- What is ahead of a statement computes by its form.
use Rattle.std.proofs.Common.{◌≡◌, Bool, false, ◌||◌, sym, ap, ◌∙◌, refl}
use Rattle.civl_tree.specs.declared.stmt.Stmt.{Stmt, out-Stmt, roll-out-Stmt, map-Stmt}
use Rattle.civl_tree.specs.declared.stmt.Stmt.TheOpen.{Stmt-F, If, While, YieldLoop, RankLoop, Call, Yield}
use Rattle.civl_tree.specs.declared.stmt.Stmt.TheFolds.{fold-roll-Stmt}
use Rattle.civl_tree.specs.declared.program.Program.{Program}
use Rattle.civl_tree.proofs.Layers.{layers}
use Rattle.civl_meaning.proofs.Rests.{rest_is}
use Rattle.civl_reduction.specs.blocks.Ahead.{Ahead, stops, ahead_step, ahead, ahead_list}

abbrev pub ahead_form : Program → Stmt-F Stmt → Bool → Bool
ahead_form program (Call callee args results) later = stops program callee || later
ahead_form program (If test first second) later = ahead_list program first later || ahead_list program second later
ahead_form program (While test body) later = ahead_list program body false || later
ahead_form program (RankLoop test rank inv body) later = ahead_list program body false || later
ahead_form program (YieldLoop test inv body) later = false
ahead_form program (Yield inv) later = false
ahead_form program _ later = later

form_ahead : (program : Program) (form : Stmt-F Stmt) (later : Bool) → ahead_step program (map-Stmt Stmt Ahead (ahead program) form) later ≡ ahead_form program form later
form_ahead program (If test first second) later = refl
form_ahead program _ later = refl

pub ahead_is : (program : Program) (stmt : Stmt) (later : Bool) → ahead program stmt later ≡ ahead_form program (out-Stmt stmt) later
ahead_is program stmt later =
    ap (λ (s : Stmt). ahead program s later) (sym (roll-out-Stmt stmt))
    ∙ ap (λ (f : Ahead). f later) (fold-roll-Stmt Ahead (ahead_step program) (out-Stmt stmt))
    ∙ form_ahead program (out-Stmt stmt) later

pub ruleset examples = (ahead_is, rest_is, layers)
