-- That going over statements computes, by the form of each.
use Rattle.std.proofs.Common.{◌≡◌, Bool, true, false, List, [], ◌∷◌, ◌++◌, refl, sym, ap, ◌∙◌}
use Rattle.civl_tree.specs.declared.stmt.Stmt.{Stmt, out-Stmt, roll-out-Stmt, map-Stmt}
use Rattle.civl_tree.specs.declared.stmt.Stmt.TheOpen.{Stmt-F, If, While, YieldLoop, RankLoop, Call, Yield}
use Rattle.civl_tree.specs.declared.stmt.Stmt.TheFolds.{fold-roll-Stmt}
use Rattle.civl_tree.specs.declared.program.Program.{Program}
use Rattle.civl_tree.proofs.Layers.{layers}
use Rattle.civl_names.proofs.walks.Finding.{computing}
use Rattle.civl_yields.specs.Movers.{called_action}
use Rattle.civl_yields.specs.Phases.{Passed, passed, passed_all, pass_step, pass_one, pass_if, pass_loop, called_phase}
use Rattle.std.specs.Prelude.{◌||◌}
use Rattle.civl_yields.specs.Places.{insides, insides_all, inside_step}

abbrev pub passed_form : Program → Stmt-F Stmt → Bool → Passed
passed_form program (If test first second) left = pass_if left (passed_all program first left) (passed_all program second left)
passed_form program (While test body) left = pass_loop left (left || (passed_all program body false).after) (passed_all program body (left || (passed_all program body false).after))
passed_form program (YieldLoop test inv body) left = pass_loop left false (passed_all program body false)
passed_form program (RankLoop test rank inv body) left = pass_loop left (left || (passed_all program body false).after) (passed_all program body (left || (passed_all program body false).after))
passed_form program (Call callee args results) left = pass_one left (called_phase (called_action program callee) left)
passed_form program (Yield inv) left = pass_one left false
passed_form program _ left = pass_one left left

form_passed : (program : Program) (form : Stmt-F Stmt) (left : Bool) → pass_step program (map-Stmt Stmt (Bool → Passed) (passed program) form) left ≡ passed_form program form left
form_passed program (If test first second) left = refl
form_passed program _ left = refl

pub passed_is : (program : Program) (stmt : Stmt) (left : Bool) → passed program stmt left ≡ passed_form program (out-Stmt stmt) left
passed_is program stmt left =
    ap (λ (s : Stmt). passed program s left) (sym (roll-out-Stmt stmt))
    ∙ ap (λ (f : Bool → Passed). f left) (fold-roll-Stmt (Bool → Passed) (pass_step program) (out-Stmt stmt))
    ∙ form_passed program (out-Stmt stmt) left

abbrev pub inside_form : Stmt-F Stmt → Bool → List Bool
inside_form (If test first second) inside = inside ∷ insides_all first inside ++ insides_all second inside
inside_form (While test body) inside = inside ∷ insides_all body inside
inside_form (YieldLoop test inv body) inside = inside ∷ insides_all body inside
inside_form (RankLoop test rank inv body) inside = inside ∷ insides_all body true
inside_form _ inside = inside ∷ []

form_inside : (form : Stmt-F Stmt) (inside : Bool) → inside_step (map-Stmt Stmt (Bool → List Bool) insides form) inside ≡ inside_form form inside
form_inside (If test first second) inside = refl
form_inside _ inside = refl

pub insides_is : (stmt : Stmt) (inside : Bool) → insides stmt inside ≡ inside_form (out-Stmt stmt) inside
insides_is stmt inside =
    ap (λ (s : Stmt). insides s inside) (sym (roll-out-Stmt stmt))
    ∙ ap (λ (f : Bool → List Bool). f inside) (fold-roll-Stmt (Bool → List Bool) inside_step (out-Stmt stmt))
    ∙ form_inside (out-Stmt stmt) inside

pub ruleset examples = (passed_is, insides_is, computing, layers)
