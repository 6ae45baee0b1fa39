-- A block that may have passed its turning point earlier may have passed it later.
use Rattle.std.proofs.Common.{◌≡◌, Bool, true, false, ◌||◌, List, [], ◌∷◌, map, Option, None, Some, refl, sym, ap, ◌∙◌, subst}
use Rattle.civl_tree.specs.declared.stmt.Stmt.{Stmt, roll-Stmt, out-roll-Stmt, map-Stmt}
use Rattle.civl_tree.specs.declared.stmt.Stmt.TheOpen.{Stmt-F, If, YieldLoop, Call, Yield}
use Rattle.civl_tree.specs.declared.stmt.Stmt.TheFolds.{ind-Stmt}
use Rattle.civl_tree.specs.declared.action.Action.{Action}
use Rattle.civl_tree.specs.declared.program.Program.{Program}
use Rattle.civl_yields.specs.Movers.{called_action}
use Rattle.civl_yields.specs.Phases.{Passed, passed, passed_all, called_phase}
use Rattle.civl_yields.specs.Heads.{HeadIsLeast}
use Rattle.civl_yields.proofs.Examples.{passed_form, passed_is}

abbrev Follows : Bool → Bool → Type 0
Follows a b = a ≡ true → b ≡ true

or_follows : (a b c d : Bool) → Follows a b → Follows c d → Follows (a || c) (b || d)
or_follows true b c d f g e = ap (λ (x : Bool). x || d) (f refl)
or_follows false true c d f g e = refl
or_follows false false c d f g e = g e

called_left : (action : Option Action) → called_phase action true ≡ true
called_left None = refl
called_left (Some action) = refl

-- one thing behind another
then_follows : (later : Bool → Bool) → Follows (later false) (later true) → (a b : Bool) → Follows a b → Follows (later a) (later b)
then_follows later f true b g e = ap later (g refl) ∙ e
then_follows later f false true g e = f e
then_follows later f false false g e = e

abbrev Grows : Program → Stmt → Type 0
Grows program stmt = Follows (passed program stmt false).after (passed program stmt true).after

module _ {S : Type 0} (program : Program) (view : S → Stmt) (grows : (s : S) → Grows program (view s)) where
  all_grow : (parts : List S) → Follows (passed_all program (map view parts) false).after (passed_all program (map view parts) true).after
  all_grow [] e = refl
  all_grow (part ∷ parts) e =
      then_follows (λ (left : Bool). (passed_all program (map view parts) left).after) (all_grow parts) (passed program (view part) false).after (passed program (view part) true).after (grows part) e

  form_grows : (form : Stmt-F S) → Follows (passed_form program (map-Stmt S Stmt view form) false).after (passed_form program (map-Stmt S Stmt view form) true).after
  form_grows (If test first second) e =
      or_follows (passed_all program (map view first) false).after _ (passed_all program (map view second) false).after _ (all_grow first) (all_grow second) e
  form_grows (YieldLoop test inv body) e = e
  form_grows (Call callee args results) e = called_left (called_action program callee)
  form_grows (Yield inv) e = e
  form_grows _ e = refl

grows : (program : Program) (stmt : Stmt) → Grows program stmt
grows program stmt =
    ind-Stmt (Grows program) (λ x y q.
    let here = subst (λ (form : Stmt-F Stmt). Follows (passed_form program form false).after (passed_form program form true).after) q (form_grows program (λ z. z.0) (λ z. z.1) y) in
    let is : (left : Bool) → (passed program (roll-Stmt x) left).after ≡ (passed_form program x left).after =
    λ left. ap (λ (p : Passed). p.after) (passed_is program (roll-Stmt x) left ∙ ap (λ (form : Stmt-F Stmt). passed_form program form left) (out-roll-Stmt x)) in
    λ e. is true ∙ here (sym (is false) ∙ e)) stmt

whole : (program : Program) (body : List Stmt) → Follows (passed_all program body false).after (passed_all program body true).after
whole program [] e = refl
whole program (stmt ∷ stmts) e =
    then_follows (λ (left : Bool). (passed_all program stmts left).after) (whole program stmts) (passed program stmt false).after (passed program stmt true).after (grows program stmt) e

fixed_by : (later : Bool → Bool) → Follows (later false) (later true) → (end : Bool) → later false ≡ end → later false ≡ later (later false)
fixed_by later f true e = e ∙ sym (ap later e ∙ f e)
fixed_by later f false e = ap later (sym e)

fixed : (program : Program) (body : List Stmt) (left : Bool) → (left || (passed_all program body false).after) ≡ (left || (passed_all program body (left || (passed_all program body false).after)).after)
fixed program body true = refl
fixed program body false = fixed_by (λ (left : Bool). (passed_all program body left).after) (whole program body) _ refl

least : (later : Bool → Bool) (left phase : Bool) → Follows left phase → Follows (later phase) phase → Follows (left || later false) phase
least later left true f g e = refl
least later true false f g e = f refl
least later false false f g e = g e

pub head_is_least : HeadIsLeast
head_is_least program body left = (fixed program body left, λ phase f g e. least (λ (l : Bool). (passed_all program body l).after) left phase f g e)
