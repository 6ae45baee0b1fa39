-- Going over statements in a phase: the phase behind them, and whether a call in them comes too late.
use Rattle.std.proofs.Common.{◌≡◌, Bool, true, false, ◌&&◌, ◌||◌, List, [], ◌∷◌, ◌++◌, length, refl, ap, ap₂, ◌∙◌, arith, Option, None, Some}
use Rattle.std.proofs.lemmas.List.{length-append}
use Rattle.std.proofs.Math.Bool.{or-false}
use Rattle.civl_tree.specs.declared.name.Name.{Name}
use Rattle.civl_tree.specs.declared.action.Action.{Action}
use Rattle.civl_tree.specs.declared.stmt.Stmt.{Stmt, out-Stmt}
use Rattle.civl_tree.specs.declared.stmt.Stmt.TheOpen.{Stmt-F, If, While, YieldLoop, RankLoop, Call, Yield}
use Rattle.civl_tree.specs.declared.program.Program.{Program}
use Rattle.civl_tree.specs.Numbering.{inner_of, statements_of}
use Rattle.civl_tree.proofs.Preorder.{inner_layer, inner_is}
use Rattle.civl_yields.specs.Movers.{called_action}
use Rattle.civl_yields.specs.Phases.{Passed, passed, passed_all, called_phase}
use Rattle.civl_yields.specs.Places.{form_late, stmt_late}
use Rattle.civl_yields.proofs.Examples.{passed_form, passed_is}
use Rattle.civl_yields.proofs.Beside.{body_phased}
use Rattle.civl_reduction.specs.blocks.Ahead.{stops}

module _ (program : Program) where
  -- behind a call of this name the phase is left, whatever it was before
  abbrev pub turns : Name → Bool
  turns name = called_phase (called_action program name) false

  -- one of these statements, each with the phase before it, comes too late
  abbrev pub any_late : List Stmt → List Bool → Bool
  any_late [] phases = false
  any_late (s ∷ ss) [] = false
  any_late (s ∷ ss) (left ∷ phases) = stmt_late program s left || any_late ss phases

  pub record Flow : Type 0 where
    pub after : Bool
    pub bad : Bool

  abbrev pub Flows : Type 0
  Flows = Bool → Flow

  -- over a statement and those in it, entered in this phase
  abbrev pub flow : Stmt → Flows
  flow s left = record { after = (passed program s left).after; bad = any_late (s ∷ inner_of s) (passed program s left).befores }

  abbrev pub flow_list : List Stmt → Flows
  flow_list ss left = record { after = (passed_all program ss left).after; bad = any_late (statements_of ss) (passed_all program ss left).befores }

  -- ---- one behind the other

  or_over : (a b c : Bool) → (a || (b || c)) ≡ ((a || b) || c)
  or_over true b c = refl
  or_over false b c = refl

  late_joined : (ss ts : List Stmt) (ls ms : List Bool) → length ls ≡ length ss → any_late (ss ++ ts) (ls ++ ms) ≡ (any_late ss ls || any_late ts ms)
  late_joined [] ts [] ms e = refl
  late_joined [] ts (l ∷ ls) ms e = absurd (omega (arith, e))
  late_joined (s ∷ ss) ts [] ms e = absurd (omega (arith, e))
  late_joined (s ∷ ss) ts (l ∷ ls) ms e = ap (λ (b : Bool). stmt_late program s l || b) (late_joined ss ts ls ms (omega (arith, e))) ∙ or_over (stmt_late program s l) (any_late ss ls) (any_late ts ms)

  one_phased : (s : Stmt) (left : Bool) → length (passed program s left).befores ≡ length (s ∷ inner_of s)
  one_phased s left =
      let all = body_phased program (s ∷ []) left in
      let first = length-append (passed program s left).befores [] in
      let second = length-append (s ∷ inner_of s) [] in
      omega (arith, all, first, second)

  abbrev pub flow_then : Flow → Flows → Flow
  flow_then x later = record { after = (later x.after).after; bad = x.bad || (later x.after).bad }

  with_bad : (after : Bool) (a b : Bool) → a ≡ b → ◌≡◌ {A = Flow} (record { after = after; bad = a }) (record { after = after; bad = b })
  with_bad after a b e = ap (λ (x : Bool). mk after x) e
    where
      mk : Bool → Bool → Flow
      mk x y = record { after = x; bad = y }

  pub list_flow : (s : Stmt) (ss : List Stmt) (left : Bool) → flow_list (s ∷ ss) left ≡ flow_then (flow s left) (flow_list ss)
  list_flow s ss left =
      let here = passed program s left in
      with_bad (flow_list ss here.after).after _ _ (late_joined (s ∷ inner_of s) (statements_of ss) here.befores (passed_all program ss here.after).befores (one_phased s left))

  -- ---- by the form of a statement

  abbrev pub flow_loop : Flows → Bool → Flow
  flow_loop body head = record { after = head; bad = (body head).bad }

  abbrev pub flow_form : Stmt-F Stmt → Flows
  flow_form (Call callee args results) left = record { after = left || turns callee; bad = left && stops program callee }
  flow_form (If test first second) left = record { after = (flow_list first left).after || (flow_list second left).after; bad = (flow_list first left).bad || (flow_list second left).bad }
  flow_form (While test body) left = flow_loop (flow_list body) (left || (flow_list body false).after)
  flow_form (RankLoop test rank inv body) left = flow_loop (flow_list body) (left || (flow_list body false).after)
  flow_form (YieldLoop test inv body) left = record { after = false; bad = (flow_list body false).bad }
  flow_form (Yield inv) left = record { after = false; bad = false }
  flow_form _ left = record { after = left; bad = false }

  -- what is found of a form
  abbrev found : Stmt → Stmt-F Stmt → Bool → Flow
  found s form left = record { after = (passed_form program form left).after; bad = any_late (s ∷ inner_layer form) (passed_form program form left).befores }

  called_after : (action : Option Action) (left : Bool) → called_phase action left ≡ (left || called_phase action false)
  called_after None true = refl
  called_after None false = refl
  called_after (Some action) left = refl

  flow_found : (s : Stmt) (left : Bool) → flow s left ≡ found s (out-Stmt s) left
  flow_found s left =
      ap (λ (p : Passed). flow_of (s ∷ inner_of s) p) (passed_is program s left) ∙ ap (λ (ss : List Stmt). flow_of (s ∷ ss) (passed_form program (out-Stmt s) left)) (inner_is s)
    where
      flow_of : List Stmt → Passed → Flow
      flow_of ss p = record { after = p.after; bad = any_late ss p.befores }

  first_late : (s : Stmt) (form : Stmt-F Stmt) → out-Stmt s ≡ form → (left : Bool) → stmt_late program s left ≡ form_late program form left
  first_late s form e left = ap (λ (f : Stmt-F Stmt). form_late program f left) e

  form_flow : (s : Stmt) (form : Stmt-F Stmt) → out-Stmt s ≡ form → (left : Bool) → found s form left ≡ flow_form form left
  form_flow s (Call callee args results) e left =
      ap₂ mk (called_after (called_action program callee) left) (or-false (stmt_late program s left) ∙ first_late s (Call callee args results) e left)
    where
      mk : Bool → Bool → Flow
      mk x y = record { after = x; bad = y }
  form_flow s (If test first second) e left =
      let a = passed_all program first left in
      let b = passed_all program second left in
      with_bad (a.after || b.after) _ _
      (ap (λ (x : Bool). x || any_late (statements_of first ++ statements_of second) (a.befores ++ b.befores)) (first_late s (If test first second) e left)
      ∙ late_joined (statements_of first) (statements_of second) a.befores b.befores (body_phased program first left))
  form_flow s (While test body) e left = with_bad _ _ _ (ap (λ (x : Bool). x || (flow_list body (left || (flow_list body false).after)).bad) (first_late s (While test body) e left))
  form_flow s (RankLoop test rank inv body) e left = with_bad _ _ _ (ap (λ (x : Bool). x || (flow_list body (left || (flow_list body false).after)).bad) (first_late s (RankLoop test rank inv body) e left))
  form_flow s (YieldLoop test inv body) e left = with_bad _ _ _ (ap (λ (x : Bool). x || (flow_list body false).bad) (first_late s (YieldLoop test inv body) e left))
  form_flow s (Yield inv) e left = with_bad _ _ _ (ap (λ (x : Bool). x || false) (first_late s (Yield inv) e left))
  form_flow s form e left = with_bad _ _ _ (ap (λ (x : Bool). x || false) (first_late s form e left))

  pub flow_is : (s : Stmt) (left : Bool) → flow s left ≡ flow_form (out-Stmt s) left
  flow_is s left = flow_found s left ∙ form_flow s (out-Stmt s) refl left
