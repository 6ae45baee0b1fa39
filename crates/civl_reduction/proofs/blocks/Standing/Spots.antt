-- What stands at a place of a procedure's body, with what is still to run from it on.
use Rattle.std.proofs.Common.{◌≡◌, ℕ, List, ◌∷◌, sym, ◌∙◌, subst, Some, slice_get}
use Rattle.civl_tree.specs.declared.stmt.Stmt.{Stmt}
use Rattle.civl_tree.specs.declared.program.Refines.{Refines}
use Rattle.civl_tree.specs.declared.program.Proc.{Proc}
use Rattle.civl_tree.specs.declared.program.Program.{Program}
use Rattle.civl_tree.specs.Numbering.{sizes_of, statement_at}
use Rattle.civl_tree.specs.rules.Rules.{Keeps}
use Rattle.civl_meaning.specs.Places.{Spot, spot_at}
use Rattle.civl_meaning.specs.Rest.{Rest, rest_at}
use Rattle.civl_meaning.proofs.Rests.{spot_of_rest}
use Rattle.civl_conditions.proofs.paths.Belonging.{Belongs, own_place, rest_belongs}
use Rattle.civl_conditions.proofs.paths.Standing.{begins_stands}
use Rattle.civl_yields.specs.YieldRules.{yield_rules}
use Rattle.civl_reduction.proofs.blocks.Standing.Flowing.{flow}
use Rattle.civl_reduction.proofs.blocks.Standing.Turning.{IsClean}
use Rattle.civl_reduction.proofs.blocks.Standing.Phased.{layered_clean}
use Rattle.civl_reduction.proofs.blocks.Standing.Leading.{Leads, leads, dropped}

module _ (program : Program) (body : List Stmt) (place : ℕ) (s : Spot) (at : spot_at body place ≡ Some s) where
  pub led : Leads program (sizes_of body) (rest_at body place) s
  led = leads program (sizes_of body) (rest_at body place) s (sym (spot_of_rest body place) ∙ at)

  -- what holds of a rest holds from the spot on
  from_spot : (P : Rest → Type 0) → ((q : ℕ × Stmt) (k : Rest) → P (q ∷ k) → P k) → P (rest_at body place) → P ((s.number, s.stmt) ∷ led.rest)
  from_spot P tail h = subst P led.there (dropped P tail led.past (rest_at body place) h)

  pub spot_belongs : Belongs body ((s.number, s.stmt) ∷ led.rest)
  spot_belongs = from_spot (Belongs body) (λ q k h. h.1) (rest_belongs body place)

  pub stands_there : statement_at body s.number ≡ Some s.stmt
  stands_there = begins_stands body s.number s.stmt led.rest (own_place body ((s.number, s.stmt) ∷ led.rest) spot_belongs)

pub spot_clean : (program : Program) → Keeps yield_rules program → (number : ℕ) (proc : Proc) (refines : Refines) → slice_get program.procs number ≡ Some proc → proc.refines ≡ Some refines → (place : ℕ) (s : Spot) (at : spot_at proc.body place ≡ Some s)
    → IsClean program ((s.number, s.stmt) ∷ (led program proc.body place s at).rest)
spot_clean program yields number proc refines there is place s at =
    from_spot program proc.body place s at (IsClean program) (λ q k c. ((flow program q.1 c.0).after, c.1.1)) (layered_clean program yields number proc refines there is place)
