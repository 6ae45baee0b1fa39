-- From decided goals to what is found of an outline.
use Rattle.std.specs.Prelude.{slice_get, get_or, nat_lt}
use Rattle.std.specs.List.{find}
use Rattle.std.proofs.Common.{◌≡◌, ◌∙◌, ℕ, zero, suc, ◌+◌, ◌<◌, ◌≤◌, Bool, true, false, List, [], ◌∷◌, length, refl, sym, ap, subst, arith, inl, inr, Some, None}
use Rattle.std.proofs.lemmas.Bool.{cases_lt, ltb-false}
use Rattle.std.proofs.lemmas.Option.{same_Some, none-some, slice_get-get_or}
use Rattle.civl_bits.specs.declared.value.Value.{Value}
use Rattle.civl_tree.specs.declared.program.Program.{Program}
use Rattle.civl_outlines.specs.declared.outline.Outline.{Outline}
use Rattle.civl_conditions.specs.Weights.{weight_limit}
use Rattle.civl_goals.specs.declared.goal.Goal.{Goal}
use Rattle.civl_goals.specs.Listed.{goals}
use Rattle.civl_goals.specs.Weights.{weight, heavy}
use Rattle.civl_verdicts.specs.decisions.Decided.{IsDecided}
use Rattle.civl_verdicts.specs.declared.decisions.decision.Decision.TheVariants.{At}
use Rattle.civl_goals.specs.GoalHolds.{GoalHolds}
use Rattle.civl_prove.specs.Proved.{goal_formula, GoalFails, HoldUpTo, IsReached}

module _ (program : Program) (outline : Outline) where
  -- ---- the goals before a place hold

  pub none_before : HoldUpTo program outline 0
  none_before i goal l e = absurd (omega arith)

  pub one_more : (place : ℕ) (goal : Goal) → HoldUpTo program outline place → slice_get (goals program outline) place ≡ Some goal → GoalHolds program outline goal → HoldUpTo program outline (place + 1)
  one_more place goal before here holds i other l e = elim (cases_lt i place) [
    | inl low ↦ before i other low e
    | inr high ↦
        let same : i ≡ place = omega arith in
        subst (GoalHolds program outline) (same_Some goal other (sym here ∙ ap (slice_get (goals program outline)) (sym same) ∙ e)) holds
  ]

  pub up_to : (m n : ℕ) → n ≤ m → HoldUpTo program outline m → HoldUpTo program outline n
  up_to m n l h i goal b e = h i goal (omega (arith, l, b)) e

  -- ---- the goal at a place of the list

  module _ (list : List Goal) (i : ℕ) (d : Goal) (same : list ≡ goals program outline) (l : i < length list) where
    pub here_in : slice_get (goals program outline) i ≡ Some (get_or list i d)
    here_in = ap (λ (gs : List Goal). slice_get gs i) (sym same) ∙ slice_get-get_or list i d l

    pub reached : HoldUpTo program outline i → IsReached program outline (get_or list i d) i
    reached before = record { there = here_in; before = before }

  pub fails : (budget : ℕ) (goal : Goal) (values : List Value) → IsDecided budget (goal_formula program outline goal) (At values) → GoalFails program outline goal values
  fails budget goal values h = record { fit = h.0; fail = h.1 }

  -- ---- where no goal is heavy each is light

  not_found : (p : Goal → Bool) (gs : List Goal) → find p gs ≡ None → (i : ℕ) (goal : Goal) → slice_get gs i ≡ Some goal → p goal ≡ false
  not_found p [] h i goal e = absurd (none-some goal e)
  not_found p (g ∷ gs) h i goal e = by (p g) refl (λ q k f. not_found p gs q k goal f) i e
    where
      by : (b : Bool) → p g ≡ b → (find p gs ≡ None → (k : ℕ) → slice_get gs k ≡ Some goal → p goal ≡ false) → (k : ℕ) → slice_get (g ∷ gs) k ≡ Some goal → p goal ≡ false
      by true q rest k f = absurd (none-some g (sym h ∙ (rw q refl)))
      by false q rest zero f = ap p (sym (same_Some g goal f)) ∙ q
      by false q rest (suc k) f = rest (sym (rw q refl) ∙ h) k f

  pub goals_are_light : heavy program outline ≡ None → (i : ℕ) (goal : Goal) → slice_get (goals program outline) i ≡ Some goal → weight program outline goal ≤ weight_limit
  goals_are_light h i goal e = ltb-false weight_limit (weight program outline goal) (not_found (λ g. nat_lt weight_limit (weight program outline g)) (goals program outline) h i goal e)
