-- The goals of the flag program whose root calls an action with the flag as its gate.
use Rattle.std.proofs.Common.{◌≡◌, Bool, true, false, List, [], ◌∷◌, map, refl, sym, ap, ◌∙◌, subst, inl, inr}
use Rattle.std.specs.List.{Contains}
use Rattle.std.proofs.lemmas.Bool.{false≢true, true≢false}
use Rattle.civl_bits.specs.declared.value.Value.{Value}
use Rattle.civl_bits.specs.declared.value.Value.TheVariants as value
use Rattle.civl_firing.specs.values.Values.{HaveSorts}
use Rattle.civl_tree.specs.declared.expr.Expr.{the_lemmas as of_expr}
use Rattle.civl_tree.specs.declared.expr.Sort.TheVariants as sort
use Rattle.civl_tree.specs.rules.Rules.{each_place, numbers_where}
use Rattle.civl_tree.proofs.Layers.{layers}
use Rattle.civl_tree.proofs.Pairs.{contains_nil, contains_here, contains_there, contains_cons}
use Rattle.civl_firing.specs.Fired.{gate_holds, fires, fired}
use Rattle.civl_firing.proofs.Having.{no_sorts, more_sorts}
use Rattle.civl_goals.specs.declared.goal.Goal.{Goal}
use Rattle.civl_goals.specs.declared.goal.Goal.TheVariants as goal
use Rattle.civl_goals.specs.Variables.{variables}
use Rattle.civl_goals.specs.Listed.{goals}
use Rattle.civl_goals.specs.Failed.{failed}
use Rattle.civl_goals.specs.Rules.{unfit, descending}
use Rattle.civl_goals.specs.GoalHolds.{GoalHolds}
use Rattle.civl_safety.specs.examples.Held.{gated, held, silent, HeldIsOutlined, SilentIsNot}

abbrev all : List Goal
all = goal.Invariant ∷ goal.Thread 0 ∷ goal.Safe 1 0 ∷ goal.Keep 1 0 ∷ goal.Next 1 0 ∷ []

held_goals : goals gated held ≡ all
unfolding goals
held_goals = simp layers

silent_goals : goals gated silent ≡ all
unfolding goals
silent_goals = simp layers

held_fits : unfit gated held ≡ []
held_fits = simp (layers, of_expr)

flat : descending gated ≡ []
unfolding each_place numbers_where
flat = simp layers

-- ---- variables: the flag

abbrev Flagged : Goal → Type 0
Flagged x = map (λ v. v.sort) (variables gated x) ≡ sort.Bool ∷ []

invariant_flagged : Flagged goal.Invariant
unfolding variables
invariant_flagged = refl

thread_flagged : Flagged (goal.Thread 0)
unfolding variables
thread_flagged = refl

safe_flagged : Flagged (goal.Safe 1 0)
unfolding variables
safe_flagged = simp layers

keep_flagged : Flagged (goal.Keep 1 0)
unfolding variables
keep_flagged = simp layers

next_flagged : Flagged (goal.Next 1 0)
unfolding variables
next_flagged = simp layers

pub one_bool : (values : List Value) → HaveSorts values (sort.Bool ∷ []) → (b : Bool) × (values ≡ value.Bool b ∷ [])
one_bool [] h = absurd (false≢true h.are)
one_bool (value.Bool b ∷ []) h = (b, refl)
one_bool (value.Bool b ∷ (w ∷ ws)) h = absurd (false≢true h.are)
one_bool (value.Word a ∷ ws) h = absurd (false≢true h.are)
one_bool (value.Row r ∷ ws) h = absurd (false≢true h.are)

-- ---- what violates the goals

abbrev Never : Goal → Type 0
Never x = (b : Bool) → failed gated held x (value.Bool b ∷ []) ≡ false

never_invariant : Never goal.Invariant
unfolding failed
never_invariant true = simp (layers, of_expr)
never_invariant false = simp (layers, of_expr)

never_thread : Never (goal.Thread 0)
unfolding failed
never_thread true = simp (layers, of_expr)
never_thread false = simp (layers, of_expr)

never_safe : Never (goal.Safe 1 0)
unfolding failed gate_holds fires fired
never_safe true = simp (layers, of_expr)
never_safe false = simp (layers, of_expr)

never_keep : Never (goal.Keep 1 0)
unfolding failed gate_holds fires fired
never_keep true = simp (layers, of_expr)
never_keep false = simp (layers, of_expr)

never_next : Never (goal.Next 1 0)
unfolding failed gate_holds fires fired
never_next true = simp (layers, of_expr)
never_next false = simp (layers, of_expr)

holds : (x : Goal) → Flagged x → Never x → GoalHolds gated held x
holds x flagged never values fit =
    let one = one_bool values (subst (HaveSorts values) flagged fit) in
    ap (failed gated held x) one.1 ∙ never one.0

among : (P : Goal → Type 0) → P goal.Invariant → P (goal.Thread 0) → P (goal.Safe 1 0) → P (goal.Keep 1 0) → P (goal.Next 1 0) → (x : Goal) → Contains all x → P x
among P a b c d e x h = elim (contains_cons goal.Invariant (goal.Thread 0 ∷ goal.Safe 1 0 ∷ goal.Keep 1 0 ∷ goal.Next 1 0 ∷ []) x h) [
  | inl q ↦ subst P q a
  | inr h ↦ elim (contains_cons (goal.Thread 0) (goal.Safe 1 0 ∷ goal.Keep 1 0 ∷ goal.Next 1 0 ∷ []) x h) [
    | inl q ↦ subst P q b
    | inr h ↦ elim (contains_cons (goal.Safe 1 0) (goal.Keep 1 0 ∷ goal.Next 1 0 ∷ []) x h) [
      | inl q ↦ subst P q c
      | inr h ↦ elim (contains_cons (goal.Keep 1 0) (goal.Next 1 0 ∷ []) x h) [
        | inl q ↦ subst P q d
        | inr h ↦ elim (contains_cons (goal.Next 1 0) [] x h) [ inl q ↦ subst P q e | inr h ↦ absurd (contains_nil x h) ]
      ]
    ]
  ]
]

pub held_is_outlined : HeldIsOutlined
held_is_outlined = record {
  fits = held_fits;
  flat = flat;
  hold = λ x there.
      among (GoalHolds gated held) (holds goal.Invariant invariant_flagged never_invariant) (holds (goal.Thread 0) thread_flagged never_thread) (holds (goal.Safe 1 0) safe_flagged never_safe)
      (holds (goal.Keep 1 0) keep_flagged never_keep) (holds (goal.Next 1 0) next_flagged never_next) x (subst (λ (l : List Goal). Contains l x) held_goals there);
}

-- ---- the outline that says nothing

safe_fails : failed gated silent (goal.Safe 1 0) (value.Bool false ∷ []) ≡ true
unfolding failed gate_holds fires fired
safe_fails = simp (layers, of_expr)

pub silent_is_not : SilentIsNot
silent_is_not o =
    let there = contains_there goal.Invariant (goal.Thread 0 ∷ goal.Safe 1 0 ∷ goal.Keep 1 0 ∷ goal.Next 1 0 ∷ []) (goal.Safe 1 0) (contains_there (goal.Thread 0) (goal.Safe 1 0 ∷ goal.Keep 1 0 ∷ goal.Next 1 0 ∷ []) (goal.Safe 1 0) (contains_here (goal.Safe 1 0) (goal.Keep 1 0 ∷ goal.Next 1 0 ∷ []))) in
    let fit = subst (HaveSorts (value.Bool false ∷ [])) (sym safe_flagged) (more_sorts (value.Bool false) sort.Bool [] [] (tt, refl) no_sorts) in
    true≢false (sym safe_fails ∙ o.hold (goal.Safe 1 0) (subst (λ (l : List Goal). Contains l (goal.Safe 1 0)) (sym silent_goals) there) (value.Bool false ∷ []) fit)
