-- Where statements lead: a note at one of two places, what the notes at both weigh, and the conditions of branches.
use Rattle.std.specs.Prelude.{if◌then◌else◌, nat_eq}
use Rattle.std.proofs.Common.{◌≡◌, ℕ, ◌+◌, Bool, true, false, List, [], ◌∷◌, refl, ap, subst, arith, Option, Some, None}
use Rattle.std.proofs.lemmas.Bool.{eq-eqb, eqb-true}
use Rattle.civl_tree.specs.declared.expr.Expr.{Expr}
use Rattle.civl_tree.specs.declared.expr.Sort.TheVariants.{Bool as Truth}
use Rattle.civl_tree.specs.declared.stmt.Stmt.{Stmt, out-Stmt}
use Rattle.civl_tree.specs.declared.stmt.Stmt.TheOpen.{Stmt-F, If, While, YieldLoop, RankLoop}
use Rattle.civl_tree.specs.declared.program.Program.{Program}
use Rattle.civl_tree.specs.rules.Scopes.{body_scope}
use Rattle.civl_firing.specs.values.Values.{is_true}
use Rattle.civl_firing.specs.Eval.{value_of}
use Rattle.civl_firing.specs.Scope.{frame_values}
use Rattle.civl_layers.specs.Layered.{IsLayered}
use Rattle.civl_terms.specs.declared.node.Node.{Node}
use Rattle.civl_terms.specs.Building.{Grows}
use Rattle.civl_conditions.specs.Weights.{body_weight}
use Rattle.civl_states.specs.formula_parts.Said.{Env, IsTest}
use Rattle.civl_states.proofs.formula_parts.Saying.{test_where}
use Rattle.civl_moves.specs.Expressions.{IsBodyTerm}
use Rattle.civl_moves.specs.States.{Suits}
use Rattle.civl_body.proofs.Typed.{first_suits, form_kept}
use Rattle.civl_goals.specs.Weights.{form_weight, form_reaches, once, summed_at}
use Rattle.civl_goal_terms.specs.declared.places.At.{At}
use Rattle.civl_goal_terms.specs.declared.settings.Setting.{Setting}
use Rattle.civl_goal_terms.specs.inner.Places.{IsAt, fork_in}
use Rattle.civl_goal_terms.specs.inner.Settings.{Here, SaysHere}

-- ---- one of two places

pub same_place : {A : Type 0} (f : ℕ → A) (b : Bool) (m n : ℕ) → m ≡ n → f m ≡ f (if b then m else n)
same_place f true m n e = refl
same_place f false m n e = ap f e

pub either_place : {A : Type 0} (f : ℕ → A) (b : Bool) (m n : ℕ) → (if b then f m else f n) ≡ f (if b then m else n)
either_place f true m n = refl
either_place f false m n = refl

module _ (f : ℕ → ℕ) (m n : ℕ) where
  pub once_alike : m ≡ n → summed_at f (once m n) ≡ f m
  once_alike e =
      let one : summed_at f (once m n) ≡ f m + 0 = rw (eq-eqb m n e) refl in
      omega (arith, one)

  pub once_apart : (m ≡ n → ⊥) → summed_at f (once m n) ≡ f m + f n
  once_apart d =
      let two : summed_at f (once m n) ≡ f m + (f n + 0) = by (nat_eq m n) refl in
      omega (arith, two)
    where
      by : (b : Bool) → nat_eq m n ≡ b → summed_at f (once m n) ≡ f m + (f n + 0)
      by true e = absurd (d (eqb-true m n e))
      by false e = rw (e) refl

-- ---- branches

module _ (program : Program) (layered : IsLayered program) (at : At) (is : IsAt program at) where
  abbrev Forks : (Expr → ℕ → ℕ → Type 0) → Option (Expr × (ℕ × ℕ)) → Type 0
  Forks P None = Unit {0}
  Forks P (Some f) = P f.0 f.1.0 f.1.1

  abbrev IsCondition : Expr → ℕ → ℕ → Type 0
  IsCondition e to other = Suits (body_scope program at.proc.now) e (Some Truth)

  suits_form : (d : Stmt-F Stmt) → out-Stmt at.stmt.now ≡ d → Forks IsCondition (fork_in at.number at.next d)
  suits_form (If e a b) o = first_suits _ e (Some Truth) _ (form_kept program layered.rules at.proc.now (at.root, is.proc) at.number at.stmt.now _ is.stmt o)
  suits_form (While e a) o = first_suits _ e (Some Truth) _ (form_kept program layered.rules at.proc.now (at.root, is.proc) at.number at.stmt.now _ is.stmt o)
  suits_form (YieldLoop e i a) o = first_suits _ e (Some Truth) _ (form_kept program layered.rules at.proc.now (at.root, is.proc) at.number at.stmt.now _ is.stmt o)
  suits_form (RankLoop e r i a) o = first_suits _ e (Some Truth) _ (form_kept program layered.rules at.proc.now (at.root, is.proc) at.number at.stmt.now _ is.stmt o)
  suits_form _ o = tt

  abbrev weighs_form : Stmt-F Stmt → Expr → ℕ → ℕ → Type 0
  weighs_form d e to other = (form_weight program at.proc.now d ≡ body_weight program at.proc.now e) × (form_reaches at.number at.next d ≡ once to other)

  weights_form : (d : Stmt-F Stmt) → Forks (weighs_form d) (fork_in at.number at.next d)
  weights_form (If e a b) = (refl, refl)
  weights_form (While e a) = (refl, refl)
  weights_form (YieldLoop e i a) = (refl, refl)
  weights_form (RankLoop e r i a) = (refl, refl)
  weights_form _ = tt

  reaches_form : (d : Stmt-F Stmt) → fork_in at.number at.next d ≡ None → form_reaches at.number at.next d ≡ at.next ∷ []
  reaches_form (If e a b) h = absurd (cc)
  reaches_form (While e a) h = absurd (cc)
  reaches_form (YieldLoop e i a) h = absurd (cc)
  reaches_form (RankLoop e r i a) h = absurd (cc)
  reaches_form _ h = refl

  pub reaches_next : (f : ℕ → ℕ) → fork_in at.number at.next (out-Stmt at.stmt.now) ≡ None → summed_at f (form_reaches at.number at.next (out-Stmt at.stmt.now)) ≡ f at.next
  reaches_next f h =
      let one : summed_at f (form_reaches at.number at.next (out-Stmt at.stmt.now)) ≡ f at.next + 0 = ap (summed_at f) (reaches_form (out-Stmt at.stmt.now) h) in
      omega (arith, one)

  module _ (e : Expr) (to other : ℕ) (h : fork_in at.number at.next (out-Stmt at.stmt.now) ≡ Some (e, (to, other))) where
    pub fork_suits : Suits (body_scope program at.proc.now) e (Some Truth)
    fork_suits = subst (Forks IsCondition) h (suits_form (out-Stmt at.stmt.now) refl)

    pub fork_weighs : (form_weight program at.proc.now (out-Stmt at.stmt.now) ≡ body_weight program at.proc.now e) × (form_reaches at.number at.next (out-Stmt at.stmt.now) ≡ once to other)
    fork_weighs = subst (Forks (weighs_form (out-Stmt at.stmt.now))) h (weights_form (out-Stmt at.stmt.now))

    -- the term of its condition says whether it is true
    pub fork_tells : (old new : List Node) (setting : Setting) (id : ℕ) (here : Env → Here) → Grows old new → IsBodyTerm old new program at.proc.now setting.locals e id → SaysHere old program at setting here
        → IsTest new id (λ env. is_true (value_of (frame_values program.globals at.proc.now (here env).locals) e))
    fork_tells old new setting id here grows t s =
        test_where new id _ _ (λ env fits. ap (λ vs. is_true (value_of (frame_values program.globals at.proc.now vs) e)) (s.locals.are env (grows.fits env fits))) (t.test (fork_suits.sorted Truth refl))
