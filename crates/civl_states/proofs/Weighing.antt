-- The least that expressions and actions weigh, and bits of sorts.
use Rattle.std.specs.Prelude.{IsTrue}
use Rattle.std.proofs.Common.{◌≡◌, ◌∙◌, ℕ, ◌^◌, ◌≤◌, sym, ap, subst, arith}
use Rattle.std.proofs.lemmas.Nat.{mul-le, pow_pos}
use Rattle.std.proofs.lemmas.Bool.{and_parts, leb-true}
use Rattle.civl_tree.specs.declared.expr.Expr.{Expr, map-Expr}
use Rattle.civl_tree.specs.declared.expr.Expr.TheFolds.{para-roll-Expr, ind-Expr}
use Rattle.civl_tree.specs.declared.expr.Expr.TheOpen as expr
use Rattle.civl_tree.specs.declared.expr.Sort.{Sort}
use Rattle.civl_tree.specs.declared.expr.Sort.TheVariants.{Bool as Truth, Word, Row}
use Rattle.civl_tree.specs.declared.action.Action.{Action}
use Rattle.civl_tree.specs.declared.program.Program.{Program}
use Rattle.civl_tree.specs.rules.Scopes.{Scope}
use Rattle.civl_tree.specs.rules.Exprs.{is_index, is_width}
use Rattle.civl_tree.specs.rules.StoreSize.{bits_of}
use Rattle.civl_firing.specs.values.Values.{is_sort}
use Rattle.civl_firing.specs.values.Weights.{weight_of, weight_step}
use Rattle.civl_firing.specs.values.ActionWeights.{gate_weight, guard_weight}

-- ---- expressions

module _ (scope : Scope) where
  abbrev Weighs : Expr → Type 0
  Weighs e = 1 ≤ weight_of scope e

  form_weighs : {A : Type 0} (y : expr.Expr-F A) (v : A → Expr) (h : (x : A) → Weighs (v x)) → 1 ≤ weight_step scope (map-Expr Expr (Expr × ℕ) (λ e. (e, weight_of scope e)) (map-Expr A Expr v y))
  form_weighs (expr.One op a) v h = omega (arith, h a)
  form_weighs (expr.Two op a b) v h = omega (arith, h a)
  form_weighs (expr.Pick c a b) v h = omega (arith, h a)
  form_weighs (expr.Get a b) v h = omega (arith, h a)
  form_weighs (expr.Set c a b) v h = omega (arith, h a)
  form_weighs (expr.Fill i a) v h = omega arith
  form_weighs (expr.Slice a i j) v h = omega arith
  form_weighs (expr.Widen a w) v h = omega arith
  form_weighs (expr.Join a b) v h = omega arith
  form_weighs _ v h = omega arith

  -- an expression weighs something
  pub weighs_some : (e : Expr) → 1 ≤ weight_of scope e
  weighs_some e =
      ind-Expr Weighs (λ x y q.
      let is : weight_of scope _ ≡ weight_step scope (map-Expr Expr (Expr × ℕ) (λ e. (e, weight_of scope e)) (map-Expr _ Expr (λ z. z.0) y)) =
      para-roll-Expr ℕ (weight_step scope) x ∙ ap (λ (d : expr.Expr-F Expr). weight_step scope (map-Expr Expr (Expr × ℕ) (λ e. (e, weight_of scope e)) d)) (sym q) in
      subst (λ n. 1 ≤ n) (sym is) (form_weighs y (λ z. z.0) (λ z. z.1))) e

-- ---- sorts

-- a sort within the limits has some bits
pub bits_some : (s : Sort) → IsTrue (is_sort s) → 1 ≤ bits_of s
bits_some Truth e = omega arith
bits_some (Word w) e = leb-true 1 w (and_parts _ _ e).0
bits_some (Row i w) e =
    let wide = leb-true 1 w (and_parts _ _ (and_parts (is_index i) (is_width w) e).1).0 in
    omega (arith, mul-le 1 1 w (2 ^ i) wide (pow_pos i))

-- ---- actions

pub gate_weighs : (program : Program) (a : Action) → 1 ≤ gate_weight program a
gate_weighs program a = weighs_some _ a.gate

pub guard_weighs : (program : Program) (a : Action) → 1 ≤ guard_weight program a
guard_weighs program a = weighs_some _ a.guard
