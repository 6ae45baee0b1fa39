-- An expression has one value in two scopes that agree on the names that it uses.
use Rattle.std.proofs.Common.{◌≡◌, Bool, false, ◌||◌, refl, sym, ap, ◌∙◌}
use Rattle.std.proofs.lemmas.Bool.{or_parts}
use Rattle.civl_bits.specs.declared.value.Value.{Value}
use Rattle.civl_bits.specs.declared.value.Value.TheVariants as value
use Rattle.civl_tree.specs.declared.name.Name.{Name}
use Rattle.civl_tree.specs.declared.expr.Expr.{Expr, map-Expr}
use Rattle.civl_tree.specs.declared.expr.Expr.TheFolds.{fold-roll-Expr, ind-Expr}
use Rattle.civl_tree.specs.declared.expr.Expr.TheOpen as expr
use Rattle.civl_firing.specs.values.Operators.{one_value, two_value, pick_value, get_value, set_value, fill_value, slice_value, widen_value, join_value}
use Rattle.civl_firing.specs.declared.scope.Scope.{Scope}
use Rattle.civl_firing.specs.Eval.{value_of, value_step}
use Rattle.civl_layers.specs.Names.{uses, use_step}
use Rattle.civl_conditions.specs.footprints.Agreement.{AgreeBut}

module _ (others : Name → Bool) (s t : Scope) (agree : AgreeBut others s t) where
  abbrev Agrees : Expr → Type 0
  Agrees e = uses others e ≡ false → value_of s e ≡ value_of t e

  form_agrees : {A : Type 0} (y : expr.Expr-F A) (v : A → Expr) (h : (x : A) → Agrees (v x)) → use_step others (map-Expr Expr Bool (uses others) (map-Expr A Expr v y)) ≡ false →
      value_step s (map-Expr Expr Value (value_of s) (map-Expr A Expr v y)) ≡ value_step t (map-Expr Expr Value (value_of t) (map-Expr A Expr v y))
  form_agrees (expr.Name n) v h p = agree.values n p
  form_agrees (expr.Old n) v h p = agree.old n p
  form_agrees expr.Done v h p = ap (λ (b : Bool). value.Bool b) agree.done
  form_agrees expr.OldDone v h p = ap (λ (b : Bool). value.Bool b) agree.old_done
  form_agrees (expr.One op a) v h p = ap (one_value op) (h a p)
  form_agrees (expr.Two op a b) v h p =
      let q = or_parts (uses others (v a)) (uses others (v b)) p in
      ap (λ (x : Value). two_value op x (value_of s (v b))) (h a q.0) ∙ ap (two_value op (value_of t (v a))) (h b q.1)
  form_agrees (expr.Pick c a b) v h p =
      let q = or_parts (uses others (v c)) (uses others (v a) || uses others (v b)) p in
      let r = or_parts (uses others (v a)) (uses others (v b)) q.1 in
      ap (λ (x : Value). pick_value x (value_of s (v a)) (value_of s (v b))) (h c q.0)
      ∙ ap (λ (x : Value). pick_value (value_of t (v c)) x (value_of s (v b))) (h a r.0)
      ∙ ap (pick_value (value_of t (v c)) (value_of t (v a))) (h b r.1)
  form_agrees (expr.Get a b) v h p =
      let q = or_parts (uses others (v a)) (uses others (v b)) p in
      ap (λ (x : Value). get_value x (value_of s (v b))) (h a q.0) ∙ ap (get_value (value_of t (v a))) (h b q.1)
  form_agrees (expr.Set a b c) v h p =
      let q = or_parts (uses others (v a)) (uses others (v b) || uses others (v c)) p in
      let r = or_parts (uses others (v b)) (uses others (v c)) q.1 in
      ap (λ (x : Value). set_value x (value_of s (v b)) (value_of s (v c))) (h a q.0)
      ∙ ap (λ (x : Value). set_value (value_of t (v a)) x (value_of s (v c))) (h b r.0)
      ∙ ap (set_value (value_of t (v a)) (value_of t (v b))) (h c r.1)
  form_agrees (expr.Fill i a) v h p = ap (fill_value i) (h a p)
  form_agrees (expr.Slice a i j) v h p = ap (λ (x : Value). slice_value x i j) (h a p)
  form_agrees (expr.Widen a w) v h p = ap (λ (x : Value). widen_value x w) (h a p)
  form_agrees (expr.Join a b) v h p =
      let q = or_parts (uses others (v a)) (uses others (v b)) p in
      ap (λ (x : Value). join_value x (value_of s (v b))) (h a q.0) ∙ ap (join_value (value_of t (v a))) (h b q.1)
  form_agrees _ v h p = refl

  pub one_value_in : (e : Expr) → uses others e ≡ false → value_of s e ≡ value_of t e
  one_value_in e =
      ind-Expr Agrees (λ x y q p.
      fold-roll-Expr Value (value_step s) x
      ∙ ap (λ (d : expr.Expr-F Expr). value_step s (map-Expr Expr Value (value_of s) d)) (sym q)
      ∙ form_agrees y (λ z. z.0) (λ z. z.1) (ap (λ (d : expr.Expr-F Expr). use_step others (map-Expr Expr Bool (uses others) d)) q ∙ (sym (fold-roll-Expr Bool (use_step others) x) ∙ p))
      ∙ ap (λ (d : expr.Expr-F Expr). value_step t (map-Expr Expr Value (value_of t) d)) q
      ∙ sym (fold-roll-Expr Value (value_step t) x)) e
