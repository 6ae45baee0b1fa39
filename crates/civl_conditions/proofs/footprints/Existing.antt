-- What exists in a layer uses what exists there.
use Rattle.std.proofs.Common.{◌≡◌, ◌≤◌, ◌<◌, ℕ, Bool, true, false, not, ◌||◌, ◌&&◌, List, [], ◌∷◌, Option, Some, None, find, refl, sym, ap, ◌∙◌, arith}
use Rattle.std.specs.Prelude.{IsTrue, slice_get, nat_le, nat_lt}
use Rattle.std.specs.List.{Contains, list_any}
use Rattle.std.proofs.lemmas.Bool.{or_parts, or_from, and_parts, and_from, not-false, leb-true, le-leb, ltb-true}
use Rattle.civl_tree.specs.declared.name.Name.{Name}
use Rattle.civl_tree.specs.declared.expr.Expr.{Expr, map-Expr}
use Rattle.civl_tree.specs.declared.expr.Expr.TheFolds.{fold-roll-Expr, ind-Expr}
use Rattle.civl_tree.specs.declared.expr.Expr.TheOpen as expr
use Rattle.civl_tree.specs.declared.action.Action.{Action}
use Rattle.civl_tree.specs.declared.action.Choice.{Choice}
use Rattle.civl_tree.specs.declared.action.Update.{Update}
use Rattle.civl_tree.specs.declared.program.Global.{Global}
use Rattle.civl_tree.specs.declared.program.Program.{Program}
use Rattle.civl_tree.specs.rules.Names.{same_name}
use Rattle.civl_tree.proofs.Kept.{action_kept}
use Rattle.civl_layers.specs.Ranges.{Range, exists_in, exists_through}
use Rattle.civl_layers.specs.Names.{uses, use_step, global_range, action_range}
use Rattle.civl_layers.specs.Hidden.{hidden_through, hidden_in_action}
use Rattle.civl_layers.specs.LayerRules.{layer_rules, hidden_rule}
use Rattle.civl_layers.specs.Layered.{IsLayered}
use Rattle.civl_conditions.specs.footprints.Agreement.{fails_test, names_other, action_uses, exists_at}

-- ---- fewer names

module _ (more fewer : Name → Bool) (less : (n : Name) → more n ≡ false → fewer n ≡ false) where
  abbrev Less : Expr → Type 0
  Less e = uses more e ≡ false → uses fewer e ≡ false

  either : {A : Type 0} (a b : A) (v : A → Expr) (h : (x : A) → Less (v x)) → (uses more (v a) || uses more (v b)) ≡ false → (uses fewer (v a) || uses fewer (v b)) ≡ false
  either a b v h p =
      let q = or_parts (uses more (v a)) (uses more (v b)) p in
      or_from (uses fewer (v a)) (uses fewer (v b)) (h a q.0) (h b q.1)

  form_less : {A : Type 0} (y : expr.Expr-F A) (v : A → Expr) (h : (x : A) → Less (v x)) → use_step more (map-Expr Expr Bool (uses more) (map-Expr A Expr v y)) ≡ false →
      use_step fewer (map-Expr Expr Bool (uses fewer) (map-Expr A Expr v y)) ≡ false
  form_less (expr.Name n) v h p = less n p
  form_less (expr.Old n) v h p = less n p
  form_less (expr.One op a) v h p = h a p
  form_less (expr.Two op a b) v h p = either a b v h p
  form_less (expr.Pick c a b) v h p =
      let q = or_parts (uses more (v c)) (uses more (v a) || uses more (v b)) p in
      or_from (uses fewer (v c)) (uses fewer (v a) || uses fewer (v b)) (h c q.0) (either a b v h q.1)
  form_less (expr.Get a b) v h p = either a b v h p
  form_less (expr.Set c a b) v h p =
      let q = or_parts (uses more (v c)) (uses more (v a) || uses more (v b)) p in
      or_from (uses fewer (v c)) (uses fewer (v a) || uses fewer (v b)) (h c q.0) (either a b v h q.1)
  form_less (expr.Fill i a) v h p = h a p
  form_less (expr.Slice a i j) v h p = h a p
  form_less (expr.Widen a w) v h p = h a p
  form_less (expr.Join a b) v h p = either a b v h p
  form_less _ v h p = refl

  pub uses_less : (e : Expr) → uses more e ≡ false → uses fewer e ≡ false
  uses_less e =
      ind-Expr Less (λ x y q p.
      fold-roll-Expr Bool (use_step fewer) x
      ∙ ap (λ (d : expr.Expr-F Expr). use_step fewer (map-Expr Expr Bool (uses fewer) d)) (sym q)
      ∙ form_less y (λ z. z.0) (λ z. z.1) (ap (λ (d : expr.Expr-F Expr). use_step more (map-Expr Expr Bool (uses more) d)) q ∙ (sym (fold-roll-Expr Bool (use_step more) x) ∙ p))) e

  any_less : {A : Type 0} (f g : A → Bool) → ((x : A) → f x ≡ false → g x ≡ false) → (xs : List A) → list_any f xs ≡ false → list_any g xs ≡ false
  any_less f g each [] h = refl
  any_less f g each (x ∷ xs) h = let p = or_parts (f x) (list_any f xs) h in or_from (g x) (list_any g xs) (each x p.0) (any_less f g each xs p.1)

  pub action_uses_less : (a : Action) → action_uses more a ≡ false → action_uses fewer a ≡ false
  action_uses_less a h =
      let p = or_parts _ _ h in
      let q = or_parts _ _ p.1 in
      let r = or_parts _ _ q.1 in
      or_from _ _ (any_less (λ (c : Choice). uses more c.offer) (λ c. uses fewer c.offer) (λ c. uses_less c.offer) a.choices p.0)
      (or_from _ _ (uses_less a.gate q.0)
      (or_from _ _ (uses_less a.guard r.0)
      (any_less (λ (u : Update). more u.target || uses more u.expr) (λ u. fewer u.target || uses fewer u.expr)
      (λ u k. let t = or_parts (more u.target) (uses more u.expr) k in or_from (fewer u.target) (uses fewer u.expr) (less u.target t.0) (uses_less u.expr t.1)) a.updates r.1)))

-- ---- layers

-- a range that has all layers of another has each of them
pub through_in : (layer : ℕ) (r outer : Range) → IsTrue (exists_in layer r) → exists_through r.first r.last outer ≡ true → exists_in layer outer ≡ true
through_in layer r outer h e = by_order (nat_lt r.last r.first) refl e
  where
    in_r : (nat_le r.first layer ≡ true) × (nat_le layer r.last ≡ true)
    in_r = and_parts (nat_le r.first layer) (nat_le layer r.last) h

    from : r.first ≤ layer
    from = leb-true r.first layer in_r.0

    to : layer ≤ r.last
    to = leb-true layer r.last in_r.1

    by_order : (b : Bool) → nat_lt r.last r.first ≡ b → (b || (nat_le outer.first r.first && nat_le r.last outer.last)) ≡ true → exists_in layer outer ≡ true
    by_order true q k = let w : r.last < r.first = ltb-true r.last r.first q in absurd (omega (arith, w, from, to))
    by_order false q k =
        let p = and_parts (nat_le outer.first r.first) (nat_le r.last outer.last) k in
        let low : outer.first ≤ layer = omega (arith, leb-true outer.first r.first p.0, from) in
        let high : layer ≤ outer.last = omega (arith, leb-true r.last outer.last p.1, to) in
        and_from (nat_le outer.first layer) (nat_le layer outer.last) (le-leb outer.first layer low) (le-leb layer outer.last high)

hidden_less : (program : Program) (action : Action) (layer : ℕ) → IsTrue (exists_in layer (action_range action)) → (n : Name) → hidden_in_action program action n ≡ false → names_other (exists_at layer) program.globals n ≡ false
hidden_less program action layer h n = by_global (find (λ global. same_name n global.name) program.globals)
  where
    by_global : (o : Option Global) → hidden_through action.first action.last o ≡ false → fails_test (exists_at layer) o ≡ false
    by_global None e = refl
    by_global (Some g) e = ap not (through_in layer (action_range action) (global_range g) h (not-false (exists_through action.first action.last (global_range g)) e))

hidden_among : Contains layer_rules hidden_rule
hidden_among = (1, omega arith, refl)

pub uses_what_exists : (program : Program) (place layer : ℕ) (action : Action) → IsLayered program → slice_get program.actions place ≡ Some action → IsTrue (exists_in layer (action_range action)) →
    action_uses (names_other (exists_at layer) program.globals) action ≡ false
uses_what_exists program place layer action layered at h =
    action_uses_less (hidden_in_action program action) (names_other (exists_at layer) program.globals) (hidden_less program action layer h) action
    (action_kept layer_rules program layered.layers hidden_rule hidden_among place action at)
