-- What holds of each statement of a body, with its number, holds of each that a flow passes.
use Rattle.std.proofs.Common.{◌≡◌, ℕ, ◌+◌, Bool, true, false, List, [], ◌∷◌, ◌++◌, map, inl, inr, sym, ap, ◌∙◌, subst, Some, append-nil, arith}
use Rattle.std.proofs.lemmas.List.Elements.{Contains-append_cases}
use Rattle.std.specs.Prelude.{if◌then◌else◌}
use Rattle.std.specs.List.{Contains}
use Rattle.civl_tree.specs.declared.program.Proc.{Proc}
use Rattle.civl_tree.specs.declared.stmt.Stmt.{Stmt, out-Stmt, roll-Stmt, out-roll-Stmt, map-Stmt}
use Rattle.civl_tree.specs.declared.stmt.Stmt.TheOpen as stmt
use Rattle.civl_tree.specs.declared.stmt.Stmt.TheFolds.{ind-Stmt}
use Rattle.civl_tree.specs.Numbering.{size_of, sizes_of, numbered, inner_of, statements_of, statement_at}
use Rattle.civl_tree.proofs.Pairs.{contains_nil, contains_cons}
use Rattle.civl_tree.proofs.Preorder.{inner_layer, inner_is}
use Rattle.civl_meaning.specs.Rest.{Rest, rest_at}
use Rattle.civl_layers.specs.declared.cut.Cut.{Cut}
use Rattle.civl_layers.specs.declared.cut.CutKind.{CutKind}
use Rattle.civl_layers.specs.declared.cut.CutKind.TheVariants as kind
use Rattle.civl_conditions.specs.paths.Flows.{Flow, flow_then, flow, flow_all, flow_loop, flow_layer, flow_rest, flow_kind, flow_from}
use Rattle.civl_conditions.specs.paths.Choices.{PassedStandInBody}
use Rattle.civl_conditions.proofs.paths.Passing.{flow_of_layer, flow_is, flow_none, flow_more}
use Rattle.civl_conditions.proofs.paths.Each.{Each, EachIn, each_first, each_others, each_branch, each_else, each_of_layer, each_own, each_numbered, rest_each}

module _ (Holds : ℕ → Stmt → Type 0) where
  -- of each of these
  abbrev pub EachPassed : Rest → Type 0
  EachPassed passed = (q : ℕ × Stmt) → Contains passed q → Holds q.0 q.1

  none_passed : EachPassed []
  none_passed q a = absurd (contains_nil q a)

  first_passed : (x : ℕ × Stmt) (xs : Rest) → Holds x.0 x.1 → EachPassed xs → EachPassed (x ∷ xs)
  first_passed x xs h k q a = elim (contains_cons x xs q a) [ inl e ↦ subst (λ (q : ℕ × Stmt). Holds q.0 q.1) e h | inr there ↦ k q there ]

  both_passed : (xs ys : Rest) → EachPassed xs → EachPassed ys → EachPassed (xs ++ ys)
  both_passed xs ys h k q a = elim (Contains-append_cases xs ys q a) [ inl here ↦ h q here | inr there ↦ k q there ]

  by_flow : (f g : Flow) → f ≡ g → EachPassed f.passed → EachPassed g.passed
  by_flow f g e h = subst (λ (f : Flow). EachPassed f.passed) e h

  then_passed : (f g : Flow) → EachPassed f.passed → EachPassed g.passed → EachPassed (flow_then f g).passed
  then_passed f g h k = by_onward f.onward
    where
      by_onward : (b : Bool) → EachPassed (if b then record { passed = f.passed ++ g.passed; ends = f.ends ++ g.ends; onward = g.onward } else f).passed
      by_onward true = both_passed f.passed g.passed h k
      by_onward false = h

  -- ---- statements

  abbrev Passes : Stmt → Type 0
  Passes s = (at : ℕ) → Each Holds at (s ∷ inner_of s) → EachPassed (flow s s at).passed

  more_passed : (at : ℕ) (s : Stmt) (k : Rest) → EachPassed (flow s s at).passed → EachPassed (flow_all k).passed → EachPassed (flow_all ((at, s) ∷ k)).passed
  more_passed at s k h g = by_flow _ _ (sym (flow_more at s k)) (then_passed (flow s s at) (flow_all k) h g)

  nothing_passed : EachPassed (flow_all []).passed
  nothing_passed = by_flow _ _ (sym flow_none) none_passed

  all_passed : {S : Type 0} (ys : List S) (v : S → Stmt) → ((x : S) → Passes (v x)) → (at : ℕ) → Each Holds at (statements_of (map v ys)) → EachPassed (flow_all (numbered at (map v ys))).passed
  all_passed [] v f at h = nothing_passed
  all_passed (y ∷ ys) v f at h =
      more_passed at (v y) (numbered (at + size_of (v y)) (map v ys)) (f y at (each_first Holds at (v y) (map v ys) h)) (all_passed ys v f (at + size_of (v y)) (each_others Holds at (v y) (map v ys) h))

  layer_passed : {S : Type 0} (d : stmt.Stmt-F S) (v : S → Stmt) → ((x : S) → Passes (v x)) → (s : Stmt) (at : ℕ) → Holds at s → Each Holds (at + 1) (inner_layer (map-Stmt S Stmt v d)) → EachPassed (flow_of_layer (map-Stmt S Stmt v d) s at).passed
  layer_passed (stmt.If e x y) v f s at own h =
      first_passed (at, s) _ own (both_passed _ _
      (all_passed x v f (at + 1) (each_branch Holds at (map v x) (map v y) h))
      (all_passed y v f (at + 1 + sizes_of (map v x)) (each_else Holds at (map v x) (map v y) h)))
  layer_passed (stmt.While e x) v f s at own h = none_passed
  layer_passed (stmt.YieldLoop e i x) v f s at own h = none_passed
  layer_passed (stmt.RankLoop e r i x) v f s at own h = none_passed
  layer_passed (stmt.Yield i) v f s at own h = none_passed
  layer_passed (stmt.Spawn g es) v f s at own h = none_passed
  layer_passed _ v f s at own h = first_passed (at, s) [] own none_passed

  stmt_passed : (s : Stmt) → Passes s
  stmt_passed s =
      ind-Stmt Passes (λ x y e at h.
      let r = roll-Stmt x in
      let d = out-roll-Stmt x ∙ sym e in
      by_flow _ _ (sym (flow_is r r at ∙ ap (λ (d : stmt.Stmt-F Stmt). flow_of_layer d r at) d))
      (layer_passed y (λ z. z.0) (λ z. z.1) r at (each_own Holds at r h) (each_of_layer Holds at r _ (inner_is r ∙ ap inner_layer d) h))) s

  pub rest_passed : (k : Rest) → EachIn Holds k → EachPassed (flow_all k).passed
  rest_passed [] h = nothing_passed
  rest_passed (q ∷ k) h = more_passed q.0 q.1 k (stmt_passed q.1 q.0 h.0) (rest_passed k h.1)

  -- ---- from a cut

  loop_passed : (ss : List Stmt) (q : ℕ × Stmt) (k : Rest) → Each Holds (q.0 + 1) (statements_of ss) → EachIn Holds (q ∷ k) → EachPassed (flow_loop ss (q ∷ k)).passed
  loop_passed ss q k h each =
      first_passed q _ (each_own Holds q.0 q.1 each.0)
      (both_passed _ _ (rest_passed (numbered (q.0 + 1) ss ++ q ∷ k) (each_numbered Holds ss (q.0 + 1) (q ∷ k) h each)) (rest_passed k each.1))

  from_layer_passed : (d : stmt.Stmt-F Stmt) (q : ℕ × Stmt) (k : Rest) → Each Holds (q.0 + 1) (inner_layer d) → EachIn Holds (q ∷ k) → EachPassed (flow_layer d (q ∷ k)).passed
  unfolding flow_layer
  from_layer_passed (stmt.YieldLoop e i ss) q k h each = loop_passed ss q k h each
  from_layer_passed (stmt.RankLoop e r i ss) q k h each = loop_passed ss q k h each
  from_layer_passed _ q k h each = rest_passed k each.1

  from_rest_passed : (k : Rest) → EachIn Holds k → EachPassed (flow_rest k).passed
  from_rest_passed [] each = none_passed
  from_rest_passed (q ∷ k) each = from_layer_passed (out-Stmt q.1) q k (each_of_layer Holds q.0 q.1 (out-Stmt q.1) (inner_is q.1) each.0) each

  from_kind_passed : (body : List Stmt) (kind : CutKind) (number : ℕ) → Each Holds 0 (statements_of body) → EachPassed (flow_kind body number kind).passed
  from_kind_passed body kind.Entry number h =
      rest_passed (numbered 0 body) (subst (EachIn Holds) (append-nil (numbered 0 body)) (each_numbered Holds body 0 [] h tt))
  from_kind_passed body kind.Yield number h = from_rest_passed (rest_at body number) (rest_each Holds body number h)
  from_kind_passed body kind.YieldLoop number h = from_rest_passed (rest_at body number) (rest_each Holds body number h)
  from_kind_passed body kind.RankLoop number h = from_rest_passed (rest_at body number) (rest_each Holds body number h)

  pub each_passed : (proc : Proc) (cut : Cut) → Each Holds 0 (statements_of proc.body) → EachPassed (flow_from proc cut).passed
  unfolding flow_from
  each_passed proc cut h = from_kind_passed proc.body cut.kind cut.statement h

pub passed_stand_in_body : PassedStandInBody
passed_stand_in_body proc cut =
    each_passed (λ n s. statement_at proc.body n ≡ Some s) proc cut (λ j n s e g. let same : n ≡ j = omega arith in ap (statement_at proc.body) same ∙ g)
