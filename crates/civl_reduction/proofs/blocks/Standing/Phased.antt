-- In a program that keeps the rule on phases no call of a layered procedure comes too late, from any place on.
use Rattle.std.proofs.Common.{◌≡◌, ℕ, ◌+◌, Bool, true, false, ◌||◌, List, [], ◌∷◌, ◌++◌, map, refl, sym, ap, ◌∙◌, subst, arith, Option, Some, slice_get}
use Rattle.std.specs.Prelude.{nat_lt, nat_eq, if◌then◌else◌}
use Rattle.std.specs.List.{Contains}
use Rattle.civl_tree.specs.declared.stmt.Stmt.{Stmt, roll-Stmt, out-roll-Stmt, map-Stmt}
use Rattle.civl_tree.specs.declared.stmt.Stmt.TheOpen.{Stmt-F, If, While, YieldLoop, RankLoop}
use Rattle.civl_tree.specs.declared.stmt.Stmt.TheFolds.{ind-Stmt}
use Rattle.civl_tree.specs.declared.program.Refines.{Refines}
use Rattle.civl_tree.specs.declared.program.Proc.{Proc}
use Rattle.civl_tree.specs.declared.program.Program.{Program}
use Rattle.civl_tree.specs.Numbering.{size_of, sizes_of, numbered, statements_of, proc_item}
use Rattle.civl_tree.specs.rules.Rules.{Keeps}
use Rattle.civl_tree.specs.rules.Broken.{InStatement}
use Rattle.civl_tree.proofs.Kept.{unbroken}
use Rattle.civl_tree.proofs.Pairs.{contains_here}
use Rattle.civl_tree.proofs.Bools.{either}
use Rattle.civl_names.specs.walks.Walks.{numbers_with}
use Rattle.civl_meaning.specs.Rest.{Rest, rest_inside, rest_among, rest_at}
use Rattle.civl_meaning.proofs.Rests.{rest_layer, rest_is, among_rest, rest_none}
use Rattle.civl_yields.specs.Phases.{phases_before}
use Rattle.civl_yields.specs.Places.{stmt_late}
use Rattle.civl_yields.specs.YieldRules.{late_under, phase_rule, yield_rules}
use Rattle.civl_reduction.proofs.blocks.Standing.Flowing.{any_late, flow, flow_list}
use Rattle.civl_reduction.proofs.blocks.Standing.Turning.{IsClean, clean_list, EntersClean, enters_clean}

module _ (program : Program) where
  -- ---- from any place on

  abbrev Clear : Rest → Type 0
  Clear = IsClean program

  behind : (at : ℕ) (s : Stmt) (k : Rest) → Clear ((at, s) ∷ k) → Clear k
  behind at s k c = ((flow program s c.0).after, c.1.1)

  abbrev Within : Stmt → Type 0
  Within s = (at : ℕ) (k : Rest) (w : ℕ) → Clear ((at, s) ∷ k) → Clear (rest_inside s s at k w)

  abbrev Among : List Stmt → Type 0
  Among ss = (at : ℕ) (k : Rest) (w : ℕ) → Clear (numbered at ss ++ k) → Clear k → Clear (rest_among ss at k w)

  among_none : Among []
  among_none at k w c b = subst Clear (sym (rest_none at k w)) b

  among_more : (s : Stmt) (ss : List Stmt) → Within s → Among ss → Among (s ∷ ss)
  among_more s ss h i at k w c b =
      subst Clear (sym (among_rest s ss at k w))
      (either Clear (nat_lt w (at + size_of s)) _ _ (either Clear (nat_eq w at) _ _ c (h at (numbered (at + size_of s) ss ++ k) w c)) (i (at + size_of s) k w (behind at s (numbered (at + size_of s) ss ++ k) c) b))

  all_among : {A : Type 0} (ys : List A) (v : A → Stmt) → ((x : A) → Within (v x)) → Among (map v ys)
  all_among [] v h at k w c b = among_none at k w c b
  all_among (y ∷ ys) v h at k w c b = among_more (v y) (map v ys) (h y) (all_among ys v h) at k w c b

  layer_within : {A : Type 0} (y : Stmt-F A) (v : A → Stmt) → ((x : A) → Within (v x)) → (s : Stmt) (at : ℕ) (k : Rest) (w : ℕ) → EntersClean program (map-Stmt A Stmt v y) at s k → Clear ((at, s) ∷ k) → Clear (rest_layer (map-Stmt A Stmt v y) s at k w)
  layer_within (If e a b) v h s at k w i c =
      let both = i (at + 1) (at + 1 + sizes_of (map v a)) in
      either Clear (nat_lt w (at + 1 + sizes_of (map v a))) _ _ (all_among a v h (at + 1) k w both.0 (behind at s k c)) (all_among b v h (at + 1 + sizes_of (map v a)) k w both.1 (behind at s k c))
  layer_within (While e a) v h s at k w i c = all_among a v h (at + 1) ((at, s) ∷ k) w (i (at + 1)) c
  layer_within (YieldLoop e j a) v h s at k w i c = all_among a v h (at + 1) ((at, s) ∷ k) w (i (at + 1)) c
  layer_within (RankLoop e r j a) v h s at k w i c = all_among a v h (at + 1) ((at, s) ∷ k) w (i (at + 1)) c
  layer_within _ v h s at k w i c = behind at s k c

  within : (s : Stmt) → Within s
  within s =
      ind-Stmt Within (λ x y e at k w c.
      let r = roll-Stmt x in
      let q = out-roll-Stmt x ∙ sym e in
      subst Clear (sym (rest_is r r at k w ∙ ap (λ (d : Stmt-F Stmt). rest_layer d r at k w) q))
      (layer_within y (λ z. z.0) (λ z. z.1) r at k w (enters_clean program r at k c.0 c.1 _ q) c)) s

  each_among : (ss : List Stmt) → Among ss
  each_among [] at k w c b = among_none at k w c b
  each_among (s ∷ ss) at k w c b = among_more s ss (within s) (each_among ss) at k w c b

  pub rest_clean : (body : List Stmt) (w : ℕ) → (flow_list program body false).bad ≡ false → Clear (rest_at body w)
  rest_clean body w bad = each_among body 0 [] w (false, clean_list program body 0 [] false bad tt) (false, tt)

  -- ---- the rule

  none_late : (from : ℕ) (ss : List Stmt) (phases : List Bool) → ((n : ℕ) → Contains (numbers_with (stmt_late program) from ss phases) n → ⊥) → any_late program ss phases ≡ false
  unfolding numbers_with
  none_late from [] phases none = refl
  none_late from (s ∷ ss) [] none = refl
  none_late from (s ∷ ss) (left ∷ phases) none = go (stmt_late program s left) none (none_late (from + 1) ss phases)
    where
      go : (b : Bool) → ((n : ℕ) → Contains ((if b then from ∷ [] else []) ++ numbers_with (stmt_late program) (from + 1) ss phases) n → ⊥)
          → (((n : ℕ) → Contains (numbers_with (stmt_late program) (from + 1) ss phases) n → ⊥) → any_late program ss phases ≡ false) → (b || any_late program ss phases) ≡ false
      go true h ih = absurd (h from (contains_here from (numbers_with (stmt_late program) (from + 1) ss phases)))
      go false h ih = ih h

  -- no call of a procedure that refines an action comes too late, from any place on
  pub layered_clean : Keeps yield_rules program → (number : ℕ) (proc : Proc) (refines : Refines) → slice_get program.procs number ≡ Some proc → proc.refines ≡ Some refines → (w : ℕ) → Clear (rest_at proc.body w)
  layered_clean yields number proc refines there is w = rest_clean proc.body w (none_late 0 (statements_of proc.body) (phases_before program proc.body) none)
    where
      none : (n : ℕ) → Contains (numbers_with (stmt_late program) 0 (statements_of proc.body) (phases_before program proc.body)) n → ⊥
      none n c =
          unbroken yield_rules program yields phase_rule (0, omega arith, refl) (proc_item program number) n
          (InStatement number proc there refl (subst (λ (o : Option Refines). Contains (late_under program o proc.body) n) (sym is) c))
