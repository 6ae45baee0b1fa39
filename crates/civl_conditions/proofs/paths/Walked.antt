-- A walk over statements, one layer at a time.
use Rattle.std.proofs.Common.{◌≡◌, ℕ, ◌+◌, ◌<◌, ◌≤◌, List, [], ◌∷◌, map, drop, length, get_or, refl, sym, ap, ◌∙◌, Option}
use Rattle.std.proofs.lemmas.List.{drop_all}
use Rattle.civl_tree.proofs.Numbers.{sizes_more}
use Rattle.civl_tree.proofs.Lists.{drop_is}
use Rattle.civl_tree.specs.declared.stmt.Stmt.{Stmt, out-Stmt, roll-out-Stmt, map-Stmt, the_lemmas as of_stmt}
use Rattle.civl_tree.specs.declared.stmt.Stmt.TheOpen.{Stmt-F, Assign, Assert, If, While, YieldLoop, RankLoop, Call, Yield, Commit, Intro, Spawn}
use Rattle.civl_tree.specs.declared.stmt.Stmt.TheFolds.{para-roll-Stmt}
use Rattle.civl_tree.specs.Numbering.{size_of, sizes_of}
use Rattle.std.specs.Prelude.{Bool, false, ◌||◌}
use Rattle.civl_conditions.specs.declared.paths.met.Met.{Met}
use Rattle.civl_conditions.specs.paths.Meets.{with_onward, met_passing, met_ending, met_entering, met_behind, met_either, Walk, walked_in, walk_in, walk_step, walk, walk_all}

module _ (from : Option ℕ) where
  abbrev with_walk : Stmt → Stmt × Walk
  with_walk s = (s, walk from s)

  stmts_walked : (ss : List Stmt) → walked_in (map with_walk ss) ≡ ss
  stmts_walked [] = refl
  stmts_walked (s ∷ ss) = ap (λ (r : List Stmt). s ∷ r) (stmts_walked ss)

  walks_with : (ss : List Stmt) (at : ℕ) (met : Met) → walk_in from (map with_walk ss) at met ≡ walk_all from ss at met
  unfolding walk_all
  walks_with [] at met = refl
  walks_with (s ∷ ss) at met = walks_with ss (at + size_of s) (met_behind from at (walk from s at met))

  abbrev pub walk_layer : Stmt-F Stmt → Walk
  walk_layer (If e a b) at met =
      met_either (met_passing at met).onward (walk_all from a (at + 1) (met_passing at met)) (walk_all from b (at + 1 + sizes_of a))
  walk_layer (While e a) at met = with_onward false (walk_all from a (at + 1) (with_onward false met))
  walk_layer (YieldLoop e i a) at met = met_ending at (walk_all from a (at + 1) (met_entering from at met))
  walk_layer (RankLoop e r i a) at met = met_ending at (walk_all from a (at + 1) (met_entering from at met))
  walk_layer (Yield i) at met = met_ending at met
  walk_layer (Spawn f es) at met = with_onward false met
  walk_layer _ at met = met_passing at met

  either_same : (onward : Bool) (x y : Met) (f g : Met → Met) → x ≡ y → ((m : Met) → f m ≡ g m) → met_either onward x f ≡ met_either onward y g
  either_same onward x y f g e h = ap (λ (m : Met). met_either onward m f) e ∙ ap (λ (m : Met). with_onward (y.onward || m.onward) m) (h (with_onward onward y))

  second_walk : (a b : List Stmt) (at : ℕ) (met : Met) → walk_in from (map with_walk b) (at + 1 + sizes_of (walked_in (map with_walk a))) met ≡ walk_all from b (at + 1 + sizes_of a) met
  second_walk a b at met = ap (λ (ss : List Stmt). walk_in from (map with_walk b) (at + 1 + sizes_of ss) met) (stmts_walked a) ∙ walks_with b (at + 1 + sizes_of a) met

  walk_step_is : (d : Stmt-F Stmt) (at : ℕ) (met : Met) → walk_step from (map-Stmt Stmt (Stmt × Walk) with_walk d) at met ≡ walk_layer d at met
  walk_step_is (If e a b) at met =
      either_same (met_passing at met).onward _ _ _ _ (walks_with a (at + 1) (met_passing at met)) (second_walk a b at)
  walk_step_is (While e a) at met = ap (with_onward false) (walks_with a (at + 1) (with_onward false met))
  walk_step_is (YieldLoop e i a) at met = ap (met_ending at) (walks_with a (at + 1) (met_entering from at met))
  walk_step_is (RankLoop e r i a) at met = ap (met_ending at) (walks_with a (at + 1) (met_entering from at met))
  walk_step_is (Assign x e) at met = refl
  walk_step_is (Assert e) at met = refl
  walk_step_is (Call f xs rs) at met = refl
  walk_step_is (Yield e) at met = refl
  walk_step_is Commit at met = refl
  walk_step_is (Intro x e) at met = refl
  walk_step_is (Spawn f xs) at met = refl

  pub walk_is : (s : Stmt) (at : ℕ) (met : Met) → walk from s at met ≡ walk_layer (out-Stmt s) at met
  unfolding walk
  walk_is s at met =
      let e : walk from s ≡ walk_step from (map-Stmt Stmt (Stmt × Walk) with_walk (out-Stmt s)) = ap (walk from) (sym (roll-out-Stmt s)) ∙ para-roll-Stmt Walk (walk_step from) (out-Stmt s) in
      ap (λ (f : Walk). f at met) e ∙ walk_step_is (out-Stmt s) at met

  pub walk_none : (at : ℕ) (met : Met) → walk_all from [] at met ≡ met
  unfolding walk_all
  walk_none at met = refl

  pub walk_more : (s : Stmt) (ss : List Stmt) (at : ℕ) (met : Met) → walk_all from (s ∷ ss) at met ≡ walk_all from ss (at + size_of s) (met_behind from at (walk from s at met))
  unfolding walk_all
  walk_more s ss at met = refl

pub ruleset walked = (walk_is, walk_none, walk_more, of_stmt)

-- ---- in a loop over statements

pub sizes_behind : (ss : List Stmt) (i : ℕ) (s : Stmt) → i < length ss → s ≡ get_or ss i s → sizes_of (drop i ss) ≡ size_of s + sizes_of (drop (i + 1) ss)
sizes_behind ss i s h e = ap sizes_of (drop_is ss i s h e) ∙ sizes_more s (drop (i + 1) ss)

pub walk_behind : (from : Option ℕ) (ss : List Stmt) (i : ℕ) (s : Stmt) (at next : ℕ) (met new all : Met) → i < length ss → s ≡ get_or ss i s
    → next ≡ at + size_of s → new ≡ met_behind from at (walk from s at met) → walk_all from (drop i ss) at met ≡ all → walk_all from (drop (i + 1) ss) next new ≡ all
walk_behind from ss i s at next met new all h e n w k =
    ap (λ (m : ℕ). walk_all from (drop (i + 1) ss) m new) n ∙ ap (walk_all from (drop (i + 1) ss) (at + size_of s)) w
    ∙ sym (walk_more from s (drop (i + 1) ss) at met) ∙ ap (λ (r : List Stmt). walk_all from r at met) (sym (drop_is ss i s h e)) ∙ k

pub walk_end : (from : Option ℕ) (ss : List Stmt) (i at : ℕ) (met : Met) → length ss ≤ i → walk_all from (drop i ss) at met ≡ met
walk_end from ss i at met h = ap (λ (r : List Stmt). walk_all from r at met) (drop_all i ss h) ∙ walk_none from at met

pub sizes_end : (ss : List Stmt) (i : ℕ) → length ss ≤ i → sizes_of (drop i ss) ≡ 0
sizes_end ss i h = ap sizes_of (drop_all i ss h)
