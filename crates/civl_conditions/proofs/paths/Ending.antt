-- Where a flow doesn't go on, no path does.
use Rattle.std.proofs.Common.{◌≡◌, ℕ, ◌+◌, Bool, true, false, List, [], ◌∷◌, ◌++◌, map, ◌⊎◌, inl, inr, refl, sym, ap, ◌∙◌, subst}
use Rattle.std.specs.Prelude.{if◌then◌else◌}
use Rattle.std.proofs.lemmas.Bool.{or_parts, true≢false}
use Rattle.civl_tree.specs.declared.stmt.Stmt.{Stmt, roll-Stmt, out-roll-Stmt, map-Stmt}
use Rattle.civl_tree.specs.declared.stmt.Stmt.TheOpen as stmt
use Rattle.civl_tree.specs.declared.stmt.Stmt.TheFolds.{ind-Stmt}
use Rattle.civl_tree.specs.Numbering.{size_of, sizes_of, numbered}
use Rattle.civl_meaning.specs.Rest.{Rest}
use Rattle.civl_conditions.specs.paths.Paths.{Course, Progress, Outcome, Past, Comes, Fails, Stops, after, tested, pass, pass_all}
use Rattle.civl_conditions.specs.paths.Flows.{Flow, flow_then, flow, flow_all}
use Rattle.civl_conditions.proofs.paths.Passing.{pass_layer, pass_is, pass_more, flow_of_layer, flow_is, flow_none, flow_more}

-- it is past all statements
abbrev pub is_past : Outcome → Bool
is_past (Past p) = true
is_past (Comes number p) = false
is_past (Fails p) = false
is_past (Stops p) = false

then_ends : (a b : Flow) → (flow_then a b).onward ≡ false → (a.onward ≡ false) ⊎ (b.onward ≡ false)
then_ends a b e = by_first a.onward refl e
  where
    by_first : (x : Bool) → a.onward ≡ x → (if x then record { passed = a.passed ++ b.passed; ends = a.ends ++ b.ends; onward = b.onward } else a).onward ≡ false → (a.onward ≡ false) ⊎ (b.onward ≡ false)
    by_first true g e = inr e
    by_first false g e = inl g

after_first : (o : Outcome) (f : Progress → Outcome) → is_past o ≡ false → is_past (after o f) ≡ false
after_first (Past p) f e = absurd (true≢false e)
after_first (Comes n p) f e = refl
after_first (Fails p) f e = refl
after_first (Stops p) f e = refl

after_second : (o : Outcome) (f : Progress → Outcome) → ((p : Progress) → is_past (f p) ≡ false) → is_past (after o f) ≡ false
after_second (Past p) f e = e p
after_second (Comes n p) f e = refl
after_second (Fails p) f e = refl
after_second (Stops p) f e = refl

by_test : (b : Bool) (o u : Outcome) → is_past o ≡ false → is_past u ≡ false → is_past (if b then o else u) ≡ false
by_test true o u e f = e
by_test false o u e f = f

module _ (c : Course) where
  abbrev RestEnds : Rest → Type 0
  RestEnds k = (flow_all k).onward ≡ false → (p : Progress) → is_past (pass_all c k p) ≡ false

  abbrev StmtEnds : Stmt → Type 0
  StmtEnds s = (at : ℕ) → (flow s s at).onward ≡ false → (p : Progress) → is_past (pass c s at p) ≡ false

  none_ends : RestEnds []
  none_ends e p = absurd (true≢false (ap (λ (f : Flow). f.onward) (sym flow_none) ∙ e))

  more_ends : (at : ℕ) (s : Stmt) (k : Rest) → StmtEnds s → RestEnds k → RestEnds ((at, s) ∷ k)
  more_ends at s k one others e p =
      subst (λ (o : Outcome). is_past o ≡ false) (sym (pass_more c at s k p))
      (elim (then_ends (flow s s at) (flow_all k) (ap (λ (f : Flow). f.onward) (sym (flow_more at s k)) ∙ e)) [
        | inl first ↦ after_first (pass c s at p) (pass_all c k) (one at first p)
        | inr second ↦ after_second (pass c s at p) (pass_all c k) (others second)
      ])

  all_end : {S : Type 0} (ys : List S) (v : S → Stmt) → ((x : S) → StmtEnds (v x)) → (at : ℕ) → RestEnds (numbered at (map v ys))
  all_end [] v f at = none_ends
  all_end (y ∷ ys) v f at = more_ends at (v y) (numbered (at + size_of (v y)) (map v ys)) (f y) (all_end ys v f (at + size_of (v y)))

  layer_ends : {S : Type 0} (d : stmt.Stmt-F S) (v : S → Stmt) → ((x : S) → StmtEnds (v x)) → (s : Stmt) (at : ℕ) → (flow_of_layer (map-Stmt S Stmt v d) s at).onward ≡ false → (p : Progress) → is_past (pass_layer c (map-Stmt S Stmt v d) at p) ≡ false
  layer_ends (stmt.If e x y) v f s at h p =
      let parts = or_parts (flow_all (numbered (at + 1) (map v x))).onward (flow_all (numbered (at + 1 + sizes_of (map v x)) (map v y))).onward h in
      by_test (tested c e p) _ _ (all_end x v f (at + 1) parts.0 p) (all_end y v f (at + 1 + sizes_of (map v x)) parts.1 p)
  layer_ends (stmt.While e x) v f s at h p = refl
  layer_ends (stmt.YieldLoop e i x) v f s at h p = refl
  layer_ends (stmt.RankLoop e r i x) v f s at h p = refl
  layer_ends (stmt.Yield i) v f s at h p = refl
  layer_ends (stmt.Spawn g es) v f s at h p = refl
  layer_ends _ v f s at h p = absurd (true≢false h)

  pub stmt_ends : (s : Stmt) → StmtEnds s
  stmt_ends s =
      ind-Stmt StmtEnds (λ x y e at h p.
      let r = roll-Stmt x in
      let d = out-roll-Stmt x ∙ sym e in
      let flows = flow_is r r at ∙ ap (λ (d : stmt.Stmt-F Stmt). flow_of_layer d r at) d in
      ap is_past (pass_is c r at p ∙ ap (λ (d : stmt.Stmt-F Stmt). pass_layer c d at p) d)
      ∙ layer_ends y (λ z. z.0) (λ z. z.1) r at (ap (λ (f : Flow). f.onward) (sym flows) ∙ h) p) s

  pub rest_ends : (k : Rest) → RestEnds k
  rest_ends [] = none_ends
  rest_ends (q ∷ k) = more_ends q.0 q.1 k (stmt_ends q.1) (rest_ends k)
