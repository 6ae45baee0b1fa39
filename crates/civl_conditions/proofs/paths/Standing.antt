-- Each statement that some path from a cut passes stands in the body, at its number.
use Rattle.std.proofs.Common.{◌≡◌, ℕ, ◌+◌, Bool, true, false, List, [], ◌∷◌, ◌++◌, map, length, Some, refl, sym, ap, ◌∙◌, subst, append-nil, arith, inl, inr}
use Rattle.std.proofs.lemmas.Bool.{cases_lt}
use Rattle.civl_tree.specs.declared.stmt.Stmt.{Stmt, out-Stmt, roll-Stmt, out-roll-Stmt, map-Stmt}
use Rattle.civl_tree.specs.declared.stmt.Stmt.TheOpen.{Stmt-F, If, While, YieldLoop, RankLoop, Yield, Spawn}
use Rattle.civl_tree.specs.declared.stmt.Stmt.TheFolds.{ind-Stmt}
use Rattle.civl_tree.specs.declared.program.Proc.{Proc}
use Rattle.civl_tree.specs.Numbering.{size_of, sizes_of, numbered, statements_of, statement_at}
use Rattle.civl_tree.proofs.Numbers.{sizes_more, sizes_are_counts}
use Rattle.civl_tree.proofs.Sizes.{size_is_some}
use Rattle.civl_tree.proofs.Lists.{get_there}
use Rattle.civl_meaning.specs.Rest.{Rest, rest_at}
use Rattle.civl_layers.specs.declared.cut.Cut.{Cut}
use Rattle.civl_layers.specs.declared.cut.CutKind.{CutKind}
use Rattle.civl_layers.specs.declared.cut.CutKind.TheVariants as kind
use Rattle.civl_conditions.specs.paths.Flows.{Flow, flow_then, flow_or, flow, flow_all, flow_loop, flow_layer, flow_rest, flow_kind, flow_from}
use Rattle.civl_conditions.proofs.paths.Heading.{number_begins}
use Rattle.civl_conditions.proofs.paths.Belonging.{Belongs, Covers, at_first, exit_is, all_belong, first_covered, second_covered, yield_loop_covered, rank_loop_covered, rest_belongs, past_all}
use Rattle.civl_conditions.proofs.paths.Passing.{flow_of_layer, flow_is, flow_none, flow_more}

-- each of these statements stands at its number
abbrev pub Stand : List Stmt → List (ℕ × Stmt) → Type 0
Stand body [] = Unit
Stand body (q ∷ qs) = (statement_at body q.0 ≡ Some q.1) × Stand body qs

abbrev head_or : Stmt → Rest → Stmt
head_or s [] = s
head_or s (q ∷ k) = q.1

module _ (body : List Stmt) where
  -- a statement at which what is still to run begins stands there
  pub begins_stands : (n : ℕ) (s : Stmt) (k : Rest) → rest_at body n ≡ (n, s) ∷ k → statement_at body n ≡ Some s
  begins_stands n s k e = elim (cases_lt n (length (statements_of body))) [
    | inl low ↦
        let found = get_there (statements_of body) n low in
        let begins = number_begins body n found.0 found.1 in
        found.1 ∙ ap (λ (t : Stmt). Some t) (ap (head_or s) (sym begins.1 ∙ e))
    | inr high ↦
        let counts = sizes_are_counts body in
        let none : length {A = ℕ × Stmt} [] ≡ length ((n, s) ∷ k) = ap (length {A = ℕ × Stmt}) (sym (past_all body 0 [] n (omega arith)) ∙ e) in
        absurd (omega arith)
  ]

  both_stand : (xs ys : List (ℕ × Stmt)) → Stand body xs → Stand body ys → Stand body (xs ++ ys)
  both_stand [] ys a b = b
  both_stand (x ∷ xs) ys a b = (a.0, both_stand xs ys a.1 b)

  abbrev Passes : Flow → Type 0
  Passes f = Stand body f.passed

  then_passes : (p : List (ℕ × Stmt)) (e : List ℕ) (x : Bool) (b : Flow) → Stand body p → Passes b → Passes (flow_then (record { passed = p; ends = e; onward = x }) b)
  then_passes p e false b h g = h
  then_passes p e true b h g = both_stand p b.passed h g

  or_passes : (a b : Flow) → Passes a → Passes b → Passes (flow_or a b)
  or_passes a b h g = both_stand a.passed b.passed h g

  -- the first of what belongs to the body
  first_stands : (s : Stmt) (at : ℕ) (k : Rest) → Covers body (s ∷ []) at k → statement_at body at ≡ Some s
  first_stands s at k c =
      let some = size_is_some s in
      let alone = sizes_more s [] in
      begins_stands at s k (c at (omega arith) (omega arith) ∙ at_first s [] at k at refl)

  -- what is to be shown of a statement
  abbrev PassesIn : Stmt → Type 0
  PassesIn s = (at : ℕ) (k : Rest) → Belongs body ((at, s) ∷ k) → Passes (flow s s at)

  among_passes : {S : Type 0} (ys : List S) (v : S → Stmt) → ((x : S) → PassesIn (v x)) → (at : ℕ) (k : Rest) → Belongs body (numbered at (map v ys) ++ k) → Passes (flow_all (numbered at (map v ys)))
  among_passes [] v h at k b = subst Passes (sym flow_none) tt
  among_passes (y ∷ ys) v h at k b =
      let s = v y in
      subst Passes (sym (flow_more at s (numbered (at + size_of s) (map v ys))))
      (then_passes (flow s s at).passed (flow s s at).ends (flow s s at).onward _ (h y at (numbered (at + size_of s) (map v ys) ++ k) b) (among_passes ys v h (at + size_of s) k b.1))

  layer_passes : {S : Type 0} (d : Stmt-F S) (v : S → Stmt) → ((x : S) → PassesIn (v x)) → (s : Stmt) → out-Stmt s ≡ map-Stmt S Stmt v d → (at : ℕ) (k : Rest) → Belongs body ((at, s) ∷ k) → Passes (flow_of_layer (map-Stmt S Stmt v d) s at)
  layer_passes (If e a b) v h s o at k g = (
    first_stands s at k g.0,
    or_passes (flow_all (numbered (at + 1) (map v a))) (flow_all (numbered (at + 1 + sizes_of (map v a)) (map v b))) (among_passes a v h (at + 1) k (all_belong body (map v a) (at + 1) k (first_covered body s at k e (map v a) (map v b) o g.0) g.1))
        (among_passes b v h (at + 1 + sizes_of (map v a)) k (all_belong body (map v b) (at + 1 + sizes_of (map v a)) k (second_covered body s at k e (map v a) (map v b) o g.0) g.1)),
  )
  layer_passes (While e a) v h s o at k g = tt
  layer_passes (YieldLoop e i a) v h s o at k g = tt
  layer_passes (RankLoop e r i a) v h s o at k g = tt
  layer_passes (Yield i) v h s o at k g = tt
  layer_passes (Spawn f es) v h s o at k g = tt
  layer_passes _ v h s o at k g = (first_stands s at k g.0, tt)

  one_passes : (s : Stmt) → PassesIn s
  one_passes s =
      ind-Stmt PassesIn (λ x y e at k g.
      let r = roll-Stmt x in
      let q = out-roll-Stmt x ∙ sym e in
      subst Passes (sym (flow_is r r at ∙ ap (λ (d : Stmt-F Stmt). flow_of_layer d r at) q))
      (layer_passes y (λ z. z.0) (λ z. z.1) r q at k g)) s

  all_passes : (r : Rest) → Belongs body r → Passes (flow_all r)
  all_passes [] b = subst Passes (sym flow_none) tt
  all_passes (q ∷ k) b =
      subst Passes (sym (flow_more q.0 q.1 k))
      (then_passes (flow q.1 q.1 q.0).passed (flow q.1 q.1 q.0).ends (flow q.1 q.1 q.0).onward _ (one_passes q.1 q.0 k b) (all_passes k b.1))

  loop_passes : (a : List Stmt) (q : ℕ × Stmt) (k : Rest) → Covers body a (q.0 + 1) (q ∷ k) → Belongs body (q ∷ k) → Passes (flow_loop a (q ∷ k))
  loop_passes a q k c b =
      (first_stands q.1 q.0 k b.0, or_passes (flow_all (numbered (q.0 + 1) a ++ q ∷ k)) (flow_all k) (all_passes (numbered (q.0 + 1) a ++ q ∷ k) (all_belong body a (q.0 + 1) (q ∷ k) c b)) (all_passes k b.1))

  head_passes : (d : Stmt-F Stmt) (q : ℕ × Stmt) (k : Rest) → out-Stmt q.1 ≡ d → Belongs body (q ∷ k) → Passes (flow_layer d (q ∷ k))
  unfolding flow_layer
  head_passes (YieldLoop e i a) q k o b = loop_passes a q k (yield_loop_covered body q.1 q.0 k e i a o b.0) b
  head_passes (RankLoop e r i a) q k o b = loop_passes a q k (rank_loop_covered body q.1 q.0 k e r i a o b.0) b
  head_passes _ q k o b = all_passes k b.1

  rest_passes : (r : Rest) → Belongs body r → Passes (flow_rest r)
  rest_passes [] b = tt
  rest_passes (q ∷ k) b = head_passes (out-Stmt q.1) q k refl b

  kind_passes : (number : ℕ) (c : CutKind) → Passes (flow_kind body number c)
  kind_passes number kind.Entry =
      let b = all_belong body body 0 [] (λ w low high. refl) (exit_is body) in
      all_passes (numbered 0 body) (subst (Belongs body) (append-nil (numbered 0 body)) b)
  kind_passes number kind.Yield = rest_passes _ (rest_belongs body number)
  kind_passes number kind.YieldLoop = rest_passes _ (rest_belongs body number)
  kind_passes number kind.RankLoop = rest_passes _ (rest_belongs body number)

-- what the paths from a cut pass stands in the body
pub passed_stand : (proc : Proc) (cut : Cut) → Stand proc.body (flow_from proc cut).passed
unfolding flow_from
passed_stand proc cut = kind_passes proc.body cut.statement cut.kind
