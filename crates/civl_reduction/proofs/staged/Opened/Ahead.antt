-- A frame that stands at a yield stands before that cut, as paths see it; and past commits and intros comes what comes next.
use Rattle.std.proofs.Common.{ℕ, ◌≡◌, true, List, [], ◌∷◌, Some, None, Option, sym, refl, ap, ◌∙◌, subst}
use Rattle.std.specs.Prelude.{if◌then◌else◌}
use Rattle.std.specs.Option.{option_map_or}
use Rattle.std.proofs.lemmas.Bool.{false≢true}
use Rattle.std.proofs.lemmas.Option.{same_Some, none-some}
use Rattle.civl_tree.specs.declared.stmt.Stmt.{Stmt, out-Stmt}
use Rattle.civl_tree.specs.declared.stmt.Stmt.TheOpen as stmt
use Rattle.civl_tree.specs.Numbering.{sizes_of}
use Rattle.civl_meaning.specs.Places.{Spot, skip_layer}
use Rattle.civl_meaning.specs.Rest.{Rest, rest_at, place_in, head_of}
use Rattle.civl_meaning.proofs.Rests.{spot_of_rest}
use Rattle.civl_layers.specs.declared.cut.CutKind.{CutKind}
use Rattle.civl_layers.specs.declared.cut.CutKind.TheVariants as kind
use Rattle.civl_layers.specs.Cuts.{form_cut, cut_kind}
use Rattle.civl_conditions.specs.paths.Ends.{is_yield_cut}
use Rattle.civl_conditions.specs.paths.Runs.{layer_yields, layer_leads, yield_before}
use Rattle.civl_reduction.specs.open_blocks.Following.{layer_head, head_there, cut_ahead}
use Rattle.civl_reduction.specs.blocks.Cuts.{settled_layer, settled}

first_or : ℕ × Stmt → Rest → ℕ × Stmt
first_or d [] = d
first_or d (q ∷ k) = q

-- no form but a yield and a yield loop
not_yield : (k : CutKind) → ◌≡◌ {A = Option CutKind} (Some kind.RankLoop) (Some k) → is_yield_cut k ≡ true → ⊥
not_yield k e y = false≢true (ap is_yield_cut (same_Some kind.RankLoop k e) ∙ y)

ahead_rest : (end : ℕ) (r : Rest) (n : ℕ) (s : Stmt) (k : Rest) (c : CutKind) → settled r ≡ (n, s) ∷ k → cut_kind s ≡ Some c → is_yield_cut c ≡ true → option_map_or (λ m. Some m) (yield_before r) (head_there (head_of end r)) ≡ Some n
unfolding first_or
ahead_rest end [] n s k c e cut y = absurd cc
ahead_rest end ((m, x) ∷ j) n s k c e cut y = by_layer (out-Stmt x) refl e (λ g. ahead_rest end j n s k c g cut y)
  where
    -- where the statement itself is the cut
    same : (d : stmt.Stmt-F Stmt) → ◌≡◌ {A = Rest} ((m, x) ∷ j) ((n, s) ∷ k) → ◌≡◌ {A = ℕ × Stmt} (m, x) (n, s)
    same d h = ap (first_or (n, s)) h

    form : (d : stmt.Stmt-F Stmt) → out-Stmt x ≡ d → ◌≡◌ {A = Rest} ((m, x) ∷ j) ((n, s) ∷ k) → form_cut d ≡ Some c
    form d q h = sym (ap form_cut q) ∙ (ap (λ (p : ℕ × Stmt). cut_kind p.1) (same d h) ∙ cut)

    by_layer : (d : stmt.Stmt-F Stmt) → out-Stmt x ≡ d → settled_layer (out-Stmt x) ((m, x) ∷ j) (settled j) ≡ (n, s) ∷ k
        → (settled j ≡ (n, s) ∷ k → option_map_or (λ (z : ℕ). Some z) (yield_before j) (head_there (head_of end j)) ≡ Some n)
        → option_map_or (λ (z : ℕ). Some z) (if layer_yields (out-Stmt x) then Some m else (if layer_leads (out-Stmt x) then yield_before j else None))
        (head_there (if skip_layer (out-Stmt x) then head_of end j else Some (record { number = m; stmt = x; next = place_in end j }))) ≡ Some n
    by_layer d q h ih = subst (Goal) (sym q) (go d q (subst (λ (f : stmt.Stmt-F Stmt). settled_layer f ((m, x) ∷ j) (settled j) ≡ (n, s) ∷ k) q h))
      where
        Goal : stmt.Stmt-F Stmt → Type 0
        Goal f =
            option_map_or (λ (z : ℕ). Some z) (if layer_yields f then Some m else (if layer_leads f then yield_before j else None))
            (head_there (if skip_layer f then head_of end j else Some (record { number = m; stmt = x; next = place_in end j }))) ≡ Some n

        go : (f : stmt.Stmt-F Stmt) → out-Stmt x ≡ f → settled_layer f ((m, x) ∷ j) (settled j) ≡ (n, s) ∷ k
            → option_map_or (λ (z : ℕ). Some z) (if layer_yields f then Some m else (if layer_leads f then yield_before j else None))
            (head_there (if skip_layer f then head_of end j else Some (record { number = m; stmt = x; next = place_in end j }))) ≡ Some n
        go (stmt.Yield i) p g = ap (λ (z : ℕ × Stmt). Some z.0) (same (stmt.Yield i) g)
        go (stmt.YieldLoop t i a) p g = ap (layer_head m) p ∙ ap (λ (z : ℕ × Stmt). Some z.0) (same (stmt.YieldLoop t i a) g)
        go stmt.Commit p g = ih g
        go (stmt.Intro v w) p g = ih g
        go (stmt.RankLoop t w i a) p g = absurd (not_yield c (form (stmt.RankLoop t w i a) p g) y)
        go (stmt.Assign v w) p g = absurd (none-some c (form (stmt.Assign v w) p g))
        go (stmt.Assert w) p g = absurd (none-some c (form (stmt.Assert w) p g))
        go (stmt.If t a b) p g = absurd (none-some c (form (stmt.If t a b) p g))
        go (stmt.While t a) p g = absurd (none-some c (form (stmt.While t a) p g))
        go (stmt.Call v es rs) p g = absurd (none-some c (form (stmt.Call v es rs) p g))
        go (stmt.Spawn v es) p g = absurd (none-some c (form (stmt.Spawn v es) p g))

-- at a yield the cut is ahead
pub yield_ahead : (body : List Stmt) (place n : ℕ) (s : Stmt) (k : Rest) (c : CutKind) → settled (rest_at body place) ≡ (n, s) ∷ k → cut_kind s ≡ Some c → is_yield_cut c ≡ true → cut_ahead body place ≡ Some n
yield_ahead body place n s k c e cut y =
    ap (λ (o : Option Spot). option_map_or (λ (z : ℕ). Some z) (yield_before (rest_at body place)) (head_there o)) (spot_of_rest body place)
    ∙ ahead_rest (sizes_of body) (rest_at body place) n s k c e cut y
