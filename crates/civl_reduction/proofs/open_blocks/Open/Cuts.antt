-- What a frame stands before is a cut of its procedure, by its number.
use Rattle.std.proofs.Common.{◌≡◌, ℕ, zero, suc, ◌+◌, Bool, true, false, List, [], ◌∷◌, ◌++◌, length, take, Option, None, Some, refl, ap, ◌∙◌, subst, arith}
use Rattle.std.specs.Prelude.{slice_get, if◌then◌else◌}
use Rattle.std.specs.Option.{option_map_or}
use Rattle.std.proofs.lemmas.Option.{none-some, same_Some}
use Rattle.civl_tree.specs.declared.program.Refines.{Refines}
use Rattle.civl_tree.specs.declared.program.Proc.{Proc}
use Rattle.civl_tree.specs.declared.stmt.Stmt.{Stmt, out-Stmt}
use Rattle.civl_tree.specs.declared.stmt.Stmt.TheOpen as stmt
use Rattle.civl_tree.specs.Numbering.{statements_of, statement_at}
use Rattle.civl_meaning.specs.Places.{Spot, spot_at}
use Rattle.civl_meaning.specs.Rest.{Rest, rest_at}
use Rattle.civl_layers.specs.declared.cut.Cut.{Cut}
use Rattle.civl_layers.specs.declared.cut.CutKind.{CutKind}
use Rattle.civl_layers.specs.declared.cut.CutKind.TheVariants as kind
use Rattle.civl_layers.specs.Cuts.{form_cut, cut_kind, cut_at, cuts_among, cuts_below, proc_cuts}
use Rattle.civl_conditions.specs.paths.Ends.{cut_number}
use Rattle.civl_conditions.specs.paths.Runs.{layer_yields, layer_leads, yield_before}
use Rattle.civl_conditions.proofs.paths.Belonging.{Belongs, own_place, rest_belongs}
use Rattle.civl_conditions.proofs.paths.Standing.{begins_stands}
use Rattle.civl_reduction.specs.open_blocks.Following.{layer_head, head_there, cut_ahead}
use Rattle.civl_reduction.specs.open_blocks.Open.{CutsAheadAreCuts}
use Rattle.civl_reduction.proofs.open_blocks.Open.Going.{spot_stands}

-- ---- the cuts in front

pushed : (xs ys : List Cut) (c : Cut) (n : ℕ) → slice_get ys n ≡ Some c → slice_get (xs ++ ys) (length xs + n) ≡ Some c
pushed [] ys c n e = ap (slice_get ys) (omega arith) ∙ e
pushed (x ∷ xs) ys c n e = let at : length (x ∷ xs) + n ≡ suc (length xs + n) = omega arith in ap (slice_get (x ∷ (xs ++ ys))) at ∙ pushed xs ys c n e

long : (xs ys : List Cut) → length (xs ++ ys) ≡ length xs + length ys
long [] ys = omega arith
long (x ∷ xs) ys = let e = long xs ys in omega (arith, e)

-- the cut that is the statement at this place stands behind those in front of it
cut_found : (at : ℕ) (ss : List Stmt) (n m : ℕ) (s : Stmt) (k : CutKind) → slice_get ss n ≡ Some s → cut_kind s ≡ Some k → m ≡ at + n → slice_get (cuts_among at ss) (length (cuts_among at (take n ss))) ≡ Some (record { statement = m; kind = k })
unfolding cuts_among
cut_found at [] n m s k e c f = absurd (none-some s e)
cut_found at (t ∷ ss) zero m s k e c f =
    let same : t ≡ s = same_Some t s e in
    let here : at ≡ m = omega (arith, f) in
    ap (λ (o : Option CutKind). slice_get (cut_at at o ++ cuts_among (at + 1) ss) 0) (ap cut_kind same ∙ c) ∙ ap (λ (n : ℕ). Some (record { statement = n; kind = k })) here
cut_found at (t ∷ ss) (suc n) m s k e c f =
    let own = cut_at at (cut_kind t) in
    let later = cut_found (at + 1) ss n m s k e c (omega (arith, f)) in
    ap (slice_get (own ++ cuts_among (at + 1) ss)) (long own (cuts_among (at + 1) (take n ss))) ∙ pushed own (cuts_among (at + 1) ss) _ (length (cuts_among (at + 1) (take n ss))) later

module _ (proc : Proc) (refines : Refines) (refined : proc.refines ≡ Some refines) (n : ℕ) (s : Stmt) (k : CutKind) (there : statement_at proc.body n ≡ Some s) (is : cut_kind s ≡ Some k) where
  pub cut_there : slice_get (proc_cuts proc) (cut_number proc n) ≡ Some (record { statement = n; kind = k })
  cut_there =
      let found = cut_found 0 (statements_of proc.body) n n s k there is (omega arith) in
      let at : 1 + length (cuts_among 0 (take n (statements_of proc.body))) ≡ suc (length (cuts_among 0 (take n (statements_of proc.body)))) = omega arith in
      ap (λ (o : Option Refines). slice_get (cuts_below o proc.body) (cut_number proc n)) refined
      ∙ ap (slice_get (cuts_below (Some refines) proc.body)) at ∙ found

-- ---- what stands there

-- a statement of the body that is a cut
abbrev pub IsCutThere : List Stmt → ℕ → Type 0
IsCutThere body n = (s : Stmt) × (k : CutKind) × (statement_at body n ≡ Some s) × (cut_kind s ≡ Some k)

yields_cut : (d : stmt.Stmt-F Stmt) → layer_yields d ≡ true → form_cut d ≡ Some kind.Yield
yields_cut (stmt.Yield i) e = refl
yields_cut _ e = absurd (cc)

pub head_cut : (n m : ℕ) (d : stmt.Stmt-F Stmt) → layer_head n d ≡ Some m → (n ≡ m) × (k : CutKind) × (form_cut d ≡ Some k)
head_cut n m (stmt.YieldLoop t i a) e = (same_Some n m e, kind.YieldLoop, refl)
head_cut n m (stmt.RankLoop t r i a) e = (same_Some n m e, kind.RankLoop, refl)
head_cut n m _ e = absurd (none-some m e)

yield_there : (body : List Stmt) (r : Rest) → Belongs body r → (n : ℕ) → yield_before r ≡ Some n → IsCutThere body n
yield_there body [] h n e = absurd (none-some n e)
yield_there body (q ∷ k) h n e = by_layer (layer_yields (out-Stmt q.1)) (layer_leads (out-Stmt q.1)) refl (yield_there body k h.1 n) e
  where
    by_layer : (y l : Bool) → layer_yields (out-Stmt q.1) ≡ y → (yield_before k ≡ Some n → IsCutThere body n) → (if y then Some q.0 else (if l then yield_before k else None)) ≡ Some n → IsCutThere body n
    by_layer true l f later e =
        let same : q.0 ≡ n = same_Some q.0 n e in
        (q.1, kind.Yield, subst (λ (m : ℕ). statement_at body m ≡ Some q.1) same (begins_stands body q.0 q.1 k (own_place body (q ∷ k) h)), yields_cut (out-Stmt q.1) f)
    by_layer false true f later e = later e
    by_layer false false f later e = absurd (none-some n e)

head_stands : (body : List Stmt) (place : ℕ) (o : Option Spot) → spot_at body place ≡ o → (n : ℕ) → head_there o ≡ Some n → IsCutThere body n
head_stands body place None f n e = absurd (none-some n e)
head_stands body place (Some s) f n e =
    let h = head_cut s.number n (out-Stmt s.stmt) e in
    (s.stmt, h.1, subst (λ (m : ℕ). statement_at body m ≡ Some s.stmt) h.0 (spot_stands body place s f), h.2)

pub ahead_there : (body : List Stmt) (place n : ℕ) → cut_ahead body place ≡ Some n → IsCutThere body n
ahead_there body place n e = by_yield (yield_before (rest_at body place)) refl e
  where
    by_yield : (o : Option ℕ) → yield_before (rest_at body place) ≡ o → option_map_or (λ number. Some number) o (head_there (spot_at body place)) ≡ Some n → IsCutThere body n
    by_yield (Some m) f e = yield_there body (rest_at body place) (rest_belongs body place) n (f ∙ e)
    by_yield None f e = head_stands body place (spot_at body place) refl n e

pub cuts_ahead_are_cuts : CutsAheadAreCuts
cuts_ahead_are_cuts program step q proc place number of e =
    let there = ahead_there proc.body place number e in
    (_, cut_there proc of.refines of.refined number there.0 there.1 there.2 there.3, refl)
