-- Values that are the same, one at a time.
use Rattle.std.proofs.Common.{◌≡◌, ℕ, ◌+◌, ◌<◌, ◌≤◌, List, [], ◌∷◌, drop, length, get_or, refl, sym, ap, ◌∙◌, subst, arith}
use Rattle.std.specs.Prelude.{IsTrue, Bool}
use Rattle.std.proofs.lemmas.List.{drop_all}
use Rattle.civl_bits.specs.declared.value.Value.{Value}
use Rattle.civl_tree.specs.declared.program.Global.{Global}
use Rattle.civl_tree.proofs.Lists.{drop_is}
use Rattle.civl_conditions.specs.footprints.Agreement.{AgreeOn}

module _ (test : Global → Bool) (gs : List Global) (vs ws : List Value) (at : ℕ) (g : Global) (v w : Value) (hg : at < length gs) (eg : g ≡ get_or gs at g) (hv : at < length vs) (ev : v ≡ get_or vs at v) (hw : at < length ws) (ew : w ≡ get_or ws at w) where
  here : AgreeOn test (drop at gs) (drop at vs) (drop at ws) ≡ AgreeOn test (g ∷ drop (at + 1) gs) (v ∷ drop (at + 1) vs) (w ∷ drop (at + 1) ws)
  here =
      ap (λ (l : List Global). AgreeOn test l (drop at vs) (drop at ws)) (drop_is gs at g hg eg)
      ∙ (ap (λ (l : List Value). AgreeOn test (g ∷ drop (at + 1) gs) l (drop at ws)) (drop_is vs at v hv ev)
      ∙ ap (λ (l : List Value). AgreeOn test (g ∷ drop (at + 1) gs) (v ∷ drop (at + 1) vs) l) (drop_is ws at w hw ew))

  pub agree_from : (IsTrue (test g) → v ≡ w) → AgreeOn test (drop (at + 1) gs) (drop (at + 1) vs) (drop (at + 1) ws) → AgreeOn test (drop at gs) (drop at vs) (drop at ws)
  agree_from h a = subst (λ (t : Type 0). t) (sym here) (h, a)

  pub agree_to : AgreeOn test (drop at gs) (drop at vs) (drop at ws) → (IsTrue (test g) → v ≡ w) × AgreeOn test (drop (at + 1) gs) (drop (at + 1) vs) (drop (at + 1) ws)
  agree_to a = subst (λ (t : Type 0). t) here a

pub agree_end : (test : Global → Bool) (gs : List Global) (vs ws : List Value) (at : ℕ) → length gs ≤ at → length vs ≤ at → length ws ≤ at → AgreeOn test (drop at gs) (drop at vs) (drop at ws)
agree_end test gs vs ws at hg hv hw =
    subst (λ (l : List Global). AgreeOn test l (drop at vs) (drop at ws)) (sym (drop_all at gs hg))
    (subst (λ (l : List Value). AgreeOn test [] l (drop at ws)) (sym (drop_all at vs hv)) (subst (λ (l : List Value). AgreeOn test [] [] l) (sym (drop_all at ws hw)) tt))

pub agree_lengths : (test : Global → Bool) (gs : List Global) (vs ws : List Value) → AgreeOn test gs vs ws → (length vs ≡ length gs) × (length ws ≡ length gs)
agree_lengths test [] [] [] a = (refl, refl)
agree_lengths test [] [] (w ∷ ws) a = absurd a
agree_lengths test [] (v ∷ vs) ws a = absurd a
agree_lengths test (g ∷ gs) [] ws a = absurd a
agree_lengths test (g ∷ gs) (v ∷ vs) [] a = absurd a
agree_lengths test (g ∷ gs) (v ∷ vs) (w ∷ ws) a = let r = agree_lengths test gs vs ws a.1 in (omega (arith, r.0), omega (arith, r.1))
