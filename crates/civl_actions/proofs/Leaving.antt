-- Writes leave the terms of other names as they were.
use Rattle.std.specs.Prelude.{map, slice_get, if◌then◌else◌}
use Rattle.std.specs.Str.{bytes_eq}
use Rattle.std.proofs.Common.{◌≡◌, ◌∙◌, ℕ, zero, suc, ◌+◌, Bool, true, false, ◌||◌, List, [], ◌∷◌, set, refl, sym, ap, add-one, Some}
use Rattle.std.proofs.lemmas.Bool.{false≢true}
use Rattle.std.proofs.lemmas.Slice.Eq.{bytes_eq-Decides}
use Rattle.civl_tree.specs.declared.name.Name.{Name}
use Rattle.civl_tree.specs.declared.action.Update.{Update}
use Rattle.civl_tree.specs.rules.Names.{same_name, has_name}
use Rattle.civl_tree.proofs.Naming.{bytes_same}
use Rattle.civl_firing.specs.Truth.{place_of}
use Rattle.civl_actions.specs.Actions.{LeavesOthers}
use Rattle.civl_actions.proofs.Rules.{has_same}

pub leaves_none : (names written : List Name) (ids : List ℕ) → LeavesOthers names written ids ids
leaves_none names written ids place name at missing = refl

-- another name's place
set_other : (names : List Name) (ids : List ℕ) (t : Name) (place : ℕ) (name : Name) (id : ℕ) → slice_get names place ≡ Some name → (bytes_eq name.bytes t.bytes ≡ true → ⊥) → slice_get (set ids (place_of names t) id) place ≡ slice_get ids place
set_other [] ids t place name id at apart = absurd (cc)
set_other (n ∷ names) [] t place name id at apart = refl
set_other (n ∷ names) (x ∷ ids) t zero name id at apart = by (bytes_eq n.bytes t.bytes) refl
  where
    some_same : Some n ≡ Some name → n ≡ name
    some_same e = cc

    by : (b : Bool) → bytes_eq n.bytes t.bytes ≡ b → slice_get (set (x ∷ ids) (if b then 0 else place_of names t + 1) id) zero ≡ Some x
    by true e = absurd (apart (ap (λ (m : Name). bytes_eq m.bytes t.bytes) (sym (some_same at)) ∙ e))
    by false e = ap (λ (k : ℕ). slice_get (set (x ∷ ids) k id) zero) (add-one (place_of names t))
set_other (n ∷ names) (x ∷ ids) t (suc place) name id at apart = by (bytes_eq n.bytes t.bytes) (set_other names ids t place name id at apart)
  where
    by : (b : Bool) → slice_get (set ids (place_of names t) id) place ≡ slice_get ids place → slice_get (set (x ∷ ids) (if b then 0 else place_of names t + 1) id) (suc place) ≡ slice_get ids place
    by true e = refl
    by false e = ap (λ (k : ℕ). slice_get (set (x ∷ ids) k id) (suc place)) (add-one (place_of names t)) ∙ e

pub leaves_set : (names written : List Name) (before after : List ℕ) (t : Name) (id : ℕ) → has_name written t ≡ true → LeavesOthers names written before after → LeavesOthers names written before (set after (place_of names t) id)
leaves_set names written before after t id there h place name at missing =
    set_other names after t place name id at (λ e. false≢true (sym missing ∙ has_same written name t ((bytes_eq-Decides name.bytes t.bytes).0 e) ∙ there)) ∙ h place name at missing

-- what is updated is among the targets
pub target_there : (us : List Update) (i : ℕ) (u : Update) → slice_get us i ≡ Some u → has_name (map (λ (v : Update). v.target) us) u.target ≡ true
target_there [] i u e = absurd (cc)
target_there (v ∷ us) zero u e = here (some_same e)
  where
    some_same : Some v ≡ Some u → v ≡ u
    some_same q = cc

    here : v ≡ u → (same_name u.target v.target || has_name (map (λ (w : Update). w.target) us) u.target) ≡ true
    here q = ap (λ (b : Bool). b || has_name (map (λ (w : Update). w.target) us) u.target) (bytes_same u.target v.target (ap (λ (w : Update). w.target.bytes) (sym q)))
target_there (v ∷ us) (suc i) u e = later (same_name u.target v.target) (target_there us i u e)
  where
    later : (b : Bool) → has_name (map (λ (w : Update). w.target) us) u.target ≡ true → (b || has_name (map (λ (w : Update). w.target) us) u.target) ≡ true
    later true h = refl
    later false h = h
