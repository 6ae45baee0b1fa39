-- What a condition on actions says of a store, it says of each store that agrees with it on the globals of the lower program.
use Rattle.std.proofs.Common.{◌≡◌, ℕ, ◌-◌, Bool, true, false, not, ◌&&◌, ◌||◌, List, [], ◌∷◌, ◌++◌, Option, Some, None, refl, sym, ap, ◌∙◌, suc}
use Rattle.std.specs.Prelude.{slice_get, if◌then◌else◌, nat_eq}
use Rattle.civl_bits.specs.declared.value.Value.{Value}
use Rattle.civl_bits.specs.Value.{same_value}
use Rattle.civl_tree.specs.declared.program.Global.{Global}
use Rattle.civl_tree.specs.declared.program.Program.{Program}
use Rattle.civl_firing.specs.declared.store.Store.{Store}
use Rattle.civl_firing.specs.Fired.{guard_holds, offers}
use Rattle.civl_meaning.specs.Permissions.{pairwise_disjoint, permissions_of_global, of_globals, of_params}
use Rattle.civl_linear.specs.Modes.{is_lent}
use Rattle.civl_conditions.specs.footprints.Agreement.{AgreeOn, StoresAgree, exists_at}
use Rattle.civl_conditions.specs.footprints.Laws.{ActsAlike, FireAlike}
use Rattle.civl_conditions.specs.Values.{Invoked, same_in, same_values}
use Rattle.civl_conditions.specs.Permissions.{in_store, of_inputs, of_modes, included}
use Rattle.civl_conditions.specs.Movers.{on_some, fires_of, apart, loses, clashes, spoils, reveals, waits, pair_fails}

-- ---- bools

pub same_and : (a b c d : Bool) → a ≡ b → c ≡ d → (a && c) ≡ (b && d)
same_and a b c d e f = ap (λ (x : Bool). x && c) e ∙ ap (λ (x : Bool). b && x) f

same_if : (test a b c d : Bool) → a ≡ b → c ≡ d → (if test then a else c) ≡ (if test then b else d)
same_if true a b c d e f = e
same_if false a b c d e f = f

-- ---- lists

pub same_in_same : (test : Global → Bool) (gs : List Global) (vs ws xs ys : List Value) → AgreeOn test gs vs xs → AgreeOn test gs ws ys → same_in test gs vs ws ≡ same_in test gs xs ys
same_in_same test [] [] [] [] [] a b = refl
same_in_same test (g ∷ gs) (v ∷ vs) (w ∷ ws) (x ∷ xs) (y ∷ ys) a b = same_and (not (test g) || same_value v w) (not (test g) || same_value x y) _ _ (head (test g) refl) (same_in_same test gs vs ws xs ys a.1 b.1)
  where
    head : (c : Bool) → test g ≡ c → (not (test g) || same_value v w) ≡ (not (test g) || same_value x y)
    head true e = ap (λ (u : Value). not (test g) || same_value u w) (a.0 e) ∙ ap (λ (u : Value). not (test g) || same_value x u) (b.0 e)
    head false e = ap (λ (c : Bool). not c || same_value v w) e ∙ sym (ap (λ (c : Bool). not c || same_value x y) e)
same_in_same test [] [] (w ∷ ws) [] ys a b = absurd b
same_in_same test [] [] [] [] (y ∷ ys) a b = absurd b
same_in_same test (g ∷ gs) (v ∷ vs) [] (x ∷ xs) ys a b = absurd b
same_in_same test (g ∷ gs) (v ∷ vs) (w ∷ ws) (x ∷ xs) [] a b = absurd b
same_in_same test _ _ _ _ _ a b = absurd a

-- the linear globals pass the test
abbrev pub LinearPass : (Global → Bool) → List Global → Type 0
LinearPass test gs = (place : ℕ) (g : Global) → slice_get gs place ≡ Some g → g.linear ≡ true → test g ≡ true

pub same_linear : (test : Global → Bool) (gs : List Global) (vs ws : List Value) → LinearPass test gs → AgreeOn test gs vs ws → of_globals gs vs ≡ of_globals gs ws
same_linear test [] [] [] l a = refl
same_linear test (g ∷ gs) (v ∷ vs) (w ∷ ws) l a =
    ap (λ (ps : List (List ℕ)). ps ++ of_globals gs vs) (head g.linear refl) ∙ ap (λ (ps : List (List ℕ)). (if g.linear then permissions_of_global w ∷ [] else []) ++ ps) (same_linear test gs vs ws (λ k h e. l (suc k) h e) a.1)
  where
    head : (c : Bool) → g.linear ≡ c → (if g.linear then permissions_of_global v ∷ [] else []) ≡ (if g.linear then permissions_of_global w ∷ [] else [])
    head true e = ap (λ (u : Value). if g.linear then permissions_of_global u ∷ [] else []) (a.0 (l 0 g refl e))
    head false e = ap (λ (c : Bool). if c then permissions_of_global v ∷ [] else []) e ∙ sym (ap (λ (c : Bool). if c then permissions_of_global w ∷ [] else []) e)
same_linear test _ _ _ l a = absurd a

-- ---- conditions

module _ (program : Program) (step : ℕ) (linear : LinearPass (exists_at (step - 1)) program.globals) where
  abbrev Agree : Store → Store → Type 0
  Agree s t = StoresAgree (exists_at (step - 1)) program.globals s t

  -- it does the same in all stores that agree
  abbrev Alike : Invoked → Type 0
  Alike x = (s t : Store) → Agree s t → ActsAlike (exists_at (step - 1)) program.globals s t x.action x.inputs

  same_some : (a b : Option (Store × List Value)) (f h : Store × List Value → Bool) → FireAlike (exists_at (step - 1)) program.globals a b → ((p q : Store × List Value) → Agree p.0 q.0 → p.1 ≡ q.1 → f p ≡ h q) → on_some a f ≡ on_some b h
  same_some None None f h alike each = refl
  same_some (Some p) (Some q) f h alike each = each p q alike.0 alike.1
  same_some None (Some q) f h alike each = absurd alike
  same_some (Some p) None f h alike each = absurd alike

  same_held : (s t : Store) → Agree s t → in_store program s ≡ in_store program t
  same_held s t a = same_linear (exists_at (step - 1)) program.globals s.values t.values linear a

  pub same_loses : (x : Invoked) → Alike x → (s t : Store) → Agree s t → loses program s x ≡ loses program t x
  same_loses x like s t a =
      same_and _ _ _ _ (ap (λ (ps : List (List ℕ)). pairwise_disjoint (ps ++ of_inputs x)) (same_held s t a))
      (same_and _ _ _ _ (like s t a).gate
      (same_some (fires_of program s x) (fires_of program t x) _ _ ((like s t a).fired x.chosen) (λ p q near e.
      ap (λ (ps : List (List ℕ)). leaves (out ps p.1) (in_store program s ++ of_inputs x)) (same_held p.0 q.0 near)
      ∙ (ap (λ (vs : List Value). leaves (out (in_store program q.0) vs) (in_store program s ++ of_inputs x)) e
      ∙ ap (λ (ps : List (List ℕ)). leaves (out (in_store program q.0) q.1) (ps ++ of_inputs x)) (same_held s t a)))))
    where
      leaves : List (List ℕ) → List (List ℕ) → Bool
      leaves outgoing incoming = not (pairwise_disjoint outgoing && included outgoing incoming)

      out : List (List ℕ) → List Value → List (List ℕ)
      out held outs = held ++ (of_modes is_lent x.action.params x.inputs ++ of_params x.action.outs outs)

  same_apart : (x y : Invoked) (s t : Store) → Agree s t → apart program s x y ≡ apart program t x y
  same_apart x y s t a = ap (λ (ps : List (List ℕ)). pairwise_disjoint (ps ++ (of_inputs x ++ of_inputs y))) (same_held s t a)

  same_clashes : (x y : Invoked) → Alike x → Alike y → (s t : Store) → Agree s t → clashes program step s x y ≡ clashes program step t x y
  same_clashes x y like kind s t a =
      same_and _ _ _ _ (like s t a).gate
      (same_and _ _ _ _ (kind s t a).gate
      (same_some (fires_of program s x) (fires_of program t x) _ _ ((like s t a).fired x.chosen) (λ p q near e.
      same_and _ _ _ _ (kind p.0 q.0 near).gate
      (same_some (fires_of program p.0 y) (fires_of program q.0 y) _ _ ((kind p.0 q.0 near).fired y.chosen) (λ k l close f.
      ap not (same_some (fires_of program s y) (fires_of program t y) _ _ ((kind s t a).fired y.chosen) (λ c d by h.
      same_some (fires_of program c.0 x) (fires_of program d.0 x) _ _ ((like c.0 d.0 by).fired x.chosen) (λ m n last i.
      same_and _ _ _ _ (same_in_same (exists_at (step - 1)) program.globals k.0.values m.0.values l.0.values n.0.values close last)
      (same_and _ _ _ _ (ap (λ (vs : List Value). same_values vs m.1) e ∙ ap (same_values q.1) i)
      (ap (λ (vs : List Value). same_values vs c.1) f ∙ ap (same_values l.1) h))))))))))

  same_spoils : (x y : Invoked) → Alike x → Alike y → (s t : Store) → Agree s t → spoils program s x y ≡ spoils program t x y
  same_spoils x y like kind s t a =
      same_and _ _ _ _ (like s t a).gate
      (same_and _ _ _ _ (kind s t a).gate
      (same_some (fires_of program s x) (fires_of program t x) _ _ ((like s t a).fired x.chosen) (λ p q near e. ap not (kind p.0 q.0 near).gate)))

  same_reveals : (x y : Invoked) → Alike x → Alike y → (s t : Store) → Agree s t → reveals program s x y ≡ reveals program t x y
  same_reveals x y like kind s t a =
      same_and _ _ _ _ (like s t a).gate
      (same_and _ _ _ _ (ap not (kind s t a).gate)
      (same_some (fires_of program s x) (fires_of program t x) _ _ ((like s t a).fired x.chosen) (λ p q near e. (kind p.0 q.0 near).gate)))

  pub same_pair : (number : ℕ) (x y : Invoked) → Alike x → Alike y → (s t : Store) → Agree s t → pair_fails program number step s x y ≡ pair_fails program number step t x y
  same_pair number x y like kind s t a =
      same_and _ _ _ _ (same_apart x y s t a)
      (same_if (nat_eq number 3) _ _ _ _ (same_clashes x y like kind s t a)
      (same_if (nat_eq number 4) _ _ _ _ (same_spoils x y like kind s t a)
      (same_if (nat_eq number 5) _ _ _ _ (same_clashes y x kind like s t a)
      (same_if (nat_eq number 6) _ _ _ _ (same_spoils y x kind like s t a)
      (ap (λ (b : Bool). nat_eq number 7 && b) (same_reveals x y like kind s t a))))))

  pub same_waits : (x : Invoked) → Alike x → (s t : Store) → Agree s t → waits program s x ≡ waits program t x
  same_waits x like s t a =
      same_and _ _ _ _ (like s t a).gate
      (ap not ((like s t a).guard (offers program.globals s x.action x.inputs) ∙ ap (guard_holds program.globals t x.action x.inputs) (like s t a).offered))
