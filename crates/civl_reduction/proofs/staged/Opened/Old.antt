-- An open block goes on: behind a step of its frame the path's state is the frame's, in the store with the shadow's values.
use Rattle.std.proofs.Common.{◌≡◌, ℕ, ◌+◌, Bool, true, false, not, List, [], ◌∷◌, map, Option, None, Some, slice_get, refl, sym, ap, ◌∙◌, subst, arith, Contains, nat_eq}
use Rattle.std.specs.Prelude.{if◌then◌else◌}
use Rattle.std.proofs.lemmas.Bool.{false≢true}
use Rattle.std.proofs.lemmas.Option.{same_Some, none-some}
use Rattle.civl_bits.specs.declared.value.Value.{Value}
use Rattle.civl_firing.specs.values.Values.{HaveSorts}
use Rattle.civl_tree.specs.declared.name.Name.{Name}
use Rattle.civl_tree.specs.declared.program.Global.{Global}
use Rattle.civl_tree.specs.declared.program.Refines.{Refines}
use Rattle.civl_tree.specs.declared.program.Proc.{Proc}
use Rattle.civl_tree.specs.declared.program.Program.{Program}
use Rattle.civl_tree.specs.declared.stmt.Stmt.{Stmt, out-Stmt}
use Rattle.civl_tree.specs.declared.stmt.Stmt.TheOpen as stmt
use Rattle.civl_tree.specs.Numbering.{statement_at}
use Rattle.civl_tree.specs.rules.Names.{global_names}
use Rattle.civl_tree.proofs.Kept.{statement_kept}
use Rattle.civl_firing.specs.declared.store.Store.{Store}
use Rattle.civl_firing.specs.Stores.{IsStore}
use Rattle.civl_firing.specs.Truth.{place_of}
use Rattle.civl_firing.proofs.Finding.{found_at}
use Rattle.civl_firing.proofs.Having.{rest_sorts}
use Rattle.civl_meaning.specs.Rest.{rest_at}
use Rattle.civl_layers.specs.Names.{global_named}
use Rattle.civl_layers.specs.Introduced.{begins_elsewhere, form_introduced, stmt_introduced}
use Rattle.civl_layers.specs.LayerRules.{layer_rules, introduced_rule}
use Rattle.civl_layers.specs.Layered.{IsLayered}
use Rattle.civl_conditions.specs.footprints.Agreement.{AgreeOn}
use Rattle.civl_conditions.specs.paths.Paths.{Progress, committed, introduced}
use Rattle.civl_conditions.specs.paths.Runs.{layer_led, led}
use Rattle.civl_conditions.specs.paths.Seen.{IsProcOf, lower_course}
use Rattle.civl_reduction.proofs.open_blocks.Following.Leading.{led_keeps, set_unseen}
use Rattle.civl_reduction.specs.blocks.Shadow.{merged_values, merged}

-- ---- what isn't introduced stays

-- the globals that the step doesn't introduce
abbrev pub is_old : ℕ → Global → Bool
is_old step g = not (nat_eq g.first step)

-- with its own values a list that agrees on what is old is itself
merge_back : (step : ℕ) (gs : List Global) (vs ls : List Value) → AgreeOn (is_old step) gs ls vs → merged_values step gs vs ls ≡ ls
merge_back step [] [] [] a = refl
merge_back step (g ∷ gs) (v ∷ vs) (l ∷ ls) a = ap (λ (x : Value). x ∷ merged_values step gs vs ls) (head (nat_eq g.first step) refl) ∙ ap (λ (xs : List Value). l ∷ xs) (merge_back step gs vs ls a.1)
  where
    head : (b : Bool) → nat_eq g.first step ≡ b → (if b then l else v) ≡ l
    head true e = refl
    head false e = sym (a.0 (ap not e))
merge_back step [] vs (l ∷ ls) a = absurd a
merge_back step [] (v ∷ vs) [] a = absurd a
merge_back step (g ∷ gs) vs [] a = absurd a
merge_back step (g ∷ gs) [] (l ∷ ls) a = absurd a

merged_old : (step : ℕ) (gs : List Global) (vs ws : List Value) → AgreeOn (λ g. false) gs vs ws → AgreeOn (is_old step) gs (merged_values step gs vs ws) vs
merged_old step [] [] [] a = tt
merged_old step (g ∷ gs) (v ∷ vs) (w ∷ ws) a = (head (nat_eq g.first step), merged_old step gs vs ws a.1)
  where
    head : (b : Bool) → not b ≡ true → (if b then w else v) ≡ v
    head true e = absurd (false≢true e)
    head false e = refl
merged_old step _ _ _ a = absurd a

module _ (program : Program) (number step : ℕ) (proc : Proc) (layered : IsLayered program) (of : IsProcOf program number step proc) (vs : List Value) where
  introduced_among : Contains layer_rules introduced_rule
  introduced_among = (5, omega arith, refl)

  not_elsewhere : (place : ℕ) (s : Stmt) → statement_at proc.body place ≡ Some s → form_introduced program step (out-Stmt s) ≡ false
  not_elsewhere place s there =
      sym (ap (λ (k : ℕ). form_introduced program k (out-Stmt s)) of.layered)
      ∙ sym (ap (λ (o : Option Refines). stmt_introduced program o s) of.refined)
      ∙ statement_kept layer_rules program layered.layers introduced_rule introduced_among (stmt_introduced program proc.refines) number proc of.there refl place s there

  begins_here : (o : Option Global) (g : Global) → o ≡ Some g → begins_elsewhere step o ≡ false → is_old step g ≡ false
  begins_here None g e h = absurd (none-some g e)
  begins_here (Some f) g e h = ap (is_old step) (sym (same_Some f g e)) ∙ h

  target_new : (x : Name) → begins_elsewhere step (global_named program x) ≡ false → (g : Global) → slice_get program.globals (place_of (global_names program.globals) x) ≡ Some g → is_old step g ≡ false
  target_new x h g e = begins_here (global_named program x) g (sym (found_at (λ (g : Global). g.name) program.globals x) ∙ e) h

  abbrev Old : Progress → Type 0
  Old p = AgreeOn (is_old step) program.globals p.store.values vs

  one_old : (d : stmt.Stmt-F Stmt) → form_introduced program step d ≡ false → (p q : Progress) → layer_led (lower_course program step proc (λ n. [])) d p ≡ Some q → Old p → Old q
  one_old stmt.Commit h p q e b =
      let same : committed p ≡ q = cc in
      subst Old same b
  one_old (stmt.Intro x v) h p q e b =
      let same : introduced (lower_course program step proc (λ n. [])) x v p ≡ q = cc in
      subst Old same (set_unseen (is_old step) program.globals p.store.values vs (place_of (global_names program.globals) x) _ (target_new x h) b)
  one_old _ h p q e b = absurd (none-some q e)

  -- commits and intros leave the old globals
  pub led_old : (place : ℕ) (p : Progress) → AgreeOn (is_old step) program.globals p.store.values vs → AgreeOn (is_old step) program.globals (led (lower_course program step proc (λ n. [])) (rest_at proc.body place) p).store.values vs
  led_old place p b = led_keeps program step proc Old (λ n s there. one_old (out-Stmt s) (not_elsewhere n s there)) (λ n. []) place p b

-- a store with its own introduced values is itself, if it agrees on the others
pub merged_itself : (program : Program) (layer : ℕ) (store led : Store) → AgreeOn (is_old (layer + 1)) program.globals led.values store.values → merged program layer store led ≡ led
merged_itself program layer store led a = ap (λ (xs : List Value). record { values = xs }) (merge_back (layer + 1) program.globals store.values led.values a)

-- both have a value for each global
both_there : (gs : List Global) (vs ws : List Value) → HaveSorts vs (map (λ g. g.sort) gs) → HaveSorts ws (map (λ g. g.sort) gs) → AgreeOn (λ (g : Global). false) gs vs ws
both_there [] [] [] h k = tt
both_there [] (v ∷ vs) ws h k = absurd (false≢true h.are)
both_there [] [] (w ∷ ws) h k = absurd (false≢true k.are)
both_there (g ∷ gs) [] ws h k = absurd (false≢true h.are)
both_there (g ∷ gs) (v ∷ vs) [] h k = absurd (false≢true k.are)
both_there (g ∷ gs) (v ∷ vs) (w ∷ ws) h k = ((λ e. absurd (false≢true e)), both_there gs vs ws (rest_sorts v g.sort vs (map (λ g. g.sort) gs) h) (rest_sorts w g.sort ws (map (λ g. g.sort) gs) k))

pub merged_is_old : (program : Program) (layer : ℕ) (store other : Store) → IsStore program.globals store → IsStore program.globals other → AgreeOn (is_old (layer + 1)) program.globals (merged program layer store other).values store.values
merged_is_old program layer store other h k = merged_old (layer + 1) program.globals store.values other.values (both_there program.globals store.values other.values h k)
