-- The commits and intros that take effect before a step: they read no choices, leave the locals, and leave the globals of the
-- lower program.
use Rattle.std.proofs.Common.{◌≡◌, ℕ, zero, suc, ◌-◌, ◌≤◌, Bool, true, false, not, ◌&&◌, List, [], ◌∷◌, Option, None, Some, refl, sym, ap, ◌∙◌, subst, arith}
use Rattle.std.specs.Prelude.{slice_get, slice_set, nat_eq, nat_le}
use Rattle.std.specs.Option.{option_map_or}
use Rattle.std.specs.List.{Contains}
use Rattle.std.proofs.lemmas.Bool.{not-false, leb-true, eqb-true, and_parts, true≢false}
use Rattle.std.proofs.lemmas.Option.{none-some}
use Rattle.civl_bits.specs.declared.value.Value.{Value}
use Rattle.civl_tree.specs.declared.name.Name.{Name}
use Rattle.civl_tree.specs.declared.program.Global.{Global}
use Rattle.civl_tree.specs.declared.program.Refines.{Refines}
use Rattle.civl_tree.specs.declared.program.Proc.{Proc}
use Rattle.civl_tree.specs.declared.program.Program.{Program}
use Rattle.civl_tree.specs.declared.stmt.Stmt.{Stmt, out-Stmt}
use Rattle.civl_tree.specs.declared.stmt.Stmt.TheOpen as stmt
use Rattle.civl_tree.specs.Numbering.{statements_of, statement_at}
use Rattle.civl_tree.specs.rules.Names.{global_names}
use Rattle.civl_tree.specs.rules.Count.{is_within}
use Rattle.civl_tree.proofs.Kept.{statement_kept, proc_kept}
use Rattle.civl_firing.specs.declared.store.Store.{Store}
use Rattle.civl_firing.specs.Truth.{place_of}
use Rattle.civl_firing.proofs.Finding.{found_at}
use Rattle.civl_meaning.specs.Rest.{Rest, rest_at}
use Rattle.civl_layers.specs.Names.{global_named}
use Rattle.civl_layers.specs.Range.{refines_range}
use Rattle.civl_layers.specs.Introduced.{begins_elsewhere, form_introduced, stmt_introduced}
use Rattle.civl_layers.specs.LayerRules.{layer_rules, range_rule, introduced_rule}
use Rattle.civl_layers.specs.Layered.{IsLayered}
use Rattle.civl_conditions.specs.footprints.Agreement.{AgreeOn, StoresAgree, exists_at}
use Rattle.civl_conditions.specs.paths.Paths.{Course, Progress, committed, introduced}
use Rattle.civl_conditions.specs.paths.Runs.{layer_led, led}
use Rattle.civl_conditions.specs.paths.Seen.{IsProcOf, lower_course}
use Rattle.civl_conditions.proofs.paths.Each.{EachIn, rest_each}

-- ---- choices

led_by : (o : Option Progress) (f g : Progress → Progress) (p : Progress) → ((q : Progress) → f q ≡ g q) → option_map_or f o p ≡ option_map_or g o p
led_by None f g p h = refl
led_by (Some q) f g p h = h q

module _ (program : Program) (step : ℕ) (proc : Proc) where
  abbrev pub course : (ℕ → List Value) → Course
  course chosen = lower_course program step proc chosen

  one_led : (f g : ℕ → List Value) (d : stmt.Stmt-F Stmt) (p : Progress) → layer_led (course f) d p ≡ layer_led (course g) d p
  one_led f g stmt.Commit p = refl
  one_led f g (stmt.Intro x e) p = refl
  one_led f g _ p = refl

  pub led_same : (f g : ℕ → List Value) (r : Rest) (p : Progress) → led (course f) r p ≡ led (course g) r p
  led_same f g [] p = refl
  led_same f g (q ∷ k) p =
      ap (λ (o : Option Progress). option_map_or (led (course f) k) o p) (one_led f g (out-Stmt q.1) p)
      ∙ led_by (layer_led (course g) (out-Stmt q.1) p) (led (course f) k) (led (course g) k) p (led_same f g k)

  -- ---- what they keep

  module _ (P : Progress → Type 0) where
    -- a commit or intro keeps it
    abbrev pub Keeps : ℕ → Stmt → Type 0
    Keeps number s = (p q : Progress) → layer_led (course (λ n. [])) (out-Stmt s) p ≡ Some q → P p → P q

    led_each : (r : Rest) → EachIn Keeps r → (p : Progress) → P p → P (led (course (λ n. [])) r p)
    led_each [] h p b = b
    led_each (q ∷ k) h p b = by_layer (layer_led (course (λ n. [])) (out-Stmt q.1) p) refl (led_each k h.1)
      where
        by_layer : (o : Option Progress) → layer_led (course (λ n. [])) (out-Stmt q.1) p ≡ o → ((s : Progress) → P s → P (led (course (λ n. [])) k s)) → P (option_map_or (led (course (λ n. [])) k) o p)
        by_layer None e later = b
        by_layer (Some s) e later = later s (h.0 0 q.0 q.1 (omega arith) refl p s e b)

    pub led_keeps : ((number : ℕ) (s : Stmt) → statement_at proc.body number ≡ Some s → Keeps number s) → (chosen : ℕ → List Value) (place : ℕ) (p : Progress) → P p → P (led (course chosen) (rest_at proc.body place) p)
    led_keeps h chosen place p b =
        subst P (led_same (λ n. []) chosen (rest_at proc.body place) p)
        (led_each (rest_at proc.body place) (rest_each Keeps proc.body place (λ j n s e g. let same : n ≡ j = omega (arith, e) in h n s (ap (slice_get (statements_of proc.body)) same ∙ g))) p b)

-- ---- the globals of the lower program

pub set_unseen : (test : Global → Bool) (gs : List Global) (vs ws : List Value) (i : ℕ) (x : Value) → ((g : Global) → slice_get gs i ≡ Some g → test g ≡ false) → AgreeOn test gs vs ws → AgreeOn test gs (slice_set vs i x) ws
set_unseen test [] [] [] i x h a = tt
set_unseen test (g ∷ gs) (v ∷ vs) (w ∷ ws) zero x h a = (λ f. absurd (true≢false (sym f ∙ h g refl)), a.1)
set_unseen test (g ∷ gs) (v ∷ vs) (w ∷ ws) (suc i) x h a = (a.0, set_unseen test gs vs ws i x h a.1)
set_unseen test _ _ _ i x h a = absurd a

not_below : (step first last : ℕ) → 1 ≤ step → first ≡ step → (nat_le first (step - 1) && nat_le (step - 1) last) ≡ false
not_below step first last low e = by_test (nat_le first (step - 1)) refl
  where
    by_test : (b : Bool) → nat_le first (step - 1) ≡ b → (b && nat_le (step - 1) last) ≡ false
    by_test false h = refl
    by_test true h = absurd (omega (arith, low, e, leb-true first (step - 1) h))

module _ (program : Program) (number step : ℕ) (proc : Proc) (layered : IsLayered program) (of : IsProcOf program number step proc) where
  range_among : Contains layer_rules range_rule
  range_among = (0, omega arith, refl)

  introduced_among : Contains layer_rules introduced_rule
  introduced_among = (5, omega arith, refl)

  -- a layer is one of those above the lowest
  pub layer_within : (1 ≤ step) × (step ≤ program.layers)
  layer_within =
      let kept =
      sym (ap (λ (k : ℕ). not (is_within 1 program.layers k)) of.layered)
      ∙ sym (ap (λ (o : Option Refines). refines_range program o) of.refined)
      ∙ proc_kept layer_rules program layered.layers range_rule range_among number proc of.there in
      let p = and_parts (nat_le 1 step) (nat_le step program.layers) (not-false (is_within 1 program.layers step) kept) in
      (leb-true 1 step p.0, leb-true step program.layers p.1)

  not_elsewhere : (place : ℕ) (s : Stmt) → statement_at proc.body place ≡ Some s → form_introduced program step (out-Stmt s) ≡ false
  not_elsewhere place s there =
      sym (ap (λ (k : ℕ). form_introduced program k (out-Stmt s)) of.layered)
      ∙ sym (ap (λ (o : Option Refines). stmt_introduced program o s) of.refined)
      ∙ statement_kept layer_rules program layered.layers introduced_rule introduced_among (stmt_introduced program proc.refines) number proc of.there refl place s there

  begins_here : (o : Option Global) (g : Global) → o ≡ Some g → begins_elsewhere step o ≡ false → g.first ≡ step
  begins_here None g e h = absurd (none-some g e)
  begins_here (Some f) g e h =
      let same : f ≡ g = cc in
      ap (λ (g : Global). g.first) (sym same) ∙ eqb-true f.first step (not-false (nat_eq f.first step) h)

  -- the target of an intro doesn't exist in the lower program
  target_new : (x : Name) → begins_elsewhere step (global_named program x) ≡ false → (g : Global) → slice_get program.globals (place_of (global_names program.globals) x) ≡ Some g → exists_at (step - 1) g ≡ false
  target_new x h g e =
      let first = begins_here (global_named program x) g (sym (found_at (λ (g : Global). g.name) program.globals x) ∙ e) h in
      not_below step g.first g.last layer_within.0 first

  -- what stays of a state where commits and intros take effect: the locals, that `done` is true, and the store on the globals of
  -- the lower program
  pub record Stays (from : Progress) (store : Store) (p : Progress) : Type 0 where
    pub locals : p.locals ≡ from.locals
    pub done : from.done ≡ true → p.done ≡ true
    pub stores : StoresAgree (exists_at (step - 1)) program.globals p.store store

  one_stays : (from : Progress) (store : Store) (d : stmt.Stmt-F Stmt) → form_introduced program step d ≡ false → (p q : Progress) → layer_led (course program step proc (λ n. [])) d p ≡ Some q → Stays from store p → Stays from store q
  one_stays from store stmt.Commit h p q e b =
      let same : committed p ≡ q = cc in
      subst (Stays from store) same (record { locals = b.locals; done = λ d. refl; stores = b.stores })
  one_stays from store (stmt.Intro x v) h p q e b =
      let same : introduced (course program step proc (λ n. [])) x v p ≡ q = cc in
      subst (Stays from store) same (record {
        locals = b.locals;
        done = b.done;
        stores = set_unseen (exists_at (step - 1)) program.globals p.store.values store.values (place_of (global_names program.globals) x) _ (target_new x h) b.stores;
      })
  one_stays from store _ h p q e b = absurd (none-some q e)

  pub led_stays : (store : Store) (chosen : ℕ → List Value) (place : ℕ) (p : Progress) → StoresAgree (exists_at (step - 1)) program.globals p.store store → Stays p store (led (course program step proc chosen) (rest_at proc.body place) p)
  led_stays store chosen place p agree =
      led_keeps program step proc (Stays p store) (λ n s there. one_stays p store (out-Stmt s) (not_elsewhere n s there)) chosen place p (record { locals = refl; done = λ d. d; stores = agree })
