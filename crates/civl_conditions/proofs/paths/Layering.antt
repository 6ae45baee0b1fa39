-- In a layered program what a procedure's statements call in the lower program of its step, and what they introduce, uses
-- globals of the step alone.
use Rattle.std.proofs.Common.{◌≡◌, ◌≤◌, ℕ, ◌-◌, Bool, true, false, not, ◌||◌, ◌&&◌, Option, Some, None, find, refl, sym, ap, ◌∙◌, subst, arith}
use Rattle.std.specs.Prelude.{IsTrue, length, slice_get, option_map, nat_le, nat_lt}
use Rattle.std.specs.List.{Contains, position_or_len}
use Rattle.std.proofs.lemmas.Bool.{or_left, and_parts, and_from, not-false, leb-true, le-leb, ltb-true, ltb-false}
use Rattle.std.proofs.lemmas.Option.{slice_get_read, slice_get_within, get_or_from_slice_get, slice_get-map}
use Rattle.std.proofs.lemmas.List.Folds.{find_at}
use Rattle.civl_tree.specs.declared.name.Name.{Name}
use Rattle.civl_tree.specs.declared.stmt.Stmt.{Stmt, out-Stmt}
use Rattle.civl_tree.specs.declared.stmt.Stmt.TheOpen as stmt
use Rattle.civl_tree.specs.declared.action.Action.{Action}
use Rattle.civl_tree.specs.declared.program.Global.{Global}
use Rattle.civl_tree.specs.declared.program.Refines.{Refines}
use Rattle.civl_tree.specs.declared.program.Proc.{Proc}
use Rattle.civl_tree.specs.declared.program.Program.{Program}
use Rattle.civl_tree.specs.Numbering.{statements_of, statement_at}
use Rattle.civl_tree.specs.rules.Names.{same_name, action_named, proc_named}
use Rattle.civl_tree.proofs.Kept.{statement_kept}
use Rattle.civl_firing.proofs.Finding.{found_at}
use Rattle.civl_meaning.specs.declared.config.Plain.{Plain}
use Rattle.civl_meaning.specs.Meaning.{Meaning, Does, Runs, Missing, proc_number, meaning_of_action, refined, meaning_by, meaning_of, meaning_else, called}
use Rattle.civl_meaning.specs.Layers.{means_body, program_at}
use Rattle.civl_layers.specs.Ranges.{Range, exists_in, exists_through, life_end}
use Rattle.civl_layers.specs.Names.{global_range, action_range}
use Rattle.civl_layers.specs.Hidden.{hidden_around, hidden_at_step, form_hidden, stmt_hidden}
use Rattle.civl_layers.specs.NotThere.{action_missing, refined_missing, run_missing, call_missing, form_missing, stmt_missing}
use Rattle.civl_layers.specs.LayerRules.{layer_rules, hidden_rule, not_there_rule}
use Rattle.civl_layers.specs.Layered.{IsLayered}
use Rattle.civl_conditions.specs.footprints.Agreement.{fails_test, names_other, exists_at}
use Rattle.civl_conditions.proofs.footprints.Existing.{uses_less, action_uses_less, uses_what_exists}
use Rattle.civl_conditions.specs.paths.Seen.{IsProcOf, lower_course, exists_near, StepsSeeTheirGlobals, PathsSeeTheirGlobals}
use Rattle.civl_conditions.proofs.paths.Seeing.{MeansSeen, CallSeen, FormSeen, step_alike}
use Rattle.civl_conditions.proofs.paths.Alike.{path_alike}

-- ---- ranges

-- a range that has all layers from one to another has the last of these, where there is one
last_exists : (first last : ℕ) (range : Range) → first ≤ last → exists_through first last range ≡ true → exists_in last range ≡ true
last_exists first last range low e = by_order (nat_lt last first) refl e
  where
    by_order : (b : Bool) → nat_lt last first ≡ b → (b || (nat_le range.first first && nat_le last range.last)) ≡ true → exists_in last range ≡ true
    by_order true q k = let w = ltb-true last first q in absurd (omega arith)
    by_order false q k =
        let p = and_parts (nat_le range.first first) (nat_le last range.last) k in
        let from : range.first ≤ last = omega (arith, leb-true range.first first p.0) in
        and_from (nat_le range.first last) (nat_le last range.last) (le-leb range.first last from) p.1

-- ---- what is called

module _ (program : Program) (layered : IsLayered program) (layer : ℕ) where
  abbrev Exists : Meaning → Type 0
  Exists (Does action) = (place : ℕ) × (slice_get program.actions place ≡ Some action) × IsTrue (exists_in layer (action_range action))
  Exists (Runs number proc) = Unit {0}
  Exists Missing = Unit {0}

  action_exists : (first : ℕ) (name : Name) → first ≤ layer → action_missing first layer (action_named program name) ≡ false → Exists (meaning_of_action (action_named program name))
  action_exists first name low kept = by_found (action_named program name) (sym (find_at (λ (action : Action). same_name name action.name) program.actions)) kept
    where
      by_found : (o : Option Action) → slice_get program.actions (position_or_len (λ (action : Action). same_name name action.name) program.actions) ≡ o → action_missing first layer o ≡ false → Exists (meaning_of_action o)
      by_found None e k = tt
      by_found (Some action) e k = (_, e, last_exists first layer (action_range action) low (not-false (exists_through first layer (action_range action)) k))

  refined_exists : (o : Option Refines) → means_body layer o ≡ false → refined_missing program layer o ≡ false → Exists (refined program o)
  refined_exists None b k = tt
  refined_exists (Some r) b k = action_exists r.layer r.action (ltb-false layer r.layer b) k

  meaning_exists : (o : Option Proc) (number : ℕ) → run_missing program layer o ≡ false → Exists (meaning_by program (option_map (λ (p : Proc). means_body layer p.refines) o) number o)
  meaning_exists None number k = tt
  meaning_exists (Some proc) number k = by_body (means_body layer proc.refines) refl
    where
      by_body : (b : Bool) → means_body layer proc.refines ≡ b → Exists (meaning_by program (Some b) number (Some proc))
      by_body true e = tt
      by_body false e = refined_exists proc.refines e k

  proc_exists : (name : Name) → run_missing program layer (proc_named program name) ≡ false → Exists (meaning_of (program_at program layer) (proc_number program name))
  proc_exists name k =
      let found : slice_get program.procs (proc_number program name) ≡ proc_named program name = found_at (λ (p : Proc). p.name) program.procs name in
      let body = slice_get-map (λ (p : Proc). means_body layer p.refines) program.procs (proc_number program name) in
      subst (λ (b : Option Bool). Exists (meaning_by program b (proc_number program name) (slice_get program.procs (proc_number program name)))) (sym body)
      (subst (λ (o : Option Proc). Exists (meaning_by program (option_map (λ (p : Proc). means_body layer p.refines) o) (proc_number program name) o)) (sym found)
      (meaning_exists (proc_named program name) (proc_number program name) k))

  -- an action that is called exists in the layer
  called_exists : (name : Name) → call_missing program layer (action_named program name) (proc_named program name) ≡ false → Exists (called (program_at program layer) name)
  called_exists name k = by_action (action_named program name) refl k
    where
      by_action : (o : Option Action) → action_named program name ≡ o → call_missing program layer o (proc_named program name) ≡ false → Exists (meaning_else (program_at program layer) name o)
      by_action None e k = proc_exists name k
      by_action (Some action) e k =
          subst (λ (o : Option Action). Exists (meaning_of_action o)) e (action_exists 0 name (omega arith) (ap (action_missing 0 layer) e ∙ k))

  -- and uses what exists there
  exists_seen : (m : Meaning) → Exists m → MeansSeen (exists_at layer) (program_at program layer) m
  exists_seen (Does action) h = uses_what_exists program h.0 layer action layered h.1 h.2
  exists_seen (Runs number proc) h = tt
  exists_seen Missing h = tt

-- ---- the statements of a procedure

module _ (program : Program) (number step : ℕ) (proc : Proc) (layered : IsLayered program) (of : IsProcOf program number step proc) where
  abbrev lower : Plain
  lower = program_at program (step - 1)

  hidden_among : Contains layer_rules hidden_rule
  hidden_among = (1, omega arith, refl)

  not_there_among : Contains layer_rules not_there_rule
  not_there_among = (3, omega arith, refl)

  module _ (s : Stmt) (among : Contains (statements_of proc.body) s) where
    there : statement_at proc.body among.0 ≡ Some s
    there = slice_get_read (statements_of proc.body) (length (statements_of proc.body)) among.0 s refl among.1 (sym among.2)

    not_missing : form_missing program (step - 1) (out-Stmt s) ≡ false
    not_missing =
        sym (ap (λ (k : ℕ). form_missing program (k - 1) (out-Stmt s)) of.layered)
        ∙ sym (ap (λ (o : Option Refines). form_missing program (life_end program o) (out-Stmt s)) of.refined)
        ∙ statement_kept layer_rules program layered.layers not_there_rule not_there_among (stmt_missing program proc) number proc of.there refl among.0 s there

    not_hidden : form_hidden program step (out-Stmt s) ≡ false
    not_hidden =
        sym (ap (λ (k : ℕ). form_hidden program k (out-Stmt s)) of.layered)
        ∙ sym (ap (λ (o : Option Refines). stmt_hidden program o s) of.refined)
        ∙ statement_kept layer_rules program layered.layers hidden_rule hidden_among (stmt_hidden program proc.refines) number proc of.there refl among.0 s there

  -- its calls use globals of the lower program
  call_seen : (d : stmt.Stmt-F Stmt) → form_missing program (step - 1) d ≡ false → CallSeen (exists_at (step - 1)) lower d
  call_seen (stmt.Call f es rs) k = exists_seen program layered (step - 1) (called lower f) (called_exists program layered (step - 1) f k)
  call_seen _ k = tt

  pub stmt_call_seen : (s : Stmt) → Contains (statements_of proc.body) s → CallSeen (exists_at (step - 1)) lower (out-Stmt s)
  stmt_call_seen s among = call_seen (out-Stmt s) (not_missing s among)

  -- ---- and so those of the step

  lower_near : (name : Name) → names_other (exists_at (step - 1)) program.globals name ≡ false → names_other (exists_near step) program.globals name ≡ false
  lower_near name = by_global (find (λ global. same_name name global.name) program.globals)
    where
      by_global : (o : Option Global) → fails_test (exists_at (step - 1)) o ≡ false → fails_test (exists_near step) o ≡ false
      by_global None e = refl
      by_global (Some g) e = ap not (or_left (exists_at (step - 1) g) (exists_in step (global_range g)) (not-false (exists_at (step - 1) g) e))

  hidden_near : (name : Name) → hidden_at_step program step name ≡ false → names_other (exists_near step) program.globals name ≡ false
  hidden_near name = by_global (find (λ global. same_name name global.name) program.globals)
    where
      by_global : (o : Option Global) → hidden_around step o ≡ false → fails_test (exists_near step) o ≡ false
      by_global None e = refl
      by_global (Some g) e = e

  means_near : (m : Meaning) → MeansSeen (exists_at (step - 1)) lower m → MeansSeen (exists_near step) lower m
  means_near (Does action) h = action_uses_less (names_other (exists_at (step - 1)) program.globals) (names_other (exists_near step) program.globals) lower_near action h
  means_near (Runs n p) h = tt
  means_near Missing h = tt

  form_seen : (d : stmt.Stmt-F Stmt) → CallSeen (exists_at (step - 1)) lower d → form_hidden program step d ≡ false → FormSeen (exists_near step) lower d
  form_seen (stmt.Call f es rs) h k = means_near (called lower f) h
  form_seen (stmt.Intro x e) h k = uses_less (hidden_at_step program step) (names_other (exists_near step) program.globals) hidden_near e k
  form_seen _ h k = tt

  pub stmt_seen : (s : Stmt) → Contains (statements_of proc.body) s → FormSeen (exists_near step) lower (out-Stmt s)
  stmt_seen s among = form_seen (out-Stmt s) (stmt_call_seen s among) (not_hidden s among)

pub steps_see_their_globals : StepsSeeTheirGlobals
steps_see_their_globals program number step proc stmt chosen locals at next s t layered of among agree =
    step_alike (exists_at (step - 1)) (program_at program (step - 1)) s t agree chosen proc locals at next (out-Stmt stmt) (stmt_call_seen program number step proc layered of stmt among)

pub paths_see_their_globals : PathsSeeTheirGlobals
paths_see_their_globals program number step proc cut chosen p q layered of among agree =
    path_alike (exists_near step) (lower_course program step proc chosen) (λ j n s e g. stmt_seen program number step proc layered of s (j, slice_get_within (statements_of proc.body) j s g, get_or_from_slice_get (statements_of proc.body) j s s g)) cut p q agree
