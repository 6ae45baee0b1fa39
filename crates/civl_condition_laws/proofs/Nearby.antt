-- What is said at a step sees the globals of its two programs alone.
use Rattle.std.proofs.Common.{◌≡◌, ◌≤◌, ℕ, ◌-◌, zero, suc, Bool, true, false, not, ◌||◌, List, [], ◌∷◌, ◌++◌, map, filter, find, Option, Some, None, refl, sym, ap, ◌∙◌, subst, append-nil, arith}
use Rattle.std.specs.Prelude.{slice_get, nat_le, nat_eq, if◌then◌else◌}
use Rattle.std.specs.List.{Contains, list_all, list_any}
use Rattle.std.specs.Option.{option_map_or}
use Rattle.std.proofs.lemmas.Bool.{or_parts, or_left, and_parts, and_from, not-false, le-leb, leb-true, eqb-true}
use Rattle.civl_bits.specs.declared.value.Value.{Value}
use Rattle.civl_firing.specs.values.Values.{is_true}
use Rattle.civl_tree.specs.declared.name.Name.{Name}
use Rattle.civl_tree.specs.declared.expr.Expr.{Expr}
use Rattle.civl_tree.specs.declared.stmt.Stmt.{Stmt, out-Stmt}
use Rattle.civl_tree.specs.declared.stmt.Stmt.TheOpen as stmt
use Rattle.civl_tree.specs.declared.action.Action.{Action}
use Rattle.civl_tree.specs.declared.program.Global.{Global}
use Rattle.civl_tree.specs.declared.program.Invariant.{Invariant}
use Rattle.civl_tree.specs.declared.program.Refines.{Refines}
use Rattle.civl_tree.specs.declared.program.Proc.{Proc}
use Rattle.civl_tree.specs.declared.program.Program.{Program}
use Rattle.civl_tree.specs.Numbering.{statement_at}
use Rattle.civl_tree.specs.rules.Names.{same_name, global_names, names_in_proc}
use Rattle.civl_tree.specs.rules.Count.{is_within}
use Rattle.civl_tree.proofs.Kept.{global_kept, invariant_kept, proc_kept, statement_kept}
use Rattle.civl_tree.proofs.Bools.{not_second}
use Rattle.civl_firing.specs.declared.store.Store.{Store}
use Rattle.civl_firing.specs.Eval.{value_of, values_of}
use Rattle.civl_firing.specs.Scope.{present_values, global_values}
use Rattle.civl_layers.specs.declared.cut.CutKind.{CutKind}
use Rattle.civl_layers.specs.declared.cut.CutKind.TheVariants as kind
use Rattle.civl_layers.specs.Ranges.{exists_in, exists_through}
use Rattle.civl_layers.specs.Names.{uses, global_range, action_range}
use Rattle.civl_layers.specs.Hidden.{hidden_around, hidden_at_step, form_hidden, stmt_hidden, with_hidden}
use Rattle.civl_layers.specs.Range.{refines_range}
use Rattle.civl_layers.specs.LayerRules.{layer_rules, range_rule, hidden_rule, introduced_rule}
use Rattle.civl_layers.specs.Layered.{IsLayered}
use Rattle.civl_conditions.specs.footprints.Agreement.{AgreeBut, AgreeOn, StoresAgree, fails_test, names_other, action_uses, exists_at}
use Rattle.civl_conditions.proofs.footprints.Seeing.{one_value_in}
use Rattle.civl_conditions.proofs.footprints.Acting.{look_agrees, present_agree}
use Rattle.civl_conditions.proofs.footprints.Existing.{through_in, uses_less, action_uses_less, uses_what_exists}
use Rattle.civl_conditions.specs.paths.NoteValues.{plain_note_values, note_values, with_outs}
use Rattle.civl_conditions.specs.paths.Seen.{IsProcOf, exists_near}
use Rattle.civl_conditions.specs.Steps.{step_invariants}
use Rattle.civl_conditions.specs.Invariants.{holds_of_globals, invariant_lost, invariants_hold}
use Rattle.civl_conditions.specs.Assumed.{layer_invariant, layer_rank, said_at, note_holds, with_of}
use Rattle.civl_condition_laws.proofs.Carrying.{LinearPass, same_and}

pub agree_less : (test fewer : Global → Bool) → ((g : Global) → fewer g ≡ true → test g ≡ true) → (gs : List Global) (vs ws : List Value) → AgreeOn test gs vs ws → AgreeOn fewer gs vs ws
agree_less test fewer less [] [] [] a = tt
agree_less test fewer less (g ∷ gs) (v ∷ vs) (w ∷ ws) a = (λ f. a.0 (less g f), agree_less test fewer less gs vs ws a.1)
agree_less test fewer less _ _ _ a = absurd a

module _ (step : ℕ) where
  pub below_near : (g : Global) → exists_at (step - 1) g ≡ true → exists_near step g ≡ true
  below_near g h = or_left (exists_at (step - 1) g) (exists_at step g) h

  pub above_near : (g : Global) → exists_at step g ≡ true → exists_near step g ≡ true
  above_near g h = by_first (exists_at (step - 1) g) h
    where
      by_first : (b : Bool) → exists_at step g ≡ true → (b || exists_at step g) ≡ true
      by_first true k = refl
      by_first false k = k

module _ (program : Program) (layered : IsLayered program) (step : ℕ) where
  abbrev gs : List Global
  gs = program.globals

  abbrev pub Near : Store → Store → Type 0
  Near s t = StoresAgree (exists_near step) program.globals s t

  -- ---- names

  hidden_near : (name : Name) → hidden_at_step program step name ≡ false → names_other (exists_near step) program.globals name ≡ false
  hidden_near name = by_global (find (λ global. same_name name global.name) program.globals)
    where
      by_global : (o : Option Global) → hidden_around step o ≡ false → fails_test (exists_near step) o ≡ false
      by_global None e = refl
      by_global (Some g) e = e

  seen : (e : Expr) → uses (hidden_at_step program step) e ≡ false → uses (names_other (exists_near step) program.globals) e ≡ false
  seen e h = uses_less (hidden_at_step program step) (names_other (exists_near step) program.globals) hidden_near e h

  others_near : (layer : ℕ) → ((g : Global) → exists_at layer g ≡ true → exists_near step g ≡ true) → (name : Name) → names_other (exists_at layer) program.globals name ≡ false → names_other (exists_near step) program.globals name ≡ false
  others_near layer near name = by_global (find (λ global. same_name name global.name) program.globals)
    where
      by_global : (o : Option Global) → fails_test (exists_at layer) o ≡ false → fails_test (exists_near step) o ≡ false
      by_global None e = refl
      by_global (Some g) e = ap not (near g (not-false (exists_at layer g) e))

  -- an action that exists in one of the two programs
  pub action_near : (layer number : ℕ) (a : Action) → ((g : Global) → exists_at layer g ≡ true → exists_near step g ≡ true) → slice_get program.actions number ≡ Some a → exists_in layer (action_range a) ≡ true →
      action_uses (names_other (exists_near step) program.globals) a ≡ false
  action_near layer number a near at e =
      action_uses_less (names_other (exists_at layer) program.globals) (names_other (exists_near step) program.globals) (others_near layer near) a (uses_what_exists program number layer a layered at e)

  -- ---- linear globals exist everywhere

  introduced_among : Contains layer_rules introduced_rule
  introduced_among = (5, omega arith, refl)

  pub linear_near : step ≤ program.layers → LinearPass (exists_near step) program.globals
  linear_near within place g there is =
      above_near step g
      (through_in step (record { first = 0; last = program.layers }) (global_range g)
      (and_from (nat_le 0 step) (nat_le step program.layers) (le-leb 0 step (omega arith)) (le-leb step program.layers within))
      (not-false (exists_through 0 program.layers (global_range g)) (not_second g.linear (not (exists_through 0 program.layers (global_range g))) is (global_kept layer_rules program layered.layers introduced_rule introduced_among place g there))))

  -- ---- values

  pub note_same : (proc : Proc) (s t : Store) (locals : List Value) (done : Bool) (old older : Store) (outs : List Value) (was : Bool) (e : Expr) → uses (hidden_at_step program step) e ≡ false → Near s t → Near old older →
      value_of (note_values gs proc s locals done old outs was) e ≡ value_of (note_values gs proc t locals done older outs was) e
  note_same proc s t locals done old older outs was e h near far =
      one_value_in (names_other (exists_near step) gs) (note_values gs proc s locals done old outs was) (note_values gs proc t locals done older outs was)
      (record {
        values = λ n f. look_agrees (exists_near step) gs s.values t.values (names_in_proc proc) locals n near f;
        old = λ n f. look_agrees (exists_near step) gs old.values older.values (names_in_proc proc) (with_outs proc locals outs) n far f;
        done = refl;
        old_done = refl;
      }) e (seen e h)

  pub plain_same : (proc : Proc) (s t : Store) (locals : List Value) (e : Expr) → uses (hidden_at_step program step) e ≡ false → Near s t →
      value_of (plain_note_values gs proc s locals) e ≡ value_of (plain_note_values gs proc t locals) e
  plain_same proc s t locals e h near =
      one_value_in (names_other (exists_near step) gs) (plain_note_values gs proc s locals) (plain_note_values gs proc t locals) (present_agree (exists_near step) gs s.values t.values (names_in_proc proc) locals near) e (seen e h)

  globals_same : (s t : Store) (e : Expr) → uses (hidden_at_step program step) e ≡ false → Near s t → holds_of_globals program s e ≡ holds_of_globals program t e
  globals_same s t e h near = ap is_true (one_value_in (names_other (exists_near step) gs) (global_values gs s) (global_values gs t) scopes e (seen e h))
    where
      scopes : AgreeBut (names_other (exists_near step) gs) (global_values gs s) (global_values gs t)
      scopes =
          subst (λ (ns : List Name). AgreeBut (names_other (exists_near step) gs) (present_values ns s.values) (present_values ns t.values)) (append-nil (global_names gs))
          (subst (λ (vs : List Value). AgreeBut (names_other (exists_near step) gs) (present_values (global_names gs ++ []) vs) (present_values (global_names gs ++ []) t.values)) (append-nil s.values)
          (subst (λ (vs : List Value). AgreeBut (names_other (exists_near step) gs) (present_values (global_names gs ++ []) (s.values ++ [])) (present_values (global_names gs ++ []) vs)) (append-nil t.values)
          (present_agree (exists_near step) gs s.values t.values [] [] near)))

  -- ---- the invariants of the step

  -- each of these names globals of the two programs alone
  abbrev pub AllShown : List Expr → Type 0
  AllShown [] = Unit {0}
  AllShown (e ∷ es) = (uses (hidden_at_step program step) e ≡ false) × AllShown es

  hidden_among : Contains layer_rules hidden_rule
  hidden_among = (1, omega arith, refl)

  filter_shown : (is : List Invariant) → ((place : ℕ) (i : Invariant) → slice_get is place ≡ Some i → uses (hidden_at_step program i.step) i.expr ≡ false) → AllShown (map (λ i. i.expr) (filter (λ i. nat_eq i.step step) is))
  filter_shown [] h = tt
  filter_shown (i ∷ is) h = by_step (filter_shown is (λ k j e. h (suc k) j e)) (nat_eq i.step step) refl
    where
      by_step : AllShown (map (λ i. i.expr) (filter (λ i. nat_eq i.step step) is)) → (b : Bool) → nat_eq i.step step ≡ b →
          AllShown (map (λ i. i.expr) (if b then i ∷ filter (λ i. nat_eq i.step step) is else filter (λ i. nat_eq i.step step) is))
      by_step others true e = (subst (λ (k : ℕ). uses (hidden_at_step program k) i.expr ≡ false) (eqb-true i.step step e) (h 0 i refl), others)
      by_step others false e = others

  invariants_shown : AllShown (step_invariants program step)
  invariants_shown = filter_shown program.invariants (λ place i at. invariant_kept layer_rules program layered.layers hidden_rule hidden_among place i at)

  all_same : (s t : Store) → Near s t → (es : List Expr) → AllShown es → list_all (holds_of_globals program s) es ≡ list_all (holds_of_globals program t) es
  all_same s t near [] h = refl
  all_same s t near (e ∷ es) h = same_and _ _ _ _ (globals_same s t e h.0 near) (all_same s t near es h.1)

  pub invariants_same : (s t : Store) → Near s t → invariants_hold program step s ≡ invariants_hold program step t
  invariants_same s t near = all_same s t near (step_invariants program step) invariants_shown

  lost_same : (s t : Store) → Near s t → (es : List Expr) → AllShown es → (i : ℕ) →
      option_map_or (λ e. not (holds_of_globals program s e)) (slice_get es i) false ≡ option_map_or (λ e. not (holds_of_globals program t e)) (slice_get es i) false
  lost_same s t near [] h i = refl
  lost_same s t near (e ∷ es) h zero = ap not (globals_same s t e h.0 near)
  lost_same s t near (e ∷ es) h (suc i) = lost_same s t near es h.1 i

  pub invariant_same : (s t : Store) → Near s t → (i : ℕ) → invariant_lost program step i s ≡ invariant_lost program step i t
  invariant_same s t near i = lost_same s t near (step_invariants program step) invariants_shown i

  -- ---- what a procedure of this layer says

  -- an expression, where there is one, names globals of the two programs alone
  abbrev pub NoteShown : Option Expr → Type 0
  NoteShown None = Unit {0}
  NoteShown (Some e) = uses (hidden_at_step program step) e ≡ false

  pub note_holds_same : (proc : Proc) (s t : Store) (locals : List Value) (done : Bool) (old older : Store) (outs : List Value) (was : Bool) (o : Option Expr) → NoteShown o → Near s t → Near old older →
      note_holds (note_values gs proc s locals done old outs was) o ≡ note_holds (note_values gs proc t locals done older outs was) o
  note_holds_same proc s t locals done old older outs was None h near far = refl
  note_holds_same proc s t locals done old older outs was (Some e) h near far = ap is_true (note_same proc s t locals done old older outs was e h near far)

  pub invariant_shown : (d : stmt.Stmt-F Stmt) → form_hidden program step d ≡ false → NoteShown (layer_invariant d)
  invariant_shown (stmt.YieldLoop e i a) h = h
  invariant_shown (stmt.RankLoop e r i a) h = (or_parts (uses (hidden_at_step program step) r) (uses (hidden_at_step program step) i) h).1
  invariant_shown (stmt.Yield i) h = h
  invariant_shown _ h = tt

  pub rank_shown : (d : stmt.Stmt-F Stmt) → form_hidden program step d ≡ false → NoteShown (layer_rank d)
  rank_shown (stmt.RankLoop e r i a) h = (or_parts (uses (hidden_at_step program step) r) (uses (hidden_at_step program step) i) h).0
  rank_shown _ h = tt

  any_shown : (es : List Expr) → list_any (uses (hidden_at_step program step)) es ≡ false → AllShown es
  any_shown [] h = tt
  any_shown (e ∷ es) h = let p = or_parts (uses (hidden_at_step program step) e) (list_any (uses (hidden_at_step program step)) es) h in (p.0, any_shown es p.1)

  pub plain_all_same : (proc : Proc) (s t : Store) (locals : List Value) (es : List Expr) → AllShown es → Near s t → values_of (plain_note_values gs proc s locals) es ≡ values_of (plain_note_values gs proc t locals) es
  plain_all_same proc s t locals [] h near = refl
  plain_all_same proc s t locals (e ∷ es) h near =
      ap (λ (v : Value). v ∷ values_of (plain_note_values gs proc s locals) es) (plain_same proc s t locals e h.0 near)
      ∙ ap (λ (vs : List Value). value_of (plain_note_values gs proc t locals) e ∷ vs) (plain_all_same proc s t locals es h.1 near)

  module _ (number : ℕ) (proc : Proc) (of : IsProcOf program number step proc) where
    not_hidden : (place : ℕ) (s : Stmt) → statement_at proc.body place ≡ Some s → form_hidden program step (out-Stmt s) ≡ false
    not_hidden place s there =
        sym (ap (λ (k : ℕ). form_hidden program k (out-Stmt s)) of.layered)
        ∙ sym (ap (λ (o : Option Refines). stmt_hidden program o s) of.refined)
        ∙ statement_kept layer_rules program layered.layers hidden_rule hidden_among (stmt_hidden program proc.refines) number proc of.there refl place s there

    pub said_shown : (f : stmt.Stmt-F Stmt → Option Expr) → ((d : stmt.Stmt-F Stmt) → form_hidden program step d ≡ false → NoteShown (f d)) → (place : ℕ) (form : CutKind) → NoteShown (said_at f proc place form)
    said_shown f each place form = by_kind form
      where
        by_statement : (o : Option Stmt) → statement_at proc.body place ≡ o → NoteShown (option_map_or (λ s. f (out-Stmt s)) o None)
        by_statement None e = tt
        by_statement (Some s) e = each (out-Stmt s) (not_hidden place s e)

        by_kind : (c : CutKind) → NoteShown (said_at f proc place c)
        by_kind kind.Entry = tt
        by_kind _ = by_statement (statement_at proc.body place) refl

    range_among : Contains layer_rules range_rule
    range_among = (0, omega arith, refl)

    pub layer_within : (1 ≤ step) × (step ≤ program.layers)
    layer_within =
        let kept =
        sym (ap (λ (k : ℕ). not (is_within 1 program.layers k)) of.layered)
        ∙ sym (ap (λ (o : Option Refines). refines_range program o) of.refined)
        ∙ proc_kept layer_rules program layered.layers range_rule range_among number proc of.there in
        let p = and_parts (nat_le 1 step) (nat_le step program.layers) (not-false (is_within 1 program.layers step) kept) in
        (leb-true 1 step p.0, leb-true step program.layers p.1)

    pub with_shown : AllShown (with_of proc.refines)
    with_shown =
        subst (λ (o : Option Refines). AllShown (with_of o)) (sym of.refined)
        (any_shown of.refines.with
        (sym (ap (λ (k : ℕ). list_any (uses (hidden_at_step program k)) of.refines.with) of.layered)
        ∙ sym (ap (λ (o : Option Refines). with_hidden program o) of.refined)
        ∙ proc_kept layer_rules program layered.layers hidden_rule hidden_among number proc of.there))
