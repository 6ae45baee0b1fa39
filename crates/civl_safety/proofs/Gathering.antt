-- The values that the variables of a goal on a statement have in a state, and what they give back.
use Rattle.std.proofs.Common.{◌≡◌, ℕ, ◌+◌, List, [], ◌++◌, map, length, Option, Some, sym, ap, ap₂, ◌∙◌, subst, append-nil}
use Rattle.std.specs.Prelude.{slice_get, codes}
use Rattle.std.specs.Option.{option_map_or}
use Rattle.std.proofs.lemmas.List.{length-append, length-map, map-append, append_assoc}
use Rattle.civl_bits.specs.declared.value.Value.{Value}
use Rattle.civl_firing.specs.values.Values.{HaveSorts}
use Rattle.civl_tree.specs.declared.expr.Sort.{Sort}
use Rattle.civl_tree.specs.declared.program.Proc.{Proc}
use Rattle.civl_tree.specs.declared.program.Program.{Program}
use Rattle.civl_tree.specs.rules.Uses.{param_sorts}
use Rattle.civl_firing.specs.declared.store.Store.{Store}
use Rattle.civl_firing.specs.Stores.{IsStore}
use Rattle.civl_firing.proofs.Having.{have_length}
use Rattle.civl_meaning.specs.Config.{frame_sorts}
use Rattle.civl_conditions.specs.footprints.Agreement.{StoresAgree}
use Rattle.civl_conditions.specs.Variables.{call_front, of_params, of_locals, of_choices, of_globals}
use Rattle.civl_conditions.specs.Values.{part, count_of}
use Rattle.civl_condition_laws.proofs.Gathering.{Fit, fit_more, sorts_named, fit_named, kept, kept_fit, kept_length, spread_agrees, part_is}
use Rattle.civl_goals.specs.Outlines.{exists_on_top, top_globals}
use Rattle.civl_goals.specs.Variables.{of_names, of_frame, frame_count, choices_at, of_statement}
use Rattle.civl_goals.specs.Failed.{store_in, frame_of, behind_frame, chosen_of, other_of}

-- ---- frames

-- a procedure's parameters, outputs and locals
names_sorts : (front : List ℕ) (proc : Proc) → map (λ v. v.sort) (of_names front proc) ≡ frame_sorts proc
names_sorts front proc =
    map-append (λ v. v.sort) (of_params front proc.params) (of_params front proc.outs ++ of_locals front proc.locals)
    ∙ ap₂ (λ (xs ys : List Sort). xs ++ ys) (sorts_named (λ p. p.name) (λ p. p.sort) front proc.params)
    (map-append (λ v. v.sort) (of_params front proc.outs) (of_locals front proc.locals)
    ∙ ap₂ (λ (xs ys : List Sort). xs ++ ys) (sorts_named (λ p. p.name) (λ p. p.sort) front proc.outs) (sorts_named (λ l. l.name) (λ l. l.sort) front proc.locals))

frame_long : (proc : Proc) (locals : List Value) → HaveSorts locals (frame_sorts proc) → length locals ≡ length proc.params + (length proc.outs + length proc.locals)
frame_long proc locals h =
    have_length locals (frame_sorts proc) h
    ∙ (length-append (param_sorts proc.params) (param_sorts proc.outs ++ map (λ l. l.sort) proc.locals)
    ∙ ap₂ (λ (m n : ℕ). m + n) (length-map proc.params (λ p. p.sort))
    (length-append (param_sorts proc.outs) (map (λ l. l.sort) proc.locals) ∙ ap₂ (λ (m n : ℕ). m + n) (length-map proc.outs (λ p. p.sort)) (length-map proc.locals (λ l. l.sort))))

module _ (program : Program) where
  pub frame_fit : (front : List ℕ) (r : ℕ) (proc : Proc) → slice_get program.procs r ≡ Some proc → (locals : List Value) → HaveSorts locals (frame_sorts proc) → Fit locals (of_frame front program r)
  frame_fit front r proc at locals h =
      subst (λ (o : Option Proc). Fit locals (option_map_or (of_names front) o [])) (sym at) (subst (HaveSorts locals) (sym (names_sorts front proc)) h)

  frame_counted : (r : ℕ) (proc : Proc) → slice_get program.procs r ≡ Some proc → (locals : List Value) → HaveSorts locals (frame_sorts proc) → length locals ≡ frame_count program r
  frame_counted r proc at locals h = frame_long proc locals h ∙ sym (ap (λ (o : Option Proc). option_map_or (λ proc. length proc.params + (length proc.outs + length proc.locals)) o 0) at)

  -- ---- a statement

  module _ (g : Store) (fit : IsStore program.globals g) (r : ℕ) (proc : Proc) (at : slice_get program.procs r ≡ Some proc) (locals : List Value) (sorted : HaveSorts locals (frame_sorts proc)) (s : ℕ)
      (chosen : List Value) (choices : HaveSorts chosen (map (λ c. c.sort) (choices_at program r s))) where
    abbrev top : List Value
    top = kept (exists_on_top program) program.globals g.values

    -- the store, the frame and the choices; other values may stand behind them
    abbrev pub values : List Value
    values = top ++ (locals ++ chosen)

    top_long : length top ≡ count_of (exists_on_top program) program
    top_long = kept_length (exists_on_top program) program.globals g.values fit

    locals_long : length locals ≡ frame_count program r
    locals_long = frame_counted r proc at locals sorted

    chosen_long : length chosen ≡ length (choices_at program r s)
    chosen_long = have_length chosen (map (λ c. c.sort) (choices_at program r s)) choices ∙ length-map (choices_at program r s) (λ c. c.sort)

    pub values_fit : Fit values (of_statement program r s)
    values_fit =
        fit_more top (locals ++ chosen) (of_globals [] (top_globals program)) (of_frame [] program r ++ of_choices (call_front s) (choices_at program r s)) (kept_fit (exists_on_top program) [] program.globals g.values fit)
        (fit_more locals chosen (of_frame [] program r) (of_choices (call_front s) (choices_at program r s)) (frame_fit [] r proc at locals sorted)
        (fit_named (λ c. c.name) (λ c. c.sort) (call_front s) (choices_at program r s) chosen choices))

    module _ (rest : List Value) where
      joined : values ++ rest ≡ top ++ (locals ++ (chosen ++ rest))
      joined = append_assoc top (locals ++ chosen) rest ∙ ap (λ (vs : List Value). top ++ vs) (append_assoc locals chosen rest)

      -- the store agrees with this one on the topmost program's globals
      pub store_agrees : StoresAgree (exists_on_top program) program.globals g (store_in program (values ++ rest))
      store_agrees =
          subst (λ (vs : List Value). StoresAgree (exists_on_top program) program.globals g (store_in program vs)) (sym joined)
          (spread_agrees (exists_on_top program) program.globals g.values (locals ++ (chosen ++ rest)) fit)

      locals_there : part (values ++ rest) (count_of (exists_on_top program) program) (frame_count program r) ≡ locals
      locals_there =
          ap (λ (vs : List Value). part vs (count_of (exists_on_top program) program) (frame_count program r)) joined
          ∙ part_is top locals (chosen ++ rest) (count_of (exists_on_top program) program) (frame_count program r) top_long locals_long

      pub frame_there : frame_of program (values ++ rest) r s ≡ record { procedure = r; place = s; locals = locals }
      frame_there = ap (λ (vs : List Value). record { procedure = r; place = s; locals = vs }) locals_there

      before_chosen : length (top ++ locals) ≡ behind_frame program r
      before_chosen = length-append top locals ∙ ap₂ (λ (m n : ℕ). m + n) top_long locals_long

      pub chosen_there : chosen_of program (values ++ rest) r s ≡ chosen
      chosen_there =
          ap (λ (vs : List Value). part vs (behind_frame program r) (length (choices_at program r s))) (joined ∙ sym (append_assoc top locals (chosen ++ rest)))
          ∙ part_is (top ++ locals) chosen rest (behind_frame program r) (length (choices_at program r s)) before_chosen chosen_long

      before_rest : length ((top ++ locals) ++ chosen) ≡ behind_frame program r + length (choices_at program r s)
      before_rest = length-append (top ++ locals) chosen ∙ ap₂ (λ (m n : ℕ). m + n) before_chosen chosen_long

      pub other_there : (q t : ℕ) (other : Proc) → slice_get program.procs q ≡ Some other → HaveSorts rest (frame_sorts other) → other_of program (values ++ rest) r s q t ≡ record { procedure = q; place = t; locals = rest }
      other_there q t other there h =
          ap (λ (vs : List Value). record { procedure = q; place = t; locals = vs })
          (ap (λ (vs : List Value). part vs (behind_frame program r + length (choices_at program r s)) (frame_count program q))
          (ap (λ (vs : List Value). vs ++ rest) (sym (append_assoc top locals chosen)) ∙ ap (λ (vs : List Value). ((top ++ locals) ++ chosen) ++ vs) (sym (append-nil rest)))
          ∙ part_is ((top ++ locals) ++ chosen) rest [] (behind_frame program r + length (choices_at program r s)) (frame_count program q) before_rest (frame_counted q other there rest h))

    pub other_fit : (q : ℕ) (other : Proc) → slice_get program.procs q ≡ Some other → (rest : List Value) → HaveSorts rest (frame_sorts other) → Fit (values ++ rest) (of_statement program r s ++ of_frame (codes "other.") program q)
    other_fit q other there rest h = fit_more values rest (of_statement program r s) (of_frame (codes "other.") program q) values_fit (frame_fit (codes "other.") q other there rest h)
