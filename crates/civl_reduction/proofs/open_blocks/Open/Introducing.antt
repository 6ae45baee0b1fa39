-- Where commits and intros take effect, the store keeps its sorts.
use Rattle.std.proofs.Common.{◌≡◌, ℕ, false, List, [], ◌++◌, map, Some, inl, inr, refl, sym, ◌∙◌, subst}
use Rattle.std.specs.Prelude.{slice_set, slice_get}
use Rattle.std.proofs.lemmas.Bool.{or_parts}
use Rattle.std.proofs.lemmas.Option.{none-some}
use Rattle.civl_bits.specs.declared.value.Value.{Value}
use Rattle.civl_tree.specs.declared.name.Name.{Name}
use Rattle.civl_tree.specs.declared.expr.Sort.{Sort}
use Rattle.civl_tree.specs.declared.program.Proc.{Proc}
use Rattle.civl_tree.specs.declared.program.Program.{Program}
use Rattle.civl_tree.specs.declared.stmt.Stmt.{Stmt, out-Stmt}
use Rattle.civl_tree.specs.declared.stmt.Stmt.TheOpen as stmt
use Rattle.civl_tree.specs.Numbering.{statement_at}
use Rattle.civl_tree.specs.rules.Names.{global_names}
use Rattle.civl_tree.specs.rules.Scopes.{Binding, sort_in, bind_globals, bind_params, bind_locals, bind_proc, note_scope}
use Rattle.civl_tree.specs.rules.Uses.{form_uses, stmt_uses}
use Rattle.civl_tree.specs.rules.Sorted.{any_missorted, form_missorted, stmt_missorted}
use Rattle.civl_tree.specs.rules.Width.{any_width}
use Rattle.civl_tree.specs.rules.Index.{any_index}
use Rattle.civl_tree.specs.rules.Typing.{typing_rules, width_rule, sort_rule, index_rule}
use Rattle.civl_tree.proofs.Kept.{statement_kept, width_among, sort_among, index_among}
use Rattle.civl_firing.specs.values.Values.{HasSort, HaveSorts}
use Rattle.civl_firing.specs.declared.store.Store.{Store}
use Rattle.civl_firing.specs.Truth.{place_of}
use Rattle.civl_firing.specs.Eval.{value_of}
use Rattle.civl_firing.specs.Sorts.{IsSorted}
use Rattle.civl_firing.specs.Stores.{IsStore}
use Rattle.civl_firing.proofs.Having.{Found, have_more}
use Rattle.civl_meaning.specs.Config.{frame_sorts}
use Rattle.civl_meaning.proofs.Bindings.{names_of, in_front, in_back, in_either, not_in_first, joined, proc_names, proc_sorts, global_names_are, global_sorts_are}
use Rattle.civl_layers.specs.Layered.{IsLayered}
use Rattle.civl_conditions.specs.paths.NoteValues.{note_names, plain_note_values}
use Rattle.civl_conditions.specs.paths.Paths.{Progress, committed, introduced}
use Rattle.civl_conditions.specs.paths.Runs.{Standing, layer_led}
use Rattle.civl_soundness.proofs.Sorted.{found_in, set_fits}
use Rattle.civl_soundness.proofs.Scopes.{proc_declares}
use Rattle.civl_soundness.proofs.Firing.{first_fits}
use Rattle.civl_reduction.specs.open_blocks.Following.{led_here}
use Rattle.civl_reduction.proofs.open_blocks.Following.Leading.{course, led_keeps}

module _ (program : Program) (step q : ℕ) (proc : Proc) (layered : IsLayered program) (there : slice_get program.procs q ≡ Some proc) where
  abbrev globals : List Binding
  globals = bind_globals program.globals

  abbrev outs : List Binding
  outs = bind_params proc.outs

  -- ---- notes

  old_is : (name : Name) (s : Sort) → sort_in (globals ++ outs) name ≡ Some s → sort_in (globals ++ bind_proc proc) name ≡ Some s
  old_is name s e = elim (in_either globals outs name s e) [
    | inl g ↦ in_front globals (bind_proc proc) name s g
    | inr p ↦
        let rest = outs ++ bind_locals proc.locals in
        let among = in_front outs (bind_locals proc.locals) name s p.1 in
        in_back globals (bind_proc proc) name p.0
        ∙ (in_back (bind_params proc.params) rest name (not_in_first (bind_params proc.params) rest name s (proc_declares program layered.rules q proc there).own among) ∙ among)
  ]

  note_found : (store : Store) (locals : List Value) → IsStore program.globals store → HaveSorts locals (frame_sorts proc) → Found (note_names program.globals proc) (store.values ++ locals) (globals ++ bind_proc proc)
  note_found store locals hs h =
      let values = store.values ++ locals in
      let sorts = joined (λ b. b.sort) globals (bind_proc proc) _ _ (global_sorts_are program) (proc_sorts proc) in
      let names = joined (λ b. b.name) globals (bind_proc proc) _ _ (global_names_are program) (proc_names proc) in
      let have = have_more store.values locals (map (λ g. g.sort) program.globals) (frame_sorts proc) hs h in
      subst (λ (ns : List Name). Found ns values (globals ++ bind_proc proc)) names (found_in (globals ++ bind_proc proc) values (subst (HaveSorts values) (sym sorts) have))

  -- the scope of notes has values of its sorts
  pub note_sorted : (store : Store) (locals : List Value) → IsStore program.globals store → HaveSorts locals (frame_sorts proc) → IsSorted (plain_note_values program.globals proc store locals) (note_scope program proc)
  note_sorted store locals hs h =
      let found = note_found store locals hs h in
      record { names = λ name s e. found name s e; olds = λ name s e. found name s (old_is name s e) }

  -- ---- intros

  abbrev Sorted : Progress → Type 0
  Sorted p = IsStore program.globals p.store × HaveSorts p.locals (frame_sorts proc)

  store_set : (store : Store) (x : Name) (v : Value) → IsStore program.globals store → ((s : Sort) → sort_in globals x ≡ Some s → HasSort v s) → IsStore program.globals (record { values = slice_set store.values (place_of (global_names program.globals) x) v })
  store_set store x v hs f =
      let k = set_fits globals store.values x v (subst (HaveSorts store.values) (sym (global_sorts_are program)) hs) f in
      subst (λ (ns : List Name). HaveSorts (slice_set store.values (place_of ns x) v) (map (λ g. g.sort) program.globals)) (global_names_are program)
      (subst (HaveSorts (slice_set store.values (place_of (names_of globals) x) v)) (global_sorts_are program) k)

  module _ (n : ℕ) (s : Stmt) (at : statement_at proc.body n ≡ Some s) where
    pub sorted_there : any_missorted (form_uses program proc (out-Stmt s)) ≡ false
    sorted_there = (or_parts (any_missorted (form_uses program proc (out-Stmt s))) (form_missorted program proc (out-Stmt s)) (statement_kept typing_rules program layered.rules sort_rule sort_among (stmt_missorted program proc) q proc there refl n s at)).0

    pub narrow_there : any_width (form_uses program proc (out-Stmt s)) ≡ false
    narrow_there = statement_kept typing_rules program layered.rules width_rule width_among (λ stmt. any_width (stmt_uses program proc stmt)) q proc there refl n s at

    pub low_there : any_index (form_uses program proc (out-Stmt s)) ≡ false
    low_there = statement_kept typing_rules program layered.rules index_rule index_among (λ stmt. any_index (stmt_uses program proc stmt)) q proc there refl n s at

    one_sorted : (d : stmt.Stmt-F Stmt) → any_missorted (form_uses program proc d) ≡ false → any_width (form_uses program proc d) ≡ false → any_index (form_uses program proc d) ≡ false
        → (p r : Progress) → layer_led (course program step proc (λ n. [])) d p ≡ Some r → Sorted p → Sorted r
    one_sorted stmt.Commit m w i p r e h =
        let same : committed p ≡ r = cc in
        subst Sorted same h
    one_sorted (stmt.Intro x v) m w i p r e h =
        let same : introduced (course program step proc (λ n. [])) x v p ≡ r = cc in
        let fits = first_fits (plain_note_values program.globals proc p.store p.locals) (note_scope program proc) (note_sorted p.store p.locals h.0 h.1) v (sort_in globals x) [] m w i in
        subst Sorted same (store_set p.store x (value_of (plain_note_values program.globals proc p.store p.locals) v) h.0 fits, h.1)
    one_sorted _ m w i p r e h = absurd (none-some r e)

  -- the state behind the commits and intros keeps its sorts
  pub led_sorted : (here : Standing) → IsStore program.globals here.state.store → HaveSorts here.state.locals (frame_sorts proc) → IsStore program.globals (led_here program step proc here).store
  led_sorted here hs h =
      (led_keeps program step proc Sorted (λ n s at. one_sorted n s at (out-Stmt s) (sorted_there n s at) (narrow_there n s at) (low_there n s at)) (λ n. []) here.place here.state (hs, h)).0
