-- The scopes of a program that keeps the static rules have values of their sorts.
use Rattle.std.proofs.Common.{◌≡◌, ℕ, Bool, false, true, ◌||◌, List, ◌++◌, map, sym, ap, ◌∙◌, subst, Some, inl, inr, slice_get}
use Rattle.std.specs.List.{list_any}
use Rattle.std.proofs.lemmas.Bool.{not-false, or_parts}
use Rattle.std.proofs.lemmas.List.Folds.{list_any-append}
use Rattle.civl_bits.specs.declared.value.Value.{Value}
use Rattle.civl_tree.specs.declared.name.Name.{Name}
use Rattle.civl_tree.specs.declared.expr.Sort.{Sort}
use Rattle.civl_tree.specs.declared.action.Action.{Action}
use Rattle.civl_tree.specs.declared.action.Choice.{Choice}
use Rattle.civl_tree.specs.declared.action.Param.{Param}
use Rattle.civl_tree.specs.declared.program.Global.{Global}
use Rattle.civl_tree.specs.declared.program.Local.{Local}
use Rattle.civl_tree.specs.declared.program.Proc.{Proc}
use Rattle.civl_tree.specs.declared.program.Program.{Program}
use Rattle.civl_tree.specs.rules.Names.{has_name, any_twice, names_in_action, names_in_proc, targets_of, global_names}
use Rattle.civl_tree.specs.rules.Scopes.{Binding, sort_in, bind_globals, bind_params, bind_choices, bind_locals, bind_proc, body_scope, gate_scope, guard_scope}
use Rattle.civl_tree.specs.rules.Uses.{param_sorts, with_uses}
use Rattle.civl_tree.specs.rules.Twice.{declared_twice}
use Rattle.civl_tree.specs.rules.Width.{sort_width_fits, linear_width, param_width, local_width, any_width, global_width}
use Rattle.civl_tree.specs.rules.Index.{sort_index, any_index}
use Rattle.civl_tree.specs.rules.Rules.{Keeps}
use Rattle.civl_tree.specs.rules.Typing.{typing_rules, twice_rule, width_rule, index_rule}
use Rattle.civl_tree.proofs.Kept.{global_kept, action_kept, proc_kept, twice_among, width_among, index_among}
use Rattle.civl_firing.specs.values.Values.{HaveSorts}
use Rattle.civl_firing.specs.declared.store.Store.{Store}
use Rattle.civl_firing.specs.Stores.{IsStore}
use Rattle.civl_firing.specs.Sorts.{IsSorted}
use Rattle.civl_firing.specs.Scope.{zeros_of_globals, zeros_of_params, zeros_of_locals, frame_values, gate_values, guard_values}
use Rattle.civl_meaning.specs.Config.{frame_sorts}
use Rattle.civl_meaning.proofs.Bindings.{names_of, sorts_of, in_front, in_back, in_either, once_behind, not_in_first, not_in_second, Declared, not_declared, names_bound, sorts_bound, joined, proc_names, proc_sorts, global_names_are, global_sorts_are}
use Rattle.civl_firing.proofs.Having.{Found, have_more}
use Rattle.civl_firing.proofs.SortLimits.{limits}
use Rattle.civl_soundness.proofs.Sorted.{zeros_fit, none_at, found_in}

any_behind : {A : Type 0} (p : A → Bool) (xs ys : List A) → list_any p (xs ++ ys) ≡ false → list_any p ys ≡ false
any_behind p xs ys h = (or_parts (list_any p xs) (list_any p ys) (sym (list_any-append p xs ys) ∙ h)).1

-- ---- zeros

width_fits : (program : Program) (linear : Bool) (s : Sort) → linear_width program linear s ≡ false → sort_width_fits s ≡ true
width_fits program linear s w = not-false (sort_width_fits s) (or_parts _ _ w).0

outs_zero : (program : Program) (params outs : List Param) → list_any (param_width program) (params ++ outs) ≡ false → list_any (λ p. sort_index p.sort) (params ++ outs) ≡ false → HaveSorts (zeros_of_params outs) (param_sorts outs)
outs_zero program params outs w i =
    let narrow = any_behind (param_width program) params outs w in
    let low = any_behind (λ (p : Param). sort_index p.sort) params outs i in
    zeros_fit (λ (p : Param). p.sort) outs (λ k p e. limits p.sort (width_fits program _ p.sort (none_at (param_width program) outs narrow k p e)) (none_at (λ (q : Param). sort_index q.sort) outs low k p e))

module _ (program : Program) (none : Keeps typing_rules program) where
  abbrev globals : List Binding
  globals = bind_globals program.globals

  globals_zero : HaveSorts (zeros_of_globals program.globals) (map (λ g. g.sort) program.globals)
  globals_zero =
      zeros_fit (λ (g : Global). g.sort) program.globals (λ k g e.
      let w : global_width program g ≡ false = global_kept typing_rules program none width_rule width_among k g e in
      limits g.sort (not-false (sort_width_fits g.sort) (or_parts _ _ w).0) (global_kept typing_rules program none index_rule index_among k g e))

  declared : (bs : List Binding) (names : List Name) → names_of bs ≡ names → declared_twice program names ≡ false → Declared globals bs
  declared bs names e t =
      let p = or_parts (any_twice names) (list_any (has_name (global_names program.globals)) names) t in
      record {
        own = ap any_twice e ∙ p.0;
        new = ap (λ (ns : List Name). list_any (has_name ns) (names_of bs)) (global_names_are program) ∙ ap (list_any (has_name (global_names program.globals))) e ∙ p.1;
      }

  -- ---- procedures

  module _ (i : ℕ) (proc : Proc) (at : slice_get program.procs i ≡ Some proc) where
    pub proc_declares : Declared globals (bind_proc proc)
    proc_declares = declared (bind_proc proc) (names_in_proc proc) (proc_names proc) (or_parts _ (declared_twice program (names_in_proc proc)) (proc_kept typing_rules program none twice_rule twice_among i proc at)).1

    widths : (list_any (param_width program) (proc.params ++ proc.outs) ≡ false) × (list_any (local_width program) proc.locals ≡ false)
    widths =
        let p = or_parts (list_any (param_width program) (proc.params ++ proc.outs)) _ (proc_kept typing_rules program none width_rule width_among i proc at) in
        (p.0, (or_parts (list_any (local_width program) proc.locals) (any_width (with_uses program proc proc.refines)) p.1).0)

    indices : (list_any (λ p. sort_index p.sort) (proc.params ++ proc.outs) ≡ false) × (list_any (λ l. sort_index l.sort) proc.locals ≡ false)
    indices =
        let p = or_parts (list_any (λ p. sort_index p.sort) (proc.params ++ proc.outs)) _ (proc_kept typing_rules program none index_rule index_among i proc at) in
        (p.0, (or_parts (list_any (λ l. sort_index l.sort) proc.locals) (any_index (with_uses program proc proc.refines)) p.1).0)

    -- the locals with which a call of it begins
    pub new_locals : (args : List Value) → HaveSorts args (param_sorts proc.params) → HaveSorts (args ++ (zeros_of_params proc.outs ++ zeros_of_locals proc.locals)) (frame_sorts proc)
    new_locals args h =
        let outs = outs_zero program proc.params proc.outs widths.0 indices.0 in
        let locals = zeros_fit (λ (l : Local). l.sort) proc.locals (λ k l e. limits l.sort (width_fits program l.linear l.sort (none_at (local_width program) proc.locals widths.1 k l e)) (none_at (λ (l : Local). sort_index l.sort) proc.locals indices.1 k l e)) in
        have_more args _ (param_sorts proc.params) _ h (have_more (zeros_of_params proc.outs) (zeros_of_locals proc.locals) (param_sorts proc.outs) _ outs locals)

    abbrev outs : List Binding
    outs = bind_params proc.outs

    old_is : (name : Name) (s : Sort) → sort_in (globals ++ outs) name ≡ Some s → sort_in (bind_proc proc ++ globals) name ≡ Some s
    old_is name s e = elim (in_either globals outs name s e) [
      | inl q ↦ in_back (bind_proc proc) globals name (not_declared globals (bind_proc proc) name s proc_declares q) ∙ q
      | inr p ↦
          let rest = outs ++ bind_locals proc.locals in
          let q = in_front outs (bind_locals proc.locals) name s p.1 in
          in_front (bind_proc proc) globals name s (in_back (bind_params proc.params) rest name (not_in_first (bind_params proc.params) rest name s proc_declares.own q) ∙ q)
    ]

    frame_found : (locals : List Value) → HaveSorts locals (frame_sorts proc) → Found (names_in_proc proc ++ global_names program.globals) (locals ++ zeros_of_globals program.globals) (bind_proc proc ++ globals)
    frame_found locals h =
        let values = locals ++ zeros_of_globals program.globals in
        let sorts = joined (λ b. b.sort) (bind_proc proc) globals _ _ (proc_sorts proc) (global_sorts_are program) in
        let names = joined (λ b. b.name) (bind_proc proc) globals _ _ (proc_names proc) (global_names_are program) in
        let have = have_more locals (zeros_of_globals program.globals) (frame_sorts proc) _ h globals_zero in
        subst (λ (ns : List Name). Found ns values (bind_proc proc ++ globals)) names (found_in (bind_proc proc ++ globals) values (subst (HaveSorts values) (sym sorts) have))

    pub frame_sorted : (locals : List Value) → HaveSorts locals (frame_sorts proc) → IsSorted (frame_values program.globals proc locals) (body_scope program proc)
    frame_sorted locals h =
        let found = frame_found locals h in
        record { names = λ name s e. found name s (in_front (bind_proc proc) globals name s e); olds = λ name s e. found name s (old_is name s e) }

  -- ---- actions

  module _ (i : ℕ) (action : Action) (at : slice_get program.actions i ≡ Some action) where
    abbrev params : List Binding
    params = bind_params action.params

    abbrev results : List Binding
    results = bind_params action.outs

    abbrev choices : List Binding
    choices = bind_choices action.choices

    param_names_are : (ps : List Param) → names_of (bind_params ps) ≡ map (λ p. p.name) ps
    param_names_are ps = names_bound (λ p. p.name) (λ p. p.sort) ps

    param_sorts_are : (ps : List Param) → sorts_of (bind_params ps) ≡ param_sorts ps
    param_sorts_are ps = sorts_bound (λ p. p.name) (λ p. p.sort) ps

    pub action_declares : Declared globals (params ++ (results ++ choices))
    action_declares =
        let e = joined (λ b. b.name) params (results ++ choices) _ _ (param_names_are action.params) (joined (λ b. b.name) results choices _ _ (param_names_are action.outs) (names_bound (λ (c : Choice). c.name) (λ (c : Choice). c.sort) action.choices)) in
        let t = (or_parts _ (declared_twice program (names_in_action action) || any_twice (targets_of action)) (action_kept typing_rules program none twice_rule twice_among i action at)).1 in
        declared (params ++ (results ++ choices)) (names_in_action action) e (or_parts (declared_twice program (names_in_action action)) (any_twice (targets_of action)) t).0

    pub results_zero : HaveSorts (zeros_of_params action.outs) (param_sorts action.outs)
    results_zero =
        outs_zero program action.params action.outs (or_parts (list_any (param_width program) (action.params ++ action.outs)) _ (action_kept typing_rules program none width_rule width_among i action at)).0
        (or_parts (list_any (λ p. sort_index p.sort) (action.params ++ action.outs)) _ (action_kept typing_rules program none index_rule index_among i action at)).0

    -- a name of the guard's scope, where the results stand behind the choices
    guard_name : (name : Name) (s : Sort) → sort_in (globals ++ (params ++ choices)) name ≡ Some s → sort_in (globals ++ (params ++ (choices ++ results))) name ≡ Some s
    guard_name name s e = elim (in_either globals (params ++ choices) name s e) [
      | inl q ↦ in_front globals (params ++ (choices ++ results)) name s q
      | inr p ↦ in_back globals (params ++ (choices ++ results)) name p.0 ∙ elim (in_either params choices name s p.1) [
        | inl q ↦ in_front params (choices ++ results) name s q
        | inr q ↦ in_back params (choices ++ results) name q.0 ∙ in_front choices results name s q.1
      ]
    ]

    guard_old : (name : Name) (s : Sort) → sort_in (globals ++ results) name ≡ Some s → sort_in (globals ++ (params ++ (choices ++ results))) name ≡ Some s
    guard_old name s e = elim (in_either globals results name s e) [
      | inl q ↦ in_front globals (params ++ (choices ++ results)) name s q
      | inr p ↦
          let first = not_in_first params (results ++ choices) name s action_declares.own (in_front results choices name s p.1) in
          let second = not_in_second results choices name s (once_behind params (results ++ choices) action_declares.own) p.1 in
          in_back globals (params ++ (choices ++ results)) name p.0 ∙ (in_back params (choices ++ results) name first ∙ (in_back choices results name second ∙ p.1))
    ]

    gate_name : (name : Name) (s : Sort) → sort_in (globals ++ params) name ≡ Some s → sort_in (globals ++ (params ++ results)) name ≡ Some s
    gate_name name s e = elim (in_either globals params name s e) [
      | inl q ↦ in_front globals (params ++ results) name s q
      | inr p ↦ in_back globals (params ++ results) name p.0 ∙ in_front params results name s p.1
    ]

    gate_old : (name : Name) (s : Sort) → sort_in (globals ++ results) name ≡ Some s → sort_in (globals ++ (params ++ results)) name ≡ Some s
    gate_old name s e = elim (in_either globals results name s e) [
      | inl q ↦ in_front globals (params ++ results) name s q
      | inr p ↦
          let first = not_in_first params (results ++ choices) name s action_declares.own (in_front results choices name s p.1) in
          in_back globals (params ++ results) name p.0 ∙ (in_back params results name first ∙ p.1)
    ]

    gate_found : (store : Store) (inputs : List Value) → IsStore program.globals store → HaveSorts inputs (param_sorts action.params) →
        Found (gate_values program.globals store action inputs).names (gate_values program.globals store action inputs).values (globals ++ (params ++ results))
    gate_found store inputs hs hi =
        let values = store.values ++ (inputs ++ zeros_of_params action.outs) in
        let bs = globals ++ (params ++ results) in
        let names = joined (λ b. b.name) globals (params ++ results) _ _ (global_names_are program) (joined (λ b. b.name) params results _ _ (param_names_are action.params) (param_names_are action.outs)) in
        let sorts = joined (λ b. b.sort) globals (params ++ results) _ _ (global_sorts_are program) (joined (λ b. b.sort) params results _ _ (param_sorts_are action.params) (param_sorts_are action.outs)) in
        let have = have_more store.values _ _ _ hs (have_more inputs _ _ _ hi results_zero) in
        subst (λ (ns : List Name). Found ns values bs) names (found_in bs values (subst (HaveSorts values) (sym sorts) have))

    pub gate_sorted : (store : Store) (inputs : List Value) → IsStore program.globals store → HaveSorts inputs (param_sorts action.params) → IsSorted (gate_values program.globals store action inputs) (gate_scope program action)
    gate_sorted store inputs hs hi =
        let found = gate_found store inputs hs hi in
        record { names = λ name s e. found name s (gate_name name s e); olds = λ name s e. found name s (gate_old name s e) }

    guard_found : (store : Store) (inputs chosen : List Value) → IsStore program.globals store → HaveSorts inputs (param_sorts action.params) → HaveSorts chosen (map (λ c. c.sort) action.choices) →
        Found (guard_values program.globals store action inputs chosen).names (guard_values program.globals store action inputs chosen).values (globals ++ (params ++ (choices ++ results)))
    guard_found store inputs chosen hs hi hc =
        let values = store.values ++ (inputs ++ (chosen ++ zeros_of_params action.outs)) in
        let bs = globals ++ (params ++ (choices ++ results)) in
        let of_choices = names_bound (λ (c : Choice). c.name) (λ (c : Choice). c.sort) action.choices in
        let sorts_chosen = sorts_bound (λ (c : Choice). c.name) (λ (c : Choice). c.sort) action.choices in
        let names = joined (λ b. b.name) globals (params ++ (choices ++ results)) _ _ (global_names_are program) (joined (λ b. b.name) params (choices ++ results) _ _ (param_names_are action.params) (joined (λ b. b.name) choices results _ _ of_choices (param_names_are action.outs))) in
        let sorts = joined (λ b. b.sort) globals (params ++ (choices ++ results)) _ _ (global_sorts_are program) (joined (λ b. b.sort) params (choices ++ results) _ _ (param_sorts_are action.params) (joined (λ b. b.sort) choices results _ _ sorts_chosen (param_sorts_are action.outs))) in
        let have = have_more store.values _ _ _ hs (have_more inputs _ _ _ hi (have_more chosen _ _ _ hc results_zero)) in
        subst (λ (ns : List Name). Found ns values bs) names (found_in bs values (subst (HaveSorts values) (sym sorts) have))

    pub guard_sorted : (store : Store) (inputs chosen : List Value) → IsStore program.globals store → HaveSorts inputs (param_sorts action.params) → HaveSorts chosen (map (λ c. c.sort) action.choices) →
        IsSorted (guard_values program.globals store action inputs chosen) (guard_scope program action)
    guard_sorted store inputs chosen hs hi hc =
        let found = guard_found store inputs chosen hs hi hc in
        record { names = λ name s e. found name s (guard_name name s e); olds = λ name s e. found name s (guard_old name s e) }
