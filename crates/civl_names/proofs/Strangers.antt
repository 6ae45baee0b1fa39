-- Rule E11 by the names alone.
use Rattle.std.proofs.Common.{◌≡◌, Bool, true, false, List, [], ◌∷◌, ◌++◌, map, None, Some, refl, sym, ap, ap₂, ◌∙◌, subst}
use Rattle.std.specs.Prelude.{Option, not, ◌||◌, if◌then◌else◌, is_none, is_some}
use Rattle.std.specs.List.{list_any}
use Rattle.civl_tree.specs.declared.name.Name.{Name}
use Rattle.civl_tree.specs.declared.expr.Sort.{Sort}
use Rattle.civl_tree.specs.declared.expr.Expr.{Expr, map-Expr}
use Rattle.civl_tree.specs.declared.expr.Expr.TheOpen as expr
use Rattle.civl_tree.specs.declared.expr.Expr.TheFolds.{fold-roll-Expr, ind-Expr}
use Rattle.civl_tree.specs.declared.stmt.Stmt.{Stmt, out-Stmt}
use Rattle.civl_tree.specs.declared.stmt.Stmt.TheOpen.{Stmt-F, Assign, Assert, If, While, YieldLoop, RankLoop, Call, Yield, Commit, Intro, Spawn}
use Rattle.civl_tree.specs.declared.action.Action.{Action}
use Rattle.civl_tree.specs.declared.action.Param.{Param}
use Rattle.civl_tree.specs.declared.action.Choice.{Choice}
use Rattle.civl_tree.specs.declared.program.Global.{Global}
use Rattle.civl_tree.specs.declared.program.Local.{Local}
use Rattle.civl_tree.specs.declared.program.Proc.{Proc}
use Rattle.civl_tree.specs.declared.program.Program.{Program}
use Rattle.civl_tree.specs.rules.Names.{has_name, same_name, global_names, param_names}
use Rattle.civl_tree.specs.rules.Scopes.{Binding, Scope, sort_in, bind_globals, bind_params, bind_choices, bind_locals, bind_proc, global_scope, gate_scope, guard_scope, body_scope, note_scope}
use Rattle.civl_tree.specs.rules.Exprs.{names_known}
use Rattle.civl_tree.specs.rules.Exprs as tree
use Rattle.civl_tree.specs.declared.action.Update.{Update}
use Rattle.civl_tree.specs.declared.program.Invariant.{Invariant}
use Rattle.civl_tree.specs.declared.program.Refines.{Refines}
use Rattle.civl_tree.specs.declared.program.Thread.{Thread}
use Rattle.civl_tree.specs.rules.Names.{names_in_proc, targets_of, action_names, proc_names, action_named, proc_named, proc_signature_of, first_signature, callee_signature}
use Rattle.civl_tree.specs.rules.Uses.{Use, truth_use, target_use, argument_uses, taken_sorts, chosen_sorts, init_uses, invariant_uses, update_sort, with_uses, form_uses}
use Rattle.civl_tree.specs.rules.Unknown.{any_unknown, target_unknown, action_unknown, refined_unknown, place_unknown, form_unknown, stmt_unknown, thread_unknown}
use Rattle.civl_tree.proofs.Naming.{same_name_sym, same_is}
use Rattle.civl_names.specs.inner.Strange.{Declared, declared_by, Inner, inner_names, own_names, global_strange, invariant_strange, targets_strange, guard_strange, action_strange, refines_strange, body_strange, note_strange, arguments_strange, results_strange, call_strange, form_strange, stmt_strange, thread_strange}
use Rattle.civl_names.specs.inner.NameSets.{with_name, with_names, set_of}
use Rattle.civl_names.specs.inner.InScope.{known_step, all_known, any_strange}
use Rattle.std.proofs.lemmas.List.Folds.{list_any-append}
use Rattle.std.proofs.Math.Bool.{or_assoc, or-false}
use Rattle.civl_names.proofs.Lists.{any_map}
use Rattle.civl_names.proofs.Same.{any_same, none_found}

-- ---- a name has a sort in bindings exactly where it is one of their names

abbrev pub is_bound : List Binding → Name → Bool
is_bound bindings name = is_some (sort_in bindings name)

bound_first : (b : Bool) (sort : Sort) (rest : Option Sort) → is_some (if b then Some sort else rest) ≡ (b || is_some rest)
bound_first true sort rest = refl
bound_first false sort rest = refl

-- declarations that bind names
bound_by : {A : Type 0} (bind : A → Binding) (items : List A) (name : Name) → is_bound (map bind items) name ≡ has_name (map (λ item. (bind item).name) items) name
bound_by bind [] name = refl
bound_by bind (item ∷ items) name =
    bound_first (same_name (bind item).name name) (bind item).sort (sort_in (map bind items) name)
    ∙ ap₂ (λ (a b : Bool). a || b) (same_name_sym (bind item).name name) (bound_by bind items name)

bound_append : (xs ys : List Binding) (name : Name) → is_bound (xs ++ ys) name ≡ (is_bound xs name || is_bound ys name)
bound_append [] ys name = refl
bound_append (x ∷ xs) ys name = here (same_name x.name name) (bound_append xs ys name)
  where
    here : (b : Bool) → is_bound (xs ++ ys) name ≡ (is_bound xs name || is_bound ys name)
        → is_some (if b then Some x.sort else sort_in (xs ++ ys) name) ≡ (is_some (if b then Some x.sort else sort_in xs name) || is_bound ys name)
    here true h = refl
    here false h = h

bound_globals : (globals : List Global) (name : Name) → is_bound (bind_globals globals) name ≡ has_name (global_names globals) name
bound_globals globals name = bound_by (λ global. record { name = global.name; sort = global.sort }) globals name

bound_params : (params : List Param) (name : Name) → is_bound (bind_params params) name ≡ has_name (param_names params) name
bound_params params name = bound_by (λ param. record { name = param.name; sort = param.sort }) params name

bound_choices : (choices : List Choice) (name : Name) → is_bound (bind_choices choices) name ≡ has_name (map (λ choice. choice.name) choices) name
bound_choices choices name = bound_by (λ choice. record { name = choice.name; sort = choice.sort }) choices name

bound_locals : (locals : List Local) (name : Name) → is_bound (bind_locals locals) name ≡ has_name (map (λ declared. declared.name) locals) name
bound_locals locals name = bound_by (λ declared. record { name = declared.name; sort = declared.sort }) locals name

-- ---- names in a set

has_same : (names : List Name) (m n : Name) → same_name m n ≡ true → has_name names n ≡ true → has_name names m ≡ true
has_same names m n e h = ap (has_name names) (same_is m n e) ∙ h

or_there : (a b : Bool) → (b ≡ true → a ≡ true) → a ≡ (a || b)
or_there true b h = refl
or_there false true h = h refl
or_there false false h = refl

or_last : (a b : Bool) → (a || (b || false)) ≡ (a || b)
or_last a true = refl
or_last a false = refl

has_new : (names : List Name) (added name : Name) → has_name (with_name names added) name ≡ (has_name names name || same_name name added)
has_new names added name = here (has_name names added) refl
  where
    here : (b : Bool) → has_name names added ≡ b → has_name (if b then names else names ++ added ∷ []) name ≡ (has_name names name || same_name name added)
    here true e = or_there (has_name names name) (same_name name added) (λ s. has_same names name added s e)
    here false e = list_any-append (same_name name) names (added ∷ []) ∙ or_last (has_name names name) (same_name name added)

pub has_with : (names added : List Name) (name : Name) → has_name (with_names names added) name ≡ (has_name names name || has_name added name)
has_with names [] name = sym (or-false (has_name names name))
has_with names (first ∷ added) name =
    has_with (with_name names first) added name
    ∙ ap (λ (b : Bool). b || has_name added name) (has_new names first name)
    ∙ or_assoc (has_name names name) (same_name name first) (has_name added name)

-- ---- expressions

module _ (scope : Scope) (names olds : List Name) where
  abbrev Agrees : Type 0
  Agrees = ((name : Name) → is_bound scope.names name ≡ has_name names name) × ((name : Name) → is_bound scope.olds name ≡ has_name olds name)

  abbrev IsKnown : Expr → Type 0
  IsKnown e = names_known scope e ≡ all_known names olds e

  layer_known : {S : Type 0} → Agrees → (layer : expr.Expr-F S) (v : S → Expr) → ((s : S) → IsKnown (v s))
      → tree.known_step scope (map-Expr Expr Bool (names_known scope) (map-Expr S Expr v layer)) ≡ known_step names olds (map-Expr Expr Bool (all_known names olds) (map-Expr S Expr v layer))
  layer_known agrees (expr.Name name) v h = agrees.0 name
  layer_known agrees (expr.Literal value width) v h = refl
  layer_known agrees expr.True v h = refl
  layer_known agrees expr.False v h = refl
  layer_known agrees expr.Done v h = refl
  layer_known agrees (expr.Old name) v h = agrees.1 name
  layer_known agrees expr.OldDone v h = refl
  layer_known agrees (expr.One op a) v h = h a
  layer_known agrees (expr.Two op a b) v h = rw (h a, h b) refl
  layer_known agrees (expr.Pick a b c) v h = rw (h a, h b, h c) refl
  layer_known agrees (expr.Get a b) v h = rw (h a, h b) refl
  layer_known agrees (expr.Set a b c) v h = rw (h a, h b, h c) refl
  layer_known agrees (expr.Fill index a) v h = h a
  layer_known agrees (expr.Slice a high low) v h = h a
  layer_known agrees (expr.Widen a wider) v h = h a
  layer_known agrees (expr.Join a b) v h = rw (h a, h b) refl

  pub known_is : Agrees → (e : Expr) → names_known scope e ≡ all_known names olds e
  known_is agrees e =
      ind-Expr IsKnown (λ x y q.
      let here = subst (λ (layer : expr.Expr-F Expr). tree.known_step scope (map-Expr Expr Bool (names_known scope) layer) ≡ known_step names olds (map-Expr Expr Bool (all_known names olds) layer)) q (layer_known agrees y (λ z. z.0) (λ z. z.1)) in
      fold-roll-Expr Bool (tree.known_step scope) x ∙ here ∙ sym (fold-roll-Expr Bool (known_step names olds) x)) e

-- ---- scopes

-- a name is a global, or one of these
outer_bound : (globals : List Global) (bindings : List Binding) (names : List Name) → ((name : Name) → is_bound bindings name ≡ has_name names name)
    → (name : Name) → is_bound (bind_globals globals ++ bindings) name ≡ has_name (global_names globals ++ names) name
outer_bound globals bindings names h name =
    bound_append (bind_globals globals) bindings name ∙ ap₂ (λ (a b : Bool). a || b) (bound_globals globals name) (h name) ∙ sym (list_any-append (same_name name) (global_names globals) names)

param_set : (params : List Param) (name : Name) → is_bound (bind_params params) name ≡ has_name (set_of (param_names params)) name
param_set params name = bound_params params name ∙ sym (has_with [] (param_names params) name)

choice_set : (action : Action) (name : Name) → is_bound (bind_params action.params ++ bind_choices action.choices) name ≡ has_name (with_names (set_of (param_names action.params)) (map (λ choice. choice.name) action.choices)) name
choice_set action name =
    bound_append (bind_params action.params) (bind_choices action.choices) name
    ∙ ap₂ (λ (a b : Bool). a || b) (param_set action.params name) (bound_choices action.choices name)
    ∙ sym (has_with (set_of (param_names action.params)) (map (λ choice. choice.name) action.choices) name)

own_parts : (proc : Proc) (name : Name) → has_name (own_names proc) name ≡ (has_name (param_names proc.params) name || (has_name (param_names proc.outs) name || has_name (map (λ declared. declared.name) proc.locals) name))
own_parts proc name =
    has_with (with_names (set_of (param_names proc.params)) (param_names proc.outs)) (map (λ declared. declared.name) proc.locals) name
    ∙ ap (λ (b : Bool). b || has_name (map (λ declared. declared.name) proc.locals) name)
    (has_with (set_of (param_names proc.params)) (param_names proc.outs) name ∙ ap (λ (b : Bool). b || has_name (param_names proc.outs) name) (has_with [] (param_names proc.params) name))
    ∙ or_assoc (has_name (param_names proc.params) name) (has_name (param_names proc.outs) name) (has_name (map (λ declared. declared.name) proc.locals) name)

own_set : (proc : Proc) (name : Name) → is_bound (bind_proc proc) name ≡ has_name (own_names proc) name
own_set proc name =
    bound_append (bind_params proc.params) (bind_params proc.outs ++ bind_locals proc.locals) name
    ∙ ap₂ (λ (a b : Bool). a || b) (bound_params proc.params name) (bound_append (bind_params proc.outs) (bind_locals proc.locals) name ∙ ap₂ (λ (a b : Bool). a || b) (bound_params proc.outs name) (bound_locals proc.locals name))
    ∙ sym (own_parts proc name)

own_has : (proc : Proc) (name : Name) → has_name (names_in_proc proc) name ≡ has_name (own_names proc) name
own_has proc name =
    list_any-append (same_name name) (param_names proc.params) (param_names proc.outs ++ map (λ declared. declared.name) proc.locals)
    ∙ ap (λ (b : Bool). has_name (param_names proc.params) name || b) (list_any-append (same_name name) (param_names proc.outs) (map (λ declared. declared.name) proc.locals))
    ∙ sym (own_parts proc name)

target_has : (globals outs : List Name) (name : Name) → has_name (globals ++ outs) name ≡ has_name (globals ++ set_of outs) name
target_has globals outs name =
    list_any-append (same_name name) globals outs
    ∙ ap (λ (b : Bool). has_name globals name || b) (sym (has_with [] outs name))
    ∙ sym (list_any-append (same_name name) globals (set_of outs))

-- ---- callees

proc_none : (proc : Option Proc) → is_none (proc_signature_of proc) ≡ is_none proc
proc_none None = refl
proc_none (Some proc) = refl

signature_none : (action : Option Action) (proc : Option Proc) (a b : Bool) → is_none action ≡ not a → is_none proc ≡ not b → is_none (first_signature action proc) ≡ not (a || b)
signature_none None proc true b h k = cc
signature_none None proc false b h k = proc_none proc ∙ k
signature_none (Some action) proc true b h k = refl
signature_none (Some action) proc false b h k = cc

-- arguments, whatever their places need
arguments_are : (scope : Scope) (names olds : List Name) → ((e : Expr) → names_known scope e ≡ all_known names olds e) → (args : List Expr) (sorts : List Sort)
    → any_unknown (argument_uses scope args sorts) ≡ any_strange names olds args
arguments_are scope names olds h [] sorts = refl
arguments_are scope names olds h (arg ∷ args) [] = ap₂ (λ (a b : Bool). not a || b) (h arg) (arguments_are scope names olds h args [])
arguments_are scope names olds h (arg ∷ args) (sort ∷ sorts) = ap₂ (λ (a b : Bool). not a || b) (h arg) (arguments_are scope names olds h args sorts)

-- ---- the parts of a program

module _ (program : Program) where
  abbrev globals : List Name
  globals = global_names program.globals

  abbrev declared : Declared
  declared = declared_by program

  global_known : (e : Expr) → names_known (global_scope program) e ≡ all_known globals globals e
  global_known e = known_is (global_scope program) globals globals ((λ name. bound_globals program.globals name), (λ name. bound_globals program.globals name)) e

  action_none : (name : Name) → is_none (action_named program name) ≡ not (has_name (action_names program.actions) name)
  action_none name = none_found (λ action. same_name name action.name) program.actions ∙ ap not (sym (any_map (same_name name) (λ action. action.name) program.actions))

  callee_none : (name : Name) → is_none (proc_named program name) ≡ not (has_name (proc_names program.procs) name)
  callee_none name = none_found (λ proc. same_name name proc.name) program.procs ∙ ap not (sym (any_map (same_name name) (λ proc. proc.name) program.procs))

  pub init_is : any_unknown (init_uses program) ≡ global_strange declared program.init
  init_is = or-false _ ∙ ap not (global_known program.init)

  pub invariant_is : (invariant : Invariant) → any_unknown (invariant_uses program invariant) ≡ invariant_strange declared invariant
  invariant_is invariant = or-false _ ∙ ap not (global_known invariant.expr)

  pub thread_is : (thread : Thread) → thread_unknown program thread ≡ thread_strange declared thread
  thread_is thread =
      ap₂ (λ (a b : Bool). a || b) (callee_none thread.callee)
      (arguments_are (global_scope program) globals globals global_known thread.args (taken_sorts (proc_signature_of (proc_named program thread.callee))))

  module _ (action : Action) where
    abbrev olds : List Name
    olds = globals ++ set_of (param_names action.outs)

    abbrev gate_names : List Name
    gate_names = globals ++ set_of (param_names action.params)

    abbrev guard_names : List Name
    guard_names = globals ++ with_names (set_of (param_names action.params)) (map (λ (choice : Choice). choice.name) action.choices)

    abbrev is_strange : Use → Bool
    is_strange use_of = not (names_known use_of.scope use_of.expression)

    abbrev offer_use : Choice → Use
    offer_use choice = target_use (gate_scope program action) choice.offer (Some choice.sort)

    abbrev value_use : Update → Use
    value_use update = target_use (guard_scope program action) update.expr (update_sort program action update.target)

    gate_known : (e : Expr) → names_known (gate_scope program action) e ≡ all_known gate_names olds e
    gate_known e =
        known_is (gate_scope program action) gate_names olds
        ((λ name. outer_bound program.globals (bind_params action.params) (set_of (param_names action.params)) (param_set action.params) name), (λ name. outer_bound program.globals (bind_params action.outs) (set_of (param_names action.outs)) (param_set action.outs) name)) e

    guard_known : (e : Expr) → names_known (guard_scope program action) e ≡ all_known guard_names olds e
    guard_known e =
        known_is (guard_scope program action) guard_names olds
        ((λ name. outer_bound program.globals (bind_params action.params ++ bind_choices action.choices) (with_names (set_of (param_names action.params)) (map (λ (choice : Choice). choice.name) action.choices)) (choice_set action) name), (λ name. outer_bound program.globals (bind_params action.outs) (set_of (param_names action.outs)) (param_set action.outs) name)) e

    targets_are : list_any (target_unknown program action) (targets_of action) ≡ targets_strange olds action
    targets_are =
        any_map (target_unknown program action) (λ (update : Update). update.target) action.updates
        ∙ any_same (λ (update : Update). target_unknown program action update.target) (λ (update : Update). not (has_name olds update.target)) (λ (update : Update). ap not (target_has globals (param_names action.outs) update.target)) action.updates

    offers_are : list_any is_strange (map offer_use action.choices) ≡ list_any (λ (choice : Choice). not (all_known gate_names olds choice.offer)) action.choices
    offers_are =
        any_map is_strange offer_use action.choices
        ∙ any_same (λ (choice : Choice). is_strange (offer_use choice)) (λ (choice : Choice). not (all_known gate_names olds choice.offer)) (λ (choice : Choice). ap not (gate_known choice.offer)) action.choices

    values_are : list_any is_strange (map value_use action.updates) ≡ list_any (λ (update : Update). not (all_known guard_names olds update.expr)) action.updates
    values_are =
        any_map is_strange value_use action.updates
        ∙ any_same (λ (update : Update). is_strange (value_use update)) (λ (update : Update). not (all_known guard_names olds update.expr)) (λ (update : Update). ap not (guard_known update.expr)) action.updates

    pub action_is : action_unknown program action ≡ action_strange declared action
    action_is =
        ap₂ (λ (a b : Bool). a || b) targets_are
        (list_any-append is_strange (map offer_use action.choices) (truth_use (gate_scope program action) action.gate ∷ truth_use (guard_scope program action) action.guard ∷ map value_use action.updates)
        ∙ ap₂ (λ (a b : Bool). a || b) offers_are (ap₂ (λ (a b : Bool). not a || b) (gate_known action.gate) (ap₂ (λ (a b : Bool). not a || b) (guard_known action.guard) values_are))
        ∙ sym (or_assoc (list_any (λ (choice : Choice). not (all_known gate_names olds choice.offer)) action.choices) (not (all_known gate_names olds action.gate)) (guard_strange guard_names olds action)))

  module _ (proc : Proc) where
    abbrev inner : Inner
    inner = inner_names declared proc

    olds_bound : (name : Name) → is_bound (bind_globals program.globals ++ bind_params proc.outs) name ≡ has_name (globals ++ inner.outs) name
    olds_bound name = outer_bound program.globals (bind_params proc.outs) (set_of (param_names proc.outs)) (param_set proc.outs) name

    body_known : (e : Expr) → names_known (body_scope program proc) e ≡ all_known inner.own (globals ++ inner.outs) e
    body_known e = known_is (body_scope program proc) inner.own (globals ++ inner.outs) ((λ name. own_set proc name), olds_bound) e

    note_known : (e : Expr) → names_known (note_scope program proc) e ≡ all_known (globals ++ inner.own) (globals ++ inner.outs) e
    note_known e =
        known_is (note_scope program proc) (globals ++ inner.own) (globals ++ inner.outs) ((λ name. outer_bound program.globals (bind_proc proc) (own_names proc) (own_set proc) name), olds_bound) e

    pub refines_is : (refines : Option Refines) → (refined_unknown program refines || any_unknown (with_uses program proc refines)) ≡ refines_strange inner refines
    refines_is None = refl
    refines_is (Some refines) =
        ap₂ (λ (a b : Bool). a || b) (action_none refines.action)
        (arguments_are (note_scope program proc) (globals ++ inner.own) (globals ++ inner.outs) note_known refines.with (chosen_sorts (action_named program refines.action)))

    body_arguments : (args : List Expr) (sorts : List Sort) → any_unknown (argument_uses (body_scope program proc) args sorts) ≡ arguments_strange inner args
    body_arguments args sorts = arguments_are (body_scope program proc) inner.own (globals ++ inner.outs) body_known args sorts

    results_are : (results : List Name) → list_any (place_unknown proc) results ≡ results_strange inner results
    results_are results = any_same (place_unknown proc) (λ name. not (has_name inner.own name)) (λ name. ap not (own_has proc name)) results

    in_body : (e : Expr) → (not (names_known (body_scope program proc) e) || false) ≡ body_strange inner e
    in_body e = or-false _ ∙ ap not (body_known e)

    in_note : (e : Expr) → (not (names_known (note_scope program proc) e) || false) ≡ note_strange inner e
    in_note e = or-false _ ∙ ap not (note_known e)

    form_is : (form : Stmt-F Stmt) → (form_unknown program proc form || any_unknown (form_uses program proc form)) ≡ form_strange inner form
    form_is (Assign target value) = ap₂ (λ (a b : Bool). not a || b) (own_has proc target) (in_body value)
    form_is (Assert fact) = in_body fact
    form_is (If test first second) = in_body test
    form_is (While test body) = in_body test
    form_is (YieldLoop test inv body) = ap₂ (λ (a b : Bool). not a || b) (body_known test) (in_note inv)
    form_is (RankLoop test rank inv body) = ap₂ (λ (a b : Bool). not a || b) (body_known test) (ap₂ (λ (a b : Bool). not a || b) (note_known rank) (in_note inv))
    form_is (Call callee args results) =
        ap₂ (λ (a b : Bool). a || b)
        (ap₂ (λ (a b : Bool). a || b) (signature_none (action_named program callee) (proc_named program callee) _ _ (action_none callee) (callee_none callee)) (results_are results))
        (body_arguments args (taken_sorts (callee_signature program callee)))
        ∙ or_assoc (call_strange inner callee) (results_strange inner results) (arguments_strange inner args)
    form_is (Yield inv) = in_note inv
    form_is Commit = refl
    form_is (Intro target value) = ap (λ (b : Bool). not (has_name globals target) || b) (in_note value)
    form_is (Spawn callee args) = ap₂ (λ (a b : Bool). a || b) (callee_none callee) (body_arguments args (taken_sorts (proc_signature_of (proc_named program callee))))

    pub stmt_is : (stmt : Stmt) → stmt_unknown program proc stmt ≡ stmt_strange inner stmt
    stmt_is stmt = form_is (out-Stmt stmt)
