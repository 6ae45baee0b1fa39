-- The scopes of notes, and what their terms say.
use Rattle.std.specs.Prelude.{map, slice_get, take, drop}
use Rattle.std.proofs.Common.{◌≡◌, ◌∙◌, ℕ, ◌+◌, ◌<◌, Bool, true, false, List, [], ◌++◌, length, sym, ap, ap₂, subst, arith, Some}
use Rattle.std.proofs.lemmas.List.{append-nil, length-map, length-append, map-append, length-take-le, take-map, drop-map}
use Rattle.civl_bits.specs.declared.value.Value.{Value}
use Rattle.civl_bits.specs.declared.value.Value.TheVariants as value
use Rattle.civl_tree.specs.declared.name.Name.{Name}
use Rattle.civl_tree.specs.declared.expr.Expr.{Expr}
use Rattle.civl_tree.specs.declared.expr.Sort.{Sort}
use Rattle.civl_tree.specs.declared.expr.Sort.TheVariants.{Bool as Truth}
use Rattle.civl_tree.specs.declared.program.Proc.{Proc}
use Rattle.civl_tree.specs.declared.program.Program.{Program}
use Rattle.civl_tree.specs.rules.Names.{global_names, param_names, names_in_proc, has_name}
use Rattle.civl_tree.specs.rules.Rules.{Keeps}
use Rattle.civl_tree.specs.rules.Typing.{typing_rules}
use Rattle.civl_tree.specs.rules.Scopes.{Scope as Sorts, Binding, sort_in, bind_globals, bind_params, bind_proc, global_scope, note_scope}
use Rattle.civl_tree.specs.rules.Sorts.{sort_of}
use Rattle.civl_tree.specs.rules.Uses.{param_sorts}
use Rattle.civl_firing.specs.values.Values.{is_true}
use Rattle.civl_firing.specs.declared.scope.Scope.{Scope as Meant}
use Rattle.civl_firing.specs.declared.store.Store.{Store}
use Rattle.civl_firing.specs.Scope.{global_values}
use Rattle.civl_firing.specs.Eval.{value_of}
use Rattle.civl_firing.specs.Truth.{place_of}
use Rattle.civl_meaning.specs.Config.{frame_sorts}
use Rattle.civl_terms.specs.declared.node.Node.{Node}
use Rattle.civl_terms.specs.Graphs.{value_at, sort_at, IsGraph, Fits}
use Rattle.civl_terms.specs.Building.{Grows}
use Rattle.civl_terms.proofs.Soundness.{nodes_have_their_sorts}
use Rattle.civl_actions.specs.declared.scope.Scope.{Scope}
use Rattle.civl_actions.specs.Scopes.{names_in, meant, StandsAt, ScopeFits, AreOf, IsTyped, Means}
use Rattle.civl_actions.proofs.Building.{truth_value}
use Rattle.civl_actions.proofs.Scoping.{Found, nothing_found, found_past}
use Rattle.civl_actions.proofs.Staying.{are_within, are_stay, values_stay}
use Rattle.civl_actions.proofs.Nodes.{are_long, are_joined}
use Rattle.civl_conditions.specs.paths.NoteValues.{note_names, with_outs}
use Rattle.civl_conditions.specs.Invariants.{holds_in}
use Rattle.civl_states.specs.formula_parts.Said.{Env, IsTest, IsSaid}
use Rattle.civl_states.specs.declared.notes.View.{View}
use Rattle.civl_states.specs.Stores.{AreStore, AreGlobals, global_sorts}
use Rattle.civl_states.specs.Notes.{Seen, seen_values, CanSee, AreSeen, IsProcIn}
use Rattle.civl_states.proofs.Scoping.{binding_names, binding_sorts, found_all, found_whole, bound, proc_bound_names, proc_bound_sorts, global_bound_names, global_bound_sorts, param_bound_names, param_bound_sorts, names_once, out_past_params}

-- ---- the names of a scope and the terms that they stand for

module _ (ns : List Node) (program : Program) (proc : Proc) (view : View) (can : CanSee ns program proc view) where
  -- so many terms for the frame
  pub frame_long : length view.locals.now ≡ length proc.params + (length proc.outs + length proc.locals)
  frame_long =
      are_long ns view.locals.now (frame_sorts proc) can.locals
      ∙ length-append (param_sorts proc.params) (param_sorts proc.outs ++ map (λ l. l.sort) proc.locals)
      ∙ ap₂ (λ (a b : ℕ). a + b) (length-map proc.params (λ p. p.sort))
      (length-append (param_sorts proc.outs) (map (λ l. l.sort) proc.locals) ∙ ap₂ (λ (a b : ℕ). a + b) (length-map proc.outs (λ p. p.sort)) (length-map proc.locals (λ l. l.sort)))

  abbrev pub present_ids : List ℕ
  present_ids = view.globals.now ++ view.locals.now

  abbrev pub old_ids : List ℕ
  old_ids = view.old_globals.now ++ (take (length proc.params) view.locals.now ++ (view.old_outs.now ++ drop (length proc.params + length proc.outs) view.locals.now))

  names_bound : binding_names (bind_globals program.globals ++ bind_proc proc) ≡ note_names program.globals proc
  names_bound =
      map-append (λ (b : Binding). b.name) (bind_globals program.globals) (bind_proc proc)
      ∙ ap₂ (λ (xs ys : List Name). xs ++ ys) (global_bound_names program.globals) (proc_bound_names proc)

  sorts_bound : binding_sorts (bind_globals program.globals ++ bind_proc proc) ≡ global_sorts program ++ frame_sorts proc
  sorts_bound =
      map-append (λ (b : Binding). b.sort) (bind_globals program.globals) (bind_proc proc)
      ∙ ap₂ (λ (xs ys : List Sort). xs ++ ys) (global_bound_sorts program.globals) (proc_bound_sorts proc)

  present_found : Found ns (note_names program.globals proc) present_ids (bind_globals program.globals ++ bind_proc proc)
  present_found =
      subst (λ (xs : List Name). Found ns xs present_ids (bind_globals program.globals ++ bind_proc proc)) names_bound
      (found_whole ns (bind_globals program.globals ++ bind_proc proc) present_ids
      (subst (AreOf ns present_ids) (sym sorts_bound) (are_joined ns view.globals.now view.locals.now (global_sorts program) (frame_sorts proc) can.globals can.locals)))

  -- behind the parameters stand the outputs, and then the locals
  outs_found : (rest : List ℕ) → Found ns (param_names proc.outs ++ map (λ l. l.name) proc.locals) (view.old_outs.now ++ rest) (bind_params proc.outs)
  outs_found rest =
      let others = map (λ l. l.name) proc.locals in
      let f = found_all ns (bind_params proc.outs) view.old_outs.now others rest [] (subst (AreOf ns view.old_outs.now) (sym (param_bound_sorts proc.outs)) can.old_outs) (nothing_found ns others rest) in
      let g = subst (λ (xs : List Name). Found ns (xs ++ others) (view.old_outs.now ++ rest) (bind_params proc.outs ++ [])) (param_bound_names proc.outs) f in
      subst (λ (bs : List Binding). Found ns (param_names proc.outs ++ others) (view.old_outs.now ++ rest) bs) (append-nil (bind_params proc.outs)) g

  module _ (keeps : Keeps typing_rules program) (there : IsProcIn program proc) where
    old_found : Found ns (note_names program.globals proc) old_ids (bind_globals program.globals ++ bind_params proc.outs)
    old_found =
        let rest = drop (length proc.params + length proc.outs) view.locals.now in
        let l : length (take (length proc.params) view.locals.now) ≡ length (param_names proc.params) = length-take-le (length proc.params) view.locals.now (omega (arith, frame_long)) ∙ sym (length-map proc.params (λ p. p.name)) in
        let f : Found ns (names_in_proc proc) (take (length proc.params) view.locals.now ++ (view.old_outs.now ++ rest)) (bind_params proc.outs) = λ name s e.
        let named : has_name (param_names proc.outs) name ≡ true = ap (λ (xs : List Name). has_name xs name) (sym (param_bound_names proc.outs)) ∙ bound (bind_params proc.outs) name s e in
        found_past (param_names proc.params) (param_names proc.outs ++ map (λ l. l.name) proc.locals) (take (length proc.params) view.locals.now) (view.old_outs.now ++ rest) ns name s l
        (out_past_params proc name (names_once program keeps proc there) named) (outs_found rest name s e) in
        let g = found_all ns (bind_globals program.globals) view.old_globals.now (names_in_proc proc) (take (length proc.params) view.locals.now ++ (view.old_outs.now ++ rest)) (bind_params proc.outs)
        (subst (AreOf ns view.old_globals.now) (sym (global_bound_sorts program.globals)) can.old_globals) f in
        subst (λ (xs : List Name). Found ns (xs ++ names_in_proc proc) old_ids (bind_globals program.globals ++ bind_params proc.outs)) (global_bound_names program.globals) g

    -- the terms are nodes
    some_of : (ids : List ℕ) (ss : List Sort) → AreOf ns ids ss → (id : ℕ) (place : ℕ) → slice_get ids place ≡ Some id → id < length ns
    some_of ids ss h id place e = are_within ns ids ss h place id e

    parts_of : (n : ℕ) (ids : List ℕ) (ss : List Sort) → AreOf ns ids ss → AreOf ns (take n ids) (take n ss)
    parts_of n ids ss h = sym (take-map (sort_at ns) n ids) ∙ ap (take n) h ∙ take-map (λ (s : Sort). Some s) n ss

    rest_of : (n : ℕ) (ids : List ℕ) (ss : List Sort) → AreOf ns ids ss → AreOf ns (drop n ids) (drop n ss)
    rest_of n ids ss h = sym (drop-map (sort_at ns) n ids) ∙ ap (drop n) h ∙ drop-map (λ (s : Sort). Some s) n ss

    abbrev old_sorts : List Sort
    old_sorts = global_sorts program ++ (take (length proc.params) (frame_sorts proc) ++ (param_sorts proc.outs ++ drop (length proc.params + length proc.outs) (frame_sorts proc)))

    old_are : AreOf ns old_ids old_sorts
    old_are =
        are_joined ns view.old_globals.now _ (global_sorts program) _ can.old_globals
        (are_joined ns (take (length proc.params) view.locals.now) _ (take (length proc.params) (frame_sorts proc)) _ (parts_of (length proc.params) view.locals.now (frame_sorts proc) can.locals)
        (are_joined ns view.old_outs.now _ (param_sorts proc.outs) _ can.old_outs (rest_of (length proc.params + length proc.outs) view.locals.now (frame_sorts proc) can.locals)))

    present_are : AreOf ns present_ids (global_sorts program ++ frame_sorts proc)
    present_are = are_joined ns view.globals.now view.locals.now (global_sorts program) (frame_sorts proc) can.globals can.locals

    module _ (sc : Scope) (names : names_in sc ≡ note_names program.globals proc) (values : sc.values.now ≡ present_ids) (olds : sc.old.now ≡ old_ids) (done : sc.done ≡ view.done) (old_done : sc.old_done ≡ view.old_done) where
      in_scope : (list ids : List ℕ) → list ≡ ids → (bindings : List Binding) → Found ns (note_names program.globals proc) ids bindings → (name : Name) (s : Sort) → sort_in bindings name ≡ Some s → StandsAt ns list (place_of (names_in sc) name) s
      in_scope list ids e bindings f name s b =
          subst (λ (is : List ℕ). StandsAt ns is (place_of (names_in sc) name) s) (sym e)
          (subst (λ (xs : List Name). StandsAt ns ids (place_of xs name) s) (sym names) (f name s b))

      pub note_fits : ScopeFits ns sc (note_scope program proc)
      note_fits = record {
        values = λ place id e. are_within ns present_ids _ present_are place id (ap (λ (is : List ℕ). slice_get is place) (sym values) ∙ e);
        olds_there = λ place id e. are_within ns old_ids _ old_are place id (ap (λ (is : List ℕ). slice_get is place) (sym olds) ∙ e);
        names = in_scope sc.values.now present_ids values (bind_globals program.globals ++ bind_proc proc) present_found;
        olds = in_scope sc.old.now old_ids olds (bind_globals program.globals ++ bind_params proc.outs) old_found;
        done = ap (sort_at ns) done ∙ can.done;
        old_done = ap (sort_at ns) old_done ∙ can.old_done;
      }

      -- what they stand for
      module _ (s : Env → Seen) (seen : AreSeen ns program proc view s) (env : Env) (fits : Fits env ns) where
        present_values : map (value_at env ns) present_ids ≡ (s env).store.values ++ (s env).locals
        present_values = map-append (value_at env ns) view.globals.now view.locals.now ∙ ap₂ (λ (us vs : List Value). us ++ vs) (seen.globals.are env fits) (seen.locals.are env fits)

        old_values : map (value_at env ns) old_ids ≡ (s env).old.values ++ with_outs proc (s env).locals (s env).old_outs
        old_values =
            map-append (value_at env ns) view.old_globals.now _
            ∙ ap₂ (λ (us vs : List Value). us ++ vs) (seen.old_globals.are env fits)
            (map-append (value_at env ns) (take (length proc.params) view.locals.now) _
            ∙ ap₂ (λ (us vs : List Value). us ++ vs) (sym (take-map (value_at env ns) (length proc.params) view.locals.now) ∙ ap (take (length proc.params)) (seen.locals.are env fits))
            (map-append (value_at env ns) view.old_outs.now _
            ∙ ap₂ (λ (us vs : List Value). us ++ vs) (seen.old_outs.are env fits) (sym (drop-map (value_at env ns) (length proc.params + length proc.outs) view.locals.now) ∙ ap (drop (length proc.params + length proc.outs)) (seen.locals.are env fits))))

        pub note_meant : meant env ns sc ≡ seen_values program proc (s env)
        note_meant =
            same (names_in sc) _ (map (value_at env ns) sc.values.now) _ (map (value_at env ns) sc.old.now) _ (is_true (value_at env ns sc.done)) _ (is_true (value_at env ns sc.old_done)) _
            names (ap (map (value_at env ns)) values ∙ present_values) (ap (map (value_at env ns)) olds ∙ old_values)
            (ap (λ i. is_true (value_at env ns i)) done ∙ ap is_true (seen.done.is env fits)) (ap (λ i. is_true (value_at env ns i)) old_done ∙ ap is_true (seen.old_done.is env fits))
          where
            same : (xs xs2 : List Name) (vs vs2 os os2 : List Value) (d d2 e e2 : Bool) → xs ≡ xs2 → vs ≡ vs2 → os ≡ os2 → d ≡ d2 → e ≡ e2
                → ◌≡◌ {A = Meant} (record { names = xs; values = vs; old = os; done = d; old_done = e }) (record { names = xs2; values = vs2; old = os2; done = d2; old_done = e2 })
            same xs xs2 vs vs2 os os2 d d2 e e2 p q r t u =
                ap (λ (z : List Name). record { names = z; values = vs; old = os; done = d; old_done = e }) p
                ∙ ap (λ (z : List Value). record { names = xs2; values = z; old = os; done = d; old_done = e }) q
                ∙ ap (λ (z : List Value). record { names = xs2; values = vs2; old = z; done = d; old_done = e }) r
                ∙ ap (λ (z : Bool). record { names = xs2; values = vs2; old = os2; done = z; old_done = e }) t
                ∙ ap (λ (z : Bool). record { names = xs2; values = vs2; old = os2; done = d2; old_done = z }) u

-- ---- the term of an expression, where its scope stands for these values

-- what it says
pub said_of : (old new : List Node) (sc : Scope) (sorts : Sorts) (e : Expr) (id : ℕ) (sort : Sort) (meaning : Env → Meant) → Grows old new → ScopeFits old sc sorts → ((env : Env) → Fits env old → meant env old sc ≡ meaning env)
    → IsTyped sorts e → sort_of sorts e ≡ Some sort → Means old new sc e id → IsSaid new id sort (λ env. value_of (meaning env) e)
said_of old new sc sorts e id sort meaning g fits is typed sorted m = record {
  sorted = m.sorted sorts fits typed ∙ sorted;
  is = λ env f. m.is env f ∙ ap (λ (c : Meant). value_of c e) (is env (g.fits env f));
}

pub test_of : (old new : List Node) (sc : Scope) (sorts : Sorts) (e : Expr) (id : ℕ) (meaning : Env → Meant) → IsGraph new → Grows old new → ScopeFits old sc sorts → ((env : Env) → Fits env old → meant env old sc ≡ meaning env)
    → IsTyped sorts e → sort_of sorts e ≡ Some Truth → Means old new sc e id → IsTest new id (λ env. holds_in (meaning env) e)
test_of old new sc sorts e id meaning graph g fits is typed sorted m =
    let s : sort_at new id ≡ Some Truth = m.sorted sorts fits typed ∙ sorted in
    record {
      sorted = s;
      is = λ env f.
          truth_value (value_at env new id) (nodes_have_their_sorts new graph env f id Truth s)
          ∙ ap (λ (v : Value). value.Bool (is_true v)) (m.is env f ∙ ap (λ (c : Meant). value_of c e) (is env (g.fits env f)));
    }

-- ---- expressions of the globals alone

module _ (old ns : List Node) (program : Program) (globals : List ℕ) (g : Grows old ns) (are : AreGlobals old program globals) (no : ℕ) (is_no : IsTest ns no (λ env. false))
    (sc : Scope) (names : names_in sc ≡ global_names program.globals) (values : sc.values.now ≡ globals) (olds : sc.old.now ≡ globals) (done : sc.done ≡ no) (old_done : sc.old_done ≡ no) where
  there : AreOf ns globals (global_sorts program)
  there = are_stay old ns globals (global_sorts program) are g

  globals_found : Found ns (global_names program.globals) globals (bind_globals program.globals)
  globals_found =
      subst (λ (xs : List Name). Found ns xs globals (bind_globals program.globals)) (global_bound_names program.globals)
      (found_whole ns (bind_globals program.globals) globals (subst (AreOf ns globals) (sym (global_bound_sorts program.globals)) there))

  found_in : (list : List ℕ) → list ≡ globals → (name : Name) (s : Sort) → sort_in (bind_globals program.globals) name ≡ Some s → StandsAt ns list (place_of (names_in sc) name) s
  found_in list e name s b =
      subst (λ (is : List ℕ). StandsAt ns is (place_of (names_in sc) name) s) (sym e)
      (subst (λ (xs : List Name). StandsAt ns globals (place_of xs name) s) (sym names) (globals_found name s b))

  pub global_fits : ScopeFits ns sc (global_scope program)
  global_fits = record {
    values = λ place id e. are_within ns globals _ there place id (ap (λ (is : List ℕ). slice_get is place) (sym values) ∙ e);
    olds_there = λ place id e. are_within ns globals _ there place id (ap (λ (is : List ℕ). slice_get is place) (sym olds) ∙ e);
    names = found_in sc.values.now values;
    olds = found_in sc.old.now olds;
    done = ap (sort_at ns) done ∙ is_no.sorted;
    old_done = ap (sort_at ns) old_done ∙ is_no.sorted;
  }

  pub global_meant : (h : Env → Store) → AreStore old program globals h → (env : Env) → Fits env ns → meant env ns sc ≡ global_values program.globals (h env)
  global_meant h said env fits =
      let now : map (value_at env ns) globals ≡ (h env).values = values_stay env old ns globals (global_sorts program) are g ∙ said.are env (g.fits env fits) in
      same (names_in sc) _ (map (value_at env ns) sc.values.now) _ (map (value_at env ns) sc.old.now) _ (is_true (value_at env ns sc.done)) _ (is_true (value_at env ns sc.old_done)) _
      names (ap (map (value_at env ns)) values ∙ now) (ap (map (value_at env ns)) olds ∙ now)
      (ap (λ i. is_true (value_at env ns i)) done ∙ ap is_true (is_no.is env fits)) (ap (λ i. is_true (value_at env ns i)) old_done ∙ ap is_true (is_no.is env fits))
    where
      same : (xs xs2 : List Name) (vs vs2 os os2 : List Value) (d d2 e e2 : Bool) → xs ≡ xs2 → vs ≡ vs2 → os ≡ os2 → d ≡ d2 → e ≡ e2
          → ◌≡◌ {A = Meant} (record { names = xs; values = vs; old = os; done = d; old_done = e }) (record { names = xs2; values = vs2; old = os2; done = d2; old_done = e2 })
      same xs xs2 vs vs2 os os2 d d2 e e2 p q r t u =
          ap (λ (z : List Name). record { names = z; values = vs; old = os; done = d; old_done = e }) p
          ∙ ap (λ (z : List Value). record { names = xs2; values = z; old = os; done = d; old_done = e }) q
          ∙ ap (λ (z : List Value). record { names = xs2; values = vs2; old = z; done = d; old_done = e }) r
          ∙ ap (λ (z : Bool). record { names = xs2; values = vs2; old = os2; done = z; old_done = e }) t
          ∙ ap (λ (z : Bool). record { names = xs2; values = vs2; old = os2; done = d2; old_done = z }) u
