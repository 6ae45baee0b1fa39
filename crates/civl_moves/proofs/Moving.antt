-- What a plain statement's terms make of a sweep.
use Rattle.std.specs.Prelude.{map, slice_get, slice_set}
use Rattle.std.proofs.Common.{◌≡◌, ◌∙◌, ℕ, zero, suc, Bool, true, false, ◌&&◌, ◌||◌, not, List, [], ◌∷◌, refl, sym, ap, ap₂, subst, add-one, Some}
use Rattle.std.specs.Prelude.{if◌then◌else◌, ◌+◌}
use Rattle.std.specs.Str.{bytes_eq}
use Rattle.civl_bits.specs.declared.value.Value.{Value}
use Rattle.civl_tree.specs.declared.name.Name.{Name}
use Rattle.civl_tree.specs.declared.expr.Sort.{Sort}
use Rattle.civl_tree.specs.declared.program.Global.{Global}
use Rattle.civl_tree.specs.declared.program.Proc.{Proc}
use Rattle.civl_tree.specs.declared.program.Program.{Program}
use Rattle.civl_tree.specs.rules.Names.{global_names, names_in_proc}
use Rattle.civl_tree.specs.declared.expr.Expr.{Expr}
use Rattle.civl_tree.specs.rules.Scopes.{Binding, sort_in, bind_globals, bind_proc, body_scope, note_scope}
use Rattle.civl_firing.specs.Eval.{value_of}
use Rattle.civl_firing.specs.Scope.{frame_values}
use Rattle.civl_conditions.specs.paths.NoteValues.{plain_note_values}
use Rattle.civl_conditions.specs.paths.Paths.{set_global}
use Rattle.civl_moves.specs.Expressions.{IsBodyTerm, IsNoteTerm}
use Rattle.civl_tree.specs.rules.Uses.{place_sort}
use Rattle.civl_firing.specs.Truth.{place_of}
use Rattle.civl_meaning.specs.Config.{frame_sorts}
use Rattle.civl_meaning.proofs.Bindings.{names_of, sorts_of, names_bound, sorts_bound, proc_names, proc_sorts}
use Rattle.civl_terms.specs.declared.node.Node.{Node}
use Rattle.civl_terms.specs.Graphs.{value_at, Fits}
use Rattle.civl_terms.specs.Building.{Grows}
use Rattle.civl_actions.specs.Scopes.{AreOf}
use Rattle.civl_actions.specs.Actions.{values_at}
use Rattle.civl_actions.proofs.Listing.{are_written}
use Rattle.civl_actions.proofs.Staying.{are_stay, values_stay}
use Rattle.civl_states.specs.formula_parts.Said.{Env, IsTest}
use Rattle.civl_moves.specs.sweeps.Sweeps.{Swept, gated, set_locals, with_commit}
use Rattle.civl_moves.specs.declared.sweep.Sweep.{Sweep}
use Rattle.civl_moves.specs.States.{bool_at, swept_at, CanSweep, Moves, Suits}
use Rattle.civl_moves.proofs.States.{test_value, test_bool, bool_same, same_swept, stops_same, can_stays}

-- ---- the sort at a name's place

placed : (bs : List Binding) (x : Name) (s : Sort) → slice_get (sorts_of bs) (place_of (names_of bs) x) ≡ Some s → sort_in bs x ≡ Some s
placed [] x s e = absurd (cc)
placed (b ∷ bs) x s e = by (bytes_eq b.name.bytes x.bytes) (placed bs x s) e
  where
    by : (c : Bool) → (slice_get (sorts_of bs) (place_of (names_of bs) x) ≡ Some s → sort_in bs x ≡ Some s) → slice_get (b.sort ∷ sorts_of bs) (if c then 0 else place_of (names_of bs) x + 1) ≡ Some s → (if c then Some b.sort else sort_in bs x) ≡ Some s
    by true f q = q
    by false f q = f (sym (ap (slice_get (b.sort ∷ sorts_of bs)) (add-one (place_of (names_of bs) x))) ∙ q)

by_lists : (bs : List Binding) (names : List Name) (sorts : List Sort) → names_of bs ≡ names → sorts_of bs ≡ sorts → (x : Name) (s : Sort) → slice_get sorts (place_of names x) ≡ Some s → sort_in bs x ≡ Some s
by_lists bs names sorts n t x s e = placed bs x s (ap (λ (ss : List Sort). slice_get ss (place_of (names_of bs) x)) t ∙ ap (λ (ns : List Name). slice_get sorts (place_of ns x)) n ∙ e)

pub in_frame : (proc : Proc) (x : Name) (s : Sort) → slice_get (frame_sorts proc) (place_of (names_in_proc proc) x) ≡ Some s → place_sort proc x ≡ Some s
in_frame proc x s e = by_lists (bind_proc proc) (names_in_proc proc) (frame_sorts proc) (proc_names proc) (proc_sorts proc) x s e

pub in_globals : (program : Program) (x : Name) (s : Sort) → slice_get (map (λ (g : Global). g.sort) program.globals) (place_of (global_names program.globals) x) ≡ Some s → sort_in (bind_globals program.globals) x ≡ Some s
in_globals program x s e =
    by_lists (bind_globals program.globals) _ _ (names_bound (λ (g : Global). g.name) (λ (g : Global). g.sort) program.globals) (sorts_bound (λ (g : Global). g.name) (λ (g : Global). g.sort) program.globals) x s e

pub map_set : {A B : Type 0} (f : A → B) (xs : List A) (k : ℕ) (x : A) → map f (slice_set xs k x) ≡ slice_set (map f xs) k (f x)
map_set f [] k x = refl
map_set f (y ∷ ys) zero x = refl
map_set f (y ∷ ys) (suc k) x = ap (λ zs. f y ∷ zs) (map_set f ys k x)

-- ---- moves

module _ (old new : List Node) (program : Program) (proc : Proc) (s : Sweep) (g : Grows old new) (c : CanSweep old program proc s) where
  now : CanSweep new program proc s
  now = can_stays old new program proc g s c

  live_same : (env : Env) → bool_at env new s.live ≡ bool_at env old s.live
  live_same env = bool_same old new s.live g c.live env

  globals_same : (env : Env) → values_at env new s.globals ≡ values_at env old s.globals
  globals_same env = values_stay env old new s.globals _ c.globals g

  locals_same : (env : Env) → values_at env new s.locals ≡ values_at env old s.locals
  locals_same env = values_stay env old new s.locals _ c.locals g

  done_same : (env : Env) → bool_at env new s.done ≡ bool_at env old s.done
  done_same env = bool_same old new s.done g c.done env

  broken_same : (env : Env) → not (bool_at env new s.safe) ≡ not (bool_at env old s.safe)
  broken_same env = ap not (bool_same old new s.safe g c.safe env)

  again_same : (env : Env) → not (bool_at env new s.once) ≡ not (bool_at env old s.once)
  again_same env = ap not (bool_same old new s.once g c.once env)

  -- other locals
  pub locals_move : (ids : List ℕ) (f : Swept → List Value) → AreOf new ids (frame_sorts proc) → ((env : Env) → Fits env new → values_at env new ids ≡ f (swept_at env old s)) → Moves old new program proc s (record s { locals = ids }) (λ env d. set_locals (f d) d)
  locals_move ids f a is = record {
    can = record { live = now.live; globals = now.globals; locals = a; done = now.done; safe = now.safe; once = now.once; stops = now.stops };
    is = λ env fits.
        same_swept s.onward _ _ _ _ _ _ _ _ _ _ _ _ _ _ (live_same env) (globals_same env) (is env fits) (done_same env) (broken_same env) (again_same env) (stops_same old new program proc g s.stops c.stops env);
  }

  -- other globals
  pub globals_move : (ids : List ℕ) (f : Swept → List Value) → AreOf new ids (map (λ q. q.sort) program.globals) → ((env : Env) → Fits env new → values_at env new ids ≡ f (swept_at env old s)) → Moves old new program proc s (record s { globals = ids }) (λ env d. record d { store = record { values = f d } })
  globals_move ids f a is = record {
    can = record { live = now.live; globals = a; locals = now.locals; done = now.done; safe = now.safe; once = now.once; stops = now.stops };
    is = λ env fits.
        same_swept s.onward _ _ _ _ _ _ _ _ _ _ _ _ _ _ (live_same env) (is env fits) (locals_same env) (done_same env) (broken_same env) (again_same env) (stops_same old new program proc g s.stops c.stops env);
  }

  -- a test that has to hold
  not_and : (a b : Bool) → not (a && b) ≡ (not a || not b)
  not_and true b = refl
  not_and false b = refl

  not_implied : (a b : Bool) → not (not a || b) ≡ (a && not b)
  not_implied true b = refl
  not_implied false b = refl

  pub gate_moves : (live safe : ℕ) (t : Swept → Bool) → IsTest new live (λ env. bool_at env old s.live && t (swept_at env old s)) → IsTest new safe (λ env. bool_at env old s.safe && (not (bool_at env old s.live) || t (swept_at env old s)))
      → Moves old new program proc s (record s { live = live; safe = safe }) (λ env d. gated (t d) d)
  gate_moves live safe t p q = record {
    can = record { live = test_bool new live _ p; globals = now.globals; locals = now.locals; done = now.done; safe = test_bool new safe _ q; once = now.once; stops = now.stops };
    is = λ env fits.
        same_swept s.onward _ _ _ _ _ _ _ _ _ _ _ _ _ _ (test_value new live _ p env fits) (globals_same env) (locals_same env) (done_same env)
        (ap not (test_value new safe _ q env fits) ∙ not_and (bool_at env old s.safe) _ ∙ ap (λ (b : Bool). not (bool_at env old s.safe) || b) (not_implied (bool_at env old s.live) (t (swept_at env old s))))
        (again_same env) (stops_same old new program proc g s.stops c.stops env);
  }

  not_both : (a b : Bool) → not (not a || not b) ≡ (a && b)
  not_both true true = refl
  not_both true false = refl
  not_both false b = refl

  pub commit_moves : (once done : ℕ) → IsTest new once (λ env. bool_at env old s.once && (not (bool_at env old s.live) || not (bool_at env old s.done))) → IsTest new done (λ env. true)
      → Moves old new program proc s (record s { once = once; done = done }) (λ env. with_commit)
  commit_moves once done p q = record {
    can = record { live = now.live; globals = now.globals; locals = now.locals; done = test_bool new done _ q; safe = now.safe; once = test_bool new once _ p; stops = now.stops };
    is = λ env fits.
        same_swept s.onward _ _ _ _ _ _ _ _ _ _ _ _ _ _ (live_same env) (globals_same env) (locals_same env) (test_value new done _ q env fits) (broken_same env)
        (ap not (test_value new once _ p env fits) ∙ not_and (bool_at env old s.once) _ ∙ ap (λ (b : Bool). not (bool_at env old s.once) || b) (not_both (bool_at env old s.live) (bool_at env old s.done)))
        (stops_same old new program proc g s.stops c.stops env);
  }

-- ---- assigns and intros

module _ (old new : List Node) (program : Program) (proc : Proc) (s : Sweep) (g : Grows old new) (c : CanSweep old program proc s) (x : Name) (e : Expr) (id : ℕ) where
  pub locals_written : Suits (body_scope program proc) e (place_sort proc x) → IsBodyTerm old new program proc s.locals e id → (ids : List ℕ) → ids ≡ slice_set s.locals (place_of (names_in_proc proc) x) id
      → Moves old new program proc s (record s { locals = ids }) (λ env d. set_locals (slice_set d.locals (place_of (names_in_proc proc) x) (value_of (frame_values program.globals proc d.locals) e)) d)
  locals_written suits t ids w =
      let place = place_of (names_in_proc proc) x in
      let are = are_written new s.locals (frame_sorts proc) place id (are_stay old new s.locals _ c.locals g) (λ r h. t.sorted ∙ suits.sorted r (in_frame proc x r h)) in
      locals_move old new program proc s g c ids (λ d. slice_set d.locals place (value_of (frame_values program.globals proc d.locals) e)) (subst (λ (is : List ℕ). AreOf new is (frame_sorts proc)) (sym w) are)
      (λ env fits. ap (values_at env new) w ∙ map_set (value_at env new) s.locals place id ∙ ap₂ (λ (vs : List Value) (v : Value). slice_set vs place v) (values_stay env old new s.locals _ c.locals g) (t.is env fits))

  pub globals_written : Suits (note_scope program proc) e (sort_in (bind_globals program.globals) x) → IsNoteTerm old new program proc s.globals s.locals e id → (ids : List ℕ) → ids ≡ slice_set s.globals (place_of (global_names program.globals) x) id
      → Moves old new program proc s (record s { globals = ids }) (λ env d. record d { store = set_global program.globals d.store x (value_of (plain_note_values program.globals proc d.store d.locals) e) })
  globals_written suits t ids w =
      let place = place_of (global_names program.globals) x in
      let are = are_written new s.globals (map (λ (q : Global). q.sort) program.globals) place id (are_stay old new s.globals _ c.globals g) (λ r h. t.sorted ∙ suits.sorted r (in_globals program x r h)) in
      globals_move old new program proc s g c ids (λ d. slice_set d.store.values place (value_of (plain_note_values program.globals proc d.store d.locals) e)) (subst (λ (is : List ℕ). AreOf new is (map (λ (q : Global). q.sort) program.globals)) (sym w) are)
      (λ env fits. ap (values_at env new) w ∙ map_set (value_at env new) s.globals place id ∙ ap₂ (λ (vs : List Value) (v : Value). slice_set vs place v) (values_stay env old new s.globals _ c.globals g) (t.is env fits))
