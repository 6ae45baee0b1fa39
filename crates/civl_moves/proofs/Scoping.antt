-- The scopes of a body's expressions: each name that has a sort stands for a term of it.
use Rattle.std.specs.Prelude.{map, slice_get, IsTrue, All, get_or, take}
use Rattle.std.specs.Str.{bytes_eq}
use Rattle.std.specs.List.{list_any}
use Rattle.std.proofs.Common.{◌≡◌, ◌∙◌, ℕ, suc, ◌+◌, ◌<◌, Bool, true, false, List, [], ◌∷◌, ◌++◌, length, refl, sym, ap, ap₂, subst, arith, Option, Some, inl, inr}
use Rattle.std.proofs.lemmas.Bool.{not-false, or_parts}
use Rattle.std.proofs.lemmas.List.{map-append, take_more}
use Rattle.std.proofs.lemmas.List.Elements.{All-nil, All-cons, All-get_or}
use Rattle.civl_bits.specs.declared.value.Value.{Value}
use Rattle.civl_bits.specs.declared.value.Value.TheVariants as value
use Rattle.civl_tree.specs.declared.name.Name.{Name}
use Rattle.civl_tree.specs.declared.expr.Expr.{Expr}
use Rattle.civl_tree.specs.declared.expr.Sort.{Sort}
use Rattle.civl_tree.specs.declared.expr.Sort.TheVariants.{Bool as Truth}
use Rattle.civl_tree.specs.declared.program.Global.{Global}
use Rattle.civl_tree.specs.declared.program.Proc.{Proc}
use Rattle.civl_tree.specs.declared.program.Program.{Program}
use Rattle.civl_tree.specs.rules.Names.{global_names, names_in_proc, any_twice, has_name}
use Rattle.civl_tree.specs.rules.Width.{sort_width_fits}
use Rattle.civl_tree.specs.rules.Twice.{declared_twice}
use Rattle.civl_tree.specs.rules.Scopes.{Scope as Sorts, Binding, sort_in, bind_globals, bind_params, bind_locals, bind_proc, body_scope, note_scope}
use Rattle.civl_tree.specs.rules.Rules.{Keeps}
use Rattle.civl_tree.specs.rules.Typing.{typing_rules, twice_rule, width_rule, index_rule}
use Rattle.civl_tree.proofs.Kept.{global_kept, proc_kept, twice_among, width_among, index_among}
use Rattle.civl_tree.proofs.Lists.{heads}
use Rattle.civl_firing.specs.values.Values.{is_sort, is_true, zero_of, sort_of_value}
use Rattle.civl_firing.proofs.values.Zeros.{zeros_have_their_sorts}
use Rattle.civl_firing.specs.declared.scope.Scope.{Scope as Meant}
use Rattle.civl_firing.specs.Truth.{place_of}
use Rattle.civl_firing.specs.Eval.{value_of}
use Rattle.civl_firing.specs.Scope.{present_values}
use Rattle.civl_firing.proofs.SortLimits.{limits}
use Rattle.civl_meaning.specs.Config.{frame_sorts}
use Rattle.civl_meaning.proofs.Bindings.{names_of, sorts_of, in_front, in_back, in_either, not_in_first, Declared, not_declared, joined, proc_names, proc_sorts, global_names_are, global_sorts_are}
use Rattle.civl_terms.specs.declared.node.Node.{Node}
use Rattle.civl_terms.specs.Graphs.{value_at, sort_at, IsGraph, Fits}
use Rattle.civl_terms.specs.Building.{Grows, Built}
use Rattle.civl_terms.proofs.Soundness.{nodes_have_their_sorts, sort_is}
use Rattle.civl_actions.specs.declared.scope.Scope.{Scope}
use Rattle.civl_actions.specs.Scopes.{names_in, meant, StandsAt, ScopeFits, AreOf, IsTyped, Means}
use Rattle.civl_actions.specs.Actions.{values_at}
use Rattle.civl_actions.proofs.Building.{truth_value}
use Rattle.civl_actions.proofs.Staying.{are_within, are_stay, values_stay}
use Rattle.civl_actions.proofs.Nodes.{are_joined}
use Rattle.civl_actions.proofs.Scoping.{Found, found_by}
use Rattle.civl_conditions.specs.paths.NoteValues.{note_names}
use Rattle.civl_states.specs.formula_parts.Said.{Env}
use Rattle.civl_states.specs.Notes.{IsProcIn}
use Rattle.civl_moves.specs.Expressions.{AreZeros, IsTermOf}

-- ---- the zeros of globals

pub zeros_none : (ns : List Node) → AreZeros ns ns [] []
zeros_none ns = record { values = λ env f. refl; sorts = refl; weighs = omega arith }

zeros_more : (old now new : List Node) (gs : List Global) (g : Global) (ids : List ℕ) (id : ℕ) → AreZeros old now gs ids → IsTrue (is_sort g.sort) → Grows now new
    → Built now new id (λ env. zero_of g.sort) (Some (sort_of_value (zero_of g.sort))) 0 → AreZeros old new (gs ++ g ∷ []) (ids ++ id ∷ [])
zeros_more old now new gs g ids id z l w b = record {
  values = λ env f.
      map-append (value_at env new) ids (id ∷ [])
      ∙ ap₂ (λ (vs : List Value) (v : Value). vs ++ v ∷ []) (values_stay env now new ids (map (λ q. q.sort) gs) z.sorts w ∙ z.values env (w.fits env f)) (b.is env f)
      ∙ sym (map-append (λ (q : Global). zero_of q.sort) gs (g ∷ []));
  sorts =
      map-append (sort_at new) ids (id ∷ [])
      ∙ ap₂ (λ (os : List (Option Sort)) (o : Option Sort). os ++ o ∷ []) (are_stay now new ids (map (λ q. q.sort) gs) z.sorts w) (b.sorted ∙ ap (λ (s : Sort). Some s) (sort_is (zero_of g.sort) g.sort (zeros_have_their_sorts g.sort l)))
      ∙ sym (map-append (λ (s : Sort). Some s) (map (λ (q : Global). q.sort) gs) (g.sort ∷ []))
      ∙ ap (map (λ (s : Sort). Some s)) (sym (map-append (λ (q : Global). q.sort) gs (g ∷ [])));
  weighs = omega (arith, z.weighs, b.weighs);
}

pub zeros_step : (old now new : List Node) (gs : List Global) (i : ℕ) (g : Global) (ids more : List ℕ) (v : Value) (id : ℕ) → All (λ (q : Global). IsTrue (is_sort q.sort)) gs → i < length gs → g ≡ get_or gs i g
    → AreZeros old now (take i gs) ids → Grows now new → v ≡ zero_of g.sort → Built now new id (λ env. v) (Some (sort_of_value v)) 0 → more ≡ ids ++ id ∷ [] → AreZeros old new (take (i + 1) gs) more
zeros_step old now new gs i g ids more v id all l is z w e b m =
    let limit : IsTrue (is_sort g.sort) = subst (λ (q : Global). IsTrue (is_sort q.sort)) (sym is) (All-get_or (λ (q : Global). IsTrue (is_sort q.sort)) gs i g l all) in
    let made = subst (λ (x : Value). Built now new id (λ env. x) (Some (sort_of_value x)) 0) e b in
    let next : take (i + 1) gs ≡ take i gs ++ g ∷ [] = take_more gs i g l ∙ ap (λ (q : Global). take i gs ++ q ∷ []) (sym is) in
    subst (λ (ps : List Global). AreZeros old new ps more) (sym next) (subst (AreZeros old new (take i gs ++ g ∷ [])) (sym m) (zeros_more old now new (take i gs) g ids id z limit w made))

placed : (gs : List Global) → ((place : ℕ) (g : Global) → slice_get gs place ≡ Some g → is_sort g.sort ≡ true) → All (λ (g : Global). IsTrue (is_sort g.sort)) gs
placed [] f = All-nil (λ (g : Global). IsTrue (is_sort g.sort))
placed (x ∷ xs) f = All-cons (λ (g : Global). IsTrue (is_sort g.sort)) x xs (f 0 x refl) (placed xs (λ place g at. f (suc place) g at))

pub globals_sorted : (program : Program) → Keeps typing_rules program → All (λ (g : Global). IsTrue (is_sort g.sort)) program.globals
globals_sorted program keeps =
    placed program.globals (λ place g at.
    limits g.sort (not-false (sort_width_fits g.sort) (or_parts _ _ (global_kept typing_rules program keeps width_rule width_among place g at)).0)
    (global_kept typing_rules program keeps index_rule index_among place g at))

-- ---- names that stand for terms of their sorts

found_all : (ns : List Node) (bs : List Binding) (ids : List ℕ) → AreOf ns ids (sorts_of bs) → Found ns (names_of bs) ids bs
found_all ns [] ids h name s e = absurd (cc)
found_all ns (b ∷ bs) [] h name s e = absurd (cc)
found_all ns (b ∷ bs) (i ∷ ids) h name s e =
    let p = heads (sort_at ns i) (Some b.sort) (map (sort_at ns) ids) (map (λ (s : Sort). Some s) (sorts_of bs)) h in
    found_by ns b.name (names_of bs) i ids b.sort bs p.0 (found_all ns bs ids p.1) name s (bytes_eq b.name.bytes name.bytes) refl e

-- each name of the first list has its sort in the second
abbrev Among : List Binding → List Binding → Type 0
Among cs bs = (name : Name) (s : Sort) → sort_in cs name ≡ Some s → sort_in bs name ≡ Some s

-- what a scope is made of
pub record Made (sc : Scope) (known : List Name) (ids : List ℕ) (nay : ℕ) : Type 0 where
  pub names : names_in sc ≡ known
  pub values : sc.values.now ≡ ids
  pub old : sc.old.now ≡ ids
  pub done : sc.done ≡ nay
  pub old_done : sc.old_done ≡ nay

pub scope_fits : (ns : List Node) (sc : Scope) (names : List Name) (ids : List ℕ) (nay : ℕ) (bs : List Binding) (sorts : Sorts) → Made sc names ids nay → names ≡ names_of bs → AreOf ns ids (sorts_of bs) → sort_at ns nay ≡ Some Truth
    → Among sorts.names bs → Among sorts.olds bs → ScopeFits ns sc sorts
scope_fits ns sc names ids nay bs sorts m n are nays first second = record {
  values = λ place id e. are_within ns ids (sorts_of bs) are place id (ap (λ (is : List ℕ). slice_get is place) (sym m.values) ∙ e);
  olds_there = λ place id e. are_within ns ids (sorts_of bs) are place id (ap (λ (is : List ℕ). slice_get is place) (sym m.old) ∙ e);
  names = λ name s e. stands sc.values.now m.values name s (first name s e);
  olds = λ name s e. stands sc.old.now m.old name s (second name s e);
  done = ap (sort_at ns) m.done ∙ nays;
  old_done = ap (sort_at ns) m.old_done ∙ nays;
}
  where
    stands : (list : List ℕ) → list ≡ ids → (name : Name) (s : Sort) → sort_in bs name ≡ Some s → StandsAt ns list (place_of (names_in sc) name) s
    stands list e name s b =
        subst (λ (is : List ℕ). StandsAt ns is (place_of (names_in sc) name) s) (sym e)
        (subst (λ (xs : List Name). StandsAt ns ids (place_of xs name) s) (sym (m.names ∙ n)) (found_all ns bs ids are name s b))

module _ (program : Program) (keeps : Keeps typing_rules program) (proc : Proc) (there : IsProcIn program proc) where
  abbrev globals : List Binding
  globals = bind_globals program.globals

  declares : Declared globals (bind_proc proc)
  declares =
      let t = (or_parts _ (declared_twice program (names_in_proc proc)) (proc_kept typing_rules program keeps twice_rule twice_among there.0 proc there.1)).1 in
      let p = or_parts (any_twice (names_in_proc proc)) (list_any (has_name (global_names program.globals)) (names_in_proc proc)) t in
      record {
        own = ap any_twice (proc_names proc) ∙ p.0;
        new = ap (λ (ns : List Name). list_any (has_name ns) (names_of (bind_proc proc))) (global_names_are program) ∙ ap (list_any (has_name (global_names program.globals))) (proc_names proc) ∙ p.1;
      }

  abbrev outs : List Binding
  outs = bind_params proc.outs

  -- an output is one of the procedure's names
  out_is : Among outs (bind_proc proc)
  out_is name s e =
      let rest = outs ++ bind_locals proc.locals in
      let q = in_front outs (bind_locals proc.locals) name s e in
      in_back (bind_params proc.params) rest name (not_in_first (bind_params proc.params) rest name s declares.own q) ∙ q

  old_in_frame : Among (globals ++ outs) (bind_proc proc ++ globals)
  old_in_frame name s e = elim (in_either globals outs name s e) [
    | inl q ↦ in_back (bind_proc proc) globals name (not_declared globals (bind_proc proc) name s declares q) ∙ q
    | inr p ↦ in_front (bind_proc proc) globals name s (out_is name s p.1)
  ]

  old_in_note : Among (globals ++ outs) (globals ++ bind_proc proc)
  old_in_note name s e = elim (in_either globals outs name s e) [
    | inl q ↦ in_front globals (bind_proc proc) name s q
    | inr p ↦ in_back globals (bind_proc proc) name p.0 ∙ out_is name s p.1
  ]

  pub frame_fits : (ns : List Node) (sc : Scope) (locals zeros : List ℕ) (nay : ℕ) → Made sc (names_in_proc proc ++ global_names program.globals) (locals ++ zeros) nay
      → AreOf ns locals (frame_sorts proc) → AreOf ns zeros (map (λ g. g.sort) program.globals) → sort_at ns nay ≡ Some Truth → ScopeFits ns sc (body_scope program proc)
  frame_fits ns sc locals zeros nay m l z n =
      let bs = bind_proc proc ++ globals in
      let names = joined (λ b. b.name) (bind_proc proc) globals _ _ (proc_names proc) (global_names_are program) in
      let sorts = joined (λ b. b.sort) (bind_proc proc) globals _ _ (proc_sorts proc) (global_sorts_are program) in
      scope_fits ns sc _ (locals ++ zeros) nay bs (body_scope program proc) m (sym names)
      (subst (AreOf ns (locals ++ zeros)) (sym sorts) (are_joined ns locals zeros _ _ l z)) n (λ name s e. in_front (bind_proc proc) globals name s e) old_in_frame

  pub present_fits : (ns : List Node) (sc : Scope) (store locals : List ℕ) (nay : ℕ) → Made sc (note_names program.globals proc) (store ++ locals) nay
      → AreOf ns store (map (λ g. g.sort) program.globals) → AreOf ns locals (frame_sorts proc) → sort_at ns nay ≡ Some Truth → ScopeFits ns sc (note_scope program proc)
  present_fits ns sc store locals nay m g l n =
      let bs = globals ++ bind_proc proc in
      let names = joined (λ b. b.name) globals (bind_proc proc) _ _ (global_names_are program) (proc_names proc) in
      let sorts = joined (λ b. b.sort) globals (bind_proc proc) _ _ (global_sorts_are program) (proc_sorts proc) in
      scope_fits ns sc _ (store ++ locals) nay bs (note_scope program proc) m (sym names)
      (subst (AreOf ns (store ++ locals)) (sym sorts) (are_joined ns store locals _ _ g l)) n (λ name s e. e) old_in_note

-- ---- what the terms stand for

same_scope : (xs xs2 : List Name) (vs vs2 os os2 : List Value) (d e : Bool) → xs ≡ xs2 → vs ≡ vs2 → os ≡ os2 → d ≡ false → e ≡ false
    → ◌≡◌ {A = Meant} (record { names = xs; values = vs; old = os; done = d; old_done = e }) (record { names = xs2; values = vs2; old = os2; done = false; old_done = false })
same_scope xs xs2 vs vs2 os os2 d e p q r t u =
    ap (λ (z : List Name). record { names = z; values = vs; old = os; done = d; old_done = e }) p
    ∙ ap (λ (z : List Value). record { names = xs2; values = z; old = os; done = d; old_done = e }) q
    ∙ ap (λ (z : List Value). record { names = xs2; values = vs2; old = z; done = d; old_done = e }) r
    ∙ ap (λ (z : Bool). record { names = xs2; values = vs2; old = os2; done = z; old_done = e }) t
    ∙ ap (λ (z : Bool). record { names = xs2; values = vs2; old = os2; done = false; old_done = z }) u

pub made_means : (ns : List Node) (env : Env) (sc : Scope) (names : List Name) (ids : List ℕ) (nay : ℕ) (vs : List Value) → Made sc names ids nay → values_at env ns ids ≡ vs → value_at env ns nay ≡ value.Bool false → meant env ns sc ≡ present_values names vs
made_means ns env sc names ids nay vs m v n =
    same_scope (names_in sc) names (map (value_at env ns) sc.values.now) vs (map (value_at env ns) sc.old.now) vs (is_true (value_at env ns sc.done)) (is_true (value_at env ns sc.old_done))
    m.names (ap (map (value_at env ns)) m.values ∙ v) (ap (map (value_at env ns)) m.old ∙ v)
    (ap (λ (i : ℕ). is_true (value_at env ns i)) m.done ∙ ap is_true n) (ap (λ (i : ℕ). is_true (value_at env ns i)) m.old_done ∙ ap is_true n)

pub values_joined : (env : Env) (ns : List Node) (xs ys : List ℕ) (us vs : List Value) → values_at env ns xs ≡ us → values_at env ns ys ≡ vs → values_at env ns (xs ++ ys) ≡ us ++ vs
values_joined env ns xs ys us vs p q = map-append (value_at env ns) xs ys ∙ ap₂ (λ (a b : List Value). a ++ b) p q

pub term_is : (old new : List Node) (sc : Scope) (sorts : Sorts) (e : Expr) (id : ℕ) (values : Env → Meant) → IsGraph new → Grows old new → ScopeFits old sc sorts → ((env : Env) → Fits env old → meant env old sc ≡ values env)
    → IsTyped sorts e → Means old new sc e id → IsTermOf new sorts values e id
term_is old new sc sorts e id values graph g fits is typed m =
    let said : (env : Env) → Fits env new → value_at env new id ≡ value_of (values env) e = λ env f. m.is env f ∙ ap (λ (c : Meant). value_of c e) (is env (g.fits env f)) in
    record {
      is = said;
      sorted = m.sorted sorts fits typed;
      test = λ t. (let s : sort_at new id ≡ Some Truth = m.sorted sorts fits typed ∙ t in
          record {
            sorted = s;
            is = λ env f. truth_value (value_at env new id) (nodes_have_their_sorts new graph env f id Truth s) ∙ ap (λ (v : Value). value.Bool (is_true v)) (said env f);
          });
    }
