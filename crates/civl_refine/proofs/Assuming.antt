-- What is assumed at a cut, test by test.
use Rattle.std.specs.Prelude.{map, filter, take, drop, get_or, slice_get, ◌||◌, nat_eq, if◌then◌else◌, All}
use Rattle.std.specs.List.{list_all}
use Rattle.std.proofs.Common.{◌≡◌, ◌∙◌, ℕ, zero, suc, ◌+◌, ◌*◌, ◌≤◌, ◌<◌, Bool, true, false, ◌&&◌, List, [], ◌∷◌, ◌++◌, length, refl, sym, ap, ap₂, subst, arith, Option, Some, None}
use Rattle.std.proofs.lemmas.List.{drop_more, drop_all, length-map, length-append, take-map, take_at}
use Rattle.civl_tree.specs.declared.program.Proc.{Proc}
use Rattle.civl_tree.specs.rules.Uses.{param_sorts}
use Rattle.civl_meaning.specs.Config.{frame_sorts}
use Rattle.civl_states.specs.formula_parts.Lists.{AreSaid}
use Rattle.civl_states.proofs.formula_parts.Saying.{sort_stays}
use Rattle.civl_tree.specs.declared.expr.Expr.{Expr}
use Rattle.civl_tree.specs.declared.program.Invariant.{Invariant}
use Rattle.civl_tree.specs.declared.program.Program.{Program}
use Rattle.civl_firing.specs.declared.store.Store.{Store}
use Rattle.civl_conditions.specs.Invariants.{holds_of_globals}
use Rattle.civl_conditions.specs.Weights.{global_weight, weights_of}
use Rattle.civl_states.proofs.Weighing.{weighs_some}
use Rattle.civl_tree.specs.rules.Scopes.{global_scope}
use Rattle.std.proofs.lemmas.List.{get_or-map}
use Rattle.civl_bits.specs.declared.value.Value.{Value}
use Rattle.civl_tree.specs.declared.expr.Sort.{Sort}
use Rattle.civl_tree.specs.declared.expr.Sort.TheVariants.{Word}
use Rattle.civl_firing.specs.values.Operators.{nothing}
use Rattle.civl_meaning.specs.Permissions.{permissions_of_word}
use Rattle.civl_terms.specs.declared.node.Node.{Node}
use Rattle.civl_terms.specs.Graphs.{value_at, sort_at}
use Rattle.civl_terms.specs.Building.{Grows}
use Rattle.civl_actions.specs.Scopes.{AreOf}
use Rattle.civl_actions.specs.Actions.{values_at}
use Rattle.civl_conditions.specs.Permissions.{of_held}
use Rattle.civl_states.specs.formula_parts.Said.{Env, IsTest}
use Rattle.std.specs.Prelude.{IfSome, IsSome}
use Rattle.std.proofs.lemmas.Bool.{false≢true}
use Rattle.std.proofs.Math.Bool.{and_assoc, and-true}
use Rattle.civl_layers.specs.declared.cut.CutKind.{CutKind}
use Rattle.civl_layers.specs.declared.cut.CutKind.TheVariants as kind
use Rattle.civl_conditions.specs.paths.Ends.{is_entry}
use Rattle.std.specs.Option.{option_map_or}
use Rattle.civl_tree.specs.declared.expr.Sort.TheVariants.{Bool as Truth}
use Rattle.civl_tree.specs.declared.action.Action.{Action}
use Rattle.civl_tree.proofs.Lists.{heads}
use Rattle.civl_firing.specs.values.ActionWeights.{gate_weight}
use Rattle.civl_firing.specs.Fired.{gate_holds}
use Rattle.civl_layers.specs.declared.cut.Cut.{Cut}
use Rattle.civl_conditions.specs.Values.{Begun}
use Rattle.civl_conditions.specs.Assumed.{refined_action, refined_gate, inputs_of, said_at, layer_invariant}
use Rattle.civl_states.proofs.formula_parts.Saying.{test_stays}
use Rattle.civl_states.proofs.formula_parts.Listing.{sorts_stay, said_stay}
use Rattle.civl_states.specs.declared.beginning.Beginning.{Beginning}
use Rattle.civl_states.specs.declared.notes.View.{View}
use Rattle.civl_states.specs.Stores.{AreStore, AreGlobals}
use Rattle.civl_states.specs.Notes.{CanSee, AreSeen}
use Rattle.civl_states.specs.Beginnings.{AreBegun, CanBegin}
use Rattle.civl_refine.specs.Assuming.{holds_at, gate_or_done, IsRefined}

-- ---- the invariants of a step

module _ (program : Program) (step : ℕ) where
  -- those of the step among these hold
  abbrev pub all_hold : Store → List Invariant → Bool
  all_hold g is = list_all (holds_of_globals program g) (map (λ i. i.expr) (filter (λ i. nat_eq i.step step) is))

  abbrev pub all_weigh : List Invariant → ℕ
  all_weigh is = weights_of (global_weight program) (map (λ i. i.expr) (filter (λ i. nat_eq i.step step) is))

  one_holds : (g : Store) (i : Invariant) (is : List Invariant) → all_hold g (i ∷ is) ≡ (holds_at program step g i && all_hold g is)
  one_holds g i is = by (nat_eq i.step step)
    where
      by : (b : Bool) → list_all (holds_of_globals program g) (map (λ j. j.expr) (if b then i ∷ filter (λ j. nat_eq j.step step) is else filter (λ j. nat_eq j.step step) is))
          ≡ ((if b then holds_of_globals program g i.expr else true) && all_hold g is)
      by true = refl
      by false = refl

  one_weighs : (i : Invariant) (is : List Invariant) → all_weigh (i ∷ is) ≡ (if nat_eq i.step step then global_weight program i.expr else 0) + all_weigh is
  one_weighs i is = by (nat_eq i.step step)
    where
      by : (b : Bool) → weights_of (global_weight program) (map (λ j. j.expr) (if b then i ∷ filter (λ j. nat_eq j.step step) is else filter (λ j. nat_eq j.step step) is)) ≡ (if b then global_weight program i.expr else 0) + all_weigh is
      by true = refl
      by false = omega arith

  module _ (is : List Invariant) (k : ℕ) (i : Invariant) (l : k < length is) (e : i ≡ get_or is k i) where
    here : drop k is ≡ i ∷ drop (k + 1) is
    here = drop_more is k i l ∙ ap (λ (j : Invariant). j ∷ drop (k + 1) is) (sym e)

    pub hold_next : (g : Store) (f : Bool) → ((f && holds_at program step g i) && all_hold g (drop (k + 1) is)) ≡ (f && all_hold g (drop k is))
    hold_next g f = and_assoc f (holds_at program step g i) (all_hold g (drop (k + 1) is)) ∙ ap (λ (b : Bool). f && b) (sym (ap (all_hold g) here ∙ one_holds g i (drop (k + 1) is)))

    pub weigh_next : (before now later all : ℕ) → now + 2 * all_weigh (drop k is) ≤ before + 2 * all → later ≤ now + (if nat_eq i.step step then global_weight program i.expr + 1 else 0) → later + 2 * all_weigh (drop (k + 1) is) ≤ before + 2 * all
    weigh_next before now later all h m =
        by (nat_eq i.step step) (ap all_weigh here ∙ one_weighs i (drop (k + 1) is)) m
      where
        by : (b : Bool) → all_weigh (drop k is) ≡ (if b then global_weight program i.expr else 0) + all_weigh (drop (k + 1) is) → later ≤ now + (if b then global_weight program i.expr + 1 else 0) → later + 2 * all_weigh (drop (k + 1) is) ≤ before + 2 * all
        by true p q = omega (arith, h, p, q, weighs_some (global_scope program) i.expr)
        by false p q = omega (arith, h, p, q)

  pub hold_end : (is : List Invariant) (k : ℕ) → length is ≤ k → (g : Store) (f : Bool) → (f && all_hold g (drop k is)) ≡ f
  hold_end is k l g f = ap (λ (js : List Invariant). f && all_hold g js) (drop_all k is l) ∙ and-true f

-- ---- the refined action's gate

pub gate_entry : (o d g : Bool) → o ≡ false → g ≡ gate_or_done o d g
gate_entry true d g e = absurd (cc)
gate_entry false d g e = sym (and-true g)

pub gate_yield : (o d g : Bool) → o ≡ d → (o || g) ≡ gate_or_done o d g
gate_yield true true g e = refl
gate_yield true false g e = absurd (cc)
gate_yield false true g e = absurd (cc)
gate_yield false false g e = sym (and-true g)

-- ---- what is held

pub held_words : (ns : List Node) (p : ℕ) (ids : List ℕ) (ss : List Sort) (held : List ℕ) → AreOf ns ids ss → All (λ n. slice_get ss n ≡ Some (Word p)) held
    → All (λ n. n < length ids) held × All (λ n. sort_at ns (get_or ids n 0) ≡ Some (Word p)) held
held_words ns p ids ss held are all = (
  λ k d l. within ids ss are (get_or held k d) (Word p) (all k d l),
  λ k d l. sorted ids ss are (get_or held k d) (Word p) (all k d l),
)
  where
    within : (ids : List ℕ) (ss : List Sort) → AreOf ns ids ss → (n : ℕ) (s : Sort) → slice_get ss n ≡ Some s → n < length ids
    within [] [] h n s e = absurd (cc)
    within [] (t ∷ ss) h n s e = absurd (cc)
    within (i ∷ ids) [] h n s e = absurd (cc)
    within (i ∷ ids) (t ∷ ss) h zero s e = omega arith
    within (i ∷ ids) (t ∷ ss) h (suc n) s e =
        omega (arith, within ids ss (heads (sort_at ns i) (Some t) (map (sort_at ns) ids) (map (λ (u : Sort). Some u) ss) h).1 n s e)

    sorted : (ids : List ℕ) (ss : List Sort) → AreOf ns ids ss → (n : ℕ) (s : Sort) → slice_get ss n ≡ Some s → sort_at ns (get_or ids n 0) ≡ Some s
    sorted [] [] h n s e = absurd (cc)
    sorted [] (t ∷ ss) h n s e = absurd (cc)
    sorted (i ∷ ids) [] h n s e = absurd (cc)
    sorted (i ∷ ids) (t ∷ ss) h zero s e = (heads (sort_at ns i) (Some t) (map (sort_at ns) ids) (map (λ (u : Sort). Some u) ss) h).0 ∙ e
    sorted (i ∷ ids) (t ∷ ss) h (suc n) s e = sorted ids ss (heads (sort_at ns i) (Some t) (map (sort_at ns) ids) (map (λ (u : Sort). Some u) ss) h).1 n s e

-- what they carry
pub held_carry : (env : Env) (ns : List Node) (ids held : List ℕ) (vs : List Value) → All (λ n. n < length ids) held → values_at env ns ids ≡ vs
    → map permissions_of_word (values_at env ns (map (λ n. get_or ids n 0) held)) ≡ of_held held vs
held_carry env ns ids [] vs h e = refl
held_carry env ns ids (n ∷ held) vs h e =
    ap₂ (λ (p : List ℕ) (ps : List (List ℕ)). p ∷ ps)
    (ap permissions_of_word (sym (get_or-map (value_at env ns) ids n 0 nothing (h 0 0 (omega arith))) ∙ ap (λ (us : List Value). get_or us n nothing) e))
    (held_carry env ns ids held vs (λ k d l. h (suc k) d (omega (arith, l))) e)

-- ---- the parameters among the terms of a frame

module _ (ns : List Node) (proc : Proc) (ids : List ℕ) where
  pub inputs_sorted : AreOf ns ids (frame_sorts proc) → AreOf ns (take (length proc.params) ids) (param_sorts proc.params)
  inputs_sorted h =
      sym (take-map (sort_at ns) (length proc.params) ids) ∙ ap (take (length proc.params)) h ∙ take-map (λ (s : Sort). Some s) (length proc.params) (frame_sorts proc)
      ∙ ap (map (λ (s : Sort). Some s)) (take_at (param_sorts proc.params) _ (length proc.params) (length-map proc.params (λ p. p.sort)))

  pub inputs_said : (v : Env → List Value) → AreSaid ns ids (frame_sorts proc) v → AreSaid ns (take (length proc.params) ids) (param_sorts proc.params) (λ env. take (length proc.params) (v env))
  inputs_said v h = record {
    sorted = inputs_sorted h.sorted;
    are = λ env fits. sym (take-map (value_at env ns) (length proc.params) ids) ∙ ap (take (length proc.params)) (h.are env fits);
  }

  pub frame_long : AreOf ns ids (frame_sorts proc) → length proc.params ≤ length ids
  frame_long h = omega (arith, length-map ids (sort_at ns), ap length h, length-map (frame_sorts proc) (λ (s : Sort). Some s), length-append (param_sorts proc.params) (param_sorts proc.outs ++ map (λ l. l.sort) proc.locals), length-map proc.params (λ p. p.sort))

pub words_stay : (old new : List Node) (p : ℕ) (ids held : List ℕ) → Grows old new → All (λ n. sort_at old (get_or ids n 0) ≡ Some (Word p)) held → All (λ i. sort_at new i ≡ Some (Word p)) (map (λ n. get_or ids n 0) held)
words_stay old new p ids held g all k d l =
    let w : k < length held = omega (arith, l, length-map held (λ n. get_or ids n 0)) in
    subst (λ (i : ℕ). sort_at new i ≡ Some (Word p)) (sym (get_or-map (λ n. get_or ids n 0) held k 0 d w)) (sort_stays old new _ (Word p) g (all k 0 w))

-- ---- all of it

pub reorder : (a g d n i : Bool) → (((a && (g && d)) && n) && i) ≡ (i && (n && (g && (d && a))))
reorder true true true true true = refl
reorder true true true true false = refl
reorder true true true false true = refl
reorder true true true false false = refl
reorder true true false true true = refl
reorder true true false true false = refl
reorder true true false false true = refl
reorder true true false false false = refl
reorder true false true true true = refl
reorder true false true true false = refl
reorder true false true false true = refl
reorder true false true false false = refl
reorder true false false true true = refl
reorder true false false true false = refl
reorder true false false false true = refl
reorder true false false false false = refl
reorder false true true true true = refl
reorder false true true true false = refl
reorder false true true false true = refl
reorder false true true false false = refl
reorder false true false true true = refl
reorder false true false true false = refl
reorder false true false false true = refl
reorder false true false false false = refl
reorder false false true true true = refl
reorder false false true true false = refl
reorder false false true false true = refl
reorder false false true false false = refl
reorder false false false true true = refl
reorder false false false true false = refl
reorder false false false false true = refl
reorder false false false false false = refl

-- at a rank loop, and elsewhere
pub weighs_rank : (entry rank : Bool) (old new lin gate note invs : ℕ) → 1 ≤ gate → (entry ≡ false → 1 ≤ note) → new ≤ old + 4 * lin + gate + (if entry then 1 else if rank then 4 else 2) + (if entry then 0 else 1) + note + 2 * invs
    → new + (if rank then 0 else 2) ≤ old + 4 * (invs + note + gate + lin)
weighs_rank true true old new lin gate note invs g n h = omega (arith, g, h)
weighs_rank true false old new lin gate note invs g n h = omega (arith, g, h)
weighs_rank false true old new lin gate note invs g n h = omega (arith, g, n refl, h)
weighs_rank false false old new lin gate note invs g n h = omega (arith, g, n refl, h)

-- ---- the beginning of a path, as notes see it

pub seen_begun : (ns : List Node) (program : Program) (step : ℕ) (proc : Proc) (cut : Cut) (t : Beginning) (view : View) (b : Env → Begun)
    → view.globals.now ≡ t.globals → view.locals.now ≡ t.locals → view.done ≡ t.done → view.old_globals.now ≡ t.old_globals → view.old_outs.now ≡ t.old_outs → view.old_done ≡ t.old_done
    → AreBegun ns program step proc cut t b
    → AreSeen ns program proc view (λ env. record { store = (b env).store; locals = (b env).locals; done = (b env).done; old = (b env).old; old_outs = (b env).old_outs; old_done = (b env).old_done })
seen_begun ns program step proc cut t view b e1 e2 e3 e4 e5 e6 h = record {
  globals = subst (λ (xs : List ℕ). AreStore ns program xs (λ env. (b env).store)) (sym e1) h.globals;
  locals = subst (λ (xs : List ℕ). AreSaid ns xs (frame_sorts proc) (λ env. (b env).locals)) (sym e2) h.locals;
  done = subst (λ (i : ℕ). IsTest ns i (λ env. (b env).done)) (sym e3) h.done;
  old_globals = subst (λ (xs : List ℕ). AreStore ns program xs (λ env. (b env).old)) (sym e4) h.old_globals;
  old_outs = subst (λ (xs : List ℕ). AreSaid ns xs (param_sorts proc.outs) (λ env. (b env).old_outs)) (sym e5) h.old_outs;
  old_done = subst (λ (i : ℕ). IsTest ns i (λ env. (b env).old_done)) (sym e6) h.old_done;
}

pub can_see : (ns : List Node) (program : Program) (step : ℕ) (proc : Proc) (cut : Cut) (t : Beginning) (view : View)
    → view.globals.now ≡ t.globals → view.locals.now ≡ t.locals → view.done ≡ t.done → view.old_globals.now ≡ t.old_globals → view.old_outs.now ≡ t.old_outs → view.old_done ≡ t.old_done
    → CanBegin ns program step proc cut t → CanSee ns program proc view
can_see ns program step proc cut t view e1 e2 e3 e4 e5 e6 h = record {
  globals = subst (AreGlobals ns program) (sym e1) h.globals;
  locals = subst (λ (xs : List ℕ). AreOf ns xs (frame_sorts proc)) (sym e2) h.locals;
  done = subst (λ (i : ℕ). sort_at ns i ≡ Some Truth) (sym e3) h.done;
  old_globals = subst (AreGlobals ns program) (sym e4) h.old_globals;
  old_outs = subst (λ (xs : List ℕ). AreOf ns xs (param_sorts proc.outs)) (sym e5) h.old_outs;
  old_done = subst (λ (i : ℕ). sort_at ns i ≡ Some Truth) (sym e6) h.old_done;
}

-- in a graph that grows
pub begin_stays : (old new : List Node) (program : Program) (step : ℕ) (proc : Proc) (cut : Cut) (t : Beginning) → Grows old new → CanBegin old program step proc cut t → CanBegin new program step proc cut t
begin_stays old new program step proc cut t g h = record {
  globals = sorts_stay old new t.globals _ g h.globals;
  locals = sorts_stay old new t.locals _ g h.locals;
  done = sort_stays old new t.done Truth g h.done;
  old_globals = sorts_stay old new t.old_globals _ g h.old_globals;
  old_outs = sorts_stay old new t.old_outs _ g h.old_outs;
  old_done = sort_stays old new t.old_done Truth g h.old_done;
  chosen = λ q a there is. sorts_stay old new _ _ g (h.chosen q a there is);
}

pub begun_stays : (old new : List Node) (program : Program) (step : ℕ) (proc : Proc) (cut : Cut) (t : Beginning) (b : Env → Begun) → Grows old new → AreBegun old program step proc cut t b → AreBegun new program step proc cut t b
begun_stays old new program step proc cut t b g h = record {
  globals = said_stay old new t.globals _ _ g h.globals;
  locals = said_stay old new t.locals _ _ g h.locals;
  done = test_stays old new t.done _ g h.done;
  old_globals = said_stay old new t.old_globals _ _ g h.old_globals;
  old_outs = said_stay old new t.old_outs _ _ g h.old_outs;
  old_done = test_stays old new t.old_done _ g h.old_done;
  chosen = λ q a there is. said_stay old new _ _ _ g (h.chosen q a there is);
}

-- the action that is refined
pub refined_is : (program : Program) (proc : Proc) (number : ℕ) (r : IsRefined program proc number) (P : Action → Type 0) → P r.action → IfSome (refined_action program proc) P
refined_is program proc number r P h = subst (λ (o : Option Action). IfSome o P) (sym r.refined) h

pub refined_weighs : (program : Program) (proc : Proc) (number : ℕ) (r : IsRefined program proc number) → option_map_or (gate_weight program) (refined_action program proc) 0 ≡ gate_weight program r.action
refined_weighs program proc number r = ap (λ (o : Option Action). option_map_or (gate_weight program) o 0) r.refined

pub refined_holds : (program : Program) (proc : Proc) (number : ℕ) (r : IsRefined program proc number) (b : Begun) → gate_holds program.globals b.old r.action (inputs_of proc b.locals) ≡ refined_gate program proc b
refined_holds program proc number r b = ap (λ (o : Option Action). option_map_or (λ a. gate_holds program.globals b.old a (inputs_of proc b.locals)) o false) (sym r.refined)

pub kinds_weigh : (entry rank : Bool) → (if entry then 0 else if rank then 3 else 1) + 1 ≡ (if entry then 1 else if rank then 4 else 2)
kinds_weigh true true = refl
kinds_weigh true false = refl
kinds_weigh false true = refl
kinds_weigh false false = refl

-- a note and 1 more, where there is one
pub note_counts : (entry : Bool) (weight : Expr → ℕ) (o : Option Expr) → (entry ≡ true → o ≡ None) → option_map_or (λ e. weight e + 1) o 0 ≤ option_map_or weight o 0 + (if entry then 0 else 1)
note_counts true weight None h = omega arith
note_counts true weight (Some e) h = let q : Some e ≡ None = h refl in absurd (cc)
note_counts false weight None h = omega arith
note_counts false weight (Some e) h = omega arith

pub note_some : (weight : Expr → ℕ) → ((e : Expr) → 1 ≤ weight e) → (o : Option Expr) → IsSome o → 1 ≤ option_map_or weight o 0
note_some weight h None s = absurd (false≢true s)
note_some weight h (Some e) s = h e

pub entry_none : (proc : Proc) (number : ℕ) (k : CutKind) → is_entry k ≡ true → said_at layer_invariant proc number k ≡ None
entry_none proc number kind.Entry e = refl
entry_none proc number kind.Yield e = absurd (false≢true e)
entry_none proc number kind.YieldLoop e = absurd (false≢true e)
entry_none proc number kind.RankLoop e = absurd (false≢true e)
