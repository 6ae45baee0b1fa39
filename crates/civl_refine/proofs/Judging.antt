-- What the parts of the condition on paths come to at the end of a path.
use Rattle.std.specs.Prelude.{map, take, drop, filter, not, ◌||◌, if◌then◌else◌}
use Rattle.std.proofs.Common.{◌≡◌, ◌∙◌, ℕ, ◌+◌, ◌≤◌, Bool, true, false, ◌&&◌, List, [], ◌∷◌, ◌++◌, length, refl, sym, ap, ap₂, arith, Option, Some, None}
use Rattle.std.proofs.lemmas.List.{length-map, length-append, take-append-drop, take-map, drop-map, take_at, drop_at, drop-drop}
use Rattle.civl_bits.specs.declared.value.Value.{Value}
use Rattle.civl_tree.specs.declared.expr.Sort.{Sort}
use Rattle.civl_tree.specs.declared.program.Global.{Global}
use Rattle.civl_tree.specs.declared.program.Proc.{Proc}
use Rattle.civl_tree.specs.rules.Uses.{param_sorts}
use Rattle.civl_firing.specs.declared.store.Store.{Store}
use Rattle.civl_meaning.specs.Config.{frame_sorts}
use Rattle.civl_meaning.specs.Change.{outs_in}
use Rattle.civl_terms.specs.declared.node.Node.{Node}
use Rattle.civl_terms.specs.Graphs.{value_at, sort_at}
use Rattle.civl_actions.specs.Scopes.{AreOf}
use Rattle.civl_conditions.specs.paths.NoteValues.{note_names, plain_note_values, steady_note_values, with_outs}
use Rattle.std.proofs.Common.{◌*◌}
use Rattle.std.proofs.lemmas.Bool.{false≢true, eq-eqb}
use Rattle.civl_bits.specs.Value.{same_value}
use Rattle.civl_bits.specs.declared.value.Value.TheVariants as value
use Rattle.civl_tree.specs.declared.expr.Sort.TheVariants.{Bool as Truth}
use Rattle.civl_tree.specs.declared.expr.Sort.TheVariants.{Word}
use Rattle.civl_tree.specs.declared.expr.Two.TheVariants.{Lt}
use Rattle.civl_tree.specs.rules.Sorts.{two_sort, truth_over, word_sort}
use Rattle.civl_firing.specs.values.Values.{is_true}
use Rattle.civl_firing.specs.values.Operators.{two_value}
use Rattle.civl_firing.specs.values.Weights.{bits_in, two_weight}
use Rattle.civl_terms.specs.Graphs.{IsGraph}
use Rattle.civl_terms.specs.Building.{Built}
use Rattle.civl_terms.proofs.Soundness.{nodes_have_their_sorts}
use Rattle.civl_actions.proofs.Building.{truth_value}
use Rattle.civl_tree.specs.declared.action.Param.{Param}
use Rattle.civl_tree.specs.declared.program.Program.{Program}
use Rattle.civl_tree.specs.rules.Rules.{Keeps}
use Rattle.civl_tree.specs.rules.Typing.{typing_rules}
use Rattle.civl_tree.specs.rules.StoreSize.{bits_of}
use Rattle.civl_terms.specs.Graphs.{Fits}
use Rattle.civl_actions.specs.Actions.{values_at}
use Rattle.civl_conditions.specs.footprints.Agreement.{exists_at}
use Rattle.civl_conditions.specs.Values.{same_bool, same_values}
use Rattle.civl_conditions.specs.Variables.{of_globals}
use Rattle.civl_conditions.specs.Weights.{outs_bits, globals_bits, bits_of_variables}
use Rattle.civl_states.specs.formula_parts.Said.{Env, IsTest, IsSaid}
use Rattle.civl_states.specs.formula_parts.Given.{bits_of_sorts}
use Rattle.civl_states.specs.declared.stores.Existing.TheVariants.{Layer}
use Rattle.civl_states.specs.Same.{layer_sorts, same_weight}
use Rattle.civl_states.proofs.Limits.{AreSorts}
use Rattle.civl_states.proofs.Weighing.{bits_some}
use Rattle.civl_states.proofs.Variables.{long_bits, existing_are}
use Rattle.civl_states.specs.formula_parts.Lists.{AreSaid}
use Rattle.civl_terms.specs.Building.{Grows}
use Rattle.civl_conditions.specs.paths.Paths.{Progress}
use Rattle.civl_states.proofs.formula_parts.Saying.{sort_stays, test_stays}
use Rattle.civl_states.proofs.formula_parts.Listing.{sorts_stay, said_stay}
use Rattle.civl_body.specs.declared.way.Way.{Way}
use Rattle.civl_body.specs.Walks.{CanEnd}
use Rattle.civl_refine.specs.Judging.{IsAt}

-- ---- outputs among the terms of a frame

module _ (ns : List Node) (proc : Proc) (ids : List ℕ) where
  abbrev pub outs_of : List ℕ
  outs_of = take (length proc.outs) (drop (length proc.params) ids)

  pub outs_sorted : AreOf ns ids (frame_sorts proc) → AreOf ns outs_of (param_sorts proc.outs)
  outs_sorted h =
      let p = length proc.params in
      let o = length proc.outs in
      let here : take o (drop p (frame_sorts proc)) ≡ param_sorts proc.outs =
      ap (take o) (drop_at (param_sorts proc.params) (param_sorts proc.outs ++ map (λ l. l.sort) proc.locals) p (length-map proc.params (λ q. q.sort)))
      ∙ take_at (param_sorts proc.outs) (map (λ l. l.sort) proc.locals) o (length-map proc.outs (λ q. q.sort)) in
      sym (take-map (sort_at ns) o (drop p ids)) ∙ ap (take o) (sym (drop-map (sort_at ns) p ids) ∙ ap (drop p) h ∙ drop-map (λ (t : Sort). Some t) p (frame_sorts proc))
      ∙ take-map (λ (t : Sort). Some t) o (drop p (frame_sorts proc)) ∙ ap (map (λ (t : Sort). Some t)) here

  pub outs_said : (v : Env → List Value) → AreSaid ns ids (frame_sorts proc) v → AreSaid ns outs_of (param_sorts proc.outs) (λ env. outs_in proc (v env))
  outs_said v h = record {
    sorted = outs_sorted h.sorted;
    are = λ env fits. sym (take-map (value_at env ns) (length proc.outs) (drop (length proc.params) ids)) ∙ ap (take (length proc.outs)) (sym (drop-map (value_at env ns) (length proc.params) ids) ∙ ap (drop (length proc.params)) (h.are env fits));
  }

  pub outs_within : AreOf ns ids (frame_sorts proc) → length proc.params + length proc.outs ≤ length ids
  outs_within h =
      omega (
        arith,
        length-map ids (sort_at ns),
        ap length h,
        length-map (frame_sorts proc) (λ (s : Sort). Some s),
        length-append (param_sorts proc.params) (param_sorts proc.outs ++ map (λ l. l.sort) proc.locals),
        length-map proc.params (λ p. p.sort),
        length-append (param_sorts proc.outs) (map (λ l. l.sort) proc.locals),
        length-map proc.outs (λ p. p.sort),
      )

-- ---- the values that notes see

-- with its own outputs a frame is as it is
pub own_outs : (proc : Proc) (vs : List Value) → with_outs proc vs (outs_in proc vs) ≡ vs
own_outs proc vs =
    let p = length proc.params in
    let o = length proc.outs in
    ap (λ (us : List Value). take p vs ++ us) (ap (λ (us : List Value). take o (drop p vs) ++ us) (sym (drop-drop o p vs)) ∙ take-append-drop o (drop p vs)) ∙ take-append-drop p vs

pub plain_is : (globals : List Global) (proc : Proc) (g : Store) (vs : List Value) → steady_note_values globals proc g vs false ≡ plain_note_values globals proc g vs
plain_is globals proc g vs =
    ap (λ (us : List Value). record { names = note_names globals proc; values = g.values ++ vs; old = g.values ++ us; done = false; old_done = false }) (own_outs proc vs)

pub said_where : (ns : List Node) (i : ℕ) (s : Sort) (f g : Env → Value) → ((env : Env) → f env ≡ g env) → IsSaid ns i s f → IsSaid ns i s g
said_where ns i s f g e h = record { sorted = h.sorted; is = λ env fits. h.is env fits ∙ e env }

-- ---- tests

pub bools_same : (a b : Bool) → same_value (value.Bool a) (value.Bool b) ≡ same_bool a b
bools_same true true = refl
bools_same true false = refl
bools_same false true = refl
bools_same false false = refl

pub stutter_is : (d s o t : Bool) → (not d || (s && (not o || t))) ≡ not (d && (not s || (o && not t)))
stutter_is false s o t = refl
stutter_is true false o t = refl
stutter_is true true false t = refl
stutter_is true true true true = refl
stutter_is true true true false = refl

-- ---- what it weighs to compare results

summed_bits : (outs : List Param) → outs_bits outs ≡ bits_of_sorts (param_sorts outs)
summed_bits [] = refl
summed_bits (p ∷ ps) = ap (λ (n : ℕ). bits_of p.sort + n) (summed_bits ps)

pub outs_weigh : (outs : List Param) → AreSorts (param_sorts outs) → same_weight (param_sorts outs) ≤ 2 * outs_bits outs
outs_weigh outs h = omega (arith, summed_bits outs, long_bits (param_sorts outs) h)

pub outs_some : (outs : List Param) → AreSorts (param_sorts outs) → (length outs ≡ 0 → ⊥) → 1 ≤ outs_bits outs
outs_some [] h n = absurd (n refl)
outs_some (p ∷ ps) h n = omega (arith, bits_some p.sort (h 0 p.sort (omega arith)))

variables_bits : (gs : List Global) → bits_of_variables (of_globals [] gs) ≡ bits_of_sorts (map (λ g. g.sort) gs)
variables_bits [] = refl
variables_bits (g ∷ gs) = ap (λ (n : ℕ). bits_of g.sort + n) (variables_bits gs)

pub globals_weigh : (program : Program) → Keeps typing_rules program → (layer : ℕ) → same_weight (layer_sorts program layer) ≤ 2 * globals_bits program layer
globals_weigh program keeps layer = omega (arith, variables_bits (filter (exists_at layer) program.globals), long_bits (layer_sorts program layer) (existing_are program keeps (Layer layer)))

-- no outputs are the same as no outputs
pub none_same : (ns : List Node) (proc : Proc) (ids : List ℕ) (v : List Value) (w : Env → List Value) → length proc.outs ≡ 0 → AreSaid ns ids (param_sorts proc.outs) w → (env : Env) → Fits env ns → same_values (outs_in proc v) (w env) ≡ true
none_same ns proc ids v w e s env fits =
    ap₂ same_values (ap (λ (n : ℕ). take n (drop (length proc.params) v)) e) (sym (s.are env fits) ∙ ap (values_at env ns) (none ids (omega (arith, sym (length-map ids (sort_at ns)) ∙ ap length s.sorted ∙ length-map (param_sorts proc.outs) (λ (t : Sort). Some t) ∙ length-map proc.outs (λ p. p.sort), e))))
  where
    none : (xs : List ℕ) → length xs ≡ 0 → xs ≡ []
    none [] l = refl
    none (x ∷ xs) l = absurd (omega (arith, l))

pub and_or_true : (a o t : Bool) → t ≡ true → a ≡ (a && (not o || t))
and_or_true true true true e = refl
and_or_true true false true e = refl
and_or_true false o true e = refl
and_or_true a o false e = absurd (false≢true e)

-- ---- what stays

pub end_stays : (old new : List Node) (program : Program) (proc : Proc) (way : Way) → Grows old new → CanEnd old program proc way → CanEnd new program proc way
end_stays old new program proc way g h = record { globals = sorts_stay old new way.globals _ g h.globals; locals = sorts_stay old new way.locals _ g h.locals; done = sort_stays old new way.done Truth g h.done }

pub at_stays : (old new : List Node) (program : Program) (proc : Proc) (way : Way) (p : Env → Progress) → Grows old new → IsAt old program proc way p → IsAt new program proc way p
at_stays old new program proc way p g h = record { globals = said_stay old new way.globals _ _ g h.globals; locals = said_stay old new way.locals _ _ g h.locals; done = test_stays old new way.done _ g h.done }

-- ---- one word is less than another

pub less_sorted : (w : ℕ) (o p : Option Sort) → o ≡ Some (Word w) → p ≡ Some (Word w) → two_sort Lt o p ≡ Some Truth
less_sorted w o p e f = ap₂ (two_sort Lt) e f ∙ ap (λ (b : Bool). truth_over (word_sort (if b then Some (Word w) else None))) (eq-eqb w w refl)

pub less_test : (old new : List Node) (a b id w : ℕ) (f g : Env → Value) → IsGraph new → Grows old new
    → Built old new id (λ env. two_value Lt (value_at env old a) (value_at env old b)) (two_sort Lt (sort_at old a) (sort_at old b)) (two_weight Lt (bits_in (sort_at old a)))
    → IsSaid old a (Word w) f → IsSaid old b (Word w) g → IsTest new id (λ env. is_true (two_value Lt (f env) (g env)))
less_test old new a b id w f g graph grows u s t =
    let sorted : sort_at new id ≡ Some Truth = u.sorted ∙ less_sorted w (sort_at old a) (sort_at old b) s.sorted t.sorted in
    record {
      sorted = sorted;
      is = λ env fits.
          truth_value (value_at env new id) (nodes_have_their_sorts new graph env fits id Truth sorted)
          ∙ ap (λ (v : Value). value.Bool (is_true v)) (u.is env fits ∙ ap₂ (two_value Lt) (s.is env (grows.fits env fits)) (t.is env (grows.fits env fits)));
    }
