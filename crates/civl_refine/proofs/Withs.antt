-- The values behind `with`, and what the refined action makes of them.
use Rattle.std.specs.Prelude.{map, take, drop, slice_get}
use Rattle.std.proofs.Common.{◌≡◌, ◌∙◌, ℕ, zero, suc, ◌+◌, ◌≤◌, false, List, [], ◌∷◌, ◌++◌, length, refl, sym, ap, ap₂, subst, arith, Option, Some, None}
use Rattle.std.proofs.lemmas.Bool.{not-false, or_parts, eqb-true}
use Rattle.std.proofs.lemmas.List.{map-append, take_more, take_all, drop_more, length-map}
use Rattle.std.proofs.lemmas.Option.{get_or_from_slice_get, slice_get_within}
use Rattle.civl_bits.specs.declared.value.Value.{Value}
use Rattle.civl_tree.specs.declared.expr.Expr.{Expr}
use Rattle.civl_tree.specs.declared.expr.Sort.{Sort}
use Rattle.civl_tree.specs.declared.action.Action.{Action}
use Rattle.civl_tree.specs.declared.program.Refines.{Refines}
use Rattle.civl_tree.specs.declared.program.Proc.{Proc}
use Rattle.civl_tree.specs.declared.program.Program.{Program}
use Rattle.civl_tree.specs.rules.Names.{action_named}
use Rattle.civl_tree.specs.rules.Scopes.{Scope as Sorts, note_scope}
use Rattle.civl_tree.specs.rules.Sorts.{sort_of}
use Rattle.civl_tree.specs.rules.Uses.{Use, argument_uses, target_use, chosen_sorts, with_uses}
use Rattle.civl_tree.specs.rules.Arity.{refines_arity, with_arity}
use Rattle.civl_tree.specs.rules.Rules.{Keeps}
use Rattle.civl_tree.specs.rules.Typing.{typing_rules, width_rule, sort_rule, index_rule, arity_rule}
use Rattle.civl_tree.proofs.Kept.{proc_kept, width_among, sort_among, index_among, arity_among}
use Rattle.civl_firing.specs.declared.scope.Scope.{Scope}
use Rattle.civl_firing.specs.Eval.{value_of, values_of}
use Rattle.civl_firing.proofs.Serving.{served_only}
use Rattle.civl_meaning.specs.Meaning.{refined, meaning_of_action}
use Rattle.civl_conditions.specs.paths.Choices.{action_meant}
use Rattle.civl_terms.specs.declared.node.Node.{Node}
use Rattle.civl_terms.specs.Graphs.{sort_at}
use Rattle.civl_terms.specs.Building.{Grows}
use Rattle.civl_terms.proofs.Growing.{lengthened}
use Rattle.civl_actions.specs.Scopes.{AreOf, IsTyped}
use Rattle.civl_actions.proofs.Rules.{typed_use}
use Rattle.civl_conditions.specs.Assumed.{refined_action, with_of}
use Rattle.civl_conditions.specs.Weights.{weights_of}
use Rattle.civl_states.specs.formula_parts.Said.{Env, IsSaid}
use Rattle.civl_states.specs.formula_parts.Lists.{AreSaid}
use Rattle.civl_states.proofs.formula_parts.Listing.{said_more}
use Rattle.civl_meaning.specs.Config.{choice_sorts}
use Rattle.civl_states.specs.Notes.{IsProcIn}
use Rattle.civl_refine.proofs.Typing.{sound_at}

-- ---- the expressions behind `with` have the sorts of the choices

argument_at : (scope : Sorts) (es : List Expr) (ss : List Sort) → length es ≡ length ss → (i : ℕ) (e : Expr) → slice_get es i ≡ Some e → (s : Sort) × (slice_get ss i ≡ Some s) × (slice_get (argument_uses scope es ss) i ≡ Some (target_use scope e (Some s)))
argument_at scope [] ss l i e at = absurd (cc)
argument_at scope (x ∷ es) [] l i e at = absurd (omega (arith, l))
argument_at scope (x ∷ es) (s ∷ ss) l zero e at = let p : x ≡ e = cc in (s, refl, ap (λ (y : Expr). Some (target_use scope y (Some s))) p)
argument_at scope (x ∷ es) (s ∷ ss) l (suc i) e at = argument_at scope es ss (omega (arith, l)) i e at

meant_some : (o : Option Action) (a : Action) → action_meant (meaning_of_action o) ≡ Some a → o ≡ Some a
meant_some None a e = absurd (cc)
meant_some (Some b) a e = e

module _ (program : Program) (keeps : Keeps typing_rules program) (proc : Proc) (there : IsProcIn program proc) (a : Action) (is : refined_action program proc ≡ Some a) where
  by_refines : (o : Option Refines) → proc.refines ≡ o → action_meant (refined program o) ≡ Some a → (length (with_of o) ≡ length a.choices) × (with_uses program proc o ≡ argument_uses (note_scope program proc) (with_of o) (choice_sorts a))
  by_refines None e h = absurd (cc)
  by_refines (Some r) e h =
      let found = meant_some (action_named program r.action) a h in
      let arity : refines_arity program (Some r) ≡ false = ap (refines_arity program) (sym e) ∙ proc_kept typing_rules program keeps arity_rule arity_among there.0 proc there.1 in
      (eqb-true (length r.with) (length a.choices) (not-false _ (ap (with_arity r.with) (sym found) ∙ arity)), ap (λ (o : Option Action). argument_uses (note_scope program proc) r.with (chosen_sorts o)) found)

  pub with_long : length (with_of proc.refines) ≡ length a.choices
  with_long = (by_refines proc.refines refl is).0

  with_used : with_uses program proc proc.refines ≡ argument_uses (note_scope program proc) (with_of proc.refines) (choice_sorts a)
  with_used = (by_refines proc.refines refl is).1

  pub with_at : (i : ℕ) (e : Expr) → slice_get (with_of proc.refines) i ≡ Some e → (s : Sort) × (slice_get (choice_sorts a) i ≡ Some s) × (sort_of (note_scope program proc) e ≡ Some s) × IsTyped (note_scope program proc) e
  with_at i e at =
      let u = argument_at (note_scope program proc) (with_of proc.refines) (choice_sorts a) (with_long ∙ sym (length-map a.choices (λ c. c.sort))) i e at in
      let sound = sound_at (with_uses program proc proc.refines) i (target_use (note_scope program proc) e (Some u.0)) (proc_kept typing_rules program keeps sort_rule sort_among there.0 proc there.1)
      (or_parts _ _ (or_parts _ _ (proc_kept typing_rules program keeps width_rule width_among there.0 proc there.1)).1).1 (or_parts _ _ (or_parts _ _ (proc_kept typing_rules program keeps index_rule index_among there.0 proc there.1)).1).1
      (ap (λ (us : List Use). slice_get us i) with_used ∙ u.2) in
      (u.0, u.1, served_only (sort_of (note_scope program proc) e) u.0 sound.serves_it, typed_use (target_use (note_scope program proc) e (Some u.0)) sound)

-- ---- one value more

pub take_next : {A : Type 0} (xs : List A) (i : ℕ) (x : A) → slice_get xs i ≡ Some x → take (i + 1) xs ≡ take i xs ++ x ∷ []
take_next xs i x e = take_more xs i x (slice_get_within xs i x e) ∙ ap (λ y. take i xs ++ y ∷ []) (get_or_from_slice_get xs i x x e)

pub drop_next : {A : Type 0} (xs : List A) (i : ℕ) (x : A) → slice_get xs i ≡ Some x → drop i xs ≡ x ∷ drop (i + 1) xs
drop_next xs i x e = drop_more xs i x (slice_get_within xs i x e) ∙ ap (λ y. y ∷ drop (i + 1) xs) (get_or_from_slice_get xs i x x e)

pub sorted_next : (old new : List Node) (ids more : List ℕ) (ss : List Sort) (i id : ℕ) (s : Sort) → AreOf new ids (take i ss) → slice_get ss i ≡ Some s → sort_at new id ≡ Some s → more ≡ ids ++ id ∷ [] → AreOf new more (take (i + 1) ss)
sorted_next old new ids more ss i id s h at e m =
    ap (map (sort_at new)) m ∙ map-append (sort_at new) ids (id ∷ []) ∙ ap₂ (λ (os : List (Option Sort)) (o : Option Sort). os ++ o ∷ []) h e
    ∙ sym (map-append (λ (t : Sort). Some t) (take i ss) (s ∷ [])) ∙ ap (map (λ (t : Sort). Some t)) (sym (take_next ss i s at))

pub said_next : (old new : List Node) (ids more : List ℕ) (ss : List Sort) (es : List Expr) (i id : ℕ) (s : Sort) (e : Expr) (f : Env → Scope) → Grows old new → AreSaid old ids (take i ss) (λ env. values_of (f env) (take i es)) → slice_get ss i ≡ Some s → slice_get es i ≡ Some e
    → IsSaid new id s (λ env. value_of (f env) e) → more ≡ ids ++ id ∷ [] → AreSaid new more (take (i + 1) ss) (λ env. values_of (f env) (take (i + 1) es))
said_next old new ids more ss es i id s e f g h at bt said m =
    let one : AreSaid new (id ∷ []) (s ∷ []) (λ env. value_of (f env) e ∷ []) = record { sorted = ap (λ (o : Option Sort). o ∷ []) said.sorted; are = λ env fits. ap (λ (v : Value). v ∷ []) (said.is env fits) } in
    let both = said_more old new ids (id ∷ []) (take i ss) (s ∷ []) (λ env. values_of (f env) (take i es)) (λ env. value_of (f env) e ∷ []) (lengthened old new g) h one in
    subst (λ (xs : List ℕ). AreSaid new xs (take (i + 1) ss) (λ env. values_of (f env) (take (i + 1) es))) (sym m)
    (subst (λ (ts : List Sort). AreSaid new (ids ++ id ∷ []) ts (λ env. values_of (f env) (take (i + 1) es))) (sym (take_next ss i s at))
    (record { sorted = both.sorted; are = λ env fits. both.are env fits ∙ sym (map-append (value_of (f env)) (take i es) (e ∷ [])) ∙ ap (values_of (f env)) (sym (take_next es i e bt)) }))

pub weigh_next : (weight : Expr → ℕ) (es : List Expr) (i : ℕ) (e : Expr) → slice_get es i ≡ Some e → weights_of weight (drop i es) ≡ weight e + weights_of weight (drop (i + 1) es)
weigh_next weight es i e at = ap (weights_of weight) (drop_next es i e at)

pub whole : (ns : List Node) (ids : List ℕ) (ss : List Sort) (es : List Expr) (i : ℕ) (f : Env → Scope) → length es ≤ i → length ss ≤ i → AreSaid ns ids (take i ss) (λ env. values_of (f env) (take i es)) → AreSaid ns ids ss (λ env. values_of (f env) es)
whole ns ids ss es i f p q h =
    subst (λ (ts : List Sort). AreSaid ns ids ts (λ env. values_of (f env) es)) (take_all i ss q)
    (record { sorted = h.sorted; are = λ env fits. h.are env fits ∙ ap (values_of (f env)) (take_all i es p) })
