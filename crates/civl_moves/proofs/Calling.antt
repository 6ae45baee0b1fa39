-- Arguments and results of calls, and what an action's terms make of a sweep.
use Rattle.std.specs.Prelude.{map, slice_get, slice_set, take, drop, get_or, All, IsSome, IfSome}
use Rattle.std.proofs.Common.{◌≡◌, ◌∙◌, ℕ, zero, suc, ◌+◌, ◌<◌, ◌≤◌, Bool, true, false, ◌&&◌, ◌||◌, not, List, [], ◌∷◌, ◌++◌, length, refl, sym, ap, ap₂, subst, arith, Some, None, Option}
use Rattle.std.proofs.lemmas.List.{map-append, take_more, drop_more, drop_all}
use Rattle.std.proofs.lemmas.List.Elements.{All-head, All-tail}
use Rattle.civl_bits.specs.declared.value.Value.{Value}
use Rattle.civl_tree.specs.declared.name.Name.{Name}
use Rattle.civl_tree.specs.declared.expr.Expr.{Expr}
use Rattle.civl_tree.specs.declared.expr.Sort.{Sort}
use Rattle.civl_tree.specs.declared.action.Action.{Action}
use Rattle.civl_tree.specs.declared.program.Proc.{Proc}
use Rattle.civl_tree.specs.declared.program.Program.{Program}
use Rattle.civl_tree.specs.rules.Names.{names_in_proc}
use Rattle.civl_tree.specs.rules.Scopes.{body_scope}
use Rattle.civl_tree.specs.rules.Sorts.{sort_of}
use Rattle.civl_tree.proofs.Lists.{heads}
use Rattle.civl_firing.specs.Eval.{value_of}
use Rattle.civl_firing.specs.Scope.{frame_values}
use Rattle.civl_firing.specs.Truth.{place_of}
use Rattle.civl_meaning.specs.Config.{frame_sorts}
use Rattle.civl_meaning.specs.Change.{with_results}
use Rattle.civl_terms.specs.declared.node.Node.{Node}
use Rattle.civl_terms.specs.Graphs.{value_at, sort_at, IsGraph, Fits}
use Rattle.civl_terms.proofs.Soundness.{nodes_have_their_sorts}
use Rattle.civl_terms.specs.Building.{Grows}
use Rattle.civl_actions.specs.Scopes.{AreOf, IsTyped}
use Rattle.civl_states.proofs.formula_parts.Listing.{some_within}
use Rattle.civl_actions.specs.Actions.{values_at, IsGate, IsGuard, IsInstance}
use Rattle.civl_actions.specs.declared.made.Instance.{Instance}
use Rattle.civl_moves.specs.declared.plain.Gated.{Gated}
use Rattle.civl_terms.proofs.Growing.{grows_trans}
use Rattle.civl_states.proofs.formula_parts.Saying.{test_stays}
use Rattle.civl_actions.proofs.Listing.{are_written}
use Rattle.civl_actions.proofs.Staying.{are_stay, map_values, values_stay, map_sorts}
use Rattle.civl_conditions.specs.Weights.{summed, weights_of}
use Rattle.civl_states.specs.formula_parts.Said.{Env, IsTest}
use Rattle.civl_moves.specs.Expressions.{IsBodyTerm}
use Rattle.civl_firing.specs.declared.store.Store.{Store}
use Rattle.civl_firing.specs.Fired.{choices_fit}
use Rattle.civl_firing.specs.values.Values.{are_of}
use Rattle.civl_moves.specs.sweeps.Sweeps.{with_action}
use Rattle.civl_moves.specs.declared.sweep.Sweep.{Sweep}
use Rattle.civl_moves.specs.declared.calls.Ran.{Ran}
use Rattle.civl_moves.specs.States.{bool_at, CanSweep, Moves, body_of}
use Rattle.civl_moves.proofs.States.{test_value, test_bool, bool_same, same_swept, stops_same, can_stays}
use Rattle.civl_moves.specs.Calls.{AreBodyTerms, HasRun, ResultsSuit, gate_in, guard_in, with_out_of, with_outs_of}
use Rattle.civl_moves.proofs.Moving.{in_frame, map_set}

-- ---- results

with_none : (names : List Name) (ids : List ℕ) (rs : List Name) → with_outs_of names ids rs [] ≡ ids
with_none names ids [] = refl
with_none names ids (r ∷ rs) = refl

out_step : (names : List Name) (ids : List ℕ) (r : Name) (rs : List Name) (outs : List ℕ) (i : ℕ) → with_outs_of names (with_out_of names ids r (slice_get outs i)) rs (drop (suc i) outs) ≡ with_outs_of names ids (r ∷ rs) (drop i outs)
out_step names ids r rs [] zero = with_none names ids rs
out_step names ids r rs [] (suc i) = with_none names ids rs
out_step names ids r rs (o ∷ outs) zero = refl
out_step names ids r rs (o ∷ outs) (suc i) = out_step names ids r rs outs i

pub results_step : (names : List Name) (ids new : List ℕ) (results : List Name) (outs : List ℕ) (i : ℕ) (r : Name) (all : List ℕ) → i < length results → r ≡ get_or results i r → new ≡ with_out_of names ids r (slice_get outs i)
    → with_outs_of names ids (drop i results) (drop i outs) ≡ all → with_outs_of names new (drop (i + 1) results) (drop (i + 1) outs) ≡ all
results_step names ids new results outs i r all h e n k =
    let next : drop i results ≡ r ∷ drop (i + 1) results = drop_more results i r h ∙ ap (λ (x : Name). x ∷ drop (i + 1) results) (sym e) in
    let one : i + 1 ≡ suc i = omega arith in
    ap (λ (xs : List ℕ). with_outs_of names xs (drop (i + 1) results) (drop (i + 1) outs)) n
    ∙ ap (λ (k : ℕ). with_outs_of names (with_out_of names ids r (slice_get outs i)) (drop (i + 1) results) (drop k outs)) one ∙ out_step names ids r (drop (i + 1) results) outs i
    ∙ ap (λ (rs : List Name). with_outs_of names ids rs (drop i outs)) (sym next) ∙ k

pub results_end : (names : List Name) (ids : List ℕ) (results : List Name) (outs : List ℕ) (i : ℕ) (all : List ℕ) → length results ≤ i → with_outs_of names ids (drop i results) (drop i outs) ≡ all → ids ≡ all
results_end names ids results outs i all h k = ap (λ (rs : List Name). with_outs_of names ids rs (drop i outs)) (sym (drop_all i results h)) ∙ k

pub results_values : (f : ℕ → Value) (names : List Name) (ids : List ℕ) (rs : List Name) (outs : List ℕ) → map f (with_outs_of names ids rs outs) ≡ with_results names (map f ids) rs (map f outs)
results_values f names ids [] outs = refl
results_values f names ids (r ∷ rs) [] = refl
results_values f names ids (r ∷ rs) (o ∷ outs) =
    results_values f names (slice_set ids (place_of names r) o) rs outs ∙ ap (λ (vs : List Value). with_results names vs rs (map f outs)) (map_set f ids (place_of names r) o)

pub results_sorts : (ns : List Node) (proc : Proc) (ids : List ℕ) (rs : List Name) (outs : List ℕ) (ss : List Sort) → AreOf ns ids (frame_sorts proc) → AreOf ns outs ss → ResultsSuit proc rs ss → AreOf ns (with_outs_of (names_in_proc proc) ids rs outs) (frame_sorts proc)
results_sorts ns proc ids [] outs ss h k suit = h
results_sorts ns proc ids (r ∷ rs) [] ss h k suit = h
results_sorts ns proc ids (r ∷ rs) (o ∷ outs) [] h k suit = absurd (cc)
results_sorts ns proc ids (r ∷ rs) (o ∷ outs) (s ∷ ss) h k suit =
    let p = heads (sort_at ns o) (Some s) (map (sort_at ns) outs) (map (λ (t : Sort). Some t) ss) k in
    let place = place_of (names_in_proc proc) r in
    results_sorts ns proc (slice_set ids place o) rs outs ss
    (are_written ns ids (frame_sorts proc) place o h (λ t e. p.0 ∙ ap (λ (x : Sort). Some x) (suit.0 t (in_frame proc r t e)))) p.1 suit.1

-- ---- arguments

summed_more : (ns : List ℕ) (n : ℕ) → summed (ns ++ n ∷ []) ≡ summed ns + n
summed_more [] n = omega arith
summed_more (m ∷ ns) n = omega (arith, summed_more ns n)

pub weights_more : (w : Expr → ℕ) (es : List Expr) (i : ℕ) (e : Expr) → i < length es → e ≡ get_or es i e → weights_of w (take (i + 1) es) ≡ weights_of w (take i es) + w e
weights_more w es i e h is =
    let next : take (i + 1) es ≡ take i es ++ e ∷ [] = take_more es i e h ∙ ap (λ (x : Expr). take i es ++ x ∷ []) (sym is) in
    ap (weights_of w) next ∙ ap summed (map-append w (take i es) (e ∷ [])) ∙ summed_more (map w (take i es)) (w e)

ids_within : (ns : List Node) (ids : List ℕ) (os : List (Option Sort)) → map (sort_at ns) ids ≡ os → ((place : ℕ) (o : Option Sort) → slice_get os place ≡ Some o → IsSome o) → (place id : ℕ) → slice_get ids place ≡ Some id → id < length ns
ids_within ns [] os h f place id e = absurd (cc)
ids_within ns (i ∷ ids) [] h f place id e = absurd (cc)
ids_within ns (i ∷ ids) (o ∷ os) h f zero id e =
    let p = heads (sort_at ns i) o (map (sort_at ns) ids) os h in
    let q : i ≡ id = cc in
    subst (λ k. k < length ns) q (some_within ns i (subst (λ (x : Option Sort). IsSome x) (sym p.0) (f 0 o refl)))
ids_within ns (i ∷ ids) (o ∷ os) h f (suc place) id e = ids_within ns ids os (heads (sort_at ns i) o (map (sort_at ns) ids) os h).1 (λ k. f (suc k)) place id e

some_sorts : (program : Program) (proc : Proc) (es : List Expr) → All (IsTyped (body_scope program proc)) es → (place : ℕ) (o : Option Sort) → slice_get (map (sort_of (body_scope program proc)) es) place ≡ Some o → IsSome o
some_sorts program proc [] a place o e = absurd (cc)
some_sorts program proc (x ∷ es) a zero o e =
    let q : sort_of (body_scope program proc) x ≡ o = some_is _ _ e in
    subst (λ (p : Option Sort). IsSome p) q (All-head (IsTyped (body_scope program proc)) x es a).sorted
  where
    some_is : (p q : Option Sort) → Some p ≡ Some q → p ≡ q
    some_is p q r = cc
some_sorts program proc (x ∷ es) a (suc place) o e = some_sorts program proc es (All-tail (IsTyped (body_scope program proc)) x es a) place o e

pub terms_none : (ns : List Node) (program : Program) (proc : Proc) (locals : List ℕ) → AreBodyTerms ns ns program proc locals [] []
terms_none ns program proc locals = record { are = λ env f. refl; sorts = refl }

pub terms_step : (old now new : List Node) (program : Program) (proc : Proc) (locals : List ℕ) (es : List Expr) (i : ℕ) (e : Expr) (ids more : List ℕ) (id : ℕ) → All (IsTyped (body_scope program proc)) (take i es) → AreOf old locals (frame_sorts proc)
    → i < length es → e ≡ get_or es i e → AreBodyTerms old now program proc locals (take i es) ids → Grows old now → Grows now new → IsBodyTerm now new program proc locals e id → more ≡ ids ++ id ∷ []
    → AreBodyTerms old new program proc locals (take (i + 1) es) more
terms_step old now new program proc locals es i e ids more id typed are h is t g w b m =
    let next : take (i + 1) es ≡ take i es ++ e ∷ [] = take_more es i e h ∙ ap (λ (x : Expr). take i es ++ x ∷ []) (sym is) in
    let within = ids_within now ids (map (sort_of (body_scope program proc)) (take i es)) t.sorts (some_sorts program proc (take i es) typed) in
    subst (λ (xs : List Expr). AreBodyTerms old new program proc locals xs more) (sym next)
    (subst (AreBodyTerms old new program proc locals (take i es ++ e ∷ [])) (sym m) (record {
      are = λ env f.
          let scope = frame_values program.globals proc (values_at env old locals) in
          map-append (value_at env new) ids (id ∷ [])
          ∙ ap₂ (λ (vs : List Value) (v : Value). vs ++ v ∷ []) (map_values env now new ids within w ∙ t.are env (w.fits env f))
          (b.is env f ∙ ap (λ (vs : List Value). value_of (frame_values program.globals proc vs) e) (values_stay env old now locals _ are g))
          ∙ sym (map-append (value_of scope) (take i es) (e ∷ []));
      sorts =
          map-append (sort_at new) ids (id ∷ [])
          ∙ ap₂ (λ (os : List (Option Sort)) (o : Option Sort). os ++ o ∷ []) (map_sorts now new ids within w ∙ t.sorts) b.sorted
          ∙ sym (map-append (sort_of (body_scope program proc)) (take i es) (e ∷ []));
    }))

-- ---- actions

pub of_within : {A : Type 0} (xs : List A) (i : ℕ) (P : A → Type 0) (C : Type 0) → i < length xs → IfSome (slice_get xs i) P → ((a : A) → P a → C) → C
of_within [] i P C l h f = absurd (omega arith)
of_within (x ∷ xs) zero P C l h f = f x h
of_within (x ∷ xs) (suc i) P C l h f = of_within xs i P C (omega (arith, l)) h f

pub if_each : {A : Type 0} (o : Option A) (P : A → Type 0) → ((a : A) → o ≡ Some a → P a) → IfSome o P
if_each None P f = tt
if_each (Some a) P f = f a refl

pub gate_test : (old new : List Node) (program : Program) (a : Action) (globals inputs : List ℕ) (id : ℕ) → IsGate old new program a globals inputs id → IsTest new id (λ env. gate_in env old program a globals inputs)
gate_test old new program a globals inputs id h = record { sorted = h.sort; is = h.is }

pub guard_test : (old new : List Node) (program : Program) (a : Action) (globals inputs choices : List ℕ) (id : ℕ) → IsGuard old new program a globals inputs choices id → IsTest new id (λ env. guard_in env old program a globals inputs choices)
guard_test old new program a globals inputs choices id h = record { sorted = h.sort; is = h.is }

pub weighs_four : (a b c d w : ℕ) → b ≤ a + w → c ≤ b + 3 → d ≤ c + 1 → d ≤ a + w + 4
weighs_four a b c d w p q r = omega (arith, p, q, r)

-- an action's terms, then its gate and then its guard where the path is
pub has_run : (o m n k : List Node) (program : Program) (a : Action) (globals inputs choices : List ℕ) (here whole : ℕ) (made : Instance) (gated : Gated) (live : ℕ) → Grows o m → Grows m n → Grows n k
    → IsInstance o m program a globals inputs choices made
    → ((l t : Env → Bool) → IsTest m here l → IsTest m made.gate t → IsTest n gated.live (λ env. l env && t env))
    → ((l s t : Env → Bool) → IsTest m here l → IsTest m whole s → IsTest m made.gate t → IsTest n gated.safe (λ env. s env && (not (l env) || t env)))
    → ((f h : Env → Bool) → IsTest n gated.live f → IsTest n made.guard h → IsTest k live (λ env. f env && h env))
    → HasRun o k program a globals inputs choices here whole (record { live = live; safe = gated.safe; globals = made.globals; outs = made.outs })
has_run o m n k p a globals inputs choices here whole made gated live g h j i onward sure ends =
    let w = grows_trans m n k h j in
    let gates = gate_test o m p a globals inputs made.gate i.gate in
    let guards = guard_test o m p a globals inputs choices made.guard i.guard in
    record {
      live = λ l t. ends _ _ (onward l _ (test_stays o m here l g t) gates) (test_stays m n made.guard _ h guards);
      safe = λ l t q r. test_stays n k gated.safe _ j (sure l t _ (test_stays o m here l g q) (test_stays o m whole t g r) gates);
      store = λ env f. ap (λ (vs : List Value). record { values = vs }) (values_stay env m k made.globals _ i.change.global_sorts w) ∙ i.change.store env (w.fits env f);
      outs = λ env f. values_stay env m k made.outs _ i.change.out_sorts w ∙ i.change.outs env (w.fits env f);
      global_sorts = are_stay m k made.globals _ i.change.global_sorts w;
      out_sorts = are_stay m k made.outs _ i.change.out_sorts w;
    }

fit_sorts : (ns : List Node) → IsGraph ns → (env : Env) → Fits env ns → (ids : List ℕ) (ss : List Sort) → AreOf ns ids ss → are_of (values_at env ns ids) ss ≡ true
fit_sorts ns graph env f [] [] h = refl
fit_sorts ns graph env f [] (s ∷ ss) h = absurd (cc)
fit_sorts ns graph env f (i ∷ ids) [] h = absurd (cc)
fit_sorts ns graph env f (i ∷ ids) (s ∷ ss) h =
    let p = heads (sort_at ns i) (Some s) (map (sort_at ns) ids) (map (λ (t : Sort). Some t) ss) h in
    ap₂ (λ (a b : Bool). a && b) (nodes_have_their_sorts ns graph env f i s p.0).1 (fit_sorts ns graph env f ids ss p.1)

module _ (old new : List Node) (program : Program) (proc : Proc) (s : Sweep) (g : Grows old new) (c : CanSweep old program proc s) (graph : IsGraph new) where
  not_gated : (a l b : Bool) → not (a && (not l || b)) ≡ (not a || (l && not b))
  not_gated true true b = refl
  not_gated true false b = refl
  not_gated false l b = refl

  pub action_moves : (a : Action) (inputs choices : List ℕ) (results : List Name) (ran : Ran) (ids : List ℕ) → AreOf old choices (map (λ q. q.sort) a.choices) → ResultsSuit proc results (map (λ q. q.sort) a.outs)
      → HasRun old new program a s.globals inputs choices s.live s.safe ran → ids ≡ with_outs_of (names_in_proc proc) s.locals results ran.outs
      → Moves old new program proc s (record s { live = ran.live; safe = ran.safe; globals = ran.globals; locals = ids }) (λ env. with_action (body_of program proc) results a (values_at env old inputs) (values_at env old choices))
  action_moves a inputs choices results ran ids hc suit run w =
      let now = can_stays old new program proc g s c in
      let live = run.live _ c.live in
      let safe = run.safe _ _ c.live c.safe in
      record {
        can = record {
          live = test_bool new ran.live _ live;
          globals = run.global_sorts;
          locals = subst (λ (is : List ℕ). AreOf new is (frame_sorts proc)) (sym w) (results_sorts new proc s.locals results ran.outs _ now.locals run.out_sorts suit);
          done = now.done;
          safe = test_bool new ran.safe _ safe;
          once = now.once;
          stops = now.stops;
        };
        is = λ env f.
            let fits : choices_fit a (values_at env old choices) ≡ true =
            ap (λ (vs : List Value). choices_fit a vs) (sym (values_stay env old new choices _ hc g)) ∙ fit_sorts new graph env f choices _ (are_stay old new choices _ hc g) in
            same_swept s.onward _ _ _ _ _ _ _ _ _ _ _ _ _ _
            (test_value new ran.live _ live env f ∙ ap (λ (b : Bool). (bool_at env old s.live && gate_in env old program a s.globals inputs) && (b && guard_in env old program a s.globals inputs choices)) (sym fits))
            (ap (λ (st : Store). st.values) (run.store env f))
            (ap (values_at env new) w ∙ results_values (value_at env new) (names_in_proc proc) s.locals results ran.outs
            ∙ ap₂ (λ (vs us : List Value). with_results (names_in_proc proc) vs results us) (values_stay env old new s.locals _ c.locals g) (run.outs env f))
            (bool_same old new s.done g c.done env)
            (ap not (test_value new ran.safe _ safe env f) ∙ not_gated (bool_at env old s.safe) (bool_at env old s.live) (gate_in env old program a s.globals inputs))
            (ap not (bool_same old new s.once g c.once env)) (stops_same old new program proc g s.stops c.stops env);
      }
