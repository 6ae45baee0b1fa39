-- Ways that are taken, and all ways.
use Rattle.std.specs.Prelude.{map, drop, get_or, not, ◌||◌}
use Rattle.std.specs.List.{list_all}
use Rattle.std.proofs.Common.{◌≡◌, ◌∙◌, ℕ, ◌+◌, ◌≤◌, ◌<◌, Bool, true, false, ◌&&◌, List, ◌∷◌, length, refl, sym, ap}
use Rattle.std.proofs.lemmas.List.{drop_more, drop_all}
use Rattle.std.proofs.Math.Bool.{and_assoc, and-true}
use Rattle.civl_bits.specs.declared.value.Value.{Value}
use Rattle.civl_firing.specs.values.Values.{is_true}
use Rattle.civl_tree.specs.declared.expr.Sort.TheVariants.{Bool as Truth}
use Rattle.civl_tree.specs.declared.program.Proc.{Proc}
use Rattle.civl_tree.specs.declared.program.Program.{Program}
use Rattle.civl_firing.specs.declared.store.Store.{Store}
use Rattle.civl_meaning.specs.Config.{frame_sorts}
use Rattle.civl_terms.specs.declared.node.Node.{Node}
use Rattle.civl_terms.specs.Graphs.{value_at, IsGraph, Fits}
use Rattle.civl_terms.specs.Building.{Grows}
use Rattle.civl_terms.proofs.Soundness.{nodes_have_their_sorts}
use Rattle.civl_actions.specs.Actions.{values_at, store_at}
use Rattle.civl_actions.proofs.Building.{truth_value}
use Rattle.civl_actions.proofs.Staying.{sorted_within}
use Rattle.civl_conditions.specs.paths.Paths.{Progress, Outcome, progress_of}
use Rattle.civl_conditions.specs.Weights.{summed}
use Rattle.civl_states.specs.formula_parts.Said.{Env}
use Rattle.civl_states.proofs.formula_parts.Saying.{sort_stays, test_stays}
use Rattle.civl_states.proofs.formula_parts.Listing.{sorts_stay, values_stay}
use Rattle.civl_states.specs.Stores.{global_sorts}
use Rattle.civl_body.specs.declared.way.Way.{Way}
use Rattle.civl_body.specs.Walks.{IsWay, ends_at, CanTake}
use Rattle.civl_refine.specs.Judging.{IsAt}
use Rattle.civl_refine.proofs.Judging.{end_stays}

-- ---- the state at a way's end

-- what its terms say, wherever the path ends
abbrev pub said_state : List Node → Way → (Env → Outcome) → Env → Progress
said_state ns way o env = record { store = store_at env ns way.globals; locals = values_at env ns way.locals; done = is_true (value_at env ns way.done); again = (progress_of (o env)).again }

module _ (ns : List Node) (graph : IsGraph ns) (program : Program) (proc : Proc) (o : Env → Outcome) (way : Way) (w : IsWay ns program proc o way) where
  pub is_at : IsAt ns program proc way (said_state ns way o)
  is_at = record {
    globals = record { sorted = w.globals_sorted; are = λ env fits. refl };
    locals = record { sorted = w.locals_sorted; are = λ env fits. refl };
    done = record { sorted = w.done_sorted; is = λ env fits. truth_value (value_at env ns way.done) (nodes_have_their_sorts ns graph env fits way.done Truth w.done_sorted) };
  }

  -- where the way is taken it is that of the path
  pub state_is : (env : Env) → Fits env ns → ends_at proc (o env) way.end ≡ true → said_state ns way o env ≡ progress_of (o env)
  state_is env fits t =
      let q = progress_of (o env) in
      same (store_at env ns way.globals) q.store (values_at env ns way.locals) q.locals (is_true (value_at env ns way.done)) q.done q.again
      (ap (λ (vs : List Value). record { values = vs }) (w.globals env fits t)) (w.locals env fits t) (ap is_true (w.done env fits t))
    where
      same : (s t : Store) (vs us : List Value) (d e a : Bool) → s ≡ t → vs ≡ us → d ≡ e → ◌≡◌ {A = Progress} (record { store = s; locals = vs; done = d; again = a }) (record { store = t; locals = us; done = e; again = a })
      same s t vs us d e a p q r =
          ap (λ (x : Store). record { store = x; locals = vs; done = d; again = a }) p
          ∙ ap (λ (x : List Value). record { store = t; locals = x; done = d; again = a }) q
          ∙ ap (λ (x : Bool). record { store = t; locals = us; done = x; again = a }) r

pub taken_same : (g x y : Bool) → (g ≡ true → x ≡ y) → (not g || not x) ≡ not (g && y)
taken_same true x y e = ap not (e refl)
taken_same false x y e = refl

-- ---- what stays

pub take_stays : (old new : List Node) (program : Program) (proc : Proc) (way : Way) → Grows old new → CanTake old program proc way → CanTake new program proc way
take_stays old new program proc way g h = record { taken = sort_stays old new way.taken Truth g h.taken; ends = end_stays old new program proc way g h.ends }

pub way_stays : (old new : List Node) (program : Program) (proc : Proc) (o : Env → Outcome) (way : Way) → Grows old new → IsWay old program proc o way → IsWay new program proc o way
way_stays old new program proc o way g w = record {
  taken = test_stays old new way.taken _ g w.taken;
  globals_sorted = sorts_stay old new way.globals _ g w.globals_sorted;
  locals_sorted = sorts_stay old new way.locals _ g w.locals_sorted;
  done_sorted = sort_stays old new way.done Truth g w.done_sorted;
  globals = λ env f t. values_stay old new way.globals (global_sorts program) env g w.globals_sorted ∙ w.globals env (g.fits env f) t;
  locals = λ env f t. values_stay old new way.locals (frame_sorts proc) env g w.locals_sorted ∙ w.locals env (g.fits env f) t;
  done = λ env f t. g.values env way.done (sorted_within old way.done Truth w.done_sorted) ∙ w.done env (g.fits env f) t;
}

-- ---- one way more

module _ (ways : List Way) (i : ℕ) where
  abbrev pub ends_of : List Way → List ℕ
  ends_of ws = map (λ w. w.end) ws

  module _ (way : Way) (l : i < length ways) (e : way ≡ get_or ways i way) where
    here : drop i ways ≡ way ∷ drop (i + 1) ways
    here = drop_more ways i way l ∙ ap (λ (w : Way). w ∷ drop (i + 1) ways) (sym e)

    pub ways_next : (test : ℕ → Bool) (f : Bool) → ((f && test way.end) && list_all test (ends_of (drop (i + 1) ways))) ≡ (f && list_all test (ends_of (drop i ways)))
    ways_next test f = and_assoc f (test way.end) (list_all test (ends_of (drop (i + 1) ways))) ∙ ap (λ (ws : List Way). f && list_all test (ends_of ws)) (sym here)

    pub ways_weigh : (weight : ℕ → ℕ) → summed (map weight (ends_of (drop i ways))) ≡ weight way.end + summed (map weight (ends_of (drop (i + 1) ways)))
    ways_weigh weight = ap (λ (ws : List Way). summed (map weight (ends_of ws))) here

  pub ways_end : length ways ≤ i → (test : ℕ → Bool) (f : Bool) → (f && list_all test (ends_of (drop i ways))) ≡ f
  ways_end l test f = ap (λ (ws : List Way). f && list_all test (ends_of ws)) (drop_all i ways l) ∙ and-true f
