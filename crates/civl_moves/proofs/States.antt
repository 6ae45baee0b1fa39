-- What the terms of a sweep say stays while the graph grows.
use Rattle.std.specs.Prelude.{map, All}
use Rattle.std.proofs.Common.{◌≡◌, ◌∙◌, ℕ, Bool, ◌||◌, not, List, [], ◌∷◌, refl, sym, ap, ap₂, Some}
use Rattle.std.proofs.lemmas.List.Elements.{All-nil, All-cons, All-head, All-tail}
use Rattle.civl_bits.specs.declared.value.Value.{Value}
use Rattle.civl_bits.specs.declared.value.Value.TheVariants as value
use Rattle.civl_tree.specs.declared.expr.Sort.TheVariants.{Bool as Truth}
use Rattle.civl_tree.specs.declared.expr.Two.TheVariants.{Implies}
use Rattle.civl_tree.specs.declared.program.Proc.{Proc}
use Rattle.civl_tree.specs.declared.program.Program.{Program}
use Rattle.civl_tree.specs.rules.Sorts.{two_sort}
use Rattle.civl_firing.specs.values.Operators.{two_value}
use Rattle.civl_firing.specs.values.Values.{is_true}
use Rattle.civl_firing.specs.values.Weights.{bits_in, two_weight}
use Rattle.civl_terms.specs.declared.node.Node.{Node}
use Rattle.civl_terms.specs.Graphs.{value_at, sort_at, Fits}
use Rattle.civl_terms.specs.Building.{Grows, Built}
use Rattle.civl_terms.proofs.Growing.{growth}
use Rattle.civl_actions.proofs.Staying.{sorted_within, are_stay, values_stay}
use Rattle.civl_states.specs.formula_parts.Said.{Env, IsTest}
use Rattle.civl_states.proofs.formula_parts.Saying.{test_stays}
use Rattle.civl_moves.specs.sweeps.Sweeps.{Swept}
use Rattle.civl_moves.specs.sweeps.Sweeps.{Stop as Stopped}
use Rattle.civl_moves.specs.declared.sweep.Stop.{Stop}
use Rattle.civl_moves.specs.declared.sweep.Sweep.{Sweep}
use Rattle.civl_moves.specs.States.{bool_at, IsBool, stop_at, swept_at, CanStop, CanSweep}

-- ---- bools

pub test_value : (ns : List Node) (i : ℕ) (f : Env → Bool) → IsTest ns i f → (env : Env) → Fits env ns → bool_at env ns i ≡ f env
test_value ns i f t env fits = ap is_true (t.is env fits)

pub test_bool : (ns : List Node) (i : ℕ) (f : Env → Bool) → IsTest ns i f → IsBool ns i
test_bool ns i f t = record { sorted = t.sorted; is = λ env fits. t.is env fits ∙ ap value.Bool (sym (test_value ns i f t env fits)) }

pub bool_same : (old new : List Node) (i : ℕ) → Grows old new → IsBool old i → (env : Env) → bool_at env new i ≡ bool_at env old i
bool_same old new i g b env = ap is_true (g.values env i (sorted_within old i Truth b.sorted))

pub bool_stays : (old new : List Node) (i : ℕ) → Grows old new → IsBool old i → IsBool new i
bool_stays old new i g b = test_bool new i (λ env. bool_at env old i) (test_stays old new i (λ env. bool_at env old i) g b)

pub implied_test : (old new : List Node) (a b id : ℕ) (f h : Env → Bool) → Grows old new → Built old new id (λ env. two_value Implies (value_at env old a) (value_at env old b)) (two_sort Implies (sort_at old a) (sort_at old b)) (two_weight Implies (bits_in (sort_at old a))) → IsTest old a f → IsTest old b h → IsTest new id (λ env. not (f env) || h env)
implied_test old new a b id f h g u s t = record {
  sorted = u.sorted ∙ ap₂ (two_sort Implies) s.sorted t.sorted;
  is = λ env fits. u.is env fits ∙ ap₂ (two_value Implies) (s.is env (g.fits env fits)) (t.is env (g.fits env fits));
}

pub implied_sorted : (old : List Node) (a b : ℕ) → sort_at old a ≡ Some Truth → sort_at old b ≡ Some Truth → two_sort Implies (sort_at old a) (sort_at old b) ≡ Some Truth
implied_sorted old a b p q = ap₂ (two_sort Implies) p q

pub ruleset states = (implied_test, implied_sorted, growth)

-- ---- equal states

pub same_swept : (o : Bool) (l l2 : Bool) (s s2 : List Value) (v v2 : List Value) (d d2 b b2 a a2 : Bool) (t t2 : List Stopped) → l ≡ l2 → s ≡ s2 → v ≡ v2 → d ≡ d2 → b ≡ b2 → a ≡ a2 → t ≡ t2
    → ◌≡◌ {A = Swept} (record { onward = o; live = l; store = record { values = s }; locals = v; done = d; broken = b; again = a; stops = t }) (record { onward = o; live = l2; store = record { values = s2 }; locals = v2; done = d2; broken = b2; again = a2; stops = t2 })
same_swept o l l2 s s2 v v2 d d2 b b2 a a2 t t2 p q r u w x y =
    ap (λ (z : Bool). record { onward = o; live = z; store = record { values = s }; locals = v; done = d; broken = b; again = a; stops = t }) p
    ∙ ap (λ (z : List Value). record { onward = o; live = l2; store = record { values = z }; locals = v; done = d; broken = b; again = a; stops = t }) q
    ∙ ap (λ (z : List Value). record { onward = o; live = l2; store = record { values = s2 }; locals = z; done = d; broken = b; again = a; stops = t }) r
    ∙ ap (λ (z : Bool). record { onward = o; live = l2; store = record { values = s2 }; locals = v2; done = z; broken = b; again = a; stops = t }) u
    ∙ ap (λ (z : Bool). record { onward = o; live = l2; store = record { values = s2 }; locals = v2; done = d2; broken = z; again = a; stops = t }) w
    ∙ ap (λ (z : Bool). record { onward = o; live = l2; store = record { values = s2 }; locals = v2; done = d2; broken = b2; again = z; stops = t }) x
    ∙ ap (λ (z : List Stopped). record { onward = o; live = l2; store = record { values = s2 }; locals = v2; done = d2; broken = b2; again = a2; stops = z }) y

same_stop : (n : ℕ) (k k2 : Bool) (s s2 v v2 : List Value) (d d2 : Bool) → k ≡ k2 → s ≡ s2 → v ≡ v2 → d ≡ d2
    → ◌≡◌ {A = Stopped} (record { number = n; taken = k; store = record { values = s }; locals = v; done = d }) (record { number = n; taken = k2; store = record { values = s2 }; locals = v2; done = d2 })
same_stop n k k2 s s2 v v2 d d2 p q r u =
    ap (λ (z : Bool). record { number = n; taken = z; store = record { values = s }; locals = v; done = d }) p
    ∙ ap (λ (z : List Value). record { number = n; taken = k2; store = record { values = z }; locals = v; done = d }) q
    ∙ ap (λ (z : List Value). record { number = n; taken = k2; store = record { values = s2 }; locals = z; done = d }) r
    ∙ ap (λ (z : Bool). record { number = n; taken = k2; store = record { values = s2 }; locals = v2; done = z }) u

-- ---- while the graph grows

module _ (old new : List Node) (program : Program) (proc : Proc) (g : Grows old new) where
  pub stop_same : (s : Stop) → CanStop old program proc s → (env : Env) → stop_at env new s ≡ stop_at env old s
  stop_same s c env =
      same_stop s.number _ _ _ _ _ _ _ _ (bool_same old new s.taken g c.taken env) (values_stay env old new s.globals _ c.globals g) (values_stay env old new s.locals _ c.locals g) (bool_same old new s.done g c.done env)

  stop_stays : (s : Stop) → CanStop old program proc s → CanStop new program proc s
  stop_stays s c = record {
    taken = bool_stays old new s.taken g c.taken;
    globals = are_stay old new s.globals _ c.globals g;
    locals = are_stay old new s.locals _ c.locals g;
    done = bool_stays old new s.done g c.done;
  }

  pub stops_same : (ss : List Stop) → All (CanStop old program proc) ss → (env : Env) → map (stop_at env new) ss ≡ map (stop_at env old) ss
  stops_same [] a env = refl
  stops_same (s ∷ ss) a env =
      ap₂ (λ (x : Stopped) (xs : List Stopped). x ∷ xs) (stop_same s (All-head (CanStop old program proc) s ss a) env) (stops_same ss (All-tail (CanStop old program proc) s ss a) env)

  pub stops_stay : (ss : List Stop) → All (CanStop old program proc) ss → All (CanStop new program proc) ss
  stops_stay [] a = All-nil (CanStop new program proc)
  stops_stay (s ∷ ss) a = All-cons (CanStop new program proc) s ss (stop_stays s (All-head (CanStop old program proc) s ss a)) (stops_stay ss (All-tail (CanStop old program proc) s ss a))

  pub swept_same : (s : Sweep) → CanSweep old program proc s → (env : Env) → swept_at env new s ≡ swept_at env old s
  swept_same s c env =
      same_swept s.onward _ _ _ _ _ _ _ _ _ _ _ _ _ _ (bool_same old new s.live g c.live env) (values_stay env old new s.globals _ c.globals g) (values_stay env old new s.locals _ c.locals g)
      (bool_same old new s.done g c.done env) (ap not (bool_same old new s.safe g c.safe env)) (ap not (bool_same old new s.once g c.once env)) (stops_same s.stops c.stops env)

  pub can_stays : (s : Sweep) → CanSweep old program proc s → CanSweep new program proc s
  can_stays s c = record {
    live = bool_stays old new s.live g c.live;
    globals = are_stay old new s.globals _ c.globals g;
    locals = are_stay old new s.locals _ c.locals g;
    done = bool_stays old new s.done g c.done;
    safe = bool_stays old new s.safe g c.safe;
    once = bool_stays old new s.once g c.once;
    stops = stops_stay s.stops c.stops;
  }
