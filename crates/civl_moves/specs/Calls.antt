-- The terms of a call: its arguments, what the action does where the path is, and the results.
use Rattle.std.specs.Prelude.{◌≡◌, ℕ, Bool, not, ◌&&◌, ◌||◌, List, [], ◌∷◌, map, slice_set, ⊤, Option, None, Some}
use Rattle.civl_tree.specs.declared.name.Name.{Name}
use Rattle.civl_tree.specs.declared.expr.Expr.{Expr}
use Rattle.civl_tree.specs.declared.expr.Sort.{Sort}
use Rattle.civl_tree.specs.declared.action.Action.{Action}
use Rattle.civl_tree.specs.declared.program.Proc.{Proc}
use Rattle.civl_tree.specs.declared.program.Program.{Program}
use Rattle.civl_tree.specs.rules.Scopes.{body_scope}
use Rattle.civl_tree.specs.rules.Sorts.{sort_of}
use Rattle.civl_tree.specs.rules.Uses.{place_sort}
use Rattle.civl_firing.specs.Eval.{values_of}
use Rattle.civl_firing.specs.Scope.{frame_values}
use Rattle.civl_firing.specs.Truth.{place_of}
use Rattle.civl_firing.specs.Fired.{gate_holds, guard_holds, store_after, outs_after}
use Rattle.civl_terms.specs.declared.node.Node.{Node}
use Rattle.civl_terms.specs.Graphs.{sort_at, Fits}
use Rattle.civl_actions.specs.Scopes.{AreOf}
use Rattle.civl_actions.specs.Actions.{values_at, store_at}
use Rattle.civl_states.specs.formula_parts.Said.{Env, IsTest}
use Rattle.civl_moves.specs.declared.calls.Ran.{Ran}

-- the terms have the expressions' values and their sorts
pub record AreBodyTerms (old new : List Node) (program : Program) (proc : Proc) (locals : List ℕ) (es : List Expr) (ids : List ℕ) : Type 0 where
  pub are : (env : Env) → Fits env new → values_at env new ids ≡ values_of (frame_values program.globals proc (values_at env old locals)) es
  pub sorts : map (sort_at new) ids ≡ map (sort_of (body_scope program proc)) es

-- each result has the sort of the output in its place, where there is one
abbrev pub ResultsSuit : Proc → List Name → List Sort → Type 0
ResultsSuit proc [] outs = ⊤
ResultsSuit proc (r ∷ rs) [] = ⊤
ResultsSuit proc (r ∷ rs) (s ∷ ss) = ((t : Sort) → place_sort proc r ≡ Some t → s ≡ t) × ResultsSuit proc rs ss

-- terms with those of outputs under the names of results
abbrev pub with_outs_of : List Name → List ℕ → List Name → List ℕ → List ℕ
with_outs_of names ids [] outs = ids
with_outs_of names ids (r ∷ rs) [] = ids
with_outs_of names ids (r ∷ rs) (o ∷ outs) = with_outs_of names (slice_set ids (place_of names r) o) rs outs

-- one of them
abbrev pub with_out_of : List Name → List ℕ → Name → Option ℕ → List ℕ
with_out_of names ids r None = ids
with_out_of names ids r (Some o) = slice_set ids (place_of names r) o

abbrev pub gate_in : Env → List Node → Program → Action → List ℕ → List ℕ → Bool
gate_in env ns program a globals inputs = gate_holds program.globals (store_at env ns globals) a (values_at env ns inputs)

abbrev pub guard_in : Env → List Node → Program → Action → List ℕ → List ℕ → List ℕ → Bool
guard_in env ns program a globals inputs choices = guard_holds program.globals (store_at env ns globals) a (values_at env ns inputs) (values_at env ns choices)

-- the path goes on where it was here, the gate is true and the guard is; it stays safe unless it was here and the gate is false;
-- and then these are the globals and the outputs
pub record HasRun (old new : List Node) (program : Program) (a : Action) (globals inputs choices : List ℕ) (here whole : ℕ) (ran : Ran) : Type 0 where
  pub live : (l : Env → Bool) → IsTest old here l → IsTest new ran.live (λ env. (l env && gate_in env old program a globals inputs) && guard_in env old program a globals inputs choices)
  pub safe : (l s : Env → Bool) → IsTest old here l → IsTest old whole s → IsTest new ran.safe (λ env. s env && (not (l env) || gate_in env old program a globals inputs))
  pub store : (env : Env) → Fits env new → store_at env new ran.globals ≡ store_after program.globals (store_at env old globals) a (values_at env old inputs) (values_at env old choices)
  pub outs : (env : Env) → Fits env new → values_at env new ran.outs ≡ outs_after program.globals (store_at env old globals) a (values_at env old inputs) (values_at env old choices)
  pub global_sorts : AreOf new ran.globals (map (λ g. g.sort) program.globals)
  pub out_sorts : AreOf new ran.outs (map (λ p. p.sort) a.outs)
