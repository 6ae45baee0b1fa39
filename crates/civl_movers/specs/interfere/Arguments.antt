-- The arguments of declared threads, as terms, and how many linear items they are.
use Rattle.std.specs.Prelude.{ℕ, List, map, unwrap_or, flat_map}
use Rattle.civl_tree.specs.declared.expr.Expr.{Expr}
use Rattle.civl_tree.specs.declared.expr.Sort.{Sort}
use Rattle.civl_tree.specs.declared.expr.Sort.TheVariants.{Bool as Truth}
use Rattle.civl_tree.specs.declared.program.Thread.{Thread}
use Rattle.civl_tree.specs.declared.program.Program.{Program}
use Rattle.civl_tree.specs.rules.Scopes.{global_scope}
use Rattle.civl_tree.specs.rules.Sorts.{sort_of}
use Rattle.civl_firing.specs.declared.store.Store.{Store}
use Rattle.civl_meaning.specs.Initial.{of_thread}
use Rattle.civl_conditions.specs.Weights.{thread_items, weights_of, global_weight, summed}

-- the sorts of expressions of the globals
abbrev pub arg_sorts : Program → List Expr → List Sort
arg_sorts program args = map (λ e. unwrap_or (sort_of (global_scope program) e) Truth) args

-- the linear arguments of several threads
abbrev pub threads_items : Program → List Thread → ℕ
threads_items program ts = summed (map (thread_items program) ts)

-- the permissions that they carry
abbrev pub of_threads : Program → Store → List Thread → List (List ℕ)
of_threads program store ts = flat_map (of_thread program store) ts

-- the weights of their arguments
abbrev pub thread_weight : Program → Thread → ℕ
thread_weight program t = weights_of (global_weight program) t.args

abbrev pub threads_weight : Program → List Thread → ℕ
threads_weight program ts = summed (map (thread_weight program) ts)
