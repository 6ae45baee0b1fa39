-- The conditions on invariants, paths, blocks and actions of a step are listed.
use Rattle.std.proofs.Common.{ℕ, ◌≤◌, ◌≡◌, true, if◌then◌else◌, List, [], ◌∷◌, ◌++◌, Some, slice_get, arith, Contains, map}
use Rattle.std.proofs.lemmas.List.Elements.{Contains-append_left, Contains-append_right}
use Rattle.civl_tree.specs.declared.action.Action.{Action}
use Rattle.civl_tree.specs.declared.expr.Expr.{Expr}
use Rattle.civl_tree.specs.declared.program.Proc.{Proc}
use Rattle.civl_tree.specs.declared.program.Program.{Program}
use Rattle.civl_tree.proofs.Pairs.{contains_map, contains_here}
use Rattle.civl_layers.specs.declared.cut.Cut.{Cut}
use Rattle.civl_layers.specs.Cuts.{proc_cuts}
use Rattle.civl_conditions.specs.paths.Ends.{is_yield_cut}
use Rattle.civl_conditions.specs.declared.condition.Condition.{Condition}
use Rattle.civl_conditions.specs.declared.condition.Condition.TheVariants.{Start, Path, Block, Act}
use Rattle.civl_conditions.specs.declared.condition.Part.{Part}
use Rattle.civl_conditions.specs.declared.condition.Target.{Target}
use Rattle.civl_conditions.specs.declared.condition.Target.TheVariants as target
use Rattle.civl_conditions.specs.Steps.{each_at, each_cut, has_layer, step_invariants, lasts_through}
use Rattle.civl_conditions.specs.Listed.{starts, keeps, movers, parts_of, paths, targets, blocks, acts, conditions}
use Rattle.civl_conditions.proofs.Contained.{shown, in_each, at_a_step}
use Rattle.civl_conditions.proofs.Layered.{has_its_layer}
use Rattle.civl_condition_laws.specs.States.{IsCutOf}

-- ---- lists

-- what is said of a cut of the step's layer
in_each_cut : {B : Type 0} (f : ℕ → ℕ → Cut → List B) (program : Program) (step q c : ℕ) (proc : Proc) (cut : Cut) (y : B) → IsCutOf program step q c proc cut → Contains (f q c cut) y → Contains (each_cut f program step) y
in_each_cut f program step q c proc cut y of h =
    in_each (λ n p. if has_layer step p then each_at (f n) 0 (proc_cuts p) else []) 0 program.procs q q proc y of.of_proc.there (omega arith)
    (shown (has_layer step proc) y (each_at (f q) 0 (proc_cuts proc)) (has_its_layer program q step proc of.of_proc) (in_each (f q) 0 (proc_cuts proc) c c cut y of.there (omega arith) h))

-- ---- targets

module _ (program : Program) (step : ℕ) where
  invariant_targets : List Target
  invariant_targets = each_at (λ i e. target.Invariant i ∷ []) 0 (step_invariants program step)

  yields_at : ℕ → ℕ → Cut → List Target
  yields_at r y cut = if is_yield_cut cut.kind then target.Yield r y ∷ [] else []

  pub invariant_listed : (i : ℕ) (e : Expr) → slice_get (step_invariants program step) i ≡ Some e → Contains (targets program step) (target.Invariant i)
  unfolding invariant_targets yields_at
  invariant_listed i e at =
      Contains-append_left invariant_targets (each_cut yields_at program step) (target.Invariant i)
      (in_each (λ n x. target.Invariant n ∷ []) 0 (step_invariants program step) i i e (target.Invariant i) at (omega arith) (contains_here (target.Invariant i) []))

  pub yield_listed : (r y : ℕ) (proc : Proc) (cut : Cut) → IsCutOf program step r y proc cut → is_yield_cut cut.kind ≡ true → Contains (targets program step) (target.Yield r y)
  unfolding invariant_targets yields_at
  yield_listed r y proc cut of is =
      Contains-append_right invariant_targets (each_cut yields_at program step) (target.Yield r y)
      (in_each_cut yields_at program step r y proc cut (target.Yield r y) of (shown (is_yield_cut cut.kind) (target.Yield r y) (target.Yield r y ∷ []) is (contains_here (target.Yield r y) [])))

-- ---- conditions

module _ (program : Program) (step : ℕ) (low : 1 ≤ step) (high : step ≤ program.layers) where
  last : List Condition
  last = blocks program step ++ acts program step

  -- behind the conditions on single actions
  behind : (c : Condition) → Contains (paths program step ++ last) c → Contains (conditions program) c
  unfolding last
  behind c h =
      at_a_step program step low high c (Contains-append_right (starts program step) (keeps program step ++ (movers program step ++ (paths program step ++ last))) c
      (Contains-append_right (keeps program step) (movers program step ++ (paths program step ++ last)) c
      (Contains-append_right (movers program step) (paths program step ++ last) c h)))

  pub start_listed : (i : ℕ) (e : Expr) → slice_get (step_invariants program step) i ≡ Some e → Contains (conditions program) (Start step i)
  start_listed i e at =
      at_a_step program step low high (Start step i) (Contains-append_left (starts program step) (keeps program step ++ (movers program step ++ (paths program step ++ (blocks program step ++ acts program step)))) (Start step i)
      (in_each (λ n x. Start step n ∷ []) 0 (step_invariants program step) i i e (Start step i) at (omega arith) (contains_here (Start step i) [])))

  pub path_listed : (part : Part) (q c : ℕ) (proc : Proc) (cut : Cut) → IsCutOf program step q c proc cut → Contains (parts_of cut.kind) part → Contains (conditions program) (Path part step q c)
  path_listed part q c proc cut of h =
      behind (Path part step q c) (Contains-append_left (paths program step) last (Path part step q c)
      (in_each_cut (λ n i k. map (λ p. Path p step n i) (parts_of k.kind)) program step q c proc cut (Path part step q c) of (contains_map (λ p. Path p step q c) (parts_of cut.kind) part h)))

  pub block_listed : (q c : ℕ) (proc : Proc) (cut : Cut) (t : Target) → IsCutOf program step q c proc cut → Contains (targets program step) t → Contains (conditions program) (Block step q c t)
  unfolding last
  block_listed q c proc cut t of h =
      behind (Block step q c t) (Contains-append_right (paths program step) last (Block step q c t)
      (Contains-append_left (blocks program step) (acts program step) (Block step q c t)
      (in_each_cut (λ n i k. map (Block step n i) (targets program step)) program step q c proc cut (Block step q c t) of (contains_map (Block step q c) (targets program step) t h))))

  pub act_listed : (x : ℕ) (a : Action) (t : Target) → slice_get program.actions x ≡ Some a → lasts_through step a ≡ true → Contains (targets program step) t → Contains (conditions program) (Act step x t)
  unfolding last
  act_listed x a t at through h =
      behind (Act step x t) (Contains-append_right (paths program step) last (Act step x t)
      (Contains-append_right (blocks program step) (acts program step) (Act step x t)
      (in_each (λ n b. if lasts_through step b then map (Act step n) (targets program step) else []) 0 program.actions x x a (Act step x t) at (omega arith)
      (shown (lasts_through step a) (Act step x t) (map (Act step x) (targets program step)) through (contains_map (Act step x) (targets program step) t h)))))
