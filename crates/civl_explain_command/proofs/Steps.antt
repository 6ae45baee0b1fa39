-- The conditions of a program that are on paths belong to its steps.
use Rattle.std.specs.Prelude.{map, All, if◌then◌else◌}
use Rattle.std.specs.List.{Contains}
use Rattle.std.proofs.Common.{◌≡◌, ℕ, zero, suc, ◌+◌, ◌≤◌, ◌&&◌, Bool, true, false, List, [], ◌∷◌, ◌++◌, flat_map, arith}
use Rattle.std.proofs.lemmas.List.Elements.{All-nil, All-cons, All-head, All-tail, All-append, All-map, All-weaker, All-contains}
use Rattle.civl_tree.specs.declared.action.Action.{Action}
use Rattle.civl_tree.specs.declared.program.Program.{Program}
use Rattle.civl_layers.specs.declared.cut.Cut.{Cut}
use Rattle.civl_layers.specs.Cuts.{proc_cuts}
use Rattle.civl_layers.specs.Movers.{is_left, is_right}
use Rattle.civl_conditions.specs.declared.condition.Condition.{Condition}
use Rattle.civl_conditions.specs.declared.condition.Condition.TheVariants.{Start, Keep, Pair, Fire, Path, Block, Act}
use Rattle.civl_conditions.specs.Steps.{each_at, each_cut, steps_to, step_invariants, begins_below, meet_below, lasts_through, has_layer}
use Rattle.civl_conditions.specs.Listed.{starts, keeps, pair_of, fire_of, movers, parts_of, paths, targets, blocks, acts, at_step, conditions}
use Rattle.civl_conditions.proofs.Everywhere.{all_each, all_given, all_one}
use Rattle.civl_losses.specs.Stories.{IsAtStep}

-- ---- lists

when : {A : Type 0} (P : A → Type 0) (b : Bool) (xs : List A) → All P xs → All P (if b then xs else [])
when P true xs h = h
when P false xs h = All-nil P

-- of each of the lists that elements with Q give
all_flat_of : {A B : Type 0} (P : B → Type 0) (Q : A → Type 0) (f : A → List B) (xs : List A) → All Q xs → ((x : A) → Q x → All P (f x)) → All P (flat_map f xs)
all_flat_of P Q f [] q h = All-nil P
all_flat_of P Q f (x ∷ xs) q h = All-append P (f x) (flat_map f xs) (h x (All-head Q x xs q)) (all_flat_of P Q f xs (All-tail Q x xs q) h)

-- ---- the conditions of a step

module _ (program : Program) (step : ℕ) (within : step ≤ program.layers) where
  abbrev There : Condition → Type 0
  There c = IsAtStep program c

  -- of each cut of a procedure of the step's layer
  each_cut_there : (f : ℕ → ℕ → Cut → List Condition) → ((q c : ℕ) (cut : Cut) → All There (f q c cut)) → All There (each_cut f program step)
  each_cut_there f h =
      all_each There (λ q proc. if has_layer step proc then each_at (f q) 0 (proc_cuts proc) else []) program.procs
      (λ q proc at. when There (has_layer step proc) (each_at (f q) 0 (proc_cuts proc)) (all_each There (f q) (proc_cuts proc) (λ c cut is. h q c cut)))

  starts_there : All There (starts program step)
  starts_there = all_each There (λ i e. Start step i ∷ []) (step_invariants program step) (λ i e at. all_one There (Start step i) tt)

  keeps_there : All There (keeps program step)
  keeps_there =
      all_each There (λ x a. if begins_below step a then Keep step x ∷ [] else []) program.actions
      (λ x a at. when There (begins_below step a) (Keep step x ∷ []) (all_one There (Keep step x) tt))

  pair_there : (x : ℕ) (a : Action) (y : ℕ) (b : Action) → All There (pair_of step x a y b)
  pair_there x a y b =
      let two = All-cons There (Pair 3 step x y) (Pair 4 step x y ∷ []) tt (all_one There (Pair 4 step x y) tt) in
      let three = All-cons There (Pair 5 step x y) (Pair 6 step x y ∷ Pair 7 step x y ∷ []) tt (All-cons There (Pair 6 step x y) (Pair 7 step x y ∷ []) tt (all_one There (Pair 7 step x y) tt)) in
      when There (meet_below step a b) _
      (All-append There (if is_right a.mover then Pair 3 step x y ∷ Pair 4 step x y ∷ [] else []) _
      (when There (is_right a.mover) (Pair 3 step x y ∷ Pair 4 step x y ∷ []) two) (when There (is_left a.mover) (Pair 5 step x y ∷ Pair 6 step x y ∷ Pair 7 step x y ∷ []) three))

  movers_there : All There (movers program step)
  movers_there =
      all_each There (λ x a. each_at (pair_of step x a) 0 program.actions ++ fire_of step x a) program.actions
      (λ x a at. All-append There (each_at (pair_of step x a) 0 program.actions) (fire_of step x a)
      (all_each There (pair_of step x a) program.actions (λ y b is. pair_there x a y b)) (when There (is_left a.mover && begins_below step a) (Fire step x ∷ []) (all_one There (Fire step x) tt)))

  paths_there : All There (paths program step)
  paths_there =
      each_cut_there (λ q c cut. map (λ part. Path part step q c) (parts_of cut.kind))
      (λ q c cut. All-map There (λ part. Path part step q c) (parts_of cut.kind) (all_given (λ part. There (Path part step q c)) (parts_of cut.kind) (λ part. within)))

  blocks_there : All There (blocks program step)
  blocks_there =
      each_cut_there (λ q c cut. map (Block step q c) (targets program step))
      (λ q c cut. All-map There (Block step q c) (targets program step) (all_given (λ t. There (Block step q c t)) (targets program step) (λ t. within)))

  acts_there : All There (acts program step)
  acts_there =
      all_each There (λ x a. if lasts_through step a then map (Act step x) (targets program step) else []) program.actions
      (λ x a at. when There (lasts_through step a) (map (Act step x) (targets program step))
      (All-map There (Act step x) (targets program step) (all_given (λ t. There (Act step x t)) (targets program step) (λ t. tt))))

  step_there : All There (at_step program step)
  step_there =
      All-append There (starts program step) _ starts_there
      (All-append There (keeps program step) _ keeps_there
      (All-append There (movers program step) _ movers_there
      (All-append There (paths program step) _ paths_there
      (All-append There (blocks program step) (acts program step) blocks_there acts_there))))

-- ---- all

steps_within : (n : ℕ) → All (λ step. step ≤ n) (steps_to n)
steps_within zero = All-nil (λ step. step ≤ zero)
steps_within (suc n) =
    All-append (λ step. step ≤ suc n) (steps_to n) ((n + 1) ∷ [])
    (All-weaker (λ step. step ≤ n) (λ step. step ≤ suc n) (λ step h. omega (arith, h)) (steps_to n) (steps_within n))
    (all_one (λ step. step ≤ suc n) (n + 1) (omega arith))

all_at_steps : (program : Program) → All (IsAtStep program) (conditions program)
unfolding conditions
all_at_steps program =
    all_flat_of (IsAtStep program) (λ step. step ≤ program.layers) (at_step program) (steps_to program.layers) (steps_within program.layers) (step_there program)

pub at_a_step : (program : Program) (c : Condition) → Contains (conditions program) c → IsAtStep program c
at_a_step program c h = All-contains (IsAtStep program) (conditions program) c (all_at_steps program) h
