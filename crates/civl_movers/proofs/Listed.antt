-- The listed conditions speak of actions that there are.
use Rattle.std.specs.Prelude.{map, length, All, if◌then◌else◌}
use Rattle.std.specs.List.{Contains}
use Rattle.std.proofs.Common.{ℕ, ◌+◌, ◌<◌, ◌≤◌, ◌&&◌, Bool, true, false, List, [], ◌∷◌, ◌++◌, arith}
use Rattle.std.proofs.lemmas.List.Elements.{All-nil, All-cons, All-append, All-map, All-contains}
use Rattle.civl_tree.specs.declared.action.Action.{Action}
use Rattle.civl_tree.specs.declared.program.Program.{Program}
use Rattle.civl_layers.specs.declared.cut.Cut.{Cut}
use Rattle.civl_layers.specs.Cuts.{proc_cuts}
use Rattle.civl_conditions.specs.declared.condition.Condition.{Condition}
use Rattle.civl_conditions.specs.declared.condition.Condition.TheVariants.{Start, Keep, Pair, Fire, Path, Block, Act}
use Rattle.civl_conditions.specs.Steps.{each_at, each_cut, steps_to, step_invariants, begins_below, meet_below, lasts_through, has_layer}
use Rattle.civl_layers.specs.Movers.{is_left, is_right}
use Rattle.civl_conditions.specs.Listed.{starts, keeps, pair_of, fire_of, movers, parts_of, paths, targets, blocks, acts, at_step, conditions}
use Rattle.civl_conditions.proofs.Everywhere.{all_flat, all_given, all_one}

-- the actions of a condition are there
abbrev pub HasActions : Program → Condition → Type 0
HasActions program (Keep step x) = x < length program.actions
HasActions program (Pair number step x y) = (x < length program.actions) × (y < length program.actions)
HasActions program (Fire step x) = x < length program.actions
HasActions program (Act step x target) = x < length program.actions
HasActions program _ = Unit {0}

all_if : {A : Type 0} (P : A → Type 0) (b : Bool) (xs ys : List A) → All P xs → All P ys → All P (if b then xs else ys)
all_if P true xs ys h k = h
all_if P false xs ys h k = k

-- of each element with its number
all_each : {A B : Type 0} (P : B → Type 0) (f : ℕ → A → List B) (at limit : ℕ) (xs : List A) → at + length xs ≤ limit → ((n : ℕ) (x : A) → n < limit → All P (f n x)) → All P (each_at f at xs)
all_each P f at limit [] l h = All-nil P
all_each P f at limit (x ∷ xs) l h = All-append P (f at x) (each_at f (at + 1) xs) (h at x (omega (arith, l))) (all_each P f (at + 1) limit xs (omega (arith, l)) h)

module _ (program : Program) (step : ℕ) where
  abbrev There : Condition → Type 0
  There c = HasActions program c

  abbrev count : ℕ
  count = length program.actions

  starts_there : All There (starts program step)
  starts_there = all_each There (λ i e. Start step i ∷ []) 0 (length (step_invariants program step)) (step_invariants program step) (omega arith) (λ i e l. all_one There (Start step i) tt)

  keeps_there : All There (keeps program step)
  keeps_there =
      all_each There (λ x a. if begins_below step a then Keep step x ∷ [] else []) 0 count program.actions (omega arith)
      (λ x a l. all_if There (begins_below step a) (Keep step x ∷ []) [] (all_one There (Keep step x) l) (All-nil There))

  pair_there : (x : ℕ) (a : Action) (y : ℕ) (b : Action) → x < count → y < count → All There (pair_of step x a y b)
  pair_there x a y b l m =
      let two = All-cons There (Pair 3 step x y) (Pair 4 step x y ∷ []) (l, m) (all_one There (Pair 4 step x y) (l, m)) in
      let three = All-cons There (Pair 5 step x y) (Pair 6 step x y ∷ Pair 7 step x y ∷ []) (l, m) (All-cons There (Pair 6 step x y) (Pair 7 step x y ∷ []) (l, m) (all_one There (Pair 7 step x y) (l, m))) in
      let right = if is_right a.mover then Pair 3 step x y ∷ Pair 4 step x y ∷ [] else [] in
      let left = if is_left a.mover then Pair 5 step x y ∷ Pair 6 step x y ∷ Pair 7 step x y ∷ [] else [] in
      all_if There (meet_below step a b) (right ++ left) []
      (All-append There right left (all_if There (is_right a.mover) (Pair 3 step x y ∷ Pair 4 step x y ∷ []) [] two (All-nil There)) (all_if There (is_left a.mover) (Pair 5 step x y ∷ Pair 6 step x y ∷ Pair 7 step x y ∷ []) [] three (All-nil There)))
      (All-nil There)

  fire_there : (x : ℕ) (a : Action) → x < count → All There (fire_of step x a)
  fire_there x a l = all_if There (is_left a.mover && begins_below step a) (Fire step x ∷ []) [] (all_one There (Fire step x) l) (All-nil There)

  movers_there : All There (movers program step)
  movers_there =
      all_each There (λ x a. each_at (pair_of step x a) 0 program.actions ++ fire_of step x a) 0 count program.actions (omega arith)
      (λ x a l. All-append There (each_at (pair_of step x a) 0 program.actions) (fire_of step x a)
      (all_each There (pair_of step x a) 0 count program.actions (omega arith) (λ y b m. pair_there x a y b l m)) (fire_there x a l))

  cuts_there : (f : ℕ → ℕ → Cut → List Condition) → ((q c : ℕ) (cut : Cut) → All There (f q c cut)) → All There (each_cut f program step)
  cuts_there f h =
      all_each There (λ q proc. if has_layer step proc then each_at (f q) 0 (proc_cuts proc) else []) 0 (length program.procs) program.procs (omega arith)
      (λ q proc l. all_if There (has_layer step proc) (each_at (f q) 0 (proc_cuts proc)) []
      (all_each There (f q) 0 (length (proc_cuts proc)) (proc_cuts proc) (omega arith) (λ c cut m. h q c cut)) (All-nil There))

  paths_there : All There (paths program step)
  paths_there = cuts_there (λ q c cut. map (λ part. Path part step q c) (parts_of cut.kind)) (λ q c cut. All-map There (λ part. Path part step q c) (parts_of cut.kind) (all_given (λ part. There (Path part step q c)) (parts_of cut.kind) (λ part. tt)))

  blocks_there : All There (blocks program step)
  blocks_there = cuts_there (λ q c cut. map (Block step q c) (targets program step)) (λ q c cut. All-map There (Block step q c) (targets program step) (all_given (λ t. There (Block step q c t)) (targets program step) (λ t. tt)))

  acts_there : All There (acts program step)
  acts_there =
      all_each There (λ x a. if lasts_through step a then map (Act step x) (targets program step) else []) 0 count program.actions (omega arith)
      (λ x a l. all_if There (lasts_through step a) (map (Act step x) (targets program step)) []
      (All-map There (Act step x) (targets program step) (all_given (λ t. There (Act step x t)) (targets program step) (λ t. l))) (All-nil There))

  step_there : All There (at_step program step)
  step_there =
      All-append There (starts program step) _ starts_there
      (All-append There (keeps program step) _ keeps_there
      (All-append There (movers program step) _ movers_there
      (All-append There (paths program step) _ paths_there
      (All-append There (blocks program step) (acts program step) blocks_there acts_there))))

pub conditions_there : (program : Program) → All (HasActions program) (conditions program)
unfolding conditions
conditions_there program = all_flat (HasActions program) (at_step program) (steps_to program.layers) (step_there program)

-- so does one of them
pub listed_there : (program : Program) (c : Condition) → Contains (conditions program) c → HasActions program c
listed_there program c h = All-contains (HasActions program) (conditions program) c (conditions_there program) h
