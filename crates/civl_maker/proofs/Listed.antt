-- The listed conditions speak of cuts and of yields that there are.
use Rattle.std.specs.Prelude.{map, slice_get, All, if◌then◌else◌, ⊤}
use Rattle.std.specs.List.{Contains}
use Rattle.std.proofs.Common.{◌≡◌, ℕ, ◌&&◌, Bool, true, false, List, [], ◌∷◌, ◌++◌, refl, Some}
use Rattle.std.proofs.lemmas.Option.{slice_get_within}
use Rattle.std.proofs.lemmas.List.Elements.{All-nil, All-cons, All-append, All-map, All-weaker, All-contains}
use Rattle.civl_tree.specs.declared.action.Action.{Action}
use Rattle.civl_tree.specs.declared.program.Proc.{Proc}
use Rattle.civl_tree.specs.declared.program.Program.{Program}
use Rattle.civl_layers.specs.declared.cut.Cut.{Cut}
use Rattle.civl_layers.specs.Cuts.{proc_cuts}
use Rattle.civl_conditions.specs.paths.Ends.{is_yield_cut}
use Rattle.civl_conditions.specs.declared.condition.Condition.{Condition}
use Rattle.civl_conditions.specs.declared.condition.Condition.TheVariants.{Start, Keep, Pair, Fire, Path, Block, Act}
use Rattle.civl_conditions.specs.declared.condition.Target.TheVariants as target
use Rattle.civl_conditions.specs.Steps.{each_at, each_cut, steps_to, step_invariants, begins_below, meet_below, lasts_through, has_layer}
use Rattle.civl_layers.specs.Movers.{is_left, is_right}
use Rattle.civl_conditions.specs.Listed.{starts, keeps, pair_of, fire_of, movers, parts_of, paths, targets, blocks, acts, at_step, conditions}
use Rattle.civl_conditions.proofs.Everywhere.{all_each, all_flat, all_given, all_one}
use Rattle.civl_refine.specs.Kinds.{HasCut}
use Rattle.civl_refine.specs.steadiness.Kinds.{HasTarget}

-- the cuts and the yields of a condition are there
abbrev pub HasPlaces : Program → Condition → Type 0
HasPlaces program (Path part step q c) = HasCut program q c
HasPlaces program (Block step q c t) = HasCut program q c × HasTarget program t
HasPlaces program (Act step x t) = HasTarget program t
HasPlaces program _ = ⊤

-- ---- lists

when : {A : Type 0} (P : A → Type 0) (b : Bool) (xs : List A) → (b ≡ true → All P xs) → All P (if b then xs else [])
when P true xs h = h refl
when P false xs h = All-nil P

module _ (program : Program) (step : ℕ) where
  abbrev There : Condition → Type 0
  There c = HasPlaces program c

  -- of each cut of a procedure of the step's layer
  each_cut_there : {B : Type 0} (P : B → Type 0) (f : ℕ → ℕ → Cut → List B)
      → ((q c : ℕ) (proc : Proc) (cut : Cut) → slice_get program.procs q ≡ Some proc → slice_get (proc_cuts proc) c ≡ Some cut → All P (f q c cut)) → All P (each_cut f program step)
  each_cut_there P f h =
      all_each P (λ q proc. if has_layer step proc then each_at (f q) 0 (proc_cuts proc) else []) program.procs
      (λ q proc at. when P (has_layer step proc) (each_at (f q) 0 (proc_cuts proc)) (λ layer. all_each P (f q) (proc_cuts proc) (λ c cut is. h q c proc cut at is)))

  cut_there : (q c : ℕ) (proc : Proc) (cut : Cut) → slice_get program.procs q ≡ Some proc → slice_get (proc_cuts proc) c ≡ Some cut → HasCut program q c
  cut_there q c proc cut at is = record { proc = proc; there = at; within = slice_get_within (proc_cuts proc) c cut is }

  targets_there : All (HasTarget program) (targets program step)
  targets_there =
      All-append (HasTarget program) (each_at (λ i e. target.Invariant i ∷ []) 0 (step_invariants program step)) _
      (all_each (HasTarget program) (λ i e. target.Invariant i ∷ []) (step_invariants program step) (λ i e at. all_one (HasTarget program) (target.Invariant i) tt))
      (each_cut_there (HasTarget program) (λ r y cut. if is_yield_cut cut.kind then target.Yield r y ∷ [] else [])
      (λ r y proc cut at is. when (HasTarget program) (is_yield_cut cut.kind) (target.Yield r y ∷ []) (λ yields. all_one (HasTarget program) (target.Yield r y) (record { proc = proc; cut = cut; there = at; is = is; yields = yields }))))

  starts_there : All There (starts program step)
  starts_there = all_each There (λ i e. Start step i ∷ []) (step_invariants program step) (λ i e at. all_one There (Start step i) tt)

  keeps_there : All There (keeps program step)
  keeps_there = all_each There (λ x a. if begins_below step a then Keep step x ∷ [] else []) program.actions (λ x a at. when There (begins_below step a) (Keep step x ∷ []) (λ b. all_one There (Keep step x) tt))

  pair_there : (x : ℕ) (a : Action) (y : ℕ) (b : Action) → All There (pair_of step x a y b)
  pair_there x a y b =
      let pair : (n : ℕ) → There (Pair n step x y) = λ n. tt in
      let two = All-cons There (Pair 3 step x y) (Pair 4 step x y ∷ []) (pair 3) (all_one There (Pair 4 step x y) (pair 4)) in
      let three = All-cons There (Pair 5 step x y) (Pair 6 step x y ∷ Pair 7 step x y ∷ []) (pair 5) (All-cons There (Pair 6 step x y) (Pair 7 step x y ∷ []) (pair 6) (all_one There (Pair 7 step x y) (pair 7))) in
      when There (meet_below step a b) _
      (λ m. All-append There (if is_right a.mover then Pair 3 step x y ∷ Pair 4 step x y ∷ [] else []) _
      (when There (is_right a.mover) (Pair 3 step x y ∷ Pair 4 step x y ∷ []) (λ r. two)) (when There (is_left a.mover) (Pair 5 step x y ∷ Pair 6 step x y ∷ Pair 7 step x y ∷ []) (λ l. three)))

  movers_there : All There (movers program step)
  movers_there =
      all_each There (λ x a. each_at (pair_of step x a) 0 program.actions ++ fire_of step x a) program.actions
      (λ x a at. All-append There (each_at (pair_of step x a) 0 program.actions) (fire_of step x a)
      (all_each There (pair_of step x a) program.actions (λ y b is. pair_there x a y b)) (when There (is_left a.mover && begins_below step a) (Fire step x ∷ []) (λ b. all_one There (Fire step x) tt)))

  paths_there : All There (paths program step)
  paths_there =
      each_cut_there There (λ q c cut. map (λ part. Path part step q c) (parts_of cut.kind))
      (λ q c proc cut at is. All-map There (λ part. Path part step q c) (parts_of cut.kind) (all_given (λ part. There (Path part step q c)) (parts_of cut.kind) (λ part. cut_there q c proc cut at is)))

  blocks_there : All There (blocks program step)
  blocks_there =
      each_cut_there There (λ q c cut. map (Block step q c) (targets program step))
      (λ q c proc cut at is. All-map There (Block step q c) (targets program step)
      (All-weaker (HasTarget program) (λ t. There (Block step q c t)) (λ t h. (cut_there q c proc cut at is, h)) (targets program step) targets_there))

  acts_there : All There (acts program step)
  acts_there =
      all_each There (λ x a. if lasts_through step a then map (Act step x) (targets program step) else []) program.actions
      (λ x a at. when There (lasts_through step a) (map (Act step x) (targets program step))
      (λ l. All-map There (Act step x) (targets program step) (All-weaker (HasTarget program) (λ t. There (Act step x t)) (λ t h. h) (targets program step) targets_there)))

  step_there : All There (at_step program step)
  step_there =
      All-append There (starts program step) _ starts_there
      (All-append There (keeps program step) _ keeps_there
      (All-append There (movers program step) _ movers_there
      (All-append There (paths program step) _ paths_there
      (All-append There (blocks program step) (acts program step) blocks_there acts_there))))

conditions_there : (program : Program) → All (HasPlaces program) (conditions program)
unfolding conditions
conditions_there program = all_flat (HasPlaces program) (at_step program) (steps_to program.layers) (step_there program)

pub places_there : (program : Program) (c : Condition) → Contains (conditions program) c → HasPlaces program c
places_there program c h = All-contains (HasPlaces program) (conditions program) c (conditions_there program) h
