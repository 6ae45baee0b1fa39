-- The conditions on the paths and blocks from a cut are listed.
use Rattle.std.proofs.Common.{ℕ, ◌≤◌, ◌≡◌, Bool, true, false, if◌then◌else◌, List, [], ◌∷◌, ◌++◌, map, refl, ap, ◌∙◌, arith, Contains}
use Rattle.std.proofs.lemmas.Bool.{false≢true, eq-eqb}
use Rattle.std.proofs.lemmas.List.Elements.{Contains-append_left, Contains-append_right}
use Rattle.civl_tree.specs.declared.program.Proc.{Proc}
use Rattle.civl_tree.specs.declared.program.Program.{Program}
use Rattle.civl_tree.proofs.Pairs.{contains_map}
use Rattle.civl_layers.specs.declared.cut.Cut.{Cut}
use Rattle.civl_layers.specs.Cuts.{proc_cuts}
use Rattle.civl_conditions.specs.paths.Ends.{is_rank_loop}
use Rattle.civl_conditions.specs.declared.condition.Condition.{Condition}
use Rattle.civl_conditions.specs.declared.condition.Condition.TheVariants.{Path, Block}
use Rattle.civl_conditions.specs.declared.condition.Part.{Part}
use Rattle.civl_conditions.specs.declared.condition.Part.TheVariants.{Gate, Invariant, Once, Stutter, Perform, Rank}
use Rattle.civl_conditions.specs.declared.condition.Target.{Target}
use Rattle.civl_conditions.specs.Steps.{each_at, refines_at, has_layer, each_cut}
use Rattle.civl_conditions.specs.Listed.{starts, keeps, movers, parts_of, paths, targets, blocks, acts, conditions}
use Rattle.civl_conditions.proofs.Contained.{shown, in_each, at_a_step}
use Rattle.civl_condition_laws.specs.States.{IsCutOf}

-- ---- parts

plain_parts : List Part
plain_parts = Gate ∷ Invariant ∷ Once ∷ Stutter ∷ Perform ∷ []

abbrev pub IsPlainPart : Part → Type 0
IsPlainPart Rank = ⊥
IsPlainPart _ = Unit {0}

module _ (rank : Bool) where
  abbrev all_parts : List Part
  all_parts = Gate ∷ Invariant ∷ Once ∷ Stutter ∷ Perform ∷ (if rank then Rank ∷ [] else [])

  part_among : (part : Part) → IsPlainPart part → Contains all_parts part
  part_among Gate h = (0, omega arith, refl)
  part_among Invariant h = (1, omega arith, refl)
  part_among Once h = (2, omega arith, refl)
  part_among Stutter h = (3, omega arith, refl)
  part_among Perform h = (4, omega arith, refl)
  part_among Rank h = absurd h

rank_among : (rank : Bool) → rank ≡ true → Contains (all_parts rank) Rank
rank_among true e = (5, omega arith, refl)
rank_among false e = absurd (false≢true e)

-- ---- from a cut

module _ (program : Program) (step q c : ℕ) (proc : Proc) (cut : Cut) (is : IsCutOf program step q c proc cut) (low : 1 ≤ step) (high : step ≤ program.layers) where
  layered : has_layer step proc ≡ true
  layered = ap (refines_at step) is.of_proc.refined ∙ eq-eqb is.of_proc.refines.layer step is.of_proc.layered

  at_cut : {B : Type 0} (f : ℕ → ℕ → Cut → List B) (y : B) → Contains (f q c cut) y → Contains (each_cut f program step) y
  at_cut f y h =
      in_each (λ q proc. if has_layer step proc then each_at (f q) 0 (proc_cuts proc) else []) 0 program.procs q q proc y is.of_proc.there (omega arith)
      (shown (has_layer step proc) y (each_at (f q) 0 (proc_cuts proc)) layered (in_each (f q) 0 (proc_cuts proc) c c cut y is.there (omega arith) h))

  abbrev path_of : Part → Condition
  path_of part = Path part step q c

  of_paths : (part : Part) → Contains (parts_of cut.kind) part → Contains (conditions program) (path_of part)
  of_paths part h =
      let x = path_of part in
      let one = at_cut (λ q c cut. map (λ part. Path part step q c) (parts_of cut.kind)) x (contains_map path_of (parts_of cut.kind) part h) in
      at_a_step program step low high x
      (Contains-append_right (starts program step) (keeps program step ++ (movers program step ++ (paths program step ++ (blocks program step ++ acts program step)))) x
      (Contains-append_right (keeps program step) (movers program step ++ (paths program step ++ (blocks program step ++ acts program step))) x
      (Contains-append_right (movers program step) (paths program step ++ (blocks program step ++ acts program step)) x
      (Contains-append_left (paths program step) (blocks program step ++ acts program step) x one))))

  pub part_listed : (part : Part) → IsPlainPart part → Contains (conditions program) (Path part step q c)
  part_listed part h = of_paths part (part_among (is_rank_loop cut.kind) part h)

  pub rank_listed : is_rank_loop cut.kind ≡ true → Contains (conditions program) (Path Rank step q c)
  rank_listed e = of_paths Rank (rank_among (is_rank_loop cut.kind) e)

  abbrev block_of : Target → Condition
  block_of target = Block step q c target

  pub block_listed : (target : Target) → Contains (targets program step) target → Contains (conditions program) (Block step q c target)
  block_listed target h =
      let x = block_of target in
      let one = at_cut (λ q c cut. map (Block step q c) (targets program step)) x (contains_map block_of (targets program step) target h) in
      at_a_step program step low high x
      (Contains-append_right (starts program step) (keeps program step ++ (movers program step ++ (paths program step ++ (blocks program step ++ acts program step)))) x
      (Contains-append_right (keeps program step) (movers program step ++ (paths program step ++ (blocks program step ++ acts program step))) x
      (Contains-append_right (movers program step) (paths program step ++ (blocks program step ++ acts program step)) x
      (Contains-append_right (paths program step) (blocks program step ++ acts program step) x
      (Contains-append_left (blocks program step) (acts program step) x one)))))
