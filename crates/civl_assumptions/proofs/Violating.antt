-- Values violate a condition only where what it assumes is so.
use Rattle.std.proofs.Common.{◌≡◌, ◌∙◌, ℕ, ◌+◌, ◌-◌, Bool, true, false, not, ◌&&◌, if◌then◌else◌, List, ◌++◌, refl, sym, ap}
use Rattle.std.specs.Prelude.{Option, None, Some, nat_eq, slice_get}
use Rattle.std.specs.Option.{option_map_or}
use Rattle.std.proofs.lemmas.Bool.{and_from, and_parts, eqb-true, false≢true}
use Rattle.civl_bits.specs.declared.value.Value.{Value}
use Rattle.civl_tree.specs.declared.action.Action.{Action}
use Rattle.civl_tree.specs.declared.program.Proc.{Proc}
use Rattle.civl_tree.specs.declared.program.Program.{Program}
use Rattle.civl_firing.specs.declared.store.Store.{Store}
use Rattle.civl_meaning.specs.Permissions.{pairwise_disjoint}
use Rattle.civl_layers.specs.declared.cut.Cut.{Cut}
use Rattle.civl_layers.specs.Cuts.{proc_cuts}
use Rattle.civl_conditions.specs.declared.condition.Condition.TheVariants.{Start, Keep, Pair, Fire, Path, Block, Act}
use Rattle.civl_conditions.specs.declared.condition.Target.{Target}
use Rattle.civl_conditions.specs.declared.condition.Target.TheVariants as target
use Rattle.civl_conditions.specs.footprints.Agreement.{exists_at}
use Rattle.civl_conditions.specs.paths.Ends.{arrived, ends_block}
use Rattle.civl_conditions.specs.paths.Paths.{Outcome, Progress, progress_of}
use Rattle.civl_conditions.specs.paths.Seen.{exists_near}
use Rattle.civl_conditions.specs.Assumed.{assumed, owned}
use Rattle.civl_conditions.specs.Invariants.{invariant_lost, invariants_hold, meets_init}
use Rattle.civl_conditions.specs.Movers.{apart, clashes, fires_of, gate_of, loses, on_some, pair_fails, reveals, spoils, waits}
use Rattle.civl_conditions.specs.Parts.{at_block_end, outcome_of, part_fails, path_fails}
use Rattle.civl_conditions.specs.Permissions.{in_store, of_inputs}
use Rattle.civl_conditions.specs.Targets.{act_fails, block_fails, other_of, target_lost, target_owned, yield_holds}
use Rattle.civl_conditions.specs.Values.{Begun, Invoked, begun, count_of, instance_count, invoked, layout, store_of}
use Rattle.civl_conditions.specs.Violated.{violated}
use Rattle.civl_assumptions.specs.Laws.{ToldIsSo, ViolatedIsAssumed, act_assumes, all_hold, block_assumes, done_stays, holds_before, is_assumed, keep_assumes, pair_assumes}
use Rattle.civl_assumptions.proofs.Listed.{assumed_is_listed}

-- ---- options

found_so : {A : Type 0} (o : Option A) (f h : A → Bool) → ((a : A) → f a ≡ true → h a ≡ true) → option_map_or f o false ≡ true → option_map_or h o true ≡ true
found_so None f h so e = refl
found_so (Some a) f h so e = so a e

-- ---- K2

keep_so : (program : Program) (g : Store) (x : Invoked) → loses program g x ≡ true → keep_assumes program g x ≡ true
keep_so program g x e =
    let lists = pairwise_disjoint (in_store program g ++ of_inputs x) in
    let k = and_parts lists _ e in
    and_from lists (gate_of program g x) k.0 (and_parts (gate_of program g x) _ k.1).0

-- ---- pairs

module _ (program : Program) (step : ℕ) (g : Store) (x y : Invoked) where
  abbrev first : Bool
  first = gate_of program g x

  abbrev second : Bool
  second = gate_of program g y

  abbrev Gates : ℕ → Type 0
  Gates number = (first && (if nat_eq number 7 then not second else second)) ≡ true

  -- both gates, of a number that isn't 7
  both : (number k : ℕ) → number ≡ k → nat_eq k 7 ≡ false → first ≡ true → second ≡ true → Gates number
  both number k same other p q =
      let last : nat_eq number 7 ≡ false = ap (λ (n : ℕ). nat_eq n 7) same ∙ other in
      and_from first (if nat_eq number 7 then not second else second) p (ap (λ (b : Bool). if b then not second else second) last ∙ q)

  clashes_so : (b : Bool) → (first && (second && b)) ≡ true → (first ≡ true) × (second ≡ true)
  clashes_so b e = let k = and_parts first (second && b) e in (k.0, (and_parts second b k.1).0)

  other_so : (b : Bool) → (second && (first && b)) ≡ true → (first ≡ true) × (second ≡ true)
  other_so b e = let k = and_parts second (first && b) e in ((and_parts first b k.1).0, k.0)

  seventh : (number : ℕ) (rest : Bool) → (nat_eq number 7 && (first && (not second && rest))) ≡ true → Gates number
  seventh number rest e =
      let k = and_parts (nat_eq number 7) (first && (not second && rest)) e in
      let l = and_parts first (not second && rest) k.1 in
      and_from first (if nat_eq number 7 then not second else second) l.0
      (ap (λ (b : Bool). if b then not second else second) k.0 ∙ (and_parts (not second) rest l.1).0)

  gates_so : (number : ℕ) (fourth sixth last : Bool) (third fifth : Bool)
      → (third ≡ true → (first ≡ true) × (second ≡ true)) → (fourth ≡ true → (first ≡ true) × (second ≡ true))
      → (fifth ≡ true → (first ≡ true) × (second ≡ true)) → (sixth ≡ true → (first ≡ true) × (second ≡ true))
      → (last ≡ true → Gates number)
      → (b3 b4 b5 b6 : Bool) → nat_eq number 3 ≡ b3 → nat_eq number 4 ≡ b4 → nat_eq number 5 ≡ b5 → nat_eq number 6 ≡ b6
      → (if b3 then third else if b4 then fourth else if b5 then fifth else if b6 then sixth else last) ≡ true → Gates number
  gates_so number fourth sixth last third fifth h3 h4 h5 h6 h7 true b4 b5 b6 e3 e4 e5 e6 e =
      both number 3 (eqb-true number 3 e3) refl (h3 e).0 (h3 e).1
  gates_so number fourth sixth last third fifth h3 h4 h5 h6 h7 false true b5 b6 e3 e4 e5 e6 e =
      both number 4 (eqb-true number 4 e4) refl (h4 e).0 (h4 e).1
  gates_so number fourth sixth last third fifth h3 h4 h5 h6 h7 false false true b6 e3 e4 e5 e6 e =
      both number 5 (eqb-true number 5 e5) refl (h5 e).0 (h5 e).1
  gates_so number fourth sixth last third fifth h3 h4 h5 h6 h7 false false false true e3 e4 e5 e6 e =
      both number 6 (eqb-true number 6 e6) refl (h6 e).0 (h6 e).1
  gates_so number fourth sixth last third fifth h3 h4 h5 h6 h7 false false false false e3 e4 e5 e6 e = h7 e

  pair_so : (number : ℕ) → pair_fails program number step g x y ≡ true → pair_assumes program number g x y ≡ true
  pair_so number e =
      let k = and_parts (apart program g x y) _ e in
      and_from (apart program g x y) (first && (if nat_eq number 7 then not second else second)) k.0 (
      gates_so number (spoils program g x y) (spoils program g y x) (nat_eq number 7 && reveals program g x y)
      (clashes program step g x y) (clashes program step g y x)
      (clashes_so _) (clashes_so _) (other_so _) (other_so _) (seventh number _)
      (nat_eq number 3) (nat_eq number 4) (nat_eq number 5) (nat_eq number 6) refl refl refl refl k.1
      )

-- ---- targets

module _ (program : Program) where
  lost_before : (step : ℕ) (aim : Target) (values : List Value) (at : ℕ) (before after : Store)
      → target_lost program step aim values at before after ≡ true → holds_before program aim values at before ≡ true
  lost_before step (target.Invariant i) values at before after e = refl
  lost_before step (target.Yield r y) values at before after e =
      found_so (slice_get program.procs r) _ _ (λ proc there.
      found_so (slice_get (proc_cuts proc) y) _ _ (λ cut here.
      (and_parts (yield_holds program proc cut (other_of proc values at) before) (not (yield_holds program proc cut (other_of proc values at) after)) here).0) there) e

  module _ (step : ℕ) (proc : Proc) (c : ℕ) (cut : Cut) (b : Begun) (aim : Target) (values : List Value) (at : ℕ) where
    end_so : (o : Outcome) (p : Progress) (end : Option ℕ)
        → on_some end (λ n. ends_block proc n && target_lost program step aim values at b.old p.store) ≡ true → holds_before program aim values at b.old ≡ true
    end_so o p None e = absurd (false≢true e)
    end_so o p (Some n) e =
        lost_before step aim values at b.old p.store (and_parts (ends_block proc n) (target_lost program step aim values at b.old p.store) e).1

    block_so : block_fails program step proc c cut b aim values at ≡ true → block_assumes program step proc c cut b aim values at ≡ true
    block_so e =
        let o = outcome_of program step proc cut b in
        let apart = pairwise_disjoint (owned program proc c b ++ target_owned program aim values at) in
        let lost = at_block_end proc o (λ p. target_lost program step aim values at b.old p.store) in
        let k = and_parts (assumed program step proc c cut b) (apart && lost) e in
        let l = and_parts apart lost k.1 in
        and_from (assumed program step proc c cut b) (apart && holds_before program aim values at b.old) k.0
        (and_from apart (holds_before program aim values at b.old) l.0 (end_so o (progress_of o) (arrived proc o) l.1))

  module _ (step : ℕ) (g : Store) (x : Invoked) (aim : Target) (values : List Value) (at : ℕ) where
    fired_so : (o : Option (Store × List Value)) → on_some o (λ a. target_lost program step aim values at g a.0) ≡ true → holds_before program aim values at g ≡ true
    fired_so None e = absurd (false≢true e)
    fired_so (Some a) e = lost_before step aim values at g a.0 e

    act_so : act_fails program step g x aim values at ≡ true → act_assumes program step g x aim values at ≡ true
    act_so e =
        let inv = invariants_hold program step g in
        let gate = gate_of program g x in
        let apart = pairwise_disjoint (in_store program g ++ (of_inputs x ++ target_owned program aim values at)) in
        let lost = on_some (fires_of program g x) (λ a. target_lost program step aim values at g a.0) in
        let before = holds_before program aim values at g in
        let k = and_parts inv (gate && (apart && lost)) e in
        let l = and_parts gate (apart && lost) k.1 in
        let n = and_parts apart lost l.1 in
        and_from inv (gate && (apart && before)) k.0
        (and_from gate (apart && before) l.0 (and_from apart before n.0 (fired_so (fires_of program g x) n.1)))

-- ---- all

pub violated_is_assumed : ViolatedIsAssumed
unfolding violated is_assumed
violated_is_assumed program (Start step i) values e =
    (and_parts (meets_init program (record { values = values })) (invariant_lost program step i (record { values = values })) e).0
violated_is_assumed program (Keep step m) values e =
    found_so (slice_get program.actions m) _ _ (λ a so.
    keep_so program (store_of (exists_at (step - 1)) program values) (invoked values (count_of (exists_at (step - 1)) program) a) so) e
violated_is_assumed program (Pair number step m n) values e =
    found_so (slice_get program.actions m) _ _ (λ a there. found_so (slice_get program.actions n) _ _ (λ b so.
    pair_so program step (store_of (exists_at (step - 1)) program values)
    (invoked values (count_of (exists_at (step - 1)) program) a)
    (invoked values (count_of (exists_at (step - 1)) program + instance_count a) b) number so) there) e
violated_is_assumed program (Fire step m) values e =
    found_so (slice_get program.actions m) _ _ (λ a so. (and_parts _ _ so).0) e
violated_is_assumed program (Path part step q c) values e =
    found_so (slice_get program.procs q) _ _ (λ proc there. found_so (slice_get (proc_cuts proc) c) _ _ (λ cut so. (and_parts _ _ so).0) there) e
violated_is_assumed program (Block step q c aim) values e =
    found_so (slice_get program.procs q) _ _ (λ proc there. found_so (slice_get (proc_cuts proc) c) _ _ (λ cut so.
    block_so program step proc c cut (begun program step proc cut values) aim values (layout program step proc cut).behind so) there) e
violated_is_assumed program (Act step m aim) values e =
    found_so (slice_get program.actions m) _ _ (λ a so.
    act_so program step (store_of (exists_near step) program values) (invoked values (count_of (exists_near step) program) a) aim values
    (count_of (exists_near step) program + instance_count a) so) e

pub told_is_so : ToldIsSo
told_is_so program condition values e =
    (and_parts (all_hold program condition values) (done_stays program condition values)
    (sym (assumed_is_listed program condition values) ∙ violated_is_assumed program condition values e)).0
