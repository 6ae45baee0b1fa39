-- Blocks and actions that lose what has to be kept, as tests.
use Rattle.std.specs.Prelude.{not, map, filter, length, if◌then◌else◌, ◌||◌}
use Rattle.std.specs.List.{list_all}
use Rattle.std.proofs.Common.{◌≡◌, ◌∙◌, ℕ, ◌+◌, ◌*◌, ◌≤◌, Bool, true, false, ◌&&◌, List, [], ◌∷◌, ◌++◌, append_assoc, refl, sym, ap, ap₂, arith, Option, Some, None}
use Rattle.std.proofs.lemmas.List.{append-nil}
use Rattle.std.proofs.Math.Bool.{and-true, not-not, and-false}
use Rattle.civl_bits.specs.declared.value.Value.{Value}
use Rattle.civl_tree.specs.declared.action.Action.{Action}
use Rattle.civl_tree.specs.declared.program.Proc.{Proc}
use Rattle.civl_tree.specs.declared.program.Program.{Program}
use Rattle.civl_firing.specs.declared.store.Store.{Store}
use Rattle.civl_firing.specs.Fired.{gate_holds, guard_holds, store_after}
use Rattle.civl_meaning.specs.Permissions.{pairwise_disjoint, of_params}
use Rattle.civl_conditions.specs.paths.Paths.{Progress, Outcome, progress_of}
use Rattle.civl_conditions.specs.paths.Ends.{arrived, ends_block}
use Rattle.civl_conditions.specs.declared.condition.Target.{Target}
use Rattle.civl_conditions.specs.paths.NoteValues.{note_values}
use Rattle.civl_conditions.specs.Assumed.{cut_invariant, note_holds, refined_gate, owned, assumed}
use Rattle.civl_conditions.specs.Invariants.{invariants_hold}
use Rattle.civl_conditions.specs.Movers.{on_some, gate_of, fires_of}
use Rattle.civl_conditions.specs.Parts.{at_block_end}
use Rattle.civl_conditions.specs.Permissions.{in_store}
use Rattle.civl_conditions.specs.Targets.{Other, act_fails, block_fails, target_lost}
use Rattle.civl_conditions.specs.Values.{Begun, Invoked as Meant}
use Rattle.civl_conditions.specs.Weights.{summed}
use Rattle.civl_states.proofs.Firing.{fires_is}
use Rattle.civl_states.specs.Items.{comes_in}
use Rattle.civl_refine.specs.declared.start.Start.{Start}
use Rattle.civl_refine.specs.Failing.{ArrivesAmong}
use Rattle.civl_refine.specs.Walked.{outcome_from}
use Rattle.civl_refine.proofs.Breaking.{kept_at_all}
use Rattle.civl_refine.specs.declared.steadiness.kept.Kept.{Kept}
use Rattle.civl_refine.specs.declared.steadiness.kept.Kept.TheVariants.{Invariant, Yield}
use Rattle.civl_refine.specs.inner.steadiness.Kept.{IsTarget, other_at, is_lost, words_of}
use Rattle.civl_refine.specs.inner.steadiness.Losing.{act_loses, block_loses, block_lost, kept_at_end, end_weight, apart_too}
use Rattle.civl_refine.proofs.steadiness.Aiming.{lost_same, owned_same}

-- ---- actions

pub act_tests : (program : Program) (step : ℕ) (k : Kept) (o : Other) (g : Store) (a : Action) (i c : List Value)
    → (invariants_hold program step g && (gate_holds program.globals g a i && (pairwise_disjoint (comes_in program a g i ++ words_of k o) && (guard_holds program.globals g a i c && (is_lost program step k o g (store_after program.globals g a i c) && true)))))
    ≡ act_loses program step k o g (record { action = a; inputs = i; chosen = c })
act_tests program step k o g a i c =
    let gs = program.globals in
    ap (λ (b : Bool). invariants_hold program step g && (gate_holds gs g a i && b))
    (ap₂ (λ (ps : List (List ℕ)) (b : Bool). pairwise_disjoint ps && b) (append_assoc (in_store program g) (of_params a.params i) (words_of k o))
    (ap (λ (b : Bool). guard_holds gs g a i c && b) (and-true (is_lost program step k o g (store_after gs g a i c))) ∙ sym (fires_is program g a i c (λ s. is_lost program step k o g s.0))))

on_same : {A : Type 0} (o : Option A) (f h : A → Bool) → ((a : A) → f a ≡ h a) → on_some o f ≡ on_some o h
on_same None f h e = refl
on_same (Some a) f h e = e a

pub act_is : (program : Program) (step : ℕ) (t : Target) (k : Kept) → IsTarget program t k → (values : List Value) (at : ℕ) (g : Store) (x : Meant) → act_loses program step k (other_at k values at) g x ≡ act_fails program step g x t values at
act_is program step t k e values at g x =
    ap (λ (b : Bool). invariants_hold program step g && (gate_of program g x && b))
    (ap₂ (λ (ps : List (List ℕ)) (b : Bool). pairwise_disjoint (in_store program g ++ (of_params x.action.params x.inputs ++ ps)) && b) (owned_same program t k e values at)
    (on_same (fires_of program g x) (λ a. is_lost program step k (other_at k values at) g a.0) (λ a. target_lost program step t values at g a.0) (λ a. lost_same program step t k e values at g a.0)))

-- ---- the end of a block

pub kept_same : (g b x y : Bool) → (g ≡ true → x ≡ y) → (not g || (not b || x)) ≡ not (g && (b && not y))
kept_same true true x y e = e refl ∙ sym (not-not y)
kept_same true false x y e = refl
kept_same false b x y e = refl

pub end_counts : (b g l : Bool) → b ≡ true → not (g && l) ≡ not (g && (b && l))
end_counts true g l e = refl
end_counts false g l e = absurd (cc)

pub end_passes : (b g l f : Bool) → b ≡ false → f ≡ (f && not (g && (b && l)))
end_passes true g l f e = absurd (cc)
end_passes false g l f e = sym (and-true f) ∙ ap (λ (x : Bool). f && not x) (sym (and-false g))

-- it is lost where it isn't kept at one of the ends
pub lost_as : (start : Start) (k : Kept) (b : Begun) (o : Other) (ends : List ℕ) → ArrivesAmong start.proc.now ends (outcome_from start b)
    → not (true && list_all (kept_at_end start k b o (outcome_from start b)) ends) ≡ block_lost start k b o
lost_as start k b o ends among =
    let out = outcome_from start b in
    let t : ℕ → Bool = λ end. ends_block start.proc.now end && is_lost start.program.now start.step k o b.old (progress_of out).store in
    ap not (kept_at_all t ends (arrived start.proc.now out) among) ∙ not-not (on_some (arrived start.proc.now out) t)

pub ends_weigh : (start : Start) (w : ℕ) (ends : List ℕ) → summed (map (end_weight start w) ends) ≡ length (filter (ends_block start.proc.now) ends) * (w + 1)
ends_weigh start w [] = omega arith
ends_weigh start w (e ∷ es) = by (ends_block start.proc.now e) (ends_weigh start w es)
  where
    by : (b : Bool) → summed (map (end_weight start w) es) ≡ length (filter (ends_block start.proc.now) es) * (w + 1)
        → (if b then w + 1 else 0) + summed (map (end_weight start w) es) ≡ length (if b then e ∷ filter (ends_block start.proc.now) es else filter (ends_block start.proc.now) es) * (w + 1)
    by true h = omega (arith, h)
    by false h = omega (arith, h)

-- ---- what is owned

assumed_apart : (i n g s d x : Bool) → ((i && (n && (g && (s && d)))) && x) ≡ ((i && (n && (g && (s && d)))) && (d && x))
assumed_apart true true true true true x = refl
assumed_apart true true true true false x = refl
assumed_apart true true true false d x = refl
assumed_apart true true false s d x = refl
assumed_apart true false g s d x = refl
assumed_apart false n g s d x = refl

pub apart_is : (start : Start) (k : Kept) (b : Begun) (o : Other) → (assumed start.program.now start.step start.proc.now start.number start.cut b && apart_too start k b o (block_lost start k b o)) ≡ block_loses start k b o
apart_is start (Yield place frame) b o = refl
apart_is start (Invariant i) b o =
    assumed_apart (invariants_hold start.program.now start.step b.old)
    (note_holds (note_values start.program.now.globals start.proc.now b.store b.locals b.done b.old b.old_outs b.old_done) (cut_invariant start.proc.now start.cut))
    (b.old_done || refined_gate start.program.now start.proc.now b) (not b.old_done || b.done)
    (pairwise_disjoint (owned start.program.now start.proc.now start.number b)) (block_lost start (Invariant i) b o)
    ∙ ap (λ (ps : List (List ℕ)). assumed start.program.now start.step start.proc.now start.number start.cut b && (pairwise_disjoint ps && block_lost start (Invariant i) b o)) (sym (append-nil (owned start.program.now start.proc.now start.number b)))

end_same : (proc : Proc) (out : Outcome) (f h : Progress → Bool) → f (progress_of out) ≡ h (progress_of out) → at_block_end proc out f ≡ at_block_end proc out h
end_same proc out f h e = on_same (arrived proc out) (λ end. ends_block proc end && f (progress_of out)) (λ end. ends_block proc end && h (progress_of out)) (λ end. ap (λ (x : Bool). ends_block proc end && x) e)

pub block_is : (start : Start) (t : Target) (k : Kept) → IsTarget start.program.now t k → (values : List Value) (at : ℕ) (b : Begun)
    → block_loses start k b (other_at k values at) ≡ block_fails start.program.now start.step start.proc.now start.number start.cut b t values at
block_is start t k e values at b =
    ap₂ (λ (ps : List (List ℕ)) (x : Bool). assumed start.program.now start.step start.proc.now start.number start.cut b && (pairwise_disjoint (owned start.program.now start.proc.now start.number b ++ ps) && x)) (owned_same start.program.now t k e values at)
    (end_same start.proc.now (outcome_from start b) (λ p. is_lost start.program.now start.step k (other_at k values at) b.old p.store) (λ p. target_lost start.program.now start.step t values at b.old p.store) (lost_same start.program.now start.step t k e values at b.old (progress_of (outcome_from start b)).store))

-- ---- what it weighs

pub weighs_block : (rank : Bool) (old lost apart given id kept ends reached together base : ℕ) → lost ≤ old + kept + 4 * ends + 1 → ends ≡ reached → apart ≤ lost + together → given + (if rank then 0 else 2) ≤ apart + 4 * base → id ≤ given + 1
    → id ≤ old + 4 * base + kept + 4 * reached + together + (if rank then 2 else 0)
weighs_block true old lost apart given id kept ends reached together base p e q r s = omega (arith, p, e, q, r, s)
weighs_block false old lost apart given id kept ends reached together base p e q r s = omega (arith, p, e, q, r, s)
