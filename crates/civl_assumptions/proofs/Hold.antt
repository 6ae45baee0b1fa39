-- When pieces of what is told are so.
use Rattle.std.proofs.Common.{◌≡◌, ◌∙◌, ℕ, suc, ◌+◌, ◌≤◌, Bool, true, false, not, ◌&&◌, ◌||◌, if◌then◌else◌, cond, List, [], ◌∷◌, ◌++◌, map, length, refl, sym, ap, arith}
use Rattle.std.specs.Prelude.{Option, None, Some, filter, nat_eq, nat_lt, slice_get}
use Rattle.std.specs.List.{list_all}
use Rattle.std.specs.Option.{option_map_or}
use Rattle.std.proofs.lemmas.Bool.{ltb-true}
use Rattle.std.proofs.lemmas.Option.{slice_get_past}
use Rattle.civl_bits.specs.declared.value.Value.{Value}
use Rattle.civl_tree.specs.declared.action.Action.{Action}
use Rattle.civl_tree.specs.declared.program.Invariant.{Invariant as Declared}
use Rattle.civl_tree.specs.declared.program.Proc.{Proc}
use Rattle.civl_tree.specs.declared.program.Program.{Program}
use Rattle.civl_tree.specs.declared.program.Refines.{Refines}
use Rattle.civl_tree.specs.rules.Names.{action_named}
use Rattle.civl_firing.specs.declared.scope.Scope.{Scope}
use Rattle.civl_firing.specs.declared.store.Store.{Store}
use Rattle.civl_firing.specs.Fired.{gate_holds}
use Rattle.civl_firing.specs.Truth.{place_of}
use Rattle.civl_firing.proofs.Finding.{found_at}
use Rattle.civl_meaning.specs.Meaning.{meaning_of_action, refined}
use Rattle.civl_meaning.specs.Permissions.{pairwise_disjoint}
use Rattle.civl_layers.specs.declared.cut.Cut.{Cut}
use Rattle.civl_layers.specs.declared.cut.CutKind.{CutKind}
use Rattle.civl_layers.specs.declared.cut.CutKind.TheVariants.{Entry, Yield, YieldLoop, RankLoop}
use Rattle.civl_layers.specs.Cuts.{proc_cuts}
use Rattle.civl_conditions.specs.declared.condition.Target.{Target}
use Rattle.civl_conditions.specs.declared.condition.Target.TheVariants as target
use Rattle.civl_conditions.specs.paths.Choices.{action_meant}
use Rattle.civl_conditions.specs.paths.Ends.{is_entry}
use Rattle.civl_conditions.specs.paths.NoteValues.{note_values, steady_note_values}
use Rattle.civl_conditions.specs.Assumed.{cut_invariant, inputs_of, note_holds, refined_action, refined_gate}
use Rattle.civl_conditions.specs.Invariants.{holds_of_globals, invariants_hold}
use Rattle.civl_conditions.specs.Steps.{each_at, of_action}
use Rattle.civl_conditions.specs.Targets.{other_of, yield_holds}
use Rattle.civl_conditions.specs.Values.{Begun}
use Rattle.civl_assumptions.specs.Assumptions.{Assumption, Invariant, Said, SaidElsewhere, Gate, NoGate, Apart, holds}
use Rattle.civl_assumptions.specs.Assumptions.{apart_of, if_of_step, of_invariants, of_target_before, refined_gate_of, refined_number, said_at, said_by_other}
use Rattle.civl_assumptions.specs.Laws.{holds_before}
use Rattle.civl_assumptions.proofs.Few.{carriers, few}

pub and_true : (a : Bool) → (a && true) ≡ a
and_true true = refl
and_true false = refl

module _ (program : Program) where
  abbrev pub all_so : List Assumption → Bool
  all_so = list_all (holds program)

  -- ---- permissions

  pub apart_is : (item words : ℕ) (names lists : List (List ℕ)) → carriers lists ≤ length names
      → all_so (apart_of item words names lists) ≡ pairwise_disjoint lists
  apart_is item words names lists fewer = go (nat_lt (length names) 2) refl
    where
      go : (b : Bool) → nat_lt (length names) 2 ≡ b
          → all_so (if b then [] else Apart item words names lists ∷ []) ≡ pairwise_disjoint lists
      go true e = let below = ltb-true (length names) 2 e in sym (few lists (omega (arith, below, fewer)))
      go false e = and_true (pairwise_disjoint lists)

  -- ---- gates

  module _ (m : ℕ) (a : Action) (there : slice_get program.actions m ≡ Some a) (g : Store) (inputs : List Value) where
    pub gate_is : holds program (Gate m g inputs) ≡ gate_holds program.globals g a inputs
    gate_is = ap (λ (o : Option Action). option_map_or (λ b. gate_holds program.globals g b inputs) o false) there

    pub no_gate_is : holds program (NoGate m g inputs) ≡ not (gate_holds program.globals g a inputs)
    no_gate_is = ap (λ (o : Option Action). option_map_or (λ b. not (gate_holds program.globals g b inputs)) o false) there

  -- ---- invariants

  module _ (step : ℕ) (g : Store) where
    abbrev test : Declared → Bool
    test i = nat_eq i.step step

    abbrev Stand : ℕ → List Declared → Type 0
    Stand at xs = (n : ℕ) (x : Declared) → slice_get xs n ≡ Some x → slice_get program.invariants (at + n) ≡ Some x

    stand_behind : (at : ℕ) (x : Declared) (xs : List Declared) → Stand at (x ∷ xs) → Stand (at + 1) xs
    stand_behind at x xs h = λ n y e.
        let here : (at + 1) + n ≡ at + suc n = omega arith in
        ap (slice_get program.invariants) here ∙ h (suc n) y e

    one_is : (at : ℕ) (x : Declared) → slice_get program.invariants at ≡ Some x → (b : Bool) (rest : List Assumption) (xs : List Declared)
        → all_so rest ≡ list_all (holds_of_globals program g) (map (λ i. i.expr) xs)
        → all_so ((if b then Invariant at g ∷ [] else []) ++ rest) ≡ list_all (holds_of_globals program g) (map (λ i. i.expr) (cond b (x ∷ xs) xs))
    one_is at x there true rest xs h =
        let here : holds program (Invariant at g) ≡ holds_of_globals program g x.expr =
        ap (λ (o : Option Declared). option_map_or (λ i. holds_of_globals program g i.expr) o false) there in
        ap (λ (b : Bool). b && all_so rest) here ∙ ap (λ (b : Bool). holds_of_globals program g x.expr && b) h
    one_is at x there false rest xs h = h

    each_is : (at : ℕ) (xs : List Declared) → Stand at xs
        → all_so (each_at (if_of_step step g) at xs) ≡ list_all (holds_of_globals program g) (map (λ i. i.expr) (filter test xs))
    each_is at [] h = refl
    each_is at (x ∷ xs) h =
        let here : at ≡ at + 0 = omega arith in
        one_is at x (ap (slice_get program.invariants) here ∙ h 0 x refl) (test x) (each_at (if_of_step step g) (at + 1) xs) (filter test xs)
        (each_is (at + 1) xs (stand_behind at x xs h))

    pub invariants_are : all_so (of_invariants program step g) ≡ invariants_hold program step g
    invariants_are =
        each_is 0 program.invariants (λ n x e. let none : 0 + n ≡ n = omega arith in ap (slice_get program.invariants) none ∙ e)

  -- ---- cuts

  module _ (q : ℕ) (proc : Proc) (there : slice_get program.procs q ≡ Some proc) (scope : Scope) where
    said_here : (cut : Cut) → (holds program (Said q cut scope) && true) ≡ note_holds scope (cut_invariant proc cut)
    said_here cut =
        and_true (holds program (Said q cut scope))
        ∙ ap (λ (o : Option Proc). option_map_or (λ p. note_holds scope (cut_invariant p cut)) o false) there

    said_by : (statement : ℕ) (kind : CutKind)
        → all_so (if is_entry kind then [] else Said q (record { statement = statement; kind = kind }) scope ∷ [])
        ≡ note_holds scope (cut_invariant proc (record { statement = statement; kind = kind }))
    said_by statement Entry = refl
    said_by statement Yield = said_here (record { statement = statement; kind = Yield })
    said_by statement YieldLoop = said_here (record { statement = statement; kind = YieldLoop })
    said_by statement RankLoop = said_here (record { statement = statement; kind = RankLoop })

    elsewhere_here : (cut : Cut) → (holds program (SaidElsewhere q cut scope) && true) ≡ note_holds scope (cut_invariant proc cut)
    elsewhere_here cut =
        and_true (holds program (SaidElsewhere q cut scope))
        ∙ ap (λ (o : Option Proc). option_map_or (λ p. note_holds scope (cut_invariant p cut)) o false) there

    elsewhere_by : (statement : ℕ) (kind : CutKind)
        → all_so (if is_entry kind then [] else SaidElsewhere q (record { statement = statement; kind = kind }) scope ∷ [])
        ≡ note_holds scope (cut_invariant proc (record { statement = statement; kind = kind }))
    elsewhere_by statement Entry = refl
    elsewhere_by statement Yield = elsewhere_here (record { statement = statement; kind = Yield })
    elsewhere_by statement YieldLoop = elsewhere_here (record { statement = statement; kind = YieldLoop })
    elsewhere_by statement RankLoop = elsewhere_here (record { statement = statement; kind = RankLoop })

  abbrev note : Proc → Begun → Scope
  note proc b = note_values program.globals proc b.store b.locals b.done b.old b.old_outs b.old_done

  pub said_is : (q : ℕ) (proc : Proc) (cut : Cut) (b : Begun) → slice_get program.procs q ≡ Some proc
      → all_so (said_at program q proc cut b) ≡ note_holds (note proc b) (cut_invariant proc cut)
  said_is q proc cut b there = said_by q proc there (note proc b) cut.statement cut.kind

  -- ---- the refined action

  meant_is : (o : Option Action) → action_meant (meaning_of_action o) ≡ o
  meant_is None = refl
  meant_is (Some a) = refl

  refined_is : (r : Option Refines)
      → slice_get program.actions (option_map_or (λ r. place_of (map (λ a. a.name) program.actions) r.action) r (length program.actions))
      ≡ action_meant (refined program r)
  refined_is None = slice_get_past program.actions (length program.actions) (omega arith)
  refined_is (Some r) = found_at (λ (a : Action). a.name) program.actions r.action ∙ sym (meant_is (action_named program r.action))

  module _ (proc : Proc) (b : Begun) where
    abbrev gate_for : Option Action → Bool
    gate_for o = option_map_or (λ a. gate_holds program.globals b.old a (inputs_of proc b.locals)) o false

    pub refined_gate_is : all_so (refined_gate_of program proc b) ≡ (b.old_done || refined_gate program proc b)
    refined_gate_is =
        elim b.old_done as (λ d. all_so (if d then [] else Gate (refined_number program proc) b.old (inputs_of proc b.locals) ∷ [])
        ≡ (d || refined_gate program proc b)) [
          | true ↦ refl
          | false ↦ and_true (gate_for (slice_get program.actions (refined_number program proc))) ∙ ap gate_for (refined_is proc.refines)
        ]

  -- ---- another thread

  module _ (r : ℕ) (values : List Value) (at : ℕ) (g : Store) where
    abbrev other_note : Proc → Scope
    other_note proc = steady_note_values program.globals proc g (other_of proc values at).locals (other_of proc values at).done

    cut_said : (proc : Proc) → slice_get program.procs r ≡ Some proc → (o : Option Cut)
        → all_so (option_map_or (said_by_other program r values at g proc) o [])
        ≡ option_map_or (λ cut. yield_holds program proc cut (other_of proc values at) g) o true
    cut_said proc there None = refl
    cut_said proc there (Some cut) = elsewhere_by r proc there (other_note proc) cut.statement cut.kind

    proc_said : (y : ℕ) (o : Option Proc) → slice_get program.procs r ≡ o
        → all_so (option_map_or (λ proc. option_map_or (said_by_other program r values at g proc) (slice_get (proc_cuts proc) y) []) o [])
        ≡ option_map_or (λ proc. option_map_or (λ cut. yield_holds program proc cut (other_of proc values at) g) (slice_get (proc_cuts proc) y) true) o true
    proc_said y None e = refl
    proc_said y (Some proc) e = cut_said proc e (slice_get (proc_cuts proc) y)

  pub before_is : (aim : Target) (values : List Value) (at : ℕ) (g : Store)
      → all_so (of_target_before program aim values at g) ≡ holds_before program aim values at g
  before_is (target.Invariant i) values at g = refl
  before_is (target.Yield r y) values at g = proc_said r values at g y (slice_get program.procs r) refl
