-- K9 at the values of all its variables.
use Rattle.std.specs.Prelude.{if◌then◌else◌, map, slice_get}
use Rattle.std.specs.List.{Contains}
use Rattle.std.specs.Option.{option_map_or}
use Rattle.std.proofs.Common.{◌≡◌, ◌∙◌, ℕ, ◌+◌, ◌-◌, ◌*◌, ◌≤◌, Bool, true, false, List, [], refl, sym, ap, ap₂, subst, arith, Some}
use Rattle.civl_bits.specs.declared.value.Value.{Value}
use Rattle.civl_bits.specs.declared.value.Value.TheVariants as value
use Rattle.civl_tree.specs.declared.expr.Sort.{Sort}
use Rattle.civl_tree.specs.declared.program.Refines.{Refines}
use Rattle.civl_tree.specs.declared.program.Proc.{Proc}
use Rattle.civl_tree.specs.declared.program.Program.{Program}
use Rattle.civl_layers.specs.declared.cut.Cut.{Cut}
use Rattle.civl_layers.specs.Cuts.{proc_cuts}
use Rattle.civl_meaning.specs.Layers.{program_at}
use Rattle.civl_conditions.specs.paths.Ends.{ends_from}
use Rattle.civl_moves.proofs.sweeps.Arriving.{paths_arrive_at_ends}
use Rattle.civl_terms.specs.declared.node.Node.{Node}
use Rattle.civl_conditions.specs.declared.condition.Part.{Part}
use Rattle.civl_conditions.specs.declared.condition.Condition.TheVariants.{Path}
use Rattle.civl_conditions.specs.Steps.{of_cut}
use Rattle.civl_conditions.specs.Values.{Begun, begun}
use Rattle.civl_conditions.specs.Variables.{path_variables, variables}
use Rattle.civl_conditions.specs.Parts.{path_fails}
use Rattle.civl_conditions.specs.Violated.{violated}
use Rattle.civl_conditions.specs.Weights.{bits_of_variables, path_weight, weight}
use Rattle.civl_states.specs.Formulas.{IsFormula, sorts_of}
use Rattle.civl_states.proofs.Variables.{there_is}
use Rattle.civl_refine.specs.declared.start.Start.{Start}
use Rattle.civl_refine.specs.Failing.{ArrivesAmong}
use Rattle.civl_refine.specs.Walked.{StartsAt, outcome_from, sorts_from}

-- where a path arrives is one of the ends
pub arrives_among : (start : Start) (b : Begun) (refines : Refines) → start.proc.now.refines ≡ Some refines → (ends : List ℕ) → ends ≡ ends_from start.proc.now start.cut → ArrivesAmong start.proc.now ends (outcome_from start b)
arrives_among start b refines e ends same = λ end a.
    subst (λ (es : List ℕ). Contains es end) (sym same)
    (paths_arrive_at_ends (record { plain = program_at start.program.now (start.step - 1); proc = start.proc.now; chosen = b.chosen }) start.cut (record { store = b.store; locals = b.locals; done = b.done; again = false }) refines end e a)

-- ---- a formula said otherwise

pub formula_as : (ns : List Node) (id : ℕ) (ss ts : List Sort) (f g : List Value → Bool) → IsFormula ns id ss f → ss ≡ ts → ((values : List Value) → f values ≡ g values) → IsFormula ns id ts g
formula_as ns id ss ts f g h e same =
    let there : IsFormula ns id ts f = subst (λ (us : List Sort). IsFormula ns id us f) e h in
    record { sorted = there.sorted; variables = there.variables; is = λ values fit. there.is values fit ∙ ap (λ (b : Bool). value.Bool b) (same values) }

-- ---- the cut with the condition's numbers

pub cut_there : {A : Type 0} (program : Program) (q c : ℕ) (proc : Proc) (cut : Cut) (none : A) (f : Proc → Cut → A) → slice_get program.procs q ≡ Some proc → slice_get (proc_cuts proc) c ≡ Some cut → of_cut program q c none f ≡ f proc cut
cut_there program q c proc cut none f p e =
    there_is (slice_get program.procs q) proc none (λ r. option_map_or (f r) (slice_get (proc_cuts r) c) none) p ∙ there_is (slice_get (proc_cuts proc) c) cut none (f proc) e

same_three : {A B C D : Type 0} (f : A → B → C → D) (a x : A) (b y : B) (c z : C) → a ≡ x → b ≡ y → c ≡ z → f a b c ≡ f x y z
same_three f a x b y c z p q r = ap (λ u. f u b c) p ∙ (ap (λ u. f x u c) q ∙ ap (λ u. f x y u) r)

module _ (program : Program) (step q c : ℕ) (start : Start) (at : StartsAt program step q c start) where
  -- what is said of the program, the step and the cut's number
  pub start_same : {A : Type 0} (f : Program → ℕ → ℕ → A) → f start.program.now start.step start.number ≡ f program step c
  start_same f = same_three f start.program.now program start.step step start.number c at.of at.at at.place

  pub from_same : sorts_from start ≡ map (λ v. v.sort) (of_cut program q c [] (path_variables program step))
  from_same =
      start_same (λ p k n. map (λ v. v.sort) (path_variables p k start.proc.now start.cut))
      ∙ ap (map (λ v. v.sort)) (sym (cut_there program q c start.proc.now start.cut [] (path_variables program step) at.proc at.cut))

  pub bits_same : bits_of_variables (path_variables start.program.now start.step start.proc.now start.cut) ≡ bits_of_variables (of_cut program q c [] (path_variables program step))
  bits_same =
      start_same (λ p k n. bits_of_variables (path_variables p k start.proc.now start.cut))
      ∙ ap bits_of_variables (sym (cut_there program q c start.proc.now start.cut [] (path_variables program step) at.proc at.cut))

  module _ (part : Part) where
    pub path_from_same : sorts_from start ≡ sorts_of program (Path part step q c)
    unfolding variables
    path_from_same = from_same

    pub path_is : (values : List Value) → path_fails start.program.now start.step part start.proc.now start.number start.cut (begun start.program.now start.step start.proc.now start.cut values) ≡ violated program (Path part step q c) values
    unfolding violated
    path_is values =
        start_same (λ p k n. path_fails p k part start.proc.now n start.cut (begun p k start.proc.now start.cut values))
        ∙ sym (cut_there program q c start.proc.now start.cut false (λ proc cut. path_fails program step part proc c cut (begun program step proc cut values)) at.proc at.cut)

    pub path_weighs : bits_of_variables (path_variables start.program.now start.step start.proc.now start.cut) + path_weight start.program.now start.step part start.proc.now start.number start.cut ≡ weight program (Path part step q c)
    unfolding weight variables
    path_weighs =
        ap₂ (λ (n m : ℕ). n + m) bits_same
        (start_same (λ p k n. path_weight p k part start.proc.now n start.cut)
        ∙ sym (cut_there program q c start.proc.now start.cut 0 (λ proc cut. path_weight program step part proc c cut) at.proc at.cut))

-- ---- what it weighs

pub weighs_path : (rank : Bool) (old mid new bits passed base ends : ℕ) → (rank ≡ true → 1 ≤ bits) → mid ≤ old + bits + 4 * passed → new ≤ mid + 4 * base + 4 * ends + (if rank then 2 else 0) → new ≤ old + 4 * (bits + (base + passed + ends))
weighs_path true old mid new bits passed base ends some m n = omega (arith, some refl, m, n)
weighs_path false old mid new bits passed base ends some m n = omega (arith, m, n)
