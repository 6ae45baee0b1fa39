-- From decided formulas to verdicts.
use Rattle.std.specs.Prelude.{slice_get, get_or, ◌&&◌}
use Rattle.std.proofs.Common.{◌≡◌, ◌∙◌, ℕ, ◌+◌, ◌<◌, ◌≤◌, Bool, true, false, List, length, refl, sym, ap, subst, arith, inl, inr, Some}
use Rattle.std.proofs.lemmas.Bool.{false≢true, cases_lt, and_parts as both}
use Rattle.std.proofs.lemmas.Option.{slice_get_read, slice_get-get_or, same_Some}
use Rattle.civl_bits.specs.declared.value.Value.{Value}
use Rattle.civl_tree.specs.declared.program.Program.{Program}
use Rattle.civl_firing.specs.declared.store.Store.{Store}
use Rattle.civl_meaning.specs.Initial.{IsInitial}
use Rattle.civl_conditions.specs.declared.condition.Condition.{Condition}
use Rattle.civl_conditions.specs.Listed.{conditions}
use Rattle.civl_conditions.specs.Violated.{Violates, Holds, AllHold}
use Rattle.civl_verdicts.specs.Formulas.{initial_formula, violation_formula}
use Rattle.civl_verdicts.specs.Verdicts.{HasInitial, IsReached}
use Rattle.civl_verdicts.specs.decisions.Decided.{IsDecided}
use Rattle.civl_verdicts.specs.declared.decisions.decision.Decision.TheVariants.{Never, At}

-- ---- the initial store

pub found_initial : (program : Program) (budget : ℕ) (values : List Value) → IsDecided budget (initial_formula program) (At values) → HasInitial program
found_initial program budget values h =
    let b = both _ _ h.1 in
    (record { values = values }, record { store_fits = h.0; init_holds = b.0; disjoint = b.1 })

pub no_initial : (program : Program) (budget : ℕ) → IsDecided budget (initial_formula program) Never → (store : Store) → IsInitial program store → ⊥
no_initial program budget h store i = false≢true (sym (h store.values i.store_fits) ∙ both_true _ _ i.init_holds i.disjoint)
  where
    both_true : (a b : Bool) → a ≡ true → b ≡ true → (a && b) ≡ true
    both_true true b p q = q
    both_true false b p q = absurd (false≢true p)

-- ---- the conditions before a place hold

abbrev pub HoldBefore : Program → ℕ → Type 0
HoldBefore program place = (i : ℕ) (c : Condition) → i < place → slice_get (conditions program) i ≡ Some c → Holds program c

pub none_before : (program : Program) → HoldBefore program 0
none_before program i c l e = absurd (omega arith)

pub one_more : (program : Program) (place : ℕ) (c : Condition) → HoldBefore program place → slice_get (conditions program) place ≡ Some c → Holds program c → HoldBefore program (place + 1)
one_more program place c before here holds i d l e = elim (cases_lt i place) [
  | inl low ↦ before i d low e
  | inr high ↦
      let same : i ≡ place = omega arith in
      subst (Holds program) (same_Some c d (sym here ∙ ap (slice_get (conditions program)) (sym same) ∙ e)) holds
]

pub all_hold : (program : Program) (place : ℕ) → HoldBefore program place → length (conditions program) ≤ place → AllHold program
all_hold program place before past c listed =
    before listed.0 c (let l = listed.1 in omega (arith, l, past)) (slice_get_read (conditions program) (length (conditions program)) listed.0 c refl listed.1 (sym listed.2))

-- ---- the condition at a place of the list

pub here_in : (program : Program) (list : List Condition) (i : ℕ) (d : Condition) → list ≡ conditions program → i < length list → slice_get (conditions program) i ≡ Some (get_or list i d)
here_in program list i d e l = ap (λ (cs : List Condition). slice_get cs i) (sym e) ∙ slice_get-get_or list i d l

pub reached : (program : Program) (list : List Condition) (i : ℕ) (d : Condition) → HasInitial program → list ≡ conditions program → i < length list → HoldBefore program i → IsReached program (get_or list i d) i
reached program list i d initial e l before = record { initial = initial; there = here_in program list i d e l; before = before }

pub violates : (program : Program) (budget : ℕ) (c : Condition) (values : List Value) → IsDecided budget (violation_formula program c) (At values) → Violates program c values
violates program budget c values h = record { fit = h.0; fail = h.1 }
