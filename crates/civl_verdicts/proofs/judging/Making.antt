-- The term that was made is the formula's, and a formula that isn't heavy has few variables.
use Rattle.std.specs.Prelude.{IsTrue, All, map}
use Rattle.std.proofs.Common.{◌≡◌, ◌∙◌, ℕ, ◌+◌, ◌^◌, ◌<◌, ◌≤◌, List, [], ◌∷◌, length, refl, sym, ap, arith}
use Rattle.std.proofs.lemmas.List.Elements.{All-head, All-tail}
use Rattle.civl_tree.specs.declared.expr.Sort.{Sort}
use Rattle.civl_tree.specs.declared.program.Global.{Global}
use Rattle.civl_tree.specs.declared.program.Program.{Program}
use Rattle.civl_tree.specs.rules.StoreSize.{bits_of}
use Rattle.civl_firing.specs.values.Values.{is_sort}
use Rattle.civl_conditions.specs.declared.condition.Condition.{Condition}
use Rattle.civl_conditions.specs.declared.condition.Variable.{Variable}
use Rattle.civl_conditions.specs.Variables.{variables, of_globals}
use Rattle.civl_conditions.specs.Weights.{summed, bits_of_variables, weight, initial_weight, weight_limit}
use Rattle.civl_states.proofs.Weighing.{bits_some}
use Rattle.civl_verdicts.specs.Formulas.{Formula, initial_formula, violation_formula}
use Rattle.civl_verdicts.specs.decisions.Decided.{IsTermOf}
use Rattle.civl_verdicts.specs.declared.judging.formula.Made.{Made}
use Rattle.civl_verdicts.specs.judging.Made.{IsMade}

pub made_term : (formula : Formula) (made : Made) (sorts : List Sort) → IsMade formula made → sorts ≡ made.sorts → IsTermOf made.terms made.id sorts formula
made_term formula made sorts h e = record { same = sym (e ∙ h.sorts); term = h.term; weighs = h.weighs }

-- there are no more variables than bits
pub few_sorts : (ss : List Sort) → All (λ s. IsTrue (is_sort s)) ss → length ss ≤ summed (map bits_of ss)
few_sorts [] h = omega arith
few_sorts (s ∷ ss) h =
    let In : Sort → Type 0 = λ t. IsTrue (is_sort t) in
    omega (arith, bits_some s (All-head In s ss h), few_sorts ss (All-tail In s ss h))

pub bits_are : (vs : List Variable) → summed (map bits_of (map (λ v. v.sort) vs)) ≡ bits_of_variables vs
bits_are [] = refl
bits_are (v ∷ vs) = ap (λ (n : ℕ). bits_of v.sort + n) (bits_are vs)

pub few_of_violation : (program : Program) (condition : Condition) (made : Made) (sorts : List Sort) → IsMade (violation_formula program condition) made → sorts ≡ made.sorts → weight program condition ≤ weight_limit → length sorts < 2 ^ 31
unfolding weight
few_of_violation program condition made sorts h e light =
    let few = few_sorts made.sorts h.limits in
    let bits = ap (λ (ss : List Sort). summed (map bits_of ss)) h.sorts ∙ bits_are (variables program condition) in
    omega (arith, few, bits, light, ap length e)

global_sorts : (gs : List Global) → map (λ g. g.sort) gs ≡ map (λ v. v.sort) (of_globals [] gs)
global_sorts [] = refl
global_sorts (g ∷ gs) = ap (λ (ss : List Sort). g.sort ∷ ss) (global_sorts gs)

pub few_of_initial : (program : Program) (made : Made) (sorts : List Sort) → IsMade (initial_formula program) made → sorts ≡ made.sorts → initial_weight program ≤ weight_limit → length sorts < 2 ^ 31
unfolding initial_weight
few_of_initial program made sorts h e light =
    let few = few_sorts made.sorts h.limits in
    let bits : summed (map bits_of made.sorts) ≡ bits_of_variables (of_globals [] program.globals) = ap (λ (ss : List Sort). summed (map bits_of ss)) (h.sorts ∙ global_sorts program.globals) ∙ bits_are (of_globals [] program.globals) in
    omega (arith, few, bits, light, ap length e)
