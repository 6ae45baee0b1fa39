-- The sorts of a condition's variables are within the limits.
use Rattle.std.specs.Prelude.{map, IsTrue, All}
use Rattle.std.proofs.Common.{ℕ, List, [], ◌∷◌, refl}
use Rattle.std.proofs.lemmas.List.Elements.{All-nil, All-cons, All-head, All-tail, All-map}
use Rattle.civl_tree.specs.declared.name.Name.{Name}
use Rattle.civl_tree.specs.declared.expr.Sort.{Sort}
use Rattle.civl_tree.specs.declared.program.Program.{Program}
use Rattle.civl_tree.specs.rules.Rules.{Keeps}
use Rattle.civl_tree.specs.rules.Typing.{typing_rules}
use Rattle.civl_firing.specs.values.Values.{is_sort}
use Rattle.civl_conditions.specs.declared.condition.Variable.{Variable}
use Rattle.civl_conditions.specs.Variables.{variables, variable}
use Rattle.civl_states.proofs.Limits.{AreSorts, global_sorts_are, param_sorts_are, choice_sorts_are, proc_param_sorts_are, proc_out_sorts_are, local_sorts_are}
use Rattle.civl_verdicts.specs.findings.Laws.{VariablesHaveSorts}
use Rattle.civl_verdicts.proofs.findings.Each.{HoldsOfAll, each_variable}

abbrev pub IsGood : Variable → Type 0
IsGood v = IsTrue (is_sort v.sort)

-- from the sorts of declarations to their variables
pub of_sorts : {A : Type 0} (name : A → Name) (sort : A → Sort) (front : List ℕ) (xs : List A) → AreSorts (map sort xs) → All IsGood (map (λ x. variable front (name x) (sort x)) xs)
of_sorts name sort front [] p = All-nil IsGood
of_sorts name sort front (x ∷ xs) p =
    let In : Sort → Type 0 = λ s. IsTrue (is_sort s) in
    All-cons IsGood (variable front (name x) (sort x)) _ (All-head In (sort x) (map sort xs) p) (of_sorts name sort front xs (All-tail In (sort x) (map sort xs) p))

-- and to the declarations themselves
pub each_of : {A : Type 0} (sort : A → Sort) (xs : List A) → AreSorts (map sort xs) → All (λ x. IsTrue (is_sort (sort x))) xs
each_of sort [] p = All-nil (λ x. IsTrue (is_sort (sort x)))
each_of sort (x ∷ xs) p =
    let In : Sort → Type 0 = λ s. IsTrue (is_sort s) in
    All-cons (λ y. IsTrue (is_sort (sort y))) x xs (All-head In (sort x) (map sort xs) p) (each_of sort xs (All-tail In (sort x) (map sort xs) p))

module _ (program : Program) (keeps : Keeps typing_rules program) where
  all_good : HoldsOfAll program (λ front. Unit {0}) IsGood
  all_good = record {
    none = tt;
    old = tt;
    first = tt;
    second = tt;
    other = tt;
    call = λ n. tt;
    globals = λ front f. each_of (λ g. g.sort) program.globals (global_sorts_are program keeps);
    params = λ front f x a at. of_sorts (λ p. p.name) (λ p. p.sort) front a.params (param_sorts_are program keeps x a at);
    choices = λ front f x a at. of_sorts (λ c. c.name) (λ c. c.sort) front a.choices (choice_sorts_are program keeps x a at);
    inputs = λ front f q proc at. of_sorts (λ p. p.name) (λ p. p.sort) front proc.params (proc_param_sorts_are program keeps q proc at);
    outs = λ front f q proc at. of_sorts (λ p. p.name) (λ p. p.sort) front proc.outs (proc_out_sorts_are program keeps q proc at);
    locals = λ front f q proc at. of_sorts (λ l. l.name) (λ l. l.sort) front proc.locals (local_sorts_are program keeps q proc at);
    done = refl;
    old_done = refl;
    other_done = refl;
  }

pub variables_have_sorts : VariablesHaveSorts
variables_have_sorts program condition keeps =
    All-map (λ (s : Sort). IsTrue (is_sort s)) (λ (v : Variable). v.sort) (variables program condition) (each_variable program (λ front. Unit {0}) IsGood (all_good program keeps) condition)
