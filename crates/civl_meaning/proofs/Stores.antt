-- Initial stores of worked programs.
use Rattle.std.proofs.Common.{◌≡◌, false, [], ◌∷◌, refl, arith, sym, ◌∙◌, ap}
use Rattle.std.proofs.lemmas.Bool.{false≢true}
use Rattle.std.proofs.lemmas.List.Elements.{All-nil, All-cons}
use Rattle.civl_bits.specs.Value.{IsValue}
use Rattle.civl_bits.specs.declared.value.Value.{Value}
use Rattle.civl_tree.specs.declared.expr.Expr as expr
use Rattle.civl_tree.specs.declared.expr.Expr.{the_lemmas as of_expr}
use Rattle.civl_tree.specs.declared.program.Program.{Program}
use Rattle.civl_firing.specs.declared.store.Store.{Store}
use Rattle.civl_firing.specs.values.Values.{is_true}
use Rattle.civl_firing.specs.Eval.{value_of}
use Rattle.civl_firing.specs.Scope.{global_values}
use Rattle.civl_meaning.specs.Permissions.{pairwise_disjoint}
use Rattle.civl_meaning.specs.Initial.{IsInitial, initial_permissions}
use Rattle.civl_firing.specs.examples.Written.{word, bool, holding}
use Rattle.civl_meaning.specs.examples.Pool.{pooled, empty_pool, EmptyPoolIsInitial, OtherPoolsAreNot, ThirteenIsInitial, TwoIsNot, PoolCarriesItsBits}
use Rattle.civl_meaning.specs.examples.Spinlock.{spinlock, TwoThreadsAreInitial, OneNumberTwice}

-- a store is not initial where permissions meet, or where `init` does not hold
overlap : (program : Program) (store : Store) → pairwise_disjoint (initial_permissions program store) ≡ false → IsInitial program store → ⊥
overlap program store e h = false≢true (sym e ∙ h.disjoint)

not_so : (program : Program) (store : Store) → is_true (value_of (global_values program.globals store) program.init) ≡ false → IsInitial program store → ⊥
not_so program store e h = false≢true (sym e ∙ h.init_holds)

empty_carries : initial_permissions empty_pool (holding (word 4 0 ∷ [])) ≡ [] ∷ (1 ∷ []) ∷ []
empty_carries = simp (of_expr)

pub empty_pool_is_initial : EmptyPoolIsInitial
empty_pool_is_initial = record {
  store_fits = record { fit = All-cons IsValue (word 4 0) [] (record { narrow = omega arith; wide = omega arith; fits = omega arith }) (All-nil IsValue); are = refl };
  init_holds = simp (of_expr);
  disjoint = ap pairwise_disjoint empty_carries;
}

pub other_pools_are_not : OtherPoolsAreNot
other_pools_are_not = (
  not_so empty_pool (holding (word 4 1 ∷ [])) (simp (of_expr)),
  λ h. false≢true h.store_fits.are,
  λ h. false≢true h.store_fits.are,
)

pub pool_carries_its_bits : PoolCarriesItsBits
pool_carries_its_bits = simp (of_expr)

pub thirteen_is_initial : ThirteenIsInitial
thirteen_is_initial = record {
  store_fits = record { fit = All-cons IsValue (word 4 13) [] (record { narrow = omega arith; wide = omega arith; fits = omega arith }) (All-nil IsValue); are = refl };
  init_holds = simp (of_expr);
  disjoint = ap pairwise_disjoint pool_carries_its_bits;
}

two_carries : initial_permissions (pooled expr.True) (holding (word 4 2 ∷ [])) ≡ (1 ∷ []) ∷ (1 ∷ []) ∷ []
two_carries = simp (of_expr)

pub two_is_not : TwoIsNot
two_is_not = overlap (pooled expr.True) (holding (word 4 2 ∷ [])) (ap pairwise_disjoint two_carries)

one_and_two : initial_permissions (spinlock 1 2) (holding (bool false ∷ word 2 0 ∷ word 8 0 ∷ [])) ≡ (1 ∷ []) ∷ (2 ∷ []) ∷ []
one_and_two = simp (of_expr)

pub two_threads_are_initial : TwoThreadsAreInitial
two_threads_are_initial = record {
  store_fits = record {
    fit =
        All-cons IsValue (bool false) (word 2 0 ∷ word 8 0 ∷ []) tt (
        All-cons IsValue (word 2 0) (word 8 0 ∷ []) (record { narrow = omega arith; wide = omega arith; fits = omega arith }) (
        All-cons IsValue (word 8 0) [] (record { narrow = omega arith; wide = omega arith; fits = omega arith }) (All-nil IsValue)));
    are = refl;
  };
  init_holds = simp (of_expr);
  disjoint = ap pairwise_disjoint one_and_two;
}

one_twice : (b lock x : Value) → initial_permissions (spinlock 1 1) (holding (b ∷ lock ∷ x ∷ [])) ≡ (1 ∷ []) ∷ (1 ∷ []) ∷ []
one_twice b lock x = simp (of_expr)

pub one_number_twice : OneNumberTwice
one_number_twice b lock x = overlap (spinlock 1 1) (holding (b ∷ lock ∷ x ∷ [])) (ap pairwise_disjoint (one_twice b lock x))
