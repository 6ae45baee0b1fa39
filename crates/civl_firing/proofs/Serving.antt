-- What serves where a sort is needed.
use Rattle.std.proofs.Common.{◌≡◌, true, Option, Some, None, refl, ap}
use Rattle.std.specs.Prelude.{IsSome}
use Rattle.std.proofs.lemmas.Bool.{false≢true}
use Rattle.civl_tree.specs.declared.expr.Sort.{Sort}
use Rattle.civl_tree.specs.rules.Uses.{Need, Only, serves}
use Rattle.civl_firing.proofs.values.Sorting.{same_sort-true}

pub served_only : (o : Option Sort) (s : Sort) → serves o (Only s) ≡ true → o ≡ Some s
served_only None s e = absurd (false≢true e)
served_only (Some t) s e = ap (λ (r : Sort). Some r) (same_sort-true t s e)

pub served_some : (o : Option Sort) (n : Need) → serves o n ≡ true → IsSome o
served_some None n e = absurd (false≢true e)
served_some (Some t) n e = refl
