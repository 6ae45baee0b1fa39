-- The configuration before the call, of each program that puts something into x.
use Rattle.std.proofs.Common.{[], ◌∷◌, refl, arith, codes}
use Rattle.std.proofs.lemmas.List.Elements.{All-nil, All-cons}
use Rattle.civl_tree.specs.declared.expr.Expr.{Expr}
use Rattle.civl_tree.specs.declared.expr.Sort.TheVariants as sort
use Rattle.civl_tree.specs.declared.program.Proc.{Proc}
use Rattle.civl_meaning.specs.declared.config.State.TheVariants.{Inside}
use Rattle.civl_meaning.specs.Layers.{lowest}
use Rattle.civl_meaning.specs.Config.{IsBegun, IsPlaced, HasLocals, ThreadIsSorted, IsStacked, IsOf}
use Rattle.civl_firing.specs.examples.Written.{word, root, proc, call}
use Rattle.civl_meaning.specs.examples.Flag.{bare, running}
use Rattle.civl_firing.proofs.Having.{no_sorts, more_sorts}
use Rattle.civl_soundness.specs.examples.Putting.{putting, before}

abbrev main : Proc
main = proc (codes "Main") [] [] root [] (call (codes "Put") [] [] ∷ [])

pub before_is_of : (e : Expr) → IsOf (lowest (putting e)) before
before_is_of e =
    let plain = lowest (putting e) in
    let thread = running 0 (Inside [] (bare 0 0)) in
    let begun : IsBegun plain thread = record { proc = main; there = refl; args = no_sorts; begins = refl } in
    let locals : HasLocals plain (bare 0 0) = record { proc = main; there = refl; locals = no_sorts } in
    let stack : IsStacked plain thread = record { placed = All-nil (IsPlaced plain); topmost = record { proc = main; there = refl; place = omega arith }; first = refl; waiting = tt } in
    record {
      store = more_sorts (word 8 0) (sort.Word 8) [] [] (record { narrow = omega arith; wide = omega arith; fits = omega arith }, refl) no_sorts;
      sorted = All-cons (ThreadIsSorted plain) thread [] (begun, All-nil (HasLocals plain), locals) (All-nil (ThreadIsSorted plain));
      stacked = All-cons (IsStacked plain) thread [] stack (All-nil (IsStacked plain));
    }
