-- A program that keeps E12 has few cuts.
use Rattle.std.proofs.Common.{◌≡◌, ℕ, zero, suc, ◌+◌, ◌≤◌, Bool, true, false, ◌||◌, List, [], ◌∷◌, map, sum, take, Some, refl, subst, arith, slice_get}
use Rattle.std.specs.Prelude.{nat_le, nat_lt}
use Rattle.std.proofs.lemmas.Bool.{ltb-false, le-leb}
use Rattle.std.proofs.lemmas.List.Sums.{sum_by-cons}
use Rattle.civl_tree.specs.declared.program.Proc.{Proc}
use Rattle.civl_tree.specs.declared.program.Program.{Program}
use Rattle.civl_tree.specs.rules.Count.{cut_limit, cuts_of, first_over, proc_count}
use Rattle.civl_tree.proofs.Bools.{not_second}
use Rattle.civl_layers.specs.CutCounts.{CutsAreFew}
use Rattle.civl_layers.proofs.Counting.{all_counted}

abbrev points_of : List Proc → ℕ
points_of procs = sum (map cuts_of procs)

points_first : (proc : Proc) (procs : List Proc) → points_of (proc ∷ procs) ≡ cuts_of proc + points_of procs
points_first proc procs = sum_by-cons (λ (n : ℕ). n) (cuts_of proc) (map cuts_of procs)

-- a sum that is within the limit, and isn't the first over it with one more, is within it with that one
stays : (before after : ℕ) → before ≤ cut_limit → first_over cut_limit before after ≡ false → after ≤ cut_limit
stays before after h k = ltb-false cut_limit after (not_second (nat_le before cut_limit) (nat_lt cut_limit after) (le-leb before cut_limit h) k)

abbrev KeepLimit : ℕ → List Proc → Type 0
KeepLimit from procs = (place : ℕ) (proc : Proc) → slice_get procs place ≡ Some proc
    → first_over cut_limit (from + points_of (take place procs)) (from + points_of (take place procs) + cuts_of proc) ≡ false

few_from : (from : ℕ) (procs : List Proc) → from ≤ cut_limit → KeepLimit from procs → from + points_of procs ≤ cut_limit
few_from from [] h keeps = omega (arith, h)
few_from from (proc ∷ procs) h keeps =
    let none : from + 0 ≡ from = omega arith in
    let here : from + cuts_of proc ≤ cut_limit =
    stays from (from + cuts_of proc) h (subst (λ (n : ℕ). first_over cut_limit n (n + cuts_of proc) ≡ false) none (keeps zero proc refl)) in
    let behind : KeepLimit (from + cuts_of proc) procs =
    λ place other at.
    let same : from + points_of (proc ∷ take place procs) ≡ from + cuts_of proc + points_of (take place procs) = omega (arith, points_first proc (take place procs)) in
    subst (λ (n : ℕ). first_over cut_limit n (n + cuts_of other) ≡ false) same (keeps (suc place) other at) in
    omega (arith, points_first proc procs, few_from (from + cuts_of proc) procs here behind)

not_third : (a b c : Bool) → (a || (b || c)) ≡ false → c ≡ false
not_third true b c h = absurd cc
not_third false true c h = absurd cc
not_third false false c h = h

-- no procedure of a program that keeps E12 is the first whose cut points are too many
none_over : (program : Program) → ((place : ℕ) (proc : Proc) → slice_get program.procs place ≡ Some proc → proc_count program place proc ≡ false) → KeepLimit 0 program.procs
none_over program keeps place proc at =
    let own : points_of (take place program.procs) ≡ 0 + points_of (take place program.procs) = omega arith in
    subst (λ (n : ℕ). first_over cut_limit n (n + cuts_of proc) ≡ false) own (not_third _ _ _ (keeps place proc at))

pub cuts_are_few : CutsAreFew
cuts_are_few program keeps =
    let none : 0 ≤ cut_limit = omega arith in
    let few = few_from 0 program.procs none (none_over program keeps) in
    omega (arith, few, all_counted program.procs)
