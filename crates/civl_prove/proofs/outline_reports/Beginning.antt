-- Only the report that all conditions and goals hold begins with the byte of `s`.
use Rattle.std.proofs.Common.{◌≡◌, refl, arith}
use Rattle.civl_tree.proofs.Lists.{one_first}
use Rattle.civl_verdicts.specs.declared.verdict.Verdict.TheVariants.{Accepted, Rejected, Undecided as LeftOpen, NoInitial}
use Rattle.civl_prove.specs.declared.proved.Proved.TheVariants.{All, Fails, Undecided}
use Rattle.civl_prove.specs.declared.outline_reports.proving.Proving.TheVariants.{Note, Roots, Heavy, HeavyGoal, Judged, Decided}
use Rattle.civl_prove.specs.outline_reports.Laws.{OnlySafeIsSafe}

pub only_safe_is_safe : OnlySafeIsSafe
only_safe_is_safe program budget (Note number) after e = let bytes : 114 ≡ 115 = one_first 114 115 _ _ e in absurd (omega (arith, bytes))
only_safe_is_safe program budget (Roots item statement) after e = let bytes : 114 ≡ 115 = one_first 114 115 _ _ e in absurd (omega (arith, bytes))
only_safe_is_safe program budget (Heavy first) after e = let bytes : 114 ≡ 115 = one_first 114 115 _ _ e in absurd (omega (arith, bytes))
only_safe_is_safe program budget (HeavyGoal goal) after e = let bytes : 114 ≡ 115 = one_first 114 115 _ _ e in absurd (omega (arith, bytes))
only_safe_is_safe program budget (Judged (Accepted count)) after e = let bytes : 97 ≡ 115 = one_first 97 115 _ _ e in absurd (omega (arith, bytes))
only_safe_is_safe program budget (Judged (Rejected counter)) after e = let bytes : 114 ≡ 115 = one_first 114 115 _ _ e in absurd (omega (arith, bytes))
only_safe_is_safe program budget (Judged (LeftOpen formula log)) after e = let bytes : 117 ≡ 115 = one_first 117 115 _ _ e in absurd (omega (arith, bytes))
only_safe_is_safe program budget (Judged NoInitial) after e = let bytes : 114 ≡ 115 = one_first 114 115 _ _ e in absurd (omega (arith, bytes))
only_safe_is_safe program budget (Decided count (All goals)) after e = (count, goals, refl)
only_safe_is_safe program budget (Decided count (Fails goal values)) after e = let bytes : 117 ≡ 115 = one_first 117 115 _ _ e in absurd (omega (arith, bytes))
only_safe_is_safe program budget (Decided count (Undecided goal log)) after e = let bytes : 117 ≡ 115 = one_first 117 115 _ _ e in absurd (omega (arith, bytes))
