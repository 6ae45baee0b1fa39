-- Only the report of acceptance begins with the byte of `a`.
use Rattle.std.proofs.Common.{◌≡◌, refl, arith}
use Rattle.civl_tree.proofs.Lists.{one_first}
use Rattle.civl_verdicts.specs.declared.verdict.Verdict.TheVariants.{Accepted, Rejected, Undecided, NoInitial}
use Rattle.civl_verdicts.specs.verdict_reports.Laws.{OnlyAcceptedAccepts}

pub only_accepted_accepts : OnlyAcceptedAccepts
only_accepted_accepts program budget (Accepted count) after e = (count, refl)
only_accepted_accepts program budget (Rejected counter) after e = let bytes : 114 ≡ 97 = one_first 114 97 _ _ e in absurd (omega (arith, bytes))
only_accepted_accepts program budget (Undecided formula log) after e = let bytes : 117 ≡ 97 = one_first 117 97 _ _ e in absurd (omega (arith, bytes))
only_accepted_accepts program budget NoInitial after e = let bytes : 114 ≡ 97 = one_first 114 97 _ _ e in absurd (omega (arith, bytes))
