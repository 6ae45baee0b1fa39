use Rattle.std.proofs.Common.{◌≡◌, ◌∙◌, refl, sym, subst}
use Rattle.std.specs.List.Sorted.{IsStrictlyIncreasing}
use Rattle.std.specs.Prelude.{is_none}
use Rattle.civl_conditions.specs.declared.paths.met.Met.{Met}
use Rattle.civl_conditions.specs.paths.Flows.{flow_from}
use Rattle.civl_conditions.specs.paths.Meets.{ArePassed, from_cut, met_past, nothing_met, walk_all}
use Rattle.civl_conditions.proofs.paths.WalkFrom.{body_met}
use Rattle.civl_conditions.proofs.paths.Ordering.{walk_rises}
use Rattle.civl_conditions.proofs.paths.PassedStatements.{are_passed}
use Rattle.civl_conditions.proofs.paths.met.met_from.Goals as goal

pub returns : goal.returns
returns c =
    let proc = c.args.proc.now in
    let cut = c.args.cut in
    let end = c.in_ok-end.end in
    let walked : c.go_past.new.met ≡ met_past (from_cut cut) end (walk_all (from_cut cut) proc.body 0 (nothing_met (is_none (from_cut cut))))
    = rw (c.go_past.ensures, c.in_ok-end.ensures.0, c.nothing-met.ensures, c.from_cut-from.ensures) refl in
    let met = walked ∙ body_met proc cut end c.in_ok-end.ensures.1 in
    record {
      numbers = met;
      order = subst (λ (m : Met). IsStrictlyIncreasing m.passed) (sym walked) (walk_rises (from_cut cut) proc.body (is_none (from_cut cut)) end);
      statements = subst (λ (m : Met). ArePassed proc (flow_from proc cut) m) (sym met) (are_passed proc cut);
    }
