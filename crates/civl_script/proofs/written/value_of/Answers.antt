use Rattle.std.proofs.Common.{subst, sym}
use Rattle.civl_script.specs.Values.{IsFlatOf}
use Rattle.civl_script.proofs.One.{flat_is}
use Rattle.civl_script.proofs.written.value_of.Goals as goal

pub returns-else-entry-clause-none : goal.returns-else-entry-clause-none
returns-else-entry-clause-none c none value h =
    c.flat_of.ensures.none none value (subst (λ cells. IsFlatOf cells value) (sym c.as_slice-else-entry.ensures) (flat_is c.args.entry.now value c.if-entry.false h))
