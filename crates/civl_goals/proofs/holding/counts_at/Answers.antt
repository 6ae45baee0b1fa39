use Rattle.std.proofs.Common.{◌∙◌, ap, get_or, length, ℕ, List}
use Rattle.civl_tree.specs.Numbering.{sizes_of}
use Rattle.civl_linear.proofs.Limits.{names_fit}
use Rattle.civl_goals.specs.Failed.{held_before}
use Rattle.civl_goals.proofs.Unheld.{of_some, of_none}
use Rattle.civl_goals.proofs.holding.counts_at.Goals as goal

pub counts_in-requires : goal.counts_in-requires
counts_in-requires c = names_fit c.args.program.now c.requires.rules c.as_slice.result.now c.as_slice.ensures c.args.number c.in-Some.proc.now c.in-Some.ensures.lookup.3.0 c.in-Some.ensures.lookup.1

pub returns-in_ok-counts-in-Some-clause-counts : goal.returns-in_ok-counts-in-Some-clause-counts
returns-in_ok-counts-in-Some-clause-counts c = λ statement.
    c.in_ok-counts-in-Some.ensures.counts statement
    ∙ of_some (λ proc. length (held_before c.args.program.now proc statement)) 0 c.args.program.now c.as_slice.result.now c.args.number c.in-Some.proc.now c.as_slice.ensures c.in-Some.ensures.lookup.3.0 c.in-Some.ensures.lookup.1

pub returns-in_ok-counts-in-Some-clause-statements : goal.returns-in_ok-counts-in-Some-clause-statements
returns-in_ok-counts-in-Some-clause-statements c =
    c.in_ok-counts-in-Some.ensures.statements
    ∙ of_some (λ proc. sizes_of proc.body) 0 c.args.program.now c.as_slice.result.now c.args.number c.in-Some.proc.now c.as_slice.ensures c.in-Some.ensures.lookup.3.0 c.in-Some.ensures.lookup.1

pub returns-in-None-clause-counts : goal.returns-in-None-clause-counts
returns-in-None-clause-counts c = λ statement.
    ap (λ (ns : List ℕ). get_or ns statement 0) c.new.ensures.items
    ∙ of_none (λ proc. length (held_before c.args.program.now proc statement)) 0 c.args.program.now c.as_slice.result.now c.args.number c.as_slice.ensures c.in-None.ensures.lookup.3

pub returns-in-None-clause-statements : goal.returns-in-None-clause-statements
returns-in-None-clause-statements c =
    ap (λ (ns : List ℕ). length ns) c.new.ensures.items
    ∙ of_none (λ proc. sizes_of proc.body) 0 c.args.program.now c.as_slice.result.now c.args.number c.as_slice.ensures c.in-None.ensures.lookup.3
