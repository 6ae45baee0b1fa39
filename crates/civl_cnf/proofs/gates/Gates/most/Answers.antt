use Rattle.std.proofs.Common.{◌≡◌, ◌∙◌, subst, rules}
use Rattle.civl_cnf.specs.Literal.{truth_of}
use Rattle.civl_cnf.specs.ClauseSet.{ClauseSet, AreBelow}
use Rattle.civl_cnf.specs.Gates.{IsGate, majority, with_variable}
use Rattle.civl_cnf.proofs.Extending.{extends_kept}
use Rattle.civl_cnf.proofs.Tables.{most_clauses, most_gate}
use Rattle.civl_cnf.proofs.gates.Gates.most.Goals as goal
use Rattle.civl_cnf.proofs.gates.Gates.most.Goals.{In_ok-define}

built : (c : In_ok-define) → IsGate c.args.self.now c.define.new.self c.next-output.result (λ v. majority (truth_of v c.args.a) (truth_of v c.args.b) (truth_of v c.args.c))
built c =
    let below = subst (λ (f : ClauseSet). AreBelow f.variables f.clauses) c.self.view_is c.define.ensures.below in
    let is : c.define.new.self ≡ with_variable c.args.self.now (most_clauses c.next-output.result c.args.a c.args.b c.args.c) = search rules in
    most_gate c.args.self.now _ _ _ _ _ below c.requires.a c.requires.b c.requires.c c.next-output.ensures is

pub returns-clause-ok : goal.returns-clause-ok
returns-clause-ok c = built c

pub returns-clause-extends : goal.returns-clause-extends
returns-clause-extends c = (built c).extends

pub returns-in_err-define-clause-extends : goal.returns-in_err-define-clause-extends
returns-in_err-define-clause-extends c = extends_kept (c.in_err-define.ensures.err ∙ c.self.view_is)
