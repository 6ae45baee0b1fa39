use Rattle.std.proofs.Common.{◌≡◌, ◌∙◌, subst, cond, rules}
use Rattle.civl_cnf.specs.Literal.{truth_of}
use Rattle.civl_cnf.specs.ClauseSet.{ClauseSet, AreBelow}
use Rattle.civl_cnf.specs.Gates.{IsGate, with_variable}
use Rattle.civl_cnf.proofs.Extending.{extends_kept}
use Rattle.civl_cnf.proofs.Tables.{ite_clauses, ite_gate}
use Rattle.civl_cnf.proofs.gates.Gates.ite.Goals as goal
use Rattle.civl_cnf.proofs.gates.Gates.ite.Goals.{In_ok-define}

built : (c : In_ok-define) → IsGate c.args.self.now c.define.new.self c.next-output.result (λ v. cond (truth_of v c.args.c) (truth_of v c.args.a) (truth_of v c.args.b))
built c =
    let below = subst (λ (f : ClauseSet). AreBelow f.variables f.clauses) c.self.view_is c.define.ensures.below in
    let is : c.define.new.self ≡ with_variable c.args.self.now (ite_clauses c.next-output.result c.args.c c.args.a c.args.b) = search rules in
    ite_gate c.args.self.now _ _ _ _ _ below c.requires.c c.requires.a c.requires.b c.next-output.ensures is

pub returns-clause-ok : goal.returns-clause-ok
returns-clause-ok c = built c

pub returns-clause-extends : goal.returns-clause-extends
returns-clause-extends c = (built c).extends

pub returns-in_err-define-clause-extends : goal.returns-in_err-define-clause-extends
returns-in_err-define-clause-extends c = extends_kept (c.in_err-define.ensures.err ∙ c.self.view_is)
