use Rattle.std.proofs.Common.{refl, rules}
use Rattle.civl_terms.specs.declared.node.Node.TheVariants as node
use Rattle.civl_terms.specs.Building.{Answers, join_in}
use Rattle.civl_terms.proofs.Growing.{grows_kept}
use Rattle.civl_terms.proofs.Answering.{grows_answered, built_answered}
use Rattle.civl_terms.proofs.Operations.{join_operation}
use Rattle.civl_terms.proofs.terms.Terms.join.Goals as goal

pub returns-in_err-id-clause-grows : goal.returns-in_err-id-clause-grows
returns-in_err-id-clause-grows c = grows_kept _ _ c.in_err-id.ensures.err

pub returns-clause-built : goal.returns-clause-built
returns-clause-built c =
    let h : Answers c.args.self.now c.answer.new.self (join_in c.args.self.now c.args.a c.args.b) (node.Join c.args.a c.args.b) c.args.a c.args.b c.args.b c.in_ok-id.id = search rules in
    built_answered c.args.self.now c.answer.new.self (join_in c.args.self.now c.args.a c.args.b) (node.Join c.args.a c.args.b) c.args.a c.args.b c.args.b c.in_ok-id.id c.answer.ensures.graph
    (join_operation c.args.self.now c.answer.ensures.graph c.args.a c.args.b c.requires.a c.requires.b c.requires.fits) h

pub returns-clause-grows : goal.returns-clause-grows
returns-clause-grows c = grows_answered _ _ _ _ _ _ _ _ refl c.in_ok-id.ensures.answers
