use Rattle.std.proofs.Common.{◌++◌, ◌∷◌, [], List, subst, inr}
use Rattle.civl_cnf.specs.Literal.{Literal}
use Rattle.civl_propagation.specs.Trail.{AreDecided}
use Rattle.civl_propagation.specs.Engine.{EndsBy}
use Rattle.civl_provers.proofs.Standings.{at_more, refuted_at}
use Rattle.civl_provers.proofs.branching.assume_false.Goals as goal

pub returns-in-Conflict : goal.returns-in-Conflict
returns-in-Conflict c set falses at =
    let new = c.decide.new.self in
    let says = c.in_ok-ended.ensures in
    let ends = subst (EndsBy new) c.in-Conflict.is says.ended in
    let more = subst (λ (m : Literal). (decisions : List Literal) → AreDecided c.args.engine.now.trail decisions → AreDecided new.trail (decisions ++ m ∷ [])) c.negate.ensures says.decided in
    let now = at_more c.args.engine.now new set falses c.args.lit at ends.0 says.clauses says.size more says.deeper c.requires.behind in
    (refuted_at new set (falses ++ c.args.lit ∷ []) _ now ends.1, inr now)

pub returns-in-Quiet : goal.returns-in-Quiet
returns-in-Quiet c set falses at =
    let new = c.decide.new.self in
    let says = c.in_ok-ended.ensures in
    let ends = subst (EndsBy new) c.in-Quiet.is says.ended in
    let more = subst (λ (m : Literal). (decisions : List Literal) → AreDecided c.args.engine.now.trail decisions → AreDecided new.trail (decisions ++ m ∷ [])) c.negate.ensures says.decided in
    (at_more c.args.engine.now new set falses c.args.lit at ends.engine says.clauses says.size more says.deeper c.requires.behind, ends)
