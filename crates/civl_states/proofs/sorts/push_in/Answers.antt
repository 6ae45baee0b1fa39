use Rattle.std.specs.Prelude.{IfSome}
use Rattle.std.proofs.Common.{Option, subst}
use Rattle.std.proofs.lemmas.Option.{slice_get_within}
use Rattle.civl_tree.specs.declared.program.Proc.{Proc}
use Rattle.civl_bodies.specs.Bodies.{IsBody}
use Rattle.civl_states.proofs.sorts.push_in.Goals as goal

pub body_at-body-requires-clause-there : goal.body_at-body-requires-clause-there
body_at-body-requires-clause-there c = slice_get_within c.args.src.now.procs c.args.number c.args.proc.now c.requires.found

pub push_from-requires : goal.push_from-requires
push_from-requires c = subst (λ (o : Option Proc). IfSome o (λ q. IsBody q c.body_at-body.result.now)) c.requires.found c.body_at-body.ensures
