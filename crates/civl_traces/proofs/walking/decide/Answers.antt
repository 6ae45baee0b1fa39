use Rattle.civl_traces.proofs.Going.{ok_as, decided_told}
use Rattle.civl_traces.proofs.walking.decide.Goals as goal

pub returns : goal.returns
returns c = ok_as _ _ c.push.result (λ done h. decided_told c.args.walker.now c.args.number c.args.truth c.new.result c.push.new.self c.new.ensures h) c.push.ensures.ok
