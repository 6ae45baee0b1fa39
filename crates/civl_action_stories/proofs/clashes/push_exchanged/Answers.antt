use Rattle.civl_action_stories.proofs.clashes.push_exchanged.Goals as goal

pub returns-in-WaitsAtOnce : goal.returns-in-WaitsAtOnce
returns-in-WaitsAtOnce c = rw c.in-WaitsAtOnce.is c.push_waits.ensures

pub returns-in-WaitsBehind : goal.returns-in-WaitsBehind
returns-in-WaitsBehind c = rw c.in-WaitsBehind.is c.push_waits_behind.ensures
