-- What an action with its values and another thread's frame mean, where they are held by references.
use Rattle.civl_conditions.specs.Targets.{Other}
use Rattle.civl_action_stories.specs.declared.acting.Acting.{Acting}
use Rattle.civl_action_stories.specs.declared.strays.Frame.{Frame}
use Rattle.civl_action_stories.specs.Actors.{Actor}

abbrev pub meant : Acting → Actor
meant x = record { number = x.number; token = x.token; action = x.action.now; inputs = x.inputs.now; chosen = x.chosen.now }

abbrev pub frame : Frame → Other
frame other = record { locals = other.locals.now; done = other.done }
