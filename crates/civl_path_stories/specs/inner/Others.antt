-- Another thread's frame, as the code has it.
use Rattle.civl_conditions.specs.Targets.{Other as Frame}
use Rattle.civl_path_stories.specs.declared.targets.Other.{Other}

abbrev pub meant : Other → Frame
meant other = record { locals = other.locals.now; done = other.done }
