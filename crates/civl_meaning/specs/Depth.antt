-- How many frames a thread has. The first is its call, and stays behind it.
use Rattle.std.specs.Prelude.{ℕ, ◌+◌, length}
use Rattle.civl_meaning.specs.declared.config.State.{State}
use Rattle.civl_meaning.specs.declared.config.State.TheVariants.{Before, Inside, After}
use Rattle.civl_meaning.specs.declared.config.Running.{Running}

abbrev pub frames : State → ℕ
frames Before = 1
frames (Inside below top) = length below + 1 + 1
frames After = 1

abbrev pub depth_of : Running → ℕ
depth_of thread = frames thread.state
