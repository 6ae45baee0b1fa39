-- A path of which a story is told, as the code has it.
use Rattle.std.specs.Prelude.{◌≡◌, ◌<◌, ◌^◌, Some, length, slice_get}
use Rattle.civl_tree.specs.Numbering.{item_count, sizes_of}
use Rattle.civl_tree.specs.SpellingProgram.{spell_program}
use Rattle.civl_layers.specs.Cuts.{proc_cuts}
use Rattle.civl_losses.specs.Stories.{story}
use Rattle.civl_path_stories.specs.declared.route.Route.{Route}
use Rattle.civl_path_stories.specs.Paths.{Told}

abbrev pub told : Route → Told
told route = record {
  program = route.program.now;
  step = route.step;
  number = route.number;
  proc = route.proc.now;
  cut = route.cut;
  path = story route.path.now;
}

-- the parts are of one program, whose tokens, items and statements can be counted
pub record Fits (route : Route) : Type 0 where
  pub tokens : length (spell_program route.program.now) < 2 ^ 64
  pub items : item_count route.program.now < 2 ^ 32
  pub there : route.number < length route.program.now.procs
  pub statements : sizes_of route.proc.now.body < 2 ^ 32
  pub found : slice_get route.program.now.procs route.number ≡ Some route.proc.now
  pub cuts : route.cuts.now ≡ proc_cuts route.proc.now
  pub begins : slice_get (proc_cuts route.proc.now) route.from ≡ Some route.cut
