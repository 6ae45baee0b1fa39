-- Where a thread stands in the blocks of the procedures above a layer. The steps of a block are right movers up to its turn,
-- and left movers behind it; that it has turned is told by what is ahead of the thread. (Lipton 1975; Flanagan, Qadeer 2003.)
use Rattle.std.specs.Prelude.{ℕ, ◌+◌, Option, None, Some, if◌then◌else◌}
use Rattle.civl_tree.specs.declared.program.Program.{Program}
use Rattle.civl_meaning.specs.declared.config.Running.{Running}
use Rattle.civl_meaning.specs.Rest.{Rest}
use Rattle.civl_reduction.specs.interleavings.Reduction.{Place, Between, Early, Late}
use Rattle.civl_reduction.specs.blocks.Blocks.{block_rest}
use Rattle.civl_reduction.specs.blocks.Ahead.{ahead_in}

-- with this still to run, inside a block: early, where a call of a right or atomic action may come before the block's end
abbrev pub place_of_rest : Program → Option Rest → Place
place_of_rest program None = Between
place_of_rest program (Some rest) = if ahead_in program rest then Early else Late

-- where a thread stands in the program of this layer; between blocks, if its topmost frame is of no procedure of the layer above
abbrev pub stands : Program → ℕ → Running → Place
stands program layer thread = place_of_rest program (block_rest program (layer + 1) thread)
