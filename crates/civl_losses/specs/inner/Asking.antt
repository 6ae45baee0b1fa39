-- What a condition on a path asks, as the code has it.
use Rattle.std.specs.Prelude.{ℕ, ◌&&◌, ◌++◌, List, Option}
use Rattle.civl_bits.specs.declared.value.Value.{Value}
use Rattle.civl_tree.specs.declared.program.Proc.{Proc}
use Rattle.civl_tree.specs.declared.program.Program.{Program}
use Rattle.civl_meaning.specs.Permissions.{pairwise_disjoint}
use Rattle.civl_layers.specs.declared.cut.Cut.{Cut}
use Rattle.civl_conditions.specs.Assumed.{assumed, owned}
use Rattle.civl_conditions.specs.Targets.{target_owned}
use Rattle.civl_conditions.specs.Values.{Begun, begun, layout}
use Rattle.civl_traces.specs.declared.walked.Walked.{Walked}
use Rattle.civl_losses.specs.declared.loss.Loss.{Loss}
use Rattle.civl_losses.specs.declared.losing.Asked.{Asked}
use Rattle.civl_losses.specs.declared.losing.Asked.TheVariants as asked
use Rattle.civl_losses.specs.declared.losing.Start.{Start}
use Rattle.civl_losses.specs.Losses.{where_assumed, part_loss, target_loss, path_loss, block_loss}

-- by the values of the condition, on the path from a cut
abbrev pub asked_loss : Program → ℕ → Asked → ℕ → List Value → Proc → Cut → Option Loss
asked_loss program step (asked.Part part) c values proc cut = path_loss program step part proc c cut (begun program step proc cut values)
asked_loss program step (asked.Target target) c values proc cut =
    block_loss program step proc c cut (begun program step proc cut values) target values (layout program step proc cut).behind

-- on the path that begins with these values and passes this
abbrev pub lost_walking : Program → ℕ → Asked → ℕ → List Value → Proc → Cut → Begun → Walked → Option Loss
lost_walking program step (asked.Part part) c values proc cut b w =
    where_assumed (assumed program step proc c cut b) (part_loss program step proc c cut b w part)
lost_walking program step (asked.Target target) c values proc cut b w =
    where_assumed (
    assumed program step proc c cut b
    && pairwise_disjoint (owned program proc c b ++ target_owned program target values (layout program step proc cut).behind)
    ) (target_loss program step proc b w target values (layout program step proc cut).behind)

abbrev pub lost_on : Start → Asked → List Value → Begun → Walked → Option Loss
lost_on start asked values b w = lost_walking start.src.now start.step asked start.number values start.proc.now start.cut b w
