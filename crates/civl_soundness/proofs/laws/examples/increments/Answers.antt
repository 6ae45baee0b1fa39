use Rattle.std.proofs.Common.{ℕ, List, [], ◌∷◌, ◌++◌, ◌∙◌, refl, arith}
use Rattle.std.specs.Prelude.{All}
use Rattle.std.proofs.lemmas.List.Elements.{All-nil, All-cons}
use Rattle.civl_bits.specs.Value.{IsValue}
use Rattle.civl_tree.specs.declared.expr.Sort.TheVariants as sort
use Rattle.civl_meaning.specs.declared.config.Config.{Config}
use Rattle.civl_meaning.specs.Layers.{lowest}
use Rattle.civl_meaning.specs.Step.{start}
use Rattle.civl_firing.specs.Stores.{IsStore}
use Rattle.civl_meaning.specs.Failing.{IsMove}
use Rattle.civl_firing.specs.examples.Written.{word, holding}
use Rattle.civl_meaning.specs.examples.Moves.{by, moves_of}
use Rattle.civl_meaning.specs.examples.Increments.{increments, low_middle, low_later}
use Rattle.civl_firing.proofs.Having.{no_sorts, more_sorts}
use Rattle.civl_meaning.proofs.Runs.{runs_are_made, runs_join}
use Rattle.civl_meaning.proofs.Schedules.{low_schedule_begins, low_schedule_goes_on}
use Rattle.civl_soundness.proofs.Plain.{increments_are_plain}
use Rattle.civl_soundness.proofs.Soundness.{reached_is_of}
use Rattle.civl_soundness.proofs.laws.examples.increments.Goals as goal

-- moves without choices have values for choices
are_moves : (threads : List ℕ) → All IsMove (moves_of threads)
are_moves [] = All-nil IsMove
are_moves (t ∷ ts) = All-cons IsMove (by t) (moves_of ts) (All-nil IsValue) (are_moves ts)

zero_fits : IsStore increments.globals (holding (word 8 0 ∷ []))
zero_fits = more_sorts (word 8 0) (sort.Word 8) [] [] (record { narrow = omega arith; wide = omega arith; fits = omega arith }, refl) no_sorts

abbrev begin : Config
begin = start (lowest increments) (holding (word 8 0 ∷ []))

abbrev first : List ℕ
first = 0 ∷ 0 ∷ 0 ∷ 1 ∷ 1 ∷ 1 ∷ 1 ∷ 1 ∷ []

abbrev more : List ℕ
more = 1 ∷ 1 ∷ 1 ∷ []

pub returns-clause-plain : goal.returns-clause-plain
returns-clause-plain c = increments_are_plain

pub returns-clause-middle : goal.returns-clause-middle
returns-clause-middle c =
    reached_is_of (lowest increments) (holding (word 8 0 ∷ [])) (moves_of first) low_middle increments_are_plain zero_fits (are_moves first)
    ((runs_are_made (lowest increments) (moves_of first) begin low_middle).1 low_schedule_begins)

pub returns-clause-later : goal.returns-clause-later
returns-clause-later c =
    let whole = moves_of (first ++ more) in
    let made = runs_join (lowest increments) (moves_of first) (moves_of more) 0 8 begin low_middle low_schedule_begins ∙ low_schedule_goes_on in
    reached_is_of (lowest increments) (holding (word 8 0 ∷ [])) whole low_later increments_are_plain zero_fits (are_moves (first ++ more)) ((runs_are_made (lowest increments) whole begin low_later).1 made)
