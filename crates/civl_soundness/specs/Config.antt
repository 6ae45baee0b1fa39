-- A step keeps configurations those of their program (preservation, one half of type soundness; Wright and Felleisen, A
-- Syntactic Approach to Type Soundness, 1994).
use Rattle.std.specs.Prelude.{List, All}
use Rattle.civl_firing.specs.declared.store.Store.{Store}
use Rattle.civl_meaning.specs.declared.config.Move.{Move}
use Rattle.civl_meaning.specs.declared.config.Plain.{Plain}
use Rattle.civl_meaning.specs.declared.config.Config.{Config}
use Rattle.civl_firing.specs.Stores.{IsStore}
use Rattle.civl_meaning.specs.Step.{start, step_of}
use Rattle.civl_meaning.specs.Run.{RunsTo}
use Rattle.civl_meaning.specs.Failing.{IsMove}
use Rattle.civl_meaning.specs.Config.{IsPlain, IsOf}

-- by each move whose choices are values, of whatever number and sorts
abbrev pub StepIsOf : Type 0
StepIsOf = (plain : Plain) (config : Config) (move : Move) → IsPlain plain → IsMove move → IsOf plain config → IsOf plain (step_of plain config move).1

-- and so by each list of such moves that are made
abbrev pub RunIsOf : Type 0
RunIsOf = (plain : Plain) (moves : List Move) (from to : Config) → IsPlain plain → All IsMove moves → RunsTo plain moves from to → IsOf plain from → IsOf plain to

-- each configuration to which such moves run from a program's start, in a store of its globals' sorts
abbrev pub ReachedIsOf : Type 0
ReachedIsOf =
    (plain : Plain) (store : Store) (moves : List Move) (to : Config) →
    IsPlain plain → IsStore plain.program.globals store → All IsMove moves → RunsTo plain moves (start plain store) to → IsOf plain to
