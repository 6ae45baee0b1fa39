-- A plain program as a system of threads over a shared store, whose moves have values for their choices.
use Rattle.std.specs.Prelude.{Bool, List, Option, None, Some, All}
use Rattle.civl_bits.specs.Value.{IsValue}
use Rattle.civl_bits.specs.declared.value.Value.{Value}
use Rattle.civl_tree.specs.declared.action.Action.{Action}
use Rattle.civl_firing.specs.declared.store.Store.{Store}
use Rattle.civl_meaning.specs.declared.config.Move.{Move}
use Rattle.civl_meaning.specs.declared.config.Plain.{Plain}
use Rattle.civl_meaning.specs.declared.config.Running.{Running}
use Rattle.civl_meaning.specs.declared.config.Config.{Config}
use Rattle.civl_meaning.specs.declared.config.Stepped.{Stepped}
use Rattle.civl_meaning.specs.declared.config.Stepped.TheVariants as answer
use Rattle.civl_meaning.specs.declared.config.Change.TheVariants as change
use Rattle.civl_firing.specs.Fired.{gate_holds, choices_fit, fires}
use Rattle.civl_meaning.specs.Change.{with_results}
use Rattle.civl_meaning.specs.Step.{start, thread_after}
use Rattle.civl_meaning.specs.Change as doing
use Rattle.civl_reduction.specs.interleavings.Threads.{Doing, Fails, Waits, Goes, Spawns, Calls, Threads}
use Rattle.civl_reduction.specs.interleavings.Threads as threads

abbrev pub Chosen : Type 0
Chosen = (values : List Value) × All IsValue values

abbrev pub Call : Type 0
Call = Action × List Value

-- what a thread does next, as a whole thread
abbrev pub whole : Running → doing.Doing → Doing Running Call (List Value)
whole thread doing.Fails = Fails
whole thread doing.Waits = Waits
whole thread doing.Ends = Waits
whole thread (doing.Goes locals place) = Goes (thread_after thread (change.Goes locals place))
whole thread (doing.Enters frame place) = Goes (thread_after thread (change.Enters frame place))
whole thread (doing.Leaves frame) = Goes (thread_after thread (change.Leaves frame))
whole thread (doing.Spawns other place) = Spawns (thread_after thread (change.Spawns other place)) other
whole thread (doing.Calls names locals results next action args) = Calls (action, args) (λ outs. thread_after thread (change.Goes (with_results names locals results outs) next))

abbrev pub as_config : Config → threads.Config Store Running
as_config c = record { store = c.store; threads = c.threads }

abbrev pub as_move : (m : Move) → All IsValue m.choices → threads.Move Chosen
as_move m h = record { thread = m.thread; chosen = (m.choices, h) }

-- from this store, where `inside` tells the threads that stand inside a block
abbrev pub program_threads : Plain → Store → (Running → Bool) → Threads Store Running Call Chosen (List Value)
program_threads plain store inside = record {
  first = as_config (start plain store);
  doing = λ r. whole r (doing.doing plain r);
  inside = inside;
  gate = λ x g. gate_holds plain.program.globals g x.0 x.1;
  fits = λ x k. choices_fit x.0 k.0;
  fires = λ x g k. fires plain.program.globals g x.0 x.1 k.0;
}

-- what a made step leaves
abbrev pub told : Stepped × Config → Option (threads.Config Store Running)
told (answer.Moved, d) = Some (as_config d)
told (answer.Blocked, d) = None
told (answer.NoThread, d) = None
told (answer.Ended, d) = None
told (answer.Failing, d) = None
told (answer.BadChoices, d) = None
