-- The exchange of two steps of a plain program. (Lipton, Reduction: a method of proving properties of parallel programs, 1975.)
use Rattle.std.specs.Prelude.{ℕ, ◌≡◌, ◌≢◌, true, List, Some, slice_get, ◌⊎◌}
use Rattle.civl_bits.specs.declared.value.Value.{Value}
use Rattle.civl_tree.specs.declared.name.Name.{Name}
use Rattle.civl_tree.specs.declared.action.Action.{Action}
use Rattle.civl_tree.specs.declared.program.Global.{Global}
use Rattle.civl_firing.specs.declared.store.Store.{Store}
use Rattle.civl_firing.specs.Fired.{gate_holds, choices_fit, fires}
use Rattle.civl_meaning.specs.declared.config.Move.{Move}
use Rattle.civl_meaning.specs.declared.config.Plain.{Plain}
use Rattle.civl_meaning.specs.declared.config.Running.{Running}
use Rattle.civl_meaning.specs.declared.config.Config.{Config}
use Rattle.civl_meaning.specs.declared.config.Stepped.TheVariants as answer
use Rattle.civl_meaning.specs.Step.{step_of}
use Rattle.civl_meaning.specs.Failing.{is_failing, IsMove}
use Rattle.civl_meaning.specs.Change.{Doing, Spawns, Calls, doing}

-- the moves m and n from c to e, the other way round: to the same end, or something fails before, in c or after n alone
abbrev pub Exchanged : Plain → Config → Move → Move → Config → Type 0
Exchanged plain c m n e =
    ((d : Config) × (step_of plain c n ≡ (answer.Moved, d)) × (step_of plain d m ≡ (answer.Moved, e)))
    ⊎ ((is_failing plain c ≡ true) ⊎ ((d : Config) × (step_of plain c n ≡ (answer.Moved, d)) × (is_failing plain d ≡ true)))

-- from this store x fires and then y: where both gates hold there, y may fire first and x then, with the same outputs to
-- the same end
abbrev pub ActionsSwap : List Global → Store → Action → List Value → List Value → Action → List Value → List Value → Type 0
ActionsSwap globals store x ins chosen y others picked =
    (middle end : Store) (outs results : List Value) → gate_holds globals store x ins ≡ true → gate_holds globals store y others ≡ true → choices_fit x chosen ≡ true → choices_fit y picked ≡ true
    → fires globals store x ins chosen ≡ Some (middle, outs) → gate_holds globals middle y others ≡ true → fires globals middle y others picked ≡ Some (end, results)
    → (first : Store) × (fires globals store y others picked ≡ Some (first, results)) × (fires globals first x ins chosen ≡ Some (end, outs))

-- if both are calls of actions, these may change places
abbrev pub CallsSwap : Plain → Store → Doing → List Value → Doing → List Value → Type 0
CallsSwap plain store one chosen other picked =
    (names others : List Name) (locals values : List Value) (results targets : List Name) (next after : ℕ) (x y : Action) (ins args : List Value)
    → one ≡ Calls names locals results next x ins → other ≡ Calls others values targets after y args → ActionsSwap plain.program.globals store x ins chosen y args picked

abbrev pub SpawnsNone : Doing → Type 0
SpawnsNone one = (thread : Running) (next : ℕ) → one ≢ Spawns thread next

-- two steps of two threads that are there before both may be exchanged, where they don't both spawn, and where they call
-- actions these may change places
abbrev pub StepsExchange : Type 0
StepsExchange =
    (plain : Plain) (c d e : Config) (m n : Move) (r q : Running) → IsMove m → IsMove n → m.thread ≢ n.thread
    → slice_get c.threads m.thread ≡ Some r → slice_get c.threads n.thread ≡ Some q
    → CallsSwap plain c.store (doing plain r) m.choices (doing plain q) n.choices → SpawnsNone (doing plain r) ⊎ SpawnsNone (doing plain q)
    → step_of plain c m ≡ (answer.Moved, d) → step_of plain d n ≡ (answer.Moved, e) → Exchanged plain c m n e
