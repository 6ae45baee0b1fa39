-- Where the exchange of two moves never differs. (Lipton, Reduction: a method of proving properties of parallel programs, 1975.)
use Rattle.std.specs.Prelude.{ℕ, ◌≡◌, ◌≢◌, List, ◌∷◌, ◌++◌, length, Some, slice_get, All, ◌⊎◌}
use Rattle.civl_tree.specs.declared.program.Program.{Program}
use Rattle.civl_firing.specs.declared.store.Store.{Store}
use Rattle.civl_meaning.specs.declared.config.Move.{Move}
use Rattle.civl_meaning.specs.declared.config.Plain.{Plain}
use Rattle.civl_meaning.specs.declared.config.Running.{Running}
use Rattle.civl_meaning.specs.declared.config.Config.{Config}
use Rattle.civl_meaning.specs.declared.config.Stepped.TheVariants.{Moved}
use Rattle.civl_meaning.specs.Step.{start, step_of}
use Rattle.civl_meaning.specs.Run.{RunsTo}
use Rattle.civl_meaning.specs.Failing.{IsMove}
use Rattle.civl_meaning.specs.Layers.{program_at}
use Rattle.civl_layers.specs.Movers.{is_left, is_right}
use Rattle.civl_meaning.specs.Change.{doing}
use Rattle.civl_reduction.specs.exchanges.Exchange.{Exchanged}
use Rattle.civl_reduction.specs.mover_laws.Neighbours.{MovesAs, IsSound}
use Rattle.civl_reduction.specs.declared.swapped.Swapped.{Swapped}
use Rattle.civl_reduction.specs.declared.swapped.Swapped.TheVariants.{Same, Fails, Differs}
use Rattle.civl_reduction.specs.Swap.{IsSwapped}

abbrev pub IsNoDifference : Swapped → Type 0
IsNoDifference (Same moves) = Unit {0}
IsNoDifference (Fails moves) = Unit {0}
IsNoDifference (Differs place) = ⊥

-- the moves m and n, behind some and before others: where they lead from c to e, and the other way round too or something
-- fails before, what comes of their exchange is no difference
abbrev pub ExchangedNeverDiffer : Type 0
ExchangedNeverDiffer =
    (plain : Plain) (from c d e end : Config) (first : List Move) (m n : Move) (last : List Move) (swapped : Swapped)
    → RunsTo plain first from c → step_of plain c m ≡ (Moved, d) → step_of plain d n ≡ (Moved, e) → RunsTo plain last e end → Exchanged plain c m n e
    → IsSwapped plain from (first ++ m ∷ (n ∷ last)) (length first) swapped → IsNoDifference swapped

-- so it is in a layer's program, from a configuration that is reached, for steps of two threads that are there before both,
-- where the first is a right mover or the second a left one
abbrev pub MoversNeverDiffer : Type 0
MoversNeverDiffer =
    (program : Program) (layer : ℕ) (store : Store) (reaching : List Move) (from c d e end : Config) (first : List Move) (m n : Move) (last : List Move) (r q : Running) (swapped : Swapped)
    → IsSound program layer store → All IsMove reaching → RunsTo (program_at program layer) reaching (start (program_at program layer) store) from
    → All IsMove first → IsMove m → IsMove n → m.thread ≢ n.thread
    → RunsTo (program_at program layer) first from c → step_of (program_at program layer) c m ≡ (Moved, d) → step_of (program_at program layer) d n ≡ (Moved, e) → RunsTo (program_at program layer) last e end
    → slice_get c.threads m.thread ≡ Some r → slice_get c.threads n.thread ≡ Some q
    → MovesAs is_right (doing (program_at program layer) r) ⊎ MovesAs is_left (doing (program_at program layer) q)
    → IsSwapped (program_at program layer) from (first ++ m ∷ (n ∷ last)) (length first) swapped → IsNoDifference swapped
