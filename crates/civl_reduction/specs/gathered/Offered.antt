-- Moves with the choices that actions offer.
use Rattle.std.specs.Prelude.{ℕ, ◌≡◌, true, List, [], ◌∷◌, Option, None, Some, slice_get}
use Rattle.civl_bits.specs.declared.value.Value.{Value}
use Rattle.civl_tree.specs.declared.program.Global.{Global}
use Rattle.civl_tree.specs.declared.program.Program.{Program}
use Rattle.civl_firing.specs.declared.store.Store.{Store}
use Rattle.civl_firing.specs.Fired.{offers}
use Rattle.civl_meaning.specs.declared.config.Move.{Move}
use Rattle.civl_meaning.specs.declared.config.Plain.{Plain}
use Rattle.civl_meaning.specs.declared.config.Running.{Running}
use Rattle.civl_meaning.specs.declared.config.Config.{Config}
use Rattle.civl_meaning.specs.Layers.{program_at}
use Rattle.civl_meaning.specs.Change.{Doing, doing}
use Rattle.civl_meaning.specs.Change as does
use Rattle.civl_reduction.specs.gathered.System.{layer_run}

-- what the action offers that is called; where none is, choices don't count
abbrev pub offers_of : List Global → Store → Doing → List Value
offers_of globals store (does.Calls names locals results next action args) = offers globals store action args
offers_of globals store _ = []

abbrev pub offers_to : Plain → Store → Option Running → List Value
offers_to plain store None = []
offers_to plain store (Some thread) = offers_of plain.program.globals store (doing plain thread)

-- the move of the thread with this number by which its action has the choices that it offers
abbrev pub offered : Plain → Config → ℕ → Move
offered plain c t = record { thread = t; choices = offers_to plain c.store (slice_get c.threads t) }

-- steps of this thread alone, with offered choices, each of which leaves it inside its block
abbrev pub AreOffered : Program → ℕ → Store → ℕ → List Move → Config → Config → Type 0
AreOffered program layer store t [] c e = c ≡ e
AreOffered program layer store t (m ∷ ms) c e =
    (d : Config) × (m ≡ offered (program_at program layer) c t) × ((layer_run program layer store).step c m ≡ Some d)
    × ((layer_run program layer store).inside d t ≡ true) × AreOffered program layer store t ms d e
