-- Blocks that are refined, one behind the other, and what the conditions on paths say of one.
use Rattle.std.specs.Prelude.{ℕ, ◌≡◌, true, List, Contains, IsTrue}
use Rattle.civl_bits.specs.declared.value.Value.{Value}
use Rattle.civl_firing.specs.values.Values.{HaveSorts}
use Rattle.civl_tree.specs.declared.program.Proc.{Proc}
use Rattle.civl_tree.specs.declared.program.Program.{Program}
use Rattle.civl_firing.specs.Stores.{IsStore}
use Rattle.civl_meaning.specs.Change.{outs_in}
use Rattle.civl_layers.specs.declared.cut.Cut.{Cut}
use Rattle.civl_layers.specs.Layered.{IsLayered}
use Rattle.civl_conditions.specs.paths.Paths.{Progress}
use Rattle.civl_conditions.specs.paths.Ends.{ends_block}
use Rattle.civl_conditions.specs.paths.Seen.{IsProcOf}
use Rattle.civl_conditions.specs.Values.{Begun}
use Rattle.civl_conditions.specs.Assumed.{inputs_of}
use Rattle.civl_condition_laws.specs.States.{frame_sorts}
use Rattle.civl_reduction.specs.open_blocks.Ends.{IsAssumed, Concludes}
use Rattle.civl_reduction.specs.simulation.Refined.{Sight, IsRefined, with_values}

-- nothing happens, whichever choices are offered
abbrev pub NothingIsRefined : Type 0
NothingIsRefined = (offered : List (List Value)) (program : Program) (layer : ℕ) (proc : Proc) (inputs : List Value) (here : Sight) → IsStore program.globals here.store → IsRefined (Contains offered) program layer proc inputs here here

-- one behind the other
abbrev pub RefinedJoin : Type 0
RefinedJoin =
    (offered : List (List Value)) (program : Program) (number layer : ℕ) (proc : Proc) (inputs : List Value) (first second third : Sight) → IsLayered program → IsProcOf program number layer proc
    → IsRefined (Contains offered) program layer proc inputs first second → IsRefined (Contains offered) program layer proc inputs second third → IsRefined (Contains offered) program layer proc inputs first third

-- what the old values of a path's beginning show, and what its state shows
abbrev pub sight_old : Begun → Sight
sight_old b = record { store = b.old; done = b.old_done; outs = b.old_outs }

abbrev pub sight_at : Proc → Progress → Sight
sight_at proc p = record { store = p.store; done = p.done; outs = outs_in proc p.locals }

-- where a block ends, all was assumed at its path's beginning, and the path's conclusions hold: the refined action has the choices
-- behind `with` there
abbrev pub ConclusionsRefine : Type 0
ConclusionsRefine =
    (program : Program) (step q c : ℕ) (proc : Proc) (cut : Cut) (b : Begun) (end : ℕ) (p : Progress) → IsLayered program → IsAssumed program step q c proc cut b → Concludes program step c proc cut b end p → IsTrue (ends_block proc end)
    → (b.done ≡ true → p.done ≡ true) → IsStore program.globals p.store → HaveSorts p.locals (frame_sorts proc)
    → IsRefined (λ chosen. chosen ≡ with_values program proc p.store p.locals) program step proc (inputs_of proc b.locals) (sight_old b) (sight_at proc p)
