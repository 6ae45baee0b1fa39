-- The permissions that conditions speak of.
use Rattle.std.specs.Prelude.{ℕ, Bool, nat_eq, if◌then◌else◌, List, [], ◌∷◌, ◌++◌, map, flat_map, get_or}
use Rattle.std.specs.List.{list_all, list_any}
use Rattle.civl_bits.specs.declared.value.Value.{Value}
use Rattle.civl_firing.specs.values.Operators.{nothing}
use Rattle.civl_tree.specs.declared.action.Mode.{Mode}
use Rattle.civl_tree.specs.declared.action.Param.{Param}
use Rattle.civl_tree.specs.declared.program.Proc.{Proc}
use Rattle.civl_tree.specs.declared.program.Program.{Program}
use Rattle.civl_firing.specs.declared.store.Store.{Store}
use Rattle.civl_meaning.specs.Permissions.{permissions_of_word, of_globals, of_params}
use Rattle.civl_linear.specs.Cuts.{held_of}
use Rattle.civl_conditions.specs.Values.{Invoked}

-- those of the linear globals
abbrev pub in_store : Program → Store → List (List ℕ)
in_store program store = of_globals program.globals store.values

-- those of an action's linear inputs
abbrev pub of_inputs : Invoked → List (List ℕ)
of_inputs x = of_params x.action.params x.inputs

-- those of the parameters whose mode passes the test
abbrev pub of_modes : (Mode → Bool) → List Param → List Value → List (List ℕ)
of_modes test [] values = []
of_modes test (p ∷ ps) [] = []
of_modes test (p ∷ ps) (v ∷ vs) = (if test p.mode then permissions_of_word v ∷ [] else []) ++ of_modes test ps vs

-- each permission of the first is one of the second
abbrev pub included : List (List ℕ) → List (List ℕ) → Bool
included outgoing incoming = list_all (λ p. list_any (nat_eq p) (flat_map (λ ps. ps) incoming)) (flat_map (λ ps. ps) outgoing)

-- the numbers of the locals that are held at a cut
abbrev pub held_at : Program → Proc → ℕ → List ℕ
held_at program proc c = get_or (held_of program proc) c []

-- the permissions of these locals
abbrev pub of_held : List ℕ → List Value → List (List ℕ)
of_held numbers locals = map (λ n. permissions_of_word (get_or locals n nothing)) numbers
