-- Linear items, the globals and the parameters of actions that carry permissions: which of a list they are, how many, and what
-- they weigh.
use Rattle.std.specs.Prelude.{◌≡◌, ℕ, zero, suc, ◌+◌, ◌*◌, ◌≤◌, Bool, false, List, [], ◌∷◌, ◌++◌, if◌then◌else◌, Option, None, Some, length, filter}
use Rattle.std.specs.List.{list_any}
use Rattle.civl_bits.specs.declared.value.Value.{Value}
use Rattle.civl_tree.specs.declared.action.Action.{Action}
use Rattle.civl_tree.specs.declared.action.Mode.{Mode}
use Rattle.civl_tree.specs.declared.action.Param.{Param}
use Rattle.civl_tree.specs.declared.program.Program.{Program}
use Rattle.civl_tree.specs.rules.Width.{is_linear, param_width}
use Rattle.civl_firing.specs.declared.store.Store.{Store}
use Rattle.civl_linear.specs.Modes.{is_lent}
use Rattle.civl_meaning.specs.Permissions.{of_params}
use Rattle.civl_conditions.specs.Permissions.{in_store, of_modes}
use Rattle.civl_conditions.specs.Weights.{linear_globals, linear_inputs}
use Rattle.civl_states.specs.declared.items.Which.{Which}
use Rattle.civl_states.specs.declared.items.Which.TheVariants.{Linear, Lent}

-- of a list with one element for each of these things, those of the things that pass a test
abbrev pub picked : {A B : Type 0} → (A → Bool) → List A → List B → List B
picked test [] xs = []
picked test (a ∷ ts) [] = []
picked test (a ∷ ts) (x ∷ xs) = (if test a then x ∷ [] else []) ++ picked test ts xs

-- it is one of these parameters
abbrev pub is_which : Which → Mode → Bool
is_which Linear = is_linear
is_which Lent = is_lent

-- what these parameters carry, with these values
abbrev pub of_which : Which → List Param → List Value → List (List ℕ)
of_which Linear = of_params
of_which Lent = of_modes is_lent

-- so many parameters are among these
abbrev pub number_of : Which → List Param → ℕ
number_of which params = length (filter (λ p. is_which which p.mode) params)

-- each linear parameter is a word of the permission width
abbrev pub HaveWidths : Program → List Param → Type 0
HaveWidths program params = list_any (param_width program) params ≡ false

-- there is a mask exactly where there are items, which are so many
abbrev pub HasItems : Option ℕ → ℕ → Type 0
HasItems None n = n ≡ 0
HasItems (Some mask) n = 1 ≤ n

-- so much at most so many items weigh: their masks, and from the second on the comparison with those before, and the union
abbrev pub items_weight : ℕ → ℕ → ℕ
items_weight bits zero = 0
items_weight bits (suc zero) = 6 * bits + 1
items_weight bits (suc (suc n)) = items_weight bits (suc n) + (6 * bits + 1 + (3 * bits + 1))

-- ---- an action's

-- what goes into an action: the linear globals, and its linear inputs
abbrev pub comes_in : Program → Action → Store → List Value → List (List ℕ)
comes_in program a store inputs = in_store program store ++ of_params a.params inputs

-- so many items come in
abbrev pub number_coming : Program → Action → ℕ
number_coming program a = linear_globals program + linear_inputs a.params
