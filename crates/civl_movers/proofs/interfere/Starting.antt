-- All globals as variables.
use Rattle.std.specs.Prelude.{map, filter}
use Rattle.std.proofs.Common.{◌≡◌, ◌∙◌, ℕ, ◌+◌, ◌<◌, ◌^◌, true, List, [], ◌∷◌, length, refl, sym, ap, arith}
use Rattle.std.proofs.lemmas.List.{length-map, append-nil}
use Rattle.civl_bits.specs.declared.value.Value.{Value}
use Rattle.civl_tree.specs.declared.expr.Sort.{Sort}
use Rattle.civl_tree.specs.declared.program.Global.{Global}
use Rattle.civl_tree.specs.declared.program.Program.{Program}
use Rattle.civl_tree.specs.rules.Rules.{Keeps}
use Rattle.civl_tree.specs.rules.Typing.{typing_rules}
use Rattle.civl_conditions.specs.Values.{spread, store_of, count_of}
use Rattle.civl_conditions.specs.declared.condition.Condition.TheVariants.{Start}
use Rattle.civl_conditions.specs.Invariants.{invariant_at, start_fails}
use Rattle.civl_conditions.specs.Variables.{of_globals, variables}
use Rattle.civl_conditions.specs.Violated.{violated}
use Rattle.civl_conditions.specs.Weights.{bits_of_variables, weight, initial_own, maybe_weight, global_weight}
use Rattle.civl_states.specs.formula_parts.Said.{Env}
use Rattle.civl_states.specs.formula_parts.Given.{given, bits_of_sorts}
use Rattle.civl_states.specs.Stores.{global_sorts}
use Rattle.civl_states.specs.Existing.{passes, existing_sorts}
use Rattle.civl_states.specs.declared.stores.Existing.TheVariants.{All}
use Rattle.civl_states.specs.Groups.{StandFrom}
use Rattle.civl_states.proofs.Given.{stand_first, given_long}
use Rattle.civl_states.proofs.Limits.{globals_few}
use Rattle.civl_states.proofs.Variables.{bits_same, globals_named}

all_pass : (gs : List Global) → filter (λ g. true) gs ≡ gs
all_pass [] = refl
all_pass (g ∷ gs) = ap (λ hs. g ∷ hs) (all_pass gs)

pub all_sorts : (program : Program) → existing_sorts All program ≡ global_sorts program
all_sorts program = ap (map (λ (g : Global). g.sort)) (all_pass program.globals)

pub all_count : (program : Program) → count_of (passes All) program ≡ length program.globals
all_count program = ap length (all_pass program.globals)

pub all_stand : (program : Program) (sorts : List Sort) → sorts ≡ global_sorts program → StandFrom sorts 0 (existing_sorts All program)
all_stand program sorts e = stand_first sorts (existing_sorts All program) [] (e ∙ sym (all_sorts program) ∙ sym (append-nil (existing_sorts All program)))

pub sorts_few : (program : Program) → Keeps typing_rules program → length (global_sorts program) < 2 ^ 32
sorts_few program keeps = omega (arith, length-map program.globals (λ g. g.sort), globals_few program keeps)

spread_all : (gs : List Global) (vs : List Value) → length vs ≡ length gs → spread (λ g. true) gs vs ≡ vs
spread_all [] [] e = refl
spread_all [] (v ∷ vs) e = absurd (omega (arith, e))
spread_all (g ∷ gs) [] e = absurd (omega (arith, e))
spread_all (g ∷ gs) (v ∷ vs) e = ap (λ ws. v ∷ ws) (spread_all gs vs (omega (arith, e)))

-- the store of all variables
pub all_store : (program : Program) (env : Env) → store_of (passes All) program (given env 0 (count_of (passes All) program)) ≡ record { values = given env 0 (length (global_sorts program)) }
all_store program env =
    let n : count_of (passes All) program ≡ length program.globals = all_count program in
    let m : length (global_sorts program) ≡ length program.globals = length-map program.globals (λ g. g.sort) in
    ap (λ (vs : List Value). record { values = vs })
    (spread_all program.globals (given env 0 (count_of (passes All) program)) (given_long env 0 (count_of (passes All) program) ∙ n) ∙ ap (given env 0) (n ∙ sym m))

pub all_bits : (program : Program) → bits_of_variables (of_globals [] program.globals) ≡ bits_of_sorts (global_sorts program)
all_bits program = bits_same (of_globals [] program.globals) ∙ ap bits_of_sorts (globals_named [] program.globals)

-- ---- K1

pub start_is : (program : Program) (step place : ℕ) (values : List Value) → start_fails program step place (record { values = values }) ≡ violated program (Start step place) values
unfolding violated
start_is program step place values = refl

pub start_weighs : (program : Program) (step place : ℕ) → weight program (Start step place) ≡ bits_of_sorts (global_sorts program) + (initial_own program + maybe_weight (global_weight program) (invariant_at program step place))
unfolding weight variables
start_weighs program step place = ap (λ n. n + (initial_own program + maybe_weight (global_weight program) (invariant_at program step place))) (all_bits program)
