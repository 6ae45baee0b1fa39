-- Stores and actions of the first so many variables.
use Rattle.std.specs.Prelude.{filter}
use Rattle.std.proofs.Common.{◌≡◌, ◌∙◌, ℕ, ◌+◌, ◌≤◌, ◌++◌, Bool, List, [], length, sym, ap, ap₂, subst, arith}
use Rattle.civl_bits.specs.declared.value.Value.{Value}
use Rattle.civl_tree.specs.declared.expr.Sort.{Sort}
use Rattle.civl_tree.specs.declared.action.Action.{Action}
use Rattle.civl_tree.specs.declared.program.Global.{Global}
use Rattle.civl_tree.specs.declared.program.Program.{Program}
use Rattle.civl_tree.specs.rules.Rules.{Keeps}
use Rattle.civl_tree.specs.rules.Typing.{typing_rules}
use Rattle.civl_conditions.specs.Values.{store_of, count_of, invoked, spread}
use Rattle.civl_states.specs.formula_parts.Said.{Env}
use Rattle.civl_states.specs.formula_parts.Given.{given}
use Rattle.civl_states.specs.Existing.{passes, existing_sorts}
use Rattle.civl_states.specs.declared.stores.Existing.{Existing}
use Rattle.civl_states.specs.Groups.{StandFrom}
use Rattle.std.proofs.lemmas.List.{length-map, length-append, append-nil}
use Rattle.civl_states.proofs.Given.{part_given, spread_taken, stand_first, stand_past}
use Rattle.civl_states.proofs.Limits.{AreSorts, sorts_append}
use Rattle.civl_states.proofs.Variables.{existing_few, existing_are}

-- ---- values

-- a store takes no more than its globals' values
pub store_given : (test : Global → Bool) (program : Program) (env : Env) (n : ℕ) → count_of test program ≤ n → store_of test program (given env 0 n) ≡ store_of test program (given env 0 (count_of test program))
store_given test program env n l =
    ap (λ (vs : List Value). record { values = vs })
    (spread_taken test program.globals (given env 0 n) ∙ ap (spread test program.globals) (part_given env n 0 (count_of test program) (omega (arith, l))))

-- an action's parameters and choices are those from a place on
pub invoked_given : (env : Env) (n at : ℕ) (a : Action) → at + length a.params + length a.choices ≤ n
    → invoked (given env 0 n) at a ≡ record { action = a; inputs = given env at (length a.params); chosen = given env (at + length a.params) (length a.choices) }
invoked_given env n at a l =
    ap₂ (λ (i c : List Value). record { action = a; inputs = i; chosen = c }) (part_given env n at (length a.params) (omega (arith, l))) (part_given env n (at + length a.params) (length a.choices) (omega (arith, l)))

-- ---- sorts that begin with those of globals

module _ (program : Program) (keeps : Keeps typing_rules program) (which : Existing) (sorts tail : List Sort) (e : sorts ≡ existing_sorts which program ++ tail) where
  globals_stand : StandFrom sorts 0 (existing_sorts which program)
  globals_stand = stand_first sorts (existing_sorts which program) tail e

  pub front_stand : (w : Existing) → w ≡ which → StandFrom sorts 0 (existing_sorts w program)
  front_stand w same = subst (λ v. StandFrom sorts 0 (existing_sorts v program)) (sym same) globals_stand

  pub tail_stand : (n : ℕ) → n ≡ count_of (passes which) program → StandFrom sorts n tail
  tail_stand n same =
      let whole : StandFrom sorts 0 (existing_sorts which program ++ tail) = record { rest = []; within = omega arith; is = e ∙ sym (append-nil (existing_sorts which program ++ tail)) } in
      let here : 0 + n ≡ n = omega arith in
      subst (λ k. StandFrom sorts k tail) here
      (stand_past sorts 0 (existing_sorts which program) tail n (length-map (filter (passes which) program.globals) (λ g. g.sort) ∙ sym same) whole)

  pub whole_long : length sorts ≡ count_of (passes which) program + length tail
  whole_long = ap length e ∙ length-append (existing_sorts which program) tail ∙ ap (λ k. k + length tail) (length-map (filter (passes which) program.globals) (λ g. g.sort))

  pub whole_few : (limit : ℕ) → length tail ≤ limit → length sorts ≤ 64 + limit
  whole_few limit l = omega (arith, whole_long, existing_few program keeps which, l)

  pub whole_are : AreSorts tail → AreSorts sorts
  whole_are h = subst AreSorts (sym e) (sorts_append (existing_sorts which program) tail (existing_are program keeps which) h)
