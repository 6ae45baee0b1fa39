-- Where the variables of conditions on actions stand, and what their terms say.
use Rattle.std.specs.Prelude.{slice_get}
use Rattle.std.proofs.Common.{◌≡◌, ◌∙◌, ℕ, ◌+◌, ◌-◌, ◌<◌, ◌^◌, ◌++◌, List, length, sym, subst, arith, Some}
use Rattle.std.proofs.lemmas.List.{length-map, length-append}
use Rattle.civl_bits.specs.declared.value.Value.{Value}
use Rattle.civl_tree.specs.declared.expr.Sort.{Sort}
use Rattle.civl_tree.specs.declared.action.Action.{Action}
use Rattle.civl_tree.specs.declared.program.Program.{Program}
use Rattle.civl_tree.specs.rules.Rules.{Keeps}
use Rattle.civl_tree.specs.rules.Typing.{typing_rules}
use Rattle.civl_terms.specs.declared.node.Node.{Node}
use Rattle.civl_terms.specs.Building.{Lengthens}
use Rattle.civl_conditions.specs.declared.condition.Condition.TheVariants.{Keep, Pair, Fire}
use Rattle.civl_conditions.specs.Values.{store_of, count_of, instance_count}
use Rattle.civl_states.specs.formula_parts.Said.{Env}
use Rattle.civl_states.specs.formula_parts.Lists.{AreSaid}
use Rattle.civl_states.specs.formula_parts.Given.{given, sorts_from}
use Rattle.civl_states.proofs.formula_parts.Listing.{sorts_after, said_after}
use Rattle.civl_states.specs.declared.invoked.Invoked.{Invoked}
use Rattle.civl_states.specs.declared.stores.Existing.{Existing}
use Rattle.civl_states.specs.declared.stores.Existing.TheVariants.{Layer}
use Rattle.civl_states.specs.Existing.{passes, existing_sorts}
use Rattle.civl_states.specs.Stores.{AreStore}
use Rattle.civl_meaning.specs.Config.{choice_sorts}
use Rattle.civl_states.specs.Runs.{param_sorts, instance_sorts, IsReady, IsInvoked}
use Rattle.civl_states.specs.Groups.{StandFrom}
use Rattle.civl_states.specs.Formulas.{sorts_of}
use Rattle.civl_states.proofs.Given.{stand_front, stand_past, stand_counted}
use Rattle.civl_states.proofs.Limits.{AreSorts, sorts_append, param_sorts_are, action_few}
use Rattle.civl_states.proofs.Variables.{keep_sorts, fire_sorts, pair_sorts, instance_long, instance_are}
use Rattle.civl_states.proofs.Taking.{front_stand, tail_stand, whole_long, whole_few, whole_are}
use Rattle.civl_movers.specs.Settings.{lower_count, AreLower, IsFrom}

-- ---- while the graph gets longer

pub ready_after : (old new : List Node) (program : Program) (x : Invoked) → Lengthens old new → IsReady old program x → IsReady new program x
ready_after old new program x g f = record {
  action = f.action;
  is = f.is;
  inputs = sorts_after old new x.inputs _ g f.inputs;
  choices = sorts_after old new x.choices _ g f.choices;
}

pub invoked_after : (old new : List Node) (program : Program) (x : Invoked) (a : Action) (i c : Env → List Value) → Lengthens old new → IsInvoked old program x a i c → IsInvoked new program x a i c
invoked_after old new program x a i c g h = record {
  is = h.is;
  inputs = said_after old new x.inputs _ i g h.inputs;
  choices = said_after old new x.choices _ c g h.choices;
}

-- the store of the lower layer
pub lower_after : (old new : List Node) (program : Program) (step : ℕ) (which : Existing) (globals : List ℕ) → which ≡ Layer (step - 1) → Lengthens old new
    → AreStore old program globals (λ env. store_of (passes which) program (given env 0 (count_of (passes which) program))) → AreLower new program step globals
lower_after old new program step which globals e g s =
    said_after old new globals _ _ g (subst (λ w. AreStore old program globals (λ env. store_of (passes w) program (given env 0 (count_of (passes w) program)))) e s)

pub from_after : (old new : List Node) (program : Program) (action first at : ℕ) (x : Invoked) → first ≡ at → Lengthens old new → x.action ≡ action → IsReady old program x
    → ((a : Action) → slice_get program.actions action ≡ Some a → IsInvoked old program x a (λ env. given env first (length a.params)) (λ env. given env (first + length a.params) (length a.choices)))
    → IsFrom new program action at x
from_after old new program action first at x e g is ready says = record {
  is = is;
  ready = ready_after old new program x g ready;
  says = λ a t. invoked_after old new program x a _ _ g
      (subst (λ k. IsInvoked old program x a (λ env. given env k (length a.params)) (λ env. given env (k + length a.params) (length a.choices))) e (says a t));
}

-- ---- the sorts of variables

instance_counted : (a : Action) → length (instance_sorts a) ≡ instance_count a
instance_counted a = omega (arith, length-append (param_sorts a) (choice_sorts a), length-map a.params (λ p. p.sort), length-map a.choices (λ c. c.sort))

module _ (program : Program) (keeps : Keeps typing_rules program) (sorts : List Sort) (step x : ℕ) (a : Action) (at : slice_get program.actions x ≡ Some a) where
  -- of one action
  module _ (e : sorts ≡ sorts_of program (Keep step x)) where
    keep_view : sorts ≡ existing_sorts (Layer (step - 1)) program ++ instance_sorts a
    keep_view = e ∙ keep_sorts program step x a at

    pub keep_front : (w : Existing) → w ≡ Layer (step - 1) → StandFrom sorts 0 (existing_sorts w program)
    keep_front w same = front_stand program keeps (Layer (step - 1)) sorts (instance_sorts a) keep_view w same

    pub keep_tail : (n : ℕ) → n ≡ lower_count program step → StandFrom sorts n (instance_sorts a)
    keep_tail n same = tail_stand program keeps (Layer (step - 1)) sorts (instance_sorts a) keep_view n same

    pub keep_small : length sorts < 2 ^ 32
    keep_small = omega (arith, whole_few program keeps (Layer (step - 1)) sorts (instance_sorts a) keep_view 32 (instance_long program keeps x a at))

    pub keep_limits : AreSorts sorts
    keep_limits = whole_are program keeps (Layer (step - 1)) sorts (instance_sorts a) keep_view (instance_are program keeps x a at)

    pub keep_long : length sorts ≡ lower_count program step + (length a.params + length a.choices)
    keep_long = omega (arith, whole_long program keeps (Layer (step - 1)) sorts (instance_sorts a) keep_view, instance_counted a)

  -- of its parameters alone
  module _ (e : sorts ≡ sorts_of program (Fire step x)) where
    fire_view : sorts ≡ existing_sorts (Layer (step - 1)) program ++ param_sorts a
    fire_view = e ∙ fire_sorts program step x a at

    params_long : length (param_sorts a) ≡ length a.params
    params_long = length-map a.params (λ p. p.sort)

    pub fire_front : (w : Existing) → w ≡ Layer (step - 1) → StandFrom sorts 0 (existing_sorts w program)
    fire_front w same = front_stand program keeps (Layer (step - 1)) sorts (param_sorts a) fire_view w same

    pub fire_tail : (n : ℕ) → n ≡ lower_count program step → StandFrom sorts n (param_sorts a)
    fire_tail n same = tail_stand program keeps (Layer (step - 1)) sorts (param_sorts a) fire_view n same

    pub fire_small : length sorts < 2 ^ 32
    fire_small = omega (arith, whole_few program keeps (Layer (step - 1)) sorts (param_sorts a) fire_view 32 (omega (arith, params_long, action_few program keeps x a at)))

    pub fire_limits : AreSorts sorts
    fire_limits = whole_are program keeps (Layer (step - 1)) sorts (param_sorts a) fire_view (param_sorts_are program keeps x a at)

    pub fire_long : length sorts ≡ lower_count program step + length a.params
    fire_long = omega (arith, whole_long program keeps (Layer (step - 1)) sorts (param_sorts a) fire_view, params_long)

  -- of two
  module _ (number y : ℕ) (b : Action) (bt : slice_get program.actions y ≡ Some b) (e : sorts ≡ sorts_of program (Pair number step x y)) where
    abbrev both : List Sort
    both = instance_sorts a ++ instance_sorts b

    pair_view : sorts ≡ existing_sorts (Layer (step - 1)) program ++ both
    pair_view = e ∙ pair_sorts program step x a at number y b bt

    both_long : length both ≡ instance_count a + instance_count b
    both_long = omega (arith, length-append (instance_sorts a) (instance_sorts b), instance_counted a, instance_counted b)

    pub pair_front : (w : Existing) → w ≡ Layer (step - 1) → StandFrom sorts 0 (existing_sorts w program)
    pair_front w same = front_stand program keeps (Layer (step - 1)) sorts both pair_view w same

    pair_tail : (n : ℕ) → n ≡ lower_count program step → StandFrom sorts n both
    pair_tail n same = tail_stand program keeps (Layer (step - 1)) sorts both pair_view n same

    pub pair_first : (n : ℕ) → n ≡ lower_count program step → StandFrom sorts n (instance_sorts a)
    pair_first n same = stand_front sorts n (instance_sorts a) (instance_sorts b) (pair_tail n same)

    pub pair_second : (n m : ℕ) → n ≡ lower_count program step → m ≡ instance_count a → StandFrom sorts (n + m) (instance_sorts b)
    pair_second n m same count = stand_past sorts n (instance_sorts a) (instance_sorts b) m (instance_counted a ∙ sym count) (pair_tail n same)

    pub pair_small : length sorts < 2 ^ 32
    pair_small =
        omega (
          arith,
          whole_few program keeps (Layer (step - 1)) sorts both pair_view 64
              (omega (arith, length-append (instance_sorts a) (instance_sorts b), instance_long program keeps x a at, instance_long program keeps y b bt)),
        )

    pub pair_limits : AreSorts sorts
    pair_limits = whole_are program keeps (Layer (step - 1)) sorts both pair_view (sorts_append (instance_sorts a) (instance_sorts b) (instance_are program keeps x a at) (instance_are program keeps y b bt))

    pub pair_long : length sorts ≡ lower_count program step + instance_count a + (length b.params + length b.choices)
    pair_long = omega (arith, whole_long program keeps (Layer (step - 1)) sorts both pair_view, both_long)

-- variables for an action's parameters
pub params_said : (ns : List Node) (sorts : List Sort) (a : Action) (ids : List ℕ) (first count at : ℕ) → first ≡ at → count ≡ length a.params → StandFrom sorts at (param_sorts a)
    → AreSaid ns ids (sorts_from sorts first count) (λ env. given env first count) → AreSaid ns ids (param_sorts a) (λ env. given env at (length a.params))
params_said ns sorts a ids first count at e f s said =
    subst (λ (ss : List Sort). AreSaid ns ids ss (λ env. given env at (length a.params))) (stand_counted sorts at (param_sorts a) (length a.params) (length-map a.params (λ p. p.sort)) s)
    (subst (λ k. AreSaid ns ids (sorts_from sorts at k) (λ env. given env at k)) f (subst (λ k. AreSaid ns ids (sorts_from sorts k count) (λ env. given env k count)) e said))
