-- The values that the variables of a condition on actions have in a state, and what they give back.
use Rattle.std.proofs.Common.{◌≡◌, ℕ, ◌+◌, Bool, true, false, List, [], ◌∷◌, ◌++◌, map, filter, length, take, refl, sym, ap, ◌∙◌, subst}
use Rattle.std.specs.Prelude.{if◌then◌else◌}
use Rattle.std.proofs.lemmas.Bool.{false≢true, true≢false}
use Rattle.std.proofs.lemmas.List.{length-map, length-append, map-append, append-nil, append_assoc, take_at, drop_at}
use Rattle.civl_bits.specs.declared.value.Value.{Value}
use Rattle.civl_firing.specs.values.Values.{HaveSorts, zero_of}
use Rattle.civl_tree.specs.declared.name.Name.{Name}
use Rattle.civl_tree.specs.declared.expr.Sort.{Sort}
use Rattle.civl_tree.specs.declared.program.Global.{Global}
use Rattle.civl_tree.specs.declared.program.Program.{Program}
use Rattle.civl_firing.proofs.Having.{no_sorts, more_sorts, first_sort, rest_sorts, have_length, have_more}
use Rattle.civl_conditions.specs.footprints.Agreement.{AgreeOn}
use Rattle.civl_conditions.specs.declared.condition.Variable.{Variable}
use Rattle.civl_conditions.specs.Variables.{variable, of_globals, of_params, of_instance}
use Rattle.civl_conditions.specs.Values.{Invoked, part, spread, invoked}
use Rattle.civl_condition_laws.specs.States.{IsInvoked}

-- ---- sorts

-- values for variables, one of its sort for each
abbrev pub Fit : List Value → List Variable → Type 0
Fit values variables = HaveSorts values (map (λ v. v.sort) variables)

pub fit_more : (vs ws : List Value) (us ts : List Variable) → Fit vs us → Fit ws ts → Fit (vs ++ ws) (us ++ ts)
fit_more vs ws us ts h k = subst (HaveSorts (vs ++ ws)) (sym (map-append (λ v. v.sort) us ts)) (have_more vs ws (map (λ v. v.sort) us) (map (λ v. v.sort) ts) h k)

-- those of some declarations
pub sorts_named : {A : Type 0} (name_of : A → Name) (sort_at : A → Sort) (front : List ℕ) (xs : List A) → map (λ v. v.sort) (map (λ x. variable front (name_of x) (sort_at x)) xs) ≡ map sort_at xs
sorts_named name_of sort_at front [] = refl
sorts_named name_of sort_at front (x ∷ xs) = ap (λ (ss : List Sort). sort_at x ∷ ss) (sorts_named name_of sort_at front xs)

pub fit_named : {A : Type 0} (name_of : A → Name) (sort_at : A → Sort) (front : List ℕ) (xs : List A) (vs : List Value) → HaveSorts vs (map sort_at xs) → Fit vs (map (λ x. variable front (name_of x) (sort_at x)) xs)
fit_named name_of sort_at front xs vs h = subst (HaveSorts vs) (sym (sorts_named name_of sort_at front xs)) h

-- ---- globals

-- the values of the globals that pass the test
abbrev pub kept : (Global → Bool) → List Global → List Value → List Value
kept test [] vs = []
kept test (g ∷ gs) [] = []
kept test (g ∷ gs) (v ∷ vs) = if test g then v ∷ kept test gs vs else kept test gs vs

module _ (test : Global → Bool) where
  kept_have : (gs : List Global) (vs : List Value) → HaveSorts vs (map (λ g. g.sort) gs) → HaveSorts (kept test gs vs) (map (λ g. g.sort) (filter test gs))
  kept_have [] [] h = no_sorts
  kept_have [] (v ∷ vs) h = absurd (false≢true h.are)
  kept_have (g ∷ gs) [] h = absurd (false≢true h.are)
  kept_have (g ∷ gs) (v ∷ vs) h = go (test g) (kept_have gs vs (rest_sorts v g.sort vs (map (λ g. g.sort) gs) h))
    where
      go : (b : Bool) → HaveSorts (kept test gs vs) (map (λ g. g.sort) (filter test gs)) →
          HaveSorts (if b then v ∷ kept test gs vs else kept test gs vs) (map (λ g. g.sort) (if b then g ∷ filter test gs else filter test gs))
      go true k = more_sorts v g.sort (kept test gs vs) (map (λ g. g.sort) (filter test gs)) (first_sort v g.sort vs (map (λ g. g.sort) gs) h) k
      go false k = k

  -- in the store that these values give, those globals are as they were
  spread_on : (g : Global) (gs : List Global) (v : Value) (us : List Value) → test g ≡ true → spread test (g ∷ gs) (v ∷ us) ≡ v ∷ spread test gs us
  spread_on g gs v us e = ap (λ (b : Bool). if b then v ∷ spread test gs us else zero_of g.sort ∷ spread test gs (v ∷ us)) e

  spread_past : (g : Global) (gs : List Global) (us : List Value) → test g ≡ false → spread test (g ∷ gs) us ≡ zero_of g.sort ∷ spread test gs us
  spread_past g gs [] e = refl
  spread_past g gs (u ∷ us) e = ap (λ (b : Bool). if b then u ∷ spread test gs us else zero_of g.sort ∷ spread test gs (u ∷ us)) e

  pub spread_agrees : (gs : List Global) (vs rest : List Value) → HaveSorts vs (map (λ g. g.sort) gs) → AgreeOn test gs vs (spread test gs (kept test gs vs ++ rest))
  spread_agrees [] [] rest h = tt
  spread_agrees [] (v ∷ vs) rest h = absurd (false≢true h.are)
  spread_agrees (g ∷ gs) [] rest h = absurd (false≢true h.are)
  spread_agrees (g ∷ gs) (v ∷ vs) rest h = go (test g) refl (spread_agrees gs vs rest (rest_sorts v g.sort vs (map (λ g. g.sort) gs) h))
    where
      go : (b : Bool) → test g ≡ b → AgreeOn test gs vs (spread test gs (kept test gs vs ++ rest)) →
          AgreeOn test (g ∷ gs) (v ∷ vs) (spread test (g ∷ gs) ((if test g then v ∷ kept test gs vs else kept test gs vs) ++ rest))
      go true e a =
          subst (AgreeOn test (g ∷ gs) (v ∷ vs))
          (sym (ap (λ (b : Bool). spread test (g ∷ gs) ((if b then v ∷ kept test gs vs else kept test gs vs) ++ rest)) e ∙ spread_on g gs v (kept test gs vs ++ rest) e))
          (λ passes. refl, a)
      go false e a =
          subst (AgreeOn test (g ∷ gs) (v ∷ vs))
          (sym (ap (λ (b : Bool). spread test (g ∷ gs) ((if b then v ∷ kept test gs vs else kept test gs vs) ++ rest)) e ∙ spread_past g gs (kept test gs vs ++ rest) e))
          (λ passes. absurd (true≢false (sym passes ∙ e)), a)

  pub kept_fit : (front : List ℕ) (gs : List Global) (vs : List Value) → HaveSorts vs (map (λ g. g.sort) gs) → Fit (kept test gs vs) (of_globals front (filter test gs))
  kept_fit front gs vs h = fit_named (λ g. g.name) (λ g. g.sort) front (filter test gs) (kept test gs vs) (kept_have gs vs h)

  pub kept_length : (gs : List Global) (vs : List Value) → HaveSorts vs (map (λ g. g.sort) gs) → length (kept test gs vs) ≡ length (filter test gs)
  kept_length gs vs h = have_length (kept test gs vs) (map (λ g. g.sort) (filter test gs)) (kept_have gs vs h) ∙ length-map (filter test gs) (λ g. g.sort)

-- ---- actions

-- the values of an action with inputs and choices
abbrev pub instance_of : Invoked → List Value
instance_of x = x.inputs ++ x.chosen

pub part_is : (before middle behind : List Value) (at count : ℕ) → length before ≡ at → length middle ≡ count → part (before ++ (middle ++ behind)) at count ≡ middle
part_is before middle behind at count e f = ap (take count) (drop_at before (middle ++ behind) at e) ∙ take_at middle behind count f

module _ (program : Program) (number : ℕ) (x : Invoked) (is : IsInvoked program number x) where
  pub inputs_length : length x.inputs ≡ length x.action.params
  inputs_length = have_length x.inputs (map (λ p. p.sort) x.action.params) is.inputs ∙ length-map x.action.params (λ p. p.sort)

  chosen_length : length x.chosen ≡ length x.action.choices
  chosen_length = have_length x.chosen (map (λ c. c.sort) x.action.choices) is.chosen ∙ length-map x.action.choices (λ c. c.sort)

  pub inputs_fit : (front : List ℕ) → Fit x.inputs (of_params front x.action.params)
  inputs_fit front = fit_named (λ p. p.name) (λ p. p.sort) front x.action.params x.inputs is.inputs

  pub instance_fit : (front : List ℕ) → Fit (instance_of x) (of_instance front x.action)
  instance_fit front = fit_more x.inputs x.chosen (of_params front x.action.params) _ (inputs_fit front) (fit_named (λ c. c.name) (λ c. c.sort) front x.action.choices x.chosen is.chosen)

  pub instance_length : length (instance_of x) ≡ length x.action.params + length x.action.choices
  instance_length = length-append x.inputs x.chosen ∙ (ap (λ (n : ℕ). n + length x.chosen) inputs_length ∙ ap (λ (n : ℕ). length x.action.params + n) chosen_length)

  -- where these values stand, they give the action with its inputs and choices
  pub invoked_is : (before behind : List Value) (at : ℕ) → length before ≡ at → invoked (before ++ (instance_of x ++ behind)) at x.action ≡ x
  invoked_is before behind at e = both (part values at (length x.action.params)) (part values (at + length x.action.params) (length x.action.choices)) inputs_there chosen_there
    where
      values : List Value
      values = before ++ (instance_of x ++ behind)

      inputs_there : part values at (length x.action.params) ≡ x.inputs
      inputs_there = ap (λ (vs : List Value). part (before ++ vs) at (length x.action.params)) (append_assoc x.inputs x.chosen behind) ∙ part_is before x.inputs (x.chosen ++ behind) at (length x.action.params) e inputs_length

      chosen_there : part values (at + length x.action.params) (length x.action.choices) ≡ x.chosen
      chosen_there =
          ap (λ (vs : List Value). part vs (at + length x.action.params) (length x.action.choices))
          (ap (λ (vs : List Value). before ++ vs) (append_assoc x.inputs x.chosen behind) ∙ sym (append_assoc before x.inputs (x.chosen ++ behind)))
          ∙ part_is (before ++ x.inputs) x.chosen behind (at + length x.action.params) (length x.action.choices)
          (length-append before x.inputs ∙ (ap (λ (n : ℕ). n + length x.inputs) e ∙ ap (λ (n : ℕ). at + n) inputs_length)) chosen_length

      both : (is cs : List Value) → is ≡ x.inputs → cs ≡ x.chosen → record { action = x.action; inputs = is; chosen = cs } ≡ x
      both is cs p q =
          ap (λ (i : List Value). record { action = x.action; inputs = i; chosen = cs }) p ∙ ap (λ (c : List Value). record { action = x.action; inputs = x.inputs; chosen = c }) q

  pub last_is : (before : List Value) (at : ℕ) → length before ≡ at → invoked (before ++ instance_of x) at x.action ≡ x
  last_is before at e = ap (λ (vs : List Value). invoked (before ++ vs) at x.action) (sym (append-nil (instance_of x))) ∙ invoked_is before [] at e

  pub last_inputs : (before : List Value) (at : ℕ) → length before ≡ at → part (before ++ x.inputs) at (length x.action.params) ≡ x.inputs
  last_inputs before at e = ap (λ (vs : List Value). part (before ++ vs) at (length x.action.params)) (sym (append-nil x.inputs)) ∙ part_is before x.inputs [] at (length x.action.params) e inputs_length
