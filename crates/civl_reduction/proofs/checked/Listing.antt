-- The conditions on an action are listed.
use Rattle.std.proofs.Common.{ℕ, ◌≤◌, ◌≡◌, Bool, true, ◌&&◌, if◌then◌else◌, List, [], ◌∷◌, ◌++◌, Some, slice_get, ap, ◌∙◌, arith, Contains}
use Rattle.std.proofs.lemmas.List.Elements.{Contains-append_left, Contains-append_right}
use Rattle.civl_tree.specs.declared.action.Action.{Action}
use Rattle.civl_tree.specs.declared.program.Program.{Program}
use Rattle.civl_tree.proofs.Pairs.{contains_there, contains_here}
use Rattle.civl_conditions.specs.declared.condition.Condition.{Condition}
use Rattle.civl_conditions.specs.declared.condition.Condition.TheVariants.{Keep, Pair, Fire}
use Rattle.civl_conditions.specs.Steps.{each_at, begins_below, meet_below}
use Rattle.civl_layers.specs.Movers.{is_left, is_right}
use Rattle.civl_conditions.specs.Listed.{starts, keeps, pair_of, fire_of, movers, paths, blocks, acts, conditions}
use Rattle.civl_conditions.proofs.Contained.{shown, in_each, at_a_step}

-- ---- conditions

module _ (program : Program) (step : ℕ) (low : 1 ≤ step) (high : step ≤ program.layers) where
  rest : List Condition
  rest = paths program step ++ (blocks program step ++ acts program step)

  pub keep_listed : (x : ℕ) (a : Action) → slice_get program.actions x ≡ Some a → begins_below step a ≡ true → Contains (conditions program) (Keep step x)
  unfolding rest
  keep_listed x a e b =
      let one = in_each (λ n c. if begins_below step c then Keep step n ∷ [] else []) 0 program.actions x x a (Keep step x) e (omega arith) (shown (begins_below step a) (Keep step x) (Keep step x ∷ []) b (contains_here (Keep step x) [])) in
      at_a_step program step low high (Keep step x) (Contains-append_right (starts program step) (keeps program step ++ (movers program step ++ rest)) (Keep step x) (Contains-append_left (keeps program step) (movers program step ++ rest) (Keep step x) one))

  of_movers : (c : Condition) → Contains (movers program step) c → Contains (conditions program) c
  unfolding rest
  of_movers c h = at_a_step program step low high c (Contains-append_right (starts program step) (keeps program step ++ (movers program step ++ rest)) c (Contains-append_right (keeps program step) (movers program step ++ rest) c (Contains-append_left (movers program step) rest c h)))

  module _ (x y : ℕ) (a b : Action) (there : slice_get program.actions x ≡ Some a) (also : slice_get program.actions y ≡ Some b) (meet : meet_below step a b ≡ true) where
    rights : List Condition
    rights = if is_right a.mover then Pair 3 step x y ∷ (Pair 4 step x y ∷ []) else []

    lefts : List Condition
    lefts = if is_left a.mover then Pair 5 step x y ∷ (Pair 6 step x y ∷ (Pair 7 step x y ∷ [])) else []

    of_pair : (c : Condition) → Contains (rights ++ lefts) c → Contains (conditions program) c
    unfolding rights lefts
    of_pair c h =
        let one = in_each (pair_of step x a) 0 program.actions y y b c also (omega arith) (shown (meet_below step a b) c (rights ++ lefts) meet h) in
        of_movers c (in_each (λ n d. each_at (pair_of step n d) 0 program.actions ++ fire_of step n d) 0 program.actions x x a c there (omega arith) (Contains-append_left (each_at (pair_of step x a) 0 program.actions) (fire_of step x a) c one))

    of_right : is_right a.mover ≡ true → (c : Condition) → Contains (Pair 3 step x y ∷ (Pair 4 step x y ∷ [])) c → Contains (conditions program) c
    unfolding rights
    of_right r c h = of_pair c (Contains-append_left rights lefts c (shown (is_right a.mover) c (Pair 3 step x y ∷ (Pair 4 step x y ∷ [])) r h))

    of_left : is_left a.mover ≡ true → (c : Condition) → Contains (Pair 5 step x y ∷ (Pair 6 step x y ∷ (Pair 7 step x y ∷ []))) c → Contains (conditions program) c
    unfolding lefts
    of_left l c h = of_pair c (Contains-append_right rights lefts c (shown (is_left a.mover) c (Pair 5 step x y ∷ (Pair 6 step x y ∷ (Pair 7 step x y ∷ []))) l h))

    pub third_listed : is_right a.mover ≡ true → Contains (conditions program) (Pair 3 step x y)
    third_listed r = of_right r (Pair 3 step x y) (contains_here (Pair 3 step x y) (Pair 4 step x y ∷ []))

    pub fourth_listed : is_right a.mover ≡ true → Contains (conditions program) (Pair 4 step x y)
    fourth_listed r = of_right r (Pair 4 step x y) (contains_there (Pair 3 step x y) (Pair 4 step x y ∷ []) (Pair 4 step x y) (contains_here (Pair 4 step x y) []))

    pub fifth_listed : is_left a.mover ≡ true → Contains (conditions program) (Pair 5 step x y)
    fifth_listed l = of_left l (Pair 5 step x y) (contains_here (Pair 5 step x y) (Pair 6 step x y ∷ (Pair 7 step x y ∷ [])))

    pub sixth_listed : is_left a.mover ≡ true → Contains (conditions program) (Pair 6 step x y)
    sixth_listed l = of_left l (Pair 6 step x y) (contains_there (Pair 5 step x y) (Pair 6 step x y ∷ (Pair 7 step x y ∷ [])) (Pair 6 step x y) (contains_here (Pair 6 step x y) (Pair 7 step x y ∷ [])))

    pub seventh_listed : is_left a.mover ≡ true → Contains (conditions program) (Pair 7 step x y)
    seventh_listed l = of_left l (Pair 7 step x y) (contains_there (Pair 5 step x y) (Pair 6 step x y ∷ (Pair 7 step x y ∷ [])) (Pair 7 step x y) (contains_there (Pair 6 step x y) (Pair 7 step x y ∷ []) (Pair 7 step x y) (contains_here (Pair 7 step x y) [])))

  pub fire_listed : (x : ℕ) (a : Action) → slice_get program.actions x ≡ Some a → is_left a.mover ≡ true → begins_below step a ≡ true → Contains (conditions program) (Fire step x)
  fire_listed x a e l b =
      let both : (is_left a.mover && begins_below step a) ≡ true = ap (λ (g : Bool). g && begins_below step a) l ∙ b in
      let one = shown (is_left a.mover && begins_below step a) (Fire step x) (Fire step x ∷ []) both (contains_here (Fire step x) []) in
      of_movers (Fire step x) (in_each (λ n d. each_at (pair_of step n d) 0 program.actions ++ fire_of step n d) 0 program.actions x x a (Fire step x) e (omega arith) (Contains-append_right (each_at (pair_of step x a) 0 program.actions) (fire_of step x a) (Fire step x) one))
