-- A condition assumes just that all that is told is so, and that what is done stays done.
use Rattle.std.proofs.Common.{◌≡◌, ◌∙◌, ℕ, ◌+◌, ◌-◌, ◌≤◌, Bool, true, false, not, ◌&&◌, ◌||◌, if◌then◌else◌, List, [], ◌∷◌, ◌++◌, length, refl, sym, ap, ap₂}
use Rattle.std.specs.Prelude.{Option, None, Some, nat_eq, slice_get, codes}
use Rattle.std.specs.List.{list_all}
use Rattle.std.specs.Option.{option_map_or}
use Rattle.std.proofs.lemmas.Bool.{and_from, and_parts, and_right}
use Rattle.std.proofs.lemmas.List.Folds.{list_all-append}
use Rattle.civl_bits.specs.declared.value.Value.{Value}
use Rattle.civl_tree.specs.declared.action.Action.{Action}
use Rattle.civl_tree.specs.declared.program.Proc.{Proc}
use Rattle.civl_tree.specs.declared.program.Program.{Program}
use Rattle.civl_tree.specs.Numbering.{init_item, action_item, proc_item}
use Rattle.civl_firing.specs.declared.store.Store.{Store}
use Rattle.civl_firing.specs.Fired.{gate_holds}
use Rattle.civl_meaning.specs.Initial.{initial_permissions}
use Rattle.civl_meaning.specs.Permissions.{disjoint, of_globals as carried_by, of_params as carried_in, pairwise_disjoint}
use Rattle.civl_layers.specs.declared.cut.Cut.{Cut}
use Rattle.civl_layers.specs.Cuts.{proc_cuts}
use Rattle.civl_conditions.specs.declared.condition.Condition.TheVariants.{Start, Keep, Pair, Fire, Path, Block, Act}
use Rattle.civl_conditions.specs.declared.condition.Target.{Target}
use Rattle.civl_conditions.specs.footprints.Agreement.{exists_at}
use Rattle.civl_conditions.specs.paths.NoteValues.{note_values}
use Rattle.civl_conditions.specs.paths.Seen.{exists_near}
use Rattle.civl_conditions.specs.Assumed.{assumed, cut_invariant, note_holds, owned, refined_gate}
use Rattle.civl_conditions.specs.Invariants.{invariants_hold}
use Rattle.civl_conditions.specs.Permissions.{held_at, of_held}
use Rattle.civl_conditions.specs.Steps.{of_action, of_cut}
use Rattle.civl_conditions.specs.Targets.{target_owned}
use Rattle.civl_conditions.specs.Values.{Begun, Invoked, begun, count_of, instance_count, invoked, layout, store_of}
use Rattle.civl_assumptions.specs.Names.{of_globals, of_numbers, of_params, of_target, at_start}
use Rattle.civl_assumptions.specs.Assumptions.{Assumption, Init, Gate, NoGate, apart_of, assumptions, facts_at, gates_of, holds, names_at}
use Rattle.civl_assumptions.specs.Assumptions.{of_act, of_block, of_invariants, of_keep, of_pair, of_path, of_target_before, refined_gate_of, said_at}
use Rattle.civl_assumptions.specs.Laws.{AssumedIsListed, act_assumes, block_assumes, done_stays, holds_before, is_assumed, keep_assumes, pair_assumes, stays_done}
use Rattle.civl_assumptions.proofs.Few.{carriers, globals_few, held_few, join_few, params_few, start_few, target_few}
use Rattle.civl_assumptions.proofs.Hold.{all_so, and_true, apart_is, before_is, gate_is, invariants_are, no_gate_is, refined_gate_is, said_is}

-- ---- truths

swapped : (a b : Bool) → (a && b) ≡ (b && a)
swapped true b = sym (and_true b)
swapped false b = sym (and_right b false refl)

path_truth : (inv note gate done apart : Bool)
    → (inv && (note && (gate && (done && apart)))) ≡ (((inv && (note && gate)) && apart) && done)
path_truth true true true done apart = swapped done apart
path_truth true true false done apart = refl
path_truth true false gate done apart = refl
path_truth false note gate done apart = refl

behind_all : (done front apart before : Bool) → (apart ≡ true → front ≡ true)
    → ((done && front) && (apart && before)) ≡ ((apart && before) && done)
behind_all true front true before imp = ap (λ (b : Bool). b && before) (imp refl) ∙ sym (and_true before)
behind_all true front false before imp = and_right front false refl
behind_all false front apart before imp = sym (and_right (apart && before) false refl)

block_truth : (inv note gate done front apart before : Bool) → (apart ≡ true → front ≡ true)
    → ((inv && (note && (gate && (done && front)))) && (apart && before)) ≡ (((inv && (note && gate)) && (apart && before)) && done)
block_truth true true true done front apart before imp = behind_all done front apart before imp
block_truth true true false done front apart before imp = refl
block_truth true false gate done front apart before imp = refl
block_truth false note gate done front apart before imp = refl

pair_truth : (apart first second : Bool) → (apart && (first && second)) ≡ ((first && (second && true)) && apart)
pair_truth apart first second = swapped apart (first && second) ∙ ap (λ (b : Bool). (first && b) && apart) (sym (and_true second))

-- ---- some of what is disjoint

all_front : (p : List ℕ → Bool) (xs ys : List (List ℕ)) → list_all p (xs ++ ys) ≡ true → list_all p xs ≡ true
all_front p [] ys h = refl
all_front p (x ∷ xs) ys h = let k = and_parts (p x) (list_all p (xs ++ ys)) h in and_from (p x) (list_all p xs) k.0 (all_front p xs ys k.1)

front_apart : (xs ys : List (List ℕ)) → pairwise_disjoint (xs ++ ys) ≡ true → pairwise_disjoint xs ≡ true
front_apart [] ys h = refl
front_apart (x ∷ xs) ys h =
    let k = and_parts (list_all (disjoint x) (xs ++ ys)) (pairwise_disjoint (xs ++ ys)) h in
    and_from (list_all (disjoint x) xs) (pairwise_disjoint xs) (all_front (disjoint x) xs ys k.0) (front_apart xs ys k.1)

-- ---- what has a number

module _ (program : Program) where
  action_listed : (m : ℕ) (f : Action → Bool) (told : Action → List Assumption)
      → ((a : Action) → slice_get program.actions m ≡ Some a → f a ≡ all_so program (told a))
      → of_action program m true f ≡ all_so program (of_action program m [] told)
  action_listed m f told h = go (slice_get program.actions m) refl
    where
      go : (o : Option Action) → slice_get program.actions m ≡ o → option_map_or f o true ≡ all_so program (option_map_or told o [])
      go None e = refl
      go (Some a) e = h a e

  cut_listed : (q c : ℕ) (f : Proc → Cut → Bool) (told : Proc → Cut → List Assumption) (done : Proc → Cut → Bool)
      → ((proc : Proc) (cut : Cut) → slice_get program.procs q ≡ Some proc → f proc cut ≡ (all_so program (told proc cut) && done proc cut))
      → of_cut program q c true f ≡ (all_so program (of_cut program q c [] told) && of_cut program q c true done)
  cut_listed q c f told done h = go (slice_get program.procs q) refl
    where
      at : (proc : Proc) → slice_get program.procs q ≡ Some proc → (o : Option Cut)
          → option_map_or (f proc) o true ≡ (all_so program (option_map_or (told proc) o []) && option_map_or (done proc) o true)
      at proc e None = refl
      at proc e (Some cut) = h proc cut e

      go : (o : Option Proc) → slice_get program.procs q ≡ o
          → option_map_or (λ proc. option_map_or (f proc) (slice_get (proc_cuts proc) c) true) o true
          ≡ (all_so program (option_map_or (λ proc. option_map_or (told proc) (slice_get (proc_cuts proc) c) []) o [])
          && option_map_or (λ proc. option_map_or (done proc) (slice_get (proc_cuts proc) c) true) o true)
      go None e = refl
      go (Some proc) e = at proc e (slice_get (proc_cuts proc) c)

  -- ---- actions

  module _ (values : List Value) where
    -- K2
    keep_listed : (step m : ℕ) (a : Action) (inputs chosen : List Value) → slice_get program.actions m ≡ Some a
        → keep_assumes program (store_of (exists_at (step - 1)) program values) (record { action = a; inputs = inputs; chosen = chosen })
        ≡ all_so program (of_keep program step m (store_of (exists_at (step - 1)) program values) (record { action = a; inputs = inputs; chosen = chosen }))
    keep_listed step m a inputs chosen there =
        let test = exists_at (step - 1) in
        let g = store_of test program values in
        let lists = carried_by program.globals g.values ++ carried_in a.params inputs in
        let names = of_globals test program.globals ++ of_params (codes "X.") a.params in
        let fewer = join_few (carried_by program.globals g.values) (carried_in a.params inputs) (of_globals test program.globals) (of_params (codes "X.") a.params)
        (globals_few test program.globals values) (params_few (codes "X.") a.params inputs) in
        sym (
        list_all-append (holds program) (apart_of (action_item program m) 2 names lists) (Gate m g inputs ∷ [])
        ∙ ap₂ (λ (x y : Bool). x && y) (apart_is program (action_item program m) 2 names lists fewer)
        (and_true (holds program (Gate m g inputs)) ∙ gate_is program m a there g inputs)
        )

    -- K3 to K7
    second_is : (number n : ℕ) (b : Action) (g : Store) (inputs : List Value) → slice_get program.actions n ≡ Some b
        → holds program (if nat_eq number 7 then NoGate n g inputs else Gate n g inputs)
        ≡ (if nat_eq number 7 then not (gate_holds program.globals g b inputs) else gate_holds program.globals g b inputs)
    second_is number n b g inputs there =
        elim (nat_eq number 7) as (λ t. holds program (if t then NoGate n g inputs else Gate n g inputs)
        ≡ (if t then not (gate_holds program.globals g b inputs) else gate_holds program.globals g b inputs))
        [ true ↦ no_gate_is program n b there g inputs | false ↦ gate_is program n b there g inputs ]

    pair_listed : (number step m n : ℕ) (a b : Action) (ins chosen ins2 chosen2 : List Value)
        → slice_get program.actions m ≡ Some a → slice_get program.actions n ≡ Some b
        → pair_assumes program number (store_of (exists_at (step - 1)) program values)
        (record { action = a; inputs = ins; chosen = chosen }) (record { action = b; inputs = ins2; chosen = chosen2 })
        ≡ all_so program (of_pair program number step m n (store_of (exists_at (step - 1)) program values)
        (record { action = a; inputs = ins; chosen = chosen }) (record { action = b; inputs = ins2; chosen = chosen2 }))
    pair_listed number step m n a b ins chosen ins2 chosen2 there beside =
        let test = exists_at (step - 1) in
        let g = store_of test program values in
        let x : Invoked = record { action = a; inputs = ins; chosen = chosen } in
        let y : Invoked = record { action = b; inputs = ins2; chosen = chosen2 } in
        let lists = carried_by program.globals g.values ++ (carried_in a.params ins ++ carried_in b.params ins2) in
        let names = of_globals test program.globals ++ (of_params (codes "X.") a.params ++ of_params (codes "Y.") b.params) in
        let fewer = join_few (carried_by program.globals g.values) (carried_in a.params ins ++ carried_in b.params ins2)
        (of_globals test program.globals) (of_params (codes "X.") a.params ++ of_params (codes "Y.") b.params)
        (globals_few test program.globals values)
        (join_few (carried_in a.params ins) (carried_in b.params ins2) (of_params (codes "X.") a.params) (of_params (codes "Y.") b.params)
        (params_few (codes "X.") a.params ins) (params_few (codes "Y.") b.params ins2)) in
        let second = if nat_eq number 7 then not (gate_holds program.globals g b ins2) else gate_holds program.globals g b ins2 in
        let gates : all_so program (gates_of number m n g x y) ≡ (gate_holds program.globals g a ins && (second && true)) =
        ap₂ (λ (s t : Bool). s && (t && true)) (gate_is program m a there g ins) (second_is number n b g ins2 beside) in
        pair_truth (pairwise_disjoint lists) (gate_holds program.globals g a ins) second
        ∙ sym (
        list_all-append (holds program) (gates_of number m n g x y) (apart_of (action_item program m) 2 names lists)
        ∙ ap₂ (λ (s t : Bool). s && t) gates (apart_is program (action_item program m) 2 names lists fewer)
        )

    -- K11
    act_listed : (step m : ℕ) (a : Action) (inputs chosen : List Value) (aim : Target) (at : ℕ) → slice_get program.actions m ≡ Some a
        → act_assumes program step (store_of (exists_near step) program values) (record { action = a; inputs = inputs; chosen = chosen }) aim values at
        ≡ all_so program (of_act program step m (store_of (exists_near step) program values) (record { action = a; inputs = inputs; chosen = chosen }) aim values at)
    act_listed step m a inputs chosen aim at there =
        let test = exists_near step in
        let g = store_of test program values in
        let behind = carried_in a.params inputs ++ target_owned program aim values at in
        let names_behind = of_params (codes "X.") a.params ++ of_target program aim in
        let lists = carried_by program.globals g.values ++ behind in
        let names = of_globals test program.globals ++ names_behind in
        let fewer = join_few (carried_by program.globals g.values) behind (of_globals test program.globals) names_behind
        (globals_few test program.globals values)
        (join_few (carried_in a.params inputs) (target_owned program aim values at) (of_params (codes "X.") a.params) (of_target program aim)
        (params_few (codes "X.") a.params inputs) (target_few program aim values at)) in
        let apart = apart_of (action_item program m) 2 names lists in
        let before = of_target_before program aim values at g in
        sym (
        list_all-append (holds program) (of_invariants program step g) (Gate m g inputs ∷ (apart ++ before))
        ∙ ap₂ (λ (s t : Bool). s && t) (invariants_are program step g) (
        ap₂ (λ (s t : Bool). s && t) (gate_is program m a there g inputs) (
        list_all-append (holds program) apart before
        ∙ ap₂ (λ (s t : Bool). s && t) (apart_is program (action_item program m) 2 names lists fewer) (before_is program aim values at g)
        ))
        )

  -- ---- cuts

  module _ (step q : ℕ) (proc : Proc) (there : slice_get program.procs q ≡ Some proc) (cut : Cut) (b : Begun) where
    facts_are : all_so program (facts_at program step q proc cut b)
        ≡ (invariants_hold program step b.old
        && (note_holds (note_values program.globals proc b.store b.locals b.done b.old b.old_outs b.old_done) (cut_invariant proc cut)
        && (b.old_done || refined_gate program proc b)))
    facts_are =
        list_all-append (holds program) (of_invariants program step b.old) (said_at program q proc cut b ++ refined_gate_of program proc b)
        ∙ ap₂ (λ (s t : Bool). s && t) (invariants_are program step b.old) (
        list_all-append (holds program) (said_at program q proc cut b) (refined_gate_of program proc b)
        ∙ ap₂ (λ (s t : Bool). s && t) (said_is program q proc cut b there) (refined_gate_is program proc b))

  module _ (step q c : ℕ) (proc : Proc) (there : slice_get program.procs q ≡ Some proc) (cut : Cut) (values : List Value) where
    abbrev b : Begun
    b = begun program step proc cut values

    abbrev inv : Bool
    inv = invariants_hold program step b.old

    abbrev said : Bool
    said = note_holds (note_values program.globals proc b.store b.locals b.done b.old b.old_outs b.old_done) (cut_invariant proc cut)

    abbrev gate : Bool
    gate = b.old_done || refined_gate program proc b

    owned_few : carriers (owned program proc c b) ≤ length (names_at program step proc c)
    owned_few =
        join_few (carried_by program.globals b.store.values) (of_held (held_at program proc c) b.locals)
        (of_globals (exists_near step) program.globals) (of_numbers [] proc (held_at program proc c))
        (globals_few (exists_near step) program.globals values) (held_few [] proc (held_at program proc c) b.locals)

    -- K9
    path_listed : assumed program step proc c cut b ≡ (all_so program (of_path program step q c proc cut b) && stays_done b)
    path_listed =
        let lists = owned program proc c b in
        let apart = apart_of (proc_item program q) 2 (names_at program step proc c) lists in
        path_truth inv said gate (stays_done b) (pairwise_disjoint lists)
        ∙ ap (λ (x : Bool). x && stays_done b) (
        sym (
        list_all-append (holds program) (facts_at program step q proc cut b) apart
        ∙ ap₂ (λ (s t : Bool). s && t) (facts_are step q proc there cut b)
        (apart_is program (proc_item program q) 2 (names_at program step proc c) lists owned_few)
        ))

    -- K10
    block_listed : (aim : Target) (at : ℕ)
        → block_assumes program step proc c cut b aim values at ≡ (all_so program (of_block program step q c aim values proc cut b at) && stays_done b)
    block_listed aim at =
        let lists = owned program proc c b ++ target_owned program aim values at in
        let names = names_at program step proc c ++ of_target program aim in
        let fewer = join_few (owned program proc c b) (target_owned program aim values at) (names_at program step proc c) (of_target program aim)
        owned_few (target_few program aim values at) in
        let apart = apart_of (proc_item program q) 2 names lists in
        let before = of_target_before program aim values at b.old in
        block_truth inv said gate (stays_done b) (pairwise_disjoint (owned program proc c b)) (pairwise_disjoint lists) (holds_before program aim values at b.old)
        (front_apart (owned program proc c b) (target_owned program aim values at))
        ∙ ap (λ (x : Bool). x && stays_done b) (
        sym (
        list_all-append (holds program) (facts_at program step q proc cut b) (apart ++ before)
        ∙ ap₂ (λ (s t : Bool). s && t) (facts_are step q proc there cut b) (
        list_all-append (holds program) apart before
        ∙ ap₂ (λ (s t : Bool). s && t) (apart_is program (proc_item program q) 2 names lists fewer) (before_is program aim values at b.old)
        )
        ))

-- ---- all

abbrev lower : Program → ℕ → List Value → Action → Invoked
lower program step values a = invoked values (count_of (exists_at (step - 1)) program) a

pub assumed_is_listed : AssumedIsListed
unfolding assumptions is_assumed done_stays
assumed_is_listed program (Start step i) values =
    let g : Store = record { values = values } in
    sym (
    and_true (all_so program (Init g ∷ apart_of (init_item program) 1 (at_start program) (initial_permissions program g)))
    ∙ ap (λ (x : Bool). holds program (Init g) && x) (apart_is program (init_item program) 1 (at_start program) (initial_permissions program g) (start_few program g))
    )
assumed_is_listed program (Keep step m) values =
    action_listed program m _ _ (λ a there. let x = lower program step values a in keep_listed program values step m a x.inputs x.chosen there) ∙ sym (and_true _)
assumed_is_listed program (Pair number step m n) values =
    action_listed program m _ _ (λ a there. action_listed program n _ _ (λ b beside.
    let x = lower program step values a in
    let y = invoked values (count_of (exists_at (step - 1)) program + instance_count a) b in
    pair_listed program values number step m n a b x.inputs x.chosen y.inputs y.chosen there beside)) ∙ sym (and_true _)
assumed_is_listed program (Fire step m) values =
    action_listed program m _ _ (λ a there. sym (and_true _ ∙ gate_is program m a there _ _)) ∙ sym (and_true _)
assumed_is_listed program (Path part step q c) values =
    cut_listed program q c _ _ _ (λ proc cut there. path_listed program step q c proc there cut values)
assumed_is_listed program (Block step q c aim) values =
    cut_listed program q c _ _ _ (λ proc cut there. block_listed program step q c proc there cut values aim (layout program step proc cut).behind)
assumed_is_listed program (Act step m aim) values =
    action_listed program m _ _ (λ a there.
    let x = invoked values (count_of (exists_near step) program) a in
    act_listed program values step m a x.inputs x.chosen aim (count_of (exists_near step) program + instance_count a) there) ∙ sym (and_true _)
