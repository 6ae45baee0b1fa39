-- The terms at the beginning of a path say what its values give.
use Rattle.std.specs.Prelude.{map, take, drop, filter, if◌then◌else◌, All, IsTrue, Contains, codes}
use Rattle.std.proofs.Common.{◌≡◌, ◌∙◌, ℕ, ◌+◌, ◌-◌, ◌≤◌, Bool, true, false, not, List, [], ◌∷◌, ◌++◌, length, refl, sym, ap, ap₂, subst, arith, inl, inr, Some}
use Rattle.std.proofs.lemmas.List.{length-map, map-append}
use Rattle.std.proofs.lemmas.List.Elements.{All-append}
use Rattle.civl_bits.specs.declared.value.Value.{Value}
use Rattle.civl_tree.specs.declared.expr.Sort.{Sort}
use Rattle.civl_tree.specs.declared.expr.Sort.TheVariants.{Bool as Truth}
use Rattle.civl_tree.specs.declared.action.Action.{Action}
use Rattle.civl_tree.specs.declared.action.Param.{Param}
use Rattle.civl_tree.specs.declared.action.Choice.{Choice}
use Rattle.civl_tree.specs.declared.stmt.Stmt.{Stmt, out-Stmt}
use Rattle.civl_tree.specs.declared.stmt.Stmt.TheOpen as stmt
use Rattle.civl_tree.specs.declared.program.Global.{Global}
use Rattle.civl_tree.specs.declared.program.Local.{Local}
use Rattle.civl_tree.specs.declared.program.Proc.{Proc}
use Rattle.civl_tree.specs.declared.program.Program.{Program}
use Rattle.civl_tree.specs.Numbering.{statement_at}
use Rattle.civl_tree.specs.rules.Uses.{param_sorts}
use Rattle.civl_tree.specs.rules.StoreSize.{bits_of}
use Rattle.civl_firing.specs.values.Values.{is_true}
use Rattle.civl_meaning.specs.Meaning.{Meaning, Does, Runs, Missing, called}
use Rattle.civl_meaning.specs.declared.config.Plain.{Plain}
use Rattle.civl_meaning.specs.Layers.{program_at}
use Rattle.civl_meaning.specs.Config.{frame_sorts}
use Rattle.civl_terms.specs.declared.node.Node.{Node}
use Rattle.civl_terms.specs.Building.{Lengthens}
use Rattle.civl_layers.specs.declared.cut.Cut.{Cut}
use Rattle.civl_conditions.specs.paths.Ends.{is_entry, is_rank_loop}
use Rattle.civl_conditions.specs.paths.Seen.{exists_near}
use Rattle.civl_conditions.specs.paths.Flows.{flow_from}
use Rattle.civl_conditions.specs.paths.Choices.{layer_action, action_meant}
use Rattle.civl_conditions.proofs.paths.Standing.{Stand, passed_stand}
use Rattle.civl_conditions.specs.declared.condition.Variable.{Variable}
use Rattle.civl_conditions.specs.Variables.{where_has, near_globals, of_params, of_locals, of_choices, of_globals, call_front, flag, passed_choices, of_passed, path_variables, layer_choices, choices_of}
use Rattle.civl_conditions.specs.Values.{Layout, layout, where_so, count_of, store_of, part, flag_at, Begun, begun}
use Rattle.civl_conditions.specs.Weights.{bits_of_variables}
use Rattle.civl_states.specs.formula_parts.Said.{Env, IsTest}
use Rattle.civl_states.specs.formula_parts.Lists.{AreSaid}
use Rattle.civl_states.specs.formula_parts.Given.{given, bits_of_sorts}
use Rattle.civl_states.proofs.formula_parts.Giving.{bits-append}
use Rattle.civl_states.specs.declared.beginning_places.Places.{Places}
use Rattle.civl_states.specs.declared.stores.Existing.TheVariants.{Near}
use Rattle.civl_states.specs.Existing.{existing_sorts}
use Rattle.civl_states.specs.Groups.{StandFrom}
use Rattle.civl_states.specs.Laying.{AreLaid, StandGroups, sorts_where, inner_sorts, call_sorts, path_sorts, near_store, begun_locals, begun_outs, begun_done, begun_old_done, frame_bits, with_some, AreChosen}
use Rattle.civl_states.proofs.Given.{stand_front, stand_past, part_given, get_given, spread_taken}
use Rattle.civl_tree.specs.rules.Rules.{Keeps}
use Rattle.civl_tree.specs.rules.Typing.{typing_rules}
use Rattle.civl_tree.proofs.Pairs.{contains_nil, contains_cons}
use Rattle.civl_firing.specs.values.Values.{is_sort}
use Rattle.civl_actions.proofs.Staying.{sorted_within}
use Rattle.civl_states.proofs.formula_parts.Saying.{test_as}
use Rattle.civl_states.specs.declared.beginning.Beginning.{Beginning}
use Rattle.civl_states.specs.Notes.{IsProcIn}
use Rattle.civl_states.specs.Stores.{AreStore, global_sorts}
use Rattle.civl_states.specs.Beginnings.{AreBegun, CanBegin, chosen_at}
use Rattle.civl_states.proofs.Calling.{chosen_found}
use Rattle.civl_states.proofs.Limits.{proc_out_sorts_are, local_sorts_are}
use Rattle.civl_states.proofs.Laying.{inner_long}

-- ---- the sorts of the variables

abbrev pub sorts_of : List Variable → List Sort
sorts_of vs = map (λ v. v.sort) vs

sorts_has : (b : Bool) (vs : List Variable) → sorts_of (where_has b vs) ≡ sorts_where b (sorts_of vs)
sorts_has true vs = refl
sorts_has false vs = refl

pub globals_sorts : (front : List ℕ) (gs : List Global) → sorts_of (of_globals front gs) ≡ map (λ g. g.sort) gs
globals_sorts front [] = refl
globals_sorts front (g ∷ gs) = ap (λ ss. g.sort ∷ ss) (globals_sorts front gs)

pub params_sorts : (front : List ℕ) (ps : List Param) → sorts_of (of_params front ps) ≡ param_sorts ps
params_sorts front [] = refl
params_sorts front (p ∷ ps) = ap (λ ss. p.sort ∷ ss) (params_sorts front ps)

pub locals_sorts : (front : List ℕ) (ls : List Local) → sorts_of (of_locals front ls) ≡ map (λ l. l.sort) ls
locals_sorts front [] = refl
locals_sorts front (l ∷ ls) = ap (λ ss. l.sort ∷ ss) (locals_sorts front ls)

pub choices_sorts : (front : List ℕ) (cs : List Choice) → sorts_of (of_choices front cs) ≡ map (λ c. c.sort) cs
choices_sorts front [] = refl
choices_sorts front (c ∷ cs) = ap (λ ss. c.sort ∷ ss) (choices_sorts front cs)

passed_sorts : (qs : List (ℕ × List Choice)) → sorts_of (of_passed qs) ≡ call_sorts qs
passed_sorts [] = refl
passed_sorts (q ∷ qs) = map-append (λ v. v.sort) (of_choices (call_front q.0) q.1) (of_passed qs) ∙ ap₂ (λ (ss ts : List Sort). ss ++ ts) (choices_sorts (call_front q.0) q.1) (passed_sorts qs)

pub join : (xs ys : List Variable) (ss ts : List Sort) → sorts_of xs ≡ ss → sorts_of ys ≡ ts → sorts_of (xs ++ ys) ≡ ss ++ ts
join xs ys ss ts p q = map-append (λ v. v.sort) xs ys ∙ ap₂ (λ (us vs : List Sort). us ++ vs) p q

has : (b : Bool) (vs : List Variable) (ss : List Sort) → sorts_of vs ≡ ss → sorts_of (where_has b vs) ≡ sorts_where b ss
has b vs ss e = sorts_has b vs ∙ ap (sorts_where b) e

pub path_sorts_are : (program : Program) (step : ℕ) (proc : Proc) (cut : Cut) → sorts_of (path_variables program step proc cut) ≡ path_sorts program step proc cut.kind (passed_choices program step proc cut)
path_sorts_are program step proc cut =
    let r = is_rank_loop cut.kind in
    let e = not (is_entry cut.kind) in
    let gs = filter (exists_near step) program.globals in
    join (near_globals [] program step) _ _ _ (globals_sorts [] gs)
    (join (where_has r (near_globals (codes "old.") program step)) _ _ _ (has r _ _ (globals_sorts (codes "old.") gs))
    (join (of_params [] proc.params) _ _ _ (params_sorts [] proc.params)
    (join (where_has e (of_params [] proc.outs ++ of_locals [] proc.locals)) _ _ _ (has e _ _ (join (of_params [] proc.outs) (of_locals [] proc.locals) _ _ (params_sorts [] proc.outs) (locals_sorts [] proc.locals)))
    (join (where_has r (of_params (codes "old.") proc.outs)) _ _ _ (has r _ _ (params_sorts (codes "old.") proc.outs))
    (join (where_has e (flag (codes "done") ∷ [])) _ _ _ (has e _ _ refl)
    (join (where_has r (flag (codes "old.done") ∷ [])) _ _ _ (has r _ _ refl) (passed_sorts (passed_choices program step proc cut))))))))

variable_bits : (vs : List Variable) → bits_of_variables vs ≡ bits_of_sorts (sorts_of vs)
variable_bits [] = refl
variable_bits (v ∷ vs) = ap (λ (n : ℕ). bits_of v.sort + n) (variable_bits vs)

-- what they weigh together
pub path_bits : (program : Program) (step : ℕ) (proc : Proc) (cut : Cut) → bits_of_variables (path_variables program step proc cut)
    ≡ bits_of_sorts (existing_sorts (Near step) program) + bits_of_sorts (sorts_where (is_rank_loop cut.kind) (existing_sorts (Near step) program)) + frame_bits proc cut.kind
    + bits_of_sorts (call_sorts (passed_choices program step proc cut))
path_bits program step proc cut =
    let r = is_rank_loop cut.kind in
    let e = not (is_entry cut.kind) in
    let near = existing_sorts (Near step) program in
    let calls = call_sorts (passed_choices program step proc cut) in
    let f = sorts_where r (Truth ∷ []) ++ calls in
    let g = sorts_where e (Truth ∷ []) ++ f in
    let h = sorts_where r (param_sorts proc.outs) ++ g in
    let i = sorts_where e (inner_sorts proc) ++ h in
    let j = param_sorts proc.params ++ i in
    let k = sorts_where r near ++ j in
    omega (
      arith,
      variable_bits (path_variables program step proc cut),
      ap bits_of_sorts (path_sorts_are program step proc cut),
      bits-append near k,
      bits-append (sorts_where r near) j,
      bits-append (param_sorts proc.params) i,
      bits-append (sorts_where e (inner_sorts proc)) h,
      bits-append (sorts_where r (param_sorts proc.outs)) g,
      bits-append (sorts_where e (Truth ∷ [])) f,
      bits-append (sorts_where r (Truth ∷ [])) calls,
    )

-- ---- where they stand

pub where_long : (b : Bool) (ss : List Sort) (n : ℕ) → length ss ≡ n → length (sorts_where b ss) ≡ where_so b n
where_long true ss n e = e
where_long false ss n e = refl

module _ (sorts : List Sort) (program : Program) (step : ℕ) (proc : Proc) (cut : Cut) (stand : StandFrom sorts 0 (sorts_of (path_variables program step proc cut))) where
  abbrev lay : Layout
  lay = layout program step proc cut

  abbrev r : Bool
  r = is_rank_loop cut.kind

  abbrev e : Bool
  e = not (is_entry cut.kind)

  abbrev near : List Sort
  near = existing_sorts (Near step) program

  near_long : length near ≡ count_of (exists_near step) program
  near_long = length-map (filter (exists_near step) program.globals) (λ g. g.sort)

  abbrev one : List Sort
  one = call_sorts (passed_choices program step proc cut)

  abbrev two : List Sort
  two = sorts_where r (Truth ∷ []) ++ one

  abbrev three : List Sort
  three = sorts_where e (Truth ∷ []) ++ two

  abbrev four : List Sort
  four = sorts_where r (param_sorts proc.outs) ++ three

  abbrev five : List Sort
  five = sorts_where e (inner_sorts proc) ++ four

  abbrev six : List Sort
  six = param_sorts proc.params ++ five

  abbrev seven : List Sort
  seven = sorts_where r near ++ six

  at_globals : StandFrom sorts 0 (near ++ seven)
  at_globals = subst (StandFrom sorts 0) (path_sorts_are program step proc cut) stand

  at_old : StandFrom sorts lay.old seven
  at_old = let z : 0 + count_of (exists_near step) program ≡ count_of (exists_near step) program = omega arith in
      subst (λ (k : ℕ). StandFrom sorts k seven) z (stand_past sorts 0 near seven _ near_long at_globals)

  at_params : StandFrom sorts lay.params six
  at_params = stand_past sorts lay.old (sorts_where r near) six _ (where_long r near _ near_long) at_old

  at_rest : StandFrom sorts lay.rest five
  at_rest = stand_past sorts lay.params (param_sorts proc.params) five _ (length-map proc.params (λ p. p.sort)) at_params

  at_old_outs : StandFrom sorts lay.old_outs four
  at_old_outs = stand_past sorts lay.rest (sorts_where e (inner_sorts proc)) four _ (where_long e (inner_sorts proc) _ (inner_long proc)) at_rest

  at_done : StandFrom sorts lay.done three
  at_done = stand_past sorts lay.old_outs (sorts_where r (param_sorts proc.outs)) three _ (where_long r (param_sorts proc.outs) _ (length-map proc.outs (λ p. p.sort))) at_old_outs

  at_old_done : StandFrom sorts lay.old_done two
  at_old_done = stand_past sorts lay.done (sorts_where e (Truth ∷ [])) two _ (where_long e (Truth ∷ []) 1 refl) at_done

  at_calls : StandFrom sorts lay.calls one
  at_calls = stand_past sorts lay.old_done (sorts_where r (Truth ∷ [])) one _ (where_long r (Truth ∷ []) 1 refl) at_old_done

  pub groups_stand : (places : Places) → AreLaid places lay → StandGroups sorts program step proc cut places
  groups_stand places laid = record {
    globals = stand_front sorts 0 near seven at_globals;
    old = subst (λ (k : ℕ). StandFrom sorts k (sorts_where r near)) (sym laid.old) (stand_front sorts lay.old (sorts_where r near) six at_old);
    params = subst (λ (k : ℕ). StandFrom sorts k (param_sorts proc.params)) (sym laid.params) (stand_front sorts lay.params (param_sorts proc.params) five at_params);
    rest = subst (λ (k : ℕ). StandFrom sorts k (sorts_where e (inner_sorts proc))) (sym laid.rest) (stand_front sorts lay.rest (sorts_where e (inner_sorts proc)) four at_rest);
    old_outs = subst (λ (k : ℕ). StandFrom sorts k (sorts_where r (param_sorts proc.outs))) (sym laid.old_outs) (stand_front sorts lay.old_outs (sorts_where r (param_sorts proc.outs)) three at_old_outs);
    done = subst (λ (k : ℕ). StandFrom sorts k (sorts_where e (Truth ∷ []))) (sym laid.done) (stand_front sorts lay.done (sorts_where e (Truth ∷ [])) two at_done);
    old_done = subst (λ (k : ℕ). StandFrom sorts k (sorts_where r (Truth ∷ []))) (sym laid.old_done) (stand_front sorts lay.old_done (sorts_where r (Truth ∷ [])) one at_old_done);
    calls = subst (λ (k : ℕ). StandFrom sorts k one) (sym laid.calls) at_calls;
  }

-- ---- the values

-- the same, where it is so in the case that there is
if_same : {A : Type 0} (b : Bool) (x y z w : A) → (b ≡ true → x ≡ z) → (b ≡ false → y ≡ w) → (if b then x else y) ≡ (if b then z else w)
if_same true x y z w p q = p refl
if_same false x y z w p q = q refl

so_many : (b : Bool) (n : ℕ) → b ≡ true → where_so b n ≡ n
so_many true n e = refl
so_many false n e = absurd (cc)

store_taken : (program : Program) (step : ℕ) (vs : List Value) → (store_of (exists_near step) program vs) ≡ store_of (exists_near step) program (take (count_of (exists_near step) program) vs)
store_taken program step vs = ap (λ (us : List Value). record { values = us }) (spread_taken (exists_near step) program.globals vs)

module _ (program : Program) (step : ℕ) (proc : Proc) (cut : Cut) (places : Places) (laid : AreLaid places (layout program step proc cut)) (n : ℕ) (l : (layout program step proc cut).behind ≤ n) (env : Env) where
  abbrev lay2 : Layout
  lay2 = layout program step proc cut

  abbrev values : List Value
  values = given env 0 n

  abbrev b : Begun
  b = begun program step proc cut values

  store_is : near_store program step env 0 ≡ b.store
  store_is = sym (store_taken program step values ∙ ap (store_of (exists_near step) program) (part_given env n 0 (count_of (exists_near step) program) (omega (arith, l))))

  pub now_is : (near_store program step env 0).values ≡ b.store.values
  now_is = ap (λ s. s.values) store_is

  old_there : is_rank_loop cut.kind ≡ true → near_store program step env places.old ≡ store_of (exists_near step) program (drop lay2.old values)
  old_there e =
      ap (near_store program step env) laid.old
      ∙ sym (store_taken program step (drop lay2.old values)
      ∙ ap (store_of (exists_near step) program) (part_given env n lay2.old (count_of (exists_near step) program) (omega (arith, l, so_many (is_rank_loop cut.kind) (count_of (exists_near step) program) e))))

  pub old_is : (near_store program step env (if is_rank_loop cut.kind then places.old else 0)).values ≡ b.old.values
  old_is = ap (λ s. s.values) (by (is_rank_loop cut.kind) old_there)
    where
      by : (c : Bool) → (c ≡ true → near_store program step env places.old ≡ store_of (exists_near step) program (drop lay2.old values))
          → near_store program step env (if c then places.old else 0) ≡ (if c then store_of (exists_near step) program (drop lay2.old values) else store_of (exists_near step) program values)
      by true f = f refl
      by false f = store_is

  params_are : given env places.params (length proc.params) ≡ part values lay2.params (length proc.params)
  params_are = ap (λ (k : ℕ). given env k (length proc.params)) laid.params ∙ sym (part_given env n lay2.params (length proc.params) (omega (arith, l)))

  inner_there : not (is_entry cut.kind) ≡ true → given env places.rest (length proc.outs + length proc.locals) ≡ part values lay2.rest (length proc.outs + length proc.locals)
  inner_there e =
      ap (λ (k : ℕ). given env k (length proc.outs + length proc.locals)) laid.rest
      ∙ sym (part_given env n lay2.rest (length proc.outs + length proc.locals) (omega (arith, l, so_many (not (is_entry cut.kind)) (length proc.outs + length proc.locals) e)))

  pub locals_are : begun_locals proc cut.kind env places ≡ b.locals
  locals_are = ap₂ (λ (us vs : List Value). us ++ vs) params_are (if_same (is_entry cut.kind) _ _ _ _ (λ e. refl) (λ e. inner_there (ap not e)))

  outs_there : is_rank_loop cut.kind ≡ true → given env places.old_outs (length proc.outs) ≡ part values lay2.old_outs (length proc.outs)
  outs_there e =
      ap (λ (k : ℕ). given env k (length proc.outs)) laid.old_outs
      ∙ sym (part_given env n lay2.old_outs (length proc.outs) (omega (arith, l, so_many (is_rank_loop cut.kind) (length proc.outs) e)))

  pub outs_are : begun_outs proc cut.kind env places ≡ b.old_outs
  outs_are = if_same (is_rank_loop cut.kind) _ _ _ _ outs_there (λ e. ap (λ (vs : List Value). take (length proc.outs) (drop (length proc.params) vs)) locals_are)

  done_there : not (is_entry cut.kind) ≡ true → is_true (env places.done) ≡ flag_at values lay2.done
  done_there e = ap (λ (k : ℕ). is_true (env k)) laid.done ∙ ap is_true (sym (get_given env n lay2.done (omega (arith, l, so_many (not (is_entry cut.kind)) 1 e))))

  pub done_is : begun_done cut.kind env places ≡ b.done
  done_is = if_same (is_entry cut.kind) _ _ _ _ (λ e. refl) (λ e. done_there (ap not e))

  old_done_there : is_rank_loop cut.kind ≡ true → is_true (env places.old_done) ≡ flag_at values lay2.old_done
  old_done_there e = ap (λ (k : ℕ). is_true (env k)) laid.old_done ∙ ap is_true (sym (get_given env n lay2.old_done (omega (arith, l, so_many (is_rank_loop cut.kind) 1 e))))

  pub old_done_is : begun_old_done cut.kind env places ≡ b.old_done
  old_done_is = if_same (is_rank_loop cut.kind) _ _ _ _ old_done_there (λ e. done_is)

-- ---- the choices

chosen_of_action : (plain : Plain) (s : stmt.Stmt-F Stmt) (a : Action) → layer_action plain s ≡ Some a → layer_choices plain s ≡ a.choices
chosen_of_action plain (stmt.Call f es rs) a e = by (called plain f) e
  where
    by : (m : Meaning) → action_meant m ≡ Some a → choices_of m ≡ a.choices
    by (Does action) q = let p : action ≡ a = cc in ap (λ (x : Action). x.choices) p
    by (Runs number proc) q = absurd (cc)
    by Missing q = absurd (cc)
chosen_of_action plain (stmt.Assign x v) a e = absurd (cc)
chosen_of_action plain (stmt.Assert v) a e = absurd (cc)
chosen_of_action plain (stmt.If v x y) a e = absurd (cc)
chosen_of_action plain (stmt.While v x) a e = absurd (cc)
chosen_of_action plain (stmt.YieldLoop v w x) a e = absurd (cc)
chosen_of_action plain (stmt.RankLoop u v w x) a e = absurd (cc)
chosen_of_action plain (stmt.Yield v) a e = absurd (cc)
chosen_of_action plain stmt.Commit a e = absurd (cc)
chosen_of_action plain (stmt.Intro x v) a e = absurd (cc)
chosen_of_action plain (stmt.Spawn f es) a e = absurd (cc)

-- ---- all of it

said_as : (ns : List Node) (ids : List ℕ) (ss : List Sort) (f g : Env → List Value) → ((env : Env) → f env ≡ g env) → AreSaid ns ids ss f → AreSaid ns ids ss g
said_as ns ids ss f g e s = record { sorted = s.sorted; are = λ env fits. s.are env fits ∙ e env }

module _ (ns : List Node) (program : Program) (step : ℕ) (proc : Proc) (cut : Cut) (places : Places) (laid : AreLaid places (layout program step proc cut)) (t : Beginning)
    (globals : AreStore ns program t.globals (λ env. near_store program step env 0)) (old : AreStore ns program t.old_globals (λ env. near_store program step env (if is_rank_loop cut.kind then places.old else 0)))
    (locals : AreSaid ns t.locals (frame_sorts proc) (λ env. begun_locals proc cut.kind env places)) (outs : AreSaid ns t.old_outs (param_sorts proc.outs) (λ env. begun_outs proc cut.kind env places))
    (done : IsTest ns t.done (λ env. begun_done cut.kind env places)) (old_done : IsTest ns t.old_done (λ env. begun_old_done cut.kind env places))
    (chosen : AreChosen ns t.chosen (with_some (passed_choices program step proc cut)) places.calls) where
  pub are_begun : (n : ℕ) → (layout program step proc cut).behind ≤ n → AreBegun ns program step proc cut t (λ env. begun program step proc cut (given env 0 n))
  are_begun n l = record {
    globals = said_as ns t.globals (global_sorts program) _ _ (λ env. now_is program step proc cut places laid n l env) globals;
    locals = said_as ns t.locals (frame_sorts proc) _ _ (λ env. locals_are program step proc cut places laid n l env) locals;
    done = test_as ns t.done _ _ (λ env. done_is program step proc cut places laid n l env) done;
    old_globals = said_as ns t.old_globals (global_sorts program) _ _ (λ env. old_is program step proc cut places laid n l env) old;
    old_outs = said_as ns t.old_outs (param_sorts proc.outs) _ _ (λ env. outs_are program step proc cut places laid n l env) outs;
    old_done = test_as ns t.old_done _ _ (λ env. old_done_is program step proc cut places laid n l env) old_done;
    chosen = λ q a there is.
        let plain = program_at program (step - 1) in
        let passed = (flow_from proc cut).passed in
        let stand = passed_stand proc cut in
        let here = subst (λ (k : ℕ). AreChosen ns t.chosen (with_some (passed_choices program step proc cut)) k) laid.calls chosen in
        let found = chosen_found program (step - 1) proc.body ns n (layout program step proc cut).calls t.chosen passed q here stand (stands_at proc.body passed q stand there) there l in
        subst (λ (cs : List Choice). AreSaid ns (chosen_at t.chosen q.0) (map (λ c. c.sort) cs) (λ env. (begun program step proc cut (given env 0 n)).chosen q.0)) (chosen_of_action plain (out-Stmt q.1) a is) found;
  }
    where
      stands_at : (body : List Stmt) (qs : List (ℕ × Stmt)) (q : ℕ × Stmt) → Stand body qs → Contains qs q → statement_at body q.0 ≡ Some q.1
      stands_at body [] q s k = absurd (contains_nil q k)
      stands_at body (r ∷ rs) q s k = elim (contains_cons r rs q k) [
        | inl e ↦ subst (λ (z : ℕ × Stmt). statement_at body z.0 ≡ Some z.1) e s.0
        | inr g ↦ stands_at body rs q s.1 g
      ]

pub can_begin : (ns : List Node) (program : Program) (step : ℕ) (proc : Proc) (cut : Cut) (t : Beginning) (b : Env → Begun) → AreBegun ns program step proc cut t b → CanBegin ns program step proc cut t
can_begin ns program step proc cut t b h = record {
  globals = h.globals.sorted;
  locals = h.locals.sorted;
  done = h.done.sorted;
  old_globals = h.old_globals.sorted;
  old_outs = h.old_outs.sorted;
  old_done = h.old_done.sorted;
  chosen = λ q a there is. (h.chosen q a there is).sorted;
}

-- a test stays while the graph gets longer
pub test_after : (old new : List Node) (i : ℕ) (f : Env → Bool) → Lengthens old new → IsTest old i f → IsTest new i f
test_after old new i f g t =
    let inside = sorted_within old i Truth t.sorted in
    record { sorted = g.sorts i inside ∙ t.sorted; is = λ env fits. g.values env i inside ∙ t.is env (g.fits env fits) }

-- the sorts of outputs and locals of a checked program
pub inner_limits : (program : Program) → Keeps typing_rules program → (proc : Proc) → IsProcIn program proc → All (λ s. IsTrue (is_sort s)) (inner_sorts proc)
inner_limits program keeps proc there =
    All-append (λ s. IsTrue (is_sort s)) (param_sorts proc.outs) (map (λ l. l.sort) proc.locals) (proc_out_sorts_are program keeps there.0 proc there.1) (local_sorts_are program keeps there.0 proc there.1)
