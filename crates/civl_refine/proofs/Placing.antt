-- The variables of the paths from a cut: how many there are, that their sorts are within the limits, and that there are some at a
-- rank loop.
use Rattle.std.specs.Prelude.{map, filter, not, IsTrue, slice_get}
use Rattle.std.proofs.Common.{◌≡◌, ◌∙◌, ℕ, ◌-◌, ◌≤◌, Bool, true, false, List, [], ◌∷◌, ◌++◌, length, refl, sym, ap, subst, arith, Option, Some, None}
use Rattle.std.proofs.lemmas.List.{length-map, length-append}
use Rattle.std.proofs.lemmas.List.Elements.{All-nil, All-cons}
use Rattle.civl_firing.specs.values.Values.{is_sort}
use Rattle.civl_tree.specs.declared.expr.Sort.{Sort}
use Rattle.civl_tree.specs.declared.expr.Sort.TheVariants.{Bool as Truth}
use Rattle.civl_tree.specs.declared.name.Name.{Name}
use Rattle.civl_tree.specs.declared.action.Action.{Action}
use Rattle.civl_tree.specs.declared.action.Choice.{Choice}
use Rattle.civl_tree.specs.declared.stmt.Stmt.{Stmt, out-Stmt}
use Rattle.civl_tree.specs.declared.stmt.Stmt.TheOpen as stmt
use Rattle.civl_tree.specs.declared.program.Refines.{Refines}
use Rattle.civl_tree.specs.declared.program.Proc.{Proc}
use Rattle.civl_tree.specs.declared.program.Program.{Program}
use Rattle.civl_tree.specs.rules.Names.{action_named}
use Rattle.civl_tree.specs.rules.Rules.{Keeps}
use Rattle.civl_tree.specs.rules.Typing.{typing_rules}
use Rattle.civl_tree.specs.rules.Uses.{param_sorts}
use Rattle.civl_firing.specs.Truth.{place_of}
use Rattle.civl_firing.proofs.Finding.{found_at}
use Rattle.civl_meaning.specs.Layers.{program_at}
use Rattle.civl_meaning.specs.Meaning.{Meaning, proc_number, meaning_of_action, refined, meaning_by, meaning_else}
use Rattle.civl_layers.specs.declared.cut.Cut.{Cut}
use Rattle.civl_conditions.specs.paths.Ends.{is_entry, is_rank_loop}
use Rattle.civl_conditions.specs.paths.Seen.{exists_near}
use Rattle.civl_conditions.specs.paths.Flows.{flow_from}
use Rattle.civl_conditions.specs.Variables.{choices_of, layer_choices, passed_choices, path_variables}
use Rattle.civl_conditions.specs.Values.{count_of, choices_count, layout}
use Rattle.civl_conditions.specs.Weights.{bits_of_variables}
use Rattle.civl_states.specs.formula_parts.Given.{bits_of_sorts}
use Rattle.civl_states.specs.declared.stores.Existing.TheVariants.{Near}
use Rattle.civl_states.specs.Existing.{existing_sorts}
use Rattle.civl_states.specs.Laying.{sorts_where, inner_sorts, call_sorts}
use Rattle.civl_states.specs.Notes.{IsProcIn}
use Rattle.civl_states.proofs.Laying.{inner_long}
use Rattle.civl_states.proofs.Limits.{AreSorts, sorts_append, choice_sorts_are, proc_param_sorts_are, proc_out_sorts_are}
use Rattle.civl_states.proofs.Starting.{path_sorts_are, path_bits, inner_limits, where_long}
use Rattle.civl_states.proofs.Variables.{existing_are}

-- ---- how many there are

calls_long : (qs : List (ℕ × List Choice)) → length (call_sorts qs) ≡ choices_count qs
calls_long [] = refl
calls_long (q ∷ qs) = omega (arith, length-append (map (λ c. c.sort) q.1) (call_sorts qs), length-map q.1 (λ c. c.sort), calls_long qs)

pub paths_long : (program : Program) (step : ℕ) (proc : Proc) (cut : Cut) → length (map (λ v. v.sort) (path_variables program step proc cut)) ≡ (layout program step proc cut).behind
paths_long program step proc cut =
    let r = is_rank_loop cut.kind in
    let e = not (is_entry cut.kind) in
    let near = existing_sorts (Near step) program in
    let near_long : length near ≡ count_of (exists_near step) program = length-map (filter (exists_near step) program.globals) (λ g. g.sort) in
    let one = call_sorts (passed_choices program step proc cut) in
    let two = sorts_where r (Truth ∷ []) ++ one in
    let three = sorts_where e (Truth ∷ []) ++ two in
    let four = sorts_where r (param_sorts proc.outs) ++ three in
    let five = sorts_where e (inner_sorts proc) ++ four in
    let six = param_sorts proc.params ++ five in
    let seven = sorts_where r near ++ six in
    omega (
      arith,
      ap length (path_sorts_are program step proc cut),
      near_long,
      length-append near seven,
      length-append (sorts_where r near) six,
      length-append (param_sorts proc.params) five,
      length-append (sorts_where e (inner_sorts proc)) four,
      length-append (sorts_where r (param_sorts proc.outs)) three,
      length-append (sorts_where e (Truth ∷ [])) two,
      length-append (sorts_where r (Truth ∷ [])) one,
      where_long r near _ near_long,
      length-map proc.params (λ p. p.sort),
      where_long e (inner_sorts proc) _ (inner_long proc),
      where_long r (param_sorts proc.outs) _ (length-map proc.outs (λ p. p.sort)),
      where_long e (Truth ∷ []) 1 refl,
      where_long r (Truth ∷ []) 1 refl,
      calls_long (passed_choices program step proc cut),
    )

-- ---- their sorts are within the limits

none_are : AreSorts []
none_are = All-nil (λ s. IsTrue (is_sort s))

where_are : (b : Bool) (ss : List Sort) → AreSorts ss → AreSorts (sorts_where b ss)
where_are true ss h = h
where_are false ss h = none_are

flag_are : AreSorts (Truth ∷ [])
flag_are = All-cons (λ s. IsTrue (is_sort s)) Truth [] refl none_are

module _ (program : Program) (keeps : Keeps typing_rules program) (layer : ℕ) where
  abbrev AreOfMeant : Meaning → Type 0
  AreOfMeant m = AreSorts (map (λ c. c.sort) (choices_of m))

  named_are : (name : Name) (o : Option Action) → action_named program name ≡ o → AreOfMeant (meaning_of_action o)
  named_are name None e = none_are
  named_are name (Some a) e = choice_sorts_are program keeps (place_of (map (λ b. b.name) program.actions) name) a (found_at (λ (b : Action). b.name) program.actions name ∙ e)

  refined_are : (o : Option Refines) → AreOfMeant (refined program o)
  refined_are None = none_are
  refined_are (Some r) = named_are r.action (action_named program r.action) refl

  body_are : (number : ℕ) (b : Option Bool) (o : Option Proc) → AreOfMeant (meaning_by program b number o)
  body_are number None None = none_are
  body_are number (Some b) None = none_are
  body_are number None (Some proc) = none_are
  body_are number (Some true) (Some proc) = none_are
  body_are number (Some false) (Some proc) = refined_are proc.refines

  else_are : (name : Name) (o : Option Action) → action_named program name ≡ o → AreOfMeant (meaning_else (program_at program layer) name o)
  else_are name None e = body_are (proc_number program name) (slice_get (program_at program layer).bodies (proc_number program name)) (slice_get program.procs (proc_number program name))
  else_are name (Some a) e = named_are name (Some a) e

  form_are : (f : stmt.Stmt-F Stmt) → AreSorts (map (λ c. c.sort) (layer_choices (program_at program layer) f))
  form_are (stmt.Call f es rs) = else_are f (action_named program f) refl
  form_are (stmt.Assign x v) = none_are
  form_are (stmt.Assert v) = none_are
  form_are (stmt.If v a b) = none_are
  form_are (stmt.While v a) = none_are
  form_are (stmt.YieldLoop v i a) = none_are
  form_are (stmt.RankLoop v r i a) = none_are
  form_are (stmt.Yield i) = none_are
  form_are stmt.Commit = none_are
  form_are (stmt.Intro x v) = none_are
  form_are (stmt.Spawn f es) = none_are

  passed_are : (qs : List (ℕ × Stmt)) → AreSorts (call_sorts (map (λ q. (q.0, layer_choices (program_at program layer) (out-Stmt q.1))) qs))
  passed_are [] = none_are
  passed_are (q ∷ qs) = sorts_append (map (λ c. c.sort) (layer_choices (program_at program layer) (out-Stmt q.1))) _ (form_are (out-Stmt q.1)) (passed_are qs)

-- those of the paths from a cut of a checked program
pub paths_are : (program : Program) → Keeps typing_rules program → (step : ℕ) (proc : Proc) → IsProcIn program proc → (cut : Cut) → AreSorts (map (λ v. v.sort) (path_variables program step proc cut))
paths_are program keeps step proc there cut =
    let r = is_rank_loop cut.kind in
    let e = not (is_entry cut.kind) in
    let near = existing_are program keeps (Near step) in
    let outs = proc_out_sorts_are program keeps there.0 proc there.1 in
    subst AreSorts (sym (path_sorts_are program step proc cut))
    (sorts_append _ _ near
    (sorts_append _ _ (where_are r _ near)
    (sorts_append _ _ (proc_param_sorts_are program keeps there.0 proc there.1)
    (sorts_append _ _ (where_are e _ (inner_limits program keeps proc there))
    (sorts_append _ _ (where_are r _ outs)
    (sorts_append _ _ (where_are e _ flag_are)
    (sorts_append _ _ (where_are r _ flag_are) (passed_are program keeps (step - 1) (flow_from proc cut).passed))))))))

-- ---- at a rank loop there is one

rank_bits : (rank entry : Bool) → rank ≡ true → 1 ≤ bits_of_sorts (sorts_where rank (Truth ∷ []))
rank_bits true entry e = omega arith
rank_bits false entry e = absurd (cc)

pub rank_some : (program : Program) (step : ℕ) (proc : Proc) (cut : Cut) → is_rank_loop cut.kind ≡ true → 1 ≤ bits_of_variables (path_variables program step proc cut)
rank_some program step proc cut e = omega (arith, path_bits program step proc cut, rank_bits (is_rank_loop cut.kind) (is_entry cut.kind) e)
