-- The bits of the variables of paths, and the weights of their parts.
use Rattle.std.proofs.Common.{◌≡◌, ℕ, ◌+◌, ◌-◌, Bool, true, false, List, [], ◌∷◌, ◌++◌, map, length, filter, refl, sym, ap, ◌∙◌, Option, None, Some}
use Rattle.std.specs.Prelude.{not, slice_get, codes, if◌then◌else◌}
use Rattle.std.specs.Option.{option_map_or}
use Rattle.civl_tree.specs.declared.action.Choice.{Choice}
use Rattle.civl_tree.specs.declared.expr.Expr.{Expr}
use Rattle.civl_tree.specs.declared.stmt.Stmt.{Stmt, out-Stmt}
use Rattle.civl_tree.specs.declared.program.Proc.{Proc}
use Rattle.civl_tree.specs.declared.program.Program.{Program}
use Rattle.civl_meaning.specs.Layers.{program_at}
use Rattle.civl_layers.specs.declared.cut.Cut.{Cut}
use Rattle.civl_layers.specs.Cuts.{proc_cuts}
use Rattle.civl_conditions.specs.paths.Flows.{flow_from}
use Rattle.civl_conditions.specs.paths.Seen.{exists_near}
use Rattle.civl_conditions.specs.paths.Ends.{is_entry, is_rank_loop, ends_from}
use Rattle.civl_conditions.specs.declared.condition.Variable.{Variable}
use Rattle.civl_conditions.specs.declared.condition.Part.TheVariants.{Invariant}
use Rattle.civl_conditions.specs.Assumed.{cut_invariant}
use Rattle.civl_conditions.specs.Variables.{variable, flag, where_has, near_globals, of_params, of_locals, of_choices, layer_choices, call_front, of_passed, passed_choices, path_variables}
use Rattle.civl_conditions.specs.Weights.{summed, bits_of_variables, outs_bits, note_weight, maybe_weight, end_invariant}
use Rattle.civl_weighing.specs.Bits.{choices_bits, locals_bits}
use Rattle.civl_weights.specs.sums.Sums.{path_bits, parts_weight}
use Rattle.civl_weighing.proofs.Summing.{bits_append, bits_mapped}
use Rattle.civl_weights.proofs.sums.Groups.{params_bits_are, choices_bits_are, locals_bits_are}
use Rattle.civl_weights.proofs.sums.Meeting.{same_sums, each_plus}

-- ---- variables

bits_where : (b : Bool) (vs : List Variable) (n : ℕ) → bits_of_variables vs ≡ n → bits_of_variables (where_has b vs) ≡ (if b then n else 0)
bits_where true vs n h = h
bits_where false vs n h = refl

old_near : (front : List ℕ) (program : Program) (step : ℕ) → bits_of_variables (near_globals front program step) ≡ bits_of_variables (near_globals [] program step)
old_near front program step =
    bits_mapped (λ g. variable front g.name g.sort) (filter (exists_near step) program.globals)
    ∙ sym (bits_mapped (λ g. variable [] g.name g.sort) (filter (exists_near step) program.globals))

inner_bits : (proc : Proc) → bits_of_variables (of_params [] proc.outs ++ of_locals [] proc.locals) ≡ outs_bits proc.outs + locals_bits proc.locals
inner_bits proc =
    bits_append (of_params [] proc.outs) (of_locals [] proc.locals) ∙ ap (λ (n : ℕ). n + bits_of_variables (of_locals [] proc.locals)) (params_bits_are [] proc.outs)
    ∙ ap (λ (n : ℕ). outs_bits proc.outs + n) (locals_bits_are [] proc.locals)

-- two groups, one behind the other
groups : (us vs : List Variable) (m n : ℕ) → bits_of_variables us ≡ m → bits_of_variables vs ≡ n → bits_of_variables (us ++ vs) ≡ m + n
groups us vs m n h k = bits_append us vs ∙ ap (λ (i : ℕ). i + bits_of_variables vs) h ∙ ap (λ (i : ℕ). m + i) k

pub path_bits_are : (program : Program) (step : ℕ) (proc : Proc) (cut : Cut)
    → bits_of_variables (path_variables program step proc cut) ≡ path_bits (bits_of_variables (near_globals [] program step)) proc cut.kind (bits_of_variables (of_passed (passed_choices program step proc cut)))
path_bits_are program step proc cut =
    let again = is_rank_loop cut.kind in
    let inside = not (is_entry cut.kind) in
    let near = bits_of_variables (near_globals [] program step) in
    groups (near_globals [] program step) _ near _ refl
    (groups (where_has again (near_globals (codes "old.") program step)) _ (if again then near else 0) _ (bits_where again _ near (old_near (codes "old.") program step))
    (groups (of_params [] proc.params) _ (outs_bits proc.params) _ (params_bits_are [] proc.params)
    (groups (where_has inside (of_params [] proc.outs ++ of_locals [] proc.locals)) _ (if inside then outs_bits proc.outs + locals_bits proc.locals else 0) _ (bits_where inside _ _ (inner_bits proc))
    (groups (where_has again (of_params (codes "old.") proc.outs)) _ (if again then outs_bits proc.outs else 0) _ (bits_where again _ _ (params_bits_are (codes "old.") proc.outs))
    (groups (where_has inside (flag (codes "done") ∷ [])) _ (if inside then 1 else 0) _ (bits_where inside _ 1 refl)
    (groups (where_has again (flag (codes "old.done") ∷ [])) (of_passed (passed_choices program step proc cut)) (if again then 1 else 0) _ (bits_where again _ 1 refl) refl))))))

passed_bits : (g : Stmt → List Choice) (qs : List (ℕ × Stmt)) → summed (map (λ q. choices_bits (g q.1)) qs) ≡ bits_of_variables (of_passed (map (λ q. (q.0, g q.1)) qs))
passed_bits g [] = refl
passed_bits g (q ∷ qs) =
    sym (groups (of_choices (call_front q.0) (g q.1)) (of_passed (map (λ q. (q.0, g q.1)) qs)) _ _ (choices_bits_are (call_front q.0) (g q.1)) (sym (passed_bits g qs)))

pub choices_are : (program : Program) (step : ℕ) (proc : Proc) (cut : Cut)
    → summed (map (λ q. choices_bits (layer_choices (program_at program (step - 1)) (out-Stmt q.1))) (flow_from proc cut).passed) ≡ bits_of_variables (of_passed (passed_choices program step proc cut))
choices_are program step proc cut = passed_bits (λ s. layer_choices (program_at program (step - 1)) (out-Stmt s)) (flow_from proc cut).passed

-- ---- parts

note_there : (weight : Expr → ℕ) (proc : Proc) (found : Option Cut) → option_map_or (λ cut. maybe_weight weight (cut_invariant proc cut)) found 0 ≡ maybe_weight weight (option_map_or (cut_invariant proc) found None)
note_there weight proc None = refl
note_there weight proc (Some cut) = refl

pub invariants_are : (program : Program) (step : ℕ) (proc : Proc) (cut : Cut)
    → length (ends_from proc cut) + summed (map (λ end. option_map_or (λ k. maybe_weight (note_weight program proc) (cut_invariant proc k)) (slice_get (proc_cuts proc) end) 0) (ends_from proc cut)) ≡ parts_weight program step proc cut Invariant
invariants_are program step proc cut =
    ap (λ (n : ℕ). length (ends_from proc cut) + n) (same_sums _ (λ end. maybe_weight (note_weight program proc) (end_invariant proc end)) (λ end. note_there (note_weight program proc) proc (slice_get (proc_cuts proc) end)) (ends_from proc cut))
    ∙ each_plus (λ end. maybe_weight (note_weight program proc) (end_invariant proc end)) (ends_from proc cut)
