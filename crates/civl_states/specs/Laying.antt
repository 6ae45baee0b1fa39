-- The variables of a path's beginning group by group, and the terms for each; `inner_sorts` is cited in civl_goal_terms too.
use Rattle.std.specs.Prelude.{◌≡◌, ℕ, ◌+◌, Bool, true, false, not, if◌then◌else◌, List, [], ◌∷◌, ◌++◌, length, map, filter, slice_get, ⊤}
use Rattle.std.specs.Option.{option_map_or}
use Rattle.civl_bits.specs.declared.value.Value.{Value}
use Rattle.civl_firing.specs.values.Values.{is_true}
use Rattle.civl_tree.specs.declared.expr.Sort.{Sort}
use Rattle.civl_tree.specs.declared.expr.Sort.TheVariants.{Bool as Truth}
use Rattle.civl_tree.specs.declared.action.Choice.{Choice}
use Rattle.civl_tree.specs.declared.stmt.Stmt.{Stmt, out-Stmt}
use Rattle.civl_tree.specs.declared.program.Proc.{Proc}
use Rattle.civl_tree.specs.declared.program.Program.{Program}
use Rattle.civl_tree.specs.rules.Uses.{param_sorts}
use Rattle.civl_firing.specs.declared.store.Store.{Store}
use Rattle.civl_firing.specs.Scope.{zeros_of_params, zeros_of_locals}
use Rattle.civl_meaning.specs.Change.{outs_in}
use Rattle.civl_meaning.specs.Layers.{program_at}
use Rattle.civl_terms.specs.declared.node.Node.{Node}
use Rattle.civl_layers.specs.declared.cut.Cut.{Cut}
use Rattle.civl_layers.specs.declared.cut.CutKind.{CutKind}
use Rattle.civl_conditions.specs.paths.Ends.{is_entry, is_rank_loop}
use Rattle.civl_conditions.specs.paths.Seen.{exists_near}
use Rattle.civl_conditions.specs.Variables.{layer_choices, passed_choices}
use Rattle.civl_conditions.specs.Values.{Layout, count_of, store_of, choices_count}
use Rattle.civl_meaning.specs.Config.{frame_sorts}
use Rattle.civl_states.specs.formula_parts.Said.{Env, IsTest}
use Rattle.civl_states.specs.formula_parts.Lists.{AreSaid}
use Rattle.civl_states.specs.formula_parts.Given.{given, bits_of_sorts}
use Rattle.civl_states.specs.Groups.{StandFrom}
use Rattle.civl_states.specs.declared.beginning_frames.Frame.{Frame}
use Rattle.civl_states.specs.declared.choices.Chosen.{Chosen}
use Rattle.civl_states.specs.declared.beginning_places.Places.{Places}
use Rattle.civl_states.specs.declared.stores.Existing.TheVariants.{Near}
use Rattle.civl_states.specs.Existing.{existing_sorts}

-- ---- where the groups stand

pub record AreLaid (places : Places) (layout : Layout) : Type 0 where
  pub old : places.old ≡ layout.old
  pub params : places.params ≡ layout.params
  pub rest : places.rest ≡ layout.rest
  pub old_outs : places.old_outs ≡ layout.old_outs
  pub done : places.done ≡ layout.done
  pub old_done : places.old_done ≡ layout.old_done
  pub calls : places.calls ≡ layout.calls

-- ---- their sorts

abbrev pub sorts_where : Bool → List Sort → List Sort
sorts_where has sorts = if has then sorts else []

abbrev pub inner_sorts : Proc → List Sort
inner_sorts proc = param_sorts proc.outs ++ map (λ l. l.sort) proc.locals

-- calls with their choices
abbrev pub call_sorts : List (ℕ × List Choice) → List Sort
call_sorts [] = []
call_sorts (q ∷ qs) = map (λ c. c.sort) q.1 ++ call_sorts qs

abbrev pub path_sorts : Program → ℕ → Proc → CutKind → List (ℕ × List Choice) → List Sort
path_sorts program step proc kind calls =
    existing_sorts (Near step) program
    ++ (sorts_where (is_rank_loop kind) (existing_sorts (Near step) program)
    ++ (param_sorts proc.params
    ++ (sorts_where (not (is_entry kind)) (inner_sorts proc)
    ++ (sorts_where (is_rank_loop kind) (param_sorts proc.outs)
    ++ (sorts_where (not (is_entry kind)) (Truth ∷ [])
    ++ (sorts_where (is_rank_loop kind) (Truth ∷ [])
    ++ call_sorts calls))))))

-- ---- their values

abbrev pub near_store : Program → ℕ → Env → ℕ → Store
near_store program step env first = store_of (exists_near step) program (given env first (count_of (exists_near step) program))

-- outputs and locals
abbrev pub inner_values : Proc → CutKind → Env → ℕ → List Value
inner_values proc kind env first = if is_entry kind then zeros_of_params proc.outs ++ zeros_of_locals proc.locals else given env first (length proc.outs + length proc.locals)

abbrev pub begun_locals : Proc → CutKind → Env → Places → List Value
begun_locals proc kind env places = given env places.params (length proc.params) ++ inner_values proc kind env places.rest

abbrev pub begun_outs : Proc → CutKind → Env → Places → List Value
begun_outs proc kind env places = if is_rank_loop kind then given env places.old_outs (length proc.outs) else outs_in proc (begun_locals proc kind env places)

abbrev pub begun_done : CutKind → Env → Places → Bool
begun_done kind env places = if is_entry kind then false else is_true (env places.done)

abbrev pub begun_old_done : CutKind → Env → Places → Bool
begun_old_done kind env places = if is_rank_loop kind then is_true (env places.old_done) else begun_done kind env places

-- ---- the choices of calls

-- the statement with this number, with the choices of the action that it calls
abbrev pub call_at : Program → ℕ → List Stmt → ℕ → ℕ × List Choice
call_at program layer stmts number = (number, option_map_or (λ s. layer_choices (program_at program layer) (out-Stmt s)) (slice_get stmts number) [])

abbrev pub calls_at : Program → ℕ → List Stmt → List ℕ → List (ℕ × List Choice)
calls_at program layer stmts numbers = map (call_at program layer stmts) numbers

-- those that choose something
abbrev pub chooses : List Choice → Bool
chooses [] = false
chooses (c ∷ cs) = true

abbrev pub with_some : List (ℕ × List Choice) → List (ℕ × List Choice)
with_some calls = filter (λ q. chooses q.1) calls

-- one list of terms for each call, whose choices' variables begin at this number
abbrev pub AreChosen : List Node → List Chosen → List (ℕ × List Choice) → ℕ → Type 0
AreChosen ns [] [] at = ⊤
AreChosen ns [] (q ∷ qs) at = ⊥
AreChosen ns (c ∷ cs) [] at = ⊥
AreChosen ns (c ∷ cs) (q ∷ qs) at =
    (c.statement ≡ q.0) × AreSaid ns c.choices (map (λ x. x.sort) q.1) (λ env. given env at (length q.1)) × AreChosen ns cs qs (at + length q.1)

-- whatever calls these entries are for, the next one, whose choices' variables begin at this number, is behind them
abbrev pub ChooseMore : List Node → List Node → List Chosen → List Chosen → ℕ × List Choice → ℕ → Type 0
ChooseMore old new before after call next =
    (qs : List (ℕ × List Choice)) (at : ℕ) → AreChosen old before (with_some qs) at → next ≡ at + choices_count qs → AreChosen new after (with_some (qs ++ call ∷ [])) at

-- ---- the groups, and the terms at these places

pub record StandGroups (sorts : List Sort) (program : Program) (step : ℕ) (proc : Proc) (cut : Cut) (places : Places) : Type 0 where
  pub globals : StandFrom sorts 0 (existing_sorts (Near step) program)
  pub old : StandFrom sorts places.old (sorts_where (is_rank_loop cut.kind) (existing_sorts (Near step) program))
  pub params : StandFrom sorts places.params (param_sorts proc.params)
  pub rest : StandFrom sorts places.rest (sorts_where (not (is_entry cut.kind)) (inner_sorts proc))
  pub old_outs : StandFrom sorts places.old_outs (sorts_where (is_rank_loop cut.kind) (param_sorts proc.outs))
  pub done : StandFrom sorts places.done (sorts_where (not (is_entry cut.kind)) (Truth ∷ []))
  pub old_done : StandFrom sorts places.old_done (sorts_where (is_rank_loop cut.kind) (Truth ∷ []))
  pub calls : StandFrom sorts places.calls (call_sorts (passed_choices program step proc cut))

-- the frame and `done`, and the old ones
pub record FrameBegins (ns : List Node) (proc : Proc) (kind : CutKind) (places : Places) (frame : Frame) : Type 0 where
  pub locals : AreSaid ns frame.locals (frame_sorts proc) (λ env. begun_locals proc kind env places)
  pub old_outs : AreSaid ns frame.old_outs (param_sorts proc.outs) (λ env. begun_outs proc kind env places)
  pub done : IsTest ns frame.done (λ env. begun_done kind env places)
  pub old_done : IsTest ns frame.old_done (λ env. begun_old_done kind env places)

-- what it weighs
abbrev pub frame_bits : Proc → CutKind → ℕ
frame_bits proc kind =
    bits_of_sorts (param_sorts proc.params) + bits_of_sorts (sorts_where (not (is_entry kind)) (inner_sorts proc)) + bits_of_sorts (sorts_where (is_rank_loop kind) (param_sorts proc.outs))
    + bits_of_sorts (sorts_where (not (is_entry kind)) (Truth ∷ [])) + bits_of_sorts (sorts_where (is_rank_loop kind) (Truth ∷ []))
