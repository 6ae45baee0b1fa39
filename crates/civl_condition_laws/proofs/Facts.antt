-- When values violate a condition at a cut, from what is known of the cut: the cut itself, the statements on its paths, and the
-- locals that are held there. Each is shown by itself, so that none is computed twice.
use Rattle.std.proofs.Common.{◌≡◌, ℕ, ◌+◌, ◌-◌, Bool, false, ◌&&◌, ◌||◌, not, List, [], ◌∷◌, ◌++◌, Option, Some, ap, ◌∙◌}
use Rattle.std.specs.Prelude.{slice_get, get_or, map}
use Rattle.std.specs.Option.{option_map_or}
use Rattle.civl_bits.specs.declared.value.Value.{Value}
use Rattle.civl_tree.specs.declared.expr.Expr.{Expr}
use Rattle.civl_tree.specs.declared.stmt.Stmt.{Stmt, out-Stmt, the_lemmas as of_stmt}
use Rattle.civl_tree.specs.declared.stmt.Stmt as stmt
use Rattle.civl_tree.specs.declared.stmt.Stmt.TheOpen as layer
use Rattle.civl_tree.specs.declared.action.Choice.{Choice}
use Rattle.civl_tree.specs.declared.program.Refines.{Refines}
use Rattle.civl_tree.specs.declared.program.Proc.{Proc}
use Rattle.civl_tree.specs.declared.program.Program.{Program}
use Rattle.civl_tree.specs.Numbering.{numbered, statements_of}
use Rattle.civl_tree.specs.rules.Names.{names_in_proc}
use Rattle.civl_meaning.specs.Layers.{program_at}
use Rattle.civl_meaning.specs.Permissions.{pairwise_disjoint}
use Rattle.civl_meaning.specs.Rest.{Rest, rest_at}
use Rattle.civl_layers.specs.declared.cut.Cut.{Cut}
use Rattle.civl_layers.specs.declared.cut.CutKind.TheVariants as kind
use Rattle.civl_layers.specs.Cuts.{proc_cuts}
use Rattle.civl_linear.specs.Held.{Traced, entry_held, traced_proc}
use Rattle.civl_linear.specs.Cuts.{held_numbers, held_at_cuts, held_under}
use Rattle.civl_conditions.specs.paths.Flows.{Flow, flow_all, flow_with, flow_or, flow_layer, flow_rest, flow_from}
use Rattle.civl_conditions.specs.paths.NoteValues.{note_values}
use Rattle.civl_conditions.specs.paths.Paths.{Course, Progress, pass_all, from_loop, from_layer, from_rest, path_from}
use Rattle.civl_conditions.proofs.paths.Passing.{from_yield_loop, from_rank_loop, from_yield, flow_yield_loop, flow_rank_loop, flow_yield}
use Rattle.civl_conditions.specs.declared.condition.Condition.TheVariants.{Path, Block}
use Rattle.civl_conditions.specs.declared.condition.Part.{Part}
use Rattle.civl_conditions.specs.declared.condition.Target.{Target}
use Rattle.civl_conditions.specs.Variables.{layer_choices}
use Rattle.civl_conditions.specs.Values.{Begun, chosen_in, choices_count, layout, begun}
use Rattle.civl_conditions.specs.Permissions.{in_store, held_at, of_held}
use Rattle.civl_conditions.specs.Invariants.{invariants_hold}
use Rattle.civl_conditions.specs.Assumed.{note_holds, cut_invariant, refined_gate}
use Rattle.civl_conditions.specs.Parts.{outcome_of, part_fails, path_fails, at_block_end}
use Rattle.civl_conditions.specs.Targets.{target_owned, target_lost, block_fails}
use Rattle.civl_conditions.specs.Violated.{violated}

pub record IsCut (program : Program) (q c : ℕ) (proc : Proc) (cut : Cut) (paths : Flow) (held : List ℕ) : Type 0 where
  pub proc_is : slice_get program.procs q ≡ Some proc
  pub cut_is : slice_get (proc_cuts proc) c ≡ Some cut
  pub paths_are : flow_from proc cut ≡ paths
  pub held_are : held_at program proc c ≡ held

-- the choices of these statements
abbrev pub choices_in : Program → ℕ → List (ℕ × Stmt) → List (ℕ × List Choice)
choices_in program step passed = map (λ q. (q.0, layer_choices (program_at program (step - 1)) (out-Stmt q.1))) passed

-- the beginning of a path
abbrev pub begun_by : Program → ℕ → Proc → Cut → List (ℕ × List Choice) → List Value → Begun
begun_by program step proc cut calls values = record {
  store = (begun program step proc cut values).store;
  locals = (begun program step proc cut values).locals;
  done = (begun program step proc cut values).done;
  old = (begun program step proc cut values).old;
  old_outs = (begun program step proc cut values).old_outs;
  old_done = (begun program step proc cut values).old_done;
  chosen = chosen_in calls values (layout program step proc cut).calls;
}

abbrev pub owned_by : Program → List ℕ → Begun → List (List ℕ)
owned_by program held b = in_store program b.store ++ of_held held b.locals

-- what is assumed
abbrev pub assumed_by : Program → ℕ → Proc → List ℕ → Cut → Begun → Bool
assumed_by program step proc held cut b =
    invariants_hold program step b.old
    && (note_holds (note_values program.globals proc b.store b.locals b.done b.old b.old_outs b.old_done) (cut_invariant proc cut)
    && ((b.old_done || refined_gate program proc b)
    && ((not b.old_done || b.done)
    && pairwise_disjoint (owned_by program held b))))

abbrev pub path_fails_by : Program → ℕ → Part → Proc → ℕ → Cut → List ℕ → Begun → Bool
path_fails_by program step part proc c cut held b = assumed_by program step proc held cut b && part_fails program step proc c cut b (outcome_of program step proc cut b) part

abbrev pub block_fails_by : Program → ℕ → Proc → Cut → List ℕ → Begun → Target → List Value → ℕ → Bool
block_fails_by program step proc cut held b target values at =
    assumed_by program step proc held cut b
    && (pairwise_disjoint (owned_by program held b ++ target_owned program target values at)
    && at_block_end proc (outcome_of program step proc cut b) (λ p. target_lost program step target values at b.old p.store))

pub of_cut_is : {A : Type 0} (program : Program) (q c : ℕ) (proc : Proc) (cut : Cut) (none : A) (f : Proc → Cut → A) → slice_get program.procs q ≡ Some proc → slice_get (proc_cuts proc) c ≡ Some cut → option_map_or (λ r. option_map_or (f r) (slice_get (proc_cuts r) c) none) (slice_get program.procs q) none ≡ f proc cut
of_cut_is program q c proc cut none f d e =
    ap (λ (o : Option Proc). option_map_or (λ r. option_map_or (f r) (slice_get (proc_cuts r) c) none) o none) d ∙ ap (λ (o : Option Cut). option_map_or (f proc) o none) e

-- K9
pub path_at : (program : Program) (step q c : ℕ) (proc : Proc) (cut : Cut) (paths : Flow) (held : List ℕ) → IsCut program q c proc cut paths held → (part : Part) (values : List Value) →
    violated program (Path part step q c) values ≡ path_fails_by program step part proc c cut held (begun_by program step proc cut (choices_in program step paths.passed) values)
unfolding violated
path_at program step q c proc cut paths held is part values =
    of_cut_is program q c proc cut false (λ r t. path_fails program step part r c t (begun program step r t values)) is.proc_is is.cut_is
    ∙ ap (λ (f : Flow). path_fails_by program step part proc c cut (held_at program proc c) (begun_by program step proc cut (choices_in program step f.passed) values)) is.paths_are
    ∙ ap (λ (ns : List ℕ). path_fails_by program step part proc c cut ns (begun_by program step proc cut (choices_in program step paths.passed) values)) is.held_are

-- where the values behind those of a path begin
abbrev pub behind_by : Program → ℕ → Proc → Cut → List (ℕ × List Choice) → ℕ
behind_by program step proc cut calls = (layout program step proc cut).calls + choices_count calls

-- K10
pub block_at : (program : Program) (step q c : ℕ) (proc : Proc) (cut : Cut) (paths : Flow) (held : List ℕ) → IsCut program q c proc cut paths held → (t : Target) (values : List Value) →
    violated program (Block step q c t) values ≡ block_fails_by program step proc cut held (begun_by program step proc cut (choices_in program step paths.passed) values) t values (behind_by program step proc cut (choices_in program step paths.passed))
unfolding violated
block_at program step q c proc cut paths held is t values =
    of_cut_is program q c proc cut false (λ r u. block_fails program step r c u (begun program step r u values) t values (layout program step r u).behind) is.proc_is is.cut_is
    ∙ ap (λ (f : Flow). block_fails_by program step proc cut (held_at program proc c) (begun_by program step proc cut (choices_in program step f.passed) values) t values (behind_by program step proc cut (choices_in program step f.passed))) is.paths_are
    ∙ ap (λ (ns : List ℕ). block_fails_by program step proc cut ns (begun_by program step proc cut (choices_in program step paths.passed) values) t values (behind_by program step proc cut (choices_in program step paths.passed))) is.held_are

-- ---- from a loop or a yield

pub from_rank : (c : Course) (number : ℕ) (e r i : Expr) (a : List Stmt) (rest : Rest) (p : Progress) → rest_at c.proc.body number ≡ (number, stmt.RankLoop e r i a) ∷ rest → path_from c (record { statement = number; kind = kind.RankLoop }) p ≡ from_loop c e a ((number, stmt.RankLoop e r i a) ∷ rest) p
unfolding path_from
from_rank c number e r i a rest p h =
    ap (λ (k : Rest). from_rest c k p) h
    ∙ ap (λ (d : layer.Stmt-F Stmt). from_layer c d ((number, stmt.RankLoop e r i a) ∷ rest) p) (simp of_stmt)
    ∙ from_rank_loop c e r i a ((number, stmt.RankLoop e r i a) ∷ rest) p

pub from_yielding : (c : Course) (number : ℕ) (e i : Expr) (a : List Stmt) (rest : Rest) (p : Progress) → rest_at c.proc.body number ≡ (number, stmt.YieldLoop e i a) ∷ rest → path_from c (record { statement = number; kind = kind.YieldLoop }) p ≡ from_loop c e a ((number, stmt.YieldLoop e i a) ∷ rest) p
unfolding path_from
from_yielding c number e i a rest p h =
    ap (λ (k : Rest). from_rest c k p) h
    ∙ ap (λ (d : layer.Stmt-F Stmt). from_layer c d ((number, stmt.YieldLoop e i a) ∷ rest) p) (simp of_stmt)
    ∙ from_yield_loop c e i a ((number, stmt.YieldLoop e i a) ∷ rest) p

pub from_resting : (c : Course) (number : ℕ) (i : Expr) (rest : Rest) (p : Progress) → rest_at c.proc.body number ≡ (number, stmt.Yield i) ∷ rest → path_from c (record { statement = number; kind = kind.Yield }) p ≡ pass_all c rest p
unfolding path_from
from_resting c number i rest p h =
    ap (λ (k : Rest). from_rest c k p) h
    ∙ ap (λ (d : layer.Stmt-F Stmt). from_layer c d ((number, stmt.Yield i) ∷ rest) p) (simp of_stmt)
    ∙ from_yield c i ((number, stmt.Yield i) ∷ rest) p

-- the statements on the paths from a loop: its head, those of its body, and those behind it
module _ (proc : Proc) (number : ℕ) (rest : Rest) (inside behind : Flow) where
  pub rank_flow : (e r i : Expr) (a : List Stmt) → rest_at proc.body number ≡ (number, stmt.RankLoop e r i a) ∷ rest → flow_all (numbered (number + 1) a ++ (number, stmt.RankLoop e r i a) ∷ rest) ≡ inside → flow_all rest ≡ behind →
      flow_from proc (record { statement = number; kind = kind.RankLoop }) ≡ flow_with (number, stmt.RankLoop e r i a) (flow_or inside behind)
  unfolding flow_from
  rank_flow e r i a h x y =
      let q : ℕ × Stmt = (number, stmt.RankLoop e r i a) in
      ap flow_rest h
      ∙ ap (λ (d : layer.Stmt-F Stmt). flow_layer d (q ∷ rest)) (simp of_stmt)
      ∙ flow_rank_loop e r i a (q ∷ rest)
      ∙ ap (λ (f : Flow). flow_with q (flow_or f (flow_all rest))) x
      ∙ ap (λ (f : Flow). flow_with q (flow_or inside f)) y

  pub yielding_flow : (e i : Expr) (a : List Stmt) → rest_at proc.body number ≡ (number, stmt.YieldLoop e i a) ∷ rest → flow_all (numbered (number + 1) a ++ (number, stmt.YieldLoop e i a) ∷ rest) ≡ inside → flow_all rest ≡ behind →
      flow_from proc (record { statement = number; kind = kind.YieldLoop }) ≡ flow_with (number, stmt.YieldLoop e i a) (flow_or inside behind)
  unfolding flow_from
  yielding_flow e i a h x y =
      let q : ℕ × Stmt = (number, stmt.YieldLoop e i a) in
      ap flow_rest h
      ∙ ap (λ (d : layer.Stmt-F Stmt). flow_layer d (q ∷ rest)) (simp of_stmt)
      ∙ flow_yield_loop e i a (q ∷ rest)
      ∙ ap (λ (f : Flow). flow_with q (flow_or f (flow_all rest))) x
      ∙ ap (λ (f : Flow). flow_with q (flow_or inside f)) y

-- those behind a yield
pub resting_flow : (proc : Proc) (number : ℕ) (rest : Rest) (behind : Flow) (i : Expr) → rest_at proc.body number ≡ (number, stmt.Yield i) ∷ rest → flow_all rest ≡ behind → flow_from proc (record { statement = number; kind = kind.Yield }) ≡ behind
unfolding flow_from
resting_flow proc number rest behind i h y = ap flow_rest h ∙ ap (λ (d : layer.Stmt-F Stmt). flow_layer d ((number, stmt.Yield i) ∷ rest)) (simp of_stmt) ∙ flow_yield i ((number, stmt.Yield i) ∷ rest) ∙ y

-- ---- what is held at a cut

pub held_by : (program : Program) (proc : Proc) (c : ℕ) (refines : Refines) (stmts : List Stmt) (trace : Traced) → proc.refines ≡ Some refines → statements_of proc.body ≡ stmts → traced_proc program proc ≡ trace →
    held_at program proc c ≡ get_or (held_numbers 0 (names_in_proc proc) (entry_held proc) ∷ held_at_cuts (names_in_proc proc) stmts trace.befores) c []
held_by program proc c refines stmts trace d e f =
    ap (λ (r : Option Refines). get_or (held_under program proc r) c []) d
    ∙ ap (λ (ss : List Stmt). get_or (held_numbers 0 (names_in_proc proc) (entry_held proc) ∷ held_at_cuts (names_in_proc proc) ss (traced_proc program proc).befores) c []) e
    ∙ ap (λ (t : Traced). get_or (held_numbers 0 (names_in_proc proc) (entry_held proc) ∷ held_at_cuts (names_in_proc proc) stmts t.befores) c []) f
