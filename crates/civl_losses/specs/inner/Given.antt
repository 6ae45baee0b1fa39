-- A path's beginning, where its values are read one behind the other.
use Rattle.std.specs.Prelude.{ℕ, false, List, [], ◌∷◌, ◌++◌, length, take, drop, slice_get, map}
use Rattle.std.specs.Option.{option_map_or}
use Rattle.civl_bits.specs.declared.value.Value.{Value}
use Rattle.civl_tree.specs.declared.action.Choice.{Choice}
use Rattle.civl_tree.specs.declared.stmt.Stmt.{Stmt, out-Stmt}
use Rattle.civl_tree.specs.declared.program.Proc.{Proc}
use Rattle.civl_tree.specs.declared.program.Program.{Program}
use Rattle.civl_firing.specs.Scope.{zeros_of_params, zeros_of_locals}
use Rattle.civl_meaning.specs.Change.{outs_in}
use Rattle.civl_meaning.specs.Layers.{program_at}
use Rattle.civl_layers.specs.declared.cut.Cut.{Cut}
use Rattle.civl_conditions.specs.paths.Seen.{exists_near}
use Rattle.civl_conditions.specs.Variables.{layer_choices, passed_choices}
use Rattle.civl_conditions.specs.Values.{Begun, store_of, count_of, choices_count, chosen_in, flag_at}
use Rattle.civl_traces.specs.declared.walked.Chosen.{Chosen}

-- the choices of these calls, whose values stand one behind the other
abbrev pub listed : List (ℕ × List Choice) → List Value → List Chosen
listed [] vs = []
listed (q ∷ qs) vs = record { statement = q.0; choices = take (length q.1) vs } ∷ listed qs (drop (length q.1) vs)

-- the choices of the statement with this number, where it calls an action
abbrev pub choices_of_number : Program → ℕ → List Stmt → ℕ → List Choice
choices_of_number program layer stmts number = option_map_or (λ s. layer_choices (program_at program layer) (out-Stmt s))
    (slice_get stmts number) []

abbrev pub calls_of : Program → ℕ → List Stmt → List ℕ → List (ℕ × List Choice)
calls_of program layer stmts numbers = map (λ n. (n, choices_of_number program layer stmts n)) numbers

-- the choices of the calls that some path passes, whose values these are
abbrev pub choices_from : Program → ℕ → Proc → Cut → List Value → ℕ → List Value
choices_from program step proc cut vs = chosen_in (passed_choices program step proc cut) vs 0

abbrev pub behind_near : Program → ℕ → List Value → List Value
behind_near program step values = drop (count_of (exists_near step) program) values

-- from the entry
abbrev pub entry_locals : Proc → List Value → List Value
entry_locals proc vs = take (length proc.params) vs ++ (zeros_of_params proc.outs ++ zeros_of_locals proc.locals)

abbrev pub entry_begun : Program → ℕ → Proc → Cut → List Value → Begun
entry_begun program step proc cut values = record {
  store = store_of (exists_near step) program values;
  locals = entry_locals proc (behind_near program step values);
  done = false;
  old = store_of (exists_near step) program values;
  old_outs = outs_in proc (entry_locals proc (behind_near program step values));
  old_done = false;
  chosen = choices_from program step proc cut (drop (length proc.params) (behind_near program step values));
}

-- from elsewhere
abbrev pub frame_locals : Proc → List Value → List Value
frame_locals proc vs =
    take (length proc.params) vs
    ++ (take (length proc.outs) (drop (length proc.params) vs) ++ take (length proc.locals) (drop (length proc.outs)
    (drop (length proc.params) vs)))

abbrev pub behind_frame : Proc → List Value → List Value
behind_frame proc vs = drop (length proc.locals) (drop (length proc.outs) (drop (length proc.params) vs))

-- from a yield
abbrev pub yield_begun : Program → ℕ → Proc → Cut → List Value → Begun
yield_begun program step proc cut values = record {
  store = store_of (exists_near step) program values;
  locals = frame_locals proc (behind_near program step values);
  done = flag_at (behind_frame proc (behind_near program step values)) 0;
  old = store_of (exists_near step) program values;
  old_outs = outs_in proc (frame_locals proc (behind_near program step values));
  old_done = flag_at (behind_frame proc (behind_near program step values)) 0;
  chosen = choices_from program step proc cut (drop 1 (behind_frame proc (behind_near program step values)));
}

-- from a rank loop, of the values behind those of the globals and those of the old globals
abbrev pub rank_behind : Proc → List Value → List Value
rank_behind proc vs = drop (length proc.outs) (behind_frame proc vs)

abbrev pub rank_begun : Program → ℕ → Proc → Cut → List Value → Begun
rank_begun program step proc cut values =
    let vs = behind_near program step (behind_near program step values) in
    record {
      store = store_of (exists_near step) program values;
      locals = frame_locals proc vs;
      done = flag_at (rank_behind proc vs) 0;
      old = store_of (exists_near step) program (behind_near program step values);
      old_outs = take (length proc.outs) (behind_frame proc vs);
      old_done = flag_at (drop 1 (rank_behind proc vs)) 0;
      chosen = choices_from program step proc cut (drop 1 (drop 1 (rank_behind proc vs)));
    }

-- ---- the values behind a path's beginning

abbrev pub behind_calls : Program → ℕ → Proc → Cut → List Value → List Value
behind_calls program step proc cut vs = drop (choices_count (passed_choices program step proc cut)) vs

abbrev pub behind_entry : Program → ℕ → Proc → Cut → List Value → List Value
behind_entry program step proc cut values =
    behind_calls program step proc cut (drop (length proc.params) (behind_near program step values))

abbrev pub behind_yield : Program → ℕ → Proc → Cut → List Value → List Value
behind_yield program step proc cut values =
    behind_calls program step proc cut (drop 1 (behind_frame proc (behind_near program step values)))

abbrev pub behind_rank : Program → ℕ → Proc → Cut → List Value → List Value
behind_rank program step proc cut values =
    behind_calls program step proc cut
    (drop 1 (drop 1 (rank_behind proc (behind_near program step (behind_near program step values)))))
