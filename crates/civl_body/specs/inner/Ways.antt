-- For private functions alone: the ways of a sweep that is past all statements.
use Rattle.std.specs.Prelude.{ℕ, ◌+◌, true, if◌then◌else◌, List, [], ◌∷◌, ◌++◌}
use Rattle.civl_layers.specs.declared.cut.Cut.{Cut}
use Rattle.civl_moves.specs.sweeps.Flowing.{is_statement}
use Rattle.civl_moves.specs.declared.sweep.Stop.{Stop}
use Rattle.civl_moves.specs.declared.sweep.Sweep.{Sweep}
use Rattle.civl_states.specs.declared.beginning.Beginning.{Beginning}
use Rattle.civl_body.specs.declared.way.Way.{Way}

-- at the beginning of a path, with this term for true
abbrev pub sweep_of : ℕ → Beginning → Sweep
sweep_of sure t = record { onward = true; live = sure; globals = t.globals; locals = t.locals; done = t.done; safe = sure; once = sure; stops = [] }

-- the way to a stop, which is the end with this number
abbrev pub way_from : ℕ → Stop → Way
way_from end s = record { end = end; taken = s.taken; globals = s.globals; locals = s.locals; done = s.done }

-- to the stop before this cut, if there is one
abbrev pub ways_before : Cut → ℕ → List Stop → List Way
ways_before cut end [] = []
ways_before cut end (s ∷ ss) = if is_statement s.number cut then way_from end s ∷ [] else ways_before cut end ss

-- to the exit, if some path goes on to it
abbrev pub exit_way : ℕ → Sweep → Way
exit_way end s = record { end = end; taken = s.live; globals = s.globals; locals = s.locals; done = s.done }

abbrev pub exit_ways : ℕ → Sweep → List Way
exit_ways end s = if s.onward then exit_way end s ∷ [] else []

-- to these cuts, the first of which has this number, and to the exit
abbrev pub ways_from : ℕ → List Cut → Sweep → List Way
ways_from at [] s = exit_ways at s
ways_from at (cut ∷ cuts) s = ways_before cut at s.stops ++ ways_from (at + 1) cuts s
