-- Where a sweep stops, and whether it goes on: at the cuts at which some path ends, in the same order, and where some path goes on.
use Rattle.std.specs.Prelude.{ℕ, ◌≡◌, ◌+◌, ◌<◌, ◌≤◌, Bool, not, ◌&&◌, nat_eq, if◌then◌else◌, Some, List, [], ◌∷◌, map, slice_get}
use Rattle.civl_layers.specs.declared.cut.Cut.{Cut}
use Rattle.civl_layers.specs.Cuts.{proc_cuts}
use Rattle.std.specs.List.{Contains}
use Rattle.civl_tree.specs.declared.program.Proc.{Proc}
use Rattle.civl_tree.specs.declared.program.Refines.{Refines}
use Rattle.civl_conditions.specs.paths.Ends.{is_entry, arrived, cut_number, exit_of, ends_from}
use Rattle.civl_conditions.specs.paths.Paths.{Course, Progress, path_from}
use Rattle.civl_conditions.specs.paths.Flows.{flow_from}
use Rattle.civl_moves.specs.sweeps.Sweeps.{Stop, sweep_from, sweep_begins}

abbrev pub numbers_of : List Stop → List ℕ
numbers_of stops = map (λ s. s.number) stops

abbrev pub SweepsStopAtEnds : Type 0
SweepsStopAtEnds =
    (c : Course) (cut : Cut) (p : Progress) →
    (numbers_of (sweep_from c cut (sweep_begins p)).stops ≡ (flow_from c.proc cut).ends) × ((sweep_from c cut (sweep_begins p)).onward ≡ (flow_from c.proc cut).onward)

-- where a path of a procedure that refines an action arrives is one of the ends that some path reaches
abbrev pub PathsArriveAtEnds : Type 0
PathsArriveAtEnds =
    (c : Course) (cut : Cut) (p : Progress) (refines : Refines) (end : ℕ) → c.proc.refines ≡ Some refines → arrived c.proc (path_from c cut p) ≡ Some end → Contains (ends_from c.proc cut) end

-- how often a number stands among these
abbrev pub times : ℕ → List ℕ → ℕ
times n [] = 0
times n (x ∷ xs) = (if nat_eq n x then 1 else 0) + times n xs

-- no two ends of the paths from a cut have one number
abbrev pub EndsComeOnce : Type 0
EndsComeOnce = (proc : Proc) (cut : Cut) (n : ℕ) → times n (flow_from proc cut).ends ≤ 1

-- the cut is the statement with this number
abbrev pub is_statement : ℕ → Cut → Bool
is_statement number cut = not (is_entry cut.kind) && nat_eq number cut.statement

-- each end is a cut of the procedure, and a cut is this statement where it has its number among the cuts
abbrev pub EndsAreCuts : Type 0
EndsAreCuts =
    (proc : Proc) (refines : Refines) (cut : Cut) (n : ℕ) → proc.refines ≡ Some refines → Contains (flow_from proc cut).ends n
    → (cut_number proc n < exit_of proc) × ((i : ℕ) (k : Cut) → slice_get (proc_cuts proc) i ≡ Some k → is_statement n k ≡ nat_eq i (cut_number proc n))
