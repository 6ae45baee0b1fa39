-- Where the paths from a cut end: at cuts, by their numbers, and at the exit, whose number is that of the procedure's cuts.
use Rattle.std.specs.Prelude.{ℕ, ◌+◌, Bool, true, false, not, ◌&&◌, ◌||◌, nat_eq, if◌then◌else◌, List, [], ◌∷◌, ◌++◌, length, take, slice_get, Option, None, Some}
use Rattle.std.specs.List.{list_any}
use Rattle.std.specs.Option.{option_map_or}
use Rattle.civl_tree.specs.declared.program.Proc.{Proc}
use Rattle.civl_tree.specs.Numbering.{statements_of}
use Rattle.civl_layers.specs.declared.cut.Cut.{Cut}
use Rattle.civl_layers.specs.declared.cut.CutKind.{CutKind}
use Rattle.civl_layers.specs.declared.cut.CutKind.TheVariants as kind
use Rattle.civl_layers.specs.Cuts.{cuts_among, proc_cuts}
use Rattle.civl_conditions.specs.paths.Paths.{Outcome, Past, Comes, Fails, Stops}
use Rattle.civl_conditions.specs.paths.Flows.{Flow, flow_from}

-- ---- kinds of cuts

abbrev pub is_entry : CutKind → Bool
is_entry kind.Entry = true
is_entry _ = false

-- a yield or a yield loop, where a thread may be interrupted
abbrev pub is_yield_cut : CutKind → Bool
is_yield_cut kind.Yield = true
is_yield_cut kind.YieldLoop = true
is_yield_cut _ = false

abbrev pub is_rank_loop : CutKind → Bool
is_rank_loop kind.RankLoop = true
is_rank_loop _ = false

-- ---- ends by number

-- the exit
abbrev pub exit_of : Proc → ℕ
exit_of proc = length (proc_cuts proc)

abbrev pub is_exit : Proc → ℕ → Bool
is_exit proc end = nat_eq end (exit_of proc)

-- the cut that is the statement with this number: behind the entry and the cuts before it
abbrev pub cut_number : Proc → ℕ → ℕ
cut_number proc number = 1 + length (cuts_among 0 (take number (statements_of proc.body)))

-- a block ends at each end but a rank loop's head
abbrev pub ends_block : Proc → ℕ → Bool
ends_block proc end = option_map_or (λ cut. not (is_rank_loop cut.kind)) (slice_get (proc_cuts proc) end) true

-- where a path ends, if it does
abbrev pub arrived : Proc → Outcome → Option ℕ
arrived proc (Past p) = Some (exit_of proc)
arrived proc (Comes number p) = Some (cut_number proc number)
arrived proc (Fails p) = None
arrived proc (Stops p) = None

-- ---- the ends that some path reaches

abbrev pub reaches : Proc → Flow → ℕ → Bool
reaches proc f end = (f.onward && is_exit proc end) || list_any (λ number. nat_eq end (cut_number proc number)) f.ends

-- of the numbers from this one on, one for each of these cuts and one for the exit, those that pass the test
abbrev pub ends_among : (ℕ → Bool) → ℕ → List Cut → List ℕ
ends_among test at [] = if test at then at ∷ [] else []
ends_among test at (cut ∷ cuts) = (if test at then at ∷ [] else []) ++ ends_among test (at + 1) cuts

-- the ends that some path from a cut reaches, rising
abbrev pub ends_from : Proc → Cut → List ℕ
ends_from proc cut = ends_among (reaches proc (flow_from proc cut)) 0 (proc_cuts proc)
