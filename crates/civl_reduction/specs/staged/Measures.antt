-- Open blocks end: each step of one makes a number smaller, of the rank loops that are still to come, the rank of the present one,
-- and the statements in front of the next cut. (Ranks and well-founded orders: Floyd, Assigning meanings to programs, 1967.)
use Rattle.std.specs.Prelude.{ℕ, suc, ◌+◌, ◌-◌, ◌*◌, ◌<◌, ◌≡◌, true, false, List, ◌++◌, length, All, Some, if◌then◌else◌}
use Rattle.std.specs.Option.{option_map_or}
use Rattle.civl_bits.specs.Value.{IsValue}
use Rattle.civl_bits.specs.declared.value.Value.{Value}
use Rattle.civl_bits.specs.declared.value.Value.TheVariants as value
use Rattle.civl_tree.specs.declared.program.Proc.{Proc}
use Rattle.civl_tree.specs.declared.program.Program.{Program}
use Rattle.civl_tree.specs.Numbering.{statements_of}
use Rattle.civl_firing.specs.declared.store.Store.{Store}
use Rattle.civl_firing.specs.Eval.{value_of}
use Rattle.civl_meaning.specs.declared.config.Activation.{Activation}
use Rattle.civl_meaning.specs.declared.config.Running.{Running}
use Rattle.civl_meaning.specs.declared.config.Change.{Change}
use Rattle.civl_meaning.specs.declared.config.Change.TheVariants.{Goes, Acts}
use Rattle.civl_meaning.specs.Permissions.{pairwise_disjoint}
use Rattle.civl_meaning.specs.Places.{Spot, spot_at}
use Rattle.civl_meaning.specs.Rest.{rest_at}
use Rattle.civl_meaning.specs.Change.{change_of}
use Rattle.civl_meaning.specs.Layers.{program_at}
use Rattle.civl_layers.specs.declared.cut.Cut.{Cut}
use Rattle.civl_conditions.specs.paths.NoteValues.{plain_note_values}
use Rattle.civl_conditions.specs.paths.Runs.{Standing}
use Rattle.civl_conditions.specs.paths.Ends.{is_rank_loop, cut_number}
use Rattle.civl_conditions.specs.Permissions.{in_store, held_at, of_held}
use Rattle.civl_conditions.specs.Values.{Begun}
use Rattle.civl_conditions.specs.Assumed.{cut_rank}
use Rattle.civl_reduction.specs.blocks.Blocks.{at_yield}
use Rattle.civl_reduction.specs.open_blocks.Following.{cut_ahead}
use Rattle.civl_meaning.specs.Config.{moved_frame}
use Rattle.civl_reduction.specs.open_blocks.Open.{IsSound, IsTopmost, IsOpen}

-- ---- the measure

-- the number that a word is
abbrev pub number_of : Value → ℕ
number_of (value.Word a) = a.1
number_of _ = 0

-- the rank where a path begins; but for rank loops there is none
abbrev pub rank_at : Program → Proc → Cut → Begun → ℕ
rank_at program proc cut b = option_map_or (λ r. number_of (value_of (plain_note_values program.globals proc b.store b.locals) r)) (cut_rank proc cut) 0

-- how many statements a body has
abbrev pub count_of : Proc → ℕ
count_of proc = length (statements_of proc.body)

-- no rank loop that is behind this one has a number as far from the end; before the first one all may come
abbrev pub level_of : Proc → Cut → ℕ
level_of proc cut = if is_rank_loop cut.kind then count_of proc - cut.statement else count_of proc + 1

-- more than any count of statements, and more than any word
abbrev pub step_base : Proc → ℕ
step_base proc = count_of proc + 2

abbrev pub word_base : ℕ
word_base = 4294967296

-- of a path from this cut, on which no statement with a number below the bound is still to come
abbrev pub measure : Program → Proc → Cut → Begun → ℕ → ℕ
measure program proc cut b bound = step_base proc * word_base * level_of proc cut + (step_base proc * rank_at program proc cut b + (count_of proc + 1 - bound))

-- ---- open blocks

-- an open block with a measure below this number
pub record IsNear (program : Program) (step q : ℕ) (proc : Proc) (store : Store) (frame : Activation) (n : ℕ) : Type 0 where
  pub number : ℕ
  pub cut : Cut
  pub begun : Begun
  pub bound : ℕ
  pub here : Standing
  pub opened : IsOpen program step q number proc cut begun bound here store frame
  pub place : here.place ≡ frame.place
  pub near : measure program proc cut begun bound < n

-- behind a step that goes on in the frame
abbrev pub IsNearer : Program → ℕ → ℕ → Proc → Store → Activation → ℕ → Change → Type 0
IsNearer program step q proc store frame n (Goes locals place) = IsNear program step q proc store (moved_frame frame locals place) n
IsNearer program step q proc store frame n (Acts after locals place) = IsNear program step q proc after (moved_frame frame locals place) n
IsNearer program step q proc store frame n _ = Unit {0}

-- before the head of a rank loop what the frame holds there is apart from the linear globals
abbrev pub HeldIsApart : Program → Proc → Store → Activation → Type 0
HeldIsApart program proc store frame =
    (number : ℕ) → cut_ahead proc.body frame.place ≡ Some number → pairwise_disjoint (in_store program store ++ of_held (held_at program proc (cut_number proc number)) frame.locals) ≡ true

-- each step of a thread whose block is open, and which stands before no yield, brings it nearer to its end
abbrev pub OpenBlocksComeNearer : Type 0
OpenBlocksComeNearer =
    (program : Program) (step q : ℕ) (proc : Proc) (store : Store) (frame : Activation) (thread : Running) (values : List Value) (s : Spot) (n : ℕ)
    → IsSound program → IsNear program step q proc store frame (suc n) → IsTopmost program step q thread frame → All IsValue values → HeldIsApart program proc store frame
    → at_yield (rest_at proc.body frame.place) ≡ false → spot_at proc.body frame.place ≡ Some s
    → IsNearer program step q proc store frame n (change_of (program_at program (step - 1)) store values thread)
