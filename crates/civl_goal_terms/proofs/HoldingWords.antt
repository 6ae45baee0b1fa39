-- What is held before a statement are words of the permission width: the parameters that are lent or taken, and the names to which
-- calls gave.
use Rattle.std.specs.Prelude.{slice_get, get_or, All}
use Rattle.std.proofs.Common.{◌≡◌, ℕ, zero, suc, Bool, List, [], ◌∷◌, Some}
use Rattle.civl_tree.specs.declared.expr.Sort.TheVariants.{Word}
use Rattle.civl_tree.specs.declared.program.Proc.{Proc}
use Rattle.civl_tree.specs.declared.program.Program.{Program}
use Rattle.civl_tree.specs.rules.Names.{names_in_proc}
use Rattle.civl_tree.specs.rules.Rules.{Keeps}
use Rattle.civl_tree.specs.rules.Typing.{typing_rules}
use Rattle.civl_meaning.specs.Config.{frame_sorts}
use Rattle.civl_linear.specs.Held.{traced_proc, entry_held}
use Rattle.civl_linear.specs.Cuts.{held_numbers}
use Rattle.civl_goals.specs.Failed.{held_before}
use Rattle.civl_states.specs.Notes.{IsProcIn}
use Rattle.civl_states.proofs.Holding.{Each, Holds, IsHeld, entry_holds, body_stands, sound_body, flags_numbered, all_each}

module _ (program : Program) (keeps : Keeps typing_rules program) (proc : Proc) (there : IsProcIn program proc) where
  abbrev AreSet : List Bool → Type 0
  AreSet flags = Holds program keeps proc there flags

  got : (befores : List (List Bool)) (s : ℕ) → Each AreSet befores → AreSet (get_or befores s [])
  got [] s h = λ n e. absurd (cc)
  got (flags ∷ befores) zero h = h.0
  got (flags ∷ befores) (suc s) h = got befores s h.1

  before_holds : (s : ℕ) → AreSet (get_or (traced_proc program proc).befores s [])
  before_holds s = got (traced_proc program proc).befores s (body_stands program keeps proc there proc.body (entry_held proc) (entry_holds program keeps proc there) (sound_body program keeps proc there)).befores

  -- the numbers that are held before a statement are those of locals of the permission width
  pub held_are_words : (s : ℕ) → All (λ n. slice_get (frame_sorts proc) n ≡ Some (Word program.permissions)) (held_before program proc s)
  held_are_words s =
      let flags = get_or (traced_proc program proc).befores s [] in
      all_each program keeps proc there (IsHeld program keeps proc there) (held_numbers 0 (names_in_proc proc) flags) (flags_numbered program keeps proc there flags (before_holds s))
