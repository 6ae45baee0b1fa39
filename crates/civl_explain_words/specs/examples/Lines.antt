-- Worked examples of words.
use Rattle.std.specs.Prelude.{◌≡◌, true, false, codes, [], ◌∷◌, None, Some}
use Rattle.civl_explain_words.specs.Words.{asked_of}
use Rattle.civl_explain_words.specs.declared.words.Command.TheVariants.{Check, Conditions, RunLow, RunTop, Prove}

-- each command with its words, and its usual numbers
abbrev pub EachCommandHasWords : Type 0
EachCommandHasWords =
    (asked_of (codes "check" ∷ []) ≡ Some (record { command = Check 200000; by_lines = false; assumed = false }))
    × (asked_of (codes "conditions" ∷ []) ≡ Some (record { command = Conditions 200000; by_lines = false; assumed = false }))
    × (asked_of (codes "run" ∷ codes "low" ∷ []) ≡ Some (record { command = RunLow; by_lines = false; assumed = false }))
    × (asked_of (codes "run" ∷ codes "top" ∷ []) ≡ Some (record { command = RunTop; by_lines = false; assumed = false }))
    × (asked_of (codes "prove" ∷ []) ≡ Some (record { command = Prove 200000; by_lines = false; assumed = false }))

-- numbers and `--lines` that the words give
abbrev pub NumbersAreRead : Type 0
NumbersAreRead =
    (asked_of (codes "check" ∷ codes "--budget" ∷ codes "7" ∷ []) ≡ Some (record { command = Check 7; by_lines = false; assumed = false }))
    × (asked_of (codes "check" ∷ codes "--lines" ∷ []) ≡ Some (record { command = Check 200000; by_lines = true; assumed = false }))
    × (asked_of (codes "check" ∷ codes "--lines" ∷ codes "--budget=0" ∷ []) ≡ Some (record { command = Check 0; by_lines = true; assumed = false }))
    × (asked_of (codes "conditions" ∷ codes "--budget" ∷ codes "10000000" ∷ codes "--lines" ∷ []) ≡ Some (record { command = Conditions 10000000; by_lines = true; assumed = false }))
    × (asked_of (codes "run" ∷ codes "--lines" ∷ codes "top" ∷ []) ≡ Some (record { command = RunTop; by_lines = true; assumed = false }))
    × (asked_of (codes "prove" ∷ codes "--budget=50" ∷ []) ≡ Some (record { command = Prove 50; by_lines = false; assumed = false }))

-- the flags in either order, and one of them
abbrev pub FlagsAreRead : Type 0
FlagsAreRead =
    (asked_of (codes "check" ∷ codes "--assumed" ∷ []) ≡ Some (record { command = Check 200000; by_lines = false; assumed = true }))
    × (asked_of (codes "prove" ∷ codes "--assumed" ∷ codes "--lines" ∷ []) ≡ Some (record { command = Prove 200000; by_lines = true; assumed = true }))
    × (asked_of (codes "conditions" ∷ codes "--lines" ∷ codes "--assumed" ∷ codes "--budget=7" ∷ [])
    ≡ Some (record { command = Conditions 7; by_lines = true; assumed = true }))

-- words that are no command: values that are wanting or don't fit, words too many, calls for help, and unknown words
abbrev pub OthersAreNoCommand : Type 0
OthersAreNoCommand =
    (asked_of [] ≡ None)
    × (asked_of (codes "check" ∷ codes "--budget" ∷ []) ≡ None)
    × (asked_of (codes "check" ∷ codes "--budget" ∷ codes "10000001" ∷ []) ≡ None)
    × (asked_of (codes "check" ∷ codes "--lines" ∷ codes "--lines" ∷ []) ≡ None)
    × (asked_of (codes "check" ∷ codes "--lines=yes" ∷ []) ≡ None)
    × (asked_of (codes "--lines" ∷ codes "check" ∷ []) ≡ None)
    × (asked_of (codes "check" ∷ codes "--assumed" ∷ codes "--assumed" ∷ []) ≡ None)
    × (asked_of (codes "run" ∷ codes "low" ∷ codes "--assumed" ∷ []) ≡ None)
    × (asked_of (codes "fmt" ∷ []) ≡ None)
    × (asked_of (codes "trial" ∷ codes "1" ∷ []) ≡ None)
    × (asked_of (codes "run" ∷ codes "middle" ∷ []) ≡ None)
    × (asked_of (codes "run" ∷ []) ≡ None)
    × (asked_of (codes "help" ∷ []) ≡ None)
    × (asked_of (codes "check" ∷ codes "--help" ∷ []) ≡ None)
