-- Worked examples of words.
use Rattle.std.specs.Prelude.{◌≡◌, codes, [], ◌∷◌, None, Some}
use Rattle.civl_words.specs.Words.{command_of}
use Rattle.civl_words.specs.declared.words.Command.TheVariants.{Check, Conditions, Fmt, RunLow, RunTop, Trial, Prove, ProofMake, ProofReplay}

-- each command with its words, and its usual numbers
abbrev pub EachCommandHasWords : Type 0
EachCommandHasWords =
    (command_of (codes "check" ∷ []) ≡ Some (Check 200000))
    × (command_of (codes "conditions" ∷ []) ≡ Some (Conditions 200000))
    × (command_of (codes "fmt" ∷ []) ≡ Some Fmt)
    × (command_of (codes "run" ∷ codes "low" ∷ []) ≡ Some RunLow)
    × (command_of (codes "run" ∷ codes "top" ∷ []) ≡ Some RunTop)
    × (command_of (codes "trial" ∷ codes "8" ∷ []) ≡ Some (Trial 8))
    × (command_of (codes "prove" ∷ []) ≡ Some (Prove 200000))
    × (command_of (codes "proof" ∷ codes "make" ∷ []) ≡ Some (ProofMake 0 200000))
    × (command_of (codes "proof" ∷ codes "replay" ∷ []) ≡ Some ProofReplay)

-- numbers that the words give
abbrev pub NumbersAreRead : Type 0
NumbersAreRead =
    (command_of (codes "check" ∷ codes "--budget" ∷ codes "7" ∷ []) ≡ Some (Check 7))
    × (command_of (codes "check" ∷ codes "--budget=0" ∷ []) ≡ Some (Check 0))
    × (command_of (codes "check" ∷ codes "--budget=0010" ∷ []) ≡ Some (Check 10))
    × (command_of (codes "conditions" ∷ codes "--budget" ∷ codes "10000000" ∷ []) ≡ Some (Conditions 10000000))
    × (command_of (codes "trial" ∷ codes "1" ∷ []) ≡ Some (Trial 1))
    × (command_of (codes "prove" ∷ codes "--budget=50" ∷ []) ≡ Some (Prove 50))
    × (command_of (codes "proof" ∷ codes "make" ∷ codes "--at" ∷ codes "4294967295" ∷ []) ≡ Some (ProofMake 4294967295 200000))
    × (command_of (codes "proof" ∷ codes "--budget" ∷ codes "5" ∷ codes "make" ∷ codes "--at=3" ∷ []) ≡ Some (ProofMake 3 5))

-- words that are no command: values that are wanting or don't fit, words too many, calls for help, and unknown words
abbrev pub OthersAreNoCommand : Type 0
OthersAreNoCommand =
    (command_of [] ≡ None)
    × (command_of (codes "check" ∷ codes "--budget" ∷ []) ≡ None)
    × (command_of (codes "check" ∷ codes "--budget" ∷ codes "10000001" ∷ []) ≡ None)
    × (command_of (codes "check" ∷ codes "--budget=1" ∷ codes "--budget=1" ∷ []) ≡ None)
    × (command_of (codes "trial" ∷ []) ≡ None)
    × (command_of (codes "trial" ∷ codes "0" ∷ []) ≡ None)
    × (command_of (codes "trial" ∷ codes "9" ∷ []) ≡ None)
    × (command_of (codes "fmt" ∷ codes "x" ∷ []) ≡ None)
    × (command_of (codes "run" ∷ codes "middle" ∷ []) ≡ None)
    × (command_of (codes "help" ∷ []) ≡ None)
    × (command_of (codes "--help" ∷ []) ≡ None)
    × (command_of (codes "check" ∷ codes "--help" ∷ []) ≡ None)
    × (command_of (codes "prove" ∷ codes "make" ∷ []) ≡ None)
    × (command_of (codes "prove" ∷ codes "--budget" ∷ codes "10000001" ∷ []) ≡ None)
    × (command_of (codes "proof" ∷ codes "replay" ∷ codes "--at" ∷ codes "0" ∷ []) ≡ None)
    × (command_of (codes "proof" ∷ codes "replay" ∷ codes "--budget=200000" ∷ []) ≡ None)
