-- Serves private functions: how the code reads a certificate, one byte after the other. That it reads just the certificates of `Text`, and stops at just the first faults, is proved.
use Rattle.std.specs.Prelude.{◌≡◌, ℕ, ◌+◌, ◌*◌, ◌-◌, ◌<◌, ◌≤◌, ◌&&◌, drop, Bool, true, false, not, nat_eq, nat_lt, nat_le, if◌then◌else◌, List, [], ◌∷◌, ◌++◌, length, codes, Option, None, Some, Result, Ok, Err}
use Rattle.std.specs.Char.{is_ascii_digit}
use Rattle.std.specs.Option.{option_map}
use Rattle.civl_cnf.specs.Literal.{Literal}
use Rattle.civl_cnf.specs.ClauseSet.{ClauseSet}
use Rattle.civl_proofs.specs.declared.word.Word.{Word}
use Rattle.civl_proofs.specs.declared.word.Word.TheVariants.{Empty, Minus, Zero, Number}
use Rattle.civl_proofs.specs.declared.word.Ending.{Ending}
use Rattle.civl_proofs.specs.declared.word.Ending.TheVariants.{Nothing, WholeLiteral, WholeClause, Torn}
use Rattle.civl_proofs.specs.declared.reading.Next.{Next}
use Rattle.civl_proofs.specs.declared.reading.Next.TheVariants.{On, Ends}
use Rattle.civl_proofs.specs.declared.reading.Spot.{Spot}
use Rattle.civl_proofs.specs.declared.reading.Spot.TheVariants.{First, Inside, Comment}
use Rattle.civl_proofs.specs.Text.{is_blank, most_variables, most_clauses}

-- the value with one digit more, if it is within the limit
abbrev pub with_digit : ℕ → ℕ → ℕ → Option ℕ
with_digit limit value byte =
    if is_ascii_digit byte && nat_le (value * 10 + (byte - 48)) limit then Some (value * 10 + (byte - 48)) else None

-- a number of the header with one digit more
abbrev pub counted : ℕ → Option ℕ → ℕ → Option ℕ
counted limit None byte = with_digit limit 0 byte
counted limit (Some value) byte = if nat_eq value 0 then None else with_digit limit value byte

-- a literal's number with its first digit
abbrev pub begun : ℕ → Bool → ℕ → Option Word
begun limit positive byte = if nat_eq byte 48 then None else option_map (Number positive) (with_digit limit 0 byte)

-- a word of a clause with one byte more
abbrev pub typed : ℕ → Word → ℕ → Option Word
typed limit Empty byte =
    if nat_eq byte 45 then (if nat_lt 0 limit then Some Minus else None) else (if nat_eq byte 48 then Some Zero else begun limit true byte)
typed limit Minus byte = begun limit false byte
typed limit Zero byte = None
typed limit (Number positive value) byte = option_map (Number positive) (with_digit limit value byte)

-- the literal of a number
abbrev pub literal : Bool → ℕ → Literal
literal positive value = record { variable = value - 1; positive = positive }

-- the clauses that were read, the literals of the next one, and what was read of the next word
pub record Draft : Type 0 where
  pub clauses : List (List Literal)
  pub lits : List Literal
  pub word : Word

abbrev pub no_draft : Draft
no_draft = record { clauses = []; lits = []; word = Empty }

abbrev pub ended_as : Word → Draft → Option Draft
ended_as Empty d = Some d
ended_as Minus d = None
ended_as Zero d = Some (record { clauses = d.clauses ++ d.lits ∷ []; lits = []; word = Empty })
ended_as (Number positive value) d = Some (record { clauses = d.clauses; lits = d.lits ++ literal positive value ∷ []; word = Empty })

-- the word ends
abbrev pub ended : Draft → Option Draft
ended d = ended_as d.word d

-- the word has one byte more
abbrev pub extended : ℕ → Draft → ℕ → Option Draft
extended limit d byte = option_map (λ word. record d { word = word }) (typed limit d.word byte)

-- What was read: nothing of a line before the header, or some bytes of a comment there; the header but for these bytes, where a blank stands for any; digits of its first number; the first number and digits of the second; both numbers, and clauses of the clause set up to a spot of a line; the clause set, and `log` but for these bytes; the clause set, and clauses of the log.
pub data State : Type 0 where
  Opening : State
  Remark : State
  Title : List ℕ → State
  Variables : Option ℕ → State
  Count : ℕ → Option ℕ → State
  Setting : ℕ → ℕ → Spot → Draft → State
  Keyword : ℕ → List (List Literal) → List ℕ → State
  Logging : ℕ → List (List Literal) → Draft → State

-- the byte may part the words of a line
abbrev pub parts_words : ℕ → Bool
parts_words byte = is_blank byte && not (nat_eq byte 10)

-- the byte is the expected one, where a blank stands for any
abbrev pub meets : ℕ → ℕ → Bool
meets expected byte = if nat_eq expected 32 then parts_words byte else nat_eq byte expected

abbrev pub after_title : List ℕ → State
after_title [] = Variables None
after_title (expected ∷ more) = Title (expected ∷ more)

abbrev pub in_title : List ℕ → ℕ → Option State
in_title [] byte = None
in_title (expected ∷ more) byte = if meets expected byte then Some (after_title more) else None

abbrev pub in_variables : Option ℕ → ℕ → Option State
in_variables None byte = option_map (λ value. Variables (Some value)) (counted most_variables None byte)
in_variables (Some value) byte =
    if parts_words byte then Some (Count value None) else option_map (λ more. Variables (Some more)) (counted most_variables (Some value) byte)

abbrev pub in_count : ℕ → Option ℕ → ℕ → Option State
in_count variables None byte = option_map (λ value. Count variables (Some value)) (counted most_clauses None byte)
in_count variables (Some value) byte =
    if nat_eq byte 10 then Some (Setting variables value First no_draft) else option_map (λ more. Count variables (Some more)) (counted most_clauses (Some value) byte)

-- where a line is once this blank was read
abbrev pub spot_after : ℕ → Spot
spot_after byte = if nat_eq byte 10 then First else Inside

-- a byte of a line of the clause set that is no comment
abbrev pub in_line : ℕ → ℕ → Draft → ℕ → Option State
in_line variables count d byte =
    if is_blank byte then option_map (Setting variables count (spot_after byte)) (ended d)
    else (if nat_lt (length d.clauses) count then option_map (Setting variables count Inside) (extended variables d byte) else None)

abbrev pub in_set : ℕ → ℕ → Spot → Draft → ℕ → Option State
in_set variables count Comment d byte = Some (Setting variables count (if nat_eq byte 10 then First else Comment) d)
in_set variables count Inside d byte = in_line variables count d byte
in_set variables count First d byte =
    if nat_eq byte 99 then Some (Setting variables count Comment d)
    else (if nat_eq byte 108 && nat_eq (length d.clauses) count then Some (Keyword variables d.clauses (codes "og")) else in_line variables count d byte)

abbrev pub in_keyword : ℕ → List (List Literal) → List ℕ → ℕ → Option State
in_keyword variables clauses [] byte = if nat_eq byte 10 then Some (Logging variables clauses no_draft) else None
in_keyword variables clauses (expected ∷ more) byte = if nat_eq byte expected then Some (Keyword variables clauses more) else None

abbrev pub in_log : ℕ → List (List Literal) → Draft → ℕ → Option State
in_log variables clauses d byte =
    if is_blank byte then option_map (Logging variables clauses) (ended d) else option_map (Logging variables clauses) (extended variables d byte)

-- one byte more
abbrev pub step : State → ℕ → Option State
step Opening byte = if nat_eq byte 99 then Some Remark else (if nat_eq byte 112 then Some (Title (codes " cnf ")) else None)
step Remark byte = Some (if nat_eq byte 10 then Opening else Remark)
step (Title expected) byte = in_title expected byte
step (Variables value) byte = in_variables value byte
step (Count variables value) byte = in_count variables value byte
step (Setting variables count spot d) byte = in_set variables count spot d byte
step (Keyword variables clauses expected) byte = in_keyword variables clauses expected byte
step (Logging variables clauses d) byte = in_log variables clauses d byte

-- a clause set and a log
pub record Certificate : Type 0 where
  pub set : ClauseSet
  pub log : List (List Literal)

abbrev pub whole_of : ℕ → List (List Literal) → List (List Literal) → Certificate
whole_of variables clauses log = record { set = record { variables = variables; clauses = clauses }; log = log }

-- the log, where no clause is open at its end
abbrev pub closed : Draft → Option (List (List Literal))
closed d = if nat_eq (length d.lits) 0 then Some d.clauses else None

abbrev pub closed_some : Option Draft → Option (List (List Literal))
closed_some None = None
closed_some (Some d) = closed d

abbrev pub at_keyword_end : ℕ → List (List Literal) → List ℕ → Option Certificate
at_keyword_end variables clauses [] = Some (whole_of variables clauses [])
at_keyword_end variables clauses (expected ∷ more) = None

-- what was read, where the text may end there
abbrev pub end : State → Option Certificate
end Opening = None
end Remark = None
end (Title expected) = None
end (Variables value) = None
end (Count variables value) = None
end (Setting variables count spot d) = None
end (Keyword variables clauses expected) = at_keyword_end variables clauses expected
end (Logging variables clauses d) = option_map (whole_of variables clauses) (closed_some (ended d))

abbrev pub at_end : ℕ → Option Certificate → Result Certificate ℕ
at_end place None = Err place
at_end place (Some found) = Ok found

abbrev pub on_state : Option State → ℕ → (State → Result Certificate ℕ) → Result Certificate ℕ
on_state None place more = Err place
on_state (Some s) place more = more s

-- what bytes are read as from a state on, where the first of them stands at this place of a text: a certificate, or the place of a fault
abbrev pub outcome : List ℕ → ℕ → State → Result Certificate ℕ
outcome [] place s = at_end place (end s)
outcome (byte ∷ bytes) place s = on_state (step s byte) place (λ t. outcome bytes (place + 1) t)

-- The text was read up to this place, and this state was reached.
pub record IsReadTo (text : List ℕ) (place : ℕ) (s : State) : Type 0 where
  pub within : place ≤ length text
  pub is : outcome text 0 Opening ≡ outcome (drop place text) place s

-- The text was read to its end, as this certificate.
pub record IsReadAs (text : List ℕ) (found : Certificate) : Type 0 where
  pub is : outcome text 0 Opening ≡ Ok found

-- Reading stopped at this place.
pub record IsStuck (text : List ℕ) (place : ℕ) : Type 0 where
  pub is : outcome text 0 Opening ≡ Err place

-- some literal begins so, or it is `0`, or nothing was read
abbrev pub IsSoundWord : ℕ → Word → Type 0
IsSoundWord variables Empty = Unit {0}
IsSoundWord variables Minus = 0 < variables
IsSoundWord variables Zero = Unit {0}
IsSoundWord variables (Number positive value) = (0 < value) × (value ≤ variables)

-- no number, or one within the limit
abbrev pub IsWithin : ℕ → Option ℕ → Type 0
IsWithin limit None = Unit {0}
IsWithin limit (Some value) = value ≤ limit

-- what a word comes to where it ends
abbrev pub ending_of : Word → Ending
ending_of Empty = Nothing
ending_of Minus = Torn
ending_of Zero = WholeClause
ending_of (Number positive value) = WholeLiteral (literal positive value)

-- the state that a byte of the clause set led to
abbrev pub next_state : ℕ → ℕ → Draft → Next → State
next_state variables count d (On spot) = Setting variables count spot d
next_state variables count d Ends = Keyword variables d.clauses (codes "og")
