-- What a command finds of its input, and what it tells of that. What may be found is a type of the command's own, its outcomes.
use Rattle.std.specs.Prelude.{◌≡◌, ◌≢◌, ℕ, ◌<◌, ◌≤◌, ◌⊎◌, List, [], length, Result, Ok, Err, Some}
use Rattle.civl_outside.specs.Count.{Rose}
use Rattle.civl_frontend.specs.Report.{bytes_of}
use Rattle.civl_frontend.specs.Streams.{ReadState, WriteState, ReadsText, ReadsPast, Writes}
use Rattle.civl_frontend.specs.Texts.{limit}
use Rattle.civl_frontend.specs.declared.judged.Judged.{Judged}
use Rattle.civl_frontend.specs.declared.reader.Fault.{Fault}
use Rattle.civl_frontend.specs.declared.status.Status.{Status}
use Rattle.civl_frontend.specs.declared.status.Status.TheVariants.{ReadFault, Usage, Memory}

-- How a command tells its outcomes: the status and the report of each. Two are outcomes of every command: that the input is longer than it
-- may be, which is so many bytes; and that it spells nothing, with its first fault.
pub record Telling (Outcome : Type 0) : Type 0 where
  pub status : Outcome → Status
  pub report : Outcome → List ℕ
  pub too_long : ℕ → Outcome
  pub unread : Fault → Outcome

-- ---- what is found

-- of what is read: as this says of the program, script or outline, or its first fault
abbrev pub OfRead : {Outcome A : Type 0} → Telling Outcome → (A → Outcome → Type 0) → Result A Fault → Outcome → Type 0
OfRead telling Says (Ok value) outcome = Says value outcome
OfRead telling Says (Err fault) outcome = outcome ≡ telling.unread fault

-- of an input: it is no longer than it may be, it is read as this, and that is found of it
pub record Finds {Outcome A : Type 0} (telling : Telling Outcome) (IsRead : List ℕ → Result A Fault → Type 0) (Says : A → Outcome → Type 0) (input : List ℕ) (outcome : Outcome) : Type 0 where
  pub short : length input ≤ limit
  pub reading : Result A Fault
  pub read : IsRead input reading
  pub says : OfRead telling Says reading outcome

-- an input calls for this outcome: it is longer than it may be, or that is found of it
abbrev pub CallsFor : {Outcome : Type 0} → Telling Outcome → ℕ → (List ℕ → Outcome → Type 0) → List ℕ → Outcome → Type 0
CallsFor telling most IsFound input outcome = ((outcome ≡ telling.too_long most) × (most < length input)) ⊎ IsFound input outcome

-- the whole input was read, and this is found of it
abbrev pub ReadsAll : {Outcome : Type 0} → (List ℕ → Outcome → Type 0) → ReadState → ReadState → Outcome → Type 0
ReadsAll IsFound before after outcome = (bytes : List ℕ) × ReadsText before after bytes × IsFound bytes outcome

-- what was read calls for this outcome: more than it may have, or the whole input
abbrev pub Reads : {Outcome : Type 0} → Telling Outcome → ℕ → (List ℕ → Outcome → Type 0) → ReadState → ReadState → Outcome → Type 0
Reads telling most IsFound before after outcome = ((outcome ≡ telling.too_long most) × ReadsPast most before after) ⊎ ReadsAll IsFound before after outcome

-- ---- the status and the report

-- memory is wanting, and nothing is reported
pub record WantsMemory (status : Status) (report : List ℕ) : Type 0 where
  pub status_is : status ≡ Memory
  pub report_is : report ≡ []

-- the status and the report are those of an outcome of which this is so
pub record Answers {Outcome : Type 0} (telling : Telling Outcome) (says : Outcome → Type 0) (status : Status) (report : List ℕ) : Type 0 where
  pub outcome : Outcome
  pub says_so : says outcome
  pub status_is : status ≡ telling.status outcome
  pub report_is : report ≡ telling.report outcome

-- the same, or memory is wanting
abbrev pub Gives : {Outcome : Type 0} → Telling Outcome → (Outcome → Type 0) → Status → List ℕ → Type 0
Gives telling says status report = Answers telling says status report ⊎ WantsMemory status report

-- so it is of what is judged
abbrev pub IsJudged : {Outcome : Type 0} → Telling Outcome → (Outcome → Type 0) → Judged → Type 0
IsJudged telling says judged = Gives telling says judged.status (bytes_of judged.report)

-- There is no outcome, since the source failed, the words are no command's, or memory is wanting. The words may ask for something of an
-- input, or be those of a command; memory may be wanting where this is so; and the line on usage is the command's.
abbrev pub Fails : (asked taken lacking : Type 0) → List ℕ → ReadState → ReadState → Status → List ℕ → Type 0
Fails asked taken lacking usage before after ReadFault report = asked × Rose before.faults after.faults × (report ≡ [])
Fails asked taken lacking usage before after Usage report = (taken → ⊥) × (after ≡ before) × (report ≡ usage)
Fails asked taken lacking usage before after Memory report = lacking × (report ≡ [])
Fails asked taken lacking usage before after _ report = ⊥

-- ---- where the streams tell their bytes

-- what was written grew by the report of the outcome, and, but for a longer input, the whole was read
pub record Carries {Outcome : Type 0} (telling : Telling Outcome) (after : ReadState) (sink sink_after : WriteState) (outcome : Outcome) : Type 0 where
  pub written : Writes sink sink_after (telling.report outcome)
  pub read : ((most : ℕ) → outcome ≢ telling.too_long most) → after.left ≡ Some []

-- the status and the report are those of an outcome for which the input calls, and which is alike each other one for which it does
pub record AnswersAs {Outcome : Type 0} (telling : Telling Outcome) (Calls : Outcome → Type 0) (AreAlike : Outcome → Outcome → Type 0) (after : ReadState) (sink sink_after : WriteState) (status : Status) : Type 0 where
  pub found : Outcome
  pub calls : Calls found
  pub status_is : status ≡ telling.status found
  pub alike : (outcome : Outcome) → Calls outcome → AreAlike found outcome
  pub carries : Carries telling after sink sink_after found
