-- From what is found of a program, a script or an outline to what is found of its text, and from there to what was read.
use Rattle.std.proofs.Common.{◌≡◌, ℕ, ◌≤◌, ◌⊎◌, inl, inr, List, [], length, sym, subst, arith, Result, Ok, Err}
use Rattle.std.specs.Prelude.{Option, Some}
use Rattle.std.specs.Io.KnownBytes.{Appends, Consumes}
use Rattle.civl_verdicts.specs.declared.verdict.Verdict.{Verdict}
use Rattle.civl_verdicts.specs.declared.verdict.Verdict.TheVariants as verdict
use Rattle.civl_frontend.specs.Status.{code_of, verdict_status}
use Rattle.civl_frontend.specs.Streams.{ReadState, WriteState, Writes}
use Rattle.civl_frontend.specs.Texts.{limit}
use Rattle.civl_frontend.specs.Told.{Telling, OfRead, Finds, CallsFor, ReadsAll, Reads, Gives, Fails, Carries}
use Rattle.civl_frontend.specs.declared.reader.Fault.{Fault}
use Rattle.civl_frontend.specs.declared.status.Status.{Status}
use Rattle.civl_frontend.specs.declared.status.Status.TheVariants.{Done, Rejected, Undecided, Refused, ReadFault, WriteFault, Usage, Memory}
use Rattle.civl_frontend.proofs.Streaming.{consumed, consumed_part, grown_as}

module _ {O : Type 0} (telling : Telling O) (status : Status) (report : List ℕ) where
  -- what is found of what was read is found of the text
  pub found_in : {A : Type 0} (IsRead : List ℕ → Result A Fault → Type 0) (Says : A → O → Type 0) (input : List ℕ) (reading : Result A Fault)
      → length input ≤ limit → IsRead input reading → Gives telling (OfRead telling Says reading) status report → Gives telling (Finds telling IsRead Says input) status report
  found_in IsRead Says input reading short read (inl a) = inl (record {
    outcome = a.outcome;
    says_so = record { short = short; reading = reading; read = read; says = a.says_so };
    status_is = a.status_is;
    report_is = a.report_is;
  })
  found_in IsRead Says input reading short read (inr wants) = inr wants

  -- what is said of one outcome is said of each that it is
  pub of_one : (says : O → Type 0) (one : O) → says one → Gives telling (λ outcome. outcome ≡ one) status report → Gives telling says status report
  of_one says one h (inl a) = inl (record { outcome = a.outcome; says_so = subst says (sym a.says_so) h; status_is = a.status_is; report_is = a.report_is })
  of_one says one h (inr wants) = inr wants

  -- what is said of what was read is said of the text
  pub found_more : {A : Type 0} (IsRead : List ℕ → Result A Fault → Type 0) (Says More : A → O → Type 0) (input : List ℕ)
      → ((value : A) (outcome : O) → Says value outcome → More value outcome) → Gives telling (Finds telling IsRead Says input) status report → Gives telling (Finds telling IsRead More input) status report
  found_more {A} IsRead Says More input more (inl a) = inl (record {
    outcome = a.outcome;
    says_so = record { short = a.says_so.short; reading = a.says_so.reading; read = a.says_so.read; says = by a.says_so.reading a.says_so.says };
    status_is = a.status_is;
    report_is = a.report_is;
  })
    where
      by : (reading : Result A Fault) → OfRead telling Says reading a.outcome → OfRead telling More reading a.outcome
      by (Ok value) says = more value a.outcome says
      by (Err fault) says = says
  found_more IsRead Says More input more (inr wants) = inr wants

-- ---- failures

-- no verdict is a failure
pub verdict_code : (v : Verdict) → code_of (verdict_status v) ≤ 3
verdict_code (verdict.Accepted count) = omega arith
verdict_code (verdict.Rejected counter) = omega arith
verdict_code (verdict.Undecided formula log) = omega arith
verdict_code verdict.NoInitial = omega arith

-- a failed read and want of memory are told by the status alone
pub silent_failure : (asked taken lacking : Type 0) (usage : List ℕ) (before after : ReadState) (status : Status) (report : List ℕ) → Fails asked taken lacking usage before after status report
    → (status ≡ ReadFault) ⊎ (status ≡ Memory) → report ≡ []
silent_failure asked taken lacking usage before after Done report f is = absurd f
silent_failure asked taken lacking usage before after Rejected report f is = absurd f
silent_failure asked taken lacking usage before after Undecided report f is = absurd f
silent_failure asked taken lacking usage before after Refused report f is = absurd f
silent_failure asked taken lacking usage before after ReadFault report f is = f.2
silent_failure asked taken lacking usage before after WriteFault report f is = absurd f
silent_failure asked taken lacking usage before after Usage report f (inl is) = cc
silent_failure asked taken lacking usage before after Usage report f (inr is) = cc
silent_failure asked taken lacking usage before after Memory report f is = f.1

-- ---- what is found of the whole input

-- what was found of the whole input
pub record Found {O : Type 0} (IsFound : List ℕ → O → Type 0) (after : ReadState) (input : List ℕ) (outcome : O) : Type 0 where
  pub finds : IsFound input outcome
  pub read : after.left ≡ Some []

pub all_found : {O : Type 0} (IsFound : List ℕ → O → Type 0) (before after : ReadState) (input : List ℕ) (outcome : O) → before.left ≡ Some input → ReadsAll IsFound before after outcome → Found IsFound after input outcome
all_found IsFound before after input outcome told reads =
    let taken = subst (λ (left : Option (List ℕ)). Consumes left after.left reads.0) told reads.1.taken in
    let whole = consumed input reads.0 after.left taken reads.1.at_end in
    record { finds = subst (λ (bytes : List ℕ). IsFound bytes outcome) whole.0 reads.2; read = whole.1 }

module _ {O : Type 0} (telling : Telling O) (most : ℕ) (IsFound : List ℕ → O → Type 0) (before after : ReadState) (sink sink_after : WriteState) (input report : List ℕ) (told : before.left ≡ Some input)
    (grown : Appends sink.bytes sink_after.bytes report) (outcome : O) where
  pub written : report ≡ telling.report outcome → Writes sink sink_after (telling.report outcome)
  written = grown_as sink sink_after report (telling.report outcome) grown

  -- the input calls for what was read
  pub called : Reads telling most IsFound before after outcome → CallsFor telling most IsFound input outcome
  called (inl past) =
      let size = consumed_part input past.1.0 after.left (subst (λ (left : Option (List ℕ)). Consumes left after.left past.1.0) told past.1.1) in
      inl (past.0, omega (arith, size, past.1.2))
  called (inr all) = inr (all_found IsFound before after input outcome told all).finds

  pub carried : Reads telling most IsFound before after outcome → report ≡ telling.report outcome → Carries telling after sink sink_after outcome
  carried (inl past) text = record { written = written text; read = λ not. absurd (not _ past.0) }
  carried (inr all) text = record { written = written text; read = λ not. (all_found IsFound before after input outcome told all).read }

-- ---- what is found of a text that isn't refused

pub record IsSpelled {O A : Type 0} (IsRead : List ℕ → Result A Fault → Type 0) (Says : A → O → Type 0) (input : List ℕ) (outcome : O) : Type 0 where
  pub value : A
  pub read : IsRead input (Ok value)
  pub says : Says value outcome

module _ {O A : Type 0} (telling : Telling O) (IsRead : List ℕ → Result A Fault → Type 0) (Says : A → O → Type 0) (input : List ℕ) (outcome : O) (other : (fault : Fault) → outcome ≡ telling.unread fault → ⊥) where
  spelled_as : (reading : Result A Fault) → IsRead input reading → OfRead telling Says reading outcome → IsSpelled IsRead Says input outcome
  spelled_as (Ok value) read says = record { value = value; read = read; says = says }
  spelled_as (Err fault) read says = absurd (other fault says)

  pub spelled : Finds telling IsRead Says input outcome → IsSpelled IsRead Says input outcome
  spelled found = spelled_as found.reading found.read found.says
