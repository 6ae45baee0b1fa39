-- What was read and written, where the streams tell their bytes.
use Rattle.std.proofs.Common.{◌≡◌, ℕ, ◌≤◌, ◌⊎◌, inl, inr, List, [], ◌++◌, length, length-append, append-nil, sym, ap, ◌∙◌, subst, arith}
use Rattle.std.specs.Prelude.{Option, None, Some}
use Rattle.std.proofs.lemmas.List.{append_cancel_left}
use Rattle.std.specs.Io.KnownBytes.{Appends, Consumes, IsAtEnd}
use Rattle.civl_outside.specs.Count.{Rose, Stayed}
use Rattle.civl_frontend.specs.Streams.{WriteState, Writes}
use Rattle.civl_frontend.specs.declared.status.Status.TheVariants.{ReadFault, WriteFault, Memory}

-- what was read to the end is the whole input
pub consumed : (input bytes : List ℕ) (after : Option (List ℕ)) → Consumes (Some input) after bytes → IsAtEnd after → (bytes ≡ input) × (after ≡ Some [])
consumed input bytes None taken at_end = absurd taken
consumed input bytes (Some left) taken at_end = (sym (append-nil bytes) ∙ ap (λ (w : List ℕ). bytes ++ w) (sym at_end) ∙ sym taken, ap Some at_end)

-- what was read is no longer than the input
pub consumed_part : (input bytes : List ℕ) (after : Option (List ℕ)) → Consumes (Some input) after bytes → length bytes ≤ length input
consumed_part input bytes None taken = absurd taken
consumed_part input bytes (Some left) taken = let size = ap length taken ∙ length-append bytes left in omega arith

appended : (taken report : List ℕ) (after : Option (List ℕ)) → Appends (Some taken) after report → after ≡ Some (taken ++ report)
appended taken report None grown = absurd grown
appended taken report (Some now) grown = ap Some grown

pub grown_as : (sink sink_after : WriteState) (report text : List ℕ) → Appends sink.bytes sink_after.bytes report → report ≡ text → Writes sink sink_after text
grown_as sink sink_after report text grown is taken told =
    rw (← is) (appended taken report sink_after.bytes (subst (λ (bytes : Option (List ℕ)). Appends bytes sink_after.bytes report) told grown))

-- what was written, where it grew by the report
pub grown_by : (sink sink_after : WriteState) (taken report text : List ℕ) → Appends sink.bytes sink_after.bytes report → sink.bytes ≡ Some taken → sink_after.bytes ≡ Some (taken ++ text) → report ≡ text
grown_by sink sink_after taken report text grown was is =
    let told_ = subst (λ (b : Option (List ℕ)). Appends b sink_after.bytes report) was grown in
    let same = subst (λ (b : Option (List ℕ)). Appends (Some taken) b report) is told_ in
    append_cancel_left taken report text (sym same)

-- a count that stayed didn't rise
pub not_both : (before now : ℕ) → Stayed before now → Rose before now → ⊥
not_both before now stayed rose = omega (arith, stayed.0, stayed.1, rose)

-- a failed write is neither a failed read nor want of memory
pub loud : (WriteFault ≡ ReadFault) ⊎ (WriteFault ≡ Memory) → ⊥
loud (inl is) = cc
loud (inr is) = cc
