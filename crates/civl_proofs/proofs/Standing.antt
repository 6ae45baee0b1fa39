-- A text that is read: one byte more, or its end.
use Rattle.std.proofs.Common.{◌≡◌, ℕ, ◌+◌, ◌<◌, ◌≤◌, List, length, get_or, drop, Some, None, Option, refl, ap, subst, ◌∙◌, arith}
use Rattle.std.proofs.lemmas.List.{drop_more, drop_all}
use Rattle.civl_proofs.specs.inner.Reading.{State, Opening, step, end, Certificate, at_end, on_state, outcome, IsReadTo, IsReadAs, IsStuck}

pub from_start : (text : List ℕ) → IsReadTo text 0 Opening
from_start text = record { within = omega arith; is = refl }

next_byte : (text : List ℕ) (place : ℕ) (s : State) → IsReadTo text place s → place < length text → outcome text 0 Opening ≡ on_state (step s (get_or text place 0)) place (λ t. outcome (drop (place + 1) text) (place + 1) t)
next_byte text place s h low = h.is ∙ ap (λ (xs : List ℕ). outcome xs place s) (drop_more text place 0 low)

-- a byte leads to a state
pub read_on : (text : List ℕ) (place : ℕ) (s t : State) → IsReadTo text place s → place < length text → step s (get_or text place 0) ≡ Some t → IsReadTo text (place + 1) t
read_on text place s t h low e = record {
  within = omega (arith, low);
  is = next_byte text place s h low ∙ ap (λ (o : Option State). on_state o place (λ u. outcome (drop (place + 1) text) (place + 1) u)) e;
}

-- a byte leads to none
pub stuck_on : (text : List ℕ) (place : ℕ) (s : State) → IsReadTo text place s → place < length text → step s (get_or text place 0) ≡ None → IsStuck text place
stuck_on text place s h low e = record {
  is = next_byte text place s h low ∙ ap (λ (o : Option State). on_state o place (λ u. outcome (drop (place + 1) text) (place + 1) u)) e;
}

at_text_end : (text : List ℕ) (place : ℕ) (s : State) → IsReadTo text place s → length text ≤ place → outcome text 0 Opening ≡ at_end place (end s)
at_text_end text place s h high = h.is ∙ ap (λ (xs : List ℕ). outcome xs place s) (drop_all place text high)

-- the text ends too early
pub stuck_end : (text : List ℕ) (place : ℕ) (s : State) → IsReadTo text place s → length text ≤ place → end s ≡ None → IsStuck text place
stuck_end text place s h high e = record { is = at_text_end text place s h high ∙ ap (at_end place) e }

pub stuck_length : (text : List ℕ) (place : ℕ) (s : State) → IsReadTo text place s → length text ≤ place → end s ≡ None → IsStuck text (length text)
stuck_length text place s h high e = let same : place ≡ length text = omega (arith, h.within, high) in subst (IsStuck text) same (stuck_end text place s h high e)

pub read_end : (text : List ℕ) (place : ℕ) (s : State) (c : Certificate) → IsReadTo text place s → length text ≤ place → end s ≡ Some c → IsReadAs text c
read_end text place s c h high e = record { is = at_text_end text place s h high ∙ ap (at_end place) e }
