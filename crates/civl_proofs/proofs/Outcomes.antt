-- What a text is read as: just the certificate that it is, or its first fault.
use Rattle.std.proofs.Common.{◌≡◌, ◌⊎◌, inl, inr, ℕ, ◌+◌, ◌<◌, ◌≤◌, suc, List, [], ◌∷◌, ◌++◌, length, take, drop, Some, None, Option, Result, Ok, Err, refl, sym, ap, ap₂, subst, ◌∙◌, arith, append_assoc, eqb}
use Rattle.std.proofs.lemmas.Bool.{cases_order}
use Rattle.std.proofs.lemmas.List.{take-append-drop, take-take}
use Rattle.civl_cnf.specs.Literal.{Literal}
use Rattle.civl_cnf.specs.ClauseSet.{ClauseSet}
use Rattle.civl_proofs.specs.Text.{MayBeHeld, IsCertificate, IsWhole, BeginsWhole, IsFirstFault}
use Rattle.civl_proofs.specs.Laws.{OneReading, OneAnswer}
use Rattle.civl_proofs.specs.inner.Reading.{State, Opening, step, end, Certificate, at_end, on_state, outcome}
use Rattle.civl_proofs.proofs.Words.{parted}
use Rattle.civl_proofs.proofs.Resting.{IsRest, IsSound, IsOpeningRest, certificate_rest, rest_certificate}
use Rattle.civl_proofs.proofs.Agreeing.{Agrees}
use Rattle.civl_proofs.proofs.Steps.{IsRestOf, rest_at, agrees, Closes, closes_at}
use Rattle.civl_proofs.proofs.Viable.{BeginsRest, agrees_some, sound_step, viable}

abbrev pub made : ClauseSet → List (List Literal) → Certificate
made set log = record { set = set; log = log }

-- ---- a certificate is read

closes_read : (o : Option Certificate) (P : ClauseSet → List (List Literal) → Type 0) (place : ℕ) (set : ClauseSet) (log : List (List Literal)) → Closes o P → MayBeHeld set log → P set log → at_end place o ≡ Ok (made set log)
closes_read None P place set log closes held p = absurd (closes set log held p)
closes_read (Some c) P place set log closes held p = let same = closes.2 set log held p in ap Ok (sym (ap₂ made same.0 same.1))

goes_read : (o : Option State) (P : Type 0) (Q : State → Type 0) (place : ℕ) (more : State → Result Certificate ℕ) (r : Result Certificate ℕ) → Agrees o P Q → P → ((t : State) → IsSound t → Q t → more t ≡ r) → on_state o place more ≡ r
goes_read None P Q place more r a p next = absurd (a p)
goes_read (Some t) P Q place more r a p next = next t a.0 (a.2 p)

read_all : (bytes : List ℕ) (place : ℕ) (s : State) (set : ClauseSet) (log : List (List Literal)) → IsSound s → MayBeHeld set log → IsRestOf s bytes set log → outcome bytes place s ≡ Ok (made set log)
read_all [] place s set log sound held p = closes_read (end s) (λ cs l. IsRest s [] [] cs l) place set log (closes_at s sound) held (rest_at s [] [] [] set log refl p)
read_all (byte ∷ bytes) place s set log sound held p =
    goes_read (step s byte) (IsRestOf s (byte ∷ bytes) set log) (λ t. IsRestOf t bytes set log) place (λ t. outcome bytes (place + 1) t) (Ok (made set log)) (agrees s byte bytes set log sound held) p
    (λ t next q. read_all bytes (place + 1) t set log next held q)

-- ---- what is read is a certificate

closes_ok : (o : Option Certificate) (P : ClauseSet → List (List Literal) → Type 0) (place : ℕ) (c : Certificate) → Closes o P → at_end place o ≡ Ok c → MayBeHeld c.set c.log × P c.set c.log
closes_ok None P place c closes h = absurd (cc (h))
closes_ok (Some d) P place c closes h =
    let same : d ≡ c = cc (h) in
    subst (λ (x : Certificate). MayBeHeld x.set x.log × P x.set x.log) same (closes.0, closes.1)

goes_ok : (s : State) (byte : ℕ) (bytes : List ℕ) (place : ℕ) (c : Certificate) (o : Option State) → step s byte ≡ o → IsSound s → on_state o place (λ t. outcome bytes (place + 1) t) ≡ Ok c
    → ((t : State) → IsSound t → outcome bytes (place + 1) t ≡ Ok c → MayBeHeld c.set c.log × IsRestOf t bytes c.set c.log) → MayBeHeld c.set c.log × IsRestOf s (byte ∷ bytes) c.set c.log
goes_ok s byte bytes place c None e sound h next = absurd (cc (h))
goes_ok s byte bytes place c (Some t) e sound h next =
    let found = next t (sound_step s t byte sound e) h in
    (found.0, (agrees_some s t byte bytes c.set c.log sound found.0 e).1 found.1)

read_ok : (bytes : List ℕ) (place : ℕ) (s : State) (c : Certificate) → IsSound s → outcome bytes place s ≡ Ok c → MayBeHeld c.set c.log × IsRestOf s bytes c.set c.log
read_ok [] place s c sound h = let found = closes_ok (end s) (λ cs l. IsRest s [] [] cs l) place c (closes_at s sound) h in (found.0, ([], [], refl, found.1))
read_ok (byte ∷ bytes) place s c sound h = goes_ok s byte bytes place c (step s byte) refl sound h (λ t next g. read_ok bytes (place + 1) t c next g)

-- ---- a fault

-- behind so many bytes stands the first fault
record IsFault (s : State) (bytes : List ℕ) (count : ℕ) : Type 0 where
  before : BeginsRest s (take count bytes)
  wrong : ((count < length bytes) × (BeginsRest s (take (suc count) bytes) → ⊥)) ⊎ ((count ≡ length bytes) × ((set : ClauseSet) (log : List (List Literal)) → MayBeHeld set log → IsRestOf s bytes set log → ⊥))

record IsFaultFrom (s : State) (bytes : List ℕ) (place fault : ℕ) : Type 0 where
  count : ℕ
  is : fault ≡ place + count
  there : IsFault s bytes count

closes_err : (o : Option Certificate) (P : ClauseSet → List (List Literal) → Type 0) (place fault : ℕ) → Closes o P → at_end place o ≡ Err fault → (fault ≡ place) × ((set : ClauseSet) (log : List (List Literal)) → MayBeHeld set log → P set log → ⊥)
closes_err None P place fault closes h = (cc (h), closes)
closes_err (Some c) P place fault closes h = absurd (cc (h))

goes_err : (s : State) (byte : ℕ) (bytes : List ℕ) (place fault : ℕ) (o : Option State) → step s byte ≡ o → IsSound s → on_state o place (λ t. outcome bytes (place + 1) t) ≡ Err fault
    → ((t : State) → IsSound t → outcome bytes (place + 1) t ≡ Err fault → IsFaultFrom t bytes (place + 1) fault) → IsFaultFrom s (byte ∷ bytes) place fault
goes_err s byte bytes place fault None e sound h next =
    let same : place ≡ fault = cc (h) in
    record {
      count = 0;
      is = omega (arith, same);
      there = record {
        before = viable s sound;
        wrong = inl (omega arith, λ b. subst (λ (o : Option State). Agrees o (IsRestOf s (byte ∷ b.0) b.1 b.2) (λ u. IsRestOf u b.0 b.1 b.2)) e (agrees s byte b.0 b.1 b.2 sound b.3) b.4);
      };
    }
goes_err s byte bytes place fault (Some t) e sound h next =
    let found = next t (sound_step s t byte sound e) h in
    let b = found.there.before in
    record {
      count = suc found.count;
      is = omega (arith, found.is);
      there = record {
        before = (b.0, b.1, b.2, b.3, (agrees_some s t byte (take found.count bytes ++ b.0) b.1 b.2 sound b.3 e).1 b.4);
        wrong = elim found.there.wrong [
          | inl w ↦ inl (omega (arith, w.0), λ d. w.1 (d.0, d.1, d.2, d.3, (agrees_some s t byte (take (suc found.count) bytes ++ d.0) d.1 d.2 sound d.3 e).2 d.4))
          | inr w ↦ inr (omega (arith, w.0), λ set log held p. w.1 set log held ((agrees_some s t byte bytes set log sound held e).2 p))
        ];
      };
    }

read_err : (bytes : List ℕ) (place : ℕ) (s : State) (fault : ℕ) → IsSound s → outcome bytes place s ≡ Err fault → IsFaultFrom s bytes place fault
read_err [] place s fault sound h =
    let found = closes_err (end s) (λ cs l. IsRest s [] [] cs l) place fault (closes_at s sound) h in
    record {
      count = 0;
      is = omega (arith, found.0);
      there = record {
        before = viable s sound;
        wrong = inr (refl, λ set log held p. found.1 set log held (rest_at s [] [] [] set log refl p));
      };
    }
read_err (byte ∷ bytes) place s fault sound h = goes_err s byte bytes place fault (step s byte) refl sound h (λ t next g. read_err bytes (place + 1) t fault next g)

-- ---- texts

whole_rest : (text : List ℕ) (set : ClauseSet) (log : List (List Literal)) → IsCertificate text set log → IsRestOf Opening text set log
whole_rest text set log h =
    let p = parted (λ x. eqb x 10) text in
    (p.first, p.others, p.is, subst (λ (xs : List (List ℕ)). IsOpeningRest xs set log) p.is (certificate_rest text set log h))

rest_whole : (text : List ℕ) (set : ClauseSet) (log : List (List Literal)) → MayBeHeld set log → IsRestOf Opening text set log → IsCertificate text set log
rest_whole text set log held p = rest_certificate text set log (subst (λ (xs : List (List ℕ)). IsOpeningRest xs set log) (sym p.2) p.3) held

pub certificate_read : (text : List ℕ) (set : ClauseSet) (log : List (List Literal)) → IsCertificate text set log → outcome text 0 Opening ≡ Ok (made set log)
certificate_read text set log h = read_all text 0 Opening set log tt h.held (whole_rest text set log h)

pub read_certificate : (text : List ℕ) (c : Certificate) → outcome text 0 Opening ≡ Ok c → IsCertificate text c.set c.log
read_certificate text c h = let found = read_ok text 0 Opening c tt h in rest_whole text c.set c.log found.0 found.1

begins_from : (front : List ℕ) → BeginsRest Opening front → BeginsWhole front
begins_from front b = (b.0, (b.1, b.2, rest_whole (front ++ b.0) b.1 b.2 b.3 b.4))

begins_to : (front : List ℕ) → BeginsWhole front → BeginsRest Opening front
begins_to front b = (b.0, b.1.0, b.1.1, b.1.2.held, whole_rest (front ++ b.0) b.1.0 b.1.1 b.1.2)

fault_at : (text : List ℕ) (count : ℕ) → IsFault Opening text count → IsFirstFault text count
fault_at text count h = record {
  before = begins_from (take count text) h.before;
  wrong = elim h.wrong [
    | inl w ↦ inl (w.0, λ b. w.1 (begins_to (take (suc count) text) (let e : count + 1 ≡ suc count = omega arith in subst (λ (n : ℕ). BeginsWhole (take n text)) e b)))
    | inr w ↦ inr (w.0, λ b. w.1 b.0 b.1 b.2.held (whole_rest text b.0 b.1 b.2))
  ];
}

pub read_fault : (text : List ℕ) (place : ℕ) → outcome text 0 Opening ≡ Err place → IsFirstFault text place
read_fault text place h =
    let found = read_err text 0 Opening place tt h in
    let same : found.count ≡ place = omega (arith, found.is) in
    subst (IsFirstFault text) same (fault_at text found.count found.there)

-- ---- one answer

shorter_begins : (text : List ℕ) (n m : ℕ) → n ≤ m → BeginsWhole (take m text) → BeginsWhole (take n text)
shorter_begins text n m low b =
    let parts : take n text ++ drop n (take m text) ≡ take m text = ap (λ (xs : List ℕ). xs ++ drop n (take m text)) (sym (take-take n m text low)) ∙ take-append-drop n (take m text) in
    let whole : IsWhole (take n text ++ (drop n (take m text) ++ b.0)) = subst IsWhole (ap (λ (xs : List ℕ). xs ++ b.0) (sym parts) ∙ append_assoc (take n text) (drop n (take m text)) b.0) b.1 in
    (drop n (take m text) ++ b.0, whole)

whole_begins : (text : List ℕ) (n : ℕ) → IsWhole text → BeginsWhole (take n text)
whole_begins text n w = (drop n text, subst IsWhole (sym (take-append-drop n text)) w)

not_both : (text : List ℕ) (place : ℕ) → IsWhole text → IsFirstFault text place → ⊥
not_both text place w f = elim f.wrong [ inl e ↦ e.1 (whole_begins text (place + 1) w) | inr e ↦ e.1 w ]

-- no fault stands before a first fault
not_before : (text : List ℕ) (place other : ℕ) → IsFirstFault text place → IsFirstFault text other → place < other → ⊥
not_before text place other f g less = elim f.wrong [
  | inl e ↦ e.1 (shorter_begins text (place + 1) other (omega (arith, less)) g.before)
  | inr e ↦ elim g.wrong [ inl d ↦ absurd (omega (arith, e.0, d.0, less)) | inr d ↦ absurd (omega (arith, e.0, d.0, less)) ]
]

one_place : (text : List ℕ) (place other : ℕ) → IsFirstFault text place → IsFirstFault text other → place ≡ other
one_place text place other f g = elim (cases_order place other) [
  | inl e ↦ e
  | inr e ↦ elim e [ inl less ↦ absurd (not_before text place other f g less) | inr more ↦ absurd (not_before text other place g f more) ]
]

some_at : (text : List ℕ) (r : Result Certificate ℕ) → outcome text 0 Opening ≡ r → IsWhole text ⊎ ((place : ℕ) × IsFirstFault text place)
some_at text (Ok c) e = inl (c.set, c.log, read_certificate text c e)
some_at text (Err place) e = inr (place, read_fault text place e)

pub one_answer : OneAnswer
one_answer = record { some = λ text. some_at text (outcome text 0 Opening) refl; not_both = not_both; one_place = one_place }

pub ok_once : (r : Result Certificate ℕ) (c d : Certificate) → r ≡ Ok c → r ≡ Ok d → c ≡ d
ok_once r c d e f = cc (e, f)

pub one_reading : OneReading
one_reading text set other log logged h k =
    let both : made set log ≡ made other logged = ok_once (outcome text 0 Opening) (made set log) (made other logged) (certificate_read text set log h) (certificate_read text other logged k) in
    (ap (λ (c : Certificate). c.set) both, ap (λ (c : Certificate). c.log) both)

-- ---- examples

pub certificate_is : (text : List ℕ) (set : ClauseSet) (log : List (List Literal)) → outcome text 0 Opening ≡ Ok (made set log) → IsCertificate text set log
certificate_is text set log h = read_certificate text (made set log) h

pub fault_is : (text : List ℕ) (place : ℕ) → outcome text 0 Opening ≡ Err place → IsFirstFault text place
fault_is text place h = read_fault text place h
