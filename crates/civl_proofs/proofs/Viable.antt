-- Behind each state that is reached some certificate goes on.
use Rattle.std.proofs.Common.{◌≡◌, inl, inr, ℕ, ◌+◌, ◌-◌, ◌<◌, zero, suc, Bool, true, false, cond, List, [], ◌∷◌, ◌++◌, length, Some, None, Option, refl, sym, ap, subst, ◌∙◌, arith, eqb, leb, length-append}
use Rattle.std.specs.Prelude.{codes}
use Rattle.std.specs.Option.{option_map}
use Rattle.std.proofs.lemmas.Bool.{eqb-true, eq-eqb, lt-ltb, le-leb}
use Rattle.std.proofs.lemmas.List.Elements.{All-nil}
use Rattle.civl_cnf.specs.Literal.{Literal}
use Rattle.civl_cnf.specs.ClauseSet.{ClauseSet, IsBelow}
use Rattle.civl_proofs.specs.declared.word.Word.{Word}
use Rattle.civl_proofs.specs.declared.word.Word.TheVariants.{Empty, Minus, Zero, Number}
use Rattle.civl_proofs.specs.declared.reading.Spot.{Spot}
use Rattle.civl_proofs.specs.declared.reading.Spot.TheVariants.{First, Inside, Comment}
use Rattle.civl_proofs.specs.Text.{MayBeHeld}
use Rattle.civl_proofs.specs.inner.Reading.{Draft, no_draft, literal, State, Opening, Remark, Title, Variables, Count, Setting, Keyword, Logging, parts_words, meets, in_line, step, end, Certificate, whole_of}
use Rattle.civl_proofs.proofs.Drafting.{HasRoom}
use Rattle.civl_proofs.proofs.Decoding.{cons_some}
use Rattle.civl_proofs.proofs.Resting.{IsRest, IsSound}
use Rattle.civl_proofs.proofs.Agreeing.{Agrees}
use Rattle.civl_proofs.proofs.Steps.{IsRestOf, agrees, Closes, closes_at}

-- some certificate goes on with these bytes
abbrev pub BeginsRest : State → List ℕ → Type 0
BeginsRest s front = (more : List ℕ) × (set : ClauseSet) × (log : List (List Literal)) × MayBeHeld set log × IsRestOf s (front ++ more) set log

no_set : ClauseSet
no_set = record { variables = 0; clauses = [] }

no_set_held : MayBeHeld no_set []
unfolding no_set
no_set_held = record {
  few_variables = omega arith;
  few_clauses = omega arith;
  below = All-nil (IsBelow 0);
  log_below = All-nil (IsBelow 0);
}

pub agrees_some : (s t : State) (byte : ℕ) (bytes : List ℕ) (set : ClauseSet) (log : List (List Literal)) → IsSound s → MayBeHeld set log → step s byte ≡ Some t → Agrees (Some t) (IsRestOf s (byte ∷ bytes) set log) (λ u. IsRestOf u bytes set log)
agrees_some s t byte bytes set log sound held e = subst (λ (o : Option State). Agrees o (IsRestOf s (byte ∷ bytes) set log) (λ u. IsRestOf u bytes set log)) e (agrees s byte bytes set log sound held)

pub sound_step : (s t : State) (byte : ℕ) → IsSound s → step s byte ≡ Some t → IsSound t
sound_step s t byte sound e = (agrees_some s t byte [] no_set [] sound no_set_held e).0

before : (s t : State) (byte : ℕ) → IsSound s → step s byte ≡ Some t → (IsSound t → BeginsRest t []) → BeginsRest s []
before s t byte sound e next =
    let v = next (sound_step s t byte sound e) in
    (byte ∷ v.0, v.1, v.2, v.3, (agrees_some s t byte v.0 v.1 v.2 sound v.3 e).1 v.4)

at_last : (s : State) (c : Certificate) → IsSound s → end s ≡ Some c → BeginsRest s []
at_last s c sound e =
    let closes = subst (λ (o : Option Certificate). Closes o (λ set log. IsRest s [] [] set log)) e (closes_at s sound) in
    ([], c.set, c.log, closes.0, ([], [], refl, closes.1))

-- ---- the log

log_zero : (variables : ℕ) (clauses done : List (List Literal)) (lits : List Literal) → IsSound (Logging variables clauses (record { clauses = done; lits = lits; word = Zero })) → BeginsRest (Logging variables clauses (record { clauses = done; lits = lits; word = Zero })) []
log_zero variables clauses done lits sound =
    before (Logging variables clauses (record { clauses = done; lits = lits; word = Zero })) (Logging variables clauses (record { clauses = done ++ lits ∷ []; lits = []; word = Empty })) 10 sound refl
    (λ next. at_last (Logging variables clauses (record { clauses = done ++ lits ∷ []; lits = []; word = Empty })) (whole_of variables clauses (done ++ lits ∷ [])) next refl)

log_empty : (variables : ℕ) (clauses done : List (List Literal)) (lits : List Literal) → IsSound (Logging variables clauses (record { clauses = done; lits = lits; word = Empty })) → BeginsRest (Logging variables clauses (record { clauses = done; lits = lits; word = Empty })) []
log_empty variables clauses done lits sound =
    before (Logging variables clauses (record { clauses = done; lits = lits; word = Empty })) (Logging variables clauses (record { clauses = done; lits = lits; word = Zero })) 48 sound refl
    (λ next. log_zero variables clauses done lits next)

log_number : (variables : ℕ) (clauses done : List (List Literal)) (lits : List Literal) (positive : Bool) (value : ℕ) → IsSound (Logging variables clauses (record { clauses = done; lits = lits; word = Number positive value })) → BeginsRest (Logging variables clauses (record { clauses = done; lits = lits; word = Number positive value })) []
log_number variables clauses done lits positive value sound =
    before (Logging variables clauses (record { clauses = done; lits = lits; word = Number positive value })) (Logging variables clauses (record { clauses = done; lits = lits ++ literal positive value ∷ []; word = Empty })) 10 sound refl
    (λ next. log_empty variables clauses done (lits ++ literal positive value ∷ []) next)

log_minus : (variables : ℕ) (clauses done : List (List Literal)) (lits : List Literal) → IsSound (Logging variables clauses (record { clauses = done; lits = lits; word = Minus })) → BeginsRest (Logging variables clauses (record { clauses = done; lits = lits; word = Minus })) []
log_minus variables clauses done lits sound =
    before (Logging variables clauses (record { clauses = done; lits = lits; word = Minus })) (Logging variables clauses (record { clauses = done; lits = lits; word = Number false 1 })) 49 sound
    (ap (λ (b : Bool). option_map (Logging variables clauses) (option_map (λ (w : Word). record { clauses = done; lits = lits; word = w }) (option_map (Number false) (cond b (Some 1) None)))) (le-leb 1 variables (omega (arith, sound.draft.word))))
    (λ next. log_number variables clauses done lits false 1 next)

log_viable : (variables : ℕ) (clauses done : List (List Literal)) (lits : List Literal) (word : Word) → IsSound (Logging variables clauses (record { clauses = done; lits = lits; word = word })) → BeginsRest (Logging variables clauses (record { clauses = done; lits = lits; word = word })) []
log_viable variables clauses done lits Empty sound = log_empty variables clauses done lits sound
log_viable variables clauses done lits Minus sound = log_minus variables clauses done lits sound
log_viable variables clauses done lits Zero sound = log_zero variables clauses done lits sound
log_viable variables clauses done lits (Number positive value) sound = log_number variables clauses done lits positive value sound

keyword_viable : (variables : ℕ) (clauses : List (List Literal)) (expected : List ℕ) → IsSound (Keyword variables clauses expected) → BeginsRest (Keyword variables clauses expected) []
keyword_viable variables clauses [] sound = at_last (Keyword variables clauses []) (whole_of variables clauses []) sound refl
keyword_viable variables clauses (x ∷ more) sound =
    before (Keyword variables clauses (x ∷ more)) (Keyword variables clauses more) x sound
    (ap (λ (b : Bool). cond b (Some (Keyword variables clauses more)) None) (eq-eqb x x refl))
    (λ next. keyword_viable variables clauses more next)

-- ---- the clause set

zero_line : (variables count : ℕ) (done : List (List Literal)) (lits : List Literal) → IsSound (Setting variables count Inside (record { clauses = done; lits = lits; word = Zero }))
    → (IsSound (Setting variables count First (record { clauses = done ++ lits ∷ []; lits = []; word = Empty })) → BeginsRest (Setting variables count First (record { clauses = done ++ lits ∷ []; lits = []; word = Empty })) [])
    → BeginsRest (Setting variables count Inside (record { clauses = done; lits = lits; word = Zero })) []
zero_line variables count done lits sound next =
    before (Setting variables count Inside (record { clauses = done; lits = lits; word = Zero })) (Setting variables count First (record { clauses = done ++ lits ∷ []; lits = []; word = Empty })) 10 sound refl next

zero_first : (variables count : ℕ) (done : List (List Literal)) (lits : List Literal) → length done < count → IsSound (Setting variables count First (record { clauses = done; lits = lits; word = Empty }))
    → (IsSound (Setting variables count First (record { clauses = done ++ lits ∷ []; lits = []; word = Empty })) → BeginsRest (Setting variables count First (record { clauses = done ++ lits ∷ []; lits = []; word = Empty })) [])
    → BeginsRest (Setting variables count First (record { clauses = done; lits = lits; word = Empty })) []
zero_first variables count done lits less sound next =
    before (Setting variables count First (record { clauses = done; lits = lits; word = Empty })) (Setting variables count Inside (record { clauses = done; lits = lits; word = Zero })) 48 sound
    (ap (λ (b : Bool). cond b (Some (Setting variables count Inside (record { clauses = done; lits = lits; word = Zero }))) None) (lt-ltb (length done) count less))
    (λ inner. zero_line variables count done lits inner next)

-- so many clauses are still to come
first_viable : (left variables count : ℕ) (done : List (List Literal)) → length done + left ≡ count → IsSound (Setting variables count First (record { clauses = done; lits = []; word = Empty })) → BeginsRest (Setting variables count First (record { clauses = done; lits = []; word = Empty })) []
first_viable zero variables count done e sound =
    before (Setting variables count First (record { clauses = done; lits = []; word = Empty })) (Keyword variables done (codes "og")) 108 sound
    (ap (λ (b : Bool). cond b (Some (Keyword variables done (codes "og"))) (in_line variables count (record { clauses = done; lits = []; word = Empty }) 108)) (eq-eqb (length done) count (omega (arith, e))))
    (λ next. keyword_viable variables done (codes "og") next)
first_viable (suc left) variables count done e sound =
    zero_first variables count done [] (omega (arith, e)) sound
    (λ next. first_viable left variables count (done ++ [] ∷ []) (omega (arith, e, length-append done ([] ∷ []))) next)

rest_count : (done : List (List Literal)) (lits : List Literal) (count : ℕ) → length done < count → length (done ++ lits ∷ []) + (count - (length done + 1)) ≡ count
rest_count done lits count less = omega (arith, less, length-append done (lits ∷ []))

first_room : (variables count : ℕ) (done : List (List Literal)) (lits : List Literal) → HasRoom count (record { clauses = done; lits = lits; word = Empty }) → IsSound (Setting variables count First (record { clauses = done; lits = lits; word = Empty })) → BeginsRest (Setting variables count First (record { clauses = done; lits = lits; word = Empty })) []
first_room variables count done lits (inl less) sound =
    zero_first variables count done lits less sound
    (λ next. first_viable (count - (length done + 1)) variables count (done ++ lits ∷ []) (rest_count done lits count less) next)
first_room variables count done [] (inr r) sound = first_viable 0 variables count done (omega (arith, r.0)) sound
first_room variables count done (l ∷ lits) (inr r) sound = absurd (cons_some l lits r.1)

first_any : (variables count : ℕ) (done : List (List Literal)) (lits : List Literal) → IsSound (Setting variables count First (record { clauses = done; lits = lits; word = Empty })) → BeginsRest (Setting variables count First (record { clauses = done; lits = lits; word = Empty })) []
first_any variables count done lits sound = first_room variables count done lits sound.room sound

inside_number : (variables count : ℕ) (done : List (List Literal)) (lits : List Literal) (positive : Bool) (value : ℕ) → IsSound (Setting variables count Inside (record { clauses = done; lits = lits; word = Number positive value })) → BeginsRest (Setting variables count Inside (record { clauses = done; lits = lits; word = Number positive value })) []
inside_number variables count done lits positive value sound =
    before (Setting variables count Inside (record { clauses = done; lits = lits; word = Number positive value })) (Setting variables count First (record { clauses = done; lits = lits ++ literal positive value ∷ []; word = Empty })) 10 sound refl
    (λ next. first_any variables count done (lits ++ literal positive value ∷ []) next)

inside_minus : (variables count : ℕ) (done : List (List Literal)) (lits : List Literal) → HasRoom count (record { clauses = done; lits = lits; word = Minus }) → IsSound (Setting variables count Inside (record { clauses = done; lits = lits; word = Minus })) → BeginsRest (Setting variables count Inside (record { clauses = done; lits = lits; word = Minus })) []
inside_minus variables count done lits (inr r) sound = let clash = r.2 in absurd (cc)
inside_minus variables count done lits (inl less) sound =
    before (Setting variables count Inside (record { clauses = done; lits = lits; word = Minus })) (Setting variables count Inside (record { clauses = done; lits = lits; word = Number false 1 })) 49 sound
    (ap (λ (b : Bool). cond b (option_map (Setting variables count Inside) (option_map (λ (w : Word). record { clauses = done; lits = lits; word = w }) (option_map (Number false) (cond (leb 1 variables) (Some 1) None)))) None) (lt-ltb (length done) count less)
    ∙ ap (λ (b : Bool). option_map (Setting variables count Inside) (option_map (λ (w : Word). record { clauses = done; lits = lits; word = w }) (option_map (Number false) (cond b (Some 1) None)))) (le-leb 1 variables (omega (arith, sound.draft.word))))
    (λ next. inside_number variables count done lits false 1 next)

inside_viable : (variables count : ℕ) (done : List (List Literal)) (lits : List Literal) (word : Word) → IsSound (Setting variables count Inside (record { clauses = done; lits = lits; word = word })) → BeginsRest (Setting variables count Inside (record { clauses = done; lits = lits; word = word })) []
inside_viable variables count done lits Empty sound =
    before (Setting variables count Inside (record { clauses = done; lits = lits; word = Empty })) (Setting variables count First (record { clauses = done; lits = lits; word = Empty })) 10 sound refl
    (λ next. first_any variables count done lits next)
inside_viable variables count done lits Minus sound = inside_minus variables count done lits sound.room sound
inside_viable variables count done lits Zero sound = zero_line variables count done lits sound (λ next. first_any variables count (done ++ lits ∷ []) [] next)
inside_viable variables count done lits (Number positive value) sound = inside_number variables count done lits positive value sound

first_of_word : (variables count : ℕ) (done : List (List Literal)) (lits : List Literal) (word : Word) → word ≡ Empty → IsSound (Setting variables count First (record { clauses = done; lits = lits; word = word })) → BeginsRest (Setting variables count First (record { clauses = done; lits = lits; word = word })) []
first_of_word variables count done lits word e sound =
    let P : Word → Type 0 = λ w. BeginsRest (Setting variables count First (record { clauses = done; lits = lits; word = w })) [] in
    let Q : Word → Type 0 = λ w. IsSound (Setting variables count First (record { clauses = done; lits = lits; word = w })) in
    subst P (sym e) (first_any variables count done lits (subst Q e sound))

set_viable : (variables count : ℕ) (spot : Spot) (d : Draft) → IsSound (Setting variables count spot d) → BeginsRest (Setting variables count spot d) []
set_viable variables count First d sound = first_of_word variables count d.clauses d.lits d.word sound.empty sound
set_viable variables count Inside d sound = inside_viable variables count d.clauses d.lits d.word sound
set_viable variables count Comment d sound =
    before (Setting variables count Comment d) (Setting variables count First d) 10 sound refl
    (λ next. first_of_word variables count d.clauses d.lits d.word next.empty next)

-- ---- the header

count_some : (variables value : ℕ) → IsSound (Count variables (Some value)) → BeginsRest (Count variables (Some value)) []
count_some variables value sound = before (Count variables (Some value)) (Setting variables value First no_draft) 10 sound refl (λ next. set_viable variables value First no_draft next)

count_viable : (variables : ℕ) (value : Option ℕ) → IsSound (Count variables value) → BeginsRest (Count variables value) []
count_viable variables None sound = before (Count variables None) (Count variables (Some 0)) 48 sound refl (λ next. count_some variables 0 next)
count_viable variables (Some value) sound = count_some variables value sound

variables_some : (value : ℕ) → IsSound (Variables (Some value)) → BeginsRest (Variables (Some value)) []
variables_some value sound = before (Variables (Some value)) (Count value None) 32 sound refl (λ next. count_viable value None next)

variables_viable : (value : Option ℕ) → IsSound (Variables value) → BeginsRest (Variables value) []
variables_viable None sound = before (Variables None) (Variables (Some 0)) 48 sound refl (λ next. variables_some 0 next)
variables_viable (Some value) sound = variables_some value sound

meets_self_at : (expected : ℕ) (b : Bool) → eqb expected 32 ≡ b → cond b (parts_words expected) (eqb expected expected) ≡ true
meets_self_at expected true e = ap parts_words (eqb-true expected 32 e)
meets_self_at expected false e = eq-eqb expected expected refl

meets_self : (expected : ℕ) → meets expected expected ≡ true
meets_self expected = meets_self_at expected (eqb expected 32) refl

title_viable : (expected : List ℕ) → IsSound (Title expected) → BeginsRest (Title expected) []
title_viable [] sound = absurd sound
title_viable (x ∷ []) sound =
    before (Title (x ∷ [])) (Variables None) x sound (ap (λ (b : Bool). cond b (Some (Variables None)) None) (meets_self x)) (λ next. variables_viable None next)
title_viable (x ∷ y ∷ more) sound =
    before (Title (x ∷ y ∷ more)) (Title (y ∷ more)) x sound (ap (λ (b : Bool). cond b (Some (Title (y ∷ more))) None) (meets_self x)) (λ next. title_viable (y ∷ more) next)

opening_viable : BeginsRest Opening []
opening_viable = before Opening (Title (codes " cnf ")) 112 tt refl (λ next. title_viable (codes " cnf ") next)

pub viable : (s : State) → IsSound s → BeginsRest s []
viable Opening sound = opening_viable
viable Remark sound = before Remark Opening 10 sound refl (λ next. opening_viable)
viable (Title expected) sound = title_viable expected sound
viable (Variables value) sound = variables_viable value sound
viable (Count variables value) sound = count_viable variables value sound
viable (Setting variables count spot d) sound = set_viable variables count spot d sound
viable (Keyword variables clauses expected) sound = keyword_viable variables clauses expected sound
viable (Logging variables clauses d) sound = log_viable variables clauses d.clauses d.lits d.word sound
