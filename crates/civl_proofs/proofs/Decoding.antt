-- Words of clauses: they spell one list of clauses.
use Rattle.std.proofs.Common.{◌≡◌, ◌⊎◌, inl, inr, ℕ, ◌+◌, ◌^◌, ◌<◌, Bool, true, false, List, [], ◌∷◌, ◌++◌, length, get_or, map, refl, sym, ap, ap₂, subst, ◌∙◌, arith, append_assoc, length-append}
use Rattle.std.specs.Prelude.{All, codes}
use Rattle.std.specs.Fmt.{decimal}
use Rattle.std.proofs.lemmas.Fmt.{decimal_injective}
use Rattle.std.proofs.lemmas.List.{get_or_at, append-nil}
use Rattle.std.proofs.lemmas.List.Elements.{All-nil, All-cons, All-head, All-tail, All-append, All-map}
use Rattle.civl_cnf.specs.Literal.{Literal}
use Rattle.civl_cnf.specs.ClauseSet.{IsBelow, AreBelow}
use Rattle.civl_proofs.specs.Text.{sign_of, literal_word, clause_words, all_words}
use Rattle.civl_proofs.proofs.Numbers.{has_first}

pub cons_once : {X : Type 0} (x y : X) (xs ys : List X) → x ∷ xs ≡ y ∷ ys → (x ≡ y) × (xs ≡ ys)
cons_once x y xs ys h = (cc, cc)

pub cons_some : {X : Type 0} (x : X) (xs : List X) → x ∷ xs ≡ [] → ⊥
cons_some x xs h = cc

pub later_some : {X : Type 0} (xs ys : List X) (y : X) → xs ++ y ∷ ys ≡ [] → ⊥
later_some xs ys y h = absurd (omega (arith, length-append xs (y ∷ ys), ap length h))

-- ---- literals

pub no_minus : (n : ℕ) (more : List ℕ) → n < 2 ^ 32 → decimal n ≡ 45 ∷ more → ⊥
no_minus n more h e =
    let f = has_first n h in
    let same = cons_once f.first 45 f.more more (sym f.is ∙ e) in
    absurd (omega (arith, f.digit, same.0))

signs_once : (p q : Bool) (v w : ℕ) → v + 1 < 2 ^ 32 → w + 1 < 2 ^ 32 → sign_of p ++ decimal (v + 1) ≡ sign_of q ++ decimal (w + 1) → (v ≡ w) × (p ≡ q)
signs_once true true v w small less h =
    let same : v + 1 ≡ w + 1 = decimal_injective (v + 1) (w + 1) (omega (arith, small)) (omega (arith, less)) h in
    (omega (arith, same), refl)
signs_once true false v w small less h = absurd (no_minus (v + 1) (decimal (w + 1)) small h)
signs_once false true v w small less h = absurd (no_minus (w + 1) (decimal (v + 1)) less (sym h))
signs_once false false v w small less h =
    let tail = cons_once 45 45 (decimal (v + 1)) (decimal (w + 1)) h in
    let same : v + 1 ≡ w + 1 = decimal_injective (v + 1) (w + 1) (omega (arith, small)) (omega (arith, less)) tail.1 in
    (omega (arith, same), refl)

make : ℕ → Bool → Literal
make v p = record { variable = v; positive = p }

made : (l m : Literal) → l.variable ≡ m.variable → l.positive ≡ m.positive → l ≡ m
unfolding make
made l m e f = ap₂ make e f

pub literal_once : (l m : Literal) → l.variable + 1 < 2 ^ 32 → m.variable + 1 < 2 ^ 32 → literal_word l ≡ literal_word m → l ≡ m
literal_once l m small less h =
    let same = signs_once l.positive m.positive l.variable m.variable small less h in
    made l m same.0 same.1

no_zero_at : (p : Bool) (v : ℕ) → v + 1 < 2 ^ 32 → sign_of p ++ decimal (v + 1) ≡ codes "0" → ⊥
no_zero_at true v small h =
    let f = has_first (v + 1) small in
    let same = cons_once f.first 48 f.more [] (sym f.is ∙ h) in
    absurd (omega (arith, f.plain (omega arith), same.0))
no_zero_at false v small h =
    let same = cons_once 45 48 (decimal (v + 1)) [] h in
    absurd (omega (arith, same.0))

pub no_zero : (l : Literal) → l.variable + 1 < 2 ^ 32 → literal_word l ≡ codes "0" → ⊥
no_zero l small h = no_zero_at l.positive l.variable small h

-- ---- clauses

abbrev pub AreSmall : List Literal → Type 0
AreSmall clause = All (λ l. l.variable + 1 < 2 ^ 32) clause

abbrev pub AllSmall : List (List Literal) → Type 0
AllSmall clauses = All AreSmall clauses

pub small_clause : (variables : ℕ) (clause : List Literal) → variables < 2 ^ 32 → IsBelow variables clause → AreSmall clause
small_clause variables clause few below = λ k d low. omega (arith, below k d low, few)

pub small_clauses : (variables : ℕ) (clauses : List (List Literal)) → variables < 2 ^ 32 → AreBelow variables clauses → AllSmall clauses
small_clauses variables clauses few below = λ k d low. small_clause variables (get_or clauses k d) few (below k d low)

small_head : (l : Literal) (clause : List Literal) → AreSmall (l ∷ clause) → l.variable + 1 < 2 ^ 32
small_head l clause h = All-head (λ (m : Literal). m.variable + 1 < 2 ^ 32) l clause h

small_tail : (l : Literal) (clause : List Literal) → AreSmall (l ∷ clause) → AreSmall clause
small_tail l clause h = All-tail (λ (m : Literal). m.variable + 1 < 2 ^ 32) l clause h

clause_once : (c d : List Literal) (xs ys : List (List ℕ)) → AreSmall c → AreSmall d → clause_words c ++ xs ≡ clause_words d ++ ys → (c ≡ d) × (xs ≡ ys)
clause_once [] [] xs ys small less h = (refl, (cons_once (codes "0") (codes "0") xs ys h).1)
clause_once [] (m ∷ d) xs ys small less h = absurd (no_zero m (small_head m d less) (sym (cons_once (codes "0") (literal_word m) xs (clause_words d ++ ys) h).0))
clause_once (l ∷ c) [] xs ys small less h = absurd (no_zero l (small_head l c small) (cons_once (literal_word l) (codes "0") (clause_words c ++ xs) ys h).0)
clause_once (l ∷ c) (m ∷ d) xs ys small less h =
    let parts = cons_once (literal_word l) (literal_word m) (clause_words c ++ xs) (clause_words d ++ ys) h in
    let more = clause_once c d xs ys (small_tail l c small) (small_tail m d less) parts.1 in
    (ap₂ (λ (x : Literal) (y : List Literal). x ∷ y) (literal_once l m (small_head l c small) (small_head m d less) parts.0) more.0, more.1)

pub record IsFront (clauses all : List (List Literal)) (words : List (List ℕ)) : Type 0 where
  pub more : List (List Literal)
  pub is : all ≡ clauses ++ more
  pub spells : words ≡ all_words more

clause_some : (c : List Literal) (xs : List (List ℕ)) → clause_words c ++ xs ≡ [] → ⊥
clause_some [] xs h = cons_some (codes "0") xs h
clause_some (l ∷ c) xs h = cons_some (literal_word l) (clause_words c ++ xs) h

-- clauses whose words stand at the front are the first clauses
pub front_is : (clauses all : List (List Literal)) (words : List (List ℕ)) → AllSmall clauses → AllSmall all → all_words clauses ++ words ≡ all_words all → IsFront clauses all words
front_is [] all words small less h = record { more = all; is = refl; spells = h }
front_is (c ∷ clauses) [] words small less h = absurd (clause_some c (all_words clauses ++ words) (sym (append_assoc (clause_words c) (all_words clauses) words) ∙ h))
front_is (c ∷ clauses) (d ∷ all) words small less h =
    let once = clause_once c d (all_words clauses ++ words) (all_words all) (All-head AreSmall c clauses small) (All-head AreSmall d all less) (sym (append_assoc (clause_words c) (all_words clauses) words) ∙ h) in
    let rest = front_is clauses all words (All-tail AreSmall c clauses small) (All-tail AreSmall d all less) once.1 in
    record { more = rest.more; is = ap₂ (λ (x : List Literal) (y : List (List Literal)). x ∷ y) (sym once.0) rest.is; spells = rest.spells }

-- the words of clauses, and of literals of one more
abbrev pub spelled : List (List Literal) → List Literal → List (List ℕ)
spelled clauses lits = all_words clauses ++ map literal_word lits

some_left : (more : List (List Literal)) (xs ys : List (List ℕ)) (word : List ℕ) → xs ++ word ∷ ys ≡ all_words more → 0 < length more
some_left [] xs ys word h = absurd (later_some xs ys word h)
some_left (c ∷ more) xs ys word h = omega arith

-- where a word is still to come, so is a clause
pub word_left : (clauses all : List (List Literal)) (lits : List Literal) (word : List ℕ) (words : List (List ℕ)) → AllSmall clauses → AllSmall all → spelled clauses lits ++ word ∷ words ≡ all_words all → length clauses < length all
word_left clauses all lits word words small less h =
    let front = front_is clauses all (map literal_word lits ++ word ∷ words) small less (sym (append_assoc (all_words clauses) (map literal_word lits) (word ∷ words)) ∙ h) in
    let some = some_left front.more (map literal_word lits) words word front.spells in
    omega (arith, some, ap length front.is, length-append clauses front.more)

no_end : (lits clause : List Literal) (words : List (List ℕ)) → AreSmall lits → map literal_word lits ≡ clause_words clause ++ words → ⊥
no_end [] clause words small h = clause_some clause words (sym h)
no_end (l ∷ lits) [] words small h = no_zero l (small_head l lits small) (cons_once (literal_word l) (codes "0") (map literal_word lits) words h).0
no_end (l ∷ lits) (m ∷ clause) words small h = no_end lits clause words (small_tail l lits small) (cons_once (literal_word l) (literal_word m) (map literal_word lits) (clause_words clause ++ words) h).1

none_left : (lits : List Literal) (more : List (List Literal)) → AreSmall lits → map literal_word lits ≡ all_words more → (lits ≡ []) × (more ≡ [])
none_left [] [] small h = (refl, refl)
none_left (l ∷ lits) [] small h = absurd (cons_some (literal_word l) (map literal_word lits) h)
none_left lits (c ∷ more) small h = absurd (no_end lits c (all_words more) small h)

-- where no word is to come, no clause is open, and all are there
pub all_there : (clauses all : List (List Literal)) (lits : List Literal) → AllSmall clauses → AreSmall lits → AllSmall all → spelled clauses lits ≡ all_words all → (lits ≡ []) × (all ≡ clauses)
all_there clauses all lits small smalls less h =
    let front = front_is clauses all (map literal_word lits) small less h in
    let none = none_left lits front.more smalls front.spells in
    (none.0, front.is ∙ ap (λ (xs : List (List Literal)). clauses ++ xs) none.1 ∙ append-nil clauses)

-- ---- each word

abbrev pub IsWord : ℕ → List ℕ → Type 0
IsWord variables word = (word ≡ codes "0") ⊎ ((l : Literal) × (l.variable < variables) × (word ≡ literal_word l))

clause_are : (variables : ℕ) (clause : List Literal) → IsBelow variables clause → All (IsWord variables) (clause_words clause)
clause_are variables clause below =
    All-append (IsWord variables) (map literal_word clause) (codes "0" ∷ [])
    (All-map (IsWord variables) literal_word clause (λ k d low. inr (get_or clause k d, below k d low, refl)))
    (All-cons (IsWord variables) (codes "0") [] (inl refl) (All-nil (IsWord variables)))

words_are : (variables : ℕ) (clauses : List (List Literal)) → AreBelow variables clauses → All (IsWord variables) (all_words clauses)
words_are variables [] below = All-nil (IsWord variables)
words_are variables (c ∷ clauses) below =
    All-append (IsWord variables) (clause_words c) (all_words clauses)
    (clause_are variables c (All-head (IsBelow variables) c clauses below))
    (words_are variables clauses (All-tail (IsBelow variables) c clauses below))

pub word_is : (variables : ℕ) (clauses : List (List Literal)) (xs ys : List (List ℕ)) (word : List ℕ) → AreBelow variables clauses → xs ++ word ∷ ys ≡ all_words clauses → IsWord variables word
word_is variables clauses xs ys word below h =
    let all : All (IsWord variables) (xs ++ word ∷ ys) = subst (All (IsWord variables)) (sym h) (words_are variables clauses below) in
    let within : length xs < length (xs ++ word ∷ ys) = omega (arith, length-append xs (word ∷ ys)) in
    subst (IsWord variables) (get_or_at xs word ys [] (length xs) refl) (all (length xs) [] within)
