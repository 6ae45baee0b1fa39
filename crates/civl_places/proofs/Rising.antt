-- Statements begin in the order of their numbers, and within the spelling.
use Rattle.std.proofs.Common.{◌≡◌, ℕ, zero, suc, ◌+◌, ◌<◌, ◌≤◌, inl, inr, List, [], ◌∷◌, ◌++◌, map, length, Option, None, Some, length-append, refl, sym, ap, ◌∙◌, subst, arith}
use Rattle.std.specs.Prelude.{slice_get, IfSome, IsSomeAnd}
use Rattle.std.proofs.lemmas.Bool.{cases_order}
use Rattle.std.proofs.lemmas.Option.{slice_get_cases}
use Rattle.civl_tree.specs.declared.program.Proc.{Proc}
use Rattle.civl_tree.specs.declared.program.Program.{Program}
use Rattle.civl_tree.specs.declared.stmt.Stmt.{Stmt, roll-Stmt, out-Stmt, out-roll-Stmt, roll-out-Stmt, map-Stmt}
use Rattle.civl_tree.specs.declared.stmt.Stmt.TheOpen.{Stmt-F, Assign, Assert, If, While, YieldLoop, RankLoop, Call, Yield, Commit, Intro, Spawn}
use Rattle.civl_tree.specs.declared.stmt.Stmt.TheFolds.{fold-roll-Stmt, ind-Stmt}
use Rattle.civl_tree.specs.Token.{Token}
use Rattle.civl_tree.specs.Spelling.{close_brace, joined, spell_expr}
use Rattle.civl_tree.specs.SpellingStmt.{stmt_step, spell_stmt}
use Rattle.civl_tree.specs.SpellingProgram.{spell_proc, spell_program}
use Rattle.civl_tree.specs.Numbering.{Item, OfGlobal, OfInit, OfInvariant, OfAction, OfProc, OfThread, exit_number, item_count, items_of, proc_item, statements_of}
use Rattle.civl_tree.specs.SpellingLaws.{spell_item}
use Rattle.civl_tree.proofs.Items.{items_are_numbered}
use Rattle.civl_tree.proofs.Lists.{get_there}
use Rattle.civl_tree.proofs.Numbers.{sizes_are_counts}
use Rattle.civl_places.specs.Starts.{item_start, inner_starts, starts_of, spell_head, proc_starts, statement_start}
use Rattle.civl_reasons.specs.Stands.{StandAt}
use Rattle.civl_places.specs.Laws.{StartsRise}
use Rattle.civl_places.proofs.Standing.{items_begin, statements_begin, exits_stand, none_behind_exit, start_of}
use Rattle.civl_places.proofs.Walking.{starts_layer, starts_is}

-- ---- spellings have tokens

layer_some : (d : Stmt-F (List Token)) → 0 < length (stmt_step d)
layer_some (Assign x e) = omega arith
layer_some (Assert e) = omega arith
layer_some (If e a b) = omega arith
layer_some (While e a) = omega arith
layer_some (YieldLoop e i a) = omega arith
layer_some (RankLoop e r i a) = omega arith
layer_some (Call f es xs) = omega arith
layer_some (Yield e) = omega arith
layer_some Commit = omega arith
layer_some (Intro x e) = omega arith
layer_some (Spawn f es) = omega arith

spelled_layer : (x : Stmt-F Stmt) → spell_stmt (roll-Stmt x) ≡ stmt_step (map-Stmt Stmt (List Token) spell_stmt x)
spelled_layer x = fold-roll-Stmt (List Token) stmt_step x

stmt_some : (s : Stmt) → 0 < length (spell_stmt s)
stmt_some s =
    let spelled = ap spell_stmt (sym (roll-out-Stmt s)) ∙ spelled_layer (out-Stmt s) in
    rw spelled (layer_some (map-Stmt Stmt (List Token) spell_stmt (out-Stmt s)))

-- ---- rising

-- the numbers rise, from the first bound on, and end before the second
abbrev Rising : ℕ → List ℕ → ℕ → Type 0
Rising low [] high = low ≤ high
Rising low (x ∷ xs) high = (low ≤ x) × Rising (suc x) xs high

lower : (a b : ℕ) (xs : List ℕ) (high : ℕ) → a ≤ b → Rising b xs high → Rising a xs high
lower a b [] high h rises = omega arith
lower a b (x ∷ xs) high h rises = (omega (arith, rises.0), rises.1)

rising_both : (low : ℕ) (xs : List ℕ) (mid : ℕ) (ys : List ℕ) (high : ℕ) → Rising low xs mid → Rising mid ys high → Rising low (xs ++ ys) high
rising_both low [] mid ys high h k = lower low mid ys high h k
rising_both low (x ∷ xs) mid ys high h k = (h.0, rising_both (suc x) xs mid ys high h.1 k)

higher : (low : ℕ) (xs : List ℕ) (a b : ℕ) → a ≤ b → Rising low xs a → Rising low xs b
higher low [] a b h rises = omega arith
higher low (x ∷ xs) a b h rises = (rises.0, higher (suc x) xs a b h rises.1)

above : (low : ℕ) (xs : List ℕ) (high n b : ℕ) → Rising low xs high → slice_get xs n ≡ Some b → low ≤ b
above low [] high n b rises h = absurd (let none = h in cc)
above low (x ∷ xs) high zero b rises h = let same : x ≡ b = cc in omega (arith, rises.0)
above low (x ∷ xs) high (suc n) b rises h = omega (arith, rises.0, above (suc x) xs high n b rises.1 h)

in_order : (low : ℕ) (xs : List ℕ) (high m n a b : ℕ) → Rising low xs high → slice_get xs m ≡ Some a → slice_get xs n ≡ Some b → m < n → a < b
in_order low [] high m n a b rises first second less = absurd (let none = first in cc)
in_order low (x ∷ xs) high m zero a b rises first second less = absurd (omega arith)
in_order low (x ∷ xs) high zero (suc n) a b rises first second less = let same : x ≡ a = cc in omega (arith, above (suc x) xs high n b rises.1 second)
in_order low (x ∷ xs) high (suc m) (suc n) a b rises first second less = in_order (suc x) xs high m n a b rises.1 first second (omega arith)

abbrev Inner : Stmt → Type 0
Inner s = (at : ℕ) → Rising (suc at) (inner_starts s at) (at + length (spell_stmt s))

all_rise : {S : Type 0} (ys : List S) (v : S → Stmt) → ((s : S) → Inner (v s)) → (at : ℕ) → Rising at (starts_of at (map v ys)) (at + length (joined (map spell_stmt (map v ys))))
all_rise [] v h at = omega arith
all_rise (y ∷ ys) v h at =
    let own = spell_stmt (v y) in
    let rest = all_rise ys v h (at + length own) in
    let sum : at + length own + length (joined (map spell_stmt (map v ys))) ≡ at + length (own ++ joined (map spell_stmt (map v ys))) = omega (arith, length-append own (joined (map spell_stmt (map v ys)))) in
    rising_both at (at ∷ inner_starts (v y) at) (at + length own) (starts_of (at + length own) (map v ys)) _ (omega arith, h y at)
    (higher (at + length own) _ _ _ (omega arith) rest)

-- a body in a statement
within : {S : Type 0} (ys : List S) (v : S → Stmt) → ((s : S) → Inner (v s)) → (low at high : ℕ) → low ≤ at
    → at + length (joined (map spell_stmt (map v ys))) ≤ high → Rising low (starts_of at (map v ys)) high
within ys v h low at high below fits = lower low at _ high below (higher at _ _ high fits (all_rise ys v h at))

layer_rises : {S : Type 0} (d : Stmt-F S) (v : S → Stmt) → ((s : S) → Inner (v s)) → (at : ℕ)
    → Rising (suc at) (starts_layer (map-Stmt S Stmt v d) at) (at + length (stmt_step (map-Stmt Stmt (List Token) spell_stmt (map-Stmt S Stmt v d))))
layer_rises (Assign x e) v h at = omega arith
layer_rises (Assert e) v h at = omega arith
layer_rises (If e a b) v h at =
    rising_both (suc at) _ (at + length (spell_expr e) + 2 + length (joined (map spell_stmt (map v a))) + 3) _ _
    (within a v h (suc at) (at + length (spell_expr e) + 2) _ (omega arith) (omega arith))
    (within b v h _ _ _ (omega arith) (simp length-append (omega arith)))
layer_rises (While e a) v h at = within a v h (suc at) _ _ (omega arith) (simp length-append (omega arith))
layer_rises (YieldLoop e i a) v h at = within a v h (suc at) _ _ (omega arith) (simp length-append (omega arith))
layer_rises (RankLoop e r i a) v h at = within a v h (suc at) _ _ (omega arith) (simp length-append (omega arith))
layer_rises (Call f es xs) v h at = omega arith
layer_rises (Yield e) v h at = omega arith
layer_rises Commit v h at = omega arith
layer_rises (Intro x e) v h at = omega arith
layer_rises (Spawn f es) v h at = omega arith

abbrev InLayer : Stmt-F Stmt → Type 0
InLayer d = (at : ℕ) → Rising (suc at) (starts_layer d at) (at + length (stmt_step (map-Stmt Stmt (List Token) spell_stmt d)))

from_layer : (x : Stmt-F Stmt) → InLayer x → Inner (roll-Stmt x)
from_layer x h at =
    let starts : inner_starts (roll-Stmt x) at ≡ starts_layer x at = starts_is (roll-Stmt x) at ∙ ap (λ (d : Stmt-F Stmt). starts_layer d at) (out-roll-Stmt x) in
    subst (λ (l : List ℕ). Rising (suc at) l (at + length (spell_stmt (roll-Stmt x)))) (sym starts)
    (subst (λ (l : List Token). Rising (suc at) (starts_layer x at) (at + length l)) (sym (spelled_layer x)) (h at))

inner_rises : (s : Stmt) → Inner s
inner_rises s = ind-Stmt Inner (λ x y q. from_layer x (subst InLayer q (layer_rises y (λ z. z.0) (λ z. z.1)))) s

same_stmts : (stmts : List Stmt) → map (λ (s : Stmt). s) stmts ≡ stmts
same_stmts [] = refl
same_stmts (s ∷ ss) = ap (λ (l : List Stmt). s ∷ l) (same_stmts ss)

body_rises : (body : List Stmt) (at : ℕ) → Rising at (starts_of at body) (at + length (joined (map spell_stmt body)))
body_rises body at =
    subst (λ (l : List Stmt). Rising at (starts_of at l) (at + length (joined (map spell_stmt l)))) (same_stmts body) (all_rise body (λ (s : Stmt). s) inner_rises at)

proc_rises : (at : ℕ) (proc : Proc) → Rising (at + length (spell_head proc)) (proc_starts at proc) (suc (at + length (spell_head proc) + length (joined (map spell_stmt proc.body))))
proc_rises at proc = rising_both _ (starts_of (at + length (spell_head proc)) proc.body) _ _ _ (body_rises proc.body (at + length (spell_head proc))) (omega arith, omega arith)

-- ---- procedures

some_proc : (p : Program) (place n start : ℕ) → statement_start p place n ≡ Some start → (proc : Proc) × (slice_get p.procs place ≡ Some proc)
some_proc p place n start h = elim (slice_get_cases p.procs place).1 [
  | inl there ↦ (there.0, there.2)
  | inr none ↦ absurd (let wanting = rw none.1 at h in cc)
]

pub starts_rise : StartsRise
starts_rise p place m n a b first second less =
    let found = some_proc p place m a first in
    let starts = proc_starts (item_start p (proc_item p place)) found.0 in
    in_order _ starts _ m n a b (proc_rises (item_start p (proc_item p place)) found.0)
    (sym (start_of p place m found.0 found.1) ∙ first) (sym (start_of p place n found.0 found.1) ∙ second) less

-- ---- within the spelling

stand_within : (part all : List Token) (start : ℕ) → 0 < length part → StandAt part all start → start < length all
stand_within part all start some stands =
    omega (arith, ap length stands.parts, length-append stands.before (part ++ stands.after), length-append part stands.after, stands.place_is)

at_some : (P : ℕ → Type 0) (o : Option ℕ) (x : ℕ) → o ≡ Some x → IsSomeAnd o P → P x
at_some P o x e h = subst (λ (q : Option ℕ). IsSomeAnd q P) e h

exit_within : (p : Program) (place start : ℕ) (proc : Proc) → slice_get p.procs place ≡ Some proc → statement_start p place (exit_number proc.body) ≡ Some start → start < length (spell_program p)
exit_within p place start proc there h =
    let last = at_some (λ start. StandAt (close_brace ∷ []) (spell_program p) start × (start + 1 ≡ item_start p (proc_item p place) + length (spell_proc proc))) _ start h (exits_stand p place proc there) in
    stand_within (close_brace ∷ []) (spell_program p) start (omega arith) last.0

pub start_within : (p : Program) (place n start : ℕ) → statement_start p place n ≡ Some start → start < length (spell_program p)
start_within p place n start h =
    let found = some_proc p place n start h in
    elim (cases_order n (exit_number found.0.body)) [
      | inl same ↦ exit_within p place start found.0 found.1 (subst (λ (k : ℕ). statement_start p place k ≡ Some start) same h)
      | inr (inl less) ↦
          let stmt = get_there (statements_of found.0.body) n (omega (arith, sizes_are_counts found.0.body)) in
          let stands = at_some (StandAt (spell_stmt stmt.0) (spell_program p)) _ start h (statements_begin p place n found.0 stmt.0 found.1 stmt.1) in
          stand_within (spell_stmt stmt.0) (spell_program p) start (stmt_some stmt.0) stands
      | inr (inr more) ↦ absurd (let none = none_behind_exit p place n found.0 found.1 more in cc)
    ]

pub starts_within : (p : Program) (place n : ℕ) (r : Option ℕ) → r ≡ statement_start p place n → IfSome r (λ start. start < length (spell_program p))
starts_within p place n None known = tt
starts_within p place n (Some start) known = start_within p place n start (sym known)

item_some : (item : Item) → 0 < length (spell_item item)
item_some (OfGlobal x) = omega arith
item_some (OfInit x) = omega arith
item_some (OfInvariant x) = omega arith
item_some (OfAction x) = omega arith
item_some (OfProc x) = omega arith
item_some (OfThread x) = omega arith

pub item_within : (p : Program) (item start : ℕ) → item < item_count p → start ≡ item_start p item → start < length (spell_program p)
item_within p item start less is =
    let found = get_there (items_of p) item (omega (arith, (items_are_numbered p 0).6)) in
    rw is (stand_within (spell_item found.0) (spell_program p) (item_start p item) (item_some found.0) (items_begin p item found.0 found.1))
