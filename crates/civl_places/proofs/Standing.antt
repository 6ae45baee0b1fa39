-- Items, statements and exits in the spelling of a program.
use Rattle.std.proofs.Common.{◌≡◌, ℕ, zero, suc, ◌+◌, List, [], ◌∷◌, ◌++◌, map, length, take, drop, Option, Some, append_assoc, length-append, refl, sym, ap, ◌∙◌, subst, arith}
use Rattle.std.specs.Prelude.{slice_get, IsSomeAnd, MatchOption, codes}
use Rattle.std.specs.List.{AllZip}
use Rattle.std.proofs.lemmas.Option.{slice_get_past}
use Rattle.std.proofs.lemmas.Slice.Zip.{AllZip-left, AllZip-long}
use Rattle.civl_tree.specs.declared.program.Proc.{Proc}
use Rattle.civl_tree.specs.declared.program.Program.{Program}
use Rattle.civl_tree.specs.declared.stmt.Stmt.{Stmt}
use Rattle.civl_tree.specs.Token.{Token, Reserved}
use Rattle.civl_tree.specs.Spelling.{open_brace, close_brace, arrow, name_token, joined, enclosed}
use Rattle.civl_tree.specs.SpellingStmt.{spell_stmt}
use Rattle.civl_tree.specs.SpellingProgram.{spell_param, spell_out, spell_rank_of, spell_local, spell_proc, spell_program}
use Rattle.civl_tree.specs.SpellingLaws.{spell_item, spell_header}
use Rattle.civl_tree.specs.Numbering.{OfProc, items_of, proc_item, exit_number, statements_of}
use Rattle.civl_tree.proofs.Items.{items_are_numbered, items_are_in_text_order}
use Rattle.civl_tree.proofs.Numbers.{sizes_are_counts}
use Rattle.civl_tree.proofs.Lists.{last_there}
use Rattle.civl_places.specs.Starts.{item_start, starts_of, spell_head, proc_starts, statement_start}
use Rattle.civl_reasons.specs.Stands.{StandAt}
use Rattle.civl_places.specs.Laws.{ItemsBegin, StatementsBegin, ExitsStand, NoneBehindExit}
use Rattle.civl_places.proofs.Begins.{body_begins}

pub joined_split : {X : Type 0} (spell : X → List Token) (xs : List X) (n : ℕ) (x : X) → slice_get xs n ≡ Some x
    → joined (map spell xs) ≡ joined (map spell (take n xs)) ++ (spell x ++ joined (map spell (drop (suc n) xs)))
joined_split spell [] n x h = absurd (let none = h in cc)
joined_split spell (y ∷ ys) zero x h = let same : y ≡ x = cc in ap (λ z. spell z ++ joined (map spell ys)) same
joined_split spell (y ∷ ys) (suc n) x h =
    ap (λ (l : List Token). spell y ++ l) (joined_split spell ys n x h)
    ∙ sym (append_assoc (spell y) (joined (map spell (take n ys))) (spell x ++ joined (map spell (drop (suc n) ys))))

pub items_begin : ItemsBegin
items_begin p n item h = record {
  before = spell_header p ++ joined (map spell_item (take n (items_of p)));
  after = joined (map spell_item (drop (suc n) (items_of p)));
  parts = items_are_in_text_order p ∙ ap (λ (l : List Token). spell_header p ++ l) (joined_split spell_item (items_of p) n item h)
      ∙ sym (append_assoc (spell_header p) (joined (map spell_item (take n (items_of p)))) _);
  place_is = refl;
}

-- ---- a procedure

head_cut : (P O R L B : List Token) (x left : Token) → P ++ (x ∷ O ++ (R ++ (left ∷ L ++ B))) ≡ (P ++ (x ∷ O ++ (R ++ (left ∷ L)))) ++ B
head_cut P O R L B x left = simp append_assoc

head_first : (proc : Proc) → spell_proc proc ≡ spell_head proc ++ (joined (map spell_stmt proc.body) ++ close_brace ∷ [])
head_first proc =
    head_cut (Reserved (codes "proc") ∷ name_token proc.name ∷ enclosed spell_param proc.params) (enclosed spell_out proc.outs) (spell_rank_of proc.refines)
    (joined (map spell_local proc.locals)) (joined (map spell_stmt proc.body) ++ close_brace ∷ []) arrow open_brace

-- a procedure in the spelling of its program: what stands before its first statement, and behind its last
record InProgram (p : Program) (place : ℕ) (proc : Proc) : Type 0 where
  before : List Token
  after : List Token
  parts : spell_program p ≡ (before ++ spell_head proc) ++ (joined (map spell_stmt proc.body) ++ (close_brace ∷ after))
  begins : length before ≡ item_start p (proc_item p place)

in_program : (p : Program) (place : ℕ) (proc : Proc) → slice_get p.procs place ≡ Some proc → InProgram p place proc
in_program p place proc h =
    let stands = items_begin p (proc_item p place) (OfProc proc) ((items_are_numbered p place).4 proc h) in
    let body = joined (map spell_stmt proc.body) in record {
      before = stands.before;
      after = stands.after;
      parts = stands.parts ∙ ap (λ (l : List Token). stands.before ++ (l ++ stands.after)) (head_first proc)
          ∙ ap (λ (l : List Token). stands.before ++ l) (append_assoc (spell_head proc) (body ++ close_brace ∷ []) stands.after ∙ ap (λ (l : List Token). spell_head proc ++ l) (append_assoc body (close_brace ∷ []) stands.after))
          ∙ sym (append_assoc stands.before (spell_head proc) (body ++ (close_brace ∷ stands.after)));
      begins = stands.place_is;
    }

abbrev first_of : Program → ℕ → Proc → ℕ
first_of p place proc = item_start p (proc_item p place) + length (spell_head proc)

pub start_of : (p : Program) (place n : ℕ) (proc : Proc) → slice_get p.procs place ≡ Some proc → statement_start p place n ≡ slice_get (proc_starts (item_start p (proc_item p place)) proc) n
start_of p place n proc h = rw h refl

bodies : (p : Program) (place : ℕ) (proc : Proc) → slice_get p.procs place ≡ Some proc
    → AllZip (λ s start. StandAt (spell_stmt s) (spell_program p) start) (statements_of proc.body) (starts_of (first_of p place proc) proc.body)
bodies p place proc h =
    let there = in_program p place proc h in
    body_begins proc.body (spell_program p) (there.before ++ spell_head proc) (close_brace ∷ there.after) (first_of p place proc) there.parts
    (omega (arith, length-append there.before (spell_head proc), there.begins))

some_front : {A : Type 0} (P : A → Type 0) (xs ys : List A) (i : ℕ) → IsSomeAnd (slice_get xs i) P → IsSomeAnd (slice_get (xs ++ ys) i) P
some_front P [] ys i h = absurd h
some_front P (x ∷ xs) ys zero h = h
some_front P (x ∷ xs) ys (suc i) h = some_front P xs ys i h

pub statements_begin : StatementsBegin
statements_begin p place n proc stmt h found =
    let S = λ (s : Stmt) (start : ℕ). StandAt (spell_stmt s) (spell_program p) start in
    let starts = starts_of (first_of p place proc) proc.body in
    let at = AllZip-left S (statements_of proc.body) starts (bodies p place proc h) n in
    let own : IsSomeAnd (slice_get starts n) (S stmt) = subst (λ (o : Option Stmt). MatchOption o (Unit {0}) (λ s. IsSomeAnd (slice_get starts n) (S s))) found at in
    subst (λ (o : Option ℕ). IsSomeAnd o (S stmt)) (sym (start_of p place n proc h)) (some_front (S stmt) starts _ n own)

starts_counted : (p : Program) (place : ℕ) (proc : Proc) → slice_get p.procs place ≡ Some proc → length (starts_of (first_of p place proc) proc.body) ≡ exit_number proc.body
starts_counted p place proc h =
    AllZip-long (λ (s : Stmt) (start : ℕ). StandAt (spell_stmt s) (spell_program p) start) (statements_of proc.body) (starts_of (first_of p place proc) proc.body) (bodies p place proc h)
    ∙ sizes_are_counts proc.body

pub exits_stand : ExitsStand
exits_stand p place proc h =
    let there = in_program p place proc h in
    let body = joined (map spell_stmt proc.body) in
    let exit = first_of p place proc + length (joined (map spell_stmt proc.body)) in
    let at : slice_get (proc_starts (item_start p (proc_item p place)) proc) (exit_number proc.body) ≡ Some exit
    = ap (λ (n : ℕ). slice_get (proc_starts (item_start p (proc_item p place)) proc) n) (sym (starts_counted p place proc h)) ∙ last_there (starts_of (first_of p place proc) proc.body) exit in
    let stands : StandAt (close_brace ∷ []) (spell_program p) exit = record {
      before = (there.before ++ spell_head proc) ++ body;
      after = there.after;
      parts = there.parts ∙ sym (append_assoc (there.before ++ spell_head proc) body (close_brace ∷ there.after));
      place_is = omega (arith, length-append (there.before ++ spell_head proc) body, length-append there.before (spell_head proc), there.begins);
    } in
    let last : exit + 1 ≡ item_start p (proc_item p place) + length (spell_proc proc)
    = omega (arith, ap length (head_first proc), length-append (spell_head proc) (body ++ close_brace ∷ []), length-append body (close_brace ∷ [])) in
    subst (λ (o : Option ℕ). IsSomeAnd o (λ start. StandAt (close_brace ∷ []) (spell_program p) start × (start + 1 ≡ item_start p (proc_item p place) + length (spell_proc proc))))
    (sym (start_of p place (exit_number proc.body) proc h ∙ at)) (stands, last)

pub none_behind_exit : NoneBehindExit
none_behind_exit p place n proc h past =
    let starts = starts_of (first_of p place proc) proc.body in
    start_of p place n proc h ∙ slice_get_past (proc_starts (item_start p (proc_item p place)) proc) n
    (omega (arith, starts_counted p place proc h, length-append starts ((first_of p place proc + length (joined (map spell_stmt proc.body))) ∷ [])))
