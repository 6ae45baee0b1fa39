-- Procedures are read as they are spelled.
use Rattle.std.proofs.Common.{◌≡◌, ℕ, suc, ◌-◌, Bool, true, false, List, [], ◌∷◌, ◌++◌, map, Option, None, Some, refl, sym, ap, subst, append_assoc, arith, inl, inr, ◌⊎◌}
use Rattle.std.specs.Prelude.{codes, IsTrue}
use Rattle.std.specs.List.{AllByRecursion, list_all}
use Rattle.std.proofs.lemmas.Bool.{and_from}
use Rattle.civl_tree.specs.Token.{Token, Reserved, Number}
use Rattle.civl_tree.specs.Spelling.{open_brace, close_brace, semicolon, colon, arrow, name_token, joined, enclosed, spell_expr}
use Rattle.civl_tree.specs.SpellingStmt.{spell_stmt}
use Rattle.civl_tree.specs.SpellingProgram.{local_token, spell_param, spell_rank_of, spell_local, spell_proc}
use Rattle.civl_tree.specs.SpellingDomain.{allows_name, allows_expr, allows_stmt, allows_param, allows_out, allows_rank_of, allows_local, allows_proc}
use Rattle.civl_tree.specs.declared.stmt.Stmt.{Stmt}
use Rattle.civl_tree.specs.declared.program.Refines.{Refines}
use Rattle.civl_tree.specs.declared.program.Local.{Local}
use Rattle.civl_tree.specs.declared.program.Proc.{Proc}
use Rattle.civl_phrases.specs.Bracket.{Plain, side}
use Rattle.civl_phrases.specs.Reader.{begins, lookahead, opened}
use Rattle.civl_phrases.specs.Table.{lookup}
use Rattle.civl_phrases.specs.Phrase.{Any, IsReader, Heads, Image}
use Rattle.civl_phrases.proofs.Joins.{both_is, mapped_is, image_is, refit_is, chosen_is}
use Rattle.civl_phrases.proofs.Tokens.{leaf_is, after_is, opened_is, then_is, done_is}
use Rattle.civl_phrases.proofs.Lists.{repeated_is, repeated_then_is}
use Rattle.civl_phrases.proofs.Heads.{heads_after, heads_image, heads_mapped, heads_repeated}
use Rattle.civl_phrases.proofs.Tables.{table_leaf, and_parts}
use Rattle.civl_phrases.proofs.Leaves.{number_is}
use Rattle.civl_expressions.specs.declared.params.Heading.{Heading}
use Rattle.civl_statements.specs.declared.procedures.Body.{Body}
use Rattle.civl_expressions.specs.readers.Names.{FitsName}
use Rattle.civl_expressions.specs.readers.Exprs.{FitsExpr}
use Rattle.civl_statements.specs.readers.Stmts.{FitsStmt, stmt_next}
use Rattle.civl_statements.specs.readers.Procs.{make_refines, refines_at, rank_of_at, local_table, local_of, local_word_at, local_next, make_local, local_at, make_body, body_at, make_proc, proc_word, proc_at}
use Rattle.civl_expressions.proofs.Lists.{all_from, all_to}
use Rattle.civl_expressions.proofs.OfNames.{name_is}
use Rattle.civl_expressions.proofs.OfExprs.{sort_is, args_is}
use Rattle.civl_statements.proofs.OfStmts.{stmt_is, stmt_not, stmt_is_next}
use Rattle.civl_expressions.proofs.OfHeadings.{spell_heading, FitsHeading, heading_is}

-- ---- root, or what is refined

abbrev spell_refines : Refines → List Token
spell_refines r = Reserved (codes "refines") ∷ name_token r.action ∷ Reserved (codes "with") ∷ (enclosed spell_expr r.with ++ (Reserved (codes "layer") ∷ Number r.layer ∷ []))

abbrev FitsRefines : Bool → Refines → Type 0
FitsRefines new r = FitsName r.action × AllByRecursion (FitsExpr new) r.with

refines_is : (new : Bool) (d : ℕ) → IsReader d d Any spell_refines (FitsRefines new) (refines_at new d)
unfolding refines_at
refines_is new d = mapped_is make_refines spell_refines (FitsRefines new) (λ p h. refl) (λ p h. (h.0, h.1.0)) (λ r h. ((r.action, (r.with, r.layer)), refl, (h.0, (h.1, tt))))
    (after_is d (Reserved (codes "refines")) refl refl (both_is (name_is d) (λ _. after_is d (Reserved (codes "with")) refl refl
    (both_is (args_is new d) (λ _. after_is d (Reserved (codes "layer")) refl refl (number_is d))))))

abbrev FitsRankOf : Bool → Option Refines → Type 0
FitsRankOf new o = IsTrue (allows_rank_of new o)

rank_of_back : (new : Bool) (o : Option Refines) → FitsRankOf new o → Image (λ (u : Unit {0}). None) (λ _. Unit {0}) o ⊎ Image (λ (r : Refines). Some r) (FitsRefines new) o
rank_of_back new None h = inl (tt, refl, tt)
rank_of_back new (Some r) h = let k = and_parts (allows_name r.action) (list_all (allows_expr new) r.with) h in inr (r, refl, (k.0, all_to (allows_expr new) r.with k.1))

rank_of_to : (new : Bool) (r : Refines) → FitsRefines new r → FitsRankOf new (Some r)
rank_of_to new r h = and_from (allows_name r.action) (list_all (allows_expr new) r.with) h.0 (all_from (allows_expr new) r.with h.1)

rank_of_is : (new : Bool) (d : ℕ) → IsReader d d Any spell_rank_of (FitsRankOf new) (rank_of_at new d)
unfolding rank_of_at
rank_of_is new d =
    let none : Unit {0} → Option Refines = λ _. None in
    let some : Refines → Option Refines = λ r. Some r in
    let root = begins (Reserved (codes "root")) in
    refit_is (FitsRankOf new) (λ o h. elim h [ inl i ↦ subst (FitsRankOf new) i.1 refl | inr i ↦ subst (FitsRankOf new) i.1 (rank_of_to new i.0 i.2) ]) (rank_of_back new)
    (chosen_is root
    (heads_image none spell_rank_of root true (λ u. refl) (heads_after (Reserved (codes "root")) root true refl))
    (heads_image some spell_rank_of root false (λ r. refl) (record { next = λ r rest fits ends. refl }))
    (image_is none spell_rank_of (λ u. refl) (after_is d (Reserved (codes "root")) refl refl (done_is d)))
    (image_is {s = spell_refines} some spell_rank_of (λ r. refl) (refines_is new d)))

-- ---- locals

local_found : (b : Bool) → lookup local_table (local_token b) ≡ Some b
local_found true = refl
local_found false = refl

local_plain : (b : Bool) → side (local_token b) ≡ Plain
local_plain true = refl
local_plain false = refl

local_word_is : (d : ℕ) → IsReader d d Any (λ b. local_token b ∷ []) (λ b. IsTrue true) local_word_at
unfolding local_word_at
local_word_is d = leaf_is d (λ b. IsTrue true) local_of local_token (true, refl) (table_leaf local_token (λ _. true) local_table (refl, (refl, tt)) local_found local_plain)

abbrev FitsLocal : Local → Type 0
FitsLocal l = IsTrue (allows_local l)

local_is : (d : ℕ) → IsReader d d Any spell_local FitsLocal (local_at d)
unfolding local_at
local_is d = mapped_is make_local spell_local FitsLocal (λ p h. refl) (λ p h. h.1.0) (λ l h. ((l.linear, (l.name, l.sort)), refl, (refl, (h, tt))))
    (both_is (local_word_is d) (λ _. both_is (name_is d) (λ _. after_is d colon refl refl (then_is d semicolon refl refl (sort_is d)))))

local_heads : (b : Bool) → local_next (Some (local_token b)) ≡ true
local_heads true = refl
local_heads false = refl

local_is_next : Heads Any spell_local FitsLocal local_next true
local_is_next = record { next = λ l rest fits ends. local_heads l.linear }

local_off : (o : Option Token) → begins (Reserved (codes "linear")) o ≡ false → begins (Reserved (codes "var")) o ≡ false → local_next o ≡ false
local_off None h k = refl
local_off (Some t) h k = rw (h, k) refl

stmt_no_local : (new : Bool) → Heads Any spell_stmt (FitsStmt new) local_next false
stmt_no_local new = record {
  next = λ s rest fits ends. local_off (lookahead (spell_stmt s ++ rest)) ((stmt_not new (Reserved (codes "linear")) refl).next s rest fits ends) ((stmt_not new (Reserved (codes "var")) refl).next s rest fits ends);
}

-- ---- procedures

abbrev spell_stmts : List Stmt → List Token
spell_stmts body = joined (map spell_stmt body) ++ close_brace ∷ []

stmts_no_local : (new : Bool) → Heads Any spell_stmts (AllByRecursion (FitsStmt new)) local_next false
stmts_no_local new = heads_mapped {f = λ v. AllByRecursion (FitsStmt new) v.0 × Unit {0}} (λ (v : List Stmt × Unit {0}). v.0) spell_stmts (AllByRecursion (FitsStmt new)) local_next false (λ v h. refl) (λ xs h. ((xs, tt), refl, (h, tt)))
    (heads_repeated local_next false (stmt_no_local new) (heads_after {s = λ (u : Unit {0}). []} close_brace local_next false refl))

abbrev spell_body : Body → List Token
spell_body b = joined (map spell_local b.locals) ++ spell_stmts b.stmts

abbrev FitsBody : Bool → Body → Type 0
FitsBody new b = AllByRecursion FitsLocal b.locals × AllByRecursion (FitsStmt new) b.stmts

body_is : (new : Bool) (c d : ℕ) → d ≡ suc c → IsReader c d Any spell_body (FitsBody new) (body_at new c)
unfolding body_at
body_is new c d e = mapped_is make_body spell_body (FitsBody new) (λ p h. refl) (λ p h. h) (λ b h. ((b.locals, b.stmts), refl, h))
    (repeated_is {s2 = spell_stmts} local_next refl local_is_next (stmts_no_local new) (local_is c) (repeated_then_is (stmt_next new) close_brace refl refl refl (ap Some (sym e)) (stmt_is_next new) (stmt_is new c)))

abbrev pub FitsProc : Bool → Proc → Type 0
FitsProc new p = IsTrue (allows_proc new p)

abbrev spell_braced : Body → List Token
spell_braced b = open_brace ∷ spell_body b

proc_spells : (p : Heading × (Option Refines × Body)) → spell_proc (make_proc p) ≡ spell_heading proc_word p.0 ++ (spell_rank_of p.1.0 ++ spell_braced p.1.1)
proc_spells p = ap (λ w. proc_word ∷ name_token p.0.name ∷ w) (sym (append_assoc (enclosed spell_param p.0.params) (arrow ∷ enclosed spell_param p.0.outs) (spell_rank_of p.1.0 ++ spell_braced p.1.1)))

proc_to : (new : Bool) (h : Heading) (o : Option Refines) (b : Body) → FitsHeading h → FitsRankOf new o → FitsBody new b → FitsProc new (make_proc (h, (o, b)))
proc_to new h o b f g k =
    and_from (allows_name h.name) _ f.0
    (and_from (list_all allows_param h.params) _ (all_from allows_param h.params f.1.0)
    (and_from (list_all allows_out h.outs) _ (all_from allows_out h.outs f.1.1)
    (and_from (allows_rank_of new o) _ g
    (and_from (list_all allows_local b.locals) _ (all_from allows_local b.locals k.0) (all_from (allows_stmt new) b.stmts k.1)))))

abbrev proc_parts : Proc → Heading × (Option Refines × Body)
proc_parts p = (record { name = p.name; params = p.params; outs = p.outs }, (p.refines, record { locals = p.locals; stmts = p.body }))

proc_from : (new : Bool) (p : Proc) → FitsProc new p → FitsHeading (proc_parts p).0 × (FitsRankOf new p.refines × FitsBody new (proc_parts p).1.1)
proc_from new p h =
    let k1 = and_parts (allows_name p.name) _ h in
    let k2 = and_parts (list_all allows_param p.params) _ k1.1 in
    let k3 = and_parts (list_all allows_out p.outs) _ k2.1 in
    let k4 = and_parts (allows_rank_of new p.refines) _ k3.1 in
    let k5 = and_parts (list_all allows_local p.locals) _ k4.1 in
    ((k1.0, (all_to allows_param p.params k2.0, all_to allows_out p.outs k3.0)), (k4.0, (all_to allows_local p.locals k5.0, all_to (allows_stmt new) p.body k5.1)))

braced_body_is : (new : Bool) (d : ℕ) → IsReader d d Any spell_braced (FitsBody new) (opened open_brace d (body_at new (d - 1)))
braced_body_is new d = opened_is {s = spell_body} d open_brace refl refl (record { locals = []; stmts = [] }, (tt, tt))
    (λ c e. let k : c ≡ d - 1 = omega arith in subst (λ n. IsReader c d Any spell_body (FitsBody new) (body_at new n)) k (body_is new c d e))

pub proc_is : (new : Bool) (d : ℕ) → IsReader d d Any spell_proc (FitsProc new) (proc_at new d)
unfolding proc_at
proc_is new d = mapped_is make_proc spell_proc (FitsProc new) (λ p h. proc_spells p) (λ p h. proc_to new p.0 p.1.0 p.1.1 h.0 h.1.0 h.1.1) (λ p h. (proc_parts p, refl, proc_from new p h))
    (both_is {s1 = spell_heading proc_word} (heading_is proc_word d refl refl) (λ _. both_is (rank_of_is new d) (λ _. braced_body_is new d)))
