-- What a text spells is no more than the text: each token takes a byte, and each declaration, statement and move a token.
use Rattle.std.proofs.Common.{◌≡◌, ℕ, ◌+◌, ◌<◌, ◌≤◌, ◌^◌, List, [], ◌∷◌, ◌++◌, map, length, sym, ap, ◌∙◌, subst, arith}
use Rattle.std.specs.Prelude.{codes}
use Rattle.std.specs.List.{All}
use Rattle.std.proofs.lemmas.List.{length-append}
use Rattle.std.proofs.lemmas.List.Elements.{All-nil, All-cons}
use Rattle.civl_tree.specs.declared.stmt.Stmt.{Stmt, roll-Stmt, map-Stmt}
use Rattle.civl_tree.specs.declared.stmt.Stmt.TheOpen.{Stmt-F, Assign, Assert, If, While, YieldLoop, RankLoop, Call, Yield, Commit, Intro, Spawn}
use Rattle.civl_tree.specs.declared.stmt.Stmt.TheFolds.{fold-roll-Stmt, ind-Stmt}
use Rattle.civl_tree.specs.declared.program.Proc.{Proc}
use Rattle.civl_tree.specs.declared.program.Program.{Program}
use Rattle.civl_tree.specs.declared.script.Script.{Script}
use Rattle.civl_tree.specs.Token.{Token, Reserved, text_of}
use Rattle.civl_tree.specs.Numbering.{size_step, size_of, sizes_of, item_count}
use Rattle.civl_tree.specs.Spelling.{joined, enclosed, block, arrow, open_brace, close_brace, spell_expr}
use Rattle.civl_tree.specs.SpellingStmt.{stmt_step, spell_stmt}
use Rattle.civl_tree.specs.SpellingProgram.{spell_global, spell_init, spell_invariant, spell_param, spell_out, spell_rank_of, spell_local, spell_action, spell_proc, spell_thread, spell_program}
use Rattle.civl_tree.specs.SpellingScript.{spell_entry, spell_step, spell_script}
use Rattle.civl_tree.specs.SpellingDomain.{IsSpelledBy, ScriptIsSpelledBy}
use Rattle.civl_tree.proofs.Numbers.{sizes_more}
use Rattle.civl_lex.specs.Text.{Leads, HasTokens}
use Rattle.civl_lex.proofs.Spellings.{text_some}
use Rattle.civl_tree.specs.Numbered.{IsNumbered}

-- ---- tokens and bytes

tokens_lead : (tokens : List Token) (bytes rest : List ℕ) → Leads tokens bytes rest → length tokens ≤ length bytes
tokens_lead [] bytes rest h = omega arith
tokens_lead (token ∷ tokens) bytes rest h =
    let next = h.1 in
    let some = text_some token next.longest.begins.is_token in
    let later = tokens_lead tokens h.0 rest h.2 in
    let size = ap length next.parts ∙ length-append next.gap (text_of token ++ h.0) in
    let inner = length-append (text_of token) h.0 in
    omega (arith, some, later, size, inner)

-- a text has at most as many tokens as bytes
pub tokens_within : (bytes : List ℕ) (tokens : List Token) → HasTokens bytes tokens → length tokens ≤ length bytes
tokens_within bytes tokens h = tokens_lead tokens bytes h.0 h.1

-- ---- phrases

-- what stands behind something is no longer than both
behind : (xs ys : List Token) → length ys ≤ length (xs ++ ys)
behind xs ys = omega (arith, length-append xs ys)

-- at most as many parts as tokens, where each part takes one
pub parts_within : {X : Type 0} (spell : X → List Token) → ((x : X) → 0 < length (spell x)) → (xs : List X) → length xs ≤ length (joined (map spell xs))
parts_within spell some [] = omega arith
parts_within spell some (x ∷ xs) = omega (arith, some x, parts_within spell some xs, length-append (spell x) (joined (map spell xs)))

block_within : (phrases : List (List Token)) → length (joined phrases) + 2 ≡ length (block phrases)
block_within phrases = omega (arith, length-append (joined phrases) (close_brace ∷ []))

-- ---- statements

abbrev Within : Stmt → Type 0
Within s = size_of s ≤ length (spell_stmt s)

all_within : {S : Type 0} (ys : List S) (v : S → Stmt) → ((s : S) → Within (v s)) → sizes_of (map v ys) ≤ length (joined (map spell_stmt (map v ys)))
all_within [] v h = omega arith
all_within (y ∷ ys) v h =
    omega (arith, h y, all_within ys v h, sizes_more (v y) (map v ys), length-append (spell_stmt (v y)) (joined (map spell_stmt (map v ys))))

layer_within : {S : Type 0} (layer : Stmt-F S) (v : S → Stmt) → ((s : S) → Within (v s))
    → size_step (map-Stmt Stmt ℕ size_of (map-Stmt S Stmt v layer)) ≤ length (stmt_step (map-Stmt Stmt (List Token) spell_stmt (map-Stmt S Stmt v layer)))
layer_within (Assign x e) v h = omega arith
layer_within (Assert e) v h = omega arith
layer_within (If e a b) v h =
    let first = map spell_stmt (map v a) in
    let second = map spell_stmt (map v b) in
    omega (
      arith,
      all_within a v h,
      all_within b v h,
      block_within first,
      block_within second,
      length-append (block first) (Reserved (codes "else") ∷ block second),
      behind (spell_expr e) (block first ++ (Reserved (codes "else") ∷ block second)),
    )
layer_within (While e a) v h =
    let body = map spell_stmt (map v a) in
    omega (arith, all_within a v h, block_within body, behind (spell_expr e) (block body))
layer_within (YieldLoop e i a) v h =
    let body = map spell_stmt (map v a) in
    omega (arith, all_within a v h, block_within body, behind (spell_expr i) (block body), behind (spell_expr e) (Reserved (codes "inv") ∷ spell_expr i ++ block body))
layer_within (RankLoop e r i a) v h =
    let body = map spell_stmt (map v a) in
    omega (
      arith,
      all_within a v h,
      block_within body,
      behind (spell_expr i) (block body),
      behind (spell_expr r) (Reserved (codes "inv") ∷ spell_expr i ++ block body),
      behind (spell_expr e) (Reserved (codes "by") ∷ spell_expr r ++ (Reserved (codes "inv") ∷ spell_expr i ++ block body)),
    )
layer_within (Call f es xs) v h = omega arith
layer_within (Yield e) v h = omega arith
layer_within Commit v h = omega arith
layer_within (Intro x e) v h = omega arith
layer_within (Spawn f es) v h = omega arith

stmt_within : (s : Stmt) → Within s
stmt_within s =
    ind-Stmt Within (λ x y q.
    let here = subst (λ (layer : Stmt-F Stmt). size_step (map-Stmt Stmt ℕ size_of layer) ≤ length (stmt_step (map-Stmt Stmt (List Token) spell_stmt layer))) q (layer_within y (λ z. z.0) (λ z. z.1)) in
    subst (λ n. n ≤ length (spell_stmt (roll-Stmt x))) (sym (fold-roll-Stmt ℕ size_step x)) (
    subst (λ (ts : List Token). size_step (map-Stmt Stmt ℕ size_of x) ≤ length ts) (sym (fold-roll-Stmt (List Token) stmt_step x)) here)) s

body_within : (body : List Stmt) → sizes_of body ≤ length (joined (map spell_stmt body))
body_within [] = omega arith
body_within (s ∷ ss) = omega (arith, stmt_within s, body_within ss, sizes_more s ss, length-append (spell_stmt s) (joined (map spell_stmt ss)))

-- ---- declarations

proc_within : (proc : Proc) → sizes_of proc.body ≤ length (spell_proc proc)
proc_within proc =
    let body = joined (map spell_stmt proc.body) ++ close_brace ∷ [] in
    let locals = open_brace ∷ joined (map spell_local proc.locals) ++ body in
    let ranked = spell_rank_of proc.refines ++ locals in
    let outs = arrow ∷ enclosed spell_out proc.outs ++ ranked in
    omega (
      arith,
      body_within proc.body,
      length-append (joined (map spell_stmt proc.body)) (close_brace ∷ []),
      behind (joined (map spell_local proc.locals)) body,
      behind (spell_rank_of proc.refines) locals,
      behind (enclosed spell_out proc.outs) ranked,
      behind (enclosed spell_param proc.params) outs,
    )

bodies_within : (procs : List Proc) (bound : ℕ) → length (joined (map spell_proc procs)) < bound → All (λ proc. sizes_of proc.body < bound) procs
bodies_within [] bound h = All-nil (λ proc. sizes_of proc.body < bound)
bodies_within (proc ∷ procs) bound h =
    let all = length-append (spell_proc proc) (joined (map spell_proc procs)) in
    All-cons (λ proc. sizes_of proc.body < bound) proc procs (omega (arith, h, all, proc_within proc)) (bodies_within procs bound (omega (arith, h, all)))

-- the parts of a program, and then the sum of what they take
program_long : (program : Program) → length (spell_program program)
    ≡ 9 + (length (joined (map spell_global program.globals)) + (length (spell_init program.init) + (length (joined (map spell_invariant program.invariants))
    + (length (joined (map spell_action program.actions)) + (length (joined (map spell_proc program.procs)) + length (joined (map spell_thread program.threads)))))))
program_long program =
    let threads = joined (map spell_thread program.threads) in
    let procs = joined (map spell_proc program.procs) in
    let actions = joined (map spell_action program.actions) in
    let invariants = joined (map spell_invariant program.invariants) in
    omega (
      arith,
      length-append procs threads,
      length-append actions (procs ++ threads),
      length-append invariants (actions ++ (procs ++ threads)),
      length-append (spell_init program.init) (invariants ++ (actions ++ (procs ++ threads))),
      length-append (joined (map spell_global program.globals)) (spell_init program.init ++ (invariants ++ (actions ++ (procs ++ threads)))),
    )

-- at most as many items as tokens
pub items_within : (program : Program) → item_count program ≤ length (spell_program program)
items_within program =
    omega (
      arith,
      program_long program,
      parts_within spell_global (λ x. omega arith) program.globals,
      parts_within spell_invariant (λ x. omega arith) program.invariants,
      parts_within spell_action (λ x. omega arith) program.actions,
      parts_within spell_proc (λ x. omega arith) program.procs,
      parts_within spell_thread (λ x. omega arith) program.threads,
    )

-- as many items and moves as tokens
pub moves_within : (script : Script) → item_count script.program + length script.moves ≤ length (spell_script script)
moves_within script =
    let store = joined (map spell_entry script.store) in
    let moves = joined (map spell_step script.moves) in
    omega (
      arith,
      items_within script.program,
      parts_within spell_step (λ x. omega arith) script.moves,
      length-append store moves,
      length-append (spell_program script.program) (Reserved (codes "schedule") ∷ store ++ moves),
    )

program_within : (script : Script) → length (spell_program script.program) ≤ length (spell_script script)
program_within script =
    omega (arith, length-append (spell_program script.program) (Reserved (codes "schedule") ∷ joined (map spell_entry script.store) ++ joined (map spell_step script.moves)))

-- ---- texts

-- a program whose tokens are few has numbers of 32 bits
pub few_tokens : (program : Program) → length (spell_program program) < 2 ^ 32 → IsNumbered program
few_tokens program h = record {
  items = omega (arith, h, items_within program);
  statements = bodies_within program.procs (2 ^ 32) (omega (arith, h, program_long program));
}

-- so has a program that a text within the limit spells
pub text_numbers : (bytes : List ℕ) (tokens : List Token) (program : Program) → HasTokens bytes tokens → IsSpelledBy tokens program → length bytes ≤ 1048576 → IsNumbered program
text_numbers bytes tokens program h spelled few =
    few_tokens program (omega (arith, tokens_within bytes tokens h, ap length spelled.1, few))

-- and so has the program of a script
pub script_numbers : (bytes : List ℕ) (tokens : List Token) (script : Script) → HasTokens bytes tokens → ScriptIsSpelledBy tokens script → length bytes ≤ 1048576
    → IsNumbered script.program
script_numbers bytes tokens script h spelled few =
    few_tokens script.program (omega (arith, tokens_within bytes tokens h, ap length spelled.1, program_within script, few))

-- its items and its moves are no more than the text
pub script_counts : (bytes : List ℕ) (tokens : List Token) (script : Script) → HasTokens bytes tokens → ScriptIsSpelledBy tokens script
    → item_count script.program + length script.moves ≤ length bytes
script_counts bytes tokens script h spelled = omega (arith, tokens_within bytes tokens h, ap length spelled.1, moves_within script)
