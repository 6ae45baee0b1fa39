-- At the tokens that are told of items and statements their spellings begin.
use Rattle.std.proofs.Common.{◌≡◌, ℕ, ◌+◌, List, [], ◌∷◌, ◌++◌, map, length, append_assoc, length-append, sym, ap, ◌∙◌, subst, arith}
use Rattle.std.specs.Prelude.{codes}
use Rattle.std.specs.List.{AllZip}
use Rattle.civl_tree.specs.declared.stmt.Stmt.{Stmt, roll-Stmt, out-roll-Stmt, map-Stmt}
use Rattle.civl_tree.specs.declared.stmt.Stmt.TheOpen.{Stmt-F, Assign, Assert, If, While, YieldLoop, RankLoop, Call, Yield, Commit, Intro, Spawn}
use Rattle.civl_tree.specs.declared.stmt.Stmt.TheFolds.{fold-roll-Stmt, ind-Stmt}
use Rattle.civl_tree.specs.Token.{Token, Reserved}
use Rattle.civl_tree.specs.Spelling.{open_brace, close_brace, joined, block, spell_expr}
use Rattle.civl_tree.specs.SpellingStmt.{stmt_step, spell_stmt}
use Rattle.civl_tree.specs.Numbering.{inner_of, statements_of}
use Rattle.civl_tree.proofs.Preorder.{inner_layer, inner_is}
use Rattle.civl_places.specs.Starts.{inner_starts, starts_of}
use Rattle.civl_reasons.specs.Stands.{StandAt}
use Rattle.civl_places.proofs.Walking.{starts_layer, starts_is}

-- ---- parts of lists

cut_first : (pre E A C post : List Token) (x left right : Token)
    → pre ++ ((x ∷ E ++ ((left ∷ A ++ right ∷ []) ++ C)) ++ post) ≡ (pre ++ (x ∷ E ++ left ∷ [])) ++ (A ++ (right ∷ (C ++ post)))
cut_first pre E A C post x left right =
    let block = append_assoc (left ∷ A ++ right ∷ []) C post ∙ append_assoc (left ∷ A) (right ∷ []) (C ++ post) in
    ap (λ (l : List Token). pre ++ l) (append_assoc (x ∷ E) ((left ∷ A ++ right ∷ []) ++ C) post ∙ ap (λ (l : List Token). (x ∷ E) ++ l) block)
    ∙ sym (append_assoc pre (x ∷ E ++ left ∷ []) (A ++ (right ∷ (C ++ post))) ∙ ap (λ (l : List Token). pre ++ l) (append_assoc (x ∷ E) (left ∷ []) (A ++ (right ∷ (C ++ post)))))

cut_second : (pre E D B post : List Token) (x left right els : Token)
    → pre ++ ((x ∷ E ++ (D ++ (els ∷ (left ∷ B ++ right ∷ [])))) ++ post) ≡ (pre ++ (x ∷ E ++ (D ++ els ∷ left ∷ []))) ++ (B ++ (right ∷ post))
cut_second pre E D B post x left right els = simp append_assoc

cut_while : (pre E A post : List Token) (x left right : Token)
    → pre ++ ((x ∷ E ++ (left ∷ A ++ right ∷ [])) ++ post) ≡ (pre ++ (x ∷ E ++ left ∷ [])) ++ (A ++ (right ∷ post))
cut_while pre E A post x left right = simp append_assoc

cut_yield : (pre E I A post : List Token) (x y inv left right : Token)
    → pre ++ ((x ∷ y ∷ E ++ (inv ∷ I ++ (left ∷ A ++ right ∷ []))) ++ post) ≡ (pre ++ (x ∷ y ∷ E ++ (inv ∷ I ++ left ∷ []))) ++ (A ++ (right ∷ post))
cut_yield pre E I A post x y inv left right = simp append_assoc

cut_rank : (pre E R I A post : List Token) (x y by inv left right : Token)
    → pre ++ ((x ∷ y ∷ E ++ (by ∷ R ++ (inv ∷ I ++ (left ∷ A ++ right ∷ [])))) ++ post)
    ≡ (pre ++ (x ∷ y ∷ E ++ (by ∷ R ++ (inv ∷ I ++ left ∷ [])))) ++ (A ++ (right ∷ post))
cut_rank pre E R I A post x y by inv left right = simp append_assoc

zip_both : {A B : Type 0} (R : A → B → Type 0) (xs ys : List A) (ts us : List B) → AllZip R xs ts → AllZip R ys us → AllZip R (xs ++ ys) (ts ++ us)
zip_both R [] ys [] us h k = k
zip_both R [] ys (t ∷ ts) us h k = absurd h
zip_both R (x ∷ xs) ys [] us h k = absurd h
zip_both R (x ∷ xs) ys (t ∷ ts) us h k = (h.0, zip_both R xs ys ts us h.1 k)

-- ---- statements

abbrev Begins : List Token → Stmt → ℕ → Type 0
Begins all s start = StandAt (spell_stmt s) all start

-- wherever these tokens stand, what stands in them begins where it is said to
abbrev Place : List Token → List Stmt → (ℕ → List ℕ) → Type 0
Place tokens stmts starts =
    (all pre post : List Token) (at : ℕ) → all ≡ pre ++ (tokens ++ post) → length pre ≡ at → AllZip (Begins all) stmts (starts at)

abbrev Inner : Stmt → Type 0
Inner s = Place (spell_stmt s) (inner_of s) (inner_starts s)

all_begin : {S : Type 0} (ys : List S) (v : S → Stmt) → ((s : S) → Inner (v s))
    → Place (joined (map spell_stmt (map v ys))) (statements_of (map v ys)) (λ at. starts_of at (map v ys))
all_begin [] v h all pre post at e k = tt
all_begin (y ∷ ys) v h all pre post at e k =
    let own = spell_stmt (v y) in
    let rest = joined (map spell_stmt (map v ys)) in
    let whole : all ≡ pre ++ (own ++ (rest ++ post)) = e ∙ ap (λ (l : List Token). pre ++ l) (append_assoc own rest post) in
    let later : all ≡ (pre ++ own) ++ (rest ++ post) = whole ∙ sym (append_assoc pre own (rest ++ post)) in
    let first : StandAt own all at = record { before = pre; after = rest ++ post; parts = whole; place_is = k } in
    let sum : length (pre ++ own) ≡ at + length own = omega (arith, length-append pre own) in
    zip_both (Begins all) (v y ∷ inner_of (v y)) (statements_of (map v ys)) (at ∷ inner_starts (v y) at) (starts_of (at + length own) (map v ys))
    (first, h y all pre (rest ++ post) at whole k)
    (all_begin ys v h all (pre ++ own) post (at + length own) later sum)

abbrev if_token : Token
if_token = Reserved (codes "if")

abbrev else_token : Token
else_token = Reserved (codes "else")

layer_begins : {S : Type 0} (d : Stmt-F S) (v : S → Stmt) → ((s : S) → Inner (v s))
    → Place (stmt_step (map-Stmt Stmt (List Token) spell_stmt (map-Stmt S Stmt v d))) (inner_layer (map-Stmt S Stmt v d)) (starts_layer (map-Stmt S Stmt v d))
layer_begins (Assign x e) v h all pre post at o k = tt
layer_begins (Assert e) v h all pre post at o k = tt
layer_begins (If e a b) v h all pre post at o k =
    let first = cut_first pre (spell_expr e) (joined (map spell_stmt (map v a))) (else_token ∷ block (map spell_stmt (map v b))) post if_token open_brace close_brace in
    let second = cut_second pre (spell_expr e) (block (map spell_stmt (map v a))) (joined (map spell_stmt (map v b))) post if_token open_brace close_brace else_token in
    zip_both (Begins all) (statements_of (map v a)) (statements_of (map v b)) _ _
    (all_begin a v h all _ _ _ (o ∙ first) (simp length-append (omega arith)))
    (all_begin b v h all _ _ _ (o ∙ second) (simp length-append (omega arith)))
layer_begins (While e a) v h all pre post at o k = all_begin a v h all _ _ _ (o ∙ cut_while pre (spell_expr e) _ post _ _ _) (simp length-append (omega arith))
layer_begins (YieldLoop e i a) v h all pre post at o k =
    all_begin a v h all _ _ _ (o ∙ cut_yield pre (spell_expr e) (spell_expr i) _ post _ _ _ _ _) (simp length-append (omega arith))
layer_begins (RankLoop e r i a) v h all pre post at o k =
    all_begin a v h all _ _ _ (o ∙ cut_rank pre (spell_expr e) (spell_expr r) (spell_expr i) _ post _ _ _ _ _ _) (simp length-append (omega arith))
layer_begins (Call f es xs) v h all pre post at o k = tt
layer_begins (Yield e) v h all pre post at o k = tt
layer_begins Commit v h all pre post at o k = tt
layer_begins (Intro x e) v h all pre post at o k = tt
layer_begins (Spawn f es) v h all pre post at o k = tt

-- by what stands in the layer of a statement
abbrev InLayer : Stmt-F Stmt → Type 0
InLayer d = Place (stmt_step (map-Stmt Stmt (List Token) spell_stmt d)) (inner_layer d) (starts_layer d)

from_layer : (x : Stmt-F Stmt) → InLayer x → Inner (roll-Stmt x)
from_layer x h all pre post at o k =
    let spelled : spell_stmt (roll-Stmt x) ≡ stmt_step (map-Stmt Stmt (List Token) spell_stmt x) = fold-roll-Stmt (List Token) stmt_step x in
    let whole = o ∙ ap (λ (l : List Token). pre ++ (l ++ post)) spelled in
    let inner : inner_of (roll-Stmt x) ≡ inner_layer x = inner_is (roll-Stmt x) ∙ ap inner_layer (out-roll-Stmt x) in
    let starts : inner_starts (roll-Stmt x) at ≡ starts_layer x at = starts_is (roll-Stmt x) at ∙ ap (λ (d : Stmt-F Stmt). starts_layer d at) (out-roll-Stmt x) in
    subst (λ (l : List Stmt). AllZip (Begins all) l (inner_starts (roll-Stmt x) at)) (sym inner)
    (subst (λ (l : List ℕ). AllZip (Begins all) (inner_layer x) l) (sym starts) (h all pre post at whole k))

inner_begin : (s : Stmt) → Inner s
inner_begin s = ind-Stmt Inner (λ x y q. from_layer x (subst InLayer q (layer_begins y (λ z. z.0) (λ z. z.1)))) s

pub body_begins : (body : List Stmt) → Place (joined (map spell_stmt body)) (statements_of body) (λ at. starts_of at body)
body_begins [] all pre post at e k = tt
body_begins (y ∷ ys) all pre post at e k =
    let own = spell_stmt y in
    let rest = joined (map spell_stmt ys) in
    let whole : all ≡ pre ++ (own ++ (rest ++ post)) = e ∙ ap (λ (l : List Token). pre ++ l) (append_assoc own rest post) in
    let later : all ≡ (pre ++ own) ++ (rest ++ post) = whole ∙ sym (append_assoc pre own (rest ++ post)) in
    let first : StandAt own all at = record { before = pre; after = rest ++ post; parts = whole; place_is = k } in
    let sum : length (pre ++ own) ≡ at + length own = omega (arith, length-append pre own) in
    zip_both (Begins all) (y ∷ inner_of y) (statements_of ys) (at ∷ inner_starts y at) (starts_of (at + length own) ys)
    (first, inner_begin y all pre (rest ++ post) at whole k)
    (body_begins ys all (pre ++ own) post (at + length own) later sum)
