-- Sorts and expressions are read as they are spelled.
use Rattle.std.proofs.Common.{◌≡◌, ℕ, zero, suc, ◌-◌, ◌<◌, Bool, true, false, List, [], ◌∷◌, ◌++◌, Option, None, Some, refl, sym, ap, subst, ◌∙◌, append_assoc, arith, inl, inr, ◌⊎◌}
use Rattle.std.specs.Prelude.{codes, IsTrue, ◌&&◌}
use Rattle.std.specs.List.{AllByRecursion}
use Rattle.std.proofs.lemmas.Bool.{and_from}
use Rattle.civl_tree.specs.Token.{Token, Named, Reserved, Sign, Number}
use Rattle.civl_tree.specs.Spelling.{open_paren, close_paren, comma, colon, name_token, spell_sort, one_token, op_token, expr_step, spell_expr, enclosed}
use Rattle.civl_tree.specs.SpellingDomain.{allows_name, allows_op, allows_expr_step, allows_expr}
use Rattle.civl_tree.specs.declared.name.Name.{Name}
use Rattle.civl_tree.specs.declared.expr.Sort.{Sort}
use Rattle.civl_tree.specs.declared.expr.Sort.TheVariants as sort
use Rattle.civl_tree.specs.declared.expr.One.{One}
use Rattle.civl_tree.specs.declared.expr.One.TheVariants as ones
use Rattle.civl_tree.specs.declared.expr.Two.{Two}
use Rattle.civl_tree.specs.declared.expr.Two.TheVariants as twos
use Rattle.civl_tree.specs.declared.expr.Expr.{Expr, roll-Expr, out-Expr, roll-out-Expr}
use Rattle.civl_tree.specs.declared.expr.Expr.TheVariants as expr
use Rattle.civl_tree.specs.declared.expr.Expr.TheVariants.{rolls-Name, rolls-Literal, rolls-True, rolls-False, rolls-Done, rolls-Old, rolls-OldDone, rolls-One, rolls-Two, rolls-Pick, rolls-Get, rolls-Set, rolls-Fill, rolls-Slice, rolls-Widen, rolls-Join}
use Rattle.civl_tree.specs.declared.expr.Expr.TheOpen as layer
use Rattle.civl_tree.specs.declared.expr.Expr.TheFolds.{fold-roll-Expr}
use Rattle.civl_phrases.specs.Bracket.{Plain, side}
use Rattle.civl_phrases.specs.Reader.{Reader, begins}
use Rattle.civl_phrases.specs.Table.{is_form, lookup}
use Rattle.civl_phrases.specs.Phrase.{Any, IsReader, Heads, Image, PerhapsFits}
use Rattle.civl_phrases.proofs.Joins.{both_is, image_is, refit_is, chosen_is, by_form_is}
use Rattle.civl_phrases.proofs.Tokens.{leaf_is, after_is, opened_is, then_is, done_is}
use Rattle.civl_phrases.proofs.Lists.{bracketed_is}
use Rattle.civl_phrases.proofs.Heads.{heads_after, heads_leaf, heads_both, heads_image, excludes}
use Rattle.civl_phrases.proofs.Tables.{table_leaf, and_parts}
use Rattle.civl_phrases.proofs.Leaves.{number_is}
use Rattle.civl_expressions.specs.declared.forms.SortForm.{SortForm}
use Rattle.civl_expressions.specs.declared.forms.SortForm.TheVariants as sort_forms
use Rattle.civl_expressions.specs.declared.forms.ExprForm.{ExprForm}
use Rattle.civl_expressions.specs.declared.forms.ExprForm.TheVariants as forms
use Rattle.civl_expressions.specs.readers.Names.{FitsName}
use Rattle.civl_expressions.specs.readers.Exprs.{sort_form, bool_at, word_at, row_at, sort_as, sort_at, one_table, one_at, two_table, two_at, expr_form, expr_next, Tail, TwoTail, PickTail, Inside, OneInside, TailInside, of_inside, pick_at, binary_at, tail_at, inside_at, paren_at, literal_at, constant_at, of_old, olden_at, old_at, pair_at, exprs_at, get_at, join_at, set_at, fill_at, slice_at, widen_at, expr_as, expr_by, inner_expr, expr_at, FitsExpr, args_at}
use Rattle.civl_expressions.proofs.OfNames.{name_is}

-- ---- sorts

abbrev SortFits : SortForm → Sort → Type 0
SortFits sort_forms.Bool = Image (λ (u : Unit {0}). sort.Bool) (λ _. Unit {0})
SortFits sort_forms.Word = Image (λ (width : ℕ). sort.Word width) (λ _. Unit {0})
SortFits sort_forms.Row = Image (λ (p : ℕ × ℕ). sort.Row p.0 p.1) (λ _. Unit {0} × Unit {0})

sort_from : (s : Sort) → (k : SortForm) × SortFits k s
sort_from sort.Bool = (sort_forms.Bool, (tt, refl, tt))
sort_from (sort.Word width) = (sort_forms.Word, (width, refl, tt))
sort_from (sort.Row index width) = (sort_forms.Row, ((index, width), refl, (tt, tt)))

sort_heads : (k : SortForm) → Heads Any spell_sort (SortFits k) sort_form (Some k)
sort_heads sort_forms.Bool = heads_image (λ (u : Unit {0}). sort.Bool) spell_sort sort_form (Some sort_forms.Bool) (λ u. refl) (heads_after (Reserved (codes "bool")) sort_form (Some sort_forms.Bool) refl)
sort_heads sort_forms.Word = heads_image (λ (width : ℕ). sort.Word width) spell_sort sort_form (Some sort_forms.Word) (λ u. refl) (heads_after (Reserved (codes "word")) sort_form (Some sort_forms.Word) refl)
sort_heads sort_forms.Row = heads_image (λ (p : ℕ × ℕ). sort.Row p.0 p.1) spell_sort sort_form (Some sort_forms.Row) (λ u. refl) (heads_after (Reserved (codes "row")) sort_form (Some sort_forms.Row) refl)

sort_branch : (d : ℕ) (k : SortForm) → IsReader d d Any spell_sort (SortFits k) (sort_as d k)
unfolding bool_at word_at row_at
sort_branch d sort_forms.Bool = image_is (λ (u : Unit {0}). sort.Bool) spell_sort (λ u. refl) (after_is d (Reserved (codes "bool")) refl refl (done_is d))
sort_branch d sort_forms.Word = image_is (λ (width : ℕ). sort.Word width) spell_sort (λ u. refl)
    (after_is d (Reserved (codes "word")) refl refl (opened_is d open_paren refl refl (0, tt) (λ c e. then_is d close_paren refl (ap Some (sym e)) (number_is c))))
sort_branch d sort_forms.Row = image_is (λ (p : ℕ × ℕ). sort.Row p.0 p.1) spell_sort (λ u. refl)
    (after_is d (Reserved (codes "row")) refl refl (opened_is d open_paren refl refl ((0, 0), (tt, tt)) (λ c e. both_is (number_is c) (λ _. after_is c comma refl refl (then_is d close_paren refl (ap Some (sym e)) (number_is c))))))

pub sort_is : (d : ℕ) → IsReader d d Any spell_sort (λ _. Unit {0}) (sort_at d)
unfolding sort_at
sort_is d = refit_is (λ _. Unit {0}) (λ s h. tt) (λ s h. sort_from s) (by_form_is sort_form (Some (Reserved (codes "bool"))) sort_forms.Bool refl sort_heads (λ k o h. sort_branch d k))

-- ---- operators

one_found : (op : One) → lookup one_table (one_token op) ≡ Some op
one_found ones.Not = refl
one_found ones.Flip = refl
one_found ones.Minus = refl

one_plain : (op : One) → side (one_token op) ≡ Plain
one_plain ones.Not = refl
one_plain ones.Flip = refl
one_plain ones.Minus = refl

two_found : (op : Two) → lookup two_table (op_token op) ≡ Some op
two_found twos.Add = refl
two_found twos.Sub = refl
two_found twos.Mul = refl
two_found twos.BitAnd = refl
two_found twos.BitOr = refl
two_found twos.BitXor = refl
two_found twos.Shl = refl
two_found twos.Shr = refl
two_found twos.Lt = refl
two_found twos.Le = refl
two_found twos.Eq = refl
two_found twos.Ne = refl
two_found twos.And = refl
two_found twos.Or = refl
two_found twos.Implies = refl
two_found twos.Udiv = refl
two_found twos.Urem = refl
two_found twos.Slt = refl
two_found twos.Sle = refl
two_found twos.Sar = refl

two_plain : (op : Two) → side (op_token op) ≡ Plain
two_plain twos.Add = refl
two_plain twos.Sub = refl
two_plain twos.Mul = refl
two_plain twos.BitAnd = refl
two_plain twos.BitOr = refl
two_plain twos.BitXor = refl
two_plain twos.Shl = refl
two_plain twos.Shr = refl
two_plain twos.Lt = refl
two_plain twos.Le = refl
two_plain twos.Eq = refl
two_plain twos.Ne = refl
two_plain twos.And = refl
two_plain twos.Or = refl
two_plain twos.Implies = refl
two_plain twos.Udiv = refl
two_plain twos.Urem = refl
two_plain twos.Slt = refl
two_plain twos.Sle = refl
two_plain twos.Sar = refl

one_is : (d : ℕ) → IsReader d d Any (λ op. one_token op ∷ []) (λ _. IsTrue true) one_at
unfolding one_at
one_is d = leaf_is d (λ _. IsTrue true) _ one_token (ones.Not, refl) (table_leaf one_token (λ _. true) one_table (refl, (refl, (refl, tt))) one_found one_plain)

two_is : (new : Bool) (d : ℕ) → IsReader d d Any (λ op. op_token op ∷ []) (λ op. IsTrue (allows_op new op)) (two_at new)
unfolding two_at
two_is new d = leaf_is d (λ op. IsTrue (allows_op new op)) _ op_token (twos.Add, refl)
    (table_leaf op_token (allows_op new) two_table (refl, (refl, (refl, (refl, (refl, (refl, (refl, (refl, (refl, (refl, (refl, (refl, (refl, (refl, (refl, (refl, (refl, (refl, (refl, (refl, tt)))))))))))))))))))) two_found two_plain)

not_expr : (op : One) → expr_next (Some (one_token op)) ≡ false
not_expr ones.Not = refl
not_expr ones.Flip = refl
not_expr ones.Minus = refl

not_question : (op : Two) → begins (Sign (codes "?")) (Some (op_token op)) ≡ false
not_question twos.Add = refl
not_question twos.Sub = refl
not_question twos.Mul = refl
not_question twos.BitAnd = refl
not_question twos.BitOr = refl
not_question twos.BitXor = refl
not_question twos.Shl = refl
not_question twos.Shr = refl
not_question twos.Lt = refl
not_question twos.Le = refl
not_question twos.Eq = refl
not_question twos.Ne = refl
not_question twos.And = refl
not_question twos.Or = refl
not_question twos.Implies = refl
not_question twos.Udiv = refl
not_question twos.Urem = refl
not_question twos.Slt = refl
not_question twos.Sle = refl
not_question twos.Sar = refl

-- ---- how each form is spelled, and when the grammar can write it

spell_name : (n : Name) → spell_expr (expr.Name n) ≡ name_token n ∷ []
spell_name n = ap spell_expr (sym (rolls-Name n)) ∙ fold-roll-Expr (List Token) expr_step (layer.Name n)

spell_literal : (v : ℕ) (w : ℕ) → spell_expr (expr.Literal v w) ≡ Number v ∷ colon ∷ Number w ∷ []
spell_literal v w = ap spell_expr (sym (rolls-Literal v w)) ∙ fold-roll-Expr (List Token) expr_step (layer.Literal v w)

spell_true : spell_expr expr.True ≡ Reserved (codes "true") ∷ []
spell_true = ap spell_expr (sym rolls-True) ∙ fold-roll-Expr (List Token) expr_step layer.True

spell_false : spell_expr expr.False ≡ Reserved (codes "false") ∷ []
spell_false = ap spell_expr (sym rolls-False) ∙ fold-roll-Expr (List Token) expr_step layer.False

spell_done : spell_expr expr.Done ≡ Reserved (codes "done") ∷ []
spell_done = ap spell_expr (sym rolls-Done) ∙ fold-roll-Expr (List Token) expr_step layer.Done

spell_old : (n : Name) → spell_expr (expr.Old n) ≡ Reserved (codes "old") ∷ open_paren ∷ name_token n ∷ close_paren ∷ []
spell_old n = ap spell_expr (sym (rolls-Old n)) ∙ fold-roll-Expr (List Token) expr_step (layer.Old n)

spell_olddone : spell_expr expr.OldDone ≡ Reserved (codes "old") ∷ open_paren ∷ Reserved (codes "done") ∷ close_paren ∷ []
spell_olddone = ap spell_expr (sym rolls-OldDone) ∙ fold-roll-Expr (List Token) expr_step layer.OldDone

spell_one : (op : One) (a : Expr) → spell_expr (expr.One op a) ≡ open_paren ∷ one_token op ∷ spell_expr a ++ close_paren ∷ []
spell_one op a = ap spell_expr (sym (rolls-One op a)) ∙ fold-roll-Expr (List Token) expr_step (layer.One op a)

spell_two : (op : Two) (a : Expr) (b : Expr) → spell_expr (expr.Two op a b) ≡ open_paren ∷ spell_expr a ++ (op_token op ∷ spell_expr b ++ close_paren ∷ [])
spell_two op a b = ap spell_expr (sym (rolls-Two op a b)) ∙ fold-roll-Expr (List Token) expr_step (layer.Two op a b)

spell_pick : (t : Expr) (a : Expr) (b : Expr) → spell_expr (expr.Pick t a b) ≡ open_paren ∷ spell_expr t ++ (Sign (codes "?") ∷ spell_expr a ++ (colon ∷ spell_expr b ++ close_paren ∷ []))
spell_pick t a b = ap spell_expr (sym (rolls-Pick t a b)) ∙ fold-roll-Expr (List Token) expr_step (layer.Pick t a b)

spell_get : (a : Expr) (b : Expr) → spell_expr (expr.Get a b) ≡ Reserved (codes "get") ∷ open_paren ∷ spell_expr a ++ (comma ∷ spell_expr b ++ close_paren ∷ [])
spell_get a b = ap spell_expr (sym (rolls-Get a b)) ∙ fold-roll-Expr (List Token) expr_step (layer.Get a b)

spell_set : (a : Expr) (b : Expr) (c : Expr) → spell_expr (expr.Set a b c) ≡ Reserved (codes "set") ∷ open_paren ∷ spell_expr a ++ (comma ∷ spell_expr b ++ (comma ∷ spell_expr c ++ close_paren ∷ []))
spell_set a b c = ap spell_expr (sym (rolls-Set a b c)) ∙ fold-roll-Expr (List Token) expr_step (layer.Set a b c)

spell_fill : (n : ℕ) (a : Expr) → spell_expr (expr.Fill n a) ≡ Reserved (codes "fill") ∷ open_paren ∷ Number n ∷ comma ∷ spell_expr a ++ close_paren ∷ []
spell_fill n a = ap spell_expr (sym (rolls-Fill n a)) ∙ fold-roll-Expr (List Token) expr_step (layer.Fill n a)

spell_slice : (a : Expr) (n : ℕ) (m : ℕ) → spell_expr (expr.Slice a n m) ≡ Reserved (codes "slice") ∷ open_paren ∷ spell_expr a ++ comma ∷ Number n ∷ comma ∷ Number m ∷ close_paren ∷ []
spell_slice a n m = ap spell_expr (sym (rolls-Slice a n m)) ∙ fold-roll-Expr (List Token) expr_step (layer.Slice a n m)

spell_widen : (a : Expr) (n : ℕ) → spell_expr (expr.Widen a n) ≡ Reserved (codes "widen") ∷ open_paren ∷ spell_expr a ++ comma ∷ Number n ∷ close_paren ∷ []
spell_widen a n = ap spell_expr (sym (rolls-Widen a n)) ∙ fold-roll-Expr (List Token) expr_step (layer.Widen a n)

spell_join : (a : Expr) (b : Expr) → spell_expr (expr.Join a b) ≡ Reserved (codes "join") ∷ open_paren ∷ spell_expr a ++ (comma ∷ spell_expr b ++ close_paren ∷ [])
spell_join a b = ap spell_expr (sym (rolls-Join a b)) ∙ fold-roll-Expr (List Token) expr_step (layer.Join a b)

allows_name_expr : (new : Bool) (n : Name) → allows_expr new (expr.Name n) ≡ allows_name n
allows_name_expr new n = ap (allows_expr new) (sym (rolls-Name n)) ∙ fold-roll-Expr Bool (allows_expr_step new) (layer.Name n)

allows_literal : (new : Bool) (v : ℕ) (w : ℕ) → allows_expr new (expr.Literal v w) ≡ true
allows_literal new v w = ap (allows_expr new) (sym (rolls-Literal v w)) ∙ fold-roll-Expr Bool (allows_expr_step new) (layer.Literal v w)

allows_true : (new : Bool) → allows_expr new expr.True ≡ true
allows_true new = ap (allows_expr new) (sym rolls-True) ∙ fold-roll-Expr Bool (allows_expr_step new) layer.True

allows_false : (new : Bool) → allows_expr new expr.False ≡ true
allows_false new = ap (allows_expr new) (sym rolls-False) ∙ fold-roll-Expr Bool (allows_expr_step new) layer.False

allows_done : (new : Bool) → allows_expr new expr.Done ≡ true
allows_done new = ap (allows_expr new) (sym rolls-Done) ∙ fold-roll-Expr Bool (allows_expr_step new) layer.Done

allows_old : (new : Bool) (n : Name) → allows_expr new (expr.Old n) ≡ allows_name n
allows_old new n = ap (allows_expr new) (sym (rolls-Old n)) ∙ fold-roll-Expr Bool (allows_expr_step new) (layer.Old n)

allows_olddone : (new : Bool) → allows_expr new expr.OldDone ≡ true
allows_olddone new = ap (allows_expr new) (sym rolls-OldDone) ∙ fold-roll-Expr Bool (allows_expr_step new) layer.OldDone

allows_one : (new : Bool) (op : One) (a : Expr) → allows_expr new (expr.One op a) ≡ allows_expr new a
allows_one new op a = ap (allows_expr new) (sym (rolls-One op a)) ∙ fold-roll-Expr Bool (allows_expr_step new) (layer.One op a)

allows_two : (new : Bool) (op : Two) (a : Expr) (b : Expr) → allows_expr new (expr.Two op a b) ≡ (allows_expr new a && (allows_op new op && allows_expr new b))
allows_two new op a b = ap (allows_expr new) (sym (rolls-Two op a b)) ∙ fold-roll-Expr Bool (allows_expr_step new) (layer.Two op a b)

allows_pick : (new : Bool) (t : Expr) (a : Expr) (b : Expr) → allows_expr new (expr.Pick t a b) ≡ (allows_expr new t && (allows_expr new a && allows_expr new b))
allows_pick new t a b = ap (allows_expr new) (sym (rolls-Pick t a b)) ∙ fold-roll-Expr Bool (allows_expr_step new) (layer.Pick t a b)

allows_get : (new : Bool) (a : Expr) (b : Expr) → allows_expr new (expr.Get a b) ≡ (allows_expr new a && allows_expr new b)
allows_get new a b = ap (allows_expr new) (sym (rolls-Get a b)) ∙ fold-roll-Expr Bool (allows_expr_step new) (layer.Get a b)

allows_set : (new : Bool) (a : Expr) (b : Expr) (c : Expr) → allows_expr new (expr.Set a b c) ≡ (allows_expr new a && (allows_expr new b && allows_expr new c))
allows_set new a b c = ap (allows_expr new) (sym (rolls-Set a b c)) ∙ fold-roll-Expr Bool (allows_expr_step new) (layer.Set a b c)

allows_fill : (new : Bool) (n : ℕ) (a : Expr) → allows_expr new (expr.Fill n a) ≡ allows_expr new a
allows_fill new n a = ap (allows_expr new) (sym (rolls-Fill n a)) ∙ fold-roll-Expr Bool (allows_expr_step new) (layer.Fill n a)

allows_slice : (new : Bool) (a : Expr) (n : ℕ) (m : ℕ) → allows_expr new (expr.Slice a n m) ≡ allows_expr new a
allows_slice new a n m = ap (allows_expr new) (sym (rolls-Slice a n m)) ∙ fold-roll-Expr Bool (allows_expr_step new) (layer.Slice a n m)

allows_widen : (new : Bool) (a : Expr) (n : ℕ) → allows_expr new (expr.Widen a n) ≡ allows_expr new a
allows_widen new a n = ap (allows_expr new) (sym (rolls-Widen a n)) ∙ fold-roll-Expr Bool (allows_expr_step new) (layer.Widen a n)

allows_join : (new : Bool) (a : Expr) (b : Expr) → allows_expr new (expr.Join a b) ≡ (allows_expr new a && allows_expr new b)
allows_join new a b = ap (allows_expr new) (sym (rolls-Join a b)) ∙ fold-roll-Expr Bool (allows_expr_step new) (layer.Join a b)

abbrev exprs_spell : Expr × Expr → List Token
exprs_spell p = spell_expr p.0 ++ comma ∷ spell_expr p.1

spell_set_parts : (p : (Expr × Expr) × Expr) → spell_expr (expr.Set p.0.0 p.0.1 p.1) ≡ Reserved (codes "set") ∷ open_paren ∷ (exprs_spell p.0 ++ (comma ∷ (spell_expr p.1 ++ close_paren ∷ [])))
spell_set_parts p = spell_set p.0.0 p.0.1 p.1 ∙ ap (λ w. Reserved (codes "set") ∷ open_paren ∷ w) (sym (append_assoc (spell_expr p.0.0) (comma ∷ spell_expr p.0.1) (comma ∷ (spell_expr p.1 ++ close_paren ∷ []))))

-- ---- what stands in parentheses

abbrev tail_spell : Tail → List Token
tail_spell (TwoTail op b) = op_token op ∷ spell_expr b ++ close_paren ∷ []
tail_spell (PickTail a b) = Sign (codes "?") ∷ spell_expr a ++ (colon ∷ spell_expr b ++ close_paren ∷ [])

abbrev TailFits : Bool → Tail → Type 0
TailFits new (TwoTail op b) = IsTrue (allows_op new op) × FitsExpr new b
TailFits new (PickTail a b) = FitsExpr new a × FitsExpr new b

abbrev inside_spell : Inside → List Token
inside_spell (OneInside op a) = one_token op ∷ spell_expr a ++ close_paren ∷ []
inside_spell (TailInside a tail) = spell_expr a ++ tail_spell tail

abbrev InsideFits : Bool → Inside → Type 0
InsideFits new (OneInside op a) = IsTrue true × FitsExpr new a
InsideFits new (TailInside a tail) = FitsExpr new a × TailFits new tail

abbrev olden_spell : Option Name → List Token
olden_spell None = Reserved (codes "done") ∷ []
olden_spell (Some n) = name_token n ∷ []

spell_inside : (i : Inside) → spell_expr (of_inside i) ≡ open_paren ∷ inside_spell i
spell_inside (OneInside op a) = spell_one op a
spell_inside (TailInside a (TwoTail op b)) = spell_two op a b
spell_inside (TailInside a (PickTail b c)) = spell_pick a b c

inside_to : (new : Bool) (i : Inside) → InsideFits new i → FitsExpr new (of_inside i)
inside_to new (OneInside op a) h = allows_one new op a ∙ h.1
inside_to new (TailInside a (TwoTail op b)) h = allows_two new op a b ∙ and_from (allows_expr new a) _ h.0 (and_from (allows_op new op) (allows_expr new b) h.1.0 h.1.1)
inside_to new (TailInside a (PickTail b c)) h = allows_pick new a b c ∙ and_from (allows_expr new a) _ h.0 (and_from (allows_expr new b) (allows_expr new c) h.1.0 h.1.1)

spell_of_old : (o : Option Name) → spell_expr (of_old o) ≡ Reserved (codes "old") ∷ open_paren ∷ (olden_spell o ++ close_paren ∷ [])
spell_of_old None = spell_olddone
spell_of_old (Some n) = spell_old n

old_to : (new : Bool) (o : Option Name) → PerhapsFits FitsName o → FitsExpr new (of_old o)
old_to new None h = allows_olddone new
old_to new (Some n) h = allows_old new n ∙ h

-- ---- the forms

abbrev ExprFits : Bool → ExprForm → Expr → Type 0
ExprFits new forms.Name = Image (λ (n : Name). expr.Name n) FitsName
ExprFits new forms.Literal = Image (λ (p : ℕ × ℕ). expr.Literal p.0 p.1) (λ _. Unit {0} × Unit {0})
ExprFits new forms.True = Image (λ (u : Unit {0}). expr.True) (λ _. Unit {0})
ExprFits new forms.False = Image (λ (u : Unit {0}). expr.False) (λ _. Unit {0})
ExprFits new forms.Done = Image (λ (u : Unit {0}). expr.Done) (λ _. Unit {0})
ExprFits new forms.Old = Image of_old (PerhapsFits FitsName)
ExprFits new forms.Paren = Image of_inside (InsideFits new)
ExprFits new forms.Get = Image (λ (p : Expr × Expr). expr.Get p.0 p.1) (λ p. FitsExpr new p.0 × FitsExpr new p.1)
ExprFits new forms.Set = Image (λ (p : (Expr × Expr) × Expr). expr.Set p.0.0 p.0.1 p.1) (λ p. (FitsExpr new p.0.0 × FitsExpr new p.0.1) × FitsExpr new p.1)
ExprFits new forms.Fill = Image (λ (p : ℕ × Expr). expr.Fill p.0 p.1) (λ p. Unit {0} × FitsExpr new p.1)
ExprFits new forms.Slice = Image (λ (p : Expr × (ℕ × ℕ)). expr.Slice p.0 p.1.0 p.1.1) (λ p. FitsExpr new p.0 × (Unit {0} × Unit {0}))
ExprFits new forms.Widen = Image (λ (p : Expr × ℕ). expr.Widen p.0 p.1) (λ p. FitsExpr new p.0 × Unit {0})
ExprFits new forms.Join = Image (λ (p : Expr × Expr). expr.Join p.0 p.1) (λ p. FitsExpr new p.0 × FitsExpr new p.1)

expr_to : (new : Bool) (e : Expr) → (k : ExprForm) × ExprFits new k e → FitsExpr new e
expr_to new e (forms.Name, h) = subst (FitsExpr new) h.1 (allows_name_expr new h.0 ∙ h.2)
expr_to new e (forms.Literal, h) = subst (FitsExpr new) h.1 (allows_literal new h.0.0 h.0.1)
expr_to new e (forms.True, h) = subst (FitsExpr new) h.1 (allows_true new)
expr_to new e (forms.False, h) = subst (FitsExpr new) h.1 (allows_false new)
expr_to new e (forms.Done, h) = subst (FitsExpr new) h.1 (allows_done new)
expr_to new e (forms.Old, h) = subst (FitsExpr new) h.1 (old_to new h.0 h.2)
expr_to new e (forms.Paren, h) = subst (FitsExpr new) h.1 (inside_to new h.0 h.2)
expr_to new e (forms.Get, h) = subst (FitsExpr new) h.1 (allows_get new h.0.0 h.0.1 ∙ and_from (allows_expr new h.0.0) (allows_expr new h.0.1) h.2.0 h.2.1)
expr_to new e (forms.Set, h) = subst (FitsExpr new) h.1 (allows_set new h.0.0.0 h.0.0.1 h.0.1 ∙ and_from (allows_expr new h.0.0.0) _ h.2.0.0 (and_from (allows_expr new h.0.0.1) (allows_expr new h.0.1) h.2.0.1 h.2.1))
expr_to new e (forms.Fill, h) = subst (FitsExpr new) h.1 (allows_fill new h.0.0 h.0.1 ∙ h.2.1)
expr_to new e (forms.Slice, h) = subst (FitsExpr new) h.1 (allows_slice new h.0.0 h.0.1.0 h.0.1.1 ∙ h.2.0)
expr_to new e (forms.Widen, h) = subst (FitsExpr new) h.1 (allows_widen new h.0.0 h.0.1 ∙ h.2.0)
expr_to new e (forms.Join, h) = subst (FitsExpr new) h.1 (allows_join new h.0.0 h.0.1 ∙ and_from (allows_expr new h.0.0) (allows_expr new h.0.1) h.2.0 h.2.1)

abbrev of_layer : Bool → layer.Expr-F Expr → Bool
of_layer new l = allows_expr new (roll-Expr l)

expr_out : (new : Bool) (l : layer.Expr-F Expr) → FitsExpr new (roll-Expr l) → (k : ExprForm) × ExprFits new k (roll-Expr l)
expr_out new (layer.Name n) h = (forms.Name, (n, sym (rolls-Name n), sym (fold-roll-Expr Bool (allows_expr_step new) (layer.Name n)) ∙ h))
expr_out new (layer.Literal a b) h = (forms.Literal, ((a, b), sym (rolls-Literal a b), (tt, tt)))
expr_out new layer.True h = (forms.True, (tt, sym rolls-True, tt))
expr_out new layer.False h = (forms.False, (tt, sym rolls-False, tt))
expr_out new layer.Done h = (forms.Done, (tt, sym rolls-Done, tt))
expr_out new (layer.Old n) h = (forms.Old, (Some n, sym (rolls-Old n), sym (fold-roll-Expr Bool (allows_expr_step new) (layer.Old n)) ∙ h))
expr_out new layer.OldDone h = (forms.Old, (None, sym rolls-OldDone, tt))
expr_out new (layer.One op a) h = (forms.Paren, (OneInside op a, sym (rolls-One op a), (refl, sym (fold-roll-Expr Bool (allows_expr_step new) (layer.One op a)) ∙ h)))
expr_out new (layer.Two op a b) h =
    let k = and_parts (allows_expr new a) _ (sym (fold-roll-Expr Bool (allows_expr_step new) (layer.Two op a b)) ∙ h) in
    (forms.Paren, (TailInside a (TwoTail op b), sym (rolls-Two op a b), (k.0, and_parts (allows_op new op) (allows_expr new b) k.1)))
expr_out new (layer.Pick a b c) h =
    let k = and_parts (allows_expr new a) _ (sym (fold-roll-Expr Bool (allows_expr_step new) (layer.Pick a b c)) ∙ h) in
    (forms.Paren, (TailInside a (PickTail b c), sym (rolls-Pick a b c), (k.0, and_parts (allows_expr new b) (allows_expr new c) k.1)))
expr_out new (layer.Get a b) h = (forms.Get, ((a, b), sym (rolls-Get a b), and_parts (allows_expr new a) (allows_expr new b) (sym (fold-roll-Expr Bool (allows_expr_step new) (layer.Get a b)) ∙ h)))
expr_out new (layer.Set a b c) h =
    let k = and_parts (allows_expr new a) _ (sym (fold-roll-Expr Bool (allows_expr_step new) (layer.Set a b c)) ∙ h) in
    let m = and_parts (allows_expr new b) (allows_expr new c) k.1 in
    (forms.Set, (((a, b), c), sym (rolls-Set a b c), ((k.0, m.0), m.1)))
expr_out new (layer.Fill n a) h = (forms.Fill, ((n, a), sym (rolls-Fill n a), (tt, sym (fold-roll-Expr Bool (allows_expr_step new) (layer.Fill n a)) ∙ h)))
expr_out new (layer.Slice a n m) h = (forms.Slice, ((a, (n, m)), sym (rolls-Slice a n m), (sym (fold-roll-Expr Bool (allows_expr_step new) (layer.Slice a n m)) ∙ h, (tt, tt))))
expr_out new (layer.Widen a n) h = (forms.Widen, ((a, n), sym (rolls-Widen a n), (sym (fold-roll-Expr Bool (allows_expr_step new) (layer.Widen a n)) ∙ h, tt)))
expr_out new (layer.Join a b) h = (forms.Join, ((a, b), sym (rolls-Join a b), and_parts (allows_expr new a) (allows_expr new b) (sym (fold-roll-Expr Bool (allows_expr_step new) (layer.Join a b)) ∙ h)))

expr_from : (new : Bool) (e : Expr) → FitsExpr new e → (k : ExprForm) × ExprFits new k e
expr_from new e h = subst (λ e. FitsExpr new e → (k : ExprForm) × ExprFits new k e) (roll-out-Expr e) (expr_out new (out-Expr e)) h

expr_heads : (new : Bool) (k : ExprForm) → Heads Any spell_expr (ExprFits new k) expr_form (Some k)
expr_heads new forms.Name = heads_image (λ (n : Name). expr.Name n) spell_expr expr_form (Some forms.Name) spell_name (heads_leaf name_token expr_form (Some forms.Name) (λ n. refl))
expr_heads new forms.Literal = heads_image (λ (p : ℕ × ℕ). expr.Literal p.0 p.1) spell_expr expr_form (Some forms.Literal) (λ p. spell_literal p.0 p.1) (heads_both Any (λ _ w. colon ∷ Number w ∷ []) (λ _ _. Unit {0}) expr_form (Some forms.Literal) (heads_leaf Number expr_form (Some forms.Literal) (λ n. refl)))
expr_heads new forms.True = heads_image (λ (u : Unit {0}). expr.True) spell_expr expr_form (Some forms.True) (λ u. spell_true) (heads_after (Reserved (codes "true")) expr_form (Some forms.True) refl)
expr_heads new forms.False = heads_image (λ (u : Unit {0}). expr.False) spell_expr expr_form (Some forms.False) (λ u. spell_false) (heads_after (Reserved (codes "false")) expr_form (Some forms.False) refl)
expr_heads new forms.Done = heads_image (λ (u : Unit {0}). expr.Done) spell_expr expr_form (Some forms.Done) (λ u. spell_done) (heads_after (Reserved (codes "done")) expr_form (Some forms.Done) refl)
expr_heads new forms.Old = heads_image of_old spell_expr expr_form (Some forms.Old) spell_of_old (heads_after (Reserved (codes "old")) expr_form (Some forms.Old) refl)
expr_heads new forms.Paren = heads_image of_inside spell_expr expr_form (Some forms.Paren) spell_inside (heads_after open_paren expr_form (Some forms.Paren) refl)
expr_heads new forms.Get = heads_image (λ (p : Expr × Expr). expr.Get p.0 p.1) spell_expr expr_form (Some forms.Get) (λ p. spell_get p.0 p.1) (heads_after (Reserved (codes "get")) expr_form (Some forms.Get) refl)
expr_heads new forms.Set = heads_image (λ (p : (Expr × Expr) × Expr). expr.Set p.0.0 p.0.1 p.1) spell_expr expr_form (Some forms.Set) spell_set_parts (heads_after (Reserved (codes "set")) expr_form (Some forms.Set) refl)
expr_heads new forms.Fill = heads_image (λ (p : ℕ × Expr). expr.Fill p.0 p.1) spell_expr expr_form (Some forms.Fill) (λ p. spell_fill p.0 p.1) (heads_after (Reserved (codes "fill")) expr_form (Some forms.Fill) refl)
expr_heads new forms.Slice = heads_image (λ (p : Expr × (ℕ × ℕ)). expr.Slice p.0 p.1.0 p.1.1) spell_expr expr_form (Some forms.Slice) (λ p. spell_slice p.0 p.1.0 p.1.1) (heads_after (Reserved (codes "slice")) expr_form (Some forms.Slice) refl)
expr_heads new forms.Widen = heads_image (λ (p : Expr × ℕ). expr.Widen p.0 p.1) spell_expr expr_form (Some forms.Widen) (λ p. spell_widen p.0 p.1) (heads_after (Reserved (codes "widen")) expr_form (Some forms.Widen) refl)
expr_heads new forms.Join = heads_image (λ (p : Expr × Expr). expr.Join p.0 p.1) spell_expr expr_form (Some forms.Join) (λ p. spell_join p.0 p.1) (heads_after (Reserved (codes "join")) expr_form (Some forms.Join) refl)

-- no expression begins with this word or sign
pub expr_not : (new : Bool) (t : Token) → expr_form (Some t) ≡ None → Heads Any spell_expr (FitsExpr new) (begins t) false
expr_not new t none = record { next = λ e rest fits ends. let k = expr_from new e fits in excludes expr_form t none _ k.0 ((expr_heads new k.0).next e rest k.1 tt) }

expr_is_next : (new : Bool) → Heads Any spell_expr (FitsExpr new) expr_next true
expr_is_next new = record { next = λ e rest fits ends. let k = expr_from new e fits in ap is_form ((expr_heads new k.0).next e rest k.1 tt) }

-- ---- readers

abbrev pub ExprReader : Bool → ℕ → Reader Expr → Type 0
ExprReader new c R = IsReader c c Any spell_expr (FitsExpr new) R

pub some_expr : Expr
some_expr = expr.True

pub some_fits : (new : Bool) → FitsExpr new some_expr
unfolding some_expr
some_fits new = allows_true new

abbrev an_expr : (new : Bool) → (e : Expr) × FitsExpr new e
an_expr new = (some_expr, some_fits new)

tail_back : (new : Bool) (t : Tail) → TailFits new t → Image (λ (p : Expr × Expr). PickTail p.0 p.1) (λ p. FitsExpr new p.0 × FitsExpr new p.1) t ⊎ Image (λ (p : Two × Expr). TwoTail p.0 p.1) (λ p. IsTrue (allows_op new p.0) × FitsExpr new p.1) t
tail_back new (TwoTail op b) h = inr ((op, b), refl, h)
tail_back new (PickTail a b) h = inl ((a, b), refl, h)

tail_is : (new : Bool) (c d : ℕ) → d ≡ suc c → (R : Reader Expr) → ExprReader new c R → IsReader c d Any tail_spell (TailFits new) (tail_at new R)
unfolding tail_at pick_at binary_at
tail_is new c d e R p =
    let pick : Expr × Expr → Tail = λ p. PickTail p.0 p.1 in
    let two : Two × Expr → Tail = λ p. TwoTail p.0 p.1 in
    let closed = then_is d close_paren refl (ap Some (sym e)) p in
    refit_is (TailFits new) (λ t h. elim h [ inl i ↦ subst (TailFits new) i.1 i.2 | inr i ↦ subst (TailFits new) i.1 i.2 ]) (tail_back new)
    (chosen_is (begins (Sign (codes "?")))
    (heads_image pick tail_spell _ true (λ p. refl) (heads_after (Sign (codes "?")) _ true refl))
    (heads_image two tail_spell _ false (λ p. refl) (heads_both Any (λ _ b. spell_expr b ++ close_paren ∷ []) (λ _ b. FitsExpr new b) _ false (heads_leaf op_token _ false not_question)))
    (image_is pick tail_spell (λ p. refl) (after_is c (Sign (codes "?")) refl refl (both_is p (λ _. after_is c colon refl refl closed))))
    (image_is two tail_spell (λ p. refl) (both_is (two_is new c) (λ _. closed))))

inside_back : (new : Bool) (i : Inside) → InsideFits new i → Image (λ (p : Expr × Tail). TailInside p.0 p.1) (λ p. FitsExpr new p.0 × TailFits new p.1) i ⊎ Image (λ (p : One × Expr). OneInside p.0 p.1) (λ p. IsTrue true × FitsExpr new p.1) i
inside_back new (OneInside op a) h = inr ((op, a), refl, h)
inside_back new (TailInside a t) h = inl ((a, t), refl, h)

inside_is : (new : Bool) (c d : ℕ) → d ≡ suc c → (R : Reader Expr) → ExprReader new c R → IsReader c d Any inside_spell (InsideFits new) (inside_at new R)
unfolding inside_at
inside_is new c d e R p =
    let more : Expr × Tail → Inside = λ p. TailInside p.0 p.1 in
    let one : One × Expr → Inside = λ p. OneInside p.0 p.1 in
    refit_is (InsideFits new) (λ t h. elim h [ inl i ↦ subst (InsideFits new) i.1 i.2 | inr i ↦ subst (InsideFits new) i.1 i.2 ]) (inside_back new)
    (chosen_is expr_next
    (heads_image more inside_spell _ true (λ p. refl) (heads_both Any (λ _. tail_spell) (λ _. TailFits new) _ true (expr_is_next new)))
    (heads_image one inside_spell _ false (λ p. refl) (heads_both Any (λ _ a. spell_expr a ++ close_paren ∷ []) (λ _ a. FitsExpr new a) _ false (heads_leaf one_token _ false not_expr)))
    (image_is more inside_spell (λ p. refl) (both_is p (λ _. tail_is new c d e R p)))
    (image_is one inside_spell (λ p. refl) (both_is (one_is c) (λ _. then_is d close_paren refl (ap Some (sym e)) p))))

olden_back : (o : Option Name) → PerhapsFits FitsName o → Image (λ (u : Unit {0}). None) (λ _. Unit {0}) o ⊎ Image (λ (n : Name). Some n) FitsName o
olden_back None h = inl (tt, refl, tt)
olden_back (Some n) h = inr (n, refl, h)

olden_is : (c : ℕ) → IsReader c c Any olden_spell (PerhapsFits FitsName) olden_at
unfolding olden_at
olden_is c =
    let none : Unit {0} → Option Name = λ _. None in
    let some : Name → Option Name = λ n. Some n in
    refit_is (PerhapsFits FitsName) (λ o h. elim h [ inl i ↦ subst (PerhapsFits FitsName) i.1 tt | inr i ↦ subst (PerhapsFits FitsName) i.1 i.2 ]) olden_back
    (chosen_is (begins (Reserved (codes "done")))
    (heads_image none olden_spell _ true (λ u. refl) (heads_after (Reserved (codes "done")) _ true refl))
    (heads_image some olden_spell _ false (λ n. refl) (heads_leaf name_token _ false (λ n. refl)))
    (image_is none olden_spell (λ u. refl) (after_is c (Reserved (codes "done")) refl refl (done_is c)))
    (image_is some olden_spell (λ n. refl) (name_is c)))

module _ (new : Bool) (d : ℕ) (R : Reader Expr) (p : (c : ℕ) → d ≡ suc c → ExprReader new c R) where
  pair_is : (t : Token) → begins t (Some t) ≡ true → side t ≡ Plain
      → IsReader d d Any (λ (v : Expr × Expr). t ∷ open_paren ∷ (spell_expr v.0 ++ comma ∷ (spell_expr v.1 ++ close_paren ∷ []))) (λ v. FitsExpr new v.0 × FitsExpr new v.1) (pair_at t d R)
  unfolding pair_at
  pair_is t same plain = after_is d t same (ap (λ s. Rattle.civl_phrases.specs.Bracket.turn s d) plain)
      (opened_is d open_paren refl refl ((some_expr, some_expr), (some_fits new, some_fits new)) (λ c e. both_is (p c e) (λ _. after_is c comma refl refl (then_is d close_paren refl (ap Some (sym e)) (p c e)))))

  branch_is : (k : ExprForm) → IsReader d d Any spell_expr (ExprFits new k) (expr_as new d R k)
  unfolding literal_at constant_at old_at paren_at exprs_at get_at join_at set_at fill_at slice_at widen_at
  branch_is forms.Name = image_is (λ (n : Name). expr.Name n) spell_expr spell_name (name_is d)
  branch_is forms.Literal = image_is (λ (p : ℕ × ℕ). expr.Literal p.0 p.1) spell_expr (λ p. spell_literal p.0 p.1) (both_is (number_is d) (λ _. after_is d colon refl refl (number_is d)))
  branch_is forms.True = image_is (λ (u : Unit {0}). expr.True) spell_expr (λ u. spell_true) (after_is d (Reserved (codes "true")) refl refl (done_is d))
  branch_is forms.False = image_is (λ (u : Unit {0}). expr.False) spell_expr (λ u. spell_false) (after_is d (Reserved (codes "false")) refl refl (done_is d))
  branch_is forms.Done = image_is (λ (u : Unit {0}). expr.Done) spell_expr (λ u. spell_done) (after_is d (Reserved (codes "done")) refl refl (done_is d))
  branch_is forms.Old = image_is of_old spell_expr spell_of_old
      (after_is d (Reserved (codes "old")) refl refl (opened_is d open_paren refl refl (None, tt) (λ c e. then_is d close_paren refl (ap Some (sym e)) (olden_is c))))
  branch_is forms.Paren = image_is of_inside spell_expr spell_inside (opened_is d open_paren refl refl (OneInside ones.Not some_expr, (refl, some_fits new)) (λ c e. inside_is new c d e R (p c e)))
  branch_is forms.Get = image_is (λ (p : Expr × Expr). expr.Get p.0 p.1) spell_expr (λ p. spell_get p.0 p.1) (pair_is (Reserved (codes "get")) refl refl)
  branch_is forms.Join = image_is (λ (p : Expr × Expr). expr.Join p.0 p.1) spell_expr (λ p. spell_join p.0 p.1) (pair_is (Reserved (codes "join")) refl refl)
  branch_is forms.Set = image_is (λ (p : (Expr × Expr) × Expr). expr.Set p.0.0 p.0.1 p.1) spell_expr spell_set_parts
      (after_is d (Reserved (codes "set")) refl refl (opened_is d open_paren refl refl (((some_expr, some_expr), some_expr), ((some_fits new, some_fits new), some_fits new))
      (λ c e. both_is {s1 = exprs_spell} (both_is (p c e) (λ _. after_is c comma refl refl (p c e))) (λ _. after_is c comma refl refl (then_is d close_paren refl (ap Some (sym e)) (p c e))))))
  branch_is forms.Fill = image_is (λ (p : ℕ × Expr). expr.Fill p.0 p.1) spell_expr (λ p. spell_fill p.0 p.1)
      (after_is d (Reserved (codes "fill")) refl refl (opened_is d open_paren refl refl ((0, some_expr), (tt, some_fits new))
      (λ c e. both_is (number_is c) (λ _. after_is c comma refl refl (then_is d close_paren refl (ap Some (sym e)) (p c e))))))
  branch_is forms.Slice = image_is (λ (p : Expr × (ℕ × ℕ)). expr.Slice p.0 p.1.0 p.1.1) spell_expr (λ p. spell_slice p.0 p.1.0 p.1.1)
      (after_is d (Reserved (codes "slice")) refl refl (opened_is d open_paren refl refl ((some_expr, (0, 0)), (some_fits new, (tt, tt)))
      (λ c e. both_is (p c e) (λ _. after_is c comma refl refl (both_is (number_is c) (λ _. after_is c comma refl refl (then_is d close_paren refl (ap Some (sym e)) (number_is c))))))))
  branch_is forms.Widen = image_is (λ (p : Expr × ℕ). expr.Widen p.0 p.1) spell_expr (λ p. spell_widen p.0 p.1)
      (after_is d (Reserved (codes "widen")) refl refl (opened_is d open_paren refl refl ((some_expr, 0), (some_fits new, tt))
      (λ c e. both_is (p c e) (λ _. after_is c comma refl refl (then_is d close_paren refl (ap Some (sym e)) (number_is c))))))

  expr_by_is : ExprReader new d (expr_by new d R)
  unfolding expr_by
  expr_by_is = refit_is (FitsExpr new) (expr_to new) (expr_from new) (by_form_is expr_form (Some (Named [])) forms.Name refl (expr_heads new) (λ k o h. branch_is k))

inner_expr_is : (new : Bool) (d c : ℕ) → d ≡ suc c → ExprReader new c (inner_expr new d)
unfolding inner_expr
inner_expr_is new zero c e = absurd (omega arith)
inner_expr_is new (suc d) c e = let k : d ≡ c = omega arith in subst (λ n. ExprReader new n (expr_by new d (inner_expr new d))) k (expr_by_is new d (inner_expr new d) (λ m h. inner_expr_is new d m h))

pub expr_is : (new : Bool) (d : ℕ) → ExprReader new d (expr_at new d)
unfolding expr_at
expr_is new d = expr_by_is new d (inner_expr new d) (λ c e. inner_expr_is new d c e)

pub inner_expr_at : (new : Bool) (d : ℕ) → 0 < d → inner_expr new d ≡ expr_at new (d - 1)
unfolding inner_expr expr_at
inner_expr_at new zero h = absurd (omega arith)
inner_expr_at new (suc d) h = let e : d ≡ suc d - 1 = omega arith in ap (λ n. expr_by new n (inner_expr new n)) e

-- ---- expressions in other phrases

pub args_is : (new : Bool) (d : ℕ) → IsReader d d Any (enclosed spell_expr) (AllByRecursion (FitsExpr new)) (args_at new d)
unfolding args_at
args_is new d = bracketed_is d open_paren close_paren refl refl refl refl refl (expr_not new close_paren refl) (λ c e. let k : c ≡ d - 1 = omega arith in subst (λ n. ExprReader new c (expr_at new n)) k (expr_is new c))
