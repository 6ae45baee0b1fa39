-- The entries and the steps of scripts are read as they are spelled.
use Rattle.std.proofs.Common.{◌≡◌, ℕ, suc, ◌-◌, Bool, true, false, List, [], ◌∷◌, ◌++◌, length, map, None, Some, refl, sym, ap, subst, ◌∙◌, append-nil, arith, inl, inr, ◌⊎◌}
use Rattle.std.specs.Prelude.{codes, IsTrue, ◌==◌, if◌then◌else◌}
use Rattle.std.specs.List.{AllByRecursion}
use Rattle.std.proofs.lemmas.Bool.{and_from}
use Rattle.civl_tree.specs.Token.{Token, Reserved, Sign, Number}
use Rattle.civl_tree.specs.Spelling.{open_paren, close_paren, semicolon, colon, joined, separated, enclosed}
use Rattle.civl_tree.specs.SpellingScript.{spell_literal, spell_value, spell_entry, spell_step}
use Rattle.civl_tree.specs.SpellingDomain.{allows_name, allows_entry, allows_chosen, allows_told}
use Rattle.civl_tree.specs.declared.script.Literal.{Literal}
use Rattle.civl_tree.specs.declared.script.Literal.TheVariants as literal
use Rattle.civl_tree.specs.declared.script.Entry.{Entry}
use Rattle.civl_tree.specs.declared.script.Told.{Told}
use Rattle.civl_phrases.specs.Reader.{Reader, begins}
use Rattle.civl_phrases.specs.Phrase.{Any, IsReader, Heads, Image}
use Rattle.civl_phrases.proofs.Joins.{both_is, mapped_is, image_is, refit_is, chosen_is, by_form_is}
use Rattle.civl_phrases.proofs.Tokens.{after_is, then_is, done_is}
use Rattle.civl_phrases.proofs.Lists.{bracketed_is}
use Rattle.civl_phrases.proofs.Heads.{heads_after, heads_leaf, heads_both, heads_image, excludes}
use Rattle.civl_phrases.proofs.Tables.{and_parts}
use Rattle.civl_phrases.proofs.Leaves.{number_is}
use Rattle.civl_declarations.specs.declared.forms.LiteralForm.{LiteralForm}
use Rattle.civl_declarations.specs.declared.forms.LiteralForm.TheVariants as forms
use Rattle.civl_declarations.specs.declared.steps.Value.{Value}
use Rattle.civl_declarations.specs.readers.Steps.{literal_form, flag_at, number_literal_at, literal_as, literal_at, open_row, close_row, row_value, plain_value, value_at, make_entry, entry_at, make_chosen, chosen_at, chosens_at, make_told, move_word, step_at}
use Rattle.civl_expressions.proofs.Lists.{all_from, all_to}
use Rattle.civl_expressions.proofs.OfNames.{name_is}

-- ---- literals

abbrev LiteralFits : LiteralForm → Literal → Type 0
LiteralFits forms.True = Image (λ (u : Unit {0}). literal.Flag true) (λ _. Unit {0})
LiteralFits forms.False = Image (λ (u : Unit {0}). literal.Flag false) (λ _. Unit {0})
LiteralFits forms.Number = Image (λ (p : ℕ × ℕ). literal.Number p.0 p.1) (λ _. Unit {0} × Unit {0})

literal_from : (l : Literal) → (k : LiteralForm) × LiteralFits k l
literal_from (literal.Flag true) = (forms.True, (tt, refl, tt))
literal_from (literal.Flag false) = (forms.False, (tt, refl, tt))
literal_from (literal.Number v w) = (forms.Number, ((v, w), refl, (tt, tt)))

literal_heads : (k : LiteralForm) → Heads Any spell_literal (LiteralFits k) literal_form (Some k)
literal_heads forms.True = heads_image (λ (u : Unit {0}). literal.Flag true) spell_literal literal_form (Some forms.True) (λ u. refl) (heads_after (Reserved (codes "true")) literal_form (Some forms.True) refl)
literal_heads forms.False = heads_image (λ (u : Unit {0}). literal.Flag false) spell_literal literal_form (Some forms.False) (λ u. refl) (heads_after (Reserved (codes "false")) literal_form (Some forms.False) refl)
literal_heads forms.Number = heads_image (λ (p : ℕ × ℕ). literal.Number p.0 p.1) spell_literal literal_form (Some forms.Number) (λ u. refl)
    (heads_both Any (λ _ w. colon ∷ Number w ∷ []) (λ _ _. Unit {0}) literal_form (Some forms.Number) (heads_leaf Number literal_form (Some forms.Number) (λ n. refl)))

literal_branch : (d : ℕ) (k : LiteralForm) → IsReader d d Any spell_literal (LiteralFits k) (literal_as k)
unfolding flag_at number_literal_at
literal_branch d forms.True = image_is (λ (u : Unit {0}). literal.Flag true) spell_literal (λ u. refl) (after_is d (Reserved (codes "true")) refl refl (done_is d))
literal_branch d forms.False = image_is (λ (u : Unit {0}). literal.Flag false) spell_literal (λ u. refl) (after_is d (Reserved (codes "false")) refl refl (done_is d))
literal_branch d forms.Number = image_is (λ (p : ℕ × ℕ). literal.Number p.0 p.1) spell_literal (λ u. refl) (both_is (number_is d) (λ _. after_is d colon refl refl (number_is d)))

abbrev AnyLiteral : Literal → Type 0
AnyLiteral _ = Unit {0}

literal_is : (d : ℕ) → IsReader d d Any spell_literal AnyLiteral literal_at
unfolding literal_at
literal_is d = refit_is AnyLiteral (λ l h. tt) (λ l h. literal_from l) (by_form_is literal_form (Some (Number 0)) forms.Number refl literal_heads (λ k o h. literal_branch d k))

literal_not : (t : Token) → literal_form (Some t) ≡ None → Heads Any spell_literal AnyLiteral (begins t) false
literal_not t none = record { next = λ l rest fits ends. let k = literal_from l in excludes literal_form t none _ k.0 ((literal_heads k.0).next l rest k.1 tt) }

any_literals : (ls : List Literal) → AllByRecursion AnyLiteral ls
any_literals [] = tt
any_literals (l ∷ ls) = (tt, any_literals ls)

-- ---- values

abbrev value_of : Entry → Value
value_of e = record { cells = e.cells; row = e.row }

abbrev value_spell : Value → List Token
value_spell v = if v.row then open_row ∷ separated spell_literal v.cells ++ close_row ∷ [] else joined (map spell_literal v.cells)

abbrev ValueFits : Value → Type 0
ValueFits v = IsTrue (if v.row then true else length v.cells == 1)

value_back_by : (row : Bool) (cells : List Literal) → IsTrue (if row then true else length cells == 1)
    → Image row_value (AllByRecursion AnyLiteral) (record { cells = cells; row = row }) ⊎ Image plain_value AnyLiteral (record { cells = cells; row = row })
value_back_by true cells h = inl (cells, refl, any_literals cells)
value_back_by false [] h = absurd (none_one h)
  where
    none_one : IsTrue (0 == 1) → ⊥
    none_one h = cc
value_back_by false (l ∷ []) h = inr (l, refl, tt)
value_back_by false (l ∷ m ∷ ls) h = absurd (many_one (length ls) h)
  where
    many_one : (n : ℕ) → IsTrue (suc (suc n) == 1) → ⊥
    many_one n h = let off : (suc (suc n) == 1) ≡ false = grind arith in let k : true ≡ false = sym h ∙ off in absurd cc

plain_spells : (l : Literal) → value_spell (plain_value l) ≡ spell_literal l
plain_spells l = append-nil (spell_literal l)

value_is : (d : ℕ) → IsReader d d Any value_spell ValueFits (value_at d)
unfolding value_at
value_is d =
    refit_is ValueFits (λ v h. elim h [ inl i ↦ subst ValueFits i.1 refl | inr i ↦ subst ValueFits i.1 refl ]) (λ v h. value_back_by v.row v.cells h)
    (chosen_is (begins open_row)
    (heads_image row_value value_spell (begins open_row) true (λ cells. refl) (heads_after open_row (begins open_row) true refl))
    (heads_image plain_value value_spell (begins open_row) false plain_spells (literal_not open_row refl))
    (image_is row_value value_spell (λ cells. refl) (bracketed_is d open_row close_row refl refl refl refl refl (literal_not close_row refl) (λ c e. literal_is c)))
    (image_is plain_value value_spell plain_spells (literal_is d)))

-- no value begins with this word or sign
value_not_by : (t : Token) → literal_form (Some t) ≡ None → begins t (Some open_row) ≡ false → (row : Bool) (cells : List Literal) → IsTrue (if row then true else length cells == 1)
    → (rest : List Token) → begins t (Rattle.civl_phrases.specs.Reader.lookahead (value_spell (record { cells = cells; row = row }) ++ rest)) ≡ false
value_not_by t none not_open true cells h rest = not_open
value_not_by t none not_open false [] h rest = absurd (none_one h)
  where
    none_one : IsTrue (0 == 1) → ⊥
    none_one h = cc
value_not_by t none not_open false (l ∷ []) h rest = ap (λ w. begins t (Rattle.civl_phrases.specs.Reader.lookahead (w ++ rest))) (plain_spells l) ∙ (literal_not t none).next l rest tt tt
value_not_by t none not_open false (l ∷ m ∷ ls) h rest = absurd (many_one (length ls) h)
  where
    many_one : (n : ℕ) → IsTrue (suc (suc n) == 1) → ⊥
    many_one n h = let off : (suc (suc n) == 1) ≡ false = grind arith in let k : true ≡ false = sym h ∙ off in absurd cc

-- ---- entries and steps

abbrev pub FitsEntry : Entry → Type 0
FitsEntry e = IsTrue (allows_entry e)

pub entry_is : (d : ℕ) → IsReader d d Any spell_entry FitsEntry (entry_at d)
unfolding entry_at
entry_is d = mapped_is make_entry spell_entry FitsEntry (λ p h. refl) (λ p h. and_from (allows_name p.0) _ h.0 h.1) (λ e h. ((e.name, value_of e), refl, and_parts (allows_name e.name) _ h))
    (both_is (name_is d) (λ _. after_is d (Sign (codes "=")) refl refl (then_is d semicolon refl refl (value_is d))))

abbrev FitsChosen : Entry → Type 0
FitsChosen e = IsTrue (allows_chosen e)

empty_name : (bytes : List ℕ) → IsTrue (length bytes == 0) → [] ≡ bytes
empty_name [] h = refl
empty_name (b ∷ bytes) h = absurd (some_none (length bytes) h)
  where
    some_none : (n : ℕ) → IsTrue (suc n == 0) → ⊥
    some_none n h = let off : (suc n == 0) ≡ false = grind arith in let k : true ≡ false = sym h ∙ off in absurd cc

chosen_back : (e : Entry) → FitsChosen e → Image make_chosen ValueFits e
chosen_back e h =
    let k = and_parts (length e.name.bytes == 0) _ h in
    let of_bytes : List ℕ → Entry = λ bytes. record { name = record { bytes = bytes }; cells = e.cells; row = e.row } in
    (value_of e, ap of_bytes (empty_name e.name.bytes k.0), k.1)

chosen_reader : (d : ℕ) → IsReader d d Any spell_value FitsChosen (chosen_at d)
unfolding chosen_at
chosen_reader d = mapped_is make_chosen spell_value FitsChosen (λ v h. refl) (λ v h. and_from true _ refl h) (λ e h. chosen_back e h) (value_is d)

chosen_not_close : Heads Any spell_value FitsChosen (begins close_paren) false
chosen_not_close = record { next = λ e rest fits ends. value_not_by close_paren refl refl e.row e.cells (and_parts (length e.name.bytes == 0) _ fits).1 rest }

chosens_is : (d : ℕ) → IsReader d d Any (enclosed spell_value) (AllByRecursion FitsChosen) (chosens_at d)
unfolding chosens_at
chosens_is d = bracketed_is d open_paren close_paren refl refl refl refl refl chosen_not_close
    (λ c e. let k : c ≡ d - 1 = omega arith in subst (λ n. IsReader c c Any spell_value FitsChosen (chosen_at n)) k (chosen_reader c))

abbrev pub FitsTold : Told → Type 0
FitsTold t = IsTrue (allows_told t)

pub step_is : (d : ℕ) → IsReader d d Any spell_step FitsTold (step_at d)
unfolding step_at
step_is d = mapped_is make_told spell_step FitsTold (λ p h. refl) (λ p h. all_from allows_chosen p.1 h.1) (λ t h. ((t.thread, t.choices), refl, (tt, all_to allows_chosen t.choices h)))
    (after_is d move_word refl refl (both_is (number_is d) (λ _. then_is d semicolon refl refl (chosens_is d))))
