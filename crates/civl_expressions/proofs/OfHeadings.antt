-- Parameters, outputs and headings are read as they are spelled.
use Rattle.std.proofs.Common.{◌≡◌, ℕ, ◌-◌, Bool, true, false, List, [], ◌∷◌, ◌++◌, Some, refl, ap, subst, arith}
use Rattle.std.specs.Prelude.{IsTrue}
use Rattle.std.specs.List.{AllByRecursion}
use Rattle.std.proofs.lemmas.Bool.{and_from}
use Rattle.civl_tree.specs.Token.{Token}
use Rattle.civl_tree.specs.Spelling.{open_paren, close_paren, colon, arrow, name_token, enclosed}
use Rattle.civl_tree.specs.SpellingProgram.{mode_token, spell_param}
use Rattle.civl_tree.specs.SpellingDomain.{allows_name, is_param_mode, is_out_mode, allows_param, allows_out}
use Rattle.civl_tree.specs.declared.name.Name.{Name}
use Rattle.civl_tree.specs.declared.expr.Sort.{Sort}
use Rattle.civl_tree.specs.declared.action.Mode.{Mode}
use Rattle.civl_tree.specs.declared.action.Mode.TheVariants as modes
use Rattle.civl_tree.specs.declared.action.Param.{Param}
use Rattle.civl_phrases.specs.Bracket.{Plain, side}
use Rattle.civl_phrases.specs.Reader.{begins}
use Rattle.civl_phrases.specs.Table.{lookup}
use Rattle.civl_phrases.specs.Phrase.{Any, IsReader}
use Rattle.civl_phrases.proofs.Joins.{both_is, mapped_is}
use Rattle.civl_phrases.proofs.Tokens.{leaf_is, after_is}
use Rattle.civl_phrases.proofs.Lists.{bracketed_is}
use Rattle.civl_phrases.proofs.Tables.{table_leaf, and_parts}
use Rattle.civl_expressions.specs.declared.params.Heading.{Heading}
use Rattle.civl_expressions.specs.readers.Names.{FitsName}
use Rattle.civl_expressions.specs.readers.Headings.{mode_table, has_mode, mode_of, mode_at, make_param, param_at, params_at, make_heading, heading_at}
use Rattle.civl_expressions.proofs.OfNames.{name_is}
use Rattle.civl_expressions.proofs.OfExprs.{sort_is}

-- ---- parameters and outputs

mode_found : (m : Mode) → lookup mode_table (mode_token m) ≡ Some m
mode_found modes.Val = refl
mode_found modes.Lend = refl
mode_found modes.Take = refl
mode_found modes.Give = refl

mode_plain : (m : Mode) → side (mode_token m) ≡ Plain
mode_plain modes.Val = refl
mode_plain modes.Lend = refl
mode_plain modes.Take = refl
mode_plain modes.Give = refl

val_has : (out : Bool) → IsTrue (has_mode out modes.Val)
val_has true = refl
val_has false = refl

mode_is : (out : Bool) (d : ℕ) → IsReader d d Any (λ m. mode_token m ∷ []) (λ m. IsTrue (has_mode out m)) (mode_at out)
unfolding mode_at
mode_is out d = leaf_is d (λ m. IsTrue (has_mode out m)) (mode_of out) mode_token (modes.Val, val_has out) (table_leaf mode_token (has_mode out) mode_table (refl, (refl, (refl, (refl, tt)))) mode_found mode_plain)

-- an output, or a parameter
abbrev pub allows_in : Bool → Param → Bool
allows_in true = allows_out
allows_in false = allows_param

abbrev pub FitsParam : Bool → Param → Type 0
FitsParam out p = IsTrue (allows_in out p)

param_to : (out : Bool) (m : Mode) (n : Name) (s : Sort) → IsTrue (has_mode out m) → FitsName n → FitsParam out (record { mode = m; name = n; sort = s })
param_to true m n s h k = and_from (is_out_mode m) (allows_name n) h k
param_to false m n s h k = and_from (is_param_mode m) (allows_name n) h k

param_from : (out : Bool) (p : Param) → FitsParam out p → IsTrue (has_mode out p.mode) × FitsName p.name
param_from true p h = and_parts (is_out_mode p.mode) (allows_name p.name) h
param_from false p h = and_parts (is_param_mode p.mode) (allows_name p.name) h

param_is : (out : Bool) (d : ℕ) → IsReader d d Any spell_param (FitsParam out) (param_at out d)
unfolding param_at
param_is out d = mapped_is make_param spell_param (FitsParam out) (λ p h. refl) (λ p h. param_to out p.0 p.1.0 p.1.1 h.0 h.1.0)
    (λ p h. let k = param_from out p h in ((p.mode, (p.name, p.sort)), refl, (k.0, (k.1, tt))))
    (both_is (mode_is out d) (λ _. both_is (name_is d) (λ _. after_is d colon refl refl (sort_is d))))

mode_not : (m : Mode) → begins close_paren (Some (mode_token m)) ≡ false
mode_not modes.Val = refl
mode_not modes.Lend = refl
mode_not modes.Take = refl
mode_not modes.Give = refl

params_is : (out : Bool) (d : ℕ) → IsReader d d Any (enclosed spell_param) (AllByRecursion (FitsParam out)) (params_at out d)
unfolding params_at
params_is out d = bracketed_is d open_paren close_paren refl refl refl refl refl (record { next = λ p rest fits ends. mode_not p.mode })
    (λ c e. let k : c ≡ d - 1 = omega arith in subst (λ n. IsReader c c Any spell_param (FitsParam out) (param_at out n)) k (param_is out c))

-- ---- headings

abbrev pub spell_heading : Token → Heading → List Token
spell_heading t h = t ∷ name_token h.name ∷ (enclosed spell_param h.params ++ (arrow ∷ enclosed spell_param h.outs))

abbrev pub FitsHeading : Heading → Type 0
FitsHeading h = FitsName h.name × (AllByRecursion (FitsParam false) h.params × AllByRecursion (FitsParam true) h.outs)

pub heading_is : (t : Token) (d : ℕ) → begins t (Some t) ≡ true → side t ≡ Plain → IsReader d d Any (spell_heading t) FitsHeading (heading_at t d)
unfolding heading_at
heading_is t d same plain = mapped_is make_heading (spell_heading t) FitsHeading (λ p h. refl) (λ p h. h) (λ p h. ((p.name, (p.params, p.outs)), refl, h))
    (after_is d t same (ap (λ s. Rattle.civl_phrases.specs.Bracket.turn s d) plain) (both_is (name_is d) (λ _. both_is (params_is false d) (λ _. after_is d arrow refl refl (params_is true d)))))
