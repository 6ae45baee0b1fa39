-- Declarations but actions and procedures are read as they are spelled.
use Rattle.std.proofs.Common.{ℕ, Bool, List, [], ◌∷◌, ◌++◌, refl}
use Rattle.std.specs.Prelude.{codes, IsTrue}
use Rattle.std.proofs.lemmas.Bool.{and_from}
use Rattle.civl_tree.specs.Token.{Token, Reserved}
use Rattle.civl_tree.specs.Spelling.{semicolon, colon, name_token, spell_sort}
use Rattle.civl_tree.specs.SpellingProgram.{spell_global, spell_init, spell_invariant, spell_thread}
use Rattle.civl_tree.specs.SpellingDomain.{allows_name, allows_expr, allows_global, allows_invariant, allows_thread}
use Rattle.civl_tree.specs.declared.name.Name.{Name}
use Rattle.civl_tree.specs.declared.expr.Sort.{Sort}
use Rattle.civl_tree.specs.declared.program.Global.{Global}
use Rattle.civl_tree.specs.declared.program.Invariant.{Invariant}
use Rattle.civl_tree.specs.declared.program.Thread.{Thread}
use Rattle.civl_phrases.specs.Phrase.{Any, IsReader}
use Rattle.civl_phrases.proofs.Joins.{both_is, mapped_is}
use Rattle.civl_phrases.proofs.Tokens.{after_is, then_is}
use Rattle.civl_phrases.proofs.Lists.{flagged_is}
use Rattle.civl_phrases.proofs.Tables.{and_parts}
use Rattle.civl_phrases.proofs.Leaves.{number_is}
use Rattle.civl_expressions.specs.readers.Names.{FitsName}
use Rattle.civl_expressions.specs.readers.Exprs.{FitsExpr}
use Rattle.civl_declarations.specs.readers.Declarations.{global_word, invariant_word, thread_word, make_global, global_at, init_at, make_invariant, invariant_at, make_thread, thread_at}
use Rattle.civl_expressions.proofs.Lists.{all_from, all_to}
use Rattle.civl_expressions.proofs.OfNames.{name_is}
use Rattle.civl_expressions.proofs.OfExprs.{sort_is, expr_is, args_is}
use Rattle.civl_declarations.proofs.OfActions.{spell_range, range_is}

-- ---- declarations

abbrev pub FitsGlobal : Global → Type 0
FitsGlobal g = IsTrue (allows_global g)

abbrev global_rest : Name × (Sort × (ℕ × ℕ)) → List Token
global_rest p = name_token p.0 ∷ colon ∷ (spell_sort p.1.0 ++ (spell_range p.1.1 ++ semicolon ∷ []))

abbrev RestFits : Name × (Sort × (ℕ × ℕ)) → Type 0
RestFits p = FitsName p.0 × (Unit {0} × (Unit {0} × Unit {0}))

pub global_is : (d : ℕ) → IsReader d d Any spell_global FitsGlobal (global_at d)
unfolding global_at
global_is d = mapped_is make_global spell_global FitsGlobal (λ p h. refl) (λ p h. h.0) (λ g h. ((g.linear, (g.name, (g.sort, (g.first, g.last)))), refl, (h, (tt, (tt, tt)))))
    (after_is d global_word refl refl (flagged_is {s = global_rest} {f = RestFits} (Reserved (codes "linear")) refl refl (record { next = λ p rest fits ends. refl })
    (both_is (name_is d) (λ _. after_is d colon refl refl (both_is (sort_is d) (λ _. then_is {s = spell_range} d semicolon refl refl (range_is d)))))))

pub init_is : (new : Bool) (d : ℕ) → IsReader d d Any spell_init (FitsExpr new) (init_at new d)
unfolding init_at
init_is new d = after_is d (Reserved (codes "init")) refl refl (then_is d semicolon refl refl (expr_is new d))

abbrev pub FitsInvariant : Bool → Invariant → Type 0
FitsInvariant new i = IsTrue (allows_invariant new i)

pub invariant_is : (new : Bool) (d : ℕ) → IsReader d d Any spell_invariant (FitsInvariant new) (invariant_at new d)
unfolding invariant_at
invariant_is new d = mapped_is make_invariant spell_invariant (FitsInvariant new) (λ p h. refl) (λ p h. h.1) (λ i h. ((i.step, i.expr), refl, (tt, h)))
    (after_is d invariant_word refl refl (both_is (number_is d) (λ _. then_is d semicolon refl refl (expr_is new d))))

abbrev pub FitsThread : Bool → Thread → Type 0
FitsThread new t = IsTrue (allows_thread new t)

pub thread_is : (new : Bool) (d : ℕ) → IsReader d d Any spell_thread (FitsThread new) (thread_at new d)
unfolding thread_at
thread_is new d = mapped_is make_thread spell_thread (FitsThread new) (λ p h. refl) (λ p h. and_from (allows_name p.0) _ h.0 (all_from (allows_expr new) p.1 h.1))
    (λ t h. let k = and_parts (allows_name t.callee) _ h in ((t.callee, t.args), refl, (k.0, all_to (allows_expr new) t.args k.1)))
    (after_is d thread_word refl refl (both_is (name_is d) (λ _. then_is d semicolon refl refl (args_is new d))))
