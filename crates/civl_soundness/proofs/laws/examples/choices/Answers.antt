use Rattle.std.proofs.Common.{◌≡◌, ◌<◌, ◌^◌, [], ◌∷◌, subst, arith, codes}
use Rattle.std.specs.Prelude.{All}
use Rattle.std.proofs.lemmas.List.Elements.{All-nil, All-cons, All-head}
use Rattle.civl_bits.specs.Value.{IsValue}
use Rattle.civl_bits.specs.Word.{IsWord}
use Rattle.civl_tree.specs.declared.expr.Expr.{the_lemmas as of_expr}
use Rattle.civl_tree.specs.declared.stmt.Stmt.{the_lemmas as of_stmt}
use Rattle.civl_firing.specs.declared.store.Store.{Store}
use Rattle.civl_firing.specs.Fired.{gate_holds, fires, fired}
use Rattle.civl_meaning.specs.Layers.{lowest}
use Rattle.civl_meaning.specs.Step.{step_of}
use Rattle.civl_firing.specs.examples.Written.{word, name, holding}
use Rattle.civl_soundness.specs.examples.Putting.{put_choice, before, choosing}
use Rattle.civl_soundness.proofs.Plain.{choice_is_plain}
use Rattle.civl_soundness.proofs.Before.{before_is_of}
use Rattle.civl_soundness.proofs.Soundness.{step_is_of}
use Rattle.civl_soundness.proofs.laws.examples.choices.Goals as goal

pub returns-clause-plain : goal.returns-clause-plain
returns-clause-plain c = choice_is_plain

pub returns-clause-before : goal.returns-clause-before
returns-clause-before c = before_is_of (name (codes "c"))

pub returns-clause-seven : goal.returns-clause-seven
returns-clause-seven c =
    let seven : IsWord 8 7 = record { narrow = omega arith; wide = omega arith; fits = omega arith } in
    step_is_of (lowest put_choice) before (choosing 7) choice_is_plain (All-cons IsValue (word 8 7) [] seven (All-nil IsValue)) (before_is_of (name (codes "c")))

put : (step_of (lowest put_choice) before (choosing 300)).1.store ≡ holding (word 8 300 ∷ [])
unfolding gate_holds fires fired
put = simp (of_expr, of_stmt)

pub returns-clause-no_word : goal.returns-clause-no_word
returns-clause-no_word c h =
    let k = All-head IsValue (word 8 300) [] (subst (λ (s : Store). All IsValue s.values) put h.store.fit) in
    let l : 300 < 2 ^ 8 = k.fits in
    absurd (omega arith)
