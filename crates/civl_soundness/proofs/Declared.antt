-- In a program that keeps the static rules no call means nothing.
use Rattle.std.proofs.Common.{◌≡◌, ℕ, zero, suc, Bool, true, false, List, [], ◌∷◌, length, refl, sym, ap, ◌∙◌, subst, Option, Some, None, slice_get, arith}
use Rattle.std.specs.Prelude.{is_none}
use Rattle.std.proofs.lemmas.Bool.{false≢true, or_parts}
use Rattle.civl_tree.specs.declared.name.Name.{Name}
use Rattle.civl_tree.specs.declared.action.Action.{Action}
use Rattle.civl_tree.specs.declared.program.Proc.{Proc}
use Rattle.civl_tree.specs.declared.program.Refines.{Refines}
use Rattle.civl_tree.specs.declared.program.Program.{Program}
use Rattle.civl_tree.specs.rules.Names.{proc_named, proc_signature_of, first_signature, callee_signature, action_named}
use Rattle.civl_tree.specs.rules.Unknown.{any_unknown, refined_unknown}
use Rattle.civl_tree.specs.rules.Uses.{with_uses}
use Rattle.civl_tree.specs.rules.Typing.{typing_rules, unknown_rule}
use Rattle.civl_tree.proofs.Kept.{proc_kept, unknown_among}
use Rattle.civl_meaning.specs.declared.config.Plain.{Plain}
use Rattle.civl_meaning.specs.Meaning.{Meaning, Does, Runs, Missing, proc_number, meaning_of_action, refined, meaning_by, meaning_of, meaning_else, called}
use Rattle.civl_meaning.specs.Config.{IsPlain}
use Rattle.civl_meaning.proofs.Begun.{proc_is}

abbrev pub IsDeclared : Meaning → Type 0
IsDeclared (Does action) = Unit {0}
IsDeclared (Runs number proc) = Unit {0}
IsDeclared Missing = ⊥

same_places : {A B : Type 0} (xs : List A) (ys : List B) → length xs ≡ length ys → (k : ℕ) (y : B) → slice_get ys k ≡ Some y → slice_get xs k ≡ None → ⊥
same_places xs [] n k y e m = absurd (cc)
same_places [] (z ∷ ys) n k y e m = absurd (omega arith)
same_places (x ∷ xs) (z ∷ ys) n zero y e m = absurd (cc)
same_places (x ∷ xs) (z ∷ ys) n (suc k) y e m = same_places xs ys (omega arith) k y e m

module _ (plain : Plain) (ok : IsPlain plain) where
  abbrev program : Program
  program = plain.program

  action_declared : (o : Option Action) → is_none o ≡ false → IsDeclared (meaning_of_action o)
  action_declared None e = absurd (false≢true (sym e))
  action_declared (Some action) e = tt

  refined_declared : (o : Option Refines) → (o ≡ None → ⊥) → refined_unknown program o ≡ false → IsDeclared (refined program o)
  refined_declared None n u = absurd (n refl)
  refined_declared (Some r) n u = action_declared (action_named program r.action) u

  pub number_declared : (k : ℕ) (proc : Proc) → slice_get program.procs k ≡ Some proc → IsDeclared (meaning_of plain k)
  number_declared k proc at =
      subst (λ (o : Option Proc). IsDeclared (meaning_by program (slice_get plain.bodies k) k o)) (sym at) (by_body (slice_get plain.bodies k) refl)
    where
      known : refined_unknown program proc.refines ≡ false
      known = (or_parts (refined_unknown program proc.refines) (any_unknown (with_uses program proc proc.refines)) (proc_kept typing_rules program ok.rules unknown_rule unknown_among k proc at)).0

      by_body : (b : Option Bool) → slice_get plain.bodies k ≡ b → IsDeclared (meaning_by program b k (Some proc))
      by_body None e = same_places plain.bodies program.procs ok.bodies k proc at e
      by_body (Some true) e = tt
      by_body (Some false) e = refined_declared proc.refines (λ root. (let q : Some false ≡ Some true = sym e ∙ ok.roots k proc at root in cc)) known

  pub called_declared : (name : Name) → is_none (callee_signature program name) ≡ false → IsDeclared (called plain name)
  called_declared name e = by_action (action_named program name) refl
    where
      by_proc : (o : Option Proc) → proc_named program name ≡ o → is_none (proc_signature_of o) ≡ false → IsDeclared (meaning_of plain (proc_number program name))
      by_proc None p s = absurd (false≢true (sym s))
      by_proc (Some proc) p s = number_declared (proc_number program name) proc (proc_is program name ∙ p)

      by_action : (o : Option Action) → action_named program name ≡ o → IsDeclared (meaning_else plain name o)
      by_action None q =
          by_proc (proc_named program name) refl (ap (λ (o : Option Action). is_none (first_signature o (proc_named program name))) (sym q) ∙ e)
      by_action (Some action) q = tt
