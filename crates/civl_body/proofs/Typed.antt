-- The expressions of a body's statements have the sorts that they need.
use Rattle.std.specs.Prelude.{map, not, All, is_none, nat_eq}
use Rattle.std.specs.List.{list_any}
use Rattle.std.proofs.Common.{◌≡◌, ◌∙◌, ℕ, true, false, List, [], ◌∷◌, length, refl, sym, ap, ap₂, subst, arith, Some, None, Option}
use Rattle.std.proofs.lemmas.Bool.{false≢true, not-false, or_parts, eqb-true}
use Rattle.std.proofs.lemmas.List.{length-map}
use Rattle.std.proofs.lemmas.List.Elements.{All-nil, All-cons}
use Rattle.std.proofs.lemmas.Option.{same_Some}
use Rattle.civl_tree.specs.declared.name.Name.{Name}
use Rattle.civl_tree.specs.declared.expr.Expr.{Expr}
use Rattle.civl_tree.specs.declared.expr.Sort.{Sort}
use Rattle.civl_tree.specs.declared.expr.Sort.TheVariants.{Bool as Truth}
use Rattle.civl_tree.specs.declared.program.Proc.{Proc}
use Rattle.civl_tree.specs.declared.program.Program.{Program}
use Rattle.civl_tree.specs.declared.stmt.Stmt.{Stmt, out-Stmt}
use Rattle.civl_tree.specs.declared.stmt.Stmt.TheOpen as stmt
use Rattle.civl_tree.specs.Numbering.{statement_at}
use Rattle.civl_tree.specs.rules.Scopes.{Scope as Sorts, sort_in, bind_globals, body_scope, note_scope}
use Rattle.civl_tree.specs.rules.Sorts.{sort_of}
use Rattle.civl_tree.specs.rules.Exprs.{widths_fit, indices_fit}
use Rattle.civl_tree.specs.rules.Uses.{Use, Only, serves, need_of, target_use, argument_uses, param_sorts, taken_sorts, given_sorts, place_sort, form_uses, stmt_uses}
use Rattle.civl_tree.specs.rules.Names.{Signature, callee_signature}
use Rattle.civl_tree.specs.rules.Unknown.{any_unknown, place_unknown, form_unknown, stmt_unknown}
use Rattle.civl_tree.specs.rules.Arity.{call_arity, form_arity, stmt_arity}
use Rattle.civl_tree.specs.rules.Sorted.{any_missorted, results_missorted, form_missorted, stmt_missorted}
use Rattle.civl_tree.specs.rules.Width.{any_width}
use Rattle.civl_tree.specs.rules.Index.{any_index}
use Rattle.civl_tree.specs.rules.Rules.{Keeps}
use Rattle.civl_tree.specs.rules.Typing.{typing_rules, sort_rule, width_rule, index_rule, unknown_rule, arity_rule}
use Rattle.civl_tree.proofs.Kept.{statement_kept, sort_among, width_among, index_among, unknown_among, arity_among}
use Rattle.civl_firing.proofs.Serving.{served_only, served_some}
use Rattle.civl_actions.specs.Scopes.{IsTyped}
use Rattle.civl_states.specs.Notes.{IsProcIn}
use Rattle.civl_moves.specs.States.{Suits}
use Rattle.civl_moves.specs.Calls.{ResultsSuit}

-- what the rules say of expressions
pub record Kept (uses : List Use) : Type 0 where
  pub sorted : any_missorted uses ≡ false
  pub narrow : any_width uses ≡ false
  pub low : any_index uses ≡ false

served : (o p : Option Sort) (s : Sort) → serves o (need_of p) ≡ true → p ≡ Some s → o ≡ Some s
served o p s e h = served_only o s (subst (λ (q : Option Sort). serves o (need_of q) ≡ true) h e)

pub first_suits : (scope : Sorts) (e : Expr) (o : Option Sort) (uses : List Use) → Kept (target_use scope e o ∷ uses) → Suits scope e o
first_suits scope e o uses k =
    let s = not-false (serves (sort_of scope e) (need_of o)) (or_parts _ _ k.sorted).0 in
    record {
      typed = record {
        sorted = served_some (sort_of scope e) (need_of o) s;
        widths = not-false (widths_fit scope e) (or_parts _ _ k.narrow).0;
        indices = not-false (indices_fit e) (or_parts _ _ k.low).0;
      };
      sorted = λ r h. served (sort_of scope e) o r s h;
    }

pub others_kept : (u : Use) (uses : List Use) → Kept (u ∷ uses) → Kept uses
others_kept u uses k = record { sorted = (or_parts _ _ k.sorted).1; narrow = (or_parts _ _ k.narrow).1; low = (or_parts _ _ k.low).1 }

module _ (program : Program) (keeps : Keeps typing_rules program) (proc : Proc) (there : IsProcIn program proc) where
  pub form_kept : (number : ℕ) (s : Stmt) (d : stmt.Stmt-F Stmt) → statement_at proc.body number ≡ Some s → out-Stmt s ≡ d → Kept (form_uses program proc d)
  form_kept number s d at e =
      subst (λ (x : stmt.Stmt-F Stmt). Kept (form_uses program proc x)) e (record {
        sorted = (or_parts (any_missorted (stmt_uses program proc s)) (form_missorted program proc (out-Stmt s)) (statement_kept typing_rules program keeps sort_rule sort_among (stmt_missorted program proc) there.0 proc there.1 refl number s at)).0;
        narrow = statement_kept typing_rules program keeps width_rule width_among (λ stmt. any_width (stmt_uses program proc stmt)) there.0 proc there.1 refl number s at;
        low = statement_kept typing_rules program keeps index_rule index_among (λ stmt. any_index (stmt_uses program proc stmt)) there.0 proc there.1 refl number s at;
      })

  pub results_kept : (number : ℕ) (s : Stmt) (d : stmt.Stmt-F Stmt) → statement_at proc.body number ≡ Some s → out-Stmt s ≡ d → form_missorted program proc d ≡ false
  results_kept number s d at e =
      ap (form_missorted program proc) (sym e)
      ∙ (or_parts (any_missorted (stmt_uses program proc s)) (form_missorted program proc (out-Stmt s)) (statement_kept typing_rules program keeps sort_rule sort_among (stmt_missorted program proc) there.0 proc there.1 refl number s at)).1

  pub assign_suits : (number : ℕ) (s : Stmt) (x : Name) (e : Expr) → statement_at proc.body number ≡ Some s → out-Stmt s ≡ stmt.Assign x e → Suits (body_scope program proc) e (place_sort proc x)
  assign_suits number s x e at o = first_suits _ e _ [] (form_kept number s _ at o)

  pub assert_suits : (number : ℕ) (s : Stmt) (e : Expr) → statement_at proc.body number ≡ Some s → out-Stmt s ≡ stmt.Assert e → Suits (body_scope program proc) e (Some Truth)
  assert_suits number s e at o = first_suits _ e (Some Truth) [] (form_kept number s _ at o)

  pub if_suits : (number : ℕ) (s : Stmt) (e : Expr) (a b : List Stmt) → statement_at proc.body number ≡ Some s → out-Stmt s ≡ stmt.If e a b → Suits (body_scope program proc) e (Some Truth)
  if_suits number s e a b at o = first_suits _ e (Some Truth) [] (form_kept number s _ at o)

  pub intro_suits : (number : ℕ) (s : Stmt) (x : Name) (e : Expr) → statement_at proc.body number ≡ Some s → out-Stmt s ≡ stmt.Intro x e → Suits (note_scope program proc) e (sort_in (bind_globals program.globals) x)
  intro_suits number s x e at o = first_suits _ e _ [] (form_kept number s _ at o)

-- ---- calls

pub args_typed : (scope : Sorts) (es : List Expr) (ss : List Sort) → Kept (argument_uses scope es ss) → All (IsTyped scope) es
args_typed scope [] ss k = All-nil (IsTyped scope)
args_typed scope (e ∷ es) [] k = All-cons (IsTyped scope) e es (first_suits scope e None _ k).typed (args_typed scope es [] (others_kept _ _ k))
args_typed scope (e ∷ es) (s ∷ ss) k = All-cons (IsTyped scope) e es (first_suits scope e (Some s) _ k).typed (args_typed scope es ss (others_kept _ _ k))

pub args_sorted : (scope : Sorts) (es : List Expr) (ss : List Sort) → Kept (argument_uses scope es ss) → length es ≡ length ss → map (sort_of scope) es ≡ map (λ (s : Sort). Some s) ss
args_sorted scope [] [] k n = refl
args_sorted scope [] (s ∷ ss) k n = absurd (omega (arith, n))
args_sorted scope (e ∷ es) [] k n = absurd (omega (arith, n))
args_sorted scope (e ∷ es) (s ∷ ss) k n =
    ap₂ (λ (o : Option Sort) (os : List (Option Sort)). o ∷ os) ((first_suits scope e (Some s) _ k).sorted s refl) (args_sorted scope es ss (others_kept _ _ k) (omega (arith, n)))

pub results_suit : (proc : Proc) (rs : List Name) (ss : List Sort) → results_missorted proc rs ss ≡ false → ResultsSuit proc rs ss
results_suit proc [] ss k = tt
results_suit proc (r ∷ rs) [] k = tt
results_suit proc (r ∷ rs) (s ∷ ss) k =
    let p = or_parts (not (serves (place_sort proc r) (Only s))) (results_missorted proc rs ss) k in
    let is = served_only (place_sort proc r) s (not-false (serves (place_sort proc r) (Only s)) p.0) in
    (λ t e. same_Some s t (sym is ∙ e), results_suit proc rs ss p.1)

-- what the rules say of a call with this signature
pub record CallKept (program : Program) (proc : Proc) (f : Name) (es : List Expr) (rs : List Name) : Type 0 where
  pub signature : Signature
  pub is : callee_signature program f ≡ Some signature
  pub args : Kept (argument_uses (body_scope program proc) es (param_sorts signature.params))
  pub long : length es ≡ length (param_sorts signature.params)
  pub given : length rs ≡ length signature.outs
  pub results : results_missorted proc rs (param_sorts signature.outs) ≡ false

the_signature : (o : Option Signature) → is_none o ≡ false → (x : Signature) × (o ≡ Some x)
the_signature None e = absurd (false≢true (sym e))
the_signature (Some x) e = (x, refl)

module _ (program : Program) (keeps : Keeps typing_rules program) (proc : Proc) (there : IsProcIn program proc) where
  pub call_kept : (number : ℕ) (s : Stmt) (f : Name) (es : List Expr) (rs : List Name) → statement_at proc.body number ≡ Some s → out-Stmt s ≡ stmt.Call f es rs → CallKept program proc f es rs
  call_kept number s f es rs at o =
      let known = ap (form_unknown program proc) (sym o) ∙ (or_parts (form_unknown program proc (out-Stmt s)) (any_unknown (stmt_uses program proc s)) (statement_kept typing_rules program keeps unknown_rule unknown_among (stmt_unknown program proc) there.0 proc there.1 refl number s at)).0 in
      let found = the_signature (callee_signature program f) (or_parts (is_none (callee_signature program f)) (list_any (place_unknown proc) rs) known).0 in
      let arity = ap (form_arity program) (sym o) ∙ statement_kept typing_rules program keeps arity_rule arity_among (stmt_arity program) there.0 proc there.1 refl number s at in
      let counted = subst (λ (x : Option Signature). call_arity es rs x ≡ false) found.1 arity in
      let same = eqb-true (length es) (length found.0.params) (not-false (nat_eq (length es) (length found.0.params)) (or_parts _ _ counted).0) in
      record {
        signature = found.0;
        is = found.1;
        args = subst (λ (x : Option Signature). Kept (argument_uses (body_scope program proc) es (taken_sorts x))) found.1 (form_kept program keeps proc there number s _ at o);
        long = same ∙ sym (length-map found.0.params (λ p. p.sort));
        given = eqb-true (length rs) (length found.0.outs) (not-false (nat_eq (length rs) (length found.0.outs)) (or_parts _ _ counted).1);
        results = subst (λ (x : Option Signature). results_missorted proc rs (given_sorts x) ≡ false) found.1 (results_kept program keeps proc there number s _ at o);
      }
