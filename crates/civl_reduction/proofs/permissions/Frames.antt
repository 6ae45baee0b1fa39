-- What a frame owns before and behind a call or a spawn, at its entry and at its exit.
use Rattle.std.proofs.Common.{◌≡◌, ℕ, zero, suc, ◌+◌, ◌≤◌, Bool, true, false, ◌||◌, List, [], ◌∷◌, ◌++◌, length, map, take, drop, refl, sym, ap, subst, arith, Some}
use Rattle.std.specs.Prelude.{Option, nat_eq, if◌then◌else◌}
use Rattle.std.specs.List.{list_any}
use Rattle.std.proofs.lemmas.Bool.{or_parts, not-false, eqb-true}
use Rattle.civl_bits.specs.declared.value.Value.{Value}
use Rattle.civl_tree.specs.declared.name.Name.{Name}
use Rattle.civl_tree.specs.declared.expr.Expr.{Expr}
use Rattle.civl_tree.specs.declared.action.Mode.{Mode}
use Rattle.civl_tree.specs.declared.action.Param.{Param}
use Rattle.civl_tree.specs.declared.stmt.Stmt.{Stmt, out-Stmt}
use Rattle.civl_tree.specs.declared.stmt.Stmt.TheOpen.{Stmt-F, Call}
use Rattle.civl_tree.specs.declared.program.Global.{Global}
use Rattle.civl_tree.specs.declared.program.Proc.{Proc}
use Rattle.civl_tree.specs.declared.program.Program.{Program}
use Rattle.civl_tree.specs.rules.Names.{Signature, any_twice, names_in_proc, callee_signature}
use Rattle.civl_tree.specs.rules.Twice.{form_twice}
use Rattle.civl_tree.specs.rules.Arity.{differs_in_length, call_arity, form_arity}
use Rattle.civl_firing.specs.Eval.{values_of}
use Rattle.civl_firing.specs.Scope.{frame_values}
use Rattle.civl_meaning.specs.Permissions.{permissions_of_word}
use Rattle.civl_meaning.specs.Change.{with_results, outs_in}
use Rattle.civl_linear.specs.Modes.{is_passed, is_taken, is_lent, is_given, at_modes, passed_names, given_names}
use Rattle.civl_linear.specs.Held.{holds, entry_held, exit_owed, without_names, call_held}
use Rattle.civl_linear.specs.Places.{not_held, any_misgiven, form_not_held, form_held_twice, form_assigned, passed_twice, given_to_held, any_not_held, call_misgiven}
use Rattle.civl_linear.specs.Lengths.{OneEach}
use Rattle.civl_linear.proofs.Beside.{without_names_each}
use Rattle.civl_conditions.specs.Permissions.{of_modes}
use Rattle.civl_reduction.proofs.permissions.Counting.{carriers}
use Rattle.civl_reduction.proofs.permissions.Flags.{IsWithin, amount, within_less, under, all_out, without_within}
use Rattle.civl_reduction.proofs.permissions.Putting.{all_back}
use Rattle.civl_reduction.proofs.permissions.Rules.{Facts}
use Rattle.civl_reduction.proofs.permissions.Linear.{IsLinear, linear_within}
use Rattle.civl_reduction.proofs.permissions.Args.{lent_passed, args_carry, args_held, rest_within}
use Rattle.civl_reduction.proofs.permissions.Results.{results_carry}

-- ---- at the entry and at the exit

no_flags : {A B : Type 0} (xs : List A) (ys : List B) → IsWithin (map (λ x. false) xs ++ map (λ y. false) ys) []
no_flags [] [] i e = absurd cc
no_flags [] (y ∷ ys) zero e = absurd cc
no_flags {A = A} [] (y ∷ ys) (suc i) e = no_flags {A = A} [] ys i e
no_flags (x ∷ xs) ys zero e = absurd cc
no_flags (x ∷ xs) ys (suc i) e = no_flags xs ys i e

entry_by : (p : ℕ) (ps : List Param) (flags : List Bool) (args others : List Value) → length args ≡ length ps → IsWithin flags [] → amount p (map (λ param. is_passed param.mode) ps ++ flags) (args ++ others) ≤ carriers p (of_modes is_passed ps args)
entry_by p [] flags [] others e n = let w = within_less p flags [] others n in omega (arith, w)
entry_by p [] flags (v ∷ vs) others e n = absurd (omega (arith, e))
entry_by p (q ∷ ps) flags [] others e n = absurd (omega (arith, e))
entry_by p (q ∷ ps) flags (v ∷ vs) others e n = go (is_passed q.mode) (entry_by p ps flags vs others (omega (arith, e)) n)
  where
    go : (b : Bool) → amount p (map (λ param. is_passed param.mode) ps ++ flags) (vs ++ others) ≤ carriers p (of_modes is_passed ps vs)
        → amount p (b ∷ (map (λ param. is_passed param.mode) ps ++ flags)) (v ∷ (vs ++ others)) ≤ carriers p ((if b then permissions_of_word v ∷ [] else []) ++ of_modes is_passed ps vs)
    go true ih = omega (arith, ih)
    go false ih = ih

-- a new frame holds the lend and take arguments
pub entry_carries : (p : ℕ) (proc : Proc) (args others : List Value) → length args ≡ length proc.params → amount p (entry_held proc) (args ++ others) ≤ carriers p (of_modes is_passed proc.params args)
entry_carries p proc args others e = entry_by p proc.params _ args others e (no_flags proc.outs proc.locals)

nothing_flagged : (p : ℕ) (g : List Bool) → amount p g [] ≡ 0
nothing_flagged p [] = refl
nothing_flagged p (b ∷ g) = refl

modes_part : (p : ℕ) (test : Mode → Bool) (ps : List Param) (g : List Bool) (vs : List Value) → carriers p (of_modes test ps (take (length ps) vs)) + amount p g (drop (length ps) vs) ≤ amount p (map (λ param. test param.mode) ps ++ g) vs
modes_part p test [] g vs = omega arith
modes_part p test (q ∷ ps) g [] = let n = nothing_flagged p g in omega (arith, n)
modes_part p test (q ∷ ps) g (v ∷ vs) = go (test q.mode) (modes_part p test ps g vs)
  where
    go : (b : Bool) → carriers p (of_modes test ps (take (length ps) vs)) + amount p g (drop (length ps) vs) ≤ amount p (map (λ param. test param.mode) ps ++ g) vs
        → carriers p ((if b then permissions_of_word v ∷ [] else []) ++ of_modes test ps (take (length ps) vs)) + amount p g (drop (length ps) vs) ≤ amount p (b ∷ (map (λ param. test param.mode) ps ++ g)) (v ∷ vs)
    go true ih = omega (arith, ih)
    go false ih = ih

-- at the exit the lend parameters and the give outputs are owned
pub exit_carries : (p : ℕ) (proc : Proc) (locals : List Value) → carriers p (of_modes is_lent proc.params (take (length proc.params) locals)) + carriers p (of_modes is_given proc.outs (outs_in proc locals)) ≤ amount p (exit_owed proc) locals
exit_carries p proc locals =
    let lent = modes_part p is_lent proc.params (map (λ out. is_given out.mode) proc.outs ++ map (λ declared. false) proc.locals) locals in
    let given = modes_part p is_given proc.outs (map (λ declared. false) proc.locals) (drop (length proc.params) locals) in
    omega (arith, lent, given)

-- ---- a call

-- a call with these arguments and results, where f is held before it
pub record CallFacts (proc : Proc) (signature : Signature) (es : List Expr) (rs : List Name) (f : List Bool) : Type 0 where
  pub held : list_any (not_held proc (names_in_proc proc) f) (at_modes is_passed signature.params es) ≡ false
  pub once : any_twice (passed_names is_passed signature.params es) ≡ false
  pub given : list_any (holds (names_in_proc proc) (without_names (passed_names is_taken signature.params es) (names_in_proc proc) f)) (given_names signature.outs rs) ≡ false
  pub right : any_misgiven proc signature.outs rs ≡ false
  pub results : any_twice rs ≡ false
  pub args_count : length es ≡ length signature.params
  pub results_count : length rs ≡ length signature.outs

same_length : {A B : Type 0} (xs : List A) (ys : List B) → differs_in_length xs ys ≡ false → length xs ≡ length ys
same_length xs ys e = eqb-true (length xs) (length ys) (not-false (nat_eq (length xs) (length ys)) e)

pub call_facts : (program : Program) (proc : Proc) (s : Stmt) (f : List Bool) → Facts program proc s f → (g : Name) (es : List Expr) (rs : List Name) → out-Stmt s ≡ Call g es rs → (signature : Signature) → callee_signature program g ≡ Some signature → CallFacts proc signature es rs f
call_facts program proc s f h g es rs q signature e =
    let names = names_in_proc proc in
    let o = h.once in
    let args = subst (λ (x : Option Signature). any_not_held proc names f x es ≡ false) e (subst (λ (d : Stmt-F Stmt). form_not_held program proc names d f ≡ false) q h.args) in
    let twice = or_parts _ _ (subst (λ (x : Option Signature). (passed_twice x es || given_to_held names f x es rs) ≡ false) e (subst (λ (d : Stmt-F Stmt). form_held_twice program names d f ≡ false) q o)) in
    let counts = or_parts _ _ (subst (λ (x : Option Signature). call_arity es rs x ≡ false) e (subst (λ (d : Stmt-F Stmt). form_arity program d ≡ false) q h.arity)) in
    record {
      held = args;
      once = twice.0;
      given = twice.1;
      right = subst (λ (x : Option Signature). call_misgiven proc x rs ≡ false) e (subst (λ (d : Stmt-F Stmt). form_assigned program proc d ≡ false) q h.targets);
      results = subst (λ (d : Stmt-F Stmt). form_twice d ≡ false) q h.results;
      args_count = same_length es signature.params counts.0;
      results_count = same_length rs signature.outs counts.1;
    }

-- ---- what is owned behind a call

module _ (globals : List Global) (proc : Proc) (names_once : any_twice (names_in_proc proc) ≡ false) (locals : List Value) (same : length locals ≡ length (names_in_proc proc)) (p : ℕ) where
  abbrev names : List Name
  names = names_in_proc proc

  -- without the lend and take arguments, and these
  pub hands_over : (ps : List Param) (es : List Expr) (f : List Bool) → list_any (not_held proc names f) (at_modes is_passed ps es) ≡ false → any_twice (passed_names is_passed ps es) ≡ false
      → amount p (without_names (passed_names is_passed ps es) names f) locals + carriers p (of_modes is_passed ps (values_of (frame_values globals proc locals) es)) ≤ amount p f locals
  hands_over ps es f h t =
      let out = all_out p names locals names_once (passed_names is_passed ps es) f t (args_held proc f ps es h) in
      let same_args = args_carry globals proc locals same is_passed (λ m e. e) f ps es h in
      subst (λ (l : List (List ℕ)). amount p (without_names (passed_names is_passed ps es) names f) locals + carriers p l ≤ amount p f locals) (sym same_args) out

  -- behind a call: what was kept, the lend arguments, and what the call gave
  pub takes_back : (signature : Signature) (es : List Expr) (rs : List Name) (f : List Bool) → CallFacts proc signature es rs f → IsLinear proc f → OneEach names f → (vals : List Value) → length vals ≡ length signature.outs
      → amount p (call_held names (Some signature) es rs f) (with_results names locals rs vals)
      ≤ amount p (without_names (passed_names is_passed signature.params es) names f) locals + carriers p (of_modes is_lent signature.params (values_of (frame_values globals proc locals) es)) + carriers p (of_modes is_given signature.outs vals)
  takes_back signature es rs f c l o vals n =
      let taken = without_names (passed_names is_taken signature.params es) names f in
      let kept = results_carry proc p names_once signature.outs rs vals taken locals c.results_count n c.results c.right c.given (linear_within proc taken f (without_within (passed_names is_taken signature.params es) names f) l) (without_names_each (passed_names is_taken signature.params es) names f o) in
      let back = all_back p names locals names_once (passed_names is_lent signature.params es) taken (without_names_each (passed_names is_taken signature.params es) names f o) in
      let less = within_less p _ (without_names (passed_names is_passed signature.params es) names f) locals (rest_within signature.params es names f) in
      let lent : carriers p (of_modes is_lent signature.params (values_of (frame_values globals proc locals) es)) ≡ carriers p (under names locals (passed_names is_lent signature.params es)) = ap (carriers p) (args_carry globals proc locals same is_lent lent_passed f signature.params es c.held) in
      omega (arith, kept, back, less, lent)
