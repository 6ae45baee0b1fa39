-- What comes of going over statements has one entry for each of them.
use Rattle.std.proofs.Common.{◌≡◌, ℕ, suc, ◌+◌, Bool, true, false, ◌||◌, List, [], ◌∷◌, ◌++◌, map, length, None, Some, refl, sym, ap, ap₂, ◌∙◌, subst, arith}
use Rattle.std.specs.Prelude.{Option, filter, if◌then◌else◌}
use Rattle.std.proofs.lemmas.List.{length-append}
use Rattle.civl_tree.specs.declared.stmt.Stmt.{Stmt, roll-Stmt, out-roll-Stmt, map-Stmt}
use Rattle.civl_tree.specs.declared.stmt.Stmt.TheOpen.{Stmt-F, If, While, YieldLoop, RankLoop}
use Rattle.civl_tree.specs.declared.stmt.Stmt.TheFolds.{ind-Stmt}
use Rattle.civl_tree.specs.declared.program.Refines.{Refines}
use Rattle.civl_tree.specs.declared.program.Program.{Program}
use Rattle.civl_tree.specs.Numbering.{inner_of, statements_of}
use Rattle.civl_tree.proofs.Preorder.{inner_layer, inner_is}
use Rattle.civl_yields.specs.Phases.{Passed, passed, passed_all, phases_before, is_call, before_calls, phases_under}
use Rattle.civl_yields.specs.Places.{insides, insides_all}
use Rattle.civl_yields.specs.Lengths.{PhaseBeforeEach, EachIsInside, layered_calls, PhaseBeforeEachCall}
use Rattle.civl_yields.proofs.Examples.{passed_form, passed_is, inside_form, insides_is}

-- lists behind each other
both_long : {A : Type 0} (first second : List A) (xs ys : List Stmt) → length first ≡ length xs → length second ≡ length ys → length (first ++ second) ≡ length (xs ++ ys)
both_long first second xs ys h k = length-append first second ∙ ap₂ (λ (m n : ℕ). m + n) h k ∙ sym (length-append xs ys)

-- ---- phases

module _ (program : Program) where
  abbrev Phased : Stmt → Type 0
  Phased stmt = (left : Bool) → length (passed program stmt left).befores ≡ suc (length (inner_of stmt))

  parts_phased : {S : Type 0} (ys : List S) (v : S → Stmt) → ((s : S) → Phased (v s)) → (left : Bool) → length (passed_all program (map v ys) left).befores ≡ length (statements_of (map v ys))
  parts_phased [] v h left = refl
  parts_phased (y ∷ ys) v h left =
      let here = passed program (v y) left in
      both_long here.befores (passed_all program (map v ys) here.after).befores (v y ∷ inner_of (v y)) (statements_of (map v ys)) (h y left) (parts_phased ys v h here.after)

  form_phased : {S : Type 0} (form : Stmt-F S) (v : S → Stmt) → ((s : S) → Phased (v s)) → (left : Bool)
      → length (passed_form program (map-Stmt S Stmt v form) left).befores ≡ suc (length (inner_layer (map-Stmt S Stmt v form)))
  form_phased (If test first second) v h left =
      ap suc (both_long (passed_all program (map v first) left).befores (passed_all program (map v second) left).befores (statements_of (map v first)) (statements_of (map v second)) (parts_phased first v h left) (parts_phased second v h left))
  form_phased (While test body) v h left = ap suc (parts_phased body v h (left || (passed_all program (map v body) false).after))
  form_phased (YieldLoop test inv body) v h left = ap suc (parts_phased body v h false)
  form_phased (RankLoop test rank inv body) v h left = ap suc (parts_phased body v h (left || (passed_all program (map v body) false).after))
  form_phased _ v h left = refl

  phased : (stmt : Stmt) → Phased stmt
  phased stmt =
      ind-Stmt Phased (λ x y q left.
      let here = subst (λ (form : Stmt-F Stmt). length (passed_form program form left).befores ≡ suc (length (inner_layer form))) q (form_phased y (λ z. z.0) (λ z. z.1) left) in
      ap (λ (p : Passed). length p.befores) (passed_is program (roll-Stmt x) left ∙ ap (λ (form : Stmt-F Stmt). passed_form program form left) (out-roll-Stmt x))
      ∙ here ∙ sym (ap (λ (stmts : List Stmt). suc (length stmts)) (inner_is (roll-Stmt x) ∙ ap inner_layer (out-roll-Stmt x)))) stmt

  -- the phases before the statements of a body that is entered with this phase
  pub body_phased : (body : List Stmt) (left : Bool) → length (passed_all program body left).befores ≡ length (statements_of body)
  body_phased [] left = refl
  body_phased (stmt ∷ stmts) left =
      let here = passed program stmt left in
      both_long here.befores (passed_all program stmts here.after).befores (stmt ∷ inner_of stmt) (statements_of stmts) (phased stmt left) (body_phased stmts here.after)

pub phase_before_each : PhaseBeforeEach
phase_before_each program body = body_phased program body false

-- ---- rank loops

abbrev Told : Stmt → Type 0
Told stmt = (inside : Bool) → length (insides stmt inside) ≡ suc (length (inner_of stmt))

parts_told : {S : Type 0} (ys : List S) (v : S → Stmt) → ((s : S) → Told (v s)) → (inside : Bool) → length (insides_all (map v ys) inside) ≡ length (statements_of (map v ys))
parts_told [] v h inside = refl
parts_told (y ∷ ys) v h inside = both_long (insides (v y) inside) (insides_all (map v ys) inside) (v y ∷ inner_of (v y)) (statements_of (map v ys)) (h y inside) (parts_told ys v h inside)

form_told : {S : Type 0} (form : Stmt-F S) (v : S → Stmt) → ((s : S) → Told (v s)) → (inside : Bool) → length (inside_form (map-Stmt S Stmt v form) inside) ≡ suc (length (inner_layer (map-Stmt S Stmt v form)))
form_told (If test first second) v h inside =
    ap suc (both_long (insides_all (map v first) inside) (insides_all (map v second) inside) (statements_of (map v first)) (statements_of (map v second)) (parts_told first v h inside) (parts_told second v h inside))
form_told (While test body) v h inside = ap suc (parts_told body v h inside)
form_told (YieldLoop test inv body) v h inside = ap suc (parts_told body v h inside)
form_told (RankLoop test rank inv body) v h inside = ap suc (parts_told body v h true)
form_told _ v h inside = refl

told : (stmt : Stmt) → Told stmt
told stmt =
    ind-Stmt Told (λ x y q inside.
    let here = subst (λ (form : Stmt-F Stmt). length (inside_form form inside) ≡ suc (length (inner_layer form))) q (form_told y (λ z. z.0) (λ z. z.1) inside) in
    ap (length {A = Bool}) (insides_is (roll-Stmt x) inside ∙ ap (λ (form : Stmt-F Stmt). inside_form form inside) (out-roll-Stmt x))
    ∙ here ∙ sym (ap (λ (stmts : List Stmt). suc (length stmts)) (inner_is (roll-Stmt x) ∙ ap inner_layer (out-roll-Stmt x)))) stmt

pub each_is_inside : EachIsInside
each_is_inside [] inside = refl
each_is_inside (stmt ∷ stmts) inside = both_long (insides stmt inside) (insides_all stmts inside) (stmt ∷ inner_of stmt) (statements_of stmts) (told stmt inside) (each_is_inside stmts inside)

-- ---- calls

one_call : (call : Bool) (stmt : Stmt) (left : Bool) (phases : List Bool) (calls : List Stmt) → length phases ≡ length calls
    → length ((if call then left ∷ [] else []) ++ phases) ≡ length (if call then stmt ∷ calls else calls)
one_call true stmt left phases calls h = ap suc h
one_call false stmt left phases calls h = h

-- of the phases before statements, those before calls
pub before_each_call : (stmts : List Stmt) (phases : List Bool) → length phases ≡ length stmts → length (before_calls stmts phases) ≡ length (filter is_call stmts)
before_each_call [] phases h = refl
before_each_call (stmt ∷ stmts) [] h = absurd (omega (arith, h))
before_each_call (stmt ∷ stmts) (left ∷ phases) h =
    let rest : length phases ≡ length stmts = omega (arith, h) in
    one_call (is_call stmt) stmt left (before_calls stmts phases) (filter is_call stmts) (before_each_call stmts phases rest)

calls_phased : (program : Program) (refines : Option Refines) (body : List Stmt) → length (phases_under program refines body) ≡ length (layered_calls refines body)
calls_phased program None body = refl
calls_phased program (Some refines) body = before_each_call (statements_of body) (phases_before program body) (phase_before_each program body)

pub phase_before_each_call : PhaseBeforeEachCall
phase_before_each_call program proc = calls_phased program proc.refines proc.body
