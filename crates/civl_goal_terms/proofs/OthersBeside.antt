-- Another thread's frame beside a statement.
use Rattle.std.specs.Prelude.{◌&&◌, map, get_or, slice_get, length}
use Rattle.std.specs.List.{list_all}
use Rattle.std.proofs.Common.{◌≡◌, ◌∙◌, ℕ, ◌+◌, Bool, true, false, List, [], ◌∷◌, ◌++◌, append_assoc, refl, sym, ap, ap₂, subst, Some}
use Rattle.std.proofs.lemmas.Bool.{false≢true, and_parts}
use Rattle.std.proofs.lemmas.List.{map-append, length-append, length-map}
use Rattle.civl_bits.specs.declared.value.Value.{Value}
use Rattle.civl_tree.specs.declared.stmt.Stmt.{Stmt, out-Stmt}
use Rattle.civl_tree.specs.declared.program.Proc.{Proc}
use Rattle.civl_tree.specs.declared.program.Program.{Program}
use Rattle.civl_tree.specs.Numbering.{statement_at}
use Rattle.civl_terms.specs.declared.node.Node.{Node}
use Rattle.civl_terms.specs.Graphs.{value_at}
use Rattle.civl_actions.specs.Actions.{values_at}
use Rattle.civl_states.specs.formula_parts.Said.{Env}
use Rattle.civl_meaning.specs.Permissions.{disjoint, pairwise_disjoint, permissions_of_word}
use Rattle.civl_conditions.specs.Permissions.{in_store}
use Rattle.civl_conditions.specs.Steps.{of_proc}
use Rattle.civl_states.proofs.Picking.{same_some}
use Rattle.civl_states.proofs.Variables.{there_is}
use Rattle.civl_outlines.specs.declared.outline.Outline.{Outline}
use Rattle.civl_goals.specs.Outlines.{invariant_holds, note_holds}
use Rattle.civl_goals.specs.Failed.{held_before, owned_in}
use Rattle.civl_goal_terms.specs.declared.others.Beside.{Beside}
use Rattle.civl_goal_terms.specs.declared.places.At.{At}
use Rattle.civl_goal_terms.specs.inner.Others.{other_frame, loses_note, violated_beside}
use Rattle.civl_goal_terms.specs.inner.Places.{IsAt}
use Rattle.civl_goal_terms.specs.inner.Settings.{Here, frame_at, done_by}
use Rattle.civl_goal_terms.specs.inner.There.{HasStatement, IsCall}

-- ---- some of what is disjoint

all_front : (p : List ℕ → Bool) (xs ys : List (List ℕ)) → list_all p (xs ++ ys) ≡ true → list_all p xs ≡ true
all_front p [] ys h = refl
all_front p (x ∷ xs) ys h = let k = and_parts (p x) (list_all p (xs ++ ys)) h in ap₂ (λ (a b : Bool). a && b) k.0 (all_front p xs ys k.1)

pub front_disjoint : (xs ys : List (List ℕ)) → pairwise_disjoint (xs ++ ys) ≡ true → pairwise_disjoint xs ≡ true
front_disjoint [] ys h = refl
front_disjoint (x ∷ xs) ys h =
    let k = and_parts (list_all (disjoint x) (xs ++ ys)) (pairwise_disjoint (xs ++ ys)) h in
    ap₂ (λ (a b : Bool). a && b) (all_front (disjoint x) xs ys k.0) (front_disjoint xs ys k.1)

pub first_disjoint : (xs ys zs : List (List ℕ)) → pairwise_disjoint (xs ++ (ys ++ zs)) ≡ true → pairwise_disjoint (xs ++ ys) ≡ true
first_disjoint xs ys zs h = front_disjoint (xs ++ ys) zs (ap pairwise_disjoint (append_assoc xs ys zs) ∙ h)

-- ---- the terms of what both hold

pub words_joined : (env : Env) (ns : List Node) (xs ys : List ℕ) → map permissions_of_word (values_at env ns (xs ++ ys)) ≡ map permissions_of_word (values_at env ns xs) ++ map permissions_of_word (values_at env ns ys)
words_joined env ns xs ys = ap (map permissions_of_word) (map-append (value_at env ns) xs ys) ∙ map-append permissions_of_word (values_at env ns xs) (values_at env ns ys)

pub words_long : (own held others more : List ℕ) → length (map (λ n. get_or own n 0) held ++ map (λ n. get_or others n 0) more) ≡ length held + length more
words_long own held others more =
    length-append (map (λ n. get_or own n 0) held) (map (λ n. get_or others n 0) more) ∙ ap₂ (λ (a b : ℕ). a + b) (length-map held (λ n. get_or own n 0)) (length-map more (λ n. get_or others n 0))

-- ---- put together

-- both are apart, and so is the first alone
pub sorted_out : (holds one other apart alone lost : Bool) → (apart ≡ true → alone ≡ true) → ((((holds && one) && other) && apart) && lost) ≡ ((holds && (one && alone)) && ((other && apart) && lost))
sorted_out false one other apart alone lost h = refl
sorted_out true false other apart alone lost h = refl
sorted_out true true false apart true lost h = refl
sorted_out true true false apart false lost h = refl
sorted_out true true true false true lost h = refl
sorted_out true true true false false lost h = refl
sorted_out true true true true true lost h = refl
sorted_out true true true true false lost h = absurd (false≢true (h refl))

-- what is tested is what violates the goal
pub beside_is : (program : Program) (outline : Outline) (at : At) (other : Beside) (here : Here) (locals : List Value) (owned others : List (List ℕ)) → owned ≡ owned_in program (frame_at at here) → others ≡ owned_in program (other_frame other locals)
    → ((((invariant_holds program outline here.store && note_holds program outline here.store (frame_at at here)) && note_holds program outline here.store (other_frame other locals)) && pairwise_disjoint (in_store program here.store ++ (owned ++ others)))
    && done_by program at (loses_note program outline (other_frame other locals)) here)
    ≡ violated_beside program outline at other here locals
beside_is program outline at other here locals owned others e f =
    ap₂ (λ (ps qs : List (List ℕ)).
    (((invariant_holds program outline here.store && note_holds program outline here.store (frame_at at here)) && note_holds program outline here.store (other_frame other locals)) && pairwise_disjoint (in_store program here.store ++ (ps ++ qs)))
    && done_by program at (loses_note program outline (other_frame other locals)) here) e f
    ∙ sorted_out (invariant_holds program outline here.store) (note_holds program outline here.store (frame_at at here)) (note_holds program outline here.store (other_frame other locals))
    (pairwise_disjoint (in_store program here.store ++ (owned_in program (frame_at at here) ++ owned_in program (other_frame other locals)))) (pairwise_disjoint (in_store program here.store ++ owned_in program (frame_at at here)))
    (done_by program at (loses_note program outline (other_frame other locals)) here) (first_disjoint (in_store program here.store) (owned_in program (frame_at at here)) (owned_in program (other_frame other locals)))

-- ---- where it stands

-- what is held before a statement, in the program that was found
pub held_there : (program src : Program) (r s : ℕ) (proc : Proc) (held : List ℕ) → program ≡ src → slice_get program.procs r ≡ Some proc → held ≡ of_proc src r [] (λ q. held_before src q s) → held ≡ held_before program proc s
held_there program src r s proc held same at e =
    e ∙ (ap (λ (p : Program). of_proc p r [] (λ q. held_before p q s)) (sym same) ∙ there_is (slice_get program.procs r) proc [] (λ (q : Proc). held_before program q s) at)

-- the call is what stands at its number
pub call_there : (program : Program) (at : At) → IsAt program at → (r s : ℕ) → at.root ≡ r → at.number ≡ s → (h : HasStatement program r s) → IsCall (out-Stmt h.stmt) → IsCall (out-Stmt at.stmt.now)
call_there program at is r s e f h call =
    let proc : h.proc ≡ at.proc.now = same_some _ h.proc at.proc.now (ap (slice_get program.procs) e ∙ h.there) is.proc in
    let stmt : h.stmt ≡ at.stmt.now = same_some _ h.stmt at.stmt.now (ap (λ (p : Proc). statement_at p.body at.number) (sym proc) ∙ (ap (statement_at h.proc.body) f ∙ h.is)) is.stmt in
    subst (λ (t : Stmt). IsCall (out-Stmt t)) stmt call
