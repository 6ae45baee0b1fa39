-- The notes of a checked program have their sorts: the invariants of steps, and those of cuts.
use Rattle.std.specs.Prelude.{not, slice_get}
use Rattle.std.specs.List.{list_any}
use Rattle.std.specs.Option.{option_map_or}
use Rattle.std.proofs.Common.{◌≡◌, ◌∙◌, ℕ, zero, suc, Bool, true, false, List, [], ◌∷◌, refl, sym, ap, Option, Some, None}
use Rattle.std.proofs.lemmas.Bool.{false≢true, not-false, or_parts}
use Rattle.civl_tree.specs.declared.expr.Expr.{Expr}
use Rattle.civl_tree.specs.declared.expr.Sort.{Sort}
use Rattle.civl_tree.specs.declared.expr.Sort.TheVariants.{Bool as Truth, Word, Row}
use Rattle.civl_tree.specs.declared.stmt.Stmt.{Stmt, out-Stmt}
use Rattle.civl_tree.specs.declared.stmt.Stmt.TheOpen as stmt
use Rattle.civl_tree.specs.declared.program.Invariant.{Invariant}
use Rattle.civl_tree.specs.declared.program.Proc.{Proc}
use Rattle.civl_tree.specs.declared.program.Program.{Program}
use Rattle.civl_tree.specs.Numbering.{statement_at}
use Rattle.civl_tree.specs.rules.Scopes.{Scope, global_scope, note_scope}
use Rattle.civl_tree.specs.rules.Sorts.{sort_of}
use Rattle.civl_tree.specs.rules.Exprs.{widths_fit, indices_fit}
use Rattle.civl_tree.specs.rules.Uses.{Use, AnyWord, serves, truth_use, form_uses, stmt_uses, invariant_uses}
use Rattle.civl_tree.specs.rules.Sorted.{any_missorted, stmt_missorted}
use Rattle.civl_tree.specs.rules.Width.{any_width}
use Rattle.civl_tree.specs.rules.Index.{any_index}
use Rattle.civl_tree.specs.rules.Rules.{Keeps}
use Rattle.civl_tree.specs.rules.Typing.{typing_rules, width_rule, sort_rule, index_rule}
use Rattle.civl_tree.proofs.Kept.{invariant_kept, statement_kept, width_among, sort_among, index_among}
use Rattle.civl_firing.proofs.Serving.{served_only}
use Rattle.civl_layers.specs.declared.cut.Cut.{Cut}
use Rattle.civl_layers.specs.declared.cut.CutKind.{CutKind}
use Rattle.civl_layers.specs.declared.cut.CutKind.TheVariants as kind
use Rattle.civl_actions.specs.Scopes.{IsTyped}
use Rattle.civl_actions.proofs.Rules.{Sound, typed_use}
use Rattle.civl_conditions.specs.Assumed.{layer_invariant, layer_rank, said_at, cut_invariant, cut_rank}
use Rattle.civl_states.specs.Notes.{IsProcIn}

-- ---- a list of expressions at their places

pub sound_sort : (scope : Scope) (e : Expr) → Sound (truth_use scope e) → sort_of scope e ≡ Some Truth
sound_sort scope e h = served_only (sort_of scope e) Truth h.serves_it

any_at : {A : Type 0} (p : A → Bool) (xs : List A) (i : ℕ) (x : A) → list_any p xs ≡ false → slice_get xs i ≡ Some x → p x ≡ false
any_at p [] i x e at = absurd (cc)
any_at p (y ∷ ys) zero x e at = let q : y ≡ x = cc in ap p (sym q) ∙ (or_parts (p y) (list_any p ys) e).0
any_at p (y ∷ ys) (suc i) x e at = any_at p ys i x (or_parts (p y) (list_any p ys) e).1 at

-- each of these expressions keeps the rules
pub sound_at : (uses : List Use) (i : ℕ) (u : Use) → any_missorted uses ≡ false → any_width uses ≡ false → any_index uses ≡ false → slice_get uses i ≡ Some u → Sound u
sound_at uses i u m w x at = record {
  serves_it = not-false _ (any_at (λ v. not (serves (sort_of v.scope v.expression) v.need)) uses i u m at);
  widths_it = not-false _ (any_at (λ v. not (widths_fit v.scope v.expression)) uses i u w at);
  indices_it = not-false _ (any_at (λ v. not (indices_fit v.expression)) uses i u x at);
}

module _ (program : Program) (keeps : Keeps typing_rules program) where
  -- ---- the invariants of steps

  module _ (place : ℕ) (i : Invariant) (at : slice_get program.invariants place ≡ Some i) where
    invariant_sound : Sound (truth_use (global_scope program) i.expr)
    invariant_sound = sound_at (invariant_uses program i) 0 _ (invariant_kept typing_rules program keeps sort_rule sort_among place i at) (invariant_kept typing_rules program keeps width_rule width_among place i at) (invariant_kept typing_rules program keeps index_rule index_among place i at) refl

    pub invariant_typed : IsTyped (global_scope program) i.expr
    invariant_typed = typed_use (truth_use (global_scope program) i.expr) invariant_sound

    pub invariant_truth : sort_of (global_scope program) i.expr ≡ Some Truth
    invariant_truth = sound_sort (global_scope program) i.expr invariant_sound

  -- ---- the notes of statements

  module _ (proc : Proc) (there : IsProcIn program proc) where
    pub stmt_sound : (number : ℕ) (s : Stmt) → statement_at proc.body number ≡ Some s → (i : ℕ) (u : Use) → slice_get (stmt_uses program proc s) i ≡ Some u → Sound u
    stmt_sound number s here i u at =
        sound_at (stmt_uses program proc s) i u
        (or_parts _ _ (statement_kept typing_rules program keeps sort_rule sort_among (stmt_missorted program proc) there.0 proc there.1 refl number s here)).0
        (statement_kept typing_rules program keeps width_rule width_among (λ t. any_width (stmt_uses program proc t)) there.0 proc there.1 refl number s here)
        (statement_kept typing_rules program keeps index_rule index_among (λ t. any_index (stmt_uses program proc t)) there.0 proc there.1 refl number s here) at

    -- the invariant of a statement that is a cut
    layer_use : (f : stmt.Stmt-F Stmt) (e : Expr) → layer_invariant f ≡ Some e → (i : ℕ) × (slice_get (form_uses program proc f) i ≡ Some (truth_use (note_scope program proc) e))
    layer_use (stmt.YieldLoop t v a) e q = let p : v ≡ e = cc in (1, ap (λ (x : Expr). Some (truth_use (note_scope program proc) x)) p)
    layer_use (stmt.RankLoop t r v a) e q = let p : v ≡ e = cc in (2, ap (λ (x : Expr). Some (truth_use (note_scope program proc) x)) p)
    layer_use (stmt.Yield v) e q = let p : v ≡ e = cc in (0, ap (λ (x : Expr). Some (truth_use (note_scope program proc) x)) p)
    layer_use (stmt.Assign x v) e q = absurd (cc)
    layer_use (stmt.Assert v) e q = absurd (cc)
    layer_use (stmt.If v a b) e q = absurd (cc)
    layer_use (stmt.While v a) e q = absurd (cc)
    layer_use (stmt.Call f es rs) e q = absurd (cc)
    layer_use stmt.Commit e q = absurd (cc)
    layer_use (stmt.Intro x v) e q = absurd (cc)
    layer_use (stmt.Spawn f es) e q = absurd (cc)

    rank_use : (f : stmt.Stmt-F Stmt) (e : Expr) → layer_rank f ≡ Some e → (i : ℕ) × (slice_get (form_uses program proc f) i ≡ Some (record { scope = note_scope program proc; expression = e; need = AnyWord }))
    rank_use (stmt.RankLoop t r v a) e q = let p : r ≡ e = cc in (1, ap (λ (x : Expr). Some (record { scope = note_scope program proc; expression = x; need = AnyWord })) p)
    rank_use (stmt.YieldLoop t v a) e q = absurd (cc)
    rank_use (stmt.Yield v) e q = absurd (cc)
    rank_use (stmt.Assign x v) e q = absurd (cc)
    rank_use (stmt.Assert v) e q = absurd (cc)
    rank_use (stmt.If v a b) e q = absurd (cc)
    rank_use (stmt.While v a) e q = absurd (cc)
    rank_use (stmt.Call f es rs) e q = absurd (cc)
    rank_use stmt.Commit e q = absurd (cc)
    rank_use (stmt.Intro x v) e q = absurd (cc)
    rank_use (stmt.Spawn f es) e q = absurd (cc)

    some_there : (f : stmt.Stmt-F Stmt → Option Expr) (o : Option Stmt) (e : Expr) → option_map_or (λ s. f (out-Stmt s)) o None ≡ Some e → (s : Stmt) × (o ≡ Some s) × (f (out-Stmt s) ≡ Some e)
    some_there f None e q = absurd (cc)
    some_there f (Some s) e q = (s, refl, q)

    -- what the statement of a cut says
    said_there : (f : stmt.Stmt-F Stmt → Option Expr) (number : ℕ) (k : CutKind) (e : Expr) → said_at f proc number k ≡ Some e → (s : Stmt) × (statement_at proc.body number ≡ Some s) × (f (out-Stmt s) ≡ Some e)
    said_there f number kind.Entry e q = absurd (cc)
    said_there f number kind.Yield e q = some_there f (statement_at proc.body number) e q
    said_there f number kind.YieldLoop e q = some_there f (statement_at proc.body number) e q
    said_there f number kind.RankLoop e q = some_there f (statement_at proc.body number) e q

    cut_sound : (cut : Cut) (e : Expr) → cut_invariant proc cut ≡ Some e → Sound (truth_use (note_scope program proc) e)
    cut_sound cut e q =
        let s = said_there layer_invariant cut.statement cut.kind e q in
        let u = layer_use (out-Stmt s.0) e s.2 in
        stmt_sound cut.statement s.0 s.1 u.0 (truth_use (note_scope program proc) e) u.1

    pub cut_typed : (cut : Cut) (e : Expr) → cut_invariant proc cut ≡ Some e → IsTyped (note_scope program proc) e
    cut_typed cut e q = typed_use (truth_use (note_scope program proc) e) (cut_sound cut e q)

    pub cut_truth : (cut : Cut) (e : Expr) → cut_invariant proc cut ≡ Some e → sort_of (note_scope program proc) e ≡ Some Truth
    cut_truth cut e q = sound_sort (note_scope program proc) e (cut_sound cut e q)

    pub rank_typed : (cut : Cut) (e : Expr) → cut_rank proc cut ≡ Some e → IsTyped (note_scope program proc) e
    rank_typed cut e q =
        let s = said_there layer_rank cut.statement cut.kind e q in
        let u = rank_use (out-Stmt s.0) e s.2 in
        typed_use (record { scope = note_scope program proc; expression = e; need = AnyWord }) (stmt_sound cut.statement s.0 s.1 u.0 (record { scope = note_scope program proc; expression = e; need = AnyWord }) u.1)

    pub rank_word : (cut : Cut) (e : Expr) → cut_rank proc cut ≡ Some e → (w : ℕ) × (sort_of (note_scope program proc) e ≡ Some (Word w))
    rank_word cut e q =
        let s = said_there layer_rank cut.statement cut.kind e q in
        let u = rank_use (out-Stmt s.0) e s.2 in
        any_word (sort_of (note_scope program proc) e) (stmt_sound cut.statement s.0 s.1 u.0 (record { scope = note_scope program proc; expression = e; need = AnyWord }) u.1).serves_it
      where
        any_word : (o : Option Sort) → serves o AnyWord ≡ true → (w : ℕ) × (o ≡ Some (Word w))
        any_word None h = absurd (false≢true h)
        any_word (Some Truth) h = absurd (false≢true h)
        any_word (Some (Word w)) h = (w, refl)
        any_word (Some (Row i w)) h = absurd (false≢true h)
