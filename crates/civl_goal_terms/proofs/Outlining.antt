-- The holds and notes of an outline that fits are bools where all globals are in scope.
use Rattle.std.proofs.Common.{◌≡◌, ℕ, ◌+◌, Bool, true, false, not, ◌&&◌, List, [], ◌∷◌, ◌++◌, length, find, Option, Some, None, refl, sym, ap, ◌∙◌, subst, arith}
use Rattle.std.specs.Prelude.{slice_get, nat_eq, nat_lt, is_some, All, if◌then◌else◌}
use Rattle.std.specs.Option.{option_map, option_map_or}
use Rattle.std.proofs.lemmas.Bool.{and_parts, false≢true, eqb-true}
use Rattle.std.proofs.lemmas.List.Elements.{All-nil, All-cons}
use Rattle.std.proofs.lemmas.Option.{same_Some, none-some}
use Rattle.civl_tree.specs.declared.name.Name.{Name}
use Rattle.civl_tree.specs.declared.expr.Expr.{Expr}
use Rattle.civl_tree.specs.declared.expr.Sort.{Sort}
use Rattle.civl_tree.specs.declared.expr.Sort.TheVariants.{Bool as Truth}
use Rattle.civl_tree.specs.declared.program.Proc.{Proc}
use Rattle.civl_tree.specs.declared.program.Program.{Program}
use Rattle.civl_tree.specs.Numbering.{proc_item, sizes_of}
use Rattle.civl_tree.specs.rules.Exprs.{names_known, widths_fit, indices_fit}
use Rattle.civl_tree.specs.rules.Rules.{Keeps}
use Rattle.civl_tree.specs.rules.Scopes.{Scope, sort_in, global_scope, note_scope}
use Rattle.civl_tree.specs.rules.Sorts.{sort_of, is_truth}
use Rattle.civl_tree.specs.rules.Typing.{typing_rules}
use Rattle.civl_tree.proofs.Lists.{none_left, none_right, none_hidden, found_one}
use Rattle.civl_firing.proofs.values.Sorting.{a_truth}
use Rattle.civl_layers.specs.Layered.{IsLayered}
use Rattle.civl_yields.specs.Places.{stray, no_leave}
use Rattle.civl_outlines.specs.declared.outline.Note.{Note}
use Rattle.civl_outlines.specs.declared.outline.Outline.{Outline}
use Rattle.civl_conditions.specs.Steps.{each_at}
use Rattle.civl_conditions.proofs.Contained.{numbered}
use Rattle.civl_states.specs.Notes.{HasType}
use Rattle.civl_goals.specs.Outlines.{exists_on_top, stands_before, written_before}
use Rattle.civl_goals.specs.Listed.{is_root}
use Rattle.civl_goals.specs.Rules.{says_of, hold_scope, outline_scope, root_at, stands_in, note_fits, misplaced, unfit_holds, unfit}
use Rattle.civl_goal_terms.specs.inner.Outlined.{IsOutlined}
use Rattle.civl_goal_terms.proofs.Scoping.{sort_alike, widths_alike, globals_larger, names_larger}

-- ---- an expression that says something of a place

no_olds : (n : Name) → is_some (sort_in [] n) ≡ true → ⊥
no_olds n e = false≢true e

said_type : (small big : Scope) (e : Expr) → ((n : Name) (s : Sort) → sort_in small.names n ≡ Some s → sort_in big.names n ≡ Some s) → ((n : Name) → is_some (sort_in small.olds n) ≡ true → ⊥) → says_of small e ≡ true → HasType big e Truth
said_type small big e names olds h =
    let known = and_parts (names_known small e) _ h in
    let widths = and_parts (widths_fit small e) _ known.1 in
    let truth = and_parts (is_truth (sort_of small e)) _ widths.1 in
    let indices = and_parts (indices_fit e) (not (stray no_leave e)) truth.1 in
    let sort : sort_of big e ≡ Some Truth = sym (sort_alike small big names olds e known.0) ∙ a_truth (sort_of small e) truth.0 in
    record {
      typed = record { sorted = ap is_some sort; widths = sym (widths_alike small big names olds e known.0) ∙ widths.0; indices = indices.0 };
      sorted = sort;
    }

-- ---- holds and notes

module _ (program : Program) (keeps : Keeps typing_rules program) where
  holds_typed : (at : ℕ) (holds : List Expr) → each_at (λ number e. if says_of (hold_scope program) e then [] else number ∷ []) at holds ≡ [] → All (λ e. HasType (global_scope program) e Truth) holds
  holds_typed at [] h = All-nil (λ e. HasType (global_scope program) e Truth)
  holds_typed at (e ∷ es) h =
      All-cons (λ x. HasType (global_scope program) x Truth) e es
      (said_type (hold_scope program) (global_scope program) e (globals_larger program keeps (exists_on_top program)) no_olds (none_hidden (says_of (hold_scope program) e) at [] (none_left _ _ h))) (holds_typed (at + 1) es (none_right _ _ h))

  -- a note that is written among those that all fit
  written_fits : (test : Note → Bool) (earlier : List Note) (number : ℕ) (notes : List Note) → misplaced program earlier number notes ≡ [] → (note : Note) → find test notes ≡ Some note → (before : List Note) × (note_fits program before note ≡ true) × (test note ≡ true)
  written_fits test earlier number [] h note e = absurd (none-some note e)
  written_fits test earlier number (n ∷ ns) h note e = go (test n) refl e (λ k. written_fits test (earlier ++ n ∷ []) (number + 1) ns (none_right (if note_fits program earlier n then [] else number ∷ []) (misplaced program (earlier ++ n ∷ []) (number + 1) ns) h) note k)
    where
      here : note_fits program earlier n ≡ true
      here = none_hidden (note_fits program earlier n) number [] (none_left (if note_fits program earlier n then [] else number ∷ []) (misplaced program (earlier ++ n ∷ []) (number + 1) ns) h)

      go : (b : Bool) → test n ≡ b → (if b then Some n else find test ns) ≡ Some note → (find test ns ≡ Some note → (before : List Note) × (note_fits program before note ≡ true) × (test note ≡ true)) → (before : List Note) × (note_fits program before note ≡ true) × (test note ≡ true)
      go true t k later = let same = same_Some n note k in (earlier, subst (λ (x : Note). note_fits program earlier x ≡ true) same here, subst (λ (x : Note). test x ≡ true) same t)
      go false t k later = later k

  abbrev is_it : ℕ → ℕ × Proc → Bool
  is_it item q = nat_eq (proc_item program q.0) item && is_root q.1

  abbrev pairs : List (ℕ × Proc)
  pairs = each_at (λ r proc. (r, proc) ∷ []) 0 program.procs

  root_is : (item : ℕ) (proc : Proc) → root_at program item ≡ Some proc → (r : ℕ) × (slice_get program.procs r ≡ Some proc) × (proc_item program r ≡ item)
  root_is item proc e = by_found (find (is_it item) pairs) refl e
    where
      by_found : (o : Option (ℕ × Proc)) → find (is_it item) pairs ≡ o → option_map (λ (q : ℕ × Proc). q.1) o ≡ Some proc → (r : ℕ) × (slice_get program.procs r ≡ Some proc) × (proc_item program r ≡ item)
      by_found None f h = absurd (none-some proc h)
      by_found (Some q) f h =
          let one = found_one (is_it item) pairs q f in
          let test = and_parts (nat_eq (proc_item program q.0) item) (is_root q.1) one.2 in
          let there = numbered program.procs 0 one.0 q one.1 in
          let same : q.1 ≡ proc = same_Some q.1 proc h in
          let n : there.0 ≡ q.0 = let m = there.2 in omega (arith, m) in
          (q.0, subst (λ (k : ℕ). slice_get program.procs k ≡ Some proc) n (there.1 ∙ ap (λ (p : Proc). Some p) same), eqb-true (proc_item program q.0) item test.0)

  module _ (outline : Outline) (fits : unfit program outline ≡ []) where
    note_typed : (r s : ℕ) (proc : Proc) (note : Note) → slice_get program.procs r ≡ Some proc → written_before program outline r s ≡ Some note → HasType (note_scope program proc) note.expr Truth
    note_typed r s proc note at e =
        let w = written_fits (stands_before program r s) [] (length outline.holds) outline.notes (none_right (unfit_holds program outline.holds) (misplaced program [] (length outline.holds) outline.notes) fits) note e in
        let place = and_parts (nat_eq note.item (proc_item program r)) (nat_eq note.statement s) w.2 in
        let stood = (and_parts (option_map_or (stands_in program note) (root_at program note.item) false) _ w.1).0 in
        by_root (root_at program note.item) refl stood (eqb-true note.item (proc_item program r) place.0)
      where
        by_root : (o : Option Proc) → root_at program note.item ≡ o → option_map_or (stands_in program note) o false ≡ true → note.item ≡ proc_item program r → HasType (note_scope program proc) note.expr Truth
        by_root None f h i = absurd (false≢true h)
        by_root (Some p) f h i =
            let root = root_is note.item p f in
            let item : proc_item program root.0 ≡ proc_item program r = root.2 ∙ i in
            let number : root.0 ≡ r = omega (arith, item) in
            let same : p ≡ proc = same_Some p proc (sym root.1 ∙ (ap (slice_get program.procs) number ∙ at)) in
            let parts = and_parts (nat_lt note.statement (sizes_of p.body)) (says_of (outline_scope program p) note.expr) h in
            said_type (outline_scope program proc) (note_scope program proc) note.expr (names_larger program keeps (exists_on_top program) r proc at) no_olds (subst (λ (q : Proc). says_of (outline_scope program q) note.expr ≡ true) same parts.1)

    pub outlined : IsOutlined program outline
    outlined = record {
      holds = holds_typed 0 outline.holds (none_left (unfit_holds program outline.holds) (misplaced program [] (length outline.holds) outline.notes) fits);
      notes = note_typed;
    }

-- in the same program
module _ (program src : Program) (same : program ≡ src) (layered : IsLayered program) (outline : Outline) (fits : unfit src outline ≡ []) where
  pub outlined_there : IsOutlined src outline
  outlined_there = outlined src (subst (Keeps typing_rules) same layered.rules) outline fits

  pub outlined_here : IsOutlined program outline
  outlined_here = subst (λ (p : Program). IsOutlined p outline) (sym same) outlined_there
