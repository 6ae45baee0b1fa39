-- Where an outline fits: each hold says something of the topmost program's globals, and each note stands before a statement of a
-- root and says something of that place.
use Rattle.std.proofs.Common.{◌≡◌, ℕ, ◌+◌, ◌<◌, Bool, true, false, ◌&&◌, List, [], ◌∷◌, ◌++◌, length, find, Option, Some, None, refl, sym, ap, ◌∙◌, subst, arith}
use Rattle.std.specs.Prelude.{slice_get, nat_eq, nat_lt, if◌then◌else◌}
use Rattle.std.specs.Option.{option_map, option_map_or}
use Rattle.std.proofs.lemmas.Bool.{and_parts, false≢true, eqb-true, ltb-true}
use Rattle.std.proofs.lemmas.Option.{same_Some, none-some}
use Rattle.civl_tree.specs.declared.expr.Expr.{Expr}
use Rattle.civl_tree.specs.declared.program.Proc.{Proc}
use Rattle.civl_tree.specs.declared.program.Program.{Program}
use Rattle.civl_tree.specs.Numbering.{proc_item, sizes_of}
use Rattle.civl_tree.proofs.Lists.{none_left, none_right, none_hidden, found_one}
use Rattle.civl_conditions.specs.Steps.{each_at}
use Rattle.civl_conditions.proofs.Contained.{numbered}
use Rattle.civl_outlines.specs.declared.outline.Note.{Note}
use Rattle.civl_outlines.specs.declared.outline.Outline.{Outline}
use Rattle.civl_goals.specs.Outlines.{stands_before, written_before}
use Rattle.civl_goals.specs.Listed.{is_root}
use Rattle.civl_goals.specs.Rules.{says_of, hold_scope, outline_scope, root_at, stands_in, note_fits, misplaced, unfit_holds, unfit}
use Rattle.civl_safety.proofs.Listing.{each_none}

module _ (program : Program) where
  -- a note that is written among those that all fit
  written_fits : (test : Note → Bool) (earlier : List Note) (number : ℕ) (notes : List Note) → misplaced program earlier number notes ≡ [] → (note : Note) → find test notes ≡ Some note → (before : List Note) × (note_fits program before note ≡ true) × (test note ≡ true)
  written_fits test earlier number [] h note e = absurd (none-some note e)
  written_fits test earlier number (n ∷ ns) h note e = go (test n) refl e (λ k. written_fits test (earlier ++ n ∷ []) (number + 1) ns (none_right (if note_fits program earlier n then [] else number ∷ []) (misplaced program (earlier ++ n ∷ []) (number + 1) ns) h) note k)
    where
      here : note_fits program earlier n ≡ true
      here = none_hidden (note_fits program earlier n) number [] (none_left (if note_fits program earlier n then [] else number ∷ []) (misplaced program (earlier ++ n ∷ []) (number + 1) ns) h)

      go : (b : Bool) → test n ≡ b → (if b then Some n else find test ns) ≡ Some note → (find test ns ≡ Some note → (before : List Note) × (note_fits program before note ≡ true) × (test note ≡ true)) → (before : List Note) × (note_fits program before note ≡ true) × (test note ≡ true)
      go true t k later = let same = same_Some n note k in (earlier, subst (λ (x : Note). note_fits program earlier x ≡ true) same here, subst (λ (x : Note). test x ≡ true) same t)
      go false t k later = later k

  root_is : (item : ℕ) (proc : Proc) → root_at program item ≡ Some proc → (r : ℕ) × (slice_get program.procs r ≡ Some proc) × (proc_item program r ≡ item) × (is_root proc ≡ true)
  root_is item proc e = by_found (find (λ (q : ℕ × Proc). nat_eq (proc_item program q.0) item && is_root q.1) (each_at (λ r p. (r, p) ∷ []) 0 program.procs)) refl e
    where
      by_found : (o : Option (ℕ × Proc)) → find (λ (q : ℕ × Proc). nat_eq (proc_item program q.0) item && is_root q.1) (each_at (λ r p. (r, p) ∷ []) 0 program.procs) ≡ o → option_map (λ (q : ℕ × Proc). q.1) o ≡ Some proc
          → (r : ℕ) × (slice_get program.procs r ≡ Some proc) × (proc_item program r ≡ item) × (is_root proc ≡ true)
      by_found None f h = absurd (none-some proc h)
      by_found (Some q) f h =
          let one = found_one (λ (q : ℕ × Proc). nat_eq (proc_item program q.0) item && is_root q.1) (each_at (λ r p. (r, p) ∷ []) 0 program.procs) q f in
          let test = and_parts (nat_eq (proc_item program q.0) item) (is_root q.1) one.2 in
          let there = numbered program.procs 0 one.0 q one.1 in
          let same : q.1 ≡ proc = same_Some q.1 proc h in
          let n : there.0 ≡ q.0 = let m = there.2 in omega (arith, m) in (
            q.0,
            subst (λ (k : ℕ). slice_get program.procs k ≡ Some proc) n (there.1 ∙ ap (λ (p : Proc). Some p) same),
            eqb-true (proc_item program q.0) item test.0,
            subst (λ (p : Proc). is_root p ≡ true) same test.1,
          )

  module _ (outline : Outline) (fits : unfit program outline ≡ []) where
    -- a hold
    pub hold_says : (i : ℕ) (e : Expr) → slice_get outline.holds i ≡ Some e → says_of (hold_scope program) e ≡ true
    hold_says i e at =
        none_hidden (says_of (hold_scope program) e) i []
        (each_none (λ number x. if says_of (hold_scope program) x then [] else number ∷ []) 0 outline.holds i i e at (omega arith) (none_left (unfit_holds program outline.holds) (misplaced program [] (length outline.holds) outline.notes) fits))

    -- what is known of a note before a statement of this procedure
    pub record Written (r s : ℕ) (proc : Proc) (note : Note) : Type 0 where
      pub within : s < sizes_of proc.body
      pub says : says_of (outline_scope program proc) note.expr ≡ true
      pub root : is_root proc ≡ true

    pub written : (r s : ℕ) (proc : Proc) → slice_get program.procs r ≡ Some proc → (note : Note) → written_before program outline r s ≡ Some note → Written r s proc note
    written r s proc at note e =
        let w = written_fits (stands_before program r s) [] (length outline.holds) outline.notes (none_right (unfit_holds program outline.holds) (misplaced program [] (length outline.holds) outline.notes) fits) note e in
        let place = and_parts (nat_eq note.item (proc_item program r)) (nat_eq note.statement s) w.2 in
        let stood = (and_parts (option_map_or (stands_in program note) (root_at program note.item) false) _ w.1).0 in
        by_root (root_at program note.item) refl stood (eqb-true note.item (proc_item program r) place.0) (eqb-true note.statement s place.1)
      where
        by_root : (o : Option Proc) → root_at program note.item ≡ o → option_map_or (stands_in program note) o false ≡ true → note.item ≡ proc_item program r → note.statement ≡ s → Written r s proc note
        by_root None f h i n = absurd (false≢true h)
        by_root (Some p) f h i n =
            let root = root_is note.item p f in
            let item : proc_item program root.0 ≡ proc_item program r = root.2 ∙ i in
            let number : root.0 ≡ r = omega (arith, item) in
            let same : p ≡ proc = same_Some p proc (sym root.1 ∙ (ap (slice_get program.procs) number ∙ at)) in
            let parts = and_parts (nat_lt note.statement (sizes_of p.body)) (says_of (outline_scope program p) note.expr) h in
            let l = ltb-true note.statement (sizes_of p.body) parts.0 in
            record {
              within = subst (λ (q : Proc). s < sizes_of q.body) same (omega (arith, l, n));
              says = subst (λ (q : Proc). says_of (outline_scope program q) note.expr ≡ true) same parts.1;
              root = subst (λ (q : Proc). is_root q ≡ true) same root.3;
            }
