-- What is held where a frame stands after its next statement, by the form of the statement.
use Rattle.std.proofs.Common.{◌≡◌, ℕ, ◌+◌, ◌≤◌, Bool, false, not, ◌||◌, List, [], ◌∷◌, ◌++◌, length, refl, sym, ap, ◌∙◌, subst, arith, None, Some, slice_get}
use Rattle.std.specs.List.{list_any}
use Rattle.civl_tree.specs.declared.name.Name.{Name}
use Rattle.civl_tree.specs.declared.stmt.Stmt.{Stmt, out-Stmt}
use Rattle.civl_tree.specs.declared.stmt.Stmt.TheOpen.{Stmt-F, If, While, YieldLoop, RankLoop}
use Rattle.civl_tree.specs.declared.program.Proc.{Proc}
use Rattle.civl_tree.specs.declared.program.Program.{Program}
use Rattle.civl_tree.specs.Numbering.{sizes_of, numbered, statement_at}
use Rattle.civl_tree.specs.rules.Names.{names_in_proc}
use Rattle.civl_tree.specs.rules.Rules.{Keeps}
use Rattle.civl_tree.specs.rules.Typing.{typing_rules}
use Rattle.civl_tree.proofs.Numbers.{sizes_are_counts}
use Rattle.civl_meaning.specs.Places.{Spot, start_of, spot_at}
use Rattle.civl_meaning.specs.Rest.{Rest, rest_at, place_in}
use Rattle.civl_meaning.proofs.Rests.{spot_of_rest}
use Rattle.civl_linear.specs.Held.{Traced, traced, traced_all, both_held, covers}
use Rattle.civl_linear.specs.LinearRules.{linear_rules}
use Rattle.civl_linear.proofs.Examples.{traced_form, traced_is}
use Rattle.civl_linear.proofs.Beside.{body_beside}
use Rattle.civl_reduction.specs.permissions.Owned.{held_before}
use Rattle.civl_reduction.proofs.permissions.Flags.{IsWithin, covers_within, both_first, both_second}
use Rattle.civl_reduction.proofs.permissions.Tracing.{Tells, tells_left, tells_right, no_left, no_right, not_not, Inside, Holding, NoLoss, first_within, holding_more, list_holds}
use Rattle.civl_reduction.proofs.permissions.Rules.{Facts, facts}
use Rattle.civl_reduction.proofs.permissions.Linear.{IsLinear}
use Rattle.civl_reduction.proofs.permissions.Standing.{comes, ends, at_place, all_numbered, place_is, told_before, before_linear}

start_place : (end : ℕ) (ss : List Stmt) (at : ℕ) (k : Rest) → place_in end (numbered at ss ++ k) ≡ start_of ss at (place_in end k)
start_place end [] at k = refl
start_place end (s ∷ ss) at k = refl

module _ (program : Program) (typed : Keeps typing_rules program) (linear : Keeps linear_rules program) (i : ℕ) (proc : Proc) (at : slice_get program.procs i ≡ Some proc) where
  abbrev names : List Name
  names = names_in_proc proc

  abbrev H : ℕ → List Bool
  H = held_before program proc

  abbrev end : ℕ
  end = sizes_of proc.body

  -- where it stands behind a statement of this form
  abbrev pub GoesTo : ℕ → ℕ → Stmt-F Stmt → Type 0
  GoesTo n next (If e a b) = IsWithin (H (start_of a (n + 1) next)) (H n) × IsWithin (H (start_of b (n + 1 + sizes_of a) next)) (H n)
  GoesTo n next (While e a) = IsWithin (H (start_of a (n + 1) n)) (H n) × IsWithin (H next) (H n)
  GoesTo n next (YieldLoop e i a) = IsWithin (H (start_of a (n + 1) n)) (H n) × IsWithin (H next) (H n)
  GoesTo n next (RankLoop e r i a) = IsWithin (H (start_of a (n + 1) n)) (H n) × IsWithin (H next) (H n)
  GoesTo n next d = IsWithin (H next) (traced_form program names d (H n)).after

  module _ (n : ℕ) (s : Stmt) (inside : Inside program names H end n s) (rest : Rest) (behind : Holding program names H end rest (traced program names s (H n)).after) where
    at_start : (ss : List Stmt) (m : ℕ) (k : Rest) (held : List Bool) → Holding program names H end (numbered m ss ++ k) held → IsWithin (H (start_of ss m (place_in end k))) held
    at_start ss m k held h = subst (λ w. IsWithin (H w) held) (start_place end ss m k) (first_within program names H end (numbered m ss ++ k) held h)

    -- a loop's body, behind which the loop comes again
    loop_goes : (a : List Stmt) → Tells program names H end n (H n ∷ (traced_all program names a (H n)).befores) → (not (covers (H n) (traced_all program names a (H n)).after) || list_any (λ b. b) (traced_all program names a (H n)).losses) ≡ false
        → (traced program names s (H n)).after ≡ H n → IsWithin (H (start_of a (n + 1) n)) (H n) × IsWithin (H (place_in end rest)) (H n)
    loop_goes a tells losses same =
        let body = traced_all program names a (H n) in
        let lost = not_not program names H end (covers (H n) body.after) (list_any (λ b. b) body.losses) losses in
        let beside = body_beside names program a (H n) inside.each in
        let covered : IsWithin (H n) body.after = covers_within (H n) body.after (inside.each ∙ sym beside.after) lost.0 in
        let again : Holding program names H end ((n, s) ∷ rest) body.after = (covered, inside, behind) in
        let within = list_holds program names H end a (n + 1) ((n, s) ∷ rest) (H n) inside.each (tells_right program names H end n (n + 1) (H n ∷ []) body.befores (omega arith) tells) lost.1 again in
        (at_start a (n + 1) ((n, s) ∷ rest) (H n) within, subst (IsWithin (H (place_in end rest))) same (first_within program names H end rest _ behind))

    goes : (d : Stmt-F Stmt) → traced program names s (H n) ≡ traced_form program names d (H n) → GoesTo n (place_in end rest) d
    goes (If e a b) same =
        let first = traced_all program names a (H n) in
        let second = traced_all program names b (H n) in
        let beside = body_beside names program a (H n) inside.each in
        let all = subst (λ (t : Traced). Tells program names H end n t.befores) same inside.tells in
        let losses : list_any (λ x. x) (first.losses ++ second.losses) ≡ false = subst NoLoss same inside.kept in
        let parts = tells_right program names H end n (n + 1) (H n ∷ []) (first.befores ++ second.befores) (omega arith) all in
        let after : Holding program names H end rest (both_held first.after second.after) = subst (λ (t : Traced). Holding program names H end rest t.after) same behind in
        let size : length first.befores ≡ sizes_of a = beside.befores ∙ sizes_are_counts a in
        let one = list_holds program names H end a (n + 1) rest (H n) inside.each (tells_left program names H end (n + 1) first.befores second.befores parts) (no_left program names H end first.losses second.losses losses)
        (holding_more program names H end rest _ first.after (both_first first.after second.after) after) in
        let other = list_holds program names H end b (n + 1 + sizes_of a) rest (H n) inside.each (tells_right program names H end (n + 1) (n + 1 + sizes_of a) first.befores second.befores (omega (arith, size)) parts) (no_right program names H end first.losses second.losses losses)
        (holding_more program names H end rest _ second.after (both_second first.after second.after) after) in
        (at_start a (n + 1) rest (H n) one, at_start b (n + 1 + sizes_of a) rest (H n) other)
    goes (While e a) same = loop_goes a (subst (λ (t : Traced). Tells program names H end n t.befores) same inside.tells) (subst NoLoss same inside.kept) (ap (λ (t : Traced). t.after) same)
    goes (YieldLoop e i a) same = loop_goes a (subst (λ (t : Traced). Tells program names H end n t.befores) same inside.tells) (subst NoLoss same inside.kept) (ap (λ (t : Traced). t.after) same)
    goes (RankLoop e r i a) same = loop_goes a (subst (λ (t : Traced). Tells program names H end n t.befores) same inside.tells) (subst NoLoss same inside.kept) (ap (λ (t : Traced). t.after) same)
    goes _ same = subst (λ (t : Traced). IsWithin (H (place_in end rest)) t.after) same (first_within program names H end rest _ behind)

  -- all that is known of what a frame at this place comes to
  pub record Steps (w : ℕ) (spot : Spot) : Type 0 where
    pub flags : IsWithin (H spot.number) (H w)
    pub here : statement_at proc.body spot.number ≡ Some spot.stmt
    pub keeps : Facts program proc spot.stmt (H spot.number)
    pub are_linear : IsLinear proc (H spot.number)
    pub each : length (H spot.number) ≡ length (names_in_proc proc)
    pub goes : GoesTo spot.number spot.next (out-Stmt spot.stmt)

  own_first : (r : Rest) (held : List Bool) → Holding program names H end r held → Holding program names H end r (H (place_in end r))
  own_first [] held h = λ j e. e
  own_first ((n, s) ∷ k) held h = ((λ j e. e), h.1, h.2)

  holds_at : (w : ℕ) → w ≤ end → Holding program names H end (rest_at proc.body w) (H w)
  holds_at w h =
      let r = at_place program typed linear i proc at w in
      subst (λ m. Holding program names H end (rest_at proc.body w) (H m)) (place_is program typed linear i proc at w h) (own_first (rest_at proc.body w) r.0 r.1)

  pub steps : (w : ℕ) → w ≤ end → (spot : Spot) → spot_at proc.body w ≡ Some spot → Steps w spot
  steps w h spot e =
      let c = comes program typed linear i proc at (rest_at proc.body w) (H w) (holds_at w h) (all_numbered program typed linear i proc at w) spot (sym (spot_of_rest proc.body w) ∙ e) in
      let before = told_before program typed linear i proc at spot.number spot.stmt c.here in
      record {
        flags = c.flags;
        here = c.here;
        keeps = facts program typed linear i proc at spot.number spot.stmt (H spot.number) c.here before;
        are_linear = before_linear program typed linear i proc at spot.number (H spot.number) before;
        each = c.inside.each;
        goes = subst (λ m. GoesTo spot.number m (out-Stmt spot.stmt)) (sym c.next) (goes spot.number spot.stmt c.inside c.rest c.behind (out-Stmt spot.stmt) (traced_is program names spot.stmt (H spot.number)));
      }

  pub exits : (w : ℕ) → w ≤ end → spot_at proc.body w ≡ None → IsWithin (H end) (H w)
  exits w h e = ends program typed linear i proc at (rest_at proc.body w) (H w) (holds_at w h) (sym (spot_of_rest proc.body w) ∙ e)
