-- The path from a cut is that of the frame that goes on from there.
use Rattle.std.proofs.Common.{◌≡◌, ℕ, zero, suc, ◌+◌, Bool, true, false, List, [], ◌∷◌, ◌++◌, refl, sym, ap, ◌∙◌, subst, arith, Option, None, Some, append-nil}
use Rattle.std.proofs.lemmas.Option.{none-some}
use Rattle.std.specs.Prelude.{if◌then◌else◌, slice_get, drop}
use Rattle.std.specs.Option.{option_map_or}
use Rattle.civl_tree.specs.declared.expr.Expr.{Expr}
use Rattle.civl_tree.specs.declared.stmt.Stmt.{Stmt, out-Stmt}
use Rattle.civl_tree.specs.declared.stmt.Stmt.TheOpen as stmt
use Rattle.civl_tree.specs.declared.program.Refines.{Refines}
use Rattle.civl_tree.specs.Numbering.{sizes_of, numbered, statements_of}
use Rattle.civl_layers.specs.declared.cut.Cut.{Cut}
use Rattle.civl_layers.specs.declared.cut.CutKind.{CutKind}
use Rattle.civl_layers.specs.declared.cut.CutKind.TheVariants as kind
use Rattle.civl_layers.specs.Cuts.{form_cut, cut_kind, cut_at, cuts_among, cuts_below}
use Rattle.civl_meaning.specs.Places.{Spot, skip_layer, start_of, spot_at}
use Rattle.civl_meaning.specs.Rest.{Rest, rest_at, place_in, head_of}
use Rattle.civl_meaning.specs.Change.{done_by, statement_doing}
use Rattle.civl_meaning.proofs.Rests.{rest_none, spot_of_rest}
use Rattle.civl_conditions.specs.paths.Paths.{Course, Progress, Past, tested, pass_all, from_layer, from_rest, from_kind, path_from}
use Rattle.civl_conditions.specs.paths.Runs.{Advance, Ends, Stands, advance_by, spot_does, Reaches, begins_by, begins_at, PathsBeginAtCuts}
use Rattle.civl_conditions.proofs.paths.Passing.{from_yield, from_yield_loop, from_rank_loop}
use Rattle.civl_conditions.proofs.paths.Belonging.{Belongs, at_first, all_belong, own_place, start_place, yield_loop_covered, rank_loop_covered, rest_belongs}
use Rattle.civl_conditions.proofs.paths.Heading.{number_begins}

-- ---- the statement of a cut

-- a cut among these statements: its place there, and the statement, which is of its kind
record CutOf (number : ℕ) (stmts : List Stmt) (cut : Cut) : Type 0 where
  place : ℕ
  stmt : Stmt
  there : slice_get stmts place ≡ Some stmt
  numbered : cut.statement ≡ number + place
  of_kind : cut_kind stmt ≡ Some cut.kind

later_cut : (number : ℕ) (s : Stmt) (ss : List Stmt) (cut : Cut) → CutOf (number + 1) ss cut → CutOf number (s ∷ ss) cut
later_cut number s ss cut h = record { place = suc h.place; stmt = h.stmt; there = h.there; numbered = omega (arith, h.numbered); of_kind = h.of_kind }

cut_of : (number : ℕ) (stmts : List Stmt) (i : ℕ) (cut : Cut) → slice_get (cuts_among number stmts) i ≡ Some cut → CutOf number stmts cut
unfolding cuts_among
cut_of number [] i cut e = absurd (none-some cut e)
cut_of number (s ∷ ss) i cut e = by_kind (cut_kind s) refl i (λ j f. cut_of (number + 1) ss j cut f) e
  where
    by_kind : (o : Option CutKind) → cut_kind s ≡ o → (i : ℕ) → ((j : ℕ) → slice_get (cuts_among (number + 1) ss) j ≡ Some cut → CutOf (number + 1) ss cut) → slice_get (cut_at number o ++ cuts_among (number + 1) ss) i ≡ Some cut → CutOf number (s ∷ ss) cut
    by_kind None k i later e = later_cut number s ss cut (later i e)
    by_kind (Some kind) k (suc i) later e = later_cut number s ss cut (later i e)
    by_kind (Some kind) k zero later e =
        let same : record { statement = number; kind = kind } ≡ cut = cc in
        record { place = 0; stmt = s; there = refl; numbered = sym (ap (λ (cut : Cut). cut.statement) same) ∙ omega arith; of_kind = k ∙ ap (λ (cut : Cut). Some cut.kind) same }

-- ---- where the frame stands

entry_is : (body : List Stmt) → rest_at body 0 ≡ numbered 0 body
entry_is [] = rest_none 0 [] 0
entry_is (s ∷ ss) = at_first s ss 0 [] 0 refl ∙ append-nil (numbered 0 (s ∷ ss))

module _ (c : Course) (at : ℕ) (s : Stmt) (k : Rest) (h : Belongs c.proc.body ((at, s) ∷ k)) (p : Progress) where
  abbrev next : ℕ
  next = place_in (sizes_of c.proc.body) k

  yield_begins : (d : stmt.Stmt-F Stmt) → form_cut d ≡ Some kind.Yield → pass_all c (rest_at c.proc.body next) p ≡ from_layer c d ((at, s) ∷ k) p
  yield_begins (stmt.Yield i) e = ap (λ (r : Rest). pass_all c r p) (own_place c.proc.body k h.1) ∙ sym (from_yield c i ((at, s) ∷ k) p)
  yield_begins _ e = absurd (cc)

  -- the first step of a loop, by its layer
  abbrev loop_steps : stmt.Stmt-F Stmt → Advance
  loop_steps d = advance_by p (done_by c.plain p.store (c.chosen at) (statement_doing c.plain c.proc p.locals at next d))

  loop_begins : (e : Expr) (a : List Stmt) (t : Bool) → Belongs c.proc.body (numbered (at + 1) a ++ (at, s) ∷ k) →
      pass_all c (rest_at c.proc.body (if t then start_of a (at + 1) at else next)) p ≡ (if t then pass_all c (numbered (at + 1) a ++ (at, s) ∷ k) p else pass_all c k p)
  loop_begins e a true g = ap (λ (r : Rest). pass_all c r p) (start_place c.proc.body a (at + 1) ((at, s) ∷ k) g)
  loop_begins e a false g = ap (λ (r : Rest). pass_all c r p) (own_place c.proc.body k h.1)

  yield_loop_begins : (d : stmt.Stmt-F Stmt) → out-Stmt s ≡ d → form_cut d ≡ Some kind.YieldLoop → (skip_layer d ≡ false) × Reaches c (loop_steps d) (from_layer c d ((at, s) ∷ k) p)
  yield_loop_begins (stmt.YieldLoop e i a) o f =
      (refl, loop_begins e a (tested c e p) (all_belong c.proc.body a (at + 1) ((at, s) ∷ k) (yield_loop_covered c.proc.body s at k e i a o h.0) h) ∙ sym (from_yield_loop c e i a ((at, s) ∷ k) p))
  yield_loop_begins _ o f = absurd (cc)

  rank_loop_begins : (d : stmt.Stmt-F Stmt) → out-Stmt s ≡ d → form_cut d ≡ Some kind.RankLoop → (skip_layer d ≡ false) × Reaches c (loop_steps d) (from_layer c d ((at, s) ∷ k) p)
  rank_loop_begins (stmt.RankLoop e r i a) o f =
      (refl, loop_begins e a (tested c e p) (all_belong c.proc.body a (at + 1) ((at, s) ∷ k) (rank_loop_covered c.proc.body s at k e r i a o h.0) h) ∙ sym (from_rank_loop c e r i a ((at, s) ∷ k) p))
  rank_loop_begins _ o f = absurd (cc)

  -- the same at what stands there
  abbrev spot_steps : Option Spot → Advance
  spot_steps o = option_map_or (λ s. advance_by p (spot_does c s p)) o (Ends (Past p))

  at_spot : rest_at c.proc.body at ≡ (at, s) ∷ k → (skip_layer (out-Stmt s) ≡ false) × Reaches c (loop_steps (out-Stmt s)) (from_layer c (out-Stmt s) ((at, s) ∷ k) p) → Reaches c (spot_steps (spot_at c.proc.body at)) (from_rest c (rest_at c.proc.body at) p)
  at_spot e g =
      let here : spot_at c.proc.body at ≡ Some (record { number = at; stmt = s; next = next }) = spot_of_rest c.proc.body at ∙ ap (head_of (sizes_of c.proc.body)) e ∙ ap (λ (b : Bool). if b then head_of (sizes_of c.proc.body) k else Some (record { number = at; stmt = s; next = next })) g.0 in
      subst (λ (r : Rest). Reaches c (spot_steps (spot_at c.proc.body at)) (from_rest c r p)) (sym e)
      (subst (λ (o : Option Spot). Reaches c (spot_steps o) (from_layer c (out-Stmt s) ((at, s) ∷ k) p)) (sym here) g.1)

  -- by the kind of the cut that this statement is
  cut_begins : rest_at c.proc.body at ≡ (at, s) ∷ k → (kind : CutKind) → cut_kind s ≡ Some kind → Reaches c (begins_by c at kind p) (from_kind c at kind p)
  cut_begins e kind.Entry o = ap (λ (r : Rest). pass_all c r p) (entry_is c.proc.body)
  cut_begins e kind.Yield o =
      subst (λ (r : Rest). Reaches c (Stands (record { place = place_in (sizes_of c.proc.body) (drop 1 r); state = p })) (from_rest c r p)) (sym e) (yield_begins (out-Stmt s) o)
  cut_begins e kind.YieldLoop o = at_spot e (yield_loop_begins (out-Stmt s) refl o)
  cut_begins e kind.RankLoop o = at_spot e (rank_loop_begins (out-Stmt s) refl o)

-- ---- the cuts of a procedure

among_begin : (c : Course) (i : ℕ) (cut : Cut) (p : Progress) → slice_get (cuts_among 0 (statements_of c.proc.body)) i ≡ Some cut → Reaches c (begins_at c cut p) (from_kind c cut.statement cut.kind p)
among_begin c i cut p e =
    let of = cut_of 0 (statements_of c.proc.body) i cut e in
    let numbered = of.numbered in
    let place : cut.statement ≡ of.place = omega arith in
    let first = number_begins c.proc.body cut.statement of.stmt (ap (slice_get (statements_of c.proc.body)) place ∙ of.there) in
    cut_begins c cut.statement of.stmt first.0 (subst (Belongs c.proc.body) first.1 (rest_belongs c.proc.body cut.statement)) p first.1 cut.kind of.of_kind

below_begin : (c : Course) (o : Option Refines) (i : ℕ) (cut : Cut) (p : Progress) → slice_get (cuts_below o c.proc.body) i ≡ Some cut → Reaches c (begins_at c cut p) (from_kind c cut.statement cut.kind p)
below_begin c None i cut p e = absurd (none-some cut e)
below_begin c (Some refines) zero cut p e =
    let same : record { statement = 0; kind = kind.Entry } ≡ cut = cc in
    subst (λ (cut : Cut). Reaches c (begins_at c cut p) (from_kind c cut.statement cut.kind p)) same (ap (λ (r : Rest). pass_all c r p) (entry_is c.proc.body))
below_begin c (Some refines) (suc i) cut p e = among_begin c i cut p e

pub paths_begin_at_cuts : PathsBeginAtCuts
unfolding path_from
paths_begin_at_cuts c number cut p e = below_begin c c.proc.refines number cut p e
