-- What statements weigh, and where they lead.
use Rattle.std.proofs.Common.{◌≡◌, ℕ, zero, suc, ◌+◌, ◌<◌, ◌≤◌, false, List, [], ◌∷◌, ◌++◌, length, map, refl, sym, ap, ◌∙◌, subst, arith, Some, inl, inr}
use Rattle.std.specs.Prelude.{slice_get}
use Rattle.std.proofs.lemmas.Bool.{eq-eqb, ne_eqb, cases_lt}
use Rattle.std.proofs.lemmas.List.{length-map}
use Rattle.std.proofs.lemmas.Option.{same_Some, none-some}
use Rattle.civl_tree.specs.declared.stmt.Stmt.{Stmt, out-Stmt}
use Rattle.civl_tree.specs.declared.stmt.Stmt.TheOpen.{Stmt-F}
use Rattle.civl_tree.specs.declared.program.Proc.{Proc}
use Rattle.civl_tree.specs.declared.program.Program.{Program}
use Rattle.civl_tree.specs.Numbering.{size_of, sizes_of, statements_of}
use Rattle.civl_tree.proofs.Numbers.{sizes_are_counts}
use Rattle.civl_outlines.specs.declared.outline.Outline.{Outline}
use Rattle.civl_meaning.specs.Places.{is_skipped, spot_at}
use Rattle.civl_meaning.proofs.Spots.{spot_stands}
use Rattle.civl_conditions.specs.Variables.{of_params, of_locals}
use Rattle.civl_conditions.specs.Weights.{bits_of_variables}
use Rattle.civl_goals.specs.Variables.{of_names}
use Rattle.civl_goals.specs.Weights.{form_reaches, once, summed_at}
use Rattle.civl_weighing.specs.declared.weight.Weight.{Weight}
use Rattle.civl_weighing.specs.Weighing.{Weighs}
use Rattle.civl_weighing.proofs.Capping.{weighs_same}
use Rattle.civl_weights.proofs.sums.Groups.{two_groups}
use Rattle.civl_outlined.proofs.Owning.{get_before, get_last}
use Rattle.civl_outlined.specs.declared.places.Place.{Place}
use Rattle.civl_outlined.specs.declared.statements.StatementSums.{StatementSums}
use Rattle.civl_outlined.specs.declared.roots.ProcSums.{ProcSums}
use Rattle.civl_outlined.specs.inner.Places.{spot_of, ArePlaces}
use Rattle.civl_outlined.specs.inner.Sums.{OfStatement, IsThere, AreThere, OfProc, HasProc, AreProcs}

-- a number of a statement by its form
pub of_form : (f : Stmt-F Stmt → ℕ) (s : Stmt) (l : Stmt-F Stmt) {w : Weight} → out-Stmt s ≡ l → Weighs w (f l) → Weighs w (f (out-Stmt s))
of_form f s l o k = weighs_same (ap f (sym o)) k

-- ---- places that are reached

module _ (f : ℕ → ℕ) where
  pub once_same : (a b : ℕ) {w : Weight} → a ≡ b → Weighs w (f a) → Weighs w (summed_at f (once a b))
  once_same a b e h =
      let one : summed_at f (once a b) ≡ f a + 0 = rw (eq-eqb a b e) refl in
      weighs_same (omega (arith, one)) h

  pub once_both : (a b : ℕ) {w : Weight} → (a ≡ b → ⊥) → Weighs w (f a + f b) → Weighs w (summed_at f (once a b))
  once_both a b n h =
      let two : summed_at f (once a b) ≡ f a + (f b + 0) = rw (ne_eqb a b n) refl in
      weighs_same (omega (arith, two)) h

  pub reaches_one : (s : Stmt) (l : Stmt-F Stmt) (at next : ℕ) {w : Weight} → out-Stmt s ≡ l → form_reaches at next l ≡ next ∷ [] → Weighs w (f next) → Weighs w (summed_at f (form_reaches at next (out-Stmt s)))
  reaches_one s l at next o r h =
      let one : summed_at f (form_reaches at next (out-Stmt s)) ≡ f next + 0 = ap (λ (d : Stmt-F Stmt). summed_at f (form_reaches at next d)) o ∙ ap (summed_at f) r in
      weighs_same (omega (arith, one)) h

  pub reaches_two : (s : Stmt) (l : Stmt-F Stmt) (at next a b x y : ℕ) {w : Weight} → out-Stmt s ≡ l → form_reaches at next l ≡ once x y → a ≡ x → b ≡ y → Weighs w (summed_at f (once a b)) → Weighs w (summed_at f (form_reaches at next (out-Stmt s)))
  reaches_two s l at next a b x y o r e g h =
      weighs_same (ap (λ (p : ℕ). summed_at f (once p b)) e ∙ ap (λ (q : ℕ). summed_at f (once x q)) g ∙ ap (summed_at f) (sym r) ∙ ap (λ (d : Stmt-F Stmt). summed_at f (form_reaches at next d)) (sym o)) h

-- a statement that stands at a place ends before the body does
pub stands_within : (body : List Stmt) (number : ℕ) (stmt : Stmt) (next : ℕ) → spot_at body number ≡ Some (record { number = number; stmt = stmt; next = next }) → number + size_of stmt ≤ sizes_of body
stands_within body number stmt next e = (spot_stands body number (record { number = number; stmt = stmt; next = next }) e).inside

-- ---- frames

pub frame_is : (proc : Proc) (front : List ℕ) {p o l : ℕ} {w : Weight} → bits_of_variables (of_params front proc.params) ≡ p → bits_of_variables (of_params front proc.outs) ≡ o → bits_of_variables (of_locals front proc.locals) ≡ l → Weighs w (p + (o + l)) → Weighs w (bits_of_variables (of_names front proc))
frame_is proc front a b d h = weighs_same (two_groups (of_params front proc.params) _ a (sym (two_groups (of_params front proc.outs) (of_locals front proc.locals) b d))) h

-- ---- statements of a root

pub none_there : (program : Program) (outline : Outline) (r : ℕ) (proc : Proc) (all : List StatementSums) (count : ℕ) → count ≡ 0 → AreThere program outline r proc count all
none_there program outline r proc all count z = record { each = λ s l. absurd (omega arith) }

module _ (program : Program) (outline : Outline) (r : ℕ) (proc : Proc) where
  kept : (s : ℕ) (all new : List StatementSums) → slice_get new s ≡ slice_get all s → IsThere program outline r s proc all → IsThere program outline r s proc new
  kept s all new e h = record {
    stmt = h.stmt;
    next = h.next;
    sums = h.sums;
    spot = h.spot;
    statement = h.statement;
    found = e ∙ h.found;
    own = h.own;
  }

  pub one_there : (places : List Place) (number : ℕ) (place : Place) (all new : List StatementSums) (sums : StatementSums) → ArePlaces proc.body places → slice_get places number ≡ Some place → spot_at proc.body number ≡ Some (spot_of number place) → new ≡ all ++ sums ∷ [] →
      OfStatement program outline r number proc place.stmt.now place.next sums → length all ≡ number → AreThere program outline r proc number all → AreThere program outline r proc (number + 1) new
  one_there places number place all new sums are g at e own long h = record {
    each = λ s l. elim (cases_lt s number) [
      | inl before ↦ kept s all new (ap (λ (xs : List StatementSums). slice_get xs s) e ∙ get_before all sums s (omega (arith, long))) (h.each s before)
      | inr behind ↦ subst (λ (n : ℕ). IsThere program outline r n proc new) (omega arith) last
    ];
  }
    where
      last : IsThere program outline r number proc new
      last = record {
        stmt = place.stmt.now;
        next = place.next;
        sums = sums;
        spot = at;
        statement = ap (λ (ss : List Stmt). slice_get ss number) (sym are.statements) ∙ stmt_at places number place g;
        found = ap (λ (xs : List StatementSums). slice_get xs number) e ∙ get_last all sums number (sym long);
        own = own;
      }
        where
          stmt_at : (ps : List Place) (i : ℕ) (p : Place) → slice_get ps i ≡ Some p → slice_get (map (λ p. p.stmt.now) ps) i ≡ Some p.stmt.now
          stmt_at [] i p e = absurd (none-some p e)
          stmt_at (q ∷ ps) zero p e = ap (λ (x : Place). Some x.stmt.now) (same_Some q p e)
          stmt_at (q ∷ ps) (suc i) p e = stmt_at ps i p e

pub all_there : (program : Program) (outline : Outline) (r : ℕ) (proc : Proc) (places : List Place) (number : ℕ) (all : List StatementSums) → ArePlaces proc.body places → length places ≤ number → AreThere program outline r proc number all → AreThere program outline r proc (sizes_of proc.body) all
all_there program outline r proc places number all are l h =
    let count : length places ≡ sizes_of proc.body = sym (length-map places (λ p. p.stmt.now)) ∙ ap (length {A = Stmt}) are.statements ∙ sizes_are_counts proc.body in
    record { each = λ s b. h.each s (omega (arith, count, l)) }

pub places_are_few : (body : List Stmt) (places : List Place) → ArePlaces body places → sizes_of body < 4294967296 → length places < 4294967296
places_are_few body places are small =
    let count : length places ≡ sizes_of body = sym (length-map places (λ p. p.stmt.now)) ∙ ap (length {A = Stmt}) are.statements ∙ sizes_are_counts body in
    omega (arith, count, small)

-- a statement that a plain program has stands at its own number
pub stands_there : (body : List Stmt) (places : List Place) (number : ℕ) (place : Place) → ArePlaces body places → ((n : ℕ) (stmt : Stmt) → slice_get (statements_of body) n ≡ Some stmt → is_skipped stmt ≡ false) → slice_get places number ≡ Some place → spot_at body number ≡ Some (spot_of number place)
stands_there body places number place are plain g =
    are.spots number place g (plain number place.stmt.now (ap (λ (ss : List Stmt). slice_get ss number) (sym are.statements) ∙ stmt_at places number g))
  where
    stmt_at : (ps : List Place) (i : ℕ) → slice_get ps i ≡ Some place → slice_get (map (λ p. p.stmt.now) ps) i ≡ Some place.stmt.now
    stmt_at [] i e = absurd (none-some place e)
    stmt_at (q ∷ ps) zero e = ap (λ (x : Place). Some x.stmt.now) (same_Some q place e)
    stmt_at (q ∷ ps) (suc i) e = stmt_at ps i e

-- ---- procedures

pub none_procs : (program : Program) (outline : Outline) (all : List ProcSums) (count : ℕ) → count ≡ 0 → AreProcs program outline count all
none_procs program outline all count z = record { each = λ r proc l g. absurd (omega arith) }

module _ (program : Program) (outline : Outline) where
  had : (r : ℕ) (proc : Proc) (all new : List ProcSums) → slice_get new r ≡ slice_get all r → HasProc program outline r proc all → HasProc program outline r proc new
  had r proc all new e h = record { sums = h.sums; found = e ∙ h.found; own = h.own }

  pub one_proc : (number : ℕ) (own : Proc) (all new : List ProcSums) (sums : ProcSums) → slice_get program.procs number ≡ Some own → new ≡ all ++ sums ∷ [] → OfProc program outline number own sums → length all ≡ number → AreProcs program outline number all → AreProcs program outline (number + 1) new
  one_proc number own all new sums g e of long h = record {
    each = λ r proc l k. elim (cases_lt r number) [
      | inl before ↦ had r proc all new (ap (λ (xs : List ProcSums). slice_get xs r) e ∙ get_before all sums r (omega (arith, long))) (h.each r proc before k)
      | inr behind ↦
          let same : number ≡ r = omega arith in
          let it : own ≡ proc = same_Some own proc (sym g ∙ ap (slice_get program.procs) same ∙ k) in
          subst (λ (p : Proc). HasProc program outline r p new) it (subst (λ (n : ℕ). HasProc program outline n own new) same (record { sums = sums; found = ap (λ (xs : List ProcSums). slice_get xs number) e ∙ get_last all sums number (sym long); own = of }))
    ];
  }

pub all_of : (program : Program) (outline : Outline) (m n : ℕ) (all : List ProcSums) → n ≤ m → AreProcs program outline m all → AreProcs program outline n all
all_of program outline m n all l h = record { each = λ r proc b g. h.each r proc (omega (arith, l)) g }
