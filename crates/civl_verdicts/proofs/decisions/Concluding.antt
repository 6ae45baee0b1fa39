-- What the clauses that stand for a term tell of the formula whose term it is.
use Rattle.std.specs.Prelude.{slice_get, All, IsTrue}
use Rattle.std.proofs.Common.{◌≡◌, ◌∙◌, ℕ, ◌+◌, ◌*◌, ◌<◌, ◌≤◌, ◌^◌, Bool, false, List, length, sym, ap, subst, arith, Some}
use Rattle.std.proofs.lemmas.List.Elements.{All-from_get_or}
use Rattle.std.proofs.lemmas.Option.{slice_get-get_or, same_Some}
use Rattle.std.proofs.lemmas.Bool.{false_from_ne_true}
use Rattle.civl_bits.specs.declared.value.Value.{Value}
use Rattle.civl_tree.specs.declared.expr.Sort.{Sort}
use Rattle.civl_firing.specs.values.Values.{HasSort, HaveSorts, is_sort, is_true}
use Rattle.civl_cnf.specs.Literal.{Literal}
use Rattle.civl_cnf.specs.ClauseSet.{ClauseSet, Satisfies}
use Rattle.civl_rup.specs.Rup.{Spends, IsUnsatisfiable}
use Rattle.civl_symbolic.specs.Symbolic.{Shows}
use Rattle.civl_terms.specs.declared.node.Node.{Node}
use Rattle.civl_terms.specs.Graphs.{Fits, listed, value_at}
use Rattle.civl_terms.specs.Weights.{graph_weight, term_weight}
use Rattle.civl_blast.specs.declared.blasted.Place.{Place}
use Rattle.civl_blast.specs.Standing.{ShowAll, NamesCells, StandsFor, GivesValues, IsSmall}
use Rattle.civl_blast.proofs.Telling.{bits_give_values, satisfiable_where_true, places_decide}
use Rattle.civl_states.specs.formula_parts.Given.{AreVariablesOf}
use Rattle.civl_verdicts.specs.Formulas.{Formula, StandsForFormula}
use Rattle.civl_verdicts.specs.models.Reading.{IsCellPlace, FitAt, AreRead}
use Rattle.civl_verdicts.specs.inner.models.Zeros.{zeros_of}
use Rattle.civl_verdicts.proofs.models.Placing.{sort_of_place}
use Rattle.civl_verdicts.proofs.models.ReadingAll.{read_all, are_read}
use Rattle.civl_verdicts.specs.decisions.Numbered.{bits_together}
use Rattle.civl_verdicts.specs.decisions.Decided.{IsTermOf, IsDecided}
use Rattle.civl_terms.specs.Building.{Lengthens}
use Rattle.civl_verdicts.specs.inner.decisions.Answered.{IsAnswered}
use Rattle.civl_verdicts.specs.declared.decisions.decision.Decision.{Decision}
use Rattle.civl_verdicts.specs.declared.decisions.decision.Decision.TheVariants.{Never, At, Spent}

module _ (ns : List Node) (id : ℕ) (sorts : List Sort) (v_is : AreVariablesOf ns sorts) where
  pub fits_listed : (values : List Value) → HaveSorts values sorts → Fits (listed values) ns
  fits_listed values h i k s e = sort_of_place values sorts k s h (v_is i k s e)

  module _ (set : ClauseSet) (places : List Place) (stands : StandsFor ns id set places) (gives : GivesValues ns places) where
    -- refuted clauses: the term is never true
    pub never_true : IsUnsatisfiable set.clauses → (values : List Value) → HaveSorts values sorts → is_true (value_at (listed values) ns id) ≡ false
    never_true none values h = false_from_ne_true _ (λ t. let found = (satisfiable_where_true ns id set places gives stands).1 (listed values, fits_listed values h, t) in none found.0 found.1)

    module _ (names : NamesCells ns id set.variables places) where
      -- each place is that of a cell of one of the variables
      pub cell_places : (count : ℕ) → set.variables ≤ count → All (IsCellPlace sorts count) places
      cell_places count l = All-from_get_or (IsCellPlace sorts count) places (record { variable = 0; cell = 0; first = 0 }) (λ p k.
          let d : Place = record { variable = 0; cell = 0; first = 0 } in
          let here = names.only p _ (slice_get-get_or places p d k) in
          record { sort = here.1; there = v_is here.0 _ here.1 here.3; cell = here.4; room = omega (arith, here.5, l) })

      fit_at : (env : ℕ → Value) → Fits env ns → FitAt sorts places env
      fit_at env fits = All-from_get_or (λ p. (s : Sort) → slice_get sorts p.variable ≡ Some s → HasSort (env p.variable) s) places (record { variable = 0; cell = 0; first = 0 }) (λ p k s e.
          let d : Place = record { variable = 0; cell = 0; first = 0 } in
          let here = names.only p _ (slice_get-get_or places p d k) in
          subst (HasSort _) (same_Some here.1 s (sym (v_is here.0 _ here.1 here.3) ∙ e)) (fits here.0 _ here.1 here.3))

      -- values that are read from bits that make the clauses true make the term true
      pub true_where_read : (v : ℕ → Bool) (values : List Value) → Satisfies v set.clauses → AreRead sorts places v values → IsTrue (is_true (value_at (listed values) ns id))
      true_where_read v values sat read =
          let b = bits_give_values ns id set places gives stands v sat in
          let agree = read.shown b.0 (fit_at b.0 b.1) b.2 in
          places_decide ns id set places stands (listed values) b.0 (fits_listed values read.sorted) b.1 agree ∙ b.3

      -- the clauses stand for the formula
      module _ (limits : All (λ s. IsTrue (is_sort s)) sorts) (formula : Formula) (term : IsTermOf ns id sorts formula) (small : IsSmall set (4 * term_weight ns id + 2)) (less : term_weight ns id ≤ graph_weight ns) where
        sorted : {values : List Value} → HaveSorts values formula.sorts → HaveSorts values sorts
        sorted {values} h = subst (HaveSorts values) term.same h

        shows : (v : ℕ → Bool) (values : List Value) → AreRead sorts places v values → ShowAll v places (listed values)
        shows v values read =
            let b = gives v in
            let agree = read.shown b.0 (fit_at b.0 b.1) b.2 in
            λ i d l. subst (Shows v _) (sym (agree i d l)) (b.2 i d l)

        pub stands_for : StandsForFormula formula set
        stands_for = record {
          places = places;
          encodes = record {
            gates = stands.gates;
            output = stands.output;
            clauses = stands.clauses;
            some = λ values h. stands.some (listed values) (fits_listed values (sorted h));
            one = λ values h v w a b p q. stands.one (listed values) (fits_listed values (sorted h)) v w a b p q;
            is = λ values h v a p. stands.is (listed values) (fits_listed values (sorted h)) v a p ∙ ap is_true (term.term.is values h);
          };
          given = λ v.
              let read = are_read sorts set.variables places v limits (cell_places set.variables (omega arith)) in
              let values = read_all v places (zeros_of sorts) in
              (values, subst (HaveSorts values) (sym term.same) read.sorted, shows v values read);
          few_variables = omega (arith, small.variables, less, term.weighs);
          few_clauses = small.clauses;
        }

-- ---- what it says of the formula

module _ (ns : List Node) (id : ℕ) (sorts : List Sort) (budget : ℕ) (formula : Formula) (term : IsTermOf ns id sorts formula) where
  back : (values : List Value) → HaveSorts values formula.sorts → HaveSorts values sorts
  back values h = subst (HaveSorts values) term.same h

  pub decided_never : ((values : List Value) → HaveSorts values sorts → is_true (value_at (listed values) ns id) ≡ false) → IsDecided budget formula Never
  decided_never none values h = sym (ap is_true (term.term.is values h)) ∙ none values (back values h)

  pub decided_at : (values : List Value) → HaveSorts values sorts → IsTrue (is_true (value_at (listed values) ns id)) → IsDecided budget formula (At values)
  decided_at values h t = let k = subst (HaveSorts values) (sym term.same) h in (k, sym (ap is_true (term.term.is values k)) ∙ t)

  pub decided_spent : (set : ClauseSet) (log : List (List Literal)) → StandsForFormula formula set → Spends set log budget → budget < 2 ^ bits_together sorts → IsDecided budget formula (Spent log)
  decided_spent set log stands spends wide = (subst (λ (ss : List Sort). budget < 2 ^ bits_together ss) (sym term.same) wide, (set, stands, spends))

-- what is known where the budget was spent, of the term in the graph that grew
module _ (ns : List Node) (id : ℕ) (sorts : List Sort) (budget : ℕ) (formula : Formula) (term : IsTermOf ns id sorts formula) (v_is : AreVariablesOf ns sorts) where
  module _ (set : ClauseSet) (places : List Place) (stands : StandsFor ns id set places) (gives : GivesValues ns places) (names : NamesCells ns id set.variables places) (limits : All (λ s. IsTrue (is_sort s)) sorts)
      (small : IsSmall set (4 * term_weight ns id + 2)) (less : term_weight ns id ≤ graph_weight ns) (new : List Node) (grows : Lengthens ns new) (within : id < length ns) (log : List (List Literal)) (spends : Spends set log budget) where
    before : (values : List Value) → is_true (value_at (listed values) ns id) ≡ is_true (value_at (listed values) new id)
    before values = ap is_true (sym (grows.values (listed values) id within))

    pub decided_answer : (d : Decision) → IsAnswered new id sorts budget log d → IsDecided budget formula d
    decided_answer Never h = decided_never ns id sorts budget formula term (λ values k. before values ∙ h values k)
    decided_answer (At values) h = decided_at ns id sorts budget formula term values h.0 (before values ∙ h.1)
    decided_answer (Spent other) h =
        subst (λ (l : List (List Literal)). IsDecided budget formula (Spent l)) (sym h.0)
        (decided_spent ns id sorts budget formula term set log (stands_for ns id sorts v_is set places stands gives names limits formula term small less) spends h.1)
