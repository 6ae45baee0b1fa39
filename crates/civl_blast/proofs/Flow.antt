-- The gates of the nodes, one after another.
use Rattle.std.specs.Prelude.{slice_get, IsTrue, if◌then◌else◌}
use Rattle.std.proofs.Common.{◌≡◌, ℕ, ◌+◌, ◌*◌, ◌^◌, ◌<◌, ◌≤◌, List, [], ◌∷◌, ◌++◌, length, refl, sym, ◌∙◌, ap, subst, inl, inr, arith, Bool, true, false, Some, length-append}
use Rattle.std.proofs.Math.ListN.{get_or-append}
use Rattle.std.proofs.Math.Seq.{get_or-append_seam}
use Rattle.std.proofs.lemmas.Bool.{cases_lt, false≢true}
use Rattle.std.proofs.lemmas.List.Elements.{All-weaker}
use Rattle.civl_bits.specs.declared.value.Value.{Value}
use Rattle.civl_tree.specs.declared.expr.Sort.TheVariants as sort
use Rattle.civl_firing.specs.values.Values.{is_true}
use Rattle.civl_cnf.specs.Literal.{Literal, truth_of}
use Rattle.civl_cnf.specs.ClauseSet.{ClauseSet, Satisfies}
use Rattle.civl_cnf.specs.Gates.{Extends}
use Rattle.civl_cnf.proofs.Extending.{extends_trans, extends_keeps, extends_kept}
use Rattle.civl_circuits.specs.Circuits.{IsOne, IsStart, blank}
use Rattle.civl_circuits.proofs.Words.{one_later}
use Rattle.civl_symbolic.specs.declared.symbolic.Symbolic.{Symbolic}
use Rattle.civl_symbolic.specs.declared.symbolic.Symbolic.TheVariants as symbolic
use Rattle.civl_symbolic.specs.Symbolic.{value_under, sort_of, HasBelow, IsIn}
use Rattle.civl_terms.specs.declared.node.Node.{Node}
use Rattle.civl_terms.specs.Graphs.{IsGraph, sort_at, value_at}
use Rattle.civl_terms.specs.Weights.{is_part, own_weight, term_weight}
use Rattle.civl_blast.specs.reach.Reaching.{IsRowless}
use Rattle.civl_blast.specs.reach.Marks.{marked, weight_from, IsMarking}
use Rattle.civl_blast.proofs.reach.Marked.{part_is_below}
use Rattle.civl_blast.specs.inner.Steps.{symbol_in, input_bits, inputs_before, IsReady, ShowsInput, ShowsInputs, NodeMade, StepMade, output_of, IsCircuit}
use Rattle.civl_blast.proofs.Weighing.{weight_next, weight_whole, weight_less, inputs_next, inputs_less, inputs_light}

-- so many first nodes were gone over
pub record IsBlasting (ns : List Node) (marks : List Bool) (inputs at : ℕ) (set : ClauseSet) (one : Literal) (table : List Symbolic) (first : ℕ) : Type 0 where
  pub extends : Extends (record { variables = inputs; clauses = [] }) set
  pub one_is : IsOne set one
  pub size : length table ≡ at
  pub first_is : first ≡ inputs_before ns marks at
  pub variables : set.variables + 2 * inputs_before ns marks at ≤ inputs + 1 + 2 * weight_from ns marks 0 at
  pub known : (i : ℕ) → i < at → IsTrue (marked marks i) → IsIn set (symbol_in table i) × (sort_at ns i ≡ Some (sort_of (symbol_in table i)))
  pub is : (v : ℕ → Bool) (env : ℕ → Value) → Satisfies v set.clauses → ShowsInputs v ns marks at env → (i : ℕ) → i < at → IsTrue (marked marks i) → value_at env ns i ≡ value_under v (symbol_in table i)

pub blasting_none : {inputs : ℕ} {set : ClauseSet} {one : Literal} (ns : List Node) (marks : List Bool) → IsStart inputs set one → IsBlasting ns marks inputs 0 set one [] 0
blasting_none ns marks s = record {
  extends = s.extends;
  one_is = s.constant;
  size = refl;
  first_is = refl;
  variables = omega (arith, s.variables);
  known = λ i h. absurd (omega arith);
  is = λ v env y shows i h. absurd (omega arith);
}

-- the next node may be gone over
pub blasting_ready : {ns : List Node} {id inputs at first : ℕ} {marks : List Bool} {set : ClauseSet} {one : Literal} {table : List Symbolic} → IsBlasting ns marks inputs at set one table first → IsGraph ns → IsMarking ns id 0 marks → IsRowless ns id → id < length ns → at ≤ id → inputs ≡ inputs_before ns marks (id + 1) → marked marks at ≡ true → IsReady ns at set first table
blasting_ready {ns} {id} {inputs} {at} {first} {marks} {set} {one} {table} b graph m rowless within h ei mark = record {
  graph = graph;
  within = omega arith;
  size = b.size;
  plain = rowless at (m.only at mark);
  parts = λ n i e p. b.known i (part_is_below at i n (graph.parts at n e) p) (m.closed at i n (omega arith) mark e p);
  inputs =
      let next : inputs_before ns marks (at + 1) ≡ inputs_before ns marks at + input_bits true (slice_get ns at) = inputs_next ns marks at ∙ ap (λ t. inputs_before ns marks at + input_bits t (slice_get ns at)) mark in
      omega (arith, b.first_is, b.extends.variables, ei, next, inputs_less ns marks (at + 1) (id + 1) (omega arith));
}

pub blasting_room : {ns : List Node} {id inputs at first : ℕ} {marks : List Bool} {set : ClauseSet} {one : Literal} {table : List Symbolic} → IsBlasting ns marks inputs at set one table first → IsMarking ns id 0 marks → at ≤ id → inputs ≡ inputs_before ns marks (id + 1) → term_weight ns id ≤ 3200000 → set.variables ≤ 2 ^ 29
blasting_room {ns} {id} {inputs} {at} {first} {marks} b m h ei light =
    omega (arith, b.variables, ei, inputs_light ns marks (id + 1), weight_whole m, weight_less ns marks at (id + 1) (omega arith))

HasBelow-more : (m n : ℕ) (x : Symbolic) → m ≤ n → HasBelow m x → HasBelow n x
HasBelow-more m n (symbolic.Bool l) h b = omega arith
HasBelow-more m n (symbolic.Word ls) h b = All-weaker (λ l. l.variable < m) (λ l. l.variable < n) (λ l k. omega arith) ls b

inside_later : {f g : ClauseSet} {x : Symbolic} → Extends f g → IsIn f x → IsIn g x
inside_later {f} {g} {x} e i = record { below = HasBelow-more f.variables g.variables x e.variables i.below; limits = i.limits }

symbol_before : (table : List Symbolic) (made : Symbolic) (i : ℕ) → i < length table → symbol_in (table ++ made ∷ []) i ≡ symbol_in table i
symbol_before table made i h = get_or-append table (made ∷ []) (symbolic.Bool blank) i h

symbol_last : (table : List Symbolic) (made : Symbolic) (i : ℕ) → i ≡ length table → symbol_in (table ++ made ∷ []) i ≡ made
symbol_last table made i e = ap (symbol_in (table ++ made ∷ [])) e ∙ get_or-append_seam table made [] (symbolic.Bool blank)

-- what is known of a table's symbols stays where one more is pushed
known_more : {f g : ClauseSet} (ns : List Node) (marks : List Bool) (at : ℕ) (table : List Symbolic) (made : Symbolic) → length table ≡ at → Extends f g → ((i : ℕ) → i < at → IsTrue (marked marks i) → IsIn f (symbol_in table i) × (sort_at ns i ≡ Some (sort_of (symbol_in table i)))) → (IsTrue (marked marks at) → IsIn g made × (sort_at ns at ≡ Some (sort_of made))) → (i : ℕ) → i < at + 1 → IsTrue (marked marks i) → IsIn g (symbol_in (table ++ made ∷ []) i) × (sort_at ns i ≡ Some (sort_of (symbol_in (table ++ made ∷ []) i)))
known_more {f} {g} ns marks at table made size e known here i h mark = elim (cases_lt i at) [
  | inl low ↦
      let P : Symbolic → Type 0 = λ x. IsIn g x × (sort_at ns i ≡ Some (sort_of x)) in
      let k = known i low mark in
      subst P (sym (symbol_before table made i (omega arith))) (inside_later e k.0, k.1)
  | inr high ↦
      let same : i ≡ at = omega arith in
      let Q : ℕ → Type 0 = λ j. IsTrue (marked marks j) in
      let k = here (subst Q same mark) in
      let P : Symbolic → Type 0 = λ x. IsIn g x × (sort_at ns i ≡ Some (sort_of x)) in
      subst P (sym (symbol_last table made i (omega arith))) (k.0, ap (sort_at ns) same ∙ k.1)
]

fewer_inputs : (v : ℕ → Bool) (ns : List Node) (marks : List Bool) (at : ℕ) (env : ℕ → Value) → ShowsInputs v ns marks (at + 1) env → ShowsInputs v ns marks at env
fewer_inputs v ns marks at env shows = λ i h mark. shows i (omega arith) mark

-- one marked node more
blasting_marked : {ns : List Node} {inputs at first : ℕ} {marks : List Bool} {f g : ClauseSet} {one : Literal} {table : List Symbolic} {made : Symbolic} → IsBlasting ns marks inputs at f one table first → IsGraph ns → ((n : Node) (i : ℕ) → slice_get ns at ≡ Some n → IsTrue (is_part n i) → (i < at) × IsTrue (marked marks i)) → marked marks at ≡ true → NodeMade ns at f g first table made → IsBlasting ns marks inputs (at + 1) g one (table ++ made ∷ []) (first + input_bits true (slice_get ns at))
blasting_marked {ns} {inputs} {at} {first} {marks} {f} {g} {one} {table} {made} b graph parts mark m =
    let next : inputs_before ns marks (at + 1) ≡ inputs_before ns marks at + input_bits true (slice_get ns at) = inputs_next ns marks at ∙ ap (λ t. inputs_before ns marks at + input_bits t (slice_get ns at)) mark in
    let weight : weight_from ns marks 0 (at + 1) ≡ weight_from ns marks 0 at + own_weight ns at = weight_next ns marks at ∙ ap (λ t. weight_from ns marks 0 at + (if t then own_weight ns at else 0)) mark in
    record {
      extends = extends_trans b.extends m.extends;
      one_is = one_later m.extends b.one_is;
      size = length-append table (made ∷ []) ∙ ap (λ n. n + 1) b.size;
      first_is = ap (λ n. n + input_bits true (slice_get ns at)) b.first_is ∙ sym next;
      variables = omega (arith, b.variables, m.variables, next, weight);
      known = known_more ns marks at table made b.size m.extends b.known (λ t. (m.inside, m.sorted));
      is = λ v env y shows i h marked_i.
          let before = extends_keeps m.extends v y in
          let earlier = b.is v env before (fewer_inputs v ns marks at env shows) in
          elim (cases_lt i at) [
            | inl low ↦ earlier i low marked_i ∙ ap (value_under v) (sym (symbol_before table made i (omega (arith, b.size))))
            | inr high ↦
                let same : i ≡ at = omega arith in
                let P : ℕ → Type 0 = λ n. ShowsInput v n env (slice_get ns at) in
                ap (value_at env ns) same
                ∙ m.is v env y (subst P (sym b.first_is) (shows at (omega arith) mark)) (λ n j e p. let q = parts n j e p in earlier j q.0 q.1)
                ∙ ap (value_under v) (sym (symbol_last table made i (omega (arith, b.size))))
          ];
    }

-- one node more that isn't marked
blasting_skipped : {ns : List Node} {inputs at first : ℕ} {marks : List Bool} {f g : ClauseSet} {one : Literal} {table : List Symbolic} (made : Symbolic) → IsBlasting ns marks inputs at f one table first → marked marks at ≡ false → g ≡ f → IsBlasting ns marks inputs (at + 1) g one (table ++ made ∷ []) (first + 0)
blasting_skipped {ns} {inputs} {at} {first} {marks} {f} {g} {one} {table} made b mark same_set =
    let next : inputs_before ns marks (at + 1) ≡ inputs_before ns marks at + 0 = inputs_next ns marks at ∙ ap (λ t. inputs_before ns marks at + input_bits t (slice_get ns at)) mark in
    let weight : weight_from ns marks 0 (at + 1) ≡ weight_from ns marks 0 at + 0 = weight_next ns marks at ∙ ap (λ t. weight_from ns marks 0 at + (if t then own_weight ns at else 0)) mark in
    let kept : Extends f g = extends_kept same_set in
    record {
      extends = extends_trans b.extends kept;
      one_is = one_later kept b.one_is;
      size = length-append table (made ∷ []) ∙ ap (λ n. n + 1) b.size;
      first_is = ap (λ n. n + 0) b.first_is ∙ sym next;
      variables = omega (arith, b.variables, next, weight, ap (λ (s : ClauseSet). s.variables) same_set);
      known = known_more ns marks at table made b.size kept b.known (λ t. absurd (false≢true (sym mark ∙ t)));
      is = λ v env y shows i h marked_i.
          elim (cases_lt i at) [
            | inl low ↦ b.is v env (extends_keeps kept v y) (fewer_inputs v ns marks at env shows) i low marked_i ∙ ap (value_under v) (sym (symbol_before table made i (omega (arith, b.size))))
            | inr high ↦ absurd (false≢true (sym mark ∙ ap (marked marks) (omega arith) ∙ marked_i))
          ];
    }

pub blasting_more : {ns : List Node} {id inputs at first : ℕ} {marks : List Bool} {f g : ClauseSet} {one : Literal} {table : List Symbolic} (made : Symbolic) (t : Bool) → IsBlasting ns marks inputs at f one table first → IsGraph ns → IsMarking ns id 0 marks → marked marks at ≡ t → StepMade t ns at f g first table made → IsBlasting ns marks inputs (at + 1) g one (table ++ made ∷ []) (first + input_bits t (slice_get ns at))
blasting_more {ns} {id} {inputs} {at} made true b graph m mark s = blasting_marked b graph (λ n i e p. (part_is_below at i n (graph.parts at n e) p, m.closed at i n (omega arith) mark e p)) mark s
blasting_more made false b graph m mark s = blasting_skipped made b mark s

-- the symbol of a boolean term
bool_output : {set : ClauseSet} (other : Literal) (x : Symbolic) → IsIn set x → Some sort.Bool ≡ Some (sort_of x) → ((output_of other x).variable < set.variables) × ((v : ℕ → Bool) → is_true (value_under v x) ≡ truth_of v (output_of other x))
bool_output other (symbolic.Bool l) i e = (i.below, λ v. refl)
bool_output other (symbolic.Word ls) i e = absurd cc

pub blasting_all : {ns : List Node} {id inputs at first : ℕ} {marks : List Bool} {set : ClauseSet} {one : Literal} {table : List Symbolic} → IsBlasting ns marks inputs at set one table first → IsMarking ns id 0 marks → at ≡ id + 1 → inputs ≡ inputs_before ns marks (id + 1) → sort_at ns id ≡ Some sort.Bool → IsCircuit ns id marks inputs set (output_of one (symbol_in table id))
blasting_all {ns} {id} {inputs} {at} {first} {marks} {set} {one} {table} b m ea ei truth =
    let here = b.known id (omega arith) m.first in
    let out = bool_output one (symbol_in table id) here.0 (sym truth ∙ here.1) in
    let P : ℕ → Type 0 = λ n. set.variables + 2 * inputs_before ns marks n ≤ inputs + 1 + 2 * weight_from ns marks 0 n in
    let total : P (id + 1) = subst P ea b.variables in
    record {
      extends = b.extends;
      variables = omega (arith, total, weight_whole m, ei);
      below = out.0;
      is = λ v env y shows.
          sym (out.1 v) ∙ sym (ap is_true (b.is v env y (subst (λ (n : ℕ). ShowsInputs v ns marks n env) (sym ea) shows) id (omega arith) m.first));
    }
