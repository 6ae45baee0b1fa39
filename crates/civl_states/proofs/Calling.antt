-- The variables for the choices of calls, one call after the other.
use Rattle.std.specs.Prelude.{map, filter, take, drop, get_or, nat_eq, slice_get, if◌then◌else◌, Contains}
use Rattle.std.specs.List.Sorted.{IsStrictlyIncreasing}
use Rattle.std.proofs.lemmas.Bool.{false≢true, eq-eqb, eqb-true}
use Rattle.civl_tree.proofs.Pairs.{contains_nil, contains_cons, contains_map}
use Rattle.std.specs.Option.{option_map_or}
use Rattle.std.proofs.Common.{◌≡◌, ◌∙◌, ℕ, ◌+◌, ◌-◌, ◌≤◌, ◌<◌, Bool, true, false, List, [], ◌∷◌, ◌++◌, length, refl, sym, ap, ap₂, subst, arith, ◌⊎◌, inl, inr, Option, Some}
use Rattle.std.proofs.lemmas.List.{map-append, append-nil, drop_more, take_more, length-map}
use Rattle.std.proofs.lemmas.List.Kept.{IsStrictlyIncreasing-filter}
use Rattle.civl_tree.specs.declared.expr.Sort.{Sort}
use Rattle.civl_tree.specs.declared.action.Choice.{Choice}
use Rattle.civl_tree.specs.declared.stmt.Stmt.{Stmt, out-Stmt}
use Rattle.civl_tree.specs.declared.program.Proc.{Proc}
use Rattle.civl_tree.specs.declared.program.Program.{Program}
use Rattle.civl_tree.specs.Numbering.{statements_of, statement_at}
use Rattle.civl_meaning.specs.Layers.{program_at}
use Rattle.civl_layers.specs.declared.cut.Cut.{Cut}
use Rattle.civl_layers.specs.Cuts.{proc_cuts}
use Rattle.civl_conditions.specs.paths.Flows.{flow_from}
use Rattle.civl_conditions.proofs.paths.Standing.{Stand, passed_stand}
use Rattle.civl_meaning.proofs.Zipping.{zip_long}
use Rattle.civl_bodies.specs.declared.body.Body.{Body}
use Rattle.civl_bodies.specs.Bodies.{ArePassed, IsBody}
use Rattle.civl_terms.specs.declared.node.Node.{Node}
use Rattle.civl_terms.specs.Graphs.{sort_at}
use Rattle.civl_terms.specs.Building.{Lengthens}
use Rattle.civl_actions.specs.Actions.{values_at}
use Rattle.civl_conditions.specs.Variables.{layer_choices, passed_choices}
use Rattle.civl_conditions.specs.Values.{choices_count, chosen_in, part}
use Rattle.civl_states.specs.Beginnings.{chosen_at}
use Rattle.civl_states.specs.formula_parts.Lists.{AreSaid}
use Rattle.civl_states.specs.formula_parts.Given.{given, bits_of_sorts}
use Rattle.civl_states.proofs.formula_parts.Listing.{said_after}
use Rattle.civl_states.proofs.formula_parts.Giving.{bits-append}
use Rattle.civl_states.specs.declared.choices.Chosen.{Chosen}
use Rattle.civl_states.specs.Groups.{StandFrom}
use Rattle.civl_states.specs.Laying.{call_at, calls_at, call_sorts, chooses, with_some, AreChosen, ChooseMore}
use Rattle.civl_states.proofs.Given.{stand_within, stand_front, stand_past, part_given}

pub chosen_after : (old new : List Node) (cs : List Chosen) (qs : List (ℕ × List Choice)) (at : ℕ) → Lengthens old new → AreChosen old cs qs at → AreChosen new cs qs at
chosen_after old new [] [] at g h = h
chosen_after old new [] (q ∷ qs) at g h = absurd h
chosen_after old new (c ∷ cs) [] at g h = absurd h
chosen_after old new (c ∷ cs) (q ∷ qs) at g h = (h.0, said_after old new c.choices (map (λ x. x.sort) q.1) _ g h.1, chosen_after old new cs qs (at + length q.1) g h.2)

chosen_more : (ns : List Node) (cs : List Chosen) (qs : List (ℕ × List Choice)) (at next : ℕ) (c : Chosen) (q : ℕ × List Choice) → AreChosen ns cs qs at → next ≡ at + choices_count qs → c.statement ≡ q.0
    → AreSaid ns c.choices (map (λ x. x.sort) q.1) (λ env. given env next (length q.1)) → AreChosen ns (cs ++ c ∷ []) (qs ++ q ∷ []) at
chosen_more ns [] [] at next c q h e s said =
    let same : next ≡ at = omega (arith, e) in
    (s, subst (λ (k : ℕ). AreSaid ns c.choices (map (λ x. x.sort) q.1) (λ env. given env k (length q.1))) same said, tt)
chosen_more ns [] (r ∷ qs) at next c q h e s said = absurd h
chosen_more ns (d ∷ cs) [] at next c q h e s said = absurd h
chosen_more ns (d ∷ cs) (r ∷ qs) at next c q h e s said = (h.0, h.1, chosen_more ns cs qs (at + length r.1) next c q h.2 (omega (arith, e)) s said)

count_append : (qs rs : List (ℕ × List Choice)) → choices_count (qs ++ rs) ≡ choices_count qs + choices_count rs
count_append [] rs = omega arith
count_append (q ∷ qs) rs = omega (arith, count_append qs rs)

-- ---- calls that choose something

some_append : (qs rs : List (ℕ × List Choice)) → with_some (qs ++ rs) ≡ with_some qs ++ with_some rs
some_append [] rs = refl
some_append (q ∷ qs) rs = by (chooses q.1) (some_append qs rs)
  where
    by : (b : Bool) → with_some (qs ++ rs) ≡ with_some qs ++ with_some rs → (if b then q ∷ with_some (qs ++ rs) else with_some (qs ++ rs)) ≡ (if b then q ∷ with_some qs else with_some qs) ++ with_some rs
    by true e = ap (λ (xs : List (ℕ × List Choice)). q ∷ xs) e
    by false e = e

some_counted : (qs : List (ℕ × List Choice)) → choices_count (with_some qs) ≡ choices_count qs
some_counted [] = refl
some_counted (q ∷ qs) = by q.1 refl (some_counted qs)
  where
    by : (chs : List Choice) → q.1 ≡ chs → choices_count (with_some qs) ≡ choices_count qs → choices_count (if chooses chs then q ∷ with_some qs else with_some qs) ≡ length q.1 + choices_count qs
    by [] e k = omega (arith, k, ap length e)
    by (c ∷ cs) e k = omega (arith, k)

pub choose_none : (old new : List Node) (cs : List Chosen) (number next : ℕ) (choices : List Choice) → choices ≡ [] → Lengthens old new → ChooseMore old new cs cs (number, choices) next
choose_none old new cs number next choices e g = λ qs at h k.
    let same : with_some (qs ++ (number, choices) ∷ []) ≡ with_some qs =
    some_append qs ((number, choices) ∷ []) ∙ ap (λ (chs : List Choice). with_some qs ++ with_some ((number, chs) ∷ [])) e ∙ append-nil (with_some qs) in
    subst (λ (rs : List (ℕ × List Choice)). AreChosen new cs rs at) (sym same) (chosen_after old new cs (with_some qs) at g h)

pub choose_one : (old new : List Node) (cs more : List Chosen) (c : Chosen) (next : ℕ) (choices : List Choice) → 0 < length choices → Lengthens old new
    → AreSaid new c.choices (map (λ x. x.sort) choices) (λ env. given env next (length choices)) → more ≡ cs ++ c ∷ [] → ChooseMore old new cs more (c.statement, choices) next
choose_one old new cs more c next [] l g said m = absurd (omega (arith, l))
choose_one old new cs more c next (x ∷ xs) l g said m = λ qs at h k.
    let after = chosen_more new cs (with_some qs) at next c (c.statement, x ∷ xs) (chosen_after old new cs (with_some qs) at g h) (omega (arith, k, some_counted qs)) refl said in
    subst (λ (ds : List Chosen). AreChosen new ds (with_some (qs ++ (c.statement, x ∷ xs) ∷ [])) at) (sym m)
    (subst (λ (rs : List (ℕ × List Choice)). AreChosen new (cs ++ c ∷ []) rs at) (sym (some_append qs ((c.statement, x ∷ xs) ∷ []))) after)

-- the numbers of the calls that have entries
statements_are : (ns : List Node) (cs : List Chosen) (qs : List (ℕ × List Choice)) (at : ℕ) → AreChosen ns cs qs at → map (λ c. c.statement) cs ≡ map (λ q. q.0) qs
statements_are ns [] [] at h = refl
statements_are ns [] (q ∷ qs) at h = absurd h
statements_are ns (c ∷ cs) [] at h = absurd h
statements_are ns (c ∷ cs) (q ∷ qs) at h = ap₂ (λ (x : ℕ) (xs : List ℕ). x ∷ xs) h.0 (statements_are ns cs qs (at + length q.1) h.2)

some_numbers : (program : Program) (layer : ℕ) (stmts : List Stmt) (numbers : List ℕ)
    → map (λ q. q.0) (with_some (calls_at program layer stmts numbers)) ≡ filter (λ n. chooses (call_at program layer stmts n).1) numbers
some_numbers program layer stmts [] = refl
some_numbers program layer stmts (n ∷ ns) = by (chooses (call_at program layer stmts n).1) (some_numbers program layer stmts ns)
  where
    by : (b : Bool) → map (λ q. q.0) (with_some (calls_at program layer stmts ns)) ≡ filter (λ m. chooses (call_at program layer stmts m).1) ns
        → map (λ q. q.0) (if b then call_at program layer stmts n ∷ with_some (calls_at program layer stmts ns) else with_some (calls_at program layer stmts ns))
        ≡ (if b then n ∷ filter (λ m. chooses (call_at program layer stmts m).1) ns else filter (λ m. chooses (call_at program layer stmts m).1) ns)
    by true e = ap (λ (xs : List ℕ). n ∷ xs) e
    by false e = e

-- they rise where those of all calls do
pub calls_rise : (ns : List Node) (cs : List Chosen) (program : Program) (layer : ℕ) (stmts : List Stmt) (numbers : List ℕ) (at : ℕ) → AreChosen ns cs (with_some (calls_at program layer stmts numbers)) at → IsStrictlyIncreasing numbers
    → IsStrictlyIncreasing (map (λ c. c.statement) cs)
calls_rise ns cs program layer stmts numbers at h up =
    subst IsStrictlyIncreasing (sym (statements_are ns cs _ at h ∙ some_numbers program layer stmts numbers)) (IsStrictlyIncreasing-filter (λ n. chooses (call_at program layer stmts n).1) numbers up)

-- ---- one more

module _ (program : Program) (layer : ℕ) (stmts : List Stmt) (numbers : List ℕ) (i n : ℕ) (l : i < length numbers) (is : n ≡ get_or numbers i 0) where
  abbrev calls : List ℕ → List (ℕ × List Choice)
  calls ns = calls_at program layer stmts ns

  abbrev here : ℕ × List Choice
  here = call_at program layer stmts n

  left : calls (drop i numbers) ≡ here ∷ calls (drop (i + 1) numbers)
  left = ap calls (drop_more numbers i 0 l) ∙ ap (λ (k : ℕ). call_at program layer stmts k ∷ calls (drop (i + 1) numbers)) (sym is)

  done : calls (take (i + 1) numbers) ≡ calls (take i numbers) ++ here ∷ []
  done =
      ap calls (take_more numbers i 0 l) ∙ map-append (call_at program layer stmts) (take i numbers) (get_or numbers i 0 ∷ [])
      ∙ ap (λ (k : ℕ). calls (take i numbers) ++ call_at program layer stmts k ∷ []) (sym is)

  module _ (sorts : List Sort) (next : ℕ) (s : StandFrom sorts next (call_sorts (calls (drop i numbers)))) where
    stand_left : StandFrom sorts next (map (λ x. x.sort) here.1 ++ call_sorts (calls (drop (i + 1) numbers)))
    stand_left = subst (λ (qs : List (ℕ × List Choice)). StandFrom sorts next (call_sorts qs)) left s

    pub call_stands : StandFrom sorts next (map (λ x. x.sort) here.1)
    call_stands = stand_front sorts next (map (λ x. x.sort) here.1) _ stand_left

    pub call_within : next + length here.1 ≤ length sorts
    call_within = omega (arith, stand_within sorts next (map (λ x. x.sort) here.1) call_stands, length-map here.1 (λ x. x.sort))

    pub call_past : (count : ℕ) → count ≡ length here.1 → StandFrom sorts (next + count) (call_sorts (calls (drop (i + 1) numbers)))
    call_past count e = stand_past sorts next (map (λ x. x.sort) here.1) _ count (length-map here.1 (λ x. x.sort) ∙ sym e) stand_left

    pub call_bits : (choices : List Choice) → choices ≡ here.1 → bits_of_sorts (map (λ x. x.sort) choices) + bits_of_sorts (call_sorts (calls (drop (i + 1) numbers))) ≡ bits_of_sorts (call_sorts (calls (drop i numbers)))
    call_bits choices e =
        omega (
          arith,
          ap (λ (cs : List Choice). bits_of_sorts (map (λ x. x.sort) cs)) e,
          bits-append (map (λ x. x.sort) here.1) (call_sorts (calls (drop (i + 1) numbers))),
          ap (λ (qs : List (ℕ × List Choice)). bits_of_sorts (call_sorts qs)) left,
        )

  pub call_chosen : (ns : List Node) (cs : List Chosen) (first : ℕ) (choices : List Choice) → choices ≡ here.1 → AreChosen ns cs (with_some (calls (take i numbers) ++ (n, choices) ∷ [])) first → AreChosen ns cs (with_some (calls (take (i + 1) numbers))) first
  call_chosen ns cs first choices e h =
      subst (λ (qs : List (ℕ × List Choice)). AreChosen ns cs (with_some qs) first) (ap (λ (chs : List Choice). calls (take i numbers) ++ (n, chs) ∷ []) e ∙ sym done) h

  pub call_counted : (first next count : ℕ) → next ≡ first + choices_count (calls (take i numbers)) → count ≡ length here.1 → next + count ≡ first + choices_count (calls (take (i + 1) numbers))
  call_counted first next count e f = omega (arith, e, f, ap choices_count done, count_append (calls (take i numbers)) (here ∷ []))

-- ---- the statements that some path passes

pub passed_called : (program : Program) (layer : ℕ) (body : List Stmt) (qs : List (ℕ × Stmt)) → Stand body qs
    → calls_at program layer (statements_of body) (map (λ q. q.0) qs) ≡ map (λ q. (q.0, layer_choices (program_at program layer) (out-Stmt q.1))) qs
passed_called program layer body [] h = refl
passed_called program layer body (q ∷ qs) h =
    ap₂ (λ (c : List Choice) (cs : List (ℕ × List Choice)). (q.0, c) ∷ cs) (ap (λ (o : Option Stmt). option_map_or (λ s. layer_choices (program_at program layer) (out-Stmt s)) o []) h.0) (passed_called program layer body qs h.1)

-- the calls that are found are those of the paths
pub calls_are : (program : Program) (step layer : ℕ) (proc : Proc) (cut : Cut) (stmts : List Stmt) (numbers : List ℕ) → layer ≡ step - 1 → stmts ≡ statements_of proc.body → numbers ≡ map (λ q. q.0) (flow_from proc cut).passed
    → calls_at program layer stmts numbers ≡ passed_choices program step proc cut
calls_are program step layer proc cut stmts numbers e s n =
    ap (λ (k : ℕ). calls_at program k stmts numbers) e ∙ ap (λ (ss : List Stmt). calls_at program (step - 1) ss numbers) s ∙ ap (calls_at program (step - 1) (statements_of proc.body)) n
    ∙ passed_called program (step - 1) proc.body (flow_from proc cut).passed (passed_stand proc cut)

-- a procedure's cut is one of its body's, with what the paths from there pass
pub cut_there : (proc : Proc) (body : Body) (number : ℕ) (cut : Cut) → IsBody proc body → slice_get (proc_cuts proc) number ≡ Some cut → slice_get body.cuts number ≡ Some cut
cut_there proc body number cut is at = ap (λ (cs : List Cut). slice_get cs number) is.cuts ∙ at

pub passed_there : (proc : Proc) (body : Body) (number : ℕ) → IsBody proc body → number < length (proc_cuts proc) → number < length body.passed.items
passed_there proc body number is within = omega (arith, within, zip_long (ArePassed proc) (proc_cuts proc) body.passed.items is.passed)

-- ---- the choices of one of these calls

no_ids : (ns : List Node) (ids : List ℕ) → map (sort_at ns) ids ≡ [] → ids ≡ []
no_ids ns [] e = refl
no_ids ns (i ∷ ids) e = absurd (cc)

-- calls whose choices are told by their numbers
module _ (f : ℕ → List Choice) where
  abbrev pub Told : List (ℕ × List Choice) → Type 0
  Told [] = Unit {0}
  Told (q ∷ qs) = (q.1 ≡ f q.0) × Told qs

  -- one of these calls has this number, or what has it chooses nothing
  abbrev Called : List (ℕ × List Choice) → ℕ → Type 0
  Called qs k = Contains (map (λ q. q.0) qs) k ⊎ (f k ≡ [])

  abbrev SaidFor : List Node → ℕ → List Chosen → List (ℕ × List Choice) → ℕ → ℕ → Type 0
  SaidFor ns n cs qs at k = AreSaid ns (chosen_at cs k) (map (λ x. x.sort) (f k)) (λ env. chosen_in qs (given env 0 n) at k)

  -- so it is for the calls behind the first
  abbrev Behind : List Node → ℕ → ℕ × List Choice → List (ℕ × List Choice) → ℕ → ℕ → Type 0
  Behind ns n q qs at k = (cs : List Chosen) → AreChosen ns cs (with_some qs) (at + length q.1) → Called qs k → SaidFor ns n cs qs (at + length q.1) k

  later : (q : ℕ × List Choice) (qs : List (ℕ × List Choice)) (k : ℕ) → nat_eq q.0 k ≡ false → Called (q ∷ qs) k → Called qs k
  later q qs k no' there = elim there [
    | inl c ↦ elim (contains_cons q.0 (map (λ r. r.0) qs) k c) [
      | inl p ↦ absurd (false≢true (sym no' ∙ eq-eqb q.0 k p))
      | inr g ↦ inl g
    ]
    | inr e ↦ inr e
  ]

  without_entry : (ns : List Node) (n at : ℕ) (cs : List Chosen) (q : ℕ × List Choice) (qs : List (ℕ × List Choice)) (k : ℕ) (same : Bool) → nat_eq q.0 k ≡ same → q.1 ≡ f q.0 → q.1 ≡ []
      → AreChosen ns cs (with_some qs) (at + length q.1) → Called (q ∷ qs) k → Behind ns n q qs at k
      → AreSaid ns (chosen_at cs k) (map (λ x. x.sort) (f k)) (λ env. if same then part (given env 0 n) at (length q.1) else chosen_in qs (given env 0 n) (at + length q.1) k)
  without_entry ns n at cs q qs k true e t z h there behind =
      let none : f k ≡ [] = ap f (sym (eqb-true q.0 k e)) ∙ sym t ∙ z in
      let said = behind cs h (inr none) in
      let gone = no_ids ns (chosen_at cs k) (said.sorted ∙ ap (λ (chs : List Choice). map (λ (s : Sort). Some s) (map (λ x. x.sort) chs)) none) in
      record { sorted = said.sorted; are = λ env fits. ap (values_at env ns) gone ∙ sym (ap (λ (chs : List Choice). part (given env 0 n) at (length chs)) z) }
  without_entry ns n at cs q qs k false e t z h there behind = behind cs h (later q qs k e there)

  with_entry : (ns : List Node) (n at : ℕ) (c : Chosen) (cs : List Chosen) (q : ℕ × List Choice) (qs : List (ℕ × List Choice)) (k : ℕ) (same : Bool) → nat_eq q.0 k ≡ same → q.1 ≡ f q.0 → at + length q.1 ≤ n
      → AreSaid ns c.choices (map (λ x. x.sort) q.1) (λ env. given env at (length q.1)) → AreChosen ns cs (with_some qs) (at + length q.1) → Called (q ∷ qs) k → Behind ns n q qs at k
      → AreSaid ns (if same then c.choices else chosen_at cs k) (map (λ x. x.sort) (f k)) (λ env. if same then part (given env 0 n) at (length q.1) else chosen_in qs (given env 0 n) (at + length q.1) k)
  with_entry ns n at c cs q qs k true e t l said h there behind =
      subst (λ (chs : List Choice). AreSaid ns c.choices (map (λ x. x.sort) chs) (λ env. part (given env 0 n) at (length q.1))) (t ∙ ap f (eqb-true q.0 k e))
      (record { sorted = said.sorted; are = λ env fits. said.are env fits ∙ sym (part_given env n at (length q.1) l) })
  with_entry ns n at c cs q qs k false e t l said h there behind = behind cs h (later q qs k e there)

  said_for : (ns : List Node) (n at : ℕ) (cs : List Chosen) (qs : List (ℕ × List Choice)) (k : ℕ) → AreChosen ns cs (with_some qs) at → Told qs → Called qs k → at + choices_count qs ≤ n → SaidFor ns n cs qs at k
  said_for ns n at [] [] k h t there l = elim there [
    | inl c ↦ absurd (contains_nil k c)
    | inr e ↦ subst (λ (chs : List Choice). AreSaid ns [] (map (λ x. x.sort) chs) (λ env. [])) (sym e) (record { sorted = refl; are = λ env fits. refl })
  ]
  said_for ns n at (c ∷ cs) [] k h t there l = absurd h
  said_for ns n at cs (q ∷ qs) k h t there l = by_choices q.1 refl h (λ ds g c. said_for ns n (at + length q.1) ds qs k g t.1 c (omega (arith, l)))
    where
      by_first : (ds : List Chosen) → AreChosen ns ds (q ∷ with_some qs) at → Behind ns n q qs at k → SaidFor ns n ds (q ∷ qs) at k
      by_first [] g behind = absurd g
      by_first (d ∷ ds) g behind =
          subst (λ (m : ℕ). AreSaid ns (if nat_eq m k then d.choices else chosen_at ds k) (map (λ x. x.sort) (f k)) (λ env. chosen_in (q ∷ qs) (given env 0 n) at k)) (sym g.0)
          (with_entry ns n at d ds q qs k (nat_eq q.0 k) refl t.0 (omega (arith, l)) g.1 g.2 there behind)

      by_choices : (chs : List Choice) → q.1 ≡ chs → AreChosen ns cs (if chooses chs then q ∷ with_some qs else with_some qs) at → Behind ns n q qs at k → SaidFor ns n cs (q ∷ qs) at k
      by_choices [] z g behind =
          let here : at ≡ at + length q.1 = omega (arith, ap length z) in
          without_entry ns n at cs q qs k (nat_eq q.0 k) refl t.0 z (subst (AreChosen ns cs (with_some qs)) here g) there behind
      by_choices (x ∷ xs) z g behind = by_first cs g behind

module _ (program : Program) (layer : ℕ) (body : List Stmt) where
  abbrev with_choices : List (ℕ × Stmt) → List (ℕ × List Choice)
  with_choices qs = map (λ q. (q.0, layer_choices (program_at program layer) (out-Stmt q.1))) qs

  abbrev choices_for : Option Stmt → List Choice
  choices_for o = option_map_or (λ s. layer_choices (program_at program layer) (out-Stmt s)) o []

  all_told : (rs : List (ℕ × Stmt)) → Stand body rs → Told (λ k. choices_for (statement_at body k)) (with_choices rs)
  all_told [] s = tt
  all_told (r ∷ rs) s = (sym (ap choices_for s.0), all_told rs s.1)

  numbered_there : (rs : List (ℕ × Stmt)) (q : ℕ × Stmt) → Contains rs q → Contains (map (λ r. r.0) (with_choices rs)) q.0
  numbered_there rs q k =
      contains_map (λ (r : ℕ × List Choice). r.0) (with_choices rs) (q.0, layer_choices (program_at program layer) (out-Stmt q.1))
      (contains_map (λ (r : ℕ × Stmt). (r.0, layer_choices (program_at program layer) (out-Stmt r.1))) rs q k)

  pub chosen_found : (ns : List Node) (n at : ℕ) (cs : List Chosen) (rs : List (ℕ × Stmt)) (q : ℕ × Stmt) → AreChosen ns cs (with_some (with_choices rs)) at → Stand body rs → statement_at body q.0 ≡ Some q.1 → Contains rs q
      → at + choices_count (with_choices rs) ≤ n
      → AreSaid ns (chosen_at cs q.0) (map (λ x. x.sort) (layer_choices (program_at program layer) (out-Stmt q.1))) (λ env. chosen_in (with_choices rs) (given env 0 n) at q.0)
  chosen_found ns n at cs rs q h s t k l =
      subst (λ (chs : List Choice). AreSaid ns (chosen_at cs q.0) (map (λ x. x.sort) chs) (λ env. chosen_in (with_choices rs) (given env 0 n) at q.0)) (ap choices_for t)
      (said_for (λ m. choices_for (statement_at body m)) ns n at cs (with_choices rs) q.0 h (all_told rs s) (inl (numbered_there rs q k)) l)
