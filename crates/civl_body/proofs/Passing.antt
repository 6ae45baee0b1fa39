-- Statements one behind the other.
use Rattle.std.specs.Prelude.{get_or, drop, if◌then◌else◌}
use Rattle.std.specs.List.{Contains}
use Rattle.std.proofs.Common.{◌≡◌, ◌∙◌, ℕ, ◌+◌, ◌<◌, ◌≤◌, Bool, true, false, List, ◌∷◌, ◌++◌, length, refl, sym, ap, subst, Some}
use Rattle.std.proofs.lemmas.Bool.{false≢true}
use Rattle.std.proofs.lemmas.List.{drop_more, drop_all}
use Rattle.std.proofs.lemmas.List.Elements.{Contains-append_left, Contains-append_right}
use Rattle.civl_bits.specs.declared.value.Value.{Value}
use Rattle.civl_tree.specs.declared.program.Proc.{Proc}
use Rattle.civl_tree.specs.declared.program.Program.{Program}
use Rattle.civl_tree.specs.declared.stmt.Stmt.{Stmt, out-Stmt}
use Rattle.civl_tree.specs.declared.stmt.Stmt.TheOpen as stmt
use Rattle.civl_tree.specs.Numbering.{statement_at, numbered, size_of, inner_of, statements_of}
use Rattle.civl_meaning.specs.Rest.{Rest}
use Rattle.civl_terms.specs.declared.node.Node.{Node}
use Rattle.civl_terms.specs.Graphs.{IsGraph}
use Rattle.civl_terms.specs.Building.{Grows}
use Rattle.civl_terms.proofs.Soundness.{zeros, zeros_fit}
use Rattle.civl_actions.specs.Actions.{values_at}
use Rattle.civl_actions.proofs.Staying.{are_stay, values_stay}
use Rattle.civl_conditions.specs.paths.Paths.{Course}
use Rattle.civl_conditions.specs.paths.Flows.{Flow, flow_then, flow, flow_all}
use Rattle.civl_conditions.proofs.paths.Passing.{flow_more}
use Rattle.civl_conditions.proofs.paths.Each.{each_first, each_others}
use Rattle.civl_moves.specs.sweeps.Sweeps.{Swept, where_onward, sweep, sweep_all}
use Rattle.civl_moves.proofs.sweeps.Sweeping.{sweep_of_layer, sweep_is, sweep_none, sweep_more}
use Rattle.civl_moves.proofs.sweeps.Stopping.{stmt_flows}
use Rattle.civl_states.specs.formula_parts.Said.{Env}
use Rattle.civl_moves.specs.declared.sweep.Sweep.{Sweep}
use Rattle.civl_moves.specs.States.{swept_at, CanSweep, Moves}
use Rattle.civl_states.specs.declared.choices.Chosen.{Chosen}
use Rattle.civl_states.specs.Beginnings.{chosen_at}
use Rattle.civl_body.specs.Passing.{course_in, HasChoices, SaysChoices, Ready, Passes, Under}

-- ---- moves, said otherwise

pub moves_as : (old new : List Node) (program : Program) (proc : Proc) (s t : Sweep) (f g : Env → Swept → Swept) → ((env : Env) → f env (swept_at env old s) ≡ g env (swept_at env old s)) → Moves old new program proc s t f → Moves old new program proc s t g
moves_as old new program proc s t f g e m = record { can = m.can; is = λ env fits. m.is env fits ∙ e env }

onward_is : (f : Swept → Swept) (d : Swept) → d.onward ≡ true → f d ≡ where_onward f d
onward_is f d e = ap (λ (b : Bool). if b then f d else d) (sym e)

-- a statement of this form is passed
pub passed_by : (old new : List Node) (program : Program) (layer : ℕ) (proc : Proc) (s t : Sweep) (v : Env → ℕ → List Value) (at : ℕ) (x : Stmt) (d : stmt.Stmt-F Stmt) → s.onward ≡ true → out-Stmt x ≡ d
    → Moves old new program proc s t (λ env. sweep_of_layer (course_in program layer proc (v env)) d at) → Moves old new program proc s t (λ env. where_onward (sweep (course_in program layer proc (v env)) x at))
passed_by old new program layer proc s t v at x d o e m =
    moves_as old new program proc s t _ _ (λ env.
    let c = course_in program layer proc (v env) in
    let y = swept_at env old s in
    ap (λ (z : stmt.Stmt-F Stmt). sweep_of_layer c z at y) (sym e) ∙ sym (sweep_is c x at y) ∙ onward_is (sweep c x at) y o) m

-- where no path goes on, nothing is passed
pub still_passes : (ns : List Node) (program : Program) (layer : ℕ) (proc : Proc) (chosen : List Chosen) (s : Sweep) (passed : Rest) (f : Course → Swept → Swept) → CanSweep ns program proc s → s.onward ≡ false
    → Passes ns ns program layer proc chosen s s passed (λ c. where_onward (f c))
still_passes ns program layer proc chosen s passed f can o v says = record {
  can = can;
  is = λ env fits. let d = swept_at env ns s in ap (λ (b : Bool). if b then f (course_in program layer proc (v env)) d else d) (sym o);
}

-- ---- choices

pub has_less : (ns : List Node) (program : Program) (layer : ℕ) (chosen : List Chosen) (p q : Rest) → ((x : ℕ × Stmt) → Contains q x → Contains p x) → HasChoices ns program layer chosen p → HasChoices ns program layer chosen q
has_less ns program layer chosen p q w h x a c e = h x a (w x c) e

pub says_less : (ns : List Node) (program : Program) (layer : ℕ) (chosen : List Chosen) (p q : Rest) (v : Env → ℕ → List Value) → ((x : ℕ × Stmt) → Contains q x → Contains p x) → SaysChoices ns program layer chosen p v → SaysChoices ns program layer chosen q v
says_less ns program layer chosen p q v w h x a c e = h x a (w x c) e

pub has_stay : (old new : List Node) (program : Program) (layer : ℕ) (chosen : List Chosen) (p : Rest) → Grows old new → HasChoices old program layer chosen p → HasChoices new program layer chosen p
has_stay old new program layer chosen p g h x a c e = are_stay old new (chosen_at chosen x.0) _ (h x a c e) g

pub says_stay : (old new : List Node) (program : Program) (layer : ℕ) (chosen : List Chosen) (p : Rest) (v : Env → ℕ → List Value) → Grows old new → HasChoices old program layer chosen p → SaysChoices old program layer chosen p v → SaysChoices new program layer chosen p v
says_stay old new program layer chosen p v g h s x a c e env f = values_stay env old new (chosen_at chosen x.0) _ (h x a c e) g ∙ s x a c e env (g.fits env f)

-- ---- the first of some statements, and the others

abbrev Within : Rest → Rest → Type 0
Within q p = (x : ℕ × Stmt) → Contains q x → Contains p x

pub first_within : (f g : Flow) → Within f.passed (flow_then f g).passed
first_within f g x c = by_onward f.onward
  where
    by_onward : (b : Bool) → Contains (if b then record { passed = f.passed ++ g.passed; ends = f.ends ++ g.ends; onward = g.onward } else f).passed x
    by_onward true = Contains-append_left f.passed g.passed x c
    by_onward false = c

others_within : (f g : Flow) → f.onward ≡ true → Within g.passed (flow_then f g).passed
others_within f g o x c =
    subst (λ (b : Bool). Contains (if b then record { passed = f.passed ++ g.passed; ends = f.ends ++ g.ends; onward = g.onward } else f).passed x) (sym o) (Contains-append_right f.passed g.passed x c)

pub first_passed : (at : ℕ) (s : Stmt) (k : Rest) → Within (flow s s at).passed (flow_all ((at, s) ∷ k)).passed
first_passed at s k x c = subst (λ (f : Flow). Contains f.passed x) (sym (flow_more at s k)) (first_within (flow s s at) (flow_all k) x c)

pub others_passed : (at : ℕ) (s : Stmt) (k : Rest) → (flow s s at).onward ≡ true → Within (flow_all k).passed (flow_all ((at, s) ∷ k)).passed
others_passed at s k o x c = subst (λ (f : Flow). Contains f.passed x) (sym (flow_more at s k)) (others_within (flow s s at) (flow_all k) o x c)

-- ---- whether some path goes on

onward_cases : (c : Course) (x : Stmt) (at : ℕ) (d : Swept) (b : Bool) → d.onward ≡ b → (where_onward (sweep c x at) d).onward ≡ true → (d.onward ≡ true) × ((flow x x at).onward ≡ true)
onward_cases c x at d true e o =
    let here : where_onward (sweep c x at) d ≡ sweep c x at d = ap (λ (b : Bool). if b then sweep c x at d else d) e in
    (e, sym (stmt_flows c x x at d e).onward ∙ sym (ap (λ (y : Swept). y.onward) here) ∙ o)
onward_cases c x at d false e o =
    let here : where_onward (sweep c x at) d ≡ d = ap (λ (b : Bool). if b then sweep c x at d else d) e in
    absurd (false≢true (sym e ∙ sym (ap (λ (y : Swept). y.onward) here) ∙ o))

module _ (program : Program) (layer : ℕ) (proc : Proc) (chosen : List Chosen) where
  -- the terms' own values for the choices
  abbrev pub own_choices : List Node → Env → ℕ → List Value
  own_choices ns env number = values_at env ns (chosen_at chosen number)

  pub goes_on : (now new : List Node) (s t : Sweep) (x : Stmt) (at : ℕ) → IsGraph new → Passes now new program layer proc chosen s t (flow x x at).passed (λ c. where_onward (sweep c x at)) → t.onward ≡ true → (s.onward ≡ true) × ((flow x x at).onward ≡ true)
  goes_on now new s t x at graph p o =
      let m = p (own_choices now) (λ e q a c k env f. refl) in
      let env = zeros new in
      let is = m.is env (zeros_fit new graph) in
      onward_cases (course_in program layer proc (own_choices now env)) x at (swept_at env now s) s.onward refl (sym (ap (λ (y : Swept). y.onward) is) ∙ o)

  -- ---- over statements

  pub under_begins : (ns : List Node) (s : Sweep) (number : ℕ) (all : List Stmt) → Grows ns ns → Ready ns program layer proc chosen s number (statements_of all) (flow_all (numbered number all)).passed → Under ns ns program layer proc chosen s s number number all all
  under_begins ns s number all g r = record { ready = r; says = λ v h o. h o; moved = λ v h env f. refl; grows = g }

  pub first_ready : (now : List Node) (t : Sweep) (at : ℕ) (x : Stmt) (rest : List Stmt) → Ready now program layer proc chosen t at (statements_of (x ∷ rest)) (flow_all (numbered at (x ∷ rest))).passed → Ready now program layer proc chosen t at (x ∷ inner_of x) (flow x x at).passed
  first_ready now t at x rest r = record {
    layered = r.layered;
    there = r.there;
    stands = each_first (λ n y. statement_at proc.body n ≡ Some y) at x rest r.stands;
    can = r.can;
    choices = λ o. has_less now program layer chosen _ _ (first_passed at x (numbered (at + size_of x) rest)) (r.choices o);
  }

  step : (first now new : List Node) (s t u : Sweep) (number at : ℕ) (all : List Stmt) (x : Stmt) (rest : List Stmt) → Under first now program layer proc chosen s t number at all (x ∷ rest) → Grows now new → Grows first new → IsGraph new
      → Passes now new program layer proc chosen t u (flow x x at).passed (λ c. where_onward (sweep c x at)) → Under first new program layer proc chosen s u number (at + size_of x) all rest
  step first now new s t u number at all x rest w g fg graph p =
      let k = numbered (at + size_of x) rest in
      let r = w.ready in
      let own = p (own_choices now) (λ e q a c h env f. refl) in
      record {
        ready = record {
          layered = r.layered;
          there = r.there;
          stands = each_others (λ n y. statement_at proc.body n ≡ Some y) at x rest r.stands;
          can = own.can;
          choices = λ o.
              let on = goes_on now new t u x at graph p o in
              has_stay now new program layer chosen _ g (has_less now program layer chosen _ _ (others_passed at x k on.1) (r.choices on.0));
        };
        says = λ v h o.
            let on = goes_on now new t u x at graph p o in
            let less = others_passed at x k on.1 in
            says_stay now new program layer chosen _ v g (has_less now program layer chosen _ _ less (r.choices on.0)) (says_less now program layer chosen _ _ v less (w.says v h on.0));
        moved = λ v h env f.
            let c = course_in program layer proc (v env) in
            let m = p v (λ o. says_less now program layer chosen _ _ v (first_passed at x k) (w.says v h o)) in
            ap (sweep_all c k) (m.is env f) ∙ sym (sweep_more c at x k (swept_at env now t)) ∙ w.moved v h env (g.fits env f);
        grows = fg;
      }

  pub under_step : (first now new : List Node) (s t u : Sweep) (number at next : ℕ) (all ss : List Stmt) (i : ℕ) (x : Stmt) → i < length ss → x ≡ get_or ss i x → Under first now program layer proc chosen s t number at all (drop i ss) → Grows now new → Grows first new → IsGraph new
      → Passes now new program layer proc chosen t u (flow x x at).passed (λ c. where_onward (sweep c x at)) → next ≡ at + size_of x → Under first new program layer proc chosen s u number next all (drop (i + 1) ss)
  under_step first now new s t u number at next all ss i x h e w g fg graph p n =
      let is : drop i ss ≡ x ∷ drop (i + 1) ss = drop_more ss i x h ∙ ap (λ (y : Stmt). y ∷ drop (i + 1) ss) (sym e) in
      subst (λ (m : ℕ). Under first new program layer proc chosen s u number m all (drop (i + 1) ss)) (sym n)
      (step first now new s t u number at all x (drop (i + 1) ss) (subst (Under first now program layer proc chosen s t number at all) is w) g fg graph p)

  pub under_first : (first now : List Node) (s t : Sweep) (number at : ℕ) (all ss : List Stmt) (i : ℕ) (x : Stmt) → i < length ss → x ≡ get_or ss i x → Under first now program layer proc chosen s t number at all (drop i ss)
      → Ready now program layer proc chosen t at (x ∷ inner_of x) (flow x x at).passed
  under_first first now s t number at all ss i x h e w =
      let is : drop i ss ≡ x ∷ drop (i + 1) ss = drop_more ss i x h ∙ ap (λ (y : Stmt). y ∷ drop (i + 1) ss) (sym e) in
      first_ready now t at x (drop (i + 1) ss) (subst (Under first now program layer proc chosen s t number at all) is w).ready

  pub under_ends : (first now : List Node) (s t : Sweep) (number at : ℕ) (all ss : List Stmt) (i : ℕ) → length ss ≤ i → Under first now program layer proc chosen s t number at all (drop i ss)
      → Passes first now program layer proc chosen s t (flow_all (numbered number all)).passed (λ c. sweep_all c (numbered number all))
  under_ends first now s t number at all ss i h w v says =
      let w2 = subst (Under first now program layer proc chosen s t number at all) (drop_all i ss h) w in
      record { can = w2.ready.can; is = λ env f. sym (sweep_none (course_in program layer proc (v env)) (swept_at env now t)) ∙ w2.moved v says env f }
