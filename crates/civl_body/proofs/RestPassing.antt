-- Statements with their numbers, one behind the other.
use Rattle.std.specs.Prelude.{get_or, drop}
use Rattle.std.proofs.Common.{◌≡◌, ◌∙◌, ℕ, ◌+◌, ◌<◌, ◌≤◌, List, ◌∷◌, length, refl, sym, ap, subst, arith}
use Rattle.std.proofs.lemmas.List.{drop_more, drop_all}
use Rattle.std.proofs.lemmas.Option.{slice_get_within}
use Rattle.civl_tree.specs.declared.program.Proc.{Proc}
use Rattle.civl_tree.specs.declared.program.Program.{Program}
use Rattle.civl_tree.specs.declared.stmt.Stmt.{Stmt}
use Rattle.civl_tree.specs.Numbering.{statements_of, size_of, sizes_of, inner_of}
use Rattle.civl_tree.proofs.Numbers.{sizes_are_counts}
use Rattle.civl_tree.proofs.Lists.{get_there}
use Rattle.civl_meaning.specs.Rest.{Rest}
use Rattle.civl_terms.specs.declared.node.Node.{Node}
use Rattle.civl_terms.specs.Graphs.{IsGraph}
use Rattle.civl_terms.specs.Building.{Grows}
use Rattle.civl_conditions.specs.paths.Flows.{flow, flow_all}
use Rattle.civl_conditions.proofs.paths.Heading.{counted}
use Rattle.civl_moves.specs.sweeps.Sweeps.{where_onward, sweep, sweep_all}
use Rattle.civl_moves.proofs.sweeps.Sweeping.{sweep_none, sweep_more}
use Rattle.civl_moves.specs.declared.sweep.Sweep.{Sweep}
use Rattle.civl_moves.specs.States.{swept_at}
use Rattle.civl_states.specs.declared.choices.Chosen.{Chosen}
use Rattle.std.proofs.lemmas.List.{get_or-map, length-map}
use Rattle.civl_meaning.specs.declared.remaining.Numbered.{Numbered}
use Rattle.civl_meaning.specs.Remaining.{rest_of}
use Rattle.civl_body.specs.Passing.{course_in, StandIn, Ready, ReadyRest, Passes, UnderRest}
use Rattle.civl_body.proofs.Passing.{has_less, says_less, has_stay, says_stay, first_passed, others_passed, goes_on, own_choices}

-- a statement that stands in the body ends there
pub ends_within : (proc : Proc) (n : ℕ) (s : Stmt) → StandIn proc n (s ∷ inner_of s) → n + size_of s ≤ sizes_of proc.body
ends_within proc n s h =
    let size = counted s in
    let last = get_there (s ∷ inner_of s) (length (inner_of s)) (omega arith) in
    let at = h (length (inner_of s)) (n + length (inner_of s)) last.0 refl last.1 in
    let within = slice_get_within (statements_of proc.body) (n + length (inner_of s)) last.0 at in
    omega (arith, size, within, sizes_are_counts proc.body)

module _ (program : Program) (layer : ℕ) (proc : Proc) (chosen : List Chosen) where
  pub rest_begins : (ns : List Node) (s : Sweep) (all : Rest) → Grows ns ns → ReadyRest ns program layer proc chosen s all → UnderRest ns ns program layer proc chosen s s all all
  rest_begins ns s all g r = record { ready = r; says = λ v h o. h o; moved = λ v h env f. refl; grows = g }

  first_ready : (now : List Node) (t : Sweep) (at : ℕ) (x : Stmt) (k : Rest) → ReadyRest now program layer proc chosen t ((at, x) ∷ k) → Ready now program layer proc chosen t at (x ∷ inner_of x) (flow x x at).passed
  first_ready now t at x k r = record {
    layered = r.layered;
    there = r.there;
    stands = r.stands.0;
    can = r.can;
    choices = λ o. has_less now program layer chosen _ _ (first_passed at x k) (r.choices o);
  }

  step : (first now new : List Node) (s t u : Sweep) (all : Rest) (at : ℕ) (x : Stmt) (k : Rest) → UnderRest first now program layer proc chosen s t all ((at, x) ∷ k) → Grows now new → Grows first new → IsGraph new
      → Passes now new program layer proc chosen t u (flow x x at).passed (λ c. where_onward (sweep c x at)) → UnderRest first new program layer proc chosen s u all k
  step first now new s t u all at x k w g fg graph p =
      let r = w.ready in
      let own = p (own_choices program layer proc chosen now) (λ e q a c h env f. refl) in
      record {
        ready = record {
          layered = r.layered;
          there = r.there;
          stands = r.stands.1;
          can = own.can;
          choices = λ o.
              let on = goes_on program layer proc chosen now new t u x at graph p o in
              has_stay now new program layer chosen _ g (has_less now program layer chosen _ _ (others_passed at x k on.1) (r.choices on.0));
        };
        says = λ v h o.
            let on = goes_on program layer proc chosen now new t u x at graph p o in
            let less = others_passed at x k on.1 in
            says_stay now new program layer chosen _ v g (has_less now program layer chosen _ _ less (r.choices on.0)) (says_less now program layer chosen _ _ v less (w.says v h on.0));
        moved = λ v h env f.
            let c = course_in program layer proc (v env) in
            let m = p v (λ o. says_less now program layer chosen _ _ v (first_passed at x k) (w.says v h o)) in
            ap (sweep_all c k) (m.is env f) ∙ sym (sweep_more c at x k (swept_at env now t)) ∙ w.moved v h env (g.fits env f);
        grows = fg;
      }

  head_is : (q : ℕ × Stmt) → q ≡ (q.0, q.1)
  head_is q = refl

  pub rest_first : (first now : List Node) (s t : Sweep) (all ks : Rest) (i : ℕ) (q : ℕ × Stmt) → i < length ks → q ≡ get_or ks i q → UnderRest first now program layer proc chosen s t all (drop i ks)
      → Ready now program layer proc chosen t q.0 (q.1 ∷ inner_of q.1) (flow q.1 q.1 q.0).passed
  rest_first first now s t all ks i q h e w =
      let is : drop i ks ≡ q ∷ drop (i + 1) ks = drop_more ks i q h ∙ ap (λ (y : ℕ × Stmt). y ∷ drop (i + 1) ks) (sym e) in
      first_ready now t q.0 q.1 (drop (i + 1) ks) (subst (UnderRest first now program layer proc chosen s t all) is w).ready

  pub rest_step : (first now new : List Node) (s t u : Sweep) (all ks : Rest) (i : ℕ) (q : ℕ × Stmt) → i < length ks → q ≡ get_or ks i q → UnderRest first now program layer proc chosen s t all (drop i ks) → Grows now new → Grows first new → IsGraph new
      → Passes now new program layer proc chosen t u (flow q.1 q.1 q.0).passed (λ c. where_onward (sweep c q.1 q.0)) → UnderRest first new program layer proc chosen s u all (drop (i + 1) ks)
  rest_step first now new s t u all ks i q h e w g fg graph p =
      let is : drop i ks ≡ q ∷ drop (i + 1) ks = drop_more ks i q h ∙ ap (λ (y : ℕ × Stmt). y ∷ drop (i + 1) ks) (sym e) in
      step first now new s t u all q.0 q.1 (drop (i + 1) ks) (subst (UnderRest first now program layer proc chosen s t all) is w) g fg graph p

  pub rest_ends : (first now : List Node) (s t : Sweep) (all ks : Rest) (i : ℕ) → length ks ≤ i → UnderRest first now program layer proc chosen s t all (drop i ks)
      → Passes first now program layer proc chosen s t (flow_all all).passed (λ c. sweep_all c all)
  rest_ends first now s t all ks i h w v says =
      let w2 = subst (UnderRest first now program layer proc chosen s t all) (drop_all i ks h) w in
      record { can = w2.ready.can; is = λ env f. sym (sweep_none (course_in program layer proc (v env)) (swept_at env now t)) ∙ w2.moved v says env f }

-- ---- a statement and its number, among those of a list

pub item_is : (items : List Numbered) (i : ℕ) (x : Numbered) → i < length items → x ≡ get_or items i x → ◌≡◌ {A = ℕ × Stmt} (x.number, x.stmt.now) (get_or (rest_of items) i (x.number, x.stmt.now))
item_is items i x h e =
    let q : ℕ × Stmt = (x.number, x.stmt.now) in
    ap (λ (y : Numbered). (y.number, y.stmt.now)) e ∙ sym (get_or-map (λ (y : Numbered). (y.number, y.stmt.now)) items i x q h)

pub rest_long : (items : List Numbered) → length (rest_of items) ≡ length items
rest_long items = length-map {B = ℕ × Stmt} items (λ q. (q.number, q.stmt.now))
