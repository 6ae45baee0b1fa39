-- Loops over the arguments of a thread, and over threads.
use Rattle.std.specs.Prelude.{map, flat_map, unwrap_or}
use Rattle.std.proofs.Common.{◌≡◌, ◌∙◌, ℕ, ◌+◌, ◌^◌, ◌≤◌, List, [], ◌∷◌, ◌++◌, append_assoc, refl, sym, ap, ap₂, subst, arith, Option, Some}
use Rattle.std.proofs.lemmas.List.{map-append, append-nil}
use Rattle.civl_bits.specs.declared.value.Value.{Value}
use Rattle.civl_tree.specs.declared.expr.Expr.{Expr}
use Rattle.civl_tree.specs.declared.expr.Sort.{Sort}
use Rattle.civl_tree.specs.declared.expr.Sort.TheVariants.{Bool as Truth}
use Rattle.civl_tree.specs.declared.program.Thread.{Thread}
use Rattle.civl_tree.specs.declared.program.Program.{Program}
use Rattle.civl_tree.specs.rules.Scopes.{global_scope}
use Rattle.civl_tree.specs.rules.Sorts.{sort_of}
use Rattle.civl_firing.specs.declared.store.Store.{Store}
use Rattle.civl_firing.specs.Eval.{value_of, values_of}
use Rattle.civl_firing.specs.Scope.{global_values}
use Rattle.civl_meaning.specs.Initial.{of_thread}
use Rattle.civl_terms.specs.declared.node.Node.{Node}
use Rattle.civl_terms.specs.Graphs.{sort_at}
use Rattle.civl_terms.specs.Building.{Grows}
use Rattle.civl_terms.specs.Weights.{graph_weight}
use Rattle.civl_terms.proofs.Growing.{grows_trans, grows_same, lengthened}
use Rattle.civl_actions.specs.Scopes.{AreOf, IsTyped}
use Rattle.civl_conditions.specs.Weights.{weights_of, global_weight, summed, thread_items}
use Rattle.civl_states.specs.declared.formula_parts.carried.Carried.{Carried}
use Rattle.civl_states.specs.formula_parts.Said.{Env}
use Rattle.civl_states.specs.formula_parts.Lists.{AreSaid}
use Rattle.civl_states.specs.formula_parts.Masks.{AreCarried, CanCarry}
use Rattle.civl_states.proofs.formula_parts.Listing.{sorts_stay, said_stay, said_more}
use Rattle.civl_states.proofs.formula_parts.Carrying.{carried_as}
use Rattle.civl_states.specs.Stores.{AreStore}
use Rattle.civl_states.specs.Items.{HasItems, items_weight}
use Rattle.civl_states.specs.Notes.{IsGlobalNote}
use Rattle.civl_states.proofs.Stepping.{weights_last}
use Rattle.civl_movers.specs.interfere.Arguments.{arg_sorts, threads_items, thread_weight, threads_weight, of_threads}
use Rattle.civl_movers.proofs.interfere.Arguing.{own_sort}

-- ---- arguments

-- the terms are those of these arguments
abbrev pub ArgsSo : List Node → Program → List ℕ → List Expr → List Node → List ℕ → Type 0
ArgsSo old program globals es ns ids =
    Grows old ns × AreOf ns ids (arg_sorts program es)
    × ((g : Env → Store) → AreStore old program globals g → AreSaid ns ids (arg_sorts program es) (λ env. values_of (global_values program.globals (g env)) es))
    × (graph_weight ns ≤ graph_weight old + weights_of (global_weight program) es)

pub args_begin : (old : List Node) (program : Program) (globals : List ℕ) → ArgsSo old program globals [] old []
args_begin old program globals = (grows_same old, refl, λ g s. record { sorted = refl; are = λ env fits. refl }, omega arith)

pub args_more : (old now new : List Node) (program : Program) (globals ids : List ℕ) (es : List Expr) (e : Expr) (id : ℕ) → ArgsSo old program globals es now ids → Grows now new → IsTyped (global_scope program) e
    → IsGlobalNote now new program globals e id → sort_at new id ≡ sort_of (global_scope program) e → graph_weight new ≤ graph_weight now + global_weight program e → ArgsSo old program globals (es ++ e ∷ []) new (ids ++ id ∷ [])
args_more old now new program globals ids es e id h w typed note sorted weighs =
    let s = unwrap_or (sort_of (global_scope program) e) Truth in
    let own = own_sort program e typed in
    let ss : arg_sorts program (es ++ e ∷ []) ≡ arg_sorts program es ++ s ∷ [] = map-append (λ d. unwrap_or (sort_of (global_scope program) d) Truth) es (e ∷ []) in
    let one : AreOf new (id ∷ []) (s ∷ []) = ap (λ (o : Option Sort). o ∷ []) (sorted ∙ own) in (
      grows_trans old now new h.0 w,
      subst (λ (ts : List Sort). AreOf new (ids ++ id ∷ []) ts) (sym ss)
          (map-append (sort_at new) ids (id ∷ []) ∙ ap₂ (λ (a b : List (Option Sort)). a ++ b) (sorts_stay now new ids (arg_sorts program es) w h.1) one ∙ sym (map-append (λ (t : Sort). Some t) (arg_sorts program es) (s ∷ []))),
      λ g st.
          let said = note.said s g own (said_stay old now globals _ _ h.0 st) in
          let more = said_more now new ids (id ∷ []) (arg_sorts program es) (s ∷ []) (λ env. values_of (global_values program.globals (g env)) es) (λ env. value_of (global_values program.globals (g env)) e ∷ []) (lengthened now new w) (h.2 g st)
          (record { sorted = one; are = λ env fits. ap (λ (v : Value). v ∷ []) (said.is env fits) }) in
          subst (λ (ts : List Sort). AreSaid new (ids ++ id ∷ []) ts (λ env. values_of (global_values program.globals (g env)) (es ++ e ∷ []))) (sym ss)
          (record { sorted = more.sorted; are = λ env fits. more.are env fits ∙ sym (map-append (value_of (global_values program.globals (g env))) es (e ∷ [])) }),
      omega (arith, h.3, weighs, weights_last (global_weight program) es e),
    )

-- ---- threads

summed_last : (f : Thread → ℕ) (ts : List Thread) (t : Thread) → summed (map f (ts ++ t ∷ [])) ≡ summed (map f ts) + f t
summed_last f [] t = omega arith
summed_last f (s ∷ ts) t = omega (arith, summed_last f ts t)

flat_last : (f : Thread → List (List ℕ)) (ts : List Thread) (t : Thread) → flat_map f (ts ++ t ∷ []) ≡ flat_map f ts ++ f t
flat_last f [] t = append-nil (f t)
flat_last f (s ∷ ts) t = ap (λ xs. f s ++ xs) (flat_last f ts t) ∙ sym (append_assoc (f s) (flat_map f ts) (f t))

-- what these threads carry behind what was there
abbrev pub ThreadsSo : List Node → Program → List ℕ → Carried → List Thread → List Node → Carried → Type 0
ThreadsSo old program globals first ts ns c =
    Grows old ns × CanCarry ns (2 ^ program.permissions) c
    × ((f : Env → List (List ℕ)) (g : Env → Store) → AreCarried old (2 ^ program.permissions) first f → AreStore old program globals g → AreCarried ns (2 ^ program.permissions) c (λ env. f env ++ of_threads program (g env) ts))
    × ((n : ℕ) → HasItems first.mask n → HasItems c.mask (n + threads_items program ts))
    × ((n : ℕ) → HasItems first.mask n → graph_weight ns + items_weight (2 ^ program.permissions) n ≤ graph_weight old + threads_weight program ts + items_weight (2 ^ program.permissions) (n + threads_items program ts))

pub threads_begin : (old : List Node) (program : Program) (globals : List ℕ) (first : Carried) → CanCarry old (2 ^ program.permissions) first → ThreadsSo old program globals first [] old first
threads_begin old program globals first can = (
  grows_same old,
  can,
  λ f g h s. carried_as f (λ env. f env ++ []) (λ env fits. sym (append-nil (f env))) h,
  λ n h. (let e : n ≡ n + 0 = omega arith in subst (HasItems first.mask) e h),
  λ n h. (let e : n ≡ n + 0 = omega arith in omega (arith, ap (items_weight (2 ^ program.permissions)) e)),
)

pub threads_more : (old now new : List Node) (program : Program) (globals : List ℕ) (first c next : Carried) (ts : List Thread) (t : Thread) → ThreadsSo old program globals first ts now c → Grows now new → CanCarry new (2 ^ program.permissions) next
    → ((f : Env → List (List ℕ)) (g : Env → Store) → AreCarried now (2 ^ program.permissions) c f → AreStore now program globals g → AreCarried new (2 ^ program.permissions) next (λ env. f env ++ of_thread program (g env) t))
    → ((n : ℕ) → HasItems c.mask n → HasItems next.mask (n + thread_items program t))
    → ((n : ℕ) → HasItems c.mask n → graph_weight new + items_weight (2 ^ program.permissions) n ≤ graph_weight now + thread_weight program t + items_weight (2 ^ program.permissions) (n + thread_items program t))
    → ThreadsSo old program globals first (ts ++ t ∷ []) new next
threads_more old now new program globals first c next ts t h w can carried number weighs =
    let count : (n : ℕ) → n + threads_items program ts + thread_items program t ≡ n + threads_items program (ts ++ t ∷ []) = λ n. omega (arith, summed_last (thread_items program) ts t) in (
      grows_trans old now new h.0 w,
      can,
      λ f g k s.
          carried_as (λ env. (f env ++ of_threads program (g env) ts) ++ of_thread program (g env) t) (λ env. f env ++ of_threads program (g env) (ts ++ t ∷ []))
          (λ env fits. append_assoc (f env) (of_threads program (g env) ts) (of_thread program (g env) t) ∙ ap (λ xs. f env ++ xs) (sym (flat_last (of_thread program (g env)) ts t)))
          (carried (λ env. f env ++ of_threads program (g env) ts) g (h.2 f g k s) (said_stay old now globals _ _ h.0 s)),
      λ n k. subst (HasItems next.mask) (count n) (number (n + threads_items program ts) (h.3 n k)),
      λ n k. omega (arith, h.4 n k, weighs (n + threads_items program ts) (h.3 n k), ap (items_weight (2 ^ program.permissions)) (count n), summed_last (thread_weight program) ts t),
    )
