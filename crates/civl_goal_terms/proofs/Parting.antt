-- The terms of the held locals: their sorts, and the permissions of what they say.
use Rattle.std.specs.Prelude.{All, map, slice_get, get_or}
use Rattle.std.proofs.Common.{◌≡◌, ◌∙◌, ℕ, zero, suc, ◌<◌, List, [], ◌∷◌, length, refl, ap, ap₂, arith, Some}
use Rattle.std.proofs.lemmas.List.Elements.{All-nil, All-cons, All-head, All-tail}
use Rattle.civl_bits.specs.declared.value.Value.{Value}
use Rattle.civl_tree.specs.declared.expr.Sort.{Sort}
use Rattle.civl_tree.proofs.Lists.{heads}
use Rattle.civl_firing.specs.values.Operators.{nothing}
use Rattle.civl_terms.specs.declared.node.Node.{Node}
use Rattle.civl_terms.specs.Graphs.{value_at, sort_at, Fits}
use Rattle.civl_meaning.specs.Permissions.{permissions_of_word}
use Rattle.civl_actions.specs.Scopes.{AreOf}
use Rattle.civl_actions.specs.Actions.{values_at}
use Rattle.civl_conditions.specs.Permissions.{of_held}
use Rattle.civl_states.specs.formula_parts.Said.{Env}
use Rattle.civl_states.specs.formula_parts.Lists.{AreSaid}

-- where a sort stands a term of it does
placed : (ns : List Node) (ids : List ℕ) (sorts : List Sort) (n : ℕ) (s : Sort) → AreOf ns ids sorts → slice_get sorts n ≡ Some s → (n < length ids) × (sort_at ns (get_or ids n 0) ≡ Some s)
placed ns ids [] n s h e = absurd (cc)
placed ns [] (t ∷ sorts) n s h e = absurd (cc)
placed ns (i ∷ ids) (t ∷ sorts) zero s h e = (omega arith, (heads (sort_at ns i) (Some t) (map (sort_at ns) ids) (map (λ (u : Sort). Some u) sorts) h).0 ∙ e)
placed ns (i ∷ ids) (t ∷ sorts) (suc n) s h e =
    let r = placed ns ids sorts n s (heads (sort_at ns i) (Some t) (map (sort_at ns) ids) (map (λ (u : Sort). Some u) sorts) h).1 e in
    (omega (arith, r.0), r.1)

value_there : (env : Env) (ns : List Node) (ids : List ℕ) (n : ℕ) → n < length ids → value_at env ns (get_or ids n 0) ≡ get_or (values_at env ns ids) n nothing
value_there env ns [] n l = absurd (omega (arith, l))
value_there env ns (i ∷ ids) zero l = refl
value_there env ns (i ∷ ids) (suc n) l = value_there env ns ids n (omega (arith, l))

module _ (sorts : List Sort) (s : Sort) where
  -- so is the sort of each local with one of these numbers
  abbrev pub HaveSort : List ℕ → Type 0
  HaveSort held = All (λ n. slice_get sorts n ≡ Some s) held

  pub held_within : (ns : List Node) (ids held : List ℕ) → AreOf ns ids sorts → HaveSort held → All (λ n. n < length ids) held
  held_within ns ids [] h w = All-nil (λ n. n < length ids)
  held_within ns ids (n ∷ held) h w =
      All-cons (λ k. k < length ids) n held (placed ns ids sorts n s h (All-head (λ k. slice_get sorts k ≡ Some s) n held w)).0
      (held_within ns ids held h (All-tail (λ k. slice_get sorts k ≡ Some s) n held w))

  pub held_sorted : (ns : List Node) (ids held : List ℕ) → AreOf ns ids sorts → HaveSort held → All (λ i. sort_at ns i ≡ Some s) (map (λ n. get_or ids n 0) held)
  held_sorted ns ids [] h w = All-nil (λ i. sort_at ns i ≡ Some s)
  held_sorted ns ids (n ∷ held) h w =
      All-cons (λ i. sort_at ns i ≡ Some s) (get_or ids n 0) (map (λ k. get_or ids k 0) held) (placed ns ids sorts n s h (All-head (λ k. slice_get sorts k ≡ Some s) n held w)).1
      (held_sorted ns ids held h (All-tail (λ k. slice_get sorts k ≡ Some s) n held w))

  pub held_said : (ns : List Node) (ids held : List ℕ) (l : Env → List Value) → AreSaid ns ids sorts l → HaveSort held → (env : Env) → Fits env ns
      → map permissions_of_word (values_at env ns (map (λ n. get_or ids n 0) held)) ≡ of_held held (l env)
  held_said ns ids [] l said w env fits = refl
  held_said ns ids (n ∷ held) l said w env fits =
      ap₂ (λ (v : Value) (ps : List (List ℕ)). permissions_of_word v ∷ ps)
      (value_there env ns ids n (placed ns ids sorts n s said.sorted (All-head (λ k. slice_get sorts k ≡ Some s) n held w)).0 ∙ ap (λ (vs : List Value). get_or vs n nothing) (said.are env fits))
      (held_said ns ids held l said (All-tail (λ k. slice_get sorts k ≡ Some s) n held w) env fits)
