-- Parts that are added to a list.
use Rattle.std.proofs.Common.{◌≡◌, ℕ, ◌+◌, Bool, true, false, if◌then◌else◌, List, [], ◌∷◌, ◌++◌, length, map, take, refl, sym, ap, ◌∙◌, append_assoc, arith}
use Rattle.std.proofs.Math.Seq.{take-append_seam}
use Rattle.std.proofs.lemmas.List.{append-nil, length-map, take-map}
use Rattle.civl_bits.specs.declared.value.Value.{Value}
use Rattle.civl_tree.specs.declared.expr.Two.{Two}
use Rattle.civl_tree.specs.declared.expr.Expr.{Expr, the_lemmas as of_expr}
use Rattle.civl_tree.specs.declared.expr.Expr as tree
use Rattle.civl_tree.specs.Spelling.{spell_expr}
use Rattle.civl_firing.specs.declared.scope.Scope.{Scope}
use Rattle.civl_firing.specs.Eval.{value_of}
use Rattle.civl_firing.specs.values.Operators.{two_value}
use Rattle.civl_firing.specs.values.Values.{is_true}
use Rattle.civl_reasons.specs.declared.reasons.Part.{Part}
use Rattle.civl_reasons.specs.Reasons.{Subformula, joins, is_joint, parts_from}
use Rattle.civl_reasons.specs.inner.Told.{subformula}
use Rattle.civl_reasons.proofs.Parts.{two_parts, leaf_parts}

-- the first ones of a list that goes on
front_is : (n : ℕ) (news olds : List Part) (more : List Subformula) → n ≡ length olds
    → map subformula news ≡ map subformula olds ++ more → map subformula (take n news) ≡ map subformula olds ++ []
front_is n news olds more counted e =
    let size : n ≡ length (map subformula olds) = omega (arith, length-map olds subformula) in
    sym (take-map subformula n news)
    ∙ ap (take n) e
    ∙ ap (λ (k : ℕ). take k (map subformula olds ++ more)) size
    ∙ take-append_seam (map subformula olds) more
    ∙ sym (append-nil (map subformula olds))

module _ (scope : Scope) where
  -- what is kept of the sides of an operation, by its truth
  by_truth : (op : Two) (a b : Expr) (at n : ℕ) (olds rights : List Part) (t : Bool) → joins op ≡ true → n ≡ length olds → t ≡ is_true (value_of scope (tree.Two op a b))
      → map subformula rights ≡ map subformula olds ++ (parts_from scope a (at + 1) ++ parts_from scope b (at + length (spell_expr a) + 2))
      → map subformula (if t then take n rights else rights) ≡ map subformula olds ++ parts_from scope (tree.Two op a b) at
  by_truth op a b at n olds rights true joint counted known sides =
      front_is n rights olds _ counted sides ∙ sym (ap (λ (l : List Subformula). map subformula olds ++ l) (two_parts scope op a b at ∙ rw (← known) refl))
  by_truth op a b at n olds rights false joint counted known sides =
      sides ∙ sym (ap (λ (l : List Subformula). map subformula olds ++ l) (two_parts scope op a b at ∙ rw (← known, joint) refl))

  pub two_is : (op : Two) (a b : Expr) → value_of scope (tree.Two op a b) ≡ two_value op (value_of scope a) (value_of scope b)
  two_is op a b = simp of_expr

  pub joined_kept : (op : Two) (a b c d e : Expr) (at n behind : ℕ) (left right v : Value) (olds lefts rights news : List Part)
      → e ≡ tree.Two op a b → c ≡ a → d ≡ b → joins op ≡ true → n ≡ length olds
      → left ≡ value_of scope c → right ≡ value_of scope d → v ≡ two_value op left right
      → behind ≡ at + 1 + length (spell_expr c)
      → map subformula lefts ≡ map subformula olds ++ parts_from scope c (at + 1)
      → map subformula rights ≡ map subformula lefts ++ parts_from scope d (behind + 1)
      → news ≡ (if is_true v then take n rights else rights)
      → map subformula news ≡ map subformula olds ++ parts_from scope e at
  joined_kept op a b c d e at n behind left right v olds lefts rights news whole first second joint counted lefted righted valued spelled one other kept =
      let is : e ≡ tree.Two op c d = whole ∙ ap (λ (x : Expr). tree.Two op x b) (sym first) ∙ ap (λ (x : Expr). tree.Two op c x) (sym second) in
      let truth : is_true v ≡ is_true (value_of scope (tree.Two op c d))
      = ap is_true (valued ∙ ap (λ (x : Value). two_value op x right) lefted ∙ ap (λ (x : Value). two_value op (value_of scope c) x) righted ∙ sym (two_is op c d)) in
      let place : behind + 1 ≡ at + length (spell_expr c) + 2 = omega arith in
      let sides : map subformula rights ≡ map subformula olds ++ (parts_from scope c (at + 1) ++ parts_from scope d (at + length (spell_expr c) + 2))
      = other ∙ ap (λ (l : List Subformula). l ++ parts_from scope d (behind + 1)) one ∙ append_assoc (map subformula olds) (parts_from scope c (at + 1)) (parts_from scope d (behind + 1))
      ∙ ap (λ (k : ℕ). map subformula olds ++ (parts_from scope c (at + 1) ++ parts_from scope d k)) place in
      ap (map subformula) kept ∙ by_truth op c d at n olds rights (is_true v) joint counted truth sides
      ∙ sym (ap (λ (x : Expr). map subformula olds ++ parts_from scope x at) is)

  -- an expression of another form
  pub leaf_added : (e : Expr) (at : ℕ) (v : Value) (olds news : List Part) → is_joint e ≡ false → v ≡ value_of scope e
      → map subformula news ≡ map subformula olds ++ (if is_true v then [] else record { token = at; expr = e } ∷ [])
      → map subformula news ≡ map subformula olds ++ parts_from scope e at
  leaf_added e at v olds news other valued added =
      added ∙ ap (λ (x : Value). map subformula olds ++ (if is_true x then [] else record { token = at; expr = e } ∷ [])) valued
      ∙ sym (ap (λ (l : List Subformula). map subformula olds ++ l) (leaf_parts scope e at other))
