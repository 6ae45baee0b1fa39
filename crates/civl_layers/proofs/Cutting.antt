-- The cuts among statements, part by part.
use Rattle.std.proofs.Common.{◌≡◌, ℕ, suc, ◌+◌, ◌<◌, List, [], ◌∷◌, ◌++◌, drop, length, get_or, refl, sym, ap, ◌∙◌, arith, append-nil}
use Rattle.std.proofs.lemmas.List.{append_assoc, drop_more}
use Rattle.civl_tree.specs.declared.stmt.Stmt.{Stmt}
use Rattle.civl_tree.specs.Numbering.{statements_of, inner_of}
use Rattle.civl_tree.proofs.Preorder.{preorder}
use Rattle.civl_names.proofs.walks.Walking.{lengths}
use Rattle.civl_layers.specs.declared.cut.Cut.{Cut}
use Rattle.civl_layers.specs.Cuts.{cut_at, cut_kind, cuts_among}

pub cuts_none : (number : ℕ) → cuts_among number [] ≡ []
unfolding cuts_among
cuts_none number = refl

pub cuts_append : (number : ℕ) (xs ys : List Stmt) → cuts_among number (xs ++ ys) ≡ cuts_among number xs ++ cuts_among (number + length xs) ys
unfolding cuts_among
cuts_append number [] ys = ap (λ (n : ℕ). cuts_among n ys) (omega arith)
cuts_append number (x ∷ xs) ys =
    let next : number + 1 + length xs ≡ number + suc (length xs) = omega arith in
    ap (λ (cuts : List Cut). cut_at number (cut_kind x) ++ cuts) (cuts_append (number + 1) xs ys ∙ ap (λ (n : ℕ). cuts_among (number + 1) xs ++ cuts_among n ys) next)
    ∙ sym (append_assoc (cut_at number (cut_kind x)) (cuts_among (number + 1) xs) (cuts_among (number + suc (length xs)) ys))

pub assoc : (xs ys zs : List Cut) → (xs ++ ys) ++ zs ≡ xs ++ (ys ++ zs)
assoc xs ys zs = append_assoc xs ys zs

pub none_behind : (xs : List Cut) → xs ++ [] ≡ xs
none_behind xs = append-nil xs

pub ruleset cutting = (preorder, cuts_none, cuts_append, assoc, none_behind, lengths)

module _ (items : List Stmt) (i : ℕ) (stmt : Stmt) (l : i < length items) (e : stmt ≡ get_or items i stmt) (here : ℕ) where
  abbrev behind : List Stmt
  behind = statements_of (drop (i + 1) items)

  abbrev own : List Cut
  own = cut_at here (cut_kind stmt)

  abbrev inside : List Cut
  inside = cuts_among (here + 1) (inner_of stmt)

  -- the cuts of the statement at this place, of those in it, and of those behind
  parts : cuts_among here (statements_of (drop i items)) ≡ own ++ (inside ++ cuts_among (here + 1 + length (inner_of stmt)) behind)
  unfolding cuts_among
  parts =
      ap (λ (stmts : List Stmt). cuts_among here (statements_of stmts)) (drop_more items i stmt l ∙ ap (λ (s : Stmt). s ∷ drop (i + 1) items) (sym e))
      ∙ ap (λ (cuts : List Cut). own ++ cuts) (cuts_append (here + 1) (inner_of stmt) behind)

  -- what was there, the statement's own cut, those inside it, and those behind
  pub pushed : (before after all : List Cut) (next : ℕ) → after ≡ (before ++ own) ++ inside → next ≡ here + 1 + length (inner_of stmt)
      → before ++ cuts_among here (statements_of (drop i items)) ≡ all → after ++ cuts_among next behind ≡ all
  pushed before after all next h n k =
      ap (λ (cuts : List Cut). cuts ++ cuts_among next behind) h ∙ ap (λ (m : ℕ). ((before ++ own) ++ inside) ++ cuts_among m behind) n
      ∙ append_assoc (before ++ own) inside (cuts_among (here + 1 + length (inner_of stmt)) behind)
      ∙ append_assoc before own (inside ++ cuts_among (here + 1 + length (inner_of stmt)) behind)
      ∙ ap (λ (cuts : List Cut). before ++ cuts) (sym parts) ∙ k
