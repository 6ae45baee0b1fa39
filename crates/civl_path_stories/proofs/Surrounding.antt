-- The statements around a statement, part by part.
use Rattle.std.proofs.Common.{◌≡◌, ℕ, suc, ◌+◌, ◌<◌, List, [], ◌∷◌, ◌++◌, drop, length, get_or, refl, sym, ap, ◌∙◌, arith, append-nil}
use Rattle.std.proofs.lemmas.List.{append_assoc, drop_more}
use Rattle.civl_tree.specs.declared.stmt.Stmt.{Stmt}
use Rattle.civl_tree.specs.Numbering.{statements_of, inner_of, size_of}
use Rattle.civl_tree.proofs.Numbers.{sizes_are_counts, sizes_more}
use Rattle.civl_tree.proofs.Preorder.{preorder}
use Rattle.civl_names.proofs.walks.Walking.{lengths}
use Rattle.civl_path_stories.specs.declared.around.Around.{Around}
use Rattle.civl_path_stories.specs.Around.{around_at, around_among}

pub none_among : (inner number : ℕ) → around_among inner number [] ≡ []
unfolding around_among
none_among inner number = refl

pub among_both : (inner number : ℕ) (xs ys : List Stmt)
    → around_among inner number (xs ++ ys) ≡ around_among inner number xs ++ around_among inner (number + length xs) ys
unfolding around_among
among_both inner number [] ys = ap (λ (n : ℕ). around_among inner n ys) (omega arith)
among_both inner number (x ∷ xs) ys =
    let next : number + 1 + length xs ≡ number + suc (length xs) = omega arith in
    ap (λ (found : List Around). around_at inner number x ++ found)
    (among_both inner (number + 1) xs ys ∙ ap (λ (n : ℕ). around_among inner (number + 1) xs ++ around_among inner n ys) next)
    ∙ sym (append_assoc (around_at inner number x) (around_among inner (number + 1) xs) (around_among inner (number + suc (length xs)) ys))

pub assoc : (xs ys zs : List Around) → (xs ++ ys) ++ zs ≡ xs ++ (ys ++ zs)
assoc xs ys zs = append_assoc xs ys zs

pub none_behind : (xs : List Around) → xs ++ [] ≡ xs
none_behind xs = append-nil xs

pub ruleset surrounding = (preorder, none_among, among_both, assoc, none_behind, lengths)

-- a statement is itself and those in it
pub size_counts : (stmt : Stmt) → size_of stmt ≡ length (inner_of stmt) + 1
size_counts stmt = omega (
  arith,
  sizes_are_counts (stmt ∷ []),
  sizes_more stmt [],
  lengths (stmt ∷ inner_of stmt) [],
)

module _ (items : List Stmt) (i : ℕ) (stmt : Stmt) (l : i < length items) (e : stmt ≡ get_or items i stmt) (inner here : ℕ) where
  abbrev behind : List Stmt
  behind = statements_of (drop (i + 1) items)

  abbrev own : List Around
  own = around_at inner here stmt

  abbrev inside : List Around
  inside = around_among inner (here + 1) (inner_of stmt)

  -- this statement, those in it, and those behind
  parts : around_among inner here (statements_of (drop i items)) ≡ own ++ (inside ++ around_among inner (here + 1 + length (inner_of stmt)) behind)
  unfolding around_among
  parts =
      ap (λ (stmts : List Stmt). around_among inner here (statements_of stmts)) (drop_more items i stmt l ∙ ap (λ (s : Stmt). s ∷ drop (i + 1) items) (sym e))
      ∙ ap (λ (found : List Around). own ++ found) (among_both inner (here + 1) (inner_of stmt) behind)

  -- what was there, the statement itself, those in it, and those behind
  pub pushed : (before after all : List Around) (next : ℕ) → after ≡ (before ++ own) ++ inside → next ≡ here + 1 + length (inner_of stmt)
      → before ++ around_among inner here (statements_of (drop i items)) ≡ all → after ++ around_among inner next behind ≡ all
  pushed before after all next h n k =
      ap (λ (found : List Around). found ++ around_among inner next behind) h
      ∙ ap (λ (m : ℕ). ((before ++ own) ++ inside) ++ around_among inner m behind) n
      ∙ append_assoc (before ++ own) inside (around_among inner (here + 1 + length (inner_of stmt)) behind)
      ∙ append_assoc before own (inside ++ around_among inner (here + 1 + length (inner_of stmt)) behind)
      ∙ ap (λ (found : List Around). before ++ found) (sym parts) ∙ k
