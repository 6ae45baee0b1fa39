-- Clauses whose literals stand in one list.
use Rattle.std.proofs.Common.{◌≡◌, ◌+◌, ◌≤◌, List, [], ◌∷◌, ◌++◌, length, take, drop, refl, ◌∙◌, ap, ap₂, arith, length-drop}
use Rattle.std.proofs.lemmas.List.{map-append, take_all, drop_all, drop-append-le, take-append-le}
use Rattle.std.proofs.lemmas.List.Elements.{All-head, All-tail}
use Rattle.civl_cnf.specs.Literal.{Literal}
use Rattle.civl_propagation.specs.declared.clauses.Span.{Span}
use Rattle.civl_propagation.specs.Clauses.{part, parts, AreWithin}

-- literals at the end change no span before them
part_more : (lits more : List Literal) (s : Span) → s.start + s.len ≤ length lits → part (lits ++ more) s ≡ part lits s
part_more lits more s within =
    let left = length-drop s.start lits in
    ap (take s.len) (drop-append-le s.start lits more (omega arith)) ∙ take-append-le s.len (drop s.start lits) more (omega arith)

parts_more : (lits more : List Literal) (spans : List Span) → AreWithin (length lits) spans → parts (lits ++ more) spans ≡ parts lits spans
parts_more lits more [] within = refl
parts_more lits more (s ∷ spans) within =
    ap₂ (λ (x : List Literal) (xs : List (List Literal)). x ∷ xs) (part_more lits more s (All-head (λ (t : Span). t.start + t.len ≤ length lits) s spans within))
    (parts_more lits more spans (All-tail (λ (t : Span). t.start + t.len ≤ length lits) s spans within))

-- the last span
part_last : (lits clause : List Literal) (s : Span) → s.start ≡ length lits → s.len ≡ length clause → part (lits ++ clause) s ≡ clause
part_last lits clause s start len =
    ap (take s.len) (drop-append-le s.start lits clause (omega arith) ∙ ap (λ (xs : List Literal). xs ++ clause) (drop_all s.start lits (omega arith)))
    ∙ take_all s.len clause (omega arith)

-- one clause more
pub parts_push : (lits more clause : List Literal) (spans news : List Span) (s : Span) → AreWithin (length lits) spans → more ≡ lits ++ clause → news ≡ spans ++ s ∷ [] → s.start ≡ length lits → s.len ≡ length clause → parts more news ≡ parts lits spans ++ clause ∷ []
parts_push lits more clause spans news s within more_is news_is start len =
    ap₂ parts more_is news_is
    ∙ map-append (part (lits ++ clause)) spans (s ∷ [])
    ∙ ap₂ (λ (xs : List (List Literal)) (x : List Literal). xs ++ x ∷ []) (parts_more lits clause spans within) (part_last lits clause s start len)
