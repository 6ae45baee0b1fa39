-- Phases, statement by statement.
use Rattle.std.proofs.Common.{◌≡◌, ℕ, ◌+◌, ◌<◌, ◌≤◌, Bool, List, [], ◌∷◌, ◌++◌, map, take, length, get_or, append_assoc, append-nil, sym, ap, ◌∙◌}
use Rattle.std.proofs.lemmas.List.{map-append, take_more, take_all}
use Rattle.civl_tree.proofs.Trees.{of_trees}
use Rattle.civl_yields.specs.declared.phase.Phase.{Phase}
use Rattle.civl_yields.specs.inner.Marks.{seen}

pub seen_append : (head : Bool) (xs ys : List Phase) → map (seen head) (xs ++ ys) ≡ map (seen head) xs ++ map (seen head) ys
seen_append head xs ys = map-append (seen head) xs ys

pub ruleset stepping = (of_trees, seen_append, append_assoc, append-nil)

-- one phase more
pub seen_pushed : (head : Bool) (new old : List Phase) (phase : Phase) → new ≡ old ++ phase ∷ [] → map (seen head) new ≡ map (seen head) old ++ seen head phase ∷ []
seen_pushed head new old phase e = ap (map (seen head)) e ∙ map-append (seen head) old (phase ∷ [])

-- the next of the phases that are added, which is seen so
pub seen_more : (head other : Bool) (new old first found : List Phase) (at : ℕ) (phase added : Phase) → at < length found → phase ≡ get_or found at phase
    → new ≡ old ++ added ∷ [] → seen head added ≡ seen other phase → map (seen head) old ≡ map (seen head) first ++ map (seen other) (take at found)
    → map (seen head) new ≡ map (seen head) first ++ map (seen other) (take (at + 1) found)
seen_more head other new old first found at phase added l e n s o =
    seen_pushed head new old added n ∙ ap (λ (bs : List Bool). bs ++ seen head added ∷ []) o
    ∙ append_assoc (map (seen head) first) (map (seen other) (take at found)) (seen head added ∷ [])
    ∙ ap (λ (b : Bool). map (seen head) first ++ (map (seen other) (take at found) ++ b ∷ [])) s
    ∙ ap (λ (bs : List Bool). map (seen head) first ++ bs) (sym (ap (map (seen other)) (take_more found at phase l) ∙ map-append (seen other) (take at found) (get_or found at phase ∷ [])
    ∙ ap (λ (p : Phase). map (seen other) (take at found) ++ seen other p ∷ []) (sym e)))

-- all of them
pub seen_all : (head other : Bool) (old first found : List Phase) (at : ℕ) → length found ≤ at → map (seen head) old ≡ map (seen head) first ++ map (seen other) (take at found)
    → map (seen head) old ≡ map (seen head) first ++ map (seen other) found
seen_all head other old first found at l o = o ∙ ap (λ (ps : List Phase). map (seen head) first ++ map (seen other) ps) (take_all at found l)

-- one phase more, and those behind it
pub seen_then : (head : Bool) (first pushed last : List Phase) (phase : Phase) (more : List Bool) → pushed ≡ first ++ phase ∷ [] → map (seen head) last ≡ map (seen head) pushed ++ more
    → map (seen head) last ≡ map (seen head) first ++ seen head phase ∷ more
seen_then head first pushed last phase more e l =
    l ∙ ap (λ (bs : List Bool). bs ++ more) (seen_pushed head pushed first phase e) ∙ append_assoc (map (seen head) first) (seen head phase ∷ []) more
