-- Two neighbouring moves in a list, the other way round.
use Rattle.std.proofs.Common.{ℕ, zero, ◌≡◌, ◌+◌, ◌<◌, List, [], ◌∷◌, ◌++◌, length, take, refl, sym, ap, ◌∙◌, subst, arith, suc, slice_set, slice_index_or, append_assoc, inl, inr}
use Rattle.std.proofs.lemmas.List.{length-append}
use Rattle.std.proofs.lemmas.List.Edits.{swap_is}
use Rattle.civl_meaning.specs.declared.config.Move.{Move}
use Rattle.civl_meaning.specs.declared.config.Plain.{Plain}
use Rattle.civl_meaning.specs.declared.config.Config.{Config}
use Rattle.civl_meaning.specs.Run.{RunsTo}
use Rattle.civl_reduction.specs.exchanges.Exchange.{Exchanged}
use Rattle.civl_reduction.specs.declared.swapped.Swapped.TheVariants.{Same, Fails, Differs}
use Rattle.civl_reduction.specs.Swap.{exchanged_at, one_more}
use Rattle.civl_reduction.specs.Never.{ExchangedNeverDiffer, MoversNeverDiffer}
use Rattle.std.proofs.lemmas.List.Elements.{All-append}
use Rattle.civl_meaning.specs.Failing.{IsMove}
use Rattle.civl_meaning.specs.Layers.{program_at}
use Rattle.civl_meaning.specs.Step.{start}
use Rattle.civl_reduction.proofs.mover_laws.Exchanging.{neighbours_exchange}

set_there : {A : Type 0} (xs : List A) (a b : A) (rest : List A) (n : ℕ) → n ≡ length xs → slice_set (xs ++ a ∷ rest) n b ≡ xs ++ b ∷ rest
set_there [] a b rest zero e = refl
set_there [] a b rest (suc n) e = absurd (omega (arith, e))
set_there (x ∷ xs) a b rest zero e = absurd (omega (arith, e))
set_there (x ∷ xs) a b rest (suc n) e = ap (λ (l : List _). x ∷ l) (set_there xs a b rest n (omega (arith, e)))

get_there : {A : Type 0} (xs : List A) (a d : A) (rest : List A) (n : ℕ) → n ≡ length xs → slice_index_or (xs ++ a ∷ rest) n d ≡ a
get_there [] a d rest zero e = refl
get_there [] a d rest (suc n) e = absurd (omega (arith, e))
get_there (x ∷ xs) a d rest zero e = absurd (omega (arith, e))
get_there (x ∷ xs) a d rest (suc n) e = get_there xs a d rest n (omega (arith, e))

take_first : {A : Type 0} (xs rest : List A) (n : ℕ) → n ≡ length xs → take n (xs ++ rest) ≡ xs
take_first [] rest zero e = refl
take_first [] rest (suc n) e = absurd (omega (arith, e))
take_first (x ∷ xs) rest zero e = absurd (omega (arith, e))
take_first (x ∷ xs) rest (suc n) e = ap (λ (l : List _). x ∷ l) (take_first xs rest n (omega (arith, e)))

-- the two exchanged
pub exchanged_is : (first : List Move) (m n : Move) (last : List Move) → exchanged_at (length first) (first ++ m ∷ (n ∷ last)) ≡ first ++ n ∷ (m ∷ last)
exchanged_is first m n last =
    sym (swap_is all at (at + 1) m within also)
    ∙ (ap (λ (x : Move). slice_set (slice_set all at x) (at + 1) (slice_index_or all at m)) second_is
    ∙ (ap (λ (x : Move). slice_set (slice_set all at n) (at + 1) x) (get_there first m m (n ∷ last) at refl)
    ∙ (ap (λ (l : List Move). slice_set l (at + 1) m) (set_there first m n (n ∷ last) at refl)
    ∙ (ap (λ (l : List Move). slice_set l (at + 1) m) (sym (append_assoc first (n ∷ []) (n ∷ last)))
    ∙ (set_there (first ++ n ∷ []) n m last (at + 1) (pushed n) ∙ append_assoc first (n ∷ []) (m ∷ last))))))
  where
    at : ℕ
    at = length first

    all : List Move
    all = first ++ m ∷ (n ∷ last)

    size : length (first ++ m ∷ (n ∷ last)) ≡ length first + length (m ∷ (n ∷ last))
    size = length-append first (m ∷ (n ∷ last))

    within : length first < length (first ++ m ∷ (n ∷ last))
    within = omega (arith, size)

    also : length first + 1 < length (first ++ m ∷ (n ∷ last))
    also = omega (arith, size)

    pushed : (x : Move) → length first + 1 ≡ length (first ++ x ∷ [])
    pushed x = let p = length-append first (x ∷ []) in omega (arith, p)

    second_is : slice_index_or (first ++ m ∷ (n ∷ last)) (length first + 1) m ≡ n
    second_is = ap (λ (l : List Move). slice_index_or l (length first + 1) m) (sym (append_assoc first (m ∷ []) (n ∷ last))) ∙ get_there (first ++ m ∷ []) n m last (length first + 1) (pushed m)

-- and the first of them
pub one_more_is : (first : List Move) (m n : Move) (last : List Move) → one_more (length first) (first ++ m ∷ (n ∷ last)) ≡ first ++ n ∷ []
one_more_is first m n last =
    ap (λ (l : List Move). take (length first + 1) l) (exchanged_is first m n last)
    ∙ (ap (λ (l : List Move). take (length first + 1) l) (sym (append_assoc first (n ∷ []) (m ∷ last)))
    ∙ take_first (first ++ n ∷ []) (m ∷ last) (length first + 1) (let p = length-append first (n ∷ []) in omega (arith, p)))

pub runs_join : (plain : Plain) (ms ns : List Move) (from c to : Config) → RunsTo plain ms from c → RunsTo plain ns c to → RunsTo plain (ms ++ ns) from to
runs_join plain [] ns from c to r s = subst (λ (x : Config). RunsTo plain ns x to) (sym r) s
runs_join plain (m ∷ ms) ns from c to r s = (r.0, r.1, runs_join plain ms ns r.0 c to r.2 s)

pub exchanged_never_differ : ExchangedNeverDiffer
exchanged_never_differ plain from c d e end first m n last (Same moves) r a b s x h = tt
exchanged_never_differ plain from c d e end first m n last (Fails moves) r a b s x h = tt
exchanged_never_differ plain from c d e end first m n last (Differs at) r a b s x h = go x
  where
    all : RunsTo plain (first ++ m ∷ (n ∷ last)) from end
    all = runs_join plain first (m ∷ (n ∷ last)) from c end r (d, a, (e, b, s))

    go : Exchanged plain c m n e → ⊥
    go (inl y) =
        let turned = runs_join plain first (n ∷ (m ∷ last)) from c end r (y.0, y.1, (e, y.2, s)) in
        h.1 (end, all, subst (λ (l : List Move). RunsTo plain l from end) (sym (exchanged_is first m n last)) turned)
    go (inr (inl y)) = h.2 (c, subst (λ (l : List Move). RunsTo plain l from c) (sym (take_first first (m ∷ (n ∷ last)) (length first) refl)) r, y)
    go (inr (inr y)) =
        let shorter = runs_join plain first (n ∷ []) from c y.0 r (y.0, y.1, refl) in
        h.3 (y.0, subst (λ (l : List Move). RunsTo plain l from y.0) (sym (one_more_is first m n last)) shorter, y.2)

pub movers_never_differ : MoversNeverDiffer
movers_never_differ program layer store reaching from c d e end first m n last r q swapped sound fit runs also mv nv w f a b l there here moving h =
    let plain = program_at program layer in
    let all = runs_join plain reaching first (start plain store) from c runs f in
    let exchanged = neighbours_exchange program layer store (reaching ++ first) c d e m n r q sound (All-append IsMove reaching first fit also) all mv nv w there here moving a b in
    exchanged_never_differ plain from c d e end first m n last swapped f a b l exchanged h
