-- What a list of the variables' values gives from a place on, and their sorts.
use Rattle.std.specs.Prelude.{◌≡◌, take, drop, filter, if◌then◌else◌}
use Rattle.civl_firing.specs.values.Values.{zero_of}
use Rattle.std.proofs.Common.{◌∙◌, ℕ, zero, suc, ◌+◌, ◌-◌, ◌≤◌, ◌<◌, Bool, true, false, List, [], ◌∷◌, ◌++◌, length, get_or, append_assoc, refl, sym, ap, ap₂, subst, arith}
use Rattle.std.proofs.lemmas.List.{append-nil, take_more, take_all, get_or-drop, length-append, take_at, drop_at, drop-drop}
use Rattle.civl_bits.specs.declared.value.Value.{Value}
use Rattle.civl_firing.specs.values.Operators.{nothing}
use Rattle.civl_tree.specs.declared.expr.Sort.{Sort}
use Rattle.civl_tree.specs.declared.expr.Sort.TheVariants.{Bool as Truth}
use Rattle.civl_tree.specs.declared.program.Global.{Global}
use Rattle.civl_states.specs.formula_parts.Said.{Env}
use Rattle.civl_terms.specs.declared.node.Node.{Node}
use Rattle.civl_states.specs.formula_parts.Lists.{AreSaid}
use Rattle.civl_states.specs.formula_parts.Given.{given, sorts_from, bits_of_sorts}
use Rattle.civl_states.specs.Groups.{StandFrom}
use Rattle.civl_conditions.specs.Values.{part, spread}

-- ---- values

pub given_long : (env : Env) (first n : ℕ) → length (given env first n) ≡ n
given_long env first zero = refl
given_long env first (suc n) = omega (arith, length-append (given env first n) (env (first + n) ∷ []), given_long env first n)

-- so many and so many more
pub given_more : (env : Env) (first m n : ℕ) → given env first (m + n) ≡ given env first m ++ given env (first + m) n
given_more env first m zero =
    let e : m + 0 ≡ m = omega arith in
    ap (given env first) e ∙ sym (append-nil (given env first m))
given_more env first m (suc n) =
    let e : m + suc n ≡ suc (m + n) = omega arith in
    let f : first + (m + n) ≡ first + m + n = omega arith in
    ap (given env first) e
    ∙ ap₂ (λ (vs : List Value) (k : ℕ). vs ++ env k ∷ []) (given_more env first m n) f
    ∙ append_assoc (given env first m) (given env (first + m) n) (env (first + m + n) ∷ [])

pub drop_given : (env : Env) (first at n : ℕ) → drop at (given env first (at + n)) ≡ given env (first + at) n
drop_given env first at n = ap (drop at) (given_more env first at n) ∙ drop_at (given env first at) (given env (first + at) n) at (given_long env first at)

-- a part of all values is those from there on
pub part_given : (env : Env) (n at count : ℕ) → at + count ≤ n → part (given env 0 n) at count ≡ given env at count
part_given env n at count l =
    let rest = n - (at + count) in
    let e : n ≡ at + (count + rest) = omega (arith, l) in
    let z : 0 + at ≡ at = omega arith in
    ap (λ (k : ℕ). take count (drop at (given env 0 k))) e
    ∙ ap (take count) (drop_given env 0 at (count + rest) ∙ ap (λ (k : ℕ). given env k (count + rest)) z ∙ given_more env at count rest)
    ∙ take_at (given env at count) (given env (at + count) rest) count (given_long env at count)

get_last : {A : Type 0} (n : ℕ) (xs ys : List A) (x d : A) → length xs ≡ n → get_or (xs ++ x ∷ ys) n d ≡ x
get_last n [] ys x d e = ap (λ (k : ℕ). get_or (x ∷ ys) k d) (sym e)
get_last zero (y ∷ xs) ys x d e = absurd (omega (arith, e))
get_last (suc n) (y ∷ xs) ys x d e = get_last n xs ys x d (omega (arith, e))

pub get_given : (env : Env) (n at : ℕ) → at < n → get_or (given env 0 n) at nothing ≡ env at
get_given env n at l =
    let rest = n - (at + 1) in
    let e : n ≡ at + (1 + rest) = omega (arith, l) in
    let z : 0 + at ≡ at = omega arith in
    let y : at + 0 ≡ at = omega arith in
    ap (λ (k : ℕ). get_or (given env 0 k) at nothing) e
    ∙ ap (λ (vs : List Value). get_or vs at nothing) (given_more env 0 at (1 + rest) ∙ ap (λ (vs : List Value). given env 0 at ++ vs) (ap (λ (k : ℕ). given env k (1 + rest)) z ∙ given_more env at 1 rest))
    ∙ get_last at (given env 0 at) (given env (at + 1) rest) (env (at + 0)) nothing (given_long env 0 at)
    ∙ ap env y

-- the values of a list are given by it
given_taken : (values : List Value) (n : ℕ) → n ≤ length values → given (λ k. get_or values k nothing) 0 n ≡ take n values
given_taken values zero l = refl
given_taken values (suc n) l =
    let z : 0 + n ≡ n = omega arith in
    let e : n + 1 ≡ suc n = omega arith in
    ap₂ (λ (vs : List Value) (k : ℕ). vs ++ get_or values k nothing ∷ []) (given_taken values n (omega (arith, l))) z
    ∙ sym (take_more values n nothing (omega (arith, l)))
    ∙ ap (λ (k : ℕ). take k values) e

pub given_listed : (values : List Value) → given (λ k. get_or values k nothing) 0 (length values) ≡ values
given_listed values = given_taken values (length values) (omega arith) ∙ take_all (length values) values (omega arith)

-- ---- sorts

sorts_taken : (sorts : List Sort) (first n : ℕ) → first + n ≤ length sorts → sorts_from sorts first n ≡ take n (drop first sorts)
sorts_taken sorts first zero l = refl
sorts_taken sorts first (suc n) l =
    let e : n + 1 ≡ suc n = omega arith in
    let w : n < length (drop first sorts) = dropped_within first sorts n (omega (arith, l)) in
    ap₂ (λ (ss : List Sort) (s : Sort). ss ++ s ∷ []) (sorts_taken sorts first n (omega (arith, l))) (sym (get_or-drop first sorts n Truth))
    ∙ sym (take_more (drop first sorts) n Truth w)
    ∙ ap (λ (k : ℕ). take k (drop first sorts)) e
  where
    dropped_within : {A : Type 0} (k : ℕ) (xs : List A) (n : ℕ) → k + n < length xs → n < length (drop k xs)
    dropped_within zero xs n l = omega (arith, l)
    dropped_within (suc k) [] n l = absurd (omega (arith, l))
    dropped_within (suc k) (x ∷ xs) n l = dropped_within k xs n (omega (arith, l))

-- a list that isn't at its end where these stand
long_from : {A : Type 0} (first : ℕ) (xs ys : List A) (zs : List A) → drop first xs ≡ ys ++ zs → first ≤ length xs → first + length ys ≤ length xs
long_from zero xs ys zs e l = omega (arith, ap length e, length-append ys zs)
long_from (suc first) [] ys zs e l = absurd (omega (arith, l))
long_from (suc first) (x ∷ xs) ys zs e l = omega (arith, long_from first xs ys zs e (omega (arith, l)))

module _ (sorts : List Sort) (first : ℕ) (group : List Sort) (s : StandFrom sorts first group) where
  -- they are so many
  pub stand_within : first + length group ≤ length sorts
  stand_within = long_from first sorts group s.rest s.is s.within

  -- they are the sorts of so many variables from there on
  pub stand_sorts : sorts_from sorts first (length group) ≡ group
  stand_sorts = sorts_taken sorts first (length group) stand_within ∙ ap (take (length group)) s.is ∙ take_at group s.rest (length group) refl

pub stand_counted : (sorts : List Sort) (first : ℕ) (group : List Sort) (count : ℕ) → length group ≡ count → StandFrom sorts first group → sorts_from sorts first count ≡ group
stand_counted sorts first group count e s = ap (sorts_from sorts first) (sym e) ∙ stand_sorts sorts first group s

-- the first of them, and those behind
pub stand_front : (sorts : List Sort) (first : ℕ) (group more : List Sort) → StandFrom sorts first (group ++ more) → StandFrom sorts first group
stand_front sorts first group more s = record { rest = more ++ s.rest; within = s.within; is = s.is ∙ append_assoc group more s.rest }

pub stand_past : (sorts : List Sort) (first : ℕ) (group more : List Sort) (count : ℕ) → length group ≡ count → StandFrom sorts first (group ++ more) → StandFrom sorts (first + count) more
stand_past sorts first group more count e s = record {
  rest = s.rest;
  within = omega (arith, stand_within sorts first group (stand_front sorts first group more s), e);
  is = sym (drop-drop count first sorts) ∙ ap (drop count) (s.is ∙ append_assoc group more s.rest) ∙ drop_at group (more ++ s.rest) count e;
}

-- a list that begins with these
pub stand_first : (sorts group more : List Sort) → sorts ≡ group ++ more → StandFrom sorts 0 group
stand_first sorts group more e = record { rest = more; within = omega arith; is = e }

-- the variables of a group
pub given_group : (ns : List Node) (ids : List ℕ) (sorts : List Sort) (first : ℕ) (group : List Sort) (count : ℕ) → length group ≡ count → StandFrom sorts first group → AreSaid ns ids (sorts_from sorts first count) (λ env. given env first count)
    → AreSaid ns ids group (λ env. given env first (length group))
given_group ns ids sorts first group count e s said =
    subst (λ (ss : List Sort). AreSaid ns ids ss (λ env. given env first (length group))) (stand_sorts sorts first group s)
    (subst (λ (k : ℕ). AreSaid ns ids (sorts_from sorts first k) (λ env. given env first k)) (sym e) said)

pub group_bits : (sorts : List Sort) (first : ℕ) (group : List Sort) (count : ℕ) → length group ≡ count → StandFrom sorts first group → bits_of_sorts (sorts_from sorts first count) ≡ bits_of_sorts group
group_bits sorts first group count e s = ap bits_of_sorts (stand_counted sorts first group count e s)

-- ---- stores

-- a store takes no more than one value for each of its globals that pass
pub spread_taken : (test : Global → Bool) (gs : List Global) (vs : List Value) → spread test gs vs ≡ spread test gs (take (length (filter test gs)) vs)
spread_taken test [] vs = refl
spread_taken test (g ∷ gs) [] = ap (λ (k : List Value). spread test (g ∷ gs) k) (sym (take_nothing (length (filter test (g ∷ gs)))))
  where
    take_nothing : (k : ℕ) → ◌≡◌ {A = List Value} (take k []) []
    take_nothing zero = refl
    take_nothing (suc k) = refl
spread_taken test (g ∷ gs) (v ∷ vs) = by (test g) (spread_taken test gs vs) (spread_taken test gs (v ∷ vs))
  where
    counted : Bool → ℕ
    counted b = length (if b then g ∷ filter test gs else filter test gs)

    shown : Bool → List Value → List Value
    shown b [] = zero_of g.sort ∷ spread test gs []
    shown b (w ∷ ws) = if b then w ∷ spread test gs ws else zero_of g.sort ∷ spread test gs (w ∷ ws)

    passed_over : (b : Bool) (ws : List Value) → shown false ws ≡ zero_of g.sort ∷ spread test gs ws
    passed_over b [] = refl
    passed_over b (w ∷ ws) = refl

    by : (b : Bool) → spread test gs vs ≡ spread test gs (take (length (filter test gs)) vs) → spread test gs (v ∷ vs) ≡ spread test gs (take (length (filter test gs)) (v ∷ vs))
        → shown b (v ∷ vs) ≡ shown b (take (counted b) (v ∷ vs))
    by true p q = ap (λ (ws : List Value). v ∷ ws) p
    by false p q = ap (λ (ws : List Value). zero_of g.sort ∷ ws) q ∙ sym (passed_over false (take (length (filter test gs)) (v ∷ vs)))
