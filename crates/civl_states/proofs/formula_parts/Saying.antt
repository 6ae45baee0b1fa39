-- What terms say stays true while the graph grows.
use Rattle.std.specs.Prelude.{All}
use Rattle.civl_firing.specs.values.Values.{sort_of_value}
use Rattle.std.proofs.Common.{◌≡◌, ◌∙◌, ℕ, Bool, true, false, ◌&&◌, ◌||◌, not, List, [], ◌∷◌, ◌++◌, refl, sym, ap, ap₂, subst, Some}
use Rattle.std.proofs.lemmas.List.Elements.{All-nil, All-cons}
use Rattle.std.proofs.Math.Bool.{and_assoc, and-true, or_assoc, or-false}
use Rattle.civl_bits.specs.declared.value.Value.{Value}
use Rattle.civl_bits.specs.declared.value.Value.TheVariants as value
use Rattle.civl_tree.specs.declared.expr.Sort.{Sort}
use Rattle.civl_tree.specs.declared.expr.Sort.TheVariants.{Bool as Truth}
use Rattle.civl_tree.specs.declared.expr.One.TheVariants.{Not}
use Rattle.civl_tree.specs.declared.expr.Two.TheVariants.{And, Or}
use Rattle.civl_tree.specs.rules.Sorts.{one_sort, two_sort}
use Rattle.civl_firing.specs.values.Operators.{one_value, two_value}
use Rattle.civl_firing.specs.values.Weights.{bits_in, one_weight, two_weight}
use Rattle.civl_terms.specs.declared.node.Node.{Node}
use Rattle.civl_terms.specs.Graphs.{value_at, sort_at, Fits}
use Rattle.civl_terms.specs.Building.{Grows, Built}
use Rattle.civl_terms.proofs.Growing.{growth}
use Rattle.civl_actions.proofs.Staying.{sorted_within}
use Rattle.civl_states.specs.formula_parts.Said.{Env, IsTest, IsSaid, AreTests, all_true, some_true}

pub sort_stays : (old new : List Node) (i : ℕ) (s : Sort) → Grows old new → sort_at old i ≡ Some s → sort_at new i ≡ Some s
sort_stays old new i s g e = g.sorts i (sorted_within old i s e) ∙ e

pub test_stays : (old new : List Node) (i : ℕ) (f : Env → Bool) → Grows old new → IsTest old i f → IsTest new i f
test_stays old new i f g t = record {
  sorted = sort_stays old new i Truth g t.sorted;
  is = λ env fits. g.values env i (sorted_within old i Truth t.sorted) ∙ t.is env (g.fits env fits);
}

pub said_stays : (old new : List Node) (i : ℕ) (s : Sort) (f : Env → Value) → Grows old new → IsSaid old i s f → IsSaid new i s f
said_stays old new i s f g t = record {
  sorted = sort_stays old new i s g t.sorted;
  is = λ env fits. g.values env i (sorted_within old i s t.sorted) ∙ t.is env (g.fits env fits);
}

-- the same test, said otherwise
pub test_where : (ns : List Node) (i : ℕ) (f g : Env → Bool) → ((env : Env) → Fits env ns → f env ≡ g env) → IsTest ns i f → IsTest ns i g
test_where ns i f g e t = record { sorted = t.sorted; is = λ env fits. t.is env fits ∙ ap value.Bool (e env fits) }

pub test_as : (ns : List Node) (i : ℕ) (f g : Env → Bool) → ((env : Env) → f env ≡ g env) → IsTest ns i f → IsTest ns i g
test_as ns i f g e t = record { sorted = t.sorted; is = λ env fits. t.is env fits ∙ ap value.Bool (e env) }

pub tests_stay : (old new : List Node) (ids : List ℕ) (fs : List (Env → Bool)) → Grows old new → AreTests old ids fs → AreTests new ids fs
tests_stay old new [] [] g t = t
tests_stay old new [] (f ∷ fs) g t = absurd t
tests_stay old new (i ∷ ids) [] g t = absurd t
tests_stay old new (i ∷ ids) (f ∷ fs) g t = (test_stays old new i f g t.0, tests_stay old new ids fs g t.1)

-- ---- lists of tests

pub tests_split : (ns : List Node) (xs : List ℕ) (t : ℕ) (fs : List (Env → Bool)) → AreTests ns (xs ++ t ∷ []) fs → (front : List (Env → Bool)) × (last : Env → Bool) × (fs ≡ front ++ last ∷ []) × AreTests ns xs front × IsTest ns t last
tests_split ns [] t [] h = absurd h
tests_split ns [] t (f ∷ []) h = ([], f, refl, tt, h.0)
tests_split ns [] t (f ∷ (f2 ∷ fs)) h = absurd h.1
tests_split ns (x ∷ xs) t [] h = absurd h
tests_split ns (x ∷ xs) t (f ∷ fs) h =
    let r = tests_split ns xs t fs h.1 in
    (f ∷ r.0, r.1, ap (λ (gs : List (Env → Bool)). f ∷ gs) r.2, (h.0, r.3), r.4)

all_more : (fs : List (Env → Bool)) (g : Env → Bool) (env : Env) → (all_true fs env && g env) ≡ all_true (fs ++ g ∷ []) env
all_more [] g env = sym (and-true (g env))
all_more (f ∷ fs) g env = and_assoc (f env) (all_true fs env) (g env) ∙ ap (λ (b : Bool). f env && b) (all_more fs g env)

pub all_next : (a : Bool) (fs : List (Env → Bool)) (g : Env → Bool) (env : Env) → ((a && all_true fs env) && g env) ≡ (a && all_true (fs ++ g ∷ []) env)
all_next a fs g env = and_assoc a (all_true fs env) (g env) ∙ ap (λ (b : Bool). a && b) (all_more fs g env)

-- a test and so many others, and then one more
pub all_step : (old now later : List Node) (first id next t : ℕ) (xs : List ℕ)
    → ((f : Env → Bool) (fs : List (Env → Bool)) → IsTest old first f → AreTests old xs fs → IsTest now id (λ env. f env && all_true fs env))
    → Grows old now → ((f g : Env → Bool) → IsTest now id f → IsTest now t g → IsTest later next (λ env. f env && g env))
    → (f : Env → Bool) (fs : List (Env → Bool)) → IsTest old first f → AreTests old (xs ++ t ∷ []) fs → IsTest later next (λ env. f env && all_true fs env)
all_step old now later first id next t xs so_far grows step f fs h hs =
    let r = tests_split old xs t fs hs in
    let both = step (λ env. f env && all_true r.0 env) r.1 (so_far f r.0 h r.3) (test_stays old now t r.1 grows r.4) in
    subst (λ (gs : List (Env → Bool)). IsTest later next (λ env. f env && all_true gs env)) (sym r.2)
    (test_as later next (λ env. (f env && all_true r.0 env) && r.1 env) (λ env. f env && all_true (r.0 ++ r.1 ∷ []) env) (λ env. all_next (f env) r.0 r.1 env) both)

pub all_begins : (ns : List Node) (first : ℕ) (f : Env → Bool) (fs : List (Env → Bool)) → IsTest ns first f → AreTests ns [] fs → IsTest ns first (λ env. f env && all_true fs env)
all_begins ns first f [] h hs = test_as ns first f (λ env. f env && true) (λ env. sym (and-true (f env))) h
all_begins ns first f (g ∷ fs) h hs = absurd hs

any_more : (fs : List (Env → Bool)) (g : Env → Bool) (env : Env) → (some_true fs env || g env) ≡ some_true (fs ++ g ∷ []) env
any_more [] g env = sym (or-false (g env))
any_more (f ∷ fs) g env = or_assoc (f env) (some_true fs env) (g env) ∙ ap (λ (b : Bool). f env || b) (any_more fs g env)

any_next : (a : Bool) (fs : List (Env → Bool)) (g : Env → Bool) (env : Env) → ((a || some_true fs env) || g env) ≡ (a || some_true (fs ++ g ∷ []) env)
any_next a fs g env = or_assoc a (some_true fs env) (g env) ∙ ap (λ (b : Bool). a || b) (any_more fs g env)

pub any_step : (old now later : List Node) (first id next t : ℕ) (xs : List ℕ)
    → ((f : Env → Bool) (fs : List (Env → Bool)) → IsTest old first f → AreTests old xs fs → IsTest now id (λ env. f env || some_true fs env))
    → Grows old now → ((f g : Env → Bool) → IsTest now id f → IsTest now t g → IsTest later next (λ env. f env || g env))
    → (f : Env → Bool) (fs : List (Env → Bool)) → IsTest old first f → AreTests old (xs ++ t ∷ []) fs → IsTest later next (λ env. f env || some_true fs env)
any_step old now later first id next t xs so_far grows step f fs h hs =
    let r = tests_split old xs t fs hs in
    let either = step (λ env. f env || some_true r.0 env) r.1 (so_far f r.0 h r.3) (test_stays old now t r.1 grows r.4) in
    subst (λ (gs : List (Env → Bool)). IsTest later next (λ env. f env || some_true gs env)) (sym r.2)
    (test_as later next (λ env. (f env || some_true r.0 env) || r.1 env) (λ env. f env || some_true (r.0 ++ r.1 ∷ []) env) (λ env. any_next (f env) r.0 r.1 env) either)

pub any_begins : (ns : List Node) (first : ℕ) (f : Env → Bool) (fs : List (Env → Bool)) → IsTest ns first f → AreTests ns [] fs → IsTest ns first (λ env. f env || some_true fs env)
any_begins ns first f [] h hs = test_as ns first f (λ env. f env || false) (λ env. sym (or-false (f env))) h
any_begins ns first f (g ∷ fs) h hs = absurd hs

-- a constant
pub constant_test : (old new : List Node) (id : ℕ) (b : Bool) → Built old new id (λ env. value.Bool b) (Some (sort_of_value (value.Bool b))) 0 → IsTest new id (λ env. b)
constant_test old new id b h = record { sorted = h.sorted; is = h.is }

-- ---- made of tests

pub not_test : (old new : List Node) (a id : ℕ) (f : Env → Bool) → Grows old new → Built old new id (λ env. one_value Not (value_at env old a)) (one_sort Not (sort_at old a)) (one_weight Not (bits_in (sort_at old a))) → IsTest old a f → IsTest new id (λ env. not (f env))
not_test old new a id f g b t = record {
  sorted = b.sorted ∙ ap (one_sort Not) t.sorted;
  is = λ env fits. b.is env fits ∙ ap (one_value Not) (t.is env (g.fits env fits));
}

pub and_test : (old new : List Node) (a b id : ℕ) (f h : Env → Bool) → Grows old new → Built old new id (λ env. two_value And (value_at env old a) (value_at env old b)) (two_sort And (sort_at old a) (sort_at old b)) (two_weight And (bits_in (sort_at old a))) → IsTest old a f → IsTest old b h → IsTest new id (λ env. f env && h env)
and_test old new a b id f h g u s t = record {
  sorted = u.sorted ∙ ap₂ (two_sort And) s.sorted t.sorted;
  is = λ env fits. u.is env fits ∙ ap₂ (two_value And) (s.is env (g.fits env fits)) (t.is env (g.fits env fits));
}

pub or_test : (old new : List Node) (a b id : ℕ) (f h : Env → Bool) → Grows old new → Built old new id (λ env. two_value Or (value_at env old a) (value_at env old b)) (two_sort Or (sort_at old a) (sort_at old b)) (two_weight Or (bits_in (sort_at old a))) → IsTest old a f → IsTest old b h → IsTest new id (λ env. f env || h env)
or_test old new a b id f h g u s t = record {
  sorted = u.sorted ∙ ap₂ (two_sort Or) s.sorted t.sorted;
  is = λ env fits. u.is env fits ∙ ap₂ (two_value Or) (s.is env (g.fits env fits)) (t.is env (g.fits env fits));
}

pub or_sorted : (old : List Node) (a b : ℕ) → sort_at old a ≡ Some Truth → sort_at old b ≡ Some Truth → two_sort Or (sort_at old a) (sort_at old b) ≡ Some Truth
or_sorted old a b p q = ap₂ (two_sort Or) p q

pub and_sorted : (old : List Node) (a b : ℕ) → sort_at old a ≡ Some Truth → sort_at old b ≡ Some Truth → two_sort And (sort_at old a) (sort_at old b) ≡ Some Truth
and_sorted old a b p q = ap₂ (two_sort And) p q

pub ruleset saying = (not_test, and_test, or_test, and_sorted, or_sorted, growth)

-- ---- four tests

abbrev pub IsBool : List Node → ℕ → Type 0
IsBool ns i = sort_at ns i ≡ Some Truth

pub four_bools : (ns : List Node) (a b c d : ℕ) → IsBool ns a → IsBool ns b → IsBool ns c → IsBool ns d → All (IsBool ns) (a ∷ b ∷ c ∷ d ∷ [])
four_bools ns a b c d p q r s = All-cons (IsBool ns) a (b ∷ c ∷ d ∷ []) p (All-cons (IsBool ns) b (c ∷ d ∷ []) q (All-cons (IsBool ns) c (d ∷ []) r (All-cons (IsBool ns) d [] s (All-nil (IsBool ns)))))

pub four_tests : (ns : List Node) (a b c d : ℕ) (f g h k : Env → Bool) → IsTest ns a f → IsTest ns b g → IsTest ns c h → IsTest ns d k → AreTests ns (a ∷ b ∷ c ∷ d ∷ []) (f ∷ g ∷ h ∷ k ∷ [])
four_tests ns a b c d f g h k p q r s = (p, (q, (r, (s, tt))))
