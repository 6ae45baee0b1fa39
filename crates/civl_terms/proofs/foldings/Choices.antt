-- Foldings of choices keep values.
use Rattle.std.specs.Prelude.{◌&&◌, if◌then◌else◌}
use Rattle.std.proofs.Common.{◌≡◌, ◌∙◌, Bool, true, false, refl, sym, ap, subst, Option, Some, None}
use Rattle.std.proofs.lemmas.Bool.{false≢true, and_parts}
use Rattle.civl_bits.specs.Value.{same_value}
use Rattle.civl_bits.specs.declared.value.Value.{Value}
use Rattle.civl_bits.specs.declared.value.Value.TheVariants as value
use Rattle.civl_tree.specs.declared.expr.Sort.{Sort}
use Rattle.civl_tree.specs.declared.expr.Sort.TheVariants.{Bool as Truth, Word, Row}
use Rattle.civl_tree.specs.rules.Sorts.{pick_sort, is_truth}
use Rattle.civl_firing.specs.values.Operators.{pick_value}
use Rattle.civl_firing.specs.values.Values.{is_true}
use Rattle.civl_firing.proofs.values.Sorting.{bool_of, a_truth}
use Rattle.civl_terms.specs.declared.foldings.folded.Folded.TheVariants.{Constant, First, Second, Third}
use Rattle.civl_terms.specs.foldings.Folding.{when, folded_choice, known_where, folded_pick, IsFolded, IsKnown, AreSame}
use Rattle.civl_terms.specs.foldings.Laws.{PicksKeepValues}
use Rattle.civl_terms.proofs.foldings.Words.{when_is, if_is}
use Rattle.civl_terms.proofs.foldings.Keeping.{given, same_is_equality}

-- a bool tested
chosen : (b : Bool) (x y : Value) → IsFolded (if b then Second else Third) (if b then x else y) (value.Bool b) x y
chosen true x y = refl
chosen false x y = refl

-- where a is known where the test is true, and b where it is false
abbrev Where : Bool → Bool → Option Value → Value → Type 0
Where test b o x = b ≡ test → IsKnown o x

both_known : (b : Bool) (x y k l : Value) → (b ≡ true → x ≡ k) → (b ≡ false → y ≡ l) → same_value k l ≡ true → (if b then x else y) ≡ k
both_known true x y k l f g e = f refl
both_known false x y k l f g e = g refl ∙ sym ((same_is_equality k l).0 e)

bools : (b : Bool) (x y k l : Value) → (b ≡ true → x ≡ k) → (b ≡ false → y ≡ l) → k ≡ value.Bool true → l ≡ value.Bool false → (if b then x else y) ≡ value.Bool b
bools true x y k l f g e h = f refl ∙ e
bools false x y k l f g e h = g refl ∙ h

true_is : (k : Value) → is_true k ≡ true → k ≡ value.Bool true
true_is (value.Bool true) e = refl
true_is (value.Bool false) e = absurd (false≢true e)
true_is (value.Word a) e = absurd (false≢true e)
true_is (value.Row r) e = absurd (false≢true e)

choice : (b : Bool) (x y : Value) (o p : Option Value) → Where true b o x → Where false b p y → IsFolded (folded_choice o p) (if b then x else y) (value.Bool b) x y
choice b x y None p f g = tt
choice b x y (Some k) None f g = tt
choice b x y (Some k) (Some l) f g =
    if_is (same_value k l) (Constant k) (when (is_true k && same_value l (value.Bool false)) First) (if b then x else y) (value.Bool b) x y
    (λ e. both_known b x y k l f g e)
    (when_is (is_true k && same_value l (value.Bool false)) First (if b then x else y) (value.Bool b) x y
    (λ e. let h = and_parts (is_true k) (same_value l (value.Bool false)) e in bools b x y k l f g (true_is k h.0) ((same_is_equality l (value.Bool false)).0 h.1)))

known : (b test is_test : Bool) (o : Option Value) (x : Value) → IsKnown o x → AreSame is_test x (value.Bool b) → Where test b (known_where test is_test o) x
known b test true o x k h e = h refl ∙ ap (λ (c : Bool). value.Bool c) e
known b test false o x k h e = k

by_test : (b : Bool) (x y : Value) (c o p : Option Value) (x_test y_test same : Bool) → IsKnown c (value.Bool b) → IsKnown o x → IsKnown p y
    → AreSame x_test x (value.Bool b) → AreSame y_test y (value.Bool b) → AreSame same x y
    → IsFolded (folded_pick c o p x_test y_test same) (if b then x else y) (value.Bool b) x y
by_test b x y (Some k) o p x_test y_test same kc ko kp sx sy s =
    subst (λ (v : Value). IsFolded (if is_true v then Second else Third) (if b then x else y) (value.Bool b) x y) kc (chosen b x y)
by_test b x y None o p x_test y_test true kc ko kp sx sy s = one b (s refl)
  where
    one : (d : Bool) → x ≡ y → (if d then x else y) ≡ x
    one true e = refl
    one false e = sym e
by_test b x y None o p x_test y_test false kc ko kp sx sy s =
    choice b x y (known_where true x_test o) (known_where false y_test p) (known b true x_test o x ko sx) (known b false y_test p y kp sy)

test_sort : (s t u v : Sort) → pick_sort (Some s) (Some t) (Some u) ≡ Some v → is_truth (Some s) ≡ true
test_sort Truth t u v e = refl
test_sort (Word w) t u v e = absurd (cc)
test_sort (Row i w) t u v e = absurd (cc)

pub picks_keep_values : PicksKeepValues
picks_keep_values s t u v z x y c o p x_test y_test same e hz hx hy kc ko kp sx sy h =
    let b = bool_of z (given s z hz Truth (a_truth (Some s) (test_sort s t u v e))) in
    subst (λ (q : Value). IsKnown c q → AreSame x_test x q → AreSame y_test y q → IsFolded (folded_pick c o p x_test y_test same) (pick_value q x y) q x y) (sym b.1)
    (λ k f g. by_test b.0 x y c o p x_test y_test same k ko kp f g h) kc sx sy
