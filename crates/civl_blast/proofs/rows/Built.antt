-- One node that a call builds.
use Rattle.std.proofs.Common.{◌≡◌, ℕ, ◌≤◌, List, [], ◌∷◌, length, refl, sym, ap, ◌∙◌, subst, arith, Some, None, Option, IsTrue, nat_eq, ◌||◌, inl, inr}
use Rattle.std.specs.Prelude.{IsSome}
use Rattle.std.proofs.lemmas.Bool.{false≢true, or_cases, eqb-true}
use Rattle.civl_bits.specs.declared.value.Value.{Value}
use Rattle.civl_tree.specs.declared.expr.Sort.{Sort}
use Rattle.civl_terms.specs.declared.foldings.folded.Folded.{Folded}
use Rattle.civl_terms.specs.declared.foldings.folded.Folded.TheVariants as folded
use Rattle.civl_terms.specs.declared.node.Node.{Node}
use Rattle.civl_terms.specs.declared.node.Node.TheVariants.{Constant}
use Rattle.civl_terms.specs.Graphs.{sorts, sort_at, PartsBelow}
use Rattle.civl_terms.specs.Weights.{is_part, node_weight}
use Rattle.civl_terms.specs.Building.{Grows, Numbers, Answers, Built}
use Rattle.civl_blast.specs.reach.Reaching.{is_plain}
use Rattle.civl_blast.specs.rows.Cells.{number_above}
use Rattle.civl_blast.specs.inner.rows.Making.{Has, AllIn, Adds, IsCalm, MakesOne}
use Rattle.civl_blast.proofs.rows.Growth.{longer, node_weight_stays, calm_more, calm_refl}
use Rattle.civl_blast.proofs.rows.Solid.{adds_none, adds_node}

operand : (s : List ℕ) (id a : ℕ) → id ≡ a → Has s a → AllIn s (id ∷ [])
operand s id a e h = let P : ℕ → Type 0 = λ i. Has s i in (subst P (sym e) h, tt)

pub record Operation (old : List Node) (Uses : List ℕ → Type 0) (n : Node) (a b c cost : ℕ) : Type 0 where
  pub below : PartsBelow (length old) n
  pub other : number_above n ≡ 0
  pub parts : (s : List ℕ) → Uses s → (k : ℕ) → IsTrue (is_part n k) → Has s k
  pub first : (s : List ℕ) → Uses s → Has s a
  pub second : (s : List ℕ) → Uses s → Has s b
  pub third : (s : List ℕ) → Uses s → Has s c
  pub light : node_weight (sorts old) n ≤ cost

answers_add : {old new : List Node} {Uses : List ℕ → Type 0} {n : Node} {a b c cost : ℕ} (f : Folded) (id : ℕ) → Operation old Uses n a b c cost → Grows old new → IsTrue (is_plain (sort_at new id)) → Answers old new f n a b c id → Adds old new Uses (id ∷ []) cost
answers_add {old} {new} {Uses} {n} {a} {b} {c} {cost} folded.New id o g p h = adds_node Uses id cost n g o.other h.is p o.parts (omega (arith, node_weight_stays old new n (longer g) o.below, o.light))
answers_add {old} {new} {Uses} {n} {a} {b} {c} {cost} (folded.Constant v) id o g p h = adds_node Uses id cost (Constant v) g refl h.is p (λ s u k q. absurd (false≢true q)) (omega arith)
answers_add {old} {new} {Uses} {n} {a} {b} {c} {cost} folded.First id o g p h = adds_none Uses (id ∷ []) cost g (λ s u. operand s id a h.0 (o.first s u))
answers_add {old} {new} {Uses} {n} {a} {b} {c} {cost} folded.Second id o g p h = adds_none Uses (id ∷ []) cost g (λ s u. operand s id b h.0 (o.second s u))
answers_add {old} {new} {Uses} {n} {a} {b} {c} {cost} folded.Third id o g p h = adds_none Uses (id ∷ []) cost g (λ s u. operand s id c h.0 (o.third s u))

same_calm : {old new : List Node} → new ≡ old → IsCalm old new
same_calm {old} {new} e = let P : List Node → Type 0 = λ ns. IsCalm old ns in subst P (sym e) (calm_refl old)

pub answers_calm : {old new : List Node} (n : Node) (a b c : ℕ) (f : Folded) (id : ℕ) → number_above n ≡ 0 → Grows old new → Answers old new f n a b c id → IsCalm old new
answers_calm {old} {new} n a b c folded.New id z g h = calm_more old new n g z h.adds
answers_calm {old} {new} n a b c (folded.Constant v) id z g h = calm_more old new (Constant v) g refl h.adds
answers_calm n a b c folded.First id z g h = same_calm h.1
answers_calm n a b c folded.Second id z g h = same_calm h.1
answers_calm n a b c folded.Third id z g h = same_calm h.1

pub makes_one : {old new : List Node} {Uses : List ℕ → Type 0} {n : Node} {a b c cost weight : ℕ} {value : (ℕ → Value) → Value} {s : Option Sort} (f : Folded) (id : ℕ) → Operation old Uses n a b c cost → Grows old new → IsTrue (is_plain s) → Answers old new f n a b c id → Built old new id value s weight → MakesOne old new Uses id s value cost
makes_one {old} {new} {Uses} {n} {a} {b} {c} f id o g p h t = record {
  calm = answers_calm n a b c f id o.other g h;
  adds = answers_add f id o g (ap is_plain t.sorted ∙ p) h;
  sorted = t.sorted;
  is = t.is;
}

pub makes_constant : {old new : List Node} {Uses : List ℕ → Type 0} {v : Value} {weight : ℕ} {value : (ℕ → Value) → Value} {s : Option Sort} (id : ℕ) → Grows old new → IsTrue (is_plain s) → Numbers old new (Constant v) id → Built old new id value s weight → MakesOne old new Uses id s value 0
makes_constant {old} {new} {Uses} {v} id g p h b = record {
  calm = calm_more old new (Constant v) g refl h.adds;
  adds = adds_node Uses id 0 (Constant v) g refl h.is (ap is_plain b.sorted ∙ p) (λ s u k q. absurd (false≢true q)) (omega arith);
  sorted = b.sorted;
  is = b.is;
}

pub is_some_plain : (o : Option Sort) → IsTrue (is_plain o) → IsSome o
is_some_plain None h = absurd (false≢true h)
is_some_plain (Some s) h = refl

-- ---- which numbers are parts

pub one_part : (s : List ℕ) (a k : ℕ) → Has s a → IsTrue (nat_eq k a) → Has s k
one_part s a k h e = let P : ℕ → Type 0 = λ i. Has s i in subst P (sym (eqb-true k a e)) h

pub two_parts : (s : List ℕ) (a b k : ℕ) → Has s a → Has s b → IsTrue (nat_eq k a || nat_eq k b) → Has s k
two_parts s a b k h g e = elim (or_cases (nat_eq k a) (nat_eq k b) e) [ inl q ↦ one_part s a k h q | inr q ↦ one_part s b k g q ]

pub three_parts : (s : List ℕ) (a b c k : ℕ) → Has s a → Has s b → Has s c → IsTrue (nat_eq k a || (nat_eq k b || nat_eq k c)) → Has s k
three_parts s a b c k h g i e = elim (or_cases (nat_eq k a) (nat_eq k b || nat_eq k c) e) [ inl q ↦ one_part s a k h q | inr q ↦ two_parts s b c k g i q ]
