-- Masks and what items carry, as terms.
use Rattle.std.specs.Prelude.{nat_lt, nat_le, flat_map, IfSome, IsSome}
use Rattle.std.proofs.Common.{◌≡◌, ◌∙◌, ℕ, ◌^◌, ◌<◌, ◌≤◌, Bool, true, ◌&&◌, List, [], ◌∷◌, ◌++◌, Option, None, Some, if◌then◌else◌, refl, sym, ap, ap₂, subst, arith, inl, inr}
use Rattle.std.proofs.lemmas.Bool.{and_from, and_parts, eq-eqb, lt-ltb, le-leb, leb-true, cases_lt}
use Rattle.std.proofs.Math.Pow.{pow_mono}
use Rattle.civl_bits.specs.declared.value.Value.{Value}
use Rattle.civl_bits.specs.declared.value.Value.TheVariants as value
use Rattle.civl_tree.specs.declared.expr.Sort.{Sort}
use Rattle.civl_tree.specs.declared.expr.Sort.TheVariants.{Bool as Truth, Word}
use Rattle.civl_tree.specs.declared.expr.Two.{Two}
use Rattle.civl_tree.specs.declared.expr.Two.TheVariants.{BitAnd, BitOr, Shl, Eq}
use Rattle.civl_tree.specs.rules.Exprs.{is_width}
use Rattle.civl_tree.specs.rules.Sorts.{two_sort, widen_sort, word_sort, truth_over}
use Rattle.civl_firing.specs.values.Operators.{nothing, two_value, widen_value, literal_value}
use Rattle.civl_firing.specs.values.Values.{sort_of_value}
use Rattle.civl_firing.specs.values.Weights.{bits_in, two_weight, move_weight}
use Rattle.civl_terms.specs.declared.node.Node.{Node}
use Rattle.civl_terms.specs.Graphs.{value_at, sort_at, Fits, IsGraph}
use Rattle.civl_terms.specs.Building.{Grows, Built}
use Rattle.civl_terms.proofs.Growing.{grows_trans}
use Rattle.civl_terms.proofs.Soundness.{nodes_have_their_sorts, sort_limits}
use Rattle.civl_meaning.specs.Permissions.{permissions_of_word, permissions_of_global, disjoint, pairwise_disjoint}
use Rattle.civl_conditions.specs.Permissions.{included}
use Rattle.civl_states.specs.declared.formula_parts.carried.Carried.{Carried}
use Rattle.civl_states.specs.formula_parts.Said.{Env, IsTest, IsSaid}
use Rattle.civl_states.specs.formula_parts.Masks.{IsMask, Masks, MasksAll, AreCarried, CanCarry}
use Rattle.civl_actions.proofs.Staying.{sorted_within}
use Rattle.civl_states.proofs.formula_parts.Saying.{sort_stays, test_stays, test_as, test_where, said_stays}
use Rattle.civl_states.proofs.formula_parts.Masks.{global_mask, word_mask, word_widens, few_bits, disjoint_masks, all_within, included_masks, union_mask, no_mask, pairwise_more, flat_more}

-- ---- what operations say

-- a term says its own value
pub itself : {ns : List Node} {i : ℕ} {s : Sort} → sort_at ns i ≡ Some s → IsSaid ns i s (λ env. value_at env ns i)
itself e = record { sorted = e; is = λ env fits. refl }

pub said_here : {old new : List Node} {i : ℕ} {s : Sort} {f : Env → Value} → Grows old new → IsSaid old i s f → IsSaid new i s f
said_here {old = old} {new = new} {i = i} {s = s} {f = f} grows said = said_stays old new i s f grows said

pub two_said : (op : Two) {old new : List Node} {a b id : ℕ} {s t u : Sort} {f g : Env → Value} → two_sort op (Some s) (Some t) ≡ Some u → Grows old new
    → Built old new id (λ env. two_value op (value_at env old a) (value_at env old b)) (two_sort op (sort_at old a) (sort_at old b)) (two_weight op (bits_in (sort_at old a)))
    → IsSaid old a s f → IsSaid old b t g → IsSaid new id u (λ env. two_value op (f env) (g env))
two_said op e grows built first second = record {
  sorted = built.sorted ∙ ap₂ (two_sort op) first.sorted second.sorted ∙ e;
  is = λ env fits. built.is env fits ∙ ap₂ (two_value op) (first.is env (grows.fits env fits)) (second.is env (grows.fits env fits));
}

pub widen_said : (width : ℕ) {old new : List Node} {a id : ℕ} {s u : Sort} {f : Env → Value} → widen_sort (Some s) width ≡ Some u → Grows old new
    → Built old new id (λ env. widen_value (value_at env old a) width) (widen_sort (sort_at old a) width) move_weight
    → IsSaid old a s f → IsSaid new id u (λ env. widen_value (f env) width)
widen_said width e grows built said = record {
  sorted = built.sorted ∙ ap (λ o. widen_sort o width) said.sorted ∙ e;
  is = λ env fits. built.is env fits ∙ ap (λ v. widen_value v width) (said.is env (grows.fits env fits));
}

-- a number in words of so many bits
literal_is : (bits n : ℕ) → is_width bits ≡ true → n < 2 ^ bits → literal_value n bits ≡ value.Word (bits, n)
literal_is bits n wide low = ap (λ t. if t then value.Word (bits, n) else nothing) (and_from (is_width bits) (nat_lt n (2 ^ bits)) wide (lt-ltb n (2 ^ bits) low))

pub literal_said : {old new : List Node} {bits n id : ℕ} {v : Value} → is_width bits ≡ true → n < 2 ^ bits → v ≡ literal_value n bits
    → Built old new id (λ env. v) (Some (sort_of_value v)) 0 → IsSaid new id (Word bits) (λ env. value.Word (bits, n))
literal_said {bits = bits} {n = n} wide low e built =
    let same = e ∙ literal_is bits n wide low in
    record {
      sorted = built.sorted ∙ ap (λ u. Some (sort_of_value u)) same;
      is = λ env fits. built.is env fits ∙ same;
    }

-- two words of one width
pub both_sorted : (bits : ℕ) → two_sort BitAnd (Some (Word bits)) (Some (Word bits)) ≡ Some (Word bits)
both_sorted bits = ap (λ t. word_sort (if t then Some (Word bits) else None)) (eq-eqb bits bits refl)

pub equal_sorted : (bits : ℕ) → two_sort Eq (Some (Word bits)) (Some (Word bits)) ≡ Some Truth
equal_sorted bits = ap (λ t. truth_over (if t then Some (Word bits) else None)) (eq-eqb bits bits refl)

-- the same for two terms, as it is asked for
pub two_fit : (ns : List Node) (op : Two) (a b : ℕ) {s t u : Sort} → two_sort op (Some s) (Some t) ≡ Some u → sort_at ns a ≡ Some s → sort_at ns b ≡ Some t → IsSome (two_sort op (sort_at ns a) (sort_at ns b))
two_fit ns op a b e p q = subst (λ o. IsSome o) (sym (ap₂ (two_sort op) p q ∙ e)) refl

pub width_of : (ns : List Node) (a bits : ℕ) → IsGraph ns → sort_at ns a ≡ Some (Word bits) → is_width bits ≡ true
width_of ns a bits graph e = sort_limits ns graph a (Word bits) e

-- ---- masks stay

pub masks_stay : {old new : List Node} {bits id : ℕ} {f : Env → List ℕ} → Grows old new → Masks old bits id f → Masks new bits id f
masks_stay {old = old} {new = new} {bits = bits} {id = id} {f = f} grows m = record {
  sorted = sort_stays old new id (Word bits) grows m.sorted;
  is = λ env fits. subst (λ v. IsMask bits v (f env)) (sym (grows.values env id (sorted_within old id (Word bits) m.sorted))) (m.is env (grows.fits env fits));
}

pub masks_as : {ns : List Node} {bits id : ℕ} (f g : Env → List ℕ) → ((env : Env) → Fits env ns → f env ≡ g env) → Masks ns bits id f → Masks ns bits id g
masks_as {ns = ns} {bits = bits} {id = id} f g e m = record {
  sorted = m.sorted;
  is = λ env fits. subst (λ ps. IsMask bits (value_at env ns id) ps) (e env fits) (m.is env fits);
}

-- ---- masks of single items

pub global_masks : {ns : List Node} {bits id : ℕ} (g : Env → Value) → IsGraph ns → IsSaid ns id (Word bits) g → Masks ns bits id (λ env. permissions_of_global (g env))
global_masks {ns = ns} {bits = bits} {id = id} g graph said = record {
  sorted = said.sorted;
  is = λ env fits. subst (λ v. IsMask bits (value_at env ns id) (permissions_of_global v)) (said.is env fits)
      (global_mask bits (value_at env ns id) (nodes_have_their_sorts ns graph env fits id (Word bits) said.sorted));
}

pub word_masks : {old new : List Node} {permissions bits id mask : ℕ} (g : Env → Value) → permissions ≤ 5 → bits ≡ 2 ^ permissions → IsGraph old → Grows old new
    → IsSaid new mask (Word bits) (λ env. two_value Shl (value.Word (bits, 1)) (widen_value (value_at env old id) bits))
    → IsSaid old id (Word permissions) g → Masks new bits mask (λ env. permissions_of_word (g env))
word_masks {old = old} {new = new} {permissions = permissions} {bits = bits} {id = id} {mask = mask} g small e graph grows shifted said = record {
  sorted = shifted.sorted;
  is = λ env fits.
      let before = grows.fits env fits in
      let alone = word_mask permissions (value_at env old id) small (nodes_have_their_sorts old graph env before id (Word permissions) said.sorted) in
      let wide = subst (λ n. IsMask n (two_value Shl (value.Word (n, 1)) (widen_value (value_at env old id) n)) (permissions_of_word (value_at env old id))) (sym e) alone in
      subst (λ v. IsMask bits v (permissions_of_word (g env))) (sym (shifted.is env fits))
      (subst (λ v. IsMask bits (two_value Shl (value.Word (bits, 1)) (widen_value (value_at env old id) bits)) (permissions_of_word v)) (said.is env before) wide);
}

-- ---- two masks

pub masks_apart : {old new : List Node} {bits a b id : ℕ} (f g : Env → List ℕ) → Grows old new
    → IsSaid new id Truth (λ env. two_value Eq (two_value BitAnd (value_at env old a) (value_at env old b)) (value.Word (bits, 0)))
    → Masks old bits a f → Masks old bits b g → IsTest new id (λ env. disjoint (f env) (g env))
masks_apart {old = old} {bits = bits} {a = a} {b = b} f g grows said m n = record {
  sorted = said.sorted;
  is = λ env fits.
      let before = grows.fits env fits in
      said.is env fits ∙ disjoint_masks bits (value_at env old a) (value_at env old b) (f env) (g env) (m.is env before) (n.is env before);
}

pub masks_within : {old new : List Node} {bits a b id : ℕ} (f g : Env → List ℕ) → Grows old new
    → IsSaid new id Truth (λ env. two_value Eq (two_value BitAnd (value_at env old a) (value_at env old b)) (value_at env old a))
    → Masks old bits a f → Masks old bits b g → IsTest new id (λ env. all_within (f env) (g env))
masks_within {old = old} {bits = bits} {a = a} {b = b} f g grows said m n = record {
  sorted = said.sorted;
  is = λ env fits.
      let before = grows.fits env fits in
      said.is env fits ∙ included_masks bits (value_at env old a) (value_at env old b) (f env) (g env) (m.is env before) (n.is env before);
}

pub masks_joined : {old new : List Node} {bits a b id : ℕ} (f g : Env → List ℕ) → Grows old new
    → IsSaid new id (Word bits) (λ env. two_value BitOr (value_at env old a) (value_at env old b))
    → Masks old bits a f → Masks old bits b g → Masks new bits id (λ env. f env ++ g env)
masks_joined {old = old} {bits = bits} {a = a} {b = b} f g grows said m n = record {
  sorted = said.sorted;
  is = λ env fits.
      let before = grows.fits env fits in
      subst (λ v. IsMask bits v (f env ++ g env)) (sym (said.is env fits))
      (union_mask bits (value_at env old a) (value_at env old b) (f env) (g env) (m.is env before) (n.is env before));
}

-- ---- what items carry

pub more_carried : {old first second new : List Node} {bits mask apart item test next all : ℕ} → Grows old first → Grows first second → Grows second new
    → ((f g : Env → List ℕ) → Masks old bits mask f → Masks old bits item g → IsTest first test (λ env. disjoint (f env) (g env)))
    → ((f g : Env → Bool) → IsTest first apart f → IsTest first test g → IsTest second next (λ env. f env && g env))
    → ((f g : Env → List ℕ) → Masks second bits mask f → Masks second bits item g → Masks new bits all (λ env. f env ++ g env))
    → (f : Env → List (List ℕ)) (g : Env → List ℕ) → AreCarried old bits (record { mask = Some mask; apart = apart }) f → Masks old bits item g
    → AreCarried new bits (record { mask = Some all; apart = next }) (λ env. f env ++ g env ∷ [])
more_carried {old = old} {first = first} {second = second} {new = new} {apart = apart} {next = next} one two three tests joins unites f g carried m =
    let both = grows_trans old first second one two in
    record {
      mask = masks_as (λ env. flat_map (λ ps. ps) (f env) ++ g env) (λ env. flat_map (λ ps. ps) (f env ++ g env ∷ [])) (λ env fits. sym (flat_more (f env) (g env)))
          (unites (λ env. flat_map (λ ps. ps) (f env)) g (masks_stay both carried.mask) (masks_stay both m));
      apart = test_as new next (λ env. pairwise_disjoint (f env) && disjoint (flat_map (λ ps. ps) (f env)) (g env)) (λ env. pairwise_disjoint (f env ++ g env ∷ [])) (λ env. sym (pairwise_more (f env) (g env)))
          (test_stays second new next (λ env. pairwise_disjoint (f env) && disjoint (flat_map (λ ps. ps) (f env)) (g env)) three
          (joins (λ env. pairwise_disjoint (f env)) (λ env. disjoint (flat_map (λ ps. ps) (f env)) (g env))
          (test_stays old first apart (λ env. pairwise_disjoint (f env)) one carried.apart)
          (tests (λ env. flat_map (λ ps. ps) (f env)) g carried.mask m)));
    }

-- ---- so many bits as there are permissions

pub width_is : (bits : ℕ) → 1 ≤ bits → bits ≤ 32 → is_width bits ≡ true
width_is bits low high = and_from (nat_le 1 bits) (nat_le bits 32) (le-leb 1 bits low) (le-leb bits 32 high)

pub record MaskBits (permissions bits : ℕ) : Type 0 where
  pub low : 1 ≤ bits
  pub high : bits ≤ 32
  pub wide : is_width bits ≡ true
  pub one : 1 < 2 ^ bits
  pub widens : widen_sort (Some (Word permissions)) bits ≡ Some (Word bits)

pub mask_bits : {permissions bits : ℕ} → permissions ≤ 5 → bits ≡ 2 ^ permissions → MaskBits permissions bits
mask_bits {permissions = permissions} {bits = bits} small e = subst (MaskBits permissions) (sym e) (
    let few = few_bits permissions small in
    record {
      low = few.0;
      high = few.1;
      wide = width_is (2 ^ permissions) few.0 few.1;
      one = omega (arith, pow_mono {i = 1} {j = 2 ^ permissions} few.0);
      widens = ap (λ t. if t then Some (Word (2 ^ permissions)) else None) (word_widens permissions small);
    })

pub widen_fit : (ns : List Node) (a width : ℕ) {s u : Sort} → widen_sort (Some s) width ≡ Some u → sort_at ns a ≡ Some s → IsSome (widen_sort (sort_at ns a) width)
widen_fit ns a width e p = subst (λ o. IsSome o) (sym (ap (λ o. widen_sort o width) p ∙ e)) refl

pub few_permissions : (permissions : ℕ) → is_width (2 ^ permissions) ≡ true → permissions ≤ 5
few_permissions permissions e =
    let small : 2 ^ permissions ≤ 32 = leb-true (2 ^ permissions) 32 (and_parts (nat_le 1 (2 ^ permissions)) (nat_le (2 ^ permissions) 32) e).1 in
    elim (cases_lt permissions 6) [
      | inl l ↦ omega arith
      | inr g ↦ absurd (omega (arith, pow_mono {i = 6} {j = permissions} g))
    ]

-- ---- what items carry, said otherwise

pub carried_some : {ns : List Node} {bits mask : ℕ} {carried : Carried} {f : Env → List (List ℕ)} → carried.mask ≡ Some mask → AreCarried ns bits carried f → AreCarried ns bits (record { mask = Some mask; apart = carried.apart }) f
carried_some {ns = ns} {bits = bits} {f = f} e a = record { mask = subst (λ o. MasksAll ns bits o f) e a.mask; apart = a.apart }

masks_all_stay : (old new : List Node) (bits : ℕ) (mask : Option ℕ) (f : Env → List (List ℕ)) → Grows old new → MasksAll old bits mask f → MasksAll new bits mask f
masks_all_stay old new bits None f grows m = λ env fits. m env (grows.fits env fits)
masks_all_stay old new bits (Some id) f grows m = masks_stay grows m

-- what items carry stays true while the graph grows
pub carried_stays : {old new : List Node} {bits : ℕ} {carried : Carried} (f : Env → List (List ℕ)) → Grows old new → AreCarried old bits carried f → AreCarried new bits carried f
carried_stays {old = old} {new = new} {bits = bits} {carried = carried} f grows a = record {
  mask = masks_all_stay old new bits carried.mask f grows a.mask;
  apart = test_stays old new carried.apart (λ env. pairwise_disjoint (f env)) grows a.apart;
}

masks_all_as : (ns : List Node) (bits : ℕ) (mask : Option ℕ) (f g : Env → List (List ℕ)) → ((env : Env) → Fits env ns → f env ≡ g env) → MasksAll ns bits mask f → MasksAll ns bits mask g
masks_all_as ns bits None f g e m = λ env fits. sym (e env fits) ∙ m env fits
masks_all_as ns bits (Some id) f g e m = masks_as (λ env. flat_map (λ ps. ps) (f env)) (λ env. flat_map (λ ps. ps) (g env)) (λ env fits. ap (flat_map (λ ps. ps)) (e env fits)) m

-- the same items, said otherwise
pub carried_as : {ns : List Node} {bits : ℕ} {carried : Carried} (f g : Env → List (List ℕ)) → ((env : Env) → Fits env ns → f env ≡ g env) → AreCarried ns bits carried f → AreCarried ns bits carried g
carried_as {ns = ns} {bits = bits} {carried = carried} f g e a = record {
  mask = masks_all_as ns bits carried.mask f g e a.mask;
  apart = test_where ns carried.apart (λ env. pairwise_disjoint (f env)) (λ env. pairwise_disjoint (g env)) (λ env fits. ap pairwise_disjoint (e env fits)) a.apart;
}

can_stays : (old new : List Node) (bits : ℕ) (mask : Option ℕ) → Grows old new → IfSome mask (λ id. sort_at old id ≡ Some (Word bits)) → IfSome mask (λ id. sort_at new id ≡ Some (Word bits))
can_stays old new bits None grows h = h
can_stays old new bits (Some id) grows h = sort_stays old new id (Word bits) grows h

pub can_carry_stays : {old new : List Node} {bits : ℕ} {carried : Carried} → Grows old new → CanCarry old bits carried → CanCarry new bits carried
can_carry_stays {old = old} {new = new} {bits = bits} {carried = carried} grows can = record {
  mask = can_stays old new bits carried.mask grows can.mask;
  apart = sort_stays old new carried.apart Truth grows can.apart;
}

-- the sort of a mask that is there
pub mask_sorted : {ns : List Node} {bits mask : ℕ} {carried : Carried} → carried.mask ≡ Some mask → CanCarry ns bits carried → sort_at ns mask ≡ Some (Word bits)
mask_sorted {ns = ns} {bits = bits} e can = subst (λ o. IfSome o (λ id. sort_at ns id ≡ Some (Word bits))) e can.mask

-- the same in a later graph, with the bits by another name
pub mask_here : {old new : List Node} {n bits mask : ℕ} {carried : Carried} → carried.mask ≡ Some mask → bits ≡ n → Grows old new → CanCarry old n carried → sort_at new mask ≡ Some (Word bits)
mask_here {old = old} {new = new} {n = n} {mask = mask} e same grows can = subst (λ k. sort_at new mask ≡ Some (Word k)) (sym same) (sort_stays old new mask (Word n) grows (mask_sorted e can))

-- ---- where there are no items

no_items_there : {ns : List Node} {bits : ℕ} {carried : Carried} (f : Env → List (List ℕ)) → carried.mask ≡ None → AreCarried ns bits carried f → (env : Env) → Fits env ns → f env ≡ []
no_items_there {ns = ns} {bits = bits} f e a = subst (λ o. MasksAll ns bits o f) e a.mask

pub none_masks : {old new : List Node} {bits id : ℕ} {carried : Carried} (f : Env → List (List ℕ)) → carried.mask ≡ None → Grows old new → IsSaid new id (Word bits) (λ env. value.Word (bits, 0))
    → AreCarried old bits carried f → Masks new bits id (λ env. flat_map (λ ps. ps) (f env))
none_masks {old = old} {new = new} {bits = bits} {id = id} f e grows said a = masks_as (λ env. []) (λ env. flat_map (λ ps. ps) (f env))
    (λ env fits. sym (ap (flat_map (λ ps. ps)) (no_items_there f e a env (grows.fits env fits))))
    (record { sorted = said.sorted; is = λ env fits. subst (λ v. IsMask bits v []) (sym (said.is env fits)) (no_mask bits) })

-- no items are all among others
pub none_included : {old new : List Node} {bits id : ℕ} {outgoing : Carried} (f g : Env → List (List ℕ)) → outgoing.mask ≡ None → Grows old new → IsTest new id (λ env. true)
    → AreCarried old bits outgoing f → IsTest new id (λ env. included (f env) (g env))
none_included {new = new} {id = id} f g e grows test a =
    test_where new id (λ env. true) (λ env. included (f env) (g env)) (λ env fits. sym (ap (λ fs. included fs (g env)) (no_items_there f e a env (grows.fits env fits)))) test
