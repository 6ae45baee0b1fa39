-- What is found of an operation's parts gives what is found of it.
use Rattle.std.proofs.Common.{◌≡◌, ℕ, ap, sym, subst, ◌∙◌, ◌⊎◌, ⊎_elim}
use Rattle.std.specs.Prelude.{Option, Some}
use Rattle.civl_tree.specs.declared.expr.Expr.{Expr, roll-Expr, out-Expr, roll-out-Expr, map-Expr}
use Rattle.civl_tree.specs.declared.expr.Expr.TheFolds.{fold-roll-Expr, para-roll-Expr}
use Rattle.civl_tree.specs.declared.expr.Expr.TheOpen as expr
use Rattle.civl_tree.specs.declared.expr.One.{One}
use Rattle.civl_tree.specs.declared.expr.Two.{Two}
use Rattle.civl_tree.specs.rules.Scopes.{Scope}
use Rattle.civl_tree.specs.declared.expr.Expr.{the_lemmas as of_expr}
use Rattle.civl_tree.specs.declared.expr.Expr.TheVariants as form
use Rattle.civl_tree.specs.declared.expr.Sort.{Sort}
use Rattle.civl_tree.specs.declared.expr.Sort.TheVariants.{Bool as Truth}
use Rattle.civl_tree.specs.rules.Sorts.{sort_step, sort_of}
use Rattle.civl_firing.specs.values.Weights.{weight_step, weight_of}
use Rattle.civl_weighing.proofs.Capping.{weighs_same}
use Rattle.civl_weighing.specs.declared.exprs.Weighed.{Weighed}
use Rattle.civl_weighing.specs.declared.weight.Weight.{Weight}
use Rattle.civl_weighing.specs.Weighing.{Weighs}
use Rattle.civl_weighing.specs.Weighed.{IsOwn, IsWeighed, OneWeighed, TwoWeighed, PickWeighed, GetWeighed, SetWeighed, FillWeighed, SliceWeighed, WidenWeighed, JoinWeighed}

-- an expression by its layer
pub by_layer : {scope : Scope} {e : Expr} {l : expr.Expr-F Expr} {found : Weighed} → IsWeighed scope (roll-Expr l) found → out-Expr e ≡ l → IsWeighed scope e found
by_layer {scope} {e} {l} {found} p h = subst (λ (x : Expr). IsWeighed scope x found) (ap roll-Expr (sym h) ∙ roll-out-Expr e) p

-- what is found of an expression by what is found of its layer
pub is_layer : (scope : Scope) (l : expr.Expr-F Expr) (found : Weighed) → found.sort ≡ sort_step scope (map-Expr Expr (Option Sort) (sort_of scope) l)
    → Weighs found.weight (weight_step scope (map-Expr Expr (Expr × ℕ) (λ e. (e, weight_of scope e)) l)) → IsWeighed scope (roll-Expr l) found
is_layer scope l found s w = record {
  sort = s ∙ sym (fold-roll-Expr (Option Sort) (sort_step scope) l);
  weight = weighs_same (sym (para-roll-Expr ℕ (weight_step scope) l)) w;
}

-- `true`, `false`, `done` or `old(done)`
pub is_truth : {scope : Scope} (e : Expr) {found : Weighed} → (e ≡ form.True) ⊎ ((e ≡ form.False) ⊎ ((e ≡ form.Done) ⊎ (e ≡ form.OldDone))) → found.sort ≡ Some Truth → Weighs found.weight 1 → IsWeighed scope e found
is_truth {scope} e {found} forms s w =
    ⊎_elim (λ h. by_layer (is_layer scope expr.True found s w) (rw h (simp of_expr)))
    (λ h. ⊎_elim (λ k. by_layer (is_layer scope expr.False found s w) (rw k (simp of_expr)))
    (λ k. ⊎_elim (λ l. by_layer (is_layer scope expr.Done found s w) (rw l (simp of_expr))) (λ l. by_layer (is_layer scope expr.OldDone found s w) (rw l (simp of_expr))) k) h) forms

pub own_weighs : {own : ℕ → ℕ} {bits w : Weight} {n : ℕ} → IsOwn own bits w → Weighs bits n → Weighs w (own n)
own_weighs h k = h.is _ k

pub one_weighed : {scope : Scope} {op : One} {a : Expr} {part found : Weighed} → OneWeighed op part found → IsWeighed scope a part → IsWeighed scope (roll-Expr (expr.One op a)) found
one_weighed h p = h.is _ _ p

pub two_weighed : {scope : Scope} {op : Two} {a b : Expr} {first second found : Weighed} → TwoWeighed op first second found → IsWeighed scope a first → IsWeighed scope b second → IsWeighed scope (roll-Expr (expr.Two op a b)) found
two_weighed h p q = h.is _ _ _ p q

pub pick_weighed : {scope : Scope} {t a b : Expr} {test first second found : Weighed} → PickWeighed test first second found → IsWeighed scope t test → IsWeighed scope a first → IsWeighed scope b second
    → IsWeighed scope (roll-Expr (expr.Pick t a b)) found
pick_weighed h p q r = h.is _ _ _ _ p q r

pub get_weighed : {scope : Scope} {r i : Expr} {row at found : Weighed} → GetWeighed row at found → IsWeighed scope r row → IsWeighed scope i at → IsWeighed scope (roll-Expr (expr.Get r i)) found
get_weighed h p q = h.is _ _ _ p q

pub set_weighed : {scope : Scope} {r i v : Expr} {row at cell found : Weighed} → SetWeighed row at cell found → IsWeighed scope r row → IsWeighed scope i at → IsWeighed scope v cell → IsWeighed scope (roll-Expr (expr.Set r i v)) found
set_weighed h p q r = h.is _ _ _ _ p q r

pub fill_weighed : {scope : Scope} {index : ℕ} {v : Expr} {cell found : Weighed} → FillWeighed index cell found → IsWeighed scope v cell → IsWeighed scope (roll-Expr (expr.Fill index v)) found
fill_weighed h p = h.is _ _ p

pub slice_weighed : {scope : Scope} {high low : ℕ} {a : Expr} {word found : Weighed} → SliceWeighed word high low found → IsWeighed scope a word → IsWeighed scope (roll-Expr (expr.Slice a high low)) found
slice_weighed h p = h.is _ _ p

pub widen_weighed : {scope : Scope} {wider : ℕ} {a : Expr} {word found : Weighed} → WidenWeighed word wider found → IsWeighed scope a word → IsWeighed scope (roll-Expr (expr.Widen a wider)) found
widen_weighed h p = h.is _ _ p

pub join_weighed : {scope : Scope} {a b : Expr} {first second found : Weighed} → JoinWeighed first second found → IsWeighed scope a first → IsWeighed scope b second → IsWeighed scope (roll-Expr (expr.Join a b)) found
join_weighed h p q = h.is _ _ _ p q

pub ruleset operations = (own_weighs, one_weighed, two_weighed, pick_weighed, get_weighed, set_weighed, fill_weighed, slice_weighed, widen_weighed, join_weighed)
