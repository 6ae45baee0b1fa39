-- Whether two sequences of actions end alike, as tests that are all true.
use Rattle.std.specs.Prelude.{All}
use Rattle.std.proofs.Common.{◌≡◌, ℕ, Bool, true, ◌&&◌, List, [], ◌∷◌, ap, ap₂}
use Rattle.std.proofs.lemmas.List.Elements.{All-nil, All-cons}
use Rattle.std.proofs.Math.Bool.{and-true}
use Rattle.civl_bits.specs.declared.value.Value.{Value}
use Rattle.civl_tree.specs.declared.action.Action.{Action}
use Rattle.civl_tree.specs.declared.program.Program.{Program}
use Rattle.civl_firing.specs.declared.store.Store.{Store}
use Rattle.civl_firing.specs.Fired.{guard_holds, store_after, outs_after}
use Rattle.civl_terms.specs.declared.node.Node.{Node}
use Rattle.civl_terms.specs.Building.{Grows}
use Rattle.civl_conditions.specs.footprints.Agreement.{exists_at}
use Rattle.civl_actions.specs.Actions.{values_at}
use Rattle.civl_conditions.specs.Values.{same_values, same_stores}
use Rattle.civl_states.specs.formula_parts.Said.{Env, IsTest}
use Rattle.civl_states.specs.formula_parts.Lists.{AreSaid}
use Rattle.civl_states.proofs.formula_parts.Saying.{IsBool, test_where}
use Rattle.civl_states.specs.Runs.{out_sorts}
use Rattle.civl_movers.specs.inner.Ends.{end_alike}

-- lists of five and six bools
pub five_bools : (ns : List Node) (a b c d e : ℕ) → IsBool ns a → IsBool ns b → IsBool ns c → IsBool ns d → IsBool ns e → All (IsBool ns) (a ∷ b ∷ c ∷ d ∷ e ∷ [])
five_bools ns a b c d e p q r s t =
    All-cons (IsBool ns) a (b ∷ c ∷ d ∷ e ∷ []) p (All-cons (IsBool ns) b (c ∷ d ∷ e ∷ []) q (All-cons (IsBool ns) c (d ∷ e ∷ []) r (All-cons (IsBool ns) d (e ∷ []) s (All-cons (IsBool ns) e [] t (All-nil (IsBool ns))))))

pub six_bools : (ns : List Node) (a b c d e f : ℕ) → IsBool ns a → IsBool ns b → IsBool ns c → IsBool ns d → IsBool ns e → IsBool ns f → All (IsBool ns) (a ∷ b ∷ c ∷ d ∷ e ∷ f ∷ [])
six_bools ns a b c d e f p q r s t u = All-cons (IsBool ns) a (b ∷ c ∷ d ∷ e ∷ f ∷ []) p (five_bools ns b c d e f q r s t u)

-- outputs that say these values are the same
pub same_outs : (old new : List Node) (xs ys : List ℕ) (id : ℕ) (a : Action) (f h : Env → List Value) → Grows old new
    → IsTest new id (λ env. same_values (values_at env old xs) (values_at env old ys)) → AreSaid old xs (out_sorts a) f → AreSaid old ys (out_sorts a) h
    → IsTest new id (λ env. same_values (f env) (h env))
same_outs old new xs ys id a f h w t p q = test_where new id _ _ (λ env fits. ap₂ same_values (p.are env (w.fits env fits)) (q.are env (w.fits env fits))) t

pub end_alike_is : (program : Program) (layer : ℕ) (g : Store) (a : Action) (i c : List Value) (b : Action) (j d : List Value)
    → (guard_holds program.globals g b j d
    && (guard_holds program.globals (store_after program.globals g b j d) a i c
    && (same_stores (exists_at layer) program (store_after program.globals (store_after program.globals g a i c) b j d) (store_after program.globals (store_after program.globals g b j d) a i c)
    && (same_values (outs_after program.globals g a i c) (outs_after program.globals (store_after program.globals g b j d) a i c)
    && (same_values (outs_after program.globals (store_after program.globals g a i c) b j d) (outs_after program.globals g b j d) && true)))))
    ≡ end_alike program layer g a i c b j d
end_alike_is program layer g a i c b j d =
    let gs = program.globals in
    ap (λ (x : Bool). guard_holds gs g b j d && (guard_holds gs (store_after gs g b j d) a i c
    && (same_stores (exists_at layer) program (store_after gs (store_after gs g a i c) b j d) (store_after gs (store_after gs g b j d) a i c)
    && (same_values (outs_after gs g a i c) (outs_after gs (store_after gs g b j d) a i c) && x))))
    (and-true (same_values (outs_after gs (store_after gs g a i c) b j d) (outs_after gs g b j d)))
