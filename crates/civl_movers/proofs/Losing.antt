-- What an action's outputs carry, and K2 as tests that are all true.
use Rattle.std.specs.Prelude.{filter, not, cond}
use Rattle.std.specs.List.{list_all}
use Rattle.std.proofs.Common.{◌≡◌, ◌∙◌, ℕ, ◌+◌, Bool, true, false, ◌&&◌, List, [], ◌∷◌, length, refl, sym, ap, ap₂, arith}
use Rattle.std.proofs.lemmas.Bool.{false≢true, and_parts}
use Rattle.std.proofs.Math.Bool.{and-true}
use Rattle.civl_bits.specs.declared.value.Value.{Value}
use Rattle.civl_tree.specs.declared.action.Action.{Action}
use Rattle.civl_tree.specs.declared.action.Mode.{Mode}
use Rattle.civl_tree.specs.declared.action.Mode.TheVariants.{Val, Lend, Take, Give}
use Rattle.civl_tree.specs.declared.action.Param.{Param}
use Rattle.civl_tree.specs.declared.program.Program.{Program}
use Rattle.civl_tree.specs.SpellingDomain.{is_out_mode, allows_name, allows_out}
use Rattle.civl_tree.specs.rules.Width.{is_linear}
use Rattle.civl_firing.specs.declared.store.Store.{Store}
use Rattle.civl_firing.specs.Fired.{gate_holds, guard_holds, store_after, outs_after}
use Rattle.civl_meaning.specs.Permissions.{pairwise_disjoint}
use Rattle.civl_linear.specs.Modes.{is_given}
use Rattle.civl_conditions.specs.Movers.{loses}
use Rattle.civl_conditions.specs.Permissions.{included}
use Rattle.civl_states.specs.declared.items.Which.TheVariants.{Linear}
use Rattle.civl_states.specs.Items.{number_of, comes_in}
use Rattle.civl_movers.specs.Items.{goes_out}
use Rattle.civl_movers.specs.Runs.{invoke}
use Rattle.civl_states.proofs.Firing.{fires_is}

-- ---- the outputs that the grammar can write

out_given : (mode : Mode) → is_out_mode mode ≡ true → is_linear mode ≡ is_given mode
out_given Val e = refl
out_given Lend e = absurd (false≢true e)
out_given Take e = absurd (false≢true e)
out_given Give e = refl

long_cond : (b : Bool) (p : Param) (ps : List Param) → length (cond b (p ∷ ps) ps) ≡ cond b 1 0 + length ps
long_cond true p ps = omega arith
long_cond false p ps = omega arith

-- of these the linear ones are those that are given
pub outs_given : (outs : List Param) → list_all allows_out outs ≡ true → number_of Linear outs ≡ length (filter (λ p. is_given p.mode) outs)
outs_given [] e = refl
outs_given (p ∷ ps) e =
    let parts = and_parts (allows_out p) (list_all allows_out ps) e in
    let same = out_given p.mode (and_parts (is_out_mode p.mode) (allows_name p.name) parts.0).0 in
    long_cond (is_linear p.mode) p (filter (λ q. is_linear q.mode) ps)
    ∙ ap₂ (λ (b : Bool) (n : ℕ). cond b 1 0 + n) same (outs_given ps parts.1)
    ∙ sym (long_cond (is_given p.mode) p (filter (λ q. is_given q.mode) ps))

-- ---- K2

pub loses_is : (program : Program) (g : Store) (a : Action) (i c : List Value)
    → (pairwise_disjoint (comes_in program a g i) && (gate_holds program.globals g a i && (guard_holds program.globals g a i c
    && (not (pairwise_disjoint (goes_out program a (store_after program.globals g a i c) i (outs_after program.globals g a i c))
    && included (goes_out program a (store_after program.globals g a i c) i (outs_after program.globals g a i c)) (comes_in program a g i)) && true))))
    ≡ loses program g (invoke a i c)
loses_is program g a i c =
    let lost : Store × List Value → Bool = λ s. not (pairwise_disjoint (goes_out program a s.0 i s.1) && included (goes_out program a s.0 i s.1) (comes_in program a g i)) in
    ap (λ (t : Bool). pairwise_disjoint (comes_in program a g i) && (gate_holds program.globals g a i && t))
    (ap (λ (t : Bool). guard_holds program.globals g a i c && t) (and-true (lost (store_after program.globals g a i c, outs_after program.globals g a i c)))
    ∙ sym (fires_is program g a i c lost))
