-- Nothing differs exactly where all values are the same, and so a violation is told exactly where values violate a condition.
use Rattle.std.proofs.Common.{◌≡◌, ◌∙◌, ℕ, ◌+◌, Bool, true, false, not, ◌&&◌, ◌||◌, List, [], ◌∷◌, ◌++◌, length, refl, ap, arith}
use Rattle.std.specs.Prelude.{is_some, if◌then◌else◌}
use Rattle.civl_bits.specs.Value.{same_value}
use Rattle.civl_bits.specs.declared.value.Value.{Value}
use Rattle.civl_tree.specs.declared.program.Global.{Global}
use Rattle.civl_tree.specs.declared.program.Program.{Program}
use Rattle.civl_firing.specs.declared.store.Store.{Store}
use Rattle.civl_conditions.specs.Values.{same_values, same_in, same_stores}
use Rattle.civl_clashes.specs.declared.violations.Which.{Which}
use Rattle.civl_clashes.specs.declared.violations.Which.TheVariants.{First, Second}
use Rattle.civl_clashes.specs.declared.violations.Place.TheVariants as place
use Rattle.civl_clashes.specs.declared.violations.Difference.{Difference}
use Rattle.civl_clashes.specs.declared.violations.Order.{Order}
use Rattle.civl_clashes.specs.Differences.{difference, globals_differ, outs_differ, differences}
use Rattle.civl_clashes.specs.Effects.{effect, order}
use Rattle.civl_clashes.specs.Clashes.{ends}

abbrev pub none_of : List Difference → Bool
none_of [] = true
none_of (d ∷ ds) = false

none_of_both : (ds es : List Difference) → none_of (ds ++ es) ≡ none_of ds && none_of es
none_of_both [] es = refl
none_of_both (d ∷ ds) es = refl

none_where : (test same : Bool) (d : Difference) → none_of (if test then (if same then [] else d ∷ []) else []) ≡ not test || same
none_where true true d = refl
none_where true false d = refl
none_where false same d = refl

none_here : (same : Bool) (d : Difference) → none_of (if same then [] else d ∷ []) ≡ same
none_here true d = refl
none_here false d = refl

globals_same : (test : Global → Bool) (at : ℕ) (gs : List Global) (vs ws : List Value) → none_of (globals_differ test at gs vs ws) ≡ same_in test gs vs ws
globals_same test at [] vs ws = refl
globals_same test at (g ∷ gs) [] ws = refl
globals_same test at (g ∷ gs) (v ∷ vs) [] = refl
globals_same test at (g ∷ gs) (v ∷ vs) (w ∷ ws) =
    none_of_both (if test g then difference (place.Global at) v w else []) (globals_differ test (at + 1) gs vs ws)
    ∙ (ap (λ (b : Bool). b && none_of (globals_differ test (at + 1) gs vs ws)) (none_where (test g) (same_value v w) (record { place = place.Global at; kept = v; exchanged = w }))
    ∙ ap (λ (b : Bool). (not (test g) || same_value v w) && b) (globals_same test (at + 1) gs vs ws))

outs_same : (which : Which) (at : ℕ) (vs ws : List Value) → length vs ≡ length ws → none_of (outs_differ which at vs ws) ≡ same_values vs ws
outs_same which at [] [] e = refl
outs_same which at [] (w ∷ ws) e = absurd (omega (arith, e))
outs_same which at (v ∷ vs) [] e = absurd (omega (arith, e))
outs_same which at (v ∷ vs) (w ∷ ws) e =
    none_of_both (difference (place.Output which at) v w) (outs_differ which (at + 1) vs ws)
    ∙ (ap (λ (b : Bool). b && none_of (outs_differ which (at + 1) vs ws)) (none_here (same_value v w) (record { place = place.Output which at; kept = v; exchanged = w }))
    ∙ ap (λ (b : Bool). same_value v w && b) (outs_same which (at + 1) vs ws (omega (arith, e))))

-- two orders differ nowhere, where stores and outputs are the same
pub all_same : (test : Global → Bool) (program : Program) (a b c d : Store × List Value) → length a.1 ≡ length d.1 → length b.1 ≡ length c.1
    → none_of (differences test program (order (effect a) (effect b)) (order (effect c) (effect d)))
    ≡ same_stores test program b.0 d.0 && (same_values a.1 d.1 && same_values b.1 c.1)
all_same test program a b c d first second =
    let gs = globals_differ test 0 program.globals b.0.values d.0.values in
    let xs = outs_differ First 0 a.1 d.1 in
    let ys = outs_differ Second 0 b.1 c.1 in
    none_of_both gs (xs ++ ys)
    ∙ (ap (λ (t : Bool). t && none_of (xs ++ ys)) (globals_same test 0 program.globals b.0.values d.0.values)
    ∙ ap (λ (t : Bool). same_stores test program b.0 d.0 && t) (
    none_of_both xs ys
    ∙ (ap (λ (t : Bool). t && none_of ys) (outs_same First 0 a.1 d.1 first) ∙ ap (λ (t : Bool). same_values a.1 d.1 && t) (outs_same Second 0 b.1 c.1 second))
    ))

pub ends_told : (made : Order) (ds : List Difference) → is_some (ends made ds) ≡ not (none_of ds)
ends_told made [] = refl
ends_told made (d ∷ ds) = refl
