-- Commits and intros that take effect: what they leave, and that they do the same to alike states.
use Rattle.std.proofs.Common.{ℕ, ◌≡◌, true, false, List, [], ◌∷◌, refl, ap}
use Rattle.std.specs.Option.{option_map_or}
use Rattle.civl_bits.specs.declared.value.Value.{Value}
use Rattle.civl_tree.specs.declared.program.Proc.{Proc}
use Rattle.civl_tree.specs.declared.program.Program.{Program}
use Rattle.civl_tree.specs.declared.stmt.Stmt.{Stmt, out-Stmt}
use Rattle.civl_tree.specs.declared.stmt.Stmt.TheOpen as stmt
use Rattle.civl_firing.specs.Eval.{value_of}
use Rattle.civl_meaning.specs.Rest.{Rest}
use Rattle.civl_conditions.specs.paths.NoteValues.{plain_note_values}
use Rattle.civl_conditions.specs.paths.Paths.{Course, Progress, committed, set_global, introduced}
use Rattle.civl_conditions.specs.paths.Runs.{layer_led, led}
use Rattle.civl_conditions.specs.paths.Seen.{lower_course}
use Rattle.civl_reduction.specs.blocks.Shadow.{course_of}

pub locals_stay : (c : Course) (r : Rest) (p : Progress) → (led c r p).locals ≡ p.locals
locals_stay c [] p = refl
locals_stay c (q ∷ k) p = by_layer (out-Stmt q.1) (locals_stay c k)
  where
    by_layer : (d : stmt.Stmt-F Stmt) → ((x : Progress) → (led c k x).locals ≡ x.locals) → (option_map_or (led c k) (layer_led c d p) p).locals ≡ p.locals
    by_layer stmt.Commit ih = ih (committed p)
    by_layer (stmt.Intro x e) ih = ih (introduced c x e p)
    by_layer _ ih = refl

-- a state, whether or not a commit was passed twice
abbrev pub bare : Progress → Progress
bare p = record { store = p.store; locals = p.locals; done = p.done; again = false }

-- alike states come to alike ones, whatever the choices
pub led_alike : (program : Program) (step layer : ℕ) (proc : Proc) (f : ℕ → List Value) (r : Rest) (p q : Progress) → bare p ≡ bare q → bare (led (lower_course program step proc f) r p) ≡ bare (led (course_of program layer proc) r q)
led_alike program step layer proc f [] p q e = e
led_alike program step layer proc f (z ∷ k) p q e = by_layer (out-Stmt z.1) (led_alike program step layer proc f k)
  where
    by_layer : (x : stmt.Stmt-F Stmt) → ((a b : Progress) → bare a ≡ bare b → bare (led (lower_course program step proc f) k a) ≡ bare (led (course_of program layer proc) k b))
        → bare (option_map_or (led (lower_course program step proc f) k) (layer_led (lower_course program step proc f) x p) p) ≡ bare (option_map_or (led (course_of program layer proc) k) (layer_led (course_of program layer proc) x q) q)
    by_layer stmt.Commit ih = ih (committed p) (committed q) (ap (λ (a : Progress). record { store = a.store; locals = a.locals; done = true; again = false }) e)
    by_layer (stmt.Intro x v) ih =
        ih (introduced (lower_course program step proc f) x v p) (introduced (course_of program layer proc) x v q)
        (ap (λ (a : Progress). record { store = set_global program.globals a.store x (value_of (plain_note_values program.globals proc a.store a.locals) v); locals = a.locals; done = a.done; again = false }) e)
    by_layer _ ih = e
