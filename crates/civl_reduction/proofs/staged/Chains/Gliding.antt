-- What takes effect before a step from a yield, block by block.
use Rattle.std.proofs.Common.{ℕ, ◌≤◌, ◌≡◌, Bool, true, false, List, [], ◌∷◌, length, Some, Option, sym, refl, ap, ◌∙◌, subst, arith, inl, inr}
use Rattle.std.specs.Prelude.{if◌then◌else◌}
use Rattle.std.specs.Option.{option_map_or}
use Rattle.std.proofs.lemmas.Bool.{false≢true}
use Rattle.std.proofs.lemmas.Option.{none-some, same_Some}
use Rattle.civl_tree.specs.declared.stmt.Stmt.{Stmt, out-Stmt}
use Rattle.civl_tree.specs.declared.stmt.Stmt.TheOpen as stmt
use Rattle.civl_tree.specs.declared.program.Proc.{Proc}
use Rattle.civl_tree.specs.declared.program.Program.{Program}
use Rattle.civl_firing.specs.declared.store.Store.{Store}
use Rattle.civl_firing.specs.Eval.{value_of}
use Rattle.civl_meaning.specs.Places.{Spot}
use Rattle.civl_meaning.specs.Rest.{Rest, place_in, head_of}
use Rattle.civl_conditions.specs.paths.NoteValues.{plain_note_values}
use Rattle.civl_conditions.specs.paths.Paths.{Course, Progress, committed, set_global, introduced}
use Rattle.civl_conditions.specs.paths.Runs.{layer_led, led}
use Rattle.civl_layers.specs.declared.cut.CutKind.{CutKind}
use Rattle.civl_layers.specs.declared.cut.CutKind.TheVariants as kind
use Rattle.civl_layers.specs.Cuts.{form_cut, cut_kind}
use Rattle.civl_conditions.specs.paths.Ends.{is_yield_cut}
use Rattle.civl_conditions.proofs.paths.Belonging.{Belongs}
use Rattle.civl_reduction.specs.blocks.Blocks.{layer_at_yield, at_yield}
use Rattle.civl_reduction.specs.blocks.Cuts.{settled_layer, settled}
use Rattle.civl_reduction.specs.blocks.Shadow.{glided_layer, glided, course_of}
use Rattle.civl_reduction.proofs.staged.Pausing.Holding.{Skips, stays, passes}
use Rattle.civl_reduction.proofs.staged.Opened.Noting.{bare}
use Rattle.civl_reduction.specs.staged.Stops.{layer_stops, StopsAt}

-- first the notes at the head, and then what is behind
pub glided_led : (c : Course) (k : Rest) (p : Progress) → glided c k p ≡ glided c (settled k) (led c k p)
glided_led c [] p = refl
glided_led c (q ∷ k) p = by_layer (out-Stmt q.1) refl (glided_led c k)
  where
    by_layer : (d : stmt.Stmt-F Stmt) → out-Stmt q.1 ≡ d → ((x : Progress) → glided c k x ≡ glided c (settled k) (led c k x))
        → glided_layer c d p (glided c k) ≡ glided c (settled_layer d (q ∷ k) (settled k)) (option_map_or (led c k) (layer_led c d p) p)
    by_layer stmt.Commit e ih = ih (committed p)
    by_layer (stmt.Intro x v) e ih = ih (introduced c x v p)
    by_layer (stmt.Yield i) e ih = sym (ap (λ (d : stmt.Stmt-F Stmt). glided_layer c d p (glided c k)) e)
    by_layer (stmt.Assign x v) e ih = sym (ap (λ (d : stmt.Stmt-F Stmt). glided_layer c d p (glided c k)) e)
    by_layer (stmt.Assert v) e ih = sym (ap (λ (d : stmt.Stmt-F Stmt). glided_layer c d p (glided c k)) e)
    by_layer (stmt.If v a b) e ih = sym (ap (λ (d : stmt.Stmt-F Stmt). glided_layer c d p (glided c k)) e)
    by_layer (stmt.While v a) e ih = sym (ap (λ (d : stmt.Stmt-F Stmt). glided_layer c d p (glided c k)) e)
    by_layer (stmt.YieldLoop v i a) e ih = sym (ap (λ (d : stmt.Stmt-F Stmt). glided_layer c d p (glided c k)) e)
    by_layer (stmt.RankLoop v w i a) e ih = sym (ap (λ (d : stmt.Stmt-F Stmt). glided_layer c d p (glided c k)) e)
    by_layer (stmt.Call f es rs) e ih = sym (ap (λ (d : stmt.Stmt-F Stmt). glided_layer c d p (glided c k)) e)
    by_layer (stmt.Spawn f es) e ih = sym (ap (λ (d : stmt.Stmt-F Stmt). glided_layer c d p (glided c k)) e)

-- where no yield comes then, the notes are all
pub glided_stops : (c : Course) (k : Rest) (p : Progress) → at_yield k ≡ false → glided c k p ≡ led c k p
glided_stops c [] p h = refl
glided_stops c (q ∷ k) p h = by_layer (out-Stmt q.1) h (glided_stops c k)
  where
    by_layer : (d : stmt.Stmt-F Stmt) → layer_at_yield d (at_yield k) ≡ false → ((x : Progress) → at_yield k ≡ false → glided c k x ≡ led c k x) → glided_layer c d p (glided c k) ≡ option_map_or (led c k) (layer_led c d p) p
    by_layer stmt.Commit g ih = ih (committed p) g
    by_layer (stmt.Intro x v) g ih = ih (introduced c x v p) g
    by_layer (stmt.Yield i) g ih = absurd (false≢true (sym g))
    by_layer (stmt.YieldLoop v i a) g ih = refl
    by_layer (stmt.Assign x v) g ih = refl
    by_layer (stmt.Assert v) g ih = refl
    by_layer (stmt.If v a b) g ih = refl
    by_layer (stmt.While v a) g ih = refl
    by_layer (stmt.RankLoop v w i a) g ih = refl
    by_layer (stmt.Call f es rs) g ih = refl
    by_layer (stmt.Spawn f es) g ih = refl

-- alike states come to alike ones
pub glided_alike : (program : Program) (layer : ℕ) (proc : Proc) (k : Rest) (p q : Progress) → bare p ≡ bare q → bare (glided (course_of program layer proc) k p) ≡ bare (glided (course_of program layer proc) k q)
glided_alike program layer proc [] p q e = e
glided_alike program layer proc (z ∷ k) p q e = by_layer (out-Stmt z.1) (glided_alike program layer proc k)
  where
    by_layer : (x : stmt.Stmt-F Stmt) → ((a b : Progress) → bare a ≡ bare b → bare (glided (course_of program layer proc) k a) ≡ bare (glided (course_of program layer proc) k b))
        → bare (glided_layer (course_of program layer proc) x p (glided (course_of program layer proc) k)) ≡ bare (glided_layer (course_of program layer proc) x q (glided (course_of program layer proc) k))
    by_layer stmt.Commit ih = ih (committed p) (committed q) (ap (λ (a : Progress). record { store = a.store; locals = a.locals; done = true; again = false }) e)
    by_layer (stmt.Intro x v) ih =
        ih (introduced (course_of program layer proc) x v p) (introduced (course_of program layer proc) x v q)
        (ap (λ (a : Progress). record { store = set_global program.globals a.store x (value_of (plain_note_values program.globals proc a.store a.locals) v); locals = a.locals; done = a.done; again = false }) e)
    by_layer (stmt.Yield i) ih = ih p q e
    by_layer (stmt.YieldLoop v i a) ih = e
    by_layer (stmt.Assign x v) ih = e
    by_layer (stmt.Assert v) ih = e
    by_layer (stmt.If v a b) ih = e
    by_layer (stmt.While v a) ih = e
    by_layer (stmt.RankLoop v w i a) ih = e
    by_layer (stmt.Call f es rs) ih = e
    by_layer (stmt.Spawn f es) ih = e

-- ---- where it stops

-- what stops behind the notes at the head stops from there too
pub stops_led : (c : Course) (k : Rest) (p : Progress) (x : Store) → StopsAt c (settled k) (led c k p) x → StopsAt c k p x
stops_led c [] p x h = h
stops_led c (q ∷ k) p x h = by_layer (out-Stmt q.1) refl (λ y. stops_led c k y x) h
  where
    by_layer : (d : stmt.Stmt-F Stmt) → out-Stmt q.1 ≡ d → ((y : Progress) → StopsAt c (settled k) (led c k y) x → StopsAt c k y x)
        → StopsAt c (settled_layer d (q ∷ k) (settled k)) (option_map_or (led c k) (layer_led c d p) p) x → layer_stops c d p x (λ later. StopsAt c k later x)
    by_layer stmt.Commit e ih z = ih (committed p) z
    by_layer (stmt.Intro y v) e ih z = ih (introduced c y v p) z
    by_layer (stmt.Yield i) e ih z = subst (λ (d : stmt.Stmt-F Stmt). layer_stops c d p x (λ later. StopsAt c k later x)) e z
    by_layer (stmt.YieldLoop v i a) e ih z = subst (λ (d : stmt.Stmt-F Stmt). layer_stops c d p x (λ later. StopsAt c k later x)) e z
    by_layer (stmt.Assign y v) e ih z = subst (λ (d : stmt.Stmt-F Stmt). layer_stops c d p x (λ later. StopsAt c k later x)) e z
    by_layer (stmt.Assert v) e ih z = subst (λ (d : stmt.Stmt-F Stmt). layer_stops c d p x (λ later. StopsAt c k later x)) e z
    by_layer (stmt.If v a b) e ih z = subst (λ (d : stmt.Stmt-F Stmt). layer_stops c d p x (λ later. StopsAt c k later x)) e z
    by_layer (stmt.While v a) e ih z = subst (λ (d : stmt.Stmt-F Stmt). layer_stops c d p x (λ later. StopsAt c k later x)) e z
    by_layer (stmt.RankLoop v w i a) e ih z = subst (λ (d : stmt.Stmt-F Stmt). layer_stops c d p x (λ later. StopsAt c k later x)) e z
    by_layer (stmt.Call f es rs) e ih z = subst (λ (d : stmt.Stmt-F Stmt). layer_stops c d p x (λ later. StopsAt c k later x)) e z
    by_layer (stmt.Spawn f es) e ih z = subst (λ (d : stmt.Stmt-F Stmt). layer_stops c d p x (λ later. StopsAt c k later x)) e z

-- alike states stop at the same stores
pub stops_alike : (program : Program) (layer : ℕ) (proc : Proc) (k : Rest) (p q : Progress) (x : Store) → bare p ≡ bare q → StopsAt (course_of program layer proc) k p x → StopsAt (course_of program layer proc) k q x
stops_alike program layer proc [] p q x e h = h
stops_alike program layer proc (z ∷ k) p q x e h = by_layer (out-Stmt z.1) (λ a b. stops_alike program layer proc k a b x) h
  where
    same : p.store ≡ q.store
    same = ap (λ (a : Progress). a.store) e

    by_layer : (d : stmt.Stmt-F Stmt) → ((a b : Progress) → bare a ≡ bare b → StopsAt (course_of program layer proc) k a x → StopsAt (course_of program layer proc) k b x)
        → layer_stops (course_of program layer proc) d p x (λ later. StopsAt (course_of program layer proc) k later x) → layer_stops (course_of program layer proc) d q x (λ later. StopsAt (course_of program layer proc) k later x)
    by_layer stmt.Commit ih g = ih (committed p) (committed q) (ap (λ (a : Progress). record { store = a.store; locals = a.locals; done = true; again = false }) e) g
    by_layer (stmt.Intro y v) ih g =
        ih (introduced (course_of program layer proc) y v p) (introduced (course_of program layer proc) y v q)
        (ap (λ (a : Progress). record { store = set_global program.globals a.store y (value_of (plain_note_values program.globals proc a.store a.locals) v); locals = a.locals; done = a.done; again = false }) e) g
    by_layer (stmt.Yield i) ih (inl g) = inl (sym same ∙ g)
    by_layer (stmt.Yield i) ih (inr g) = inr (ih p q e g)
    by_layer (stmt.YieldLoop v i a) ih g = sym same ∙ g
    by_layer (stmt.Assign y v) ih g = g
    by_layer (stmt.Assert v) ih g = g
    by_layer (stmt.If v a b) ih g = g
    by_layer (stmt.While v a) ih g = g
    by_layer (stmt.RankLoop v w i a) ih g = g
    by_layer (stmt.Call f es rs) ih g = g
    by_layer (stmt.Spawn f es) ih g = g

-- a yield stops at once
pub stops_here : (c : Course) (n : ℕ) (st : Stmt) (k : Rest) (p : Progress) (x : CutKind) → cut_kind st ≡ Some x → is_yield_cut x ≡ true → StopsAt c ((n, st) ∷ k) p p.store
stops_here c n st k p x cut yields = by_layer (out-Stmt st) cut
  where
    by_layer : (d : stmt.Stmt-F Stmt) → form_cut d ≡ Some x → layer_stops c d p p.store (λ later. StopsAt c k later p.store)
    by_layer (stmt.Yield i) e = inl refl
    by_layer (stmt.YieldLoop v i a) e = refl
    by_layer (stmt.RankLoop v w i a) e = absurd (false≢true (ap is_yield_cut (same_Some kind.RankLoop x e) ∙ yields))
    by_layer stmt.Commit e = absurd (none-some x e)
    by_layer (stmt.Intro y v) e = absurd (none-some x e)
    by_layer (stmt.Assign y v) e = absurd (none-some x e)
    by_layer (stmt.Assert v) e = absurd (none-some x e)
    by_layer (stmt.If v a b) e = absurd (none-some x e)
    by_layer (stmt.While v a) e = absurd (none-some x e)
    by_layer (stmt.Call f es rs) e = absurd (none-some x e)
    by_layer (stmt.Spawn f es) e = absurd (none-some x e)

-- ---- places

pub settled_belongs : (body : List Stmt) (k : Rest) → Belongs body k → Belongs body (settled k)
settled_belongs body [] h = h
settled_belongs body (q ∷ k) h = by_layer (out-Stmt q.1) (settled_belongs body k h.1)
  where
    by_layer : (d : stmt.Stmt-F Stmt) → Belongs body (settled k) → Belongs body (settled_layer d (q ∷ k) (settled k))
    by_layer stmt.Commit ih = ih
    by_layer (stmt.Intro x v) ih = ih
    by_layer _ ih = h

-- what is passed leaves what comes next
pub skips_head : (end : ℕ) (r k : Rest) → Skips r k → head_of end r ≡ head_of end k
skips_head end r _ stays = refl
skips_head end _ k (passes {q = q} {r = j} e s) =
    ap (λ (b : Bool). if◌then◌else◌ {A = Option Spot} b (head_of end j) (Some (record { number = q.0; stmt = q.1; next = place_in end j }))) e ∙ skips_head end j k s

pub skips_then : (r k j : Rest) → Skips r k → Skips k j → Skips r j
skips_then r _ j stays t = t
skips_then _ k j (passes e s) t = passes e (skips_then _ k j s t)

-- past the notes at the head the rest is no longer
pub settled_length : (k : Rest) → length (settled k) ≤ length k
settled_length [] = omega arith
settled_length (q ∷ k) = by_layer (out-Stmt q.1) (settled_length k)
  where
    by_layer : (d : stmt.Stmt-F Stmt) → length (settled k) ≤ length k → length (settled_layer d (q ∷ k) (settled k)) ≤ length (q ∷ k)
    by_layer stmt.Commit ih = omega (arith, ih)
    by_layer (stmt.Intro x v) ih = omega (arith, ih)
    by_layer _ ih = omega arith
