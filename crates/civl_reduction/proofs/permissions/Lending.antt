-- The parameters of a frame have the values of the arguments of the call in which the frame below it waits.
use Rattle.std.proofs.Common.{◌≡◌, List, [], ◌∷◌, ◌++◌, take, length, refl, sym, ap, ◌∙◌, subst, Some, slice_get}
use Rattle.civl_tree.specs.declared.name.Name.{Name}
use Rattle.civl_tree.specs.declared.expr.Expr.{Expr}
use Rattle.civl_tree.specs.declared.stmt.Stmt.{Stmt, out-Stmt}
use Rattle.civl_tree.specs.declared.stmt.Stmt.TheOpen.{Call}
use Rattle.civl_tree.specs.declared.program.Proc.{Proc}
use Rattle.civl_tree.specs.declared.program.Program.{Program}
use Rattle.civl_tree.specs.Numbering.{statement_at}
use Rattle.civl_firing.specs.Eval.{values_of}
use Rattle.civl_firing.specs.Scope.{frame_values}
use Rattle.civl_meaning.specs.declared.config.Activation.{Activation}
use Rattle.civl_meaning.specs.declared.config.State.{State}
use Rattle.civl_meaning.specs.declared.config.State.TheVariants.{Before, Inside, After}

-- of a frame and the one above it
abbrev pub Lends : Program → Activation → Activation → Type 0
Lends program frame above =
    (caller callee : Proc) (stmt : Stmt) (g : Name) (es : List Expr) (rs : List Name) → slice_get program.procs frame.procedure ≡ Some caller → slice_get program.procs above.procedure ≡ Some callee
    → statement_at caller.body frame.place ≡ Some stmt → out-Stmt stmt ≡ Call g es rs → take (length callee.params) above.locals ≡ values_of (frame_values program.globals caller frame.locals) es

-- the first of these frames, of which `top` is the last
abbrev pub next_frame : List Activation → Activation → Activation
next_frame [] top = top
next_frame (frame ∷ frames) top = frame

abbrev pub AreLent : Program → List Activation → Activation → Type 0
AreLent program [] top = Unit {0}
AreLent program (frame ∷ frames) top = Lends program frame (next_frame frames top) × AreLent program frames top

abbrev pub StateIsLent : Program → State → Type 0
StateIsLent program Before = Unit {0}
StateIsLent program (Inside below top) = AreLent program below top
StateIsLent program After = Unit {0}

-- a frame of the same procedure whose parameters have the same values
abbrev pub SameParams : Program → Activation → Activation → Type 0
SameParams program frame other = (other.procedure ≡ frame.procedure) × ((proc : Proc) → slice_get program.procs frame.procedure ≡ Some proc → take (length proc.params) other.locals ≡ take (length proc.params) frame.locals)

lends_same : (program : Program) (frame above other : Activation) → SameParams program above other → Lends program frame above → Lends program frame other
lends_same program frame above other s h caller callee stmt g es rs a b c d =
    let there : slice_get program.procs above.procedure ≡ Some callee = ap (slice_get program.procs) (sym s.0) ∙ b in
    s.1 callee there ∙ h caller callee stmt g es rs a there c d

pub lent_same : (program : Program) (frames : List Activation) (top other : Activation) → SameParams program top other → AreLent program frames top → AreLent program frames other
lent_same program [] top other s h = tt
lent_same program (f ∷ []) top other s h = (lends_same program f top other s h.0, tt)
lent_same program (f ∷ (g ∷ fs)) top other s h = (h.0, lent_same program (g ∷ fs) top other s h.1)

next_front : (frames : List Activation) (f top : Activation) → next_frame (frames ++ f ∷ []) top ≡ next_frame frames f
next_front [] f top = refl
next_front (g ∷ gs) f top = refl

-- the frames below the last one
pub lent_front : (program : Program) (frames : List Activation) (f top : Activation) → AreLent program (frames ++ f ∷ []) top → AreLent program frames f × Lends program f top
lent_front program [] f top h = (tt, h.0)
lent_front program (g ∷ gs) f top h =
    let rest = lent_front program gs f top h.1 in
    ((subst (Lends program g) (next_front gs f top) h.0, rest.0), rest.1)

-- one more
pub lent_more : (program : Program) (frames : List Activation) (f top : Activation) → AreLent program frames f → Lends program f top → AreLent program (frames ++ f ∷ []) top
lent_more program [] f top h l = (l, tt)
lent_more program (g ∷ gs) f top h l = (subst (Lends program g) (sym (next_front gs f top)) h.0, lent_more program gs f top h.1 l)
