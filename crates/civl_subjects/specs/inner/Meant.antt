-- Serves private functions: what the code hands on in place of a subject, and in place of a part of a program.
use Rattle.std.specs.Prelude.{Bool, Option, None, Some, List, [], ◌∷◌, map}
use Rattle.std.specs.Option.{option_map}
use Rattle.civl_tree.specs.declared.name.Name.{Name}
use Rattle.civl_tree.specs.declared.expr.Sort.{Sort}
use Rattle.civl_tree.specs.rules.Uses.{Need, AnySort, AnyWord, Only, param_sorts}
use Rattle.civl_subjects.specs.Subjects.{Subject, OfName, OfSort, OfNeed, OfExpr, OfUnsorted, OfMissorted, OfHeader, OfLimit, OfCount, OfRange, OfStep, OfParam, OfStatement, OfLayered, OfRoot}
use Rattle.civl_subjects.specs.Parts.{Part, GlobalPart, InitPart, InvariantPart, ActionPart, ProcPart, ThreadPart}
use Rattle.civl_subjects.specs.declared.subject.Needed.{Needed}
use Rattle.civl_subjects.specs.declared.subject.Needed.TheVariants as needed
use Rattle.civl_subjects.specs.declared.subject.Subject.{Subject as Lent}
use Rattle.civl_subjects.specs.declared.subject.Subject.TheVariants as lent
use Rattle.civl_layers.specs.Hidden.{hidden_in_action, hidden_at_step}
use Rattle.civl_subjects.specs.declared.hidden.Span.{Span}
use Rattle.civl_subjects.specs.declared.hidden.Span.TheVariants.{Through, Around}
use Rattle.civl_tree.specs.declared.action.Mode.{Mode}
use Rattle.civl_linear.specs.Modes.{is_passed, is_taken}
use Rattle.civl_yields.specs.Places.{Leave}
use Rattle.civl_subjects.specs.declared.strays.Leave.{Leave as LentLeave}
use Rattle.civl_subjects.specs.declared.linearity.Want.{Want}
use Rattle.civl_subjects.specs.declared.linearity.Want.TheVariants.{Passed, Taken}
use Rattle.civl_subjects.specs.declared.uses.Slots.{Slots}
use Rattle.civl_subjects.specs.declared.uses.Slots.TheVariants.{Params, Choices}
use Rattle.civl_subjects.specs.declared.part.Part.{Part as LentPart}
use Rattle.civl_subjects.specs.declared.part.Part.TheVariants as part

-- what a place needs
abbrev pub need_of : Needed → Need
need_of needed.Any = AnySort
need_of needed.Word = AnyWord
need_of (needed.Only sort) = Only sort

-- the subject that is handed on
abbrev pub meant : Lent → Subject
meant (lent.Name name) = OfName name.now
meant (lent.Sorted name sort) = OfSort name.now sort
meant (lent.Needs name sort other) = OfNeed name.now sort other
meant (lent.Expr expr) = OfExpr expr.now
meant (lent.Unsorted expr) = OfUnsorted expr.now
meant (lent.Missorted expr sort needs) = OfMissorted expr.now sort (need_of needs)
meant (lent.Header number value) = OfHeader number value
meant (lent.TooMany limited) = OfLimit limited
meant (lent.Count counted found needs) = OfCount counted found needs
meant (lent.Range first last layers) = OfRange first last layers
meant (lent.Step step layers) = OfStep step layers
meant (lent.Differs param other) = OfParam param.now other.now
meant (lent.Statement kind) = OfStatement kind
meant (lent.InLayered kind) = OfLayered kind
meant (lent.InRoot kind) = OfRoot kind

abbrev pub all_meant : Option Lent → Option Subject
all_meant told = option_map meant told

-- the part that is handed on
abbrev pub part_meant : LentPart → Part
part_meant (part.Global place global) = GlobalPart place global.now
part_meant part.Init = InitPart
part_meant (part.Invariant place invariant) = InvariantPart place invariant.now
part_meant (part.Action place action) = ActionPart place action.now
part_meant (part.Proc place proc) = ProcPart place proc.now
part_meant (part.Thread place thread) = ThreadPart place thread.now

-- the sorts of the places for arguments
abbrev pub sorts_at : Slots → List Sort
sorts_at (Params params) = param_sorts params.now
sorts_at (Choices choices) = map (λ choice. choice.sort) choices.now

-- the name is that of a global which may not be used there
abbrev pub hidden_by : Span → Name → Bool
hidden_by (Through program action) = hidden_in_action program.now action.now
hidden_by (Around program step) = hidden_at_step program.now step

-- what may stand in an expression
abbrev pub leave_meant : LentLeave → Leave
leave_meant leave = record { done = leave.done; old = leave.old }

-- the modes that are looked at
abbrev pub wants : Want → Mode → Bool
wants Passed = is_passed
wants Taken = is_taken

-- what is there, as a list
abbrev pub option_list : {A : Type 0} → Option A → List A
option_list None = []
option_list (Some value) = value ∷ []
