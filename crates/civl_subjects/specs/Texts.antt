-- The text of a subject. Names, sorts and expressions stand as the language writes them.
use Rattle.std.specs.Prelude.{ℕ, nat_eq, if◌then◌else◌, List, [], ◌++◌, codes, decimal}
use Rattle.civl_tree.specs.Token.{text_of}
use Rattle.civl_tree.specs.Spelling.{one_token, op_token}
use Rattle.civl_tree.specs.declared.expr.Sort.{Sort}
use Rattle.civl_tree.specs.declared.expr.Sort.TheVariants as sort
use Rattle.civl_tree.specs.declared.expr.Expr.{Expr}
use Rattle.civl_tree.specs.declared.expr.Expr.TheFolds.{fold-Expr}
use Rattle.civl_tree.specs.declared.expr.Expr.TheOpen as expr
use Rattle.civl_tree.specs.declared.action.Mode.{Mode}
use Rattle.civl_tree.specs.declared.action.Mode.TheVariants.{Val, Lend, Take, Give}
use Rattle.civl_tree.specs.declared.action.Param.{Param}
use Rattle.civl_tree.specs.rules.Uses.{Need, AnySort, AnyWord, Only}
use Rattle.civl_subjects.specs.Subjects.{Subject, OfName, OfSort, OfNeed, OfExpr, OfUnsorted, OfMissorted, OfHeader, OfLimit, OfCount, OfRange, OfStep, OfParam, OfStatement, OfLayered, OfRoot}
use Rattle.civl_subjects.specs.declared.subject.HeaderNumber.{HeaderNumber}
use Rattle.civl_subjects.specs.declared.subject.HeaderNumber.TheVariants as header
use Rattle.civl_subjects.specs.declared.subject.Limited.{Limited}
use Rattle.civl_subjects.specs.declared.subject.Limited.TheVariants as limited
use Rattle.civl_subjects.specs.declared.subject.Counted.{Counted}
use Rattle.civl_subjects.specs.declared.subject.Counted.TheVariants.{Arguments, Results, Parameters, Outputs}
use Rattle.civl_subjects.specs.declared.subject.StatementKind.{StatementKind}
use Rattle.civl_subjects.specs.declared.subject.StatementKind.TheVariants as kind

-- ---- sorts and expressions

-- `bool`, `word(8)`, `row(2, 8)`
abbrev pub sort_text : Sort → List ℕ
sort_text sort.Bool = codes "bool"
sort_text (sort.Word width) = codes "word(" ++ (decimal width ++ codes ")")
sort_text (sort.Row index width) = codes "row(" ++ (decimal index ++ (codes ", " ++ (decimal width ++ codes ")")))

-- an expression, where each part stands as its text
abbrev pub text_step : expr.Expr-F (List ℕ) → List ℕ
text_step (expr.Name name) = name.bytes
text_step (expr.Literal value width) = decimal value ++ (codes ":" ++ decimal width)
text_step expr.True = codes "true"
text_step expr.False = codes "false"
text_step expr.Done = codes "done"
text_step (expr.Old name) = codes "old(" ++ (name.bytes ++ codes ")")
text_step expr.OldDone = codes "old(done)"
text_step (expr.One op part) = codes "(" ++ (text_of (one_token op) ++ (part ++ codes ")"))
text_step (expr.Two op first second) =
    codes "(" ++ (first ++ (codes " " ++ (text_of (op_token op) ++ (codes " " ++ (second ++ codes ")")))))
text_step (expr.Pick test first second) = codes "(" ++ (test ++ (codes " ? " ++ (first ++ (codes " : " ++ (second ++ codes ")")))))
text_step (expr.Get row at) = codes "get(" ++ (row ++ (codes ", " ++ (at ++ codes ")")))
text_step (expr.Set row at cell) = codes "set(" ++ (row ++ (codes ", " ++ (at ++ (codes ", " ++ (cell ++ codes ")")))))
text_step (expr.Fill index cell) = codes "fill(" ++ (decimal index ++ (codes ", " ++ (cell ++ codes ")")))
text_step (expr.Slice word high low) =
    codes "slice(" ++ (word ++ (codes ", " ++ (decimal high ++ (codes ", " ++ (decimal low ++ codes ")")))))
text_step (expr.Widen word wider) = codes "widen(" ++ (word ++ (codes ", " ++ (decimal wider ++ codes ")")))
text_step (expr.Join first second) = codes "join(" ++ (first ++ (codes ", " ++ (second ++ codes ")")))

-- `(x + 1:8)`
abbrev pub expr_text : Expr → List ℕ
expr_text = fold-Expr (List ℕ) text_step

-- ---- what stands in several subjects

-- `word(8) is needed`
abbrev pub need_text : Need → List ℕ
need_text AnySort = codes "any sort is needed"
need_text AnyWord = codes "a word is needed"
need_text (Only sort) = sort_text sort ++ codes " is needed"

-- `1 layer`, `2 layers`
abbrev pub number_text : ℕ → List ℕ → List ℕ
number_text number word = decimal number ++ (word ++ (if nat_eq number 1 then [] else codes "s"))

abbrev pub mode_text : Mode → List ℕ
mode_text Val = codes "val "
mode_text Lend = codes "lend "
mode_text Take = codes "take "
mode_text Give = codes "give "

-- `val v : bool`
abbrev pub param_text : Param → List ℕ
param_text param = mode_text param.mode ++ (param.name.bytes ++ (codes " : " ++ sort_text param.sort))

-- `layers 9, not 1 to 8`
abbrev pub header_text : HeaderNumber → ℕ → List ℕ
header_text header.Version number = codes "version " ++ (decimal number ++ codes ", not 1 or 2")
header_text header.Layers number = codes "layers " ++ (decimal number ++ codes ", not 1 to 8")
header_text header.Permissions number = codes "permissions " ++ (decimal number ++ codes ", not 1 to 5")

abbrev pub limit_text : Limited → List ℕ
limit_text limited.Globals = codes "more than 64 globals"
limit_text limited.Invariants = codes "more than 64 invariants"
limit_text limited.Actions = codes "more than 128 actions"
limit_text limited.Procs = codes "more than 64 procedures"
limit_text limited.Threads = codes "more than 64 threads"
limit_text limited.Names = codes "more than 32 names"
limit_text limited.Cuts = codes "more than 256 cut points"

abbrev pub counted_text : Counted → List ℕ
counted_text Arguments = codes " argument"
counted_text Results = codes " result"
counted_text Parameters = codes " parameter"
counted_text Outputs = codes " output"

-- `a loop`, `a yield`
abbrev pub kind_text : StatementKind → List ℕ
kind_text kind.Loop = codes "a loop"
kind_text kind.YieldLoop = codes "a yield loop"
kind_text kind.RankLoop = codes "a rank loop"
kind_text kind.Yield = codes "a yield"
kind_text kind.Commit = codes "a commit"
kind_text kind.Intro = codes "an intro"
kind_text kind.Spawn = codes "a spawn"

-- ---- subjects

abbrev pub subject_text : Subject → List ℕ
subject_text (OfName name) = name.bytes
subject_text (OfSort name sort) = name.bytes ++ (codes " : " ++ sort_text sort)
subject_text (OfNeed name sort needs) = name.bytes ++ (codes " is " ++ (sort_text sort ++ (codes ", " ++ need_text (Only needs))))
subject_text (OfExpr expr) = expr_text expr
subject_text (OfUnsorted expr) = expr_text expr ++ codes " has no sort"
subject_text (OfMissorted expr sort needs) = expr_text expr ++ (codes " is " ++ (sort_text sort ++ (codes ", " ++ need_text needs)))
subject_text (OfHeader header number) = header_text header number
subject_text (OfLimit limit) = limit_text limit
subject_text (OfCount counted found needed) = number_text found (counted_text counted) ++ (codes ", not " ++ decimal needed)
subject_text (OfRange first last layers) =
    decimal first ++ (codes " to " ++ (decimal last ++ (codes ", with " ++ number_text layers (codes " layer"))))
subject_text (OfStep step layers) = decimal step ++ (codes ", with " ++ number_text layers (codes " layer"))
subject_text (OfParam param other) = param_text param ++ (codes ", not " ++ param_text other)
subject_text (OfStatement kind) = kind_text kind
subject_text (OfLayered kind) = kind_text kind ++ codes " in a procedure that refines an action"
subject_text (OfRoot kind) = kind_text kind ++ codes " in a root"
