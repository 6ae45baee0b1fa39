-- Declarations of every form, with their tokens, and the program that they make.
use Rattle.std.specs.Prelude.{◌≡◌, true, false, None, Some, List, [], ◌∷◌, map}
use Rattle.civl_tree.specs.declared.expr.Sort.TheVariants as sort
use Rattle.civl_tree.specs.declared.expr.Two.TheVariants.{Add, Lt, Eq, Or}
use Rattle.civl_tree.specs.declared.expr.Expr as expr
use Rattle.civl_tree.specs.declared.stmt.Stmt as stmt
use Rattle.civl_tree.specs.declared.action.Mode.TheVariants.{Val, Lend, Take, Give}
use Rattle.civl_tree.specs.declared.action.Mover.TheVariants.{Atomic, Right, Left, Both}
use Rattle.civl_tree.specs.declared.action.Action.{Action}
use Rattle.civl_tree.specs.declared.program.Proc.{Proc}
use Rattle.civl_tree.specs.declared.program.Program.{Program}
use Rattle.civl_tree.specs.Token.{Token, Number}
use Rattle.civl_tree.specs.SpellingProgram.{mode_token, mover_token}
use Rattle.civl_tree.specs.SpellingDomain.{IsSpelledBy}
use Rattle.civl_tree.specs.examples.SpellingWords.{named, name, word, sign}
use Rattle.civl_tree.specs.examples.SpellingExprs.{name_of}
use Rattle.civl_tree.specs.examples.SpellingStmts.{acquiring}

abbrev pub ModesAreSpelled : Type 0
ModesAreSpelled = map mode_token (Val ∷ Lend ∷ Take ∷ Give ∷ []) ≡ word "val" ∷ word "lend" ∷ word "take" ∷ word "give" ∷ []

abbrev pub MoversAreSpelled : Type 0
MoversAreSpelled = map mover_token (Atomic ∷ Right ∷ Left ∷ Both ∷ []) ≡ word "atomic" ∷ word "right" ∷ word "left" ∷ word "both" ∷ []

-- an action with every mode, choices and two updates
abbrev pub choosing : Action
choosing = record {
  name = named "Choose";
  params =
      record { mode = Val; name = named "a"; sort = sort.Bool }
      ∷ record { mode = Lend; name = named "b"; sort = sort.Word 2 }
      ∷ record { mode = Take; name = named "c"; sort = sort.Word 2 }
      ∷ [];
  outs =
      record { mode = Val; name = named "d"; sort = sort.Row 6 32 }
      ∷ record { mode = Give; name = named "e"; sort = sort.Word 2 }
      ∷ [];
  choices =
      record { name = named "i"; sort = sort.Word 8; offer = expr.Literal 0 8 }
      ∷ record { name = named "j"; sort = sort.Bool; offer = name_of "a" }
      ∷ [];
  first = 0;
  last = 3;
  mover = Right;
  gate = expr.Two Or (name_of "a") (name_of "j");
  guard = expr.Two Lt (name_of "i") (expr.Literal 1 8);
  updates =
      record { target = named "x"; expr = name_of "i" }
      ∷ record { target = named "d"; expr = expr.Pick (name_of "c") (name_of "d") (name_of "x") }
      ∷ [];
}

-- an action with nothing in it
abbrev pub skipping : Action
skipping = record {
  name = named "Skip";
  params = [];
  outs = [];
  choices = [];
  first = 1;
  last = 1;
  mover = Both;
  gate = expr.True;
  guard = expr.True;
  updates = [];
}

-- a refining procedure with a local
abbrev pub acquire : Proc
acquire = record {
  name = named "Acquire";
  params = record { mode = Lend; name = named "t"; sort = sort.Word 2 } ∷ [];
  outs = [];
  refines = Some (record { action = named "AtomAcquire"; with = []; layer = 1 });
  locals = record { linear = false; name = named "ok"; sort = sort.Bool } ∷ [];
  body = acquiring ∷ [];
}

-- a refining procedure with values for choices, and with a linear local
abbrev pub moving : Proc
moving = record {
  name = named "Move";
  params =
      record { mode = Take; name = named "t"; sort = sort.Word 2 }
      ∷ record { mode = Val; name = named "v"; sort = sort.Row 3 8 }
      ∷ [];
  outs =
      record { mode = Val; name = named "ok"; sort = sort.Bool }
      ∷ record { mode = Give; name = named "u"; sort = sort.Word 2 }
      ∷ [];
  refines = Some (record { action = named "Choose"; with = name_of "x" ∷ expr.Two Add (name_of "y") (expr.Literal 1 8) ∷ []; layer = 4294967295 });
  locals =
      record { linear = true; name = named "s"; sort = sort.Word 2 }
      ∷ record { linear = false; name = named "w"; sort = sort.Word 8 }
      ∷ [];
  body = stmt.Yield expr.True ∷ stmt.Commit ∷ [];
}

-- a root with nothing in it
abbrev pub root : Proc
root = record { name = named "Main"; params = []; outs = []; refines = None; locals = []; body = [] }

abbrev pub everything : Program
everything = record {
  version = 2;
  layers = 2;
  permissions = 4294967295;
  globals =
      record { linear = true; name = named "pool"; sort = sort.Word 4; first = 0; last = 1 }
      ∷ record { linear = false; name = named "r"; sort = sort.Row 6 32; first = 1; last = 2 }
      ∷ [];
  init = expr.Two Eq (name_of "x") (expr.Literal 0 8);
  invariants =
      record { step = 1; expr = expr.Two Eq (name_of "b") (name_of "c") }
      ∷ record { step = 2; expr = expr.True }
      ∷ [];
  actions = choosing ∷ skipping ∷ [];
  procs = acquire ∷ moving ∷ root ∷ [];
  threads =
      record { callee = named "Main"; args = [] }
      ∷ record { callee = named "Move"; args = expr.Literal 1 2 ∷ name_of "x" ∷ [] }
      ∷ [];
}

abbrev pub everything_tokens : List Token
everything_tokens =
    word "civl" ∷ Number 2 ∷ sign ";" ∷ word "layers" ∷ Number 2 ∷ sign ";" ∷ word "permissions" ∷ Number 4294967295 ∷ sign ";"
    ∷ word "global" ∷ word "linear" ∷ name "pool" ∷ sign ":" ∷ word "word" ∷ sign "(" ∷ Number 4 ∷ sign ")" ∷ word "layers" ∷ Number 0 ∷ word "to" ∷ Number 1 ∷ sign ";"
    ∷ word "global" ∷ name "r" ∷ sign ":" ∷ word "row" ∷ sign "(" ∷ Number 6 ∷ sign "," ∷ Number 32 ∷ sign ")" ∷ word "layers" ∷ Number 1 ∷ word "to" ∷ Number 2 ∷ sign ";"
    ∷ word "init" ∷ sign "(" ∷ name "x" ∷ sign "==" ∷ Number 0 ∷ sign ":" ∷ Number 8 ∷ sign ")" ∷ sign ";"
    ∷ word "invariant" ∷ Number 1 ∷ sign "(" ∷ name "b" ∷ sign "==" ∷ name "c" ∷ sign ")" ∷ sign ";"
    ∷ word "invariant" ∷ Number 2 ∷ word "true" ∷ sign ";"
    ∷ word "action" ∷ name "Choose" ∷ sign "(" ∷ word "val" ∷ name "a" ∷ sign ":" ∷ word "bool" ∷ sign "," ∷ word "lend" ∷ name "b" ∷ sign ":" ∷ word "word" ∷ sign "(" ∷ Number 2 ∷ sign ")" ∷ sign "," ∷ word "take" ∷ name "c" ∷ sign ":" ∷ word "word" ∷ sign "(" ∷ Number 2 ∷ sign ")" ∷ sign ")" ∷ sign "->" ∷ sign "(" ∷ word "val" ∷ name "d" ∷ sign ":" ∷ word "row" ∷ sign "(" ∷ Number 6 ∷ sign "," ∷ Number 32 ∷ sign ")" ∷ sign "," ∷ word "give" ∷ name "e" ∷ sign ":" ∷ word "word" ∷ sign "(" ∷ Number 2 ∷ sign ")" ∷ sign ")" ∷ word "choose" ∷ sign "(" ∷ name "i" ∷ sign ":" ∷ word "word" ∷ sign "(" ∷ Number 8 ∷ sign ")" ∷ sign "=" ∷ Number 0 ∷ sign ":" ∷ Number 8 ∷ sign "," ∷ name "j" ∷ sign ":" ∷ word "bool" ∷ sign "=" ∷ name "a" ∷ sign ")" ∷ word "layers" ∷ Number 0 ∷ word "to" ∷ Number 3 ∷ word "right" ∷ word "gate" ∷ sign "(" ∷ name "a" ∷ sign "||" ∷ name "j" ∷ sign ")" ∷ word "guard" ∷ sign "(" ∷ name "i" ∷ sign "<" ∷ Number 1 ∷ sign ":" ∷ Number 8 ∷ sign ")" ∷ sign "{" ∷ name "x" ∷ sign ":=" ∷ name "i" ∷ sign ";" ∷ name "d" ∷ sign ":=" ∷ sign "(" ∷ name "c" ∷ sign "?" ∷ name "d" ∷ sign ":" ∷ name "x" ∷ sign ")" ∷ sign ";" ∷ sign "}"
    ∷ word "action" ∷ name "Skip" ∷ sign "(" ∷ sign ")" ∷ sign "->" ∷ sign "(" ∷ sign ")" ∷ word "choose" ∷ sign "(" ∷ sign ")" ∷ word "layers" ∷ Number 1 ∷ word "to" ∷ Number 1 ∷ word "both" ∷ word "gate" ∷ word "true" ∷ word "guard" ∷ word "true" ∷ sign "{" ∷ sign "}"
    ∷ word "proc" ∷ name "Acquire" ∷ sign "(" ∷ word "lend" ∷ name "t" ∷ sign ":" ∷ word "word" ∷ sign "(" ∷ Number 2 ∷ sign ")" ∷ sign ")" ∷ sign "->" ∷ sign "(" ∷ sign ")" ∷ word "refines" ∷ name "AtomAcquire" ∷ word "with" ∷ sign "(" ∷ sign ")" ∷ word "layer" ∷ Number 1 ∷ sign "{" ∷ word "var" ∷ name "ok" ∷ sign ":" ∷ word "bool" ∷ sign ";" ∷ word "while" ∷ word "yield" ∷ sign "(" ∷ sign "!" ∷ name "ok" ∷ sign ")" ∷ word "inv" ∷ sign "(" ∷ name "ok" ∷ sign "==" ∷ word "done" ∷ sign ")" ∷ sign "{" ∷ word "call" ∷ name "Cas" ∷ sign "(" ∷ sign ")" ∷ sign "->" ∷ sign "(" ∷ name "ok" ∷ sign ")" ∷ sign ";" ∷ word "if" ∷ name "ok" ∷ sign "{" ∷ word "commit" ∷ sign ";" ∷ word "intro" ∷ name "lock" ∷ sign ":=" ∷ name "t" ∷ sign ";" ∷ sign "}" ∷ word "else" ∷ sign "{" ∷ sign "}" ∷ sign "}" ∷ sign "}"
    ∷ word "proc" ∷ name "Move" ∷ sign "(" ∷ word "take" ∷ name "t" ∷ sign ":" ∷ word "word" ∷ sign "(" ∷ Number 2 ∷ sign ")" ∷ sign "," ∷ word "val" ∷ name "v" ∷ sign ":" ∷ word "row" ∷ sign "(" ∷ Number 3 ∷ sign "," ∷ Number 8 ∷ sign ")" ∷ sign ")" ∷ sign "->" ∷ sign "(" ∷ word "val" ∷ name "ok" ∷ sign ":" ∷ word "bool" ∷ sign "," ∷ word "give" ∷ name "u" ∷ sign ":" ∷ word "word" ∷ sign "(" ∷ Number 2 ∷ sign ")" ∷ sign ")" ∷ word "refines" ∷ name "Choose" ∷ word "with" ∷ sign "(" ∷ name "x" ∷ sign "," ∷ sign "(" ∷ name "y" ∷ sign "+" ∷ Number 1 ∷ sign ":" ∷ Number 8 ∷ sign ")" ∷ sign ")" ∷ word "layer" ∷ Number 4294967295 ∷ sign "{" ∷ word "linear" ∷ name "s" ∷ sign ":" ∷ word "word" ∷ sign "(" ∷ Number 2 ∷ sign ")" ∷ sign ";" ∷ word "var" ∷ name "w" ∷ sign ":" ∷ word "word" ∷ sign "(" ∷ Number 8 ∷ sign ")" ∷ sign ";" ∷ word "yield" ∷ word "true" ∷ sign ";" ∷ word "commit" ∷ sign ";" ∷ sign "}"
    ∷ word "proc" ∷ name "Main" ∷ sign "(" ∷ sign ")" ∷ sign "->" ∷ sign "(" ∷ sign ")" ∷ word "root" ∷ sign "{" ∷ sign "}"
    ∷ word "thread" ∷ name "Main" ∷ sign "(" ∷ sign ")" ∷ sign ";"
    ∷ word "thread" ∷ name "Move" ∷ sign "(" ∷ Number 1 ∷ sign ":" ∷ Number 2 ∷ sign "," ∷ name "x" ∷ sign ")" ∷ sign ";" ∷ []

abbrev pub EverythingIsSpelled : Type 0
EverythingIsSpelled = IsSpelledBy everything_tokens everything
