-- Whole programs, each as a tree and as the tokens of its text: a spinlock and a counter above it, increments without
-- a lock, a loop with a rank, a pool of permissions, and a product.
use Rattle.std.specs.Prelude.{true, false, None, Some, List, [], ◌∷◌}
use Rattle.civl_tree.specs.declared.expr.Sort.TheVariants as sort
use Rattle.civl_tree.specs.declared.expr.One.TheVariants.{Not}
use Rattle.civl_tree.specs.declared.expr.Two.TheVariants.{Add, Sub, Mul, BitOr, Shl, Le, Eq, Ne, And}
use Rattle.civl_tree.specs.declared.expr.Expr as expr
use Rattle.civl_tree.specs.declared.stmt.Stmt as stmt
use Rattle.civl_tree.specs.declared.action.Mode.TheVariants as mode
use Rattle.civl_tree.specs.declared.action.Mover.TheVariants as mover
use Rattle.civl_tree.specs.declared.program.Program.{Program}
use Rattle.civl_tree.specs.Token.{Token, Number}
use Rattle.civl_tree.specs.SpellingDomain.{IsSpelledBy}
use Rattle.civl_tree.specs.examples.SpellingWords.{named, name, word, sign}
use Rattle.civl_tree.specs.examples.SpellingExprs.{name_of}

-- a spinlock and a counter
abbrev pub spinlock : Program
spinlock = record {
  version = 1;
  layers = 2;
  permissions = 2;
  globals =
      record { linear = false; name = named "b"; sort = sort.Bool; first = 0; last = 0 }
      ∷ record { linear = false; name = named "lock"; sort = sort.Word 2; first = 1; last = 1 }
      ∷ record { linear = false; name = named "x"; sort = sort.Word 8; first = 0; last = 2 }
      ∷ [];
  init = expr.Two And (expr.Two And (expr.One Not (name_of "b")) (expr.Two Eq (name_of "lock") (expr.Literal 0 2))) (expr.Two Eq (name_of "x") (expr.Literal 0 8));
  invariants =
      record { step = 1; expr = expr.Two Eq (name_of "b") (expr.Two Ne (name_of "lock") (expr.Literal 0 2)) }
      ∷ [];
  actions =
      record {
        name = named "Cas";
        params = [];
        outs = record { mode = mode.Val; name = named "ok"; sort = sort.Bool } ∷ [];
        choices = [];
        first = 0;
        last = 0;
        mover = mover.Atomic;
        gate = expr.True;
        guard = expr.True;
        updates = record { target = named "b"; expr = expr.True } ∷ record { target = named "ok"; expr = expr.One Not (name_of "b") } ∷ [];
      }
      ∷ record {
        name = named "Reset";
        params = [];
        outs = [];
        choices = [];
        first = 0;
        last = 0;
        mover = mover.Atomic;
        gate = expr.True;
        guard = expr.True;
        updates = record { target = named "b"; expr = expr.False } ∷ [];
      }
      ∷ record {
        name = named "Load";
        params = [];
        outs = record { mode = mode.Val; name = named "v"; sort = sort.Word 8 } ∷ [];
        choices = [];
        first = 0;
        last = 0;
        mover = mover.Atomic;
        gate = expr.True;
        guard = expr.True;
        updates = record { target = named "v"; expr = name_of "x" } ∷ [];
      }
      ∷ record {
        name = named "Store";
        params = record { mode = mode.Val; name = named "v"; sort = sort.Word 8 } ∷ [];
        outs = [];
        choices = [];
        first = 0;
        last = 0;
        mover = mover.Atomic;
        gate = expr.True;
        guard = expr.True;
        updates = record { target = named "x"; expr = name_of "v" } ∷ [];
      }
      ∷ record {
        name = named "AtomAcquire";
        params = record { mode = mode.Lend; name = named "t"; sort = sort.Word 2 } ∷ [];
        outs = [];
        choices = [];
        first = 1;
        last = 1;
        mover = mover.Right;
        gate = expr.Two Ne (name_of "t") (expr.Literal 0 2);
        guard = expr.Two Eq (name_of "lock") (expr.Literal 0 2);
        updates = record { target = named "lock"; expr = name_of "t" } ∷ [];
      }
      ∷ record {
        name = named "AtomRelease";
        params = record { mode = mode.Lend; name = named "t"; sort = sort.Word 2 } ∷ [];
        outs = [];
        choices = [];
        first = 1;
        last = 1;
        mover = mover.Left;
        gate = expr.Two And (expr.Two Ne (name_of "t") (expr.Literal 0 2)) (expr.Two Eq (name_of "lock") (name_of "t"));
        guard = expr.True;
        updates = record { target = named "lock"; expr = expr.Literal 0 2 } ∷ [];
      }
      ∷ record {
        name = named "AtomRead";
        params = record { mode = mode.Lend; name = named "t"; sort = sort.Word 2 } ∷ [];
        outs = record { mode = mode.Val; name = named "v"; sort = sort.Word 8 } ∷ [];
        choices = [];
        first = 1;
        last = 1;
        mover = mover.Both;
        gate = expr.Two And (expr.Two Ne (name_of "t") (expr.Literal 0 2)) (expr.Two Eq (name_of "lock") (name_of "t"));
        guard = expr.True;
        updates = record { target = named "v"; expr = name_of "x" } ∷ [];
      }
      ∷ record {
        name = named "AtomWrite";
        params = record { mode = mode.Lend; name = named "t"; sort = sort.Word 2 } ∷ record { mode = mode.Val; name = named "v"; sort = sort.Word 8 } ∷ [];
        outs = [];
        choices = [];
        first = 1;
        last = 1;
        mover = mover.Both;
        gate = expr.Two And (expr.Two Ne (name_of "t") (expr.Literal 0 2)) (expr.Two Eq (name_of "lock") (name_of "t"));
        guard = expr.True;
        updates = record { target = named "x"; expr = name_of "v" } ∷ [];
      }
      ∷ record {
        name = named "AtomIncr";
        params = record { mode = mode.Lend; name = named "t"; sort = sort.Word 2 } ∷ [];
        outs = [];
        choices = [];
        first = 2;
        last = 2;
        mover = mover.Atomic;
        gate = expr.Two Ne (name_of "t") (expr.Literal 0 2);
        guard = expr.True;
        updates = record { target = named "x"; expr = expr.Two Add (name_of "x") (expr.Literal 1 8) } ∷ [];
      }
      ∷ [];
  procs =
      record {
        name = named "Acquire";
        params = record { mode = mode.Lend; name = named "t"; sort = sort.Word 2 } ∷ [];
        outs = [];
        refines = Some (record { action = named "AtomAcquire"; with = []; layer = 1 });
        locals = record { linear = false; name = named "ok"; sort = sort.Bool } ∷ [];
        body =
            stmt.YieldLoop (expr.One Not (name_of "ok")) (expr.Two Eq (name_of "ok") expr.Done) (stmt.Call (named "Cas") [] (named "ok" ∷ []) ∷ stmt.If (name_of "ok") (stmt.Commit ∷ stmt.Intro (named "lock") (name_of "t") ∷ []) [] ∷ [])
            ∷ [];
      }
      ∷ record {
        name = named "Release";
        params = record { mode = mode.Lend; name = named "t"; sort = sort.Word 2 } ∷ [];
        outs = [];
        refines = Some (record { action = named "AtomRelease"; with = []; layer = 1 });
        locals = [];
        body =
            stmt.Call (named "Reset") [] []
            ∷ stmt.Commit
            ∷ stmt.Intro (named "lock") (expr.Literal 0 2)
            ∷ [];
      }
      ∷ record {
        name = named "Read";
        params = record { mode = mode.Lend; name = named "t"; sort = sort.Word 2 } ∷ [];
        outs = record { mode = mode.Val; name = named "v"; sort = sort.Word 8 } ∷ [];
        refines = Some (record { action = named "AtomRead"; with = []; layer = 1 });
        locals = [];
        body =
            stmt.Call (named "Load") [] (named "v" ∷ [])
            ∷ stmt.Commit
            ∷ [];
      }
      ∷ record {
        name = named "Write";
        params = record { mode = mode.Lend; name = named "t"; sort = sort.Word 2 } ∷ record { mode = mode.Val; name = named "v"; sort = sort.Word 8 } ∷ [];
        outs = [];
        refines = Some (record { action = named "AtomWrite"; with = []; layer = 1 });
        locals = [];
        body =
            stmt.Call (named "Store") (name_of "v" ∷ []) []
            ∷ stmt.Commit
            ∷ [];
      }
      ∷ record {
        name = named "Incr";
        params = record { mode = mode.Lend; name = named "t"; sort = sort.Word 2 } ∷ [];
        outs = [];
        refines = Some (record { action = named "AtomIncr"; with = []; layer = 2 });
        locals = record { linear = false; name = named "v"; sort = sort.Word 8 } ∷ [];
        body =
            stmt.Call (named "Acquire") (name_of "t" ∷ []) []
            ∷ stmt.Call (named "Read") (name_of "t" ∷ []) (named "v" ∷ [])
            ∷ stmt.Call (named "Write") (name_of "t" ∷ expr.Two Add (name_of "v") (expr.Literal 1 8) ∷ []) []
            ∷ stmt.Call (named "Release") (name_of "t" ∷ []) []
            ∷ stmt.Commit
            ∷ [];
      }
      ∷ record {
        name = named "Main";
        params = record { mode = mode.Lend; name = named "t"; sort = sort.Word 2 } ∷ [];
        outs = [];
        refines = None;
        locals = [];
        body =
            stmt.Call (named "Incr") (name_of "t" ∷ []) []
            ∷ [];
      }
      ∷ [];
  threads =
      record { callee = named "Main"; args = expr.Literal 1 2 ∷ [] }
      ∷ record { callee = named "Main"; args = expr.Literal 2 2 ∷ [] }
      ∷ [];
}

abbrev pub spinlock_tokens : List Token
spinlock_tokens =
    word "civl" ∷ Number 1 ∷ sign ";" ∷ word "layers" ∷ Number 2 ∷ sign ";" ∷ word "permissions" ∷ Number 2 ∷ sign ";"
    ∷ word "global" ∷ name "b" ∷ sign ":" ∷ word "bool" ∷ word "layers" ∷ Number 0 ∷ word "to" ∷ Number 0 ∷ sign ";"
    ∷ word "global" ∷ name "lock" ∷ sign ":" ∷ word "word" ∷ sign "(" ∷ Number 2 ∷ sign ")" ∷ word "layers" ∷ Number 1 ∷ word "to" ∷ Number 1 ∷ sign ";"
    ∷ word "global" ∷ name "x" ∷ sign ":" ∷ word "word" ∷ sign "(" ∷ Number 8 ∷ sign ")" ∷ word "layers" ∷ Number 0 ∷ word "to" ∷ Number 2 ∷ sign ";"
    ∷ word "init" ∷ sign "(" ∷ sign "(" ∷ sign "(" ∷ sign "!" ∷ name "b" ∷ sign ")" ∷ sign "&&" ∷ sign "(" ∷ name "lock" ∷ sign "==" ∷ Number 0 ∷ sign ":" ∷ Number 2 ∷ sign ")" ∷ sign ")" ∷ sign "&&" ∷ sign "(" ∷ name "x" ∷ sign "==" ∷ Number 0 ∷ sign ":" ∷ Number 8 ∷ sign ")" ∷ sign ")" ∷ sign ";"
    ∷ word "invariant" ∷ Number 1 ∷ sign "(" ∷ name "b" ∷ sign "==" ∷ sign "(" ∷ name "lock" ∷ sign "!=" ∷ Number 0 ∷ sign ":" ∷ Number 2 ∷ sign ")" ∷ sign ")" ∷ sign ";"
    ∷ word "action" ∷ name "Cas" ∷ sign "(" ∷ sign ")" ∷ sign "->" ∷ sign "(" ∷ word "val" ∷ name "ok" ∷ sign ":" ∷ word "bool" ∷ sign ")" ∷ word "choose" ∷ sign "(" ∷ sign ")" ∷ word "layers" ∷ Number 0 ∷ word "to" ∷ Number 0 ∷ word "atomic"
    ∷ word "gate" ∷ word "true" ∷ word "guard" ∷ word "true" ∷ sign "{" ∷ name "b" ∷ sign ":=" ∷ word "true" ∷ sign ";" ∷ name "ok" ∷ sign ":=" ∷ sign "(" ∷ sign "!" ∷ name "b" ∷ sign ")" ∷ sign ";" ∷ sign "}"
    ∷ word "action" ∷ name "Reset" ∷ sign "(" ∷ sign ")" ∷ sign "->" ∷ sign "(" ∷ sign ")" ∷ word "choose" ∷ sign "(" ∷ sign ")" ∷ word "layers" ∷ Number 0 ∷ word "to" ∷ Number 0 ∷ word "atomic"
    ∷ word "gate" ∷ word "true" ∷ word "guard" ∷ word "true" ∷ sign "{" ∷ name "b" ∷ sign ":=" ∷ word "false" ∷ sign ";" ∷ sign "}"
    ∷ word "action" ∷ name "Load" ∷ sign "(" ∷ sign ")" ∷ sign "->" ∷ sign "(" ∷ word "val" ∷ name "v" ∷ sign ":" ∷ word "word" ∷ sign "(" ∷ Number 8 ∷ sign ")" ∷ sign ")" ∷ word "choose" ∷ sign "(" ∷ sign ")" ∷ word "layers" ∷ Number 0 ∷ word "to" ∷ Number 0 ∷ word "atomic"
    ∷ word "gate" ∷ word "true" ∷ word "guard" ∷ word "true" ∷ sign "{" ∷ name "v" ∷ sign ":=" ∷ name "x" ∷ sign ";" ∷ sign "}"
    ∷ word "action" ∷ name "Store" ∷ sign "(" ∷ word "val" ∷ name "v" ∷ sign ":" ∷ word "word" ∷ sign "(" ∷ Number 8 ∷ sign ")" ∷ sign ")" ∷ sign "->" ∷ sign "(" ∷ sign ")" ∷ word "choose" ∷ sign "(" ∷ sign ")" ∷ word "layers" ∷ Number 0 ∷ word "to" ∷ Number 0 ∷ word "atomic"
    ∷ word "gate" ∷ word "true" ∷ word "guard" ∷ word "true" ∷ sign "{" ∷ name "x" ∷ sign ":=" ∷ name "v" ∷ sign ";" ∷ sign "}"
    ∷ word "action" ∷ name "AtomAcquire" ∷ sign "(" ∷ word "lend" ∷ name "t" ∷ sign ":" ∷ word "word" ∷ sign "(" ∷ Number 2 ∷ sign ")" ∷ sign ")" ∷ sign "->" ∷ sign "(" ∷ sign ")" ∷ word "choose" ∷ sign "(" ∷ sign ")" ∷ word "layers" ∷ Number 1 ∷ word "to" ∷ Number 1 ∷ word "right"
    ∷ word "gate" ∷ sign "(" ∷ name "t" ∷ sign "!=" ∷ Number 0 ∷ sign ":" ∷ Number 2 ∷ sign ")" ∷ word "guard" ∷ sign "(" ∷ name "lock" ∷ sign "==" ∷ Number 0 ∷ sign ":" ∷ Number 2 ∷ sign ")" ∷ sign "{" ∷ name "lock" ∷ sign ":=" ∷ name "t" ∷ sign ";" ∷ sign "}"
    ∷ word "action" ∷ name "AtomRelease" ∷ sign "(" ∷ word "lend" ∷ name "t" ∷ sign ":" ∷ word "word" ∷ sign "(" ∷ Number 2 ∷ sign ")" ∷ sign ")" ∷ sign "->" ∷ sign "(" ∷ sign ")" ∷ word "choose" ∷ sign "(" ∷ sign ")" ∷ word "layers" ∷ Number 1 ∷ word "to" ∷ Number 1 ∷ word "left"
    ∷ word "gate" ∷ sign "(" ∷ sign "(" ∷ name "t" ∷ sign "!=" ∷ Number 0 ∷ sign ":" ∷ Number 2 ∷ sign ")" ∷ sign "&&" ∷ sign "(" ∷ name "lock" ∷ sign "==" ∷ name "t" ∷ sign ")" ∷ sign ")" ∷ word "guard" ∷ word "true" ∷ sign "{" ∷ name "lock" ∷ sign ":=" ∷ Number 0 ∷ sign ":" ∷ Number 2 ∷ sign ";" ∷ sign "}"
    ∷ word "action" ∷ name "AtomRead" ∷ sign "(" ∷ word "lend" ∷ name "t" ∷ sign ":" ∷ word "word" ∷ sign "(" ∷ Number 2 ∷ sign ")" ∷ sign ")" ∷ sign "->" ∷ sign "(" ∷ word "val" ∷ name "v" ∷ sign ":" ∷ word "word" ∷ sign "(" ∷ Number 8 ∷ sign ")" ∷ sign ")" ∷ word "choose" ∷ sign "(" ∷ sign ")"
    ∷ word "layers" ∷ Number 1 ∷ word "to" ∷ Number 1 ∷ word "both"
    ∷ word "gate" ∷ sign "(" ∷ sign "(" ∷ name "t" ∷ sign "!=" ∷ Number 0 ∷ sign ":" ∷ Number 2 ∷ sign ")" ∷ sign "&&" ∷ sign "(" ∷ name "lock" ∷ sign "==" ∷ name "t" ∷ sign ")" ∷ sign ")" ∷ word "guard" ∷ word "true" ∷ sign "{" ∷ name "v" ∷ sign ":=" ∷ name "x" ∷ sign ";" ∷ sign "}"
    ∷ word "action" ∷ name "AtomWrite" ∷ sign "(" ∷ word "lend" ∷ name "t" ∷ sign ":" ∷ word "word" ∷ sign "(" ∷ Number 2 ∷ sign ")" ∷ sign "," ∷ word "val" ∷ name "v" ∷ sign ":" ∷ word "word" ∷ sign "(" ∷ Number 8 ∷ sign ")" ∷ sign ")" ∷ sign "->" ∷ sign "(" ∷ sign ")" ∷ word "choose" ∷ sign "(" ∷ sign ")"
    ∷ word "layers" ∷ Number 1 ∷ word "to" ∷ Number 1 ∷ word "both"
    ∷ word "gate" ∷ sign "(" ∷ sign "(" ∷ name "t" ∷ sign "!=" ∷ Number 0 ∷ sign ":" ∷ Number 2 ∷ sign ")" ∷ sign "&&" ∷ sign "(" ∷ name "lock" ∷ sign "==" ∷ name "t" ∷ sign ")" ∷ sign ")" ∷ word "guard" ∷ word "true" ∷ sign "{" ∷ name "x" ∷ sign ":=" ∷ name "v" ∷ sign ";" ∷ sign "}"
    ∷ word "action" ∷ name "AtomIncr" ∷ sign "(" ∷ word "lend" ∷ name "t" ∷ sign ":" ∷ word "word" ∷ sign "(" ∷ Number 2 ∷ sign ")" ∷ sign ")" ∷ sign "->" ∷ sign "(" ∷ sign ")" ∷ word "choose" ∷ sign "(" ∷ sign ")" ∷ word "layers" ∷ Number 2 ∷ word "to" ∷ Number 2 ∷ word "atomic"
    ∷ word "gate" ∷ sign "(" ∷ name "t" ∷ sign "!=" ∷ Number 0 ∷ sign ":" ∷ Number 2 ∷ sign ")" ∷ word "guard" ∷ word "true" ∷ sign "{" ∷ name "x" ∷ sign ":=" ∷ sign "(" ∷ name "x" ∷ sign "+" ∷ Number 1 ∷ sign ":" ∷ Number 8 ∷ sign ")" ∷ sign ";" ∷ sign "}"
    ∷ word "proc" ∷ name "Acquire" ∷ sign "(" ∷ word "lend" ∷ name "t" ∷ sign ":" ∷ word "word" ∷ sign "(" ∷ Number 2 ∷ sign ")" ∷ sign ")" ∷ sign "->" ∷ sign "(" ∷ sign ")" ∷ word "refines" ∷ name "AtomAcquire" ∷ word "with" ∷ sign "(" ∷ sign ")" ∷ word "layer" ∷ Number 1 ∷ sign "{"
    ∷ word "var" ∷ name "ok" ∷ sign ":" ∷ word "bool" ∷ sign ";"
    ∷ word "while" ∷ word "yield" ∷ sign "(" ∷ sign "!" ∷ name "ok" ∷ sign ")" ∷ word "inv" ∷ sign "(" ∷ name "ok" ∷ sign "==" ∷ word "done" ∷ sign ")" ∷ sign "{"
    ∷ word "call" ∷ name "Cas" ∷ sign "(" ∷ sign ")" ∷ sign "->" ∷ sign "(" ∷ name "ok" ∷ sign ")" ∷ sign ";"
    ∷ word "if" ∷ name "ok" ∷ sign "{" ∷ word "commit" ∷ sign ";" ∷ word "intro" ∷ name "lock" ∷ sign ":=" ∷ name "t" ∷ sign ";" ∷ sign "}" ∷ word "else" ∷ sign "{" ∷ sign "}"
    ∷ sign "}"
    ∷ sign "}"
    ∷ word "proc" ∷ name "Release" ∷ sign "(" ∷ word "lend" ∷ name "t" ∷ sign ":" ∷ word "word" ∷ sign "(" ∷ Number 2 ∷ sign ")" ∷ sign ")" ∷ sign "->" ∷ sign "(" ∷ sign ")" ∷ word "refines" ∷ name "AtomRelease" ∷ word "with" ∷ sign "(" ∷ sign ")" ∷ word "layer" ∷ Number 1
    ∷ sign "{" ∷ word "call" ∷ name "Reset" ∷ sign "(" ∷ sign ")" ∷ sign "->" ∷ sign "(" ∷ sign ")" ∷ sign ";" ∷ word "commit" ∷ sign ";" ∷ word "intro" ∷ name "lock" ∷ sign ":=" ∷ Number 0 ∷ sign ":" ∷ Number 2 ∷ sign ";" ∷ sign "}"
    ∷ word "proc" ∷ name "Read" ∷ sign "(" ∷ word "lend" ∷ name "t" ∷ sign ":" ∷ word "word" ∷ sign "(" ∷ Number 2 ∷ sign ")" ∷ sign ")" ∷ sign "->" ∷ sign "(" ∷ word "val" ∷ name "v" ∷ sign ":" ∷ word "word" ∷ sign "(" ∷ Number 8 ∷ sign ")" ∷ sign ")"
    ∷ word "refines" ∷ name "AtomRead" ∷ word "with" ∷ sign "(" ∷ sign ")" ∷ word "layer" ∷ Number 1 ∷ sign "{" ∷ word "call" ∷ name "Load" ∷ sign "(" ∷ sign ")" ∷ sign "->" ∷ sign "(" ∷ name "v" ∷ sign ")" ∷ sign ";" ∷ word "commit" ∷ sign ";" ∷ sign "}"
    ∷ word "proc" ∷ name "Write" ∷ sign "(" ∷ word "lend" ∷ name "t" ∷ sign ":" ∷ word "word" ∷ sign "(" ∷ Number 2 ∷ sign ")" ∷ sign "," ∷ word "val" ∷ name "v" ∷ sign ":" ∷ word "word" ∷ sign "(" ∷ Number 8 ∷ sign ")" ∷ sign ")" ∷ sign "->" ∷ sign "(" ∷ sign ")"
    ∷ word "refines" ∷ name "AtomWrite" ∷ word "with" ∷ sign "(" ∷ sign ")" ∷ word "layer" ∷ Number 1 ∷ sign "{" ∷ word "call" ∷ name "Store" ∷ sign "(" ∷ name "v" ∷ sign ")" ∷ sign "->" ∷ sign "(" ∷ sign ")" ∷ sign ";" ∷ word "commit" ∷ sign ";" ∷ sign "}"
    ∷ word "proc" ∷ name "Incr" ∷ sign "(" ∷ word "lend" ∷ name "t" ∷ sign ":" ∷ word "word" ∷ sign "(" ∷ Number 2 ∷ sign ")" ∷ sign ")" ∷ sign "->" ∷ sign "(" ∷ sign ")" ∷ word "refines" ∷ name "AtomIncr" ∷ word "with" ∷ sign "(" ∷ sign ")" ∷ word "layer" ∷ Number 2 ∷ sign "{"
    ∷ word "var" ∷ name "v" ∷ sign ":" ∷ word "word" ∷ sign "(" ∷ Number 8 ∷ sign ")" ∷ sign ";"
    ∷ word "call" ∷ name "Acquire" ∷ sign "(" ∷ name "t" ∷ sign ")" ∷ sign "->" ∷ sign "(" ∷ sign ")" ∷ sign ";" ∷ word "call" ∷ name "Read" ∷ sign "(" ∷ name "t" ∷ sign ")" ∷ sign "->" ∷ sign "(" ∷ name "v" ∷ sign ")" ∷ sign ";"
    ∷ word "call" ∷ name "Write" ∷ sign "(" ∷ name "t" ∷ sign "," ∷ sign "(" ∷ name "v" ∷ sign "+" ∷ Number 1 ∷ sign ":" ∷ Number 8 ∷ sign ")" ∷ sign ")" ∷ sign "->" ∷ sign "(" ∷ sign ")" ∷ sign ";" ∷ word "call" ∷ name "Release" ∷ sign "(" ∷ name "t" ∷ sign ")" ∷ sign "->" ∷ sign "(" ∷ sign ")" ∷ sign ";" ∷ word "commit" ∷ sign ";"
    ∷ sign "}"
    ∷ word "proc" ∷ name "Main" ∷ sign "(" ∷ word "lend" ∷ name "t" ∷ sign ":" ∷ word "word" ∷ sign "(" ∷ Number 2 ∷ sign ")" ∷ sign ")" ∷ sign "->" ∷ sign "(" ∷ sign ")" ∷ word "root" ∷ sign "{" ∷ word "call" ∷ name "Incr" ∷ sign "(" ∷ name "t" ∷ sign ")" ∷ sign "->" ∷ sign "(" ∷ sign ")" ∷ sign ";" ∷ sign "}"
    ∷ word "thread" ∷ name "Main" ∷ sign "(" ∷ Number 1 ∷ sign ":" ∷ Number 2 ∷ sign ")" ∷ sign ";"
    ∷ word "thread" ∷ name "Main" ∷ sign "(" ∷ Number 2 ∷ sign ":" ∷ Number 2 ∷ sign ")" ∷ sign ";" ∷ []

abbrev pub SpinlockIsSpelled : Type 0
SpinlockIsSpelled = IsSpelledBy spinlock_tokens spinlock

-- increments without a lock
abbrev pub unlocked : Program
unlocked = record {
  version = 1;
  layers = 1;
  permissions = 1;
  globals =
      record { linear = false; name = named "x"; sort = sort.Word 8; first = 0; last = 1 }
      ∷ [];
  init = expr.Two Eq (name_of "x") (expr.Literal 0 8);
  invariants = [];
  actions =
      record {
        name = named "Load";
        params = [];
        outs = record { mode = mode.Val; name = named "v"; sort = sort.Word 8 } ∷ [];
        choices = [];
        first = 0;
        last = 0;
        mover = mover.Atomic;
        gate = expr.True;
        guard = expr.True;
        updates = record { target = named "v"; expr = name_of "x" } ∷ [];
      }
      ∷ record {
        name = named "Store";
        params = record { mode = mode.Val; name = named "v"; sort = sort.Word 8 } ∷ [];
        outs = [];
        choices = [];
        first = 0;
        last = 0;
        mover = mover.Atomic;
        gate = expr.True;
        guard = expr.True;
        updates = record { target = named "x"; expr = name_of "v" } ∷ [];
      }
      ∷ record {
        name = named "AtomIncr";
        params = [];
        outs = [];
        choices = [];
        first = 1;
        last = 1;
        mover = mover.Atomic;
        gate = expr.True;
        guard = expr.True;
        updates = record { target = named "x"; expr = expr.Two Add (name_of "x") (expr.Literal 1 8) } ∷ [];
      }
      ∷ record {
        name = named "Get";
        params = [];
        outs = record { mode = mode.Val; name = named "v"; sort = sort.Word 8 } ∷ [];
        choices = [];
        first = 0;
        last = 1;
        mover = mover.Atomic;
        gate = expr.True;
        guard = expr.True;
        updates = record { target = named "v"; expr = name_of "x" } ∷ [];
      }
      ∷ [];
  procs =
      record {
        name = named "Incr";
        params = [];
        outs = [];
        refines = Some (record { action = named "AtomIncr"; with = []; layer = 1 });
        locals = record { linear = false; name = named "u"; sort = sort.Word 8 } ∷ [];
        body =
            stmt.Call (named "Load") [] (named "u" ∷ [])
            ∷ stmt.Yield (expr.One Not expr.Done)
            ∷ stmt.Call (named "Store") (expr.Two Add (name_of "u") (expr.Literal 1 8) ∷ []) []
            ∷ stmt.Commit
            ∷ [];
      }
      ∷ record {
        name = named "One";
        params = [];
        outs = [];
        refines = None;
        locals = [];
        body =
            stmt.Call (named "Incr") [] []
            ∷ [];
      }
      ∷ record {
        name = named "Two";
        params = [];
        outs = [];
        refines = None;
        locals = record { linear = false; name = named "w"; sort = sort.Word 8 } ∷ [];
        body =
            stmt.Call (named "Incr") [] []
            ∷ stmt.Call (named "Incr") [] []
            ∷ stmt.Call (named "Get") [] (named "w" ∷ [])
            ∷ stmt.Assert (expr.Two Le (expr.Literal 2 8) (name_of "w"))
            ∷ [];
      }
      ∷ [];
  threads =
      record { callee = named "One"; args = [] }
      ∷ record { callee = named "Two"; args = [] }
      ∷ [];
}

abbrev pub unlocked_tokens : List Token
unlocked_tokens =
    word "civl" ∷ Number 1 ∷ sign ";" ∷ word "layers" ∷ Number 1 ∷ sign ";" ∷ word "permissions" ∷ Number 1 ∷ sign ";"
    ∷ word "global" ∷ name "x" ∷ sign ":" ∷ word "word" ∷ sign "(" ∷ Number 8 ∷ sign ")" ∷ word "layers" ∷ Number 0 ∷ word "to" ∷ Number 1 ∷ sign ";"
    ∷ word "init" ∷ sign "(" ∷ name "x" ∷ sign "==" ∷ Number 0 ∷ sign ":" ∷ Number 8 ∷ sign ")" ∷ sign ";"
    ∷ word "action" ∷ name "Load" ∷ sign "(" ∷ sign ")" ∷ sign "->" ∷ sign "(" ∷ word "val" ∷ name "v" ∷ sign ":" ∷ word "word" ∷ sign "(" ∷ Number 8 ∷ sign ")" ∷ sign ")" ∷ word "choose" ∷ sign "(" ∷ sign ")" ∷ word "layers" ∷ Number 0 ∷ word "to" ∷ Number 0 ∷ word "atomic"
    ∷ word "gate" ∷ word "true" ∷ word "guard" ∷ word "true" ∷ sign "{" ∷ name "v" ∷ sign ":=" ∷ name "x" ∷ sign ";" ∷ sign "}"
    ∷ word "action" ∷ name "Store" ∷ sign "(" ∷ word "val" ∷ name "v" ∷ sign ":" ∷ word "word" ∷ sign "(" ∷ Number 8 ∷ sign ")" ∷ sign ")" ∷ sign "->" ∷ sign "(" ∷ sign ")" ∷ word "choose" ∷ sign "(" ∷ sign ")" ∷ word "layers" ∷ Number 0 ∷ word "to" ∷ Number 0 ∷ word "atomic"
    ∷ word "gate" ∷ word "true" ∷ word "guard" ∷ word "true" ∷ sign "{" ∷ name "x" ∷ sign ":=" ∷ name "v" ∷ sign ";" ∷ sign "}"
    ∷ word "action" ∷ name "AtomIncr" ∷ sign "(" ∷ sign ")" ∷ sign "->" ∷ sign "(" ∷ sign ")" ∷ word "choose" ∷ sign "(" ∷ sign ")" ∷ word "layers" ∷ Number 1 ∷ word "to" ∷ Number 1 ∷ word "atomic"
    ∷ word "gate" ∷ word "true" ∷ word "guard" ∷ word "true" ∷ sign "{" ∷ name "x" ∷ sign ":=" ∷ sign "(" ∷ name "x" ∷ sign "+" ∷ Number 1 ∷ sign ":" ∷ Number 8 ∷ sign ")" ∷ sign ";" ∷ sign "}"
    ∷ word "action" ∷ name "Get" ∷ sign "(" ∷ sign ")" ∷ sign "->" ∷ sign "(" ∷ word "val" ∷ name "v" ∷ sign ":" ∷ word "word" ∷ sign "(" ∷ Number 8 ∷ sign ")" ∷ sign ")" ∷ word "choose" ∷ sign "(" ∷ sign ")" ∷ word "layers" ∷ Number 0 ∷ word "to" ∷ Number 1 ∷ word "atomic"
    ∷ word "gate" ∷ word "true" ∷ word "guard" ∷ word "true" ∷ sign "{" ∷ name "v" ∷ sign ":=" ∷ name "x" ∷ sign ";" ∷ sign "}"
    ∷ word "proc" ∷ name "Incr" ∷ sign "(" ∷ sign ")" ∷ sign "->" ∷ sign "(" ∷ sign ")" ∷ word "refines" ∷ name "AtomIncr" ∷ word "with" ∷ sign "(" ∷ sign ")" ∷ word "layer" ∷ Number 1 ∷ sign "{"
    ∷ word "var" ∷ name "u" ∷ sign ":" ∷ word "word" ∷ sign "(" ∷ Number 8 ∷ sign ")" ∷ sign ";"
    ∷ word "call" ∷ name "Load" ∷ sign "(" ∷ sign ")" ∷ sign "->" ∷ sign "(" ∷ name "u" ∷ sign ")" ∷ sign ";" ∷ word "yield" ∷ sign "(" ∷ sign "!" ∷ word "done" ∷ sign ")" ∷ sign ";" ∷ word "call" ∷ name "Store" ∷ sign "(" ∷ sign "(" ∷ name "u" ∷ sign "+" ∷ Number 1 ∷ sign ":" ∷ Number 8 ∷ sign ")" ∷ sign ")" ∷ sign "->" ∷ sign "(" ∷ sign ")" ∷ sign ";" ∷ word "commit" ∷ sign ";"
    ∷ sign "}"
    ∷ word "proc" ∷ name "One" ∷ sign "(" ∷ sign ")" ∷ sign "->" ∷ sign "(" ∷ sign ")" ∷ word "root" ∷ sign "{" ∷ word "call" ∷ name "Incr" ∷ sign "(" ∷ sign ")" ∷ sign "->" ∷ sign "(" ∷ sign ")" ∷ sign ";" ∷ sign "}"
    ∷ word "proc" ∷ name "Two" ∷ sign "(" ∷ sign ")" ∷ sign "->" ∷ sign "(" ∷ sign ")" ∷ word "root" ∷ sign "{"
    ∷ word "var" ∷ name "w" ∷ sign ":" ∷ word "word" ∷ sign "(" ∷ Number 8 ∷ sign ")" ∷ sign ";"
    ∷ word "call" ∷ name "Incr" ∷ sign "(" ∷ sign ")" ∷ sign "->" ∷ sign "(" ∷ sign ")" ∷ sign ";" ∷ word "call" ∷ name "Incr" ∷ sign "(" ∷ sign ")" ∷ sign "->" ∷ sign "(" ∷ sign ")" ∷ sign ";" ∷ word "call" ∷ name "Get" ∷ sign "(" ∷ sign ")" ∷ sign "->" ∷ sign "(" ∷ name "w" ∷ sign ")" ∷ sign ";"
    ∷ word "assert" ∷ sign "(" ∷ Number 2 ∷ sign ":" ∷ Number 8 ∷ sign "<=" ∷ name "w" ∷ sign ")" ∷ sign ";"
    ∷ sign "}"
    ∷ word "thread" ∷ name "One" ∷ sign "(" ∷ sign ")" ∷ sign ";"
    ∷ word "thread" ∷ name "Two" ∷ sign "(" ∷ sign ")" ∷ sign ";" ∷ []

abbrev pub UnlockedIsSpelled : Type 0
UnlockedIsSpelled = IsSpelledBy unlocked_tokens unlocked

-- a rank from 255 to 0
abbrev pub countdown : Program
countdown = record {
  version = 1;
  layers = 1;
  permissions = 1;
  globals =
      record { linear = false; name = named "x"; sort = sort.Word 8; first = 0; last = 1 }
      ∷ [];
  init = expr.True;
  invariants = [];
  actions =
      record {
        name = named "Skip";
        params = [];
        outs = [];
        choices = [];
        first = 1;
        last = 1;
        mover = mover.Atomic;
        gate = expr.True;
        guard = expr.True;
        updates = [];
      }
      ∷ [];
  procs =
      record {
        name = named "Spin";
        params = [];
        outs = [];
        refines = Some (record { action = named "Skip"; with = []; layer = 1 });
        locals = record { linear = false; name = named "i"; sort = sort.Word 8 } ∷ [];
        body =
            stmt.Assign (named "i") (expr.Literal 255 8)
            ∷ stmt.RankLoop (expr.Two Ne (name_of "i") (expr.Literal 0 8)) (name_of "i") (expr.Two And (expr.One Not expr.Done) (expr.Two Eq (name_of "x") (expr.Old (named "x")))) (stmt.Assign (named "i") (expr.Two Sub (name_of "i") (expr.Literal 1 8)) ∷ [])
            ∷ stmt.Commit
            ∷ [];
      }
      ∷ [];
  threads =
      record { callee = named "Spin"; args = [] }
      ∷ [];
}

abbrev pub countdown_tokens : List Token
countdown_tokens =
    word "civl" ∷ Number 1 ∷ sign ";" ∷ word "layers" ∷ Number 1 ∷ sign ";" ∷ word "permissions" ∷ Number 1 ∷ sign ";"
    ∷ word "global" ∷ name "x" ∷ sign ":" ∷ word "word" ∷ sign "(" ∷ Number 8 ∷ sign ")" ∷ word "layers" ∷ Number 0 ∷ word "to" ∷ Number 1 ∷ sign ";"
    ∷ word "init" ∷ word "true" ∷ sign ";"
    ∷ word "action" ∷ name "Skip" ∷ sign "(" ∷ sign ")" ∷ sign "->" ∷ sign "(" ∷ sign ")" ∷ word "choose" ∷ sign "(" ∷ sign ")" ∷ word "layers" ∷ Number 1 ∷ word "to" ∷ Number 1 ∷ word "atomic"
    ∷ word "gate" ∷ word "true" ∷ word "guard" ∷ word "true" ∷ sign "{" ∷ sign "}"
    ∷ word "proc" ∷ name "Spin" ∷ sign "(" ∷ sign ")" ∷ sign "->" ∷ sign "(" ∷ sign ")" ∷ word "refines" ∷ name "Skip" ∷ word "with" ∷ sign "(" ∷ sign ")" ∷ word "layer" ∷ Number 1 ∷ sign "{"
    ∷ word "var" ∷ name "i" ∷ sign ":" ∷ word "word" ∷ sign "(" ∷ Number 8 ∷ sign ")" ∷ sign ";"
    ∷ name "i" ∷ sign ":=" ∷ Number 255 ∷ sign ":" ∷ Number 8 ∷ sign ";"
    ∷ word "while" ∷ word "rank" ∷ sign "(" ∷ name "i" ∷ sign "!=" ∷ Number 0 ∷ sign ":" ∷ Number 8 ∷ sign ")" ∷ word "by" ∷ name "i" ∷ word "inv" ∷ sign "(" ∷ sign "(" ∷ sign "!" ∷ word "done" ∷ sign ")" ∷ sign "&&" ∷ sign "(" ∷ name "x" ∷ sign "==" ∷ word "old" ∷ sign "(" ∷ name "x" ∷ sign ")" ∷ sign ")" ∷ sign ")"
    ∷ sign "{" ∷ name "i" ∷ sign ":=" ∷ sign "(" ∷ name "i" ∷ sign "-" ∷ Number 1 ∷ sign ":" ∷ Number 8 ∷ sign ")" ∷ sign ";" ∷ sign "}"
    ∷ word "commit" ∷ sign ";"
    ∷ sign "}"
    ∷ word "thread" ∷ name "Spin" ∷ sign "(" ∷ sign ")" ∷ sign ";" ∷ []

abbrev pub CountdownIsSpelled : Type 0
CountdownIsSpelled = IsSpelledBy countdown_tokens countdown

-- a pool of permissions
abbrev pub pool : Program
pool = record {
  version = 1;
  layers = 1;
  permissions = 2;
  globals =
      record { linear = true; name = named "pool"; sort = sort.Word 4; first = 0; last = 1 }
      ∷ [];
  init = expr.Two Eq (name_of "pool") (expr.Literal 0 4);
  invariants = [];
  actions =
      record {
        name = named "Drop";
        params = record { mode = mode.Take; name = named "t"; sort = sort.Word 2 } ∷ [];
        outs = [];
        choices = [];
        first = 0;
        last = 1;
        mover = mover.Atomic;
        gate = expr.True;
        guard = expr.True;
        updates = record { target = named "pool"; expr = expr.Two BitOr (name_of "pool") (expr.Two Shl (expr.Literal 1 4) (expr.Widen (name_of "t") 4)) } ∷ [];
      }
      ∷ [];
  procs =
      record {
        name = named "Main";
        params = record { mode = mode.Take; name = named "t"; sort = sort.Word 2 } ∷ [];
        outs = [];
        refines = None;
        locals = [];
        body =
            stmt.Call (named "Drop") (name_of "t" ∷ []) []
            ∷ [];
      }
      ∷ [];
  threads =
      record { callee = named "Main"; args = expr.Literal 1 2 ∷ [] }
      ∷ [];
}

abbrev pub pool_tokens : List Token
pool_tokens =
    word "civl" ∷ Number 1 ∷ sign ";" ∷ word "layers" ∷ Number 1 ∷ sign ";" ∷ word "permissions" ∷ Number 2 ∷ sign ";"
    ∷ word "global" ∷ word "linear" ∷ name "pool" ∷ sign ":" ∷ word "word" ∷ sign "(" ∷ Number 4 ∷ sign ")" ∷ word "layers" ∷ Number 0 ∷ word "to" ∷ Number 1 ∷ sign ";"
    ∷ word "init" ∷ sign "(" ∷ name "pool" ∷ sign "==" ∷ Number 0 ∷ sign ":" ∷ Number 4 ∷ sign ")" ∷ sign ";"
    ∷ word "action" ∷ name "Drop" ∷ sign "(" ∷ word "take" ∷ name "t" ∷ sign ":" ∷ word "word" ∷ sign "(" ∷ Number 2 ∷ sign ")" ∷ sign ")" ∷ sign "->" ∷ sign "(" ∷ sign ")" ∷ word "choose" ∷ sign "(" ∷ sign ")" ∷ word "layers" ∷ Number 0 ∷ word "to" ∷ Number 1 ∷ word "atomic"
    ∷ word "gate" ∷ word "true" ∷ word "guard" ∷ word "true" ∷ sign "{" ∷ name "pool" ∷ sign ":=" ∷ sign "(" ∷ name "pool" ∷ sign "|" ∷ sign "(" ∷ Number 1 ∷ sign ":" ∷ Number 4 ∷ sign "<<" ∷ word "widen" ∷ sign "(" ∷ name "t" ∷ sign "," ∷ Number 4 ∷ sign ")" ∷ sign ")" ∷ sign ")" ∷ sign ";" ∷ sign "}"
    ∷ word "proc" ∷ name "Main" ∷ sign "(" ∷ word "take" ∷ name "t" ∷ sign ":" ∷ word "word" ∷ sign "(" ∷ Number 2 ∷ sign ")" ∷ sign ")" ∷ sign "->" ∷ sign "(" ∷ sign ")" ∷ word "root" ∷ sign "{" ∷ word "call" ∷ name "Drop" ∷ sign "(" ∷ name "t" ∷ sign ")" ∷ sign "->" ∷ sign "(" ∷ sign ")" ∷ sign ";" ∷ sign "}"
    ∷ word "thread" ∷ name "Main" ∷ sign "(" ∷ Number 1 ∷ sign ":" ∷ Number 2 ∷ sign ")" ∷ sign ";" ∷ []

abbrev pub PoolIsSpelled : Type 0
PoolIsSpelled = IsSpelledBy pool_tokens pool

-- a product
abbrev pub product : Program
product = record {
  version = 1;
  layers = 1;
  permissions = 1;
  globals =
      record { linear = false; name = named "x"; sort = sort.Word 4; first = 0; last = 1 }
      ∷ record { linear = false; name = named "y"; sort = sort.Word 4; first = 0; last = 1 }
      ∷ record { linear = false; name = named "r"; sort = sort.Word 4; first = 0; last = 1 }
      ∷ [];
  init = expr.True;
  invariants = [];
  actions =
      record {
        name = named "Mix";
        params = [];
        outs = [];
        choices = [];
        first = 0;
        last = 0;
        mover = mover.Atomic;
        gate = expr.True;
        guard = expr.True;
        updates = record { target = named "r"; expr = expr.Two Mul (name_of "x") (expr.Two Add (name_of "y") (expr.Literal 1 4)) } ∷ [];
      }
      ∷ record {
        name = named "AtomMix";
        params = [];
        outs = [];
        choices = [];
        first = 1;
        last = 1;
        mover = mover.Atomic;
        gate = expr.True;
        guard = expr.True;
        updates = record { target = named "r"; expr = expr.Two Add (expr.Two Mul (name_of "x") (name_of "y")) (name_of "x") } ∷ [];
      }
      ∷ [];
  procs =
      record {
        name = named "DoMix";
        params = [];
        outs = [];
        refines = Some (record { action = named "AtomMix"; with = []; layer = 1 });
        locals = [];
        body =
            stmt.Call (named "Mix") [] []
            ∷ stmt.Commit
            ∷ [];
      }
      ∷ [];
  threads =
      record { callee = named "DoMix"; args = [] }
      ∷ [];
}

abbrev pub product_tokens : List Token
product_tokens =
    word "civl" ∷ Number 1 ∷ sign ";" ∷ word "layers" ∷ Number 1 ∷ sign ";" ∷ word "permissions" ∷ Number 1 ∷ sign ";"
    ∷ word "global" ∷ name "x" ∷ sign ":" ∷ word "word" ∷ sign "(" ∷ Number 4 ∷ sign ")" ∷ word "layers" ∷ Number 0 ∷ word "to" ∷ Number 1 ∷ sign ";"
    ∷ word "global" ∷ name "y" ∷ sign ":" ∷ word "word" ∷ sign "(" ∷ Number 4 ∷ sign ")" ∷ word "layers" ∷ Number 0 ∷ word "to" ∷ Number 1 ∷ sign ";"
    ∷ word "global" ∷ name "r" ∷ sign ":" ∷ word "word" ∷ sign "(" ∷ Number 4 ∷ sign ")" ∷ word "layers" ∷ Number 0 ∷ word "to" ∷ Number 1 ∷ sign ";"
    ∷ word "init" ∷ word "true" ∷ sign ";"
    ∷ word "action" ∷ name "Mix" ∷ sign "(" ∷ sign ")" ∷ sign "->" ∷ sign "(" ∷ sign ")" ∷ word "choose" ∷ sign "(" ∷ sign ")" ∷ word "layers" ∷ Number 0 ∷ word "to" ∷ Number 0 ∷ word "atomic"
    ∷ word "gate" ∷ word "true" ∷ word "guard" ∷ word "true" ∷ sign "{" ∷ name "r" ∷ sign ":=" ∷ sign "(" ∷ name "x" ∷ sign "*" ∷ sign "(" ∷ name "y" ∷ sign "+" ∷ Number 1 ∷ sign ":" ∷ Number 4 ∷ sign ")" ∷ sign ")" ∷ sign ";" ∷ sign "}"
    ∷ word "action" ∷ name "AtomMix" ∷ sign "(" ∷ sign ")" ∷ sign "->" ∷ sign "(" ∷ sign ")" ∷ word "choose" ∷ sign "(" ∷ sign ")" ∷ word "layers" ∷ Number 1 ∷ word "to" ∷ Number 1 ∷ word "atomic"
    ∷ word "gate" ∷ word "true" ∷ word "guard" ∷ word "true" ∷ sign "{" ∷ name "r" ∷ sign ":=" ∷ sign "(" ∷ sign "(" ∷ name "x" ∷ sign "*" ∷ name "y" ∷ sign ")" ∷ sign "+" ∷ name "x" ∷ sign ")" ∷ sign ";" ∷ sign "}"
    ∷ word "proc" ∷ name "DoMix" ∷ sign "(" ∷ sign ")" ∷ sign "->" ∷ sign "(" ∷ sign ")" ∷ word "refines" ∷ name "AtomMix" ∷ word "with" ∷ sign "(" ∷ sign ")" ∷ word "layer" ∷ Number 1
    ∷ sign "{" ∷ word "call" ∷ name "Mix" ∷ sign "(" ∷ sign ")" ∷ sign "->" ∷ sign "(" ∷ sign ")" ∷ sign ";" ∷ word "commit" ∷ sign ";" ∷ sign "}"
    ∷ word "thread" ∷ name "DoMix" ∷ sign "(" ∷ sign ")" ∷ sign ";" ∷ []

abbrev pub ProductIsSpelled : Type 0
ProductIsSpelled = IsSpelledBy product_tokens product
