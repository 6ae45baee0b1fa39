-- Readers of programs, which the call `program` cites. The number d says how many more brackets may be open;
-- `new` says that the version is 2.
use Rattle.std.specs.Prelude.{ℕ, ◌==◌, Bool, List, codes}
use Rattle.civl_tree.specs.Token.{Token, Reserved}
use Rattle.civl_tree.specs.Spelling.{semicolon}
use Rattle.civl_tree.specs.declared.expr.Expr.{Expr}
use Rattle.civl_tree.specs.declared.action.Action.{Action}
use Rattle.civl_tree.specs.declared.program.Global.{Global}
use Rattle.civl_tree.specs.declared.program.Invariant.{Invariant}
use Rattle.civl_tree.specs.declared.program.Proc.{Proc}
use Rattle.civl_tree.specs.declared.program.Thread.{Thread}
use Rattle.civl_tree.specs.declared.program.Program.{Program}
use Rattle.civl_phrases.specs.Reader.{Reader, begins, after, both, mapped, then_token, ended}
use Rattle.civl_phrases.specs.List.{repeated}
use Rattle.civl_phrases.specs.Leaf.{a_number}
use Rattle.civl_parser.specs.declared.programs.Header.{Header}
use Rattle.civl_parser.specs.declared.programs.Claims.{Claims}
use Rattle.civl_parser.specs.declared.programs.Bodies.{Bodies}
use Rattle.civl_declarations.specs.readers.Actions.{action_word, action_at}
use Rattle.civl_statements.specs.readers.Procs.{proc_word, proc_at}
use Rattle.civl_declarations.specs.readers.Declarations.{global_word, global_at, init_at, invariant_word, invariant_at, thread_word, thread_at}

-- ---- programs

-- a word, a number and a semicolon
unfoldable pub number_line_at : Token → Reader ℕ
number_line_at token = after token (then_token semicolon a_number)

-- layers number ; permissions number ;
unfoldable pub sizes_at : Reader (ℕ × ℕ)
sizes_at = both (number_line_at (Reserved (codes "layers"))) (λ _. number_line_at (Reserved (codes "permissions")))

abbrev pub make_header : ℕ × (ℕ × ℕ) → Header
make_header p = record { version = p.0; layers = p.1.0; permissions = p.1.1 }

-- civl number ; layers number ; permissions number ;
unfoldable pub header_at : Reader Header
header_at = mapped make_header (both (number_line_at (Reserved (codes "civl"))) (λ _. sizes_at))

abbrev pub make_bodies : List Action × (List Proc × List Thread) → Bodies
make_bodies p = record { actions = p.0; procs = p.1.0; threads = p.1.1 }

-- action* proc* thread*
unfoldable pub bodies_at : Bool → ℕ → Reader Bodies
bodies_at new d =
    mapped make_bodies (both (repeated (begins action_word) (action_at new d)) (λ _. both (repeated (begins proc_word) (proc_at new d)) (λ _. repeated (begins thread_word) (thread_at new d))))

abbrev pub make_claims : Expr × (List Invariant × Bodies) → Claims
make_claims p = record { init = p.0; invariants = p.1.0; bodies = p.1.1 }

-- init invariant* action* proc* thread*
unfoldable pub claims_at : Bool → ℕ → Reader Claims
claims_at new d = mapped make_claims (both (init_at new d) (λ _. both (repeated (begins invariant_word) (invariant_at new d)) (λ _. bodies_at new d)))

abbrev pub make_program : Header × (List Global × Claims) → Program
make_program p = record {
  version = p.0.version;
  layers = p.0.layers;
  permissions = p.0.permissions;
  globals = p.1.0;
  init = p.1.1.init;
  invariants = p.1.1.invariants;
  actions = p.1.1.bodies.actions;
  procs = p.1.1.bodies.procs;
  threads = p.1.1.bodies.threads;
}

-- a program, in a text that may go on
unfoldable pub program_at : ℕ → Reader Program
program_at d = mapped make_program (both header_at (λ header. both (repeated (begins global_word) (global_at d)) (λ _. claims_at (header.version == 2) d)))

-- a program, and nothing else
unfoldable pub program_text_at : ℕ → Reader Program
program_text_at d = mapped (λ p. p.0) (both (program_at d) (λ _. ended))
