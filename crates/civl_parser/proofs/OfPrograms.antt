-- Programs are read as they are spelled.
use Rattle.std.proofs.Common.{◌≡◌, ℕ, Bool, true, false, List, [], ◌∷◌, ◌++◌, map, Some, refl, sym, ap, subst, ◌∙◌, append_assoc, append-nil}
use Rattle.std.specs.Prelude.{codes, ◌==◌}
use Rattle.std.specs.List.{AllByRecursion, list_all}
use Rattle.std.proofs.lemmas.Bool.{and_from}
use Rattle.civl_tree.specs.Token.{Token, Reserved, Number}
use Rattle.civl_tree.specs.Spelling.{semicolon, joined}
use Rattle.civl_tree.specs.SpellingProgram.{spell_global, spell_init, spell_invariant, spell_action, spell_proc, spell_thread, spell_program}
use Rattle.civl_tree.specs.SpellingDomain.{allows_expr, allows_global, allows_invariant, allows_action, allows_proc, allows_thread, HasSpelling}
use Rattle.civl_tree.specs.declared.expr.Expr.{Expr}
use Rattle.civl_tree.specs.declared.action.Action.{Action}
use Rattle.civl_tree.specs.declared.program.Global.{Global}
use Rattle.civl_tree.specs.declared.program.Invariant.{Invariant}
use Rattle.civl_tree.specs.declared.program.Proc.{Proc}
use Rattle.civl_tree.specs.declared.program.Thread.{Thread}
use Rattle.civl_tree.specs.declared.program.Program.{Program}
use Rattle.civl_phrases.specs.Bracket.{Plain, side}
use Rattle.civl_phrases.specs.Reader.{Reader, begins, both, ended}
use Rattle.civl_phrases.specs.List.{repeated}
use Rattle.civl_phrases.specs.Phrase.{Any, AtEnd, IsReader, Heads}
use Rattle.civl_phrases.proofs.Joins.{both_is, mapped_is}
use Rattle.civl_phrases.proofs.Tokens.{after_is, then_is, ended_is}
use Rattle.civl_phrases.proofs.Lists.{repeated_is}
use Rattle.civl_phrases.proofs.Heads.{heads_mapped, heads_repeated, heads_end}
use Rattle.civl_phrases.proofs.Tables.{and_parts}
use Rattle.civl_phrases.proofs.Leaves.{number_is}
use Rattle.civl_parser.specs.declared.programs.Header.{Header}
use Rattle.civl_parser.specs.declared.programs.Claims.{Claims}
use Rattle.civl_parser.specs.declared.programs.Bodies.{Bodies}
use Rattle.civl_expressions.specs.readers.Exprs.{FitsExpr}
use Rattle.civl_declarations.specs.readers.Actions.{action_word, action_at}
use Rattle.civl_statements.specs.readers.Procs.{proc_word, proc_at}
use Rattle.civl_declarations.specs.readers.Declarations.{global_word, invariant_word, thread_word, global_at, init_at, invariant_at, thread_at}
use Rattle.civl_parser.specs.readers.Programs.{number_line_at, sizes_at, make_header, header_at, make_bodies, bodies_at, make_claims, claims_at, make_program, program_at, program_text_at}
use Rattle.civl_expressions.proofs.Lists.{all_from, all_to}
use Rattle.civl_parser.proofs.Nests.{nested}
use Rattle.civl_declarations.proofs.OfActions.{FitsAction, action_is}
use Rattle.civl_statements.proofs.OfProcs.{FitsProc, proc_is}
use Rattle.civl_declarations.proofs.OfDeclarations.{FitsGlobal, global_is, init_is, FitsInvariant, invariant_is, FitsThread, thread_is}

-- ---- the header

abbrev number_line : Token → ℕ → List Token
number_line t n = t ∷ Number n ∷ semicolon ∷ []

number_line_is : (d : ℕ) (t : Token) → begins t (Some t) ≡ true → side t ≡ Plain → IsReader d d Any (number_line t) (λ _. Unit {0}) (number_line_at t)
unfolding number_line_at
number_line_is d t same plain = after_is d t same (ap (λ s. Rattle.civl_phrases.specs.Bracket.turn s d) plain) (then_is d semicolon refl refl (number_is d))

abbrev spell_header : Header → List Token
spell_header h = number_line (Reserved (codes "civl")) h.version ++ (number_line (Reserved (codes "layers")) h.layers ++ number_line (Reserved (codes "permissions")) h.permissions)

header_is : (d : ℕ) → IsReader d d Any spell_header (λ _. Unit {0}) header_at
unfolding header_at sizes_at
header_is d = mapped_is make_header spell_header (λ _. Unit {0}) (λ p h. refl) (λ p h. tt) (λ h u. ((h.version, (h.layers, h.permissions)), refl, (tt, (tt, tt))))
    (both_is (number_line_is d (Reserved (codes "civl")) refl refl) (λ _. both_is (number_line_is d (Reserved (codes "layers")) refl refl) (λ _. number_line_is d (Reserved (codes "permissions")) refl refl)))

-- ---- lists of declarations, and what follows

-- what tells a declaration from this word
global_first : (t : Token) (b : Bool) → begins t (Some global_word) ≡ b → Heads Any spell_global FitsGlobal (begins t) b
global_first t b e = record { next = λ a rest fits ends. e }

invariant_first : (new : Bool) (t : Token) (b : Bool) → begins t (Some invariant_word) ≡ b → Heads Any spell_invariant (FitsInvariant new) (begins t) b
invariant_first new t b e = record { next = λ a rest fits ends. e }

action_first : (new : Bool) (t : Token) (b : Bool) → begins t (Some action_word) ≡ b → Heads Any spell_action (FitsAction new) (begins t) b
action_first new t b e = record { next = λ a rest fits ends. e }

proc_first : (new : Bool) (t : Token) (b : Bool) → begins t (Some proc_word) ≡ b → Heads Any spell_proc (FitsProc new) (begins t) b
proc_first new t b e = record { next = λ a rest fits ends. e }

thread_first : (new : Bool) (t : Token) (b : Bool) → begins t (Some thread_word) ≡ b → Heads Any spell_thread (FitsThread new) (begins t) b
thread_first new t b e = record { next = λ a rest fits ends. e }

abbrev spell_bodies : Bodies → List Token
spell_bodies b = joined (map spell_action b.actions) ++ (joined (map spell_proc b.procs) ++ joined (map spell_thread b.threads))

abbrev FitsBodies : Bool → Bodies → Type 0
FitsBodies new b = AllByRecursion (FitsAction new) b.actions × (AllByRecursion (FitsProc new) b.procs × AllByRecursion (FitsThread new) b.threads)

abbrev spell_claims : Claims → List Token
spell_claims c = spell_init c.init ++ (joined (map spell_invariant c.invariants) ++ spell_bodies c.bodies)

abbrev FitsClaims : Bool → Claims → Type 0
FitsClaims new c = FitsExpr new c.init × (AllByRecursion (FitsInvariant new) c.invariants × FitsBodies new c.bodies)

-- none of these begins with the word of a declaration behind `init`
pub record BeginsNone {E : Type 0} (z : List Token → Type 0) (s : E → List Token) (f : E → Type 0) : Type 0 where
  pub no_invariant : Heads z s f (begins invariant_word) false
  pub no_action : Heads z s f (begins action_word) false
  pub no_proc : Heads z s f (begins proc_word) false
  pub no_thread : Heads z s f (begins thread_word) false

regroup_spell : (a b c e : List Token) → (a ++ (b ++ c)) ++ e ≡ a ++ (b ++ (c ++ e))
regroup_spell a b c e = append_assoc a (b ++ c) e ∙ ap (λ w. a ++ w) (append_assoc b c e)

-- y stands behind the program: s spells its values, f are those that have a spelling
module _ {E : Type 0} (z : List Token → Type 0) (s : E → List Token) (f : E → Type 0) (y : Reader E) (d : ℕ) (q : IsReader d d z s f y) (none : BeginsNone z s f) (new : Bool) where
  abbrev BodyParts : Type 0
  BodyParts = List Action × (List Proc × (List Thread × E))

  abbrev body_parts_spell : BodyParts → List Token
  body_parts_spell v = joined (map spell_action v.0) ++ (joined (map spell_proc v.1.0) ++ (joined (map spell_thread v.1.1.0) ++ s v.1.1.1))

  abbrev BodyPartsFit : BodyParts → Type 0
  BodyPartsFit v = AllByRecursion (FitsAction new) v.0 × (AllByRecursion (FitsProc new) v.1.0 × (AllByRecursion (FitsThread new) v.1.1.0 × f v.1.1.1))

  abbrev of_body_parts : BodyParts → Bodies × E
  of_body_parts v = (make_bodies (v.0, (v.1.0, v.1.1.0)), v.1.1.1)

  abbrev bodies_spell : Bodies × E → List Token
  bodies_spell v = spell_bodies v.0 ++ s v.1

  abbrev BodiesFit : Bodies × E → Type 0
  BodiesFit v = FitsBodies new v.0 × f v.1

  bodies_spells : (v : BodyParts) → bodies_spell (of_body_parts v) ≡ body_parts_spell v
  bodies_spells v = regroup_spell (joined (map spell_action v.0)) (joined (map spell_proc v.1.0)) (joined (map spell_thread v.1.1.0)) (s v.1.1.1)

  bodies_back : (v : Bodies × E) → BodiesFit v → (p : BodyParts) × (of_body_parts p ≡ v) × BodyPartsFit p
  bodies_back v h = ((v.0.actions, (v.0.procs, (v.0.threads, v.1))), refl, (h.0.0, (h.0.1.0, (h.0.1.1, h.1))))

  body_parts_is : IsReader d d z body_parts_spell BodyPartsFit (both (repeated (begins action_word) (action_at new d)) (λ _. both (repeated (begins proc_word) (proc_at new d)) (λ _. both (repeated (begins thread_word) (thread_at new d)) (λ _. y))))
  body_parts_is =
      repeated_is (begins action_word) refl (action_first new action_word true refl)
      (heads_repeated (begins action_word) false (proc_first new action_word false refl) (heads_repeated (begins action_word) false (thread_first new action_word false refl) none.no_action)) (action_is new d)
      (repeated_is (begins proc_word) refl (proc_first new proc_word true refl) (heads_repeated (begins proc_word) false (thread_first new proc_word false refl) none.no_proc) (proc_is new d)
      (repeated_is (begins thread_word) refl (thread_first new thread_word true refl) none.no_thread (thread_is new d) q))

  bodies_is : IsReader d d z bodies_spell BodiesFit (both (bodies_at new d) (λ _. y))
  unfolding bodies_at
  bodies_is =
      subst (λ r. IsReader d d z bodies_spell BodiesFit r)
      (nested make_bodies (λ _. repeated (begins proc_word) (proc_at new d)) (λ _. repeated (begins thread_word) (thread_at new d)) (λ _. y) (repeated (begins action_word) (action_at new d)))
      (mapped_is of_body_parts bodies_spell BodiesFit (λ v h. bodies_spells v) (λ v h. ((h.0, (h.1.0, h.1.1.0)), h.1.1.1)) bodies_back body_parts_is)

  bodies_no_invariant : Heads z bodies_spell BodiesFit (begins invariant_word) false
  bodies_no_invariant = heads_mapped of_body_parts bodies_spell BodiesFit (begins invariant_word) false (λ v h. bodies_spells v) bodies_back
      (heads_repeated (begins invariant_word) false (action_first new invariant_word false refl)
      (heads_repeated (begins invariant_word) false (proc_first new invariant_word false refl)
      (heads_repeated (begins invariant_word) false (thread_first new invariant_word false refl) none.no_invariant)))

  abbrev ClaimParts : Type 0
  ClaimParts = Expr × (List Invariant × (Bodies × E))

  abbrev claim_parts_spell : ClaimParts → List Token
  claim_parts_spell v = spell_init v.0 ++ (joined (map spell_invariant v.1.0) ++ bodies_spell v.1.1)

  abbrev ClaimPartsFit : ClaimParts → Type 0
  ClaimPartsFit v = FitsExpr new v.0 × (AllByRecursion (FitsInvariant new) v.1.0 × BodiesFit v.1.1)

  abbrev of_claim_parts : ClaimParts → Claims × E
  of_claim_parts v = (make_claims (v.0, (v.1.0, v.1.1.0)), v.1.1.1)

  abbrev claims_spell : Claims × E → List Token
  claims_spell v = spell_claims v.0 ++ s v.1

  abbrev ClaimsFit : Claims × E → Type 0
  ClaimsFit v = FitsClaims new v.0 × f v.1

  claim_parts_is : IsReader d d z claim_parts_spell ClaimPartsFit (both (init_at new d) (λ _. both (repeated (begins invariant_word) (invariant_at new d)) (λ _. both (bodies_at new d) (λ _. y))))
  claim_parts_is = both_is (init_is new d) (λ _. repeated_is (begins invariant_word) refl (invariant_first new invariant_word true refl) bodies_no_invariant (invariant_is new d) bodies_is)

  claims_is : IsReader d d z claims_spell ClaimsFit (both (claims_at new d) (λ _. y))
  unfolding claims_at
  claims_is =
      subst (λ r. IsReader d d z claims_spell ClaimsFit r)
      (nested make_claims (λ _. repeated (begins invariant_word) (invariant_at new d)) (λ _. bodies_at new d) (λ _. y) (init_at new d))
      (mapped_is of_claim_parts claims_spell ClaimsFit (λ v h. regroup_spell (spell_init v.0) (joined (map spell_invariant v.1.0)) (spell_bodies v.1.1.0) (s v.1.1.1)) (λ v h. ((h.0, (h.1.0, h.1.1.0)), h.1.1.1))
      (λ v h. ((v.0.init, (v.0.invariants, (v.0.bodies, v.1))), refl, (h.0.0, (h.0.1.0, (h.0.1.1, h.1))))) claim_parts_is)

-- ---- programs

program_to : (h : Header) (gs : List Global) (c : Claims) → AllByRecursion FitsGlobal gs → FitsClaims (h.version == 2) c → HasSpelling (make_program (h, (gs, c)))
program_to h gs c f g =
    let new = h.version == 2 in
    and_from (list_all allows_global gs) _ (all_from allows_global gs f)
    (and_from (allows_expr new c.init) _ g.0
    (and_from (list_all (allows_invariant new) c.invariants) _ (all_from (allows_invariant new) c.invariants g.1.0)
    (and_from (list_all (allows_action new) c.bodies.actions) _ (all_from (allows_action new) c.bodies.actions g.1.1.0)
    (and_from (list_all (allows_proc new) c.bodies.procs) _ (all_from (allows_proc new) c.bodies.procs g.1.1.1.0) (all_from (allows_thread new) c.bodies.threads g.1.1.1.1)))))

abbrev program_parts : Program → Header × (List Global × Claims)
program_parts p = (
  record { version = p.version; layers = p.layers; permissions = p.permissions },
  (p.globals, record { init = p.init; invariants = p.invariants; bodies = record { actions = p.actions; procs = p.procs; threads = p.threads } }),
)

program_from : (p : Program) → HasSpelling p → AllByRecursion FitsGlobal p.globals × FitsClaims (p.version == 2) (program_parts p).1.1
program_from p h =
    let new = p.version == 2 in
    let k1 = and_parts (list_all allows_global p.globals) _ h in
    let k2 = and_parts (allows_expr new p.init) _ k1.1 in
    let k3 = and_parts (list_all (allows_invariant new) p.invariants) _ k2.1 in
    let k4 = and_parts (list_all (allows_action new) p.actions) _ k3.1 in
    let k5 = and_parts (list_all (allows_proc new) p.procs) _ k4.1 in (
      all_to allows_global p.globals k1.0,
      (
        k2.0,
        (
          all_to (allows_invariant new) p.invariants k3.0,
          (all_to (allows_action new) p.actions k4.0, (all_to (allows_proc new) p.procs k5.0, all_to (allows_thread new) p.threads k5.1)),
        ),
      ),
    )

-- what stands behind a program may hang on its version, as its parts do
module _ {E : Type 0} (z : List Token → Type 0) (s : E → List Token) (f : Bool → E → Type 0) (y : Bool → Reader E) (d : ℕ) (q : (new : Bool) → IsReader d d z s (f new) (y new)) (none : (new : Bool) → BeginsNone z s (f new)) where
  abbrev ProgramParts : Type 0
  ProgramParts = Header × (List Global × (Claims × E))

  abbrev parts_spell : ProgramParts → List Token
  parts_spell v = spell_header v.0 ++ (joined (map spell_global v.1.0) ++ (spell_claims v.1.1.0 ++ s v.1.1.1))

  abbrev PartsFit : ProgramParts → Type 0
  PartsFit v = Unit {0} × (AllByRecursion FitsGlobal v.1.0 × (FitsClaims (v.0.version == 2) v.1.1.0 × f (v.0.version == 2) v.1.1.1))

  abbrev of_parts : ProgramParts → Program × E
  of_parts v = (make_program (v.0, (v.1.0, v.1.1.0)), v.1.1.1)

  abbrev with_program_spell : Program × E → List Token
  with_program_spell v = spell_program v.0 ++ s v.1

  abbrev WithProgramFits : Program × E → Type 0
  WithProgramFits v = HasSpelling v.0 × f (v.0.version == 2) v.1

  parts_is : IsReader d d z parts_spell PartsFit (both header_at (λ header. both (repeated (begins global_word) (global_at d)) (λ _. both (claims_at (header.version == 2) d) (λ _. y (header.version == 2)))))
  parts_is = both_is {s2 = λ h v. joined (map spell_global v.0) ++ (spell_claims v.1.0 ++ s v.1.1)} {f2 = λ h v. AllByRecursion FitsGlobal v.0 × (FitsClaims (h.version == 2) v.1.0 × f (h.version == 2) v.1.1)} (header_is d)
      (λ h. repeated_is (begins global_word) refl (global_first global_word true refl) (record { next = λ v rest fits ends. refl }) (global_is d) (claims_is z s (f (h.version == 2)) (y (h.version == 2)) d (q (h.version == 2)) (none (h.version == 2)) (h.version == 2)))

  -- a program, and then y of its version
  pub program_then_is : IsReader d d z with_program_spell WithProgramFits (both (program_at d) (λ program. y (program.version == 2)))
  unfolding program_at
  program_then_is =
      subst (λ r. IsReader d d z with_program_spell WithProgramFits r)
      (nested make_program (λ _. repeated (begins global_word) (global_at d)) (λ header. claims_at (header.version == 2) d) (λ program. y (program.version == 2)) header_at)
      (mapped_is of_parts with_program_spell WithProgramFits (λ v h. regroup_spell (spell_header v.0) (joined (map spell_global v.1.0)) (spell_claims v.1.1.0) (s v.1.1.1))
      (λ v h. (program_to v.0 v.1.0 v.1.1.0 h.1.0 h.1.1.0, h.1.1.1))
      (λ v h. let k = program_from v.0 h.0 in (((program_parts v.0).0, ((program_parts v.0).1.0, ((program_parts v.0).1.1, v.1))), refl, (tt, (k.0, (k.1, h.1))))) parts_is)

nothing_behind : BeginsNone AtEnd (λ (u : Unit {0}). []) (λ _. Unit {0})
nothing_behind = record {
  no_invariant = heads_end (begins invariant_word) false refl;
  no_action = heads_end (begins action_word) false refl;
  no_proc = heads_end (begins proc_word) false refl;
  no_thread = heads_end (begins thread_word) false refl;
}

pub program_text_is : (d : ℕ) → IsReader d d AtEnd spell_program HasSpelling (program_text_at d)
unfolding program_text_at
program_text_is d = mapped_is {f = λ v. HasSpelling v.0 × Unit {0}} (λ (v : Program × Unit {0}). v.0) spell_program HasSpelling (λ v h. sym (append-nil (spell_program v.0))) (λ v h. h.0) (λ p h. ((p, tt), refl, (h, tt)))
    (program_then_is AtEnd (λ (u : Unit {0}). []) (λ _ _. Unit {0}) (λ _. ended) d (λ _. ended_is d) (λ _. nothing_behind))
