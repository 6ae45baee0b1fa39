-- The first refusal in procedures, one by one.
use Rattle.std.proofs.Common.{◌≡◌, ℕ, ◌+◌, ◌<◌, ◌≤◌, Bool, true, false, List, [], ◌∷◌, ◌++◌, map, drop, length, get_or, None, Some, refl, sym, ap, ◌∙◌, subst}
use Rattle.std.specs.Prelude.{Option, option_map, if◌then◌else◌}
use Rattle.std.proofs.lemmas.List.{drop_more, drop_all, map-append}
use Rattle.civl_tree.specs.declared.program.Proc.{Proc}
use Rattle.civl_tree.specs.declared.program.Program.{Program}
use Rattle.civl_tree.specs.declared.refusal.Refusal.{Refusal}
use Rattle.civl_tree.specs.Numbering.{no_statement, proc_item, sizes_of}
use Rattle.civl_tree.specs.Numbered.{IsNumbered}
use Rattle.civl_tree.specs.rules.Codes.{number_of}
use Rattle.civl_tree.specs.rules.Rules.{Rule, refusal_at, each_place, item_place, statement_places, proc_places, first_of}
use Rattle.civl_names.proofs.walks.Walking.{or_first, first_append}
use Rattle.civl_names.specs.walks.First.{proc_first}

module _ (rule : Rule) (program : Program) where
  abbrev told : ℕ → Option ℕ → Option Refusal
  told place number = option_map (λ statement. record { code = number_of rule.code; item = proc_item program place; statement = statement }) number

  told_numbers : (place : ℕ) (ns : List ℕ) → first_of (map (refusal_at rule.code) (statement_places (proc_item program place) ns)) ≡ told place (first_of ns)
  told_numbers place [] = refl
  told_numbers place (n ∷ ns) = refl

  told_proc : (place : ℕ) (b : Bool) (ns : List ℕ) → first_of (map (refusal_at rule.code) (item_place (proc_item program place) b ++ statement_places (proc_item program place) ns)) ≡ told place (if b then Some no_statement else first_of ns)
  told_proc place true ns = refl
  told_proc place false ns = told_numbers place ns

  module _ (place : ℕ) (procs : List Proc) where
    abbrev procs_from : ℕ → List Proc → Option Refusal
    procs_from at rest = first_of (map (refusal_at rule.code) (each_place (proc_places rule program) at rest))

    split : (proc : Proc) → place < length procs → proc ≡ get_or procs place proc
        → procs_from place (drop place procs) ≡ or_first (told place (proc_first rule program place proc)) (procs_from (place + 1) (drop (place + 1) procs))
    unfolding each_place
    split proc l e =
        ap (procs_from place) (drop_more procs place proc l ∙ ap (λ (q : Proc). q ∷ drop (place + 1) procs) (sym e))
        ∙ ap first_of (map-append (refusal_at rule.code) (proc_places rule program place proc) (each_place (proc_places rule program) (place + 1) (drop (place + 1) procs)))
        ∙ first_append (map (refusal_at rule.code) (proc_places rule program place proc)) (map (refusal_at rule.code) (each_place (proc_places rule program) (place + 1) (drop (place + 1) procs)))
        ∙ ap (λ (o : Option Refusal). or_first o (procs_from (place + 1) (drop (place + 1) procs))) (told_proc place (rule.proc program place proc) (rule.statements program place proc))

    pub proc_here : (proc : Proc) (statement : ℕ) → place < length procs → proc ≡ get_or procs place proc → Some statement ≡ proc_first rule program place proc
        → procs_from place (drop place procs) ≡ Some (record { code = number_of rule.code; item = proc_item program place; statement = statement })
    proc_here proc statement l e h = split proc l e ∙ ap (λ (o : Option ℕ). or_first (told place o) (procs_from (place + 1) (drop (place + 1) procs))) (sym h)

    pub proc_later : (proc : Proc) → place < length procs → proc ≡ get_or procs place proc → None ≡ proc_first rule program place proc
        → procs_from (place + 1) (drop (place + 1) procs) ≡ procs_from place (drop place procs)
    proc_later proc l e h = sym (split proc l e ∙ ap (λ (o : Option ℕ). or_first (told place o) (procs_from (place + 1) (drop (place + 1) procs))) (sym h))

    pub proc_none : length procs ≤ place → procs_from place (drop place procs) ≡ None
    unfolding each_place
    proc_none l = ap (procs_from place) (drop_all place procs l)

-- a procedure of a program whose parts have numbers
pub body_fits : (program : Program) → IsNumbered program → (items : List Proc) → items ≡ program.procs → (at : ℕ) (proc : Proc) → at < length items → proc ≡ get_or items at proc
    → sizes_of proc.body < 4294967296
body_fits program numbered items same at proc l e =
    let within : at < length program.procs = subst (λ (ps : List Proc). at < length ps) same l in
    let counted : sizes_of (get_or program.procs at proc).body < 4294967296 = numbered.statements at proc within in
    let this : get_or program.procs at proc ≡ proc = sym (e ∙ ap (λ (ps : List Proc). get_or ps at proc) same) in
    subst (λ (p : Proc). sizes_of p.body < 4294967296) this counted
