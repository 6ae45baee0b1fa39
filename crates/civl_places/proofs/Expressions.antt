-- Where expressions stand in the spelling of a program.
use Rattle.std.proofs.Common.{◌≡◌, ℕ, suc, ◌+◌, ◌≤◌, List, [], ◌∷◌, ◌++◌, map, length, take, drop, Option, None, Some, append_assoc, length-append, refl, sym, ap, ◌∙◌, subst, arith}
use Rattle.std.specs.Prelude.{slice_get, IfSome, option_and_then, codes}
use Rattle.std.specs.Option.{option_map}
use Rattle.std.proofs.lemmas.List.{append-nil}
use Rattle.std.proofs.lemmas.Option.{slice_get_past}
use Rattle.civl_tree.specs.declared.expr.Expr.{Expr}
use Rattle.civl_tree.specs.declared.action.Action.{Action}
use Rattle.civl_tree.specs.declared.action.Choice.{Choice}
use Rattle.civl_tree.specs.declared.action.Update.{Update}
use Rattle.civl_tree.specs.declared.program.Proc.{Proc}
use Rattle.civl_tree.specs.declared.program.Refines.{Refines}
use Rattle.civl_tree.specs.declared.program.Thread.{Thread}
use Rattle.civl_tree.specs.Token.{Token, Reserved, Sign, Number}
use Rattle.civl_tree.specs.Spelling.{close_brace, open_brace, semicolon, becomes, arrow, name_token, joined, enclosed, block, spell_sort, spell_expr}
use Rattle.civl_tree.specs.SpellingStmt.{spell_stmt}
use Rattle.civl_tree.specs.SpellingProgram.{spell_param, spell_out, spell_choice, spell_update, spell_local, mover_token, spell_action, spell_rank_of, spell_proc, spell_thread}
use Rattle.civl_reasons.specs.Reasons.{Subformula}
use Rattle.civl_reasons.specs.Stands.{StandAt}
use Rattle.civl_places.specs.declared.formula.InAction.{InAction}
use Rattle.civl_places.specs.declared.formula.InAction.TheVariants as of_action
use Rattle.civl_places.specs.Formulas.{placed, in_list, before_in_list, before_choices, before_gate, before_guard, before_updates, before_offer, before_refines, in_action, in_with, in_thread}
use Rattle.civl_places.proofs.Listing.{list_stands}
use Rattle.civl_places.proofs.Standing.{joined_split}

-- ---- parts of parts

pub within : (X Y all : List Token) (at off token : ℕ) → StandAt X all at → StandAt Y X off → token ≡ at + off → StandAt Y all token
within X Y all at off token outer inner e = record {
  before = outer.before ++ inner.before;
  after = inner.after ++ outer.after;
  parts = outer.parts ∙ ap (λ (l : List Token). outer.before ++ (l ++ outer.after)) inner.parts
      ∙ ap (λ (l : List Token). outer.before ++ l) (append_assoc inner.before (Y ++ inner.after) outer.after ∙ ap (λ (l : List Token). inner.before ++ l) (append_assoc Y inner.after outer.after))
      ∙ sym (append_assoc outer.before inner.before (Y ++ (inner.after ++ outer.after)));
  place_is = omega (arith, length-append outer.before inner.before, outer.place_is, inner.place_is);
}

-- what stands behind these tokens
pub cut : (before part after all : List Token) → all ≡ before ++ (part ++ after) → StandAt part all (length before)
cut before part after all e = record { before = before; after = after; parts = e; place_is = refl }

-- ---- options

pub if_map : {A B : Type 0} (P : B → Type 0) (f : A → B) (o : Option A) → ((x : A) → o ≡ Some x → P (f x)) → IfSome (option_map f o) P
if_map P f None h = tt
if_map P f (Some x) h = h x refl

pub if_then : {A B : Type 0} (P : B → Type 0) (f : A → Option B) (o : Option A) → ((x : A) → o ≡ Some x → IfSome (f x) P) → IfSome (option_and_then f o) P
if_then P f None h = tt
if_then P f (Some x) h = h x refl

-- ---- in lists

abbrev pub Stands : List Token → Subformula → Type 0
Stands all part = StandAt (spell_expr part.expr) all part.token

-- an expression in a list in parentheses that stands at this token
pub list_part : (all : List Token) (exprs : List Expr) (at number : ℕ) → StandAt (enclosed spell_expr exprs) all at → IfSome (in_list at exprs number) (Stands all)
list_part all exprs at number stands =
    if_map (Stands all) _ (slice_get exprs number) (λ e found. within (enclosed spell_expr exprs) (spell_expr e) all at (before_in_list spell_expr exprs number) _ stands (list_stands spell_expr exprs number e found) refl)

joined_part : {X : Type 0} (spell : X → List Token) (xs : List X) (n : ℕ) (x : X) → slice_get xs n ≡ Some x → StandAt (spell x) (joined (map spell xs)) (length (joined (map spell (take n xs))))
joined_part spell xs n x h = cut (joined (map spell (take n xs))) (spell x) (joined (map spell (drop (suc n) xs))) _ (joined_split spell xs n x h)

-- ---- in actions

choices_cut : (P O C rest : List Token) (x y w : Token) → x ∷ y ∷ P ++ (arrow ∷ O ++ (w ∷ C ++ rest)) ≡ (x ∷ y ∷ P ++ (arrow ∷ O ++ w ∷ [])) ++ (C ++ rest)
choices_cut P O C rest x y w = simp append_assoc

gate_cut : (B C layers G rest : List Token) → B ++ (C ++ (layers ++ (G ++ rest))) ≡ (B ++ (C ++ layers)) ++ (G ++ rest)
gate_cut B C layers G rest = simp append_assoc

next_cut : (B G rest : List Token) (w : Token) → B ++ (G ++ (w ∷ rest)) ≡ (B ++ (G ++ w ∷ [])) ++ rest
next_cut B G rest w = simp append_assoc

abbrev layers_of : Action → List Token
layers_of action = Reserved (codes "layers") ∷ Number action.first ∷ Reserved (codes "to") ∷ Number action.last ∷ mover_token action.mover ∷ Reserved (codes "gate") ∷ []

abbrev behind_gate : Action → List Token
behind_gate action = Reserved (codes "guard") ∷ spell_expr action.guard ++ block (map spell_update action.updates)

abbrev behind_guard : Action → List Token
behind_guard action = block (map spell_update action.updates)

choices_first : (action : Action) → spell_action action ≡ before_choices action ++ (enclosed spell_choice action.choices ++ (layers_of action ++ (spell_expr action.gate ++ behind_gate action)))
choices_first action = choices_cut (enclosed spell_param action.params) (enclosed spell_out action.outs) (enclosed spell_choice action.choices) (layers_of action ++ (spell_expr action.gate ++ behind_gate action)) _ _ _

gate_first : (action : Action) → spell_action action ≡ before_gate action ++ (spell_expr action.gate ++ behind_gate action)
gate_first action = choices_first action ∙ gate_cut (before_choices action) (enclosed spell_choice action.choices) (layers_of action) (spell_expr action.gate) (behind_gate action)

guard_first : (action : Action) → spell_action action ≡ before_guard action ++ (spell_expr action.guard ++ behind_guard action)
guard_first action = gate_first action ∙ next_cut (before_gate action) (spell_expr action.gate) (spell_expr action.guard ++ behind_guard action) (Reserved (codes "guard"))

updates_first : (action : Action) → spell_action action ≡ before_updates action ++ (joined (map spell_update action.updates) ++ close_brace ∷ [])
updates_first action = guard_first action ∙ next_cut (before_guard action) (spell_expr action.guard) (joined (map spell_update action.updates) ++ close_brace ∷ []) open_brace

offer_cut : (S E : List Token) (x y w : Token) → x ∷ y ∷ S ++ (w ∷ E) ≡ (x ∷ y ∷ S ++ w ∷ []) ++ (E ++ [])
offer_cut S E x y w =
    ap (λ (l : List Token). x ∷ y ∷ S ++ (w ∷ l)) (sym (append-nil E)) ∙ sym (append_assoc (x ∷ y ∷ S) (w ∷ []) (E ++ []))

offer_stands : (choice : Choice) → StandAt (spell_expr choice.offer) (spell_choice choice) (length (before_offer choice))
offer_stands choice = cut (before_offer choice) (spell_expr choice.offer) [] (spell_choice choice) (offer_cut (spell_sort choice.sort) (spell_expr choice.offer) _ _ _)

update_stands : (update : Update) → StandAt (spell_expr update.expr) (spell_update update) 2
update_stands update = cut (name_token update.target ∷ becomes ∷ []) (spell_expr update.expr) (semicolon ∷ []) (spell_update update) refl

pub action_part : (all : List Token) (action : Action) (at : ℕ) (part : InAction) → StandAt (spell_action action) all at → IfSome (in_action at action part) (Stands all)
action_part all action at of_action.Gate stands = within (spell_action action) (spell_expr action.gate) all at _ _ stands (cut (before_gate action) (spell_expr action.gate) _ _ (gate_first action)) refl
action_part all action at of_action.Guard stands = within (spell_action action) (spell_expr action.guard) all at _ _ stands (cut (before_guard action) (spell_expr action.guard) _ _ (guard_first action)) refl
action_part all action at (of_action.Offer number) stands =
    let list = within (spell_action action) (enclosed spell_choice action.choices) all at _ (at + length (before_choices action)) stands (cut (before_choices action) (enclosed spell_choice action.choices) _ _ (choices_first action)) refl in
    if_map (Stands all) _ (slice_get action.choices number) (λ choice found.
    let own = within (enclosed spell_choice action.choices) (spell_choice choice) all _ _ (at + length (before_choices action) + before_in_list spell_choice action.choices number) list (list_stands spell_choice action.choices number choice found) refl in
    within (spell_choice choice) (spell_expr choice.offer) all _ _ _ own (offer_stands choice) refl)
action_part all action at (of_action.Update number) stands =
    let list = within (spell_action action) (joined (map spell_update action.updates)) all at _ (at + length (before_updates action)) stands (cut (before_updates action) (joined (map spell_update action.updates)) _ _ (updates_first action)) refl in
    if_map (Stands all) _ (slice_get action.updates number) (λ update found.
    let own = within (joined (map spell_update action.updates)) (spell_update update) all _ _ (at + length (before_updates action) + length (joined (map spell_update (take number action.updates)))) list (joined_part spell_update action.updates number update found) refl in
    within (spell_update update) (spell_expr update.expr) all _ _ _ own (update_stands update) refl)

-- ---- in procedures and threads

refines_cut : (P O rest : List Token) (x y : Token) → x ∷ y ∷ P ++ (arrow ∷ O ++ rest) ≡ (x ∷ y ∷ P ++ (arrow ∷ O)) ++ rest
refines_cut P O rest x y = simp append_assoc

abbrev behind_refines : Proc → List Token
behind_refines proc = open_brace ∷ joined (map spell_local proc.locals) ++ (joined (map spell_stmt proc.body) ++ close_brace ∷ [])

refines_first : (proc : Proc) → spell_proc proc ≡ before_refines proc ++ (spell_rank_of proc.refines ++ behind_refines proc)
refines_first proc = refines_cut (enclosed spell_param proc.params) (enclosed spell_out proc.outs) (spell_rank_of proc.refines ++ behind_refines proc) _ _

with_stands : (refines : Refines) → StandAt (enclosed spell_expr refines.with) (spell_rank_of (Some refines)) 3
with_stands refines = cut (Reserved (codes "refines") ∷ name_token refines.action ∷ Reserved (codes "with") ∷ []) (enclosed spell_expr refines.with) (Reserved (codes "layer") ∷ Number refines.layer ∷ []) _ refl

pub with_part : (all : List Token) (proc : Proc) (at number : ℕ) → StandAt (spell_proc proc) all at → IfSome (in_with at proc number) (Stands all)
with_part all proc at number stands =
    if_then (Stands all) _ proc.refines (λ refines found.
    let rank : StandAt (spell_rank_of proc.refines) all (at + length (before_refines proc)) = within (spell_proc proc) (spell_rank_of proc.refines) all at _ _ stands (cut (before_refines proc) (spell_rank_of proc.refines) _ _ (refines_first proc)) refl in
    let own : StandAt (spell_rank_of (Some refines)) all (at + length (before_refines proc)) = subst (λ (o : Option Refines). StandAt (spell_rank_of o) all (at + length (before_refines proc))) found rank in
    list_part all refines.with (at + length (before_refines proc) + 3) number (within (spell_rank_of (Some refines)) (enclosed spell_expr refines.with) all _ _ _ own (with_stands refines) refl))

thread_stands : (thread : Thread) → StandAt (enclosed spell_expr thread.args) (spell_thread thread) 2
thread_stands thread = cut (Reserved (codes "thread") ∷ name_token thread.callee ∷ []) (enclosed spell_expr thread.args) (semicolon ∷ []) _ refl

pub thread_part : (all : List Token) (thread : Thread) (at number : ℕ) → StandAt (spell_thread thread) all at → IfSome (in_thread at thread number) (Stands all)
thread_part all thread at number stands =
    list_part all thread.args (at + 2) number (within (spell_thread thread) (enclosed spell_expr thread.args) all at 2 _ stands (thread_stands thread) refl)

-- ---- within the action

part_fits : (all : List Token) (o : Option Subformula) (part : Subformula) → IfSome o (Stands all) → o ≡ Some part → part.token ≤ length all
part_fits all o part h found =
    let stands = subst (λ (r : Option Subformula). IfSome r (Stands all)) found h in
    omega (arith, ap length stands.parts, stands.place_is, length-append stands.before (spell_expr part.expr ++ stands.after))

whole : (all : List Token) → StandAt all all 0
whole all = record { before = []; after = []; parts = sym (append-nil all); place_is = refl }

pub offer_fits : (a : Action) (n : ℕ) (choice : Choice) (xs : List Choice) → xs ≡ a.choices → slice_get a.choices n ≡ Some choice
    → length (before_choices a) + before_in_list spell_choice xs n + length (spell_sort choice.sort) + 3 ≤ length (spell_action a)
offer_fits a n choice xs same found =
    let part = part_fits (spell_action a) (in_action 0 a (of_action.Offer n)) _ (action_part (spell_action a) a 0 (of_action.Offer n) (whole (spell_action a)))
    (ap (option_map (λ (c : Choice). placed (0 + length (before_choices a) + before_in_list spell_choice a.choices n + length (before_offer c)) c.offer)) found) in
    omega (arith, part, ap (λ (l : List Choice). before_in_list spell_choice l n) same, length-append (spell_sort choice.sort) (Sign (codes "=") ∷ []))

pub update_fits : (a : Action) (n : ℕ) (update : Update) (xs : List Update) → xs ≡ a.updates → slice_get a.updates n ≡ Some update
    → length (before_updates a) + length (joined (map spell_update (take n xs))) + 2 ≤ length (spell_action a)
update_fits a n update xs same found =
    let part = part_fits (spell_action a) (in_action 0 a (of_action.Update n)) _ (action_part (spell_action a) a 0 (of_action.Update n) (whole (spell_action a)))
    (ap (option_map (λ (u : Update). placed (0 + length (before_updates a) + length (joined (map spell_update (take n a.updates))) + 2) u.expr)) found) in
    omega (arith, part, ap (λ (l : List Update). length (joined (map spell_update (take n l)))) same)

pub past_none : {A : Type 0} (f : A → Subformula) (xs : List A) (n : ℕ) → length xs ≤ n → None ≡ option_map f (slice_get xs n)
past_none f xs n past = rw (slice_get_past xs n past) refl
