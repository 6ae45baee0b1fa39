-- Actions are read as they are spelled.
use Rattle.std.proofs.Common.{◌≡◌, ℕ, ◌-◌, Bool, true, List, [], ◌∷◌, ◌++◌, map, Some, refl, sym, ap, subst, ◌∙◌, append_assoc, arith}
use Rattle.std.specs.Prelude.{codes, IsTrue}
use Rattle.std.specs.List.{AllByRecursion, list_all}
use Rattle.std.proofs.lemmas.Bool.{and_from}
use Rattle.civl_tree.specs.Token.{Token, Reserved, Sign, Number}
use Rattle.civl_tree.specs.Spelling.{open_paren, close_paren, open_brace, close_brace, semicolon, colon, becomes, arrow, name_token, enclosed, block, spell_expr}
use Rattle.civl_tree.specs.SpellingProgram.{spell_param, spell_choice, mover_token, spell_update, spell_action}
use Rattle.civl_tree.specs.SpellingDomain.{allows_name, allows_expr, allows_param, allows_out, allows_choice, allows_update, allows_action}
use Rattle.civl_tree.specs.declared.action.Mover.{Mover}
use Rattle.civl_tree.specs.declared.action.Mover.TheVariants as movers
use Rattle.civl_tree.specs.declared.action.Choice.{Choice}
use Rattle.civl_tree.specs.declared.action.Update.{Update}
use Rattle.civl_tree.specs.declared.action.Action.{Action}
use Rattle.civl_phrases.specs.Bracket.{Plain, side}
use Rattle.civl_phrases.specs.Leaf.{is_named}
use Rattle.civl_phrases.specs.Table.{lookup}
use Rattle.civl_phrases.specs.Phrase.{Any, IsReader}
use Rattle.civl_phrases.proofs.Joins.{both_is, mapped_is}
use Rattle.civl_phrases.proofs.Tokens.{leaf_is, after_is, then_is}
use Rattle.civl_phrases.proofs.Lists.{bracketed_is, braced_is}
use Rattle.civl_phrases.proofs.Tables.{table_leaf, and_parts}
use Rattle.civl_phrases.proofs.Leaves.{number_is}
use Rattle.civl_expressions.specs.declared.params.Heading.{Heading}
use Rattle.civl_declarations.specs.declared.actions.Offer.{Offer}
use Rattle.civl_declarations.specs.declared.actions.Effect.{Effect}
use Rattle.civl_expressions.specs.readers.Exprs.{FitsExpr}
use Rattle.civl_declarations.specs.readers.Actions.{make_choice, choice_at, choices_at, make_update, update_at, updates_at, mover_table, mover_of, mover_at, range_at, make_offer, offer_at, make_effect, effect_at, make_action, action_word, action_at}
use Rattle.civl_expressions.proofs.Lists.{all_from, all_to}
use Rattle.civl_expressions.proofs.OfNames.{name_is}
use Rattle.civl_expressions.proofs.OfExprs.{sort_is, expr_is}
use Rattle.civl_expressions.proofs.OfHeadings.{spell_heading, FitsHeading, heading_is}

-- ---- choices and updates

abbrev FitsChoice : Bool → Choice → Type 0
FitsChoice new c = IsTrue (allows_choice new c)

choice_is : (new : Bool) (d : ℕ) → IsReader d d Any spell_choice (FitsChoice new) (choice_at new d)
unfolding choice_at
choice_is new d = mapped_is make_choice spell_choice (FitsChoice new) (λ p h. refl) (λ p h. and_from (allows_name p.0) (allows_expr new p.1.1) h.0 h.1.1)
    (λ c h. let k = and_parts (allows_name c.name) (allows_expr new c.offer) h in ((c.name, (c.sort, c.offer)), refl, (k.0, (tt, k.1))))
    (both_is (name_is d) (λ _. after_is d colon refl refl (both_is (sort_is d) (λ _. after_is d (Sign (codes "=")) refl refl (expr_is new d)))))

choices_is : (new : Bool) (d : ℕ) → IsReader d d Any (enclosed spell_choice) (AllByRecursion (FitsChoice new)) (choices_at new d)
unfolding choices_at
choices_is new d = bracketed_is d open_paren close_paren refl refl refl refl refl (record { next = λ p rest fits ends. refl })
    (λ c e. let k : c ≡ d - 1 = omega arith in subst (λ n. IsReader c c Any spell_choice (FitsChoice new) (choice_at new n)) k (choice_is new c))

abbrev FitsUpdate : Bool → Update → Type 0
FitsUpdate new u = IsTrue (allows_update new u)

update_is : (new : Bool) (d : ℕ) → IsReader d d Any spell_update (FitsUpdate new) (update_at new d)
unfolding update_at
update_is new d = mapped_is make_update spell_update (FitsUpdate new) (λ p h. refl) (λ p h. and_from (allows_name p.0) (allows_expr new p.1) h.0 h.1)
    (λ u h. ((u.target, u.expr), refl, and_parts (allows_name u.target) (allows_expr new u.expr) h))
    (both_is (name_is d) (λ _. after_is d becomes refl refl (then_is d semicolon refl refl (expr_is new d))))

updates_is : (new : Bool) (d : ℕ) → IsReader d d Any (λ us. block (map spell_update us)) (AllByRecursion (FitsUpdate new)) (updates_at new d)
unfolding updates_at
updates_is new d = braced_is d is_named open_brace close_brace refl refl refl refl refl refl (record { next = λ p rest fits ends. refl })
    (λ c e. let k : c ≡ d - 1 = omega arith in subst (λ n. IsReader c c Any spell_update (FitsUpdate new) (update_at new n)) k (update_is new c))

-- ---- actions

mover_found : (m : Mover) → lookup mover_table (mover_token m) ≡ Some m
mover_found movers.Atomic = refl
mover_found movers.Right = refl
mover_found movers.Left = refl
mover_found movers.Both = refl

mover_plain : (m : Mover) → side (mover_token m) ≡ Plain
mover_plain movers.Atomic = refl
mover_plain movers.Right = refl
mover_plain movers.Left = refl
mover_plain movers.Both = refl

mover_is : (d : ℕ) → IsReader d d Any (λ m. mover_token m ∷ []) (λ m. IsTrue true) mover_at
unfolding mover_at
mover_is d = leaf_is d (λ m. IsTrue true) mover_of mover_token (movers.Atomic, refl) (table_leaf mover_token (λ _. true) mover_table (refl, (refl, (refl, (refl, tt)))) mover_found mover_plain)

abbrev pub spell_range : ℕ × ℕ → List Token
spell_range p = Reserved (codes "layers") ∷ Number p.0 ∷ Reserved (codes "to") ∷ Number p.1 ∷ []

pub range_is : (d : ℕ) → IsReader d d Any spell_range (λ _. Unit {0} × Unit {0}) range_at
unfolding range_at
range_is d = after_is d (Reserved (codes "layers")) refl refl (both_is (number_is d) (λ _. after_is d (Reserved (codes "to")) refl refl (number_is d)))

abbrev spell_offer : Offer → List Token
spell_offer o = Reserved (codes "choose") ∷ (enclosed spell_choice o.choices ++ (spell_range (o.first, o.last) ++ mover_token o.mover ∷ []))

abbrev FitsOffer : Bool → Offer → Type 0
FitsOffer new o = AllByRecursion (FitsChoice new) o.choices

offer_is : (new : Bool) (d : ℕ) → IsReader d d Any spell_offer (FitsOffer new) (offer_at new d)
unfolding offer_at
offer_is new d = mapped_is make_offer spell_offer (FitsOffer new) (λ p h. refl) (λ p h. h.0) (λ o h. ((o.choices, ((o.first, o.last), o.mover)), refl, (h, ((tt, tt), refl))))
    (after_is d (Reserved (codes "choose")) refl refl (both_is (choices_is new d) (λ _. both_is {s1 = spell_range} (range_is d) (λ _. mover_is d))))

abbrev spell_effect : Effect → List Token
spell_effect e = Reserved (codes "gate") ∷ (spell_expr e.gate ++ (Reserved (codes "guard") ∷ (spell_expr e.guard ++ block (map spell_update e.updates))))

abbrev FitsEffect : Bool → Effect → Type 0
FitsEffect new e = FitsExpr new e.gate × (FitsExpr new e.guard × AllByRecursion (FitsUpdate new) e.updates)

effect_is : (new : Bool) (d : ℕ) → IsReader d d Any spell_effect (FitsEffect new) (effect_at new d)
unfolding effect_at
effect_is new d = mapped_is make_effect spell_effect (FitsEffect new) (λ p h. refl) (λ p h. h) (λ e h. ((e.gate, (e.guard, e.updates)), refl, h))
    (after_is d (Reserved (codes "gate")) refl refl (both_is (expr_is new d) (λ _. after_is d (Reserved (codes "guard")) refl refl (both_is (expr_is new d) (λ _. updates_is new d)))))

abbrev pub FitsAction : Bool → Action → Type 0
FitsAction new a = IsTrue (allows_action new a)

action_spells : (p : Heading × (Offer × Effect)) → spell_action (make_action p) ≡ spell_heading action_word p.0 ++ (spell_offer p.1.0 ++ spell_effect p.1.1)
action_spells p =
    ap (λ w. action_word ∷ name_token p.0.name ∷ (enclosed spell_param p.0.params ++ (arrow ∷ (enclosed spell_param p.0.outs ++ (Reserved (codes "choose") ∷ w)))))
    (sym (append_assoc (enclosed spell_choice p.1.0.choices) (spell_range (p.1.0.first, p.1.0.last) ++ mover_token p.1.0.mover ∷ []) (spell_effect p.1.1)))
    ∙ ap (λ w. action_word ∷ name_token p.0.name ∷ w) (sym (append_assoc (enclosed spell_param p.0.params) (arrow ∷ enclosed spell_param p.0.outs) (spell_offer p.1.0 ++ spell_effect p.1.1)))

action_to : (new : Bool) (h : Heading) (o : Offer) (e : Effect) → FitsHeading h → FitsOffer new o → FitsEffect new e → FitsAction new (make_action (h, (o, e)))
action_to new h o e f g k =
    and_from (allows_name h.name) _ f.0
    (and_from (list_all allows_param h.params) _ (all_from allows_param h.params f.1.0)
    (and_from (list_all allows_out h.outs) _ (all_from allows_out h.outs f.1.1)
    (and_from (list_all (allows_choice new) o.choices) _ (all_from (allows_choice new) o.choices g)
    (and_from (allows_expr new e.gate) _ k.0
    (and_from (allows_expr new e.guard) _ k.1.0 (all_from (allows_update new) e.updates k.1.1))))))

abbrev action_parts : Action → Heading × (Offer × Effect)
action_parts a = (record { name = a.name; params = a.params; outs = a.outs }, (record { choices = a.choices; first = a.first; last = a.last; mover = a.mover }, record { gate = a.gate; guard = a.guard; updates = a.updates }))

action_from : (new : Bool) (a : Action) → FitsAction new a → FitsHeading (action_parts a).0 × (FitsOffer new (action_parts a).1.0 × FitsEffect new (action_parts a).1.1)
action_from new a h =
    let k1 = and_parts (allows_name a.name) _ h in
    let k2 = and_parts (list_all allows_param a.params) _ k1.1 in
    let k3 = and_parts (list_all allows_out a.outs) _ k2.1 in
    let k4 = and_parts (list_all (allows_choice new) a.choices) _ k3.1 in
    let k5 = and_parts (allows_expr new a.gate) _ k4.1 in
    let k6 = and_parts (allows_expr new a.guard) _ k5.1 in
    ((k1.0, (all_to allows_param a.params k2.0, all_to allows_out a.outs k3.0)), (all_to (allows_choice new) a.choices k4.0, (k5.0, (k6.0, all_to (allows_update new) a.updates k6.1))))

pub action_is : (new : Bool) (d : ℕ) → IsReader d d Any spell_action (FitsAction new) (action_at new d)
unfolding action_at
action_is new d = mapped_is make_action spell_action (FitsAction new) (λ p h. action_spells p) (λ p h. action_to new p.0 p.1.0 p.1.1 h.0 h.1.0 h.1.1) (λ a h. (action_parts a, refl, action_from new a h))
    (both_is {s1 = spell_heading action_word} (heading_is action_word d refl refl) (λ _. both_is {s1 = spell_offer} (offer_is new d) (λ _. effect_is new d)))
