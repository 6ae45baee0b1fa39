-- Serves the parser: readers of actions. The number d says how many more brackets may be open;
-- `new` says that the version is 2.
use Rattle.std.specs.Prelude.{ℕ, ◌-◌, Bool, true, List, [], ◌∷◌, codes, Option}
use Rattle.civl_tree.specs.Token.{Token, Reserved, Sign}
use Rattle.civl_tree.specs.Spelling.{open_paren, close_paren, open_brace, close_brace, semicolon, colon, becomes}
use Rattle.civl_tree.specs.declared.name.Name.{Name}
use Rattle.civl_tree.specs.declared.expr.Sort.{Sort}
use Rattle.civl_tree.specs.declared.expr.Expr.{Expr}
use Rattle.civl_tree.specs.declared.action.Mover.{Mover}
use Rattle.civl_tree.specs.declared.action.Mover.TheVariants as movers
use Rattle.civl_tree.specs.declared.action.Choice.{Choice}
use Rattle.civl_tree.specs.declared.action.Update.{Update}
use Rattle.civl_tree.specs.declared.action.Action.{Action}
use Rattle.civl_phrases.specs.Reader.{Reader, after, opened, both, mapped, then_token, leaf}
use Rattle.civl_phrases.specs.List.{repeated, enclosed}
use Rattle.civl_phrases.specs.Leaf.{a_number, is_named}
use Rattle.civl_phrases.specs.Table.{lookup, guarded}
use Rattle.civl_expressions.specs.declared.params.Heading.{Heading}
use Rattle.civl_declarations.specs.declared.actions.Offer.{Offer}
use Rattle.civl_declarations.specs.declared.actions.Effect.{Effect}
use Rattle.civl_expressions.specs.readers.Names.{name_at}
use Rattle.civl_expressions.specs.readers.Exprs.{sort_at, expr_at}
use Rattle.civl_expressions.specs.readers.Headings.{heading_at}

-- ---- choices and updates

abbrev pub make_choice : Name × (Sort × Expr) → Choice
make_choice p = record { name = p.0; sort = p.1.0; offer = p.1.1 }

unfoldable pub choice_at : Bool → ℕ → Reader Choice
choice_at new d = mapped make_choice (both name_at (λ _. after colon (both (sort_at d) (λ _. after (Sign (codes "=")) (expr_at new d)))))

unfoldable pub choices_at : Bool → ℕ → Reader (List Choice)
choices_at new d = opened open_paren d (enclosed close_paren (choice_at new (d - 1)))

abbrev pub make_update : Name × Expr → Update
make_update p = record { target = p.0; expr = p.1 }

unfoldable pub update_at : Bool → ℕ → Reader Update
update_at new d = mapped make_update (both name_at (λ _. after becomes (then_token semicolon (expr_at new d))))

unfoldable pub updates_at : Bool → ℕ → Reader (List Update)
updates_at new d = opened open_brace d (then_token close_brace (repeated is_named (update_at new (d - 1))))

-- ---- actions

abbrev pub mover_table : List (Token × Mover)
mover_table = (Reserved (codes "atomic"), movers.Atomic) ∷ (Reserved (codes "right"), movers.Right) ∷ (Reserved (codes "left"), movers.Left) ∷ (Reserved (codes "both"), movers.Both) ∷ []

abbrev pub mover_of : Token → Option Mover
mover_of token = guarded (λ _. true) (lookup mover_table token)

unfoldable pub mover_at : Reader Mover
mover_at = leaf mover_of

-- layers number to number
unfoldable pub range_at : Reader (ℕ × ℕ)
range_at = after (Reserved (codes "layers")) (both a_number (λ _. after (Reserved (codes "to")) a_number))

abbrev pub make_offer : List Choice × ((ℕ × ℕ) × Mover) → Offer
make_offer p = record { choices = p.0; first = p.1.0.0; last = p.1.0.1; mover = p.1.1 }

-- choose ( list(choice) ) layers number to number mover
unfoldable pub offer_at : Bool → ℕ → Reader Offer
offer_at new d = mapped make_offer (after (Reserved (codes "choose")) (both (choices_at new d) (λ _. both range_at (λ _. mover_at))))

abbrev pub make_effect : Expr × (Expr × List Update) → Effect
make_effect p = record { gate = p.0; guard = p.1.0; updates = p.1.1 }

-- gate expr guard expr { update* }
unfoldable pub effect_at : Bool → ℕ → Reader Effect
effect_at new d = mapped make_effect (after (Reserved (codes "gate")) (both (expr_at new d) (λ _. after (Reserved (codes "guard")) (both (expr_at new d) (λ _. updates_at new d)))))

abbrev pub make_action : Heading × (Offer × Effect) → Action
make_action p = record {
  name = p.0.name;
  params = p.0.params;
  outs = p.0.outs;
  choices = p.1.0.choices;
  first = p.1.0.first;
  last = p.1.0.last;
  mover = p.1.0.mover;
  gate = p.1.1.gate;
  guard = p.1.1.guard;
  updates = p.1.1.updates;
}

abbrev pub action_word : Token
action_word = Reserved (codes "action")

unfoldable pub action_at : Bool → ℕ → Reader Action
action_at new d = mapped make_action (both (heading_at action_word d) (λ _. both (offer_at new d) (λ _. effect_at new d)))
