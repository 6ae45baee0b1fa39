-- The parts that are printed make the whole spelling.
use Rattle.std.proofs.Common.{◌≡◌, Bool, true, false, cond, List, [], ◌∷◌, ◌++◌, append_assoc, refl, ap, ◌∙◌}
use Rattle.std.specs.Prelude.{codes}
use Rattle.civl_tree.specs.declared.action.Action.{Action}
use Rattle.civl_tree.specs.declared.program.Global.{Global}
use Rattle.civl_tree.specs.declared.program.Proc.{Proc}
use Rattle.civl_tree.specs.Token.{Token, Reserved}
use Rattle.civl_tree.specs.Spelling.{semicolon, colon, arrow, name_token, enclosed, spell_sort, spell_expr}
use Rattle.civl_tree.specs.SpellingProgram.{mover_token, spell_param, spell_out, spell_rank_of, spell_global, spell_action, spell_proc}
use Rattle.civl_printing.specs.inner.Parts.{signature, choices_of, layers_of, conditions, updates_of, body_of, linear_of}

-- two phrases with a token between them, and what follows
between : (xs ys zs : List Token) (token : Token) → (xs ++ (token ∷ ys)) ++ zs ≡ xs ++ (token ∷ (ys ++ zs))
between xs ys zs token = append_assoc xs (token ∷ ys) zs

pub action_tokens : (action : Action) → Reserved (codes "action") ∷ (signature action.name action.params action.outs ++ (choices_of action.choices ++ (layers_of action.first action.last
    ++ (mover_token action.mover ∷ (conditions action.gate action.guard ++ updates_of action.updates))))) ≡ spell_action action
unfolding signature choices_of layers_of conditions updates_of
action_tokens action =
    let head = λ (ts : List Token). Reserved (codes "action") ∷ (signature action.name action.params action.outs ++ (choices_of action.choices ++ (layers_of action.first action.last ++ (mover_token action.mover ∷ Reserved (codes "gate") ∷ ts)))) in
    ap head (between (spell_expr action.gate) (spell_expr action.guard) (updates_of action.updates) (Reserved (codes "guard")))
    ∙ ap (λ ts. Reserved (codes "action") ∷ name_token action.name ∷ ts)
    (between (enclosed spell_param action.params) (enclosed spell_out action.outs)
    (choices_of action.choices ++ (layers_of action.first action.last ++ (mover_token action.mover ∷ (Reserved (codes "gate") ∷ (spell_expr action.gate ++ (Reserved (codes "guard") ∷ (spell_expr action.guard ++ updates_of action.updates)))))))
    arrow)

pub proc_tokens : (proc : Proc) → Reserved (codes "proc") ∷ (signature proc.name proc.params proc.outs ++ (spell_rank_of proc.refines ++ body_of proc.locals proc.body)) ≡ spell_proc proc
unfolding signature body_of
proc_tokens proc =
    ap (λ ts. Reserved (codes "proc") ∷ name_token proc.name ∷ ts)
    (between (enclosed spell_param proc.params) (enclosed spell_out proc.outs) (spell_rank_of proc.refines ++ body_of proc.locals proc.body) arrow)

-- a flag's token, and what follows
flagged : (b : Bool) (token : Token) (ts : List Token) → cond b (token ∷ []) [] ++ ts ≡ cond b (token ∷ ts) ts
flagged true token ts = refl
flagged false token ts = refl

pub global_tokens : (global : Global)
    → Reserved (codes "global") ∷ (linear_of global.linear ++ ((name_token global.name ∷ colon ∷ spell_sort global.sort) ++ (layers_of global.first global.last ++ semicolon ∷ []))) ≡ spell_global global
unfolding layers_of
global_tokens global =
    ap (λ ts. Reserved (codes "global") ∷ ts)
    (flagged global.linear (Reserved (codes "linear")) ((name_token global.name ∷ colon ∷ spell_sort global.sort) ++ (layers_of global.first global.last ++ semicolon ∷ [])))
