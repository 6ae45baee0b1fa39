-- Where paths end, and what isn't passed.
use Rattle.std.specs.Prelude.{map, All}
use Rattle.std.proofs.Common.{◌≡◌, ◌∙◌, ℕ, false, not, List, [], ◌∷◌, ◌++◌, sym, ap, ap₂, subst}
use Rattle.std.proofs.lemmas.List.{map-append}
use Rattle.std.proofs.lemmas.List.Elements.{All-push}
use Rattle.civl_tree.specs.declared.program.Proc.{Proc}
use Rattle.civl_tree.specs.declared.program.Program.{Program}
use Rattle.civl_terms.specs.declared.node.Node.{Node}
use Rattle.civl_terms.specs.Building.{Grows}
use Rattle.civl_actions.proofs.Staying.{values_stay}
use Rattle.civl_states.specs.formula_parts.Said.{IsTest}
use Rattle.civl_moves.specs.sweeps.Sweeps.{cut_at, halted, stopped}
use Rattle.civl_moves.specs.sweeps.Sweeps.{Stop as Stopped}
use Rattle.civl_moves.specs.declared.sweep.Stop.{Stop}
use Rattle.civl_moves.specs.declared.sweep.Sweep.{Sweep}
use Rattle.civl_moves.specs.States.{stop_at, CanStop, CanSweep, Moves}
use Rattle.civl_moves.proofs.States.{test_value, test_bool, bool_same, same_swept, stops_same, can_stays, stop_same}

module _ (old new : List Node) (program : Program) (proc : Proc) (s : Sweep) (g : Grows old new) (c : CanSweep old program proc s) (nay : ℕ) (never : IsTest new nay (λ env. false)) where
  now : CanSweep new program proc s
  now = can_stays old new program proc g s c

  pub halt_moves : Moves old new program proc s (record s { live = nay }) (λ env. halted)
  halt_moves = record {
    can = record { live = test_bool new nay _ never; globals = now.globals; locals = now.locals; done = now.done; safe = now.safe; once = now.once; stops = now.stops };
    is = λ env fits.
        same_swept s.onward _ _ _ _ _ _ _ _ _ _ _ _ _ _ (test_value new nay _ never env fits) (values_stay env old new s.globals _ c.globals g) (values_stay env old new s.locals _ c.locals g) (bool_same old new s.done g c.done env)
        (ap not (bool_same old new s.safe g c.safe env)) (ap not (bool_same old new s.once g c.once env)) (stops_same old new program proc g s.stops c.stops env);
  }

  pub stop_moves : Moves old new program proc s (record s { live = nay; onward = false }) (λ env. stopped)
  stop_moves = record {
    can = record { live = test_bool new nay _ never; globals = now.globals; locals = now.locals; done = now.done; safe = now.safe; once = now.once; stops = now.stops };
    is = λ env fits.
        same_swept false _ _ _ _ _ _ _ _ _ _ _ _ _ _ (test_value new nay _ never env fits) (values_stay env old new s.globals _ c.globals g) (values_stay env old new s.locals _ c.locals g) (bool_same old new s.done g c.done env)
        (ap not (bool_same old new s.safe g c.safe env)) (ap not (bool_same old new s.once g c.once env)) (stops_same old new program proc g s.stops c.stops env);
  }

  abbrev here : ℕ → Stop
  here number = record { number = number; taken = s.live; globals = s.globals; locals = s.locals; done = s.done }

  can_here : (number : ℕ) → CanStop old program proc (here number)
  can_here number = record { taken = c.live; globals = c.globals; locals = c.locals; done = c.done }

  pub cut_moves : (number : ℕ) (stop : Stop) (stops : List Stop) → stop ≡ here number → stops ≡ s.stops ++ stop ∷ [] → Moves old new program proc s (record s { live = nay; onward = false; stops = stops }) (λ env. cut_at number)
  cut_moves number stop stops e w =
      let is : stops ≡ s.stops ++ here number ∷ [] = w ∙ ap (λ (x : Stop). s.stops ++ x ∷ []) e in
      record {
        can = record {
          live = test_bool new nay _ never;
          globals = now.globals;
          locals = now.locals;
          done = now.done;
          safe = now.safe;
          once = now.once;
          stops = subst (All (CanStop new program proc)) (sym is) (All-push (CanStop new program proc) s.stops (here number) now.stops (record { taken = now.live; globals = now.globals; locals = now.locals; done = now.done }));
        };
        is = λ env fits.
            same_swept false _ _ _ _ _ _ _ _ _ _ _ _ _ _ (test_value new nay _ never env fits) (values_stay env old new s.globals _ c.globals g) (values_stay env old new s.locals _ c.locals g) (bool_same old new s.done g c.done env)
            (ap not (bool_same old new s.safe g c.safe env)) (ap not (bool_same old new s.once g c.once env))
            (ap (map (stop_at env new)) is ∙ map-append (stop_at env new) s.stops (here number ∷ []) ∙ ap₂ (λ (xs : List Stopped) (x : Stopped). xs ++ x ∷ []) (stops_same old new program proc g s.stops c.stops env) (stop_same old new program proc g (here number) (can_here number) env));
      }
