-- What is held where a frame stands in its procedure's body, and before and behind the statement that it comes to next.
use Rattle.std.proofs.Common.{◌≡◌, ℕ, zero, suc, ◌<◌, ◌≤◌, Bool, true, false, List, [], ◌∷◌, ◌++◌, length, refl, sym, ap, ◌∙◌, subst, arith, None, Some, slice_get, get_or, inl, inr, ◌⊎◌}
use Rattle.std.specs.Prelude.{if◌then◌else◌}
use Rattle.std.proofs.lemmas.Bool.{false≢true, not-false, cases_lt}
use Rattle.std.proofs.lemmas.Option.{none-some, same_Some, slice_get_within}
use Rattle.civl_tree.specs.declared.name.Name.{Name}
use Rattle.civl_tree.specs.declared.stmt.Stmt.{Stmt, out-Stmt}
use Rattle.civl_tree.specs.declared.stmt.Stmt.TheOpen.{Stmt-F, Yield, Commit, Intro}
use Rattle.civl_tree.specs.declared.program.Proc.{Proc}
use Rattle.civl_tree.specs.declared.program.Program.{Program}
use Rattle.civl_tree.specs.Numbering.{sizes_of, numbered, statement_at, statements_of}
use Rattle.civl_tree.specs.rules.Names.{names_in_proc}
use Rattle.civl_tree.specs.rules.Rules.{Keeps}
use Rattle.civl_tree.specs.rules.Typing.{typing_rules}
use Rattle.civl_tree.proofs.Numbers.{sizes_are_counts}
use Rattle.civl_tree.proofs.Lists.{get_there}
use Rattle.civl_meaning.specs.Places.{Spot, is_skipped, skip_layer}
use Rattle.civl_meaning.specs.Rest.{Rest, rest_at, place_in, head_of}
use Rattle.civl_linear.specs.Held.{Traced, traced, traced_proc, entry_held, exit_owed, covers}
use Rattle.civl_linear.specs.Lengths.{StandsBeside}
use Rattle.civl_linear.specs.LinearRules.{linear_rules}
use Rattle.civl_linear.proofs.Examples.{traced_form, traced_is}
use Rattle.civl_linear.proofs.Beside.{procs_are_traced}
use Rattle.civl_conditions.proofs.paths.Belonging.{exit_is}
use Rattle.civl_conditions.proofs.paths.Heading.{number_begins}
use Rattle.civl_conditions.proofs.paths.Each.{EachIn, rest_each, each_own}
use Rattle.civl_reduction.specs.permissions.Owned.{held_before}
use Rattle.civl_reduction.proofs.permissions.Flags.{IsWithin, within_then, covers_within}
use Rattle.civl_reduction.proofs.permissions.Tracing.{Tells, Inside, Holding, Some_held, NoLoss, first_within, list_holds, rest_holds}
use Rattle.civl_reduction.proofs.permissions.Rules.{right_targets, no_loss, returned_all}
use Rattle.civl_reduction.proofs.permissions.Linear.{IsLinear, all_linear, entry_linear}

in_front : {A : Type 0} (xs : List A) (last : A) (j : ℕ) (a d : A) → slice_get xs j ≡ Some a → get_or (xs ++ last ∷ []) j d ≡ a
in_front [] last j a d e = absurd (none-some a e)
in_front (x ∷ xs) last zero a d e = same_Some x a e
in_front (x ∷ xs) last (suc j) a d e = in_front xs last j a d e

at_last : {A : Type 0} (xs : List A) (last d : A) (n : ℕ) → n ≡ length xs → get_or (xs ++ last ∷ []) n d ≡ last
at_last [] last d zero e = refl
at_last [] last d (suc n) e = absurd (omega (arith, e))
at_last (x ∷ xs) last d zero e = absurd (omega (arith, e))
at_last (x ∷ xs) last d (suc n) e = at_last xs last d n (omega (arith, e))

module _ (program : Program) (typed : Keeps typing_rules program) (linear : Keeps linear_rules program) (i : ℕ) (proc : Proc) (at : slice_get program.procs i ≡ Some proc) where
  abbrev names : List Name
  names = names_in_proc proc

  abbrev H : ℕ → List Bool
  H = held_before program proc

  abbrev end : ℕ
  end = sizes_of proc.body

  befores : List (List Bool)
  befores = (traced_proc program proc).befores

  beside : StandsBeside (statements_of proc.body) names (traced_proc program proc)
  beside = (procs_are_traced program proc).body

  counts : length (traced_proc program proc).befores ≡ end
  counts = beside.befores ∙ sizes_are_counts proc.body

  tells : Tells program names H end 0 (traced_proc program proc).befores
  tells j n held e g =
      let place : n ≡ j = omega (arith, e) in
      subst (λ m. H m ≡ held) (sym place) (in_front (traced_proc program proc).befores (traced_proc program proc).after j held [] g)

  -- at the exit
  pub exit_held : H end ≡ (traced_proc program proc).after
  exit_held = at_last (traced_proc program proc).befores (traced_proc program proc).after [] end (sym counts)

  kept : NoLoss (traced_proc program proc)
  kept = no_loss program typed linear i proc at beside.losses

  -- what is owed there is held
  pub owed_held : IsWithin (exit_owed proc) (H end)
  owed_held =
      let each = procs_are_traced program proc in
      let same : length (exit_owed proc) ≡ length (traced_proc program proc).after = each.exit ∙ sym beside.after in
      subst (IsWithin (exit_owed proc)) (sym exit_held) (covers_within (exit_owed proc) (traced_proc program proc).after same (not-false (covers (exit_owed proc) (traced_proc program proc).after) (returned_all program typed linear i proc at)))

  -- at the entry
  pub entry_within : IsWithin (H 0) (entry_held proc)
  entry_within =
      let each = procs_are_traced program proc in
      let h = list_holds program names H end proc.body 0 [] (entry_held proc) each.entry tells kept (subst (λ h. IsWithin h (traced_proc program proc).after) (sym exit_held) (λ j e. e)) in
      first_place proc.body (first_within program names H end (numbered 0 proc.body ++ []) (entry_held proc) h)
    where
      first_place : (ss : List Stmt) → IsWithin (H (place_in (sizes_of ss) (numbered 0 ss ++ []))) (entry_held proc) → IsWithin (H 0) (entry_held proc)
      first_place [] w = w
      first_place (s ∷ ss) w = w

  -- ---- at any place

  pub at_place : (w : ℕ) → Some_held program names H end (rest_at proc.body w)
  at_place w =
      let each = procs_are_traced program proc in
      rest_holds program names H end proc.body (entry_held proc) each.entry tells kept (subst (λ h. IsWithin h (traced_proc program proc).after) (sym exit_held) (λ j e. e)) w

  pub place_is : (w : ℕ) → w ≤ end → place_in end (rest_at proc.body w) ≡ w
  place_is w h = go (cases_lt w end)
    where
      count : length (statements_of proc.body) ≡ end
      count = sizes_are_counts proc.body

      go : (w < end) ⊎ (end ≤ w) → place_in end (rest_at proc.body w) ≡ w
      go (inl l) =
          let s = get_there (statements_of proc.body) w (omega (arith, count, l)) in
          let b = number_begins proc.body w s.0 s.1 in
          ap (place_in end) b.1
      go (inr g) =
          let same : end ≡ w = omega (arith, g, h) in
          subst (λ m. place_in end (rest_at proc.body m) ≡ m) same (ap (place_in end) (exit_is proc.body))

  -- what stands in the body with its number
  abbrev pub Numbered : ℕ → Stmt → Type 0
  Numbered n s = statement_at proc.body n ≡ Some s

  pub all_numbered : (w : ℕ) → EachIn Numbered (rest_at proc.body w)
  all_numbered w = rest_each Numbered proc.body w (λ j n s e g. let place : n ≡ j = omega (arith, e) in subst (λ m. statement_at proc.body m ≡ Some s) (sym place) g)

  -- a statement that is passed over leaves what is held
  layer_skipped : (d : Stmt-F Stmt) (held : List Bool) → skip_layer d ≡ true → (traced_form program names d held).after ≡ held
  layer_skipped (Yield e) held h = refl
  layer_skipped Commit held h = refl
  layer_skipped (Intro x e) held h = refl
  layer_skipped _ held h = absurd (false≢true h)

  skipped : (s : Stmt) (held : List Bool) → is_skipped s ≡ true → (traced program names s held).after ≡ held
  skipped s held h = ap (λ (t : Traced). t.after) (traced_is program names s held) ∙ layer_skipped (out-Stmt s) held h

  -- a frame that stands where `from` is held comes next to this statement, behind which `rest` is still to run
  pub record Comes (from : List Bool) (spot : Spot) : Type 0 where
    pub flags : IsWithin (H spot.number) from
    pub here : statement_at proc.body spot.number ≡ Some spot.stmt
    pub inside : Inside program names H end spot.number spot.stmt
    pub rest : Rest
    pub next : spot.next ≡ place_in end rest
    pub behind : Holding program names H end rest (traced program names spot.stmt (H spot.number)).after

  pub comes : (r : Rest) (held : List Bool) → Holding program names H end r held → EachIn Numbered r → (spot : Spot) → head_of end r ≡ Some spot → Comes held spot
  comes [] held h e spot q = absurd (none-some spot q)
  comes ((n, s) ∷ k) held h e spot q = go (is_skipped s) refl (λ g. comes k (traced program names s (H n)).after h.2 e.1 spot g) q
    where
      less : (more : List Bool) → IsWithin more held → Comes more spot → Comes held spot
      less more w c = record { flags = within_then (H spot.number) more held c.flags w; here = c.here; inside = c.inside; rest = c.rest; next = c.next; behind = c.behind }

      go : (b : Bool) → is_skipped s ≡ b → (head_of end k ≡ Some spot → Comes (traced program names s (H n)).after spot) → (if b then head_of end k else Some (record { number = n; stmt = s; next = place_in end k })) ≡ Some spot → Comes held spot
      go true b ih g = less (traced program names s (H n)).after (λ j f. h.0 j (subst (λ x. slice_get x j ≡ Some true) (skipped s (H n) b) f)) (ih g)
      go false b ih g =
          let same : record { number = n; stmt = s; next = place_in end k } ≡ spot = same_Some _ spot g in
          subst (Comes held) same (record { flags = h.0; here = each_own (λ m t. statement_at proc.body m ≡ Some t) n s e.0; inside = h.1; rest = k; next = refl; behind = h.2 })

  pub ends : (r : Rest) (held : List Bool) → Holding program names H end r held → head_of end r ≡ None → IsWithin (H end) held
  ends [] held h q = h
  ends ((n, s) ∷ k) held h q = go (is_skipped s) refl (λ g. ends k (traced program names s (H n)).after h.2 g) q
    where
      go : (b : Bool) → is_skipped s ≡ b → (head_of end k ≡ None → IsWithin (H end) (traced program names s (H n)).after) → (if b then head_of end k else Some (record { number = n; stmt = s; next = place_in end k })) ≡ None → IsWithin (H end) held
      go true b ih g = λ j f. h.0 j (subst (λ x. slice_get x j ≡ Some true) (skipped s (H n) b) (ih g j f))
      go false b ih g = absurd (none-some _ (sym g))

  -- ---- before a statement

  pub told_before : (n : ℕ) (s : Stmt) → statement_at proc.body n ≡ Some s → slice_get (traced_proc program proc).befores n ≡ Some (H n)
  told_before n s here =
      let within = slice_get_within (statements_of proc.body) n s here in
      let same = beside.befores in
      let told = get_there (traced_proc program proc).befores n (omega (arith, within, same)) in
      told.1 ∙ ap Some (sym (tells n n told.0 (omega arith) told.1))

  all_before : (n : ℕ) (held : List Bool) → slice_get (traced_proc program proc).befores n ≡ Some held → IsLinear proc held
  all_before = (all_linear program proc proc.body 0 (entry_held proc) (λ j n s e g. let place : n ≡ j = omega (arith, e) in right_targets program typed linear i proc at n s (subst (λ m. statement_at proc.body m ≡ Some s) (sym place) g)) (entry_linear proc)).0

  pub before_linear : (n : ℕ) (held : List Bool) → slice_get (traced_proc program proc).befores n ≡ Some held → IsLinear proc held
  before_linear n held e = all_before n held e
