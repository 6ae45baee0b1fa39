-- What the code went over, part by part.
use Rattle.std.proofs.Common.{◌≡◌, Some, ℕ, ◌+◌, ◌<◌, ◌≤◌, Bool, true, false, List, [], ◌∷◌, ◌++◌, map, drop, length, get_or, refl, sym, ap, ap₂, ◌∙◌, subst}
use Rattle.std.proofs.lemmas.Bool.{false≢true}
use Rattle.std.proofs.lemmas.List.{append-nil, append_assoc, drop_all}
use Rattle.std.specs.Prelude.{if◌then◌else◌, IfOk, Result, Ok, Err}
use Rattle.civl_tree.proofs.Lists.{drop_is}
use Rattle.civl_tree.specs.declared.expr.Expr.{Expr}
use Rattle.civl_tree.specs.declared.stmt.Stmt.{Stmt, out-Stmt, roll-Stmt, roll-out-Stmt, the_lemmas as of_stmt}
use Rattle.civl_tree.specs.declared.stmt.Stmt as tree
use Rattle.civl_tree.specs.declared.stmt.Stmt.TheOpen as stmt
use Rattle.civl_tree.specs.Numbering.{size_of, sizes_of, numbered, exit_number}
use Rattle.civl_meaning.specs.Rest.{Rest, rest_at}
use Rattle.civl_meaning.specs.Remaining.{rest_of}
use Rattle.civl_meaning.specs.declared.remaining.Numbered.{Numbered}
use Rattle.civl_layers.specs.declared.cut.CutKind.{CutKind}
use Rattle.civl_layers.specs.declared.cut.CutKind.TheVariants as kind
use Rattle.civl_conditions.specs.paths.Ends.{is_entry}
use Rattle.civl_conditions.specs.paths.Paths.{Course, Progress, Outcome, tested, pass}
use Rattle.civl_traces.specs.declared.walked.Moment.{Moment}
use Rattle.civl_traces.specs.declared.walked.Changed.{Changed}
use Rattle.civl_traces.specs.declared.walked.Passage.{Passage}
use Rattle.civl_traces.specs.declared.walked.Ending.{Ending}
use Rattle.civl_traces.specs.declared.walked.Ending.TheVariants as ending
use Rattle.civl_traces.specs.declared.walked.Walked.{Walked}
use Rattle.civl_traces.specs.declared.walking.Walker.{Walker}
use Rattle.civl_traces.specs.Traces.{Passed, Trace, Onward, decided, moved, then_told, told_by, exits, tell, tell_all, tell_loop, tell_layer, tell_rest, tell_kind}
use Rattle.civl_traces.specs.Told.{progress, passage, told}
use Rattle.civl_traces.specs.inner.Walking.{outcome, goes_on, is_if, is_loop, behind, with_passage, finished, Went}
use Rattle.civl_traces.proofs.Changes.{unchanged}
use Rattle.civl_traces.proofs.Telling.{tells, tell_is, tell_none, tell_more, tell_yield_loop, tell_rank_loop}

pub ok_as : {A E : Type 0} (P Q : A → Type 0) (r : Result A E) → ((x : A) → P x → Q x) → IfOk r P → IfOk r Q
ok_as P Q (Ok x) f h = f x h
ok_as P Q (Err e) f h = h

abbrev pub Tells : Type 0
Tells = Onward → Progress → Trace

-- what the code has told, and what is to be told from there
abbrev pub so_far : Walker → Tells → Onward → Walked
so_far w telling onward = behind w.passed (told (telling onward (progress w.moment)))

-- with one statement more that was passed
passed_first : (w : Walker) (q : Passed) (t : Trace) → behind w.passed (told (then_told q t)) ≡ behind (with_passage q w).passed (told t)
passed_first w q t =
    ap (λ (ps : List Passage). record { passed = ps; ending = (told t).ending; at = t.at; end = (told t).end })
    (sym (append_assoc w.passed (passage q ∷ []) (map passage t.passed)))

-- a statement that has a condition changes nothing
pub decided_told : (w : Walker) (n : ℕ) (t : Bool) (list : List Changed) (passed : List Passage) → list ≡ []
    → passed ≡ w.passed ++ record { statement = n; took = Some t; changed = list; done = w.moment.done; again = w.moment.again } ∷ []
    → ◌≡◌ {A = Walker} (record { passed = passed; moment = w.moment; at = w.at }) (with_passage (decided n t (progress w.moment)) w)
decided_told w n t list passed none is =
    let all : List Changed → Walker = λ l. record { passed = w.passed ++ record { statement = n; took = Some t; changed = l; done = w.moment.done; again = w.moment.again } ∷ []; moment = w.moment; at = w.at } in
    let with : List Passage → Walker = λ ps. record { passed = ps; moment = w.moment; at = w.at } in
    ap with is ∙ ap all (none ∙ sym (unchanged (progress w.moment)))

-- a statement is told, and then the rest
pub went_told : (a b now : Walker) (e : Ending) (q : Passed) (first rest : Tells) → ((onward : Onward) → first onward (progress a.moment) ≡ then_told q (rest onward (progress a.moment))) → now ≡ with_passage q a → Went now e b rest → Went a e b first
went_told a b now e q first rest s is h onward =
    ap (λ (t : Trace). behind a.passed (told t)) (s onward) ∙ passed_first a q (rest onward (progress a.moment))
    ∙ ap (λ (w : Walker). so_far w rest onward) (sym is) ∙ h onward

-- ---- one statement

module _ (c : Course) (s : Stmt) (n : ℕ) where
  tell_by : (d : stmt.Stmt-F Stmt) → out-Stmt s ≡ d → (onward : Onward) (p : Progress) → tell c s s n onward p ≡ tells c d s n onward p
  tell_by d o onward p = tell_is c s s n onward p ∙ ap (λ (d : stmt.Stmt-F Stmt). tells c d s n onward p) o

  pub went_if : (a b now : Walker) (e : Ending) (test : Expr) (x y : List Stmt) (t : Bool) → out-Stmt s ≡ stmt.If test x y → t ≡ tested c test (progress a.moment) → now ≡ with_passage (decided n t (progress a.moment)) a
      → Went now e b (tell_all c (if t then numbered (n + 1) x else numbered (n + 1 + sizes_of x) y)) → Went a e b (tell c s s n)
  went_if a b now e test x y true o u is h =
      went_told a b now e (decided n true (progress a.moment)) (tell c s s n) (tell_all c (numbered (n + 1) x)) (λ onward. tell_by (stmt.If test x y) o onward (progress a.moment) ∙ rw (← u) refl) is h
  went_if a b now e test x y false o u is h =
      went_told a b now e (decided n false (progress a.moment)) (tell c s s n) (tell_all c (numbered (n + 1 + sizes_of x) y)) (λ onward. tell_by (stmt.If test x y) o onward (progress a.moment) ∙ rw (← u) refl) is h

  -- into the one branch, and into the other
  pub went_yes : (a b now : Walker) (e : Ending) (test : Expr) (x y : List Stmt) (t : Bool) → t ≡ true → out-Stmt s ≡ stmt.If test x y → t ≡ tested c test (progress a.moment)
      → now ≡ with_passage (decided n t (progress a.moment)) a → Went now e b (tell_all c (numbered (n + 1) x)) → Went a e b (tell c s s n)
  went_yes a b now e test x y true i o u is h = went_if a b now e test x y true o u is h
  went_yes a b now e test x y false i o u is h = absurd (false≢true i)

  pub went_no : (a b now : Walker) (e : Ending) (test : Expr) (x y : List Stmt) (t : Bool) (k : ℕ) → t ≡ false → k ≡ sizes_of x → out-Stmt s ≡ stmt.If test x y → t ≡ tested c test (progress a.moment)
      → now ≡ with_passage (decided n t (progress a.moment)) a → Went now e b (tell_all c (numbered (n + 1 + k) y)) → Went a e b (tell c s s n)
  went_no a b now e test x y true k i j o u is h = absurd (false≢true (sym i))
  went_no a b now e test x y false k i j o u is h = went_if a b now e test x y false o u is (subst (λ (k : ℕ). Went now e b (tell_all c (numbered (n + 1 + k) y))) j h)

  by_pass : (d : stmt.Stmt-F Stmt) → is_if d ≡ false → (onward : Onward) (p : Progress) → tells c d s n onward p ≡ told_by n p (pass c s n p) onward
  by_pass (stmt.If e a b) h onward p = absurd (false≢true (sym h))
  by_pass (stmt.While e a) h onward p = refl
  by_pass (stmt.YieldLoop e i a) h onward p = refl
  by_pass (stmt.RankLoop e r i a) h onward p = refl
  by_pass (stmt.Assign x e) h onward p = refl
  by_pass (stmt.Assert e) h onward p = refl
  by_pass (stmt.Call f xs rs) h onward p = refl
  by_pass (stmt.Yield e) h onward p = refl
  by_pass stmt.Commit h onward p = refl
  by_pass (stmt.Intro x e) h onward p = refl
  by_pass (stmt.Spawn f xs) h onward p = refl

  by_outcome : (o : Outcome) → is_if (out-Stmt s) ≡ false → (p : Progress) → o ≡ pass c s n p → (onward : Onward) → tell c s s n onward p ≡ told_by n p o onward
  by_outcome o h p e onward =
      tell_is c s s n onward p ∙ by_pass (out-Stmt s) h onward p ∙ ap (λ (o : Outcome). told_by n p o onward) (sym e)

  -- the state behind a statement, or where the path ends before it
  abbrev pub stands : Walker → Moment → ℕ → Walker
  stands a m at = record { passed = a.passed; moment = m; at = at }

  pub went_past : (a now : Walker) (m : Moment) (e : Ending) → is_if (out-Stmt s) ≡ false → goes_on e ≡ true → outcome e n m ≡ pass c s n (progress a.moment)
      → now ≡ with_passage (moved n (progress a.moment) (progress m)) (stands a m a.at) → Went a e now (tell c s s n)
  went_past a now m ending.Past h g o is onward =
      ap (λ (t : Trace). behind a.passed (told t)) (by_outcome _ h (progress a.moment) o onward)
      ∙ passed_first a (moved n (progress a.moment) (progress m)) (onward (progress m))
      ∙ ap (λ (w : Walker). behind w.passed (told (onward (progress w.moment)))) (sym is)
  went_past a now m ending.Comes h g o is onward = absurd (false≢true g)
  went_past a now m ending.Fails h g o is onward = absurd (false≢true g)
  went_past a now m ending.Stops h g o is onward = absurd (false≢true g)

  pub went_ends : (a : Walker) (m : Moment) (e : Ending) → is_if (out-Stmt s) ≡ false → goes_on e ≡ false → outcome e n m ≡ pass c s n (progress a.moment)
      → Went a e (stands a m n) (tell c s s n)
  went_ends a m ending.Past h g o onward = absurd (false≢true (sym g))
  went_ends a m ending.Comes h g o onward = ap (λ (t : Trace). behind a.passed (told t)) (by_outcome _ h (progress a.moment) o onward)
  went_ends a m ending.Fails h g o onward = ap (λ (t : Trace). behind a.passed (told t)) (by_outcome _ h (progress a.moment) o onward)
  went_ends a m ending.Stops h g o onward = ap (λ (t : Trace). behind a.passed (told t)) (by_outcome _ h (progress a.moment) o onward)

-- ---- one part behind another

-- a part was told, and another is to be told
abbrev pub Goes : Walker → Tells → Walker → Tells → Type 0
Goes a first b second = (onward : Onward) → so_far a first onward ≡ so_far b second onward

-- where the code went on, what comes behind is to be told
pub went_on : (a b : Walker) (e : Ending) (first : Tells) → Went a e b first → goes_on e ≡ true → (second : Tells) → Goes a (λ onward. first (second onward)) b second
went_on a b ending.Past first h g second = λ onward. h (second onward)
went_on a b ending.Comes first h g second = absurd (false≢true g)
went_on a b ending.Fails first h g second = absurd (false≢true g)
went_on a b ending.Stops first h g second = absurd (false≢true g)

-- where it ended, nothing
pub went_out : (a b : Walker) (e : Ending) (first : Tells) → Went a e b first → goes_on e ≡ false → (second : Tells) → Went a e b (λ onward. first (second onward))
went_out a b ending.Past first h g second = absurd (false≢true (sym g))
went_out a b ending.Comes first h g second = λ onward. h (second onward)
went_out a b ending.Fails first h g second = λ onward. h (second onward)
went_out a b ending.Stops first h g second = λ onward. h (second onward)

module _ (c : Course) where
  all_by : (r : Rest) (n : ℕ) (s : Stmt) (k : Rest) → r ≡ (n, s) ∷ k → (onward : Onward) (p : Progress) → tell_all c r onward p ≡ tell c s s n (tell_all c k onward) p
  all_by r n s k e onward p = ap (λ (r : Rest). tell_all c r onward p) e ∙ tell_more c n s k onward p

  module _ (a b d : Walker) (e : Ending) (first : Tells) (r : Rest) (n : ℕ) (s : Stmt) (k : Rest) where
    pub goes_next : r ≡ (n, s) ∷ k → Goes a first b (tell_all c r) → Went b e d (tell c s s n) → goes_on e ≡ true → Goes a first d (tell_all c k)
    goes_next q h w g onward =
        h onward ∙ ap (λ (t : Trace). behind b.passed (told t)) (all_by r n s k q onward (progress b.moment)) ∙ went_on b d e (tell c s s n) w g (tell_all c k) onward

    pub goes_out : r ≡ (n, s) ∷ k → Goes a first b (tell_all c r) → Went b e d (tell c s s n) → goes_on e ≡ false → Went a e d first
    goes_out q h w g onward =
        h onward ∙ ap (λ (t : Trace). behind b.passed (told t)) (all_by r n s k q onward (progress b.moment)) ∙ went_out b d e (tell c s s n) w g (tell_all c k) onward

  pub goes_end : (a b : Walker) (first : Tells) (r : Rest) → r ≡ [] → Goes a first b (tell_all c r) → Went a ending.Past b first
  goes_end a b first r q h onward = h onward ∙ ap (λ (r : Rest). so_far b (tell_all c r) onward) q ∙ ap (λ (t : Trace). behind b.passed (told t)) (tell_none c onward (progress b.moment))

  -- ---- from a cut

  pub tell_joined : (xs ys : Rest) (onward : Onward) → tell_all c (xs ++ ys) onward ≡ tell_all c xs (tell_all c ys onward)
  unfolding tell_all
  tell_joined [] ys onward = refl
  tell_joined (q ∷ xs) ys onward = ap (tell c q.1 q.1 q.0) (tell_joined xs ys onward)

  module _ (a now : Walker) (test : Expr) (body : List Stmt) (r : Rest) (n : ℕ) (s : Stmt) (k : Rest) (begins : r ≡ (n, s) ∷ k) where
    -- past the loop, and through its body to it again
    pub loop_no : (b : Walker) (e : Ending) (t : Bool) → t ≡ false → t ≡ tested c test (progress a.moment) → now ≡ with_passage (decided n t (progress a.moment)) a
        → Went now e b (tell_all c k) → Went a e b (tell_loop c test body r)
    loop_no b e true i u is h = absurd (false≢true (sym i))
    loop_no b e false i u is h =
        went_told a b now e (decided n false (progress a.moment)) (tell_loop c test body r) (tell_all c k) (λ onward. rw (begins, ← u) refl) is h

    loop_in : (b : Walker) (e : Ending) (t : Bool) → t ≡ true → t ≡ tested c test (progress a.moment) → now ≡ with_passage (decided n t (progress a.moment)) a
        → Went now e b (λ onward. tell_all c (numbered (n + 1) body) (tell_all c r onward)) → Went a e b (tell_loop c test body r)
    loop_in b e false i u is h = absurd (false≢true i)
    loop_in b e true i u is h =
        went_told a b now e (decided n true (progress a.moment)) (tell_loop c test body r) (λ onward. tell_all c (numbered (n + 1) body) (tell_all c r onward))
        (λ onward. rw begins (ap (λ (f : Bool). then_told (decided n f (progress a.moment)) (if f then tell_all c (numbered (n + 1) body ++ (n, s) ∷ k) onward (progress a.moment) else tell_all c k onward (progress a.moment))) (sym u)
        ∙ ap (λ (f : Onward). then_told (decided n true (progress a.moment)) (f (progress a.moment))) (tell_joined (numbered (n + 1) body) ((n, s) ∷ k) onward))) is h

    pub loop_out : (b : Walker) (e : Ending) (t : Bool) → t ≡ true → t ≡ tested c test (progress a.moment) → now ≡ with_passage (decided n t (progress a.moment)) a
        → Went now e b (tell_all c (numbered (n + 1) body)) → goes_on e ≡ false → Went a e b (tell_loop c test body r)
    loop_out b e t i u is h g = loop_in b e t i u is (went_out now b e (tell_all c (numbered (n + 1) body)) h g (tell_all c r))

    pub loop_again : (b d : Walker) (e f : Ending) (t : Bool) → t ≡ true → t ≡ tested c test (progress a.moment) → now ≡ with_passage (decided n t (progress a.moment)) a
        → Went now e b (tell_all c (numbered (n + 1) body)) → goes_on e ≡ true → Went b f d (tell_all c r) → Went a f d (tell_loop c test body r)
    loop_again b d e f t i u is h g l = loop_in d f t i u is (λ onward. went_on now b e (tell_all c (numbered (n + 1) body)) h g (tell_all c r) onward ∙ l onward)

  -- a statement that is a cut, by its layer
  rest_by : (d : stmt.Stmt-F Stmt) (r : Rest) (n : ℕ) (s : Stmt) (k : Rest) → r ≡ (n, s) ∷ k → out-Stmt s ≡ d → (onward : Onward) (p : Progress) → tell_rest c r onward p ≡ tell_layer c d r onward p
  rest_by d r n s k b o onward p = rw b (ap (λ (d : stmt.Stmt-F Stmt). tell_layer c d ((n, s) ∷ k) onward p) o)

  module _ (a b : Walker) (e : Ending) (r : Rest) (n : ℕ) (s : Stmt) (k : Rest) (begins : r ≡ (n, s) ∷ k) where
    went_by : (first : Tells) → ((onward : Onward) (p : Progress) → tell_rest c r onward p ≡ first onward p) → Went a e b first → Went a e b (tell_rest c r)
    went_by first s h onward = ap (λ (t : Trace). behind a.passed (told t)) (s onward (progress a.moment)) ∙ h onward

    pub went_yield_loop : (test i : Expr) (body : List Stmt) → out-Stmt s ≡ stmt.YieldLoop test i body → Went a e b (tell_loop c test body r) → Went a e b (tell_rest c r)
    went_yield_loop test i body o h = went_by (tell_loop c test body r) (λ onward p. rest_by _ r n s k begins o onward p ∙ tell_yield_loop c test i body r onward p) h

    pub went_rank_loop : (test rank i : Expr) (body : List Stmt) → out-Stmt s ≡ stmt.RankLoop test rank i body → Went a e b (tell_loop c test body r) → Went a e b (tell_rest c r)
    went_rank_loop test rank i body o h = went_by (tell_loop c test body r) (λ onward p. rest_by _ r n s k begins o onward p ∙ tell_rank_loop c test rank i body r onward p) h

    other : (d : stmt.Stmt-F Stmt) → is_loop d ≡ false → (onward : Onward) (p : Progress) → tell_layer c d ((n, s) ∷ k) onward p ≡ tell_all c k onward p
    unfolding tell_layer
    other (stmt.YieldLoop e i a) h onward p = absurd (false≢true (sym h))
    other (stmt.RankLoop e r i a) h onward p = absurd (false≢true (sym h))
    other (stmt.While e a) h onward p = refl
    other (stmt.If e x y) h onward p = refl
    other (stmt.Assign x e) h onward p = refl
    other (stmt.Assert e) h onward p = refl
    other (stmt.Call f xs rs) h onward p = refl
    other (stmt.Yield e) h onward p = refl
    other stmt.Commit h onward p = refl
    other (stmt.Intro x e) h onward p = refl
    other (stmt.Spawn f xs) h onward p = refl

    pub went_other : is_loop (out-Stmt s) ≡ false → Went a e b (tell_all c k) → Went a e b (tell_rest c r)
    went_other l h = went_by (tell_all c k) (λ onward p. rest_by _ r n s k begins refl onward p ∙ rw begins (other (out-Stmt s) l onward p)) h

  -- from the entry, and from another cut
  pub went_entry : (a b : Walker) (e : Ending) (n : ℕ) (k : CutKind) → is_entry k ≡ true → Went a e b (tell_all c (numbered 0 c.proc.body)) → Went a e b (tell_kind c n k)
  went_entry a b e n kind.Entry i h = h
  went_entry a b e n kind.Yield i h = absurd (false≢true i)
  went_entry a b e n kind.YieldLoop i h = absurd (false≢true i)
  went_entry a b e n kind.RankLoop i h = absurd (false≢true i)

  pub went_cut : (a b : Walker) (e : Ending) (n : ℕ) (k : CutKind) (r : Rest) → is_entry k ≡ false → r ≡ rest_at c.proc.body n → Went a e b (tell_rest c r) → Went a e b (tell_kind c n k)
  went_cut a b e n kind.Entry r i q h = absurd (false≢true (sym i))
  went_cut a b e n kind.Yield r i q h = subst (λ (r : Rest). Went a e b (tell_rest c r)) q h
  went_cut a b e n kind.YieldLoop r i q h = subst (λ (r : Rest). Went a e b (tell_rest c r)) q h
  went_cut a b e n kind.RankLoop r i q h = subst (λ (r : Rest). Went a e b (tell_rest c r)) q h

  -- the whole
  pub all_told : (begin : Moment) (b : Walker) (e : Ending) (telling : Tells) (exit : ℕ) → exit ≡ exit_number c.proc.body → Went (record { passed = []; moment = begin; at = 0 }) e b telling → finished e exit b ≡ told (telling (exits c) (progress begin))
  all_told begin b ending.Past telling exit x h = ap₂ (λ (ps : List Passage) (n : ℕ). record { passed = ps; ending = ending.Past; at = n; end = b.moment }) (sym (append-nil b.passed)) x ∙ sym (h (exits c))
  all_told begin b ending.Comes telling exit x h = ap (λ (ps : List Passage). record { passed = ps; ending = ending.Comes; at = b.at; end = b.moment }) (sym (append-nil b.passed)) ∙ sym (h (exits c))
  all_told begin b ending.Fails telling exit x h = ap (λ (ps : List Passage). record { passed = ps; ending = ending.Fails; at = b.at; end = b.moment }) (sym (append-nil b.passed)) ∙ sym (h (exits c))
  all_told begin b ending.Stops telling exit x h = ap (λ (ps : List Passage). record { passed = ps; ending = ending.Stops; at = b.at; end = b.moment }) (sym (append-nil b.passed)) ∙ sym (h (exits c))

-- ---- the statements of a loop over them

pub next_numbered : (ss : List Stmt) (i : ℕ) (s : Stmt) (at next : ℕ) → i < length ss → s ≡ get_or ss i s → next ≡ at + size_of s → numbered at (drop i ss) ≡ (at, s) ∷ numbered next (drop (i + 1) ss)
next_numbered ss i s at next h e n = ap (numbered at) (drop_is ss i s h e) ∙ ap (λ (m : ℕ). (at, s) ∷ numbered m (drop (i + 1) ss)) (sym n)

pub none_numbered : (ss : List Stmt) (i at : ℕ) → length ss ≤ i → numbered at (drop i ss) ≡ []
none_numbered ss i at h = ap (numbered at) (drop_all i ss h)

pub next_rest : (qs : List Numbered) (i : ℕ) (q : Numbered) → i < length qs → q ≡ get_or qs i q → rest_of (drop i qs) ≡ (q.number, q.stmt.now) ∷ rest_of (drop (i + 1) qs)
next_rest qs i q h e = ap rest_of (drop_is qs i q h e)

pub none_rest : (qs : List Numbered) (i : ℕ) → length qs ≤ i → rest_of (drop i qs) ≡ []
none_rest qs i h = ap rest_of (drop_all i qs h)

-- ---- a statement that is no loop with a cut at its head

no_by : (s : Stmt) (d : stmt.Stmt-F Stmt) → out-Stmt s ≡ d → ((e i : Expr) (a : List Stmt) → s ≡ tree.YieldLoop e i a → ⊥) → ((e r i : Expr) (a : List Stmt) → s ≡ tree.RankLoop e r i a → ⊥) → is_loop d ≡ false
no_by s (stmt.YieldLoop e i a) o h g =
    let rolled : roll-Stmt (stmt.YieldLoop e i a) ≡ tree.YieldLoop e i a = simp (of_stmt) in
    absurd (h e i a (sym (roll-out-Stmt s) ∙ ap roll-Stmt o ∙ rolled))
no_by s (stmt.RankLoop e r i a) o h g =
    let rolled : roll-Stmt (stmt.RankLoop e r i a) ≡ tree.RankLoop e r i a = simp (of_stmt) in
    absurd (g e r i a (sym (roll-out-Stmt s) ∙ ap roll-Stmt o ∙ rolled))
no_by s (stmt.While e a) o h g = refl
no_by s (stmt.If e x y) o h g = refl
no_by s (stmt.Assign x e) o h g = refl
no_by s (stmt.Assert e) o h g = refl
no_by s (stmt.Call f xs rs) o h g = refl
no_by s (stmt.Yield e) o h g = refl
no_by s stmt.Commit o h g = refl
no_by s (stmt.Intro x e) o h g = refl
no_by s (stmt.Spawn f xs) o h g = refl

pub no_loop : (s : Stmt) → ((e i : Expr) (a : List Stmt) → s ≡ tree.YieldLoop e i a → ⊥) → ((e r i : Expr) (a : List Stmt) → s ≡ tree.RankLoop e r i a → ⊥) → is_loop (out-Stmt s) ≡ false
no_loop s h g = no_by s (out-Stmt s) refl h g
