-- Some tests after others, and where among them a lack of memory may stand.
use Rattle.std.proofs.Common.{◌≡◌, ◌⊎◌, ℕ, Bool, true, false, true≢false, Option, Some, None, Result, Ok, Err, MatchResult, refl, sym, ap, ◌∙◌, subst, inl, inr}
use Rattle.dc_plain.specs.Requests.{Request}
use Rattle.dc_plain.specs.Runs.{alters}
use Rattle.dc_core.specs.Machine.{State, Event, actor_at, event_by}
use Rattle.dc_core.specs.Machine.Act.{Open, Commit, Give}
use Rattle.dc_core.specs.Memory.{gives_way, MayLackMemory, RefusedBy, RefusedAs, TestedBy, AnsweredAs}
use Rattle.dc_core.specs.Refusals.{Refusal, Unless, Passes, Answers, WithCall, AtOddRow, IsOdd, MayBeMade, MayBeOpened}
use Rattle.dc_core.specs.Refusals.Refusal.{NoCall, OddRow, Alters}
use Rattle.dc_core.specs.declared.refused.Refused as rust_refused
use Rattle.dc_core.specs.declared.refused.Refused.TheVariants as refusals
use Rattle.dc_core.specs.Shown.{refusal_shown}
use Rattle.dc_core.proofs.Commits.{passed_row}
use Rattle.dc_core.proofs.Seats.{passed}
use Rattle.dc_core.proofs.Stepped.{more_three, more_four, after_four}

-- an event that is refused is answered by that refusal
pub refused_as : {A : Type 0} (s : State) (e : Event) (r : Result A rust_refused.Refused) (why : rust_refused.Refused) → r ≡ Err why → RefusedAs s e why → AnsweredAs s e r
refused_as {A} s e r why is how = subst (λ (r : Result A rust_refused.Refused). AnsweredAs s e r) (sym is) how

pub refused_map : (P Q : Option Refusal → Type 0) (M N : Type 0) → ((o : Option Refusal) → P o → Q o) → (M → N) → (o : Option Refusal) → RefusedBy P M o → RefusedBy Q N o
refused_map P Q M N f g None lacks = g lacks
refused_map P Q M N f g (Some why) test = f (Some why) test

-- other tests, and another place for a lack of memory
pub tested_map : {A : Type 0} (P Q : Option Refusal → Type 0) (M N : Type 0) → ((o : Option Refusal) → P o → Q o) → (M → N) → (r : Result A rust_refused.Refused) → TestedBy P M r → TestedBy Q N r
tested_map P Q M N f g (Ok value) test = f None test
tested_map P Q M N f g (Err why) test = refused_map P Q M N f g (refusal_shown why) test

-- a test of some that refused
pub refused_first : (P Q : Option Refusal → Type 0) (N : Type 0) → ((why : Refusal) → P (Some why) → Q (Some why)) → (o : Option Refusal) → RefusedBy P ⊥ o → RefusedBy Q N o
refused_first P Q N f None never = absurd never
refused_first P Q N f (Some why) test = f why test

abbrev way : Option Refusal → Bool
way None = true
way (Some why) = gives_way why

-- a later test, of an event that passes this one
on : {A X B : Type 0} → (A → ⊥) → (A × X) ⊎ ((A → ⊥) × B) → B
on never (inl here) = absurd (never here.0)
on never (inr rest) = rest.1

made_ways : (s : State) (call : Request) (why : Refusal) → MayBeMade s call (Some why) → gives_way why ≡ true
made_ways s call why (inl here) = ap way here.1
made_ways s call why (inr (a, inl here)) = ap way here.1
made_ways s call why (inr (a, inr (b, inl here))) = ap way here.4
made_ways s call why (inr (a, inr (b, inr (c, e)))) = cc

module _ (s : State) (j : ℕ) where
  abbrev call : Request
  call = (actor_at s j).walk.call

  pub commit_tested : {A : Type 0} (r : Result A rust_refused.Refused) → WithCall s j Passes None → TestedBy (MayBeMade s call) (Unit {0}) r → AnsweredAs s (event_by j Commit) r
  commit_tested r t = let p = passed t in let q = passed p.1 in let u = passed q.1 in
      tested_map (MayBeMade s call) (Answers s (event_by j Commit)) (Unit {0}) (MayLackMemory s (event_by j Commit)) (λ o n. inr (p.0, inr (q.0, inr (u.0, n)))) (λ _. (refl, λ why one. made_ways s call why (on u.0 (on q.0 (on p.0 one))))) r

  pub commit_first : (o : Option Refusal) → RefusedBy (WithCall s j Passes) ⊥ o → RefusedBy (Answers s (event_by j Commit)) (MayLackMemory s (event_by j Commit)) o
  commit_first o = refused_first (WithCall s j Passes) (Answers s (event_by j Commit)) (MayLackMemory s (event_by j Commit)) (λ why t. more_three (MayBeMade s call) (Some why) t (λ e. cc)) o

  pub open_tested : {A : Type 0} (row : ℕ) (r : Result A rust_refused.Refused) → AtOddRow s j row Passes None → TestedBy (MayBeOpened s row) ⊥ r → AnsweredAs s (event_by j (Open row)) r
  open_tested row r t = tested_map (MayBeOpened s row) (Answers s (event_by j (Open row))) ⊥ (MayLackMemory s (event_by j (Open row))) (λ o n. after_four (MayBeOpened s row) o t n) (λ never. absurd never) r

  pub open_first : (row : ℕ) (o : Option Refusal) → RefusedBy (AtOddRow s j row Passes) ⊥ o → RefusedBy (Answers s (event_by j (Open row))) (MayLackMemory s (event_by j (Open row))) o
  open_first row o = refused_first (AtOddRow s j row Passes) (Answers s (event_by j (Open row))) (MayLackMemory s (event_by j (Open row))) (λ why t. more_four (MayBeOpened s row) (Some why) t (λ e. cc)) o

  -- the tests of an answer after those of a give
  abbrev flat : Option Refusal → Type 0
  flat = Unless (alters s.limit s.tree call ≡ true) Alters Passes

  abbrev idle_or : Option Refusal → Type 0
  idle_or = Unless ((actor_at s j).walk.busy ≡ false) NoCall flat

  more_given : (o : Option Refusal) → Answers s (event_by j (Give false)) o → (o ≡ None → idle_or o) → Answers s (event_by j (Give true)) o
  more_given o (inl x) go = inl x
  more_given o (inr (na, inl x)) go = inr (na, inl x)
  more_given o (inr (na, inr (nb, inl x))) go = inr (na, inr (nb, inl x))
  more_given o (inr (na, inr (nb, inr (none, e)))) go = inr (na, inr (nb, inr (none, go e)))

  pub answer_first : (o : Option Refusal) → RefusedBy (Answers s (event_by j (Give false))) (MayLackMemory s (event_by j (Give false))) o → RefusedBy (Answers s (event_by j (Give true))) (MayLackMemory s (event_by j (Give true))) o
  answer_first None lacks = absurd (true≢false (sym lacks.0))
  answer_first (Some why) t = more_given (Some why) t (λ e. cc)

  pub answer_after : (o : Option Refusal) → Answers s (event_by j (Give false)) None → idle_or o → Answers s (event_by j (Give true)) o
  answer_after o t n = let p = passed t in let q = passed p.1 in let x = passed_row s.rows (IsOdd s) OddRow Passes q.1 in inr (p.0, inr (q.0, inr (x.0, n)))

  idle_not : (actor_at s j).walk.busy ≡ true → (actor_at s j).walk.busy ≡ false → ⊥
  idle_not busy idle = true≢false (sym busy ∙ idle)

  flat_ways : (why : Refusal) → flat (Some why) → gives_way why ≡ true
  flat_ways why (inl here) = ap way here.1
  flat_ways why (inr (other, e)) = cc

  answer_ways : Answers s (event_by j (Give false)) None → (actor_at s j).walk.busy ≡ true → (why : Refusal) → Answers s (event_by j (Give true)) (Some why) → gives_way why ≡ true
  answer_ways t busy why (inl here) = absurd ((passed t).0 here.0)
  answer_ways t busy why (inr (na, inl here)) = absurd ((passed (passed t).1).0 here.0)
  answer_ways t busy why (inr (na, inr (nb, inl here))) = absurd ((passed_row s.rows (IsOdd s) OddRow Passes (passed (passed t).1).1).0 here.0 here.1 here.2)
  answer_ways t busy why (inr (na, inr (nb, inr (none, inl here)))) = absurd (idle_not busy here.0)
  answer_ways t busy why (inr (na, inr (nb, inr (none, inr (nd, rest))))) = flat_ways why rest

  pub answer_lacks : {A : Type 0} (r : Result A rust_refused.Refused) → r ≡ Err refusals.NoMemory → Answers s (event_by j (Give false)) None → (actor_at s j).walk.busy ≡ true → AnsweredAs s (event_by j (Give true)) r
  answer_lacks {A} r is t busy = subst (λ (r : Result A rust_refused.Refused). AnsweredAs s (event_by j (Give true)) r) (sym is) (refl, answer_ways t busy)

  pub answer_last : {A : Type 0} (r : Result A rust_refused.Refused) (b : Bool) → Answers s (event_by j (Give false)) None → (actor_at s j).walk.busy ≡ true → b ≡ alters s.limit s.tree call
      → MatchResult r (λ _. b ≡ false) (λ x. (b ≡ true) × (x ≡ refusals.Alters)) → AnsweredAs s (event_by j (Give true)) r
  answer_last (Ok value) b t busy is e = answer_after None t (inr (idle_not busy, inr (λ a. true≢false (sym a ∙ sym is ∙ e), refl)))
  answer_last (Err x) b t busy is e = subst (RefusedBy (Answers s (event_by j (Give true))) (MayLackMemory s (event_by j (Give true)))) (sym (ap refusal_shown e.1)) (answer_after (Some Alters) t (inr (idle_not busy, inl (sym is ∙ e.0, refl))))
