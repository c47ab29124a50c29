-- Whatever the event, the rule is kept; and what a step that was refused says.
use Rattle.std.proofs.Common.{◌≡◌, ◌↔◌, ℕ, List, Bool, true, false, not, Option, Some, None, Result, Ok, Err, MatchResult, IsTrue, refl, sym, ap, ◌∙◌, subst, inl, inr, true≢false}
use Rattle.dc_plain.specs.Requests.{Request}
use Rattle.dc_core.specs.Machine.{State, Act, Event, actor_at, event_by}
use Rattle.dc_core.specs.Machine.Act.{Begin, Take, Shut, Write, Open, Commit, Give, Note, Read, Pivot, Check, Again, Quit}
use Rattle.dc_core.specs.AsTable.{history_after, IsStep, EventsAreSteps}
use Rattle.dc_core.specs.Lives.{Done, LivesWith, Lives}
use Rattle.dc_core.specs.Refusals.{Refusal, Answers, Unless, Needs, Passes}
use Rattle.dc_core.specs.Memory.{RefusedAs, RefusedBy, TestedBy}
use Rattle.dc_core.specs.Shown.{refusal_shown}
use Rattle.dc_core.specs.Steps.{Steps}
use Rattle.dc_core.specs.declared.refused.Refused as rust_refused
use Rattle.dc_core.proofs.Below.{EventsBelow}
use Rattle.dc_core.proofs.Seats.{passed}
use Rattle.dc_core.proofs.Kept.{take_kept, shut_kept, write_kept, open_kept, note_kept, begin_kept, again_kept, quit_kept}
use Rattle.dc_core.proofs.Commits.{commit_kept}
use Rattle.dc_core.proofs.Settles.{pivot_kept, check_kept, read_kept}
use Rattle.dc_core.proofs.Gives.{give_kept, answer_kept}

pub event_kept : EventsBelow → (s : State) (j : ℕ) (act : Act) (hist : List Request) (ds : List Done) → LivesWith s hist ds → Answers s (event_by j act) None → IsStep s hist ds (event_by j act)
event_kept laws s j (Begin call) = begin_kept laws s j call
event_kept laws s j Take = take_kept laws s j
event_kept laws s j (Shut row) = shut_kept laws s j row
event_kept laws s j (Write row i x) = write_kept laws s j row i x
event_kept laws s j (Open row) = open_kept laws s j row
event_kept laws s j Commit = commit_kept laws.holders s j
event_kept laws s j (Give false) = give_kept laws s j
event_kept laws s j (Give true) = answer_kept laws s j
event_kept laws s j (Note row) = note_kept laws s j row
event_kept laws s j Read = read_kept laws s j
event_kept laws s j Pivot = pivot_kept laws s j
event_kept laws s j (Check i) = check_kept laws s j i
event_kept laws s j Again = again_kept laws s j
event_kept laws s j Quit = quit_kept laws s j

pub all_steps : EventsBelow → EventsAreSteps
all_steps laws s e hist ds L ok = event_kept laws s e.actor e.act hist ds L ok

pub stepped_lives : {A : Type 0} → EventsBelow → (s s' : State) (e : Event) (r : Result A rust_refused.Refused) → Lives s → Steps s e r s' → Lives s'
stepped_lives laws s s' e (Ok value) (hist, ds, L) step = let k = event_kept laws s e.actor e.act hist ds L step.refused in subst Lives (sym step.done) (history_after hist (actor_at s e.actor) e.act, k.next, k.lives)
stepped_lives laws s s' e (Err why) lives step = subst Lives (sym step.err) lives

pub refused_as : {A : Type 0} (s : State) (e : Event) (r : Result A rust_refused.Refused) (why : rust_refused.Refused) → r ≡ Err why → RefusedAs s e why → Steps s e r s
refused_as {A} s e r why is how = subst (λ (r : Result A rust_refused.Refused). Steps s e r s) (sym is) record { refused = how; done = tt; err = refl }

pub not_false : (b : Bool) → not b ≡ false → b ≡ true
not_false true e = refl
not_false false e = absurd (true≢false e)

-- the last of the tests of an event
pub last_test : {A : Type 0} (P : Type 0) (b : Bool) (because : rust_refused.Refused) (named : Refusal) (r : Result A rust_refused.Refused) → refusal_shown because ≡ Some named → MatchResult r (λ _. not b ≡ false) (λ x. (not b ≡ true) × (x ≡ because)) → (IsTrue b ↔ P) → TestedBy (Needs P named Passes) ⊥ r
last_test P b because named (Ok value) name e so = inr (so.0 (not_false b e), refl)
last_test P b because named (Err x) name e so = subst (RefusedBy (Needs P named Passes) ⊥) (sym (ap refusal_shown e.1 ∙ name)) (inl ((λ p. both b (so.1 p) e.0), refl))
  where
    both : (b : Bool) → IsTrue b → not b ≡ true → ⊥
    both true t e = true≢false (sym e)
    both false t e = true≢false (sym t)

-- some tests, and then what comes after them
module _ {A B C D : Type 0} {a b c d : Refusal} (next : Option Refusal → Type 0) where
  pub more_four : (o : Option Refusal) → Unless A a (Unless B b (Unless C c (Unless D d Passes))) o → (o ≡ None → next o) → Unless A a (Unless B b (Unless C c (Unless D d next))) o
  more_four o (inl x) go = inl x
  more_four o (inr (na, inl x)) go = inr (na, inl x)
  more_four o (inr (na, inr (nb, inl x))) go = inr (na, inr (nb, inl x))
  more_four o (inr (na, inr (nb, inr (nc, inl x)))) go = inr (na, inr (nb, inr (nc, inl x)))
  more_four o (inr (na, inr (nb, inr (nc, inr (nd, e))))) go = inr (na, inr (nb, inr (nc, inr (nd, go e))))

  pub after_four : (o : Option Refusal) → Unless A a (Unless B b (Unless C c (Unless D d Passes))) None → next o → Unless A a (Unless B b (Unless C c (Unless D d next))) o
  after_four o t n = let p = passed t in let q = passed p.1 in let r = passed q.1 in let u = passed r.1 in inr (p.0, inr (q.0, inr (r.0, inr (u.0, n))))

module _ {A B C : Type 0} {a b c : Refusal} (next : Option Refusal → Type 0) where
  pub more_three : (o : Option Refusal) → Unless A a (Unless B b (Unless C c Passes)) o → (o ≡ None → next o) → Unless A a (Unless B b (Unless C c next)) o
  more_three o (inl x) go = inl x
  more_three o (inr (na, inl x)) go = inr (na, inl x)
  more_three o (inr (na, inr (nb, inl x))) go = inr (na, inr (nb, inl x))
  more_three o (inr (na, inr (nb, inr (nc, e)))) go = inr (na, inr (nb, inr (nc, go e)))

  pub after_three : (o : Option Refusal) → Unless A a (Unless B b (Unless C c Passes)) None → next o → Unless A a (Unless B b (Unless C c next)) o
  after_three o t n = let p = passed t in let q = passed p.1 in let r = passed q.1 in inr (p.0, inr (q.0, inr (r.0, n)))

pub alters_on : (x y : Bool) → x ≡ y → not x ≡ false → y ≡ false → ⊥
alters_on x y is e f = true≢false (sym (not_false x e) ∙ is ∙ f)
