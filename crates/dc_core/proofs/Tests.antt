-- The tests of an event one after another, as the program makes them.
use Rattle.std.proofs.Common.{◌≡◌, ◌⊎◌, ◌≢◌, ◌%◌, ◌<◌, ◌≤◌, ℕ, Bool, not, true, false, true≢false, eqb, leb, List, length, map, Option, Some, Result, Ok, Err, MatchResult, refl, sym, ap, ◌∙◌, subst, inl, inr, arith, get_or, is_some, None}
use Rattle.std.proofs.lemmas.Bool.Decides.{nat_tests}
use Rattle.dc_names.specs.declared.limits.TheConstants.{ROW_WORDS}
use Rattle.dc_events.specs.Rows.{count, most}
use Rattle.dc_core.specs.Machine.{State, Actor, Event, actor_at, event_by}
use Rattle.dc_core.specs.Machine.Act.{Shut, Write, Note, Commit, Give}
use Rattle.dc_core.specs.Memory.{MayLackMemory, RefusedBy, TestedBy, AnsweredAs}
use Rattle.dc_core.specs.Refusals.{Refusal, Unless, Passes, Answers, IsOdd, IsEven}
use Rattle.dc_core.specs.Refusals.Refusal.{NotHolder, NoRow, NoWord, Odd, Even, Spent, OddRow, NoCall, Alters}
use Rattle.dc_core.specs.Shown.{state_of, act_shown, actor_shown, call_shown, refusal_shown}
use Rattle.dc_core.specs.Steps.{Steps}
use Rattle.dc_plain.specs.OwnCalls.{own_request}
use Rattle.dc_plain.specs.Requests.{Request}
use Rattle.dc_plain.specs.Runs.{alters}
use Rattle.dc_plain.specs.declared.own_call.OwnCall.{OwnCall}
use Rattle.dc_core.specs.declared.actor.Actor as rust_actor
use Rattle.dc_core.specs.declared.event.Act as rust_act
use Rattle.dc_core.specs.declared.state.State as rust_state
use Rattle.dc_core.specs.declared.refused.Refused as rust_refused
use Rattle.dc_core.specs.declared.refused.Refused.TheVariants as refusals
use Rattle.dc_core.proofs.Acted.{room, this_one}
use Rattle.dc_core.proofs.Commits.{passed_row}
use Rattle.dc_core.proofs.Seats.{passed, held_so}
use Rattle.dc_core.proofs.Lacking.{answer_after, answer_lacks, answer_last, refused_as, tested_map}
use Rattle.dc_core.proofs.Stepped.{not_false}
use Rattle.dc_core.proofs.Shown.{map_length}

below_if : (m n : ℕ) → leb m n ≡ false → n < m
below_if m n e = grind (arith, nat_tests)

-- an actor that is there
pub seat : (us : List rust_actor.Actor) (j n : ℕ) → n ≡ length us → leb n j ≡ false → j < length us
seat us j n is e = let less = below_if n j e in omega arith

pub seated : (us : List rust_actor.Actor) (j : ℕ) → j < length us → length (map actor_shown us) ≤ j → ⊥
seated us j less past = let len = map_length actor_shown us in omega arith

pub room_if : (rows row : ℕ) → leb rows row ≡ false → rows ≤ row → ⊥
room_if rows row e past = let less = below_if rows row e in omega arith

-- a field that has something, at the actor of the table
pub has : (x y b : Bool) → x ≡ y → x ≡ not b → b ≡ false → y ≡ false → ⊥
has x y b same is off none = true≢false (sym (is ∙ ap not off) ∙ same ∙ none)

pub has_not : (x y b : Bool) → x ≡ y → b ≡ x → b ≡ false → y ≡ true → ⊥
has_not x y b same is off some = true≢false (sym some ∙ sym same ∙ sym is ∙ off)

-- an actor with a call, as the program found it
pub record Walks (s : rust_state.State) (j : ℕ) (one : rust_actor.Actor) : Type 0 where
  pub there : length (state_of s).actors ≤ j → ⊥
  pub busy : (actor_at (state_of s) j).walk.busy ≡ false → ⊥
  pub is : actor_shown one ≡ actor_at (state_of s) j

pub walks : (s : rust_state.State) (j n : ℕ) (one : rust_actor.Actor) (none : Bool) → n ≡ length s.actors.items → leb n j ≡ false → one ≡ get_or s.actors.items j one → is_some one.call ≡ not none → none ≡ false → Walks s j one
walks s j n one none many inside is found off =
    let less = seat s.actors.items j n many inside in let before = this_one s.actors.items j one less is in
    record { there = seated s.actors.items j less; busy = has _ _ none (ap (λ (a : Actor). a.walk.busy) before) found off; is = before }

-- what a test of the program refuses
pub refused_for : {A : Type 0} (s : State) (e : Event) (r : Result A rust_refused.Refused) (because : rust_refused.Refused) (named : Refusal) → r ≡ Err because → refusal_shown because ≡ Some named → Answers s e (Some named) → AnsweredAs s e r
refused_for s e r because named is name how = refused_as s e r because is (subst (RefusedBy (Answers s e) (MayLackMemory s e)) (sym name) how)

-- an event whose act is known
pub by_act : {A : Type 0} (s s' : State) (j : ℕ) (act known : rust_act.Act) (r : Result A rust_refused.Refused) → act ≡ known → Steps s (event_by j (act_shown known)) r s' → Steps s (event_by j (act_shown act)) r s'
by_act s s' j act known r is step = subst (λ a. Steps s (event_by j (act_shown a)) r s') (sym is) step

-- an actor without a call makes and answers none
busy_here : (s : rust_state.State) (j : ℕ) (one : rust_actor.Actor) → j < length s.actors.items → one ≡ get_or s.actors.items j one → (actor_at (state_of s) j).walk.busy ≡ true → is_some one.call ≡ true
busy_here s j one less is busy = ap (λ (a : Actor). a.walk.busy) (this_one s.actors.items j one less is) ∙ busy

pub commit_busy : (s : rust_state.State) (j : ℕ) (one : rust_actor.Actor) → Answers (state_of s) (event_by j Commit) None → one ≡ get_or s.actors.items j one → is_some one.call ≡ true
commit_busy s j one may is = busy_here s j one (room s j Commit may) is (held_so (actor_at (state_of s) j).walk.busy (passed (passed (passed may).1).1).0)

pub answer_busy : (s : rust_state.State) (j : ℕ) (one : rust_actor.Actor) → Answers (state_of s) (event_by j (Give true)) None → one ≡ get_or s.actors.items j one → is_some one.call ≡ true
answer_busy s j one may is = let S : State = state_of s in let a : Actor = actor_at S j in
    let x = passed_row S.rows (IsOdd S) OddRow (Unless (a.walk.busy ≡ false) NoCall (Unless (alters S.limit S.tree a.walk.call ≡ true) Alters Passes)) (passed (passed may).1).1 in
    busy_here s j one (room s j (Give true) may) is (held_so a.walk.busy (passed x.1).0)

-- what an actor that may give the lock back is answered, by the call that the program has of it
module _ (s : rust_state.State) (j : ℕ) (one : rust_actor.Actor) (is : one ≡ get_or s.actors.items j one) (may : Answers (state_of s) (event_by j (Give false)) None) where
  giver : actor_shown one ≡ actor_at (state_of s) j
  giver = this_one s.actors.items j one (room s j (Give false) may) is

  giver_busy : (call : Option OwnCall) → one.call ≡ call → (actor_at (state_of s) j).walk.busy ≡ is_some call
  giver_busy call has = sym (ap (λ (a : Actor). a.walk.busy) giver) ∙ ap is_some has

  -- without one it is refused for that
  pub no_call_answered : one.call ≡ None → Answers (state_of s) (event_by j (Give true)) (Some NoCall)
  no_call_answered has = answer_after (state_of s) j (Some NoCall) may (inl (giver_busy None has, refl))

  -- a lack of memory comes before the last test
  pub memory_lacked : {A : Type 0} (r : Result A rust_refused.Refused) (call : OwnCall) → r ≡ Err refusals.NoMemory → one.call ≡ Some call → AnsweredAs (state_of s) (event_by j (Give true)) r
  memory_lacked r call wants has = answer_lacks (state_of s) j r wants may (giver_busy (Some call) has)

  -- which is whether the call alters the tree
  pub call_answered : {A : Type 0} (r : Result A rust_refused.Refused) (b : Bool) (call : OwnCall) (asked : Request) → one.call ≡ Some call → asked ≡ own_request call → b ≡ alters s.tree.limit s.tree.tree asked
      → MatchResult r (λ _. b ≡ false) (λ x. (b ≡ true) × (x ≡ refusals.Alters)) → AnsweredAs (state_of s) (event_by j (Give true)) r
  call_answered r b call asked has same test refuses = let mine = same ∙ sym (ap call_shown has) ∙ ap (λ (a : Actor). a.walk.call) giver in
      answer_last (state_of s) j r b may (giver_busy (Some call) has) (test ∙ ap (alters s.tree.limit s.tree.tree) mine) refuses

-- the last of the tests
pub last_or : {A : Type 0} (M P : Type 0) (b : Bool) (because : rust_refused.Refused) (named : Refusal) (r : Result A rust_refused.Refused) → refusal_shown because ≡ Some named → (b ≡ true → P) → (b ≡ false → P → ⊥)
    → MatchResult r (λ _. b ≡ false) (λ x. (b ≡ true) × (x ≡ because)) → TestedBy (Unless P named Passes) M r
last_or M P b because named (Ok value) name to from e = inr (from e, refl)
last_or M P b because named (Err x) name to from e = subst (RefusedBy (Unless P named Passes) M) (sym (ap refusal_shown e.1 ∙ name)) (inl (to e.0, refl))

pub eq_true : (k d m : ℕ) → k ≡ m → eqb k d ≡ true → m ≡ d
eq_true k d m is e = grind (arith, nat_tests)

pub eq_false : (k d m : ℕ) → k ≡ m → eqb k d ≡ false → m ≡ d → ⊥
eq_false k d m is e same = grind (arith, nat_tests)

-- a bool field at the actor of the table
pub has_field : (x y : Bool) → x ≡ y → not x ≡ false → y ≡ false → ⊥
has_field x y same off none = true≢false (sym (not_false x off) ∙ same ∙ none)

pub no_word : (word : ℕ) (b : Bool) → b ≡ false → (word ≡ 0 → ⊥) → b ≡ leb ROW_WORDS word → (word ≡ 0) ⊎ (ROW_WORDS ≤ word) → ⊥
no_word word b off some is (inl zero) = some zero
no_word word b off some is (inr past) = let less = below_if ROW_WORDS word (sym is ∙ off) in omega arith

module _ (s : State) (j : ℕ) (there : length s.actors ≤ j → ⊥) (busy : (actor_at s j).walk.busy ≡ false → ⊥) where
  pub note_lost : (row : ℕ) → ((actor_at s j).walk.pivoted ≡ true → ⊥) → s.rows ≤ row → Answers s (event_by j (Note row)) (Some NoRow)
  note_lost row early past = inr (there, inr (busy, inr (early, inl (past, refl))))

  pub note_last : {A : Type 0} (row n : ℕ) (r : Result A rust_refused.Refused) → ((actor_at s j).walk.pivoted ≡ true → ⊥) → (s.rows ≤ row → ⊥) → n ≡ count s.words row
      → MatchResult r (λ _. eqb (n % 2) 1 ≡ false) (λ x. (eqb (n % 2) 1 ≡ true) × (x ≡ refusals.Odd)) → AnsweredAs s (event_by j (Note row)) r
  note_last row n r early room is e = let M : Type 0 = MayLackMemory s (event_by j (Note row)) in
      tested_map (Unless (count s.words row % 2 ≡ 1) Odd Passes) (Answers s (event_by j (Note row))) M M (λ o t. inr (there, inr (busy, inr (early, inr (room, t))))) (λ m. m) r
      (last_or M (count s.words row % 2 ≡ 1) (eqb (n % 2) 1) refusals.Odd Odd r refl (eq_true (n % 2) 1 (count s.words row % 2) (ap (λ k. k % 2) is)) (eq_false (n % 2) 1 (count s.words row % 2) (ap (λ k. k % 2) is)) e)

module _ (s : State) (j row : ℕ) (there : length s.actors ≤ j → ⊥) (holds : (actor_at s j).holds ≡ false → ⊥) (room : s.rows ≤ row → ⊥) where
  -- the tests of a holder at a row
  pub held_tested : {A : Type 0} (next : Option Refusal → Type 0) (M : Type 0) (r : Result A rust_refused.Refused) → TestedBy next M r
      → TestedBy (Unless (length s.actors ≤ j) Refusal.Actor (Unless ((actor_at s j).holds ≡ false) NotHolder (Unless (s.rows ≤ row) NoRow next))) M r
  held_tested next M r t = tested_map next (Unless (length s.actors ≤ j) Refusal.Actor (Unless ((actor_at s j).holds ≡ false) NotHolder (Unless (s.rows ≤ row) NoRow next))) M M (λ o t. inr (there, inr (holds, inr (room, t)))) (λ m. m) r t

  -- that a row is even, or that it is odd and spent
  pub even_tested : {A : Type 0} (M : Type 0) (n : ℕ) (r : Result A rust_refused.Refused) → n ≡ count s.words row → MatchResult r (λ _. eqb (n % 2) 0 ≡ false) (λ x. (eqb (n % 2) 0 ≡ true) × (x ≡ refusals.Even)) → TestedBy (Unless (IsEven s row) Even Passes) M r
  even_tested M n r is e = let same = ap (λ k. k % 2) is in
      last_or M (IsEven s row) (eqb (n % 2) 0) refusals.Even Even r refl (eq_true (n % 2) 0 (count s.words row % 2) same) (eq_false (n % 2) 0 (count s.words row % 2) same) e

  pub write_last : {A : Type 0} (word value n : ℕ) (r : Result A rust_refused.Refused) → ((word ≡ 0) ⊎ (ROW_WORDS ≤ word) → ⊥) → n ≡ count s.words row
      → MatchResult r (λ _. eqb (n % 2) 0 ≡ false) (λ x. (eqb (n % 2) 0 ≡ true) × (x ≡ refusals.Even)) → AnsweredAs s (event_by j (Write row word value)) r
  write_last word value n r fits is e = let M : Type 0 = MayLackMemory s (event_by j (Write row word value)) in
      held_tested (Unless ((word ≡ 0) ⊎ (ROW_WORDS ≤ word)) NoWord (Unless (IsEven s row) Even Passes)) M r
      (tested_map (Unless (IsEven s row) Even Passes) (Unless ((word ≡ 0) ⊎ (ROW_WORDS ≤ word)) NoWord (Unless (IsEven s row) Even Passes)) M M (λ o t. inr (fits, t)) (λ m. m) r (even_tested M n r is e))

  pub shut_last : {A : Type 0} (n : ℕ) (r : Result A rust_refused.Refused) → n ≡ count s.words row → eqb (n % 2) 1 ≡ false
      → MatchResult r (λ _. eqb n most ≡ false) (λ x. (eqb n most ≡ true) × (x ≡ refusals.Spent)) → AnsweredAs s (event_by j (Shut row)) r
  shut_last n r is even e = let M : Type 0 = MayLackMemory s (event_by j (Shut row)) in let odd = eq_false (n % 2) 1 (count s.words row % 2) (ap (λ k. k % 2) is) even in
      held_tested (Unless (IsOdd s row) Odd (Unless (count s.words row ≡ most) Spent Passes)) M r
      (tested_map (Unless (count s.words row ≡ most) Spent Passes) (Unless (IsOdd s row) Odd (Unless (count s.words row ≡ most) Spent Passes)) M M (λ o t. inr (odd, t)) (λ m. m) r
      (last_or M (count s.words row ≡ most) (eqb n most) refusals.Spent Spent r refl (eq_true n most (count s.words row) is) (eq_false n most (count s.words row) is) e))
