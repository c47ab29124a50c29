-- What an act makes of an actor and of the records that the program stores.
use Rattle.std.proofs.Common.{◌≡◌, ℕ, ◌<◌, List, [], ◌∷◌, ◌++◌, length, get_or, set, map, Option, ap, ◌∙◌}
use Rattle.dc_plain.specs.OwnCalls.{own_request}
use Rattle.dc_plain.specs.Requests.{Answer, answer_of}
use Rattle.dc_plain.specs.Trees.{Tree}
use Rattle.dc_plain.specs.declared.call.Reply.{Reply}
use Rattle.dc_plain.specs.declared.own_call.OwnCall.{OwnCall}
use Rattle.dc_events.specs.Noted.{answer_in}
use Rattle.dc_core.specs.Machine.{State, Actor, actor_at, clock_of, idle, ended, recorded, concluding, settling, with_finished}
use Rattle.dc_core.specs.Shown.{actor_shown, call_of, finished_shown, reply_in, state_of, tree_in}
use Rattle.dc_core.specs.declared.actor.Actor as rust_actor
use Rattle.dc_core.specs.declared.state.Finished as rust_finished
use Rattle.dc_core.specs.declared.state.State as rust_state
use Rattle.dc_core.proofs.Acted.{acted, unacted, this_one, finished_more, concluding_is}

module _ (S : State) (us : List rust_actor.Actor) (j : ℕ) (one : rust_actor.Actor) (less : j < length us) (is : one ≡ get_or us j one) where
  abbrev a : Actor
  a = get_or (map actor_shown us) j idle

  abbrev holding : List rust_actor.Actor → List rust_finished.Finished → State
  holding vs fs = record S { actors = map actor_shown vs; finished = map finished_shown fs }

  -- out of memory
  pub unturned : (one' : rust_actor.Actor) (old new : List rust_finished.Finished) → actor_shown one' ≡ actor_shown one → new ≡ old → holding (set us j one') new ≡ holding us old
  unturned one' old new shown same = λ i. record S { actors = unacted us j one one' less is shown i; finished = map finished_shown (same i) }

  -- a look-up that is answered is recorded, another goes on
  pub turned : (mid one' : rust_actor.Actor) (F : Actor → Actor) (old ready new : List rust_finished.Finished) (o : Option Answer) → actor_shown mid ≡ F (actor_shown one) → o ≡ answer_in (actor_shown mid).walk
      → actor_shown one' ≡ ended (actor_shown mid) o → ready ≡ old → map finished_shown new ≡ map finished_shown ready ++ recorded j (actor_shown mid) o → holding (set us j one') new ≡ settling (holding us old) j (F a)
  turned mid one' F old ready new o turns answers ends same records = let now : actor_shown mid ≡ F a = turns ∙ ap F (this_one us j one less is) in
      (λ i. record S {
        actors = acted us j one one' (λ b. ended (F b) o) less is (ends ∙ ap (λ b. ended b o) turns) i;
        finished = (records ∙ (λ k. map finished_shown (same k) ++ recorded j (now k) o)) i;
      }) ∙ concluding_is (holding us old) j (F a) o ∙ ap (concluding (holding us old) j (F a)) (answers ∙ ap (λ (b : Actor). answer_in b.walk) now)

  -- a call that is made is recorded
  made : (one' : rust_actor.Actor) (G : Actor → Actor) (old ready new : List rust_finished.Finished) (f : rust_finished.Finished) (reply : Answer) (at : ℕ) → actor_shown one' ≡ G (actor_shown one) → ready ≡ old → new ≡ ready ++ f ∷ []
      → finished_shown f ≡ record { actor = j; call = (actor_shown one).walk.call; reply = reply; at = at } → holding (set us j one') new ≡ with_finished (record (holding us old) { actors = set (map actor_shown us) j (G a) }) j a.walk.call reply at
  made one' G old ready new f reply at shown same more told = let mine = this_one us j one less is in
      let g = told ∙ ap (λ (b : Actor). record { actor = j; call = b.walk.call; reply = reply; at = at }) mine in
      let all = finished_more old ready new f record { actor = j; call = a.walk.call; reply = reply; at = at } more same g in
      λ i. record S { actors = acted us j one one' G less is shown i; finished = all i }

-- an act that makes an actor's call on the tree and records it, at the clock that was loaded, leaves the state that the core has then
pub made_on_tree : (s : rust_state.State) (j : ℕ) (one' : rust_actor.Actor) (call : OwnCall) (reply : Reply) (words : ℕ → List ℕ) (G : ℕ → Actor → Actor)
    {first one : rust_actor.Actor} {clock limit : ℕ} {tree after : Tree} {ready new : List rust_finished.Finished}
    → j < length s.actors.items → first ≡ get_or s.actors.items j first → one ≡ get_or s.actors.items j one → clock ≡ clock_of (state_of s) → actor_shown one' ≡ G clock (actor_shown one) → own_request call ≡ call_of one
    → ready ≡ s.finished.items → new ≡ ready ++ record { actor = j; call = call; reply = reply; at = clock } ∷ []
    → answer_of reply ≡ reply_in s.tree (call_of first) → limit ≡ s.tree.limit → tree ≡ tree_in s.tree (call_of first) → tree_in s.tree (actor_at (state_of s) j).walk.call ≡ after
    → let S : State = state_of s in let a : Actor = actor_at S j in record S { limit = limit; words = words clock; tree = tree; actors = map actor_shown (set s.actors.items j one'); finished = map finished_shown new }
    ≡ with_finished (record S { words = words (clock_of S); tree = after; actors = set S.actors j (G (clock_of S) a) }) j a.walk.call (reply_in s.tree a.walk.call) (clock_of S)
made_on_tree s j one' call reply words G {first = first} {one = one} {clock = clock} {ready = ready} {new = new} less first_is one_is loaded ends calls same more replies limits grows leaves =
    let S : State = state_of s in let us = s.actors.items in let before = this_one us j first less first_is in
    let replied = replies ∙ ap (λ (b : Actor). reply_in s.tree b.walk.call) before in let grown = grows ∙ ap (λ (b : Actor). tree_in s.tree b.walk.call) before ∙ leaves in
    let all = made S us j one less one_is one' (G (clock_of S)) s.finished.items ready new record { actor = j; call = call; reply = reply; at = clock } (reply_in s.tree (actor_at S j).walk.call) (clock_of S)
    (ends ∙ ap (λ n. G n (actor_shown one)) loaded) same more (λ i. record { actor = j; call = calls i; reply = replied i; at = loaded i }) in
    λ i. record (all i) { limit = limits i; words = words (loaded i); tree = grown i }
