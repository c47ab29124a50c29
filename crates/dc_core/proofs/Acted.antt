-- What an act makes of the actors and of the notes that the program stores.
use Rattle.std.proofs.Common.{◌≡◌, ℕ, ◌-◌, ◌<◌, ◌≤◌, List, [], ◌∷◌, ◌++◌, length, get_or, set, map, Option, Some, None, Result, Ok, Err, OnOk, OnErr, refl, sym, ap, ◌∙◌, subst, inl, inr, Bool, false, IsTrue, ◌↔◌, true≢false, arith, append-nil}
use Rattle.std.proofs.lemmas.List.{length-drop, map-append}
use Rattle.atomic_table.proofs.Lists.{at_index}
use Rattle.dc_names.specs.declared.limits.TheConstants.{ROW_WORDS}
use Rattle.dc_core.specs.Machine.{State, Actor, idle}
use Rattle.dc_core.specs.Lives.{view_of, Lives}
use Rattle.dc_core.specs.Shown.{actor_shown, note_shown, state_of}
use Rattle.dc_core.specs.declared.actor.Actor as rust_actor
use Rattle.dc_core.specs.declared.actor.Note as rust_note
use Rattle.dc_core.specs.declared.state.State as rust_state
use Rattle.dc_core.proofs.Shown.{set_shown, same_shown}
use Rattle.dc_core.proofs.Seats.{here, passed}
use Rattle.dc_plain.specs.Requests.{Answer}
use mathlib.Core.Logic.{dite}
use native.Mathlib.Decide.{ℕ_discrete}
use Rattle.dc_events.specs.Rows.{IsWhole}
use Rattle.dc_events.specs.Walks.{note_of, last_of, no_note}
use Rattle.dc_core.specs.Machine.Act.{Read}
use Rattle.dc_core.specs.Machine.{Act, Finished, ended, recorded, concluding}
use Rattle.dc_core.specs.Refusals.{Answers, IsUncheckable}
use Rattle.dc_core.specs.Shown.{finished_shown}
use Rattle.dc_core.specs.declared.state.Finished as rust_finished
use Rattle.dc_core.proofs.Shown.{get_map, map_length}
use Rattle.dc_core.proofs.Ran.{at_shown}

pub acted : (us : List rust_actor.Actor) (j : ℕ) (one one' : rust_actor.Actor) (F : Actor → Actor) → j < length us → one ≡ get_or us j one → actor_shown one' ≡ F (actor_shown one)
    → map actor_shown (set us j one') ≡ set (map actor_shown us) j (F (get_or (map actor_shown us) j idle))
acted us j one one' F less is shown = set_shown actor_shown us j one one' idle F (at_index us j one less is) shown

pub unacted : (us : List rust_actor.Actor) (j : ℕ) (one one' : rust_actor.Actor) → j < length us → one ≡ get_or us j one → actor_shown one' ≡ actor_shown one → map actor_shown (set us j one') ≡ map actor_shown us
unacted us j one one' less is shown = same_shown actor_shown us j one one' (at_index us j one less is) shown

-- a note of an actor under the rule is of a row that is there, and has at most its words
pub note_room : (s : rust_state.State) → Lives (state_of s) → (j i : ℕ) (one : rust_actor.Actor) (x : rust_note.Note) → j < length s.actors.items → one ≡ get_or s.actors.items j one → i < length one.notes.items → x ≡ get_or one.notes.items i x
    → (x.row < s.rows) × (length x.words.items ≤ ROW_WORDS)
note_room s (hist, ds, L) j i one x less is inside it =
    let f = (L.rule.fits j (view_of s.words.items hist ds j (actor_shown one)) (here (state_of s) hist ds L j (actor_shown one) (at_shown actor_shown s.actors.items j one less is))).walk.noted i (note_shown x) (at_shown note_shown one.notes.items i x inside it) in
    let few = f.few in let l = length-drop 1 x.words.items in (f.inside, omega arith)

pub always_err : {A E : Type 0} (r : Result A E) (Q : Type 0) → Q → OnErr r Q
always_err (Ok x) Q q = tt
always_err (Err e) Q q = q

pub on_ok : {A E : Type 0} (r : Result A E) (P Q : Type 0) → (P → Q) → OnOk r P → OnOk r Q
on_ok (Ok x) P Q f p = f p
on_ok (Err e) P Q f p = p

pub on_err : {A E : Type 0} (r : Result A E) (P Q : Type 0) → (P → Q) → OnErr r P → OnErr r Q
on_err (Ok x) P Q f p = p
on_err (Err e) P Q f p = f p

-- an actor whose event isn't refused is there
pub room : (s : rust_state.State) (j : ℕ) (act : Act) → Answers (state_of s) (record { actor = j; act = act }) None → j < length s.actors.items
room s j act ok = let len = map_length actor_shown s.actors.items in let p = (passed ok).0 in omega (arith, p)

-- and is this one
pub this_one : (us : List rust_actor.Actor) (j : ℕ) (one : rust_actor.Actor) → j < length us → one ≡ get_or us j one → actor_shown one ≡ get_or (map actor_shown us) j idle
this_one us j one less is = sym (get_map actor_shown us j one idle (at_index us j one less is))

pub finished_more : (old mid new : List rust_finished.Finished) (f : rust_finished.Finished) (g : Finished) → new ≡ mid ++ f ∷ [] → mid ≡ old → finished_shown f ≡ g → map finished_shown new ≡ map finished_shown old ++ g ∷ []
finished_more old mid new f g more same is = ap (map finished_shown) (more ∙ ap (λ l. l ++ f ∷ []) same) ∙ map-append finished_shown old (f ∷ []) ∙ ap (λ z. map finished_shown old ++ z ∷ []) is

-- what is concluded, actor and records apart
pub concluding_is : (s : State) (j : ℕ) (a : Actor) (o : Option Answer) → record s { actors = set s.actors j (ended a o); finished = s.finished ++ recorded j a o } ≡ concluding s j a o
concluding_is s j a None = λ i. record s { actors = set s.actors j a; finished = append-nil s.finished i }
concluding_is s j a (Some reply) = refl

-- a note that may be read lacks a word
pub read_few : (s : rust_state.State) → Lives (state_of s) → (j n : ℕ) (one : rust_actor.Actor) (x : rust_note.Note) → Answers (state_of s) (record { actor = j; act = Read }) None → one ≡ get_or s.actors.items j one → n ≡ length one.notes.items → n - 1 < length one.notes.items
    → x ≡ get_or one.notes.items (n - 1) x → length x.words.items < ROW_WORDS
read_few s lives j n one x ok is len inside it =
    let less = room s j Read ok in
    let most = (note_room s lives j (n - 1) one x less is inside it).1 in
    let lacks = (passed (passed (passed (passed ok).1).1).1).0 in
    let here_it = get_map note_shown one.notes.items (n - 1) x no_note (at_index one.notes.items (n - 1) x inside it) in
    let last : last_of (actor_shown one).walk ≡ n - 1 = ap (λ (k : ℕ). k - 1) (map_length note_shown one.notes.items ∙ sym len) in
    let same = this_one s.actors.items j one less is in
    dite (ℕ_discrete (length x.words.items) ROW_WORDS)
    (λ whole. let l = length-drop 1 x.words.items in let is_whole : IsWhole (note_shown x) = omega arith in
    absurd (lacks (inr (subst (λ (a : Actor). IsWhole (note_of a.walk (last_of a.walk))) same (subst (λ (k : ℕ). IsWhole (get_or (map note_shown one.notes.items) k no_note)) (sym last) (subst IsWhole (sym here_it) is_whole))))))
    (λ other. omega arith)

-- an actor that may read has a note
pub read_some : (s : rust_state.State) → (j : ℕ) (one : rust_actor.Actor) → Answers (state_of s) (record { actor = j; act = Read }) None → one ≡ get_or s.actors.items j one → 0 < length one.notes.items
read_some s j one ok is =
    let less = room s j Read ok in
    let lacks = (passed (passed (passed (passed ok).1).1).1).0 in
    some_of one.notes.items (λ none. lacks (inl (sym (ap (λ (a : Actor). a.walk.notes) (this_one s.actors.items j one less is)) ∙ ap (map note_shown) none)))
  where
    some_of : {X : Type 0} (l : List X) → (l ≡ [] → ⊥) → 0 < length l
    some_of [] never = absurd (never refl)
    some_of (x ∷ xs) never = omega arith

-- a note that may be checked is there
pub not_past : (one : rust_actor.Actor) (i : ℕ) (b : Bool) → b ≡ false → (IsTrue b ↔ IsUncheckable (actor_shown one).walk i) → i < length one.notes.items
not_past one i b off so = below i (length one.notes.items) (λ h. let len = map_length note_shown one.notes.items in let past : length (map note_shown one.notes.items) ≤ i = omega arith in true≢false (sym (so.1 (inl past)) ∙ off))
  where
    below : (m n : ℕ) → (n ≤ m → ⊥) → m < n
    below m n h = omega arith
