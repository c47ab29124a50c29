-- What is found before a change has the lock, and what of it holds under the lock.
use Rattle.std.proofs.Common.{◌≡◌, ◌≢◌, ℕ, suc, ◌-◌, ◌<◌, List, [], ◌∷◌, Some, Option, Result, Ok, Err, option_map, map, length, get_or, refl, ap, sym, ◌∙◌, subst, arith}
use Rattle.std.specs.List.{AllByRecursion}
use Rattle.std.proofs.lemmas.List.{length-map}
use Rattle.dc_names.specs.declared.kind.Kind.TheVariants.{Dir}
use Rattle.dc_names.specs.declared.refusal.Refusal.{Refusal}
use Rattle.dc_plain.specs.declared.call.Follow.TheVariants as follow
use Rattle.dc_plain.specs.Facts.{Fact, Key, Target, key_of}
use Rattle.dc_plain.specs.Facts.Fact.{Leads, Reads}
use Rattle.dc_plain.specs.Facts.Label.{Entry, Parent, Text}
use Rattle.dc_plain.specs.FactLaws.{RepliesByFacts, outcome_answer}
use Rattle.dc_plain.specs.Operations.{left_alone, settled}
use Rattle.dc_plain.specs.Refusals.{◌>>=◌, walk_on}
use Rattle.dc_plain.specs.Requests.Answer.{Found}
use Rattle.dc_plain.specs.Requests.Request.{Look}
use Rattle.dc_plain.specs.Trees.{Tree, Holds, entry_of, told_of}
use Rattle.dc_row.specs.Decoding.{SpelledIsRead}
use Rattle.dc_row.specs.Spelling.{Spells, TellsOf, TellsTarget}
use Rattle.dc_events.specs.Views.{View}
use Rattle.dc_events.specs.Rows.{IfFact, note_words}
use Rattle.dc_events.specs.Standing.{tree_of}
use Rattle.dc_events.specs.Walks.{no_note}
use Rattle.dc_events.specs.Effects.{note_at}
use Rattle.dc_table.specs.Shares.{Known as Knowing}
use Rattle.dc_table.specs.Walking.{HasNoted, IsTrueNow}
use Rattle.dc_ops.specs.Knowing.{IsKnownOn}
use Rattle.dc_ops.specs.declared.known.Known.{Known}
use Rattle.dc_rows.specs.Guards.{IsStill}
use Rattle.dc_rows.specs.declared.guard.Guard.{Guard}
use Rattle.dc_walk.specs.Becomings.{untried_again}
use Rattle.dc_walk.specs.Finds.{fact_or_none, fact_shown, told_in, use_shown}
use Rattle.dc_walk.specs.Placing.{AreNoted, AreTrue, IsFoundBy}
use Rattle.dc_walk.specs.Rooms.{Kept, Used, no_use, used_at}
use Rattle.dc_walk.specs.Uses.{Use, IsUse, Marked, facts_of}
use Rattle.dc_walk.proofs.Checks.{there_elem, use_there}
use Rattle.dc_walk.proofs.Marks.{IsNext, any_there}
use Rattle.dc_walk.proofs.Seats.{same_passes}
use Rattle.dc_walk.proofs.Standing.{inside_at}
use Rattle.dc_walk.proofs.Told.{answer_is}

module _ (v : View) (us : List Use) (d : Use) (j : ℕ) (marked : Marked 0 0 v.walk.notes us) (less : j < length us) where
  abbrev use_of : Use
  use_of = get_or us j d

  next_is : IsNext 0 v.walk.notes use_of
  next_is = any_there 0 v.walk.notes us d j marked less

  no_offset : use_of.place - 0 ≡ use_of.place
  no_offset = omega arith

  note_is : IsUse use_of use_of.place (note_at v use_of.place)
  note_is = subst (λ (i : ℕ). IsUse use_of use_of.place (get_or v.walk.notes i no_note)) no_offset next_is.is

  -- each use is a note of the walk
  noted_there : HasNoted v use_of.place use_of.row use_of.count
  noted_there = let inside = next_is.inside in let is = note_is in let size = is.spells.size in record {
    there = there_elem v.walk.notes use_of.place (omega arith);
    whole = omega arith;
    of_row = is.row;
    counted = is.count;
  }

  -- and its fact is true, if the note is
  true_there : SpelledIsRead → (limit : ℕ) → IsTrueNow limit v use_of.place → Holds (tree_of limit v.hold.history) use_of.fact
  true_there read limit t =
      let words : List ℕ = note_words (note_at v use_of.place) in
      let same : Some t.fact ≡ Some (Some use_of.fact) = sym (read words t.fact t.spells) ∙ read words (Some use_of.fact) note_is.spells in
      let fact : t.fact ≡ Some use_of.fact = cc in
      subst (IfFact (tree_of limit v.hold.history)) fact t.holds

all_true : (t : Tree) (us : List Use) (d : Use) → ((j : ℕ) → j < length us → Holds t (get_or us j d).fact) → AllByRecursion (Holds t) (facts_of us)
all_true t [] d each = tt
all_true t (u ∷ us) d each = (each 0 (omega arith), all_true t us d (λ j less. each (suc j) (omega arith)))

-- the fact of the row in the room is true
abbrev pub IsTrueAt : Tree → Kept → ℕ → Type 0
IsTrueAt t room j = Holds t (fact_shown (used_at room.items j))

-- what a pass that knows the same may check, for a row of the room
pub may_check : {k l : Knowing} {room : Kept} → AreNoted k.view k.share.rows room → l ≡ k → (c : ℕ) → c < length room.items → {place row count : ℕ} → place ≡ (used_at room.items c).place → row ≡ (used_at room.items c).row → count ≡ (use_shown (used_at room.items c)).count
    → (row < l.share.rows) × HasNoted l.view place row count
may_check {k = k} {room = room} are same c there at of counted =
    let items = room.items in let less : c < length (map use_shown items) = omega (arith, length-map items use_shown) in
    let noted : HasNoted k.view (used_at items c).place (used_at items c).row (use_shown (used_at items c)).count = subst (λ (u : Use). HasNoted k.view u.place u.row u.count) (use_there use_shown items items c no_use refl) (noted_there k.view (map use_shown items) (use_shown no_use) c (are.noted (omega (arith, there))) less) in (
      subst (λ (z : ℕ × Knowing). z.0 < z.1.share.rows) (λ i. (sym of i, sym same i)) (inside_at _ items c no_use are.inside there),
      subst (λ (z : Knowing × (ℕ × ℕ × ℕ)). HasNoted z.0.view z.1.0 z.1.1 z.1.2) (λ i. (sym same i, (sym at i, sym of i, sym counted i))) noted,
    )

-- its fact is true of the tree, if the check finds the row as it was
pub true_so : {k l : Knowing} {room : Kept} {t : Tree} → AreNoted k.view k.share.rows room → SpelledIsRead → tree_of k.share.limit k.view.hold.history ≡ t → l ≡ k → (c : ℕ) → c < length room.items → {place : ℕ} → place ≡ (used_at room.items c).place → IsTrueNow l.share.limit l.view place → IsTrueAt t room c
true_so {k = k} {room = room} are read tree same c there at now =
    let items = room.items in let us = map use_shown items in let less : c < length us = omega (arith, length-map items use_shown) in
    let here = use_there use_shown items items c no_use refl in
    let stands : IsTrueNow k.share.limit k.view (get_or us c (use_shown no_use)).place = subst (λ (z : Knowing × ℕ). IsTrueNow z.0.share.limit z.0.view z.1) (λ i. (same i, (at ∙ sym (ap (λ (u : Use). u.place) here)) i)) now in
    subst (λ (z : Tree × Use). Holds z.0 z.1.fact) (λ i. (tree i, here i)) (true_there k.view us (use_shown no_use) c (are.noted (omega (arith, there))) less read k.share.limit stands)

-- a look-up that was answered so led there
led_there : (t : Tree) (dir : ℕ) (walked : Result Target Refusal) → (settled t (left_alone t (walked >>= λ place. Ok (Found place.0 place.1)))).0 ≡ Found dir Dir → walked ≡ Ok (dir, Dir)
led_there t dir (Ok place) e = let number : dir ≡ place.0 = cc in let kind : Dir ≡ place.1 = cc in λ i. Ok (sym number i, sym kind i)
led_there t dir (Err refusal) e = absurd cc

-- by true facts the path leads there on the tree
known_so : RepliesByFacts → (t : Tree) (known : Known) {v : View} {rows : ℕ} {room : Kept} → IsFoundBy v rows room known → AllByRecursion (Holds t) (facts_of (map use_shown room.items)) → IsKnownOn t known
known_so replies t known {room = room} found all =
    let facts : List Fact = facts_of (map use_shown room.items) in
    let answer = answer_is (told_in room.items) known.base known.front.now follow.Dir found.valid ∙ ap (option_map outcome_answer) found.leads in
    led_there t known.dir (walk_on t known.base known.front.now follow.Dir) (ap (λ x. x.0) (replies 0 t facts (Look known.base known.front.now follow.Dir) (Found known.dir Dir) all answer))

-- each row of the room is as it was noted
pub known_by : RepliesByFacts → (t : Tree) (front : Known) {v : View} {rows : ℕ} {room : Kept} → IsFoundBy v rows room front → AreTrue t room → IsKnownOn t front
known_by replies t front {room = room} found each = known_so replies t front found (all_true t (map use_shown room.items) (use_shown no_use) (λ j less. subst (λ (u : Use). Holds t u.fact) (sym (use_there use_shown room.items room.items j no_use refl)) (each j (omega (arith, length-map room.items use_shown, less)))))

-- what such a row tells of an entry is so on the tree
pub told_so : SpelledIsRead → (t : Tree) (u : Used) (key : Key) (target : Option Target) → key.label ≢ Text → Holds t (fact_shown u) → TellsOf u.words key → TellsTarget u.words target → (told_of t).entry key.number key.label ≡ Some target
told_so read t u key target entry holds tells leads = by_fact tells.fact (subst (Holds t) (ap fact_or_none (read u.words (Some tells.fact) tells.spelled)) holds) tells.about tells.spelled
  where
    by_fact : (fact : Fact) → Holds t fact → key_of fact ≡ key → Spells u.words (Some fact) → Some (entry_of t key.number key.label) ≡ Some target
    by_fact (Leads d (Entry name) x) h about spelled = ap Some (subst (λ (k : Key). entry_of t k.number k.label ≡ x) about h ∙ sym (leads d (Entry name) x spelled))
    by_fact (Leads d Parent x) h about spelled = ap Some (subst (λ (k : Key). entry_of t k.number k.label ≡ x) about h ∙ sym (leads d Parent x spelled))
    by_fact (Leads d Text x) h about spelled = absurd h
    by_fact (Reads n text) h about spelled = absurd (entry (sym (ap (λ (k : Key). k.label) about)))

-- a guard that has done nothing, twice
pub still_again : {f g h : Guard} → IsStill f g → IsStill g h → IsStill f h
still_again a b = record {
  holder = record {
    held = record { same_reference = b.holder.held.same_reference ∙ a.holder.held.same_reference; untried = untried_again a.holder.held.untried b.holder.held.untried };
    same = same_passes a.holder.same b.holder.same;
    same_known = b.holder.same_known ∙ a.holder.same_known;
  };
  kept = b.kept ∙ a.kept;
}
