-- What rows that were checked told was true at the pivot.
use Rattle.std.proofs.Common.{◌≡◌, ℕ, suc, ◌-◌, ◌+◌, ◌<◌, ◌≤◌, ◌⊎◌, inl, inr, ◌==◌, ◌&&◌, List, [], ◌∷◌, Bool, true, false, cond, Some, None, Option, map, length, get_or, refl, ap, sym, ◌∙◌, subst, arith}
use Rattle.std.specs.List.{AllByRecursion}
use Rattle.std.proofs.lemmas.Bool.{eqb-true, and_parts}
use Rattle.std.proofs.lemmas.List.{length-map}
use Rattle.std.proofs.lemmas.Slice.Eq.{bytes_eq-Decides}
use Rattle.dc_plain.specs.Facts.{Fact, Label, Target, told_by, same_label, entry_told, text_told}
use Rattle.dc_plain.specs.Facts.Fact.{Leads, Reads}
use Rattle.dc_plain.specs.Facts.Label.{Entry, Parent, Text}
use Rattle.dc_plain.specs.Requests.{Request, Answer}
use Rattle.dc_plain.specs.declared.call.Follow.{Follow}
use Rattle.dc_plain.specs.Tellers.{Extends}
use Rattle.dc_trail.specs.Keeping.{IsTrailBy}
use Rattle.dc_plain.specs.Trees.{Tree, Holds, entry_of, text_of, told_of}
use Rattle.dc_row.specs.Decoding.{SpelledIsRead}
use Rattle.dc_events.specs.Views.{View}
use Rattle.dc_events.specs.Rows.{IfFact, Tells, note_words}
use Rattle.dc_events.specs.Standing.{tree_of}
use Rattle.dc_events.specs.Walks.{no_note}
use Rattle.dc_events.specs.Effects.{note_at}
use Rattle.dc_table.specs.Shares.{Known as Knowing}
use Rattle.dc_table.specs.Walking.{CountsAt, IsTrueThen}
use Rattle.dc_walk.specs.Finds.{fact_shown, told_in, use_shown}
use Rattle.dc_walk.specs.Placing.{AreTrue}
use Rattle.dc_walk.specs.Rooms.{Kept, Used, no_use, used_at}
use Rattle.dc_walk.specs.Settling.{IsChecking}
use Rattle.dc_walk.specs.Trails.{WereTrue}
use Rattle.dc_walk.specs.Uses.{Use, IsUse, Marked, facts_of}
use Rattle.dc_walk.proofs.Checks.{use_there}
use Rattle.dc_walk.proofs.Fronts.{IsTrueAt}
use Rattle.dc_walk.proofs.Marks.{next_there}

-- the pivot counted this many calls, and this many of the rows told what was so then
pub record WereSoFar (k : Knowing) (limit : ℕ) (room : Kept) (at c : ℕ) : Type 0 where
  pub counts : CountsAt k at
  pub told : (j : ℕ) → j < c → IsTrueAt (tree_of limit counts.history) room j

pub were_all : {k : Knowing} {limit at c : ℕ} {room : Kept} → WereSoFar k limit room at c → length room.items ≤ c → WereTrue k limit room at
were_all w all = record { counts = w.counts; all = λ j less. w.told j (omega arith) }

pub were_none : {k : Knowing} {limit at : ℕ} (room : Kept) → CountsAt k at → WereSoFar k limit room at 0
were_none room counts = record { counts = counts; told = λ j less. absurd (omega arith) }

-- the fact of a use, by the note that spells it
module _ (v : View) (us : List Use) (d : Use) (c : ℕ) (marked : Marked 0 c v.walk.notes us) (less : c < length us) where
  abbrev one : Use
  one = get_or us c d

  holds_there : SpelledIsRead → (t : Tree) → Tells t (note_words (note_at v one.place)) → Holds t one.fact
  holds_there read t told =
      let next = next_there 0 c v.walk.notes us d marked less in let here : one.place - 0 ≡ one.place = omega arith in
      let is : IsUse one one.place (note_at v one.place) = subst (λ (i : ℕ). IsUse one one.place (get_or v.walk.notes i no_note)) here next.is in
      let words : List ℕ = note_words (note_at v one.place) in
      let same : Some told.fact ≡ Some (Some one.fact) = sym (read words told.fact told.spells) ∙ read words (Some one.fact) is.spells in
      let fact : told.fact ≡ Some one.fact = cc in
      subst (IfFact t) fact told.holds

either : (j c : ℕ) → j < c + 1 → (j < c) ⊎ (j ≡ c)
either j c less = grind arith

-- one row more was checked
pub were_more : {l m : Knowing} {limit at c place : ℕ} {room : Kept} {call : Request} {answer : Answer} {before : View} → SpelledIsRead → WereSoFar l limit room at c → l.share.limit ≡ limit → IsChecking call answer (map use_shown room.items) before at c l.view → c < length room.items
    → place ≡ (used_at room.items c).place → IsTrueThen l place → m.pivots ≡ l.pivots → WereSoFar m limit room at (c + 1)
were_more {l = l} {limit = limit} {at = at} {c = c} {place = place} {room = room} read w same is there here now pivots =
    let items = room.items in let us = map use_shown items in let less : c < length us = omega (arith, length-map items use_shown) in
    let open_now = is.more less in let t : Tree = tree_of limit w.counts.history in
    let at_use = use_there use_shown items items c no_use refl in
    let told : Tells (tree_of l.share.limit w.counts.history) (note_words (note_at l.view place)) = now w.counts.history w.counts.earlier w.counts.now (w.counts.clock_is ∙ sym open_now.pivot) in
    let its_place : place ≡ (get_or us c (use_shown no_use)).place = here ∙ sym (ap (λ (u : Use). u.place) at_use) in
    let told_there : Tells t (note_words (note_at l.view (get_or us c (use_shown no_use)).place)) = subst (λ (z : ℕ × ℕ). Tells (tree_of z.0 w.counts.history) (note_words (note_at l.view z.1))) (λ i. (same i, its_place i)) told in
    let fact : Holds t (get_or us c (use_shown no_use)).fact = holds_there l.view us (use_shown no_use) c open_now.marked less read t told_there in
    let last : IsTrueAt t room c = subst (λ (u : Use). Holds t u.fact) at_use fact in record {
      counts = record { history = w.counts.history; earlier = w.counts.earlier; clock_is = w.counts.clock_is; now = pivots ∙ w.counts.now };
      told = λ j under. elim (either j c under) [
        | inl earlier ↦ w.told j earlier
        | inr is_it ↦ subst (IsTrueAt t room) (sym is_it) last
      ];
    }

-- who tells true facts tells what the tree does
first_told : {X : Type 0} (b : Bool) (target found real : X) (rest : Option X) → (b ≡ true → real ≡ target) → (rest ≡ Some found → real ≡ found) → cond b (Some target) rest ≡ Some found → Some real ≡ Some found
first_told true target found real rest is so e = ap Some (is refl) ∙ e
first_told false target found real rest is so e = ap Some (so e)

first_text : {X : Type 0} (b : Bool) (target found : X) (real rest : Option X) → (b ≡ true → real ≡ Some target) → (rest ≡ Some found → real ≡ Some found) → cond b (Some target) rest ≡ Some found → real ≡ Some found
first_text true target found real rest is so e = is refl ∙ e
first_text false target found real rest is so e = so e

label_is : (a b : Label) → same_label a b ≡ true → a ≡ b
label_is (Entry a) (Entry b) e = ap (λ n. Entry n) ((bytes_eq-Decides a b).0 e)
label_is (Entry a) Parent e = cc
label_is (Entry a) Text e = cc
label_is Parent (Entry b) e = cc
label_is Parent Parent e = refl
label_is Parent Text e = cc
label_is Text (Entry b) e = cc
label_is Text Parent e = cc
label_is Text Text e = refl

leads_so : (t : Tree) (d : ℕ) (label : Label) (target : Option Target) → Holds t (Leads d label target) → entry_of t d label ≡ target
leads_so t d (Entry name) target h = h
leads_so t d Parent target h = h
leads_so t d Text target h = absurd h

entry_so : (t : Tree) (facts : List Fact) → AllByRecursion (Holds t) facts → (d : ℕ) (label : Label) (found : Option Target) → entry_told facts d label ≡ Some found → Some (entry_of t d label) ≡ Some found
entry_so t [] all d label found e = absurd cc
entry_so t (Leads k l target ∷ facts) all d label found e = first_told (k == d && same_label l label) target found (entry_of t d label) (entry_told facts d label)
    (λ b. let two = and_parts (k == d) (same_label l label) b in subst (λ (z : ℕ × Label). entry_of t z.0 z.1 ≡ target) (λ i. (eqb-true k d two.0 i, label_is l label two.1 i)) (leads_so t k l target all.0))
    (λ more. let so = entry_so t facts all.1 d label found more in cc) e
entry_so t (Reads n bytes ∷ facts) all d label found e = entry_so t facts all.1 d label found e

text_so : (t : Tree) (facts : List Fact) → AllByRecursion (Holds t) facts → (n : ℕ) (found : List ℕ) → text_told facts n ≡ Some found → text_of t n ≡ Some found
text_so t [] all n found e = absurd cc
text_so t (Leads k l target ∷ facts) all n found e = text_so t facts all.1 n found e
text_so t (Reads m bytes ∷ facts) all n found e = first_text (m == n) bytes found (text_of t n) (text_told facts n) (λ b. subst (λ (k : ℕ). text_of t k ≡ Some bytes) (eqb-true m n b) all.0) (text_so t facts all.1 n found) e

all_so : (t : Tree) (items : List Used) → ((j : ℕ) → j < length items → Holds t (fact_shown (used_at items j))) → AllByRecursion (Holds t) (facts_of (map use_shown items))
all_so t [] each = tt
all_so t (u ∷ items) each = (each 0 (omega arith), all_so t items (λ j less. each (suc j) (omega arith)))

-- the same rows tell the same trail
pub trail_in : {us ws : List Used} → us ≡ ws → (base : ℕ) (text : List ℕ) (how : Follow) (dirs : List ℕ) → IsTrailBy (told_in ws) base text how dirs → IsTrailBy (told_in us) base text how dirs
trail_in same base text how dirs is = subst (λ (us : List Used). IsTrailBy (told_in us) base text how dirs) (sym same) is

-- what true rows tell, the tree tells
pub tree_tells : (t : Tree) (room : Kept) → AreTrue t room → Extends (told_in room.items) (told_of t)
tree_tells t room each = let facts : List Fact = facts_of (map use_shown room.items) in let all = all_so t room.items each in record {
  entry = entry_so t facts all;
  text = text_so t facts all;
}
