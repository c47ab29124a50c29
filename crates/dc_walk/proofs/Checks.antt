-- The pivot of a walk, and the checks of the notes that it used.
use Rattle.std.proofs.Common.{◌≡◌, ℕ, zero, suc, ◌+◌, ◌-◌, ◌<◌, ◌≤◌, ◌⊎◌, inl, inr, List, [], ◌∷◌, Bool, true, false, if◌then◌else◌, Option, Some, None, option_map, map, length, get_or, set, take, refl, ap, ap₂, sym, ◌∙◌, subst, arith}
use Rattle.std.proofs.Math.Seq.{take-length}
use Rattle.std.proofs.lemmas.List.{length-map}
use Rattle.std.proofs.lemmas.List.Elements.{Contains-append_right}
use mathlib.Core.Option.{some}
use lib.ListN.{get_elem?}
use Rattle.dc_names.specs.Paths.{fault_of}
use Rattle.dc_plain.specs.declared.call.Follow.{Follow}
use Rattle.dc_plain.specs.Facts.{Fact, told_by}
use Rattle.dc_plain.specs.FactLaws.{outcome_answer, answer_told}
use Rattle.dc_plain.specs.Resolution.{Outcome}
use Rattle.dc_plain.specs.Requests.{Request, Answer}
use Rattle.dc_plain.specs.Requests.Request.{Look}
use Rattle.dc_row.specs.Decoding.{SpelledIsRead}
use Rattle.dc_events.specs.Views.{View, Note, Book}
use Rattle.dc_events.specs.Views.Fault.{Changed}
use Rattle.dc_events.specs.Walks.{no_note}
use Rattle.dc_events.specs.Noted.{facts_in}
use Rattle.dc_events.specs.Effects.{begins, with_seen, with_record, concluded, settled, turned, pivoted, marked, checked, faulted}
use Rattle.dc_table.specs.Walking.{CanCheck}
use Rattle.dc_walk.specs.Uses.{Use, IsUse, Marked, facts_of}
use Rattle.dc_walk.specs.Finds.{use_shown}
use Rattle.dc_walk.specs.Looks.{look_shown, outcome_by, outcome_of}
use Rattle.dc_walk.specs.Rooms.{no_use, used_at, Used}
use Rattle.dc_walk.specs.Settling.{Came, IsChecking, IsOpen}
use Rattle.dc_walk.specs.Walks.{Settles}
use Rattle.dc_walk.specs.declared.look.Look as rust_look
use Rattle.dc_walk.specs.declared.answer.Fast.TheVariants.{Again}
use Rattle.dc_walk.specs.declared.why.Why.TheVariants as whys
use Rattle.dc_walk.proofs.Marks.{facts_are, marks_next, next_there, IsNext, ticked}
use Rattle.dc_walk.proofs.Told.{answer_is, none_before}
use Rattle.dc_walk.proofs.Questions.{many_facts}

module _ (spelled : SpelledIsRead) (base : ℕ) (text : List ℕ) (how : Follow) (valid : fault_of text ≡ None) where
  -- what a step concludes, by the outcome from its facts
  concludes : (v : View) (facts : List Fact) (end : Option Outcome) → v.walk.busy ≡ true → v.walk.call ≡ Look base text how → facts_in v.walk.notes ≡ facts → outcome_by base text how (told_by facts) ≡ end → settled v ≡ concluded v (option_map outcome_answer end)
  concludes v facts end busy call notes is =
      ap (concluded v) (ap (λ b. if b then answer_told (told_by (facts_in v.walk.notes)) v.walk.call else None) busy
      ∙ ap₂ (λ (fs : List Fact) (q : Request). answer_told (told_by fs) q) notes call ∙ answer_is (told_by facts) base text how valid ∙ ap (option_map outcome_answer) is)

  no_more : (c n : ℕ) → c ≡ n → c < n → ⊥
  no_more c n e l = absurd (omega arith)

  -- after a step that came to nothing
  goes_on : (call : Request) (answer : Answer) (us : List Use) (before : View) (at c : ℕ) (v w : View) → w ≡ v → v.loads ≤ before.loads + 1 + c → v.first_load ≡ before.first_load → c < length us → IsOpen call us before.book at c v
      → IsChecking call answer us before at c w
  goes_on call answer us before at c v w e loads first less now = subst (IsChecking call answer us before at c) (sym e) (record {
    loads = loads;
    first_load = first;
    more = λ l. now;
    done = λ is. absurd (no_more c (length us) is less);
  })

  -- after the step that made the record
  ends : (answer : Answer) (us : List Use) (before : View) (at c : ℕ) (v w : View) → w ≡ concluded v (Some answer) → v.loads ≤ before.loads + 1 + c → v.first_load ≡ before.first_load → v.walk.pivot ≡ at → v.book ≡ with_seen before.book at → v.walk.call ≡ Look base text how → c ≡ length us
      → IsChecking (Look base text how) answer us before at c w
  ends answer us before at c v w e loads first pivot book_is call all = subst (IsChecking (Look base text how) answer us before at c) (sym e) (record {
    loads = loads;
    first_load = first;
    more = λ l. absurd (no_more c (length us) all l);
    done = λ is i. with_record (book_is i) (record { call = call i; reply = answer; at = pivot i; altered = false });
  })

  module _ (now w : View) (us : List Use) (answer : Answer) (at : ℕ) (came : Came (outcome_by base text how) (Look base text how) now us answer) (e : w ≡ pivoted now at) where
    turned_at : (turned now at).walk.pivot ≡ at
    turned_at = ap (λ b. if b then at else 0) came.walk.busy

    pub first_check : IsChecking (Look base text how) answer us now at 0 w
    first_check =
        let facts = facts_are spelled 0 0 now.walk.notes us came.walk.used.marked in
        elim (none_or_some us) [
          | inl none ↦
              let nobody : outcome_by base text how (told_by []) ≡ Some came.end = ap (λ us. outcome_by base text how (told_by (facts_of us))) (sym none) ∙ came.found in
              let size : length us ≡ 0 = ap length none in
              subst (λ a. IsChecking (Look base text how) a us now at 0 w) (sym came.answers)
              (ends (outcome_answer came.end) us now at 0 (turned now at) w
              (e ∙ concludes (turned now at) [] (Some came.end) came.walk.busy came.about facts nobody)
              (omega arith) refl turned_at refl came.about (sym size))
          | inr some_use ↦
              goes_on (Look base text how) answer us now at 0 (turned now at) w
              (e ∙ concludes (turned now at) [] None came.walk.busy came.about facts (none_before (outcome_by base text how) (facts_of us) came.walk.used.needed came.walk.used.distinct 0 (subst (λ (n : ℕ). 0 < n) (sym (many_facts us)) some_use)))
              (omega arith) refl some_use
              (record { busy = came.walk.busy; late = came.walk.busy; pivot = turned_at; call_is = came.about; book_is = refl; marked = came.walk.used.marked })
        ]
      where
        none_or_some : (us : List Use) → (us ≡ []) ⊎ (0 < length us)
        none_or_some [] = inl refl
        none_or_some (u ∷ us) = inr (omega arith)

  less_or : (c n : ℕ) → c < n → (suc c < n) ⊎ (suc c ≡ n)
  less_or c n l = grind arith

  -- one check more
  next_check : (now : View) (us : List Use) (answer : Answer) (at c : ℕ) (d : Use) (v w : View) → Came (outcome_by base text how) (Look base text how) now us answer → c < length us
      → IsChecking (Look base text how) answer us now at c v → w ≡ checked v (get_or us c d).place → IsChecking (Look base text how) answer us now at (suc c) w
  next_check now us answer at c d v w came less is e =
      let open_now = is.more less in
      let place : ℕ = (get_or us c d).place in
      let m : View = marked v place in
      let same_place : place - 0 ≡ place = omega arith in
      let marks : Marked 0 (suc c) m.walk.notes us = subst (λ (i : ℕ). Marked 0 (suc c) (set v.walk.notes i (ticked (get_or v.walk.notes i no_note))) us) same_place (marks_next 0 c v.walk.notes us d open_now.marked less) in
      let facts = facts_are spelled 0 (suc c) m.walk.notes us marks in
      let loads = is.loads in
      elim (less_or c (length us) less) [
        | inl more ↦
            let many : length (facts_of us) ≡ length us = many_facts us in
            goes_on (Look base text how) answer us now at (suc c) m w
            (e ∙ concludes m (take (suc c) (facts_of us)) None open_now.busy open_now.call_is facts (none_before (outcome_by base text how) (facts_of us) came.walk.used.needed came.walk.used.distinct (suc c) (omega arith)))
            (omega arith) is.first_load more
            (record { busy = open_now.busy; late = open_now.late; pivot = open_now.pivot; call_is = open_now.call_is; book_is = open_now.book_is; marked = marks })
        | inr all ↦
            let whole : take (suc c) (facts_of us) ≡ facts_of us = ap (λ (n : ℕ). take n (facts_of us)) (all ∙ sym (many_facts us)) ∙ take-length (facts_of us) in
            subst (λ a. IsChecking (Look base text how) a us now at (suc c) w) (sym came.answers)
            (ends (outcome_answer came.end) us now at (suc c) m w
            (e ∙ concludes m (facts_of us) (Some came.end) open_now.busy open_now.call_is (facts ∙ whole) came.found)
            (omega arith) is.first_load open_now.pivot open_now.book_is open_now.call_is all)
      ]

get_map : {X Y : Type 0} (f : X → Y) (xs : List X) (i : ℕ) (d : X) → get_or (map f xs) i (f d) ≡ f (get_or xs i d)
get_map f [] i d = refl
get_map f (x ∷ xs) zero d = refl
get_map f (x ∷ xs) (suc i) d = get_map f xs i d

-- the use of a place in the list
pub use_there : {X : Type 0} (f : X → Use) (xs ys : List X) (i : ℕ) (d : X) → ys ≡ xs → get_or (map f xs) i (f d) ≡ f (get_or ys i d)
use_there f xs ys i d same = get_map f xs i d ∙ ap (λ zs. f (get_or zs i d)) (sym same)

pub there_elem : (xs : List Note) (i : ℕ) → i < length xs → get_elem? xs i ≡ some (get_or xs i no_note)
there_elem [] i l = absurd (omega arith)
there_elem (x ∷ xs) zero l = refl
there_elem (x ∷ xs) (suc i) l = there_elem xs i (omega arith)

can_check : (v : View) (u : Use) → v.walk.busy ≡ true → v.walk.pivoted ≡ true → IsNext 0 v.walk.notes u → CanCheck v u.place u.row u.count
can_check v u busy late n =
    let same : u.place - 0 ≡ u.place = omega arith in let inside = n.inside in
    let is = subst (λ (i : ℕ). IsUse u u.place (get_or v.walk.notes i no_note)) same n.is in
    let size = is.spells.size in record {
      busy = busy;
      turned = late;
      there = there_elem v.walk.notes u.place (omega arith);
      whole = omega arith;
      unchecked = subst (λ (i : ℕ). (get_or v.walk.notes i no_note).checked ≡ false) same n.unticked;
      of_row = is.row;
      counted = is.count;
    }

ready : {call : Request} {answer : Answer} {us : List Use} {before : View} {at c : ℕ} {v : View} (d u : Use) → IsChecking call answer us before at c v → c < length us → get_or us c d ≡ u → CanCheck v u.place u.row u.count
ready {us = us} {c = c} {v = v} d u is less here = let now = is.more less in
    subst (λ (x : Use). CanCheck v x.place x.row x.count) here (can_check v (get_or us c d) now.busy now.late (next_there 0 c v.walk.notes us d now.marked less))

pub begins_book : (b : Bool) (v : View) (call : Request) → (begins b v call).book ≡ v.book
begins_book true v call = refl
begins_book false v call = refl

-- a check found a higher count
stopped_check : (look : rust_look.Look) {answer : Answer} {us : List Use} {at c used : ℕ} {before v w : View} {row : ℕ} (noted found : ℕ) {count : ℕ} → Came (outcome_of look) (look_shown look) before us answer → IsChecking (look_shown look) answer us before at c v → c < length us → length us ≡ used → before.book.seen ≤ at
    → (noted ≡ count) × (count < found) × (w ≡ faulted v (Changed row count found)) → Settles look used before w (Again (whys.Changed row noted found))
stopped_check look {us = us} {at = at} {c = c} {used = used} {before = before} {v = v} {row = row} noted found came is less many later changed =
    let book = (is.more less).book_is in
    let seen : v.book.seen ≡ at = ap (λ (b : Book). b.seen) book in
    let size = many_facts us in let loads = is.loads in
    let same = changed.0 in let above = changed.1 in
    let x = Changed row noted found in
    subst (λ z. Settles look used before z (Again (whys.Changed row noted found))) (sym (changed.2 ∙ ap (λ (n : ℕ). faulted v (Changed row n found)) (sym same))) (record {
      settled = record {
        changed = (Contains-append_right v.faults (x ∷ []) x (0, omega arith, refl), omega arith);
        nothing = record { own = ap (λ (b : Book). b.own) book; joined = ap (λ (b : Book). b.joined) book; later = omega arith };
      };
      asks = none_before (outcome_of look) (facts_of us) came.walk.used.needed came.walk.used.distinct 0 (omega arith);
      loads = omega arith;
      first_load = is.first_load;
    })

-- the next of the rows that were used is checked
module _ (look : rust_look.Look) (items : List Used) {answer : Answer} {before : View} {at c : ℕ} {v : View} (came : Came (outcome_of look) (look_shown look) before (map use_shown items) answer) (is : IsChecking (look_shown look) answer (map use_shown items) before at c v) (there : c < length items) where
  less : c < length (map use_shown items)
  less = omega (arith, length-map items use_shown, there)

  here : get_or (map use_shown items) c (use_shown no_use) ≡ use_shown (used_at items c)
  here = use_there use_shown items items c no_use refl

  pub may_check : {place row count : ℕ} → place ≡ (used_at items c).place → row ≡ (used_at items c).row → count ≡ get_or (used_at items c).words 0 0 → CanCheck v place row count
  may_check p r n = subst (λ (z : ℕ × ℕ × ℕ). CanCheck v z.0 z.1 z.2) (λ i. (sym p i, sym r i, sym n i)) (ready (use_shown no_use) _ is less here)

  pub check_more : SpelledIsRead → {place : ℕ} (w : View) → place ≡ (used_at items c).place → w ≡ checked v place → IsChecking (look_shown look) answer (map use_shown items) before at (c + 1) w
  check_more law w p e = let next : suc c ≡ c + 1 = omega arith in
      subst (λ (n : ℕ). IsChecking (look_shown look) answer (map use_shown items) before at n w) next
      (next_check law look.base look.path.bytes.now look.follow look.path.valid before (map use_shown items) answer at c (use_shown no_use) v w came less is (e ∙ (ap (checked v) p ∙ ap (λ (u : Use). checked v u.place) (sym here))))

  pub check_failed : {w : View} {row : ℕ} (noted found : ℕ) {count : ℕ} → before.book.seen ≤ at → (noted ≡ count) × (count < found) × (w ≡ faulted v (Changed row count found)) → Settles look (length items) before w (Again (whys.Changed row noted found))
  check_failed noted found later changed = stopped_check look noted found came is less (length-map items use_shown) later changed
