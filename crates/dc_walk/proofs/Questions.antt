-- What a finder over rows becomes by a question.
use Rattle.std.proofs.Common.{◌≡◌, ℕ, suc, ◌+◌, ◌*◌, ◌/◌, ◌<◌, ◌≤◌, ◌==◌, inl, inr, List, [], ◌∷◌, Bool, true, false, Option, None, if◌then◌else◌, length, map, refl, ap, sym, ◌∙◌, subst, arith}
use Rattle.std.proofs.lemmas.Bool.{cases_eq, eq-eqb}
use Rattle.std.proofs.lemmas.List.{map-append, length-map}
use Rattle.dc_plain.specs.Facts.{Key, Teller, told_by}
use Rattle.dc_plain.specs.Resolution.{Outcome}
use Rattle.dc_plain.specs.Tellers.{Extends}
use Rattle.dc_resolve.specs.Needs.{IsNeeded, IsUntold}
use Rattle.dc_table.specs.Shares.{Share}
use Rattle.dc_events.specs.Views.{View, Note, Book}
use Rattle.dc_walk.specs.Uses.{Use, DiffersEach, HasUsed, NeedsEach, facts_of}
use Rattle.dc_walk.specs.Asking.{SameWalk, first_row}
use Rattle.dc_walk.specs.Rooms.{Used}
use Rattle.dc_walk.specs.Causes.{HasCause, IsFull, Looked, TellsWhy}
use Rattle.dc_walk.specs.Becomings.{Becomes, Between, Had, MayAskNew, Stops}
use Rattle.dc_walk.specs.Seeks.{LooksOn}
use Rattle.dc_walk.specs.Findings.{SameRows, IsFinding, now_in, uses_in, outcome_in, said_in, buckets_of, spent}
use Rattle.dc_walk.specs.Sights.{Answers}
use Rattle.dc_walk.specs.declared.rows.Rows.{Rows}
use Rattle.dc_walk.specs.declared.rows.Stop.{Stop}
use Rattle.dc_names.specs.declared.limits.TheConstants.{BUCKET_ROWS, MOST_USED}
use Rattle.dc_walk.specs.declared.why.Why as rust_why
use Rattle.dc_walk.specs.Finds.{use_shown}
use Rattle.dc_walk.proofs.Sighted.{needed_still, outcome_same, untold_still}
use Rattle.dc_walk.specs.declared.source.Lane.{Lane}
use Rattle.dc_walk.proofs.Told.{none_before, told_more, told_itself}

-- before a question there is no outcome
needed_now : (outcome : Teller → Option Outcome) (said : Teller) (key : Key) → IsNeeded outcome said key.number key.label → IsUntold said key.number key.label → outcome said ≡ None
needed_now outcome said key need none = need said (told_itself said) none

-- if what was said tells no outcome, nothing tells none
first_none : (outcome : Teller → Option Outcome) (us : List Use) → NeedsEach outcome (facts_of us) → DiffersEach (facts_of us) → outcome (told_by (facts_of us)) ≡ None → outcome (told_by []) ≡ None
first_none outcome [] needs differs now = now
first_none outcome (u ∷ us) needs differs now = none_before outcome (facts_of (u ∷ us)) needs differs 0 (omega arith)

pub many_facts : (us : List Use) → length (facts_of us) ≡ length us
many_facts [] = refl
many_facts (u ∷ us) = ap suc (many_facts us)

asks_first : {f g : Rows} → SameRows f g → {notes : List Note} → HasUsed (outcome_in f) notes (uses_in f) → outcome_in f (said_in f) ≡ None → outcome_in g (told_by []) ≡ None
asks_first {f = f} s used now = (λ i. outcome_same s i (told_by [])) ∙ first_none (outcome_in f) (uses_in f) used.needed used.distinct now

-- no step of a walk between these views had the lock
same_between : {locks : Bool} {v w : View} → SameWalk v w → Between locks v w
same_between s = let seen = ap (λ (b : Book). b.seen) s.book in record {
  call = s.call;
  first_load = s.first_load;
  nothing = record { own = ap (λ (b : Book). b.own) s.book; joined = ap (λ (b : Book). b.joined) s.book; later = omega arith };
  book = λ free. s.book;
}

pub is_below : (m n : ℕ) → (m == n) ≡ false → m ≤ n → m < n
is_below m n other few = elim (cases_eq m n) [
  | inl same ↦ let never : (n == n) ≡ false = subst (λ (k : ℕ). (k == n) ≡ false) same other in let is : (n == n) ≡ true = eq-eqb n n refl in absurd cc
  | inr ne ↦ omega arith
]

-- this many rows are used, and this many looked at besides, so that the walk is within its loads
abbrev pub IsWithin : ℕ → ℕ → Type 0
IsWithin used besides = BUCKET_ROWS * used + besides ≤ BUCKET_ROWS * (MOST_USED + 1)

spent_most : (b : Bool) → (if b then BUCKET_ROWS else 0) ≤ BUCKET_ROWS
spent_most true = omega arith
spent_most false = omega arith

pub within_full : (f : Rows) → length f.used.now.items ≤ MOST_USED → IsWithin (length f.used.now.items) (spent f + 0)
within_full f few = let most = spent_most f.slow in omega arith

pub within_two : (f : Rows) (looks : ℕ) → length f.used.now.items < MOST_USED → spent f + looks ≤ BUCKET_ROWS + BUCKET_ROWS → IsWithin (length f.used.now.items) (spent f + looks)
within_two f looks room few = omega arith

-- rows were had, and the question is asked still
pub ask_still : {locks : Bool} {f g : Rows} {key : Key} → Had locks f g → MayAskNew f key → MayAskNew g key
ask_still {key = key} had may = let same = had.becomes.same in record { good = had.becomes.good may.good; needed = needed_still same had.used key may.needed; untold = untold_still same had.used key may.untold }

-- a question without an answer is the last
pub stops : (locks : Bool) {f g : Rows} {key : Key} (on : LooksOn f g) → MayAskNew f key → (k : ℕ) → IsFinding g k → IsWithin (length g.used.now.items) (spent g + k) → (stop : Stop)
    → (locks ≡ false → g.brief ≡ false → HasCause (outcome_in g) (buckets_of g.pass.now) (now_in g) stop.why) → Stops locks f g stop
stops locks {f = f} {key = key} on may k is few stop cause = record {
  same = on.same;
  walk = same_between on.on.same;
  untried = λ free. on.untried;
  looks = k;
  finding = is;
  few = few;
  cause = cause;
  asks = asks_first on.same may.good.finding.walk.used (needed_now (outcome_in f) (said_in f) key may.needed may.untold);
}

-- as many rows are used as can be noted
pub full_cause : (g : Rows) (k : ℕ) → IsFinding g k → length g.used.now.items ≡ MOST_USED → IsFull (outcome_in g) (now_in g)
full_cause g k is full = record { uses = uses_in g; used = is.walk.used; many = length-map g.used.now.items use_shown ∙ full }

-- why no row of the key's bucket answered
pub looked_cause : {f g : Rows} (s : SameRows f g) (lane : Lane) (key : Key) (odd : Option ℕ) (answered : ℕ) (why : rust_why.Why) (looks : ℕ) → f.used.now.items ≡ g.used.now.items → answered ≡ length f.used.now.items → (lane.first ≡ first_row (buckets_of f.pass.now) key) × (lane.len ≡ BUCKET_ROWS)
    → Looked (now_in g) lane.first key odd lane.len → TellsWhy odd key answered why → IsFinding g looks → IsNeeded (outcome_in f) (said_in f) key.number key.label → IsUntold (said_in f) key.number key.label
    → HasCause (outcome_in g) (buckets_of g.pass.now) (now_in g) why
looked_cause {f = f} {g = g} s lane key odd answered why looks used many bucket looked tells is need none =
    let here : lane.first ≡ first_row (buckets_of g.pass.now) key = bucket.0 ∙ ap (λ (x : Share). first_row (x.rows / BUCKET_ROWS) key) (sym s.same_pass.same_share) in
    tells (outcome_in g) (buckets_of g.pass.now) (now_in g)
    (subst (λ (z : ℕ × ℕ). Looked (now_in g) z.0 key odd z.1) (λ i. (here i, bucket.1 i)) looked)
    (record {
      uses = uses_in f;
      used = subst (λ (us : List Used). HasUsed (outcome_in g) (now_in g).walk.notes (map use_shown us)) (sym used) is.walk.used;
      untold = none;
      needed = λ teller more untold. (λ i. outcome_same s i teller) ∙ need teller more untold;
    })
    (length-map f.used.now.items use_shown ∙ sym many)

-- a row that was used as the last answers
pub answered_becomes : (locks : Bool) {f g : Rows} (on : LooksOn f g) (row at : ℕ) (key : Key) → Answers f key g row 0 at → (g.slow ≡ true → length g.used.now.items < MOST_USED) → Becomes locks f g
answered_becomes locks {f = f} {g = g} on row at key a room = record {
  same = on.same;
  told = subst (λ facts. Extends (said_in f) (told_by facts)) (sym (ap facts_of a.uses ∙ map-append (λ u. u.fact) (uses_in f) (a.use_of ∷ []))) (told_more (facts_of (uses_in f)) a.use_of.fact);
  walk = same_between on.on.same;
  untried = λ free. on.untried;
  good = λ is. record { finding = a.finding; room = room };
}
