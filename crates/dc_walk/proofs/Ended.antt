-- How a walk by rows begins and ends.
use Rattle.std.proofs.Common.{◌≡◌, ℕ, ◌+◌, ◌*◌, ◌/◌, ◌<◌, ◌≤◌, List, [], Bool, true, false, not, Option, Some, None, if◌then◌else◌, length, map, refl, ap, sym, ◌∙◌, subst, arith}
use Rattle.std.specs.List.{Contains}
use Rattle.std.proofs.lemmas.List.{length-map}
use Rattle.dc_table.specs.Changes.{NothingNew}
use Rattle.dc_plain.specs.Facts.{Label, Teller, told_by}
use Rattle.dc_plain.specs.Resolution.{Outcome}
use Rattle.dc_plain.specs.Requests.{Request, Answer}
use Rattle.dc_plain.specs.Tellers.{Extends}
use Rattle.dc_resolve.specs.Needs.{IsNeeded}
use Rattle.dc_plain.specs.FactLaws.{outcome_answer}
use Rattle.dc_events.specs.Views.{View, Book}
use Rattle.dc_events.specs.Views.Fault.{Busy, Changed}
use Rattle.dc_events.specs.Effects.{begins, begun}
use Rattle.dc_table.specs.Holders.{table_of}
use Rattle.dc_table.specs.Passes.{Pass, view, share, IsSamePass, IsIdle}
use Rattle.dc_table.specs.Shares.{Share}
use Rattle.dc_walk.specs.Uses.{Use, Marked, facts_of}
use Rattle.dc_walk.specs.Asking.{IsWalk}
use Rattle.dc_walk.specs.Causes.{HasCause}
use Rattle.dc_walk.specs.Becomings.{Becomes, Between, IsGood, MayAskRows, Stops}
use Rattle.dc_walk.specs.Fasts.{GaveUp}
use Rattle.dc_resolve.specs.declared.finder.Finder.{Ghosts}
use Rattle.dc_trail.specs.Keeping.{FinderHalts, HasLongerTrail, IfNoPlace}
use Rattle.dc_trail.specs.declared.halt.Halt.{Halt}
use Rattle.dc_trail.specs.declared.halt.Halt.TheVariants as halts
use Rattle.dc_walk.specs.Trails.{LacksPlaces}
use Rattle.dc_walk.specs.Walks.{Went, Stopped}
use Rattle.dc_walk.specs.Finds.{told_in, use_shown, AllSpelled, AllInside, AllHeld}
use Rattle.dc_walk.specs.Findings.{CanWalk, SameRows, IsFinding, view_in, now_in, uses_in, outcome_in, request_in, said_in, buckets_of, spent}
use Rattle.dc_walk.specs.declared.rows.Rows.{Rows}
use Rattle.dc_walk.specs.declared.rows.Stop.{Stop}
use Rattle.dc_walk.specs.declared.why.Why as rust_why
use Rattle.dc_walk.specs.declared.why.Why.TheVariants as whys
use Rattle.dc_walk.specs.Rooms.{Used}
use Rattle.dc_names.specs.declared.limits.TheConstants.{BUCKET_ROWS, ROW_WORDS, MOST_USED, MOST_LOADS}
use Rattle.dc_walk.proofs.Checks.{begins_book}
use Rattle.dc_walk.proofs.Sighted.{outcome_same}
use Rattle.dc_walk.proofs.Told.{told_itself}
use Rattle.dc_walk.proofs.Walked.{rested}
use Rattle.dc_walk.proofs.Questions.{IsWithin, within_full}

none_there : {X : Type 0} (x : X) → Contains [] x → ⊥
none_there x c = let never = c.1 in absurd (omega arith)

-- a cause is one of a walk that was begun
by_begun : (outcome : Teller → Option Outcome) (buckets : ℕ) (b : Bool) (v : View) (call : Request) (why : rust_why.Why) → HasCause outcome buckets (begins (not b) v call) why → b ≡ true
by_begun outcome buckets true v call why cause = refl
by_begun outcome buckets false v call (whys.Miss n) cause = let other = cause.2.rows 0 (omega arith) in absurd (none_there other.note other.noted)
by_begun outcome buckets false v call (whys.Busy row) cause = absurd (none_there (Busy row) cause)
by_begun outcome buckets false v call (whys.Changed row noted found) cause = absurd (none_there (Changed row noted found) cause.0)
by_begun outcome buckets false v call whys.Long cause = let none : length cause.uses ≡ 0 = ap length cause.used.marked in let many = cause.many in absurd (omega arith)
by_begun outcome buckets false v call whys.Link cause = let other = cause.2.rows 0 (omega arith) in absurd (none_there other.note other.noted)
by_begun outcome buckets false v call whys.Memory cause = absurd cause

-- the notes that are used are those of a walk that was begun
noted_by : (b : Bool) (v : View) (call : Request) (uses : List Use) → 0 < length uses → Marked 0 0 (begins (not b) v call).walk.notes uses → Marked 0 0 v.walk.notes uses
noted_by true v call uses some marked = marked
noted_by false v call uses some marked = let none : length uses ≡ 0 = ap length marked in absurd (omega arith)

-- a walk that checks each row that it used is within its loads
loads_within : (slow : Bool) (n : ℕ) → n ≤ MOST_USED → (slow ≡ true → n < MOST_USED) → ROW_WORDS * (BUCKET_ROWS * n + (if slow then BUCKET_ROWS else 0)) + n < MOST_LOADS
loads_within false n few room = omega arith
loads_within true n few room = let less = room refl in omega arith

pub started : (f : Rows) (v : View) → CanWalk (table_of f.reader) f.pass.now → now_in f ≡ begun v (request_in f) → f.made ≡ 0 → f.used.now.items ≡ [] → IsGood f
started f v can now made none = record {
  finding = record {
    can = can;
    walk = subst (λ (z : View × List Use). IsWalk (outcome_in f) z.0 z.1 (spent f + 0)) (λ i. (sym now i, map use_shown (sym none i))) (record {
      busy = refl;
      early = refl;
      used = record { marked = refl; needed = λ i l. absurd (omega arith); distinct = λ i l. absurd (omega arith) };
      few = omega arith;
      loads = omega arith;
    });
    made = made ∙ ap (λ (z : View). length z.walk.notes) (sym now);
    call = ap (λ (z : View). z.walk.call) now;
    spelled = subst AllSpelled (sym none) tt;
    inside = subst (AllInside (share f.pass.now).rows) (sym none) tt;
    held = subst (AllHeld f.filter) (sym none) tt;
    few = subst (λ (us : List Used). length us ≤ MOST_USED) (sym none) (omega arith);
  };
  room = λ slow. subst (λ (us : List Used). length us < MOST_USED) (sym none) (omega arith);
}

-- it is the walk of the same pass, and used rows of its table
pub same_so : {f g : Rows} (s : SameRows f g) (k : ℕ) (is : IsFinding g k) (p : Pass) → p ≡ g.pass.now → IsSamePass f.pass.now p × IsIdle p
same_so {f = f} s k is p same = subst (λ q. IsSamePass f.pass.now q × IsIdle q) (sym same) (s.same_pass, is.can.idle)

pub inside_so : {f g : Rows} (s : SameRows f g) (k : ℕ) (is : IsFinding g k) (us : List Used) → us ≡ g.used.now.items → AllInside (share f.pass.now).rows us
inside_so s k is us same_used = subst (λ (z : Share × List Used). AllInside z.0.rows z.1) (λ i. (s.same_pass.same_share i, sym same_used i)) is.inside

module _ (locks : Bool) (f g : Rows) (v : View) (begins_so : now_in f ≡ begun v (request_in f)) (s : SameRows f g) (between : Between locks (now_in f) (now_in g)) (k : ℕ) (is : IsFinding g k) (p : Pass) (same : p ≡ g.pass.now) (us : List Used) (same_used : us ≡ g.used.now.items) where
  now_is : now_in g ≡ view_in g.begun p f.look
  now_is = λ i. view_in g.begun (sym same i) (s.look i)

  between_so : Between locks (begun v (request_in f)) (view_in g.begun p f.look)
  between_so = subst (λ (z : View × View). Between locks z.0 z.1) (λ i. (begins_so i, now_is i)) between

  pub went_so : k ≡ 0 → (g.slow ≡ true → length g.used.now.items < MOST_USED) → (end : Outcome) (answer : Answer) → ((teller : Teller) → Extends (said_in g) teller → outcome_in f teller ≡ Some end) → answer ≡ outcome_answer end
      → Went locks f.look v (view_in g.begun p f.look) (map use_shown us) answer
  went_so none room end answer found answers = record {
    came = record {
      spent = spent g;
      walk = subst (λ (z : (Teller → Option Outcome) × View × List Use). IsWalk z.0 z.1 z.2 (spent g)) (λ i. (outcome_same s i, now_is i, map use_shown (sym same_used i)))
          (rested (spent g) (omega arith) is.walk);
      about = between_so.call;
      end = end;
      found = ap (λ (items : List Used). outcome_in f (told_by (facts_of (map use_shown items)))) same_used ∙ found (said_in g) (told_itself (said_in g));
      answers = answers;
    };
    walk = between_so;
    few = subst (λ (n : ℕ). ROW_WORDS * (BUCKET_ROWS * n + spent g) + n < MOST_LOADS) (ap (λ (us : List Used). length us) (sym same_used) ∙ sym (length-map us use_shown)) (loads_within g.slow (length g.used.now.items) is.few room);
  }

  gave_so : IsWithin (length g.used.now.items) (spent g + k) → (why : rust_why.Why) → HasCause (outcome_in g) (buckets_of g.pass.now) (now_in g) why → outcome_in f (told_by []) ≡ None → NothingNew v (view p) → GaveUp (outcome_in f) (buckets_of f.pass.now) v (view p) why
  gave_so few why cause asks nothing =
      let buckets : buckets_of g.pass.now ≡ buckets_of f.pass.now = ap (λ (x : Share). x.rows / BUCKET_ROWS) s.same_pass.same_share in
      let cause_now = subst (λ (z : (Teller → Option Outcome) × ℕ × View). HasCause z.0 z.1 z.2 why) (λ i. (outcome_same s i, buckets i, now_is i)) cause in
      let begun_is = by_begun (outcome_in f) (buckets_of f.pass.now) g.begun (view p) (request_in f) why cause_now in
      let now : view_in g.begun p f.look ≡ view p = ap (λ b. begins (not b) (view p) (request_in f)) begun_is in
      let walk = subst (λ (v : View). IsWalk (outcome_in g) v (uses_in g) (spent g + k)) (now_is ∙ now) is.walk in
      let kept = subst (Between locks (begun v (request_in f))) now between_so in
      let loads = walk.loads in let first = kept.first_load in record {
        cause = subst (λ z. HasCause (outcome_in f) (buckets_of f.pass.now) z why) now cause_now;
        asks = asks;
        nothing = nothing;
        first_load = first;
        loads = omega (arith, length-map g.used.now.items use_shown);
      }

-- it gave up
pub stopped_so : (locks : Bool) (f g : Rows) (v : View) → now_in f ≡ begun v (request_in f) → (stop : Stop) (b : Stops locks f g stop) (p : Pass) → p ≡ g.pass.now → (us : List Used) → us ≡ g.used.now.items
    → Stopped locks f.brief f.look (buckets_of f.pass.now) v (view p) (map use_shown us) stop.why
stopped_so locks f g v begins_so stop b p same us same_used =
    let now = now_is locks f g v begins_so b.same b.walk b.looks b.finding p same us same_used in
    let between = between_so locks f g v begins_so b.same b.walk b.looks b.finding p same us same_used in
    let book : (view_in g.begun p f.look).book ≡ (view p).book = begins_book (not g.begun) (view p) (request_in f) in
    let seen = ap (λ (b : Book). b.seen) book in let new = between.nothing in let later = new.later in
    let nothing : NothingNew v (view p) = record { own = sym (ap (λ (b : Book). b.own) book) ∙ new.own; joined = sym (ap (λ (b : Book). b.joined) book) ∙ new.joined; later = omega arith } in
    let asks : outcome_in f (told_by []) ≡ None = sym (λ i. outcome_same b.same i (told_by [])) ∙ b.asks in record {
      nothing = nothing;
      asks = asks;
      noted = λ some. noted_by g.begun (view p) (request_in f) (map use_shown us) some
          (subst (λ (z : View × List Used). Marked 0 0 z.0.walk.notes (map use_shown z.1)) (λ i. (now i, sym same_used i)) b.finding.walk.used.marked);
      gave_up = λ free tells. gave_so locks f g v begins_so b.same b.walk b.looks b.finding p same us same_used b.few stop.why (b.cause free (b.same.brief ∙ tells)) asks nothing;
    }

begins_loads : (b : Bool) (v : View) (call : Request) → (begins b v call).loads ≡ v.loads
begins_loads true v call = refl
begins_loads false v call = refl

-- it had too few places for its trail
pub lacked_so : (f g : Rows) (v : View) → now_in f ≡ begun v (request_in f) → (b : Becomes false f g) → IsGood g → (p : Pass) → p ≡ g.pass.now → (us : List Used) → us ≡ g.used.now.items
    → (places : ℕ) → HasLongerTrail (said_in g) f.look.base f.look.path.bytes.now f.look.follow places → LacksPlaces f.look.base f.look.path.bytes.now f.look.follow v (view p) (map use_shown us) places
lacked_so f g v begins_so b good p same us same_used places longer =
    let now = now_is false f g v begins_so b.same b.walk 0 good.finding p same us same_used in
    let between = between_so false f g v begins_so b.same b.walk 0 good.finding p same us same_used in
    let book : (view_in g.begun p f.look).book ≡ (view p).book = begins_book (not g.begun) (view p) (request_in f) in
    let seen = ap (λ (b : Book). b.seen) book in let new = between.nothing in let later = new.later in
    let walk = subst (λ (z : View). IsWalk (outcome_in g) z (uses_in g) (spent g + 0)) now good.finding.walk in
    let spent_so = walk.loads in let first = between.first_load in let few = within_full g good.finding.few in let of_pass = begins_loads (not g.begun) (view p) (request_in f) in record {
      nothing = record { own = sym (ap (λ (b : Book). b.own) book) ∙ new.own; joined = sym (ap (λ (b : Book). b.joined) book) ∙ new.joined; later = omega arith };
      noted = λ some. noted_by g.begun (view p) (request_in f) (map use_shown us) some
          (subst (λ (z : View × List Used). Marked 0 0 z.0.walk.notes (map use_shown z.1)) (λ i. (now i, sym same_used i)) good.finding.walk.used.marked);
      longer = subst (λ (items : List Used). HasLongerTrail (told_in items) f.look.base f.look.path.bytes.now f.look.follow places) (sym same_used) longer;
      loads = omega (arith, length-map g.used.now.items use_shown);
    }

-- why a walk along its trail has no answer
pub by_finder : {F T : Type 0} (g : Ghosts F T Stop) (old new : F) (halt : Halt Stop) (stop : Stop) → halt ≡ halts.Finder stop → FinderHalts g old new halt → g.stops old new stop
by_finder g old new halt stop is kept = subst (FinderHalts g old new) is kept

pub by_places : {F T : Type 0} (g : Ghosts F T Stop) (old new : F) (halt : Halt Stop) → halt ≡ halts.Full → FinderHalts g old new halt → g.becomes old new
by_places g old new halt is kept = subst (FinderHalts g old new) is kept

pub no_place : (halt : Halt Stop) (Lacks : Type 0) → halt ≡ halts.Full → IfNoPlace halt Lacks → Lacks
no_place halt Lacks is full = subst (λ (h : Halt Stop). IfNoPlace h Lacks) is full

-- what a walk needs may be asked
pub may_so : (locks : Bool) (f g : Rows) → IsGood f → Becomes locks f g → (n : ℕ) (label : Label) → IsNeeded (outcome_in f) (said_in g) n label → MayAskRows g n label
may_so locks f g good b n label need = record { good = b.good good; needed = λ teller more untold. (λ i. outcome_same b.same i teller) ∙ need teller more untold }

-- what holds of a source and its table holds of them still
pub serves_so : {A B : Type 0} {a a' : A} {b b' : B} → a' ≡ a → b' ≡ b → (P : A → B → Type 0) → P a b → P a' b'
serves_so {A = A} {B = B} e d P = subst (λ (z : A × B). P z.0 z.1) (λ i. (sym e i, sym d i))
