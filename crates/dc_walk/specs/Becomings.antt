-- What questions make of a walk over rows, whose source may take the lock or not.
use Rattle.std.specs.Prelude.{◌≡◌, ℕ, ◌+◌, ◌*◌, ◌<◌, ◌≤◌, [], List, Bool, true, false, Option, None, length}
use Rattle.std.proofs.Common.{arith, refl, ◌∙◌}
use Rattle.dc_plain.specs.Facts.{Key, Label, told_by}
use Rattle.dc_plain.specs.Tellers.{Extends}
use Rattle.dc_resolve.specs.Needs.{IsNeeded, IsUntold}
use Rattle.dc_events.specs.Views.{View}
use Rattle.dc_table.specs.Changes.{NothingNew}
use Rattle.dc_table.specs.Passes.{known}
use Rattle.dc_table.specs.Shares.{HasNotTried, Known, LockHold}
use Rattle.dc_walk.specs.Causes.{HasCause}
use Rattle.dc_walk.specs.Sources.{IsUntried}
use Rattle.dc_walk.specs.Unpins.{PinsInTurn, rows_used, with_spare}
use Rattle.dc_walk.specs.Findings.{SameRows, IsFinding, now_in, outcome_in, said_in, buckets_of, spent}
use Rattle.dc_names.specs.declared.limits.TheConstants.{BUCKET_ROWS, MOST_USED}
use Rattle.dc_walk.specs.declared.rows.Rows.{Rows}
use Rattle.dc_walk.specs.declared.rows.Stop.{Stop}

-- it is the same walk still, and nothing is recorded; nor is anything seen if no lock is taken
pub record Between (locks : Bool) (v w : View) : Type 0 where
  pub call : w.walk.call ≡ v.walk.call
  pub first_load : w.first_load ≡ v.first_load
  pub nothing : NothingNew v w
  pub book : locks ≡ false → w.book ≡ v.book

-- it looked at no row yet for its next question, and if two looks were spent on an earlier one it has room for a row
pub record IsGood (f : Rows) : Type 0 where
  pub finding : IsFinding f 0
  pub room : f.slow ≡ true → length f.used.now.items < MOST_USED

-- it answered
pub record Becomes (locks : Bool) (f g : Rows) : Type 0 where
  pub same : SameRows f g
  pub told : Extends (said_in f) (said_in g)
  pub walk : Between locks (now_in f) (now_in g)
  pub untried : IsUntried locks f.pass.now g.pass.now
  pub good : IsGood f → IsGood g

-- it gave up: without the lock for a cause that its pass has seen, if it needs one
pub record Stops (locks : Bool) (f g : Rows) (stop : Stop) : Type 0 where
  pub same : SameRows f g
  pub walk : Between locks (now_in f) (now_in g)
  pub untried : IsUntried locks f.pass.now g.pass.now
  pub looks : ℕ
  pub finding : IsFinding g looks
  pub few : BUCKET_ROWS * length g.used.now.items + (spent g + looks) ≤ BUCKET_ROWS * (MOST_USED + 1)
  pub cause : locks ≡ false → g.brief ≡ false → HasCause (outcome_in g) (buckets_of g.pass.now) (now_in g) stop.why
  pub asks : outcome_in g (told_by []) ≡ None

-- the holds since these pinned the rows that it used, and one that it had and doesn't use, if any
abbrev pub HasPinned : List LockHold → Rows → Option ℕ → Type 0
HasPinned before f spare = PinsInTurn before (known f.pass.now).past (with_spare (rows_used f.used.now.items) spare)

-- with the lock, if it used all that it had before
abbrev pub KeepsPinned : Bool → Rows → Rows → Option ℕ → Type 0
KeepsPinned locks f g spare = locks ≡ true → (before : List LockHold) → HasPinned before f None → HasPinned before g spare

-- rows were had, and none of them is looked at yet
pub record Had (locks : Bool) (f g : Rows) : Type 0 where
  pub becomes : Becomes locks f g
  pub used : g.used.now.items ≡ f.used.now.items
  pub spent : g.used.now.spent ≡ f.used.now.spent
  pub slow : g.slow ≡ f.slow

pub record MayAskRows (f : Rows) (n : ℕ) (label : Label) : Type 0 where
  pub good : IsGood f
  pub needed : IsNeeded (outcome_in f) (said_in f) n label

-- and nothing is told of the key
pub record MayAskNew (f : Rows) (key : Key) : Type 0 where
  pub good : IsGood f
  pub needed : IsNeeded (outcome_in f) (said_in f) key.number key.label
  pub untold : IsUntold (said_in f) key.number key.label

pub nothing_still : (v : View) → NothingNew v v
nothing_still v = record { own = refl; joined = refl; later = omega arith }

pub nothing_again : {u v w : View} → NothingNew u v → NothingNew v w → NothingNew u w
nothing_again a b = let x = a.later in let y = b.later in record { own = b.own ∙ a.own; joined = b.joined ∙ a.joined; later = omega arith }

pub untried_again : {k l m : Known} → HasNotTried k l → HasNotTried l m → HasNotTried k m
untried_again a b = record { tries = b.tries ∙ a.tries; got = b.got ∙ a.got; left = b.left ∙ a.left; past = b.past ∙ a.past }

pub between_again : {locks : Bool} {u v w : View} → Between locks u v → Between locks v w → Between locks u w
between_again a b = record {
  call = b.call ∙ a.call;
  first_load = b.first_load ∙ a.first_load;
  nothing = nothing_again a.nothing b.nothing;
  book = λ free. b.book free ∙ a.book free;
}

pub stays_so : (locks : Bool) (f : Rows) → Becomes locks f f
stays_so locks f = record {
  same = record { reader = refl; pass = refl; used = refl; look = refl; brief = refl; same_pass = record { table = refl; id = refl; same_share = refl } };
  told = record { entry = λ d label found told. told; text = λ n bytes told. told };
  walk = record { call = refl; first_load = refl; nothing = nothing_still (now_in f); book = λ free. refl };
  untried = λ free. record { tries = refl; got = refl; left = refl; past = refl };
  good = λ is. is;
}

pub same_again : {f g h : Rows} → SameRows f g → SameRows g h → SameRows f h
same_again p q = record {
  reader = q.reader ∙ p.reader;
  pass = q.pass ∙ p.pass;
  used = q.used ∙ p.used;
  look = q.look ∙ p.look;
  brief = q.brief ∙ p.brief;
  same_pass = record { table = q.same_pass.table ∙ p.same_pass.table; id = q.same_pass.id ∙ p.same_pass.id; same_share = q.same_pass.same_share ∙ p.same_pass.same_share };
}

pub goes_so : (locks : Bool) (f g h : Rows) → Becomes locks f g → Becomes locks g h → Becomes locks f h
goes_so locks f g h a b = record {
  same = same_again a.same b.same;
  told = record { entry = λ d label found told. b.told.entry d label found (a.told.entry d label found told); text = λ n bytes told. b.told.text n bytes (a.told.text n bytes told) };
  walk = between_again a.walk b.walk;
  untried = λ free. untried_again (a.untried free) (b.untried free);
  good = λ is. b.good (a.good is);
}

pub stops_so : (locks : Bool) (f g h : Rows) (stop : Stop) → Becomes locks f g → Stops locks g h stop → Stops locks f h stop
stops_so locks f g h stop a b = record {
  same = same_again a.same b.same;
  walk = between_again a.walk b.walk;
  untried = λ free. untried_again (a.untried free) (b.untried free);
  looks = b.looks;
  finding = b.finding;
  few = b.few;
  cause = b.cause;
  asks = b.asks;
}

pub keeps_so : (locks : Bool) (f g : Rows) → Becomes locks f g → Extends (said_in f) (said_in g)
keeps_so locks f g b = b.told
