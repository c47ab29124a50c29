-- What a walk promises once it has made its checks, or given up before them.
use Rattle.std.proofs.Common.{◌≡◌, ℕ, ◌++◌, ◌∷◌, [], List, Bool, true, false, Option, length, refl, ap, sym, ◌∙◌, arith}
use Rattle.dc_plain.specs.Facts.{Teller}
use Rattle.dc_plain.specs.Resolution.{Outcome}
use Rattle.dc_plain.specs.Requests.{Request, Answer, answer_of as reply_shown}
use Rattle.dc_events.specs.Views.{View, Book, Record}
use Rattle.dc_table.specs.Changes.{NothingNew, Rested}
use Rattle.dc_walk.specs.Becomings.{nothing_again}
use Rattle.dc_walk.specs.Causes.{HasCause}
use Rattle.dc_walk.specs.Fasts.{Tried}
use Rattle.dc_walk.specs.Looks.{look_shown, outcome_of}
use Rattle.dc_walk.specs.Settling.{IsChanged, noted_in}
use Rattle.dc_walk.specs.Sources.{Rests}
use Rattle.dc_walk.specs.Uses.{Use}
use Rattle.dc_walk.specs.Walks.{Settles, Stopped, Walks, Went}
use Rattle.dc_walk.specs.declared.look.Look.{Look}
use Rattle.dc_walk.specs.declared.why.Why as rust_why
use Rattle.dc_walk.specs.declared.why.Why.TheVariants as whys
use Rattle.dc_walk.specs.declared.answer.Fast as rust_fast
use Rattle.dc_walk.specs.declared.answer.Fast.TheVariants as fasts

changed_cause : (outcome : Teller → Option Outcome) (buckets : ℕ) (w : View) (why : rust_why.Why) → IsChanged w why → HasCause outcome buckets w why
changed_cause outcome buckets w (whys.Miss n) is = absurd is
changed_cause outcome buckets w (whys.Busy row) is = absurd is
changed_cause outcome buckets w (whys.Changed row noted found) is = is
changed_cause outcome buckets w whys.Long is = absurd is
changed_cause outcome buckets w whys.Link is = absurd is
changed_cause outcome buckets w whys.Memory is = absurd is

module _ (locks : Bool) (look : Look) (buckets : ℕ) (v w : View) where
  -- it came to an answer, whose rows were checked
  pub walked : (m : View) (uses : List Use) (answer : Answer) (used : ℕ) → used ≡ length uses → Went locks look v m uses answer → (fast : rust_fast.Fast) → Settles look used m w fast → Walks locks look buckets v w fast
  walked m uses answer used many went (fasts.Done stamped) s =
      let nothing = went.walk.nothing in let later = nothing.later in let after = s.settled.1 in let few = went.few in let walk = went.came.walk in
      let read = walk.loads in let loads = s.loads in let from = went.walk.first_load in
      let record_is : Record = record { call = look_shown look; reply = reply_shown stamped.reply; at = stamped.at; altered = false } in
      let seen = ap (λ (b : Book). b.seen) s.settled.0 in record {
        tried = record {
          recorded = record {
            altered = false;
            own = ap (λ (b : Book). b.own) s.settled.0 ∙ ap (λ (rs : List Record). rs ++ record_is ∷ []) nothing.own;
            joined = ap (λ (b : Book). b.joined) s.settled.0 ∙ nothing.joined;
            later = omega arith;
            seen = omega arith;
            past = λ is. absurd cc;
          };
          first_load = s.first_load ∙ from;
        };
        free = λ unlocked. record {
          keeps = record {
            book = s.settled.0 ∙ ap (λ (b : Book). noted_in b (look_shown look) (reply_shown stamped.reply) stamped.at) (went.walk.book unlocked);
            later = omega arith;
            first_load = s.first_load ∙ from;
            loads = omega arith;
          };
          asks = tt;
          loads = omega arith;
        };
      }
  walked m uses answer used many went (fasts.Again why) s =
      let n = nothing_again went.walk.nothing s.settled.nothing in let nothing : NothingNew v w = record { own = n.own; joined = n.joined; later = n.later } in let few = went.few in let walk = went.came.walk in
      let read = walk.loads in let loads = s.loads in let from = went.walk.first_load in record {
        tried = nothing;
        free = λ unlocked. record {
          keeps = record {
            cause = changed_cause (outcome_of look) buckets w why s.settled.changed;
            asks = s.asks;
            nothing = nothing;
            first_load = s.first_load ∙ from;
            loads = omega arith;
          };
          asks = s.asks;
          loads = omega arith;
        };
      }

  -- it gave up before
  pub gave_up : (uses : List Use) (why : rust_why.Why) → Stopped locks false look buckets v w uses why → Walks locks look buckets v w (fasts.Again why)
  gave_up uses why stopped = record {
    tried = stopped.nothing;
    free = λ unlocked. let gave = stopped.gave_up unlocked refl in record { keeps = gave; asks = stopped.asks; loads = gave.loads };
  }

-- what was tried stays so while another has the lock and gives it back
pub tried_still : (call : Request) (u : View) {v w : View} (fast : rust_fast.Fast) → Tried call u v fast → Rests true v w → Tried call u w fast
tried_still call u (fasts.Done stamped) tried rests = let r = tried.recorded in let nothing = rests.nothing in let later = nothing.later in let seen = r.seen in record {
  recorded = record {
    altered = r.altered;
    own = nothing.own ∙ r.own;
    joined = nothing.joined ∙ r.joined;
    later = r.later;
    seen = omega arith;
    past = λ is. let past = r.past is in omega arith;
  };
  first_load = ap (λ (x : View). x.first_load) rests.rest ∙ tried.first_load;
}
tried_still call u (fasts.Again why) tried rests = nothing_again tried rests.nothing

-- a pass that had the lock, and has it no more
pub rests_so : {v w : View} → Rested v w → Rests true v w
rests_so {v = v} r = let later = r.later in let seen = ap (λ (x : View). x.book.seen) r.same in record {
  rest = r.same ∙ (λ i. record v { book = (sym r.same i).book; hold = (sym r.same i).hold });
  nothing = record { own = ap (λ (x : View). x.book.own) r.same; joined = ap (λ (x : View). x.book.joined) r.same; later = omega arith };
  still = λ free. absurd cc;
}
