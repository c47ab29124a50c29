-- What each event makes of the view of its actor.
use Rattle.std.specs.Prelude.{ℕ, ◌+◌, Bool, true, false, List, [], ◌∷◌, ◌++◌, length, set, Option, Some, None}
use Rattle.dc_plain.specs.Requests.{Request, Answer}
use Rattle.dc_plain.specs.Runs.{reply_of, alters}
use Rattle.dc_events.specs.Views.{Note, Record, Walk, Book, Hold, Fault, View}
use Rattle.dc_events.specs.Standing.{tree_of}
use Rattle.dc_events.specs.Noted.{answer_in}
use Rattle.dc_events.specs.Walks.{walk_begun, walk_again, no_walk, note_of, walk_noted, walk_read, walk_turned, walk_marked}

-- the record of a call made on the tree after the history
abbrev pub record_of : ℕ → List Request → Request → Record
record_of limit hist call = record { call = call; reply = reply_of limit (tree_of limit hist) call; at = length hist; altered = alters limit (tree_of limit hist) call }

abbrev pub begun : View → Request → View
begun v call = record v { walk = walk_begun call; first_load = v.loads; faults = [] }

abbrev pub again : View → View
again v = record v { walk = walk_again v.walk; first_load = v.loads; faults = [] }

abbrev pub quit : View → View
quit v = record v { walk = no_walk }

-- a step may begin a walk
abbrev pub begins : Bool → View → Request → View
begins true v call = begun v call
begins false v call = v

abbrev pub with_seen : Book → ℕ → Book
with_seen b n = record b { seen = n }

abbrev pub with_record : Book → Record → Book
with_record b r = record b { own = b.own ++ r ∷ [] }

abbrev pub empty_hold : Hold
empty_hold = record { holds = false; history = []; words = [] }

abbrev pub taken : View → List ℕ → List Request → View
taken v words hist = record v { book = with_seen v.book (length hist); hold = record { holds = true; history = hist; words = words } }

abbrev pub wrote : View → ℕ → ℕ → View
wrote v k x = record v { hold = record v.hold { words = set v.hold.words k x } }

abbrev pub committed : ℕ → View → Request → View
committed limit v call = record v {
  walk = no_walk;
  book = with_seen (with_record v.book (record_of limit v.hold.history call)) (length v.hold.history + 1);
  hold = record { holds = true; history = v.hold.history ++ call ∷ []; words = set v.hold.words 0 (length v.hold.history + 1) };
}

abbrev pub gave : View → View
gave v = record v { hold = empty_hold }

-- a call that alters nothing is answered as the lock is given back
abbrev pub answered : ℕ → View → Request → View
answered limit v call = record v {
  walk = no_walk;
  book = with_seen (with_record v.book (record_of limit v.hold.history call)) (length v.hold.history);
  hold = empty_hold;
}

abbrev pub loaded : View → View
loaded v = record v { loads = v.loads + 1 }

abbrev pub walked : View → Walk → View
walked v w = record v { walk = w; loads = v.loads + 1 }

abbrev pub noted : View → ℕ → ℕ → View
noted v row found = walked v (walk_noted v.walk row found)

abbrev pub note_at : View → ℕ → Note
note_at v i = note_of v.walk i

abbrev pub read : View → ℕ → View
read v word = walked v (walk_read v.walk word)

-- a call that was answered at its pivot is recorded
abbrev pub concluded : View → Option Answer → View
concluded v None = v
concluded v (Some reply) = record v {
  walk = no_walk;
  book = with_record v.book (record { call = v.walk.call; reply = reply; at = v.walk.pivot; altered = false });
}

abbrev pub settled : View → View
settled v = concluded v (answer_in v.walk)

abbrev pub turned : View → ℕ → View
turned v clock = record v { walk = walk_turned v.walk clock; book = with_seen v.book clock; loads = v.loads + 1 }

abbrev pub pivoted : View → ℕ → View
pivoted v clock = settled (turned v clock)

abbrev pub marked : View → ℕ → View
marked v i = walked v (walk_marked v.walk i)

abbrev pub checked : View → ℕ → View
checked v i = settled (marked v i)

abbrev pub nobody : View
nobody = record {
  walk = no_walk;
  book = record { seen = 0; own = []; joined = [] };
  hold = empty_hold;
  loads = 0;
  first_load = 0;
  faults = [];
}

-- a row was odd as it was to be noted, or had another count as it was to be checked
abbrev pub faulted : View → Fault → View
faulted v fault = record v { loads = v.loads + 1; faults = v.faults ++ fault ∷ [] }
