-- A pass that another has seen off, and one that takes in what another did and saw.
use Rattle.std.specs.Prelude.{◌∷◌, ◌++◌, max}
use Rattle.dc_events.specs.Views.{Book, View}
use Rattle.dc_events.specs.Effects.{with_seen, nobody}

-- nothing done yet, and all seen that this one has
abbrev pub newcomer : View → View
newcomer v = record nobody { book = with_seen nobody.book v.book.seen }

-- the records of both, and the greater clock of the two that were seen
abbrev pub books_joined : Book → Book → Book
books_joined a b = record { seen = max a.seen b.seen; own = a.own; joined = a.joined ++ b.own ∷ b.joined }

abbrev pub joined_with : View → View → View
joined_with v w = record v { book = books_joined v.book w.book }
