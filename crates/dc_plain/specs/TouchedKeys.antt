-- The keys whose facts a change alters: those of the names, and those of inodes that come, go or move.
use Rattle.std.specs.Prelude.{ℕ, List, [], ◌∷◌, ◌++◌, Bool, false, not, ◌==◌, ◌&&◌, Option, Some, None, Result, Ok, Err, if◌then◌else◌}
use Rattle.dc_names.specs.declared.refusal.Refusal.{Refusal}
use Rattle.dc_plain.specs.declared.call.Flags.{Flags}
use Rattle.dc_plain.specs.Facts.{Key}
use Rattle.dc_plain.specs.Facts.Label.{Entry, Parent, Text}
use Rattle.dc_names.specs.Lasts.{Last}
use Rattle.dc_names.specs.Lasts.Last.{Root, Dot, DotDot, Name}
use Rattle.dc_names.specs.declared.kind.Kind.{Kind}
use Rattle.dc_names.specs.declared.kind.Kind.TheVariants.{Dir, File, Link}
use Rattle.dc_plain.specs.Trees.{Tree, Spot, Inode, inode_of, entry_number, kind_of, names_of, is_live_directory}
use Rattle.dc_plain.specs.Places.{Where}
use Rattle.dc_plain.specs.Refusals.{where_on}
use Rattle.dc_plain.specs.Requests.{Request}
use Rattle.dc_plain.specs.Requests.Request.{Look, Readlink, Stat, List_names, Mkdir, Create, Hard_link, Symlink, Unlink, Rmdir, Rename}
use Rattle.dc_plain.specs.Operations.{Change, change_of}

abbrev pub entry_key : ℕ → List ℕ → Key
entry_key d name = record { number = d; label = Entry name }

abbrev pub parent_key : ℕ → Key
parent_key n = record { number = n; label = Parent }

abbrev pub text_key : ℕ → Key
text_key n = record { number = n; label = Text }

abbrev pub spot_key : Spot → Key
spot_key spot = entry_key spot.dir spot.name

-- the key that an inode has of its own: a directory its dot-dot, a link its text
abbrev pub own_keys : ℕ → Kind → List Key
own_keys n Dir = parent_key n ∷ []
own_keys n File = []
own_keys n Link = text_key n ∷ []

abbrev pub keys_at : ℕ → Option Inode → List Key
keys_at n None = []
keys_at n (Some inode) = own_keys n (kind_of inode)

-- of an inode that goes with its last name
abbrev pub keys_gone : Tree → ℕ → List Key
keys_gone t n = if names_of t n == 1 then keys_at n (inode_of t n) else []

-- of the inode of an entry, if it is there
abbrev pub with_number : Option ℕ → (ℕ → List Key) → List Key
with_number None keys = []
with_number (Some n) keys = keys n

abbrev pub keys_taken : Tree → ℕ → List ℕ → List Key
keys_taken t d name = with_number (entry_number t (record { dir = d; name = name })) (keys_gone t)

-- the dot-dot of a directory that gets another parent
abbrev pub keys_moved : Tree → ℕ → ℕ → ℕ → List Key
keys_moved t from to n = if is_live_directory t n && not (from == to) then parent_key n ∷ [] else []

abbrev pub lead_to_one : Option ℕ → Option ℕ → Bool
lead_to_one (Some m) (Some n) = m == n
lead_to_one _ _ = false

-- both names, the moved directory's dot-dot, and what goes
abbrev pub keys_renamed : Tree → ℕ → List ℕ → ℕ → List ℕ → List Key
keys_renamed t from old to new =
    if lead_to_one (entry_number t (record { dir = from; name = old })) (entry_number t (record { dir = to; name = new })) then []
    else entry_key from old ∷ entry_key to new
    ∷ with_number (entry_number t (record { dir = from; name = old })) (keys_moved t from to) ++ keys_taken t to new

-- both names, and the dot-dot of each directory that gets another parent
abbrev pub keys_swapped : Tree → ℕ → List ℕ → ℕ → List ℕ → List Key
keys_swapped t from old to new =
    if lead_to_one (entry_number t (record { dir = from; name = old })) (entry_number t (record { dir = to; name = new })) then []
    else entry_key from old ∷ entry_key to new
    ∷ with_number (entry_number t (record { dir = from; name = old })) (keys_moved t from to)
    ++ with_number (entry_number t (record { dir = to; name = new })) (keys_moved t to from)

-- by the flags of a rename
abbrev pub keys_by : Flags → Tree → ℕ → List ℕ → ℕ → List ℕ → List Key
keys_by flags t from old to new = if flags.exchange then keys_swapped t from old to new else keys_renamed t from old to new

-- by the directory and the name in which a path ends
abbrev pub by_last : Last → (List ℕ → List Key) → List Key
by_last (Name name) keys = keys name
by_last Root keys = []
by_last Dot keys = []
by_last DotDot keys = []

abbrev pub by_place : Result Where Refusal → (ℕ → List ℕ → List Key) → List Key
by_place (Ok at) keys = by_last at.last (keys at.dir)
by_place (Err refusal) keys = []

abbrev pub at_name : Tree → ℕ → List ℕ → (ℕ → List ℕ → List Key) → List Key
at_name t base text keys = by_place (where_on t base text) keys

-- by the request, if it is not refused
abbrev pub listed : Tree → Request → List Key
listed t (Look base path how) = []
listed t (Readlink base path) = []
listed t (Stat base path) = []
listed t (List_names base path) = []
listed t (Mkdir base path) = at_name t base path (λ d name. entry_key d name ∷ own_keys t.next Dir)
listed t (Create base path) = at_name t base path (λ d name. entry_key d name ∷ own_keys t.next File)
listed t (Hard_link base old new) = at_name t base new (λ d name. entry_key d name ∷ [])
listed t (Symlink base text path) = at_name t base path (λ d name. entry_key d name ∷ own_keys t.next Link)
listed t (Unlink base path) = at_name t base path (λ d name. entry_key d name ∷ keys_taken t d name)
listed t (Rmdir base path) = at_name t base path (λ d name. entry_key d name ∷ keys_taken t d name)
listed t (Rename base old new flags) = at_name t base old (λ from a. at_name t base new (λ to b. keys_by flags t from a to b))

abbrev pub unless_refused : Change → List Key → List Key
unless_refused (Ok done) keys = keys
unless_refused (Err refusal) keys = []

abbrev pub keys_touched : ℕ → Tree → Request → List Key
keys_touched limit t request = unless_refused (change_of limit t request) (listed t request)
