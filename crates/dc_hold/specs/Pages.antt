-- A page of a directory's entries: which one a program in C asks for, and what is written of it.
use Rattle.std.specs.Prelude.{◌≡◌, ℕ, zero, suc, ◌++◌, min, length, take, drop, map, replicate, List, Option, Some, None, option_map, Result, Ok, Err, MatchOption, if◌then◌else◌}
use Rattle.std.specs.Global.{Vec}
use Rattle.dc_names.specs.Bytes.{is_empty, is_name}
use Rattle.dc_names.specs.declared.NoMemory.{NoMemory}
use Rattle.dc_names.specs.declared.limits.TheConstants.{NAME_MAX}
use Rattle.dc_plain.specs.declared.call.Stamped.{Stamped}
use Rattle.dc_store.specs.declared.pages.Entry.{Entry}
use Rattle.dc_cache.specs.Pages.{Asked, ToldPage}
use Rattle.dc_cache.specs.Passes.{FoundHeld}
use Rattle.dc_cache.specs.declared.cache.Pass.{Pass}
use Rattle.dc_hold.specs.Numbers.{kind_number}
use Rattle.dc_hold.specs.Buffers.{text_over}
use Rattle.dc_hold.specs.Tells.{nothing, told_by}
use Rattle.dc_hold.specs.declared.pages.DirEntry.{DirEntry}
use Rattle.dc_hold.specs.declared.pages.TheConstants.{NAME_ROOM}
use Rattle.dc_hold.specs.declared.status.Status.TheVariants as statuses
use Rattle.dc_hold.specs.declared.told.Told.{Told}

-- the name that a page is behind: none by no bytes, and nothing by bytes that are no name
abbrev pub after_by : List ℕ → Option (Option (List ℕ))
after_by bytes = if is_empty bytes then Some None else if is_name bytes then Some (Some bytes) else None

-- the page that is asked for; nothing if there is no room for one entry, or what it is behind is no name
abbrev pub page_asked : ℕ → List ℕ → List ℕ → ℕ → Option Asked
page_asked base path after zero = None
page_asked base path after (suc n) = option_map (λ name. record { base = base; path = path; after = name; most = suc n }) (after_by after)

-- a page that was told, if memory was there and no other pass had the lock
abbrev pub Page : Type 0
Page = Option (Result (Stamped × Vec Entry) NoMemory)

abbrev pub MayPage : Asked → Pass → Pass → Page → Type 0
MayPage asked p q tried = MatchOption tried (FoundHeld p q) (ToldPage p q asked)

-- an entry, its name with zeros behind it
abbrev pub entry_written : Entry → DirEntry
entry_written entry = let many = min (length entry.name.items) NAME_MAX in
    record { number = entry.number; kind = kind_number entry.kind; length = many; name = text_over (replicate NAME_ROOM 0) (take many entry.name.items) }

-- the first entries, as many as there is room for, and then what stood there
abbrev pub entries_over : List DirEntry → List Entry → List DirEntry
entries_over slots entries = let many = min (length slots) (length entries) in map entry_written (take many entries) ++ drop many slots

-- the entries that were told; nothing if none were
abbrev pub page_over : List DirEntry → Page → List DirEntry
page_over slots (Some (Ok told)) = entries_over slots told.1.items
page_over slots _ = slots

-- the directory with how many of its entries were written into this room
abbrev pub tells_page : ℕ → Page → Told
tells_page room (Some (Ok told)) = let by = told_by told.0 in record by { found = record by.found { count = min room (length told.1.items) } }
tells_page room (Some (Err _)) = nothing statuses.NoMemory
tells_page room None = nothing statuses.Busy
