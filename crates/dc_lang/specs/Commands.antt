-- The lines of commands, and the calls that they ask for.
use Rattle.std.specs.Prelude.{◌≡◌, ℕ, ◌<◌, Bool, true, false, if◌then◌else◌, is_some, unwrap_or, IsTrue, Option, List, [], ◌∷◌, map, length, slice_get, codes, decimal, Some, None}
use Rattle.dc_lang.specs.Words.{bytes_of, spelled, spaced}
use Rattle.dc_names.specs.declared.limits.TheConstants.{SESSIONS}
use Rattle.dc_lang.specs.declared.line.Verb.{Verb}
use Rattle.dc_lang.specs.declared.line.Verb.TheVariants as verbs
use Rattle.dc_lang.specs.declared.line.Command as rust_command
use Rattle.dc_lang.specs.declared.line.Line as rust_line
use Rattle.dc_lang.specs.declared.line.Line.TheVariants as lines
use Rattle.dc_plain.specs.declared.call.Follow.TheVariants as follow
use Rattle.std.specs.Str.{bytes_eq}
use Rattle.dc_plain.specs.declared.call.Flags.{Flags}
use Rattle.dc_plain.specs.Requests.{Request}
use Rattle.dc_plain.specs.Requests.Request.{Look, Readlink, Stat, List_names, Mkdir, Create, Hard_link, Symlink, Unlink, Rmdir, Rename}

-- a command: the session, what it asks for, and its words
pub record Order : Type 0 where
  pub session : ℕ
  pub verb : Verb
  pub words : List (List ℕ)

-- what a line means
pub data Meaning : Type 0 where
  Sync : Meaning
  Orders : Order → Meaning

abbrev pub verb_text : Verb → List ℕ
verb_text verbs.Look = codes "look"
verb_text verbs.Llook = codes "llook"
verb_text verbs.Cd = codes "cd"
verb_text verbs.Readlink = codes "readlink"
verb_text verbs.Stat = codes "stat"
verb_text verbs.List = codes "list"
verb_text verbs.Mkdir = codes "mkdir"
verb_text verbs.Create = codes "create"
verb_text verbs.Link = codes "link"
verb_text verbs.Symlink = codes "symlink"
verb_text verbs.Unlink = codes "unlink"
verb_text verbs.Rmdir = codes "rmdir"
verb_text verbs.Rename = codes "rename"
verb_text verbs.Rename2 = codes "rename2"

-- how many words follow the verb
abbrev pub word_count : Verb → ℕ
word_count verbs.Look = 1
word_count verbs.Llook = 1
word_count verbs.Cd = 1
word_count verbs.Readlink = 1
word_count verbs.Stat = 1
word_count verbs.List = 1
word_count verbs.Mkdir = 1
word_count verbs.Create = 1
word_count verbs.Link = 2
word_count verbs.Symlink = 2
word_count verbs.Unlink = 1
word_count verbs.Rmdir = 1
word_count verbs.Rename = 2
word_count verbs.Rename2 = 3

-- a rename may replace what stands at the new name
abbrev pub no_flags : Flags
no_flags = record { no_replace = false; exchange = false }

-- the flags that a word spells
abbrev pub flags_in : List ℕ → Option Flags
flags_in word =
    if bytes_eq word (codes "-") then Some no_flags
    else if bytes_eq word (codes "n") then Some (record { no_replace = true; exchange = false })
    else if bytes_eq word (codes "x") then Some (record { no_replace = false; exchange = true })
    else if bytes_eq word (codes "nx") then Some (record { no_replace = true; exchange = true })
    else None

abbrev pub first_is_flags : List (List ℕ) → Bool
first_is_flags [] = false
first_is_flags (word ∷ words) = is_some (flags_in word)

-- the first word is flags, if the verb takes them
abbrev pub flags_stand : Verb → List (List ℕ) → Bool
flags_stand verbs.Rename2 words = first_is_flags words
flags_stand _ words = true

-- sessions are those below SESSIONS, and each verb has its number of words, flags among them if it takes them
pub record IsOrder (order : Order) : Type 0 where
  pub session : order.session < SESSIONS
  pub words : length order.words ≡ word_count order.verb
  pub flags : IsTrue (flags_stand order.verb order.words)

abbrev pub IsMeaning : Meaning → Type 0
IsMeaning Sync = Unit {0}
IsMeaning (Orders order) = IsOrder order

-- the line of a meaning, without its newline
abbrev pub line_text : Meaning → List ℕ
line_text Sync = codes "sync"
line_text (Orders order) = spaced (decimal order.session ∷ verb_text order.verb ∷ map spelled order.words)

-- a line means this
pub record Means (line : List ℕ) (meaning : Meaning) : Type 0 where
  pub is : IsMeaning meaning
  pub text : line_text meaning ≡ line

-- the word at a place, or none
abbrev pub word_at : ℕ → Order → List ℕ
word_at at order = elim (slice_get order.words at) [ None ↦ [] | Some word ↦ word ]

-- the call that an order makes from a starting directory
abbrev pub asked : ℕ → Order → Verb → Request
asked base order verbs.Look = Look base (word_at 0 order) follow.Yes
asked base order verbs.Llook = Look base (word_at 0 order) follow.No
asked base order verbs.Cd = Look base (word_at 0 order) follow.Dir
asked base order verbs.Readlink = Readlink base (word_at 0 order)
asked base order verbs.Stat = Stat base (word_at 0 order)
asked base order verbs.List = List_names base (word_at 0 order)
asked base order verbs.Mkdir = Mkdir base (word_at 0 order)
asked base order verbs.Create = Create base (word_at 0 order)
asked base order verbs.Link = Hard_link base (word_at 0 order) (word_at 1 order)
asked base order verbs.Symlink = Symlink base (word_at 0 order) (word_at 1 order)
asked base order verbs.Unlink = Unlink base (word_at 0 order)
asked base order verbs.Rmdir = Rmdir base (word_at 0 order)
asked base order verbs.Rename = Rename base (word_at 0 order) (word_at 1 order) no_flags
asked base order verbs.Rename2 = Rename base (word_at 1 order) (word_at 2 order) (unwrap_or (flags_in (word_at 0 order)) no_flags)

abbrev pub request_from : ℕ → Order → Request
request_from base order = asked base order order.verb

-- what a command of the program stands for
abbrev pub order_of : rust_command.Command → Order
order_of command = record { session = command.session; verb = command.verb; words = bytes_of command.words.items }

abbrev pub meaning_of : rust_line.Line → Meaning
meaning_of lines.Sync = Sync
meaning_of (lines.Command command) = Orders (order_of command)

abbrev pub said_by : List rust_line.Line → List Meaning
said_by all = map meaning_of all
