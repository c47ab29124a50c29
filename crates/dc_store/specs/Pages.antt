-- The entries of a directory in pages, in the order of the bytes of their names.
use Rattle.std.specs.Prelude.{ℕ, ◌==◌, List, Bool, true, map, filter, take, Option, Some, None, option_map, unwrap_or}
use Rattle.std.specs.Global.{Vec}
use Rattle.std.specs.Ordering.{is_lt}
use Rattle.dc_names.specs.declared.kind.Kind.{Kind}
use Rattle.dc_names.specs.declared.kind.Kind.TheVariants.{File}
use Rattle.dc_names.specs.declared.name.Name as rust_name
use Rattle.dc_plain.specs.Trees.{Tree, inode_of, kind_of}
use Rattle.dc_store.specs.Names.{in_order, name_cmp}
use Rattle.dc_store.specs.declared.pages.Entry as rust_entry
use Rattle.dc_store.specs.declared.pages.Led as rust_led

-- what a page tells of an entry: its name, where that leads, and what is there
pub record Told : Type 0 where
  pub name : List ℕ
  pub number : ℕ
  pub kind : Kind

-- the entries of a directory: each name with the number that it leads to, in the order of the names
abbrev pub entries_in : Tree → ℕ → List (List ℕ × ℕ)
entries_in t d = in_order (map (λ e. (e.0.name, e.1)) (filter (λ e. e.0.dir == d) t.entries))

-- whether a name is behind another; each is if there is no other
abbrev pub is_behind : Option (List ℕ) → List ℕ → Bool
is_behind None name = true
is_behind (Some other) name = is_lt (name_cmp other name)

-- the entries that are behind a name, whether the name stands there or not
abbrev pub behind : Option (List ℕ) → List (List ℕ × ℕ) → List (List ℕ × ℕ)
behind after es = filter (λ e. is_behind after e.0) es

-- the first of the entries of a directory that are behind a name, at most this many
abbrev pub entries_on_page : Tree → ℕ → Option (List ℕ) → ℕ → List (List ℕ × ℕ)
entries_on_page t d after most = take most (behind after (entries_in t d))

-- the kind of what lives under a number. In a tree that calls can make each name leads to what lives
abbrev pub kind_at : Tree → ℕ → Kind
kind_at t n = unwrap_or (option_map kind_of (inode_of t n)) File

abbrev pub told_in : Tree → List ℕ × ℕ → Told
told_in t e = record { name = e.0; number = e.1; kind = kind_at t e.1 }

-- a page: what is told of those entries
abbrev pub page_of : Tree → ℕ → Option (List ℕ) → ℕ → List Told
page_of t d after most = map (told_in t) (entries_on_page t d after most)

-- a name, if there is one, by its bytes
abbrev pub name_shown : Option rust_name.Name → Option (List ℕ)
name_shown name = option_map (λ n. n.bytes.now) name

abbrev pub led_shown : rust_led.Led → List ℕ × ℕ
led_shown led = (led.name.items, led.number)

abbrev pub leads_shown : Vec rust_led.Led → List (List ℕ × ℕ)
leads_shown leads = map led_shown leads.items

abbrev pub entry_told : rust_entry.Entry → Told
entry_told entry = record { name = entry.name.items; number = entry.number; kind = entry.kind }

-- the entries of a page that was told
abbrev pub page_told : Vec rust_entry.Entry → List Told
page_told page = map entry_told page.items
