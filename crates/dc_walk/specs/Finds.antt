-- What the rows that a walk has used tell.
use Rattle.std.specs.Prelude.{◌≡◌, ℕ, ◌<◌, List, [], Option, Some, None, length, map, get_or}
use Rattle.std.specs.List.{AllByRecursion}
use Rattle.dc_plain.specs.Facts.{Fact, Key, Teller, key_of, told_by}
use Rattle.dc_plain.specs.Facts.Fact.{Leads, Reads}
use Rattle.dc_row.specs.Decoding.{fact_in}
use Rattle.dc_row.specs.Spelling.{Spells}
use Rattle.dc_walk.specs.Uses.{Use, facts_of}
use Rattle.dc_walk.specs.Rooms.{used_at, Used}
use Rattle.dc_index.specs.Slots.{key_hash}
use Rattle.dc_walk.specs.Filters.{MayHold}
use Rattle.dc_walk.specs.declared.filter.KeyFilter.{KeyFilter}

-- a fact that was read, or a fact of nobody
abbrev pub fact_or_none : Option (Option Fact) → Fact
fact_or_none None = Reads 0 []
fact_or_none (Some None) = Reads 0 []
fact_or_none (Some (Some fact)) = fact

abbrev pub fact_shown : Used → Fact
fact_shown u = fact_or_none (fact_in u.words)

abbrev pub use_shown : Used → Use
use_shown u = record { row = u.row; count = get_or u.words 0 0; place = u.place; fact = fact_shown u }

-- the words of a row spell its fact
abbrev pub IsSpelled : Used → Type 0
IsSpelled u = Spells u.words (Some (fact_shown u))

abbrev pub AllSpelled : List Used → Type 0
AllSpelled used = AllByRecursion IsSpelled used

-- the rows are some of this many
abbrev pub AllInside : ℕ → List Used → Type 0
AllInside rows used = AllByRecursion (λ u. u.row < rows) used

-- a filter may hold each key that the rows tell of
abbrev pub AllHeld : KeyFilter → List Used → Type 0
AllHeld filter used = AllByRecursion (λ u. MayHold filter (key_hash (key_of (fact_shown u)))) used

abbrev pub told_in : List Used → Teller
told_in used = told_by (facts_of (map use_shown used))

-- someone tells this fact
abbrev pub IsTold : Teller → Fact → Type 0
IsTold teller (Leads d label target) = teller.entry d label ≡ Some target
IsTold teller (Reads n text) = teller.text n ≡ Some text

-- these words spell what the rows that were used tell of a key
pub record IsStanding (used : List Used) (key : Key) (words : List ℕ) : Type 0 where
  pub fact : Fact
  pub about : key_of fact ≡ key
  pub spelled : Spells words (Some fact)
  pub told : IsTold (told_in used) fact

-- the row at this place spells what the rows that were used tell of a key
pub record StandsAt (used : List Used) (key : Key) (at : ℕ) : Type 0 where
  pub there : at < length used
  pub standing : IsStanding used key (used_at used at).words
