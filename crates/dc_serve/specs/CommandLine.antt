-- The words of the command line, and the sizes that they choose.
use Rattle.std.specs.Prelude.{◌≡◌, ◌↔◌, ℕ, ◌<◌, ◌^◌, ◌⊎◌, List, [], ◌∷◌, true, Some, unwrap_or, codes}
use Rattle.std.specs.Str.Parse.{IsNumeral, digits_value, without_leading_plus}
use Rattle.clap.specs.Walk.{Rule, Text, first_of}
use Rattle.clap.specs.declared.builder.action.ArgAction.TheVariants.{SetTrue}
use Rattle.clap.specs.Simple.{App, matches_of, new_app, new_rule, on_top, with_rule}
use Rattle.clap.specs.Faults.{fault_of}
use Rattle.clap.specs.Kinds.{HasKind}
use Rattle.dc_serve.specs.declared.sizes.Options.{Options}
use Rattle.dc_serve.specs.declared.fault.OptionsFault.{OptionsFault}
use Rattle.dc_serve.specs.declared.fault.OptionsFault.TheVariants.{Words, BadSize}

-- an option of this name with a default
abbrev pub size_rule : Text → Text → Rule
size_rule name number = record (new_rule name) { long = Some name; value_names = 1; defaults = number ∷ [] }

-- a flag of this name
abbrev pub flag_rule : Text → Rule
flag_rule name = record (new_rule name) { long = Some name; action = Some SetTrue }

-- the options --buckets, --inodes and --stats, and no word before them
abbrev pub app : App
app = with_rule
    (with_rule
    (with_rule
    (on_top (λ s. record s { no_binary_name = true }) (new_app (codes "dcserve")))
    (size_rule (codes "buckets") (codes "256")))
    (size_rule (codes "inodes") (codes "65536")))
    (flag_rule (codes "stats"))

-- the text of an option among the words, its default if they don't name it
abbrev pub text_in : Text → List Text → Text
text_in name words = unwrap_or (first_of name (matches_of app words)) []

-- the text is a number of 64 bits in decimal digits, a plus before them or none
abbrev pub IsSize : Text → Type 0
IsSize text = IsNumeral 10 (without_leading_plus text) × (digits_value 10 (without_leading_plus text) < 2 ^ 64)

abbrev pub Spells : Text → ℕ → Type 0
Spells text number = IsSize text × (number ≡ digits_value 10 (without_leading_plus text))

-- clap takes the words, these are the numbers that the sizes' texts spell, and the flag is among the words or not
pub record Chooses (words : List Text) (options : Options) : Type 0 where
  pub taken : fault_of app words ≡ []
  pub buckets : Spells (text_in (codes "buckets") words) options.buckets
  pub inodes : Spells (text_in (codes "inodes") words) options.inodes
  pub stats : (options.stats ≡ true) ↔ (text_in (codes "stats") words ≡ codes "true")

-- clap refuses the words, or a size's text spells no number
abbrev pub Refuses : List Text → OptionsFault → Type 0
Refuses words (Words error) = HasKind (fault_of app words) error
Refuses words BadSize = (fault_of app words ≡ [])
    × ((¬ IsSize (text_in (codes "buckets") words)) ⊎ (¬ IsSize (text_in (codes "inodes") words)))
