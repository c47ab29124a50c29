-- Reading a line: what it means, or that it is no line of the grammar.
use Rattle.std.specs.Prelude.{◌≡◌, ℕ, ◌-◌, ◌==◌, ◌&&◌, ◌||◌, nat_le, if◌then◌else◌, List, [], ◌∷◌, Option, Some, None, option_map, option_and_then, Result, Ok, Err, length, codes, find}
use Rattle.std.specs.List.{slice_split}
use Rattle.std.specs.Str.{bytes_eq}
use Rattle.dc_lang.specs.declared.line.Verb.{Verb}
use Rattle.dc_lang.specs.declared.line.Verb.TheVariants as verbs
use Rattle.dc_lang.specs.declared.line.LineFault.{LineFault}
use Rattle.dc_lang.specs.declared.line.LineFault.TheVariants.{Bad, NoMemory}
use Rattle.dc_lang.specs.Commands.{Order, Meaning, verb_text, word_count, flags_stand}
use Rattle.dc_lang.specs.Commands.Meaning.{Sync, Orders}

-- what a letter behind a backslash stands for
abbrev pub escaped : ℕ → Option ℕ
escaped b = if b == 115 then Some 32 else if b == 110 then Some 10 else if b == 92 then Some 92 else None

-- a byte that stands for itself: no space, newline or backslash does
abbrev pub unescaped : ℕ → Option ℕ
unescaped b = if b == 32 || b == 10 || b == 92 then None else Some b

-- a first item before the others, if both were read
abbrev pub with_first : {A : Type 0} → Option A → Option (List A) → Option (List A)
with_first None rest = None
with_first (Some first) rest = option_map (λ items. first ∷ items) rest

-- the bytes that a text stands for, escape by escape
abbrev pub bytes_in : List ℕ → Option (List ℕ)
bytes_in [] = Some []
bytes_in (b ∷ []) = with_first (unescaped b) (Some [])
bytes_in (b ∷ c ∷ text) =
    if b == 92 then with_first (escaped c) (bytes_in text)
    else with_first (unescaped b) (bytes_in (c ∷ text))

-- a word is a text that isn't empty; \e alone is the empty word
abbrev pub word_in : List ℕ → Option (List ℕ)
word_in [] = None
word_in (b ∷ text) = if bytes_eq (b ∷ text) (codes "\\e") then Some [] else bytes_in (b ∷ text)

-- each text is a word
abbrev pub words_in : List (List ℕ) → Option (List (List ℕ))
words_in [] = Some []
words_in (text ∷ texts) = with_first (word_in text) (words_in texts)

-- a session: 0 to 15, with no zero in front
abbrev pub session_in : List ℕ → Option ℕ
session_in [] = None
session_in (a ∷ []) = if nat_le 48 a && nat_le a 57 then Some (a - 48) else None
session_in (a ∷ b ∷ []) = if a == 49 && (nat_le 48 b && nat_le b 53) then Some (b - 38) else None
session_in (a ∷ b ∷ c ∷ text) = None

-- all of them
abbrev pub all_verbs : List Verb
all_verbs =
    verbs.Look ∷ verbs.Llook ∷ verbs.Cd ∷ verbs.Readlink ∷ verbs.Stat ∷ verbs.List
    ∷ verbs.Mkdir ∷ verbs.Create ∷ verbs.Link ∷ verbs.Symlink ∷ verbs.Unlink ∷ verbs.Rmdir ∷ verbs.Rename ∷ verbs.Rename2 ∷ []

-- the verb with this text
unfoldable pub verb_in : List ℕ → Option Verb
verb_in text = find (λ verb. bytes_eq (verb_text verb) text) all_verbs

-- one reading after another, while they succeed
infixl 10 ◌>>=◌
abbrev pub ◌>>=◌ : {A B : Type 0} → Option A → (A → Option B) → Option B
found >>= next = option_and_then next found

-- the words, if flags stand there and the verb takes them
abbrev pub flagged : Verb → List (List ℕ) → Option (List (List ℕ))
flagged verb words = if flags_stand verb words then Some words else None

-- the words of a verb, if they are as many as it takes
abbrev pub counted_words : Verb → List (List ℕ) → Option (List (List ℕ))
counted_words verb texts = if length texts == word_count verb then words_in texts >>= flagged verb else None

-- a session, a verb and its words
abbrev pub order_in : List (List ℕ) → Option Order
order_in [] = None
order_in (session_text ∷ []) = None
order_in (session_text ∷ verb_word ∷ texts) = do
  session ← session_in session_text
  verb ← verb_in verb_word
  words ← counted_words verb texts
  Some (record { session = session; verb = verb; words = words })

-- the parts between spaces
abbrev pub parts : List ℕ → List (List ℕ)
parts line = slice_split (λ b. b == 32) line

-- what a line means, or none if it is no line of the grammar
unfoldable pub meaning_in : List ℕ → Option Meaning
meaning_in line = if bytes_eq line (codes "sync") then Some Sync else option_map Orders (order_in (parts line))

-- a bad line reads as none
abbrev pub Fails : {B : Type 0} → LineFault → Option B → Type 0
Fails Bad read = read ≡ None
Fails NoMemory read = Unit {0}

-- what was read is what the definition reads, unless memory was refused
abbrev pub Reads : {A B : Type 0} → (A → B) → Result A LineFault → Option B → Type 0
Reads shown (Ok value) read = read ≡ Some (shown value)
Reads shown (Err fault) read = Fails fault read
