-- What stands in a caller's buffer once a text or names were written over its bytes.
use Rattle.std.specs.Prelude.{ℕ, ◌+◌, ◌++◌, ltb, min, length, take, drop, List, [], ◌∷◌, Option, Some, None, Result, Ok, if◌then◌else◌}
use Rattle.std.specs.Global.{Vec}
use Rattle.dc_names.specs.declared.NoMemory.{NoMemory}
use Rattle.dc_plain.specs.declared.call.Reply.{Reply}
use Rattle.dc_plain.specs.declared.call.Reply.TheVariants as replies
use Rattle.dc_cache.specs.Calls.{Stamped}

-- the first bytes of a text, as many as there is room for, and then what stood there
abbrev pub text_over : List ℕ → List ℕ → List ℕ
text_over bytes text = let many = min (length bytes) (length text) in take many text ++ drop many bytes

-- whole names, each with a zero byte behind it, as long as the next one fits with its zero, and then what stood there
abbrev pub names_over : List ℕ → List (Vec ℕ) → List ℕ
names_over bytes [] = bytes
names_over bytes (name ∷ names) = if ltb (length name.items) (length bytes) then name.items ++ 0 ∷ names_over (drop (length name.items + 1) bytes) names else bytes

-- a read whose answer takes memory
abbrev pub Read : Type 0
Read = Option (Result Stamped NoMemory)

abbrev reply_over : List ℕ → Reply → List ℕ
reply_over bytes (replies.Text text) = text_over bytes text.items
reply_over bytes _ = bytes

-- the text that was read; nothing if none was
abbrev pub read_over : List ℕ → Read → List ℕ
read_over bytes (Some (Ok stamped)) = reply_over bytes stamped.reply
read_over bytes _ = bytes

abbrev listed_over : List ℕ → Reply → List ℕ
listed_over bytes (replies.Names names) = names_over bytes names.items
listed_over bytes _ = bytes

-- the names that were read; nothing if none were
abbrev pub list_over : List ℕ → Read → List ℕ
list_over bytes (Some (Ok stamped)) = listed_over bytes stamped.reply
list_over bytes _ = bytes
