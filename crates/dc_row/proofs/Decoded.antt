-- The fact of words that spell one.
use Rattle.std.proofs.Common.{◌≡◌, ℕ, suc, ◌+◌, ◌*◌, ◌/◌, ◌%◌, ◌<◌, List, [], ◌∷◌, Bool, true, false, cond, Option, Some, None, length, get_or, take, drop, refl, ap, sym, ◌∙◌, arith}
use Rattle.dc_names.specs.Words.{bytes_in, padded, word_of}
use Rattle.dc_names.specs.declared.kind.Kind.TheVariants.{Dir, File, Link}
use Rattle.dc_plain.specs.Facts.{Target, Label, Fact, same_bytes}
use Rattle.dc_plain.specs.Facts.Label.{Entry, Parent}
use Rattle.dc_plain.specs.Facts.Fact.{Leads, Reads}
use Rattle.dc_row.specs.Decoding.{byte_in, bytes_from, fact_by, target_by, SpelledIsRead}
use Rattle.dc_row.specs.Spelling.{Spells, TellsTarget, fields_of, has_spelling, kind_code, target_number, text_word}
use Rattle.dc_names.specs.declared.limits.TheConstants.{ROW_WORDS}
use Rattle.dc_row.specs.declared.TheConstants.{ROW_ROOM}
use Rattle.dc_row.specs.declared.layout.TheConstants.{KIND_UNIT, TAGS}
use Rattle.dc_row.proofs.Labels.{entry_is, parent_is}
use Rattle.dc_row.proofs.Packed.{bytes_in-word_of, get_or-padded}
use Rattle.dc_row.proofs.Read.{head_is, length_is, part_at, part_bytes, part_short, small, tag_is, text_fits}
use Rattle.dc_row.proofs.Written.{word_at-text}

from_is : (byte : ℕ → ℕ) (xs : List ℕ) (k : ℕ) → ((i : ℕ) → i < length xs → byte (k + i) ≡ get_or xs i 0) → bytes_from byte k (length xs) ≡ xs
from_is byte [] k is = refl
from_is byte (x ∷ xs) k is =
    let zeroed : k + 0 ≡ k = omega arith in
    let first : byte k ≡ x = ap byte (sym zeroed) ∙ is 0 (omega arith) in
    let rest = from_is byte xs (suc k) (λ i l. let next : suc k + i ≡ k + suc i = omega arith in ap byte next ∙ is (suc i) (omega arith)) in
    λ i. first i ∷ rest i

pub byte_so : {words : List ℕ} {fact : Option Fact} → Spells words fact → (i : ℕ) → i < ROW_ROOM → byte_in words i ≡ get_or (fields_of fact).text i 0
byte_so {words} {fact} s i within =
    let text = (fields_of fact).text in
    let part = take 8 (drop (8 * (i / 8)) text) in
    let at : 4 + i / 8 < ROW_WORDS = omega arith in
    let word : get_or words (4 + i / 8) 0 ≡ word_of part = s.spelled (4 + i / 8) (omega arith) at ∙ word_at-text (fields_of fact) (4 + i / 8) (omega arith) ∙ ap (text_word text) (omega arith) in
    let bytes : bytes_in (word_of part) ≡ padded part = bytes_in-word_of part (part_short text (8 * (i / 8))) (part_bytes text 8 (8 * (i / 8)) s.bytes) in
    let here : 8 * (i / 8) + i % 8 ≡ i = omega arith in
    ap (λ (w : ℕ). get_or (bytes_in w) (i % 8) 0) word ∙ ap (λ (bs : List ℕ). get_or bs (i % 8) 0) bytes ∙ get_or-padded part _ (i % 8)
    ∙ part_at text 8 (8 * (i / 8)) (i % 8) (omega arith) ∙ ap (λ (k : ℕ). get_or text k 0) here

text_so : {words : List ℕ} {fact : Option Fact} → Spells words fact → bytes_from (byte_in words) 0 (get_or words 1 0 / 256 % 65536) ≡ (fields_of fact).text
text_so {words} {fact} s =
    let fits = text_fits s in
    ap (λ (n : ℕ). bytes_from (byte_in words) 0 n) (length_is s) ∙ from_is (byte_in words) (fields_of fact).text 0 (λ i l. let zeroed : 0 + i ≡ i = omega arith in ap (byte_in words) zeroed ∙ byte_so s i (omega arith))

pub kind_is : {words : List ℕ} {fact : Option Fact} → Spells words fact → get_or words 1 0 / 16777216 % 256 ≡ (fields_of fact).kind
kind_is {words} {fact} s = let few = small fact s.allowed in rw (head_is s) (omega arith)

pub target_so : (target : Option Target) → target_by (kind_code target) (target_number target) ≡ target
target_so None = refl
target_so (Some (n, Dir)) = refl
target_so (Some (n, File)) = refl
target_so (Some (n, Link)) = refl

-- an entry leads where its head and its value say
pub target_told : (head value : ℕ) (result : Option Target) → target_by (head / KIND_UNIT % TAGS) value ≡ result → (words : List ℕ) → get_or words 1 0 ≡ head → get_or words 3 0 ≡ value → TellsTarget words result
target_told head value result says words head_so value_so d label target s =
    let kind : head / KIND_UNIT % TAGS ≡ kind_code target = ap (λ (w : ℕ). w / KIND_UNIT % TAGS) (sym head_so) ∙ kind_is s in
    let number : value ≡ target_number target = sym value_so ∙ s.spelled 3 (omega arith) (omega arith) in
    sym says ∙ (λ i. target_by (kind i) (number i)) ∙ target_so target

label_so : (d : ℕ) (label : Label) (target : Option Target) (text : List ℕ) (b : Bool) → same_bytes text (46 ∷ 46 ∷ []) ≡ b → has_spelling (Some (Leads d label target)) ≡ true → text ≡ (fields_of (Some (Leads d label target))).text → cond b Parent (Entry text) ≡ label
label_so d label target text true dotted ok is = parent_is d label target text ok is dotted
label_so d label target text false other ok is = entry_is d label target text ok is other

fact_so : (fact : Option Fact) → has_spelling fact ≡ true → fact_by (fields_of fact).tag (fields_of fact).kind (fields_of fact).number (fields_of fact).value (fields_of fact).text ≡ Some fact
fact_so None ok = refl
fact_so (Some (Leads d label target)) ok =
    let text = (fields_of (Some (Leads d label target))).text in
    let label_is = label_so d label target text (same_bytes text (46 ∷ 46 ∷ [])) refl ok refl in
    λ i. Some (Some (Leads d (label_is i) (target_so target i)))
fact_so (Some (Reads n text)) ok = refl

pub spelled_is_read : SpelledIsRead
spelled_is_read words fact s =
    let tag = tag_is s in let kind = kind_is s in let text = text_so s in
    let number : get_or words 2 0 ≡ (fields_of fact).number = s.spelled 2 (omega arith) (omega arith) in
    let value : get_or words 3 0 ≡ (fields_of fact).value = s.spelled 3 (omega arith) (omega arith) in
    (λ i. fact_by (tag i) (kind i) (number i) (value i) (text i)) ∙ fact_so fact s.allowed
