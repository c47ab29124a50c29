-- What the words say of the row that they spell.
use Rattle.std.proofs.Common.{◌≡◌, ℕ, zero, suc, ◌+◌, ◌*◌, ◌/◌, ◌%◌, ◌<◌, ◌≤◌, ◌&&◌, List, [], ◌∷◌, length, get_or, take, drop, IfSome, IfNone, Bool, true, false, Option, Some, None, arith, refl, ap, ◌∙◌}
use Rattle.std.proofs.lemmas.Grind.{common_steps}
use Rattle.std.proofs.lemmas.List.{get_or-take, get_or-drop}
use Rattle.dc_names.specs.Words.{AreBytes}
use Rattle.dc_names.specs.declared.kind.Kind.TheVariants.{Dir, File, Link}
use Rattle.dc_plain.specs.Facts.{Target, Fact}
use Rattle.dc_plain.specs.Facts.Label.{Entry, Parent, Text}
use Rattle.dc_plain.specs.Facts.Fact.{Leads, Reads}
use Rattle.dc_row.specs.Spelling.{Fields, Spells, fields_of, has_spelling, has_room, kind_code}
use Rattle.dc_names.specs.declared.limits.TheConstants.{ROW_TEXT}

pub both : (a b : Bool) → (a && b) ≡ true → (a ≡ true) × (b ≡ true)
both true b e = (refl, e)
both false b e = absurd (cc)

room_of : (text : List ℕ) → has_room text ≡ true → length text ≤ ROW_TEXT
room_of text room = grind (arith, common_steps)

-- how large the fields of a row are
pub record AreSmall (f : Fields) : Type 0 where
  pub tag : f.tag ≤ 2
  pub kind : f.kind ≤ 3
  pub text : length f.text ≤ ROW_TEXT

pub kind_small : (target : Option Target) → kind_code target ≤ 3
kind_small None = omega arith
kind_small (Some (n, Dir)) = omega arith
kind_small (Some (n, File)) = omega arith
kind_small (Some (n, Link)) = omega arith

pub small : (fact : Option Fact) → has_spelling fact ≡ true → AreSmall (fields_of fact)
small None ok = record { tag = omega arith; kind = omega arith; text = omega arith }
small (Some (Leads d (Entry name) target)) ok = record { tag = omega arith; kind = kind_small target; text = room_of name (both _ _ (both _ _ ok).0).1 }
small (Some (Leads d Parent target)) ok = record { tag = omega arith; kind = kind_small target; text = omega arith }
small (Some (Leads d Text target)) ok = absurd (cc)
small (Some (Reads n text)) ok = record { tag = omega arith; kind = omega arith; text = room_of text (both _ _ ok).1 }

pub head_is : {words : List ℕ} {fact : Option Fact} → Spells words fact → get_or words 1 0 ≡ (fields_of fact).tag + 256 * length (fields_of fact).text + 16777216 * (fields_of fact).kind
head_is s = s.spelled 1 (omega arith) (omega arith)

pub tag_is : {words : List ℕ} {fact : Option Fact} → Spells words fact → get_or words 1 0 % 256 ≡ (fields_of fact).tag
tag_is {words} {fact} s = let few = small fact s.allowed in rw (head_is s) (omega arith)

pub length_is : {words : List ℕ} {fact : Option Fact} → Spells words fact → get_or words 1 0 / 256 % 65536 ≡ length (fields_of fact).text
length_is {words} {fact} s = let few = small fact s.allowed in rw (head_is s) (omega arith)

pub text_fits : {words : List ℕ} {fact : Option Fact} → Spells words fact → length (fields_of fact).text ≤ ROW_TEXT
text_fits {words} {fact} s = (small fact s.allowed).text

pub take_bytes : (xs : List ℕ) (n i : ℕ) → AreBytes xs → get_or (take n xs) i 0 < 256
take_bytes xs zero i are = omega arith
take_bytes [] (suc n) i are = omega arith
take_bytes (x ∷ xs) (suc n) zero are = are 0
take_bytes (x ∷ xs) (suc n) (suc i) are = take_bytes xs n i (λ k. are (suc k))

pub part_bytes : (text : List ℕ) (n m : ℕ) → AreBytes text → AreBytes (take n (drop m text))
part_bytes text n m are = λ i. take_bytes (drop m text) n i (λ k. rw (get_or-drop m text k 0) (are (m + k)))

pub part_short : (text : List ℕ) (m : ℕ) → length (take 8 (drop m text)) ≤ 8
part_short text m = grind (arith, common_steps)

pub part_at : (text : List ℕ) (n m i : ℕ) → i < n → get_or (take n (drop m text)) i 0 ≡ get_or text (m + i) 0
part_at text n m i within = get_or-take n (drop m text) i 0 within ∙ get_or-drop m text i 0

pub front_is : (text room : List ℕ) → length text ≤ length room → ((k : ℕ) → k < length text → get_or room k 0 ≡ get_or text k 0) → take (length text) room ≡ text
front_is [] room within same = refl
front_is (x ∷ xs) [] within same = absurd (omega arith)
front_is (x ∷ xs) (y ∷ ys) within same =
    let rest = front_is xs ys (omega arith) (λ k h. same (suc k) (omega arith)) in
    let first = same 0 (omega arith) in
    λ i. first i ∷ rest i

pub text_found : (part text : List ℕ) (r : Option (List ℕ)) → IfSome r (λ t. t ≡ part) → IfNone r (ROW_TEXT < length part) → part ≡ text → length text ≤ ROW_TEXT → r ≡ Some text
text_found part text None some none is fits = let size : length part ≡ length text = ap length is in absurd (omega arith)
text_found part text (Some t) some none is fits = ap Some (some ∙ is)
