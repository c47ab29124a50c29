-- The test of two keys tells them apart.
use Rattle.std.proofs.Common.{◌≡◌, true, ◌==◌, refl, ap}
use Rattle.std.specs.Cmp.{unsigned_Decides}
use Rattle.std.proofs.lemmas.Slice.Eq.{slice_eq-Decides}
use Rattle.std.proofs.lemmas.Bool.{eqb-true, eq-eqb, and_parts, and_from}
use Rattle.dc_plain.specs.Facts.{Key, Label, same_label, same_bytes}
use Rattle.dc_plain.specs.Facts.Label.{Entry, Parent, Text}
use Rattle.dc_index.specs.Slots.{Slot, same_key, is_slot_of}
use Rattle.dc_index.specs.Slots.Slot.{Free, Retired, Holds}

same_label_true : (a b : Label) → same_label a b ≡ true → a ≡ b
same_label_true (Entry a) (Entry b) h = ap (λ n. Entry n) ((slice_eq-Decides unsigned_Decides a b (same_bytes a b) refl).0 h)
same_label_true (Entry a) Parent h = cc
same_label_true (Entry a) Text h = cc
same_label_true Parent (Entry b) h = cc
same_label_true Parent Parent h = refl
same_label_true Parent Text h = cc
same_label_true Text (Entry b) h = cc
same_label_true Text Parent h = cc
same_label_true Text Text h = refl

same_label_refl : (a : Label) → same_label a a ≡ true
same_label_refl (Entry a) = (slice_eq-Decides unsigned_Decides a a (same_bytes a a) refl).1 refl
same_label_refl Parent = refl
same_label_refl Text = refl

same_key_true : (a b : Key) → same_key a b ≡ true → a ≡ b
same_key_true a b h = let two = and_parts (a.number == b.number) (same_label a.label b.label) h in
    let n = eqb-true a.number b.number two.0 in let l = same_label_true a.label b.label two.1 in
    λ i. record { number = n i; label = l i }

pub holds_true : (key : Key) (slot : Slot) → is_slot_of key slot ≡ true → slot ≡ Holds key
holds_true key Free h = cc
holds_true key Retired h = cc
holds_true key (Holds other) h = ap (λ k. Holds k) (same_key_true other key h)

pub holds_itself : (key : Key) → is_slot_of key (Holds key) ≡ true
holds_itself key = and_from (key.number == key.number) (same_label key.label key.label) (eq-eqb key.number key.number refl) (same_label_refl key.label)
