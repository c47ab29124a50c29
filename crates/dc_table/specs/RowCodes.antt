-- Rows as trees of numbers.
use Rattle.std.specs.Prelude.{◌≡◌, ℕ, zero, suc, List, [], refl}
use Rattle.std.specs.Coded.{Coded, code_by, coded×, coded_list, coded_ℕ}
use Rattle.dc_plain.specs.Facts.{Key, Label}
use Rattle.dc_plain.specs.Facts.Label.{Entry, Parent, Text}
use Rattle.dc_index.specs.Slots.{Slot}
use Rattle.dc_index.specs.Slots.Slot.{Free, Retired, Holds}
use Rattle.dc_shrink.specs.Listings.{Listing, listing_code}
use Rattle.dc_plain.specs.Requests.{Request}
use Rattle.dc_table.specs.Codes.{coded_bytes, coded_request}
use Rattle.dc_table.specs.RowStates.{RowState}

abbrev label_to : Label → ℕ × List ℕ
label_to (Entry name) = (0, name)
label_to Parent = (1, [])
label_to Text = (2, [])

abbrev label_by : ℕ → List ℕ → Label
label_by zero name = Entry name
label_by (suc zero) name = Parent
label_by (suc (suc n)) name = Text

pub label_round : (label : Label) → label_by (label_to label).0 (label_to label).1 ≡ label
label_round (Entry name) = refl
label_round Parent = refl
label_round Text = refl

abbrev pub coded_label : Coded Label
coded_label = code_by (ℕ × List ℕ) (coded× coded_ℕ coded_bytes) label_to (λ x. label_by x.0 x.1) label_round

abbrev pub coded_key : Coded Key
coded_key = code_by (ℕ × Label) (coded× coded_ℕ coded_label) (λ x. (x.number, x.label)) (λ p. record { number = p.0; label = p.1 }) (λ _. refl)

-- a slot without a key has that of nobody
abbrev slot_to : Slot → ℕ × Key
slot_to Free = (0, record { number = 0; label = Text })
slot_to Retired = (1, record { number = 0; label = Text })
slot_to (Holds key) = (2, key)

abbrev slot_by : ℕ → Key → Slot
slot_by zero key = Free
slot_by (suc zero) key = Retired
slot_by (suc (suc n)) key = Holds key

pub slot_round : (slot : Slot) → slot_by (slot_to slot).0 (slot_to slot).1 ≡ slot
slot_round Free = refl
slot_round Retired = refl
slot_round (Holds key) = refl

abbrev pub coded_slot : Coded Slot
coded_slot = code_by (ℕ × Key) (coded× coded_ℕ coded_key) slot_to (λ x. slot_by x.0 x.1) slot_round

abbrev pub coded_rows : Coded RowState
coded_rows = code_by (List Request × (List ℕ × (List Slot × Listing))) (coded× (coded_list coded_request) (coded× coded_bytes (coded× (coded_list coded_slot) listing_code)))
    (λ x. (x.history, (x.words, (x.slots, x.used)))) (λ p. record { history = p.0; words = p.1.0; slots = p.1.1.0; used = p.1.1.1 }) (λ _. refl)
