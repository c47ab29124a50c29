-- The label and the target of an entry that the words spell.
use Rattle.std.proofs.Common.{◌≡◌, ℕ, List, [], ◌∷◌, true, false, Option, Some, refl, sym, ap, ◌∙◌, nat_eq}
use Rattle.std.specs.Cmp.Lexicographic.{pointwise}
use Rattle.std.proofs.lemmas.Slice.Eq.{bytes_eq-Decides}
use Rattle.dc_names.specs.Bytes.{is_name}
use Rattle.dc_plain.specs.Facts.{Target, Label, label_bytes}
use Rattle.dc_plain.specs.Facts.Label.{Entry, Parent, Text}
use Rattle.dc_plain.specs.Facts.Fact.{Leads}
use Rattle.dc_row.specs.Spelling.{has_spelling}
use Rattle.dc_row.proofs.Read.{both}

-- dot-dot is no name
pub parent_is : (d : ℕ) (label : Label) (target : Option Target) (text : List ℕ) → has_spelling (Some (Leads d label target)) ≡ true → text ≡ label_bytes label → pointwise nat_eq text (46 ∷ 46 ∷ []) ≡ true → Parent ≡ label
parent_is d (Entry name) target text ok is dotted =
    let same : text ≡ 46 ∷ 46 ∷ [] = (bytes_eq-Decides text (46 ∷ 46 ∷ [])).0 dotted in
    let named : is_name name ≡ true = (both _ _ (both _ _ (both _ _ ok).0).0).1 in
    let barred : is_name (46 ∷ 46 ∷ []) ≡ true = ap is_name (sym same ∙ is) ∙ named in
    absurd (cc)
parent_is d Parent target text ok is dotted = refl
parent_is d Text target text ok is dotted = absurd (cc)

pub entry_is : (d : ℕ) (label : Label) (target : Option Target) (text : List ℕ) → has_spelling (Some (Leads d label target)) ≡ true → text ≡ label_bytes label → pointwise nat_eq text (46 ∷ 46 ∷ []) ≡ false → Entry text ≡ label
entry_is d (Entry name) target text ok is other = ap Entry is
entry_is d Parent target text ok is other =
    let same : pointwise nat_eq text (46 ∷ 46 ∷ []) ≡ true = (bytes_eq-Decides text (46 ∷ 46 ∷ [])).1 is in
    absurd (cc)
entry_is d Text target text ok is other = absurd (cc)
