-- A text in a room of fixed size, with zeros after it.
use Rattle.std.specs.Prelude.{ℕ, List, ◌≡◌, ◌-◌, ◌≤◌, ◌++◌, length, take, replicate}
use Rattle.std.proofs.Common.{length-take-le, subst, sym}
use Rattle.std.proofs.Math.Nat.{le_trans, le-suc}
use Rattle.dc_row.specs.declared.text.RowText.TheInside.{Inside}
use Rattle.dc_names.specs.declared.limits.TheConstants.{ROW_TEXT}
use Rattle.dc_row.specs.declared.TheConstants.{ROW_ROOM}

abbrev pub text_in : Inside → List ℕ
text_in t = take t.len t.room

abbrev pub padded : List ℕ → List ℕ
padded text = text ++ replicate (ROW_ROOM - length text) 0

abbrev pub in_room : List ℕ → Inside
in_room text = record { room = padded text; len = length text }

pub record IsPadded (t : Inside) : Type 0 where
  pub fits : t.len ≤ ROW_TEXT
  pub size : length t.room ≡ ROW_ROOM
  pub zeros : padded (text_in t) ≡ t.room

pub in_room-text_in : (t : Inside) → IsPadded t → in_room (text_in t) ≡ t
in_room-text_in t p = λ i. record {
  room = p.zeros i;
  len = length-take-le t.len t.room (subst (λ (n : ℕ). t.len ≤ n) (sym p.size) (le_trans p.fits (le-suc ROW_TEXT))) i;
}
