-- What a read makes of the notes that the program stores.
use Rattle.std.proofs.Common.{◌≡◌, ℕ, ◌-◌, ◌<◌, List, length, get_or, set, map, ap, sym, ◌∙◌}
use Rattle.atomic_table.proofs.Lists.{at_index}
use Rattle.dc_events.specs.Walks.{extended, no_note}
use Rattle.dc_core.specs.Shown.{note_shown}
use Rattle.dc_core.specs.declared.actor.Note as rust_note
use Rattle.dc_core.proofs.Shown.{set_shown, same_shown, map_length}

module _ (notes : List rust_note.Note) (n : ℕ) (x x' : rust_note.Note) where
  -- the last note got a word
  pub one_read : (word : ℕ) → n ≡ length notes → n - 1 < length notes → x ≡ get_or notes (n - 1) x → note_shown x' ≡ extended (note_shown x) word
      → map note_shown (set notes (n - 1) x') ≡ set (map note_shown notes) (length (map note_shown notes) - 1) (extended (get_or (map note_shown notes) (length (map note_shown notes) - 1) no_note) word)
  one_read word len inside is more = set_shown note_shown notes (n - 1) x x' no_note (λ y. extended y word) (at_index notes (n - 1) x inside is) more
      ∙ ap (λ (k : ℕ). set (map note_shown notes) (k - 1) (extended (get_or (map note_shown notes) (k - 1) no_note) word)) (len ∙ sym (map_length note_shown notes))

  -- or none
  pub none_read : n - 1 < length notes → x ≡ get_or notes (n - 1) x → note_shown x' ≡ note_shown x → map note_shown (set notes (n - 1) x') ≡ map note_shown notes
  none_read inside is same = same_shown note_shown notes (n - 1) x x' (at_index notes (n - 1) x inside is) same
