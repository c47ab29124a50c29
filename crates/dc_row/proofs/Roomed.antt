-- The bytes of a row's words, side by side in a room, and where the text among them ends.
use Rattle.std.proofs.Common.{◌≡◌, ◌≢◌, ◌↔◌, ℕ, ◌+◌, ◌-◌, ◌*◌, ◌/◌, ◌%◌, ◌<◌, ◌≤◌, List, ◌++◌, replicate, length, length-take-le, get_or, get_or-take, take, drop, refl, ap, inl, inr, sym, arith, ◌∙◌}
use Rattle.std.proofs.lemmas.Bool.{cases_lt}
use Rattle.std.proofs.lemmas.Grind.{common_steps}
use Rattle.std.proofs.lemmas.List.{get_or_append_left, get_or-append_right, get_or-drop, get_or_past}
use Rattle.dc_names.specs.Words.{bytes_in}
use Rattle.dc_row.specs.Decoding.{EndsAt, HasBytes, IsRoomOf, byte_in}
use Rattle.dc_names.specs.declared.limits.TheConstants.{ROW_TEXT, ROW_WORDS}
use Rattle.dc_row.specs.declared.TheConstants.{ROW_ROOM}
use Rattle.dc_row.proofs.Lanes.{bytes_size, zero_byte}
use Rattle.dc_row.proofs.Packed.{get_or-zeros}

-- one word more in a room
pub one_more_word : (words room part past : List ℕ) (i : ℕ) → 4 ≤ i → part ≡ bytes_in (get_or words i 0) → 8 * (i - 4) ≤ length room → ((k : ℕ) → k < 8 * (i - 4) → get_or room k 0 ≡ byte_in words k) → (k : ℕ) → k < 8 * (i + 1 - 4) → get_or (take (8 * (i - 4)) room ++ (part ++ past)) k 0 ≡ byte_in words k
one_more_word words room part past i late is fits before k lt =
    let at = 8 * (i - 4) in
    let size : length (take at room) ≡ at = length-take-le at room fits in
    let eight : length part ≡ 8 = ap length is ∙ bytes_size (get_or words i 0) in
    elim (cases_lt k at) [
      | inl low ↦ get_or_append_left (take at room) (part ++ past) 0 k (omega arith) ∙ get_or-take at room k 0 low ∙ before k low
      | inr here ↦
          let word : i ≡ 4 + k / 8 = omega arith in
          let byte : k - at ≡ k % 8 = omega arith in
          get_or-append_right (take at room) (part ++ past) at k 0 size here ∙ get_or_append_left part past 0 (k - at) (omega arith) ∙ ap (λ (bs : List ℕ). get_or bs (k - at) 0) is ∙ (λ j. get_or (bytes_in (get_or words (word j) 0)) (byte j) 0)
    ]

-- the room behind it stays empty
pub still_empty : (words room part : List ℕ) (i m : ℕ) → 4 ≤ i → part ≡ bytes_in (get_or words i 0) → 8 * (i - 4) ≤ length room → ((k : ℕ) → 8 * (i - 4) ≤ k → get_or room k 0 ≡ 0) → (k : ℕ) → 8 * (i + 1 - 4) ≤ k → get_or (take (8 * (i - 4)) room ++ (part ++ drop m (drop (8 * (i - 4)) room))) k 0 ≡ 0
still_empty words room part i m late is fits none k past =
    let at = 8 * (i - 4) in
    let size : length (take at room) ≡ at = length-take-le at room fits in
    let eight : length part ≡ 8 = ap length is ∙ bytes_size (get_or words i 0) in
    get_or-append_right (take at room) (part ++ drop m (drop at room)) at k 0 size (omega arith) ∙ get_or-append_right part (drop m (drop at room)) 8 (k - at) 0 eight (omega arith) ∙ get_or-drop m (drop at room) (k - at - 8) 0 ∙ get_or-drop at room (m + (k - at - 8)) 0 ∙ none (at + (m + (k - at - 8))) (omega arith)

-- past the words there are no bytes
pub byte_past : (words : List ℕ) (i : ℕ) → 4 ≤ length words → 8 * (length words - 4) ≤ i → byte_in words i ≡ 0
byte_past words i long past = ap (λ (w : ℕ). get_or (bytes_in w) (i % 8) 0) (get_or_past words (4 + i / 8) 0 (omega arith)) ∙ zero_byte i

-- the bytes of the words before i are in the room, and no others
pub record HasSome (words room : List ℕ) (i : ℕ) : Type 0 where
  pub size : length room ≡ ROW_ROOM
  pub bytes : (k : ℕ) → k < 8 * (i - 4) → get_or room k 0 ≡ byte_in words k
  pub past : (k : ℕ) → 8 * (i - 4) ≤ k → get_or room k 0 ≡ 0

pub has_none : (words : List ℕ) → HasSome words (replicate ROW_ROOM 0) 4
has_none words = record { size = refl; bytes = λ k l. absurd (omega arith); past = λ k l. get_or-zeros ROW_ROOM k }

pub has_more : (words room part : List ℕ) (i m : ℕ) → 4 ≤ i → part ≡ bytes_in (get_or words i 0) → 8 * (i - 4) ≤ length room
    → 8 * (i - 4) + 8 + length (drop m (drop (8 * (i - 4)) room)) ≡ ROW_ROOM → HasSome words room i
    → HasSome words (take (8 * (i - 4)) room ++ (part ++ drop m (drop (8 * (i - 4)) room))) (i + 1)
has_more words room part i m late is fits size h = record {
  size = let eight : length part ≡ 8 = ap length is ∙ bytes_size (get_or words i 0) in grind (arith, common_steps);
  bytes = one_more_word words room part _ i late is fits h.bytes;
  past = still_empty words room part i m late is fits h.past;
}

pub has_all : {words room : List ℕ} {i : ℕ} → 4 ≤ length words → i ≡ length words → HasSome words room i → IsRoomOf words room
has_all {words} long end h = record {
  size = h.size;
  bytes = λ k within. elim (cases_lt k (8 * (length words - 4))) [
    | inl low ↦ h.bytes k (omega arith)
    | inr past ↦ h.past k (omega arith) ∙ sym (byte_past words k long past)
  ];
}

-- the part of a text in one word
pub word_ends : (words part : List ℕ) (len i n : ℕ) → part ≡ bytes_in (get_or words i 0) → 4 ≤ i → i < ROW_WORDS → ((k : ℕ) → k < 8 → (k < n) ↔ (8 * (i - 4) + k < len)) → EndsAt words len → HasBytes part n
word_ends words part len i n is late within parts ends = λ k low.
    let at = 8 * (i - 4) + k in
    let word : 4 + at / 8 ≡ i = omega arith in
    let byte : at % 8 ≡ k = omega arith in
    let same : byte_in words at ≡ get_or part k 0 = (λ j. get_or (bytes_in (get_or words (word j) 0)) (byte j) 0) ∙ ap (λ (bs : List ℕ). get_or bs k 0) (sym is) in
    let told = ends at (omega arith) in
    let part = parts k low in
    (λ lt e. told.0 (part.0 lt) (same ∙ e), λ some. part.1 (told.1 (λ e. some (sym same ∙ e))))

-- the words before one, and that one
pub one_more_end : (words part : List ℕ) (len i n : ℕ) → part ≡ bytes_in (get_or words i 0) → 4 ≤ i → ((k : ℕ) → k < 8 → (k < n) ↔ (8 * (i - 4) + k < len)) → HasBytes part n → ((j : ℕ) → j < 8 * (i - 4) → (j < len) ↔ (byte_in words j ≢ 0)) → (j : ℕ) → j < 8 * (i + 1 - 4) → (j < len) ↔ (byte_in words j ≢ 0)
one_more_end words part len i n is late parts has before j lt = elim (cases_lt j (8 * (i - 4))) [
  | inl low ↦ before j low
  | inr here ↦
      let k = j - 8 * (i - 4) in
      let word : 4 + j / 8 ≡ i = omega arith in
      let byte : j % 8 ≡ k = omega arith in
      let same : byte_in words j ≡ get_or part k 0 = (λ m. get_or (bytes_in (get_or words (word m) 0)) (byte m) 0) ∙ ap (λ (bs : List ℕ). get_or bs k 0) (sym is) in
      let told = has k (omega arith) in
      let part_of = parts k (omega arith) in
      (λ lt e. told.0 (part_of.1 (omega arith)) (sym same ∙ e), λ some. let lt = part_of.0 (told.1 (λ e. some (same ∙ e))) in omega arith)
]

-- past the words there are zeros, which no text has
pub never_past : (words : List ℕ) {len : ℕ} → 4 ≤ length words → len ≤ ROW_TEXT → 8 * (length words - 4) < len → EndsAt words len → ⊥
never_past words long fits past ends = let at = 8 * (length words - 4) in (ends at (omega arith)).0 past (byte_past words at long (omega arith))

-- so a text ends where it ends among the words
pub ends_all : (words : List ℕ) {len i : ℕ} → 4 ≤ length words → len ≤ 8 * (length words - 4) → length words ≤ i
    → ((j : ℕ) → j < 8 * (i - 4) → (j < len) ↔ (byte_in words j ≢ 0)) → EndsAt words len
ends_all words long few end before i within = elim (cases_lt i (8 * (length words - 4))) [
  | inl low ↦ before i (omega arith)
  | inr past ↦ (λ lt e. absurd (omega arith), λ some. absurd (some (byte_past words i long past)))
]
