-- The last bytes of a text in one word.
use Rattle.std.proofs.Common.{◌≡◌, ℕ, ◌+◌, ◌-◌, ◌*◌, ◌/◌, ◌%◌, ◌^◌, ◌<◌, ◌≤◌, List, drop, take, length, sym, subst, ap, ◌∙◌, arith}
use Rattle.std.proofs.lemmas.List.{drop-drop, get_or-drop, length-drop}
use Rattle.std.proofs.lemmas.Nat.{shl_whole, shr_le}
use Rattle.dc_names.specs.Words.{AreBytes, word_of}
use Rattle.dc_names.proofs.Packed.{word_of-drop, word_of-split}

-- the last `w` bytes without those before the given one
pub last_bytes : (w : ℕ) (text : List ℕ) (from : ℕ) → w ≤ 8 → w ≤ length text → length text ≤ from + w → AreBytes text → word_of (drop (length text - w) text) / 2 ^ (8 * (from + w - length text)) ≡ word_of (drop from text)
last_bytes w text from fits long few are =
    let start = length text - w in
    let skipped = from + w - length text in
    let size : length (drop start text) ≤ 8 = omega (arith, length-drop start text) in
    let bytes : AreBytes (drop start text) = λ i. subst (λ b. b < 256) (sym (get_or-drop start text i 0)) (are (start + i)) in
    let place : start + skipped ≡ from = omega arith in
    word_of-drop skipped (drop start text) size bytes ∙ ap word_of (drop-drop skipped start text) ∙ ap (λ k. word_of (drop k text)) place

-- the first `w` bytes, and the last `w` without those that are among the first
pub both_ends : (w : ℕ) (text : List ℕ) {low high : ℕ} → low ≡ word_of (take w text) → high ≡ word_of (drop (length text - w) text) → high < 2 ^ (8 * w) → w ≤ 4 → w ≤ length text → length text ≤ w + w → AreBytes text
    → low + high / 2 ^ (8 * (w + w - length text)) * 2 ^ (8 * w) % 2 ^ 64 ≡ word_of text
both_ends w text {low} {high} first last fits narrow long few are =
    let skipped = 8 * (w + w - length text) in
    let others : high / 2 ^ skipped ≡ word_of (drop w text) = ap (λ (n : ℕ). n / 2 ^ skipped) last ∙ last_bytes w text w (omega arith) long few are in
    let below : word_of (drop w text) < 2 ^ (8 * w) = omega (arith, shr_le high skipped) in
    ap (λ (n : ℕ). low + n * 2 ^ (8 * w) % 2 ^ 64) others ∙ ap (λ (n : ℕ). low + n) (shl_whole (word_of (drop w text)) (8 * w) (8 * w) 64 below (omega arith))
    ∙ ap (λ (n : ℕ). n + word_of (drop w text) * 2 ^ (8 * w)) first ∙ sym (word_of-split w text (omega arith))
