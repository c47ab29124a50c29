-- A key is written part by part, and its name is what is left without the number in front.
use Rattle.std.proofs.Common.{◌≡◌, ℕ, ◌+◌, List, ◌++◌, Bool, true, false, Bor, Option, Some, None, option_map, if◌then◌else◌, take, drop, length, ap, sym, ◌∙◌, nat_eq}
use Rattle.std.proofs.lemmas.List.{length-append}
use Rattle.std.proofs.Math.Seq.{take-append_seam}
use Rattle.std.specs.Cmp.Lexicographic.{pointwise}
use Rattle.std.specs.Option.{MatchOption}
use Rattle.std.specs.Str.{bytes_eq}
use Rattle.dc_store.specs.Keys.{number_bytes, name_held}
use Rattle.dc_store.proofs.Keys.{length-number_bytes}

-- one part and then another, written from the start
pub written : (n : ℕ) (front made part old mid new : List ℕ) → length front ≡ n → made ≡ front → mid ≡ (take 0 old ++ made) ++ drop (0 + length made) old
    → new ≡ (take n mid ++ part) ++ drop (n + length part) mid → take (n + length part) new ≡ front ++ part
written n front made part old mid new is same first second =
    let begins : take n mid ≡ front = (λ i. take (sym is i) ((first ∙ ap (λ xs. xs ++ drop (0 + length made) old) same) i)) ∙ take-append_seam front (drop (0 + length made) old) in
    let whole : length (front ++ part) ≡ n + length part = length-append front part ∙ ap (λ k. k + length part) is in
    (λ i. take (sym whole i) ((second ∙ ap (λ xs. (xs ++ part) ++ drop (n + length part) mid) begins) i)) ∙ take-append_seam (front ++ part) (drop (n + length part) mid)

pub stripped : (d : ℕ) (key front : List ℕ) → front ≡ number_bytes d → (o : Option (Bor (List ℕ)))
    → MatchOption o (pointwise nat_eq (take (length front) key) front ≡ false)
    (λ x. (pointwise nat_eq (take (length front) key) front ≡ true) × (x.now ≡ drop (length front) key) × (length x.now + length front ≡ length key))
    → option_map (λ name. name.now) o ≡ name_held d key
stripped d key front is o cases = by_cases o cases
  where
    eight : length front ≡ 8
    eight = ap length is ∙ length-number_bytes d

    test : bytes_eq (take 8 key) (number_bytes d) ≡ pointwise nat_eq (take (length front) key) front
    test = λ i. bytes_eq (take (sym eight i) key) (sym is i)

    by_test : (b : Bool) → pointwise nat_eq (take (length front) key) front ≡ b → name_held d key ≡ (if b then Some (drop 8 key) else None)
    by_test b e = ap (λ t. if t then Some (drop 8 key) else None) (test ∙ e)

    by_cases : (o : Option (Bor (List ℕ)))
        → MatchOption o (pointwise nat_eq (take (length front) key) front ≡ false)
        (λ x. (pointwise nat_eq (take (length front) key) front ≡ true) × (x.now ≡ drop (length front) key) × (length x.now + length front ≡ length key))
        → option_map (λ name. name.now) o ≡ name_held d key
    by_cases None e = sym (by_test false e)
    by_cases (Some x) m = ap (λ k. Some k) (m.1 ∙ ap (λ k. drop k key) eight) ∙ sym (by_test true m.0)
