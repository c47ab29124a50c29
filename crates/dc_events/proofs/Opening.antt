-- A new table keeps the rule.
use Rattle.std.proofs.Common.{◌≡◌, ℕ, zero, suc, ◌*◌, List, [], ◌∷◌, length, get_or, replicate, None, refl, sym, ap, ap₂, ◌∙◌, subst, inl, arith, true≢false, zero-add, le-ltb, cond}
use Rattle.std.proofs.lemmas.List.{length-replicate}
use mathlib.Core.Option.{some, some-injective, some-ne-none}
use lib.ListN.{get_elem?}
use Rattle.dc_plain.specs.Trees.{empty_tree}
use Rattle.dc_row.specs.Spelling.{Spells}
use Rattle.dc_names.specs.declared.limits.TheConstants.{ROW_WORDS}
use Rattle.dc_row.specs.declared.TheConstants.{EMPTY_ROW}
use Rattle.dc_events.specs.Views.{View}
use Rattle.dc_events.specs.Rows.{base_of, count, words_from, row_words, opening_words}
use Rattle.dc_events.specs.Rule.{ViewFits, StrandFits, Rule, RowFits, total, view_hits, once_below}
use Rattle.dc_events.specs.Effects.{nobody}
use Rattle.dc_events.proofs.Holder.{walk_done, no_faults}

zeros : (n i : ℕ) → get_or {A = ℕ} (replicate n 0) i 0 ≡ 0
zeros zero i = refl
zeros (suc n) zero = refl
zeros (suc n) (suc i) = zeros n i

zero_word : (rows j : ℕ) → get_or (opening_words rows) j 0 ≡ 0
zero_word rows zero = refl
zero_word rows (suc zero) = refl
zero_word rows (suc (suc j)) = zeros (rows * ROW_WORDS) j

all_zero : (words : List ℕ) → ((j : ℕ) → get_or words j 0 ≡ 0) → (k n : ℕ) → words_from words k n ≡ replicate n 0
all_zero words is k zero = refl
all_zero words is k (suc n) = ap₂ (λ x xs. x ∷ xs) (is k) (all_zero words is (suc k) n)

-- zeros spell no fact
abbrev IsNothing : Type 0
IsNothing = Spells EMPTY_ROW None

row_is_empty : IsNothing → (rows row : ℕ) → Spells (row_words (opening_words rows) row) None
row_is_empty none rows row = subst (λ ws. Spells ws None) (sym (all_zero (opening_words rows) (zero_word rows) (base_of row) ROW_WORDS)) none

row_fits : IsNothing → (rows row : ℕ) → RowFits empty_tree (opening_words rows) row
row_fits none rows row = let z : count (opening_words rows) row ≡ 0 = zero_word rows (base_of row) in record {
  below = omega arith;
  told = λ _. record { fact = None; spells = row_is_empty none rows row; holds = tt };
  spent = λ _. row_is_empty none rows row;
}

is_nobody : (n j : ℕ) (v : View) → get_elem? (replicate n nobody) j ≡ some v → nobody ≡ v
is_nobody zero j v e = absurd (some-ne-none v (sym e))
is_nobody (suc n) zero v e = some-injective nobody v e
is_nobody (suc n) (suc j) v e = is_nobody n j v e

no_records : (limit : ℕ) → StrandFits limit [] 0 []
no_records limit = record { stand = λ i r e. absurd (some-ne-none r (sym e)); rising = tt; within = omega arith }

nobody_fits : (limit rows : ℕ) → ViewFits limit rows (opening_words rows) [] nobody
nobody_fits limit rows = record {
  walk = walk_done limit rows (opening_words rows) [];
  book = record { own = no_records limit; joined = λ i s e. absurd (some-ne-none s (sym e)); seen = omega arith };
  follows = λ busy. absurd (true≢false (sym busy));
  faults = no_faults rows (opening_words rows);
}

no_hits : (p n : ℕ) → total (view_hits p) (replicate n nobody) ≡ 0
no_hits p zero = refl
no_hits p (suc n) = zero-add (total (view_hits p) (replicate n nobody)) ∙ no_hits p n

pub opening_rule : IsNothing → (limit rows actors : ℕ) → Rule limit rows (opening_words rows) (replicate actors nobody) []
opening_rule none limit rows actors = record {
  holder = 0;
  clock = refl;
  early = omega arith;
  wide = let l : length {A = ℕ} (replicate (rows * ROW_WORDS) 0) ≡ rows * ROW_WORDS = length-replicate (rows * ROW_WORDS) 0 in omega arith;
  row = λ i _. row_fits none rows i;
  lock = inl (refl, λ row _. let z : count (opening_words rows) row ≡ 0 = zero_word rows (base_of row) in omega arith);
  held = λ j v e has. absurd (true≢false (sym has ∙ ap (λ (u : View). u.hold.holds) (sym (is_nobody actors j v e))));
  fits = λ j v e. subst (ViewFits limit rows (opening_words rows) []) (is_nobody actors j v e) (nobody_fits limit rows);
  once = λ p. no_hits p actors ∙ none_below p;
}
  where
    none_below : (p : ℕ) → 0 ≡ once_below p 0
    none_below p = sym (ap (λ b. cond b 1 0) (le-ltb p 0 (omega arith)))
