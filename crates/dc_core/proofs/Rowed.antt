-- What the words of a row spell, by the row that was decoded from them.
use Rattle.std.proofs.Common.{◌≡◌, ◌↔◌, ℕ, zero, suc, ◌+◌, ◌%◌, ◌<◌, ◌≤◌, ◌∷◌, length, take, drop, get_or, refl, Bool, false, true≢false, ap, List, Option, Some, None, option_map, Result, Ok, Err, IfOk, IfSome, IsTrue, sym, ◌∙◌, subst, arith}
use Rattle.std.proofs.Math.Seq.{drop-cons}
use mathlib.Core.Logic.{dite}
use native.Mathlib.Decide.{ℕ_discrete}
use Rattle.dc_row.specs.Rows.{row_shown}
use Rattle.dc_row.specs.declared.row.Row.{Row}
use Rattle.dc_plain.specs.Facts.{Fact}
use Rattle.dc_plain.specs.Facts.{key_of}
use Rattle.dc_plain.specs.Requests.{Request}
use Rattle.dc_plain.specs.Runs.{Touches}
use Rattle.dc_row.specs.Spelling.{Spells, TellsRow}
use Rattle.dc_plain.specs.Trees.{Holds}
use Rattle.dc_events.specs.Rows.{count, row_words, words_from, IfFact}
use Rattle.dc_core.specs.Machine.{State}
use Rattle.dc_core.specs.Refusals.{IsEven, IsTouched, IsTrueRow}

same_fact : (ws : List ℕ) (o : Option (Option Fact)) (told : Option Fact) → o ≡ Some told → TellsRow ws o → (fact : Option Fact) → Spells ws fact → told ≡ fact
same_fact ws o told is tells fact s = inside (sym is ∙ tells fact s)
  where
    inside : {A : Type 0} {a b : A} → Some a ≡ Some b → a ≡ b
    inside e = cc

none_some : {A : Type 0} {a : A} → None ≡ Some a → ⊥
none_some e = cc

module _ (s : State) (call : Request) (row : ℕ) where
  abbrev ws : List ℕ
  ws = row_words s.words row

  -- a row with a fact
  pub touched_some : (o : Option (Option Fact)) (told : Option Fact) (f : Fact) → IsEven s row → o ≡ Some told → TellsRow ws o → Spells ws told → Some f ≡ told → (b : Bool) → (IsTrue b ↔ Touches s.limit s.tree call (key_of f)) → IsTrue b ↔ IsTouched s call row
  touched_some o told f even is tells spells fact b so = (
    λ t. (even, f, subst (Spells ws) (sym fact) spells, so.0 t),
    λ h. so.1 (subst (λ g. Touches s.limit s.tree call (key_of g)) (inside (sym (fact ∙ same_fact ws o told is tells (Some h.1) h.2))) h.3),
  )
    where
      inside : {A : Type 0} {a b : A} → Some a ≡ Some b → a ≡ b
      inside e = cc

  -- a row without one
  pub touched_none : (o : Option (Option Fact)) (told : Option Fact) → o ≡ Some told → TellsRow ws o → told ≡ None → IsTouched s call row → ⊥
  touched_none o told is tells none h = none_some (sym none ∙ same_fact ws o told is tells (Some h.1) h.2)

even_or : (n : ℕ) → (n % 2 ≡ 1 → ⊥) → n % 2 ≡ 0
even_or n other = omega arith

-- and so for words that were decoded
module _ (s : State) (call : Request) (row : ℕ) (words : List ℕ) (o : Option Row) (r : Row) (is : words ≡ row_words s.words row) (some : o ≡ Some r) (tells : TellsRow words (option_map row_shown o)) where
  pub with_fact : (f : Fact) → (count s.words row % 2 ≡ 1 → ⊥) → Spells words (row_shown r) → Some f ≡ row_shown r → (b : Bool) → (IsTrue b ↔ Touches s.limit s.tree call (key_of f)) → IsTrue b ↔ IsTouched s call row
  with_fact f odd spells fact = touched_some s call row (option_map row_shown o) (row_shown r) f (even_or (count s.words row) odd) (ap (option_map row_shown) some)
      (subst (λ l. TellsRow l (option_map row_shown o)) is tells) (subst (λ l. Spells l (row_shown r)) is spells) fact

  pub without_fact : row_shown r ≡ None → IsTrue false ↔ IsTouched s call row
  without_fact none = (λ t. absurd (true≢false (sym t)), λ h. absurd (touched_none s call row (option_map row_shown o) (row_shown r) (ap (option_map row_shown) some) (subst (λ l. TellsRow l (option_map row_shown o)) is tells) none h))

-- a row with a fact is true exactly if the fact is
pub with_true : (s : State) (row : ℕ) (words : List ℕ) (o : Option Row) (r : Row) → words ≡ row_words s.words row → o ≡ Some r → TellsRow words (option_map row_shown o) → (f : Fact) → Spells words (row_shown r) → Some f ≡ row_shown r
    → (b : Bool) → (IsTrue b ↔ Holds s.tree f) → IsTrue b ↔ IsTrueRow s row
with_true s row words o r is some tells f spells fact b so = (
  λ t. record { fact = Some f; spells = subst (λ l. Spells l (Some f)) is (subst (Spells words) (sym fact) spells); holds = so.0 t },
  λ h. so.1 (subst (IfFact s.tree) (sym (fact ∙ same_fact words (option_map row_shown o) (row_shown r) (ap (option_map row_shown) some) tells h.fact (subst (λ l. Spells l h.fact) (sym is) h.spells))) h.holds),
)

pub if_ok : {A E : Type 0} (r : Result A E) (P Q : A → Type 0) → ((a : A) → P a → Q a) → IfOk r P → IfOk r Q
if_ok (Ok a) P Q f p = f a p
if_ok (Err e) P Q f p = p

pub through : {A B C : Type 0} → (A ↔ B) → (B ↔ C) → A ↔ C
through f g = (λ a. g.0 (f.0 a), λ c. f.1 (g.1 c))

pub blank_row : (ws : List ℕ) (o : Option Row) → IfSome o (λ r. Spells ws (row_shown r)) → TellsRow ws (option_map row_shown o) → (option_map row_shown o ≡ Some None) ↔ Spells ws None
blank_row ws None spelled tells = (λ e. absurd (none_some e), λ h. tells None h)
blank_row ws (Some r) spelled tells = (λ e. subst (Spells ws) (inside e) spelled, λ h. tells None h)
  where
    inside : {A : Type 0} {a b : A} → Some a ≡ Some b → a ≡ b
    inside e = cc

-- the rows so far, and one more
pub next_row : (Test : ℕ → Type 0) (n : ℕ) → ((r : ℕ) → r < n → Test r → ⊥) → (Test n → ⊥) → (r : ℕ) → r < n + 1 → Test r → ⊥
next_row Test n before here r less t = dite (ℕ_discrete r n) (λ e. here (subst Test e t)) (λ ne. before r (omega arith) t)

-- this many words that stand next to one another
pub words_between : (words : List ℕ) (k n : ℕ) → k + n ≤ length words → take n (drop k words) ≡ words_from words k n
words_between words k zero l = refl
words_between words k (suc n) l = ap (take (suc n)) (drop-cons words k 0 (omega arith)) ∙ ap (λ (ws : List ℕ). get_or words k 0 ∷ ws) (words_between words (suc k) n (omega arith))
