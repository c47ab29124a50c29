-- Which rows are in use after each change.
use Rattle.std.proofs.Common.{◌≡◌, ◌≢◌, ℕ, ◌<◌, Bool, true, false, ◌&&◌, ◌||◌, [], refl, sym, subst, ◌∙◌, inl, inr, nat_eq}
use Rattle.std.specs.Ordering.{nat_cmp}
use Rattle.std.specs.FinMap as map
use Rattle.std.specs.FinMap.{get-empty}
use Rattle.std.proofs.lemmas.Bool.{eq-eqb, ne_eqb, cases_eq}
use Rattle.dc_shrink.specs.Listings.{Listing, listing, is_in, without, is_used, pins_of, added, touched, with_pins, dropped}
use Rattle.dc_shrink.specs.Uses.{UsesNone, KeepsUse, SetsUse}
use Rattle.dc_shrink.proofs.Lists.{is_in-without}
use Rattle.dc_shrink.proofs.Entries.{get_inserted, get_removed}
use Rattle.dc_shrink.proofs.Listed.{gone}
use Rattle.dc_shrink.proofs.Steps.{pins_some}

pub uses_none : (n : ℕ) → UsesNone (listing n [] map.empty)
uses_none n row = rw (get-empty nat_cmp row) refl

and_true : (a : Bool) → (a && true) ≡ a
and_true true = refl
and_true false = refl

or_true : (a : Bool) → (a || true) ≡ true
or_true true = refl
or_true false = refl

-- a row that is set to be in use and was, is as before
pub kept : (row : ℕ) (was s : Listing) → is_used was row ≡ true → SetsUse row true was s → KeepsUse was s
kept row was s h set r = elim (cases_eq r row) [
  | inl e ↦ subst (λ (k : ℕ). is_used s k ≡ is_used was k) (sym e) (set.here ∙ sym h)
  | inr ne ↦ set.others r ne
]

-- one row after the other
pub set_again : {row : ℕ} {a b : Bool} {was s now : Listing} → SetsUse row a was s → SetsUse row b s now → SetsUse row b was now
set_again p q = record { here = q.here; others = λ r ne. q.others r ne ∙ p.others r ne }

module _ (s : Listing) (row : ℕ) where
  apart : (r : ℕ) → r ≢ row → nat_eq row r ≡ false
  apart r ne = ne_eqb row r (λ e. ne (sym e))

  others_in : (r : ℕ) → r ≢ row → is_in (without row s.listed) r ≡ is_in s.listed r
  others_in r ne = is_in-without row s.listed r ∙ rw (apart r ne) (and_true (is_in s.listed r))

  pub used_added : {t : Listing} → t ≡ added s row → SetsUse row true s t
  used_added e = subst (SetsUse row true s) (sym e) (record {
    here = rw (eq-eqb row row refl) refl;
    others = λ r ne. rw (ne_eqb r row ne) refl;
  })

  pub used_dropped : {t : Listing} → t ≡ dropped s row → SetsUse row false s t
  used_dropped e = subst (SetsUse row false s) (sym e) (record {
    here = rw (gone row s.listed, get_removed s.pins row row, eq-eqb row row refl) refl;
    others = λ r ne. rw (others_in r ne, get_removed s.pins row r, apart r ne) refl;
  })

  pub used_renewed : {t : Listing} → t ≡ added (dropped s row) row → SetsUse row true s t
  used_renewed e = subst (SetsUse row true s) (sym e) (record {
    here = rw (eq-eqb row row refl) refl;
    others = λ r ne. rw (ne_eqb r row ne, others_in r ne, get_removed s.pins row r, apart r ne) refl;
  })

  pub used_pinned : (pins : ℕ) {t : Listing} → is_used s row ≡ true → t ≡ with_pins s row pins → KeepsUse s t
  used_pinned pins {t} h e = kept row s t h (subst (SetsUse row true s) (sym e) (record {
    here = rw (get_inserted s.pins row pins row, eq-eqb row row refl) (or_true (is_in (without row s.listed) row));
    others = λ r ne. rw (others_in r ne, get_inserted s.pins row pins r, apart r ne) refl;
  }))

  pub used_touched : {t : Listing} → is_in s.listed row ≡ true → t ≡ touched s row → KeepsUse s t
  used_touched {t} h e = kept row s t (rw h refl) (subst (SetsUse row true s) (sym e) (record {
    here = rw (eq-eqb row row refl) refl;
    others = λ r ne. rw (ne_eqb r row ne, others_in r ne) refl;
  }))

  pub used_if_pinned : 0 < pins_of s row → is_used s row ≡ true
  used_if_pinned h = rw (pins_some (map.get s.pins row) h) (or_true (is_in s.listed row))
