-- Each change keeps the listed and the pinned rows apart.
use Rattle.std.proofs.Common.{◌≡◌, ℕ, ◌<◌, ◌≤◌, Bool, true, false, cond, not, ◌&&◌, ◌||◌, List, ◌∷◌, length, Option, Some, None, is_some, IfSome, inl, inr, refl, sym, subst, ◌∙◌, nat_eq}
use Rattle.std.specs.Ordering.{nat_cmp}
use Rattle.std.specs.FinMap as map
use Rattle.std.proofs.lemmas.Bool.{eqb-true, eq-eqb, and_parts, or_cases, not-true}
use Rattle.std.proofs.lemmas.Map.Steps.{length-le_from_distinct_below}
use Rattle.dc_names.specs.declared.limits.TheConstants.{MOST_COUNT}
use Rattle.dc_shrink.specs.Listings.{Listing, listing, is_in, without, is_used, IsListing}
use Rattle.dc_shrink.proofs.Lists.{is_in-without, distinct_without, distinct_cons}
use Rattle.dc_shrink.proofs.Entries.{get_inserted, get_removed}

still_in : (row r : ℕ) (xs : List ℕ) → is_in (without row xs) r ≡ true → is_in xs r ≡ true
still_in row r xs h = (and_parts (is_in xs r) (not (nat_eq row r)) (sym (is_in-without row xs r) ∙ h)).0

pub gone : (row : ℕ) (xs : List ℕ) → is_in (without row xs) row ≡ false
gone row xs = is_in-without row xs row ∙ rw (eq-eqb row row refl) (never (is_in xs row))
  where
    never : (a : Bool) → (a && false) ≡ false
    never true = refl
    never false = refl

pub used_listed : (s : Listing) (r : ℕ) → is_in s.listed r ≡ true → is_used s r ≡ true
used_listed s r h = rw h refl

pub used_pinned : (s : Listing) (r : ℕ) → is_some (map.get s.pins r) ≡ true → is_used s r ≡ true
used_pinned s r h = elim (is_in s.listed r) as (λ a. (a || is_some (map.get s.pins r)) ≡ true) [ true ↦ refl | false ↦ h ]

module _ {n : ℕ} {listed : List ℕ} {pins : map.FinMap nat_cmp ℕ} (is : IsListing (listing n listed pins)) (row : ℕ) where
  -- there is room for a row that isn't listed
  pub room : is_in listed row ≡ false → row < n → length listed < n
  room h below = length-le_from_distinct_below (row ∷ listed) n (distinct_cons row listed h is.distinct) (λ q t. one q (nat_eq q row) refl t)
    where
      one : (q : ℕ) (a : Bool) → nat_eq q row ≡ a → (a || is_in listed q) ≡ true → q < n
      one q true s t = subst (λ (k : ℕ). k < n) (sym (eqb-true q row s)) below
      one q false s t = is.within q (used_listed (listing n listed pins) q t)

  pub listing_first : map.get pins row ≡ None → row < n → IsListing (listing n (row ∷ without row listed) pins)
  listing_first none below = record {
    distinct = distinct_cons row (without row listed) (gone row listed) (distinct_without row listed is.distinct);
    apart = λ r h. apart_at r (nat_eq r row) refl h;
    pinned = is.pinned;
    within = λ r h. within_at r (nat_eq r row) refl h;
  }
    where
      apart_at : (r : ℕ) (a : Bool) → nat_eq r row ≡ a → (a || is_in (without row listed) r) ≡ true → map.get pins r ≡ None
      apart_at r true s t = subst (λ (k : ℕ). map.get pins k ≡ None) (sym (eqb-true r row s)) none
      apart_at r false s t = is.apart r (still_in row r listed t)

      within_at : (r : ℕ) (a : Bool) → nat_eq r row ≡ a → ((a || is_in (without row listed) r) || is_some (map.get pins r)) ≡ true → r < n
      within_at r true s t = subst (λ (k : ℕ). k < n) (sym (eqb-true r row s)) below
      within_at r false s t = is.within r (elim (or_cases (is_in (without row listed) r) (is_some (map.get pins r)) t) [
        | inl h ↦ used_listed (listing n listed pins) r (still_in row r listed h)
        | inr h ↦ used_pinned (listing n listed pins) r h
      ])

  pub listing_dropped : IsListing (listing n (without row listed) (map.remove pins row))
  listing_dropped = record {
    distinct = distinct_without row listed is.distinct;
    apart = λ r h. get_removed pins row r ∙ rw (is.apart r (still_in row r listed h)) (both (nat_eq row r));
    pinned = λ r. rw (get_removed pins row r) (kept (nat_eq row r) (map.get pins r) (is.pinned r));
    within = λ r h. is.within r (elim (or_cases (is_in (without row listed) r) (is_some (map.get (map.remove pins row) r)) h) [
      | inl u ↦ used_listed (listing n listed pins) r (still_in row r listed u)
      | inr u ↦ used_pinned (listing n listed pins) r (left (nat_eq row r) (map.get pins r) (rw get_removed at u))
    ]);
  }
    where
      both : (a : Bool) → cond {A = Option ℕ} a None None ≡ None
      both true = refl
      both false = refl

      kept : (a : Bool) (o : Option ℕ) → IfSome o (λ pins. (1 ≤ pins) × (pins ≤ MOST_COUNT)) → IfSome (cond a None o) (λ pins. (1 ≤ pins) × (pins ≤ MOST_COUNT))
      kept true o h = tt
      kept false o h = h

      left : (a : Bool) (o : Option ℕ) → is_some (cond a None o) ≡ true → is_some o ≡ true
      left true o h = cc
      left false o h = h

  pub listing_pinned : (v : ℕ) → row < n → 1 ≤ v → v ≤ MOST_COUNT → IsListing (listing n (without row listed) (map.insert pins row v))
  listing_pinned v below some most = record {
    distinct = distinct_without row listed is.distinct;
    apart = λ r h. let two = and_parts (is_in listed r) (not (nat_eq row r)) (sym (is_in-without row listed r) ∙ h) in
        get_inserted pins row v r ∙ rw (not-true (nat_eq row r) two.1) (is.apart r two.0);
    pinned = λ r. rw (get_inserted pins row v r) (kept (nat_eq row r) (map.get pins r) (is.pinned r));
    within = λ r h. elim (or_cases (is_in (without row listed) r) (is_some (map.get (map.insert pins row v) r)) h) [
      | inl u ↦ is.within r (used_listed (listing n listed pins) r (still_in row r listed u))
      | inr u ↦ left r (nat_eq row r) refl (rw get_inserted at u)
    ];
  }
    where
      kept : (a : Bool) (o : Option ℕ) → IfSome o (λ pins. (1 ≤ pins) × (pins ≤ MOST_COUNT)) → IfSome (cond a (Some v) o) (λ pins. (1 ≤ pins) × (pins ≤ MOST_COUNT))
      kept true o h = (some, most)
      kept false o h = h

      left : (r : ℕ) (a : Bool) → nat_eq row r ≡ a → is_some (cond a (Some v) (map.get pins r)) ≡ true → r < n
      left r true s u = subst (λ (k : ℕ). k < n) (eqb-true row r s) below
      left r false s u = is.within r (used_pinned (listing n listed pins) r u)

  -- a pinned row isn't listed
  pub not_listed : is_some (map.get pins row) ≡ true → is_in listed row ≡ false
  not_listed h = at (is_in listed row) refl
    where
      at : (a : Bool) → is_in listed row ≡ a → a ≡ false
      at true s = let none = is.apart row s in cc
      at false s = refl
