-- The entries of a directory that a page tells, and those of its map.
use Rattle.std.proofs.Common.{◌≡◌, ℕ, zero, suc, ◌≤◌, List, [], ◌∷◌, ◌++◌, take, length, map, filter, Bool, true, false, ◌&&◌, Some, refl, ap, sym, subst, ◌∙◌, arith}
use Rattle.std.proofs.lemmas.List.{length-map}
use Rattle.std.specs.BTreeMap.Range.{range_contains}
use Rattle.std.specs.Ordering.{is_lt}
use Rattle.std.specs.declared.ops.Bound.TheVariants.{Excluded, Unbounded}
use Rattle.dc_store.specs.Names.{name_cmp}
use Rattle.dc_store.specs.Pages.{behind, led_shown}
use Rattle.dc_store.specs.declared.pages.Led.{Led}

kept_true : (b : Bool) → (b && true) ≡ b
kept_true true = refl
kept_true false = refl

-- a range that begins behind a name has what is behind it
pub range_behind : (name : List ℕ) {key : List ℕ} → key ≡ name → (es : List (List ℕ × ℕ)) {names : List (List ℕ × ℕ)} → es ≡ names → filter (λ (e : List ℕ × ℕ). range_contains name_cmp (Excluded key) Unbounded e.0) es ≡ behind (Some name) names
range_behind name key_is es view =
    ap (λ (k : List ℕ). filter (λ (e : List ℕ × ℕ). range_contains name_cmp (Excluded k) Unbounded e.0) es) key_is
    ∙ ap (λ (p : List ℕ × ℕ → Bool). filter p es) (λ i e. kept_true (is_lt (name_cmp name e.0)) i) ∙ ap (behind (Some name)) view

take_none : (most : ℕ) → ◌≡◌ {A = List (List ℕ × ℕ)} [] (take most [])
take_none zero = refl
take_none (suc most) = refl

-- the first of as many as there are, or more, are all
all_told : (most : ℕ) (all : List (List ℕ × ℕ)) → length all ≤ most → all ≡ take most all
all_told most [] few = take_none most
all_told zero (x ∷ xs) few = absurd (omega (arith, few))
all_told (suc most) (x ∷ xs) few = ap (λ l. x ∷ l) (all_told most xs (omega (arith, few)))

-- the first of some are those in front
first_told : (xs rest : List (List ℕ × ℕ)) (most : ℕ) → length xs ≡ most → xs ≡ take most (xs ++ rest)
first_told [] rest most many = subst (λ m. ◌≡◌ {A = List (List ℕ × ℕ)} [] (take m rest)) many refl
first_told (x ∷ xs) rest zero many = absurd (omega (arith, many))
first_told (x ∷ xs) rest (suc most) many = ap (λ l. x ∷ l) (first_told xs rest most (omega (arith, many)))

module _ (names yielded : List (List ℕ × ℕ)) (page : List Led) (most : ℕ) (so_far : map led_shown page ≡ yielded) where
  as_many : length yielded ≡ length page
  as_many = sym (ap length so_far) ∙ length-map page led_shown

  -- all names were told
  pub ended : length page ≤ most → yielded ≡ names → map led_shown page ≡ take most names
  ended few whole =
      let within : length names ≤ most = omega (arith, sym (ap length whole) ∙ as_many, few) in
      so_far ∙ whole ∙ all_told most names within

  -- as many as were asked for
  pub stopped : (rest : List (List ℕ × ℕ)) → length page ≡ most → names ≡ yielded ++ rest → map led_shown page ≡ take most names
  stopped rest full cut = so_far ∙ first_told yielded rest most (as_many ∙ full) ∙ ap (take most) (sym cut)

pub unmapped : (leads : List Led) → map (λ (led : Led). led) leads ≡ leads
unmapped [] = refl
unmapped (led ∷ leads) = ap (λ l. led ∷ l) (unmapped leads)
