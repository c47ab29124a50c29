-- How many entries lead to a number, and which names stand in a directory, by the entries' keys.
use Rattle.std.proofs.Common.{◌≡◌, ℕ, ◌+◌, ◌<◌, ◌^◌, ◌==◌, List, [], ◌∷◌, ◌++◌, Bool, true, false, cond, map, filter, length, take, drop, arith, is_some, Some, None, refl, ap, sym, ◌∙◌, append_assoc, if◌then◌else◌}
use Rattle.std.specs.Prelude.{count_by}
use Rattle.std.proofs.lemmas.List.Recursion.{is_sum_by}
use Rattle.std.proofs.lemmas.List.{append-nil, map-append}
use Rattle.std.proofs.lemmas.Map.Text.{is_eq-slice_cmp}
use Rattle.std.proofs.Math.Seq.{take-append_seam}
use Rattle.std.specs.Cmp.{unsigned_tied}
use Rattle.std.specs.Global.{Vec}
use Rattle.std.specs.List.{AllByRecursion}
use Rattle.std.specs.Option.{option_to_list}
use Rattle.std.specs.Ordering.{is_eq}
use Rattle.std.specs.Str.{bytes_eq}
use Rattle.dc_plain.specs.Trees.{Spot, how_many}
use Rattle.dc_plain.specs.BytesShown.{names_by}
use Rattle.dc_store.specs.Keys.{number_bytes, key_of, spot_in, entry_shown, name_held, names_held, IsKey}
use Rattle.dc_store.proofs.Keys.{cmp-number_bytes, length-number_bytes}

how_many-map : {X Y : Type 0} (p : Y → Bool) (f : X → Y) (xs : List X) → how_many p (map f xs) ≡ how_many (λ x. p (f x)) xs
how_many-map p f [] = refl
how_many-map p f (x ∷ xs) = ap (λ k. cond (p (f x)) 1 0 + k) (how_many-map p f xs)

counted : {X : Type 0} (p : X → Bool) (xs : List X) → count_by p xs ≡ how_many p xs
counted p xs = sym (is_sum_by (how_many p) (λ x. cond (p x) 1 0) refl (λ x xs. refl) xs)

-- the entries that lead to a number, by their values
pub names_counted : (n : ℕ) (entries : List (Vec ℕ × ℕ)) → count_by (λ (m : ℕ). m == n) (map (λ (e : Vec ℕ × ℕ). e.1) entries) ≡ how_many (λ (e : Spot × ℕ). e.1 == n) (map entry_shown entries)
names_counted n entries =
    counted (λ (m : ℕ). m == n) (map (λ (e : Vec ℕ × ℕ). e.1) entries) ∙ how_many-map (λ (m : ℕ). m == n) (λ (e : Vec ℕ × ℕ). e.1) entries
    ∙ sym (how_many-map (λ (e : Spot × ℕ). e.1 == n) entry_shown entries)

-- a key is for an entry in a directory exactly if its number is the directory's
is_held : (d : ℕ) (key : List ℕ) → d < 2 ^ 64 → IsKey key → bytes_eq (take 8 key) (number_bytes d) ≡ ((spot_in key).dir == d)
is_held d key fits is =
    let front : take 8 key ≡ number_bytes (spot_in key).dir =
    (λ i. take 8 (sym is.spelled i)) ∙ (λ i. take (sym (length-number_bytes (spot_in key).dir) i) (key_of (spot_in key))) ∙ take-append_seam (number_bytes (spot_in key).dir) (drop 8 key) in
    ap (λ f. bytes_eq f (number_bytes d)) front ∙ sym (is_eq-slice_cmp (number_bytes (spot_in key).dir) (number_bytes d))
    ∙ ap is_eq (cmp-number_bytes (spot_in key).dir d is.fits fits) ∙ unsigned_tied (spot_in key).dir d

module _ (d : ℕ) (fits : d < 2 ^ 64) where
  -- the names of the keys are the names of the entries
  pub names_listed : (entries : List (Vec ℕ × ℕ)) → AllByRecursion (λ e. IsKey e.0.items) entries
      → names_held d (map (λ key. key.items) (map (λ (e : Vec ℕ × ℕ). e.0) entries)) ≡ names_by d (map entry_shown entries)
  names_listed [] all = refl
  names_listed (e ∷ es) all =
      ap (λ b. option_to_list (if b then Some (drop 8 e.0.items) else None) ++ names_held d (map (λ key. key.items) (map (λ (x : Vec ℕ × ℕ). x.0) es))) (is_held d e.0.items fits all.0)
      ∙ elim ((spot_in e.0.items).dir == d) as (λ b. option_to_list (if b then Some (drop 8 e.0.items) else None) ++ names_held d (map (λ key. key.items) (map (λ (x : Vec ℕ × ℕ). x.0) es))
      ≡ map (λ (x : Spot × ℕ). x.0.name) (cond b (entry_shown e ∷ filter (λ (x : Spot × ℕ). x.0.dir == d) (map entry_shown es)) (filter (λ (x : Spot × ℕ). x.0.dir == d) (map entry_shown es)))) [
        | true ↦ ap (λ l. drop 8 e.0.items ∷ l) (names_listed es all.1)
        | false ↦ names_listed es all.1
      ]

  -- as many keys as names
  length_held : (keys : List (Vec ℕ)) → how_many (λ (key : Vec ℕ). is_some (name_held d key.items)) keys ≡ length (names_held d (map (λ key. key.items) keys))
  length_held [] = refl
  length_held (key ∷ keys) =
      ap (λ k. cond (is_some (name_held d key.items)) 1 0 + k) (length_held keys)
      ∙ elim (bytes_eq (take 8 key.items) (number_bytes d)) as (λ b. cond (is_some (if b then Some (drop 8 key.items) else None)) 1 0 + length (names_held d (map (λ k. k.items) keys))
      ≡ length (option_to_list (if b then Some (drop 8 key.items) else None) ++ names_held d (map (λ k. k.items) keys))) [
        | true ↦ omega arith
        | false ↦ omega arith
      ]

  pub held_counted : (entries : List (Vec ℕ × ℕ)) → AllByRecursion (λ e. IsKey e.0.items) entries
      → count_by (λ (key : Vec ℕ). is_some (name_held d key.items)) (map (λ (e : Vec ℕ × ℕ). e.0) entries) ≡ length (names_by d (map entry_shown entries))
  held_counted entries all =
      counted (λ (key : Vec ℕ). is_some (name_held d key.items)) (map (λ (e : Vec ℕ × ℕ). e.0) entries) ∙ length_held (map (λ (e : Vec ℕ × ℕ). e.0) entries) ∙ ap length (names_listed entries all)

more : (d : ℕ) (xs : List (List ℕ)) (key : List ℕ) → names_held d (xs ++ key ∷ []) ≡ names_held d xs ++ option_to_list (name_held d key)
more d [] key = append-nil (option_to_list (name_held d key))
more d (x ∷ xs) key = ap (λ l. option_to_list (name_held d x) ++ l) (more d xs key) ∙ sym (append_assoc (option_to_list (name_held d x)) (names_held d xs) (option_to_list (name_held d key)))

-- one key more
pub one_more : {X Y : Type 0} (f : X → List ℕ) (g : Y → List ℕ) (d : ℕ) (names new : List Y) (keys : List X) (key : X) {text : List ℕ} → map g new ≡ map g names ++ option_to_list (name_held d text) → text ≡ f key
    → map g names ≡ names_held d (map f keys) → map g new ≡ names_held d (map f (keys ++ key ∷ []))
one_more f g d names new keys key pushed is so_far =
    pushed ∙ (λ i. so_far i ++ option_to_list (name_held d (is i))) ∙ sym (more d (map f keys) (f key)) ∙ ap (names_held d) (sym (map-append f keys (key ∷ [])))

pub map_twice : {X Y Z : Type 0} (f : X → Y) (g : Y → Z) (xs : List X) → map (λ x. g (f x)) xs ≡ map g (map f xs)
map_twice f g [] = refl
map_twice f g (x ∷ xs) = ap (λ l. g (f x) ∷ l) (map_twice f g xs)
