-- The place of a path whose last part is known.
use Rattle.std.proofs.Common.{◌≡◌, ℕ, zero, suc, List, [], ◌∷◌, ◌++◌, ◌-◌, map, length, slice_get, Bool, Option, Some, None, Ok, refl, ap, sym, ◌∙◌, arith}
use Rattle.std.proofs.lemmas.List.{map-append, length-append}
use Rattle.dc_names.specs.declared.name.Part as rust_part
use Rattle.dc_names.specs.Lasts.{last_part}
use Rattle.dc_names.specs.Names.{part_shown}
use Rattle.dc_names.specs.Paths.{Part, path_in, parts_of, has_end_slash}
use Rattle.dc_plain.specs.Resolution.{Outcome, settled_walk}
use Rattle.dc_plain.specs.Resolution.Outcome.{Found, Refused}
use Rattle.dc_plain.specs.Places.{front_of, placed_by}
use Rattle.dc_plain.specs.Refusals.{◌>>=◌, ended, place_on, where_of}
use Rattle.dc_plain.specs.Trees.{Tree, told_of}

last_got : {X : Type 0} (xs : List X) (x : X) (n : ℕ) → n ≡ length xs → slice_get (xs ++ x ∷ []) n ≡ Some x
last_got [] x n is = rw is refl
last_got (y ∷ ys) x zero is = absurd (omega arith)
last_got (y ∷ ys) x (suc n) is = last_got ys x n (omega arith)

last_known : (front : List Part) (last : Part) (parts : List Part) → parts ≡ front ++ last ∷ [] → slice_get parts (length parts - 1) ≡ Some last
last_known front last parts is = rw is (last_got front last (length (front ++ last ∷ []) - 1) (simp length-append (omega arith)))

placed : (p : Part) (slash : Bool) (last : Option Part) (front : Option Outcome) → last ≡ Some p
    → where_of (placed_by last slash front) ≡ (ended (settled_walk front) >>= λ q. Ok (record { dir = q.0; last = last_part p; slash = slash }))
placed p slash None front is = absurd cc
placed p slash (Some last) None is = refl
placed p slash (Some last) (Some (Refused refusal)) is = refl
placed p slash (Some last) (Some (Found q)) is =
    let same : last ≡ p = cc in ap (λ (p : Part). Ok (record { dir = q.0; last = last_part p; slash = slash })) same

-- the place of a path is where its front leads, with its last part
pub placed_on : (t : Tree) (base : ℕ) (text : List ℕ) (all front : List rust_part.Part) (last : rust_part.Part) → map part_shown all ≡ parts_of text → all ≡ front ++ last ∷ []
    → place_on t base (path_in text) ≡ (ended (settled_walk (front_of (told_of t) base (path_in text))) >>= λ q. Ok (record { dir = q.0; last = last_part (part_shown last); slash = has_end_slash text }))
placed_on t base text all front last parts cut =
    placed (part_shown last) (has_end_slash text) (slice_get (parts_of text) (length (parts_of text) - 1)) (front_of (told_of t) base (path_in text))
    (last_known (map part_shown front) (part_shown last) (parts_of text) (sym parts ∙ ap (map part_shown) cut ∙ map-append part_shown front (last ∷ [])))
