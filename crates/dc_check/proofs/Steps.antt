-- The judge's loop, stamp by stamp.
use Rattle.std.proofs.Common.{◌≡◌, ℕ, suc, ◌<◌, ◌+◌, List, ◌∷◌, length, get_or, drop, map, Result, Ok, Err, OnOk, Option, sym, ap, ◌∙◌, drop-cons, add-one}
use Rattle.dc_plain.specs.Legal.{Stamp}
use Rattle.dc_plain.specs.Trees.{Tree}
use Rattle.dc_check.specs.Judging.{Judge}

pub held : {T E P : Type 0} (r : Result T E) → P → OnOk r P
held (Ok x) p = p
held (Err e) p = tt

pub front : {B : Type 0} (shown : B → Stamp) (xs : List B) (i : ℕ) (x d : B) → i < length xs → x ≡ get_or xs i d → map shown (drop i xs) ≡ shown x ∷ map shown (drop (i + 1) xs)
front shown xs i x d within is = ap (map shown) (drop-cons xs i d within) ∙ ap (λ y. shown y ∷ map shown (drop (suc i) xs)) (sym is) ∙ ap (λ k. shown x ∷ map shown (drop k xs)) (sym (add-one i))

abbrev pub judge_with : ℕ → Tree → ℕ → Option Stamp → Judge
judge_with limit tree clock change = record { limit = limit; tree = tree; clock = clock; change = change }

pub same_judge : (l m : ℕ) (t u : Tree) (clock : ℕ) (change : Option Stamp) → l ≡ m → t ≡ u
    → judge_with l t clock change ≡ judge_with m u clock change
same_judge l m t u clock change e f i = record { limit = e i; tree = f i; clock = clock; change = change }
