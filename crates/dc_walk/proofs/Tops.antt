-- A row whose top stands in a room, and is then read on there.
use Rattle.std.proofs.Common.{◌≡◌, ℕ, ◌+◌, Bool, true, false, List, ◌++◌, [], ◌∷◌, take, length, ap, sym, ◌∙◌, subst}
use Rattle.dc_plain.specs.Facts.{Key}
use Rattle.dc_plain.specs.KeysShown.{key_shown, label_shown}
use Rattle.dc_plain.specs.declared.key.Key as rust_key
use Rattle.dc_plain.specs.declared.key.Label as rust_label
use Rattle.dc_row.specs.Narrow.{told_words}
use Rattle.dc_table.specs.Passes.{Pass}
use Rattle.dc_walk.specs.Probes.{noted_in, TakesRow}
use Rattle.dc_walk.specs.Rooms.{Kept, Used}
use Rattle.dc_walk.specs.declared.probe.Noted.{Noted}
use Rattle.dc_walk.specs.declared.row.Taken.{Taken}
use Rattle.dc_walk.specs.declared.row.Taken.TheVariants.{Other, Left, Tells}
use Rattle.dc_walk.proofs.Probed.{top_is}

-- what was put there is what was noted
noted_so : (noted : Noted) (r : Kept) → take 3 r.next ≡ noted.top.count ∷ noted.top.head ∷ noted.top.number ∷ [] → noted_in (record { row = noted.row; place = noted.place }) r ≡ noted
noted_so noted r put = λ i. record { row = noted.row; place = noted.place; top = top_is r.next noted.top.count noted.top.head noted.top.number put i }

-- a key by its label
keyed : (key : rust_key.Key) (label : rust_label.Label) → key.label ≡ label → record { number = key.number; label = label_shown label } ≡ key_shown key
keyed key label is = ap (λ l. record { number = key.number; label = label_shown l }) (sym is)

-- so what the row comes to there it comes to for who noted it
module _ (p q : Pass) (noted : Noted) (r put s : Kept) (key : Key) (items : put.items ≡ r.items) (spent : put.spent ≡ r.spent) where
  taken_so : (brief : Bool) (t : Taken) → TakesRow p q noted key put s false t → TakesRow p q noted key r s brief t
  taken_so brief Other takes v h = let g = takes v h in (g.0, g.1, g.2, g.3 ∙ items, g.4 ∙ spent)
  taken_so brief Left takes v h = let g = takes v h in let no : false ≡ true = g.0 in absurd cc
  taken_so brief (Tells at) takes v h = let g = takes v h in (
    g.0,
    g.1,
    g.2,
    g.3 ∙ ap (λ (us : List Used). us ++ record { row = noted.row; place = noted.place; words = g.0 } ∷ []) items,
    g.4 ∙ ap (λ (n : ℕ). n + told_words g.0) spent,
    g.5 ∙ ap (λ (us : List Used). length us) items,
  )

pub put_takes : (p q : Pass) (noted : Noted) (r put s : Kept) (key : rust_key.Key) (label : rust_label.Label) (brief : Bool) (t : Taken) → key.label ≡ label
    → take 3 put.next ≡ noted.top.count ∷ noted.top.head ∷ noted.top.number ∷ [] → put.items ≡ r.items → put.spent ≡ r.spent
    → TakesRow p q (noted_in (record { row = noted.row; place = noted.place }) put) (record { number = key.number; label = label_shown label }) put s false t
    → TakesRow p q noted (key_shown key) r s brief t
put_takes p q noted r put s key label brief t is first items spent takes =
    taken_so p q noted r put s (key_shown key) items spent brief t (subst (λ (k : Key). TakesRow p q noted k put s false t) (keyed key label is) (subst (λ (n : Noted). TakesRow p q n (record { number = key.number; label = label_shown label }) put s false t) (noted_so noted put first) takes))
