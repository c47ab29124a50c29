-- A session is answered line by line.
use Rattle.std.proofs.Common.{◌≡◌, ℕ, ◌+◌, ◌<◌, List, [], ◌∷◌, get_or, length, take, ap, sym, subst, arith}
use Rattle.std.proofs.lemmas.List.{length-append}
use Rattle.dc_events.specs.Views.{Book}
use Rattle.dc_lang.specs.Commands.{Order}
use Rattle.dc_lang.specs.Phases.{ordered_by}
use Rattle.dc_lang.specs.declared.line.Line.{Line}
use Rattle.dc_serve.specs.Sessions.{Obeyed, Progress, RecordedSome}
use Rattle.dc_serve.proofs.Orders.{ordered_by-fewer, ordered_by-more}
use Rattle.dc_serve.proofs.Strands.{obeyed_both, obeyed_some, some_both, some_more}

-- the lines so far were answered, and of one more some calls were recorded
pub some_next : (session : ℕ) (lines : List Line) (i : ℕ) (line : Line) (a m b : Book) (x y : Progress) → i < length lines → line ≡ get_or lines i line → Obeyed a x (ordered_by session (take i lines)) y m
    → RecordedSome (length (ordered_by session (line ∷ []))) m b → RecordedSome (length (ordered_by session lines)) a b
some_next session lines i line a m b x y within is so_far more =
    let before = ordered_by session (take i lines) in
    let these = ordered_by session (line ∷ []) in
    let next = ap length (ordered_by-more session lines i line within is) in
    let all = ordered_by-fewer session lines (i + 1) in
    let sum = length-append before these in
    let both = some_both a m b (length before) (length these) (obeyed_some a m x y before so_far) more in
    some_more a b (length before + length these) (length (ordered_by session lines)) (omega arith) both

-- the lines so far were answered, and one more
pub obeyed_next : (session : ℕ) (lines : List Line) (i : ℕ) (line : Line) (a m b : Book) (x y z : Progress) → i < length lines → line ≡ get_or lines i line → Obeyed a x (ordered_by session (take i lines)) y m
    → Obeyed m y (ordered_by session (line ∷ [])) z b → Obeyed a x (ordered_by session (take (i + 1) lines)) z b
obeyed_next session lines i line a m b x y z within is so_far more =
    subst (λ (orders : List Order). Obeyed a x orders z b) (sym (ordered_by-more session lines i line within is))
    (obeyed_both a m b x y z (ordered_by session (take i lines)) (ordered_by session (line ∷ [])) so_far more)
