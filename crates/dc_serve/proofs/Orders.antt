-- The orders of a phase, line by line.
use Rattle.std.proofs.Common.{◌≡◌, ℕ, zero, suc, ◌+◌, ◌<◌, ◌≤◌, Bool, true, false, cond, true≢false, subst, arith, le_refl, List, [], ◌∷◌, ◌++◌, ◌==◌, get_or, length, map, drop, take, refl, ap, sym, ◌∙◌}
use Rattle.std.proofs.lemmas.List.{length-append, map-append, take_more, take-append-drop}
use Rattle.std.proofs.lemmas.List.Elements.{filter-append}
use Rattle.dc_lang.specs.declared.line.Line.{Line}
use Rattle.dc_lang.specs.Commands.{Meaning, meaning_of}
use Rattle.dc_lang.specs.Commands.Meaning.{Sync, Orders}
use Rattle.dc_lang.specs.Phases.{of_session, ordered, ordered_by, orders_in}
use Rattle.dc_serve.specs.Threads.{is_order_of}

orders_in-append : (xs ys : List Meaning) → orders_in (xs ++ ys) ≡ orders_in xs ++ orders_in ys
orders_in-append [] ys = refl
orders_in-append (Sync ∷ xs) ys = orders_in-append xs ys
orders_in-append (Orders order ∷ xs) ys = ap (λ l. order ∷ l) (orders_in-append xs ys)

ordered_by-append : (session : ℕ) (xs ys : List Line) → ordered_by session (xs ++ ys) ≡ ordered_by session xs ++ ordered_by session ys
ordered_by-append session xs ys =
    ap (λ m. of_session session (orders_in m)) (map-append meaning_of xs ys) ∙ ap (of_session session) (orders_in-append (map meaning_of xs) (map meaning_of ys))
    ∙ filter-append (λ order. order.session == session) (ordered xs) (ordered ys)

pub ordered_by-more : (session : ℕ) (lines : List Line) (i : ℕ) (line : Line) → i < length lines → line ≡ get_or lines i line
    → ordered_by session (take (i + 1) lines) ≡ ordered_by session (take i lines) ++ ordered_by session (line ∷ [])
ordered_by-more session lines i line within is =
    ap (ordered_by session) (take_more lines i line within ∙ ap (λ (x : Line). take i lines ++ x ∷ []) (sym is)) ∙ ordered_by-append session (take i lines) (line ∷ [])

-- some lines have no more orders than all
pub ordered_by-fewer : (session : ℕ) (lines : List Line) (i : ℕ) → length (ordered_by session (take i lines)) ≤ length (ordered_by session lines)
ordered_by-fewer session lines i =
    let whole = ap length (ap (ordered_by session) (sym (take-append-drop i lines)) ∙ ordered_by-append session (take i lines) (drop i lines)) in
    let sum = length-append (ordered_by session (take i lines)) (ordered_by session (drop i lines)) in
    omega arith

-- a session that has a line has an order
first_some : (session : ℕ) (said : Meaning) (rest : List Meaning) → is_order_of session said ≡ true → 0 < length (of_session session (orders_in (said ∷ rest)))
first_some session Sync rest e = absurd (true≢false (sym e))
first_some session (Orders order) rest e = rw e (omega arith)

later_some : (session : ℕ) (said : Meaning) (rest : List Meaning) → length (of_session session (orders_in rest)) ≤ length (of_session session (orders_in (said ∷ rest)))
later_some session Sync rest = le_refl _
later_some session (Orders order) rest = either (order.session == session)
  where
    either : (b : Bool) → length (of_session session (orders_in rest)) ≤ length (cond b (order ∷ of_session session (orders_in rest)) (of_session session (orders_in rest)))
    either true = omega arith
    either false = le_refl _

pub has_one : (session : ℕ) (lines : List Line) (i : ℕ) (line : Line) → i < length lines → line ≡ get_or lines i line → is_order_of session (meaning_of line) ≡ true → 0 < length (ordered_by session lines)
has_one session [] i line within is yes' = absurd (omega arith)
has_one session (x ∷ xs) zero line within is yes' = first_some session (meaning_of x) (map meaning_of xs) (subst (λ (l : Line). is_order_of session (meaning_of l) ≡ true) is yes')
has_one session (x ∷ xs) (suc i) line within is yes' =
    let rest = has_one session xs i line (omega arith) is yes' in
    let more = later_some session (meaning_of x) (map meaning_of xs) in
    omega arith

no_order : (session : ℕ) (said : Meaning) → is_order_of session said ≡ false → of_session session (orders_in (said ∷ [])) ≡ []
no_order session Sync e = refl
no_order session (Orders order) e = rw e refl

pub no_line : (session : ℕ) (line : Line) → is_order_of session (meaning_of line) ≡ false → ordered_by session (line ∷ []) ≡ []
no_line session line = no_order session (meaning_of line)
