-- The commands of lines in the order in which they are served, one after the other.
use Rattle.std.proofs.Common.{◌≡◌, ℕ, suc, ◌+◌, ◌<◌, List, [], ◌∷◌, ◌++◌, ◌==◌, get_or, length, map, drop, take, refl, ap, sym, ◌∙◌, append_assoc, drop-cons, add-one}
use Rattle.std.proofs.lemmas.List.{map-append, take_more}
use Rattle.std.proofs.lemmas.List.Elements.{filter-append}
use Rattle.dc_lang.specs.declared.line.Line.{Line}
use Rattle.dc_lang.specs.Commands.{Meaning, Order, meaning_of}
use Rattle.dc_lang.specs.Commands.Meaning.{Sync, Orders}
use Rattle.dc_lang.specs.Phases.{by_session, of_session, of_sessions, ordered, ordered_by, orders_in, served_from}
use Rattle.dc_lang.specs.Served.{in_phase}

orders_in-append : (xs ys : List Meaning) → orders_in (xs ++ ys) ≡ orders_in xs ++ orders_in ys
orders_in-append [] ys = refl
orders_in-append (Sync ∷ xs) ys = orders_in-append xs ys
orders_in-append (Orders order ∷ xs) ys = ap (λ l. order ∷ l) (orders_in-append xs ys)

ordered_by-append : (session : ℕ) (xs ys : List Line) → ordered_by session (xs ++ ys) ≡ ordered_by session xs ++ ordered_by session ys
ordered_by-append session xs ys =
    ap (λ m. of_session session (orders_in m)) (map-append meaning_of xs ys) ∙ ap (of_session session) (orders_in-append (map meaning_of xs) (map meaning_of ys))
    ∙ filter-append (λ order. order.session == session) (ordered xs) (ordered ys)

-- the orders of some lines, and of one more
pub in_phase-more : (phase session : ℕ) (lines : List Line) (i : ℕ) (line : Line) → i < length lines → line ≡ get_or lines i line
    → in_phase phase (ordered_by session (take (i + 1) lines)) ≡ in_phase phase (ordered_by session (take i lines)) ++ in_phase phase (ordered_by session (line ∷ []))
in_phase-more phase session lines i line within is =
    ap (λ l. in_phase phase (ordered_by session l)) (take_more lines i line within ∙ ap (λ (x : Line). take i lines ++ x ∷ []) (sym is))
    ∙ ap (in_phase phase) (ordered_by-append session (take i lines) (line ∷ []))
    ∙ map-append (λ order. (phase, order)) (ordered_by session (take i lines)) (ordered_by session (line ∷ []))

-- no sessions, and one session more
pub sessions_none : (phase : ℕ) (orders : List Order) → in_phase phase (of_sessions 0 orders) ≡ []
unfolding of_sessions
sessions_none phase orders = refl

pub sessions_more : (phase session : ℕ) (orders : List Order) → in_phase phase (of_sessions (session + 1) orders) ≡ in_phase phase (of_sessions session orders) ++ in_phase phase (of_session session orders)
unfolding of_sessions
sessions_more phase session orders =
    ap (λ n. in_phase phase (of_sessions n orders)) (add-one session) ∙ map-append (λ order. (phase, order)) (of_sessions session orders) (of_session session orders)

-- the phases that are left, and one of them
pub served_next : {B : Type 0} (shown : B → List Order) (parts : List B) (i : ℕ) (part other : B) → i < length parts → part ≡ get_or parts i other
    → served_from i (map shown (drop i parts)) ≡ in_phase i (by_session (shown part)) ++ served_from (i + 1) (map shown (drop (i + 1) parts))
served_next shown parts i part other within is =
    ap (λ l. served_from i (map shown l)) (drop-cons parts i other within)
    ∙ ap (λ p. in_phase i (by_session (shown p)) ++ served_from (i + 1) (map shown (drop (suc i) parts))) (sym is)
    ∙ ap (λ k. in_phase i (by_session (shown part)) ++ served_from (i + 1) (map shown (drop k parts))) (sym (add-one i))

-- what was added behind what stood before, and what is then left
pub grown : {A : Type 0} (old now then' front more all : List A) → then' ≡ now ++ more → now ≡ old ++ front → all ≡ front ++ more → then' ≡ old ++ all
grown old now then' front more all e f g = e ∙ ap (λ l. l ++ more) f ∙ append_assoc old front more ∙ ap (λ l. old ++ l) (sym g)

pub passed_on : {A : Type 0} (now then' more left rest whole : List A) → then' ≡ now ++ more → left ≡ more ++ rest → now ++ left ≡ whole → then' ++ rest ≡ whole
passed_on now then' more left rest whole e f g = ap (λ l. l ++ rest) e ∙ append_assoc now more rest ∙ ap (λ l. now ++ l) (sym f) ∙ g
