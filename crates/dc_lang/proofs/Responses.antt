-- What the line of a reply tells is what reading computes, and nothing else.
use Rattle.std.proofs.Common.{◌≡◌, ℕ, ◌<◌, ◌^◌, ◌==◌, List, [], ◌∷◌, ◌++◌, length, Some, None, Result, Ok, Err, IfOk, IsErrOf, option_map, map, refl, sym, ap, ◌∙◌, inl, inr, arith, cond, codes, subst}
use Rattle.std.specs.Fmt.{decimal}
use Rattle.std.specs.List.{AllByRecursion}
use Rattle.std.proofs.lemmas.Bool.Decides.{Decides-eqb}
use Rattle.std.proofs.lemmas.List.{map-append}
use Rattle.std.proofs.lemmas.List.Splits.{join_with_byte-slice_split}
use Rattle.dc_names.specs.declared.kind.Kind.{Kind}
use Rattle.dc_names.specs.declared.kind.Kind.TheVariants.{Dir, File, Link}
use Rattle.dc_plain.specs.declared.call.Stamped as rust_stamped
use Rattle.dc_plain.specs.Requests.{Answer}
use Rattle.dc_plain.specs.Requests.Answer.{Found, Done, Nothing, Bytes, Names, Counted, Refused}
use Rattle.dc_lang.specs.declared.line.LineFault.{LineFault}
use Rattle.dc_lang.specs.declared.line.LineFault.TheVariants.{Bad, NoMemory}
use Rattle.dc_lang.specs.Words.{spaced}
use Rattle.dc_lang.specs.Reading.{Reads, ◌>>=◌, session_in, parts}
use Rattle.dc_lang.specs.Replies.{kind_text, answer_words}
use Rattle.dc_lang.specs.Responses.{Response, IsAnswer, IsResponse, Tells, response_of}
use Rattle.dc_lang.specs.ReadingReplies.{answer_in, point_in, last_apart, stamped_from, stamped_in, response_from, without_newline, response_in}
use Rattle.dc_lang.proofs.Words.{chosen}
use Rattle.dc_lang.proofs.Parts.{HasNoSpace, HasNoSpace-spelled, all_spelled, parts-spaced}
use Rattle.dc_lang.proofs.Sessions.{session_in-decimal, session_in_spells, HasNoSpace-session}
use Rattle.dc_lang.proofs.Lines.{no_space_tested, bind_at, bind_some}
use Rattle.dc_lang.proofs.Numbers.{number_in-decimal, HasNoSpace-decimal}
use Rattle.dc_lang.proofs.AnswerWords.{mapped, answer_in-answer_words, answer_in_spells, point_in_spells}

pub last_apart-append : {A : Type 0} (xs : List A) (x : A) → last_apart (xs ++ x ∷ []) ≡ Some (x, xs)
last_apart-append [] x = refl
last_apart-append (y ∷ []) x = refl
last_apart-append (y ∷ z ∷ xs) x = ap (option_map (λ ends. (ends.0, y ∷ ends.1))) (last_apart-append (z ∷ xs) x)

last_apart_is : {A : Type 0} (xs : List A) (ends : A × List A) → last_apart xs ≡ Some ends → xs ≡ ends.1 ++ ends.0 ∷ []
last_apart_is [] ends e = cc
last_apart_is (x ∷ []) ends e = let is : (x, []) ≡ ends = cc in ap (λ both. both.1 ++ both.0 ∷ []) is
last_apart_is (x ∷ y ∷ xs) ends e =
    let rest = mapped (λ both. (both.0, x ∷ both.1)) (last_apart (y ∷ xs)) ends e in
    ap (λ ys. x ∷ ys) (last_apart_is (y ∷ xs) rest.0 rest.1) ∙ ap (λ both. both.1 ++ both.0 ∷ []) rest.2

-- the words of a response
abbrev response_words : Response → List (List ℕ)
response_words r = decimal r.session ∷ answer_words r.answer ++ (64 ∷ decimal r.at) ∷ []

stamped_in-words : (r : Response) → IsResponse r → stamped_in (answer_words r.answer ++ (64 ∷ decimal r.at) ∷ []) ≡ Some (r.answer, r.at)
unfolding stamped_in
stamped_in-words r is =
    bind_at _ (64 ∷ decimal r.at, answer_words r.answer) _ _ (last_apart-append (answer_words r.answer) (64 ∷ decimal r.at))
    (bind_at _ r.at _ _ (number_in-decimal r.at is.at)
    (bind_at _ r.answer _ _ (answer_in-answer_words r.answer is.answer) refl))

response_from-words : (r : Response) → IsResponse r → response_from (response_words r) ≡ Some r
response_from-words r is =
    bind_at _ r.session _ _ (session_in-decimal r.session is.session)
    (bind_at _ (r.answer, r.at) _ _ (stamped_in-words r is) refl)

stamped_in_spells : (words : List (List ℕ)) (stamped : Answer × ℕ) → stamped_in words ≡ Some stamped
    → IsAnswer stamped.0 × (stamped.1 < 2 ^ 64) × (answer_words stamped.0 ++ (64 ∷ decimal stamped.1) ∷ [] ≡ words)
unfolding stamped_in
stamped_in_spells words stamped e =
    let ends = bind_some (last_apart words) (λ ends. stamped_from ends.1 ends.0) stamped e in
    let at = bind_some (point_in ends.0.0) (λ at. answer_in ends.0.1 >>= λ answer. Some (answer, at)) stamped ends.2 in
    let answer = bind_some (answer_in ends.0.1) (λ answer. Some (answer, at.0)) stamped at.2 in
    let is : (answer.0, at.0) ≡ stamped = cc in
    let point = point_in_spells ends.0.0 at.0 at.1 in
    let told = answer_in_spells ends.0.1 answer.0 answer.1 in
    let words_are : answer_words answer.0 ++ (64 ∷ decimal at.0) ∷ [] ≡ words =
    ap (λ ws. ws ++ (64 ∷ decimal at.0) ∷ []) told.1 ∙ ap (λ p. ends.0.1 ++ p ∷ []) point.1 ∙ sym (last_apart_is words ends.0 ends.1) in
    subst (λ (x : Answer × ℕ). IsAnswer x.0 × (x.1 < 2 ^ 64) × (answer_words x.0 ++ (64 ∷ decimal x.1) ∷ [] ≡ words)) is (told.0, point.0, words_are)

response_from_spells : (texts : List (List ℕ)) (r : Response) → response_from texts ≡ Some r → IsResponse r × (response_words r ≡ texts)
response_from_spells [] r e = cc
response_from_spells (s ∷ words) r e =
    let session = bind_some (session_in s) (λ session. stamped_in words >>= λ stamped. Some (record { session = session; answer = stamped.0; at = stamped.1 })) r e in
    let stamped = bind_some (stamped_in words) (λ stamped. Some (record { session = session.0; answer = stamped.0; at = stamped.1 })) r session.2 in
    let made : Response = record { session = session.0; answer = stamped.0.0; at = stamped.0.1 } in
    let is : made ≡ r = cc in
    let number = session_in_spells s session.0 session.1 in
    let told = stamped_in_spells words stamped.0 stamped.1 in
    let good : IsResponse made = record { session = number.0; answer = told.0; at = told.1 } in
    let spelt : response_words made ≡ s ∷ words = ap (λ d. d ∷ answer_words stamped.0.0 ++ (64 ∷ decimal stamped.0.1) ∷ []) number.1 ∙ ap (λ ws. s ∷ ws) told.2 in
    subst (λ x. IsResponse x × (response_words x ≡ s ∷ words)) is (good, spelt)

HasNoSpace-kind_text : (kind : Kind) → HasNoSpace (kind_text kind)
HasNoSpace-kind_text Dir = no_space_tested (codes "dir") refl
HasNoSpace-kind_text File = no_space_tested (codes "file") refl
HasNoSpace-kind_text Link = no_space_tested (codes "link") refl

no_space_on : (words more : List (List ℕ)) → AllByRecursion HasNoSpace words → AllByRecursion HasNoSpace more → AllByRecursion HasNoSpace (words ++ more)
no_space_on [] more left right = right
no_space_on (w ∷ words) more left right = (left.0, no_space_on words more left.1 right)

HasNoSpace-answer : (answer : Answer) → IsAnswer answer → AllByRecursion HasNoSpace (answer_words answer)
HasNoSpace-answer (Found number kind) is = (no_space_tested (codes "is") refl, (HasNoSpace-decimal number is, (HasNoSpace-kind_text kind, tt)))
HasNoSpace-answer (Done number) is = (no_space_tested (codes "ok") refl, (HasNoSpace-decimal number is, tt))
HasNoSpace-answer Nothing is = (no_space_tested (codes "ok") refl, tt)
HasNoSpace-answer (Bytes bytes) is = (no_space_tested (codes "text") refl, (HasNoSpace-spelled bytes, tt))
HasNoSpace-answer (Names names) is = (no_space_tested (codes "names") refl, all_spelled names)
HasNoSpace-answer (Counted number kind count) is = (no_space_tested (codes "stat") refl, (HasNoSpace-decimal number is.0, (HasNoSpace-kind_text kind, (HasNoSpace-decimal count is.1, tt))))
HasNoSpace-answer (Refused number) is = (no_space_tested (codes "no") refl, (HasNoSpace-decimal number is, tt))

parts_response : (r : Response) → IsResponse r → parts (spaced (response_words r)) ≡ response_words r
parts_response r is = parts-spaced (decimal r.session) (answer_words r.answer ++ (64 ∷ decimal r.at) ∷ [])
    (HasNoSpace-session r.session is.session, no_space_on (answer_words r.answer) ((64 ∷ decimal r.at) ∷ []) (HasNoSpace-answer r.answer is.answer) ((refl, HasNoSpace-decimal r.at is.at), tt))

without_newline-append : (text : List ℕ) → without_newline (text ++ 10 ∷ []) ≡ Some text
unfolding without_newline
without_newline-append text = bind_at _ (10, text) _ _ (last_apart-append text 10) refl

without_newline_is : (text line : List ℕ) → without_newline text ≡ Some line → text ≡ line ++ 10 ∷ []
unfolding without_newline
without_newline_is text line e =
    let ends = bind_some (last_apart text) (λ ends. cond (ends.0 == 10) (Some ends.1) None) line e in
    elim (chosen (ends.0.0 == 10) (Some ends.0.1) None (Some line) ends.2) [
      | inl newline ↦ (let same : ends.0.1 ≡ line = cc in
          last_apart_is text ends.0 ends.1 ∙ ap (λ b. ends.0.1 ++ b ∷ []) ((Decides-eqb ends.0.0 10).0 newline.0) ∙ ap (λ l. l ++ 10 ∷ []) same)
      | inr other ↦ cc
    ]

pub response_in_from_tells : (line : List ℕ) (r : Response) → Tells line r → response_in line ≡ Some r
response_in_from_tells line r tells =
    ap response_in (sym tells.text)
    ∙ bind_at _ (spaced (response_words r)) _ _ (without_newline-append (spaced (response_words r))) (ap response_from (parts_response r tells.is) ∙ response_from-words r tells.is)

pub tells_from_response_in : (line : List ℕ) (r : Response) → response_in line ≡ Some r → Tells line r
tells_from_response_in line r e =
    let front = bind_some (without_newline line) (λ front. response_from (parts front)) r e in
    let read = response_from_spells (parts front.0) r front.2 in
    record {
      is = read.0;
      text = ap (λ words. spaced words ++ 10 ∷ []) read.1 ∙ ap (λ text. text ++ 10 ∷ []) (join_with_byte-slice_split 32 front.0) ∙ sym (without_newline_is line front.0 front.1);
    }

pub one_response : (line : List ℕ) (a b : Response) → Tells line a → Tells line b → a ≡ b
one_response line a b first second =
    let same : Some a ≡ Some b = sym (response_in_from_tells line a first) ∙ response_in_from_tells line b second in cc

-- what is read is what the line tells, and a bad line tells nothing
pub tells_what_is_read : (line : List ℕ) (read : Result (ℕ × rust_stamped.Stamped) LineFault) → Reads response_of read (response_in line) → IfOk read (λ r. Tells line (response_of r))
tells_what_is_read line (Ok r) e = tells_from_response_in line (response_of r) e
tells_what_is_read line (Err fault) e = tt

pub bad_tells_nothing : (line : List ℕ) (read : Result (ℕ × rust_stamped.Stamped) LineFault) → Reads response_of read (response_in line) → IsErrOf read Bad → (r : Response) → Tells line r → ⊥
bad_tells_nothing line (Ok read) e bad r tells = cc
bad_tells_nothing line (Err Bad) e bad r tells = let none : None ≡ Some r = sym e ∙ response_in_from_tells line r tells in cc
bad_tells_nothing line (Err NoMemory) e bad r tells = cc

-- the last of some words that are shown
shown_last : {B : Type 0} (shown : B → List ℕ) (words rest : List B) (last : B) → words ≡ rest ++ last ∷ [] → last_apart (map shown words) ≡ Some (shown last, map shown rest)
shown_last shown words rest last e = ap (λ ws. last_apart (map shown ws)) e ∙ ap last_apart (map-append shown rest (last ∷ [])) ∙ last_apart-append (map shown rest) (shown last)

pub stamped_in-cut : {B : Type 0} (shown : B → List ℕ) (words rest : List B) (point : B) → words ≡ rest ++ point ∷ [] → stamped_in (map shown words) ≡ stamped_from (map shown rest) (shown point)
unfolding stamped_in
stamped_in-cut shown words rest point e = ap (λ ends. ends >>= λ parts. stamped_from parts.1 parts.0) (shown_last shown words rest point e)

pub stamped_in-none : {B : Type 0} (shown : B → List ℕ) (words : List B) → length words ≡ 0 → stamped_in (map shown words) ≡ None
unfolding stamped_in
stamped_in-none shown [] e = refl
stamped_in-none shown (w ∷ words) e = absurd (omega arith)

pub without_newline-cut : (text line : List ℕ) (last : ℕ) → text ≡ line ++ last ∷ [] → without_newline text ≡ cond (last == 10) (Some line) None
unfolding without_newline
without_newline-cut text line last e = ap (λ ends. ends >>= λ parts. cond (parts.0 == 10) (Some parts.1) None) (ap last_apart e ∙ last_apart-append line last)

pub without_newline-none : (text : List ℕ) → length text ≡ 0 → without_newline text ≡ None
unfolding without_newline
without_newline-none [] e = refl
without_newline-none (b ∷ text) e = absurd (omega arith)
