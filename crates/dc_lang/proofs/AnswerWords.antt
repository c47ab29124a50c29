-- The words of an answer are what reading computes of them, and nothing else.
use Rattle.std.proofs.Common.{◌≡◌, ℕ, ◌<◌, ◌^◌, ◌==◌, true, List, [], ◌∷◌, Option, Some, None, option_map, refl, sym, ap, ◌∙◌, inl, inr, codes, subst}
use Rattle.std.specs.Fmt.{decimal}
use Rattle.std.specs.Str.{bytes_eq}
use Rattle.std.proofs.lemmas.Bool.Decides.{Decides-eqb}
use Rattle.std.proofs.lemmas.Slice.Eq.{bytes_eq-Decides}
use Rattle.dc_names.specs.declared.kind.Kind.{Kind}
use Rattle.dc_names.specs.declared.kind.Kind.TheVariants.{Dir, File, Link}
use Rattle.dc_plain.specs.Requests.{Answer}
use Rattle.dc_plain.specs.Requests.Answer.{Found, Done, Nothing, Bytes, Names, Counted, Refused}
use Rattle.dc_lang.specs.Reading.{◌>>=◌, word_in, words_in}
use Rattle.dc_lang.specs.Replies.{kind_text, answer_words}
use Rattle.dc_lang.specs.Responses.{IsAnswer}
use Rattle.dc_lang.specs.ReadingReplies.{number_in, all_kinds, kind_in, found_in, done_in, refused_in, counted_in, text_in, numbers_in, answer_in, point_in}
use Rattle.dc_lang.proofs.Words.{chosen, word_in-spelled, word_in_spells, words_in-spelled, words_in_spells}
use Rattle.dc_lang.proofs.Lines.{found_passes, bind_at, bind_some}
use Rattle.dc_lang.proofs.Numbers.{number_in-decimal, number_in_spells}

kind_in-kind_text : (kind : Kind) → kind_in (kind_text kind) ≡ Some kind
unfolding kind_in
kind_in-kind_text Dir = refl
kind_in-kind_text File = refl
kind_in-kind_text Link = refl

kind_in_spells : (text : List ℕ) (kind : Kind) → kind_in text ≡ Some kind → kind_text kind ≡ text
unfolding kind_in
kind_in_spells text kind e = (bytes_eq-Decides (kind_text kind) text).0 (found_passes (λ k. bytes_eq (kind_text k) text) all_kinds kind e)

pub mapped : {A B : Type 0} (f : A → B) (found : Option A) (y : B) → option_map f found ≡ Some y → (x : A) × (found ≡ Some x) × (f x ≡ y)
mapped f None y e = cc
mapped f (Some x) y e = (x, refl, cc)

-- each answer is read from its words
pub answer_in-answer_words : (answer : Answer) → IsAnswer answer → answer_in (answer_words answer) ≡ Some answer
answer_in-answer_words (Found number kind) is = bind_at _ number _ _ (number_in-decimal number is) (bind_at _ kind _ _ (kind_in-kind_text kind) refl)
answer_in-answer_words (Done number) is = ap (option_map Done) (number_in-decimal number is)
answer_in-answer_words Nothing is = refl
answer_in-answer_words (Bytes bytes) is = ap (option_map Bytes) (word_in-spelled bytes)
answer_in-answer_words (Names names) is = ap (option_map Names) (words_in-spelled names)
answer_in-answer_words (Counted number kind count) is =
    bind_at _ number _ _ (number_in-decimal number is.0) (bind_at _ kind _ _ (kind_in-kind_text kind) (bind_at _ count _ _ (number_in-decimal count is.1) refl))
answer_in-answer_words (Refused number) is = ap (option_map Refused) (number_in-decimal number is)

-- the words are those of an answer
abbrev Spells : List (List ℕ) → Answer → Type 0
Spells words answer = IsAnswer answer × (answer_words answer ≡ words)

same_words : (text first : List ℕ) (words : List (List ℕ)) → bytes_eq first text ≡ true → text ∷ words ≡ first ∷ words
same_words text first words e = ap (λ w. w ∷ words) (sym ((bytes_eq-Decides first text).0 e))

found_spells : (words : List (List ℕ)) (answer : Answer) → found_in words ≡ Some answer → Spells (codes "is" ∷ words) answer
found_spells [] answer e = cc
found_spells (n ∷ []) answer e = cc
found_spells (n ∷ k ∷ []) answer e =
    let number = bind_some (number_in n) (λ number. kind_in k >>= λ kind. Some (Found number kind)) answer e in
    let kind = bind_some (kind_in k) (λ kind. Some (Found number.0 kind)) answer number.2 in
    let digits = number_in_spells n number.0 number.1 in
    let is : Found number.0 kind.0 ≡ answer = cc in
    let words : codes "is" ∷ decimal number.0 ∷ kind_text kind.0 ∷ [] ≡ codes "is" ∷ n ∷ k ∷ [] = ap (λ a. codes "is" ∷ a ∷ kind_text kind.0 ∷ []) digits.1 ∙ ap (λ a. codes "is" ∷ n ∷ a ∷ []) (kind_in_spells k kind.0 kind.1) in
    subst (Spells (codes "is" ∷ n ∷ k ∷ [])) is (digits.0, words)
found_spells (n ∷ k ∷ x ∷ more) answer e = cc

done_spells : (words : List (List ℕ)) (answer : Answer) → done_in words ≡ Some answer → Spells (codes "ok" ∷ words) answer
done_spells [] answer e = let is : Nothing ≡ answer = cc in subst (Spells (codes "ok" ∷ [])) is (tt, refl)
done_spells (n ∷ []) answer e =
    let number = mapped Done (number_in n) answer e in
    let digits = number_in_spells n number.0 number.1 in
    subst (Spells (codes "ok" ∷ n ∷ [])) number.2 (digits.0, ap (λ a. codes "ok" ∷ a ∷ []) digits.1)
done_spells (n ∷ k ∷ more) answer e = cc

refused_spells : (words : List (List ℕ)) (answer : Answer) → refused_in words ≡ Some answer → Spells (codes "no" ∷ words) answer
refused_spells [] answer e = cc
refused_spells (n ∷ []) answer e =
    let number = mapped Refused (number_in n) answer e in
    let digits = number_in_spells n number.0 number.1 in
    subst (Spells (codes "no" ∷ n ∷ [])) number.2 (digits.0, ap (λ a. codes "no" ∷ a ∷ []) digits.1)
refused_spells (n ∷ k ∷ more) answer e = cc

counted_spells : (words : List (List ℕ)) (answer : Answer) → counted_in words ≡ Some answer → Spells (codes "stat" ∷ words) answer
counted_spells [] answer e = cc
counted_spells (n ∷ []) answer e = cc
counted_spells (n ∷ k ∷ []) answer e = cc
counted_spells (n ∷ k ∷ m ∷ []) answer e =
    let number = bind_some (number_in n) (λ number. kind_in k >>= λ kind. number_in m >>= λ count. Some (Counted number kind count)) answer e in
    let kind = bind_some (kind_in k) (λ kind. number_in m >>= λ count. Some (Counted number.0 kind count)) answer number.2 in
    let count = bind_some (number_in m) (λ count. Some (Counted number.0 kind.0 count)) answer kind.2 in
    let digits = number_in_spells n number.0 number.1 in
    let more = number_in_spells m count.0 count.1 in
    let is : Counted number.0 kind.0 count.0 ≡ answer = cc in
    let words : codes "stat" ∷ decimal number.0 ∷ kind_text kind.0 ∷ decimal count.0 ∷ [] ≡ codes "stat" ∷ n ∷ k ∷ m ∷ [] =
    ap (λ a. codes "stat" ∷ a ∷ kind_text kind.0 ∷ decimal count.0 ∷ []) digits.1 ∙ ap (λ a. codes "stat" ∷ n ∷ a ∷ decimal count.0 ∷ []) (kind_in_spells k kind.0 kind.1) ∙ ap (λ a. codes "stat" ∷ n ∷ k ∷ a ∷ []) more.1 in
    subst (Spells (codes "stat" ∷ n ∷ k ∷ m ∷ [])) is ((digits.0, more.0), words)
counted_spells (n ∷ k ∷ m ∷ x ∷ more) answer e = cc

text_spells : (words : List (List ℕ)) (answer : Answer) → text_in words ≡ Some answer → Spells (codes "text" ∷ words) answer
text_spells [] answer e = cc
text_spells (w ∷ []) answer e =
    let bytes = mapped Bytes (word_in w) answer e in
    subst (Spells (codes "text" ∷ w ∷ [])) bytes.2 (tt, ap (λ a. codes "text" ∷ a ∷ []) (word_in_spells w bytes.0 bytes.1))
text_spells (w ∷ k ∷ more) answer e = cc

names_spells : (words : List (List ℕ)) (answer : Answer) → option_map Names (words_in words) ≡ Some answer → Spells (codes "names" ∷ words) answer
names_spells words answer e =
    let names = mapped Names (words_in words) answer e in
    subst (Spells (codes "names" ∷ words)) names.2 (tt, ap (λ ws. codes "names" ∷ ws) (words_in_spells words names.0 names.1))

named : (text first : List ℕ) (words : List (List ℕ)) (answer : Answer) → bytes_eq first text ≡ true → Spells (text ∷ words) answer → Spells (first ∷ words) answer
named text first words answer e spells = subst (λ all. Spells all answer) (same_words text first words e) spells

numbers_spell : (first : List ℕ) (words : List (List ℕ)) (answer : Answer) → numbers_in first words ≡ Some answer → Spells (first ∷ words) answer
numbers_spell first words answer e = elim (chosen (bytes_eq first (codes "is")) _ _ (Some answer) e) [
  | inl is ↦ named (codes "is") first words answer is.0 (found_spells words answer is.1)
  | inr other ↦ elim (chosen (bytes_eq first (codes "ok")) _ _ (Some answer) other.1) [
    | inl ok ↦ named (codes "ok") first words answer ok.0 (done_spells words answer ok.1)
    | inr next ↦ elim (chosen (bytes_eq first (codes "no")) _ _ (Some answer) next.1) [
      | inl refused ↦ named (codes "no") first words answer refused.0 (refused_spells words answer refused.1)
      | inr last ↦ elim (chosen (bytes_eq first (codes "stat")) _ _ (Some answer) last.1) [
        | inl stat ↦ named (codes "stat") first words answer stat.0 (counted_spells words answer stat.1)
        | inr other ↦ (let nothing : None ≡ Some answer = other.1 in cc)
      ]
    ]
  ]
]

pub answer_in_spells : (words : List (List ℕ)) (answer : Answer) → answer_in words ≡ Some answer → Spells words answer
answer_in_spells [] answer e = cc
answer_in_spells (first ∷ words) answer e = elim (chosen (bytes_eq first (codes "text")) _ _ (Some answer) e) [
  | inl text ↦ named (codes "text") first words answer text.0 (text_spells words answer text.1)
  | inr other ↦ elim (chosen (bytes_eq first (codes "names")) _ _ (Some answer) other.1) [
    | inl names ↦ named (codes "names") first words answer names.0 (names_spells words answer names.1)
    | inr numbers ↦ numbers_spell first words answer numbers.1
  ]
]

pub point_in_spells : (word : List ℕ) (at : ℕ) → point_in word ≡ Some at → (at < 2 ^ 64) × (64 ∷ decimal at ≡ word)
point_in_spells [] at e = cc
point_in_spells (b ∷ digits) at e = elim (chosen (b == 64) (number_in digits) None (Some at) e) [
  | inl sign ↦ (let number = number_in_spells digits at sign.1 in
      (number.0, ap (λ ds. 64 ∷ ds) number.1 ∙ ap (λ n. n ∷ digits) (sym ((Decides-eqb b 64).0 sign.0))))
  | inr other ↦ cc
]
