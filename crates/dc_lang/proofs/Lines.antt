-- What a line means is what reading computes, and nothing else.
use Rattle.std.proofs.Common.{◌≡◌, ℕ, ◌==◌, ◌||◌, Bool, true, false, List, [], ◌∷◌, Option, Some, None, Result, Ok, Err, IfOk, IsErrOf, IsTrue, option_map, map, length, refl, sym, ap, ◌∙◌, inl, inr, cond, codes, subst, find}
use Rattle.std.specs.Fmt.{decimal}
use Rattle.std.specs.List.{list_any}
use Rattle.std.specs.Str.{bytes_eq}
use Rattle.std.proofs.lemmas.Bool.Decides.{Decides-eqb}
use Rattle.std.proofs.lemmas.List.Splits.{join_with_byte-slice_split}
use Rattle.std.proofs.lemmas.Slice.Eq.{bytes_eq-Decides}
use Rattle.std.proofs.lemmas.List.{length-map}
use Rattle.dc_lang.specs.declared.line.Line.{Line}
use Rattle.dc_lang.specs.declared.line.LineFault.{LineFault}
use Rattle.dc_lang.specs.declared.line.LineFault.TheVariants.{Bad, NoMemory}
use Rattle.dc_lang.specs.declared.line.Verb.{Verb}
use Rattle.dc_lang.specs.declared.line.Verb.TheVariants as verbs
use Rattle.dc_lang.specs.Words.{spelled, spaced}
use Rattle.dc_lang.specs.Commands.{Order, IsOrder, Meaning, Means, verb_text, word_count, flags_stand, line_text, meaning_of}
use Rattle.dc_lang.specs.Commands.Meaning.{Sync, Orders}
use Rattle.dc_lang.specs.Reading.{session_in, all_verbs, verb_in, words_in, flagged, counted_words, ◌>>=◌, order_in, parts, meaning_in, Reads}
use Rattle.dc_lang.proofs.Words.{chosen, words_in-spelled, words_in_spells}
use Rattle.dc_lang.proofs.Parts.{HasNoSpace, all_spelled, parts-spaced}
use Rattle.dc_lang.proofs.Sessions.{session_in-decimal, session_in_spells, HasNoSpace-session}

-- the words of a command's line
abbrev pub order_words : Order → List (List ℕ)
order_words order = decimal order.session ∷ verb_text order.verb ∷ map spelled order.words

verb_in-verb_text : (verb : Verb) → verb_in (verb_text verb) ≡ Some verb
unfolding verb_in
verb_in-verb_text verbs.Look = refl
verb_in-verb_text verbs.Llook = refl
verb_in-verb_text verbs.Cd = refl
verb_in-verb_text verbs.Readlink = refl
verb_in-verb_text verbs.Stat = refl
verb_in-verb_text verbs.List = refl
verb_in-verb_text verbs.Mkdir = refl
verb_in-verb_text verbs.Create = refl
verb_in-verb_text verbs.Link = refl
verb_in-verb_text verbs.Symlink = refl
verb_in-verb_text verbs.Unlink = refl
verb_in-verb_text verbs.Rmdir = refl
verb_in-verb_text verbs.Rename = refl
verb_in-verb_text verbs.Rename2 = refl

neither : (a b : Bool) → (a || b) ≡ false → (a ≡ false) × (b ≡ false)
neither true b e = cc
neither false b e = (refl, e)

pub no_space_tested : (text : List ℕ) → list_any (λ b. b == 32) text ≡ false → HasNoSpace text
no_space_tested [] e = tt
no_space_tested (b ∷ text) e =
    let each = neither (b == 32) (list_any (λ c. c == 32) text) e in
    (each.0, no_space_tested text each.1)

HasNoSpace-verb_text : (verb : Verb) → HasNoSpace (verb_text verb)
HasNoSpace-verb_text verbs.Look = no_space_tested (codes "look") refl
HasNoSpace-verb_text verbs.Llook = no_space_tested (codes "llook") refl
HasNoSpace-verb_text verbs.Cd = no_space_tested (codes "cd") refl
HasNoSpace-verb_text verbs.Readlink = no_space_tested (codes "readlink") refl
HasNoSpace-verb_text verbs.Stat = no_space_tested (codes "stat") refl
HasNoSpace-verb_text verbs.List = no_space_tested (codes "list") refl
HasNoSpace-verb_text verbs.Mkdir = no_space_tested (codes "mkdir") refl
HasNoSpace-verb_text verbs.Create = no_space_tested (codes "create") refl
HasNoSpace-verb_text verbs.Link = no_space_tested (codes "link") refl
HasNoSpace-verb_text verbs.Symlink = no_space_tested (codes "symlink") refl
HasNoSpace-verb_text verbs.Unlink = no_space_tested (codes "unlink") refl
HasNoSpace-verb_text verbs.Rmdir = no_space_tested (codes "rmdir") refl
HasNoSpace-verb_text verbs.Rename = no_space_tested (codes "rename") refl
HasNoSpace-verb_text verbs.Rename2 = no_space_tested (codes "rename2") refl

pub found_passes : {A : Type 0} (p : A → Bool) (xs : List A) (x : A) → find p xs ≡ Some x → p x ≡ true
found_passes p [] x e = cc
found_passes p (y ∷ ys) x e = elim (chosen (p y) (Some y) (find p ys) (Some x) e) [
  | inl here ↦ let same : y ≡ x = cc in subst (λ z. p z ≡ true) same here.0
  | inr later ↦ found_passes p ys x later.1
]

verb_in_spells : (text : List ℕ) (verb : Verb) → verb_in text ≡ Some verb → verb_text verb ≡ text
unfolding verb_in
verb_in_spells text verb e = (bytes_eq-Decides (verb_text verb) text).0 (found_passes (λ v. bytes_eq (verb_text v) text) all_verbs verb e)

pub bind_at : {A B : Type 0} (found : Option A) (x : A) (next : A → Option B) (y : Option B) → found ≡ Some x → next x ≡ y → (found >>= next) ≡ y
bind_at found x next y e f = ap (λ o. o >>= next) e ∙ f

pub bind_some : {A B : Type 0} (found : Option A) (next : A → Option B) (y : B) → (found >>= next) ≡ Some y → (x : A) × (found ≡ Some x) × (next x ≡ Some y)
bind_some None next y e = cc
bind_some (Some x) next y e = (x, refl, e)

counted_words_at : (verb : Verb) (words : List (List ℕ)) → length words ≡ word_count verb → IsTrue (flags_stand verb words) → counted_words verb (map spelled words) ≡ Some words
counted_words_at verb words count stand =
    ap (λ test. cond test (words_in (map spelled words) >>= flagged verb) None) ((Decides-eqb (length (map spelled words)) (word_count verb)).1 (length-map words spelled ∙ count))
    ∙ bind_at (words_in (map spelled words)) words (flagged verb) (Some words) (words_in-spelled words) (ap (λ test. cond test (Some words) None) stand)

order_in-order_words : (order : Order) → IsOrder order → order_in (order_words order) ≡ Some order
order_in-order_words order is =
    bind_at _ order.session _ _ (session_in-decimal order.session is.session)
    (bind_at _ order.verb _ _ (verb_in-verb_text order.verb)
    (bind_at _ order.words _ _ (counted_words_at order.verb order.words is.words is.flags) refl))

flagged_is : (verb : Verb) (read words : List (List ℕ)) → flagged verb read ≡ Some words → (read ≡ words) × IsTrue (flags_stand verb words)
flagged_is verb read words e = elim (chosen (flags_stand verb read) (Some read) None (Some words) e) [
  | inl stand ↦ let same : read ≡ words = cc in (same, subst (λ w. IsTrue (flags_stand verb w)) same stand.0)
  | inr other ↦ cc
]

counted_words_spells : (verb : Verb) (texts words : List (List ℕ)) → counted_words verb texts ≡ Some words
    → (length words ≡ word_count verb) × (map spelled words ≡ texts) × IsTrue (flags_stand verb words)
counted_words_spells verb texts words e = elim (chosen (length texts == word_count verb) (words_in texts >>= flagged verb) None (Some words) e) [
  | inl counted ↦
      let read = bind_some (words_in texts) (flagged verb) words counted.1 in
      let stands = flagged_is verb read.0 words read.2 in
      let spells : map spelled words ≡ texts = words_in_spells texts words (read.1 ∙ ap (λ w. Some w) stands.0) in
      (sym (length-map words spelled) ∙ ap length spells ∙ (Decides-eqb (length texts) (word_count verb)).0 counted.0, spells, stands.1)
  | inr other ↦ cc
]

order_fields : (session : Option ℕ) (verb : Option Verb) (words : Verb → Option (List (List ℕ))) (order : Order)
    → (session >>= λ s. verb >>= λ v. words v >>= λ w. Some (record { session = s; verb = v; words = w })) ≡ Some order
    → (session ≡ Some order.session) × (verb ≡ Some order.verb) × (words order.verb ≡ Some order.words)
order_fields None verb words order e = cc
order_fields (Some s) None words order e = cc
order_fields (Some s) (Some v) words order e =
    let w = bind_some (words v) (λ w. Some (record { session = s; verb = v; words = w })) order e in
    let same : record { session = s; verb = v; words = w.0 } ≡ order = cc in
    (ap (λ o. Some o.session) same, ap (λ o. Some o.verb) same, ap (λ o. words o.verb) (sym same) ∙ w.1 ∙ ap (λ o. Some o.words) same)

order_in_spells : (texts : List (List ℕ)) (order : Order) → order_in texts ≡ Some order → IsOrder order × (order_words order ≡ texts)
order_in_spells [] order e = cc
order_in_spells (session ∷ []) order e = cc
order_in_spells (session ∷ verb ∷ texts) order e =
    let fields = order_fields (session_in session) (verb_in verb) (λ v. counted_words v texts) order e in
    let number = session_in_spells session order.session fields.0 in
    let name = verb_in_spells verb order.verb fields.1 in
    let words = counted_words_spells order.verb texts order.words fields.2 in
    (record { session = number.0; words = words.0; flags = words.2 }, (let spells = words.1 in cc))

parts_order : (order : Order) → IsOrder order → parts (line_text (Orders order)) ≡ order_words order
parts_order order is = parts-spaced (decimal order.session) (verb_text order.verb ∷ map spelled order.words)
    (HasNoSpace-session order.session is.session, (HasNoSpace-verb_text order.verb, all_spelled order.words))

-- a line with a space isn't the word `sync`
no_sync : (line : List ℕ) (a b : List ℕ) (rest : List (List ℕ)) → parts line ≡ a ∷ b ∷ rest → bytes_eq line (codes "sync") ≡ false
no_sync line a b rest e = go (bytes_eq line (codes "sync")) refl
  where
    go : (test : Bool) → bytes_eq line (codes "sync") ≡ test → test ≡ false
    go false same = refl
    go true same =
        let is : line ≡ codes "sync" = (bytes_eq-Decides line (codes "sync")).0 same in
        let one : codes "sync" ∷ [] ≡ a ∷ b ∷ rest = ap parts (sym is) ∙ e in cc

pub meaning_in_from_means : (line : List ℕ) (meaning : Meaning) → Means line meaning → meaning_in line ≡ Some meaning
unfolding meaning_in
meaning_in_from_means line Sync means = ap meaning_in (sym means.text)
meaning_in_from_means line (Orders order) means =
    let cut : parts line ≡ order_words order = ap parts (sym means.text) ∙ parts_order order means.is in
    ap (λ test. cond test (Some Sync) (option_map Orders (order_in (parts line)))) (no_sync line (decimal order.session) (verb_text order.verb) (map spelled order.words) cut)
    ∙ ap (λ texts. option_map Orders (order_in texts)) cut
    ∙ ap (option_map Orders) (order_in-order_words order means.is)

orders_some : (found : Option Order) (meaning : Meaning) → option_map Orders found ≡ Some meaning → (order : Order) × (found ≡ Some order) × (meaning ≡ Orders order)
orders_some None meaning e = cc
orders_some (Some order) meaning e = (order, refl, cc)

means_order : (line : List ℕ) (order : Order) → order_in (parts line) ≡ Some order → Means line (Orders order)
means_order line order e =
    let read = order_in_spells (parts line) order e in
    record { is = read.0; text = ap spaced read.1 ∙ join_with_byte-slice_split 32 line }

pub means_from_meaning_in : (line : List ℕ) (meaning : Meaning) → meaning_in line ≡ Some meaning → Means line meaning
unfolding meaning_in
means_from_meaning_in line meaning e = elim (chosen (bytes_eq line (codes "sync")) (Some Sync) (option_map Orders (order_in (parts line))) (Some meaning) e) [
  | inl sync ↦ (let is : Sync ≡ meaning = cc in
      subst (Means line) is (record { is = tt; text = sym ((bytes_eq-Decides line (codes "sync")).0 sync.0) }))
  | inr other ↦ (let found = orders_some (order_in (parts line)) meaning other.1 in
      subst (Means line) (sym found.2) (means_order line found.0 found.1))
]

pub one_thing : (line : List ℕ) (a b : Meaning) → Means line a → Means line b → a ≡ b
one_thing line a b first second =
    let same : Some a ≡ Some b = sym (meaning_in_from_means line a first) ∙ meaning_in_from_means line b second in cc

-- what is read is what the line means, and a bad line means nothing
pub means_what_is_read : (line : List ℕ) (read : Result Line LineFault) → Reads meaning_of read (meaning_in line) → IfOk read (λ meaning. Means line (meaning_of meaning))
means_what_is_read line (Ok meaning) e = means_from_meaning_in line (meaning_of meaning) e
means_what_is_read line (Err fault) e = tt

pub bad_means_nothing : (line : List ℕ) (read : Result Line LineFault) → Reads meaning_of read (meaning_in line) → IsErrOf read Bad → (meaning : Meaning) → Means line meaning → ⊥
bad_means_nothing line (Ok read) e bad meaning means = cc
bad_means_nothing line (Err Bad) e bad meaning means = let none : None ≡ Some meaning = sym e ∙ meaning_in_from_means line meaning means in cc
bad_means_nothing line (Err NoMemory) e bad meaning means = cc
