-- One fact more, and what follows from facts.
use Rattle.std.proofs.Common.{◌≡◌, ℕ, ◌==◌, ◌&&◌, ◌+◌, ◌<◌, ◌⊎◌, inl, inr, List, [], ◌∷◌, ◌++◌, Bool, true, false, cond, Option, Some, None, option_map, length, take, get_or, subst, refl, ap, sym, ◌∙◌, arith, length-append}
use Rattle.std.proofs.lemmas.Bool.Decides.{nat_tests}
use Rattle.std.proofs.lemmas.List.{get_or_append_left, take-append-le}
use Rattle.std.proofs.Math.Seq.{take-append_seam}
use Rattle.std.proofs.lemmas.Slice.Eq.{bytes_eq-Decides}
use Rattle.dc_names.specs.Paths.{fault_of, path_in}
use Rattle.dc_plain.specs.Facts.{Fact, Key, Label, Target, Teller, key_of, told_by, same_label, entry_told, text_told}
use Rattle.dc_plain.specs.Facts.Label.{Entry, Parent, Text}
use Rattle.dc_plain.specs.Facts.Fact.{Leads, Reads}
use Rattle.dc_plain.specs.declared.call.Follow.{Follow}
use Rattle.dc_plain.specs.Resolution.{Outcome}
use Rattle.dc_plain.specs.Places.{walk}
use Rattle.dc_plain.specs.Requests.Request.{Look}
use Rattle.dc_plain.specs.Tellers.{Extends}
use Rattle.dc_plain.specs.FactLaws.{outcome_answer, answer_told}
use Rattle.dc_resolve.specs.Needs.{IsNeeded, IsUntold}
use Rattle.dc_row.specs.Spelling.{has_spelling}
use Rattle.dc_walk.specs.Finds.{IsTold}
use Rattle.dc_walk.specs.Uses.{NeedsEach, NeedsNext, DiffersEach, IsNew}

pub same_test : (n : ℕ) → (n == n) ≡ true
same_test n = grind (arith, nat_tests)

pub same_itself : (label : Label) → same_label label label ≡ true
same_itself (Entry name) = (bytes_eq-Decides name name).1 refl
same_itself Parent = refl
same_itself Text = refl

still : {X : Type 0} (b : Bool) (target found : X) (rest more : Option X) → (rest ≡ Some found → more ≡ Some found) → cond b (Some target) rest ≡ Some found → cond b (Some target) more ≡ Some found
still true target found rest more so e = e
still false target found rest more so e = so e

entry_more : (facts : List Fact) (fact : Fact) (d : ℕ) (label : Label) (found : Option Target) → entry_told facts d label ≡ Some found → entry_told (facts ++ fact ∷ []) d label ≡ Some found
entry_more [] fact d label found e = absurd cc
entry_more (Leads k l target ∷ facts) fact d label found e = still (k == d && same_label l label) target found _ _ (entry_more facts fact d label found) e
entry_more (Reads n bytes ∷ facts) fact d label found e = entry_more facts fact d label found e

text_more : (facts : List Fact) (fact : Fact) (n : ℕ) (found : List ℕ) → text_told facts n ≡ Some found → text_told (facts ++ fact ∷ []) n ≡ Some found
text_more [] fact n found e = absurd cc
text_more (Leads k l target ∷ facts) fact n found e = text_more facts fact n found e
text_more (Reads m bytes ∷ facts) fact n found e = still (m == n) bytes found _ _ (text_more facts fact n found) e

pub told_more : (facts : List Fact) (fact : Fact) → Extends (told_by facts) (told_by (facts ++ fact ∷ []))
told_more facts fact = record { entry = entry_more facts fact; text = text_more facts fact }

pub told_itself : (teller : Teller) → Extends teller teller
told_itself teller = record { entry = λ d label found told. told; text = λ n bytes told. told }

only : {X : Type 0} (b : Bool) (target found : X) (rest more : Option X) → (rest ≡ None → more ≡ Some found) → cond b (Some target) rest ≡ None → cond b (Some target) more ≡ Some found
only true target found rest more so e = absurd cc
only false target found rest more so e = so e

entry_last : (facts : List Fact) (d : ℕ) (label : Label) (target : Option Target) → entry_told facts d label ≡ None → entry_told (facts ++ Leads d label target ∷ []) d label ≡ Some target
entry_last [] d label target e = rw (same_test d, same_itself label) refl
entry_last (Leads k l other ∷ facts) d label target e = only (k == d && same_label l label) other target _ _ (entry_last facts d label target) e
entry_last (Reads n bytes ∷ facts) d label target e = entry_last facts d label target e

text_last : (facts : List Fact) (n : ℕ) (text : List ℕ) → text_told facts n ≡ None → text_told (facts ++ Reads n text ∷ []) n ≡ Some text
text_last [] n text e = rw same_test refl
text_last (Leads k l other ∷ facts) n text e = text_last facts n text e
text_last (Reads m bytes ∷ facts) n text e = only (m == n) bytes text _ _ (text_last facts n text) e

-- of a key that wasn't told of, the last fact counts
pub told_last : (facts : List Fact) (fact : Fact) → has_spelling (Some fact) ≡ true → IsNew (told_by facts) fact → IsTold (told_by (facts ++ fact ∷ [])) fact
told_last facts (Leads d (Entry name) target) can new = entry_last facts d (Entry name) target new
told_last facts (Leads d Parent target) can new = entry_last facts d Parent target new
told_last facts (Leads d Text target) can new = absurd cc
told_last facts (Reads n text) can new = text_last facts n text new

-- the answer to a look-up whose path has no fault
pub answer_is : (teller : Teller) (base : ℕ) (text : List ℕ) (how : Follow) → fault_of text ≡ None → answer_told teller (Look base text how) ≡ option_map outcome_answer (walk teller base (path_in text) how)
answer_is teller base text how e = rw (e, answer_told) refl

last_or : (i n : ℕ) → i < n + 1 → (i < n) ⊎ (i ≡ n)
last_or i n l = grind arith

last_got : (facts : List Fact) (fact d : Fact) → get_or (facts ++ fact ∷ []) (length facts) d ≡ fact
last_got [] fact d = refl
last_got (f ∷ facts) fact d = last_got facts fact d

-- what holds of each fact, after those before it, holds with one fact more
each_more : (P : List Fact → Fact → Type 0) (facts : List Fact) (fact : Fact) → ((i : ℕ) → i < length facts → P (take i facts) (get_or facts i (Reads 0 []))) → P facts fact
    → (i : ℕ) → i < length (facts ++ fact ∷ []) → P (take i (facts ++ fact ∷ [])) (get_or (facts ++ fact ∷ []) i (Reads 0 []))
each_more P facts fact each now i l =
    let size : length (facts ++ fact ∷ []) ≡ length facts + 1 = length-append facts (fact ∷ []) in
    elim (last_or i (length facts) (omega arith)) [
      | inl less ↦ subst (λ (z : List Fact × Fact). P z.0 z.1) (λ j. (sym (take-append-le i facts (fact ∷ []) (omega arith)) j, sym (get_or_append_left facts (fact ∷ []) (Reads 0 []) i less) j)) (each i less)
      | inr is ↦ subst (λ (z : List Fact × Fact). P z.0 z.1)
          (λ j. (sym (ap (λ (n : ℕ). take n (facts ++ fact ∷ [])) is ∙ take-append_seam facts (fact ∷ [])) j, sym (ap (λ (n : ℕ). get_or (facts ++ fact ∷ []) n (Reads 0 [])) is ∙ last_got facts fact (Reads 0 [])) j)) now
    ]

pub needs_more : (outcome : Teller → Option Outcome) (facts : List Fact) (fact : Fact) → NeedsEach outcome facts → NeedsNext outcome facts fact → NeedsEach outcome (facts ++ fact ∷ [])
needs_more outcome facts fact each now = each_more (NeedsNext outcome) facts fact each now

pub differs_more : (facts : List Fact) (fact : Fact) → DiffersEach facts → IsNew (told_by facts) fact → DiffersEach (facts ++ fact ∷ [])
differs_more facts fact each now = each_more (λ before f. IsNew (told_by before) f) facts fact each now

-- before each of them there is no outcome
pub none_before : (outcome : Teller → Option Outcome) (facts : List Fact) → NeedsEach outcome facts → DiffersEach facts → (i : ℕ) → i < length facts → outcome (told_by (take i facts)) ≡ None
none_before outcome facts needs differs i l = needs i l (told_by (take i facts)) (told_itself (told_by (take i facts))) (differs i l)

pub new_same : (key : Key) (teller : Teller) (fact : Fact) → key_of fact ≡ key → IsUntold teller key.number key.label → IsNew teller fact
new_same key teller fact is none = subst (λ (k : Key). IsUntold teller k.number k.label) (sym is) none

pub needed_same : (outcome : Teller → Option Outcome) (key : Key) (facts : List Fact) (fact : Fact) → key_of fact ≡ key → IsNeeded outcome (told_by facts) key.number key.label → NeedsNext outcome facts fact
needed_same outcome key facts fact is need = subst (λ (k : Key). IsNeeded outcome (told_by facts) k.number k.label) (sym is) need
