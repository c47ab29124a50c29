-- An answer from true facts.
use Rattle.std.proofs.Common.{◌≡◌, ℕ, ◌==◌, ◌&&◌, List, [], ◌∷◌, Bool, true, false, cond, Option, Some, None, Ok, Err, Result, option_map, refl, ap, sym, ◌∙◌}
use Rattle.std.specs.List.{AllByRecursion}
use Rattle.std.proofs.lemmas.Slice.Eq.{bytes_eq-Decides}
use Rattle.dc_names.specs.Paths.{path_of, Path}
use Rattle.dc_names.specs.Refusals.{refusal_number, refusal_of}
use Rattle.dc_names.specs.declared.fault.TextFault.{TextFault}
use Rattle.dc_plain.specs.Facts.{Fact, Label, Target, told_by, same_label, entry_told, text_told}
use Rattle.dc_plain.specs.Facts.Label.{Entry, Parent, Text}
use Rattle.dc_plain.specs.Facts.Fact.{Leads, Reads}
use Rattle.dc_plain.specs.declared.call.Follow.{Follow}
use Rattle.dc_plain.specs.Resolution.{Outcome, settled_walk}
use Rattle.dc_plain.specs.Resolution.Outcome.{Found as Ends, Refused as Fails}
use Rattle.dc_plain.specs.Places.{walk}
use Rattle.dc_plain.specs.Refusals.{◌>>=◌, ended}
use Rattle.dc_plain.specs.Trees.{Tree, Holds, entry_of, text_of, told_of}
use Rattle.dc_plain.specs.Tellers.{Extends}
use Rattle.dc_plain.specs.Operations.{left_alone, settled, operation}
use Rattle.dc_plain.specs.Requests.{Answer}
use Rattle.dc_plain.specs.Requests.Request.{Look, Readlink, Stat, List_names, Mkdir, Create, Hard_link, Symlink, Unlink, Rmdir, Rename}
use Rattle.dc_plain.specs.Requests.Answer.{Found, Refused}
use Rattle.dc_plain.proofs.Later.{walk-stays}
use Rattle.dc_plain.proofs.Holders.{decided}
use Rattle.dc_plain.specs.FactLaws.{outcome_answer, answer_told, RepliesByFacts}

label-same : (a b : Label) → same_label a b ≡ true → a ≡ b
label-same (Entry a) (Entry b) e = ap Entry ((bytes_eq-Decides a b).0 e)
label-same (Entry a) Parent e = absurd cc
label-same (Entry a) Text e = absurd cc
label-same Parent (Entry b) e = absurd cc
label-same Parent Parent e = refl
label-same Parent Text e = absurd cc
label-same Text (Entry b) e = absurd cc
label-same Text Parent e = absurd cc
label-same Text Text e = refl

both : (a b : Bool) → (a && b) ≡ true → (a ≡ true) × (b ≡ true)
both true b e = (refl, e)
both false b e = absurd cc

holds-entry : (t : Tree) (d : ℕ) (label : Label) (target : Option Target) → Holds t (Leads d label target) → entry_of t d label ≡ target
holds-entry t d (Entry name) target h = h
holds-entry t d Parent target h = h
holds-entry t d Text target h = absurd h

-- the first fact of a key, or a later one
first-told : {X : Type 0} (now target found : X) (rest : Option X) (b : Bool) → (b ≡ true → now ≡ target) → (rest ≡ Some found → Some now ≡ Some found) → cond b (Some target) rest ≡ Some found → Some now ≡ Some found
first-told now target found rest true is later e = ap Some (is refl) ∙ e
first-told now target found rest false is later e = later e

entry-true : (t : Tree) (facts : List Fact) → AllByRecursion (Holds t) facts → (d : ℕ) (label : Label) (found : Option Target) → entry_told facts d label ≡ Some found → Some (entry_of t d label) ≡ Some found
entry-true t [] all d label found e = absurd cc
entry-true t (Leads k l target ∷ facts) all d label found e =
    first-told (entry_of t d label) target found (entry_told facts d label) (k == d && same_label l label)
    (λ same. let keys = both (k == d) (same_label l label) same in
    (λ i. entry_of t (sym (decided k d keys.0) i) (sym (label-same l label keys.1) i)) ∙ holds-entry t k l target all.0)
    (entry-true t facts all.1 d label found) e
entry-true t (Reads n bytes ∷ facts) all d label found e = entry-true t facts all.1 d label found e

first-text : (now : Option (List ℕ)) (bytes found : List ℕ) (rest : Option (List ℕ)) (b : Bool) → (b ≡ true → now ≡ Some bytes) → (rest ≡ Some found → now ≡ Some found) → cond b (Some bytes) rest ≡ Some found → now ≡ Some found
first-text now bytes found rest true is later e = is refl ∙ e
first-text now bytes found rest false is later e = later e

text-true : (t : Tree) (facts : List Fact) → AllByRecursion (Holds t) facts → (n : ℕ) (found : List ℕ) → text_told facts n ≡ Some found → text_of t n ≡ Some found
text-true t [] all n found e = absurd cc
text-true t (Leads k l target ∷ facts) all n found e = text-true t facts all.1 n found e
text-true t (Reads m bytes ∷ facts) all n found e =
    first-text (text_of t n) bytes found (text_told facts n) (m == n) (λ same. ap (text_of t) (sym (decided m n same)) ∙ all.0) (text-true t facts all.1 n found) e

-- a tree tells all facts that are true in it
pub told-extends : (t : Tree) (facts : List Fact) → AllByRecursion (Holds t) facts → Extends (told_by facts) (told_of t)
told-extends t facts all = record { entry = entry-true t facts all; text = text-true t facts all }

ends-so : (t : Tree) (outcome : Outcome) → settled t (left_alone t (ended outcome >>= λ place. Ok (Found place.0 place.1))) ≡ (outcome_answer outcome, t)
ends-so t (Ends place) = refl
ends-so t (Fails refusal) = refl

look-so : (limit : ℕ) (t : Tree) (facts : List Fact) (base : ℕ) (text : List ℕ) (how : Follow) (answer : Answer) → AllByRecursion (Holds t) facts → answer_told (told_by facts) (Look base text how) ≡ Some answer → operation limit t (Look base text how) ≡ (answer, t)
look-so limit t facts base text how answer all = by_path (path_of text)
  where
    by_outcome : (path : Path) (o : Option Outcome) → walk (told_by facts) base path how ≡ o → option_map outcome_answer o ≡ Some answer
        → settled t (left_alone t (ended (settled_walk (walk (told_of t) base path how)) >>= λ place. Ok (Found place.0 place.1))) ≡ (answer, t)
    by_outcome path None is e = absurd cc
    by_outcome path (Some outcome) is e =
        let same : outcome_answer outcome ≡ answer = cc in
        ap (λ o. settled t (left_alone t (ended (settled_walk o) >>= λ place. Ok (Found place.0 place.1)))) (walk-stays (told_by facts) (told_of t) (told-extends t facts all) base path how outcome is)
        ∙ ends-so t outcome ∙ ap (λ a. (a, t)) same

    by_path : (r : Result Path TextFault) → elim r [ Ok path ↦ option_map outcome_answer (walk (told_by facts) base path how) | Err fault ↦ Some (Refused (refusal_number (refusal_of fault))) ] ≡ Some answer
        → settled t (left_alone t ((elim r [ Ok path ↦ Ok path | Err fault ↦ Err (refusal_of fault) ] >>= λ path. ended (settled_walk (walk (told_of t) base path how))) >>= λ place. Ok (Found place.0 place.1))) ≡ (answer, t)
    by_path (Ok path) e = by_outcome path (walk (told_by facts) base path how) refl e
    by_path (Err fault) e = let same : Refused (refusal_number (refusal_of fault)) ≡ answer = cc in ap (λ a. (a, t)) same

pub replies-by-facts : RepliesByFacts
replies-by-facts limit t facts (Look base path how) answer all e = look-so limit t facts base path how answer all e
replies-by-facts limit t facts (Readlink base path) answer all e = absurd cc
replies-by-facts limit t facts (Stat base path) answer all e = absurd cc
replies-by-facts limit t facts (List_names base path) answer all e = absurd cc
replies-by-facts limit t facts (Mkdir base path) answer all e = absurd cc
replies-by-facts limit t facts (Create base path) answer all e = absurd cc
replies-by-facts limit t facts (Hard_link base old new) answer all e = absurd cc
replies-by-facts limit t facts (Symlink base text path) answer all e = absurd cc
replies-by-facts limit t facts (Unlink base path) answer all e = absurd cc
replies-by-facts limit t facts (Rmdir base path) answer all e = absurd cc
replies-by-facts limit t facts (Rename base old new flags) answer all e = absurd cc
