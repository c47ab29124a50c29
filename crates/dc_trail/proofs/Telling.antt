-- What is told of some directories alone, if more is told, or of more directories.
use Rattle.std.proofs.Common.{◌≡◌, ℕ, List, [], ◌∷◌, ◌++◌, true, false, cond, Option, Some, None, IsTrue, refl, ap, sym, subst, ◌∙◌}
use Rattle.std.proofs.lemmas.List.{append_assoc, append-nil}
use Rattle.dc_names.specs.Paths.{Part}
use Rattle.dc_names.specs.Paths.Part.{Name, Dot, DotDot}
use Rattle.dc_plain.specs.Facts.{Label, Target, Teller}
use Rattle.dc_plain.specs.Facts.Label.{Entry, Parent}
use Rattle.dc_plain.specs.Tellers.{Extends}
use Rattle.dc_resolve.specs.Asked.{is_asked, label_of}
use Rattle.dc_resolve.specs.Needs.{IsNeeded, IsUntold}
use Rattle.dc_trail.specs.Keeping.{entered, tells_itself}
use Rattle.dc_trail.specs.Parts.{within, IsSilentOf, NeedsDir, NeedsInTurn}
use Rattle.dc_trail.specs.Questions.{is_among}
use Rattle.dc_trail.proofs.Among.{among_entered, among_more}

pub told_after : {a b c : Teller} → Extends a b → Extends b c → Extends a c
told_after p q = record {
  entry = λ d label found told. q.entry d label found (p.entry d label found told);
  text = λ n bytes told. q.text n bytes (p.text n bytes told);
}

pub within_later : (dirs : List ℕ) {s t : Teller} → Extends s t → Extends (within dirs s) (within dirs t)
within_later dirs {s = s} {t = t} more = record {
  entry = λ d label found told. elim (is_among dirs d) as (λ b. cond b (s.entry d label) None ≡ Some found → cond b (t.entry d label) None ≡ Some found) [
    | true ↦ λ h. more.entry d label found h
    | false ↦ λ h. h
  ] told;
  text = λ n bytes told. more.text n bytes told;
}

within_last : (dirs : List ℕ) (d : ℕ) (t : Teller) → Extends (within dirs t) (within (dirs ++ d ∷ []) t)
within_last dirs d t = record {
  entry = λ e label found told. elim (is_among dirs e) as (λ b. is_among dirs e ≡ b → cond b (t.entry e label) None ≡ Some found → cond (is_among (dirs ++ d ∷ []) e) (t.entry e label) None ≡ Some found) [
    | true ↦ λ is h. ap (λ b. cond b (t.entry e label) None) (among_more dirs d e is) ∙ h
    | false ↦ λ is h. cc
  ] refl told;
  text = λ n bytes told. told;
}

within_entered : (dirs : List ℕ) (d : ℕ) (t : Teller) → Extends (within dirs t) (within (entered dirs d) t)
within_entered dirs d t = elim (is_among dirs d) as (λ b. Extends (within dirs t) (within (cond b dirs (dirs ++ d ∷ [])) t)) [
  | true ↦ tells_itself (within dirs t)
  | false ↦ within_last dirs d t
]

pub within_on : (dirs : List ℕ) (d : ℕ) {s t : Teller} → Extends s t → Extends (within dirs s) (within (entered dirs d) t)
within_on dirs d {t = t} more = told_after (within_later dirs more) (within_entered dirs d t)

pub within_less : (dirs : List ℕ) (t : Teller) → Extends (within dirs t) t
within_less dirs t = record {
  entry = λ d label found told. elim (is_among dirs d) as (λ b. cond b (t.entry d label) None ≡ Some found → t.entry d label ≡ Some found) [
    | true ↦ λ h. h
    | false ↦ λ h. cc
  ] told;
  text = λ n bytes told. told;
}

-- what was asked in a directory is told, as that was entered
pub told_there : (dirs : List ℕ) (d : ℕ) (t : Teller) (label : Label) {found : Option Target} → t.entry d label ≡ Some found → (within (entered dirs d) t).entry d label ≡ Some found
told_there dirs d t label told = ap (λ b. cond b (t.entry d label) None) (among_entered dirs d) ∙ told

silent_untold : (other : Teller) (d : ℕ) (part : Part) → IsTrue (is_asked d part) → IsSilentOf other d → IsUntold other d (label_of part)
silent_untold other d (Name name) asked silent = silent (Entry name)
silent_untold other d Dot asked silent = absurd cc
silent_untold other d DotDot asked silent = silent Parent

pub needs_dir : {A : Type 0} (outcome : Teller → Option A) (said : Teller) (d : ℕ) (part : Part) → IsTrue (is_asked d part) → IsNeeded outcome said d (label_of part) → NeedsDir outcome said d
needs_dir outcome said d part asked need = λ other told silent. need other told (silent_untold other d part asked silent)

module _ {A : Type 0} (outcome : Teller → Option A) where
  pub turn_later : (s t : Teller) → Extends s t → (seen dirs : List ℕ) → NeedsInTurn outcome s seen dirs → NeedsInTurn outcome t seen dirs
  turn_later s t more seen [] n = tt
  turn_later s t more seen (d ∷ dirs) n = (
    n.0,
    λ other told silent. n.1 other (told_after (within_later seen more) told) silent,
    turn_later s t more (seen ++ d ∷ []) dirs n.2,
  )

  pub turn_push : (t : Teller) (seen dirs : List ℕ) (d : ℕ) → NeedsInTurn outcome t seen dirs → is_among (seen ++ dirs) d ≡ false → NeedsDir outcome (within (seen ++ dirs) t) d → NeedsInTurn outcome t seen (dirs ++ d ∷ [])
  turn_push t seen [] d n new last = (
    ap (λ s. is_among s d) (sym (append-nil seen)) ∙ new,
    subst (λ s. NeedsDir outcome (within s t) d) (append-nil seen) last,
    tt,
  )
  turn_push t seen (e ∷ dirs) d n new last = (
    n.0,
    n.1,
    turn_push t (seen ++ e ∷ []) dirs d n.2 (ap (λ s. is_among s d) (append_assoc seen (e ∷ []) dirs) ∙ new) (subst (λ s. NeedsDir outcome (within s t) d) (sym (append_assoc seen (e ∷ []) dirs)) last),
  )

  -- a directory is entered as it is asked in
  pub turn_on : (s t : Teller) (dirs : List ℕ) (d : ℕ) (part : Part) → Extends s t → IsTrue (is_asked d part) → IsNeeded outcome (within dirs s) d (label_of part) → NeedsInTurn outcome s [] dirs → NeedsInTurn outcome t [] (entered dirs d)
  turn_on s t dirs d part more asked need n = elim (is_among dirs d) as (λ b. is_among dirs d ≡ b → NeedsInTurn outcome t [] (cond b dirs (dirs ++ d ∷ []))) [
    | true ↦ λ is. turn_later s t more [] dirs n
    | false ↦ λ is. turn_later s t more [] (dirs ++ d ∷ []) (turn_push s [] dirs d n is (needs_dir outcome (within dirs s) d part asked need))
  ] refl
