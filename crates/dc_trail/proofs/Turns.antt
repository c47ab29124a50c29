-- The directories that an outcome needs in turn are the trail.
use Rattle.std.proofs.Common.{◌≡◌, ℕ, ◌<◌, List, [], ◌∷◌, ◌++◌, ◌==◌, true, false, cond, Option, Some, None, length, refl, ap, sym, subst, ◌∙◌, arith}
use Rattle.std.proofs.lemmas.List.{append_assoc, append-nil, length-append}
use Rattle.dc_names.specs.Paths.{Path}
use Rattle.dc_plain.specs.declared.call.Follow.{Follow}
use Rattle.dc_plain.specs.Facts.{Label, Teller}
use Rattle.dc_plain.specs.Places.{walk}
use Rattle.dc_plain.specs.Resolution.{Outcome}
use Rattle.dc_plain.specs.Tellers.{Extends}
use Rattle.dc_trail.specs.Parts.{within, IsSilentOf, NeedsDir, NeedsInTurn}
use Rattle.dc_trail.specs.Questions.{asked_in, firsts, is_among, trail_of}
use Rattle.dc_trail.proofs.Among.{decided, first_new, firsts_none, firsts_some, same_test}
use Rattle.dc_trail.proofs.Resolving.{walk_hangs, Agrees, Hangs}
use Rattle.dc_trail.proofs.Telling.{turn_push}

-- one who tells that each name is missing, but for what is told of the directories that were seen, and nothing of one more
abbrev elsewhere_missing : List ℕ → ℕ → Teller → Teller
elsewhere_missing seen d teller = record { entry = λ e label. cond (is_among seen e) (teller.entry e label) (cond (e == d) None (Some None)); text = teller.text }

nothing_ends : {o : Option Outcome} {end : Outcome} → o ≡ None → o ≡ Some end → ⊥
nothing_ends none some = cc

module _ (base : ℕ) (path : Path) (how : Follow) (teller : Teller) where
  abbrev outcome : Teller → Option Outcome
  outcome t = walk t base path how

  abbrev asked : List ℕ
  asked = asked_in teller base path how

  missing_agrees : (seen : List ℕ) (d : ℕ) → Agrees seen teller (elsewhere_missing seen d teller)
  missing_agrees seen d = record {
    entry = λ e label there. ap (λ b. cond b (teller.entry e label) (cond (e == d) None (Some None))) there;
    text = λ n. refl;
  }

  missing_extends : (seen : List ℕ) (d : ℕ) → Extends (within seen teller) (elsewhere_missing seen d teller)
  missing_extends seen d = record {
    entry = λ e label found told. elim (is_among seen e) as (λ b. cond b (teller.entry e label) None ≡ Some found → cond b (teller.entry e label) (cond (e == d) None (Some None)) ≡ Some found) [
      | true ↦ λ h. h
      | false ↦ λ h. cc
    ] told;
    text = λ n bytes told. told;
  }

  missing_silent : (seen : List ℕ) (d : ℕ) → is_among seen d ≡ false → IsSilentOf (elsewhere_missing seen d teller) d
  missing_silent seen d new label = ap (λ b. cond b (teller.entry d label) (cond (d == d) None (Some None))) new ∙ ap (λ b. cond b None (Some None)) (same_test d)

  missing_there : (seen : List ℕ) (d e : ℕ) (label : Label) → is_among seen e ≡ false → (e == d) ≡ false → (elsewhere_missing seen d teller).entry e label ≡ Some None
  missing_there seen d e label new other = ap (λ b. cond b (teller.entry e label) (cond (e == d) None (Some None))) new ∙ ap (λ b. cond b None (Some None)) other

  -- what is needed next is asked next
  asked_next : (seen : List ℕ) (d : ℕ) {end : Outcome} → outcome teller ≡ Some end → is_among seen d ≡ false → NeedsDir outcome (within seen teller) d → first_new seen asked ≡ Some d
  asked_next seen d ends new need = by_first (first_new seen asked) (walk_hangs seen teller (elsewhere_missing seen d teller) (missing_agrees seen d) how base path)
    where
      none : outcome (elsewhere_missing seen d teller) ≡ None
      none = need (elsewhere_missing seen d teller) (missing_extends seen d) (missing_silent seen d new)

      by_first : (first : Option ℕ) → Hangs seen (elsewhere_missing seen d teller) first (outcome (elsewhere_missing seen d teller)) (outcome teller) → first ≡ Some d
      by_first None hangs = absurd (nothing_ends none (hangs ∙ ends))
      by_first (Some e) hangs = elim (e == d) as (λ b. (e == d) ≡ b → Some e ≡ Some d) [
        | true ↦ λ is. ap Some (decided e d is)
        | false ↦ λ is. absurd (nothing_ends none (hangs.3 (missing_there seen d e hangs.0 hangs.1 is)))
      ] refl

  turn_firsts : (seen dirs : List ℕ) {end : Outcome} → outcome teller ≡ Some end → NeedsInTurn outcome teller seen dirs → firsts seen asked ≡ dirs ++ firsts (seen ++ dirs) asked
  turn_firsts seen [] ends n = ap (λ s. firsts s asked) (sym (append-nil seen))
  turn_firsts seen (d ∷ dirs) ends n =
      firsts_some seen asked d (asked_next seen d ends n.0 n.1)
      ∙ ap (λ xs. d ∷ xs) (turn_firsts (seen ++ d ∷ []) dirs ends n.2 ∙ ap (λ s. dirs ++ firsts s asked) (append_assoc seen (d ∷ []) dirs))

  within_agrees : (dirs : List ℕ) → Agrees dirs teller (within dirs teller)
  within_agrees dirs = record {
    entry = λ d label there. ap (λ b. cond b (teller.entry d label) None) there;
    text = λ n. refl;
  }

  -- what needs no directory more asks in no other
  asked_no_more : (dirs : List ℕ) {end : Outcome} → outcome (within dirs teller) ≡ Some end → first_new dirs asked ≡ None
  asked_no_more dirs ends = by_first (first_new dirs asked) (walk_hangs dirs teller (within dirs teller) (within_agrees dirs) how base path)
    where
      by_first : (first : Option ℕ) → Hangs dirs (within dirs teller) first (outcome (within dirs teller)) (outcome teller) → first ≡ None
      by_first None hangs = refl
      by_first (Some d) hangs = absurd (nothing_ends (hangs.2 (ap (λ b. cond b (teller.entry d hangs.0) None) hangs.1)) ends)

  pub trail_is : (dirs : List ℕ) {end : Outcome} → outcome teller ≡ Some end → outcome (within dirs teller) ≡ Some end → NeedsInTurn outcome teller [] dirs → trail_of teller base path how ≡ dirs
  trail_is dirs ends within_ends n = turn_firsts [] dirs ends n ∙ ap (λ xs. dirs ++ xs) (firsts_none dirs asked (asked_no_more dirs within_ends)) ∙ append-nil dirs

  pub trail_is_longer : (dirs : List ℕ) (d : ℕ) {end : Outcome} → outcome teller ≡ Some end → NeedsInTurn outcome teller [] dirs → is_among dirs d ≡ false → NeedsDir outcome (within dirs teller) d → length dirs < length (trail_of teller base path how)
  trail_is_longer dirs d ends n new need =
      let longer : trail_of teller base path how ≡ (dirs ++ d ∷ []) ++ firsts (dirs ++ d ∷ []) asked = turn_firsts [] (dirs ++ d ∷ []) ends (turn_push outcome teller [] dirs d n new need) in
      subst (λ xs. length dirs < length xs) (sym longer) (omega (arith, length-append (dirs ++ d ∷ []) (firsts (dirs ++ d ∷ []) asked), length-append dirs (d ∷ [])))
