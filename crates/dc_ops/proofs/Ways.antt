-- Where names lead from the root, and that a look-up by their path goes there.
use Rattle.std.proofs.Common.{◌≡◌, ◌≢◌, ℕ, zero, suc, ◌+◌, ◌≤◌, ◌<◌, ◌==◌, ◌&&◌, ◌||◌, not, List, [], ◌∷◌, ◌++◌, length, map, Bool, true, false, cond, Option, Some, None, option_map, IsTrue, refl, ap, sym, ◌∙◌, append_assoc, subst, arith}
use Rattle.dc_names.specs.declared.kind.Kind.TheVariants.{Dir}
use Rattle.dc_names.specs.declared.refusal.Refusal.TheVariants.{NotDirectory, TooManyLinks}
use Rattle.dc_names.specs.declared.limits.TheConstants.{MOST_LINKS, PATH_MAX}
use Rattle.dc_names.specs.Bytes.{is_empty}
use Rattle.dc_names.specs.Paths.{Part, begins_with_slash, path_in, has_end_slash}
use Rattle.dc_names.specs.Paths.Part.{Name}
use Rattle.dc_plain.specs.declared.call.Follow.{Follow}
use Rattle.dc_plain.specs.Facts.{Target}
use Rattle.dc_plain.specs.Facts.Label.{Entry, Parent}
use Rattle.dc_plain.specs.LivingLaws.{AltersDecides}
use Rattle.dc_plain.specs.Places.{walk, with_start}
use Rattle.dc_plain.specs.Reads.{look}
use Rattle.dc_plain.specs.Requests.Request.{Look}
use Rattle.dc_plain.specs.Requests.Answer.{Found as FoundAnswer}
use Rattle.dc_plain.specs.Resolution.{Outcome, keeps_link, met_by, over_parts, resolve, root, wants_directory, with_met, with_text}
use Rattle.dc_plain.specs.Resolution.Outcome.{Found, Refused}
use Rattle.dc_plain.specs.Trees.{Tree, entry_of, text_of, told_of}
use Rattle.dc_ops.specs.Plans.{Declines}
use Rattle.dc_ops.specs.Whereabouts.{FindsBy, IsPathOf, LeadTo, path_by, spelled}
use Rattle.dc_ops.proofs.Alters.{reads_so}
use Rattle.dc_ops.proofs.Looks.{looks}
use Rattle.dc_ops.proofs.SpelledNames.{AreNames, no_fault, parts_spelled}

and_false : (b : Bool) → (b && false) ≡ false
and_false true = refl
and_false false = refl

or_true : (b : Bool) → (b || true) ≡ true
or_true true = refl
or_true false = refl

module _ (t : Tree) (how : Follow) (follow_link : Target → ℕ → List Part → Bool → Option Outcome) (slash : Bool) where
  -- over the names one goes on from directory to directory
  over_names : (d n : ℕ) (names : List (List ℕ)) → LeadTo t d names n → over_parts (told_of t) how follow_link (d, Dir) (map Name names) slash ≡ Some (Found (n, Dir))
  over_names d n [] is = ap (λ (b : Bool). Some (cond b (Refused NotDirectory) (Found (d, Dir)))) (and_false (slash || wants_directory how)) ∙ ap (λ (k : ℕ). Some (Found (k, Dir))) is
  over_names d n (name ∷ names) (e, found, rest) =
      ap (λ (o : Option Target). with_met (met_by (Some o)) (λ next. over_parts (told_of t) how follow_link next (map Name names) slash)
      (λ link. cond (is_empty (map Name names) && not slash && keeps_link how) (Some (Found link)) (follow_link (d, Dir) link.0 (map Name names) slash))) found
      ∙ over_names e n names rest

module _ (t : Tree) (how : Follow) (slash : Bool) (n : ℕ) (names : List (List ℕ)) (leads : LeadTo t 1 names n) where
  resolved : (left : ℕ) → resolve (told_of t) how left root (map Name names) slash ≡ Some (Found (n, Dir))
  unfolding resolve
  resolved zero = over_names t how (λ place link rest ends. Some (Refused TooManyLinks)) slash 1 n names leads
  resolved (suc left) = over_names t how (λ place link rest ends. with_text (text_of t link) (λ text.
      let path = path_in text in
      resolve (told_of t) how left (cond path.absolute root place) (path.parts ++ rest) (ends || is_empty rest && path.slash))) slash 1 n names leads

walked : (t : Tree) (how : Follow) (n : ℕ) (names : List (List ℕ)) → AreNames names → LeadTo t 1 names n → walk (told_of t) 1 (path_in (path_by names)) how ≡ Some (Found (n, Dir))
walked t how n names all leads =
    ap (λ b. with_start (cond b (Some (Some root)) (Some (option_map (λ (up : Target). (1, Dir)) (entry_of t 1 Parent)))) (λ place. resolve (told_of t) how MOST_LINKS place (path_in (path_by names)).parts (path_in (path_by names)).slash)) (or_true (begins_with_slash (path_by names)))
    ∙ ap (λ (parts : List Part). resolve (told_of t) how MOST_LINKS root parts (has_end_slash (path_by names))) (parts_spelled names all)
    ∙ resolved t how (has_end_slash (path_by names)) n names leads MOST_LINKS

-- a look-up of a directory's path finds it
pub finds : AltersDecides → (t : Tree) (n : ℕ) (path : List ℕ) → IsPathOf t n path → length path ≤ PATH_MAX → FindsBy t n path
finds decides t n path is within limit how =
    subst (λ (bytes : List ℕ). Declines limit t (Look 1 bytes how) (FoundAnswer n Dir)) (sym is.bytes)
    (let fits : length (path_by is.names) ≤ PATH_MAX = subst (λ (bytes : List ℕ). length bytes ≤ PATH_MAX) is.bytes within in
    reads_so decides limit t (Look 1 (path_by is.names) how) (look t 1 (path_by is.names) how) (FoundAnswer n Dir) refl
    (sym (looks t 1 (path_by is.names) how (Found (n, Dir)) (no_fault is.names is.named fits) (walked t how n is.names is.named is.leads))))
