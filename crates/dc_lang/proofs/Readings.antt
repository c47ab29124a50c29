-- Lines that are read, and the first that isn't.
use Rattle.std.proofs.Common.{ℕ, ◌+◌, ◌<◌, List, [], ◌∷◌, ◌++◌, take, drop, length, get_or, map, append_assoc, ap, sym, subst, ◌∙◌, arith}
use Rattle.std.proofs.lemmas.List.{get_or-map, length-map, length-take-le, take-append-drop, take_more}
use Rattle.std.specs.Borrow.{Bor}
use Rattle.dc_lang.specs.declared.fault.InputFault.{InputFault}
use Rattle.dc_lang.specs.declared.fault.InputFault.TheVariants.{BadLine, NoMemory}
use Rattle.dc_lang.specs.Inputs.{AllRead, IsLineFault, IsLinesFault}

module _ {A : Type 0} (Reads : List ℕ → A → Type 0) where
  one_more : (lines : List (List ℕ)) (said : List A) (line : List ℕ) (one : A) → AllRead Reads lines said → Reads line one → AllRead Reads (lines ++ line ∷ []) (said ++ one ∷ [])
  one_more [] [] line one all says = (says, tt)
  one_more [] (other ∷ said) line one all says = absurd all
  one_more (other ∷ lines) [] line one all says = absurd all
  one_more (other ∷ lines) (first ∷ said) line one all says = (all.0, one_more lines said line one all.1 says)

  next_one : (lines : List (List ℕ)) (i : ℕ) (said : List A) (one : A) → i < length lines → AllRead Reads (take i lines) said → Reads (get_or lines i []) one → AllRead Reads (take (i + 1) lines) (said ++ one ∷ [])
  next_one lines i said one within all says =
      rw (take_more lines i [] within) (one_more (take i lines) said (get_or lines i []) one all says)

  next_is_bad : (lines : List (List ℕ)) (i : ℕ) (said : List A) (fault : InputFault) → i < length lines → AllRead Reads (take i lines) said → IsLineFault Reads (i + 1) (get_or lines i []) fault → IsLinesFault Reads lines fault
  next_is_bad lines i said (BadLine n) within all is = record {
    before = take i lines;
    line = get_or lines i [];
    after = drop (i + 1) lines;
    said = said;
    cut = sym (take-append-drop (i + 1) lines) ∙ ap (λ (front : List (List ℕ)). front ++ drop (i + 1) lines) (take_more lines i [] within) ∙ append_assoc (take i lines) (get_or lines i [] ∷ []) (drop (i + 1) lines);
    number = is.0 ∙ ap (λ k. k + 1) (sym (length-take-le i lines (omega arith)));
    good = all;
    bad = is.1;
  }
  next_is_bad lines i said NoMemory within all is = tt

  -- and so for lines that are borrowed
  pub next_read : (lines : List (Bor (List ℕ))) (i : ℕ) (other : Bor (List ℕ)) (said : List A) (one : A) → i < length lines
      → AllRead Reads (take i (map (λ line. line.now) lines)) said → Reads (get_or lines i other).now one → AllRead Reads (take (i + 1) (map (λ line. line.now) lines)) (said ++ one ∷ [])
  next_read lines i other said one within all says =
      next_one (map (λ line. line.now) lines) i said one (subst (λ (n : ℕ). i < n) (sym (length-map lines (λ line. line.now))) within) all (rw (get_or-map (λ (line : Bor (List ℕ)). line.now) lines i other [] within) says)

  pub next_refused : (lines : List (Bor (List ℕ))) (i : ℕ) (other : Bor (List ℕ)) (said : List A) (fault : InputFault) → i < length lines
      → AllRead Reads (take i (map (λ line. line.now) lines)) said → IsLineFault Reads (i + 1) (get_or lines i other).now fault → IsLinesFault Reads (map (λ line. line.now) lines) fault
  next_refused lines i other said fault within all is =
      next_is_bad (map (λ line. line.now) lines) i said fault (subst (λ (n : ℕ). i < n) (sym (length-map lines (λ line. line.now))) within) all (rw (get_or-map (λ (line : Bor (List ℕ)). line.now) lines i other [] within) is)
