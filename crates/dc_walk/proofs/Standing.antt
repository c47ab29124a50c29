-- What the rows that were used tell of a key.
use Rattle.std.proofs.Common.{◌≡◌, ℕ, zero, suc, ◌<◌, ◌==◌, ◌&&◌, List, [], ◌∷◌, ◌++◌, ◌+◌, length, get_or, Bool, true, false, cond, Option, Some, map, refl, ap, sym, ◌∙◌, subst, arith, below_more, length-append}
use Rattle.std.proofs.Math.Seq.{get_or-append_seam}
use Rattle.std.proofs.lemmas.Bool.Decides.{nat_tests}
use Rattle.std.proofs.lemmas.List.{map-append}
use Rattle.std.proofs.lemmas.Slice.Eq.{bytes_eq-Decides}
use Rattle.dc_plain.specs.Facts.{Fact, Key, Label, key_of, told_by, same_label, entry_told, text_told}
use Rattle.dc_plain.specs.Facts.Label.{Entry, Parent, Text}
use Rattle.dc_plain.specs.Facts.Fact.{Leads, Reads}
use Rattle.dc_row.specs.Decoding.{fact_in, SpelledIsRead}
use Rattle.dc_row.specs.Spelling.{Spells, TellsOf}
use Rattle.dc_resolve.specs.Needs.{IsUntold}
use Rattle.dc_walk.specs.Uses.{facts_of}
use Rattle.dc_walk.specs.Finds.{fact_or_none, fact_shown, use_shown, told_in, IsSpelled, AllSpelled, AllInside, AllHeld, IsTold, IsStanding, StandsAt}
use Rattle.dc_walk.specs.Rooms.{no_use, used_at, Used}
use Rattle.dc_index.specs.Slots.{key_hash}
use Rattle.dc_walk.specs.Filters.{MayHold}
use Rattle.dc_walk.specs.declared.filter.KeyFilter.{KeyFilter}
use Rattle.dc_walk.proofs.Told.{same_test, same_itself, told_last, new_same}

pub label-same : (a b : Label) → same_label a b ≡ true → a ≡ b
label-same (Entry a) (Entry b) e = ap Entry ((bytes_eq-Decides a b).0 e)
label-same (Entry a) Parent e = absurd cc
label-same (Entry a) Text e = absurd cc
label-same Parent (Entry b) e = absurd cc
label-same Parent Parent e = refl
label-same Parent Text e = absurd cc
label-same Text (Entry b) e = absurd cc
label-same Text Parent e = absurd cc
label-same Text Text e = refl

pub number-same : (m n : ℕ) → (m == n) ≡ true → m ≡ n
number-same m n e = grind (arith, nat_tests)

both : (a b : Bool) → (a && b) ≡ true → (a ≡ true) × (b ≡ true)
both true b e = (refl, e)
both false b e = absurd cc

-- words that spell a fact are shown as it
pub shown_so : SpelledIsRead → (words : List ℕ) (fact : Fact) → Spells words (Some fact) → fact_or_none (fact_in words) ≡ fact
shown_so read words fact s = ap fact_or_none (read words (Some fact) s)

unless : {X : Type 0} (b : Bool) (target : X) (rest : Option X) → ((b ≡ true) → ⊥) → cond b (Some target) rest ≡ rest
unless true target rest never = absurd (never refl)
unless false target rest never = refl

-- a fact of another key is passed over
entry_past : (fact : Fact) (facts : List Fact) (d : ℕ) (label : Label) → (key_of fact ≡ record { number = d; label = label } → ⊥) → entry_told (fact ∷ facts) d label ≡ entry_told facts d label
entry_past (Leads m l target) facts d label other =
    unless (m == d && same_label l label) target _ (λ e. let is = both (m == d) (same_label l label) e in other (λ i. record { number = number-same m d is.0 i; label = label-same l label is.1 i }))
entry_past (Reads n text) facts d label other = refl

text_past : (fact : Fact) (facts : List Fact) (n : ℕ) → (key_of fact ≡ record { number = n; label = Text } → ⊥) → text_told (fact ∷ facts) n ≡ text_told facts n
text_past (Leads m l target) facts n other = refl
text_past (Reads m text) facts n other = unless (m == n) text _ (λ e. other (λ i. record { number = number-same m n e i; label = Text }))

told_past : (f : Fact) (facts : List Fact) (fact : Fact) → (key_of f ≡ key_of fact → ⊥) → IsTold (told_by facts) fact → IsTold (told_by (f ∷ facts)) fact
told_past f facts (Leads d label target) other told = entry_past f facts d label other ∙ told
told_past f facts (Reads n text) other told = text_past f facts n other ∙ told

untold_past : (f : Fact) (facts : List Fact) (n : ℕ) (label : Label) → (key_of f ≡ record { number = n; label = label } → ⊥) → IsUntold (told_by facts) n label → IsUntold (told_by (f ∷ facts)) n label
untold_past f facts n (Entry name) other none = entry_past f facts n (Entry name) other ∙ none
untold_past f facts n Parent other none = entry_past f facts n Parent other ∙ none
untold_past f facts n Text other none = text_past f facts n other ∙ none

-- the first fact is told
told_first : (fact : Fact) (facts : List Fact) → IsTold (told_by (fact ∷ facts)) fact
told_first (Leads d label target) facts = rw (same_test d, same_itself label) refl
told_first (Reads n text) facts = rw (same_test n) refl

pub spelled_more : (us : List Used) (u : Used) → AllSpelled us → IsSpelled u → AllSpelled (us ++ u ∷ [])
spelled_more [] u all is = (is, tt)
spelled_more (v ∷ us) u all is = (all.0, spelled_more us u all.1 is)

pub inside_more : (rows : ℕ) (us : List Used) (u : Used) → AllInside rows us → u.row < rows → AllInside rows (us ++ u ∷ [])
inside_more rows [] u all is = (is, tt)
inside_more rows (v ∷ us) u all is = (all.0, inside_more rows us u all.1 is)

-- no row up to the i-th tells of the key
abbrev pub AreOthers : List Used → Key → ℕ → Type 0
AreOthers us key i = (j : ℕ) → j < i → TellsOf (get_or us j no_use).words key → ⊥

pub one_other : (us : List Used) (key : Key) (i : ℕ) → AreOthers us key i → (TellsOf (used_at us i).words key → ⊥) → AreOthers us key (i + 1)
one_other us key i others other = below_more (λ j. TellsOf (used_at us j).words key → ⊥) i others other

-- what the first row that tells of a key spells is told
first_told : SpelledIsRead → (us : List Used) (key : Key) (i : ℕ) → i < length us → AllSpelled us → AreOthers us key i → (fact : Fact) → key_of fact ≡ key → Spells (get_or us i no_use).words (Some fact) → IsTold (told_in us) fact
first_told read [] key i l all others fact about s = absurd (omega arith)
first_told read (u ∷ us) key zero l all others fact about s = subst (λ f. IsTold (told_by (f ∷ facts_of (map use_shown us))) fact) (sym (shown_so read u.words fact s)) (told_first fact (facts_of (map use_shown us)))
first_told read (u ∷ us) key (suc i) l all others fact about s =
    told_past (fact_shown u) (facts_of (map use_shown us)) fact (λ same. others 0 (omega arith) (record { fact = fact_shown u; about = same ∙ about; spelled = all.0 }))
    (first_told read us key i (omega arith) all.1 (λ j h. others (suc j) (omega arith)) fact about s)

pub stands_so : SpelledIsRead → (us : List Used) (key : Key) (i : ℕ) → i < length us → AllSpelled us → AreOthers us key i → TellsOf (used_at us i).words key → StandsAt us key i
stands_so read us key i l all others tells = record {
  there = l;
  standing = record { fact = tells.fact; about = tells.about; spelled = tells.spelled; told = first_told read us key i l all others tells.fact tells.about tells.spelled };
}

pub none_stands : (us : List Used) (key : Key) → AllSpelled us → AreOthers us key (length us) → IsUntold (told_in us) key.number key.label
none_stands [] key all others = untold_by_none key.number key.label
  where
    untold_by_none : (n : ℕ) (label : Label) → IsUntold (told_by []) n label
    untold_by_none n (Entry name) = refl
    untold_by_none n Parent = refl
    untold_by_none n Text = refl
none_stands (u ∷ us) key all others =
    untold_past (fact_shown u) (facts_of (map use_shown us)) key.number key.label (λ same. others 0 (omega arith) (record { fact = fact_shown u; about = same; spelled = all.0 }))
    (none_stands us key all.1 (λ j h. others (suc j) (omega arith)))

-- a key that the filter of the rows doesn't hold is told of by none of them
held_at : (filter : KeyFilter) (us : List Used) (j : ℕ) → j < length us → AllHeld filter us → MayHold filter (key_hash (key_of (fact_shown (get_or us j no_use))))
held_at filter [] j l all = absurd (omega arith)
held_at filter (v ∷ us) zero l all = all.0
held_at filter (v ∷ us) (suc j) l all = held_at filter us j (omega arith) all.1

pub none_held : SpelledIsRead → (us : List Used) (key : Key) (filter : KeyFilter) → AllSpelled us → AllHeld filter us → (MayHold filter (key_hash key) → ⊥) → IsUntold (told_in us) key.number key.label
none_held read us key filter all held never = none_stands us key all (λ j l tells.
    never (subst (λ k. MayHold filter (key_hash k)) (ap key_of (shown_so read (get_or us j no_use).words tells.fact tells.spelled) ∙ tells.about) (held_at filter us j l held)))

pub held_more : (filter more : KeyFilter) (us : List Used) (u : Used) → AllHeld filter us → ((h : ℕ) → MayHold filter h → MayHold more h) → MayHold more (key_hash (key_of (fact_shown u))) → AllHeld more (us ++ u ∷ [])
held_more filter more [] u all kept is = (is, tt)
held_more filter more (v ∷ us) u all kept is = (kept _ all.0, held_more filter more us u all.1 kept is)

-- a row that was just used tells of its key
pub stands_last : (us : List Used) (new : Used) (key : Key) (fact : Fact) → fact_shown new ≡ fact → key_of fact ≡ key → Spells new.words (Some fact) → IsUntold (told_in us) key.number key.label → StandsAt (us ++ new ∷ []) key (length us)
stands_last us new key fact shown about spells none =
    let facts : facts_of (map use_shown (us ++ new ∷ [])) ≡ facts_of (map use_shown us) ++ fact ∷ [] =
    ap facts_of (map-append use_shown us (new ∷ [])) ∙ map-append (λ u. u.fact) (map use_shown us) (use_shown new ∷ []) ∙ ap (λ f. facts_of (map use_shown us) ++ f ∷ []) shown in
    let size : length (us ++ new ∷ []) ≡ length us + 1 = length-append us (new ∷ []) in record {
      there = omega arith;
      standing = subst (λ u. IsStanding (us ++ new ∷ []) key u.words) (sym (get_or-append_seam us new [] no_use)) (record {
        fact = fact;
        about = about;
        spelled = spells;
        told = subst (λ fs. IsTold (told_by fs) fact) (sym facts) (told_last (facts_of (map use_shown us)) fact spells.allowed (new_same key (told_in us) fact about none));
      });
    }

pub inside_at : (rows : ℕ) (us : List Used) (i : ℕ) (d : Used) → AllInside rows us → i < length us → (get_or us i d).row < rows
inside_at rows [] i d all l = absurd (omega arith)
inside_at rows (u ∷ us) zero d all l = all.0
inside_at rows (u ∷ us) (suc i) d all l = inside_at rows us i d all.1 (omega arith)
