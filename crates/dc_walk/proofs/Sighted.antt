-- What a finder over rows knows after a look at a row.
use Rattle.std.proofs.Common.{◌≡◌, ℕ, ◌+◌, ◌<◌, ◌≤◌, ◌/◌, List, [], ◌∷◌, ◌++◌, Option, Some, if◌then◌else◌, length, map, get_or, drop, refl, ap, sym, ◌∙◌, subst, arith, length-append}
use Rattle.std.proofs.lemmas.List.{append-nil, append_assoc, map-append}
use Rattle.std.specs.List.{Contains}
use Rattle.std.proofs.lemmas.List.Elements.{Contains-append_left}
use Rattle.dc_plain.specs.Facts.{Key, Teller, key_of}
use Rattle.dc_plain.specs.Resolution.{Outcome}
use Rattle.dc_row.specs.Decoding.{SpelledIsRead}
use Rattle.dc_row.specs.Narrow.{told_words, RowsEndInZeros}
use Rattle.dc_row.specs.Spelling.{Spells, TellsOf}
use Rattle.dc_index.specs.Slots.{key_hash}
use Rattle.dc_resolve.specs.Needs.{IsNeeded, IsUntold}
use Rattle.dc_events.specs.Views.{View, Fault}
use Rattle.dc_events.specs.Views.Fault.{Busy}
use Rattle.dc_events.specs.Effects.{faulted}
use Rattle.dc_names.specs.declared.limits.TheConstants.{BUCKET_ROWS, ROW_WORDS, MOST_USED}
use Rattle.dc_walk.specs.Looks.{look_shown, outcome_of}
use Rattle.dc_walk.specs.Probes.{probed, fresh_note, note_of, seen_whole, ReadsWhole}
use Rattle.dc_walk.specs.Uses.{Use, facts_of}
use Rattle.dc_walk.specs.Asking.{IsWalk, IsOther, GoesOn, SameWalk}
use Rattle.dc_walk.specs.Finds.{fact_shown, use_shown, told_in, AllSpelled, AllInside, AllHeld, StandsAt}
use Rattle.dc_walk.specs.Findings.{SameRows, IsFinding, CanWalk, now_in, uses_in, outcome_in, request_in, said_in, spent}
use Rattle.dc_walk.specs.Sights.{Fails, Answers}
use Rattle.dc_walk.specs.declared.filter.KeyFilter.{KeyFilter}
use Rattle.dc_walk.specs.declared.rows.Rows.{Rows}
use Rattle.dc_walk.specs.Rooms.{Used, HasPlace}
use Rattle.dc_walk.specs.Seeks.{LooksOn, MaySeek}
use Rattle.dc_walk.specs.Filters.{MayHold}
use Rattle.dc_walk.specs.Becomings.{same_again, untried_again}
use Rattle.dc_walk.proofs.Told.{needed_same, new_same}
use Rattle.dc_walk.proofs.Walked.{rested, passed, stumbled, answered, last_noted, last_fault, other_still}
use Rattle.dc_walk.proofs.Seats.{same_pass, fits_still, untried_still}
use Rattle.dc_walk.proofs.Probed.{count_first, rest_size}
use Rattle.dc_walk.proofs.Rooms.{key_size, kept_so, place_still}
use Rattle.dc_walk.proofs.Standing.{shown_so, spelled_more, inside_more, held_more, stands_last}
use Rattle.dc_table.specs.Shares.{Share}
use Rattle.dc_table.specs.Holders.{table_of}
use Rattle.dc_table.specs.Passes.{Pass, share, IsSamePass, IsIdle, StaysOut}
use Rattle.dc_table.specs.declared.shared.Shared.{Shared}

pub outcome_same : {f g : Rows} → SameRows f g → outcome_in g ≡ outcome_in f
outcome_same s = λ i. outcome_of (s.look i)

pub request_same : {f g : Rows} → SameRows f g → request_in g ≡ request_in f
request_same s = λ i. look_shown (s.look i)

same_walk : (v : View) → SameWalk v v
same_walk v = record { call = refl; book = refl; first_load = refl }

pub on_odd : {v w : View} (row : ℕ) → w ≡ faulted v (Busy row) → GoesOn v w
on_odd {v = v} row e = subst (GoesOn v) (sym e) (record {
  notes = [];
  noted = sym (append-nil v.walk.notes);
  more = Busy row ∷ [];
  faults = refl;
  same = record { call = refl; book = refl; first_load = refl };
})

pub can_still : {t u : Shared} {p q : Pass} → u ≡ t → IsSamePass p q → IsIdle q → CanWalk t p → CanWalk u q
can_still {p = p} {q = q} e same idle c = subst (λ x. CanWalk x q) (sym e) (record {
  fits = fits_still c.fits same;
  idle = idle;
  some_bucket = subst (λ (x : Share). 0 < x.rows / BUCKET_ROWS) (sym same.same_share) c.some_bucket;
})

pub same_step : {f g : Rows} → g.reader ≡ f.reader → g.pass.ghost_name ≡ f.pass.ghost_name → g.used.ghost_name ≡ f.used.ghost_name → g.look ≡ f.look → g.brief ≡ f.brief → IsSamePass f.pass.now g.pass.now → SameRows f g
same_step reader pass used look brief same = record { reader = reader; pass = pass; used = used; look = look; brief = brief; same_pass = same }

module _ {f g : Rows} where
  pub finds_on : (v : View) (us : List Use) (k : ℕ) → SameRows f g → CanWalk (table_of g.reader) g.pass.now → AllSpelled g.used.now.items → AllInside (share g.pass.now).rows g.used.now.items → AllHeld g.filter g.used.now.items → length g.used.now.items ≤ MOST_USED → now_in g ≡ v → IsWalk (outcome_in f) v us (spent g + k) → uses_in g ≡ us → g.made ≡ length v.walk.notes → v.walk.call ≡ request_in f → IsFinding g k
  finds_on v us k s can spelled inside held few now w uses made call = record {
    can = can;
    walk = subst (λ (z : (Teller → Option Outcome) × View × List Use). IsWalk z.0 z.1 z.2 (spent g + k)) (λ i. (sym (outcome_same s) i, sym now i, sym uses i)) w;
    made = made ∙ ap (λ (z : View). length z.walk.notes) (sym now);
    call = ap (λ (z : View). z.walk.call) now ∙ call ∙ sym (request_same s);
    spelled = spelled;
    inside = inside;
    held = held;
    few = few;
  }

  module _ {k : ℕ} (s : SameRows f g) (is : IsFinding f k) where
    pub inside_still : g.used.now.items ≡ f.used.now.items → AllInside (share g.pass.now).rows g.used.now.items
    inside_still used = subst (λ (z : Share × List Used). AllInside z.0.rows z.1) (λ i. (sym s.same_pass.same_share i, sym used i)) is.inside

    pub held_still : g.used.now.items ≡ f.used.now.items → g.filter ≡ f.filter → AllHeld g.filter g.used.now.items
    held_still used filter = subst (λ (z : KeyFilter × List Used). AllHeld z.0 z.1) (λ i. (sym filter i, sym used i)) is.held

    pub few_still : g.used.now.items ≡ f.used.now.items → length g.used.now.items ≤ MOST_USED
    few_still used = subst (λ (us : List Used). length us ≤ MOST_USED) (sym used) is.few

  -- a row was looked at
  module _ (row : ℕ) (key : Key) (e k : ℕ) (s : SameRows f g) (out : StaysOut f.pass.now g.pass.now) (slow : g.slow ≡ f.slow) (is : IsFinding f (e + k)) where
    can : CanWalk (table_of g.reader) g.pass.now
    can = can_still (ap (λ r. table_of r) s.reader) out.same out.idle is.can

    -- as many rows were spent as before
    spent_same : spent g ≡ spent f
    spent_same = ap (λ b. if b then BUCKET_ROWS else 0) slow

    one_look : {v : View} {us : List Use} → IsWalk (outcome_in f) v us (spent f + (e + k) + 1) → IsWalk (outcome_in f) v us (spent g + (e + (k + 1)))
    one_look w = rested (spent g + (e + (k + 1))) (let same = spent_same in omega arith) w

    -- nothing was used
    fails_so : (v : View) → now_in g ≡ v → IsWalk (outcome_in f) v (uses_in f) (spent f + (e + k) + 1) → v.walk.call ≡ request_in f → g.made ≡ length v.walk.notes → g.used.now.items ≡ f.used.now.items → g.used.now.spent ≡ f.used.now.spent → g.filter ≡ f.filter → Fails f key g (e + (k + 1))
    fails_so v now w call made used taken filter = record {
      finding = finds_on v (uses_in f) (e + (k + 1)) s can (subst AllSpelled (sym used) is.spelled) (inside_still s is used) (held_still s is used filter) (few_still s is used) now (one_look w) (ap (map use_shown) used) made call;
      used = used;
      spent = taken;
    }

    pub failed_odd : g.made ≡ f.made → now_in g ≡ faulted (now_in f) (Busy row) → g.used.now.items ≡ f.used.now.items → g.used.now.spent ≡ f.used.now.spent → g.filter ≡ f.filter → Fails f key g (e + (k + 1)) × Contains (now_in g).faults (Busy row)
    failed_odd made now used taken filter = (
      fails_so (faulted (now_in f) (Busy row)) now (stumbled row is.walk) is.call (made ∙ is.made) used taken filter,
      subst (λ (z : View). Contains z.faults (Busy row)) (sym now) (last_fault (now_in f).faults (Busy row)),
    )

    made_so : (count : ℕ) (words : List ℕ) → g.made ≡ f.made + 1 → g.made ≡ length ((now_in f).walk.notes ++ fresh_note row count words ∷ [])
    made_so count words made =
        let size : length ((now_in f).walk.notes ++ fresh_note row count words ∷ []) ≡ length (now_in f).walk.notes + 1 = length-append (now_in f).walk.notes (fresh_note row count words ∷ []) in
        let many = is.made in omega arith

    pub failed_read : (count : ℕ) (words : List ℕ) → length words + 1 ≤ ROW_WORDS → g.made ≡ f.made + 1 → now_in g ≡ probed (now_in f) row count words → g.used.now.items ≡ f.used.now.items → g.used.now.spent ≡ f.used.now.spent → g.filter ≡ f.filter → Fails f key g (e + (k + 1))
    failed_read count words few made now used taken filter = fails_so (probed (now_in f) row count words) now (passed row count words few is.walk) is.call (made_so count words made) used taken filter

    module _ (words : List ℕ) where
      abbrev new : Used
      new = record { row = row; place = f.made; words = words }

      -- it tells of the key, and was used
      pub took : SpelledIsRead → RowsEndInZeros → length words ≡ ROW_WORDS → g.made ≡ f.made + 1 → now_in g ≡ seen_whole (now_in f) row words → (tells : TellsOf words key) → (at : ℕ) → at ≡ length f.used.now.items
          → g.used.now.items ≡ f.used.now.items ++ new ∷ [] → g.used.now.spent ≡ f.used.now.spent + told_words words → row < (share f.pass.now).rows → ((h : ℕ) → MayHold f.filter h → MayHold g.filter h) → MayHold g.filter (key_hash key)
          → k < BUCKET_ROWS → HasPlace f.used.now key.label → IsNeeded (outcome_in f) (said_in f) key.number key.label → IsUntold (said_in f) key.number key.label → Answers f key g row e at
      took read zeros size made now tells at last items taken inside kept held early place need none =
          let shown = shown_so read words tells.fact tells.spelled in
          let about : key_of (fact_shown new) ≡ key = ap key_of shown ∙ tells.about in
          let spells : Spells words (Some (fact_shown new)) = subst (λ fact. Spells words (Some fact)) (sym shown) tells.spelled in
          let said : Spells (get_or words 0 0 ∷ drop 1 words) (Some (fact_shown new)) = subst (λ (ws : List ℕ). Spells ws (Some (fact_shown new))) (sym (count_first words size)) spells in
          let all : uses_in g ≡ uses_in f ++ use_shown new ∷ [] = ap (map use_shown) items ∙ map-append use_shown f.used.now.items (new ∷ []) in
          let room = place.some in let more = length-append f.used.now.items (new ∷ []) in record {
            finding = finds_on (seen_whole (now_in f) row words) (uses_in f ++ use_shown new ∷ []) e s can
                (subst AllSpelled (sym items) (spelled_more f.used.now.items new is.spelled spells))
                (subst (λ (z : Share × List Used). AllInside z.0.rows z.1) (λ i. (sym s.same_pass.same_share i, sym items i)) (inside_more (share f.pass.now).rows f.used.now.items new is.inside inside))
                (subst (AllHeld g.filter) (sym items) (held_more f.filter g.filter f.used.now.items new is.held kept (subst (λ (x : Key). MayHold g.filter (key_hash x)) (sym about) held)))
                (subst (λ (us : List Used). length us ≤ MOST_USED) (sym items) (omega arith)) now
                (answered (use_shown new) (drop 1 words) (spent g + e) is.walk (let same = spent_same in omega arith) is.made said
                (needed_same (outcome_in f) key (facts_of (uses_in f)) (fact_shown new) about need) (new_same key (said_in f) (fact_shown new) about none))
                all (made_so (get_or words 0 0) (drop 1 words) made) is.call;
            standing = subst (λ (z : List Used × ℕ). StandsAt z.0 key z.1) (λ i. (sym items i, sym last i)) (stands_last f.used.now.items new key tells.fact shown tells.about tells.spelled none);
            use_of = use_shown new;
            uses = all;
            of_row = refl;
            keeps = kept_so f.used.now g.used.now key (told_words words) (key_size zeros key tells) (ap (λ (us : List Used). length us) items ∙ more) taken;
          }

-- a row that was read whole and doesn't tell of the key
pub other_so : {v w : View} (row : ℕ) (words : List ℕ) (key : Key) → ReadsWhole v w row words → (TellsOf words key → ⊥) → IsOther w row key
other_so {v = v} row words key whole other = subst (λ (z : View). IsOther z row key) (sym whole.read) (record {
  note = note_of row words;
  noted = last_noted v.walk.notes (note_of row words);
  is_of = refl;
  whole = rest_size words whole.size;
  other = λ tells. other (subst (λ (ws : List ℕ). TellsOf ws key) (count_first words whole.size) tells);
})

pub on_still : {v : View} → GoesOn v v
on_still {v = v} = record { notes = []; noted = sym (append-nil v.walk.notes); more = []; faults = sym (append-nil v.faults); same = same_walk v }

pub on_again : {u v w : View} → GoesOn u v → GoesOn v w → GoesOn u w
on_again {u = u} a b = record {
  notes = a.notes ++ b.notes;
  noted = b.noted ∙ ap (λ xs. xs ++ b.notes) a.noted ∙ append_assoc u.walk.notes a.notes b.notes;
  more = a.more ++ b.more;
  faults = b.faults ∙ ap (λ xs. xs ++ b.more) a.faults ∙ append_assoc u.faults a.more b.more;
  same = record { call = b.same.call ∙ a.same.call; book = b.same.book ∙ a.same.book; first_load = b.same.first_load ∙ a.same.first_load };
}

pub other_on : {v w : View} {row : ℕ} {key : Key} → GoesOn v w → IsOther v row key → IsOther w row key
other_on {w = w} on o = other_still on.notes w on.noted o

pub fault_on : {v w : View} {fault : Fault} → GoesOn v w → Contains v.faults fault → Contains w.faults fault
fault_on {v = v} {fault = fault} on c = subst (λ (xs : List Fault). Contains xs fault) (sym on.faults) (Contains-append_left v.faults on.more fault c)

pub same_still : (f : Rows) → SameRows f f
same_still f = record { reader = refl; pass = refl; used = refl; look = refl; brief = refl; same_pass = same_pass f.pass.now }

pub looks_still : (f : Rows) → LooksOn f f
looks_still f = record { same = same_still f; untried = untried_still; on = on_still }

pub looks_again : {f g h : Rows} → LooksOn f g → LooksOn g h → LooksOn f h
looks_again a b = record { same = same_again a.same b.same; untried = untried_again a.untried b.untried; on = on_again a.on b.on }

-- what is asked is asked still
module _ {f g : Rows} (s : SameRows f g) (used : g.used.now.items ≡ f.used.now.items) (key : Key) where
  pub needed_still : IsNeeded (outcome_in f) (said_in f) key.number key.label → IsNeeded (outcome_in g) (said_in g) key.number key.label
  needed_still = subst (λ (z : (Teller → Option Outcome) × Teller). IsNeeded z.0 z.1 key.number key.label) (λ i. (sym (outcome_same s) i, told_in (sym used i)))

  pub untold_still : IsUntold (said_in f) key.number key.label → IsUntold (said_in g) key.number key.label
  untold_still = subst (λ us. IsUntold (told_in us) key.number key.label) (sym used)

  pub seek_still : {j : ℕ} (k : ℕ) → g.used.now.spent ≡ f.used.now.spent → IsFinding g k → MaySeek f key j → MaySeek g key k
  seek_still k spent is may = record { finding = is; place = place_still used spent may.place; needed = needed_still may.needed; untold = untold_still may.untold }
