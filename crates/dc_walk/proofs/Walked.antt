-- The state of a walk, step by step.
use Rattle.std.proofs.Common.{◌≡◌, ℕ, ◌+◌, ◌<◌, ◌≤◌, List, [], ◌∷◌, ◌++◌, Option, Some, length, refl, sym, subst, arith, length-append}
use Rattle.std.specs.List.{Contains}
use Rattle.std.proofs.lemmas.List.{map-append}
use Rattle.std.proofs.lemmas.List.Elements.{Contains-append_left, Contains-append_right}
use Rattle.dc_plain.specs.Facts.{Key, Teller, told_by}
use Rattle.dc_plain.specs.Resolution.{Outcome}
use Rattle.dc_row.specs.Spelling.{Spells}
use Rattle.dc_events.specs.Views.{View, Note, Fault}
use Rattle.dc_events.specs.Views.Fault.{Busy}
use Rattle.dc_events.specs.Effects.{faulted}
use Rattle.dc_names.specs.declared.limits.TheConstants.{BUCKET_ROWS, ROW_WORDS}
use Rattle.dc_walk.specs.Probes.{probed, fresh_note}
use Rattle.dc_walk.specs.Uses.{Use, IsNew, facts_of, NeedsEach, NeedsNext, DiffersEach}
use Rattle.dc_walk.specs.Asking.{IsWalk, IsOther}
use Rattle.dc_walk.proofs.Marks.{more_unused, more_used}
use Rattle.dc_walk.proofs.Told.{needs_more, differs_more}

module _ {outcome : Teller → Option Outcome} {v : View} {us : List Use} {k : ℕ} where
  -- a row that tells of another key
  pub passed : (row count : ℕ) (words : List ℕ) → length words + 1 ≤ ROW_WORDS → IsWalk outcome v us k → IsWalk outcome (probed v row count words) us (k + 1)
  passed row count words whole w =
      let few = w.few in let loads = w.loads in
      let size : length (v.walk.notes ++ fresh_note row count words ∷ []) ≡ length v.walk.notes + 1 = length-append v.walk.notes (fresh_note row count words ∷ []) in record {
        busy = w.busy;
        early = w.early;
        used = record { marked = more_unused 0 v.walk.notes us (fresh_note row count words) w.used.marked refl; needed = w.used.needed; distinct = w.used.distinct };
        few = omega arith;
        loads = omega arith;
      }

  -- a row that is odd
  pub stumbled : (row : ℕ) → IsWalk outcome v us k → IsWalk outcome (faulted v (Busy row)) us (k + 1)
  stumbled row w = let few = w.few in let loads = w.loads in record { busy = w.busy; early = w.early; used = w.used; few = omega arith; loads = omega arith }

  -- a row that answers, before which m more rows were looked at than those of a bucket
  pub answered : (u : Use) (words : List ℕ) (m : ℕ) → IsWalk outcome v us k → k < BUCKET_ROWS + m → u.place ≡ length v.walk.notes → Spells (u.count ∷ words) (Some u.fact) → NeedsNext outcome (facts_of us) u.fact → IsNew (told_by (facts_of us)) u.fact
      → IsWalk outcome (probed v u.row u.count words) (us ++ u ∷ []) m
  answered u words m w early at spells need new =
      let few = w.few in let loads = w.loads in
      let x = fresh_note u.row u.count words in let whole = spells.size in
      let size : length (v.walk.notes ++ x ∷ []) ≡ length v.walk.notes + 1 = length-append v.walk.notes (x ∷ []) in
      let placed : u.place ≡ 0 + length v.walk.notes = omega arith in
      let many : length (us ++ u ∷ []) ≡ length us + 1 = length-append us (u ∷ []) in record {
        busy = w.busy;
        early = w.early;
        used = record {
          marked = more_used 0 v.walk.notes us x u w.used.marked (record { at = placed; row = refl; count = refl; spells = spells }) refl;
          needed = subst (NeedsEach outcome) (sym (map-append (λ u. u.fact) us (u ∷ []))) (needs_more outcome (facts_of us) u.fact w.used.needed need);
          distinct = subst DiffersEach (sym (map-append (λ u. u.fact) us (u ∷ []))) (differs_more (facts_of us) u.fact w.used.distinct new);
        };
        few = omega arith;
        loads = omega arith;
      }

  -- looking no further
  pub rested : (n : ℕ) → k ≤ n → IsWalk outcome v us k → IsWalk outcome v us n
  rested n l w = let few = w.few in let loads = w.loads in record { busy = w.busy; early = w.early; used = w.used; few = omega arith; loads = omega arith }

-- what a row told stays noted
pub other_still : {v : View} {row : ℕ} {key : Key} (more : List Note) (w : View) → w.walk.notes ≡ v.walk.notes ++ more → IsOther v row key → IsOther w row key
other_still {v = v} more w is o = record {
  note = o.note;
  noted = subst (λ notes. Contains notes o.note) (sym is) (Contains-append_left v.walk.notes more o.note o.noted);
  is_of = o.is_of;
  whole = o.whole;
  other = o.other;
}

pub last_noted : (xs : List Note) (x : Note) → Contains (xs ++ x ∷ []) x
last_noted xs x = Contains-append_right xs (x ∷ []) x (0, omega arith, refl)

pub last_fault : (xs : List Fault) (x : Fault) → Contains (xs ++ x ∷ []) x
last_fault xs x = Contains-append_right xs (x ∷ []) x (0, omega arith, refl)
