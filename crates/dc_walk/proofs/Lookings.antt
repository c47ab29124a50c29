-- What the rows of a bucket told so far.
use Rattle.std.proofs.Common.{◌≡◌, ℕ, ◌+◌, ◌≤◌, List, [], ◌∷◌, refl, sym, ◌∙◌, subst, append-nil, Option, Some, None, Result, Ok, Err, IfOk, true, if◌then◌else◌, ap, arith, below_more}
use Rattle.std.specs.List.{Contains}
use Rattle.std.specs.Option.{option_or}
use Rattle.dc_plain.specs.Facts.{Key}
use Rattle.dc_events.specs.Views.{View}
use Rattle.dc_events.specs.Views.Fault.{Busy}
use Rattle.dc_walk.specs.Asking.{IsOther, GoesOn}
use Rattle.dc_walk.specs.Causes.{Looked}
use Rattle.dc_names.specs.declared.limits.TheConstants.{BUCKET_ROWS}
use Rattle.dc_walk.specs.Findings.{now_in, spent, IsFinding, SameRows}
use Rattle.dc_walk.specs.Seeks.{LooksOn}
use Rattle.dc_table.specs.Passes.{StaysOut}
use Rattle.dc_events.specs.Effects.{faulted}
use Rattle.dc_walk.specs.Probes.{fresh_note, probed}
use Rattle.dc_walk.specs.Sights.{AnswersIn}
use Rattle.dc_walk.specs.declared.probe.Extent.{Extent}
use Rattle.dc_walk.specs.declared.probe.Extent.TheVariants.{Head, Whole}
use Rattle.dc_walk.specs.declared.rows.Rows.{Rows}
use Rattle.dc_walk.specs.declared.source.Lane.{Lane}
use Rattle.dc_walk.proofs.Sighted.{on_odd, other_on, fault_on}
use Rattle.dc_walk.proofs.Walked.{rested}

pub not_whole : {e : Extent} → e ≡ Head → e ≡ Whole → ⊥
not_whole is whole = let same : Head ≡ Whole = sym is ∙ whole in absurd cc

on_read : {v w : View} (row count : ℕ) (words : List ℕ) → w ≡ probed v row count words → GoesOn v w
on_read {v = v} row count words e = subst (GoesOn v) (sym e) (record {
  notes = fresh_note row count words ∷ [];
  noted = refl;
  more = [];
  faults = sym (append-nil v.faults);
  same = record { call = refl; book = refl; first_load = refl };
})

module _ {f g : Rows} (s : SameRows f g) (out : StaysOut f.pass.now g.pass.now) (row : ℕ) where
  -- the row is odd
  pub looks_odd : now_in g ≡ faulted (now_in f) (Busy row) → LooksOn f g
  looks_odd now = record { same = s; untried = out.untried; on = on_odd row now }

  -- it was noted and read
  pub looks_read : (count : ℕ) (words : List ℕ) → now_in g ≡ probed (now_in f) row count words → LooksOn f g
  looks_read count words now = record { same = s; untried = out.untried; on = on_read row count words now }

pub looked_none : (v : View) (first : ℕ) (key : Key) → Looked v first key None 0
looked_none v first key = record { odd_row = tt; others = λ j l. absurd (omega arith) }

pub looked_other : {v w : View} {first : ℕ} {key : Key} (odd : Option ℕ) (k : ℕ) → Looked v first key odd k → GoesOn v w → IsOther w (first + k) key → Looked w first key odd (k + 1)
looked_other (Some row) k l on other = record { odd_row = fault_on on l.odd_row; others = tt }
looked_other {w = w} {first = first} {key = key} None k l on other = record { odd_row = tt; others = below_more (λ j. IsOther w (first + j) key) k (λ j h. other_on on (l.others j h)) other }

pub looked_odd : {v w : View} {first : ℕ} {key : Key} (odd : Option ℕ) (row k : ℕ) → Looked v first key odd k → GoesOn v w → Contains w.faults (Busy row) → Looked w first key (option_or odd (Some row)) (k + 1)
looked_odd (Some r) row k l on is = record { odd_row = fault_on on l.odd_row; others = tt }
looked_odd None row k l on is = record { odd_row = is; others = tt }

-- a row that was found by a second look, after which rows are read whole
module _ (f g : Rows) (key : Key) (lane : Lane) (earlier : ℕ) (slow : g.slow ≡ f.slow) (early : spent f + earlier ≤ BUCKET_ROWS) where
  slowed : IsFinding g earlier → IsFinding (record g { slow = true }) 0
  slowed is =
      let same : spent g ≡ spent f = ap (λ b. if b then BUCKET_ROWS else 0) slow in
      record { can = is.can; walk = rested (BUCKET_ROWS + 0) (omega arith) is.walk; made = is.made; call = is.call; spelled = is.spelled; inside = is.inside; held = is.held; few = is.few }

  pub answers_whole : (r : Result ℕ (Option ℕ)) → IfOk r (AnswersIn f key g lane earlier) → IfOk r (AnswersIn f key (record g { slow = true }) lane 0)
  answers_whole (Ok at) a = let s = a.answers in
      record { place = a.place; within = a.within; answers = record { finding = slowed s.finding; standing = s.standing; use_of = s.use_of; uses = s.uses; of_row = s.of_row; keeps = s.keeps } }
  answers_whole (Err odd) a = tt
