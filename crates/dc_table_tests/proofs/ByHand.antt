-- A walk by hand: three notes, a pivot, and checks that no record ends, as those of a call that rows never answer.
use Rattle.std.proofs.Common.{◌≡◌, ℕ, zero, suc, ◌<◌, List, [], ◌∷◌, ◌++◌, Bool, true, false, Option, None, Result, Ok, Err, OnOk, IfErr, if◌then◌else◌, get_or, set, refl, ap, sym, ◌∙◌, subst, arith}
use mathlib.Core.Option.{some}
use lib.ListN.{get_elem?}
use Rattle.dc_plain.specs.Facts.{told_by}
use Rattle.dc_plain.specs.FactLaws.{answer_told}
use Rattle.dc_plain.specs.Requests.{Request, Answer}
use Rattle.dc_plain.specs.Requests.Request.{Stat}
use Rattle.dc_events.specs.Views.{View, Walk, Note}
use Rattle.dc_events.specs.Views.Fault.{Changed}
use Rattle.dc_events.specs.Rows.{IsWhole}
use Rattle.dc_events.specs.Walks.{no_note, walk_turned}
use Rattle.dc_events.specs.Noted.{facts_in}
use Rattle.dc_events.specs.Effects.{concluded, settled, turned, pivoted, marked, checked, faulted}
use Rattle.dc_table.specs.Walking.{CanCheck}
use Rattle.dc_walk.specs.Probes.{probed, fresh_note, walk_with}

none_either : (b : Bool) (found : Option Answer) → found ≡ None → (if b then found else None) ≡ None
none_either true found is = is
none_either false found is = refl

module _ (base : ℕ) (path : List ℕ) where
  unsettled : (v : View) → v.walk.call ≡ Stat base path → settled v ≡ v
  unsettled v call = ap (concluded v) (ap (λ (q : Request). if v.walk.busy then answer_told (told_by (facts_in v.walk.notes)) q else None) call ∙ none_either v.walk.busy None refl)

  abbrev flagged : Note → Bool → Note
  flagged x b = record x { checked = b }

  -- three notes of the call, whose pivot is made
  pub record Hand (x y z : Note) (w : View) : Type 0 where
    pub a : Bool
    pub b : Bool
    pub busy : w.walk.busy ≡ true
    pub late : w.walk.pivoted ≡ true
    pub call : w.walk.call ≡ Stat base path
    pub notes : w.walk.notes ≡ flagged x a ∷ flagged y b ∷ flagged z false ∷ []

  pub by_hand : (v s w : View) (x y : Note) (row g n : ℕ) (ws : List ℕ) → v.walk ≡ walk_with (Stat base path) (x ∷ y ∷ []) → s ≡ probed v row g ws → w ≡ pivoted s n → Hand x y (fresh_note row g ws) w
  by_hand v s w x y row g n ws before third turn =
      let z = fresh_note row g ws in
      let was : s.walk ≡ walk_with (Stat base path) (x ∷ y ∷ z ∷ []) = ap (λ (t : View). t.walk) third ∙ ap (λ (t : Walk). record t { notes = t.notes ++ z ∷ [] }) before in
      let settles = unsettled (turned s n) (ap (λ (t : Walk). t.call) was) in
      let is : w.walk ≡ walk_turned (walk_with (Stat base path) (x ∷ y ∷ z ∷ [])) n = ap (λ (t : View). t.walk) (turn ∙ settles) ∙ ap (λ t. walk_turned t n) was in record {
        a = x.checked;
        b = y.checked;
        busy = ap (λ (t : Walk). t.busy) is;
        late = ap (λ (t : Walk). t.pivoted) is;
        call = ap (λ (t : Walk). t.call) is;
        notes = ap (λ (t : Walk). t.notes) is;
      }

  module _ {x y z : Note} {w : View} (h : Hand x y z w) where
    can_hand : (i : ℕ) (ns : List Note) (k : Note) → w.walk.notes ≡ ns → get_elem? ns i ≡ some k → get_or ns i no_note ≡ k → IsWhole k → k.checked ≡ false → CanCheck w i k.row k.count
    can_hand i ns k is there got whole fresh =
        let here : get_or w.walk.notes i no_note ≡ k = ap (λ ms. get_or ms i no_note) is ∙ got in record {
          busy = h.busy;
          turned = h.late;
          there = ap (λ ms. get_elem? ms i) is ∙ there ∙ ap some (sym here);
          whole = subst IsWhole (sym here) whole;
          unchecked = ap (λ (m : Note). m.checked) here ∙ fresh;
          of_row = ap (λ (m : Note). m.row) here;
          counted = ap (λ (m : Note). m.count) here;
        }

    pub can_third : IsWhole z → CanCheck w 2 z.row z.count
    can_third whole = can_hand 2 (flagged x h.a ∷ flagged y h.b ∷ flagged z false ∷ []) (flagged z false) h.notes refl refl whole refl

    marks : (i : ℕ) → i < 2 → Hand x y z (marked w i)
    marks zero l = record { a = true; b = h.b; busy = h.busy; late = h.late; call = h.call; notes = ap (λ ns. set ns 0 (record (get_or ns 0 no_note) { checked = true })) h.notes }
    marks (suc zero) l = record { a = h.a; b = true; busy = h.busy; late = h.late; call = h.call; notes = ap (λ ns. set ns 1 (record (get_or ns 1 no_note) { checked = true })) h.notes }
    marks (suc (suc i)) l = absurd (omega arith)

    -- whatever a check found, the walk goes on
    pub after_check : (i row noted : ℕ) → i < 2 → (v : View) (found : Result (Unit {0}) (ℕ × ℕ)) → OnOk found (v ≡ checked w i) → IfErr found (λ e. (e.0 ≡ noted) × (noted < e.1) × (v ≡ faulted w (Changed row noted e.1))) → Hand x y z v
    after_check i row noted l v (Ok unit) is other = subst (Hand x y z) (sym (is ∙ unsettled (marked w i) h.call)) (marks i l)
    after_check i row noted l v (Err e) other is = subst (Hand x y z) (sym is.2) (record { a = h.a; b = h.b; busy = h.busy; late = h.late; call = h.call; notes = h.notes })
