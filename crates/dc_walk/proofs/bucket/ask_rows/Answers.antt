use Rattle.std.proofs.Common.{rules, arith, ◌≡◌, true, false, ◌+◌, ◌<◌, refl, sym, ◌∙◌, subst}
use Rattle.dc_table.specs.Passes.{share}
use Rattle.dc_walk.specs.Causes.{Looked}
use Rattle.dc_walk.specs.Findings.{IsFinding, now_in}
use Rattle.dc_walk.specs.Seeks.{key_in}
use Rattle.dc_walk.specs.Sights.{Fails, LookedWhole}
use Rattle.dc_walk.specs.declared.probe.Extent.TheVariants.{Whole}
use Rattle.dc_walk.proofs.Seats.{row_still}
use Rattle.dc_walk.proofs.Sighted.{looks_again, looks_still, seek_still}
use Rattle.dc_walk.proofs.Lookings.{looked_none, looked_other, looked_odd, not_whole}
use Rattle.dc_walk.proofs.bucket.ask_rows.Goals.{in-Odd, in-Other, in-Left}
use Rattle.dc_walk.proofs.bucket.ask_rows.Goals as goal

pub loop-k-init : goal.loop-k-init
loop-k-init c = record {
  on = looks_still c.args.rows.now;
  slow = refl;
  used = refl;
  spent = refl;
  finding = let none : c.args.earlier ≡ c.args.earlier + 0 = omega arith in subst (IsFinding c.args.rows.now) none c.requires.may.finding;
  looked = λ none. looked_none (now_in c.args.rows.now) c.args.lane.first (key_in c.args.sought.now);
  whole = λ w. refl;
}

pub look_at-requires-clause-may : goal.look_at-requires-clause-may
look_at-requires-clause-may c = let i = c.loop-k.invariant in seek_still i.on.same i.used (key_in c.args.sought.now) (c.args.earlier + c.loop-k.k) i.spent i.finding c.requires.may

pub look_at-requires-clause-row : goal.look_at-requires-clause-row
look_at-requires-clause-row c =
    let inside : c.args.lane.first + c.loop-k.k < (share c.args.rows.now.pass.now).rows = omega (arith, c.requires.lies.within, c.loop-k-test.true) in
    row_still inside c.loop-k.invariant.on.same.same_pass

pub returns-in-Tells-clause-tells : goal.returns-in-Tells-clause-tells
returns-in-Tells-clause-tells c = record { place = c.loop-k.k; within = c.loop-k-test.true; answers = search rules }

pub loop-k-preserved : goal.loop-k-preserved
loop-k-preserved c =
    let i = c.loop-k.invariant in let e = c.look_at.ensures in
    let key = key_in c.args.sought.now in
    let now = now_in c.look_at.new.rows in let next = c.loop-k.k + 1 in let odd = c.match-look_at.odd in let left = c.match-look_at.left in
    let more : Fails c.loop-k.rows key c.look_at.new.rows (c.args.earlier + next) × LookedWhole now c.args.lane.first key left next odd × (c.args.extent ≡ Whole → left ≡ false)
    = elim c.match-look_at.branch [
      | in-Odd w ↦ let saw = w.in-Odd.ensures.saw in (saw.0, λ none. subst (λ o. Looked now c.args.lane.first key o next) (sym (w.odd-is ∙ w.or-odd.ensures)) (looked_odd c.loop-k.odd (c.args.lane.first + c.loop-k.k) c.loop-k.k (i.looked (sym w.left-is ∙ none)) e.on.on saw.1), λ whole. w.left-is ∙ i.whole whole)
      | in-Other w ↦ let saw = w.in-Other.ensures.saw in (saw.0, λ none. subst (λ o. Looked now c.args.lane.first key o next) (sym w.odd-is) (looked_other c.loop-k.odd c.loop-k.k (i.looked (sym w.left-is ∙ none)) e.on.on saw.1), λ whole. w.left-is ∙ i.whole whole)
      | in-Left w ↦ let saw = w.in-Left.ensures.saw in (saw.0, λ none. absurd (let was : true ≡ false = sym w.left-is ∙ none in absurd cc), λ whole. absurd (not_whole saw.1 whole))
    ] in
    record {
      on = looks_again i.on e.on;
      slow = e.slow ∙ i.slow;
      used = more.0.used ∙ i.used;
      spent = more.0.spent ∙ i.spent;
      finding = more.0.finding;
      looked = more.1;
      whole = more.2;
    }
