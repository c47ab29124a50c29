use Rattle.std.proofs.Common.{arith, refl, ap, sym, ◌∙◌, ◌<◌, not, ℕ, length, map, subst}
use Rattle.dc_events.specs.Effects.{begins, pivoted}
use Rattle.dc_table.specs.Passes.{share, view}
use Rattle.dc_table.specs.Shares.{Share}
use Rattle.dc_walk.specs.Looks.{look_shown}
use Rattle.dc_walk.specs.Finds.{use_shown}
use Rattle.dc_walk.specs.Rooms.{no_use}
use Rattle.dc_walk.proofs.Checks.{begins_book, check_failed, check_more, first_check, may_check}
use Rattle.dc_walk.proofs.Seats.{fits_still, row_still, stays_again}
use Rattle.dc_walk.proofs.Standing.{inside_at}
use Rattle.dc_walk.proofs.Trues.{were_all, were_more, were_none}
use Rattle.dc_walk.proofs.settle.settle.Goals as goal

pub loop-c-init : goal.loop-c-init
loop-c-init c = let pivot = c.pivot-at.ensures in let look = c.args.look in let now = view c.args.pass.now in
    let seen = ap (λ b. b.seen) (begins_book (not c.args.begun) now (look_shown look)) in let past = pivot.later in record {
      fits = fits_still c.requires.pass.0 pivot.same.same;
      stays = pivot.same;
      reply = refl;
      later = omega arith;
      were = were_none c.args.used.now pivot.counts;
      checking = first_check c.words_have_the_fact_they_spell.ensures look.base look.path.bytes.now look.follow look.path.valid _ _ (map use_shown c.args.used.now.items) _ c.pivot-at.result c.requires.came
          (pivot.view ∙ ap (λ q. pivoted (begins (not c.args.begun) now q) c.pivot-at.result) c.call.ensures);
    }

pub check-requires : goal.check-requires
check-requires c = let i = c.loop-c.invariant in let items = c.args.used.now.items in let there : c.loop-c.c < length items = omega (arith, c.loop-c-test.true, c.len-c-end.ensures.many) in
    let inside = inside_at _ items c.loop-c.c no_use c.requires.rows there in record {
      can = (
        record { fits = i.fits; idle = i.stays.idle; inside = subst (λ (n : ℕ). n < (share c.loop-c.pass).rows) (sym c.row_at-row.ensures) (row_still inside i.stays.same) },
        may_check c.args.look items c.requires.came i.checking there c.place_at-place.ensures c.row_at-row.ensures c.count_at-count.ensures,
      );
    }

pub returns-in-Err-clause-settles : goal.returns-in-Err-clause-settles
returns-in-Err-clause-settles c = let i = c.loop-c.invariant in
    check_failed c.args.look c.args.used.now.items c.requires.came i.checking (omega (arith, c.loop-c-test.true, c.len-c-end.ensures.many)) c.in-Err.noted c.in-Err.found i.later c.in-Err.ensures.changed

pub loop-c-preserved : goal.loop-c-preserved
loop-c-preserved c = let i = c.loop-c.invariant in let e = c.in_default.ensures in record {
  fits = fits_still i.fits e.same.same;
  stays = stays_again i.stays e.same;
  reply = i.reply;
  later = i.later;
  were = were_more c.words_have_the_fact_they_spell.ensures i.were (ap (λ (s : Share). s.limit) i.stays.same.same_share) i.checking (omega (arith, c.loop-c-test.true, c.len-c-end.ensures.many)) c.place_at-place.ensures e.stood e.pivots;
  checking = check_more c.args.look c.args.used.now.items c.requires.came i.checking (omega (arith, c.loop-c-test.true, c.len-c-end.ensures.many)) c.words_have_the_fact_they_spell.ensures (view c.check.new.pass) c.place_at-place.ensures e.checked;
}

pub returns-clause-were : goal.returns-clause-were
returns-clause-were c = were_all c.loop-c.invariant.were (omega (arith, c.loop-c-test.false, c.len-c-end.ensures.many))
