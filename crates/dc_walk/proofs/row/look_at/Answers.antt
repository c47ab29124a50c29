use Rattle.std.proofs.Common.{◌∷◌, [], get_or, drop, refl, subst, arith}
use Rattle.dc_walk.specs.Filters.{MayHold}
use Rattle.dc_walk.specs.Findings.{now_in}
use Rattle.dc_walk.specs.Seeks.{key_in}
use Rattle.dc_walk.proofs.Lookings.{looks_odd, looks_read}
use Rattle.dc_walk.proofs.Probed.{rest_size}
use Rattle.dc_walk.proofs.Seats.{stays_again, walker_still}
use Rattle.dc_walk.proofs.Sighted.{failed_odd, failed_read, other_so, same_step, took}
use Rattle.dc_walk.proofs.row.look_at.Goals.{in-Head-2, in-Whole}
use Rattle.dc_walk.proofs.row.look_at.Goals as goal

pub read_top-requires-clause-early : goal.read_top-requires-clause-early
read_top-requires-clause-early c = let w = c.requires.may.finding.walk in record { busy = w.busy; fresh = w.early }

pub take_in-requires-clause-on : goal.take_in-requires-clause-on
take_in-requires-clause-on c = let is = c.requires.may.finding in let e = c.in-Some.ensures in record {
  walker = walker_still is.can.fits c.requires.row e.same;
  reading = record { before = now_in c.args.rows.now; early = record { busy = is.walk.busy; fresh = is.walk.early }; read = e.read };
}

pub returns-in_default : goal.returns-in_default
returns-in_default c = let out = c.in_default.ensures.same in let same = out.same in record {
  on = looks_odd (same_step refl refl refl refl refl same) out c.args.row c.in_default.ensures.odd;
  slow = refl;
  saw = failed_odd c.args.row (key_in c.args.sought.now) c.args.earlier c.args.before (same_step refl refl refl refl refl same) out refl c.requires.may.finding refl c.in_default.ensures.odd refl refl refl;
}

pub returns-in-Head : goal.returns-in-Head
returns-in-Head c = let top = c.in-Some.top in let out = c.in-Some.ensures.same in let same = out.same in record {
  on = looks_read (same_step refl refl refl refl refl same) out c.args.row top.count (top.head ∷ top.number ∷ []) c.in-Some.ensures.read;
  slow = refl;
  saw = (failed_read c.args.row (key_in c.args.sought.now) c.args.earlier c.args.before (same_step refl refl refl refl refl same) out refl c.requires.may.finding top.count (top.head ∷ top.number ∷ []) (omega arith) refl c.in-Some.ensures.read refl refl refl, c.in-Head.is);
}

pub returns-in-Other : goal.returns-in-Other
returns-in-Other c = let out = stays_again c.in-Some.ensures.same c.in-Other.ensures.same in let same = out.same in
    let taken = c.in-Other.ensures.takes (now_in c.args.rows.now) c.in-Some.ensures.read in let words = taken.0 in let whole = taken.1 in let size = rest_size words whole.size in record {
      on = looks_read (same_step refl refl refl refl refl same) out c.args.row (get_or words 0 0) (drop 1 words) whole.read;
      slow = refl;
      saw = (failed_read c.args.row (key_in c.args.sought.now) c.args.earlier c.args.before (same_step refl refl refl refl refl same) out refl c.requires.may.finding (get_or words 0 0) (drop 1 words) (omega arith) refl whole.read taken.3 taken.4 refl, other_so c.args.row words (key_in c.args.sought.now) whole taken.2);
    }

pub returns-in-Tells : goal.returns-in-Tells
returns-in-Tells c = let may = c.requires.may in let out = stays_again c.in-Some.ensures.same c.in-Tells.ensures.same in let same = out.same in
    let taken = c.in-Tells.ensures.takes (now_in c.args.rows.now) c.in-Some.ensures.read in let words = taken.0 in let whole = taken.1 in record {
      on = looks_read (same_step refl refl refl refl refl same) out c.args.row (get_or words 0 0) (drop 1 words) whole.read;
      slow = refl;
      saw = took c.args.row (key_in c.args.sought.now) c.args.earlier c.args.before (same_step refl refl refl refl refl same) out refl may.finding words
          c.words_have_the_fact_they_spell.ensures c.rows_end_in_zeros.ensures whole.size refl whole.read taken.2 c.in-Tells.at taken.5 taken.3 taken.4 c.requires.row
          c.add.ensures.kept (subst (MayHold _) c.args.sought.now.hashed c.add.ensures.added) c.requires.few may.place may.needed may.untold;
    }

pub returns-in-Left : goal.returns-in-Left
returns-in-Left c = let out = stays_again c.in-Some.ensures.same c.in-Left.ensures.same in let same = out.same in
    let left = c.in-Left.ensures.takes (now_in c.args.rows.now) c.in-Some.ensures.read in let brief = left.0 in let less = left.1 in let few = less.few in record {
      on = looks_read (same_step refl refl refl refl refl same) out c.args.row less.count less.words less.read;
      slow = refl;
      saw = (failed_read c.args.row (key_in c.args.sought.now) c.args.earlier c.args.before (same_step refl refl refl refl refl same) out refl c.requires.may.finding less.count less.words (omega arith) refl less.read left.2 left.3 refl, elim c.match-extent.branch [ in-Head-2 w ↦ w.in-Head-2.is | in-Whole w ↦ (let no = w.brief-is in absurd cc) ]);
    }
