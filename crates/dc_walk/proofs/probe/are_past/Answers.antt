use Rattle.std.proofs.Common.{◌≡◌, ℕ, List, [], ◌∷◌, ◌++◌, bit_or, get_or, length, length-append, length-take-le, take, refl, ap, ap₂, sym, ◌∙◌, append-nil, append_assoc, arith, rules}
use Rattle.std.proofs.lemmas.Bool.{eq-eqb, eqb-true}
use Rattle.std.proofs.lemmas.Nat.{le_or_l, le_or_r}
use Rattle.std.specs.Int.Bits.{or_zero_l}
use Rattle.dc_table.specs.Passes.{view}
use Rattle.dc_walk.specs.Probes.{probed, read_of}
use Rattle.dc_walk.proofs.Probed.{can_go_on, goes_on}
use Rattle.dc_walk.proofs.Seats.{fits_still, row_still, stays_again}
use Rattle.dc_walk.proofs.Shorts.{zero_more}
use Rattle.dc_walk.proofs.Wides.{read_size, seen_by_first}
use Rattle.dc_walk.proofs.probe.are_past.Goals as goal

pub read_word-past-requires : goal.read_word-past-requires
read_word-past-requires c = let i = c.loop-i.invariant in let r = c.requires.reading in let words = c.args.words.now in let from = c.args.from in
    let s = i.read r.before r.has in let size = s.size in let all = read_size words s.rest from r.has.size c.requires.some.0 c.requires.some.1 in record {
      can = (
        record { fits = i.fits; idle = i.stays.idle; inside = row_still c.requires.row i.stays.same },
        can_go_on r.before c.args.row (get_or words 0 0) (read_of words from ++ s.rest) s.read r.early c.loop-i.i (omega arith) (omega arith),
      );
    }

pub loop-i-init : goal.loop-i-init
loop-i-init c = let words = c.args.words.now in let from = c.args.from in record {
  fits = c.requires.pass.0;
  stays = search rules;
  read = λ v h. record {
    rest = [];
    size = omega arith;
    read = h.read ∙ ap (λ (ws : List ℕ). probed v c.args.row (get_or words 0 0) ws) (sym (append-nil (read_of words from)));
    zeros = (λ none i l. absurd (omega arith), λ all. refl);
  };
}

pub loop-i-preserved : goal.loop-i-preserved
loop-i-preserved c = let i = c.loop-i.invariant in let e = c.read_word-past.ensures in let words = c.args.words.now in let from = c.args.from in let w = c.read_word-past.result in let past = c.loop-i.past in record {
  fits = fits_still i.fits e.same.same;
  stays = stays_again i.stays e.same;
  read = λ v h. let s = i.read v h in let size = s.size in let more = length-append s.rest (w ∷ []) in let left = le_or_l past w in let right = le_or_r past w in record {
    rest = s.rest ++ w ∷ [];
    size = omega arith;
    read = goes_on v c.args.row (get_or words 0 0) (read_of words from ++ s.rest) s.read (view c.read_word-past.new.pass) w e.view ∙ ap (λ (ws : List ℕ). probed v c.args.row (get_or words 0 0) ws) (append_assoc (read_of words from) s.rest (w ∷ []));
    zeros = zero_more [] s.rest w s.zeros (
      λ q. (omega arith, omega arith),
      λ q. ap₂ bit_or q.0 q.1 ∙ or_zero_l 0,
    );
  };
}

pub returns-clause-read : goal.returns-clause-read
returns-clause-read c v h = let s = c.loop-i.invariant.read v h in let size = s.size in let words = c.args.words.now in let from = c.args.from in
    let done = c.loop-i-test.false in let end = c.loop-i.auto in
    let many = length-append (take from words) s.rest in let all = h.size in
    let short : length (take from words) ≡ from = length-take-le from words (omega arith) in record {
      rest = s.rest;
      size = omega arith;
      read = s.read ∙ seen_by_first v c.args.row from words s.rest c.requires.some.0 h.size;
      zeros = (λ yes. s.zeros.0 (eqb-true _ _ yes), λ none. eq-eqb _ _ (s.zeros.1 none));
    }
