use Rattle.std.proofs.Common.{◌≡◌, ℕ, [], ◌∷◌, Bool, refl, ap, sym, ◌∙◌, subst, arith}
use Rattle.dc_events.specs.Effects.{begins, faulted, noted}
use Rattle.dc_events.specs.Views.{View}
use Rattle.dc_events.specs.Views.Fault.{Busy}
use Rattle.dc_plain.specs.Requests.{Request}
use Rattle.dc_table.specs.Passes.{view}
use Rattle.dc_table.specs.Walking.{CanNote}
use Rattle.dc_walk.specs.Looks.{look_shown}
use Rattle.dc_walk.proofs.Probed.{can_go_on, goes_on}
use Rattle.dc_walk.proofs.Seats.{stays_again, walker_still}
use Rattle.dc_walk.proofs.probe.read_top.Goals as goal

-- it is noted for the question
noted_for : (first : Bool) (v : View) (row n : ℕ) {p : View} {q r : Request} → q ≡ r → p ≡ noted (begins first v q) row n → p ≡ noted (begins first v r) row n
noted_for first v row n same is = is ∙ ap (λ (x : Request). noted (begins first v x) row n) same

pub note-requires : goal.note-requires
note-requires c = let early = c.requires.early in record {
  can = (
    record { fits = c.requires.pass.0; idle = c.requires.pass.1; inside = c.requires.row },
    subst (CanNote c.args.first (view c.args.pass.now)) (sym c.call.ensures) (record { busy = early.busy; fresh = early.fresh }),
  );
}

pub read_word-head-requires : goal.read_word-head-requires
read_word-head-requires c = let v = begins c.args.first (view c.args.pass.now) (look_shown c.args.look) in let e = c.in-Ok.ensures in
    let none = noted_for c.args.first (view c.args.pass.now) c.args.row c.in-Ok.count c.call.ensures e.noted.1 in
    record { can = (walker_still c.requires.pass.0 c.requires.row e.same, can_go_on v c.args.row c.in-Ok.count [] none c.requires.early 1 refl (omega arith)) }

pub read_word-number-requires : goal.read_word-number-requires
read_word-number-requires c = let v = begins c.args.first (view c.args.pass.now) (look_shown c.args.look) in let e = c.in-Ok.ensures in let h = c.read_word-head in
    let none = noted_for c.args.first (view c.args.pass.now) c.args.row c.in-Ok.count c.call.ensures e.noted.1 in
    let one = goes_on v c.args.row c.in-Ok.count [] none (view h.new.pass) h.result h.ensures.view in
    record { can = (walker_still c.requires.pass.0 c.requires.row (stays_again e.same h.ensures.same), can_go_on v c.args.row c.in-Ok.count (h.result ∷ []) one c.requires.early 2 refl (omega arith)) }

pub returns-clause-read : goal.returns-clause-read
returns-clause-read c = let v = begins c.args.first (view c.args.pass.now) (look_shown c.args.look) in let h = c.read_word-head in let n = c.read_word-number in
    let none = noted_for c.args.first (view c.args.pass.now) c.args.row c.in-Ok.count c.call.ensures c.in-Ok.ensures.noted.1 in
    let one = goes_on v c.args.row c.in-Ok.count [] none (view h.new.pass) h.result h.ensures.view in
    goes_on v c.args.row c.in-Ok.count (h.result ∷ []) one (view n.new.pass) n.result n.ensures.view

pub returns-in_default-clause-odd : goal.returns-in_default-clause-odd
returns-in_default-clause-odd c = c.in_default.ensures.odd ∙ ap (λ (q : Request). faulted (begins c.args.first (view c.args.pass.now) q) (Busy c.args.row)) c.call.ensures
