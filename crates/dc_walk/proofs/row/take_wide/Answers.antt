use Rattle.std.proofs.Common.{ℕ, ◌+◌, ◌<◌, List, [], ◌∷◌, ◌++◌, take, length, ap, ap₂, sym, ◌∙◌, subst}
use Rattle.dc_plain.specs.KeysShown.{key_shown}
use Rattle.dc_row.specs.Narrow.{told_words, widened}
use Rattle.dc_row.specs.Spelling.{TellsOf}
use Rattle.dc_table.specs.Passes.{view}
use Rattle.dc_walk.specs.Rooms.{Used}
use Rattle.dc_names.specs.declared.limits.TheConstants.{MOST_USED}
use Rattle.dc_walk.specs.Probes.{top_of}
use Rattle.dc_walk.proofs.Probed.{first_three, top_read}
use Rattle.dc_walk.proofs.Rooms.{has_room_for, key_size}
use Rattle.dc_walk.proofs.Wides.{told_wide, wide_so}
use Rattle.dc_walk.proofs.row.take_wide.Goals.{then-not-is_narrow-via-then-not-is_narrow, then-not-is_narrow-via-else-not-is_narrow+then-not-tells_by_first}
use Rattle.dc_walk.proofs.row.take_wide.Goals as goal

pub read_rest-is_narrow-requires-clause-reading : goal.read_rest-is_narrow-requires-clause-reading
read_rest-is_narrow-requires-clause-reading c = let r = c.requires.on.reading in let t = top_of c.args.room.now.next in record {
  before = r.before;
  early = r.early;
  has = top_read r.before (view c.args.pass.now) c.args.at.row t.count t.head t.number c.args.room.now.next c.next.ensures.size (first_three c.args.room.now.next c.next.ensures.size) r.read;
}

pub keep-requires : goal.keep-requires
keep-requires c = let key = key_shown c.args.key in let r = c.requires.on.reading in let t = top_of c.args.room.now.next in let e = c.read_rest-is_narrow.ensures in let first = first_three c.args.room.now.next c.next.ensures.size in
    let wide = wide_so c.args.room.now.next c.read_rest-is_narrow.new.self.next (c.told_words-told.ensures.told ∙ ap told_words c.next.ensures.words) e.top c.told_words-told.ensures.few e.size (e.read r.before (top_read r.before (view c.args.pass.now) c.args.at.row t.count t.head t.number c.args.room.now.next c.next.ensures.size first r.read)) in
    let tells : TellsOf wide.words key = subst (λ (ws : List ℕ). TellsOf ws key) (ap (λ (ws : List ℕ). widened (take c.told_words-told.result ws)) c.next-else-not-is_narrow.ensures.words ∙ wide.narrow_is.0 c.if-not-is_narrow.false) (c.tells_by_first.ensures.0 c.if-not-tells_by_first.false) in record {
      some = subst (λ (us : List Used). length us < MOST_USED) (sym (e.items.0)) c.requires.place.some;
      told = c.told_words-told.ensures.few;
      fits = has_room_for (told_words wide.words) _ _ key (e.items.1) wide.count (key_size c.rows_end_in_zeros.ensures key tells) c.requires.place;
    }

pub returns-then-not-is_narrow-clause-takes : goal.returns-then-not-is_narrow-clause-takes
returns-then-not-is_narrow-clause-takes c v h = let key = key_shown c.args.key in let t = top_of c.args.room.now.next in let e = c.read_rest-is_narrow.ensures in let first = first_three c.args.room.now.next c.next.ensures.size in
    let wide = wide_so c.args.room.now.next c.read_rest-is_narrow.new.self.next (c.told_words-told.ensures.told ∙ ap told_words c.next.ensures.words) e.top c.told_words-told.ensures.few e.size (e.read v (top_read v (view c.args.pass.now) c.args.at.row t.count t.head t.number c.args.room.now.next c.next.ensures.size first h)) in (
      wide.words,
      wide.whole,
      λ tells. let same = told_wide c.rows_end_in_zeros.ensures wide tells in let narrow = wide.narrow_is.1 same in elim c.then-not-is_narrow.branch [
        | then-not-is_narrow-via-then-not-is_narrow w ↦ (let other = w.if-not-is_narrow.true in absurd cc)
        | then-not-is_narrow-via-else-not-is_narrow+then-not-tells_by_first w ↦
            (let yes = w.tells_by_first.ensures.1 (subst (λ (ws : List ℕ). TellsOf ws key) (sym (ap (λ (ws : List ℕ). widened (take c.told_words-told.result ws)) w.next-else-not-is_narrow.ensures.words ∙ same)) tells) in let other = w.if-not-tells_by_first.true in absurd cc)
      ],
      e.items.0,
      e.items.1,
    )

pub returns-clause-takes : goal.returns-clause-takes
returns-clause-takes c v h = let key = key_shown c.args.key in let t = top_of c.args.room.now.next in let e = c.read_rest-is_narrow.ensures in let first = first_three c.args.room.now.next c.next.ensures.size in
    let wide = wide_so c.args.room.now.next c.read_rest-is_narrow.new.self.next (c.told_words-told.ensures.told ∙ ap told_words c.next.ensures.words) e.top c.told_words-told.ensures.few e.size (e.read v (top_read v (view c.args.pass.now) c.args.at.row t.count t.head t.number c.args.room.now.next c.next.ensures.size first h)) in
    let same = wide.narrow_is.0 c.if-not-is_narrow.false in (
      wide.words,
      wide.whole,
      subst (λ (ws : List ℕ). TellsOf ws key) (ap (λ (ws : List ℕ). widened (take c.told_words-told.result ws)) c.next-else-not-is_narrow.ensures.words ∙ same) (c.tells_by_first.ensures.0 c.if-not-tells_by_first.false),
      c.keep.ensures.kept ∙ ap₂ (λ (us : List Used) (ws : List ℕ). us ++ record { row = c.args.at.row; place = c.args.at.place; words = ws } ∷ []) (e.items.0) same,
      c.keep.ensures.spent ∙ ap₂ (λ (a b : ℕ). a + b) (e.items.1) wide.count,
      c.keep.ensures.last ∙ ap (λ (us : List Used). length us) (e.items.0),
    )
