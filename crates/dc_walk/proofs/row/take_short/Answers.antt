use Rattle.std.proofs.Common.{◌≡◌, ℕ, ◌+◌, ◌≤◌, List, [], ◌∷◌, ◌++◌, take, length, refl, ap, ap₂, sym, ◌∙◌, arith}
use Rattle.dc_plain.specs.Facts.{label_bytes}
use Rattle.dc_plain.specs.KeysShown.{key_shown}
use Rattle.dc_row.specs.Narrow.{told_words, widened}
use Rattle.dc_row.specs.Spelling.{TellsOf}
use Rattle.dc_walk.specs.Probes.{row_of}
use Rattle.dc_walk.specs.Rooms.{Used}
use Rattle.dc_walk.proofs.Rooms.{short_take}
use Rattle.dc_walk.proofs.Shorts.{first_eight, has_head, has_text, is_text, row_size, short_entry, short_size, text_of_key}
use Rattle.dc_walk.proofs.row.take_short.Goals as goal
use Rattle.dc_walk.proofs.row.take_short.Goals.{then-not-is_its-via-then-not-is_its, then-not-is_its-via-else-not-is_its+then-not-leads}

pub returns-then-not-is_its-clause-takes : goal.returns-then-not-is_its-clause-takes
returns-then-not-is_its-clause-takes c v t =
    let key = key_shown c.args.key in let top = c.args.noted.top in let text = c.args.words.now in let value = c.in-Some.value in
    let bytes = c.bytes-text.ensures in let entry = short_entry key.label c.requires.short in
    let first = c.requires.spelled.first c.requires.short in let past = c.requires.spelled.past c.requires.short in
    let s = c.in-Some.ensures.read v t in let words = row_of top value s.rest in (
      words,
      record { size = row_size top value s.rest s.size; read = s.read },
      λ tells.
          let has = c.rows_have_their_text.ensures words key tells entry in
          let its = s.its.1 (is_text top value s.rest (label_bytes key.label) text s.size first past has) in
          elim c.then-not-is_its.branch [ then-not-is_its-via-then-not-is_its w ↦ (let no = w.if-not-is_its.true in absurd cc) | then-not-is_its-via-else-not-is_its+then-not-leads w ↦ (let yes = (w.leads.ensures words (has_head top value s.rest s.size) has entry).1 tells in let no = w.if-not-leads.true in absurd cc) ],
      refl,
      refl,
    )

pub returns-clause-takes : goal.returns-clause-takes
returns-clause-takes c v t =
    let key = key_shown c.args.key in let top = c.args.noted.top in let text = c.args.words.now in let value = c.in-Some.value in
    let bytes = c.bytes-text.ensures in let entry = short_entry key.label c.requires.short in
    let first = c.requires.spelled.first c.requires.short in let past = c.requires.spelled.past c.requires.short in
    let s = c.in-Some.ensures.read v t in let words = row_of top value s.rest in
    let is = s.its.0 c.if-not-is_its.false in
    let has = has_text top value s.rest (label_bytes key.label) text s.size first past is in
    let tells : TellsOf words key = (c.leads.ensures words (has_head top value s.rest s.size) has entry).0 c.if-not-leads.false in
    let law = c.rows_end_in_zeros.ensures words tells.fact tells.spelled in let size = law.size in
    let n = 4 + c.div_ceil.result in let next = c.put.new.self.next in
    let long : length c.bytes-text.result.now ≡ length (label_bytes key.label) = ap (λ (bs : List ℕ). length bs) bytes in
    let told : n ≡ told_words words = (let of_key = ap (λ (bs : List ℕ). length bs) (text_of_key tells.fact key tells.about entry) in let up = c.div_ceil.ensures in omega arith) in
    let few : n ≤ 8 = (let up = c.div_ceil.ensures in let short = short_size key.label c.requires.short in omega arith) in
    let same : take n next ≡ take n words =
    sym (short_take n 8 next few) ∙ ap (λ (ws : List ℕ). take n ws) (c.put.ensures.first ∙ sym (first_eight top value text s.rest s.size is)) ∙ short_take n 8 words few in
    let whole : widened (take n next) ≡ words = ap (λ (ws : List ℕ). widened ws) (same ∙ ap (λ (k : ℕ). take k words) told) ∙ law.zeros in (
      words,
      record { size = row_size top value s.rest s.size; read = s.read },
      tells,
      c.keep.ensures.kept ∙ ap₂ (λ (us : List Used) (ws : List ℕ). us ++ record { row = c.args.noted.row; place = c.args.noted.place; words = ws } ∷ []) c.put.ensures.same.0 whole,
      c.keep.ensures.spent ∙ ap₂ (λ (a b : ℕ). a + b) c.put.ensures.same.1 told,
      c.keep.ensures.last ∙ ap (λ (us : List Used). length us) c.put.ensures.same.0,
    )
