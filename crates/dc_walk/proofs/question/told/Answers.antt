use Rattle.std.proofs.Common.{◌≡◌, Bool, true, false, IsTrue, sym, ◌∙◌, subst}
use Rattle.dc_plain.specs.KeysShown.{key_shown}
use Rattle.dc_walk.specs.Filters.{MayHold}
use Rattle.dc_walk.proofs.Standing.{none_held}
use Rattle.dc_walk.proofs.question.told.Goals as goal
use Rattle.dc_walk.proofs.question.told.Goals.{then-may_hold+in_default, else-may_hold}

no_test : {b : Bool} → b ≡ false → IsTrue b → ⊥
no_test is held = let same : true ≡ false = sym held ∙ is in absurd cc

pub ask-requires-clause-may : goal.ask-requires-clause-may
ask-requires-clause-may g c = let f = c.args.rows.now in let is = c.requires.may.good.finding in record {
  good = c.requires.may.good;
  needed = c.requires.may.needed;
  untold = elim c.if-may_hold.branch [
    | then-may_hold+in_default w ↦ w.in_default.ensures.none
    | else-may_hold w ↦ none_held c.words_have_the_fact_they_spell.ensures f.used.now.items (key_shown c.args.key) f.filter is.spelled is.held (subst (λ h. MayHold f.filter h → ⊥) c.requires.hash (λ held. no_test w.if-may_hold.false (c.may_hold.ensures.1 held)))
  ];
}
