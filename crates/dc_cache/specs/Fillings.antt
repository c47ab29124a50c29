-- What a walk that fills rows makes of the guard.
use Rattle.std.specs.Prelude.{◌≡◌, IfSome}
use Rattle.std.proofs.Common.{refl, ap, ◌∙◌}
use Rattle.dc_plain.specs.Tellers.{Extends}
use Rattle.dc_plain.specs.Trees.{told_of}
use Rattle.dc_ops.specs.Same.{same_tells}
use Rattle.dc_rows.specs.Guards.{Keeps, rows_of, seat_of, kept_by}
use Rattle.dc_rows.specs.RowChanges.{SamePins}
use Rattle.dc_table.specs.Changes.{with_words, words_of}
use Rattle.dc_walk.specs.Placing.{AreTrue}
use Rattle.dc_cache.specs.declared.filler.Filler.{Filler}

-- it has written words of rows, and moved no pin; it has the same pass, and knows the same
pub record Fills (f g : Filler) : Type 0 where
  pub pass : g.guard.holder.pass.ghost_name ≡ f.guard.holder.pass.ghost_name
  pub keeps : Keeps f.guard g.guard
  pub pins : SamePins (rows_of f.guard) (rows_of g.guard)
  pub known : g.known ≡ f.known

pub fills_none : (f : Filler) → Fills f f
fills_none f = record {
  pass = refl;
  keeps = record {
    only = record { same = record { table = refl; id = refl; same_share = refl }; untried = record { tries = refl; got = refl; left = refl; past = refl }; holder = f.guard.holder.has_lock; only = refl };
    tree = record { tree = refl; clock = refl; same_limit = refl };
  };
  pins = λ row. refl;
  known = refl;
}

pub fills_more : (f g h : Filler) → Fills f g → Fills g h → Fills f h
fills_more f g h a b = record {
  pass = b.pass ∙ a.pass;
  keeps = record {
    only = record {
      same = record { table = b.keeps.only.same.table ∙ a.keeps.only.same.table; id = b.keeps.only.same.id ∙ a.keeps.only.same.id; same_share = b.keeps.only.same.same_share ∙ a.keeps.only.same.same_share };
      untried = record { tries = b.keeps.only.untried.tries ∙ a.keeps.only.untried.tries; got = b.keeps.only.untried.got ∙ a.keeps.only.untried.got; left = b.keeps.only.untried.left ∙ a.keeps.only.untried.left; past = b.keeps.only.untried.past ∙ a.keeps.only.untried.past };
      holder = b.keeps.only.holder;
      only = b.keeps.only.only ∙ ap (λ v. with_words v (words_of (seat_of h.guard))) a.keeps.only.only;
    };
    tree = record { tree = b.keeps.tree.tree ∙ a.keeps.tree.tree; clock = b.keeps.tree.clock ∙ a.keeps.tree.clock; same_limit = b.keeps.tree.same_limit ∙ a.keeps.tree.same_limit };
  };
  pins = λ row. b.pins row ∙ a.pins row;
  known = b.known ∙ a.known;
}

pub fills_keep : (f g : Filler) → Fills f g → Extends (told_of (kept_by f.guard).store) (told_of (kept_by g.guard).store)
fills_keep f g p = same_tells (kept_by f.guard).store (kept_by g.guard).store p.keeps.tree.tree

-- what the rows tell that it answers by is true of the tree
abbrev pub KnowsTruth : Filler → Type 0
KnowsTruth f = IfSome f.known (λ room. AreTrue (kept_by f.guard).store room.now)
