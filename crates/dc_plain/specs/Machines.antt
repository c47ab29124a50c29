-- The slow machine as its callers see it: a plain tree, and how many inodes may live in it.
use Rattle.std.specs.Prelude.{ℕ}
use Rattle.dc_plain.specs.Trees.{Tree}

pub record Machine : Type 0 where
  pub tree : Tree
  pub limit : ℕ
