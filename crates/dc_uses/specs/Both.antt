-- What two calls leave in a pass.
use Rattle.std.specs.Prelude.{◌≡◌, ◌<◌, ◌≤◌, ◌++◌, ◌∷◌, [], Bool, true}
use Rattle.dc_cache.specs.Calls.{Request, Stamped, record_of}
use Rattle.dc_cache.specs.Passes.{view}
use Rattle.dc_cache.specs.declared.cache.Pass.{Pass}

-- the pass recorded these two calls alone, the second not before the first, and after it if the first altered the tree
pub record AnsweredBoth (p q : Pass) (first : Request) (a : Stamped) (second : Request) (b : Stamped) : Type 0 where
  pub altered : Bool
  pub altered_then : Bool
  pub own : (view q).book.own ≡ (view p).book.own ++ record_of first a altered ∷ record_of second b altered_then ∷ []
  pub joined : (view q).book.joined ≡ (view p).book.joined
  pub later : a.at ≤ b.at
  pub past : altered ≡ true → a.at < b.at
