-- When calls took effect, and in which phases they were made.
use Rattle.std.specs.Prelude.{ℕ, ◌<◌, ◌≤◌, List, Contains}

-- a call that took effect: its phase, its point, and the least point that a call after it may have
pub record Span : Type 0 where
  pub phase : ℕ
  pub at : ℕ
  pub end : ℕ

-- each call took effect behind those of the earlier phases
abbrev pub InPhases : List Span → Type 0
InPhases spans = (a b : Span) → Contains spans a → Contains spans b → a.phase < b.phase → a.end ≤ b.at
