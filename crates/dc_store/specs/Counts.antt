-- How many names a file or link has, or how many entries stand in a directory.
use Rattle.std.specs.Prelude.{ℕ, option_map, unwrap_or}
use Rattle.dc_plain.specs.Reads.{count_at}
use Rattle.dc_plain.specs.Trees.{Tree, target_at}

-- 0 if nothing lives
abbrev pub count_of : Tree → ℕ → ℕ
count_of t n = unwrap_or (option_map (count_at t) (target_at t n)) 0
