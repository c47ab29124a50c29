-- The sizes that a table may have.
use Rattle.std.specs.Prelude.{ℕ, Bool, ◌&&◌, nat_le}
use Rattle.std.specs.Int.{is_power_of_two}
use Rattle.dc_names.specs.declared.limits.TheConstants.{MOST_TABLE_BUCKETS, MOST_TABLE_INODES}

-- the buckets are a power of two from 1 to `MOST_TABLE_BUCKETS`, and from 1 to `MOST_TABLE_INODES` inodes may live
abbrev pub fit_a_table : ℕ → ℕ → Bool
fit_a_table buckets inodes =
    nat_le 1 buckets && nat_le buckets MOST_TABLE_BUCKETS && is_power_of_two buckets
    && nat_le 1 inodes && nat_le inodes MOST_TABLE_INODES
