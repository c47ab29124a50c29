-- The sizes that a cache may have.
use Rattle.std.specs.Prelude.{ℕ, Bool, ◌&&◌, nat_le}
use Rattle.std.specs.Int.{is_power_of_two}
use Rattle.dc_names.specs.declared.limits.TheConstants.{MOST_BUCKETS, MOST_INODES}

-- the buckets are a power of two from 1 to `MOST_BUCKETS`, and from 1 to `MOST_INODES` inodes may live
abbrev pub are_right : ℕ → ℕ → Bool
are_right buckets inodes =
    nat_le 1 buckets && nat_le buckets MOST_BUCKETS && is_power_of_two buckets
    && nat_le 1 inodes && nat_le inodes MOST_INODES
