-- What a key with its hash stands for.
use Rattle.dc_plain.specs.Facts.{Key}
use Rattle.dc_plain.specs.KeysShown.{key_shown}
use Rattle.dc_index.specs.declared.hashed.HashedKey.{HashedKey}

-- the key
abbrev pub key_in : HashedKey → Key
key_in hashed = key_shown hashed.key
