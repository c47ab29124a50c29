-- The flags of a rename by their names, for worked rows.
use Rattle.std.proofs.Common.{true, false}
use Rattle.dc_plain.specs.declared.call.Flags.{Flags}

abbrev pub plain : Flags
plain = record { no_replace = false; exchange = false }

abbrev pub unreplacing : Flags
unreplacing = record { no_replace = true; exchange = false }

abbrev pub exchanging : Flags
exchanging = record { no_replace = false; exchange = true }

abbrev pub both_flags : Flags
both_flags = record { no_replace = true; exchange = true }
