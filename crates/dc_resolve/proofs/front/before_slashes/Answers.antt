use Rattle.std.proofs.Common.{◌-◌, length, refl, ◌∙◌}
use Rattle.dc_resolve.proofs.Fronts.{begins_itself, begins_shorter, parts_before, valid_before}
use Rattle.dc_resolve.proofs.front.before_slashes.Goals as goal

pub slashes-preserved : goal.slashes-preserved
slashes-preserved c =
    let rest = c.slashes.rest.now in
    record {
      parts = parts_before rest c.in-len1-up.len_at_least c.if-byte-ne47.false ∙ c.slashes.invariant.parts;
      valid = valid_before rest c.in-len1-up.len_at_least c.if-byte-ne47.false ∙ c.slashes.invariant.valid;
      begins = begins_shorter rest c.args.bytes.now (length rest - 1) c.slashes.invariant.begins;
    }

pub slashes-init : goal.slashes-init
slashes-init c = record { parts = refl; valid = refl; begins = begins_itself c.args.bytes.now }
