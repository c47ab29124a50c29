use Rattle.std.proofs.Common.{eqb, arith, w8}
use Rattle.std.proofs.lemmas.Bool.{eqb-true, eq-eqb}
use Rattle.std.proofs.lemmas.Nat.{one_shl}
use Rattle.std.proofs.lemmas.Simd.{bitmask_splat}
use Rattle.dc_row.proofs.Lanes.{zeros_tell}
use Rattle.dc_row.proofs.entry.has_bytes.Goals as goal

pub returns : goal.returns
returns c =
    let mask = bitmask_splat w8 eqb c.args.bytes 8 0 c.fits-bytes.0 (omega arith) in
    let bit = one_shl c.args.len 64 (omega arith) in
    let tells = zeros_tell c.args.bytes c.args.len c.fits-bytes.0 c.requires.fits in (
      λ yes. tells.0 (omega (arith, mask, bit, eqb-true _ _ yes)),
      λ ends. eq-eqb _ _ (omega (arith, mask, bit, tells.1 ends)),
    )
