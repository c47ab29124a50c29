use Rattle.std.proofs.Common.{◌≡◌, ℕ, ◌/◌, ◌%◌, None, Some, sym, subst, refl, arith}
use Rattle.std.proofs.lemmas.Bool.Decides.{nat_tests}
use Rattle.dc_names.specs.declared.kind.Kind.TheVariants.{Dir, File, Link}
use Rattle.dc_row.specs.Decoding.{target_by}
use Rattle.dc_row.specs.declared.layout.TheConstants.{KIND_UNIT, TAGS}
use Rattle.dc_row.proofs.Decoded.{target_told}
use Rattle.dc_row.proofs.reading.leads_to.Goals as goal

pub returns-in-1 : goal.returns-in-1
returns-in-1 c =
    let value = c.args.value in record { told = target_told c.args.head value (Some (value, Dir)) (subst (λ (k : ℕ). target_by k value ≡ Some (value, Dir)) (sym c.in-1.is) refl) }

pub returns-in-2 : goal.returns-in-2
returns-in-2 c =
    let value = c.args.value in record { told = target_told c.args.head value (Some (value, File)) (subst (λ (k : ℕ). target_by k value ≡ Some (value, File)) (sym c.in-2.is) refl) }

pub returns-in-3 : goal.returns-in-3
returns-in-3 c =
    let value = c.args.value in record { told = target_told c.args.head value (Some (value, Link)) (subst (λ (k : ℕ). target_by k value ≡ Some (value, Link)) (sym c.in-3.is) refl) }

pub returns-in_default : goal.returns-in_default
returns-in_default c =
    let other = c.in_default in
    let none : target_by (c.args.head / KIND_UNIT % TAGS) c.args.value ≡ None = grind (arith, nat_tests) in record { told = target_told c.args.head c.args.value None none }
