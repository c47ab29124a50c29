-- What comes of a link.
use Rattle.std.proofs.Common.{◌≡◌, ℕ, zero, suc, ◌<◌, ◌-◌, List, ◌++◌, ◌&&◌, ◌||◌, Bool, Some, None, if◌then◌else◌, refl, arith}
use Rattle.dc_names.specs.Bytes.{is_empty}
use Rattle.dc_names.specs.Paths.{Part, parts_of, has_end_slash, begins_with_slash}
use Rattle.dc_names.specs.declared.refusal.Refusal.TheVariants.{TooManyLinks}
use Rattle.dc_plain.specs.declared.call.Follow.{Follow}
use Rattle.dc_plain.specs.Facts.{Target, Teller}
use Rattle.dc_plain.specs.Resolution.{resolve, over_parts, root}
use Rattle.dc_plain.specs.Resolution.Outcome.{Refused}
use Rattle.dc_resolve.specs.Walks.{following}

pub resolve_is : (teller : Teller) (how : Follow) (links : ℕ) (place : Target) (parts : List Part) (slash : Bool)
    → resolve teller how links place parts slash ≡ over_parts teller how (following teller how links) place parts slash
unfolding resolve following
resolve_is teller how zero place parts slash = refl
resolve_is teller how (suc links) place parts slash = refl

pub too_many : (teller : Teller) (how : Follow) (links : ℕ) (at : Target) (link : ℕ) (rest : List Part) (slash : Bool) → links ≡ 0 → following teller how links at link rest slash ≡ Some (Refused TooManyLinks)
unfolding following
too_many teller how zero at link rest slash e = refl
too_many teller how (suc links) at link rest slash e = absurd (omega arith)

pub with_told : (teller : Teller) (how : Follow) (links : ℕ) (at : Target) (link : ℕ) (rest : List Part) (slash : Bool) (text : List ℕ) → 0 < links → teller.text link ≡ Some text
    → following teller how links at link rest slash
    ≡ resolve teller how (links - 1) (if begins_with_slash text then root else at) (parts_of text ++ rest) (slash || is_empty rest && has_end_slash text)
unfolding following
with_told teller how zero at link rest slash text some e = absurd (omega arith)
with_told teller how (suc links) at link rest slash text some e =
    let same : suc links - 1 ≡ links = omega arith in
    rw (same, e) refl

-- without its text nothing
pub unfollowed : (teller : Teller) (how : Follow) (links : ℕ) (at : Target) (link : ℕ) (rest : List Part) (slash : Bool) → 0 < links → teller.text link ≡ None → following teller how links at link rest slash ≡ None
unfolding following
unfollowed teller how zero at link rest slash some none = absurd (omega arith)
unfollowed teller how (suc links) at link rest slash some none = rw none refl
