-- A room into which a text is copied.
use Rattle.std.proofs.Common.{◌≡◌, ℕ, ◌-◌, ◌≤◌, ◌++◌, List, length, drop, replicate, sym, ap, ◌∙◌, arith}
use Rattle.std.proofs.Math.Seq.{take-append_seam}
use Rattle.std.proofs.lemmas.Grind.{common_steps}
use Rattle.std.proofs.lemmas.List.{drop-replicate}
use Rattle.dc_row.specs.Rooms.{IsPadded, padded}
use Rattle.dc_names.specs.declared.limits.TheConstants.{ROW_TEXT}
use Rattle.dc_row.specs.declared.TheConstants.{ROW_ROOM}

pub filled : (bytes part : List ℕ) → part ≡ bytes → length bytes ≤ ROW_TEXT → IsPadded (record { room = part ++ drop (length bytes) (replicate ROW_ROOM 0); len = length bytes })
filled bytes part is fits =
    let left : drop {A = ℕ} (length bytes) (replicate ROW_ROOM 0) ≡ replicate (ROW_ROOM - length bytes) 0 = drop-replicate _ _ _ in
    rw is (record {
      fits = fits;
      size = rw left (grind (arith, common_steps));
      zeros = ap padded (take-append_seam bytes _) ∙ ap (λ (z : List ℕ). bytes ++ z) (sym left);
    })
