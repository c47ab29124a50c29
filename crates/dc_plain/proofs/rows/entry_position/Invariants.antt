use Rattle.std.proofs.Common.{◌≡◌, ◌+◌, ◌-◌, ◌≤◌, length, map, drop}
use Rattle.dc_plain.specs.Trees.{spot_cmp}
use Rattle.dc_plain.specs.Plain.{entry_shown, position_by}
use Rattle.dc_plain.proofs.rows.entry_position.Given as goal

abbrev pub invariant-entries : goal.invariant-entries
invariant-entries l =
    let against = spot_cmp (record { dir = l.dir; name = l.name }) in
    record {
      within : l.at ≤ length l.entries;
      rest : l.at + position_by against (map entry_shown (drop l.at l.entries)) ≡ position_by against (map entry_shown l.entries);
    }

abbrev pub decreases-entries : goal.decreases-entries
decreases-entries l = length l.entries - l.at
