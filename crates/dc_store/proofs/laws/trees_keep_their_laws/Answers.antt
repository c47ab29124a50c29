use Rattle.dc_store.proofs.laws.trees_keep_their_laws.Goals as goal

pub returns : goal.returns
returns c =
    let keeps = c.effects_keep_trees_well_formed.ensures in
    let changes = c.effects_change_what_they_name.ensures in
    let living = c.names_lead_to_the_living.ensures in record {
      new_keeps = keeps.new;
      further_keeps = keeps.further;
      lost_keeps = keeps.lost;
      move_keeps = keeps.moved;
      swap_keeps = keeps.swapped;
      new = changes.new;
      further = changes.further;
      lost = changes.lost;
      move = changes.moved;
      swap = changes.swapped;
      names = living.names;
      next = living.next;
    }
